pub mod Numbers
pub mod Commands
pub mod Operands
pub mod Logs
