pub mod HalfPel
