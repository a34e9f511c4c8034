pub mod Voter
