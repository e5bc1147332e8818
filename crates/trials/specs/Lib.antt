pub mod Facts
pub mod Legs
pub mod Weights
