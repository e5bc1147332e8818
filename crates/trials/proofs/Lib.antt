pub mod Weighing
pub mod Trying
pub mod Legs
