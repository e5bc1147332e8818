pub mod Loading
pub mod Compiling
pub mod Sighting
