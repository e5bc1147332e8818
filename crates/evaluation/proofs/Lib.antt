pub mod Decoding
pub mod Assignments
