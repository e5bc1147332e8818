pub mod Answers
pub mod Values
pub mod Standing
