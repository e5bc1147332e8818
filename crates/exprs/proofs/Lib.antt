-- What the proofs of several functions use, and what the crates above cite: Telling.
pub mod Steps
pub mod Telling
pub mod Sequences
pub mod Nested
