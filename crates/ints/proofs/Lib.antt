-- The laws that the proofs of several functions cite.
pub mod Ranges
pub mod Halves
