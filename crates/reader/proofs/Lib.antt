-- What the proofs of several functions use, and what the crates above cite: Acceptance.
pub mod Listing
pub mod Entry
pub mod Acceptance
