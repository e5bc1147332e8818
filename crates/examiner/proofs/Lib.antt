pub mod Leaving
pub mod Judging
pub mod Slices
pub mod Queries
pub mod Checkpoints
pub mod One
