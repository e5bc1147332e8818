pub mod Plans
pub mod Areas
