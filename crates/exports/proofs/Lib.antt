pub mod Parts
pub mod One
