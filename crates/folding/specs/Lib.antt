pub mod Shape
pub mod Operation
