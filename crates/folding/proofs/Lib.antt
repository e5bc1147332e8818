pub mod View
pub mod Containing
pub mod Values
