pub mod Laws
pub mod One
pub mod Cases
