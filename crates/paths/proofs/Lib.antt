pub mod Statements
pub mod Left
pub mod Counting
pub mod Lists
pub mod Gathering
pub mod Pieces
pub mod Whole
pub mod Standing
