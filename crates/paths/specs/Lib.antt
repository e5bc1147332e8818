pub mod Walking
pub mod Gathering
