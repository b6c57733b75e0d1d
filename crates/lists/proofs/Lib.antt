pub mod Slices
pub mod Values
