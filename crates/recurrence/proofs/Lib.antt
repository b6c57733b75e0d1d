pub mod Weight
pub mod Growing
pub mod Entries
pub mod Tables
