pub mod Weight
pub mod Column
pub mod Tables
