pub mod Limits
pub mod Lines
pub mod Tables
pub mod Printed
pub mod Written
pub mod Example
