pub mod Cutting
pub mod Recurrence
pub mod Table
pub mod Costs
pub mod Limits
