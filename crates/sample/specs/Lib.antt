pub mod Level
pub mod Judge
pub mod Word
pub mod Code
pub mod Shares
