pub mod Limits
pub mod Kernel
pub mod Cost
pub mod Pairs
pub mod True
pub mod Channels
