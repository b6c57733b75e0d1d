mod Cases
pub mod Earliest
pub mod Cuts
pub mod Order
pub mod Least
pub mod Same
pub mod Joining
pub mod Reversal
pub mod Rounding
pub mod Bound
pub mod Finer
pub mod Scan
pub mod Forced
pub mod Table
pub mod Promises
