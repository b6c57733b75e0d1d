-- Facts on plain values that the functions' proofs cite. Another crate cites those of `Range` and `Promises`, as `Rattle.sample.proofs.Range`.
mod Scaled
mod Whole
mod Product
mod Nan
mod Reasons
pub mod Range
pub mod Promises
