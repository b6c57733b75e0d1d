-- Laws that the functions' proofs and the promises cite. Another crate cites those of `Promises`.
mod Lengths
mod Pieces
mod Tables
mod Solved
pub mod Promises
