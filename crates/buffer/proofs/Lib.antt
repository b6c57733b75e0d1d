-- The laws of what is laid over a buffer. Another crate cites them as `Rattle.buffer.proofs.Laid`.
pub mod Laid
