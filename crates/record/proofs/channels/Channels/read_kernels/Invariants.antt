-- `record::Channels::read_kernels` meets its contract. The loop's invariant: the places below c hold their kernels.
use Rattle.std.proofs.Common.{ℕ, ◌≡◌, ◌<◌, length, get_or}
use Rattle.kernel.specs.declared.Kernel.TheVariants.{Linear}
use Rattle.record.specs.Channels.{kernel_of, kernel_in}
use Rattle.record.proofs.channels.Channels.read_kernels.Given as goal

abbrev pub invariant-loop-c : goal.invariant-loop-c
invariant-loop-c l = (length l.out ≡ length l.initial.out) × ((j : ℕ) → j < l.c → get_or l.out j Linear ≡ kernel_of (kernel_in l.self j))
