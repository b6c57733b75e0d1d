-- `record::Channels::judge_kernels` meets its contract. The loop's invariant: what is left to try from channel c on gives the reply.
use Rattle.std.proofs.Common.{ℕ}
use Rattle.reply.specs.Tries.{Tries}
use Rattle.reply.proofs.Answers.{Left}
use Rattle.record.specs.declared.channels.Channels.{Channels}
use Rattle.record.specs.Channels.{kernel_in}
use Rattle.record.specs.Tries.{kernel_tries}
use Rattle.record.proofs.channels.Channels.judge_kernels.Given as goal

abbrev pub here : Channels → ℕ → Tries
here ch c = kernel_tries (kernel_in ch c)

abbrev pub invariant-loop-c : goal.invariant-loop-c
invariant-loop-c l = Left (here l.self) 0 l.self.count l.c
