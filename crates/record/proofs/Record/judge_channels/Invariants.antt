-- `record::Record::judge_channels` meets its contract. The loop's invariant: what is left to try from channel c on gives the reply.
-- Assumes nothing.
use Prim.Native.Nat.{ℕ}
use mathlib.Core.List.{List}
use Rattle.reply.specs.Tries.{Tries}
use Rattle.reply.proofs.Answers.{Left}
use Rattle.record.specs.declared.channels.Channels.{Channels}
use Rattle.record.specs.Body.{judged_at}
use Rattle.record.specs.Tries.{sample_try}
use Rattle.record.proofs.Record.judge_channels.Given as goal

abbrev pub here : Channels → List ℕ → (i c : ℕ) → Tries
here ch body i c = sample_try (judged_at ch body i c) i

abbrev pub invariant-loop-c : goal.invariant-loop-c
invariant-loop-c l = Left (here l.self.asked.channels l.self.body.now l.at.0) 0 l.self.asked.channels.count l.c
