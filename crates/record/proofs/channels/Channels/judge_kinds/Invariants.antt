-- `record::Channels::judge_kinds` meets its contract. The loop's invariant: what is left to try from channel c on gives the reply.
use Rattle.std.proofs.Common.{ℕ}
use Rattle.reply.specs.Facts.{◌is_above◌}
use Rattle.reply.specs.Tries.{Tries, try}
use Rattle.reply.proofs.Answers.{Left}
use Rattle.record.specs.declared.channels.Channels.{Channels}
use Rattle.record.specs.Limits.{most_kind}
use Rattle.record.specs.Channels.{kind_in}
use Rattle.record.proofs.channels.Channels.judge_kinds.Given as goal

abbrev pub here : Channels → ℕ → ℕ → Tries
here ch p c = try (kind_in ch c is_above most_kind) 24 p

abbrev pub invariant-loop-c : goal.invariant-loop-c
invariant-loop-c l = Left (here l.self l.place) 0 l.self.count l.c
