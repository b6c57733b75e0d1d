-- `Text::word` meets its contract. The loop's invariant: the bytes so far are put.
use Rattle.std.proofs.Common.{take}
use Rattle.text.specs.Text.{Grown}
use Rattle.text.proofs.Text.word.Given as goal

abbrev pub invariant-loop-b : goal.invariant-loop-b
invariant-loop-b l = Grown l.initial.self (take l.b-index l.s) l.self
