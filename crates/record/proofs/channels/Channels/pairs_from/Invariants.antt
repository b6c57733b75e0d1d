-- `record::Channels::pairs_from` meets its contract. The loop's invariant: the pairs from channel c on are left.
use mathlib.Core.Path.{◌≡◌}
use Rattle.record.specs.Channels.{pairs_from}
use Rattle.record.proofs.channels.Channels.pairs_from.Given as goal

abbrev pub invariant-loop-c : goal.invariant-loop-c
invariant-loop-c l = l.pairs ≡ pairs_from l.fn.self l._c
