-- `segment::write_summaries` meets its contract. The loop's invariant: the first c summaries are written. Assumes nothing.
use mathlib.Core.Path.{◌≡◌}
use Rattle.segment.specs.Bytes.{put_first}
use Rattle.segment.proofs.write_summaries.Given as goal

abbrev pub invariant-loop-c : goal.invariant-loop-c
invariant-loop-c l = l.out ≡ put_first l.summaries l.c l.initial.out
