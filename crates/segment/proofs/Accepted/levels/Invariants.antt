-- `segment::Accepted::levels` meets its contract. The loop's invariant: the levels from the start to i are added.
-- Assumes nothing.
use mathlib.Core.Path.{◌≡◌}
use lib.Seq.{slice}
use Rattle.kernel.specs.Channels.{column}
use Rattle.kernel.specs.Pairs.{sum}
use Rattle.sample.specs.Level.{level}
use Rattle.record.specs.Body.{samples}
use Rattle.segment.proofs.Accepted.levels.Given as goal

abbrev pub invariant-loop-i : goal.invariant-loop-i
invariant-loop-i l =
    l.total ≡ sum level (slice l.start l.i (column l.channel (samples l.self.record.now.asked.channels l.self.record.now.body.now)))
