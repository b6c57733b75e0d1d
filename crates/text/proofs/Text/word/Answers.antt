-- `Text::word` meets its contract: with each byte the text is one longer.
use Rattle.std.proofs.Common.{add-one}
use Rattle.std.proofs.Math.Seq.{take-suc}
use Rattle.text.proofs.Pieces.{grown}
use Rattle.text.proofs.Text.word.Goals as goal

pub loop-b-preserved : goal.loop-b-preserved
loop-b-preserved c =
    rw (add-one, take-suc c.args.s.now c.loop-b.b-index 0 c.loop-b-test.true) (grown c.loop-b.invariant c.byte.ensures)
