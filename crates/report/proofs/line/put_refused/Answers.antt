-- `report::line::put_refused` meets its contract: one piece behind the other. Assumes nothing.
use Rattle.text.proofs.Pieces.{grown}
use Rattle.report.proofs.line.put_refused.Goals as goal

pub returns : goal.returns
returns c =
    grown c.word.ensures (grown c.put_reply.ensures.put (grown c.word-2.ensures (grown c.number.ensures.put c.byte.ensures)))
