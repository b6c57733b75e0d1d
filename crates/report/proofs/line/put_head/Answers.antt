-- `report::line::put_head` meets its contract: one piece behind the other. Assumes nothing.
use Rattle.text.proofs.Pieces.{grown}
use Rattle.report.proofs.line.put_head.Goals as goal

pub returns : goal.returns
returns c =
    grown c.word.ensures (grown c.number.ensures.put (grown c.put_reply.ensures.put c.byte.ensures))
