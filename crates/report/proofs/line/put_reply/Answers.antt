-- `report::line::put_reply` meets its contract: one piece behind the other. Assumes nothing.
use Rattle.text.proofs.Pieces.{grown}
use Rattle.report.proofs.line.put_reply.Goals as goal

pub returns-clause-put : goal.returns-clause-put
returns-clause-put c =
    grown c.word.ensures (grown c.number.ensures.put (grown c.word-2.ensures c.number-2.ensures.put))
