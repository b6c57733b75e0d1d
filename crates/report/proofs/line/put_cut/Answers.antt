-- `report::line::put_cut` meets its contract: one piece behind the other. Assumes nothing.
use Rattle.text.proofs.Pieces.{grown}
use Rattle.report.proofs.line.put_cut.Goals as goal

pub returns-clause-put : goal.returns-clause-put
returns-clause-put c =
    grown c.byte.ensures (grown c.number.ensures.put (grown c.byte-2.ensures c.number-2.ensures.put))
