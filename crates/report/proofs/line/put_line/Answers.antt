-- `report::line::put_line` meets its contract: one piece behind the other. Assumes nothing.
use mathlib.Core.Path.{ap}
use Rattle.text.proofs.Pieces.{grown, retell}
use Rattle.report.specs.Lines.{cuts_text}
use Rattle.report.proofs.Pieces.{but_first}
use Rattle.report.proofs.line.put_line.Goals as goal

pub returns-clause-put : goal.returns-clause-put
returns-clause-put c =
    let cuts = retell (ap (cuts_text c.args.record.now.asked.channels c.args.record.now.body.now) (but_first c.args.line.starts c.args.line.d c.requires.line.1)) c.put_cuts.ensures.put in
    grown c.number.ensures.put (grown c.byte.ensures (grown c.number-2.ensures.put (grown cuts c.byte-2.ensures)))
