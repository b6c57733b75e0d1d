-- `report::term::lines` meets its contract: the text fits its own buffer, and is handed over. Assumes nothing.
use Rattle.std.proofs.Common.{refl, arith}
use Rattle.text.proofs.Pieces.{front}
use Rattle.report.proofs.Solved.{lines_length_lem}
use Rattle.report.proofs.term.lines.Goals as goal

pub hand_over-requires : goal.hand_over-requires
hand_over-requires c = (front c.put_lines.ensures refl (omega (arith, lines_length_lem c.args.record.now.asked c.args.record.now.body.now c.args.term))).0

pub returns-clause-value : goal.returns-clause-value
returns-clause-value c =
    rw (front c.put_lines.ensures refl (omega (arith, lines_length_lem c.args.record.now.asked c.args.record.now.body.now c.args.term))).1 at c.hand_over.ensures.value

pub returns-clause-out_after : goal.returns-clause-out_after
returns-clause-out_after c =
    rw (front c.put_lines.ensures refl (omega (arith, lines_length_lem c.args.record.now.asked c.args.record.now.body.now c.args.term))).1 at c.hand_over.ensures.out_after
