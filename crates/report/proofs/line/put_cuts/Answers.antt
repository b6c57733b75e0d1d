-- `report::line::put_cuts` meets its contract: with each start its cut stands behind the others. Assumes nothing.
use Rattle.std.proofs.Common.{ap, arith}
use Rattle.text.proofs.Pieces.{grown, retell}
use Rattle.report.specs.Lines.{pair_text}
use Rattle.report.proofs.Pieces.{cuts_more}
use Rattle.report.proofs.line.put_cuts.Goals as goal

pub loop-start-preserved : goal.loop-start-preserved
loop-start-preserved c =
    let cut = retell (ap (pair_text _) c.date_at-date.ensures) c.put_cut.ensures.put in
    record {
      put = retell (cuts_more c.args.record.now.asked.channels c.args.record.now.body.now c.args.starts.now c.loop-start.start-index c.loop-start-test.true) (grown c.loop-start.invariant.put cut);
      upper_bound = omega arith;
    }
