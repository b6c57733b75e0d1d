-- `table::load` meets its contract: a turn puts the byte before those that are read.
use Rattle.std.proofs.Common.{arith}
use Rattle.table.proofs.Num.{num_more}
use Rattle.table.proofs.load.Goals as goal

pub loop-i-preserved : goal.loop-i-preserved
loop-i-preserved c = omega (arith, num_more c.args.t.now c.args.at c.args.k c.loop-i.i (omega arith) (omega arith))
