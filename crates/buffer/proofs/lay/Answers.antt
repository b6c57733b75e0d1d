-- `buffer::lay` meets its contract.
use Rattle.std.proofs.Common.{arith}
use Rattle.buffer.proofs.Laid.{copied}
use Rattle.buffer.proofs.lay.Goals as goal

pub returns : goal.returns
returns c = rw c.copy_from_slice.ensures.after (copied c.args.out.now c.args.s.now c.args.at (omega arith))
