-- `recurrence::price` meets its contract: a turn adds tail s - 1 to the sum, and prices the segment from s - 1 by it.
use Rattle.std.proofs.Common.{arith}
use Rattle.std.proofs.lemmas.Grind.{get_or-set_at}
use Rattle.std.proofs.lemmas.List.{get_or-set_other}
use Rattle.recurrence.proofs.Weight.{total_back}
use Rattle.recurrence.proofs.price.Goals as goal

pub loop-s-preserved : goal.loop-s-preserved
loop-s-preserved c =
    let back = total_back c.args.a.now c.args.t (omega arith) c.loop-s.s (omega arith) (omega arith) in
    grind (arith, get_or-set_at, get_or-set_other, back)
