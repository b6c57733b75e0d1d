-- `record::day_from` meets its contract: a number of 4 bytes fits 32 bits. Assumes nothing.
use native.Mathlib.Omega.{arith}
use Rattle.table.proofs.Num.{num_lt}
use Rattle.record.specs.Limits.{day_bytes}
use Rattle.record.proofs.day_from.Goals as goal

pub overflow_cast-result : goal.overflow_cast-result
overflow_cast-result c =
    let small = num_lt day_bytes c.args.body.now c.args.place (λ j. (c.type_inv.body j).fits) in
    omega (arith, small, c.load.ensures)
