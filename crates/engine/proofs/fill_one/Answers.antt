-- `engine::fill_one` meets its contract: a record of one channel has as many levels as days.
use Rattle.std.proofs.Common.{ℕ, ◌*◌, ap, arith}
use Rattle.record.specs.Body.{observations}
use Rattle.engine.proofs.fill_one.Goals as goal

pub fill_from-requires-clause-room : goal.fill_from-requires-clause-room
fill_from-requires-clause-room c =
    let n = observations c.args.record.now.asked.channels c.args.record.now.body.now in
    let one = ap (λ (m : ℕ). n * m) c.requires.channels in
    omega (arith, one, c.requires.accepted.fit.count.few_days)
