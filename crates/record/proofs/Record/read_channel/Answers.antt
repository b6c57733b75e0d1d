-- `record::Record::read_channel` meets its contract: a level takes 32 bits.
use Rattle.std.proofs.Common.{ap, ◌∙◌, arith}
use Rattle.record.specs.Body.{level_number}
use Rattle.record.proofs.Samples.{level_at_small}
use Rattle.record.proofs.Record.read_channel.Goals as goal

pub overflow_cast-place : goal.overflow_cast-place
overflow_cast-place c =
    let a = c.args in
    let small = level_at_small a.self.now.asked.channels a.self.now.body.now c.loop-i.i a.channel in
    omega (arith, small, c.unwrap_or.ensures ∙ ap level_number c.level_at.ensures)
