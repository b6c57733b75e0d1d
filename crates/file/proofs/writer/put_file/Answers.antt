-- `file::writer::put_file` meets its contract: each step has room for what it lays. Assumes nothing.
use native.Mathlib.Omega.{arith}
use mathlib.Core.Path.{ap, ◌∙◌}
use lib.ListN.{length}
use Rattle.table.proofs.Num.{length_put}
use Rattle.file.specs.Limits.{count_bytes}
use Rattle.file.proofs.Writing.{put_room, put_roomy}
use Rattle.file.proofs.writer.put_file.Goals as goal

pub store-requires : goal.store-requires
store-requires c = omega (arith, put_room _ _ _ _ c.requires _ _ c.lent_in-lent.ensures.0 c.lent_in-lent.ensures.1 _ c.bodies_at-start.ensures)

pub store-requires-2 : goal.store-requires-2
store-requires-2 c =
    omega (
      arith,
      put_room _ _ _ _ c.requires _ _ c.lent_in-lent.ensures.0 c.lent_in-lent.ensures.1 _ c.bodies_at-start.ensures,
      ap length c.store.ensures ∙ length_put count_bytes c.args.out.now 0 c.lent_in-lent.result.contents.count,
    )

pub put_contents-requires : goal.put_contents-requires
put_contents-requires c = put_roomy _ _ _ _ c.requires _ _ c.lent_in-lent.ensures.0 c.lent_in-lent.ensures.1 _ c.bodies_at-start.ensures c.lent_in-lent.result.listed _ (omega arith)

pub lay-requires : goal.lay-requires
lay-requires c = omega (arith, put_room _ _ _ _ c.requires _ _ c.lent_in-lent.ensures.0 c.lent_in-lent.ensures.1 _ c.bodies_at-start.ensures)
