-- `recurrence::grow` meets its contract: a turn joins observation t by one channel's levels.
use Rattle.std.proofs.Common.{refl, arith}
use Rattle.recurrence.proofs.Growing.{part_at, growing_room, growing_more, growing_done}
use Rattle.recurrence.proofs.grow.Goals as goal

pub join-requires-clause-room : goal.join-requires-clause-room
join-requires-clause-room c = growing_room c.args.days.now.observed _ _ _ _ c.loop-c.invariant c.requires.within.0

pub loop-c-preserved : goal.loop-c-preserved
loop-c-preserved c =
    let o = c.args.days.now.observed in
    growing_more o _ _ _ _ c.loop-c.invariant c.requires.within.0 (omega arith) _ _ _ refl (part_at o _ _ (omega arith) refl) c.join.ensures.long c.join.ensures.joined

pub returns-clause-tails : goal.returns-clause-tails
returns-clause-tails c =
    growing_done c.args.days.now.observed _ _ _ _ c.loop-c.invariant c.requires.within.0 (omega arith) c.requires.within.1
