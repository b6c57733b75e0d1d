-- `recurrence::fill_tables` meets its contract: a turn fills column t, and leaves what the next one needs.
use Rattle.std.proofs.Common.{◌+◌, ◌≡◌, ◌∙◌, arith}
use Rattle.recurrence.proofs.Entries.{sums_right, costs_more, starts_more, held_more}
use Rattle.recurrence.proofs.Weight.{tail_costs}
use Rattle.recurrence.proofs.Growing.{days_length, tails_fit, costs_fit}
use Rattle.recurrence.proofs.fill_tables.Goals as goal

pub column-requires-clause-sums : goal.column-requires-clause-sums
column-requires-clause-sums c = sums_right c.loop-t.invariant.held

pub price-requires-clause-tails : goal.price-requires-clause-tails
price-requires-clause-tails c = tails_fit c.args.days.now.observed _ _ (omega arith) c.grow.ensures.tails

pub price-requires-clause-costs : goal.price-requires-clause-costs
price-requires-clause-costs c = costs_fit c.args.days.now.observed _ _ (omega arith) (omega arith) c.grow.ensures.tails

pub loop-t-preserved : goal.loop-t-preserved
loop-t-preserved c =
    let l = c.loop-t in
    let i = l.invariant in
    let days = days_length c.args.days.now.observed in record {
      held = held_more i.held _ _ (omega arith) c.column.ensures.costs_after
          (λ s q. c.price.ensures s q ∙ tail_costs _ (l.t + 1) (omega arith) _ _ (omega (arith, days)) c.grow.ensures.tails s (omega arith));
      started = starts_more i.held _ _ _ i.started c.column.ensures.starts_after;
      tails = c.grow.ensures.tails;
      room = c.grow.ensures.long ∙ i.room;
    }

pub column-requires-2-clause-sums : goal.column-requires-2-clause-sums
column-requires-2-clause-sums c =
    let e : c.loop-t.t ≡ c.args.days.now.n = omega arith in
    rw e at (sums_right c.loop-t.invariant.held)

pub returns-clause-costs_after : goal.returns-clause-costs_after
returns-clause-costs_after c =
    let e : c.loop-t.t ≡ c.args.days.now.n = omega arith in
    costs_more (rw e at c.loop-t.invariant.held) _ c.column-2.ensures.costs_after

pub returns-clause-starts_after : goal.returns-clause-starts_after
returns-clause-starts_after c =
    let i = c.loop-t.invariant in
    let e : c.loop-t.t ≡ c.args.days.now.n = omega arith in
    starts_more (rw e at i.held) _ _ _ (rw e at i.started) c.column-2.ensures.starts_after
