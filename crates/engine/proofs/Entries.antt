-- The tables that a solve of an accepted record leaves, entry by entry. Assumes nothing.
use Prim.Native.Nat.{ℕ, ◌+◌, ◌-◌, ◌*◌, ◌≤◌, ◌<◌}
use mathlib.Core.Path.{◌≡◌}
use mathlib.Core.List.{List}
use native.Mathlib.Omega.{arith}
use lib.ListN.{length}
use Rattle.table.specs.Kept.{KeptBeyond}
use Rattle.table.proofs.Promises.{kept_beyond}
use Rattle.cutting.specs.Limits.{least_length, cost_bytes, start_bytes}
use Rattle.cutting.specs.Recurrence.{last}
use Rattle.cutting.specs.Table.{no_cost, no_start}
use Rattle.kernel.specs.Cost.{most_units}
use Rattle.recurrence.specs.Tables.{cost_entry, start_entry}
use Rattle.recurrence.proofs.Tables as tables
use Rattle.reply.proofs.First.{if_done_lem}
use Rattle.record.specs.declared.Asked.{Asked}
use Rattle.record.specs.Body.{observations}
use Rattle.record.specs.Cost.{cost_of, least_of}
use Rattle.engine.specs.Solve.{solve_reply, solved_costs, solved_starts, costs_left, starts_left}
use Rattle.engine.specs.Accepted.{Accepted}
use Rattle.engine.proofs.Limit.{segment_small}
use Rattle.engine.proofs.Accepted.{accepted, all_whole, few_channels, costs_space, starts_space}

module _ (asked : Asked) (body costs starts : List ℕ) (a : Accepted asked body (length costs) (length starts)) where
  pub costs_solved : costs_left asked body costs starts ≡ solved_costs asked body costs
  unfolding costs_left
  costs_solved = if_done_lem (solve_reply asked body (length costs) (length starts)) _ _ ((accepted asked body (length costs) (length starts)).1 a)

  pub starts_solved : starts_left asked body costs starts ≡ solved_starts asked body starts
  unfolding starts_left
  starts_solved = if_done_lem (solve_reply asked body (length costs) (length starts)) _ _ ((accepted asked body (length costs) (length starts)).1 a)

  pub costs_beyond : KeptBeyond cost_bytes (asked.dmax * (observations asked.channels body + 1)) costs (costs_left asked body costs starts)
  costs_beyond = kept_beyond cost_bytes _ _ _ _ _ costs_solved

  pub starts_beyond : KeptBeyond start_bytes (asked.dmax * (observations asked.channels body + 1)) starts (starts_left asked body costs starts)
  starts_beyond = kept_beyond start_bytes _ _ _ _ _ starts_solved

  module _ (D t : ℕ) (some : 1 ≤ D) (few : D ≤ asked.dmax) (upto : t ≤ observations asked.channels body) where
    pub cost_is : D ≤ t → cost_entry (observations asked.channels body) (costs_left asked body costs starts) D t ≡ least_of asked body D t
    cost_is fits =
        rw costs_solved
        (tables.cost_is (cost_of asked body) (observations asked.channels body) asked.dmax a.fit.count.few_days D t some few upto costs (costs_space a)
        most_units (segment_small asked body (few_channels a) (all_whole a)) (omega (arith, a.fit.count.few_days)) (omega arith))

    pub start_is :
        D ≤ t → start_entry (observations asked.channels body) (starts_left asked body costs starts) D t ≡ last (cost_of asked body) least_length 0 (D - 1) t
    start_is fits =
        rw starts_solved
        (tables.start_is (cost_of asked body) (observations asked.channels body) asked.dmax a.fit.count.few_days D t some few upto starts (starts_space a)
        (omega arith))

    pub none_marks :
        t < D →
        (cost_entry (observations asked.channels body) (costs_left asked body costs starts) D t ≡ no_cost)
        × (start_entry (observations asked.channels body) (starts_left asked body costs starts) D t ≡ no_start)
    none_marks short = (
      rw costs_solved
          (tables.cost_mark (cost_of asked body) (observations asked.channels body) asked.dmax a.fit.count.few_days D t some few upto costs (costs_space a)
          (omega arith)),
      rw starts_solved
          (tables.start_mark (cost_of asked body) (observations asked.channels body) asked.dmax a.fit.count.few_days D t some few upto starts (starts_space a)
          (omega arith)),
    )
