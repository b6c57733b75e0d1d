-- Both tables, entry by entry: each number fits its bytes, so it is what the recurrence says. Assumes nothing.
use Prim.Native.Nat.{ℕ, zero, suc, ◌+◌, ◌-◌, ◌*◌, ◌^◌, ◌≤◌, ◌<◌}
use mathlib.Core.Path.{◌≡◌, refl}
use mathlib.Core.List.{List}
use native.Mathlib.Nat.{mul-le-mul_left}
use native.Mathlib.Omega.{arith}
use lib.ListN.{length}
use Rattle.table.proofs.Fill.{fill_ext}
use Rattle.table.proofs.Promises.{row_entry}
use Rattle.cutting.specs.Limits.{most_observations, least_length, cost_bytes, start_bytes}
use Rattle.cutting.specs.Costs.{Within, Agree}
use Rattle.cutting.specs.Recurrence.{room, least, last}
use Rattle.cutting.specs.Table.{no_cost, no_start, cost_at, start_at}
use Rattle.cutting.proofs.Bound.{least_most}
use Rattle.cutting.proofs.Least.{last_room}
use Rattle.cutting.proofs.Table.{cost_none, cost_some, start_none, start_some, cost_at_same, start_at_same}
use Rattle.recurrence.specs.Tables.{cost_table, start_table, cost_entry, start_entry}

-- the last segment of a cutting starts before its end
last_below : (w : ℕ → ℕ → ℕ) (k t : ℕ) → room least_length 0 k ≤ t → last w least_length 0 k t < t
unfolding last
last_below w zero t h = omega arith
last_below w (suc k) t h = omega (arith, last_room w least_length 0 k t h)

module _ (w : ℕ → ℕ → ℕ) (n dmax : ℕ) (few : n ≤ most_observations) (D t : ℕ) (some : 1 ≤ D) (asked : D ≤ dmax) (upto : t ≤ n) where
  module _ (ys : List ℕ) (space : start_bytes * (dmax * (n + 1)) ≤ length ys) where
    start_cell : (v : ℕ) → start_at w least_length (D - 1) t ≡ v → v < 256 ^ start_bytes → start_entry n (start_table w n dmax ys) D t ≡ v
    start_cell = row_entry start_bytes n dmax (start_at w least_length) ys (start_table w n dmax ys) refl space D t some asked upto

    pub start_is : room least_length 0 (D - 1) ≤ t → start_entry n (start_table w n dmax ys) D t ≡ last w least_length 0 (D - 1) t
    start_is h =
        start_cell (last w least_length 0 (D - 1) t) (start_some w least_length (D - 1) t h) (omega (arith, last_below w (D - 1) t h))

    pub start_mark : t < room least_length 0 (D - 1) → start_entry n (start_table w n dmax ys) D t ≡ no_start
    start_mark h = start_cell no_start (start_none w least_length (D - 1) t h) (omega arith)

  module _ (xs : List ℕ) (space : cost_bytes * (dmax * (n + 1)) ≤ length xs) where
    cost_cell : (v : ℕ) → cost_at w least_length (D - 1) t ≡ v → v < 256 ^ cost_bytes → cost_entry n (cost_table w n dmax xs) D t ≡ v
    cost_cell = row_entry cost_bytes n dmax (cost_at w least_length) xs (cost_table w n dmax xs) refl space D t some asked upto

    pub cost_is :
        (b : ℕ) → Within w b least_length 0 n → b * n < 2 ^ 64 → room least_length 0 (D - 1) ≤ t →
        cost_entry n (cost_table w n dmax xs) D t ≡ least w least_length 0 (D - 1) t
    cost_is b each whole h =
        cost_cell (least w least_length 0 (D - 1) t) (cost_some w least_length (D - 1) t h)
        (omega (arith, least_most w b least_length 0 n each (D - 1) t h upto, mul-le-mul_left b upto))

    pub cost_mark : t < room least_length 0 (D - 1) → cost_entry n (cost_table w n dmax xs) D t ≡ no_cost
    cost_mark h = cost_cell no_cost (cost_none w least_length (D - 1) t h) (omega arith)

-- by costs that agree on every segment they are the same
module _ (v w : ℕ → ℕ → ℕ) (n : ℕ) (e : Agree v w least_length 0 n) (m : ℕ) (xs : List ℕ) where
  pub costs_same : cost_table v n m xs ≡ cost_table w n m xs
  costs_same =
      fill_ext cost_bytes n m (cost_at v least_length) (cost_at w least_length) (n + 1) xs
      (λ d s _ b. cost_at_same v w least_length n e d s (omega arith))

  pub starts_same : start_table v n m xs ≡ start_table w n m xs
  starts_same =
      fill_ext start_bytes n m (start_at v least_length) (start_at w least_length) (n + 1) xs
      (λ d s _ b. start_at_same v w least_length n e d s (omega arith))
