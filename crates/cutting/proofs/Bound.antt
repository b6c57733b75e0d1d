-- A bound on every cost, from a bound on each segment's.
-- Assumes nothing.
use Prim.Native.Nat.{ℕ, ◌+◌, ◌*◌, ◌≤◌}
use mathlib.Core.List.{List, [], ◌∷◌}
use native.Mathlib.Omega.{arith}
use Rattle.cutting.specs.Costs.{Within}
use Rattle.cutting.specs.Recurrence.{room, least, chosen}
use Rattle.cutting.proofs.Cuts.{Cuts, cost_back, cuts_room}
use Rattle.cutting.proofs.Least.{chosen_cuts, chosen_cost}

-- a cutting costs at most b for each observation, if each segment does
pub cost_bound :
    (w : ℕ → ℕ → ℕ) (b l p n : ℕ) → Within w b l p n → (c : List ℕ) (t : ℕ) → Cuts l p t c → t ≤ n → cost_back w p t c + b * p ≤ b * t
cost_bound w b l p n e [] t h m = e p t (omega arith) h m
cost_bound w b l p n e (s ∷ c) t h m =
    omega (arith, cost_bound w b l p n e c s h.1 (omega arith), e s t (omega (arith, cuts_room l p c s h.1)) h.0 m)

pub least_most :
    (w : ℕ → ℕ → ℕ) (b l p n : ℕ) → Within w b l p n → (k t : ℕ) → room l p k ≤ t → t ≤ n → least w l p k t + b * p ≤ b * t
least_most w b l p n e k t h m =
    omega (arith, cost_bound w b l p n e (chosen w l p k t) t (chosen_cuts w l p k t h) m, chosen_cost w l p k t)
