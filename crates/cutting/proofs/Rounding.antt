-- Costs in units against true costs: rounding loses less than one unit a segment.
-- Assumes nothing.
use Prim.Native.Nat.{ℕ, suc, ◌+◌, ◌*◌, ◌≤◌, ◌<◌}
use mathlib.Core.List.{List, [], ◌∷◌}
use native.Mathlib.Omega.{arith}
use lib.ListN.{length}
use Rattle.cutting.specs.Costs.{Rounds}
use Rattle.cutting.proofs.Cuts.{Cuts, cost_back, cuts_room}

module _ (v w : ℕ → ℕ → ℕ) (u m l p n : ℕ) (r : Rounds v w u m l p n) where
  pub cost_rounds :
      (c : List ℕ) (t : ℕ) → Cuts l p t c → t ≤ n →
      (m * cost_back w p t c ≤ u * cost_back v p t c) × (u * cost_back v p t c < m * (cost_back w p t c + suc (length c)))
  cost_rounds [] t h g = r p t (omega arith) h g
  cost_rounds (s ∷ c) t h g =
      let i = cost_rounds c s h.1 (omega arith) in
      let j = r s t (omega (arith, cuts_room l p c s h.1)) h.0 g in
      omega arith
