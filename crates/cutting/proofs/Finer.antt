-- More segments never cost more, where no segment costs less than two that it is cut into.
-- Assumes nothing.
use Prim.Native.Nat.{ℕ, suc, ◌≤◌}
use mathlib.Core.Path.{◌≡◌, sym, subst, ap}
use mathlib.Core.List.{List, [], ◌∷◌}
use native.Mathlib.Omega.{arith}
use native.Mathlib.Decide.{dec_lt}
use lib.ListN.{length}
use Rattle.cutting.specs.Costs.{Splittable}
use Rattle.cutting.specs.Recurrence.{room, least, chosen}
use Rattle.cutting.proofs.Cuts.{Cuts, cost_back, cuts_room}
use Rattle.cutting.proofs.Least.{least_bound, chosen_cuts, chosen_length, chosen_cost}

-- a cutting with one cut more that costs no more
record Finer (w : ℕ → ℕ → ℕ) (p t : ℕ) (c : List ℕ) : Type 0 where
  finer : List ℕ
  cuts : Cuts 1 p t finer
  count : length finer ≡ suc (length c)
  no_more : cost_back w p t finer ≤ cost_back w p t c

module _ (w : ℕ → ℕ → ℕ) (p n : ℕ) (e : Splittable w p n) where
  refine : (c : List ℕ) (t : ℕ) → Cuts 1 p t c → room 1 p (suc (length c)) ≤ t → t ≤ n → Finer w p t c
  refine [] t h g m = record {
    finer = suc p ∷ [];
    cuts = (omega arith, omega arith);
    count = omega arith;
    no_more = e p (suc p) t (omega arith) (omega arith) (omega arith) m;
  }
  refine (s ∷ c) t h g m =
      elim (dec_lt (suc s) t) [
        | yes lt ↦ record {
          finer = suc s ∷ (s ∷ c);
          cuts = (omega arith, (omega arith, h.1));
          count = omega arith;
          no_more = omega (arith, e s (suc s) t (omega (arith, cuts_room 1 p c s h.1)) (omega arith) lt m);
        }
        | no ge ↦ (
            let q : Finer w p s c = refine c s h.1 (omega arith) (omega arith) in
            record {
              finer = s ∷ q.finer;
              cuts = (h.0, q.cuts);
              count = ap suc q.count;
              no_more = omega (arith, q.no_more);
            }
            )
      ]

  -- so one cut more never costs more
  pub least_falls : (k t : ℕ) → room 1 p (suc k) ≤ t → t ≤ n → least w 1 p (suc k) t ≤ least w 1 p k t
  least_falls k t h m =
      let c : List ℕ = chosen w 1 p k t in
      let q : Finer w p t c =
      refine c t (chosen_cuts w 1 p k t (omega arith)) (subst (λ (j : ℕ). room 1 p (suc j) ≤ t) (sym (chosen_length w 1 p k t)) h) m
      in
      omega (
        arith,
        q.no_more,
        least_bound w 1 p (suc k) q.finer t q.cuts (omega (arith, q.count, chosen_length w 1 p k t)),
        chosen_cost w 1 p k t,
      )
