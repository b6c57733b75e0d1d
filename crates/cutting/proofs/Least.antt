-- The least cost is the least: no cutting costs less, and the chosen one costs that much and comes first among those that do.
-- Assumes nothing.
use Prim.Native.Nat.{ℕ, zero, suc, ◌+◌, ◌≤◌}
use mathlib.Core.Path.{◌≡◌, refl, sym, ap, subst}
use mathlib.Core.Logic.{inl, inr}
use mathlib.Core.List.{List, [], ◌∷◌}
use native.Mathlib.Omega.{arith}
use native.Mathlib.Decide.{dec_lt}
use lib.ListN.{length}
use Rattle.cutting.specs.Cutting.{NoLater}
use Rattle.cutting.specs.Recurrence.{earliest, room, span, place, least_from, least, last, walk, chosen}
use Rattle.cutting.proofs.Cuts.{Cuts, cost_back, cuts_room}
use Rattle.cutting.proofs.Earliest.{Earliest, earliest_is}
use Rattle.cutting.proofs.Order.{FirstBack}

module _ (w : ℕ → ℕ → ℕ) (l p : ℕ) where
  -- the least costs are what the recurrence makes of them
  pub least_from_lem : (k t : ℕ) → least_from w l p (least w l p) k t ≡ least w l p k t
  unfolding least
  least_from_lem zero t = refl
  least_from_lem (suc k) t = refl

  -- the recurrence, as the place of the last segment has it
  pub last_at : (k t : ℕ) → last w l p (suc k) t ≡ earliest (λ s. least w l p k s + w s t) (room l p k) (span l p k t)
  unfolding last place
  last_at k t = refl

  pub last_is : (k t : ℕ) → Earliest (λ s. least w l p k s + w s t) (room l p k) (span l p k t) (last w l p (suc k) t)
  unfolding last place
  last_is k t = earliest_is (λ s. least w l p k s + w s t) (room l p k) (span l p k t)

  pub least_at : (k t : ℕ) → least w l p (suc k) t ≡ least w l p k (last w l p (suc k) t) + w (last w l p (suc k) t) t
  unfolding least last
  least_at k t = refl

  pub least_one : (t : ℕ) → least w l p 0 t ≡ w p t
  unfolding least
  least_one t = refl

  -- the last segment leaves room before it, and has l observations
  pub last_room : (k t : ℕ) → room l p (suc k) ≤ t → (room l p k ≤ last w l p (suc k) t) × (last w l p (suc k) t + l ≤ t)
  last_room k t h = ((last_is k t).from, omega (arith, (last_is k t).upto))

  -- each place where the last segment may start costs at least as much
  pub least_below : (k s t : ℕ) → room l p k ≤ s → s + l ≤ t → least w l p (suc k) t ≤ least w l p k s + w s t
  least_below k s t h m = omega (arith, least_at k t, (last_is k t).below s h (omega arith))

  -- and one that costs no more comes no earlier
  pub last_first : (k s t : ℕ) → room l p k ≤ s → least w l p k s + w s t ≤ least w l p (suc k) t → last w l p (suc k) t ≤ s
  last_first k s t h m =
      elim (dec_lt s (last w l p (suc k) t)) [
        | yes lt ↦ omega (arith, least_at k t, (last_is k t).first s h lt)
        | no ge ↦ omega arith
      ]

  -- no cutting costs less ..
  below_cost : (c : List ℕ) (t : ℕ) → Cuts l p t c → least w l p (length c) t ≤ cost_back w p t c
  below_cost [] t h = omega (arith, least_one t)
  below_cost (s ∷ c) t h = omega (arith, least_below (length c) s t (cuts_room l p c s h.1) h.0, below_cost c s h.1)

  pub least_bound : (k : ℕ) (c : List ℕ) (t : ℕ) → Cuts l p t c → length c ≡ k → least w l p k t ≤ cost_back w p t c
  least_bound k c t h e = subst (λ (j : ℕ). least w l p j t ≤ cost_back w p t c) e (below_cost c t h)

  -- .. and the chosen one is a cutting with k cuts that costs so much
  pub chosen_cuts : (k t : ℕ) → room l p k ≤ t → Cuts l p t (chosen w l p k t)
  unfolding walk
  chosen_cuts zero t h = omega arith
  chosen_cuts (suc k) t h = ((last_room k t h).1, chosen_cuts k (last w l p (suc k) t) (last_room k t h).0)

  pub chosen_length : (k t : ℕ) → length (chosen w l p k t) ≡ k
  unfolding walk
  chosen_length zero t = refl
  chosen_length (suc k) t = ap suc (chosen_length k (last w l p (suc k) t))

  pub chosen_cost : (k t : ℕ) → cost_back w p t (chosen w l p k t) ≡ least w l p k t
  unfolding walk
  chosen_cost zero t = sym (least_one t)
  chosen_cost (suc k) t = omega (arith, least_at k t, chosen_cost k (last w l p (suc k) t))

  -- of the cuttings that cost the least, the chosen one comes first
  first_of :
      (c : List ℕ) (t : ℕ) → Cuts l p t c → cost_back w p t c ≡ least w l p (length c) t →
      NoLater (chosen w l p (length c) t) c
  unfolding walk
  first_of [] t h e = tt
  first_of (s ∷ c) t h e =
      let space : room l p (length c) ≤ s = cuts_room l p c s h.1 in
      let floor : least w l p (length c) s ≤ cost_back w p s c = below_cost c s h.1 in
      let bound : least w l p (suc (length c)) t ≤ least w l p (length c) s + w s t = least_below (length c) s t space h.0 in
      let early : last w l p (suc (length c)) t ≤ s = last_first (length c) s t space (omega arith) in
      elim (dec_lt (last w l p (suc (length c)) t) s) [
        | yes lt ↦ inl lt
        | no ge ↦ (
            let same : last w l p (suc (length c)) t ≡ s = omega arith in
            inr (same, subst (λ (r : ℕ). NoLater (chosen w l p (length c) r) c) (sym same) (first_of c s h.1 (omega arith)))
            )
      ]

  pub chosen_first :
      (k : ℕ) (c : List ℕ) (t : ℕ) → Cuts l p t c → length c ≡ k → cost_back w p t c ≡ least w l p k t →
      NoLater (chosen w l p k t) c
  chosen_first k c t h e = subst (λ (j : ℕ). cost_back w p t c ≡ least w l p j t → NoLater (chosen w l p j t) c) e (first_of c t h)

  pub chosen_back : (k t : ℕ) → FirstBack w l p k t (λ b. Unit {0}) (chosen w l p k t)
  chosen_back k t = record {
    count = chosen_length k t;
    cheapest = λ b h e q. omega (arith, chosen_cost k t, least_bound k b t h e);
    first = λ b h e q x. chosen_first k b t h e (omega (arith, chosen_cost k t));
  }
