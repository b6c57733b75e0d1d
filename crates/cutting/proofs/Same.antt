-- One step of the recurrence goes by what it looks at. Two costs that agree on every segment have the same least cost,
-- the same last start and the same chosen cutting.
-- Assumes nothing.
use Prim.Native.Nat.{ℕ, zero, suc, ◌+◌, ◌≤◌, ◌<◌}
use mathlib.Core.Path.{◌≡◌, refl, sym, ap, ap₂, ◌∙◌}
use mathlib.Core.List.{List, ◌∷◌}
use native.Mathlib.Omega.{arith}
use Rattle.cutting.specs.Costs.{Agree}
use Rattle.cutting.specs.Recurrence.{room, span, place, least_from, last_from, least, last, walk, chosen}
use Rattle.cutting.proofs.Cuts.{cost_same}
use Rattle.cutting.proofs.Earliest.{earliest_is, earliest_same}
use Rattle.cutting.proofs.Least.{last_room, least_bound, chosen_cuts, chosen_length, chosen_cost}

-- v over the rows f, and w over the rows g, agree where the step to k cuts of p .. t-1 looks: at the segments that end at
-- t, and in the rows before k at the places where the last segment may start.
pub record Alike (v w : ℕ → ℕ → ℕ) (l p : ℕ) (f g : ℕ → ℕ → ℕ) (k t : ℕ) : Type 0 where
  pub segments : (s : ℕ) → p ≤ s → s + l ≤ t → v s t ≡ w s t
  pub rows : (j s : ℕ) → j < k → room l p j ≤ s → s + l ≤ t → f j s ≡ g j s

module _ (v w : ℕ → ℕ → ℕ) (l p : ℕ) (f g : ℕ → ℕ → ℕ) where
  sum_alike :
      (k t : ℕ) → Alike v w l p f g (suc k) t → (s : ℕ) → room l p k ≤ s → s + l ≤ t → f k s + v s t ≡ g k s + w s t
  sum_alike k t e s a b = ap₂ ◌+◌ (e.rows k s (omega arith) a b) (e.segments s (omega arith) b)

  pub last_alike : (k t : ℕ) → room l p k ≤ t → Alike v w l p f g k t → last_from v l p f k t ≡ last_from w l p g k t
  unfolding place
  last_alike zero t h e = refl
  last_alike (suc k) t h e =
      earliest_same (λ s. f k s + v s t) (λ s. g k s + w s t) (room l p k) (span l p k t)
      (λ s a b. sum_alike k t e s a (omega arith))

  pub least_alike : (k t : ℕ) → room l p k ≤ t → Alike v w l p f g k t → least_from v l p f k t ≡ least_from w l p g k t
  unfolding place
  least_alike zero t h e = e.segments p (omega arith) (omega arith)
  least_alike (suc k) t h e =
      let s = earliest_is (λ s. f k s + v s t) (room l p k) (span l p k t) in
      sum_alike k t e (last_from v l p f (suc k) t) s.from (omega (arith, s.upto))
      ∙ ap (λ (s : ℕ). g k s + w s t) (last_alike (suc k) t h e)

least_no_more :
    (v w : ℕ → ℕ → ℕ) (l p n : ℕ) → Agree v w l p n → (k t : ℕ) → room l p k ≤ t → t ≤ n →
    least v l p k t ≤ least w l p k t
least_no_more v w l p n e k t h m =
    let c : List ℕ = chosen w l p k t in
    omega (
      arith,
      least_bound v l p k c t (chosen_cuts w l p k t h) (chosen_length w l p k t),
      cost_same v w l p n e c t (chosen_cuts w l p k t h) m,
      chosen_cost w l p k t,
    )

module _ (v w : ℕ → ℕ → ℕ) (l p n : ℕ) (e : Agree v w l p n) where
  pub least_same : (k t : ℕ) → room l p k ≤ t → t ≤ n → least v l p k t ≡ least w l p k t
  least_same k t h m =
      omega (arith, least_no_more v w l p n e k t h m, least_no_more w v l p n (λ s r a b c. sym (e s r a b c)) k t h m)

  pub last_same : (k t : ℕ) → room l p k ≤ t → t ≤ n → last v l p k t ≡ last w l p k t
  unfolding last
  last_same k t h m =
      last_alike v w l p (least v l p) (least w l p) k t h
      (record { segments = λ s a b. e s t a b m; rows = λ j s a b c. least_same j s b (omega arith) })

  pub chosen_same : (k t : ℕ) → room l p k ≤ t → t ≤ n → chosen v l p k t ≡ chosen w l p k t
  unfolding walk
  chosen_same zero t h m = refl
  chosen_same (suc k) t h m =
      rw (last_same (suc k) t h m)
      (ap (λ (c : List ℕ). last w l p (suc k) t ∷ c)
      (chosen_same k (last w l p (suc k) t) (last_room w l p k t h).0 (omega (arith, (last_room w l p k t h).1))))
