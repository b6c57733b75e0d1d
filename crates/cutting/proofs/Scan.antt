-- What an engine's proof cites: the loop that looks for the earliest place, and the walk through a table that holds the
-- last starts.
-- Assumes nothing.
use Prim.Native.Nat.{ℕ, zero, suc, ◌+◌, ◌-◌, ◌≤◌, ◌<◌}
use mathlib.Core.Path.{◌≡◌, refl, sym, ap, ◌∙◌}
use mathlib.Core.List.{List, ◌∷◌}
use native.Mathlib.Omega.{arith}
use borrow.Author.Tests.{lt-ltb, le-ltb}
use Rattle.cutting.specs.Recurrence.{earliest, Found, room, span, place, least_from, last_from, last, walk, chosen}
use Rattle.cutting.proofs.Least.{last_room}

module _ (f : ℕ → ℕ) (a : ℕ) where
  pub found_first : Found f a (a + 1) (f a) a
  unfolding earliest
  found_first =
      let e : a + 1 - (a + 1) ≡ 0 = omega arith in
      (rw e refl, refl)

  -- one place more
  step_lower : (n start : ℕ) → start ≡ earliest f a n → f (a + suc n) < f start → a + suc n ≡ earliest f a (suc n)
  unfolding earliest
  step_lower n start e h = rw (← e, lt-ltb (f (a + suc n)) (f start) h)

  step_keep : (n start : ℕ) → start ≡ earliest f a n → f start ≤ f (a + suc n) → start ≡ earliest f a (suc n)
  unfolding earliest
  step_keep n start e h = rw (← e, le-ltb (f (a + suc n)) (f start) h)

  module _ (i best start now : ℕ) (h : a < i) (g : Found f a i best start) (e : now ≡ f i) where
    at_i : a + suc (i - (a + 1)) ≡ i
    at_i = omega arith

    next : i + 1 - (a + 1) ≡ suc (i - (a + 1))
    next = omega arith

    -- the place i is looked at: its value is lower than the best so far ..
    pub found_lower : now < best → Found f a (i + 1) now i
    found_lower m = (rw next (sym at_i ∙ step_lower (i - (a + 1)) start g.0 (omega (arith, ap f at_i))), e)

    -- .. or is not
    pub found_keep : best ≤ now → Found f a (i + 1) best start
    found_keep m = (rw next (step_keep (i - (a + 1)) start g.0 (omega (arith, ap f at_i))), g.1)

-- what the loop over a last segment's places holds when it has passed the last is that cost and that start
pub found_from :
    (w : ℕ → ℕ → ℕ) (l p : ℕ) (rows : ℕ → ℕ → ℕ) (k t i best start : ℕ) → room l p (suc k) ≤ t → i + l ≡ t + 1 →
    Found (λ s. rows k s + w s t) (room l p k) i best start →
    (best ≡ least_from w l p rows (suc k) t) × (start ≡ last_from w l p rows (suc k) t)
unfolding place
found_from w l p rows k t i best start h m g =
    let over : i - (room l p k + 1) ≡ span l p k t = omega arith in
    let there : start ≡ last_from w l p rows (suc k) t = rw over at g.0 in
    (rw there at g.1, there)

-- a walk through a table that holds the last starts gives the chosen cutting
pub walk_chosen :
    (w : ℕ → ℕ → ℕ) (l p n : ℕ) (at : ℕ → ℕ → ℕ) →
    ((k t : ℕ) → room l p (suc k) ≤ t → t ≤ n → at (suc k) t ≡ last w l p (suc k) t) →
    (k t : ℕ) → room l p k ≤ t → t ≤ n → walk at k t ≡ chosen w l p k t
unfolding walk
walk_chosen w l p n at e zero t h m = refl
walk_chosen w l p n at e (suc k) t h m =
    let s : ℕ = last w l p (suc k) t in
    rw (e k t h m)
    (ap (λ (c : List ℕ). s ∷ c) (walk_chosen w l p n at e k s (last_room w l p k t h).0 (omega (arith, (last_room w l p k t h).1))))
