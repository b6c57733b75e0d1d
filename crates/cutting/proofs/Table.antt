-- The tables' entries, where there is a cutting and where there is none; that an entry worked from the rows before it is
-- the table's; and the walk through a table that holds them.
-- Assumes nothing.
use Prim.Native.Nat.{ℕ, suc, ◌+◌, ◌-◌, ◌*◌, ◌≤◌, ◌<◌}
use mathlib.Core.Path.{◌≡◌, refl, sym, ◌∙◌, subst, subst⁻¹}
use native.Mathlib.Nat.{mul-le-mul_left}
use native.Mathlib.Decide.{dec_lt}
use native.Mathlib.Omega.{arith}
use borrow.Author.Tests.{lt-ltb, le-ltb}
use Rattle.cutting.specs.Costs.{Agree, Within}
use Rattle.cutting.specs.Recurrence.{Found, room, least_from, last_from, least, last, walk, chosen}
use Rattle.cutting.specs.Table.{no_cost, no_start, or_none, cost_at, start_at, cost_from, start_from}
use Rattle.cutting.proofs.Bound.{least_most}
use Rattle.cutting.proofs.Least.{least_from_lem}
use Rattle.cutting.proofs.Same.{Alike, least_alike, last_alike, least_same, last_same}
use Rattle.cutting.proofs.Scan.{found_from, walk_chosen}

module _ (none l k t : ℕ) where
  is_none : (x : ℕ) → t < room l 0 k → or_none none l k t x ≡ none
  is_none x h = rw (lt-ltb t (room l 0 k) h)

  is_some : (x : ℕ) → room l 0 k ≤ t → or_none none l k t x ≡ x
  is_some x h = rw (le-ltb t (room l 0 k) h)

  is_same : (x y : ℕ) → (room l 0 k ≤ t → x ≡ y) → or_none none l k t x ≡ or_none none l k t y
  is_same x y e =
      elim (dec_lt t (room l 0 k)) [
        | yes h ↦ is_none x h ∙ sym (is_none y h)
        | no h ↦ (let g : room l 0 k ≤ t = omega arith in is_some x g ∙ e g ∙ sym (is_some y g))
      ]

module _ (w : ℕ → ℕ → ℕ) (l k t : ℕ) where
  pub cost_none : t < room l 0 k → cost_at w l k t ≡ no_cost
  unfolding cost_at
  cost_none h = is_none no_cost l k t _ h

  pub cost_some : room l 0 k ≤ t → cost_at w l k t ≡ least w l 0 k t
  unfolding cost_at
  cost_some h = is_some no_cost l k t _ h

  pub start_none : t < room l 0 k → start_at w l k t ≡ no_start
  unfolding start_at
  start_none h = is_none no_start l k t _ h

  pub start_some : room l 0 k ≤ t → start_at w l k t ≡ last w l 0 k t
  unfolding start_at
  start_some h = is_some no_start l k t _ h

-- where no segment costs more than b for each observation, and all of them cost no more than the mark, no entry does
pub cost_most :
    (w : ℕ → ℕ → ℕ) (b l n : ℕ) → Within w b l 0 n → b * n ≤ no_cost → (k t : ℕ) → t ≤ n → cost_at w l k t ≤ no_cost
cost_most w b l n each whole k t h =
    elim (dec_lt t (room l 0 k)) [
      | yes g ↦ omega (arith, cost_none w l k t g)
      | no g ↦ (
          let long : room l 0 k ≤ t = omega arith in
          omega (arith, cost_some w l k t long, least_most w b l 0 n each k t long h, mul-le-mul_left b h)
          )
    ]

-- entries of costs that agree on every segment
module _ (v w : ℕ → ℕ → ℕ) (l n : ℕ) (e : Agree v w l 0 n) (k t : ℕ) (m : t ≤ n) where
  pub cost_at_same : cost_at v l k t ≡ cost_at w l k t
  unfolding cost_at
  cost_at_same = is_same no_cost l k t _ _ (λ h. least_same v w l 0 n e k t h m)

  pub start_at_same : start_at v l k t ≡ start_at w l k t
  unfolding start_at
  start_at_same = is_same no_start l k t _ _ (λ h. last_same v w l 0 n e k t h m)

-- Entries from the rows before them: the three kinds, as a loop over the last segment's places tells them apart ..
module _ (w : ℕ → ℕ → ℕ) (l : ℕ) (rows : ℕ → ℕ → ℕ) (k t : ℕ) where
  pub from_none : t < room l 0 k → (no_cost ≡ cost_from w l rows k t) × (no_start ≡ start_from w l rows k t)
  unfolding cost_from start_from
  from_none h = (sym (is_none no_cost l k t _ h), sym (is_none no_start l k t _ h))

  abbrev Is : ℕ → ℕ → ℕ → Type 0
  Is cost start j = (cost ≡ least_from w l 0 rows j t) × (start ≡ last_from w l 0 rows j t)

  from_some :
      (cost start : ℕ) → room l 0 k ≤ t → Is cost start k →
      (cost ≡ cost_from w l rows k t) × (start ≡ start_from w l rows k t)
  unfolding cost_from start_from
  from_some cost start h e = (e.0 ∙ sym (is_some no_cost l k t _ h), e.1 ∙ sym (is_some no_start l k t _ h))

  pub from_one : room l 0 k ≤ t → k ≡ 0 → (w 0 t ≡ cost_from w l rows k t) × (0 ≡ start_from w l rows k t)
  from_one h e = from_some (w 0 t) 0 h (subst⁻¹ (Is (w 0 t) 0) e (refl, refl))

  pub from_more :
      room l 0 k ≤ t → (k ≡ 0 → ⊥) → (i best start : ℕ) → i + l ≡ t + 1 →
      Found (λ s. rows (k - 1) s + w s t) (k * l) i best start →
      (best ≡ cost_from w l rows k t) × (start ≡ start_from w l rows k t)
  from_more h z i best start m g =
      let e : suc (k - 1) ≡ k = omega arith in
      let first : room l 0 (k - 1) ≡ k * l = rw e (omega arith) in
      from_some best start h
      (subst (Is best start) e (found_from w l 0 rows (k - 1) t i best start (rw e h) m (rw first g)))

-- .. which go by what is looked at ..
module _ (v w : ℕ → ℕ → ℕ) (l : ℕ) (f g : ℕ → ℕ → ℕ) (k t : ℕ) (e : Alike v w l 0 f g k t) where
  pub cost_alike : cost_from v l f k t ≡ cost_from w l g k t
  unfolding cost_from
  cost_alike = is_same no_cost l k t _ _ (λ h. least_alike v w l 0 f g k t h e)

  pub start_alike : start_from v l f k t ≡ start_from w l g k t
  unfolding start_from
  start_alike = is_same no_start l k t _ _ (λ h. last_alike v w l 0 f g k t h e)

-- .. and are the tables' own where the rows before them hold the least costs.
module _ (v w : ℕ → ℕ → ℕ) (l : ℕ) (f : ℕ → ℕ → ℕ) (k t : ℕ) (e : Alike v w l 0 f (least w l 0) k t) where
  pub cost_from_lem : cost_from v l f k t ≡ cost_at w l k t
  unfolding cost_from cost_at
  cost_from_lem = is_same no_cost l k t _ _ (λ h. least_alike v w l 0 f (least w l 0) k t h e ∙ least_from_lem w l 0 k t)

  pub start_from_lem : start_from v l f k t ≡ start_at w l k t
  unfolding start_from start_at last
  start_from_lem = is_same no_start l k t _ _ (λ h. last_alike v w l 0 f (least w l 0) k t h e)

pub walk_starts : (w : ℕ → ℕ → ℕ) (l k t : ℕ) → room l 0 k ≤ t → walk (start_at w l) k t ≡ chosen w l 0 k t
walk_starts w l k t h = walk_chosen w l 0 t (start_at w l) (λ j r g m. start_some w l (suc j) r g) k t h (omega arith)
