-- The earliest place at which a function is least: what it is, that there is one only, and that it goes by the
-- function's values there.
-- Assumes nothing.
use Prim.Native.Nat.{ℕ, zero, suc, ◌+◌, ◌≤◌, ◌<◌}
use mathlib.Core.Path.{◌≡◌, refl, ap, subst}
use mathlib.Core.Bool.{Bool, true, false, cond}
use native.Mathlib.Omega.{arith}
use native.Mathlib.Decide.{dec_le}
use borrow.Author.Tests.{ltb-true, ltb-false}
use Rattle.cutting.specs.Recurrence.{better, earliest}

-- a place is taken where it is lower, and only there
better_true : (x y : ℕ) → better x y ≡ true → x < y
better_true x y h = omega (arith, ltb-true)

better_false : (x y : ℕ) → better x y ≡ false → y ≤ x
better_false x y h = omega (arith, ltb-false)

-- s is the earliest of the places a .. a+n at which f is least
pub record Earliest (f : ℕ → ℕ) (a n s : ℕ) : Type 0 where
  pub from : a ≤ s
  pub upto : s ≤ a + n
  pub below : (i : ℕ) → a ≤ i → i ≤ a + n → f s ≤ f i
  pub first : (i : ℕ) → a ≤ i → i < s → f s < f i

-- what holds at each place up to a + n, and at the next, holds up to the next
one_more :
    (P : ℕ → Type 0) (a n : ℕ) → ((i : ℕ) → a ≤ i → i ≤ a + n → P i) → P (a + suc n) → (i : ℕ) → a ≤ i → i ≤ a + suc n →
    P i
one_more P a n before here i h k =
    elim (dec_le i (a + n)) [
      | yes m ↦ before i h m
      | no m ↦ (let e : a + suc n ≡ i = omega arith in subst P e here)
    ]

module _ (f : ℕ → ℕ) (a n s : ℕ) (e : Earliest f a n s) where
  taken : f (a + suc n) < f s → Earliest f a (suc n) (a + suc n)
  taken h = record {
    from = omega arith;
    upto = omega arith;
    below = one_more (λ i. f (a + suc n) ≤ f i) a n (λ i u v. omega (arith, e.below i u v)) (omega arith);
    first = λ i u v. omega (arith, e.below i u (omega arith));
  }

  kept : f s ≤ f (a + suc n) → Earliest f a (suc n) s
  kept h = record {
    from = e.from;
    upto = omega arith;
    below = one_more (λ i. f s ≤ f i) a n e.below h;
    first = e.first;
  }

  grown : (b : Bool) → better (f (a + suc n)) (f s) ≡ b → Earliest f a (suc n) (cond b (a + suc n) s)
  grown true q = taken (better_true (f (a + suc n)) (f s) q)
  grown false q = kept (better_false (f (a + suc n)) (f s) q)

pub earliest_is : (f : ℕ → ℕ) (a n : ℕ) → Earliest f a n (earliest f a n)
unfolding earliest
earliest_is f a zero = record {
  from = omega arith;
  upto = omega arith;
  below = λ i h k. (let e : a ≡ i = omega arith in omega (arith, ap f e));
  first = λ i h k. omega arith;
}
earliest_is f a (suc n) = grown f a n (earliest f a n) (earliest_is f a n) _ refl

-- there is only one such place
pub earliest_only : (f : ℕ → ℕ) (a n s r : ℕ) → Earliest f a n s → Earliest f a n r → s ≡ r
earliest_only f a n s r d e =
    elim (dec_le s r) [
      | yes h ↦ elim (dec_le r s) [
        | yes k ↦ omega arith
        | no k ↦ omega (arith, e.first s d.from (omega arith), d.below r e.from e.upto)
      ]
      | no h ↦ omega (arith, d.first r e.from (omega arith), e.below s d.from d.upto)
    ]

-- it goes by the values of f at those places alone
pub earliest_same : (f g : ℕ → ℕ) (a n : ℕ) → ((i : ℕ) → a ≤ i → i ≤ a + n → f i ≡ g i) → earliest f a n ≡ earliest g a n
earliest_same f g a n e =
    let d : Earliest f a n (earliest f a n) = earliest_is f a n in
    let here : f (earliest f a n) ≡ g (earliest f a n) = e (earliest f a n) d.from d.upto in
    earliest_only g a n (earliest f a n) (earliest g a n)
    (record {
      from = d.from;
      upto = d.upto;
      below = λ i h k. omega (arith, e i h k, d.below i h k);
      first = λ i h k. omega (arith, e i h (omega (arith, d.upto)), d.first i h k);
    })
    (earliest_is g a n)
