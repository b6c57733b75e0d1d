-- A cutting by its cuts, from the last back, is one by its segments' first indices, in order: the same segments, the
-- same cost, and the same order among those that are compared.
-- Assumes nothing.
use Prim.Native.Nat.{ℕ, zero, suc, ◌+◌, ◌≤◌, ◌<◌}
use mathlib.Core.Path.{◌≡◌, refl, sym, ap, ◌∙◌}
use mathlib.Core.Logic.{inl, inr}
use mathlib.Core.List.{List, [], ◌∷◌, ◌++◌, reverse, reverse-cons, reverse-reverse}
use native.Mathlib.Omega.{arith}
use lib.ListN.{length, get_or, length-reverse}
use Rattle.cutting.specs.Cutting.{InOrder, Cutting, cost, NoLater, First}
use Rattle.cutting.specs.Recurrence.{starts}
use Rattle.cutting.proofs.Cuts.{Cuts, cost_back}

-- ---- the segments
in_order_more :
    (l t p s : ℕ) (c : List ℕ) → InOrder l s (p ∷ c) → s + l ≤ t → InOrder l t (p ∷ (c ++ (s ∷ [])))
in_order_more l t p s [] h k = (h, k)
in_order_more l t p s (r ∷ c) h k = (h.0, in_order_more l t r s c h.1 k)

in_order_less :
    (l t p s : ℕ) (c : List ℕ) → InOrder l t (p ∷ (c ++ (s ∷ []))) → (s + l ≤ t) × InOrder l s (p ∷ c)
in_order_less l t p s [] h = (h.1, h.0)
in_order_less l t p s (r ∷ c) h =
    let q = in_order_less l t r s c h.1 in
    (q.0, (h.0, q.1))

-- each segment but the first starts behind the first, and before the end
head_inside : (l t s : ℕ) (c : List ℕ) → 1 ≤ l → InOrder l t (s ∷ c) → s < t
head_inside l t s [] one h = omega (arith, h)
head_inside l t s (r ∷ c) one h = omega (arith, h.0, head_inside l t r c one h.1)

in_order_inside : (l t s : ℕ) (c : List ℕ) → 1 ≤ l → InOrder l t (s ∷ c) → (i : ℕ) → i < length c → (s < get_or c i 0) × (get_or c i 0 < t)
in_order_inside l t s [] one h i b = absurd (omega arith)
in_order_inside l t s (r ∷ c) one h zero b = (omega (arith, h.0), head_inside l t r c one h.1)
in_order_inside l t s (r ∷ c) one h (suc i) b =
    let q = in_order_inside l t r c one h.1 i (omega arith) in
    (omega (arith, h.0, q.0), q.1)

pub starts_inside :
    (l p d t : ℕ) (c : List ℕ) → 1 ≤ l → Cutting l p d t c → (i : ℕ) → 1 ≤ i → i < d → (p < get_or c i 0) × (get_or c i 0 < t)
starts_inside l p d t [] one g i a b = absurd g.begins
starts_inside l p d t (s ∷ c) one g zero a b = absurd (omega arith)
starts_inside l p d t (s ∷ c) one g (suc i) a b =
    let q = in_order_inside l t s c one g.segments i (omega (arith, g.count)) in
    (omega (arith, g.begins, q.0), q.1)

to_order : (l p : ℕ) (c : List ℕ) (t : ℕ) → Cuts l p t c → InOrder l t (starts p c)
to_order l p [] t h = h
to_order l p (s ∷ c) t h = rw (reverse-cons s c) (in_order_more l t p s (reverse c) (to_order l p c s h.1) h.0)

from_order : (l p : ℕ) (c : List ℕ) (t : ℕ) → InOrder l t (starts p c) → Cuts l p t c
from_order l p [] t h = h
from_order l p (s ∷ c) t h =
    let q = in_order_less l t p s (reverse c) (rw (reverse-cons s c) at h) in
    (q.0, from_order l p c s q.1)

pub to_cutting : (l p : ℕ) (c : List ℕ) (t : ℕ) → Cuts l p t c → Cutting l p (suc (length c)) t (starts p c)
to_cutting l p c t h = record { begins = refl; segments = to_order l p c t h; count = ap suc (length-reverse c) }

-- what a cutting in order is: some cuts, in order
pub record ByCuts (l p d t : ℕ) (b : List ℕ) : Type 0 where
  pub back : List ℕ
  pub same : starts p back ≡ b
  pub cuts : Cuts l p t back
  pub count : suc (length back) ≡ d

pub by_cuts : (l p d t : ℕ) (b : List ℕ) → Cutting l p d t b → ByCuts l p d t b
by_cuts l p d t [] g = absurd g.begins
by_cuts l p d t (s ∷ b) g =
    let same : starts p (reverse b) ≡ s ∷ b =
    ap (λ (c : List ℕ). p ∷ c) (reverse-reverse b) ∙ ap (λ (i : ℕ). i ∷ b) (sym g.begins)
    in
    record {
      back = reverse b;
      same = same;
      cuts = from_order l p (reverse b) t (rw same g.segments);
      count = omega (arith, length-reverse b, g.count);
    }

-- ---- the cost
cost_more : (w : ℕ → ℕ → ℕ) (t p s : ℕ) (c : List ℕ) → cost w t (p ∷ (c ++ (s ∷ []))) ≡ cost w s (p ∷ c) + w s t
cost_more w t p s [] = refl
cost_more w t p s (r ∷ c) = omega (arith, cost_more w t r s c)

pub cost_order : (w : ℕ → ℕ → ℕ) (p : ℕ) (c : List ℕ) (t : ℕ) → cost w t (starts p c) ≡ cost_back w p t c
cost_order w p [] t = refl
cost_order w p (s ∷ c) t = rw (reverse-cons s c) (omega (arith, cost_more w t p s (reverse c), cost_order w p c s))

-- ---- the order among cuttings
no_later_more : (p : ℕ) (c b : List ℕ) → length c ≡ length b → NoLater c b → NoLater (c ++ (p ∷ [])) (b ++ (p ∷ []))
no_later_more p [] [] e h = inr (refl, tt)
no_later_more p [] (r ∷ b) e h = absurd (omega arith)
no_later_more p (s ∷ c) [] e h = absurd h
no_later_more p (s ∷ c) (r ∷ b) e (inl h) = inl h
no_later_more p (s ∷ c) (r ∷ b) e (inr h) = inr (h.0, no_later_more p c b (omega arith) h.1)

pub no_later_order :
    (p : ℕ) (c b : List ℕ) → length c ≡ length b → NoLater c b → NoLater (reverse (starts p c)) (reverse (starts p b))
no_later_order p c b e h =
    rw (reverse-cons p (reverse c), reverse-cons p (reverse b), reverse-reverse c, reverse-reverse b) (no_later_more p c b e h)

-- two lists that come no later than each other are the same
no_later_same : (c d : List ℕ) → NoLater c d → NoLater d c → c ≡ d
no_later_same [] [] h k = refl
no_later_same [] (r ∷ d) h k = absurd k
no_later_same (s ∷ c) [] h k = absurd h
no_later_same (s ∷ c) (r ∷ d) (inl h) (inl k) = absurd (omega arith)
no_later_same (s ∷ c) (r ∷ d) (inl h) (inr k) = absurd (omega arith)
no_later_same (s ∷ c) (r ∷ d) (inr h) (inl k) = absurd (omega arith)
no_later_same (s ∷ c) (r ∷ d) (inr h) (inr k) =
    let tails : c ≡ d = no_later_same c d h.1 k.1 in
    let heads : s ≡ r = h.0 in
    cc

-- the rule leaves one choice, among whatever lists
pub first_only : (P : List ℕ → Type 0) (f : List ℕ → ℕ) (b c : List ℕ) → First P f b → First P f c → b ≡ c
first_only P f b c g h =
    let low : f b ≤ f c = g.cheapest c h.member in
    let high : f c ≤ f b = h.cheapest b g.member in
    let back : reverse b ≡ reverse c =
    no_later_same (reverse b) (reverse c) (g.first c h.member (omega arith)) (h.first b g.member (omega arith))
    in
    sym (reverse-reverse b) ∙ ap reverse back ∙ reverse-reverse c

-- The rule, on cuts: of those with k cuts that have Q, c costs least, and of those that cost as little it comes first.
pub record FirstBack (w : ℕ → ℕ → ℕ) (l p k t : ℕ) (Q : List ℕ → Type 0) (c : List ℕ) : Type 0 where
  pub count : length c ≡ k
  pub cheapest : (b : List ℕ) → Cuts l p t b → length b ≡ k → Q b → cost_back w p t c ≤ cost_back w p t b
  pub first :
      (b : List ℕ) → Cuts l p t b → length b ≡ k → Q b → cost_back w p t b ≡ cost_back w p t c → NoLater c b

-- then its starts are the choice among the cuttings into k + 1 segments that have P, where Q says of cuts what P says of starts
pub first_order :
    (w : ℕ → ℕ → ℕ) (l p k t : ℕ) (P Q : List ℕ → Type 0) → ((b : List ℕ) → P b → Cutting l p (suc k) t b) →
    ((b : List ℕ) → P (starts p b) → Q b) → (c : List ℕ) → P (starts p c) → FirstBack w l p k t Q c →
    First P (cost w t) (starts p c)
first_order w l p k t P Q cutting has c m g = record {
  member = m;
  cheapest = λ b h. omega (arith, costs b h, cost_order w p c t, g.cheapest (cut b h).back (cut b h).cuts (counts b h) (keeps b h));
  first = λ b h e. rw (← (cut b h).same) (no_later_order p c (cut b h).back (omega (arith, counts b h, g.count))
      (g.first (cut b h).back (cut b h).cuts (counts b h) (keeps b h) (omega (arith, costs b h, cost_order w p c t))));
}
  where
    cut : (b : List ℕ) → P b → ByCuts l p (suc k) t b
    cut b h = by_cuts l p (suc k) t b (cutting b h)

    costs : (b : List ℕ) (h : P b) → cost w t b ≡ cost_back w p t (cut b h).back
    costs b h = sym (ap (cost w t) (cut b h).same) ∙ cost_order w p (cut b h).back t

    counts : (b : List ℕ) (h : P b) → length (cut b h).back ≡ k
    counts b h = omega (arith, (cut b h).count)

    keeps : (b : List ℕ) (h : P b) → Q (cut b h).back
    keeps b h = has (cut b h).back (rw (cut b h).same h)
