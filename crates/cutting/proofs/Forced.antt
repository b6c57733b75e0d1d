-- The cheapest cutting that has a start at a given index is the chosen one for another segment cost, `forced`, under
-- which a segment that passes over the index costs `big` more. So it needs no theory of its own.
-- Assumes nothing.
use Prim.Native.Nat.{ℕ, ◌+◌, ◌≤◌, ◌<◌}
use mathlib.Core.Path.{◌≡◌}
use mathlib.Core.Bool.{Bool, true, false, cond, ◌&&◌}
use mathlib.Core.Logic.{◌⊎◌, inl, inr, ⊎_elim}
use mathlib.Core.List.{List, [], ◌∷◌, ◌++◌, reverse-cons}
use native.Mathlib.Omega.{arith}
use native.Mathlib.Decide.{dec_lt}
use lib.Dec.{ltb}
use lib.ListN.{length}
use borrow.Author.Tests.{lt-ltb, le-ltb}
use Rattle.cutting.specs.Costs.{forced}
use Rattle.cutting.specs.Cutting.{StartsAt}
use Rattle.cutting.specs.Recurrence.{room, chosen, starts}
use Rattle.cutting.proofs.Cuts.{Cuts, cost_back}
use Rattle.cutting.proofs.Least.{chosen_cuts, chosen_back}
use Rattle.cutting.proofs.Order.{FirstBack}

-- ---- a start at i: p, or one of the cuts
abbrev pub StartsBack : ℕ → ℕ → List ℕ → Type 0
StartsBack i p [] = i ≡ p
StartsBack i p (s ∷ c) = (i ≡ s) ⊎ StartsBack i p c

starts_more : (i s : ℕ) (c : List ℕ) → StartsAt i (c ++ (s ∷ [])) → (i ≡ s) ⊎ StartsAt i c
starts_more i s [] (inl e) = inl e
starts_more i s [] (inr e) = absurd e
starts_more i s (r ∷ c) (inl e) = inr (inl e)
starts_more i s (r ∷ c) (inr e) = ⊎_elim (λ q. inl q) (λ q. inr (inr q)) (starts_more i s c e)

starts_less : (i s : ℕ) (c : List ℕ) → (i ≡ s) ⊎ StartsAt i c → StartsAt i (c ++ (s ∷ []))
starts_less i s [] q = q
starts_less i s (r ∷ c) (inl e) = inr (starts_less i s c (inl e))
starts_less i s (r ∷ c) (inr (inl e)) = inl e
starts_less i s (r ∷ c) (inr (inr e)) = inr (starts_less i s c (inr e))

pub to_back : (i p : ℕ) (c : List ℕ) → StartsAt i (starts p c) → StartsBack i p c
to_back i p [] (inl e) = e
to_back i p [] (inr e) = absurd e
to_back i p (s ∷ c) h =
    ⊎_elim (λ q. inl q) (λ q. inr (to_back i p c q)) (starts_more i s (starts p c) (rw (reverse-cons s c) at h))

pub from_back : (i p : ℕ) (c : List ℕ) → StartsBack i p c → StartsAt i (starts p c)
from_back i p [] e = inl e
from_back i p (s ∷ c) h =
    rw (reverse-cons s c) (starts_less i s (starts p c) (⊎_elim (λ q. inl q) (λ q. inr (from_back i p c q)) h))

-- ---- the costs
module _ (w : ℕ → ℕ → ℕ) (big i : ℕ) where
  over : (s t : ℕ) → s < i → i < t → forced w big i s t ≡ w s t + big
  unfolding forced
  over s t h k = rw (lt-ltb s i h, lt-ltb i t k)

  after : (s t : ℕ) → i ≤ s → forced w big i s t ≡ w s t
  unfolding forced
  after s t h = rw (le-ltb s i h) (omega arith)

  before : (s t : ℕ) → t ≤ i → forced w big i s t ≡ w s t
  unfolding forced
  before s t h = go (ltb s i)
    where
      go : (b : Bool) → w s t + cond (b && ltb i t) big 0 ≡ w s t
      go true = rw (le-ltb i t h) (omega arith)
      go false = omega arith

  module _ (l p : ℕ) where
    -- a cutting that ends by i costs what it did
    ends_before : (c : List ℕ) (t : ℕ) → Cuts l p t c → t ≤ i → cost_back (forced w big i) p t c ≡ cost_back w p t c
    ends_before [] t h k = before p t k
    ends_before (s ∷ c) t h k = omega (arith, ends_before c s h.1 (omega arith), before s t k)

    -- one that passes over i costs as before with a start there, and big more with none
    forced_cost :
        (c : List ℕ) (t : ℕ) → Cuts l p t c → p ≤ i → i < t →
        (StartsBack i p c × (cost_back (forced w big i) p t c ≡ cost_back w p t c))
        ⊎ (cost_back (forced w big i) p t c ≡ cost_back w p t c + big)
    forced_cost [] t h a b =
        elim (dec_lt p i) [ yes lt ↦ inr (over p t lt b) | no ge ↦ inl (omega arith, after p t (omega arith)) ]
    forced_cost (s ∷ c) t h a b =
        elim (dec_lt s i) [
          | yes lt ↦ inr (omega (arith, over s t lt b, ends_before c s h.1 (omega arith)))
          | no ge ↦ elim (dec_lt i s) [
            | yes lt ↦ ⊎_elim
                (λ q. inl (inr q.0, omega (arith, q.1, after s t (omega arith))))
                (λ q. inr (omega (arith, after s t (omega arith))))
                (forced_cost c s h.1 a lt)
            | no ne ↦ inl (inl (omega arith), omega (arith, after s t (omega arith), ends_before c s h.1 (omega arith)))
          ]
        ]

    module _ (one : 1 ≤ l) where
      start_below : (c : List ℕ) (t : ℕ) → Cuts l p t c → StartsBack i p c → i < t
      start_below [] t h e = omega arith
      start_below (s ∷ c) t h (inl e) = omega arith
      start_below (s ∷ c) t h (inr e) = omega (arith, start_below c s h.1 e)

      start_cost : (c : List ℕ) (t : ℕ) → Cuts l p t c → StartsBack i p c → cost_back (forced w big i) p t c ≡ cost_back w p t c
      start_cost [] t h e = after p t (omega arith)
      start_cost (s ∷ c) t h (inl e) = omega (arith, after s t (omega arith), ends_before c s h.1 (omega arith))
      start_cost (s ∷ c) t h (inr e) =
          omega (arith, after s t (omega (arith, start_below c s h.1 e)), start_cost c s h.1 e)

      -- of the cuttings with a start at i, if one costs less than big, the chosen one of the other cost is the choice by the rule
      module _ (k t : ℕ) (h : room l p k ≤ t) (a : p ≤ i) (d : List ℕ) (g : Cuts l p t d) (e : length d ≡ k) (f : StartsBack i p d)
          (m : cost_back w p t d < big) where
        pub forced_start : StartsBack i p (chosen (forced w big i) l p k t)
        forced_start =
            let q = chosen_back (forced w big i) l p k t in
            ⊎_elim (λ r. r.0) (λ r. absurd (omega (arith, q.cheapest d g e tt, start_cost d t g f)))
            (forced_cost (chosen (forced w big i) l p k t) t (chosen_cuts (forced w big i) l p k t h) a (start_below d t g f))

        pub forced_back : FirstBack w l p k t (StartsBack i p) (chosen (forced w big i) l p k t)
        forced_back =
            let c : List ℕ = chosen (forced w big i) l p k t in
            let q = chosen_back (forced w big i) l p k t in
            let same : cost_back (forced w big i) p t c ≡ cost_back w p t c =
            start_cost c t (chosen_cuts (forced w big i) l p k t h) forced_start
            in
            record {
              count = q.count;
              cheapest = λ b n x r. omega (arith, q.cheapest b n x tt, start_cost b t n r);
              first = λ b n x r y. q.first b n x tt (omega (arith, start_cost b t n r));
            }
