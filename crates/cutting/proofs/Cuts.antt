-- A cutting by its cuts: the starts of all its segments but the first, from the last back. That is how the recurrence
-- makes them, so the laws are proved of these; `Order` carries them to the cuttings of specs/. How much room one needs,
-- two joined at a place, and two costs of one.
-- Assumes nothing.
use Prim.Native.Nat.{ℕ, ◌+◌, ◌≤◌}
use mathlib.Core.Path.{◌≡◌, refl, ap₂}
use mathlib.Core.List.{List, [], ◌∷◌, ◌++◌}
use native.Mathlib.Omega.{arith}
use lib.ListN.{length}
use Rattle.cutting.specs.Costs.{Agree}
use Rattle.cutting.specs.Recurrence.{room}

-- `s ∷ c` has the last segment s .. t-1, and c cuts what lies before it. A cutting into D segments has D - 1 cuts.
abbrev pub Cuts : ℕ → ℕ → ℕ → List ℕ → Type 0
Cuts l p t [] = p + l ≤ t
Cuts l p t (s ∷ c) = (s + l ≤ t) × Cuts l p s c

-- the sum of its segments' costs
abbrev pub cost_back : (ℕ → ℕ → ℕ) → ℕ → ℕ → List ℕ → ℕ
cost_back w p t [] = w p t
cost_back w p t (s ∷ c) = cost_back w p s c + w s t

-- a cutting needs l observations for each of its segments
pub cuts_room : (l p : ℕ) (c : List ℕ) (t : ℕ) → Cuts l p t c → room l p (length c) ≤ t
cuts_room l p [] t h = omega arith
cuts_room l p (s ∷ c) t h = omega (arith, cuts_room l p c s h.1)

-- a cutting of p .. s-1 and one of s .. t-1 make one of p .. t-1
pub cuts_join : (l p s : ℕ) (c d : List ℕ) (t : ℕ) → Cuts l p s c → Cuts l s t d → Cuts l p t (d ++ (s ∷ c))
cuts_join l p s c [] t h k = (k, h)
cuts_join l p s c (r ∷ d) t h k = (k.0, cuts_join l p s c d r h k.1)

pub cost_join :
    (w : ℕ → ℕ → ℕ) (p s : ℕ) (c d : List ℕ) (t : ℕ) →
    cost_back w p t (d ++ (s ∷ c)) ≡ cost_back w p s c + cost_back w s t d
cost_join w p s c [] t = refl
cost_join w p s c (r ∷ d) t = omega (arith, cost_join w p s c d r)

-- two costs of one cutting, where the segments' costs agree
pub cost_same :
    (v w : ℕ → ℕ → ℕ) (l p n : ℕ) → Agree v w l p n → (c : List ℕ) (t : ℕ) → Cuts l p t c → t ≤ n →
    cost_back v p t c ≡ cost_back w p t c
cost_same v w l p n e [] t h k = e p t (omega arith) h k
cost_same v w l p n e (s ∷ c) t h k =
    ap₂ ◌+◌ (cost_same v w l p n e c s h.1 (omega arith)) (e s t (omega (arith, cuts_room l p c s h.1)) h.0 k)
