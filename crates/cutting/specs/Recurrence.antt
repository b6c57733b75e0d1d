-- The least cost and the chosen cutting, by the recurrence (15) of source 004: L(D, t) is the minimum over s of L(D-1,
-- s) + C(s, t). Here k counts the cuts, which are one fewer than the segments, so that L(D, t) is `least (D-1) t`.
-- Assumes nothing.
use Rattle.std.specs.Prelude.{ℕ, zero, suc, ◌+◌, ◌-◌, ◌*◌, ◌≡◌, Bool, cond, List, [], ◌∷◌, reverse, ltb}

-- Whether a place of value x is taken in place of an earlier one of value y: where it is lower, and not where it is equal.
abbrev pub better : ℕ → ℕ → Bool
better x y = ltb x y

-- The earliest of the places a, a+1, .., a+n at which f is least.
unfoldable pub earliest : (ℕ → ℕ) → ℕ → ℕ → ℕ
earliest f a zero = a
earliest f a (suc n) = let s = earliest f a n in cond (better (f (a + suc n)) (f s)) (a + suc n) s

-- What a loop over the places a, a+1, .. holds when it comes to place i: the least value so far, and the earliest place
-- that has it.
abbrev pub Found : (ℕ → ℕ) → ℕ → ℕ → ℕ → ℕ → Type 0
Found f a i best start = (start ≡ earliest f a (i - (a + 1))) × (best ≡ f start)

-- The smallest end of a run from p that has a cutting with k cuts, into k + 1 segments of at least l observations.
abbrev pub room : ℕ → ℕ → ℕ → ℕ
room l p k = p + suc k * l

-- With k + 1 cuts the last segment of p .. t-1 starts at `room l p k` or up to so many places later, and still has l
-- observations.
abbrev pub span : ℕ → ℕ → ℕ → ℕ → ℕ
span l p k t = t - room l p (suc k)

module _ (w : ℕ → ℕ → ℕ) (l p : ℕ) where
  -- Where the last segment of p .. t-1 starts, with k + 1 cuts, if `row s` is the least cost of p .. s-1 with k:
  -- the earliest place that makes the sum least, of those that leave room for k cuts before it and for one segment after it.
  unfoldable pub place : (ℕ → ℕ) → ℕ → ℕ → ℕ
  place row k t = earliest (λ s. row s + w s t) (room l p k) (span l p k t)

  -- (15) with its right side over any rows: the cost of p .. t-1 with k cuts, and the start of its last segment, if
  -- `rows j s` is the least cost of p .. s-1 with j cuts, for j below k.
  abbrev pub least_from : (ℕ → ℕ → ℕ) → ℕ → ℕ → ℕ
  least_from rows zero t = w p t
  least_from rows (suc k) t = let s = place (rows k) k t in rows k s + w s t

  abbrev pub last_from : (ℕ → ℕ → ℕ) → ℕ → ℕ → ℕ
  last_from rows zero t = p
  last_from rows (suc k) t = place (rows k) k t

  -- The least cost of p .. t-1 with k cuts, by (15) over its own rows; the first asks for none. It is meant where
  -- `room l p k ≤ t`.
  unfoldable pub least : ℕ → ℕ → ℕ
  least zero t = least_from (λ j s. 0) zero t
  least (suc k) t = least_from (λ j s. least k s) (suc k) t

  -- The start of the last segment of the chosen cutting.
  unfoldable pub last : ℕ → ℕ → ℕ
  last k t = last_from least k t

-- "Reading the cuts for one D walks a start table back from n: the cutting of the first s observations in D-1 segments
-- is itself read by the same rule with a smaller count." The starts of all segments but the first, from the last back;
-- `at k t` is the table's entry.
unfoldable pub walk : (ℕ → ℕ → ℕ) → ℕ → ℕ → List ℕ
walk at zero t = []
walk at (suc k) t = at (suc k) t ∷ walk at k (at (suc k) t)

-- The chosen cuts of p .. t-1, from the last back.
abbrev pub chosen : (ℕ → ℕ → ℕ) → ℕ → ℕ → ℕ → ℕ → List ℕ
chosen w l p k t = walk (last w l p) k t

-- The first indices of all segments in order, from the cuts, which stand from the last back.
abbrev pub starts : ℕ → List ℕ → List ℕ
starts p c = p ∷ reverse c

-- The least cost of p .. t-1 in d segments.
abbrev pub least_in : (ℕ → ℕ → ℕ) → ℕ → ℕ → ℕ → ℕ → ℕ
least_in w l p d t = least w l p (d - 1) t

-- The chosen cutting of p .. t-1 in d segments: its segments' first indices, in order.
abbrev pub chosen_in : (ℕ → ℕ → ℕ) → ℕ → ℕ → ℕ → ℕ → List ℕ
chosen_in w l p d t = starts p (chosen w l p (d - 1) t)
