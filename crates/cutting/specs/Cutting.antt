-- Cuttings of a run of observations into segments, their cost, and the choice among them. The run is p .. t-1, `w s t`
-- is the cost of the one segment s .. t-1, and `l` is the least number of observations in a segment. A record's own
-- cuttings are those with p = 0 and the `least_length` of `Limits`.
-- Assumes nothing.
use Rattle.std.specs.Prelude.{ℕ, ◌+◌, ◌≤◌, ◌<◌, ◌≡◌, ◌⊎◌, List, [], ◌∷◌, reverse, length}

-- The list begins with p.
abbrev pub BeginsAt : ℕ → List ℕ → Type 0
BeginsAt p [] = ⊥
BeginsAt p (s ∷ c) = s ≡ p

-- Segments that begin at the list's indices, one after the other, the last of which ends at t: each has at least l observations.
abbrev pub InOrder : ℕ → ℕ → List ℕ → Type 0
InOrder l t [] = Unit {0}
InOrder l t (s ∷ []) = s + l ≤ t
InOrder l t (s ∷ (r ∷ c)) = (s + l ≤ r) × InOrder l t (r ∷ c)

-- "A cutting into D segments is the list of its segments' first indices; the first is 0 and every segment is nonempty."
-- Here the first is p, where the run begins, and every segment has at least l observations: with l = 1 it is nonempty.
pub record Cutting (l p d t : ℕ) (c : List ℕ) : Type 0 where
  pub begins : BeginsAt p c
  pub segments : InOrder l t c
  pub count : length c ≡ d

-- "A cutting's cost is the sum over its segments."
abbrev pub cost : (ℕ → ℕ → ℕ) → ℕ → List ℕ → ℕ
cost w t [] = 0
cost w t (s ∷ []) = w s t
cost w t (s ∷ (r ∷ c)) = w s r + cost w t (r ∷ c)

-- The first list comes no later than the second: at the first place where they differ, it has the smaller number.
abbrev pub NoLater : List ℕ → List ℕ → Type 0
NoLater [] d = Unit {0}
NoLater (s ∷ c) [] = ⊥
NoLater (s ∷ c) (r ∷ d) = (s < r) ⊎ ((s ≡ r) × NoLater c d)

-- "Among least-cost cuttings, take the one whose last segment starts earliest; then, among these, the one whose segment
-- before it starts earliest; and so on." Of the lists that have P, c has the least f, and of those with as little it
-- comes first, compared from the last index back.
pub record First (P : List ℕ → Type 0) (f : List ℕ → ℕ) (c : List ℕ) : Type 0 where
  pub member : P c
  pub cheapest : (b : List ℕ) → P b → f c ≤ f b
  pub first : (b : List ℕ) → P b → f b ≡ f c → NoLater (reverse c) (reverse b)

-- The rule for the choice, among all cuttings into d segments.
abbrev pub Choice : (ℕ → ℕ → ℕ) → ℕ → ℕ → ℕ → ℕ → List ℕ → Type 0
Choice w l p d t c = First (Cutting l p d t) (cost w t) c

-- One of the cutting's segments starts at i.
abbrev pub StartsAt : ℕ → List ℕ → Type 0
StartsAt i [] = ⊥
StartsAt i (s ∷ c) = (i ≡ s) ⊎ StartsAt i c

-- The rule among those cuttings into d segments that have a start at i.
abbrev pub ChoiceAt : ℕ → (ℕ → ℕ → ℕ) → ℕ → ℕ → ℕ → ℕ → List ℕ → Type 0
ChoiceAt i w l p d t c = First (λ b. Cutting l p d t b × StartsAt i b) (cost w t) c

-- m is the least of f over the places that have P.
pub record LeastOf (f : ℕ → ℕ) (P : ℕ → Type 0) (m : ℕ) : Type 0 where
  pub below : (s : ℕ) → P s → m ≤ f s
  pub where_at : ℕ
  pub there : P where_at
  pub attained : f where_at ≡ m
