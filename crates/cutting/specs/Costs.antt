-- What may hold of segment costs: two that agree, one that is another's mirror image or another rounded down, bounds,
-- and a cost under which a given start is forced. Where a property is asked of the segments of p .. n-1, it is asked of
-- those with at least l observations.
-- Assumes nothing.
use Rattle.std.specs.Prelude.{ℕ, ◌+◌, ◌-◌, ◌*◌, ◌≤◌, ◌<◌, ◌≡◌, cond, ◌&&◌, ltb}

-- v and w agree on every segment.
abbrev pub Agree : (ℕ → ℕ → ℕ) → (ℕ → ℕ → ℕ) → ℕ → ℕ → ℕ → Type 0
Agree v w l p n = (s t : ℕ) → p ≤ s → s + l ≤ t → t ≤ n → v s t ≡ w s t

-- The costs of the mirror image of n observations: the segment s .. t-1 of the image is n-t .. n-s-1 of the run.
abbrev pub mirror : (ℕ → ℕ → ℕ) → ℕ → ℕ → ℕ → ℕ
mirror w n s t = w (n - t) (n - s)

-- On every segment, w is u times v over m, rounded down. For costs in units u is 4,096, m the least common multiple of 1
-- to 400, and v the true cost times m.
abbrev pub Rounds : (ℕ → ℕ → ℕ) → (ℕ → ℕ → ℕ) → ℕ → ℕ → ℕ → ℕ → ℕ → Type 0
Rounds v w u m l p n =
    (s t : ℕ) → p ≤ s → s + l ≤ t → t ≤ n → (m * w s t ≤ u * v s t) × (u * v s t < m * (w s t + 1))

-- No segment costs more than b for each of its observations.
abbrev pub Within : (ℕ → ℕ → ℕ) → ℕ → ℕ → ℕ → ℕ → Type 0
Within w b l p n = (s t : ℕ) → p ≤ s → s + l ≤ t → t ≤ n → w s t + b * s ≤ b * t

-- Splitting a segment never costs more.
abbrev pub Splittable : (ℕ → ℕ → ℕ) → ℕ → ℕ → Type 0
Splittable w p n = (s m t : ℕ) → p ≤ s → s < m → m < t → t ≤ n → w s m + w m t ≤ w s t

-- The cost under which a segment that passes over the index i costs `big` more, so that a cutting with a start at i is preferred.
unfoldable pub forced : (ℕ → ℕ → ℕ) → ℕ → ℕ → ℕ → ℕ → ℕ
forced w big i s t = w s t + cond (ltb s i && ltb i t) big 0
