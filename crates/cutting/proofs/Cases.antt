-- Worked examples, computed from the definitions in one table: the choice among equals, a best cutting that no split of
-- the best in fewer gives, and a least length of 2.
-- Assumes nothing.
use Prim.Native.Nat.{ℕ}
use mathlib.Core.Path.{◌≡◌, refl}
use mathlib.Core.Bool.{cond, ◌&&◌}
use mathlib.Core.List.{List, [], ◌∷◌, map}
use lib.Dec.{ltb}
use lib.ListN.{get_or}
use Rattle.cutting.specs.Recurrence.{earliest, place, least, last, walk, least_in, chosen_in}

-- a segment that passes over the index i costs 1, and every other nothing
jump : ℕ → ℕ → ℕ → ℕ
jump i s t = cond (ltb s i && ltb i t) 1 0

-- four observations of which the two in the middle lie nearest to each other
middle : ℕ → ℕ → ℕ
middle s t =
    get_or
    (get_or
    ((0 ∷ 0 ∷ 2 ∷ 9 ∷ 16 ∷ []) ∷ (0 ∷ 0 ∷ 0 ∷ 1 ∷ 9 ∷ []) ∷ (0 ∷ 0 ∷ 0 ∷ 0 ∷ 2 ∷ []) ∷ (0 ∷ 0 ∷ 0 ∷ 0 ∷ 0 ∷ []) ∷ [])
    s
    [])
    t
    0

-- n observations of cost w, to be cut into d segments of at least l
record Case : Type 0 where
  w : ℕ → ℕ → ℕ
  l : ℕ
  d : ℕ
  n : ℕ

record Answer : Type 0 where
  cost : ℕ
  at : List ℕ

answer : Case → Answer
answer c = record { cost = least_in c.w c.l 0 c.d c.n; at = chosen_in c.w c.l 0 c.d c.n }

cases : List Case
cases =
    -- 0 0 10 10: in three segments 0 1 2 and not 0 2 3, which costs as little
    record { w = jump 2; l = 1; d = 1; n = 4 }
    ∷ record { w = jump 2; l = 1; d = 2; n = 4 }
    ∷ record { w = jump 2; l = 1; d = 3; n = 4 }
    -- in two segments the middle is cut, in three it is kept
    ∷ record { w = middle; l = 1; d = 2; n = 4 }
    ∷ record { w = middle; l = 1; d = 3; n = 4 }
    -- segments of two or more: a jump before the last observation cannot be cut out, and three segments may cost more than two
    ∷ record { w = jump 5; l = 2; d = 2; n = 6 }
    ∷ record { w = jump 3; l = 2; d = 2; n = 6 }
    ∷ record { w = jump 3; l = 2; d = 3; n = 6 }
    ∷ []

answers : List Answer
answers =
    record { cost = 1; at = 0 ∷ [] }
    ∷ record { cost = 0; at = 0 ∷ 2 ∷ [] }
    ∷ record { cost = 0; at = 0 ∷ 1 ∷ 2 ∷ [] }
    ∷ record { cost = 4; at = 0 ∷ 2 ∷ [] }
    ∷ record { cost = 1; at = 0 ∷ 1 ∷ 3 ∷ [] }
    ∷ record { cost = 1; at = 0 ∷ 2 ∷ [] }
    ∷ record { cost = 0; at = 0 ∷ 3 ∷ [] }
    ∷ record { cost = 1; at = 0 ∷ 2 ∷ 4 ∷ [] }
    ∷ []

worked : map answer cases ≡ answers
unfolding answer cases answers jump middle earliest place least last walk
worked = refl
