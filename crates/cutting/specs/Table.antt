-- The entries of the two tables. Row k, counted from 0, is that of D = k + 1 segments, and column t that of the first t
-- observations. "Where t is less than D, no cutting exists: the entries are 18,446,744,073,709,551,615 and 65,535." With
-- a least length l there is none where t is less than D * l.
-- Assumes nothing.
use Rattle.std.specs.Prelude.{ℕ, cond, ltb}
use Rattle.cutting.specs.Recurrence.{room, least_from, last_from, least, last}

abbrev pub no_cost : ℕ
no_cost = 18446744073709551615

abbrev pub no_start : ℕ
no_start = 65535

-- The mark `none` where row k of column t has no cutting, and x where it has one.
abbrev pub or_none : ℕ → ℕ → ℕ → ℕ → ℕ → ℕ
or_none none l k t x = cond (ltb t (room l 0 k)) none x

-- "the least cost of the first t observations in D segments"
unfoldable pub cost_at : (ℕ → ℕ → ℕ) → ℕ → ℕ → ℕ → ℕ
cost_at w l k t = or_none no_cost l k t (least w l 0 k t)

-- "the start of the chosen last segment"
unfoldable pub start_at : (ℕ → ℕ → ℕ) → ℕ → ℕ → ℕ → ℕ
start_at w l k t = or_none no_start l k t (last w l 0 k t)

-- The same worked from rows that a table holds: `rows j s` is to be the least cost of row j, column s, for j below k.
unfoldable pub cost_from : (ℕ → ℕ → ℕ) → ℕ → (ℕ → ℕ → ℕ) → ℕ → ℕ → ℕ
cost_from w l rows k t = or_none no_cost l k t (least_from w l 0 rows k t)

unfoldable pub start_from : (ℕ → ℕ → ℕ) → ℕ → (ℕ → ℕ → ℕ) → ℕ → ℕ → ℕ
start_from w l rows k t = or_none no_start l k t (last_from w l 0 rows k t)
