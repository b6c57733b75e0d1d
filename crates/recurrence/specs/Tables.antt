-- Both tables, for any segment cost w.
use Rattle.std.specs.Prelude.{ℕ, ◌+◌, ◌-◌, ◌*◌, ◌≤◌, List, length}
use Rattle.table.specs.Fill.{entry, cell, fill}
use Rattle.cutting.specs.Limits.{most_observations, most_segments, least_length, cost_bytes, start_bytes}
use Rattle.cutting.specs.Table.{cost_at, start_at}

-- "Row D, column t (t from 0 to n) is entry (D-1)(n+1)+t, counted from 0, and holds the least cost of the first t observations
-- in D segments, and the start of the chosen last segment." "Entries beyond the used ones keep their values."
abbrev pub cost_table : (ℕ → ℕ → ℕ) → ℕ → ℕ → List ℕ → List ℕ
cost_table w n dmax xs = fill cost_bytes n dmax (cost_at w least_length) (n + 1) xs

abbrev pub start_table : (ℕ → ℕ → ℕ) → ℕ → ℕ → List ℕ → List ℕ
start_table w n dmax ys = fill start_bytes n dmax (start_at w least_length) (n + 1) ys

-- what stands in row D and column t of a cost table xs and of a start table ys
abbrev pub cost_entry : ℕ → List ℕ → (D t : ℕ) → ℕ
cost_entry n xs D t = entry cost_bytes xs (cell n (D - 1) t)

abbrev pub start_entry : ℕ → List ℕ → (D t : ℕ) → ℕ
start_entry n ys D t = entry start_bytes ys (cell n (D - 1) t)

-- "The caller lends a cost table and a start table, each with at least Dmax times (n+1) entries": n and Dmax are within the limits, and
-- xs and ys are so long.
abbrev pub Lent : ℕ → ℕ → List ℕ → List ℕ → Type 0
Lent n dmax xs ys =
    (n ≤ most_observations)
    × (dmax ≤ most_segments)
    × (cost_bytes * (dmax * (n + 1)) ≤ length xs)
    × (start_bytes * (dmax * (n + 1)) ≤ length ys)
