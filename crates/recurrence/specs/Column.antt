-- One column of the two tables, worked from the columns before it: xs is the cost table so far, and cs has the costs of the
-- last segments of the first t observations, by their starts. Row d is for d + 1 segments.
use Rattle.std.specs.Prelude.{ℕ, suc, ◌+◌, ◌^◌, ◌≤◌, ◌<◌, List, get_or}
use Rattle.table.specs.Fill.{entry, cell, fill_column}
use Rattle.cutting.specs.Limits.{least_length, cost_bytes, start_bytes}
use Rattle.cutting.specs.Recurrence.{room}
use Rattle.cutting.specs.Table.{cost_from, start_from}
use Rattle.recurrence.specs.declared.Size.{Size}

-- the rows of a cost table of n + 1 columns, and the costs of the last segments
abbrev pub rows_of : ℕ → List ℕ → ℕ → ℕ → ℕ
rows_of n xs d s = entry cost_bytes xs (cell n d s)

abbrev pub prices_of : List ℕ → ℕ → ℕ → ℕ
prices_of cs s t = get_or cs s 0

-- a cutting of the first s by the entry of a row that begins at `row`, and a last segment from s
abbrev pub sum_at : List ℕ → ℕ → List ℕ → ℕ → ℕ
sum_at xs row cs s = entry cost_bytes xs (row + s) + get_or cs s 0

-- what row d of column t is to hold
abbrev pub cell_cost : Size → List ℕ → List ℕ → ℕ → ℕ → ℕ
cell_cost z xs cs t d = cost_from (prices_of cs) least_length (rows_of z.n xs) d t

abbrev pub cell_start : Size → List ℕ → List ℕ → ℕ → ℕ → ℕ
cell_start z xs cs t d = start_from (prices_of cs) least_length (rows_of z.n xs) d t

-- the cost table with column t so, and the start table ys
abbrev pub cost_column : Size → List ℕ → List ℕ → ℕ → List ℕ
cost_column z xs cs t = fill_column cost_bytes z.n (cell_cost z xs cs t) t z.dmax xs

abbrev pub start_column : Size → List ℕ → List ℕ → ℕ → List ℕ → List ℕ
start_column z xs cs t ys = fill_column start_bytes z.n (cell_start z xs cs t) t z.dmax ys

-- no sum that the column tries wraps
abbrev pub Sums : Size → List ℕ → List ℕ → ℕ → Type 0
Sums z xs cs t =
    (d s : ℕ) → suc d < z.dmax → room least_length 0 d ≤ s → s + least_length ≤ t →
    rows_of z.n xs d s + prices_of cs s t < 2 ^ 64
