-- The numbers that the rules fix for records and their tables, by name.
-- Assumes nothing.
use Rattle.std.specs.Prelude.{ℕ}

-- "Observations n: 1 to 400."
abbrev pub most_observations : ℕ
most_observations = 400

-- "Segment count asked for, Dmax: 1 to 12 and no more than n."
abbrev pub most_segments : ℕ
most_segments = 12

-- "every segment is nonempty"
abbrev pub least_length : ℕ
least_length = 1

-- "Tables are little-endian entries of 8 and 2 bytes": the costs' and the starts'.
abbrev pub cost_bytes : ℕ
cost_bytes = 8

abbrev pub start_bytes : ℕ
start_bytes = 2
