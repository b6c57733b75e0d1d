-- The widths and limits of a record, by name. How many observations and segments there are at most is in `cutting`, how many channels in `kernel`.
use Rattle.std.specs.Prelude.{ℕ, ◌*◌}

-- "kernel not 1, 2, 3", "sample kind not 0 or 1"
abbrev pub most_kernel : ℕ
most_kernel = 3

abbrev pub most_kind : ℕ
most_kind = 1

-- a kernel's number and a sample kind, a byte each: more than a byte holds, and than both hold
abbrev pub byte_limit : ℕ
byte_limit = 256

abbrev pub pair_limit : ℕ
pair_limit = byte_limit * byte_limit

-- "2 bytes a channel, kernel then sample kind", "four pairs of kernel and sample kind (8 ..)"
abbrev pub pair_bytes : ℕ
pair_bytes = 2

abbrev pub pairs_bytes : ℕ
pairs_bytes = 8

-- "an observation is the day and 8 bytes per channel"
abbrev pub day_bytes : ℕ
day_bytes = 4

abbrev pub sample_bytes : ℕ
sample_bytes = 8
