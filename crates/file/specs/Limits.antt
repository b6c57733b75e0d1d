-- The widths and limits of the record file, by name. Those of a record's channels are in `record`.
use Rattle.std.specs.Prelude.{ℕ, ◌+◌}

-- "26: file longer than 65,536 bytes"
abbrev pub most_bytes : ℕ
most_bytes = 65536

-- "21: count of records 0 or above 64", "also for an unknown form"
abbrev pub most_records : ℕ
most_records = 64

abbrev pub most_form : ℕ
most_form = 1

-- "byte 0 is the count of records, byte 1 the form"
abbrev pub count_bytes : ℕ
count_bytes = 1

abbrev pub form_bytes : ℕ
form_bytes = 1

abbrev pub head_bytes : ℕ
head_bytes = count_bytes + form_bytes

-- the largest count that its byte holds, of records and of channels
abbrev pub most_count : ℕ
most_count = 255

-- "an entry has 19 bytes: term number (2), channel count (1), four pairs of kernel and sample kind (8 ..), Dmax (2), n (2), offset (4)": the fields that
-- every form has as wide, or has not at all
abbrev pub term_bytes : ℕ
term_bytes = 2

abbrev pub channels_bytes : ℕ
channels_bytes = 1

abbrev pub dmax_bytes : ℕ
dmax_bytes = 2

abbrev pub n_bytes : ℕ
n_bytes = 2

abbrev pub offset_bytes : ℕ
offset_bytes = 4
