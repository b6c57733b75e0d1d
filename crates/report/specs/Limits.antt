-- How long the texts are at most, and how much room is made for them.
use Rattle.std.specs.Prelude.{ℕ, ◌+◌, ◌-◌, ◌*◌}
use Rattle.cutting.specs.Limits.{most_observations, most_segments, cost_bytes, start_bytes}

-- a decimal number of 64 bits
abbrev pub number_length : ℕ
number_length = 20

-- a cut: a space, an index, a colon, a date; the cuts of all segments but the first; a line: the count, a space, the cost, the cuts, the line's end
abbrev pub cut_length : ℕ
cut_length = 1 + number_length + 1 + number_length

abbrev pub cuts_length : ℕ
cuts_length = cut_length * (most_segments - 1)

abbrev pub line_length : ℕ
line_length = number_length + 1 + number_length + cuts_length + 1

-- a reply's code and place; a term's first line; the line of a refused file, with the position
abbrev pub reply_length : ℕ
reply_length = 6 + number_length + 7 + number_length

abbrev pub head_length : ℕ
head_length = 5 + number_length + reply_length + 1

abbrev pub file_line_length : ℕ
file_line_length = 4 + reply_length + 4 + number_length + 1

-- all lines of a term
abbrev pub lines_length : ℕ
lines_length = head_length + most_segments * line_length

-- text ends well before this place of its buffer, so that no place passes 64 bits
abbrev pub farthest : ℕ
farthest = 10000

-- the largest tables that a record can need
abbrev pub cost_room : ℕ
cost_room = cost_bytes * (most_segments * (most_observations + 1))

abbrev pub start_room : ℕ
start_room = start_bytes * (most_segments * (most_observations + 1))
