-- The summaries of a stretch in lent bytes.
use Rattle.std.specs.Prelude.{ℕ, zero, suc, ◌+◌, ◌*◌, ◌≡◌, List, [], ◌∷◌, ◌++◌, length, get_or}
use Rattle.std.specs.Float.{binary64}
use Rattle.std.specs.Float.Ieee.{to_bits, of_bits}
use Rattle.kernel.specs.Limits.{most_channels}
use Rattle.sample.specs.Word.{count_of, word_of}
use Rattle.table.specs.Num.{num, put}
use Rattle.reply.specs.declared.Reply.{Reply}
use Rattle.reply.specs.Reply.{if_done}
use Rattle.reply.specs.Facts.{◌is_below◌}
use Rattle.reply.specs.Tries.{Tries, try, ◌then◌, first_of}
use Rattle.record.specs.declared.Asked.{Asked}
use Rattle.record.specs.Body.{samples}
use Rattle.segment.specs.declared.Summary.{Summary}
use Rattle.segment.specs.Summary.{summary_tries, summary_codes, summaries_of, no_summary}

-- so many bytes take a number of a summary, its four numbers, and "four summaries"
abbrev pub number_bytes : ℕ
number_bytes = 8

abbrev pub summary_bytes : ℕ
summary_bytes = 32

abbrev pub summaries_bytes : ℕ
summaries_bytes = most_channels * summary_bytes

-- "7: a lent table is too short": the bytes that are lent for the summaries
abbrev pub room_try : ℕ → Tries
room_try room = try (room is_below summaries_bytes) 7 0

-- what is tried of a stretch, and of the bytes last
abbrev pub summarize_tries : Asked → List ℕ → (first len room : ℕ) → Tries
summarize_tries asked body first len room = summary_tries asked body first len then room_try room

-- the codes of its refusals
abbrev pub summarize_codes : List ℕ
summarize_codes = summary_codes ++ (7 ∷ [])

-- the reply, where `room` bytes are lent
unfoldable pub summarize_reply : Asked → List ℕ → (first len room : ℕ) → Reply
summarize_reply asked body first len room = first_of (summarize_tries asked body first len room)

-- where a summary's numbers stand behind its first byte
abbrev pub length_offset : ℕ
length_offset = 8

abbrev pub sum_offset : ℕ
sum_offset = 16

abbrev pub mean_offset : ℕ
mean_offset = 24

-- A summary from a place on: first index (8), length (8), sum (8, in two's complement) and mean (8, the bits of the double), little-endian.
unfoldable pub put_summary : Summary → (place : ℕ) → List ℕ → List ℕ
put_summary s place out =
    put number_bytes
    (put number_bytes
    (put number_bytes
    (put number_bytes out place s.first.0)
    (place + length_offset) s.len)
    (place + sum_offset) (word_of s.sum))
    (place + mean_offset) (to_bits binary64 s.mean)

-- A summary that stands so in bytes: its numbers are read back, the sum from two's complement and the mean from its bits.
pub record Stands (bytes : List ℕ) (place : ℕ) (s : Summary) : Type 0 where
  pub first_read : num number_bytes bytes place ≡ s.first.0
  pub length_read : num number_bytes bytes (place + length_offset) ≡ s.len
  pub sum_read : count_of (num number_bytes bytes (place + sum_offset)) ≡ s.sum
  pub mean_bits : num number_bytes bytes (place + mean_offset) ≡ to_bits binary64 s.mean
  pub mean_read : of_bits binary64 (num number_bytes bytes (place + mean_offset)) ≡ s.mean

-- the first k of the summaries, one behind the other; and all
unfoldable pub put_first : List Summary → ℕ → List ℕ → List ℕ
put_first summaries zero out = out
put_first summaries (suc c) out = put_summary (get_or summaries c no_summary) (summary_bytes * c) (put_first summaries c out)

abbrev pub put_summaries : List Summary → List ℕ → List ℕ
put_summaries summaries out = put_first summaries most_channels out

-- the lent bytes on return; "Every refusal .. writes nothing lent"
unfoldable pub summary_left : Asked → (body : List ℕ) → (first len : ℕ) → (out : List ℕ) → List ℕ
summary_left asked body first len out =
    if_done (summarize_reply asked body first len (length out))
    (put_summaries (summaries_of asked.channels (samples asked.channels body) first len) out) out
