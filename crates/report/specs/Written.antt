-- A text written into a lent buffer.
use Rattle.std.specs.Prelude.{ℕ, cond, List, ltb, length, Result, Ok, Err}
use Rattle.buffer.specs.Laid.{laid}
use Rattle.report.specs.declared.written.TooShort.{TooShort}

-- the number of each case, 0 where the text is written and 7 where the lent buffer is too short, and how many bytes are written
abbrev pub written_number : Result ℕ TooShort → ℕ
written_number (Ok n) = 0
written_number (Err _) = 7

abbrev pub written_bytes : Result ℕ TooShort → ℕ
written_bytes (Ok n) = n
written_bytes (Err _) = 0

-- its length, or that the buffer is too short
unfoldable pub written_of : List ℕ → ℕ → Result ℕ TooShort
written_of text room = cond (ltb room (length text)) (Err (record {})) (Ok (length text))

-- the buffer on return: the text laid over its front; where it is too short, what it had
unfoldable pub out_left : List ℕ → List ℕ → List ℕ
out_left text out = cond (ltb (length out) (length text)) out (laid out 0 text)
