-- Text as bytes: decimal numbers, and a piece of text put into a buffer.
use Rattle.std.specs.Prelude.{ℕ, zero, suc, ◌+◌, ◌-◌, ◌*◌, ◌/◌, ◌%◌, ◌≡◌, cond, List, [], ◌∷◌, ◌++◌, ltb, length}
use Rattle.buffer.specs.Laid.{laid}
use Rattle.text.specs.declared.Text.{Text}

-- the decimal digits of n, highest first and at most f of them; 48 is the byte of the digit 0
unfoldable pub digits : ℕ → ℕ → List ℕ
digits zero n = []
digits (suc f) n = cond (ltb n 10) ((48 + n) ∷ []) (digits f (n / 10) ++ ((48 + n % 10) ∷ []))

-- a number of 64 bits has at most 20 digits
abbrev pub decimal : ℕ → List ℕ
decimal n = digits 20 n

-- the number that digits say, with v said before them
abbrev pub said : ℕ → List ℕ → ℕ
said v [] = v
said v (b ∷ l) = said (10 * v + (b - 48)) l

-- The text put into `before` at `at` leaves `after`, and ends at `next`.
pub record Put (before : List ℕ) (at : ℕ) (text after : List ℕ) (next : ℕ) : Type 0 where
  pub buffer : after ≡ laid before at text
  pub end : next ≡ at + length text

-- The text put behind what `before` has leaves `after`, in the same lent buffer.
pub record Grown (before : Text) (text : List ℕ) (after : Text) : Type 0 where
  pub same_room : after.room.ghost_name ≡ before.room.ghost_name
  pub put : Put before.room.now before.end text after.room.now after.end
