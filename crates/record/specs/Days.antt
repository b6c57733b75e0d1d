-- Days that are asked for one by one.
use Rattle.std.specs.Prelude.{ℕ, ◌<◌, ◌≡◌}

-- each answer to an index below n is the day of it
abbrev pub Tells : (ℕ → ℕ → Type 0) → ℕ → (ℕ → ℕ) → Type 0
Tells answers n day = (i r : ℕ) → i < n → answers i r → r ≡ day i
