-- One word for bytes that are laid over a buffer.
use Rattle.std.specs.Prelude.{ℕ, List}
use Rattle.std.proofs.lemmas.List.Edits.{sets}

-- The buffer o with the bytes s laid over it from n on; what would pass its end is left out.
abbrev pub laid : List ℕ → ℕ → List ℕ → List ℕ
laid o n s = sets o n s
