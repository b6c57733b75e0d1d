-- "For 50 bytes holding one record .. it prints exactly" three lines.
use Rattle.std.specs.Prelude.{ℕ, List, [], ◌∷◌}

-- `term 5 code 0 place 0`, `1 273066` and `2 0 2:12`, each to its line's end
abbrev pub example_text : List ℕ
example_text =
    116 ∷ 101 ∷ 114 ∷ 109 ∷ 32 ∷ 53 ∷ 32 ∷ 99 ∷ 111 ∷ 100 ∷ 101 ∷ 32 ∷ 48 ∷ 32 ∷ 112 ∷ 108 ∷ 97 ∷ 99 ∷ 101 ∷ 32 ∷ 48 ∷ 10
    ∷ 49 ∷ 32 ∷ 50 ∷ 55 ∷ 51 ∷ 48 ∷ 54 ∷ 54 ∷ 10
    ∷ 50 ∷ 32 ∷ 48 ∷ 32 ∷ 50 ∷ 58 ∷ 49 ∷ 50 ∷ 10
    ∷ []

-- The line of a refused file: `file code 22 place 0 at 10` for a wrong offset, and `file code 20 place 0 at 0` where there is no position
abbrev pub misplaced_text : List ℕ
misplaced_text =
    102 ∷ 105 ∷ 108 ∷ 101 ∷ 32 ∷ 99 ∷ 111 ∷ 100 ∷ 101 ∷ 32 ∷ 50 ∷ 50 ∷ 32 ∷ 112 ∷ 108 ∷ 97 ∷ 99 ∷ 101 ∷ 32 ∷ 48 ∷ 32 ∷ 97 ∷ 116 ∷ 32 ∷ 49 ∷ 48 ∷ 10 ∷ []

abbrev pub empty_text : List ℕ
empty_text =
    102 ∷ 105 ∷ 108 ∷ 101 ∷ 32 ∷ 99 ∷ 111 ∷ 100 ∷ 101 ∷ 32 ∷ 50 ∷ 48 ∷ 32 ∷ 112 ∷ 108 ∷ 97 ∷ 99 ∷ 101 ∷ 32 ∷ 48 ∷ 32 ∷ 97 ∷ 116 ∷ 32 ∷ 48 ∷ 10 ∷ []
