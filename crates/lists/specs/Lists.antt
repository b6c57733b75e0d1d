-- Lists of values, and what holds of all elements of a list.
use Rattle.std.specs.Prelude.{ℕ, zero, suc, List, [], ◌∷◌, ◌++◌}

-- every element has the property P
abbrev pub All : {S : Type 0} → (S → Type 0) → List S → Type 0
All P [] = Unit {0}
All P (x ∷ l) = P x × All P l

-- the values of f at 0 to n - 1, in order
unfoldable pub values_of : {A : Type 0} → (ℕ → A) → ℕ → List A
values_of f zero = []
values_of f (suc n) = values_of f n ++ (f n ∷ [])
