-- Sums over a list's elements and over its unordered pairs.
-- Assumes nothing.
use Rattle.std.specs.Prelude.{List, [], ◌∷◌, ℕ, ◌+◌, ℤ, pos, ◌+ℤ◌, ◌-ℤ◌, ◌*ℤ◌}

-- the distance that a kernel gives two samples: k(x,x) + k(y,y) - 2k(x,y)
unfoldable pub δ : {S : Type 0} → (S → S → ℤ) → S → S → ℤ
δ k x y = k x x +ℤ k y y -ℤ pos 2 *ℤ k x y

-- the sum of f over a list, and the sum of d over its unordered pairs: each element with those after it
abbrev pub sum : {S : Type 0} → (S → ℕ) → List S → ℕ
sum f [] = 0
sum f (x ∷ l) = f x + sum f l

abbrev pub pairs : {S : Type 0} → (S → S → ℕ) → List S → ℕ
pairs d [] = 0
pairs d (x ∷ l) = sum (d x) l + pairs d l
