-- A segment's cost, for any kernel over any kind of sample. A segment is the list of its samples.
-- Assumes nothing.
use Rattle.std.specs.Prelude.{List, [], ◌∷◌, ℕ, ◌*◌, ◌/◌, length, ℤ, pos, nat_abs, ◌+ℤ◌, ◌-ℤ◌, ◌*ℤ◌}
use Rattle.std.proofs.Math.Seq.{slice}
use Rattle.sample.specs.Level.{largest}
use Rattle.kernel.specs.Limits.{most_channels}

-- the sum of f over a list
abbrev pub sum_z : {S : Type 0} → (S → ℤ) → List S → ℤ
sum_z f [] = pos 0
sum_z f (x ∷ l) = f x +ℤ sum_z f l

-- "For a segment of m observations let A be the sum of k(x,x) and B the sum of k over all m times m ordered pairs. R = mA - B".
unfoldable pub A : {S : Type 0} → (S → S → ℤ) → List S → ℤ
A k l = sum_z (λ x. k x x) l

unfoldable pub B : {S : Type 0} → (S → S → ℤ) → List S → ℤ
B k l = sum_z (λ x. sum_z (λ y. k x y) l) l

unfoldable pub R : {S : Type 0} → (S → S → ℤ) → List S → ℤ
R k l = pos (length l) *ℤ A k l -ℤ B k l

-- "The cost in units is 4,096 times R divided by m, rounded down."
abbrev pub per_one : ℕ
per_one = 4096

abbrev pub units_of : ℕ → ℕ → ℕ
units_of r m = per_one * r / m

-- how many units an observation adds to a cost at most, of four channels
abbrev pub most_units : ℕ
most_units = per_one * (most_channels * (largest * largest))

-- R is never negative, so its magnitude is R.
unfoldable pub units : {S : Type 0} → (S → S → ℤ) → List S → ℕ
units k l = units_of (nat_abs (R k l)) (length l)

-- the cost of a record's observations s .. t-1, which is the segment cost that cuttings are made for
abbrev pub cost : {S : Type 0} → (S → S → ℤ) → List S → ℕ → ℕ → ℕ
cost k l s t = units k (slice s t l)
