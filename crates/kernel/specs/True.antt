-- True costs, over whole numbers. "The true cost is R/m, summed likewise; statements about it are put over whole
-- numbers, with every R/m taken times the least common multiple of 1 to 400."
-- Assumes nothing.
use Rattle.std.specs.Prelude.{List, [], ◌∷◌, ℕ, zero, suc, ◌*◌, ◌/◌, ◌%◌, length, ℤ, pos, nat_abs}
use Rattle.std.proofs.Math.Seq.{slice}
use Rattle.kernel.specs.Cost.{R}

-- Euclid's greatest common divisor, in at most n steps
unfoldable pub euclid : ℕ → ℕ → ℕ → ℕ
euclid zero a b = a
euclid (suc n) a zero = a
euclid (suc n) a (suc b) = euclid n (suc b) (a % suc b)

-- the second number falls at each step, so b + 1 steps are enough
unfoldable pub gcd : ℕ → ℕ → ℕ
gcd a b = euclid (suc b) a b

unfoldable pub lcm : ℕ → ℕ → ℕ
lcm a b = a * b / gcd a b

-- the least common multiple of 1 to n
unfoldable pub lcm_to : ℕ → ℕ
lcm_to zero = 1
lcm_to (suc n) = lcm (lcm_to n) (suc n)

unfoldable pub lcm400 : ℕ
lcm400 = lcm_to 400

-- R/m times the multiple, of a segment with m samples
unfoldable pub exact : {S : Type 0} → (S → S → ℤ) → List S → ℕ
exact k l = nat_abs (R k l) * (lcm400 / length l)

-- the true cost of a record's observations s .. t-1, times the multiple
abbrev pub true_cost : {S : Type 0} → (S → S → ℤ) → List S → ℕ → ℕ → ℕ
true_cost k l s t = exact k (slice s t l)

-- a record whose cost tells rounding each segment from rounding once: 0 0 1, twice
abbrev pub twice : List ℤ
twice = pos 0 ∷ pos 0 ∷ pos 1 ∷ pos 0 ∷ pos 0 ∷ pos 1 ∷ []
