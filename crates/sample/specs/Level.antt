-- The range of a sample, and a sample in range as a natural number.
use Rattle.std.specs.Prelude.{ℕ, ◌≤◌, false, ℤ, pos, nat_abs, ◌+ℤ◌, Float}
use Rattle.std.specs.Float.{fin}

-- the largest size of a sample, and by how much a share is scaled
abbrev pub largest : ℕ
largest = 1000000

abbrev pub scale : ℕ
scale = 65536

-- 2 ^ t as a float: 65,536 is `power 16`
abbrev pub power : ℕ → Float
power t = fin false 1 (pos t)

-- "Sample: a whole x from -1,000,000 to 1,000,000."
abbrev pub InRange : ℤ → Type 0
InRange x = nat_abs x ≤ largest

-- x as a level: x + 1,000,000, which is a natural number for every x in range, from 0 to 2,000,000.
abbrev pub largest_level : ℕ
largest_level = 2000000

abbrev pub level : ℤ → ℕ
level x = nat_abs (x +ℤ pos largest)
