-- The three kernels, their numbers, and the distance that each gives two samples.
-- A sample is a whole number. Assumes nothing.
use Rattle.std.specs.Prelude.{◌≡◌, Bool, true, false, cond, ◌↔◌, ℕ, ◌+◌, ◌*◌, ◌-◌, ◌/◌, ◌<◌, eqb, length, get_or, ℤ, pos, negsuc, nat_abs, ◌+ℤ◌, ◌-ℤ◌, ◌*ℤ◌, Option, Some, None, Result, IfOk}
use mathlib.Core.List.{List}
use Rattle.kernel.specs.declared.Kernel.{Kernel}
use Rattle.kernel.specs.declared.Kernel.TheVariants.{Linear, Spelling, Energy}

-- whether two whole numbers are equal
abbrev pub eq_z : ℤ → ℤ → Bool
eq_z (pos a) (pos b) = eqb a b
eq_z (pos a) (negsuc b) = false
eq_z (negsuc a) (pos b) = false
eq_z (negsuc a) (negsuc b) = eqb a b

-- |x|, |x| + |y| - |x-y|, and half of an even whole number
abbrev pub magnitude : ℤ → ℤ
magnitude x = pos (nat_abs x)

abbrev pub overlap : ℤ → ℤ → ℤ
overlap x y = magnitude x +ℤ magnitude y -ℤ magnitude (x -ℤ y)

abbrev pub half : ℤ → ℤ
half (pos n) = pos (n / 2)
half (negsuc n) = negsuc (n / 2)

-- "Kernel 1, linear: k(x,y) = x times y." "Kernel 2, spelling: 1 if x equals y, else 0." "Kernel 3, energy, from source
-- document 004 equation 12 with exponent 1 and origin 0: half of |x| + |y| - |x-y|."
unfoldable pub kernel : Kernel → ℤ → ℤ → ℤ
kernel Linear x y = x *ℤ y
kernel Spelling x y = pos (cond (eq_z x y) 1 0)
kernel Energy x y = half (overlap x y)

-- the sign of a whole number, 0 counting as not negative
abbrev pub negative : ℤ → Bool
negative (pos a) = false
negative (negsuc a) = true

-- the number of each kernel, and the kernel of each number
abbrev pub number_of : Kernel → ℕ
number_of Linear = 1
number_of Spelling = 2
number_of Energy = 3

unfoldable pub named_of : ℕ → Option Kernel
named_of n = cond (eqb n 1) (Some Linear) (cond (eqb n 2) (Some Spelling) (cond (eqb n 3) (Some Energy) None))

-- the kernel that is answered, if one is, is that of the number
abbrev pub Names : {E : Type 0} → Result Kernel E → ℕ → Type 0
Names r n = IfOk r (λ k. named_of n ≡ Some k)

-- the gap |x - y| of two samples, and of two natural numbers
abbrev pub gap : ℤ → ℤ → ℕ
gap x y = nat_abs (x -ℤ y)

abbrev pub far : ℕ → ℕ → ℕ
far a b = (a - b) + (b - a)

-- "In pair form, over unordered pairs, R is the sum of squared differences (kernel 1), twice the number of unequal pairs
-- (2), and the sum of absolute differences (3)": what a pair adds, by its gap.
unfoldable pub dist : Kernel → ℕ → ℕ
dist Linear g = g * g
dist Spelling g = cond (eqb g 0) 0 2
dist Energy g = g

-- "any recoding .. that keeps equal codes equal and unequal codes unequal": ys is xs, recoded
pub record Recoded (xs ys : List ℤ) : Type 0 where
  pub same_length : length ys ≡ length xs
  pub same_equals :
      (i j : ℕ) → i < length xs → j < length xs →
      (get_or xs i (pos 0) ≡ get_or xs j (pos 0)) ↔ (get_or ys i (pos 0) ≡ get_or ys j (pos 0))

-- k(x,x): the square; 1; the magnitude
unfoldable pub own : Kernel → ℤ → ℕ
own Linear x = nat_abs x * nat_abs x
own Spelling x = 1
own Energy x = nat_abs x
