-- Integers as differences of two naturals: a ⊖ b is a − b. Each operation on integers is one on the two naturals, so an
-- equation of integers becomes one of naturals, which `omega` proves, products too. Assumes nothing.
use mathlib.Core.Path.{◌≡◌, refl, ap}
use mathlib.Core.Bool.{Bool, true, false, cond}
use Prim.Native.Nat.{ℕ, zero, suc, ◌+◌, ◌*◌, ◌-◌}
use native.Mathlib.Omega.{arith}
use lib.Dec.{ltb}
use borrow.Author.Tests.{ltb-true, ltb-false}
use lib.IntN.{ℤ, pos, negsuc, nat_abs, neg_ℤ, sub_ℕ, ◌+ℤ◌, ◌*ℤ◌}
use Rattle.kernel.specs.Kernel.{far}

-- the positive part and the negative part
abbrev pub up : ℤ → ℕ
up (pos n) = n
up (negsuc n) = 0

abbrev pub dn : ℤ → ℕ
dn (pos n) = 0
dn (negsuc n) = suc n

infixl 6 ◌⊖◌
unfoldable pub ◌⊖◌ : ℕ → ℕ → ℤ
a ⊖ b = sub_ℕ a b

-- the two parts of a difference
pub parts : (a b : ℕ) → up (a ⊖ b) + b ≡ a + dn (a ⊖ b)
unfolding ◌⊖◌
parts a b = go (ltb a b) refl
  where
    go :
        (t : Bool) → ltb a b ≡ t →
        up (cond t (negsuc (b - suc a)) (pos (a - b))) + b ≡ a + dn (cond t (negsuc (b - suc a)) (pos (a - b)))
    go true e = omega (arith, ltb-true a b e)
    go false e = omega (arith, ltb-false a b e)

-- integers are equal where their parts balance
ext : (x y : ℤ) → up x + dn y ≡ up y + dn x → x ≡ y
ext (pos m) (pos n) h = ap pos (omega arith)
ext (pos m) (negsuc n) h = absurd (omega arith)
ext (negsuc m) (pos n) h = absurd (omega arith)
ext (negsuc m) (negsuc n) h = ap negsuc (omega arith)

is : (z : ℤ) (a b : ℕ) → up z + b ≡ a + dn z → z ≡ a ⊖ b
is z a b h = ext z (a ⊖ b) (omega (arith, parts a b))

pub ⊖-eq : (a b c d : ℕ) → a + d ≡ c + b → a ⊖ b ≡ c ⊖ d
⊖-eq a b c d h = is (a ⊖ b) c d (omega (arith, parts a b))

-- every integer is such a difference, a natural and a negative number too
pub view : (z : ℤ) → z ≡ up z ⊖ dn z
view z = is z (up z) (dn z) refl

pub pos-⊖ : (n : ℕ) → pos n ≡ n ⊖ 0
pos-⊖ n = is (pos n) n 0 refl

pub negsuc-⊖ : (n : ℕ) → negsuc n ≡ 0 ⊖ suc n
negsuc-⊖ n = is (negsuc n) 0 (suc n) refl

-- the parts of a sum, a negation, a product
add_parts : (x y : ℤ) → up (x +ℤ y) + (dn x + dn y) ≡ up x + up y + dn (x +ℤ y)
unfolding ◌⊖◌
add_parts (pos m) (pos n) = omega arith
add_parts (pos m) (negsuc n) = omega (arith, parts m (suc n))
add_parts (negsuc m) (pos n) = omega (arith, parts n (suc m))
add_parts (negsuc m) (negsuc n) = omega arith

neg_parts : (x : ℤ) → up (neg_ℤ x) + up x ≡ dn x + dn (neg_ℤ x)
neg_parts (pos zero) = refl
neg_parts (pos (suc n)) = omega arith
neg_parts (negsuc n) = omega arith

mul_parts : (x y : ℤ) → up (x *ℤ y) + (up x * dn y + dn x * up y) ≡ up x * up y + dn x * dn y + dn (x *ℤ y)
mul_parts (pos m) (pos n) = omega arith
mul_parts (pos m) (negsuc n) = omega (arith, neg_parts (pos (m * suc n)))
mul_parts (negsuc m) (pos n) = omega (arith, neg_parts (pos (suc m * n)))
mul_parts (negsuc m) (negsuc n) = omega arith

pub ⊖-add : (a b c d : ℕ) → (a ⊖ b) +ℤ (c ⊖ d) ≡ (a + c) ⊖ (b + d)
⊖-add a b c d = is ((a ⊖ b) +ℤ (c ⊖ d)) (a + c) (b + d) (omega (arith, add_parts (a ⊖ b) (c ⊖ d), parts a b, parts c d))

pub ⊖-neg : (a b : ℕ) → neg_ℤ (a ⊖ b) ≡ b ⊖ a
⊖-neg a b = is (neg_ℤ (a ⊖ b)) b a (omega (arith, neg_parts (a ⊖ b), parts a b))

-- (p − n)(q − r) where p − n = a − b and q − r = c − d
same_product :
    (p n q r a b c d : ℕ) → p + b ≡ a + n → q + d ≡ c + r →
    p * q + n * r + (a * d + b * c) ≡ a * c + b * d + (p * r + n * q)
same_product p n q r a b c d h k =
    omega (arith, ap (λ (t : ℕ). t * q) h, ap (λ (t : ℕ). t * r) h, ap (λ (t : ℕ). a * t) k, ap (λ (t : ℕ). b * t) k)

pub ⊖-mul : (a b c d : ℕ) → (a ⊖ b) *ℤ (c ⊖ d) ≡ (a * c + b * d) ⊖ (a * d + b * c)
⊖-mul a b c d =
    is ((a ⊖ b) *ℤ (c ⊖ d)) (a * c + b * d) (a * d + b * c)
    (omega (
      arith,
      mul_parts (a ⊖ b) (c ⊖ d),
      same_product (up (a ⊖ b)) (dn (a ⊖ b)) (up (c ⊖ d)) (dn (c ⊖ d)) a b c d (parts a b) (parts c d),
    ))

-- the magnitude of a difference
pub nat_abs-⊖ : (a b : ℕ) → nat_abs (a ⊖ b) ≡ far a b
unfolding ◌⊖◌
nat_abs-⊖ a b = go (ltb a b) refl
  where
    go : (t : Bool) → ltb a b ≡ t → nat_abs (cond t (negsuc (b - suc a)) (pos (a - b))) ≡ far a b
    go true e = omega (arith, ltb-true a b e)
    go false e = omega (arith, ltb-false a b e)

pub nat_abs_parts : (z : ℤ) → nat_abs z ≡ up z + dn z
nat_abs_parts (pos n) = omega arith
nat_abs_parts (negsuc n) = omega arith

pub up_only : (z : ℤ) → dn z ≡ 0 → z ≡ pos (nat_abs z)
up_only (pos n) h = refl
up_only (negsuc n) h = absurd (omega arith)

-- the rules that turn a term of differences into one difference. An equation of integers x, y is then proved by
-- `rw (view x, view y) (simp diff (⊖-eq _ _ _ _ (omega arith)))`
pub ruleset diff = (pos-⊖, negsuc-⊖, ⊖-add, ⊖-neg, ⊖-mul)
