-- Every sample that is judged whole is in range, and x + 1,000,000 is then a natural number up to 2,000,000.
use Rattle.std.specs.Prelude.{Ok, Err}
use mathlib.Core.Path.{◌≡◌, refl, subst}
use Prim.Native.Nat.{ℕ, zero, suc, ◌*◌, ◌/◌, ◌%◌, ◌≤◌}
use native.Mathlib.Nat.{le_trans, le_of_eq, mul_comm, div-le_of_le-mul}
use native.Mathlib.Omega.{arith}
use mathlib.Core.Bool.{Bool, true, false, cond}
use lib.IntN.{ℤ, pos, negsuc, nat_abs, ◌+ℤ◌}
use lib.Dec.{T, ltb, leb, eqb, leb→le}
use lib.Ieee.{nan, inf, fin, up, down}
use borrow.Author.Tests.{ltb-false, le-ltb}
use Rattle.sample.specs.declared.Sample.{Sample}
use Rattle.sample.specs.declared.Sample.TheVariants.{Count, Share}
use Rattle.sample.specs.Judge.{Judged}
use Rattle.sample.specs.declared.Fault.TheVariants.{NotFinite, OutOfRange, NotWhole}
use Rattle.sample.specs.Judge.{signed, judged_ratio, judged_share, judged_count, judged_of}
use Rattle.sample.specs.Level.{largest, scale, InRange, largest_level, level}

-- ---- what is judged whole is in range

abbrev pub WithinRange : Judged → Type 0
WithinRange (Ok x) = InRange x
WithinRange (Err NotFinite) = Unit
WithinRange (Err OutOfRange) = Unit
WithinRange (Err NotWhole) = Unit

signed_in : (s : Bool) (n : ℕ) → n ≤ largest → InRange (signed s n)
signed_in false n h = h
signed_in true zero h = h
signed_in true (suc n) h = h

ratio_within : (s : Bool) (a c : ℕ) → WithinRange (judged_ratio s a c)
unfolding judged_ratio
ratio_within s a c = go (ltb (largest * c) a) (eqb (a % c) 0) refl
  where
    go : (p q : Bool) → ltb (largest * c) a ≡ p → WithinRange (cond p (Err OutOfRange) (cond q (Ok (signed s (a / c))) (Err NotWhole)))
    go true q e = tt
    go false false e = tt
    go false true e = signed_in s (a / c) (div-le_of_le-mul c (le_trans (ltb-false (largest * c) a e) (le_of_eq (mul_comm largest c))))

count_within : (n : ℤ) → WithinRange (judged_count n)
unfolding judged_count
count_within n = go (leb (nat_abs n) largest) (leb→le (nat_abs n) largest)
  where
    go : (p : Bool) → (T p → InRange n) → WithinRange (cond p (Ok n) (Err OutOfRange))
    go true h = h tt
    go false h = tt

pub judged_within : (s : Sample) → WithinRange (judged_of s)
unfolding judged_share
judged_within (Count n) = count_within n
judged_within (Share nan) = tt
judged_within (Share (inf s)) = tt
judged_within (Share (fin s m e)) = ratio_within s (m * up e * scale) (down e)

pub whole_in_range : (s : Sample) (x : ℤ) → judged_of s ≡ Ok x → InRange x
whole_in_range s x e = subst WithinRange e (judged_within s)

-- ---- x + 1,000,000

pub level_is : (x : ℤ) → InRange x → x +ℤ pos largest ≡ pos (level x)
level_is (pos n) h = refl
level_is (negsuc n) h = rw (le-ltb largest (suc n) h)

pub level_le : (x : ℤ) → InRange x → level x ≤ largest_level
level_le (pos n) h = omega arith
level_le (negsuc n) h = rw (le-ltb largest (suc n) h) (omega arith)
