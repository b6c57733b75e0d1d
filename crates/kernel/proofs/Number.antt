-- A kernel's number names that kernel, and any other number none.
-- Assumes nothing.
use Rattle.std.specs.Prelude.{Option, Some, None}
use mathlib.Core.Path.{◌≡◌, refl, sym, ap, ◌∙◌}
use mathlib.Core.Bool.{Bool, true, false, cond}
use Prim.Native.Nat.{ℕ, ◌≤◌}
use native.Mathlib.Decide.{dec_le}
use native.Mathlib.Omega.{arith}
use lib.Dec.{eqb}
use borrow.Author.Tests.{eqb-true, ne_eqb}
use Rattle.kernel.specs.declared.Kernel.{Kernel}
use Rattle.kernel.specs.declared.Kernel.TheVariants.{Linear, Spelling, Energy}
use Rattle.kernel.specs.Kernel.{number_of, named_of}

pub named_number : (k : Kernel) → named_of (number_of k) ≡ Some k
unfolding named_of
named_number Linear = refl
named_number Spelling = refl
named_number Energy = refl

-- the two outcomes of the tests: a number that is some kernel's, and one that is none's
pub known : (k : Kernel) (n : ℕ) → n ≡ number_of k → Some k ≡ named_of n
known k n e = sym (ap named_of e ∙ named_number k)

pub unknown : (n : ℕ) → (n ≡ 1 → ⊥) → (n ≡ 2 → ⊥) → (n ≡ 3 → ⊥) → None ≡ named_of n
unfolding named_of
unknown n a b c = rw (ne_eqb n 1 a, ne_eqb n 2 b, ne_eqb n 3 c)

-- so a number that names a kernel is its number
pub number_named : (n : ℕ) (k : Kernel) → named_of n ≡ Some k → n ≡ number_of k
unfolding named_of
number_named n k e = go (eqb n 1) (eqb n 2) (eqb n 3) refl refl refl e
  where
    go :
        (a b c : Bool) → eqb n 1 ≡ a → eqb n 2 ≡ b → eqb n 3 ≡ c →
        cond a (Some Linear) (cond b (Some Spelling) (cond c (Some Energy) None)) ≡ Some k → n ≡ number_of k
    go true b c p q r h = let s : k ≡ Linear = cc in eqb-true n 1 p ∙ ap number_of (sym s)
    go false true c p q r h = let s : k ≡ Spelling = cc in eqb-true n 2 q ∙ ap number_of (sym s)
    go false false true p q r h = let s : k ≡ Energy = cc in eqb-true n 3 r ∙ ap number_of (sym s)
    go false false false p q r h = let z : n ≡ number_of k = cc in z

-- and each number from 1 to 3 names one
pub known_number : (n : ℕ) → 1 ≤ n → n ≤ 3 → (k : Kernel) × (named_of n ≡ Some k)
known_number n a b =
    elim (dec_le n 1) [
      | yes h ↦ let e : n ≡ 1 = omega arith in (Linear, sym (known Linear n e))
      | no h ↦
          elim (dec_le n 2) [
            | yes g ↦ let e : n ≡ 2 = omega arith in (Spelling, sym (known Spelling n e))
            | no g ↦ let e : n ≡ 3 = omega arith in (Energy, sym (known Energy n e))
          ]
    ]

-- so a number of theirs is not unknown
pub not_unknown : (n : ℕ) (v : Option Kernel) → v ≡ named_of n → v ≡ None → (k : Kernel) → named_of n ≡ Some k → ⊥
not_unknown n v p q k e = let z : ◌≡◌ {A = ℕ} 0 1 = cc in omega arith
