-- The laws of what is laid over a buffer. Assumes nothing.
use Prim.Native.Nat.{ℕ, suc, ◌+◌, ◌-◌, ◌≤◌}
use mathlib.Core.Path.{◌≡◌, refl, sym, ap, ◌∙◌}
use mathlib.Core.List.{List, [], ◌∷◌, ◌++◌, append_assoc}
use native.Mathlib.Omega.{arith}
use lib.ListN.{length, take, drop, set, length-take}
use lib.Seq.{length-sets, sets-eq, drop-drop, take_at, drop_at}
use borrow.Rule.Slice.PartMut.{put_mid, Post-is}
use Rattle.table.specs.Num.{put, le}
use Rattle.table.proofs.Num.{put_sets}
use Rattle.buffer.specs.Laid.{laid}

-- The buffer keeps its length, and nothing laid changes nothing.
pub length_laid : (o : List ℕ) (n : ℕ) (s : List ℕ) → length (laid o n s) ≡ length o
length_laid = length-sets

pub laid_none : (o : List ℕ) (n : ℕ) → laid o n [] ≡ o
laid_none o n = refl

-- What is laid next to what was laid is laid with it.
pub laid_next : (o : List ℕ) (n m : ℕ) (s t : List ℕ) → n + length s ≡ m → laid (laid o n s) m t ≡ laid o n (s ++ t)
laid_next o n m [] t h = let e : m ≡ n = omega arith in ap (λ (k : ℕ). laid o k t) e
laid_next o n m (a ∷ s) t h = laid_next (set o n a) (suc n) m s t (omega arith)

-- A number that is stored is its bytes, laid.
pub put_laid : (k : ℕ) (o : List ℕ) (n v : ℕ) → put k o n v ≡ laid o n (le k v)
put_laid = put_sets

-- Where it fits: what stands before it, the bytes themselves, and what stands after them.
module _ (o : List ℕ) (n : ℕ) (s : List ℕ) (fits : n + length s ≤ length o) where
  pub laid_is : laid o n s ≡ take n o ++ (s ++ drop (n + length s) o)
  laid_is = sets-eq s o n fits ∙ append_assoc (take n o) s _

  before_long : length (take n o) ≡ n
  before_long = simp length-take (omega arith)

  pub before_laid : take n (laid o n s) ≡ take n o
  before_laid = ap (take n) laid_is ∙ take_at (take n o) _ n before_long

  from_laid : drop n (laid o n s) ≡ s ++ drop (n + length s) o
  from_laid = ap (drop n) laid_is ∙ drop_at (take n o) _ n before_long

  pub there_laid : take (length s) (drop n (laid o n s)) ≡ s
  there_laid = ap (take (length s)) from_laid ∙ take_at s _ (length s) refl

  pub after_laid : drop (n + length s) (laid o n s) ≡ drop (n + length s) o
  after_laid = sym (drop-drop (length s) n (laid o n s)) ∙ ap (drop (length s)) from_laid ∙ drop_at s _ (length s) refl

-- What comes back from a copy of s into the part of o that begins at n and is as long as s.
pub copied : (o s : List ℕ) (n : ℕ) → n + length s ≤ length o → put_mid n (n + length s - n) o s ≡ laid o n s
copied o s n h = rw (Post-is n (n + length s) o (omega arith)) (sym (laid_is o n s h))
