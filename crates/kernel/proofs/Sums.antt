-- Sums over a list's elements and over its unordered pairs: of lists joined, mapped and reversed. Over any kind of element.
-- Assumes nothing.
use mathlib.Core.Path.{◌≡◌, refl, sym, ap, ap₂, ◌∙◌}
use mathlib.Core.List.{List, [], ◌∷◌, ◌++◌, map, reverse, reverse-cons}
use Prim.Native.Nat.{ℕ, ◌+◌}
use native.Mathlib.Omega.{arith}
use lib.IntN.{ℤ, pos, ◌+ℤ◌, +ℤ_idl, +ℤ_idr, +ℤ_assoc, +ℤ_comm}
use Rattle.kernel.specs.Cost.{sum_z}
use Rattle.lists.specs.Lists.{All}
use Rattle.kernel.specs.Pairs.{sum, pairs}
use Rattle.kernel.proofs.Diff.{⊖-eq, view, diff}

module _ {S : Type 0} where
  -- the sum of d over the pairs of an element of the first list and one of the second
  abbrev pub cross : (S → S → ℕ) → List S → List S → ℕ
  cross d l r = sum (λ x. sum (d x) r) l

  pub sum_append : (f : S → ℕ) (l r : List S) → sum f (l ++ r) ≡ sum f l + sum f r
  sum_append f [] r = omega arith
  sum_append f (x ∷ l) r = omega (arith, sum_append f l r)

  pub pairs_append : (d : S → S → ℕ) (l r : List S) → pairs d (l ++ r) ≡ pairs d l + pairs d r + cross d l r
  pairs_append d [] r = omega arith
  pairs_append d (x ∷ l) r = omega (arith, pairs_append d l r, sum_append (d x) l r)

pub sum_cong : {S : Type 0} (f g : S → ℕ) → ((x : S) → f x ≡ g x) → (l : List S) → sum f l ≡ sum g l
sum_cong f g e [] = refl
sum_cong f g e (x ∷ l) = ap₂ ◌+◌ (e x) (sum_cong f g e l)

-- what holds of everything holds of every element
pub every : {S : Type 0} {P : S → Type 0} → ((x : S) → P x) → (l : List S) → All P l
every h [] = tt
every h (x ∷ l) = (h x, every h l)

pub weaken : {S : Type 0} {P Q : S → Type 0} → ((x : S) → P x → Q x) → (l : List S) → All P l → All Q l
weaken h [] p = tt
weaken h (x ∷ l) p = (h x p.0, weaken h l p.1)

-- ---- sums of integers
swap : (a b c d : ℤ) → (a +ℤ b) +ℤ (c +ℤ d) ≡ (a +ℤ c) +ℤ (b +ℤ d)
swap a b c d = rw (view a, view b, view c, view d) (simp diff (⊖-eq _ _ _ _ (omega arith)))

pub sum_z_add : {S : Type 0} (f g : S → ℤ) (l : List S) → sum_z (λ x. f x +ℤ g x) l ≡ sum_z f l +ℤ sum_z g l
sum_z_add f g [] = refl
sum_z_add f g (x ∷ l) = ap (λ t. f x +ℤ g x +ℤ t) (sum_z_add f g l) ∙ swap (f x) (g x) (sum_z f l) (sum_z g l)

pub sum_z_cong : {S : Type 0} (f g : S → ℤ) → ((x : S) → f x ≡ g x) → (l : List S) → sum_z f l ≡ sum_z g l
sum_z_cong f g e [] = refl
sum_z_cong f g e (x ∷ l) = ap₂ ◌+ℤ◌ (e x) (sum_z_cong f g e l)

pub sum_z_append : {S : Type 0} (f : S → ℤ) (l r : List S) → sum_z f (l ++ r) ≡ sum_z f l +ℤ sum_z f r
sum_z_append f [] r = sym (+ℤ_idl (sum_z f r))
sum_z_append f (x ∷ l) r = ap (λ t. f x +ℤ t) (sum_z_append f l r) ∙ sym (+ℤ_assoc (f x) (sum_z f l) (sum_z f r))

pub sum_z_reverse : {S : Type 0} (f : S → ℤ) (l : List S) → sum_z f (reverse l) ≡ sum_z f l
sum_z_reverse f [] = refl
sum_z_reverse f (x ∷ l) =
    ap (λ t. sum_z f t) (reverse-cons x l)
    ∙ sum_z_append f (reverse l) (x ∷ [])
    ∙ ap₂ ◌+ℤ◌ (sum_z_reverse f l) (+ℤ_idr (f x))
    ∙ +ℤ_comm (sum_z f l) (f x)

pub sum_z_pos : {S : Type 0} (f : S → ℤ) (g : S → ℕ) → ((x : S) → f x ≡ pos (g x)) → (l : List S) → sum_z f l ≡ pos (sum g l)
sum_z_pos f g e [] = refl
sum_z_pos f g e (x ∷ l) = ap₂ ◌+ℤ◌ (e x) (sum_z_pos f g e l)

pub sum_z_map :
    {S T : Type 0} (f : S → T) (g : S → ℤ) (g' : T → ℤ) → ((x : S) → g' (f x) ≡ g x) → (l : List S) →
    sum_z g' (map f l) ≡ sum_z g l
sum_z_map f g g' e [] = refl
sum_z_map f g g' e (x ∷ l) = ap₂ ◌+ℤ◌ (e x) (sum_z_map f g g' e l)

-- ---- sums over a list and its image
-- what keeps d keeps its sum over the pairs: a map f from samples to samples, of another kind perhaps, with d' (f x) (f
-- y) = d x y for all that have the property P, as the samples of the list do
module _ {S T : Type 0} (P : S → Type 0) (f : S → T) (d : S → S → ℕ) (d' : T → T → ℕ)
    (keeps : (x y : S) → P x → P y → d' (f x) (f y) ≡ d x y) where
  pub sum_map : (x : S) → P x → (l : List S) → All P l → sum (d' (f x)) (map f l) ≡ sum (d x) l
  sum_map x p [] a = refl
  sum_map x p (y ∷ l) a = ap₂ ◌+◌ (keeps x y p a.0) (sum_map x p l a.1)

  pub pairs_map : (l : List S) → All P l → pairs d' (map f l) ≡ pairs d l
  pairs_map [] a = refl
  pairs_map (x ∷ l) a = ap₂ ◌+◌ (sum_map x a.0 l a.1) (pairs_map l a.1)
