-- Lists of values: how long they are, their elements, mapped, and what holds of all of them. Assumes nothing.
use Prim.Native.Nat.{ℕ, zero, suc, ◌<◌}
use mathlib.Core.Path.{◌≡◌, refl, ap, ◌∙◌}
use mathlib.Core.List.{List, [], ◌∷◌, ◌++◌, map, map-append}
use native.Mathlib.Decide.{dec_lt}
use native.Mathlib.Omega.{arith}
use lib.ListN.{length, get_or, length-append, get_or-append}
use lib.Seq.{get_or_at}
use Rattle.lists.specs.Lists.{All, values_of}

module _ {A : Type 0} (f : ℕ → A) where
  pub values_length : (n : ℕ) → length (values_of f n) ≡ n
  unfolding values_of
  values_length zero = refl
  values_length (suc n) = omega (arith, length-append (values_of f n) (f n ∷ []), values_length n)

  pub values_at : (n i : ℕ) (d : A) → i < n → get_or (values_of f n) i d ≡ f i
  unfolding values_of
  values_at zero i d h = absurd (omega arith)
  values_at (suc n) i d h =
      elim (dec_lt i n) [
        | yes g ↦ get_or-append (values_of f n) (f n ∷ []) d i (rw (values_length n) g) ∙ values_at n i d g
        | no g ↦ let e : i ≡ n = omega arith in rw e (get_or_at (values_of f n) (f n) [] d n (values_length n))
      ]

pub map_values : {A B : Type 0} (g : A → B) (f : ℕ → A) (n : ℕ) → map g (values_of f n) ≡ values_of (λ i. g (f i)) n
unfolding values_of
map_values g f zero = refl
map_values g f (suc n) = map-append g (values_of f n) (f n ∷ []) ∙ ap (◌++ (g (f n) ∷ [])) (map_values g f n)

all_more : {A : Type 0} (P : A → Type 0) (l : List A) (x : A) → All P l → P x → All P (l ++ (x ∷ []))
all_more P [] x a p = (p, tt)
all_more P (y ∷ l) x a p = (a.0, all_more P l x a.1 p)

pub all_values : {A : Type 0} (P : A → Type 0) (f : ℕ → A) (n : ℕ) → ((i : ℕ) → i < n → P (f i)) → All P (values_of f n)
unfolding values_of
all_values P f zero h = tt
all_values P f (suc n) h = all_more P (values_of f n) (f n) (all_values P f n (λ i b. h i (omega arith))) (h n (omega arith))
