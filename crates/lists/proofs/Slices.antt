-- The elements s .. t-1 of a list: joined, mapped, reversed, with one more at the end, by index, and what holds of all of them.
-- Assumes nothing.
use Prim.Native.Nat.{ℕ, zero, suc, ◌+◌, ◌-◌, ◌≤◌, ◌<◌}
use mathlib.Core.Path.{◌≡◌, refl, sym, ap, ◌∙◌}
use mathlib.Core.List.{List, [], ◌∷◌, ◌++◌, map, reverse, reverse-append, reverse-cons, append_assoc}
use native.Mathlib.Decide.{dec_lt}
use native.Mathlib.Omega.{arith}
use lib.ListN.{length, take, drop, get_or, take-append-drop, length-reverse, length-append, length-drop, length-take, drop_of_length-le, get_or-append}
use lib.Seq.{slice, length-slice, take-suc, take-take, take-add, length-take-le, drop-append-le, drop-drop, take_at, drop_at, get_or_at, get_or-drop, get_or-take}
use Rattle.lists.specs.Lists.{All}

module _ {S : Type 0} where
  pub slice_join : (s m t : ℕ) (l : List S) → s ≤ m → m ≤ t → t ≤ length l → slice s t l ≡ slice s m l ++ slice m t l
  slice_join s m t l h k n =
      ap (drop s) (sym (take-append-drop m (take t l)) ∙ ap (λ p. p ++ slice m t l) (take-take m t l k))
      ∙ drop-append-le s (take m l) (slice m t l) (omega (arith, length-take-le m l (omega arith)))

  pub slice_snoc : (s t : ℕ) (l : List S) (z : S) → s ≤ t → t < length l → slice s (suc t) l ≡ slice s t l ++ (get_or l t z ∷ [])
  slice_snoc s t l z h n =
      ap (drop s) (take-suc l t z n)
      ∙ drop-append-le s (take t l) (get_or l t z ∷ []) (omega (arith, length-take-le t l (omega arith)))

  -- the part between a front of s and a back
  slice_between : (a b c : List S) (s t : ℕ) → length a ≡ s → s + length b ≡ t → slice s t (a ++ (b ++ c)) ≡ b
  slice_between a b c s t h k =
      ap (λ l. slice s t l) (sym (append_assoc a b c))
      ∙ ap (drop s) (take_at (a ++ b) c t (omega (arith, length-append a b)))
      ∙ drop_at a b s h

  -- a part of the reversed list is the reversed part from the other end
  pub slice_reverse :
      (s t : ℕ) (l : List S) → s ≤ t → t ≤ length l → slice s t (reverse l) ≡ reverse (slice (length l - t) (length l - s) l)
  slice_reverse s t l h k =
      let n : ℕ = length l in
      let a : List S = take (n - t) l in
      let b : List S = slice (n - t) (n - s) l in
      let c : List S = drop (n - s) l in
      let front : a ++ b ≡ take (n - s) l =
      ap (λ r. r ++ b) (sym (take-take (n - t) (n - s) l (omega arith))) ∙ take-append-drop (n - t) (take (n - s) l)
      in
      let whole : (a ++ b) ++ c ≡ l = ap (λ r. r ++ c) front ∙ take-append-drop (n - s) l in
      let turned : reverse l ≡ reverse c ++ (reverse b ++ reverse a) =
      ap reverse (sym whole) ∙ reverse-append (a ++ b) c ∙ ap (λ r. reverse c ++ r) (reverse-append a b)
      in
      let back : length (reverse c) ≡ s = omega (arith, length-reverse c, length-drop (n - s) l) in
      let middle : s + length (reverse b) ≡ t = omega (arith, length-reverse b, length-slice (n - t) (n - s) l (omega arith)) in
      ap (λ r. slice s t r) turned ∙ slice_between (reverse c) (reverse b) (reverse a) s t back middle

  all_take : (P : S → Type 0) (n : ℕ) (l : List S) → All P l → All P (take n l)
  all_take P zero l a = tt
  all_take P (suc n) [] a = tt
  all_take P (suc n) (x ∷ l) a = (a.0, all_take P n l a.1)

  all_drop : (P : S → Type 0) (n : ℕ) (l : List S) → All P l → All P (drop n l)
  all_drop P zero l a = a
  all_drop P (suc n) [] a = tt
  all_drop P (suc n) (x ∷ l) a = all_drop P n l a.1

  pub all_slice : (P : S → Type 0) (s t : ℕ) (l : List S) → All P l → All P (slice s t l)
  all_slice P s t l a = all_drop P s (take t l) (all_take P t l a)

pub slice_none : {S : Type 0} (s t : ℕ) (l : List S) → t ≤ s → slice s t l ≡ []
slice_none s t l h =
    let short : length (take t l) ≤ s = omega (arith, length-take t l) in
    drop_of_length-le (take t l) short

-- what holds at each index holds of all
pub all_at : {S : Type 0} (P : S → Type 0) (z : S) (l : List S) → ((i : ℕ) → i < length l → P (get_or l i z)) → All P l
all_at P z [] h = tt
all_at P z (x ∷ l) h = (h 0 (omega arith), all_at P z l (λ i b. h (suc i) (omega arith)))

-- ---- by index, and a part of them
module _ {S : Type 0} (s t : ℕ) (l : List S) where
  pub slice_at : (z : S) (i : ℕ) → s + i < t → get_or (slice s t l) i z ≡ get_or l (s + i) z
  slice_at z i h = get_or-drop s (take t l) i z ∙ get_or-take t l (s + i) z h

  pub slice_slice : (i j : ℕ) → s + j ≤ t → t ≤ length l → slice i j (slice s t l) ≡ slice (s + i) (s + j) l
  slice_slice i j h k =
      let m = take t l in
      let long : length (take s m) ≡ s = length-take-le s m (omega (arith, length-take-le t l k)) in
      let front : take j (drop s m) ≡ drop s (take (s + j) m) =
      sym (ap (drop s) (take-add s j m) ∙ drop_at (take s m) (take j (drop s m)) s long)
      in
      ap (drop i) front ∙ drop-drop i s (take (s + j) m) ∙ ap (drop (s + i)) (take-take (s + j) t l h)

-- ---- a list read backwards, by index
pub reverse_at : {A : Type 0} (l : List A) (i : ℕ) (z : A) → i < length l → get_or (reverse l) i z ≡ get_or l (length l - 1 - i) z
reverse_at [] i z h = absurd (omega arith)
reverse_at (x ∷ l) i z h =
    let one_more = ap (λ (r : List _). get_or r i z) (reverse-cons x l) in
    elim (dec_lt i (length l)) [
      | yes g ↦
          let e : length (x ∷ l) - 1 - i ≡ suc (length l - 1 - i) = omega arith in
          one_more
          ∙ get_or-append (reverse l) (x ∷ []) z i (rw (length-reverse l) g)
          ∙ reverse_at l i z g
          ∙ ap (λ (j : ℕ). get_or (x ∷ l) j z) (sym e)
      | no g ↦
          let e : length (x ∷ l) - 1 - i ≡ 0 = omega arith in
          one_more
          ∙ get_or_at (reverse l) x [] z i (omega (arith, length-reverse l))
          ∙ ap (λ (j : ℕ). get_or (x ∷ l) j z) (sym e)
    ]

-- ---- mapped
module _ {S T : Type 0} (f : S → T) where
  map_take : (n : ℕ) (l : List S) → take n (map f l) ≡ map f (take n l)
  map_take zero l = refl
  map_take (suc n) [] = refl
  map_take (suc n) (x ∷ l) = ap (λ (r : List T). f x ∷ r) (map_take n l)

  map_drop : (n : ℕ) (l : List S) → drop n (map f l) ≡ map f (drop n l)
  map_drop zero l = refl
  map_drop (suc n) [] = refl
  map_drop (suc n) (x ∷ l) = map_drop n l

  pub slice_map : (s t : ℕ) (l : List S) → slice s t (map f l) ≡ map f (slice s t l)
  slice_map s t l = ap (drop s) (map_take t l) ∙ map_drop s (take t l)
