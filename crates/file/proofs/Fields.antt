-- The channels of an entry as the rules name them: a kernel's number and a sample kind are a byte each, and equal fields make equal entries. Assumes
-- nothing.
use Prim.Native.Nat.{ℕ, zero, suc, ◌+◌, ◌-◌, ◌*◌, ◌/◌, ◌%◌, ◌≤◌, ◌<◌}
use mathlib.Core.Path.{◌≡◌, sym, ap, ◌∙◌}
use mathlib.Core.List.{List}
use native.Mathlib.Numerals.{add-one}
use native.Mathlib.Omega.{arith}
use Rattle.table.specs.Num.{num}
use Rattle.record.specs.declared.channels.Channels.{Channels}
use Rattle.record.specs.Limits.{byte_limit, pair_limit, pair_bytes, pairs_bytes}
use Rattle.record.specs.Channels.{pairs_from, kernel_in, kind_in}
use Rattle.record.specs.Accepted.{Channeled}
use Rattle.file.specs.declared.layout.Entry.{Entry}
use Rattle.file.specs.Items.{Bytes, SameFields}
use Rattle.file.specs.Sound.{InOrder}

-- ---- the two bytes of one pair as one number
pub pair_number : (s : List ℕ) (p q : ℕ) → p + 1 ≡ q → num pair_bytes s p ≡ num 1 s p + byte_limit * num 1 s q
unfolding num
pair_number s p q e = let next : suc p ≡ q = sym (add-one p) ∙ e in rw (sym next) (omega arith)

-- ---- four pairs as one number
module _ (s : List ℕ) (B : Bytes s) where
  -- a number without its lowest two bytes, and those two
  two_fewer : (k m p : ℕ) → k ≡ suc (suc m) → num k s p / pair_limit ≡ num m s (p + 2)
  unfolding num
  two_fewer k m p e =
      let next : suc (suc p) ≡ p + 2 = omega arith in
      rw (e, sym next) (omega (arith, B p, B (suc p)))

  lowest_two : (k m p : ℕ) → k ≡ suc (suc m) → (num k s p % byte_limit ≡ num 1 s p) × (num k s p / byte_limit % byte_limit ≡ num 1 s (p + 1))
  unfolding num
  lowest_two k m p e =
      let next : p + 1 ≡ suc p = add-one p in
      rw (e, next) (omega (arith, B p, B (suc p)), omega (arith, B p, B (suc p)))

  pairs_left : (n p c : ℕ) → 2 * c ≤ pairs_bytes → pairs_from (record { count = n; pairs = num pairs_bytes s p }) c ≡ num (pairs_bytes - 2 * c) s (p + 2 * c)
  unfolding pairs_from
  pairs_left n p zero h = let at : p ≡ p + 2 * 0 = omega arith in ap (num pairs_bytes s) at
  pairs_left n p (suc c) h =
      let m : ℕ = pairs_bytes - 2 * suc c in
      let more : pairs_bytes - 2 * c ≡ suc (suc m) = omega arith in
      let at : p + 2 * c + 2 ≡ p + 2 * suc c = omega arith in
      ap (λ (x : ℕ). x / pair_limit) (pairs_left n p c (omega arith)) ∙ two_fewer (pairs_bytes - 2 * c) m (p + 2 * c) more ∙ ap (num m s) at

  pub pair_1 :
      (n p c : ℕ) → c < 4 →
      (kernel_in (record { count = n; pairs = num pairs_bytes s p }) c ≡ num 1 s (p + 2 * c))
      × (kind_in (record { count = n; pairs = num pairs_bytes s p }) c ≡ num 1 s (p + 2 * c + 1))
  pair_1 n p c h =
      let left = pairs_left n p c (omega arith) in
      let low = lowest_two (pairs_bytes - 2 * c) (pairs_bytes - 2 * suc c) (p + 2 * c) (omega arith) in
      (ap (λ (x : ℕ). x % byte_limit) left ∙ low.0, ap (λ (x : ℕ). x / byte_limit % byte_limit) left ∙ low.1)

-- ---- channels are made of their kernels and kinds, where nothing stands behind them
module _ (a b : Channels) (x : Channeled a) (y : Channeled b) (count : a.count ≡ b.count) where
  module _
      (kernels : (c : ℕ) → c < a.count → kernel_in a c ≡ kernel_in b c)
      (kinds : (c : ℕ) → c < a.count → kind_in a c ≡ kind_in b c) where
    pairs_same : (k c : ℕ) → c + k ≡ a.count → pairs_from a c ≡ pairs_from b c
    unfolding pairs_from
    pairs_same zero c e =
        let at : c ≡ a.count = omega arith in
        ap (pairs_from a) at ∙ x.unused_zero ∙ sym (ap (pairs_from b) (at ∙ count) ∙ y.unused_zero)
    pairs_same (suc k) c e =
        let later : pairs_from a c / pair_limit ≡ pairs_from b c / pair_limit = pairs_same k (suc c) (omega arith) in
        omega (arith, kernels c (omega arith), kinds c (omega arith), later)

    pub one_channels : a ≡ b
    unfolding pairs_from
    one_channels = let pairs : a.pairs ≡ b.pairs = pairs_same a.count 0 (omega arith) in λ i. record { count = count i; pairs = pairs i }

pub one_entry : (a b : Entry) → InOrder a → InOrder b → SameFields a b → a ≡ b
one_entry a b x y f =
    let channels = one_channels a.asked.channels b.asked.channels x y f.channels f.kernels f.kinds in
    λ i. record { term = f.term i; asked = record { channels = channels i; dmax = f.dmax i }; n = f.n i }
