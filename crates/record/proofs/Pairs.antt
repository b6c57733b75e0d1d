-- Channels: their pairs, one by one, and what C lends. Assumes nothing.
use Rattle.std.specs.Prelude.{Option, Some, None, Result, ok_or}
use Rattle.std.specs.Option.{unwrap_or}
use Rattle.std.specs.Result.{result_unwrap_or}
use Prim.Native.Nat.{ℕ, ◌+◌, ◌/◌, ◌%◌, ◌<◌, min}
use mathlib.Core.Path.{◌≡◌, refl, sym, ap, ◌∙◌}
use mathlib.Core.List.{List}
use native.Mathlib.Numerals.{add-one}
use native.Mathlib.Omega.{arith}
use native.Mathlib.Decide.{dec_lt}
use Rattle.std.proofs.lemmas.Grind.{get_or-set_at}
use Rattle.std.proofs.lemmas.List.{get_or-set_other}
use lib.ListN.{length, get_or, set}
use lib.Seq.{ext_get_or}
use borrow.Author.Tests.{eq-eqb, ne_eqb}
use Rattle.lists.specs.Lists.{values_of}
use Rattle.lists.proofs.Values.{values_length, values_at}
use Rattle.table.specs.Num.{num}
use Rattle.kernel.specs.declared.Kernel.{Kernel}
use Rattle.kernel.specs.declared.Kernel.TheVariants.{Linear}
use Rattle.kernel.specs.Kernel.{named_of}
use Rattle.reply.specs.declared.Reason.{Reason}
use Rattle.reply.specs.declared.Reason.TheVariants.{UnknownKernel}
use Rattle.record.specs.declared.channels.Channels.{Channels}
use Rattle.record.specs.Limits.{pair_limit, pair_bytes, pairs_bytes}
use Rattle.record.specs.Channels.{pairs_from, kernel_in, kernel_of, channels_in}

pub pairs_first : (ch : Channels) → ch.pairs ≡ pairs_from ch 0
unfolding pairs_from
pairs_first ch = refl

pub pairs_next : (ch : Channels) (c p : ℕ) → p ≡ pairs_from ch c → p / pair_limit ≡ pairs_from ch (c + 1)
unfolding pairs_from
pairs_next ch c p e = ap (λ (q : ℕ). q / pair_limit) e ∙ sym (ap (pairs_from ch) (add-one c))

-- what C lends
module _ (bytes : List ℕ) (p : ℕ) (read : p ≡ num (min (length bytes) pairs_bytes) bytes 0) where
  pub lent_even : (n : ℕ) → length bytes % pair_bytes ≡ 0 → n ≡ length bytes / pair_bytes → ◌≡◌ {A = Channels} (record { count = n; pairs = p }) (channels_in bytes)
  unfolding channels_in
  lent_even n e h = rw (eq-eqb (length bytes % pair_bytes) 0 e) (λ i. record { count = h i; pairs = read i })

  pub lent_odd : (n : ℕ) → (length bytes % pair_bytes ≡ 0 → ⊥) → n ≡ 0 → ◌≡◌ {A = Channels} (record { count = n; pairs = p }) (channels_in bytes)
  unfolding channels_in
  lent_odd n e h = rw (ne_eqb (length bytes % pair_bytes) 0 e) (λ i. record { count = h i; pairs = read i })

-- a kernel that is tried for, or linear
named_or : (v : Option Kernel) (d : Kernel) → result_unwrap_or (ok_or v UnknownKernel) d ≡ unwrap_or v d
named_or (Some k) d = refl
named_or None d = refl

pub kernel_read : (n : ℕ) (r : Result Kernel Reason) (d : Kernel) → r ≡ ok_or (named_of n) UnknownKernel → result_unwrap_or r d ≡ unwrap_or (named_of n) d
kernel_read n r d e = ap (λ (x : Result Kernel Reason). result_unwrap_or x d) e ∙ named_or (named_of n) d

-- a list that holds each channel's kernel is the kernels
pub kernels_are : (ch : Channels) (ks : List Kernel) (n : ℕ) → length ks ≡ n → ((c : ℕ) → c < n → get_or ks c Linear ≡ kernel_of (kernel_in ch c)) →
    ks ≡ values_of (λ c. kernel_of (kernel_in ch c)) n
kernels_are ch ks n e h =
    let f = λ (c : ℕ). kernel_of (kernel_in ch c) in
    ext_get_or Linear ks (values_of f n) (e ∙ sym (values_length f n)) (λ c b. h c (omega arith) ∙ sym (values_at f n c Linear (omega arith)))

-- a place more holds its channel's
pub kernels_more :
    (f : ℕ → Kernel) (ks : List Kernel) (c : ℕ) (k : Kernel) → c < length ks → ((j : ℕ) → j < c → get_or ks j Linear ≡ f j) → k ≡ f c →
    (j : ℕ) → j < c + 1 → get_or (set ks c k) j Linear ≡ f j
kernels_more f ks c k h before here j b =
    elim (dec_lt j c) [
      | yes g ↦ get_or-set_other ks c j k Linear (λ e. omega arith) ∙ before j g
      | no g ↦ let e : j ≡ c = omega arith in get_or-set_at ks c j k Linear e h ∙ here ∙ ap f (sym e)
    ]
