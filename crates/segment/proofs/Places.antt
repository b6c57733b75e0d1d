-- A list whose first places hold what a rule says, and whose others hold one thing: filled place by place. Assumes nothing.
use Prim.Native.Nat.{ℕ, ◌+◌, ◌<◌, ◌≤◌}
use mathlib.Core.Path.{◌≡◌, sym, ap, ◌∙◌}
use mathlib.Core.Bool.{cond}
use mathlib.Core.List.{List}
use native.Mathlib.Decide.{dec_lt}
use native.Mathlib.Omega.{arith}
use lib.Dec.{ltb}
use lib.ListN.{length, get_or, set, replicate, get_or-eq_default, length-replicate}
use lib.Seq.{ext_get_or}
use Rattle.std.proofs.lemmas.Bool.{lt-ltb, le-ltb}
use Rattle.std.proofs.lemmas.Grind.{get_or-set_at}
use Rattle.std.proofs.lemmas.List.{get_or-set_other, get_or-replicate}
use Rattle.lists.specs.Lists.{values_of}
use Rattle.lists.proofs.Values.{values_length, values_at}

module _ {A : Type 0} (f : ℕ → A) (z : A) where
  -- what stands at place j where the first c are filled
  abbrev pub filled : (c j : ℕ) → A
  filled c j = cond (ltb j c) (f j) z

  pub filled_below : (c j : ℕ) → j < c → filled c j ≡ f j
  filled_below c j h = rw (lt-ltb j c h)

  pub filled_beyond : (c j : ℕ) → c ≤ j → filled c j ≡ z
  filled_beyond c j h = rw (le-ltb j c h)

  nothing_at : (n j : ℕ) → get_or (replicate n z) j z ≡ z
  nothing_at n j =
      elim (dec_lt j n) [
        | yes h ↦ get_or-replicate n j z z h
        | no h ↦ get_or-eq_default (replicate n z) z {n = j} (omega (arith, length-replicate {A = A} n z))
      ]

  pub filled_none : (n : ℕ) (x : A) → x ≡ z → (j : ℕ) → get_or (replicate n x) j z ≡ filled 0 j
  filled_none n x e j =
      ap (λ (x : A). get_or (replicate n x) j z) e ∙ nothing_at n j ∙ sym (filled_beyond 0 j (omega arith))

  module _ (l : List A) (c : ℕ) (holds : (j : ℕ) → get_or l j z ≡ filled c j) where
    pub filled_more : (x : A) → c < length l → x ≡ f c → (j : ℕ) → get_or (set l c x) j z ≡ filled (c + 1) j
    filled_more x h e j =
        elim (dec_lt j c) [
          | yes b ↦
              get_or-set_other l c j x z (λ q. omega arith) ∙ holds j ∙ filled_below c j b ∙ sym (filled_below (c + 1) j (omega arith))
          | no b ↦
              elim (dec_lt c j) [
                | yes g ↦
                    get_or-set_other l c j x z (λ q. omega arith) ∙ holds j ∙ filled_beyond c j (omega arith) ∙ sym (filled_beyond (c + 1) j (omega arith))
                | no g ↦
                    let q : j ≡ c = omega arith in
                    get_or-set_at l c j x z q h ∙ e ∙ ap f (sym q) ∙ sym (filled_below (c + 1) j (omega arith))
              ]
        ]

    pub filled_all : (n : ℕ) → length l ≡ n → l ≡ values_of (filled c) n
    filled_all n long =
        ext_get_or z l (values_of (filled c) n) (long ∙ sym (values_length (filled c) n))
        (λ j b. holds j ∙ sym (values_at (filled c) n j z (omega arith)))
