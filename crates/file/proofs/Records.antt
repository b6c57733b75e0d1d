-- Record i of an accepted file, as the reader finds it. Assumes nothing.
use Prim.Native.Nat.{ℕ, zero, suc, ◌+◌, ◌-◌, ◌≤◌, ◌<◌}
use mathlib.Core.Path.{◌≡◌, refl, sym, ap, subst, ◌∙◌}
use mathlib.Core.List.{List}
use native.Mathlib.Omega.{arith}
use lib.ListN.{take, drop}
use Rattle.file.specs.declared.layout.Entry.{Entry}
use Rattle.file.specs.declared.contents.Contents.{Contents}
use Rattle.file.specs.Limits.{most_bytes}
use Rattle.file.specs.Layout.{widths_of, field, offset_at, size_of}
use Rattle.file.specs.Contents.{count_in, form_in, filed, place_in, entry_in, due_in}
use Rattle.file.specs.Items.{Item, item_at}
use Rattle.file.specs.Tries.{read_reply}
use Rattle.file.specs.Steps.{Listed, Stands}
use Rattle.file.specs.Sound.{Accepted}
use Rattle.file.proofs.Accepted.{regular_within, read_iff}
use Rattle.file.proofs.Judging.{filed_listed}
use Rattle.file.proofs.Items.{item_in}
use Rattle.file.proofs.Round.{item_is}

-- the offset of a file's entry does not go by where its body is due, and takes four bytes
offset_any : (form : ℕ) (f : List ℕ) (p d e : ℕ) → offset_at (widths_of form) f p d ≡ offset_at (widths_of form) f p e
unfolding field
offset_any zero f p d e = refl
offset_any (suc form) f p d e = refl

module _ (f : List ℕ) (c : Contents) (hc : c ≡ filed f) where
  module _ (z : (read_reply f).code ≡ 0) where
    A : Accepted f
    A = (read_iff f).0 z

    pub found_listed : Listed c f
    found_listed = subst (λ (x : Contents). Listed x f) (sym hc) (filed_listed f A.listed)

    module _ (i : ℕ) (h : i < count_in f) where
      pub found :
          (due : ℕ) (e : Entry) (from size : ℕ) → e ≡ entry_in c f i → from ≡ offset_at c.widths f (place_in c i) due → size ≡ size_of e →
          Stands (record { entry = e; from = from; end = from + size }) f i
      found due e from size he hf hs =
          let at : ℕ = (due_in (filed f) f i).at in
          let item : item_at f i ≡ item_in (filed f) f f i = item_is f i h in
          let entry_is : e ≡ entry_in (filed f) f i = he ∙ ap (λ (x : Contents). entry_in x f i) hc in
          let from_is : from ≡ at =
          hf ∙ ap (λ (x : Contents). offset_at x.widths f (place_in x i) due) hc ∙ offset_any (form_in f) f (place_in (filed f) i) due at ∙ A.regular.placed i h in
          let size_is : size ≡ size_of (entry_in (filed f) f i) = hs ∙ ap size_of entry_is in
          let long : from + size - from ≡ size_of (entry_in (filed f) f i) = omega arith in
          record {
            entry = entry_is ∙ sym (ap (λ (x : Item). x.entry) item);
            place = from_is ∙ sym (A.regular.placed i h);
            body = (λ j. take (long j) (drop (from_is j) f)) ∙ sym (ap (λ (x : Item). x.body) item);
            long = ap (λ (n : ℕ). from + n) hs;
            within = omega (arith, regular_within (filed f) f A.regular i h);
          }

      pub found_small :
          (due : ℕ) (e : Entry) (from size : ℕ) → e ≡ entry_in c f i → from ≡ offset_at c.widths f (place_in c i) due → size ≡ size_of e →
          from + size ≤ most_bytes
      found_small due e from size he hf hs = omega (arith, (found due e from size he hf hs).within, A.short)
