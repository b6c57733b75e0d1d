-- The codes of replies to a file and to what is lent, and what they point at: entries and bytes. Assumes nothing.
use Prim.Native.Nat.{ℕ, ◌^◌, ◌≤◌, ◌<◌}
use mathlib.Core.Path.{◌≡◌, refl, sym}
use mathlib.Core.Bool.{true, false}
use mathlib.Core.Logic.{inl, inr}
use mathlib.Core.List.{List}
use native.Mathlib.Nat.{mul-le-mul}
use native.Mathlib.Omega.{arith}
use lib.ListN.{length}
use Rattle.reply.specs.declared.Reply.{Reply}
use Rattle.reply.specs.Reply.{refusal}
use Rattle.reply.specs.Codes.{among}
use Rattle.reply.specs.Tries.{Every, Within}
use Rattle.reply.specs.Answered.{Placed}
use Rattle.reply.proofs.Exactly.{not_among}
use Rattle.record.specs.declared.channels.Channels.{Channels}
use Rattle.record.specs.Tries.{channel_tries}
use Rattle.file.specs.declared.contents.Contents.{Contents}
use Rattle.file.specs.Limits.{most_records, head_bytes}
use Rattle.file.specs.Layout.{width_of, field}
use Rattle.file.specs.Contents.{form_in, filed, lent, due_in, offset_in, offset_field_in}
use Rattle.file.specs.Tries.{body_codes, entry_codes, lent_codes, contents_tries, read_tries, read_codes, write_tries, write_codes}
use Rattle.file.specs.Bodies.{Pointed}
use Rattle.file.specs.Steps.{Narrow}
use Rattle.file.proofs.Codec.{narrow_form}

-- ---- channels: what holds of both refusals holds of all replies
channels_every : (P : Reply → Type 0) (ch : Channels) (p : ℕ) → P (refusal 29 p) → P (refusal 24 p) → Every P (channel_tries ch p)
channels_every P ch p count kind = (λ _. count, λ _. (λ _ _ _ _. kind, λ _ _. kind))

-- ---- entries
module _ (c : Contents) (s : List ℕ) where
  -- a reply of another code than those of a wrong body has no position
  plain : (cs : List ℕ) (k p : ℕ) → among k body_codes ≡ false → Placed cs c.count most_records (refusal k p) → Pointed cs c (refusal k p)
  unfolding among
  plain cs k p apart h = (
    h,
    record {
      misplaced = λ e. absurd (not_among k 22 body_codes apart refl (sym e));
      past_end = λ e. absurd (not_among k 28 body_codes apart refl (sym e));
      other = λ _ _. refl;
    },
  )

  pub bare : (cs : List ℕ) (k : ℕ) → among k body_codes ≡ false → Pointed cs c (refusal k 0)
  bare cs k apart = plain cs k 0 apart (inl refl)

  -- the replies to entries point at their entries and bytes, whatever list has their codes
  module _
      (cs : List ℕ) (has23 : among 23 cs ≡ true) (has29 : among 29 cs ≡ true) (has24 : among 24 cs ≡ true) (has28 : among 28 cs ≡ true)
      (has22 : (i : ℕ) → (offset_in c s i ≡ (due_in c s i).at → ⊥) → among 22 cs ≡ true) where
    pub entries_within : Within cs (contents_tries c s)
    entries_within = λ i a b. (λ _. has23, λ _. (channels_every (λ r. among r.code cs ≡ true) _ i has29 has24, λ _. (λ w. has22 i w, λ _ _. has28)))

    pub entries_pointed : c.count ≤ most_records → Every (Pointed cs c) (contents_tries c s)
    unfolding among
    entries_pointed few = λ i a b. (
      λ _. plain cs 23 i refl (inr (has23, (b, few))),
      λ _. (
        channels_every (Pointed cs c) _ i (plain cs 29 i refl (inr (has29, (b, few)))) (plain cs 24 i refl (inr (has24, (b, few)))),
        λ _. (
          λ w. (inr (has22 i w, (b, few)), record { misplaced = λ _. refl; past_end = λ e. absurd (omega arith); other = λ n _. absurd (n refl) }),
          λ _ _. (inr (has28, (b, few)), record { misplaced = λ e. absurd (omega arith); past_end = λ _. refl; other = λ _ n. absurd (n refl) }),
        ),
      ),
    )

  -- offset fields of so few entries stand near, so every position takes 32 bits where the limit does
  pub field_near : Narrow c.widths → c.from ≤ head_bytes → (i : ℕ) → i < most_records → offset_field_in c i < 2 ^ 32
  field_near N near i l =
      let most = mul-le-mul {n₁ = width_of c.widths} {m₁ = i} {n₂ = 19} {m₂ = most_records} (omega (arith, N.channels, N.pairs, N.offset)) (omega arith) in
      omega (arith, most, N.channels, N.pairs)

  pub entries_near :
      Narrow c.widths → c.from ≤ head_bytes → c.count ≤ most_records → c.limit < 2 ^ 32 → Every (λ r. r.position < 2 ^ 32) (contents_tries c s)
  entries_near N near few short =
      let none : 0 < 2 ^ 32 = omega arith in
      λ i a b. (
        λ _. none,
        λ _. (channels_every (λ r. r.position < 2 ^ 32) _ i none none, λ _. (λ _. field_near N near i (omega arith), λ _ _. short)),
      )

-- ---- a file
module _ (f : List ℕ) where
  pub read_within : Within read_codes (read_tries f)
  unfolding read_tries among
  read_within = search depth 20

  pub read_pointed : Every (Pointed entry_codes (filed f)) (read_tries f)
  unfolding read_tries among
  read_pointed = (
    search bare depth 20,
    λ head. (entries_pointed (filed f) f entry_codes refl refl refl refl (λ _ _. refl) head.1.1.0.1.0, search bare depth 20),
  )

  pub read_near : Every (λ r. r.position < 2 ^ 32) (read_tries f)
  unfolding read_tries
  read_near =
      let none : 0 < 2 ^ 32 = omega arith in (
        search depth 20,
        λ head. (
          (entries_near (filed f) f (narrow_form (form_in f)) (omega arith) head.1.1.0.1.0 (omega (arith, head.0))),
          search depth 20,
        ),
      )

-- ---- what is lent
-- a lent entry has no offset of its own: its body is where it is due
lent_placed : (es : List ℕ) (run i : ℕ) → offset_in (lent es run) es i ≡ (due_in (lent es run) es i).at
unfolding field
lent_placed es run i = refl

module _ (form : ℕ) (es bs : List ℕ) (room : ℕ) where
  abbrev given : Contents
  given = lent es (length bs)

  pub write_within : Within write_codes (write_tries form es bs room)
  unfolding write_tries among
  write_within = (
    search depth 20,
    λ _. (
      (entries_within given es write_codes refl refl refl refl (λ i w. absurd (w (lent_placed es (length bs) i))), search depth 20),
      search depth 20,
    ),
  )

  pub write_pointed : Every (Pointed lent_codes given) (write_tries form es bs room)
  unfolding write_tries among
  write_pointed = (
    search bare depth 20,
    λ head. (
      (entries_pointed given es lent_codes refl refl refl refl (λ i w. absurd (w (lent_placed es (length bs) i))) head.1.0.1.0, search bare depth 20),
      search bare depth 20,
    ),
  )
