-- Where a wrong channel count and a wrong body are told: 29, 22 and 28, each with its entry and its position. Assumes nothing.
use Prim.Native.Nat.{ℕ, zero, suc, ◌+◌, ◌*◌, ◌^◌, ◌≤◌, ◌<◌}
use native.Mathlib.Nat.{mul-le-mul}
use mathlib.Core.Path.{◌≡◌, refl, sym, ap, subst}
use mathlib.Core.Bool.{false}
use mathlib.Core.Logic.Iff
use mathlib.Core.Logic.{inl, inr, ◌↔◌}
use mathlib.Core.List.{List, [], ◌∷◌}
use native.Mathlib.Omega.{arith}
use lib.ListN.{length}
use Rattle.reply.specs.declared.Reply.{Reply}
use Rattle.reply.specs.Reply.{refusal_at}
use Rattle.reply.specs.Codes.{among}
use Rattle.reply.specs.Tries.{◌then◌, Clear, Refused}
use Rattle.reply.proofs.Facts.{never_both}
use Rattle.reply.proofs.Exactly.{code_of, position_of, every_refused, refused_code, not_first, not_second, refused_iff}
use Rattle.file.specs.declared.contents.Contents.{Contents}
use Rattle.kernel.specs.Limits.{most_channels}
use Rattle.record.specs.Limits.{day_bytes, sample_bytes}
use Rattle.record.specs.Channels.{observation_bytes}
use Rattle.record.specs.Tries.{channel_tries, kinds_tries}
use Rattle.record.proofs.Accepted.{channeled}
use Rattle.file.specs.Limits.{most_bytes, most_records}
use Rattle.file.specs.Layout.{size_of}
use Rattle.file.specs.Contents.{filed, lent, place_in, entry_in, due_in, offset_field_in}
use Rattle.file.specs.Items.{Bytes}
use Rattle.file.specs.Sound.{InOrder}
use Rattle.file.specs.Tries.{tries_in, contents_tries, left_try, entries_tries, head_tries, read_tries, read_reply, lent_length, room_tries, whole_tries, write_tries, write_reply}
use Rattle.file.specs.Bodies.{Reached, Miscounted, Misplaced, PastEnd}
use Rattle.file.proofs.Codec.{entry_fits}
use Rattle.file.proofs.Accepted.{read_coded, write_coded}

-- ---- among entries
module _ (c : Contents) (s : List ℕ) where
  -- What is told of an entry is told of the first that has anything wrong, and it is the place.
  entry_iff :
      (r : Reply) →
      Refused (contents_tries c s) r ↔ ((r.place < c.count) × (((j : ℕ) → j < r.place → Clear (tries_in c s j)) × Refused (tries_in c s r.place) r))
  entry_iff r = (
    λ q.
        let here : r.place ≡ q.index = every_refused (λ (x : Reply). x.place ≡ q.index) (tries_in c s q.index) r (search depth 20) q.here in
        subst (λ (i : ℕ). (i < c.count) × (((j : ℕ) → j < i → Clear (tries_in c s j)) × Refused (tries_in c s i) r)) (sym here)
        (q.below, (λ j b. q.before j (omega arith) b, q.here)),
    λ q. record { index = r.place; low = omega arith; below = q.0; before = λ j _ b. q.1.0 j b; here = q.1.1 },
  )

  -- Of its own tries it is the one with the code that is given: the channels' have codes of their own.
  channels_apart : (i : ℕ) (r : Reply) → among r.code (29 ∷ 24 ∷ []) ≡ false → Refused (channel_tries (entry_in c s i).asked.channels i) r → ⊥
  unfolding among
  channels_apart i r apart q = never_both _ (refused_code (29 ∷ 24 ∷ []) (channel_tries (entry_in c s i).asked.channels i) (search depth 20) r q) apart

  module _ (i x : ℕ) (there : i < c.count) (before : (j : ℕ) → j < i → Clear (tries_in c s j)) where
    reached : (due_in c s i).floor ≤ (entry_in c s i).term → Reached c s i
    reached a = record { there = there; before = before; rising = a }

    miscounted : Refused (tries_in c s i) (refusal_at 29 i x) → Miscounted c s i × (x ≡ 0)
    unfolding among
    miscounted (inl q) = absurd (let z = code_of q.1 in omega arith)
    miscounted (inr (a, inl (inl q))) = (record { reached = reached a; wrong = q.0 }, position_of q.1)
    miscounted (inr (a, inl (inr q))) = absurd (never_both _ (refused_code (24 ∷ []) (kinds_tries (entry_in c s i).asked.channels i) (search depth 20) _ q.1) refl)
    miscounted (inr (a, inr (b, inl q))) = absurd (let z = code_of q.1 in omega arith)
    miscounted (inr (a, inr (b, inr q))) = absurd (let z = code_of q.1.1 in omega arith)

    misplaced : Refused (tries_in c s i) (refusal_at 22 i x) → Misplaced c s i × (x ≡ offset_field_in c i)
    unfolding among
    misplaced (inl q) = absurd (let z = code_of q.1 in omega arith)
    misplaced (inr (a, inl q)) = absurd (channels_apart i (refusal_at 22 i x) refl q)
    misplaced (inr (a, inr (b, inl q))) = (
      record { tried = record { reached = reached a; channels = (channeled (entry_in c s i).asked.channels i).0 b }; wrong = q.0 },
      position_of q.1,
    )
    misplaced (inr (a, inr (b, inr q))) = absurd (let z = code_of q.1.1 in omega arith)

    past_end : Refused (tries_in c s i) (refusal_at 28 i x) → PastEnd c s i × (x ≡ c.limit)
    unfolding among
    past_end (inl q) = absurd (let z = code_of q.1 in omega arith)
    past_end (inr (a, inl q)) = absurd (channels_apart i (refusal_at 28 i x) refl q)
    past_end (inr (a, inr (b, inl q))) = absurd (let z = code_of q.1 in omega arith)
    past_end (inr (a, inr (b, inr q))) = (
      record { tried = record { reached = reached a; channels = (channeled (entry_in c s i).asked.channels i).0 b }; placed = q.0; past = q.1.0 },
      position_of q.1.1,
    )

  pub miscounted_iff : (i x : ℕ) → Refused (contents_tries c s) (refusal_at 29 i x) ↔ (Miscounted c s i × (x ≡ 0))
  miscounted_iff i x = Iff.trans (entry_iff (refusal_at 29 i x)) (
    λ q. miscounted i x q.0 q.1.0 q.1.1,
    λ q. let r = q.0.reached in (r.there, (r.before, inr (r.rising, inl (inl (q.0.wrong, ap (refusal_at 29 i) q.1))))),
  )

  pub misplaced_iff : (i x : ℕ) → Refused (contents_tries c s) (refusal_at 22 i x) ↔ (Misplaced c s i × (x ≡ offset_field_in c i))
  misplaced_iff i x = Iff.trans (entry_iff (refusal_at 22 i x)) (
    λ q. misplaced i x q.0 q.1.0 q.1.1,
    λ q.
        let t = q.0.tried in
        let r = t.reached in
        let known = (channeled (entry_in c s i).asked.channels i).1 t.channels in
        (r.there, (r.before, inr (r.rising, inr (known, inl (q.0.wrong, ap (refusal_at 22 i) q.1))))),
  )

  pub past_iff : (i x : ℕ) → Refused (contents_tries c s) (refusal_at 28 i x) ↔ (PastEnd c s i × (x ≡ c.limit))
  past_iff i x = Iff.trans (entry_iff (refusal_at 28 i x)) (
    λ q. past_end i x q.0 q.1.0 q.1.1,
    λ q.
        let t = q.0.tried in
        let r = t.reached in
        let known = (channeled (entry_in c s i).asked.channels i).1 t.channels in
        (r.there, (r.before, inr (r.rising, inr (known, inr (q.0.placed, (q.0.past, ap (refusal_at 28 i) q.1)))))),
  )

-- ---- in a file, and in what is lent
-- what is tried beside entries has these codes; what only entries tell is told where nothing before them is wrong
abbrev beside : List ℕ
beside = 20 ∷ 21 ∷ 25 ∷ 26 ∷ 27 ∷ []

pub read_entry :
    (f : List ℕ) (r : Reply) → (r.code ≡ 0 → ⊥) → among r.code beside ≡ false →
    (read_reply f ≡ r) ↔ (Clear (head_tries f) × Refused (contents_tries (filed f) f) r)
unfolding read_tries among
read_entry f r some apart =
    Iff.trans (refused_iff (read_tries f) (read_coded f) r some)
    (Iff.trans (not_first (head_tries f) (entries_tries (filed f) f) beside r apart (search depth 20))
    (Iff.and Iff.rfl (not_second (contents_tries (filed f) f) (left_try (filed f) f) beside r apart (search depth 20))))

pub write_entry :
    (form : ℕ) (es bs : List ℕ) (room : ℕ) (r : Reply) → (r.code ≡ 0 → ⊥) → among r.code beside ≡ false →
    (write_reply form es bs room ≡ r) ↔ (Clear (whole_tries form es) × Refused (contents_tries (lent es (length bs)) es) r)
unfolding write_tries among
write_entry form es bs room r some apart =
    let given = lent es (length bs) in
    Iff.trans (refused_iff (write_tries form es bs room) (write_coded form es bs room) r some)
    (Iff.trans (not_first (whole_tries form es) (entries_tries given es then room_tries (lent_length form es bs) room) beside r apart (search depth 20))
    (Iff.and Iff.rfl
    (Iff.trans (not_second (entries_tries given es) (room_tries (lent_length form es bs) room) beside r apart (search depth 20))
    (not_second (contents_tries given es) (left_try given es) beside r apart (search depth 20)))))

-- ---- how far off 28 can be told of what is lent
-- the body of an entry whose channels are in order
abbrev body_limit : ℕ
body_limit = (day_bytes + sample_bytes * most_channels) * 65535

size_small : (c : Contents) (s : List ℕ) → Bytes s → (i : ℕ) → InOrder (entry_in c s i) → size_of (entry_in c s i) ≤ body_limit
unfolding size_of
size_small c s B i O =
    let few : (entry_in c s i).n ≤ 65535 = (let n = (entry_fits c.widths s B (place_in c i)).n in omega arith) in
    let wide : observation_bytes (entry_in c s i).asked.channels ≤ day_bytes + sample_bytes * most_channels = omega (arith, O.few_channels) in
    mul-le-mul {n₁ = observation_bytes (entry_in c s i).asked.channels} {m₁ = (entry_in c s i).n} {n₂ = day_bytes + sample_bytes * most_channels} {m₂ = 65535} wide few

due_near : (c : Contents) (s : List ℕ) → Bytes s → (i : ℕ) → ((j : ℕ) → j < i → Clear (tries_in c s j)) → (due_in c s i).at ≤ c.start + body_limit * i
unfolding due_in
due_near c s B zero h = omega arith
due_near c s B (suc i) h =
    let before = due_near c s B i (λ j l. h j (omega arith)) in
    let size = size_small c s B i ((channeled (entry_in c s i).asked.channels i).0 (h i (omega arith)).1.0) in
    omega arith

pub past_near : (c : Contents) (s : List ℕ) → Bytes s → c.count ≤ most_records → c.start ≤ most_bytes → (i : ℕ) → PastEnd c s i → c.limit < 2 ^ 32
past_near c s B few near i p =
    let r = p.tried.reached in
    omega (arith, r.there, due_near c s B i r.before, size_small c s B i p.tried.channels, p.past)
