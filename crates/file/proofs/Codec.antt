-- One entry's bytes: what is read of them, and both round trips. Assumes nothing.
use Prim.Native.Nat.{ℕ, zero, suc, ◌+◌, ◌*◌, ◌/◌, ◌^◌, ◌≤◌, ◌<◌}
use mathlib.Core.Path.{◌≡◌, refl, sym, ap, subst, ◌∙◌}
use mathlib.Core.List.{List, [], ◌++◌, append_assoc}
use native.Mathlib.Nat.{mul-le-mul, pow-le-pow_right, lt_of_lt_of_le}
use native.Mathlib.Omega.{arith}
use lib.ListN.{length, get_or, take, drop, length-append, get_or-append}
use lib.Seq.{take-add, drop-drop, get_or-drop, drop_at}
use Rattle.table.specs.Num.{num, put, le}
use Rattle.table.proofs.Num.{num_same, num_le, num_lt, le_num, length_le}
use Rattle.record.specs.Limits.{pair_limit, day_bytes, sample_bytes}
use Rattle.record.specs.Channels.{pairs_from, observation_bytes}
use Rattle.buffer.specs.Laid.{laid}
use Rattle.buffer.proofs.Laid.{laid_next, put_laid}
use Rattle.file.specs.declared.layout.Entry.{Entry}
use Rattle.file.specs.declared.layout.Widths.{Widths}
use Rattle.file.specs.declared.layout.Fields.{Fields}
use Rattle.file.specs.Limits.{most_count, term_bytes, channels_bytes, dmax_bytes, n_bytes, offset_bytes}
use Rattle.file.specs.Layout.{widths_of, as_lent, width_of, channels_held, to_channels, to_pairs, to_dmax, to_n, to_offset, fields_at, entry_at, field, Holds, offset_at, encode, Fits, size_of, size_limit}
use Rattle.file.specs.Items.{Bytes}
use Rattle.file.specs.Sound.{InOrder}
use Rattle.file.specs.Steps.{Narrow}

-- ---- one field

-- a field that is not there is the other number, and one that is there is the number that stands there
pub field_none : (k d : ℕ) (s : List ℕ) (p : ℕ) → k ≡ 0 → d ≡ field k d s p
unfolding field
field_none k d s p e = rw e

pub field_some : (k d : ℕ) (s : List ℕ) (p : ℕ) {v : ℕ} → (k ≡ 0 → ⊥) → v ≡ num k s p → v ≡ field k d s p
unfolding field
field_some zero d s p h e = absurd (h refl)
field_some (suc k) d s p h e = e

module _ (k v : ℕ) (s b : List ℕ) (p : ℕ) (h : drop p s ≡ le k v ++ b) where
  -- what stands at p stands first of what is left from p on
  from_here : num k s p ≡ num k (drop p s) 0
  from_here = num_same k s (drop p s) p 0 (λ j l. let e : 0 + j ≡ j = omega arith in sym (ap (λ (i : ℕ). get_or (drop p s) i 0) e ∙ get_or-drop p s j 0))

  pub num_here : v < 256 ^ k → num k s p ≡ v
  num_here l =
      from_here ∙ ap (λ (t : List ℕ). num k t 0) h
      ∙ num_same k (le k v ++ b) (le k v) 0 0 (λ j m. get_or-append (le k v) b 0 (0 + j) (omega (arith, length_le k v)))
      ∙ num_le k v l

  pub drop_here : drop (p + k) s ≡ b
  drop_here = sym (drop-drop k p s) ∙ ap (drop k) h ∙ drop_at (le k v) b k (length_le k v)

field_here : (k d v : ℕ) (s b : List ℕ) (p : ℕ) → drop p s ≡ le k v ++ b → Holds k d v → field k d s p ≡ v
unfolding field
field_here zero d v s b p h e = sym e
field_here (suc k) d v s b p h e = num_here (suc k) v s b p h e

field_back : (k d : ℕ) (s : List ℕ) (p : ℕ) → Bytes s → p + k ≤ length s → le k (field k d s p) ≡ take k (drop p s)
unfolding field le
field_back zero d s p B h = refl
field_back (suc k) d s p B h = le_num s B (suc k) p h

pub field_held : (k d : ℕ) (s : List ℕ) (p : ℕ) → Bytes s → Holds k d (field k d s p)
unfolding field
field_held zero d s p B = refl
field_held (suc k) d s p B = num_lt (suc k) s p B

-- ---- an entry is made of its fields
pub entry_is :
    (w : Widths) (s : List ℕ) (p : ℕ) {t c x d n : ℕ} → t ≡ num term_bytes s p → c ≡ field w.channels 1 s (to_channels p) →
    x ≡ num w.pairs s (to_pairs w p) → d ≡ num dmax_bytes s (to_dmax w p) → n ≡ num n_bytes s (to_n w p) →
    ◌≡◌ {A = Entry} (record { term = t; asked = record { channels = record { count = c; pairs = x }; dmax = d }; n = n }) (entry_at w s p)
unfolding entry_at
entry_is w s p t c x d n = λ i. record { term = t i; asked = record { channels = record { count = c i; pairs = x i }; dmax = d i }; n = n i }

pub length_encode : (w : Widths) (e : Entry) (at : ℕ) → length (encode w e at) ≡ width_of w
unfolding encode
length_encode w e at = simp (length-append, length_le) (omega arith)

-- ---- an entry written is read back ..
module _ (w : Widths) (e : Entry) (at : ℕ) (s b : List ℕ) (p : ℕ) (h : drop p s ≡ encode w e at ++ b) where
  -- what stands from each field on
  abbrev from_offset : List ℕ
  from_offset = le w.offset at ++ b

  abbrev from_n : List ℕ
  from_n = le n_bytes e.n ++ from_offset

  abbrev from_dmax : List ℕ
  from_dmax = le dmax_bytes e.asked.dmax ++ from_n

  abbrev from_pairs : List ℕ
  from_pairs = le w.pairs e.asked.channels.pairs ++ from_dmax

  abbrev from_channels : List ℕ
  from_channels = le w.channels e.asked.channels.count ++ from_pairs

  at_term : drop p s ≡ le term_bytes e.term ++ from_channels
  unfolding encode
  at_term = h ∙ simp append_assoc

  at_channels : drop (to_channels p) s ≡ from_channels
  at_channels = drop_here term_bytes e.term s from_channels p at_term

  at_pairs : drop (to_pairs w p) s ≡ from_pairs
  at_pairs = drop_here w.channels e.asked.channels.count s from_pairs (to_channels p) at_channels

  at_dmax : drop (to_dmax w p) s ≡ from_dmax
  at_dmax = drop_here w.pairs e.asked.channels.pairs s from_dmax (to_pairs w p) at_pairs

  at_n : drop (to_n w p) s ≡ from_n
  at_n = drop_here dmax_bytes e.asked.dmax s from_n (to_dmax w p) at_dmax

  at_offset : drop (to_offset w p) s ≡ from_offset
  at_offset = drop_here n_bytes e.n s from_offset (to_n w p) at_n

  pub entry_past : drop (p + width_of w) s ≡ b
  entry_past =
      let sum : p + width_of w ≡ to_offset w p + w.offset = omega arith in
      ap (λ (i : ℕ). drop i s) sum ∙ drop_here w.offset at s b (to_offset w p) at_offset

  pub entry_here : Fits w e → entry_at w s p ≡ e
  entry_here F =
      sym (entry_is w s p
      (sym (num_here term_bytes e.term s from_channels p at_term F.term))
      (sym (field_here w.channels 1 e.asked.channels.count s from_pairs (to_channels p) at_channels F.channels))
      (sym (num_here w.pairs e.asked.channels.pairs s from_dmax (to_pairs w p) at_pairs F.pairs))
      (sym (num_here dmax_bytes e.asked.dmax s from_n (to_dmax w p) at_dmax F.dmax))
      (sym (num_here n_bytes e.n s from_offset (to_n w p) at_n F.n)))

  pub offset_here : (due : ℕ) → Holds w.offset due at → offset_at w s p due ≡ at
  offset_here due = field_here w.offset due at s b (to_offset w p) at_offset

-- ---- .. and an entry read has the bytes that were read
pub join : (s : List ℕ) (k m p : ℕ) → take k (drop p s) ++ take m (drop (p + k) s) ≡ take (k + m) (drop p s)
join s k m p = ap (λ (t : List ℕ). take k (drop p s) ++ take m t) (sym (drop-drop k p s)) ∙ sym (take-add k m (drop p s))

pub encode_back :
    (w : Widths) (s : List ℕ) → Bytes s → (p : ℕ) → p + width_of w ≤ length s → (due : ℕ) →
    encode w (entry_at w s p) (offset_at w s p due) ≡ take (width_of w) (drop p s)
unfolding encode entry_at
encode_back w s B p l due =
    let sum : term_bytes + (w.channels + (w.pairs + (dmax_bytes + (n_bytes + w.offset)))) ≡ width_of w = omega arith in
    (λ i. le_num s B term_bytes p (omega arith) i
    ++ (field_back w.channels 1 s (to_channels p) B (omega arith) i
    ++ (le_num s B w.pairs (to_pairs w p) (omega arith) i
    ++ (le_num s B dmax_bytes (to_dmax w p) (omega arith) i
    ++ (le_num s B n_bytes (to_n w p) (omega arith) i ++ field_back w.offset due s (to_offset w p) B (omega arith) i)))))
    ∙ simp (join s) (ap (λ (n : ℕ). take n (drop p s)) sum)

pub entry_fits : (w : Widths) (s : List ℕ) → Bytes s → (p : ℕ) → Fits w (entry_at w s p)
unfolding entry_at
entry_fits w s B p = record {
  term = num_lt term_bytes s _ B;
  channels = field_held w.channels 1 s _ B;
  pairs = num_lt w.pairs s _ B;
  dmax = num_lt dmax_bytes s _ B;
  n = num_lt n_bytes s _ B;
}

-- ---- what fits a layout fits the lent one, and what is lent fits a form that can say its channels
held_lent : (k v : ℕ) → k ≤ channels_bytes → Holds k 1 v → Holds channels_bytes 1 v
held_lent zero v l h = omega arith
held_lent (suc k) v l h = let e : suc k ≡ channels_bytes = omega arith in subst (λ (m : ℕ). v < 256 ^ m) e h

pub fits_lent : (w : Widths) (e : Entry) → Narrow w → Fits w e → Fits as_lent e
fits_lent w e N F = record {
  term = F.term;
  channels = held_lent w.channels e.asked.channels.count N.channels F.channels;
  pairs = lt_of_lt_of_le F.pairs (pow-le-pow_right (omega arith) N.pairs);
  dmax = F.dmax;
  n = F.n;
}

pub narrow_form : (form : ℕ) → Narrow (widths_of form)
narrow_form zero = record { channels = omega arith; pairs = omega arith; offset = omega arith }
narrow_form (suc form) = record { channels = omega arith; pairs = omega arith; offset = omega arith }

-- every file's entry has its offset
pub offset_there : (form d : ℕ) (s : List ℕ) (p : ℕ) → field (widths_of form).offset d s p ≡ num offset_bytes s p
unfolding field
offset_there zero d s p = refl
offset_there (suc form) d s p = refl

pub fits_held : (form : ℕ) (e : Entry) → Fits (widths_of form) e → e.asked.channels.count ≤ channels_held form
fits_held zero e F = let one = F.channels in omega arith
fits_held (suc form) e F = let byte = F.channels in omega arith

-- an only pair, with nothing behind it, is small
one_pair : (e : Entry) → InOrder e → e.asked.channels.count ≤ 1 → (e.asked.channels.count ≡ 1) × (e.asked.channels.pairs < pair_limit)
unfolding pairs_from
one_pair e O l =
    let one : e.asked.channels.count ≡ 1 = omega (arith, O.some_channels) in
    let rest : e.asked.channels.pairs / pair_limit ≡ 0 = sym (ap (pairs_from e.asked.channels) one) ∙ O.unused_zero in
    (one, omega arith)

pub fits_form : (form : ℕ) (e : Entry) → Fits as_lent e → InOrder e → e.asked.channels.count ≤ channels_held form → Fits (widths_of form) e
fits_form zero e F O l =
    let one = one_pair e O l in
    record { term = F.term; channels = one.0; pairs = omega (arith, one.1); dmax = F.dmax; n = F.n }
fits_form (suc form) e F O l = record { term = F.term; channels = F.channels; pairs = F.pairs; dmax = F.dmax; n = F.n }

-- ---- an entry stored, field by field, is its bytes laid
store_next :
    (o p q : List ℕ) (n m k v : ℕ) (s : List ℕ) → p ≡ laid o n s → n + length s ≡ m → q ≡ put k p m v →
    (q ≡ laid o n (s ++ le k v)) × (n + length (s ++ le k v) ≡ m + k)
store_next o p q n m k v s hp hm hq = (
  hq ∙ put_laid k p m v ∙ ap (λ (l : List ℕ). laid l m (le k v)) hp ∙ laid_next o n m s (le k v) hm,
  simp (length-append, length_le) (omega arith),
)

pub entry_put :
    (o : List ℕ) (p : ℕ) (w : Widths) (e : Entry) (at : ℕ) (to : Fields) (a b c d f g : List ℕ) → to ≡ fields_at w p → a ≡ put term_bytes o p e.term →
    b ≡ put w.channels a to.channels e.asked.channels.count → c ≡ put w.pairs b to.pairs e.asked.channels.pairs →
    d ≡ put dmax_bytes c to.dmax e.asked.dmax → f ≡ put n_bytes d to.n e.n → g ≡ put w.offset f to.offset at →
    g ≡ laid o p (encode w e at)
unfolding encode
entry_put o p w e at to a b c d f g ht ha hb hc hd hf hg =
    let term : List ℕ = le term_bytes e.term in
    let channels : List ℕ = term ++ le w.channels e.asked.channels.count in
    let pairs : List ℕ = channels ++ le w.pairs e.asked.channels.pairs in
    let dmax : List ℕ = pairs ++ le dmax_bytes e.asked.dmax in
    let n : List ℕ = dmax ++ le n_bytes e.n in
    let A = store_next o o a p p term_bytes e.term [] refl (omega arith) ha in
    let channels_at : to.channels ≡ to_channels p = ap (λ (x : Fields). x.channels) ht in
    let pairs_at : to.pairs ≡ to_pairs w p = ap (λ (x : Fields). x.pairs) ht in
    let dmax_at : to.dmax ≡ to_dmax w p = ap (λ (x : Fields). x.dmax) ht in
    let n_at : to.n ≡ to_n w p = ap (λ (x : Fields). x.n) ht in
    let offset_at : to.offset ≡ to_offset w p = ap (λ (x : Fields). x.offset) ht in
    let B = store_next o a b p _ w.channels e.asked.channels.count term A.0 (omega (arith, A.1, channels_at)) hb in
    let C = store_next o b c p _ w.pairs e.asked.channels.pairs channels B.0 (omega (arith, B.1, channels_at, pairs_at)) hc in
    let D = store_next o c d p _ dmax_bytes e.asked.dmax pairs C.0 (omega (arith, C.1, pairs_at, dmax_at)) hd in
    let F = store_next o d f p _ n_bytes e.n dmax D.0 (omega (arith, D.1, dmax_at, n_at)) hf in
    let G = store_next o f g p _ w.offset at n F.0 (omega (arith, F.1, n_at, offset_at)) hg in
    let whole : n ++ le w.offset at ≡ encode w e at = simp append_assoc in
    G.0 ∙ ap (laid o p) whole

-- ---- an entry that is read, by the functions that read its fields, from where these stand
pub record Places (w : Widths) (p : ℕ) (to_c to_x to_d to_m : ℕ) : Type 0 where
  pub channels : to_c ≡ to_channels p
  pub pairs : to_x ≡ to_pairs w p
  pub dmax : to_d ≡ to_dmax w p
  pub n : to_m ≡ to_n w p

pub entry_read :
    (s : List ℕ) (p : ℕ) (w : Widths) (to_c to_x to_d to_m : ℕ) (t c x d n : ℕ) → Narrow w → Bytes s → t ≡ num term_bytes s p →
    c ≡ field w.channels 1 s to_c → x ≡ num w.pairs s to_x → d ≡ num dmax_bytes s to_d → n ≡ num n_bytes s to_m → Places w p to_c to_x to_d to_m →
    (◌≡◌ {A = Entry} (record { term = t; asked = record { channels = record { count = c; pairs = x }; dmax = d }; n = n }) (entry_at w s p))
    × Fits as_lent (record { term = t; asked = record { channels = record { count = c; pairs = x }; dmax = d }; n = n })
entry_read s p w to_c to_x to_d to_m t c x d n N B ht hc hx hd hn at =
    let same =
    entry_is w s p ht (hc ∙ ap (field w.channels 1 s) at.channels) (hx ∙ ap (num w.pairs s) at.pairs) (hd ∙ ap (num dmax_bytes s) at.dmax)
    (hn ∙ ap (num n_bytes s) at.n) in
    (same, subst (Fits as_lent) (sym same) (fits_lent w (entry_at w s p) N (entry_fits w s B p)))

-- ---- how many bytes a body has
pub size_is : (e : Entry) (b : ℕ) → Fits as_lent e → b ≡ observation_bytes e.asked.channels → (b * e.n ≡ size_of e) × (b * e.n < size_limit)
unfolding size_of
size_is e b F h =
    let wide : b ≤ day_bytes + sample_bytes * most_count = (let byte = F.channels in omega (arith, h)) in
    let most = mul-le-mul {n₁ = b} {m₁ = e.n} {n₂ = day_bytes + sample_bytes * most_count} {m₂ = 65535} wide (let few = F.n in omega arith) in
    (ap (λ (o : ℕ). o * e.n) h, omega (arith, most))
