-- Entries one after the other, and items: what is written is read back, and what is read has the bytes that were read. Assumes nothing.
use Prim.Native.Nat.{ℕ, zero, suc, ◌+◌, ◌*◌, ◌≤◌, ◌<◌}
use mathlib.Core.Path.{◌≡◌, refl, sym, ap, subst, ◌∙◌}
use mathlib.Core.List.{List, [], ◌∷◌, ◌++◌, append_assoc}
use native.Mathlib.Numerals.{add-one}
use native.Mathlib.Omega.{arith}
use lib.ListN.{length, get_or, take, drop, length-append, length-drop}
use lib.Seq.{take-add, drop-drop, take_at, drop_at, length-take-le}
use Rattle.lists.specs.Lists.{All}
use Rattle.reply.proofs.Exactly.{from_next}
use Rattle.file.specs.declared.layout.Entry.{Entry}
use Rattle.file.specs.declared.layout.Widths.{Widths}
use Rattle.file.specs.declared.contents.Contents.{Contents}
use Rattle.file.specs.Layout.{widths_of, width_of, encode, Holds, Fits, size_of}
use Rattle.file.specs.Contents.{place_in, entry_in, entries_from, due_in, offset_in}
use Rattle.file.specs.Items.{Bytes, Item, no_item, entries_of, contents, bodies, paired}
use Rattle.file.specs.Sound.{InOrder, Rising, Good}
use Rattle.file.proofs.Codec.{length_encode, entry_past, entry_here, offset_here, join, encode_back}

-- ---- entries and their bodies

-- how many bytes the bodies of entries have
pub total : List Entry → ℕ
total [] = 0
total (e ∷ es) = size_of e + total es

pub paired_length : (es : List Entry) (run : List ℕ) → length (paired es run) ≡ length es
unfolding paired
paired_length [] run = refl
paired_length (e ∷ es) run = ap suc (paired_length es (drop (size_of e) run))

pub paired_entries : (es : List Entry) (run : List ℕ) → entries_of (paired es run) ≡ es
unfolding paired entries_of
paired_entries [] run = refl
paired_entries (e ∷ es) run = ap (λ (l : List Entry). e ∷ l) (paired_entries es (drop (size_of e) run))

pub paired_bodies : (es : List Entry) (run : List ℕ) → bodies (paired es run) ≡ take (total es) run
unfolding paired bodies total
paired_bodies [] run = refl
paired_bodies (e ∷ es) run = ap (λ (l : List ℕ). take (size_of e) run ++ l) (paired_bodies es (drop (size_of e) run)) ∙ sym (take-add (size_of e) (total es) run)

pub paired_good :
    (form : ℕ) (es : List Entry) (run : List ℕ) → total es ≤ length run → All (Fits (widths_of form)) es → All InOrder es →
    All (Good form) (paired es run)
unfolding paired total
paired_good form [] run l F K = tt
paired_good form (e ∷ es) run l F K = (
  record { fits = F.0; channels = K.0; body = length-take-le (size_of e) run (omega arith) },
  paired_good form es (drop (size_of e) run) (simp length-drop (omega arith)) F.1 K.1,
)

pub paired_back : (form : ℕ) (xs : List Item) → All (Good form) xs → paired (entries_of xs) (bodies xs) ≡ xs
unfolding paired bodies entries_of
paired_back form [] G = refl
paired_back form (x ∷ xs) G =
    let body : take (size_of x.entry) (x.body ++ bodies xs) ≡ x.body = take_at x.body (bodies xs) _ G.0.body in
    let rest : paired (entries_of xs) (drop (size_of x.entry) (x.body ++ bodies xs)) ≡ xs =
    ap (paired (entries_of xs)) (drop_at x.body (bodies xs) _ G.0.body) ∙ paired_back form xs G.1 in
    λ j. record { entry = x.entry; body = body j } ∷ rest j

pub bodies_total : (form : ℕ) (xs : List Item) → All (Good form) xs → length (bodies xs) ≡ total (entries_of xs)
unfolding bodies entries_of total
bodies_total form [] G = refl
bodies_total form (x ∷ xs) G = length-append x.body (bodies xs) ∙ omega (arith, G.0.body, bodies_total form xs G.1)

-- what holds of good items holds of their entries
pub good_entries : (form : ℕ) (P : Entry → Type 0) → ((x : Item) → Good form x → P x.entry) → (xs : List Item) → All (Good form) xs → All P (entries_of xs)
unfolding entries_of
good_entries form P h [] G = tt
good_entries form P h (x ∷ xs) G = (h x G.0, good_entries form P h xs G.1)

pub entries_count : (xs : List Item) → length (entries_of xs) ≡ length xs
unfolding entries_of
entries_count [] = refl
entries_count (x ∷ xs) = ap suc (entries_count xs)

pub length_contents : (w : Widths) (at : ℕ) (es : List Entry) → length (contents w at es) ≡ width_of w * length es
unfolding contents
length_contents w at [] = omega arith
length_contents w at (e ∷ es) = length-append (encode w e at) _ ∙ omega (arith, length_encode w e at, length_contents w (at + size_of e) es)

-- ---- entries by their index
-- the first begins where the contents do
pub place_first : (c : Contents) → place_in c 0 ≡ c.from
place_first c = omega arith

module _ (c : Contents) (s : List ℕ) where
  pub from_length : (k i : ℕ) → length (entries_from c s k i) ≡ k
  unfolding entries_from
  from_length zero i = refl
  from_length (suc k) i = ap suc (from_length k (suc i))

  pub all_from : (P : Entry → Type 0) (k i : ℕ) → ((j : ℕ) → i ≤ j → j < i + k → P (entry_in c s j)) → All P (entries_from c s k i)
  unfolding entries_from
  all_from P zero i h = tt
  all_from P (suc k) i h = (h i (omega arith) (omega arith), all_from P k (suc i) (λ j a b. h j (omega arith) (omega arith)))

  pub from_all : (P : Entry → Type 0) (k i : ℕ) → All P (entries_from c s k i) → (j : ℕ) → i ≤ j → j < i + k → P (entry_in c s j)
  unfolding entries_from
  from_all P zero i A = λ j a b. absurd (omega arith)
  from_all P (suc k) i A = from_next (λ j. j < i + suc k → P (entry_in c s j)) i (λ _. A.0) (λ j a b. from_all P k (suc i) A.1 j (omega arith) (omega arith))

  -- terms rise from entry to entry
  abbrev Rises : ℕ → Type 0
  Rises j = (entry_in c s j).term < (entry_in c s (j + 1)).term

  pub rising_from : (k i floor : ℕ) → (0 < k → floor ≤ (entry_in c s i).term) → ((j : ℕ) → i ≤ j → j + 1 < i + k → Rises j) → Rising floor (entries_from c s k i)
  unfolding entries_from
  rising_from zero i floor first h = tt
  rising_from (suc k) i floor first h = (
    first (omega arith),
    rising_from k (suc i) ((entry_in c s i).term + 1)
        (λ l. let up = h i (omega arith) (omega arith) in let next : i + 1 ≡ suc i = add-one i in omega (arith, ap (λ (j : ℕ). (entry_in c s j).term) next))
        (λ j a b. h j (omega arith) (omega arith)),
  )

  head_from : (k i floor : ℕ) → Rising floor (entries_from c s k i) → 0 < k → floor ≤ (entry_in c s i).term
  unfolding entries_from
  head_from zero i floor R l = absurd (omega arith)
  head_from (suc k) i floor R l = R.0

  pub from_rising : (k i floor : ℕ) → Rising floor (entries_from c s k i) → (j : ℕ) → i ≤ j → j + 1 < i + k → Rises j
  unfolding entries_from
  from_rising zero i floor R = λ j a b. absurd (omega arith)
  from_rising (suc k) i floor R =
      from_next (λ j. j + 1 < i + suc k → Rises j) i
      (λ l. let up = head_from k (suc i) _ R.1 (omega arith) in let next : i + 1 ≡ suc i = add-one i in omega (arith, ap (λ (j : ℕ). (entry_in c s j).term) next))
      (λ j a b. from_rising k (suc i) _ R.1 j (omega arith) (omega arith))

  -- bodies lie end to end
  pub due_total : (k i : ℕ) → (due_in c s (i + k)).at ≡ (due_in c s i).at + total (entries_from c s k i)
  unfolding due_in entries_from total
  due_total zero i = let none : i + 0 ≡ i = omega arith in ap (λ (j : ℕ). (due_in c s j).at) none ∙ omega arith
  due_total (suc k) i = let next : i + suc k ≡ suc i + k = omega arith in ap (λ (j : ℕ). (due_in c s j).at) next ∙ omega (arith, due_total k (suc i))

  -- so item j is entry j, with its body where that is due
  abbrev pub item_in : (bs : List ℕ) (j : ℕ) → Item
  item_in bs j = record { entry = entry_in c s j; body = take (size_of (entry_in c s j)) (drop (due_in c s j).at bs) }

  pub item_from : (bs : List ℕ) (k i j : ℕ) → j < k → get_or (paired (entries_from c s k i) (drop (due_in c s i).at bs)) j no_item ≡ item_in bs (i + j)
  unfolding paired entries_from due_in
  item_from bs zero i j h = absurd (omega arith)
  item_from bs (suc k) i zero h =
      let none : i ≡ i + 0 = omega arith in
      subst (λ (n : ℕ). item_in bs i ≡ item_in bs n) none refl
  item_from bs (suc k) i (suc j) h =
      let next : suc i + j ≡ i + suc j = omega arith in
      ap (λ (run : List ℕ). get_or (paired (entries_from c s k (suc i)) run) j no_item) (drop-drop (size_of (entry_in c s i)) (due_in c s i).at bs)
      ∙ item_from bs k (suc i) j (omega arith) ∙ ap (item_in bs) next

  -- ---- an entry begins where the one before ends
  place_next : (i : ℕ) → place_in c i + width_of c.widths ≡ place_in c (suc i)
  place_next i = omega arith

  -- entries read with right offsets have the bytes that were read
  pub contents_kept :
      Bytes s → (k i : ℕ) → place_in c (i + k) ≤ length s → ((j : ℕ) → i ≤ j → j < i + k → offset_in c s j ≡ (due_in c s j).at) →
      contents c.widths (due_in c s i).at (entries_from c s k i) ≡ take (width_of c.widths * k) (drop (place_in c i) s)
  unfolding contents entries_from due_in
  contents_kept B zero i room h = let none : 0 ≡ width_of c.widths * 0 = omega arith in ap (λ (n : ℕ). take n (drop (place_in c i) s)) none
  contents_kept B (suc k) i room h =
      let wide : ℕ = width_of c.widths in
      let far : place_in c (suc i + k) ≤ length s = (let same : suc i + k ≡ i + suc k = omega arith in subst (λ (n : ℕ). place_in c n ≤ length s) (sym same) room) in
      let here : encode c.widths (entry_in c s i) (due_in c s i).at ≡ take wide (drop (place_in c i) s) =
      ap (encode c.widths (entry_in c s i)) (sym (h i (omega arith) (omega arith))) ∙ encode_back c.widths s B (place_in c i) (omega arith) (due_in c s i).at in
      let rest : contents c.widths (due_in c s (suc i)).at (entries_from c s k (suc i)) ≡ take (wide * k) (drop (place_in c i + wide) s) =
      contents_kept B k (suc i) far (λ j a b. h j (omega arith) (omega arith)) ∙ ap (λ (n : ℕ). take (wide * k) (drop n s)) (sym (place_next i)) in
      let sum : wide + wide * k ≡ wide * suc k = omega arith in
      (λ j. here j ++ rest j) ∙ join s wide (wide * k) (place_in c i) ∙ ap (λ (n : ℕ). take n (drop (place_in c i) s)) sum

  -- entries written are read back, with right offsets
  pub record Back (es : List Entry) (i : ℕ) : Type 0 where
    pub entries : entries_from c s (length es) i ≡ es
    pub placed : (j : ℕ) → i ≤ j → j < i + length es → offset_in c s j ≡ (due_in c s j).at

  pub back :
      ((at : ℕ) → at ≤ c.limit → Holds c.widths.offset at at) → (es : List Entry) (i : ℕ) (b : List ℕ) →
      drop (place_in c i) s ≡ contents c.widths (due_in c s i).at es ++ b → All (Fits c.widths) es → (due_in c s i).at + total es ≤ c.limit → Back es i
  unfolding contents entries_from due_in total
  back O [] i b h F l = record { entries = refl; placed = λ j x y. absurd (omega arith) }
  back O (e ∷ es) i b h F l =
      let at : ℕ = (due_in c s i).at in
      let first : drop (place_in c i) s ≡ encode c.widths e at ++ (contents c.widths (at + size_of e) es ++ b) =
      h ∙ append_assoc (encode c.widths e at) _ b in
      let entry : entry_in c s i ≡ e = entry_here c.widths e at s _ (place_in c i) first F.0 in
      let at_is : at + size_of e ≡ (due_in c s (suc i)).at = ap (λ (x : Entry). at + size_of x) (sym entry) in
      let next : drop (place_in c (suc i)) s ≡ contents c.widths (due_in c s (suc i)).at es ++ b =
      ap (λ (n : ℕ). drop n s) (sym (place_next i)) ∙ entry_past c.widths e at s _ (place_in c i) first ∙ ap (λ (n : ℕ). contents c.widths n es ++ b) at_is in
      let rest : Back es (suc i) = back O es (suc i) b next F.1 (omega arith) in
      let offset : offset_in c s i ≡ at = offset_here c.widths e at s _ (place_in c i) first at (O at (omega arith)) in
      record {
        entries = (λ j. entry j ∷ rest.entries j);
        placed = from_next (λ j. j < i + suc (length es) → offset_in c s j ≡ (due_in c s j).at) i (λ _. offset) (λ j x y. rest.placed j (omega arith) (omega arith));
      }
