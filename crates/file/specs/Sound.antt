-- Which items a file may hold, and when a file and what is lent are accepted: plain facts.
use Rattle.std.specs.Prelude.{ℕ, ◌+◌, ◌%◌, ◌≤◌, ◌<◌, ◌≡◌, List, [], ◌∷◌, length}
use Rattle.lists.specs.Lists.{All}
use Rattle.record.specs.Accepted.{Channeled}
use Rattle.file.specs.declared.layout.Entry.{Entry}
use Rattle.file.specs.declared.contents.Contents.{Contents}
use Rattle.file.specs.Limits.{most_bytes, most_records, most_form, head_bytes}
use Rattle.file.specs.Layout.{widths_of, channels_held, Fits, size_of}
use Rattle.file.specs.Contents.{count_in, form_in, bodies_at, filed, lent_bytes, count_lent, lent, entry_in, due_in, offset_in}
use Rattle.file.specs.Items.{Item, entries_of, file_length}
use Rattle.file.specs.Tries.{lent_length}

-- ITEMS

-- "1 to 4 channels", each of a known sample kind, "unused pairs 0"
abbrev pub InOrder : Entry → Type 0
InOrder e = Channeled e.asked.channels

-- "23: term number not above the entry before it": term numbers rise, from `floor` on.
abbrev pub Rising : ℕ → List Entry → Type 0
Rising floor [] = Unit {0}
Rising floor (e ∷ es) = (floor ≤ e.term) × Rising (e.term + 1) es

-- An item of a form by itself: numbers that fit the form's fields, channels in order, and a body of n observations.
pub record Good (form : ℕ) (x : Item) : Type 0 where
  pub fits : Fits (widths_of form) x.entry
  pub channels : InOrder x.entry
  pub body : length x.body ≡ size_of x.entry

-- The items of a file of a form: a known one; 1 to 64 items, whose term numbers rise and which make a file of at most 65,536 bytes.
pub record Sound (form : ℕ) (xs : List Item) : Type 0 where
  pub known : form ≤ most_form
  pub some : 1 ≤ length xs
  pub few : length xs ≤ most_records
  pub rising : Rising 0 (entries_of xs)
  pub good : All (Good form) xs
  pub short : file_length form xs ≤ most_bytes

-- ENTRIES that are regular, of a file and lent alike: term numbers rise, channels are in order, each body begins where the one before ends,
-- and the last ends at the limit.
pub record Regular (c : Contents) (s : List ℕ) : Type 0 where
  pub rising : (i : ℕ) → i + 1 < c.count → (entry_in c s i).term < (entry_in c s (i + 1)).term
  pub channels : (i : ℕ) → i < c.count → InOrder (entry_in c s i)
  pub placed : (i : ℕ) → i < c.count → offset_in c s i ≡ (due_in c s i).at
  pub filled : (due_in c s c.count).at ≡ c.limit

-- A FILE that is accepted: at most 65,536 bytes, a count of 1 to 64, a known form, contents that are there, and regular entries.
pub record Accepted (f : List ℕ) : Type 0 where
  pub short : length f ≤ most_bytes
  pub counted : head_bytes ≤ length f
  pub some : 1 ≤ count_in f
  pub few : count_in f ≤ most_records
  pub known : form_in f ≤ most_form
  pub listed : bodies_at (form_in f) (count_in f) ≤ length f
  pub regular : Regular (filed f) f

-- WHAT IS LENT, where it is accepted in a form: whole and regular entries, 1 to 64, with no more channels than the form, a known one, can say; and a
-- file that is not too long and for which there is room.
pub record Taken (form : ℕ) (es bs : List ℕ) (room : ℕ) : Type 0 where
  pub whole : length es % lent_bytes ≡ 0
  pub some : 1 ≤ count_lent es
  pub few : count_lent es ≤ most_records
  pub known : form ≤ most_form
  pub held : (i : ℕ) → i < count_lent es → (entry_in (lent es (length bs)) es i).asked.channels.count ≤ channels_held form
  pub regular : Regular (lent es (length bs)) es
  pub short : lent_length form es bs ≤ most_bytes
  pub roomy : lent_length form es bs ≤ room
