-- A file is its items: what each record has, and the file that holds them.
use Rattle.std.specs.Prelude.{ℕ, ◌+◌, ◌<◌, ◌≡◌, List, [], ◌∷◌, ◌++◌, length, take, drop, get_or}
use Rattle.table.specs.Num.{le}
use Rattle.record.specs.Channels.{kernel_in, kind_in}
use Rattle.file.specs.declared.layout.Entry.{Entry}
use Rattle.file.specs.declared.layout.Widths.{Widths}
use Rattle.file.specs.Limits.{count_bytes, form_bytes}
use Rattle.file.specs.Layout.{widths_of, as_lent, encode, size_of}
use Rattle.file.specs.Contents.{count_in, form_in, bodies_at, filed, lent, entries_in}

-- What a list of bytes is.
abbrev pub Bytes : List ℕ → Type 0
Bytes s = (j : ℕ) → get_or s j 0 < 256

-- A record of a file: its entry's fields (offset aside) and its body.
pub record Item : Type 0 where
  pub entry : Entry
  pub body : List ℕ

-- THE FILE OF ITEMS
unfoldable pub entries_of : List Item → List Entry
entries_of [] = []
entries_of (x ∷ xs) = x.entry ∷ entries_of xs

-- "then the contents": each entry with the offset of its body, where the first begins at `at`.
unfoldable pub contents : Widths → ℕ → List Entry → List ℕ
contents w at [] = []
contents w at (e ∷ es) = encode w e at ++ contents w (at + size_of e) es

-- "then the bodies in the same order without gaps"
unfoldable pub bodies : List Item → List ℕ
bodies [] = []
bodies (x ∷ xs) = x.body ++ bodies xs

-- The count of records and the form, a byte each; "then the contents ..; then the bodies"
unfoldable pub file_of : (form : ℕ) → List Item → List ℕ
file_of form xs =
    le count_bytes (length xs)
    ++ (le form_bytes form ++ (contents (widths_of form) (bodies_at form (length xs)) (entries_of xs) ++ bodies xs))

abbrev pub file_length : (form : ℕ) → List Item → ℕ
file_length form xs = bodies_at form (length xs) + length (bodies xs)

-- What is lent for items: entries "without offsets", and `bodies`, "one run of all body bytes".
abbrev pub lent_entries : List Item → List ℕ
lent_entries xs = contents as_lent 0 (entries_of xs)

-- THE ITEMS OF A FILE, and of what is lent

-- Each entry with its body, the bodies being one run.
unfoldable pub paired : List Entry → List ℕ → List Item
paired [] run = []
paired (e ∷ es) run = record { entry = e; body = take (size_of e) run } ∷ paired es (drop (size_of e) run)

unfoldable pub items_of : List ℕ → List Item
items_of f = paired (entries_in (filed f) f) (drop (bodies_at (form_in f) (count_in f)) f)

unfoldable pub lent_items : (es bs : List ℕ) → List Item
lent_items es bs = paired (entries_in (lent es (length bs)) es) bs

-- Item i of a file; where there is none, one of zeros.
abbrev pub no_item : Item
no_item = record { entry = record { term = 0; asked = record { channels = record { count = 0; pairs = 0 }; dmax = 0 }; n = 0 }; body = [] }

abbrev pub item_at : List ℕ → ℕ → Item
item_at f i = get_or (items_of f) i no_item

-- EQUAL FIELDS of entries, the offset aside, of one form or of two: term number, channel count, each channel's kernel and sample kind, Dmax and n.
pub record SameFields (a b : Entry) : Type 0 where
  pub term : a.term ≡ b.term
  pub channels : a.asked.channels.count ≡ b.asked.channels.count
  pub kernels : (c : ℕ) → c < a.asked.channels.count → kernel_in a.asked.channels c ≡ kernel_in b.asked.channels c
  pub kinds : (c : ℕ) → c < a.asked.channels.count → kind_in a.asked.channels c ≡ kind_in b.asked.channels c
  pub dmax : a.asked.dmax ≡ b.asked.dmax
  pub n : a.n ≡ b.n
