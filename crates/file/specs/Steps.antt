-- What the functions of the reader and the writer ask of one another.
use Rattle.std.specs.Prelude.{ℕ, ◌+◌, ◌-◌, ◌^◌, ◌≤◌, ◌<◌, ◌≡◌, List, Result, IfOk, length, take, drop}
use Rattle.reply.specs.declared.Refusal.{Refusal}
use Rattle.reply.specs.Refusal.{reply_of}
use Rattle.reply.specs.Tries.{first_of}
use Rattle.file.specs.declared.layout.Widths.{Widths}
use Rattle.file.specs.declared.contents.Contents.{Contents}
use Rattle.file.specs.declared.reader.Found.{Found}
use Rattle.record.specs.Limits.{pairs_bytes}
use Rattle.file.specs.Limits.{most_bytes, most_records, channels_bytes, offset_bytes}
use Rattle.file.specs.Layout.{size_of}
use Rattle.file.specs.Contents.{bodies_at, filed, place_in, due_in, offset_in, offset_field_in}
use Rattle.file.specs.Items.{item_at}
use Rattle.file.specs.Tries.{contents_tries}

-- Widths of fields that a number takes.
pub record Narrow (w : Widths) : Type 0 where
  pub channels : w.channels ≤ channels_bytes
  pub pairs : w.pairs ≤ pairs_bytes
  pub offset : w.offset ≤ offset_bytes

-- Entry i of c stands where a number of 64 bits can say.
pub record Near (c : Contents) (i : ℕ) : Type 0 where
  pub narrow : Narrow c.widths
  pub place : offset_field_in c i < 2 ^ 64

-- The entries of c stand in s.
pub record Listed (c : Contents) (s : List ℕ) : Type 0 where
  pub narrow : Narrow c.widths
  pub room : place_in c c.count ≤ length s
  pub begun : c.start ≤ c.limit

-- The reply to the entries, and where their bodies end if none is refused.
pub record Judged (r : Result ℕ Refusal) (c : Contents) (s : List ℕ) : Type 0 where
  pub told : reply_of r ≡ first_of (contents_tries c s)
  pub ended : IfOk r (λ e. e ≡ (due_in c s c.count).at)
  pub within : IfOk r (λ e. e ≤ c.limit)

-- Room for the contents of a file of the entries of c, whose bodies begin at `start`.
pub record Roomy (form : ℕ) (c : Contents) (s : List ℕ) (start : ℕ) (out : List ℕ) : Type 0 where
  pub listed : Listed c s
  pub few : c.count ≤ most_records
  pub near : start ≤ most_bytes
  pub fits : bodies_at form c.count ≤ length out

-- Record i of an accepted file: its entry, and where its body stands in the file, which is where its offset points.
pub record Stands (r : Found) (f : List ℕ) (i : ℕ) : Type 0 where
  pub entry : r.entry ≡ (item_at f i).entry
  pub place : r.from ≡ offset_in (filed f) f i
  pub body : take (r.end - r.from) (drop r.from f) ≡ (item_at f i).body
  pub long : r.end ≡ r.from + size_of r.entry
  pub within : r.end ≤ length f
