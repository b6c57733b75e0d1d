-- Texts with one piece more. Assumes nothing.
use Prim.Native.Nat.{ℕ, ◌+◌, ◌-◌, ◌≤◌, ◌<◌}
use mathlib.Core.Path.{◌≡◌, sym, ap, ◌∙◌}
use mathlib.Core.List.{List, [], ◌∷◌, ◌++◌, append_assoc, append-nil}
use native.Mathlib.Numerals.{add-one}
use native.Mathlib.Omega.{arith}
use lib.ListN.{length, get_or, take, drop}
use lib.Seq.{slice, take-suc}
use Rattle.std.proofs.lemmas.List.{drop-take}
use Rattle.record.specs.declared.channels.Channels.{Channels}
use Rattle.report.specs.Lines.{cut_text, cuts_text}

cuts_append : (ch : Channels) (body c : List ℕ) (s : ℕ) → cuts_text ch body c ++ cut_text ch body s ≡ cuts_text ch body (c ++ (s ∷ []))
cuts_append ch body [] s = sym (append-nil (cut_text ch body s))
cuts_append ch body (r ∷ c) s =
    append_assoc (cut_text ch body r) (cuts_text ch body c) (cut_text ch body s) ∙ ap (cut_text ch body r ++◌) (cuts_append ch body c s)

-- the cuts of a line, one segment on
pub cuts_more : (ch : Channels) (body c : List ℕ) (i : ℕ) → i < length c →
    cuts_text ch body (take i c) ++ cut_text ch body (get_or c i 0) ≡ cuts_text ch body (take (i + 1) c)
cuts_more ch body c i h = rw (add-one, take-suc c i 0 h) (cuts_append ch body (take i c) (get_or c i 0))

-- the starts of all segments but the first
pub but_first : (starts : List ℕ) (d : ℕ) → 1 ≤ d → take (d - 1) (drop 1 starts) ≡ slice 1 d starts
but_first starts d h = let e : 1 + (d - 1) ≡ d = omega arith in sym (drop-take 1 (d - 1) starts) ∙ rw e
