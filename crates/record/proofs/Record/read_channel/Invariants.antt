-- `record::Record::read_channel` meets its contract. The loop's invariant: the places below i hold their levels. Assumes nothing.
use Prim.Native.Nat.{ℕ, ◌<◌}
use mathlib.Core.Path.{◌≡◌}
use mathlib.Core.List.{List}
use lib.ListN.{length, get_or}
use Rattle.sample.specs.Code.{level_of}
use Rattle.record.specs.declared.channels.Channels.{Channels}
use Rattle.record.specs.Body.{judged_at, level_number}
use Rattle.record.proofs.Record.read_channel.Given as goal

abbrev pub number : Channels → List ℕ → (j c : ℕ) → ℕ
number ch body j c = level_number (level_of (judged_at ch body j c))

abbrev pub invariant-loop-i : goal.invariant-loop-i
invariant-loop-i l =
    (length l.out ≡ length l.initial.out)
    × ((j : ℕ) → j < l.i → get_or l.out j 0 ≡ number l.self.asked.channels l.self.body.now j l.channel)
