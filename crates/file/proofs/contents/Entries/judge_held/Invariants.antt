-- `file::contents::Entries::judge_held` meets its contract. The loop's invariant: what is left to try from entry i on gives the reply. Assumes nothing.
use Rattle.std.proofs.Common.{ℕ, List}
use Rattle.reply.specs.Facts.{◌is_above◌}
use Rattle.reply.specs.Tries.{Tries, try}
use Rattle.reply.proofs.Answers.{Left}
use Rattle.file.specs.declared.contents.Contents.{Contents}
use Rattle.file.specs.Layout.{channels_held}
use Rattle.file.specs.Contents.{entry_in}
use Rattle.file.proofs.contents.Entries.judge_held.Given as goal

abbrev pub here : ℕ → Contents → List ℕ → ℕ → Tries
here form c s i = try ((entry_in c s i).asked.channels.count is_above channels_held form) 21 0

abbrev pub invariant-loop-i : goal.invariant-loop-i
invariant-loop-i l = Left (here l.form l.self.contents l.self.bytes.now) 0 l.self.contents.count l.i
