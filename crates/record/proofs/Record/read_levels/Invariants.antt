-- `record::Record::read_levels` meets its contract. The loop's invariant: the channels below c are read.
use Rattle.std.proofs.Common.{ℕ, ◌≡◌, ◌*◌, ◌≤◌, ◌<◌, length, get_or}
use Rattle.sample.specs.Level.{largest_level}
use Rattle.record.specs.Body.{LevelsRead}
use Rattle.record.proofs.Record.read_levels.Given as goal

abbrev pub invariant-loop-c : goal.invariant-loop-c
invariant-loop-c l = record {
  long : length l.out ≡ length l.initial.out;
  levels : LevelsRead l.self.asked.channels l.self.body.now l.n l.c l.out;
  small : (j : ℕ) → j < l.n * l.c → get_or l.out j 0 ≤ largest_level;
}
