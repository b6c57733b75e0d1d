-- `record::Record::read_levels` meets its contract: a turn reads one channel behind those before it.
use Rattle.std.proofs.Common.{ℕ, ◌+◌, ◌-◌, ◌*◌, ◌<◌, ◌≤◌, ◌≡◌, length, ◌∙◌, arith}
use native.Mathlib.Nat.{mul-le-mul_left}
use lib.ListN.{take, drop, length-take, length-drop}
use Rattle.record.proofs.Reading.{channel_read, channel_length, channel_small}
use Rattle.record.proofs.Record.read_levels.Goals as goal

pub loop-c-preserved : goal.loop-c-preserved
loop-c-preserved c =
    let n = c.args.n in
    let l = c.loop-c in
    let p : ℕ = n * l.c in
    let k : ℕ = p + n - p in
    let room : p + n ≤ length l.out = omega (arith, l.invariant.long, c.requires.1, mul-le-mul_left n c.loop-c-test.true) in
    let part : length (take k (drop p l.out)) ≡ n = omega (arith, length-take k (drop p l.out), length-drop p l.out) in
    let long = c.read_channel.ensures.0 ∙ part in
    let here = λ (i : ℕ) (b : i < n). c.read_channel.ensures.1 i (omega (arith, part)) in
    let ch = c.args.self.now.asked.channels in
    let body = c.args.self.now.body.now in
    record {
      long = channel_length ch body n l.c l.out _ _ (omega arith) long room ∙ l.invariant.long;
      levels = channel_read ch body n l.c l.out _ _ (omega arith) long room l.invariant.levels here;
      small = channel_small ch body n l.c l.out _ _ (omega arith) long room l.invariant.small here;
    }
