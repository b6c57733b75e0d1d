-- `segment::write_summaries` meets its contract. The loop's invariant: the first c summaries are written. Assumes nothing.
use Rattle.std.proofs.Common.{ℕ, ◌*◌, ◌≡◌, ◌∙◌, ap, arith, refl, List}
use mathlib.Core.Path.{ap₂}
use Rattle.std.proofs.lemmas.List.{get_or_default}
use Rattle.segment.specs.declared.Summary.{Summary}
use Rattle.segment.specs.Summary.{no_summary}
use native.Mathlib.Numerals.{add-one}
use Rattle.kernel.specs.Limits.{most_channels}
use Rattle.segment.specs.Bytes.{summary_bytes, put_summary, put_first}
use Rattle.segment.proofs.write_summaries.Goals as goal

pub loop-c-init : goal.loop-c-init
unfolding put_first
loop-c-init c = refl

pub loop-c-preserved : goal.loop-c-preserved
unfolding put_first
loop-c-preserved c =
    let l = c.loop-c in
    let same = get_or_default c.args.summaries.now l.c _ no_summary (omega arith) in
    rw add-one
    (c.write_summary.ensures
    ∙ ap₂ (λ (s : Summary) (out : List ℕ). put_summary s (summary_bytes * l.c) out) same l.invariant)

pub returns : goal.returns
returns c =
    let l = c.loop-c in
    let end : l.c ≡ most_channels = omega arith in
    l.invariant ∙ ap (λ (k : ℕ). put_first c.args.summaries.now k c.args.out.now) end
