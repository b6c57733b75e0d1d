-- `record::Channels::read_kernels` meets its contract.
use Rattle.std.proofs.Common.{ℕ, ap, ◌∙◌, arith}
use lib.ListN.{length-set}
use Rattle.record.specs.Channels.{kernel_in, kernel_of}
use Rattle.record.proofs.Pairs.{kernels_are, kernels_more, kernel_read}
use Rattle.record.proofs.channels.Channels.read_kernels.Goals as goal

pub loop-c-preserved : goal.loop-c-preserved
loop-c-preserved c =
    let l = c.loop-c in
    let here = c.unwrap_or.ensures ∙ kernel_read _ _ _ c.try_from.ensures ∙ ap kernel_of c.kernel.ensures.0 in (
      length-set l.out l.c _ ∙ l.invariant.0,
      kernels_more (λ (j : ℕ). kernel_of (kernel_in c.args.self j)) l.out l.c _ (omega arith) l.invariant.1 here,
    )

pub returns : goal.returns
returns c = kernels_are c.args.self c.loop-c.out _ c.loop-c.invariant.0 (λ j b. c.loop-c.invariant.1 j (omega arith))
