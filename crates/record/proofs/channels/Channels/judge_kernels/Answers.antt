-- `record::Channels::judge_kernels` meets its contract. The loop's invariant: what is left to try from channel c on gives the reply.
use Rattle.std.proofs.Common.{ℕ, refl, ap, ◌∙◌, arith}
use Rattle.reply.specs.Tries.{first_of}
use Rattle.reply.proofs.Answers.{some_number, reason_handed, each_stop, each_on, each_end}
use Rattle.record.specs.Tries.{kernel_tries}
use Rattle.record.proofs.channels.Channels.judge_kernels.Goals as goal

pub returns-in_err-judge_kernel : goal.returns-in_err-judge_kernel
returns-in_err-judge_kernel c =
    reason_handed _ _ _ c.from_residual.ensures.1
    (each_stop _ _ _ _ c.loop-c.invariant (omega arith) _
    (c.in_err-judge_kernel.ensures.reply ∙ ap (λ (k : ℕ). first_of (kernel_tries k)) c.kernel.ensures.0) (some_number _))

pub loop-c-preserved : goal.loop-c-preserved
loop-c-preserved c =
    each_on _ _ _ _ c.loop-c.invariant (omega arith) _
    (c.in_ok-judge_kernel.ensures.reply ∙ ap (λ (k : ℕ). first_of (kernel_tries k)) c.kernel.ensures.0) refl

pub returns : goal.returns
returns c = each_end _ _ _ _ c.loop-c.invariant (omega arith)
