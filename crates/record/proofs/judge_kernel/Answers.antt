-- `record::judge_kernel` meets its contract.
use Rattle.record.proofs.Kernels.{told_kernel}
use Rattle.record.proofs.judge_kernel.Goals as goal

pub returns-clause-reply : goal.returns-clause-reply
returns-clause-reply c = told_kernel _ _ c.try_from.ensures
