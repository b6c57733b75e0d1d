-- `recurrence::best_at` meets its contract: of several starts it is the least. No cutting, and one segment alone, are `from_none` and `from_one`.
use Rattle.std.proofs.Common.{arith}
use Rattle.cutting.specs.Limits.{least_length}
use Rattle.cutting.proofs.Table.{from_more}
use Rattle.recurrence.proofs.best_at.Goals as goal

pub returns : goal.returns
returns c = record {
  cost_value = (from_more _ least_length _ _ _ (omega arith) (λ z. omega arith) _ _ _ (omega arith) c.least.ensures).0;
  start_value = (from_more _ least_length _ _ _ (omega arith) (λ z. omega arith) _ _ _ (omega arith) c.least.ensures).1;
}
