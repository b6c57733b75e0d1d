-- What is accepted: the record that no reason to refuse it holds of, as facts with names.
use Rattle.std.specs.Prelude.{ℕ, ◌+◌, ◌*◌, ◌/◌, ◌≤◌, List, length}
use Rattle.cutting.specs.Limits.{cost_bytes, start_bytes}
use Rattle.record.specs.declared.Asked.{Asked}
use Rattle.record.specs.Body.{observations, day_at}
use Rattle.record.specs.Accepted.{Lent, Fit, AllNumbered, Rising, Sampled}

-- 1 to 4 channels of known kinds and kernels, whole observations, numbers that fit, tables with room ("each with at least Dmax times (n+1) entries"),
-- days that rise, and samples that are whole and in range.
pub record Accepted (asked : Asked) (body : List ℕ) (costs starts : ℕ) : Type 0 where
  pub lent : Lent asked.channels (length body)
  pub fit : Fit (observations asked.channels body) asked.dmax
  pub kernels : AllNumbered asked.channels
  pub costs_room : asked.dmax * (observations asked.channels body + 1) ≤ costs / cost_bytes
  pub starts_room : asked.dmax * (observations asked.channels body + 1) ≤ starts / start_bytes
  pub rising : Rising (day_at asked.channels body) (observations asked.channels body)
  pub whole : Sampled asked.channels body
