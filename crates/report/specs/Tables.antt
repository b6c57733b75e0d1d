-- The same lines, as they are read off the two tables.
use Rattle.std.specs.Prelude.{ℕ, zero, suc, ◌+◌, ◌*◌, ◌≤◌, ◌<◌, List, [], ◌++◌}
use Rattle.table.specs.Fill.{entry, cell}
use Rattle.cutting.specs.Limits.{most_observations, most_segments, cost_bytes}
use Rattle.record.specs.declared.Asked.{Asked}
use Rattle.kernel.specs.Limits.{most_channels}
use Rattle.record.specs.Channels.{kernel_in}
use Rattle.record.specs.Body.{observations}
use Rattle.walk.specs.Answer.{seeking, answer_bytes, answer_of}
use Rattle.report.specs.declared.line.Line.{Line}
use Rattle.report.specs.Lines.{line_text}

-- a row that is read: that of k + 1 segments
pub record Read (asked : Asked) (body : List ℕ) (costs k : ℕ) : Type 0 where
  pub row : k < asked.dmax
  pub few_rows : asked.dmax ≤ most_segments
  pub few_channels : asked.channels.count ≤ most_channels
  pub few_columns : observations asked.channels body ≤ most_observations
  pub space : cost_bytes * (asked.dmax * (observations asked.channels body + 1)) ≤ costs

-- what its line says
abbrev pub line_at : Asked → (body costs starts : List ℕ) → ℕ → Line
line_at asked body costs starts k = record {
  d = k + 1;
  cost = entry cost_bytes costs (cell (observations asked.channels body) k (observations asked.channels body));
  starts = (answer_of (seeking (observations asked.channels body) (k + 1) (kernel_in asked.channels 0)) starts answer_bytes).starts;
}

unfoldable pub table_lines : Asked → (body costs starts : List ℕ) → ℕ → List ℕ
table_lines asked body costs starts zero = []
table_lines asked body costs starts (suc k) = table_lines asked body costs starts k ++ line_text asked.channels body (line_at asked body costs starts k)
