-- `file::layout::entry_at` meets its contract: the entry is made of its fields. Assumes nothing.
use Rattle.std.proofs.Common.{rules, ap, arith}
use Rattle.file.specs.declared.layout.Fields.{Fields}
use Rattle.file.proofs.Codec.{entry_read}
use Rattle.file.proofs.layout.entry_at.Goals as goal

pub returns : goal.returns
returns c =
    let at = c.fields_at-at.ensures in
    entry_read _ _ _ _ _ _ _ _ _ _ _ _ c.requires.1 (search rules)
    c.number-term.ensures.0 c.field-count.ensures c.number-pairs.ensures.0 c.number-dmax.ensures.0 c.number-n.ensures.0
    (record {
      channels = omega (arith, ap (λ (f : Fields). f.channels) at);
      pairs = omega (arith, ap (λ (f : Fields). f.pairs) at);
      dmax = omega (arith, ap (λ (f : Fields). f.dmax) at);
      n = omega (arith, ap (λ (f : Fields). f.n) at);
    })
