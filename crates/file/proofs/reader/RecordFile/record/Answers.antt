-- `file::reader::RecordFile::record` meets its contract: what it finds is record i. Assumes nothing.
use Rattle.std.proofs.Common.{arith}
use Rattle.file.proofs.Records.{found_listed, found, found_small}
use Rattle.file.proofs.reader.RecordFile.record.Goals as goal

pub invariant_of-entries : goal.invariant_of-entries
invariant_of-entries c = record { listed = found_listed _ _ c.contents_of.ensures c.args.self.now.accepted }

pub overflow_add-end : goal.overflow_add-end
overflow_add-end c =
    omega (
      arith,
      found_small _ _ c.contents_of.ensures c.args.self.now.accepted _ c.requires _ _ _ _
          c.entry-entry.ensures.0 c.offset-from.ensures c.size_of.ensures.0,
    )

pub returns : goal.returns
returns c =
    found _ _ c.contents_of.ensures c.args.self.now.accepted _ c.requires _ _ _ _
    c.entry-entry.ensures.0 c.offset-from.ensures c.size_of.ensures.0
