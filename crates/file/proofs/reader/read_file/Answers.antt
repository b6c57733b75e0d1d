-- `file::reader::read_file` meets its contract: the tries of the head, then of the entries. Assumes nothing.
use Rattle.reply.proofs.Answers.{answers, reason_told}
use Rattle.file.specs.Tries.{read_tries}
use Rattle.file.proofs.reader.read_file.Goals as goal

pub returns-in_err-entries-clause-reply : goal.returns-in_err-entries-clause-reply
unfolding read_tries
returns-in_err-entries-clause-reply c = reason_told _ _ _ c.from_residual.ensures.1 (search (answers, c.in_err-entries.ensures.reply))
