-- `file::contents::Entries::judge` meets its contract: the tries of the entries, then of what is left over. Assumes nothing.
use Rattle.reply.proofs.Answers.{answers, refusal_handed}
use Rattle.file.proofs.contents.Entries.judge.Goals as goal

pub returns-in_err-end : goal.returns-in_err-end
returns-in_err-end c = refusal_handed _ _ _ c.from_residual.ensures.1 (search (answers, c.in_err-end.ensures.told))
