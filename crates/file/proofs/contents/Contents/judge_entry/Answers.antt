-- `file::contents::Contents::judge_entry` meets its contract: what is refused of an entry's channels is handed on. Assumes nothing.
use Rattle.reply.proofs.Answers.{answers, refusal_handed}
use Rattle.file.proofs.contents.Contents.judge_entry.Goals as goal

pub returns-in_err-judge-clause-reply : goal.returns-in_err-judge-clause-reply
returns-in_err-judge-clause-reply c = refusal_handed _ _ _ c.from_residual.ensures.1 (search (answers, c.in_err-judge.ensures.reply))
