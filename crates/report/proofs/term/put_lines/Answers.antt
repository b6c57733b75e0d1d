-- `report::term::put_lines` meets its contract: each line stands behind the others, and all of them are the term's. Assumes nothing.
use Rattle.std.specs.Prelude.{Result, is_err}
use Prim.Native.Nat.{◌+◌}
use mathlib.Core.Path.{◌≡◌, sym, ap, ap₂, ◌∙◌}
use mathlib.Core.List.{◌++◌}
use native.Mathlib.Omega.{arith}
use lib.ListN.{length}
use mathlib.Core.Bool.{Bool, false}
use Rattle.reply.specs.declared.Reply.{Reply}
use Rattle.reply.specs.declared.Refusal.{Refusal}
use Rattle.reply.specs.Refusal.{reply_of}
use Rattle.reply.proofs.Exactly.{code_of}
use Rattle.reply.proofs.Answers.{ok_done}
use Rattle.text.proofs.Pieces.{grown_nothing, grown, retell}
use Rattle.report.specs.declared.line.Line.{Line}
use Rattle.report.specs.Lines.{head_text}
use Rattle.report.specs.Tables.{table_lines}
use Rattle.report.proofs.Lengths.{head_length_lem}
use Rattle.report.proofs.Tables.{answer_length, lines_more}
use Rattle.report.proofs.Solved as term
use Rattle.report.proofs.term.put_lines.Goals as goal

-- the reply to a record that is not refused is 0
zero : {r : Reply} {b : Bool} (o : Result Unit Refusal) → r ≡ reply_of o → b ≡ is_err o → b ≡ false → r.code ≡ 0
zero o e t f = code_of (e ∙ ok_done o (sym t ∙ f))

pub loop-k-init : goal.loop-k-init
unfolding table_lines
loop-k-init c =
    let s = c.args in
    record {
      accepted = term.accepted s.term s.record.now.asked s.record.now.body.now s.costs.now s.starts.now c.requires.1 c.requires.2
          c.from.result (c.from.ensures ∙ c.solve-solved.ensures.reply) (zero _ c.from.ensures c.is_err.ensures.value c.if-is_err.false);
      put = grown_nothing _;
      upper_bound = omega arith;
    }

pub put_line-requires : goal.put_line-requires
put_line-requires c =
    let few = c.loop-k.invariant.accepted.fit.segments.few_segments in
    let d_is : c.line_at-l.result.d ≡ c.loop-k.k + 1 = ap (λ (x : Line). x.d) c.line_at-l.ensures in record {
      channels = c.loop-k.invariant.accepted.lent.channeled.few_channels;
      line = (
        omega (arith, head_length_lem c.args.term c.from.result),
        omega arith,
        omega arith,
        ap (λ (x : Line). length x.starts) c.line_at-l.ensures ∙ answer_length _ _ _,
      );
    }

pub loop-k-preserved : goal.loop-k-preserved
loop-k-preserved c = record {
  accepted = c.loop-k.invariant.accepted;
  put = retell (lines_more c.args.record.now.asked c.args.record.now.body.now _ _ c.loop-k.k _ c.line_at-l.ensures) (grown c.loop-k.invariant.put c.put_line.ensures.put);
  upper_bound = omega arith;
}

pub returns : goal.returns
returns c =
    let a = c.args in
    let asked = a.record.now.asked in
    let body = a.record.now.body.now in
    let all : c.loop-k.k ≡ asked.dmax = omega arith in
    let t = c.solve-solved.ensures in
    retell
    (ap (head_text a.term c.from.result ++◌)
    (ap (table_lines asked body _ _) all ∙ ap₂ (λ x y. table_lines asked body x y asked.dmax) t.costs_after t.starts_after)
    ∙ term.accepted_lines a.term asked body a.costs.now a.starts.now c.requires.1 c.requires.2
    c.from.result (c.from.ensures ∙ t.reply) (zero _ c.from.ensures c.is_err.ensures.value c.if-is_err.false))
    (grown c.put_head.ensures c.loop-k.invariant.put)
