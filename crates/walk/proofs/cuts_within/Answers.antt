-- `walk::cuts_within` meets its contract: what is told from numbers and lengths, and then the walk.
use Rattle.std.proofs.Common.{◌≡◌, ◌∙◌, sym, Option, Some, None, Err, ok_or, arith}
use Rattle.reply.specs.declared.Reason.{Reason}
use Rattle.reply.specs.declared.Reason.TheVariants.{NoWalk}
use Rattle.walk.proofs.Walk as walk
use Rattle.walk.proofs.Answers.{handed, shape_refused, shape_clear, table, no_walk, a_walk}
use Rattle.walk.proofs.cuts_within.Goals as goal

-- the reason where there is no walk
one_reason : {A : Type 0} (v : Option A) (e r : Reason) → Err e ≡ ok_or v r → v ≡ None → e ≡ r
one_reason None e r h n = cc
one_reason (Some x) e r h n = absurd cc

pub returns-in_err-kernel : goal.returns-in_err-kernel
returns-in_err-kernel c =
    handed _ _ _ c.from_residual.ensures.1 (shape_refused c.args.sought c.args.starts.now c.args.room _ c.in_err-kernel.ensures.reply)

pub walk_back-read-requires : goal.walk_back-read-requires
walk_back-read-requires c =
    let a = c.args in
    (table a.sought a.starts.now a.room (shape_clear a.sought a.starts.now a.room c.in_ok-kernel.ensures.reply), omega arith)

pub returns-in_err-starts : goal.returns-in_err-starts
returns-in_err-starts c =
    let a = c.args in
    let e = c.in_err-starts.ensures in
    let clear = shape_clear a.sought a.starts.now a.room c.in_ok-kernel.ensures.reply in
    let same = one_reason _ _ NoWalk e.value e.ok_part in
    handed _ _ _ c.from_residual-in_err-starts.ensures.1
    (rw same (no_walk a.sought a.starts.now a.room clear (walk.no_walk _ _ _ (sym e.ok_part ∙ c.walk_back-read.ensures))))

pub returns : goal.returns
returns c =
    let a = c.args in
    let clear = shape_clear a.sought a.starts.now a.room c.in_ok-kernel.ensures.reply in
    let w = walk.a_walk _ _ _ c.in_ok-starts.starts (sym c.in_ok-starts.ensures.ok_part ∙ c.walk_back-read.ensures) in
    rw w.1 (a_walk a.sought a.starts.now a.room clear _ c.in_ok-kernel.ensures.kernel w.0)
