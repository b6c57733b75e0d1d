-- The bytes that `summarize_to` is lent, by its reply: what they become, what is accepted, and what stands in them then. Assumes nothing.
use Prim.Native.Nat.{ℕ, ◌*◌, ◌≤◌, ◌<◌}
use mathlib.Core.Path.{◌≡◌, ap, ◌∙◌}
use mathlib.Core.Logic.{◌↔◌}
use mathlib.Core.List.{List}
use native.Mathlib.Omega.{arith}
use lib.ListN.{length, get_or}
use Rattle.kernel.specs.Limits.{most_channels}
use Rattle.reply.specs.declared.Reason.{Reason}
use Rattle.reply.specs.declared.Refusal.{Refusal}
use Rattle.reply.specs.Reply.{refusal, done}
use Rattle.reply.specs.Refusal.{number_of, told}
use Rattle.reply.proofs.Answers.{left_told, left_refused, left_done}
use Rattle.reply.proofs.First.{if_done_lem}
use Rattle.reply.proofs.Exactly.{accepted_iff}
use Rattle.record.specs.declared.Asked.{Asked}
use Rattle.record.specs.Body.{samples}
use Rattle.segment.specs.declared.Summary.{Summary}
use Rattle.segment.specs.Summary.{SummaryAccepted, no_summary, summaries_of}
use Rattle.segment.specs.Bytes.{summary_bytes, summaries_bytes, summarize_tries, Stands, put_summaries, summarize_reply, summary_left}
use Rattle.segment.proofs.Summaries.{stored}
use Rattle.segment.proofs.Bytes.{first_length, first_behind, first_stands}
use Rattle.segment.proofs.Stretch as stretch

module _ (asked : Asked) (body : List ℕ) (first len : ℕ) (out : List ℕ) where
  abbrev summaries : List Summary
  summaries = summaries_of asked.channels (samples asked.channels body) first len

  -- the lent bytes, by what code answers
  pub left_refusal : (f : Refusal) → told f ≡ summarize_reply asked body first len (length out) → out ≡ summary_left asked body first len out
  unfolding summary_left
  left_refusal f e = left_told _ _ out f e

  pub left_reason : (r : Reason) → refusal (number_of r) 0 ≡ summarize_reply asked body first len (length out) → out ≡ summary_left asked body first len out
  unfolding summary_left
  left_reason r e = left_refused _ _ out r 0 0 e

  pub left_written : done ≡ summarize_reply asked body first len (length out) → (s : List Summary) → s ≡ summaries → (new : List ℕ) → new ≡ put_summaries s out →
      new ≡ summary_left asked body first len out
  unfolding summary_left
  left_written e s is new h = h ∙ ap (λ (l : List Summary). put_summaries l out) is ∙ left_done _ _ out e

  -- a stretch and its bytes are accepted where all is clear, and only there
  pub lent_accepted : ((summarize_reply asked body first len (length out)).code ≡ 0) ↔ (SummaryAccepted asked body first len × (summaries_bytes ≤ length out))
  unfolding summarize_reply
  lent_accepted =
      let iff = accepted_iff (summarize_tries asked body first len (length out)) (search depth 20) in (
        λ z. let h = iff.0 z in ((stretch.fit asked body first len).0 h.0, h.1),
        λ a. iff.1 ((stretch.fit asked body first len).1 a.0, a.1),
      )

  -- what stands in them
  module _ (taken : (summarize_reply asked body first len (length out)).code ≡ 0) where
    are_put : summary_left asked body first len out ≡ put_summaries summaries out
    unfolding summary_left
    are_put = if_done_lem (summarize_reply asked body first len (length out)) _ out taken

    pub stand : (c : ℕ) → c < most_channels → Stands (summary_left asked body first len out) (summary_bytes * c) (get_or summaries c no_summary)
    stand c h =
        let a = lent_accepted.0 taken in
        rw are_put (first_stands summaries out most_channels c h (stored asked body first len a.0 c) a.1)

    pub behind : (j : ℕ) → summaries_bytes ≤ j → get_or (summary_left asked body first len out) j 0 ≡ get_or out j 0
    behind j h = rw are_put (first_behind summaries out most_channels j (omega arith))

    pub same_length : length (summary_left asked body first len out) ≡ length out
    same_length = rw are_put (first_length summaries out most_channels)
