use Rattle.std.proofs.Common.{[], List, map, refl, subst, sym, ◌∙◌}
use Rattle.amr_batch.specs.Answer.{answer_text, job_reply}
use Rattle.amr_batch.specs.Replies.{AreReplies}
use Rattle.amr_batch.specs.declared.answer.Reply.{Reply}
use Rattle.amr_causes.proofs.ByteLaws.{grows_none}
use Rattle.amr_run.specs.Batch.{IsReplyTo}
use Rattle.amr_run.specs.Table.{batch_row}
use Rattle.amr_run.specs.declared.status.Status.TheVariants.{NoMemory}
use Rattle.amr_run.proofs.BatchLaws.{is_batch_answer}
use Rattle.amr_run.proofs.Outcomes.{cut_short, out_of_memory, refused_by, unread}
use Rattle.amr_run.proofs.batch.batch.Goals as goal

pub returns-in_err-given-clause-outcome : goal.returns-in_err-given-clause-outcome
returns-in_err-given-clause-outcome g c =
    let read = c.in_err-given.ensures.batch in
    (read.0, ([], read.1, grows_none g.O.Sink.holds c.args.out.now, λ seen. refused_by batch_row c.from_residual.result _ read.0 seen [] [] c.from_residual.ensures.1 (unread batch_row _ read.0 seen tt read.2)))

pub returns-in_err-replies-clause-outcome : goal.returns-in_err-replies-clause-outcome
returns-in_err-replies-clause-outcome g c =
    let read = c.in_ok-given.ensures.batch in
    (read.0, ([], read.1, grows_none g.O.Sink.holds c.args.out.now, λ seen. out_of_memory batch_row c.from_residual-in_err-replies.result NoMemory read.0 seen c.from_residual-in_err-replies.ensures.1 refl))

pub returns-in_err-put_answer-clause-outcome : goal.returns-in_err-put_answer-clause-outcome
returns-in_err-put_answer-clause-outcome g c =
    let read = c.in_ok-given.ensures.batch in
    let part = c.in_err-put_answer.ensures.short in
    let are = subst (λ (l : List Reply). AreReplies (λ job r. IsReplyTo job (job_reply r)) c.deref.result.now c.deref-2.result.now l) (sym c.deref-3.ensures.value) c.in_ok-replies.ensures in
    let answer = is_batch_answer read.0 c.deref.result.now c.deref-2.result.now c.in_ok-given.given.jobs.items c.deref-3.result.now (c.deref.ensures.value ∙ read.2.same) c.deref-2.ensures.value read.2.batch are in
    (read.0, (part.0, read.1, part.2, λ seen. cut_short batch_row c.from_residual-in_err-put_answer.result read.0 seen (answer_text (map job_reply c.deref-3.result.now)) part.0 c.from_residual-in_err-put_answer.ensures.1 (answer, refl) part.1))

pub returns-clause-outcome : goal.returns-clause-outcome
returns-clause-outcome g c =
    let read = c.in_ok-given.ensures.batch in
    let are = subst (λ (l : List Reply). AreReplies (λ job r. IsReplyTo job (job_reply r)) c.deref.result.now c.deref-2.result.now l) (sym c.deref-3.ensures.value) c.in_ok-replies.ensures in
    let answer = is_batch_answer read.0 c.deref.result.now c.deref-2.result.now c.in_ok-given.given.jobs.items c.deref-3.result.now (c.deref.ensures.value ∙ read.2.same) c.deref-2.ensures.value read.2.batch are in
    (read.0, (answer_text (map job_reply c.deref-3.result.now), read.1, c.in_ok-put_answer.ensures.whole, λ seen. (answer, refl)))
