use Rattle.std.proofs.Common.{◌∙◌, refl, subst}
use Rattle.std.proofs.lemmas.Result.{on_err_weaker, on_ok_weaker}
use Rattle.amr_causes.specs.Bytes.{Grows}
use Rattle.amr_io.specs.Short.{FallsShort}
use Rattle.amr_batch.specs.Answer.{job_reply, reply_text}
use Rattle.amr_batch.specs.declared.answer.Reply.{Reply}
use Rattle.amr_batch.proofs.Answering.{end_short, put_end, put_more, put_none, put_short, where_it_fails}
use Rattle.amr_batch.proofs.answer.put_answer.Goals as goal

pub loop-number-init : goal.loop-number-init
loop-number-init g c = record { put = put_none g.O.Sink.holds c.args.out.now c.args.replies.now; same = refl }

pub loop-number-preserved : goal.loop-number-preserved
loop-number-preserved g c =
    let l = c.loop-number in
    let x = c.index-replies-number.result in
    let grows = subst (λ (r : Reply). Grows g.O.Sink.holds l.out c.put_reply.new.out (reply_text l.number (job_reply r))) c.index-replies-number.is c.in_ok-put_reply.ensures.whole in
    record {
      put = put_more g.O.Sink.holds c.args.out.now l.out c.put_reply.new.out c.args.replies.now l.number x c.loop-number-test.true l.invariant.put grows;
      same = c.in_ok-put_reply.ensures.no_fault ∙ l.invariant.same;
    }

pub returns-in_err-put_reply-clause-short : goal.returns-in_err-put_reply-clause-short
returns-in_err-put_reply-clause-short g c =
    let l = c.loop-number in
    let x = c.index-replies-number.result in
    let short = subst (λ (r : Reply). FallsShort g.O.Sink.holds l.out c.put_reply.new.out (reply_text l.number (job_reply r))) c.index-replies-number.is c.in_err-put_reply.ensures.short in
    where_it_fails c.from_residual.result (put_short g.O.Sink.holds c.args.out.now l.out c.put_reply.new.out c.args.replies.now l.number x c.loop-number-test.true l.invariant.put short)

pub returns-clause-whole : goal.returns-clause-whole
returns-clause-whole g c =
    let l = c.loop-number in
    on_ok_weaker c.write_whole.result (λ grows. put_end g.O.Sink.holds c.args.out.now l.out c.write_whole.new.sink c.args.replies.now l.number c.loop-number-test.false l.invariant.put grows) c.write_whole.ensures.whole

pub returns-clause-short : goal.returns-clause-short
returns-clause-short g c =
    let l = c.loop-number in
    on_err_weaker c.write_whole.result (λ short. end_short g.O.Sink.holds c.args.out.now l.out c.write_whole.new.sink c.args.replies.now l.number c.loop-number-test.false l.invariant.put short) c.write_whole.ensures.short
