use Rattle.std.proofs.Common.{◌≡◌, List, ℕ, length, refl, subst, arith}
use Rattle.std.proofs.lemmas.Result.{on_err_weaker, on_ok_weaker}
use Rattle.amr_causes.proofs.ByteLaws.{grows_more, grows_to}
use Rattle.amr_io.specs.Short.{FallsShort}
use Rattle.amr_io.proofs.Shorter.{short_after, short_longer}
use Rattle.amr_batch.proofs.Answering.{reply_is, where_it_fails}
use Rattle.amr_batch.proofs.answer.put_reply.Goals as goal

pub returns-in_err-write_fragments-clause-short : goal.returns-in_err-write_fragments-clause-short
returns-in_err-write_fragments-clause-short g c =
    let text = c.args.reply.now.text.items in
    let size : c.len.result ≡ length c.args.reply.now.text.items = omega (arith, c.len.ensures, c.args.reply.now.text.ok.0) in
    let is = reply_is c.args.number c.from.result c.len.result c.args.reply.now text c.from.ensures size refl in
    where_it_fails c.from_residual.result
    (subst (λ (l : List ℕ). FallsShort g.O.Sink.holds c.args.out.now c.write_fragments.new.sink l) is (short_longer g.O.Sink.holds c.args.out.now c.write_fragments.new.sink _ text c.in_err-write_fragments.ensures.short))

pub returns-clause-whole : goal.returns-clause-whole
returns-clause-whole g c =
    let size : c.len.result ≡ length c.args.reply.now.text.items = omega (arith, c.len.ensures, c.args.reply.now.text.ok.0) in
    let is = reply_is c.args.number c.from.result c.len.result c.args.reply.now c.deref.result.now c.from.ensures size c.deref.ensures.value in
    on_ok_weaker c.write_whole.result (λ grows. grows_to g.O.Sink.holds c.args.out.now c.write_whole.new.sink _ _ is (grows_more g.O.Sink.holds c.args.out.now c.write_fragments.new.sink c.write_whole.new.sink _ _ c.in_ok-write_fragments.ensures.whole grows)) c.write_whole.ensures.whole

pub returns-clause-short : goal.returns-clause-short
returns-clause-short g c =
    let size : c.len.result ≡ length c.args.reply.now.text.items = omega (arith, c.len.ensures, c.args.reply.now.text.ok.0) in
    let is = reply_is c.args.number c.from.result c.len.result c.args.reply.now c.deref.result.now c.from.ensures size c.deref.ensures.value in
    on_err_weaker c.write_whole.result
    (λ short. subst (λ (l : List ℕ). FallsShort g.O.Sink.holds c.args.out.now c.write_whole.new.sink l) is (short_after g.O.Sink.holds c.args.out.now c.write_fragments.new.sink c.write_whole.new.sink _ c.deref.result.now c.in_ok-write_fragments.ensures.whole short))
    c.write_whole.ensures.short
