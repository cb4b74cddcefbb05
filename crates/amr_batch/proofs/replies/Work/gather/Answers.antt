use Rattle.std.proofs.Common.{◌≡◌, ◌∙◌, length, sym, ap, subst}
use Rattle.std.proofs.lemmas.List.{map-id}
use Rattle.std.proofs.lemmas.Iterator.Adapters.{YieldsList-from_vec}
use Rattle.std.proofs.lemmas.Iterator.Consumers.{YieldsList-end}
use Rattle.amr_batch.specs.Replies.{HasReplies}
use Rattle.amr_batch.proofs.Placing.{one_more_taken}
use Rattle.amr_batch.proofs.replies.Work.gather.Goals as goal

pub loop-place-preserved : goal.loop-place-preserved
loop-place-preserved g c h =
    one_more_taken (g.S.Solve.answers c.args.self.now.solve.now) c.args.self.now.bytes.now c.args.self.now.spans.now c.loop-place.yielded c.loop-place.replies.items c.push.new.self.items c.in-Some.place c.in-Some-place.reply c.in-Some-place.is c.in_ok-push-in-Some-place.ensures.items c.loop-place.invariant h

-- the loop has seen all places
pub returns : goal.returns
returns g c =
    let gives = c.into_iter-place-iterator.ensures.into_iter_gives in
    let seen = YieldsList-end (YieldsList-from_vec c.args.places.items gives.0 (gives.1 ∙ c.args.places.ok.0)) c.loop-place.yielded c.loop-place.place-iterator c.loop-place.yielded_by c.next.result c.next.new.self c.in-None.is c.next.ensures.steps in
    let all_seen : c.loop-place.yielded ≡ c.args.places.items = sym (map-id c.loop-place.yielded) ∙ seen.0 in
    let taken = c.loop-place.invariant (subst (λ l. HasReplies (g.S.Solve.answers c.args.self.now.solve.now) c.args.self.now.bytes.now c.args.self.now.spans.now l) (sym all_seen) c.requires.filled) in
    record { count = taken.count ∙ ap length all_seen ∙ c.requires.long; each = taken.each }
