use Rattle.std.proofs.Common.{◌≡◌, ◌∙◌, [], ◌∷◌, ◌++◌, map, sym, ap}
use Rattle.std.proofs.lemmas.List.{map-id, map_push}
use Rattle.std.proofs.lemmas.Iterator.Adapters.{YieldsList-from_vec}
use Rattle.std.proofs.lemmas.Iterator.Consumers.{YieldsList-end}
use Rattle.amr_lots.specs.declared.lot.Work.{Work}
use Rattle.amr_advance.proofs.phases.to_lots.Goals as goal

pub loop-work-preserved : goal.loop-work-preserved
loop-work-preserved c = record {
  lots = c.push_reserved.ensures.items ∙ (λ i. c.loop-work.invariant.lots i ++ c.lot_of.ensures i ∷ []) ∙ sym (map_push (λ (w : Work). w.lot) c.loop-work.yielded c.in-Some.work);
  room = c.push_reserved.ensures.capacity ∙ c.loop-work.invariant.room;
}

pub returns : goal.returns
returns c =
    let gives = c.into_iter-work-iterator.ensures.into_iter_gives in
    let seen = YieldsList-end (YieldsList-from_vec c.args.pieces.items gives.0 (gives.1 ∙ c.args.pieces.ok.0)) c.loop-work.yielded c.loop-work.work-iterator c.loop-work.yielded_by c.next.result c.next.new.self c.in-None.is c.next.ensures.steps in
    let all_seen : c.loop-work.yielded ≡ c.args.pieces.items = sym (map-id c.loop-work.yielded) ∙ seen.0 in
    c.loop-work.invariant.lots ∙ ap (map (λ (w : Work). w.lot)) all_seen
