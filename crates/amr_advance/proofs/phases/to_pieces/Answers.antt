use Rattle.std.proofs.Common.{◌≡◌, ◌∙◌, List, refl, sym, subst, arith}
use Rattle.std.specs.Global.{Box}
use Rattle.std.proofs.lemmas.List.{map-id}
use Rattle.std.proofs.lemmas.Iterator.Adapters.{YieldsList-from_vec}
use Rattle.std.proofs.lemmas.Iterator.Consumers.{YieldsList-end}
use Rattle.amr_lots.specs.declared.lot.Lot.{Lot}
use Rattle.amr_advance.specs.Phases.{ArePieces}
use Rattle.amr_advance.proofs.Pieces.{no_pieces, one_piece_more}
use Rattle.amr_advance.proofs.phases.to_pieces.Goals as goal

pub loop-lot-init : goal.loop-lot-init
loop-lot-init c = record {
  pieces = subst (ArePieces c.args.phase.basis.now c.args.phase.level c.args.phase.duty _) (sym c.requires.empty) (no_pieces c.args.phase.basis.now c.args.phase.level c.args.phase.duty);
  room = refl;
}

pub loop-lot-preserved : goal.loop-lot-preserved
loop-lot-preserved c =
    let b = c.args.phase.basis.now in
    let pieces = c.loop-lot.pieces.items in
    record {
      pieces = subst (ArePieces b c.args.phase.level c.args.phase.duty _) (sym c.push_reserved.ensures.items)
          (one_piece_more b c.args.phase.level c.args.phase.duty c.loop-lot.yielded pieces c.in-Some.lot _ c.loop-lot.invariant.pieces
          (record { of_task = omega (arith, c.loop-lot.invariant.pieces.count); of_level = refl; of_duty = refl; raw = refl; of_lot = refl; of_basis = c.of.ensures }));
      room = c.push_reserved.ensures.capacity ∙ c.loop-lot.invariant.room;
    }

pub returns : goal.returns
returns c =
    let gives = c.into_iter-lot-iterator.ensures.into_iter_gives in
    let seen = YieldsList-end (YieldsList-from_vec c.args.lots.items gives.0 (gives.1 ∙ c.args.lots.ok.0)) c.loop-lot.yielded c.loop-lot.lot-iterator c.loop-lot.yielded_by c.next.result c.next.new.self c.in-None.is c.next.ensures.steps in
    let all_seen : c.loop-lot.yielded ≡ c.args.lots.items = sym (map-id c.loop-lot.yielded) ∙ seen.0 in
    subst (λ (xs : List (Box Lot)). ArePieces c.args.phase.basis.now c.args.phase.level c.args.phase.duty xs c.loop-lot.pieces.items) all_seen c.loop-lot.invariant.pieces
