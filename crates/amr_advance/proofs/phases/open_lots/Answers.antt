use Rattle.std.proofs.Common.{◌∙◌, map, sym, ap, subst, arith}
use Rattle.std.specs.Global.{Box, Vec}
use Rattle.amr_lots.specs.declared.lot.Lot.{Lot}
use Rattle.amr_lots.specs.declared.lot.Work.{Work}
use Rattle.amr_advance.specs.Phases.{ArePieces, MayBeRun, planned}
use Rattle.amr_advance.proofs.Pieces.{are_numbered, lots_of}
use Rattle.amr_advance.proofs.phases.open_lots.Goals.{After-to_pieces-pieces}
use Rattle.amr_advance.proofs.phases.open_lots.Goals as goal

are : (c : After-to_pieces-pieces) → ArePieces c.args.phase.basis.now c.args.phase.level c.args.phase.duty c.args.lots.now.items c.to_pieces-pieces.result.items
are c = subst (λ (v : Vec (Box Lot)). ArePieces c.args.phase.basis.now c.args.phase.level c.args.phase.duty v.items c.to_pieces-pieces.result.items) c.replace.ensures.value c.to_pieces-pieces.ensures

pub make-requires-clause-plan : goal.make-requires-clause-plan
make-requires-clause-plan c = (c.requires.pieces c.to_pieces-pieces.result.items (are (goal.at.make-requires-clause-plan c).After-to_pieces-pieces)).plan

pub make-requires-clause-numbered : goal.make-requires-clause-numbered
make-requires-clause-numbered c = are_numbered _ _ _ _ _ (are (goal.at.make-requires-clause-numbered c).After-to_pieces-pieces)

pub make-requires-clause-few : goal.make-requires-clause-few
make-requires-clause-few c = let n = (are (goal.at.make-requires-clause-few c).After-to_pieces-pieces).count in omega (arith, n, c.requires.few)

pub returns-in-Ok-clause-opened : goal.returns-in-Ok-clause-opened
returns-in-Ok-clause-opened c =
    let raw = are (goal.at.returns-in-Ok-clause-opened c).After-to_pieces-pieces in
    let board = c.in-Ok.ensures.board in
    record {
      are = subst (ArePieces c.args.phase.basis.now c.args.phase.level c.args.phase.duty c.args.lots.now.items) (sym board.0) raw;
      plan = board.1 ∙ ap (planned c.args.shape) (sym board.0);
      may = subst (MayBeRun c.args.phase.problem.now c.args.shape) (sym board.0) (c.requires.pieces c.to_pieces-pieces.result.items raw);
      seat_of = c.in-Ok.ensures.seat.0;
      first = c.in-Ok.ensures.seat.1;
    }

pub returns-in-Err-clause-back : goal.returns-in-Err-clause-back
returns-in-Err-clause-back c =
    let kept = c.pieces_of.ensures ∙ c.in-Err.ensures.back in
    c.to_lots.ensures ∙ (λ i. map (λ (w : Work). w.lot) (kept i))
    ∙ lots_of c.args.phase.basis.now c.args.phase.level c.args.phase.duty c.args.lots.now.items c.to_pieces-pieces.result.items (are (goal.at.returns-in-Err-clause-back c).After-to_pieces-pieces)
