use Rattle.std.proofs.Common.{◌≡◌, ◌∙◌, ◌+◌, ◌<◌, ◌++◌, ◌∷◌, [], None, length, map, take, get_or, sym, ap, arith}
use Rattle.std.proofs.lemmas.List.{length_push, map-append, take_all, take_more}
use lib.ListN.{get_elem?}
use Rattle.amr_board.specs.Ended.{EndedOf}
use Rattle.amr_layout.proofs.Planned.{nth}
use Rattle.amr_lots.specs.declared.lot.Work.{Work}
use Rattle.amr_advance.proofs.Pieces.{one_piece, other_piece, undone_piece}
use Rattle.amr_advance.proofs.phases.hand_back.Goals as goal

pub hand-requires : goal.hand-requires
hand-requires c =
    let ws = c.requires.pieces.0 in
    let at = c.loop-task.task in
    let lt : at < length ws = let n = c.requires.pieces.2 in let m = c.loop-task-test.true in omega (arith, n, m) in
    let w = nth ws at lt in
    (get_or ws at w, c.loop-task.invariant.rest at (omega arith) ∙ ap (λ ps. get_elem? ps at) c.requires.pieces.1 ∙ undone_piece ws at w lt)

pub loop-task-preserved : goal.loop-task-preserved
loop-task-preserved c =
    let inv = c.loop-task.invariant in
    let at = c.loop-task.task in
    let xs = c.loop-task.lots.items in
    let r = c.hand.result in
    let gone = c.hand.ensures.gone in
    record {
      rest = λ t from. ap (λ (o : EndedOf Work). get_elem? o.pieces t) gone ∙ other_piece c.loop-task.ended.pieces at t None (omega (arith, from)) ∙ inv.rest t (omega (arith, from));
      done = λ ws is n.
          let lt : at < length ws = let m = c.loop-task-test.true in omega (arith, n, m) in
          let piece : r ≡ get_or ws at r = one_piece c.args.ended.now at r (get_or ws at r) (sym (inv.rest at (omega arith)) ∙ c.hand.ensures.piece) (ap (λ ps. get_elem? ps at) is ∙ undone_piece ws at r lt) in
          c.push_reserved.ensures.items ∙ (λ i. inv.done ws is n i ++ c.lot_of.ensures i ∷ []) ∙ (λ i. map (λ (w : Work). w.lot) (take at ws) ++ (piece i).lot ∷ [])
          ∙ sym (ap (map (λ (w : Work). w.lot)) (take_more ws at r lt) ∙ map-append (λ (w : Work). w.lot) (take at ws) (get_or ws at r ∷ []));
      room = c.push_reserved.ensures.capacity ∙ inv.room;
      count = ap length c.push_reserved.ensures.items ∙ length_push xs c.lot_of.result ∙ ap (λ n. n + 1) inv.count;
    }

pub returns : goal.returns
returns c = λ ws is n. c.loop-task.invariant.done ws is n ∙ ap (map (λ (w : Work). w.lot)) (take_all c.loop-task.task ws (omega (arith, n, c.loop-task-test.false)))
