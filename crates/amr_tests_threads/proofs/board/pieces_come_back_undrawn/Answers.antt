use Rattle.std.proofs.Common.{false, Some, ap, map, ◌∙◌}
use Rattle.std.specs.Prelude.{None, slice_set}
use lib.ListN.{get_elem?}
use Rattle.amr_tests_threads.specs.declared.board.Counted.{Counted}
use Rattle.amr_board.specs.Ended.{EndedOf}
use Rattle.amr_tests_threads.proofs.board.pieces_come_back_undrawn.Goals as goal

pub hand-first-requires : goal.hand-first-requires
hand-first-requires g c =
    (record { task = 0; done = false }, ap (λ l. get_elem? l 0) (c.dismiss-ended.ensures.pieces ∙ ap (map Some) c.in_ok-board.ensures.pieces))

pub hand-last-requires : goal.hand-last-requires
hand-last-requires g c = (
  record { task = 4; done = false },
  ap (λ (e : EndedOf Counted). get_elem? e.pieces 4) c.hand-first.ensures.gone
      ∙ ap (λ l. get_elem? (slice_set l 0 None) 4) (c.dismiss-ended.ensures.pieces ∙ ap (map Some) c.in_ok-board.ensures.pieces),
)
