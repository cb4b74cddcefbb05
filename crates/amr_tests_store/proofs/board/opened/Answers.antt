use Rattle.std.proofs.Common.{◌≡◌, List, [], ◌∷◌, false, ap, ◌∙◌}
use lib.ListN.{get_elem?}
use Rattle.amr_tests_store.specs.declared.board.Simple.{Simple}
use Rattle.amr_tests_store.proofs.board.opened.Goals as goal

pub returns-in-Ok-clause-pieces : goal.returns-in-Ok-clause-pieces
returns-in-Ok-clause-pieces g c =
    let first : Simple = record { task = 0; value = 0; amount = 3; done = false } in
    let second : Simple = record { task = 1; value = 9; amount = 5; done = false } in
    let are : c.in-Ok.both.0.pieces ≡ first ∷ second ∷ [] = c.in-Ok.ensures.board.0 ∙ c.in_ok-two_pieces.ensures in
    ((first, ap (λ (l : List Simple). get_elem? l 0) are), (second, ap (λ (l : List Simple). get_elem? l 1) are))
