use Rattle.std.proofs.Common.{◌≢◌, ℕ, None, ap, ◌∙◌, arith}
use lib.ListN.{get_elem?}
use Rattle.atomic_table.proofs.Lists.{set_else}
use Rattle.amr_board.specs.Ended.{EndedOf}
use Rattle.amr_tests_store.specs.declared.board.Simple.{Simple}
use Rattle.amr_tests_store.proofs.board.check.Goals as goal

pub hand-first-requires : goal.hand-first-requires
hand-first-requires g c =
    let apart : ◌≢◌ {A = ℕ} 0 1 = λ e. absurd (omega arith) in
    (c.requires.first.0, ap (λ (o : EndedOf Simple). get_elem? o.pieces 0) c.hand-second.ensures.gone ∙ (set_else c.args.ended.pieces 1 0 None apart ∙ c.requires.first.1))
