use Rattle.std.proofs.Common.{◌≡◌, ◌∙◌, ◌&&◌, ℤ, List, length, get_or, pos, sym, ap, rules, w64}
use Rattle.std.specs.Prelude.{int_le, int_lt}
use Rattle.std.proofs.lemmas.Int.{to_z-of_z}
use Rattle.amr_problem.proofs.Shapes.{inside_by_axis, between_as}
use Rattle.amr_problem.proofs.checks.is_inside.Goals as goal

pub returns-then-along : goal.returns-then-along
returns-then-along c =
    let block : List ℤ = c.args.block.now in
    let many : length block ≡ 6 = search rules in
    let along = between_as _ _ _ _ _ _ c.is_between-along.result c.is_between-along.ensures (to_z-of_z w64 (get_or block 0 (pos 0)) (search rules)) (to_z-of_z w64 (get_or block 2 (pos 0)) (search rules)) (to_z-of_z w64 c.args.nx (search rules)) in
    let across = between_as _ _ _ _ _ _ c.is_between-across.result c.is_between-across.ensures (to_z-of_z w64 (get_or block 1 (pos 0)) (search rules)) (to_z-of_z w64 (get_or block 3 (pos 0)) (search rules)) (to_z-of_z w64 c.args.ny (search rules)) in
    across
    ∙ sym (inside_by_axis c.args.nx c.args.ny block many ∙ ap (λ t. t && (int_le (get_or block 1 (pos 0)) (get_or block 3 (pos 0)) && int_lt (get_or block 3 (pos 0)) c.args.ny)) (sym along ∙ c.if-along.true))

pub returns-else-along : goal.returns-else-along
returns-else-along c =
    let block : List ℤ = c.args.block.now in
    let many : length block ≡ 6 = search rules in
    let along = between_as _ _ _ _ _ _ c.is_between-along.result c.is_between-along.ensures (to_z-of_z w64 (get_or block 0 (pos 0)) (search rules)) (to_z-of_z w64 (get_or block 2 (pos 0)) (search rules)) (to_z-of_z w64 c.args.nx (search rules)) in
    c.if-along.false
    ∙ sym (inside_by_axis c.args.nx c.args.ny block many ∙ ap (λ t. t && (int_le (get_or block 1 (pos 0)) (get_or block 3 (pos 0)) && int_lt (get_or block 3 (pos 0)) c.args.ny)) (sym along ∙ c.if-along.false))
