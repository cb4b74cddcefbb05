use Rattle.std.proofs.Common.{◌≡◌, ◌∙◌, get_or, length, pos, w64, rules, List, ℤ}
use Rattle.std.proofs.lemmas.Int.{to_z-of_z}
use Rattle.amr_problem.proofs.Shapes.{six}
use Rattle.amr_problem.proofs.problem.block_of.Goals as goal

pub block-requires : goal.block-requires
block-requires c =
    let row : List ℤ = c.args.row.now in
    let many : length row ≡ 6 = search rules in
    rw (
      to_z-of_z w64 (get_or row 0 (pos 0)) (search rules),
      to_z-of_z w64 (get_or row 1 (pos 0)) (search rules),
      to_z-of_z w64 (get_or row 2 (pos 0)) (search rules),
      to_z-of_z w64 (get_or row 3 (pos 0)) (search rules),
      to_z-of_z w64 (get_or row 4 (pos 0)) (search rules),
      to_z-of_z w64 (get_or row 5 (pos 0)) (search rules),
    ) (rw (six row many) at c.requires)

pub returns : goal.returns
returns c =
    let row : List ℤ = c.args.row.now in
    let many : length row ≡ 6 = search rules in
    c.block.ensures ∙ rw (
      to_z-of_z w64 (get_or row 0 (pos 0)) (search rules),
      to_z-of_z w64 (get_or row 1 (pos 0)) (search rules),
      to_z-of_z w64 (get_or row 2 (pos 0)) (search rules),
      to_z-of_z w64 (get_or row 3 (pos 0)) (search rules),
      to_z-of_z w64 (get_or row 4 (pos 0)) (search rules),
      to_z-of_z w64 (get_or row 5 (pos 0)) (search rules),
      ← six row many,
    )
