use Rattle.std.proofs.Common.{◌≡◌, map, take}
use Rattle.amr_problem.specs.Fields.{block_numbers}
use Rattle.amr_problem.proofs.problem.blocks.Given as goal

abbrev pub invariant-loop-row : goal.invariant-loop-row
invariant-loop-row l = map block_numbers l.blocks.items ≡ take l.row-index l.rows
