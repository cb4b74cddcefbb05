use Rattle.std.proofs.Common.{sym, w64}
use Rattle.std.proofs.lemmas.Int.{to_z-of_z}
use Rattle.amr_problem.proofs.ProblemLaws.{block_as-numbers}
use Rattle.amr_problem.proofs.problem.block.Goals as goal

pub returns : goal.returns
returns c =
    let a = c.args in
    let r = c.ranges in
    rw (to_z-of_z w64 a.x0 r.x0, to_z-of_z w64 a.y0 r.y0, to_z-of_z w64 a.x1 r.x1, to_z-of_z w64 a.y1 r.y1, to_z-of_z w64 a.mass r.mass, to_z-of_z w64 a.species r.species)
    (sym (block_as-numbers a.x0 a.y0 a.x1 a.y1 a.mass a.species c.requires))
