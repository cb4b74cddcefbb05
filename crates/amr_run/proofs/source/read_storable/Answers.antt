use Rattle.std.proofs.Common.{◌<◌, ◌≤◌, arith, refl}
use Rattle.amr_run.proofs.source.read_storable.Goals as goal

pub returns-else-species-eq1-clause-problem : goal.returns-else-species-eq1-clause-problem
returns-else-species-eq1-clause-problem g c =
    let read = c.in-Ok.ensures.problem in
    let least : 1 ≤ c.in-Ok.given.problem.species = c.in-Ok.given.problem.limits.some_species in
    let more : 1 < c.in-Ok.given.problem.species = omega (arith, least, c.if-species-eq1.false) in
    (read.0, read.1, record { problem = c.in-Ok.given.problem; accepted = read.2.1; has = (refl, more) })
