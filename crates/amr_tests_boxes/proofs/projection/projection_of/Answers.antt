use Rattle.std.proofs.Common.{ap, arith}
use Rattle.std.proofs.lemmas.Int.{ints}
use Rattle.amr_nest.proofs.Reaches.{one_inside}
use Rattle.amr_tests_boxes.proofs.projection.projection_of.Goals as goal

pub project-requires : goal.project-requires
project-requires c =
    let is = rw c.unwrap.ensures at c.try_new.ensures.some in
    let west = ap (λ b. b.lo.x) is in
    let south = ap (λ b. b.lo.y) is in
    let east = ap (λ b. b.hi.x) is in
    let north = ap (λ b. b.hi.y) is in
    λ q h. one_inside _ _ q (omega (arith, ints, west)) (omega (arith, ints, south)) (omega (arith, ints, east)) (omega (arith, ints, north)) h
