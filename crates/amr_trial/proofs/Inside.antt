-- A trial's blocks lie in its domain.
use Rattle.std.proofs.Common.{ℕ, suc, ◌*◌, ◌<◌, arith}
use Rattle.std.proofs.lemmas.Nat.{mod_below}
use Rattle.amr_trial.specs.Generator.{after, draw, quotient}
use Rattle.amr_trial.specs.Laws.{BlocksLieInside, LiesInside}
use Rattle.amr_trial.specs.Trial.{IsSize, block_from, courant_x, courant_y}

draw_below : (state others n : ℕ) → 0 < n → draw state others n < n
draw_below state others n some = mod_below (quotient (after (suc others) state)) n some

lies_inside : (size state : ℕ) → IsSize size → LiesInside size (block_from size state)
unfolding block_from
lies_inside size state is =
    let x : draw state 0 size < size = draw_below state 0 size (omega (arith, is.least)) in
    let y : draw state 1 size < size = draw_below state 1 size (omega (arith, is.least)) in
    let mass : draw state 4 4096 < 4096 = draw_below state 4 4096 (omega arith) in
    record {
      columns = omega (arith, x);
      rows = omega (arith, y);
      east = omega (arith, x);
      north = omega (arith, y);
      mass = mass;
    }

pub blocks_inside : BlocksLieInside
blocks_inside number size k is = lies_inside size (after (5 * k) (after 2 number)) is

pub courant_below : (number : ℕ) → (courant_x number < 5) × (courant_y number < 4)
courant_below number = (draw_below number 0 5 (omega arith), draw_below number 1 4 (omega arith))
