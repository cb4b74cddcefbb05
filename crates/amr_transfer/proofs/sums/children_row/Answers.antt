use Rattle.std.proofs.Common.{◌≡◌, ◌∙◌, ℕ, ◌≤◌, ◌+ℤ◌, ◌<ℤ◌, pos, negsuc, ℤ, to_z, of_z, w32, ap, arith}
use Rattle.std.proofs.lemmas.Int.{ints}
use Rattle.amr_box.specs.Cells.{cell, within}
use Rattle.amr_patch.specs.Patches.{box, mass_in}
use Rattle.amr_transfer.proofs.sums.children_row.Goals as goal

-- the row is worked out without loss
row_is : (y : ℤ) (k : ℕ) → negsuc 16777216 <ℤ y → y <ℤ pos 16777217 → k ≤ 1 → to_z w32 (of_z w32 (to_z w32 (of_z w32 (to_z w32 (of_z w32 y) +ℤ to_z w32 (of_z w32 y))) +ℤ to_z w32 k)) ≡ y +ℤ y +ℤ pos k
row_is y k from to bit =
    let once : to_z w32 (of_z w32 y) ≡ y = omega (arith, ints) in
    let twice : to_z w32 (of_z w32 (to_z w32 (of_z w32 y) +ℤ to_z w32 (of_z w32 y))) ≡ y +ℤ y = omega (arith, ints, once) in
    let more : to_z w32 k ≡ pos k = omega (arith, ints) in
    omega (arith, ints, twice, more)

pub masses_of_row-requires : goal.masses_of_row-requires
masses_of_row-requires c = ap (λ (z : ℤ). within (box c.args.fine.now).lo.y (box c.args.fine.now).hi.y z) (row_is c.args.c.y c.args.k c.requires.from c.requires.to c.requires.of_row) ∙ c.requires.there

pub returns : goal.returns
returns c =
    let f = c.args.fine.now in
    record {
      count = c.masses_of_row.ensures.count;
      at = λ k lt. c.masses_of_row.ensures.masses k (omega (arith, lt, c.masses_of_row.ensures.count)) ∙ ap (λ (z : ℤ). mass_in f (cell ((box f).lo.x +ℤ pos k) z)) (row_is c.args.c.y c.args.k c.requires.from c.requires.to c.requires.of_row);
    }
