use Rattle.std.proofs.Common.{◌≡◌, ◌∙◌, ℕ, ◌*◌, ◌≤◌, true, pos, ◌+ℤ◌, to_z, of_z, w32, ap, arith}
use Rattle.std.proofs.lemmas.Int.{ints}
use Rattle.amr_box.specs.declared.Cell.{Cell}
use Rattle.amr_box.specs.Cells.{cell, child, holds}
use Rattle.amr_box.proofs.CellEquality.{same_cells}
use Rattle.amr_patch.specs.declared.patches.Patch.{Patch}
use Rattle.amr_patch.specs.Patches.{box, mass_in}
use Rattle.amr_patch.proofs.Rows.{inside}
use Rattle.amr_transfer.proofs.covered.children_from.Goals as goal

-- the cell is worked out without loss
cell_is : (f : Patch) (c : Cell) (k : ℕ) → k ≤ 1 → holds (box f) (child c (2 * k)) ≡ true → cell (to_z w32 (of_z w32 (to_z w32 (of_z w32 c.x) +ℤ to_z w32 (of_z w32 c.x)))) (to_z w32 (of_z w32 (to_z w32 (of_z w32 (to_z w32 (of_z w32 c.y) +ℤ to_z w32 (of_z w32 c.y))) +ℤ to_z w32 k))) ≡ child c (2 * k)
cell_is f c k bit there =
    let i = inside (box f) (child c (2 * k)) there in
    let x : to_z w32 (of_z w32 c.x) ≡ c.x = omega (arith, ints, i.west, i.east, f.near.west, f.near.east) in
    let y : to_z w32 (of_z w32 c.y) ≡ c.y = omega (arith, ints, i.south, i.north, f.near.south, f.near.north) in
    let twice : to_z w32 (of_z w32 (to_z w32 (of_z w32 c.y) +ℤ to_z w32 (of_z w32 c.y))) ≡ c.y +ℤ c.y = omega (arith, ints, y, i.south, i.north, f.near.south, f.near.north) in
    let more : to_z w32 k ≡ pos k = omega (arith, ints) in
    same_cells _ _ (omega (arith, ints, x, i.west, i.east, f.near.west, f.near.east)) (omega (arith, ints, twice, more, i.south, i.north, f.near.south, f.near.north))

pub masses_from-requires : goal.masses_from-requires
masses_from-requires c = ap (holds (box c.args.fine.now)) (cell_is c.args.fine.now c.args.c c.args.k c.requires.of_row c.requires.there) ∙ c.requires.there

pub returns-clause-masses : goal.returns-clause-masses
returns-clause-masses c j lt =
    let f = c.args.fine.now in
    let e = c.args.c in
    let k = c.args.k in
    let x : (child e (2 * k)).x +ℤ pos j ≡ e.x +ℤ e.x +ℤ pos j = omega (arith, ints) in
    let y : (child e (2 * k)).y ≡ e.y +ℤ e.y +ℤ pos k = omega (arith, ints) in
    c.masses_from.ensures.masses j lt
    ∙ ap (λ (d : Cell). mass_in f (cell (d.x +ℤ pos j) d.y)) (cell_is f e k c.requires.of_row c.requires.there)
    ∙ (λ i. mass_in f (cell (x i) (y i)))

pub overflow_add-c : goal.overflow_add-c
overflow_add-c c =
    let f = c.args.fine.now in
    let i = inside (box f) (child c.args.c (2 * c.args.k)) c.requires.there in
    omega (arith, ints, i.west, i.east, f.near.west, f.near.east)

pub overflow_add-c-2 : goal.overflow_add-c-2
overflow_add-c-2 c =
    let f = c.args.fine.now in
    let i = inside (box f) (child c.args.c (2 * c.args.k)) c.requires.there in
    omega (arith, ints, i.south, i.north, f.near.south, f.near.north)

pub overflow_add-c-3 : goal.overflow_add-c-3
overflow_add-c-3 c =
    let f = c.args.fine.now in
    let i = inside (box f) (child c.args.c (2 * c.args.k)) c.requires.there in
    omega (arith, ints, i.south, i.north, f.near.south, f.near.north)

pub returns-clause-count : goal.returns-clause-count
returns-clause-count c =
    let f = c.args.fine.now in
    let x = ap (λ (d : Cell). d.x) (cell_is f c.args.c c.args.k c.requires.of_row c.requires.there) in
    omega (arith, ints, c.masses_from.ensures.count, x)
