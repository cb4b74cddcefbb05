use Rattle.std.proofs.Common.{◌≡◌, ◌∙◌, ◌+◌, ◌-◌, ◌<◌, pos, ◌+ℤ◌, ◌-ℤ◌, drop, to_z, of_z, w32, ap, arith}
use Rattle.std.proofs.lemmas.Int.{ints}
use Rattle.std.proofs.lemmas.List.{get_or-drop, get_or-take}
use Rattle.amr_box.specs.Cells.{cell, width}
use Rattle.amr_box.proofs.Numbers.{is_between}
use Rattle.amr_patch.specs.Patches.{box, value_in}
use Rattle.amr_criterion.proofs.patches.values_from.Goals as goal

pub row_with_frame-row-requires : goal.row_with_frame-row-requires
row_with_frame-row-requires c =
    let b = box c.args.patch.now in
    is_between (b.lo.y -ℤ pos 1) (b.hi.y +ℤ pos 1) (to_z w32 (of_z w32 c.args.c.y)) (omega (arith, ints, c.requires.south)) (omega (arith, ints, c.requires.north))

pub returns-clause-values : goal.returns-clause-values
returns-clause-values c =
    λ k h.
    let at = c.column_place-at.result in
    let row = c.row_with_frame-row.result.now in
    let b = box c.args.patch.now in
    let same : width c.bx.result ≡ width b = ap width c.bx.ensures.value in
    let lo : c.bx.result.lo.x ≡ b.lo.x = ap (λ t. t.lo.x) c.bx.ensures.value in
    let fits : at + k < width b + 2 = omega (arith, h, c.column_place-at.ensures.within, same) in
    let lt : k < at + c.args.n - at = omega (arith, h) in
    let x : b.lo.x -ℤ pos 1 +ℤ pos (at + k) ≡ c.args.c.x +ℤ pos k = omega (arith, ints, c.column_place-at.ensures.value, lo) in
    let y : to_z w32 (of_z w32 c.args.c.y) ≡ c.args.c.y = omega (arith, ints) in
    get_or-take (at + c.args.n - at) (drop at row) k 0 lt
    ∙ get_or-drop at row k 0
    ∙ c.row_with_frame-row.ensures.values (at + k) fits
    ∙ (λ i. value_in c.args.patch.now (cell (x i) (y i)))
