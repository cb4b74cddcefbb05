use Rattle.std.proofs.Common.{◌≡◌, ℕ, ◌+◌, ◌-◌, ◌∙◌, to_z, of_z, w32, length, ap, sym, get_or, drop, take, refl, arith}
use Rattle.std.proofs.lemmas.Int.{ints}
use Rattle.std.proofs.lemmas.List.{get_or-drop, get_or-take, length-drop, length-take}
use Rattle.amr_box.specs.declared.Cell.{Cell}
use Rattle.amr_box.specs.Cells.{Extent, cell}
use Rattle.amr_patch.specs.Patches.{box}
use Rattle.amr_patch.proofs.Entries.{in_grown}
use Rattle.amr_patch.proofs.Rows.{inside}
use Rattle.amr_start.proofs.Placing.{cell_held, row_inside, row_placed}
use Rattle.amr_start.proofs.placed.place_row.Goals as goal

pub place_of-from-requires-clause-inside : goal.place_of-from-requires-clause-inside
place_of-from-requires-clause-inside c =
    let b = box c.args.patch.now in
    let near = c.bx-b.ensures.near in
    let west : c.bx-b.result.lo.x ≡ b.lo.x = ap (λ (e : Extent). e.lo.x) c.bx-b.ensures.value in
    let y : c.args.y ≡ to_z w32 (of_z w32 c.args.y) = omega (arith, ints) in
    let x : b.lo.x ≡ to_z w32 (of_z w32 c.lo.result.x) = omega (arith, ints, c.lo.ensures.x, west, near.west, near.east, near.wide) in
    c.requires.inside.at (cell (to_z w32 (of_z w32 c.lo.result.x)) (to_z w32 (of_z w32 c.args.y)))
    (cell_held c.args.patch.now c.args.patch.now (to_z w32 (of_z w32 c.lo.result.x)) (to_z w32 (of_z w32 c.args.y)) refl (omega (arith, ints, x)) (omega (arith, ints, x, near.wide)) (rw (← y) c.requires.of_patch))

pub slice_bounds-set_masses-end : goal.slice_bounds-set_masses-end
slice_bounds-set_masses-end c =
    let b = box c.args.patch.now in
    let near = c.bx-b.ensures.near in
    let west : c.bx-b.result.lo.x ≡ b.lo.x = ap (λ (e : Extent). e.lo.x) c.bx-b.ensures.value in
    let east : c.bx-b.result.hi.x ≡ b.hi.x = ap (λ (e : Extent). e.hi.x) c.bx-b.ensures.value in
    let y : c.args.y ≡ to_z w32 (of_z w32 c.args.y) = omega (arith, ints) in
    let x : b.lo.x ≡ to_z w32 (of_z w32 c.lo.result.x) = omega (arith, ints, c.lo.ensures.x, west, near.west, near.east, near.wide) in
    let first = cell (to_z w32 (of_z w32 c.lo.result.x)) (to_z w32 (of_z w32 c.args.y)) in
    let last = cell b.hi.x (to_z w32 (of_z w32 c.args.y)) in
    let first_in = c.requires.inside.at first (cell_held c.args.patch.now c.args.patch.now _ _ refl (omega (arith, ints, x)) (omega (arith, ints, x, near.wide)) (rw (← y) c.requires.of_patch)) in
    let last_in = c.requires.inside.at last (cell_held c.args.patch.now c.args.patch.now _ _ refl near.wide (omega (arith, ints)) (rw (← y) c.requires.of_patch)) in
    omega (arith, row_inside c.args.columns c.args.rows (length c.args.masses.now) first last c.width.result first_in last_in refl (omega (arith, ints, x, west, east, c.width.ensures.corners)) c.requires.count, c.place_of-from.ensures)

pub returns-clause-made : goal.returns-clause-made
returns-clause-made c d h e =
    let p = c.args.patch.now in
    let b = box p in
    let near = c.bx-b.ensures.near in
    let west : c.bx-b.result.lo.x ≡ b.lo.x = ap (λ (e : Extent). e.lo.x) c.bx-b.ensures.value in
    let east : c.bx-b.result.hi.x ≡ b.hi.x = ap (λ (e : Extent). e.hi.x) c.bx-b.ensures.value in
    let y : c.args.y ≡ to_z w32 (of_z w32 c.args.y) = omega (arith, ints) in
    let x : b.lo.x ≡ to_z w32 (of_z w32 c.lo.result.x) = omega (arith, ints, c.lo.ensures.x, west, near.west, near.east, near.wide) in
    let first = cell (to_z w32 (of_z w32 c.lo.result.x)) (to_z w32 (of_z w32 c.args.y)) in
    let first_in = c.requires.inside.at first (cell_held p p (to_z w32 (of_z w32 c.lo.result.x)) (to_z w32 (of_z w32 c.args.y)) refl (omega (arith, ints, x)) (omega (arith, ints, x, near.wide)) (rw (← y) c.requires.of_patch)) in
    let at = inside b d h in
    let n = c.width.result in
    let from = c.place_of-from.result in
    let masses = c.args.masses.now in
    let m = from + n - from in
    let row = take m (drop from masses) in
    let last = cell b.hi.x (to_z w32 (of_z w32 c.args.y)) in
    let last_in = c.requires.inside.at last (cell_held p p b.hi.x (to_z w32 (of_z w32 c.args.y)) refl near.wide (omega (arith, ints)) (rw (← y) c.requires.of_patch)) in
    let fits = row_inside c.args.columns c.args.rows (length masses) first last n first_in last_in refl (omega (arith, ints, x, west, east, c.width.ensures.corners)) c.requires.count in
    let whole : length row ≡ n = length-take {A = ℕ} m (drop from masses) ∙ omega (arith, length-drop {A = ℕ} from masses, fits, c.place_of-from.ensures) in
    row_placed c.args.columns c.args.rows masses row c.set_masses.new.self first d n first_in (c.requires.inside.at d h) (sym (e ∙ y)) (omega (arith, ints, x, at.west)) (omega (arith, ints, x, at.east, west, east, c.width.ensures.corners))
    (λ k below. c.set_masses.ensures.set k (omega (arith, below, whole)))
    (λ k below. get_or-take m (drop from masses) k 0 (omega (arith, below)) ∙ get_or-drop from masses k 0 ∙ ap (λ (j : ℕ). get_or masses (j + k) 0) c.place_of-from.ensures)

pub returns-clause-others : goal.returns-clause-others
returns-clause-others c d h n =
    let y : c.args.y ≡ to_z w32 (of_z w32 c.args.y) = omega (arith, ints) in
    c.set_masses.ensures.others d (in_grown (box c.args.patch.now) d h) (λ k below same. n (ap (λ (t : Cell). t.y) same ∙ sym y))
