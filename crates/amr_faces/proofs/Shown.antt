-- For callers: a patch that shows the values of a level gives the fluxes and the new masses of the level.
use Rattle.std.proofs.Common.{◌≡◌, ℕ, zero, suc, ◌-◌, ◌<◌, ◌≤◌, ◌⊎◌, inl, inr, Bool, true, false, ◌&&◌, ℤ, pos, ◌+ℤ◌, ◌-ℤ◌, ◌≤ℤ◌, [], ◌∷◌, ◌++◌, length, length-append, get_or, refl, sym, ap, ◌∙◌, arith}
use Rattle.std.specs.Prelude.{not, cond}
use Rattle.std.proofs.lemmas.Int.{ints}
use Rattle.std.proofs.lemmas.Bool.{cases_lt}
use Rattle.amr_box.specs.declared.Cell.{Cell}
use Rattle.amr_box.specs.declared.Face.{Face}
use Rattle.amr_box.specs.declared.Axis.{Axis}
use Rattle.amr_box.specs.declared.Axis.TheVariants.{X, Y}
use Rattle.amr_box.specs.Cells.{Extent, at_least_zero, cell, extent, height, holds, width, within}
use Rattle.amr_box.proofs.Tests.{and_either, opposite}
use Rattle.amr_box.proofs.Numbers.{is_between}
use Rattle.amr_def.specs.declared.problem.Problem.{Problem}
use Rattle.amr_def.specs.State.{Masses}
use Rattle.amr_def.specs.Flux.{Fluxes, face, flow, flux_at, high_cell, low_cell, net}
use Rattle.amr_def.proofs.Uncovered.{same_face}
use Rattle.amr_patch.specs.declared.patches.Patch.{Patch}
use Rattle.amr_patch.specs.Places.{grown, is_face_of}
use Rattle.amr_patch.proofs.Rows.{inside, is_inside, sides}
use Rattle.amr_faces.specs.Faces.{ShowsValues, flux_beside, in_reach}
use Rattle.amr_faces.proofs.Places.{around}

-- ---- fluxes

pub flow_of : {c c' : ℤ} {d d' a a' b b' : ℕ} → c ≡ c' → d ≡ d' → a ≡ a' → b ≡ b' → flow c d a b ≡ flow c' d' a' b'
flow_of ec ed ea eb i = flow (ec i) (ed i) (ea i) (eb i)

-- a cell in a row of the box, or in a column of it, is in reach
in_row : (b : Extent) (c : Cell) → (b.lo.x -ℤ pos 1) ≤ℤ c.x → c.x ≤ℤ (b.hi.x +ℤ pos 1) → b.lo.y ≤ℤ c.y → c.y ≤ℤ b.hi.y → in_reach b c ≡ true
in_row b c west east south north =
    and_either (holds (grown b) c) (within b.lo.x b.hi.x c.x) (within b.lo.y b.hi.y c.y)
    (is_inside (grown b) c (record { west = west; east = east; south = omega (arith, ints, south); north = omega (arith, ints, north) })) (inr (is_between b.lo.y b.hi.y c.y south north))

in_column : (b : Extent) (c : Cell) → b.lo.x ≤ℤ c.x → c.x ≤ℤ b.hi.x → (b.lo.y -ℤ pos 1) ≤ℤ c.y → c.y ≤ℤ (b.hi.y +ℤ pos 1) → in_reach b c ≡ true
in_column b c west east south north =
    and_either (holds (grown b) c) (within b.lo.x b.hi.x c.x) (within b.lo.y b.hi.y c.y)
    (is_inside (grown b) c (record { west = omega (arith, ints, west); east = omega (arith, ints, east); south = south; north = north })) (inl (is_between b.lo.x b.hi.x c.x west east))

-- the cells on both sides of a face of the box are in reach
pub low_in_reach : (b : Extent) (a : Axis) (x y : ℤ) → is_face_of b (face a x y) ≡ true → in_reach b (low_cell (face a x y)) ≡ true
low_in_reach b X x y e =
    let k = around X b (cell x y) e in
    let west : b.lo.x ≤ℤ x = k.west in
    let east : x ≤ℤ (b.hi.x +ℤ pos 1) = k.east in
    in_row b (cell (x -ℤ pos 1) y) (omega (arith, ints, west)) (omega (arith, ints, east)) k.south k.north
low_in_reach b Y x y e =
    let k = around Y b (cell x y) e in
    let south : b.lo.y ≤ℤ y = k.south in
    let north : y ≤ℤ (b.hi.y +ℤ pos 1) = k.north in
    in_column b (cell x (y -ℤ pos 1)) k.west k.east (omega (arith, ints, south)) (omega (arith, ints, north))

pub high_in_reach : (b : Extent) (a : Axis) (x y : ℤ) → is_face_of b (face a x y) ≡ true → in_reach b (high_cell (face a x y)) ≡ true
high_in_reach b X x y e =
    let k = around X b (cell x y) e in
    let west : b.lo.x ≤ℤ x = k.west in
    in_row b (cell x y) (omega (arith, ints, west)) k.east k.south k.north
high_in_reach b Y x y e =
    let k = around Y b (cell x y) e in
    let south : b.lo.y ≤ℤ y = k.south in
    in_column b (cell x y) k.west k.east (omega (arith, ints, south)) k.north

-- the flux of a face by what the patch shows is the defined one
pub flux_is : (p : Problem) (l : ℕ) (m old : Masses) (q : Patch) → ShowsValues p l m old q → (f : Face) → is_face_of q.bx f ≡ true → flux_beside p l q f ≡ flux_at p l m old f
unfolding flux_beside flux_at
flux_is p l m old q shows f e = flow_of refl refl (shows.at (low_cell f) (low_in_reach q.bx f.axis f.x f.y e)) (shows.at (high_cell f) (high_in_reach q.bx f.axis f.x f.y e))

-- ---- new masses

-- the net inflow of a cell of the box by fluxes that agree on the faces of the box
pub net_alike : (b : Extent) (e e' : Fluxes) → ((f : Face) → is_face_of b f ≡ true → e f ≡ e' f) → (c : Cell) → holds b c ≡ true → net e c ≡ net e' c
unfolding net
net_alike b e e' same c h =
    let k = inside b c h in
    let west = same (face X c.x c.y) (is_inside (extent b.lo (cell (b.hi.x +ℤ pos 1) b.hi.y)) (cell c.x c.y) (record { west = k.west; east = omega (arith, ints, k.east); south = k.south; north = k.north })) in
    let east = same (face X (c.x +ℤ pos 1) c.y) (is_inside (extent b.lo (cell (b.hi.x +ℤ pos 1) b.hi.y)) (cell (c.x +ℤ pos 1) c.y) (record { west = omega (arith, ints, k.west); east = omega (arith, ints, k.east); south = k.south; north = k.north })) in
    let south = same (face Y c.x c.y) (is_inside (extent b.lo (cell b.hi.x (b.hi.y +ℤ pos 1))) (cell c.x c.y) (record { west = k.west; east = k.east; south = k.south; north = omega (arith, ints, k.north) })) in
    let north = same (face Y c.x (c.y +ℤ pos 1)) (is_inside (extent b.lo (cell b.hi.x (b.hi.y +ℤ pos 1))) (cell c.x (c.y +ℤ pos 1)) (record { west = k.west; east = k.east; south = omega (arith, ints, k.south); north = omega (arith, ints, k.north) })) in
    λ t. (west t -ℤ east t) +ℤ (south t -ℤ north t)
