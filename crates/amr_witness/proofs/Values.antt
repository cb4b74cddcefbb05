-- Courant numbers of faces, and values of ready levels.
use Rattle.std.proofs.Common.{◌≡◌, ℕ, ◌/◌, ◌^◌, ◌<◌, ◌≤◌, Bool, true, false, cond, ℤ, is_some, pos, negsuc, ◌-ℤ◌, ◌≤ℤ◌, sym, ◌∙◌, ap, arith, List, ◌∷◌}
use Rattle.std.specs.Prelude.{unsigned_abs}
use Rattle.std.specs.declared.option.Option.{Option}
use Rattle.std.specs.declared.option.Option.TheVariants.{None, Some}
use Rattle.std.specs.Option.{unwrap_or}
use Rattle.std.proofs.Math.Nat.{div-le_self}
use Rattle.amr_box.specs.declared.Cell.{Cell}
use Rattle.amr_box.specs.declared.Face.{Face}
use Rattle.amr_box.specs.declared.Axis.{Axis}
use Rattle.amr_box.specs.declared.Axis.TheVariants.{X, Y}
use Rattle.amr_box.specs.Cells.{cell, parent}
use Rattle.amr_def.specs.declared.problem.Problem.{Problem}
use Rattle.amr_def.specs.Domain.{columns, rows, domain, home_cell, in_domain, is_periodic}
use Rattle.amr_def.specs.State.{Masses, mass_of}
use Rattle.amr_def.specs.Value.{inflow_at, value_at}
use Rattle.amr_def.specs.Flux.{courant, courant_in, high_cell, number_for, at_base}
use Rattle.amr_def.proofs.Courants.{stable, weighs}
use Rattle.amr_def.proofs.Flows.{wrapped_inside}
use Rattle.amr_def.proofs.Homes.{wrapped_between}
use Rattle.amr_def.proofs.Greatest.{SidesUpTo}
use Rattle.amr_def.proofs.Stepping.{sides_up}
use Rattle.amr_witness.specs.Ready.{AreReadyToStep, IsFace, IsNearby, HasSmallValues}
use Rattle.std.proofs.lemmas.Int.{ints}
use Rattle.amr_def.proofs.Sizes.{doubled_small}
use Rattle.amr_witness.proofs.Sizes.{level_some}

number_small : (p : Problem) (l : ℕ) (a : Axis) (c : Cell) → unsigned_abs (courant_in p l a c) ≤ 1024
number_small p l X c = omega (arith, (stable p).within l c, p.limits.greatest_d)
number_small p l Y c = omega (arith, (stable p).within l c, p.limits.greatest_d)

pub courant_small : (p : Problem) (l : ℕ) (f : Face) → unsigned_abs (courant p l f) ≤ 1024
unfolding courant
courant_small p l f = number_small p l f.axis (home_cell (domain p l) (high_cell f))

pub x_courant_is : (p : Problem) (l : ℕ) (f : Face) (y : ℕ) → f.axis ≡ X → f.y ≡ pos y → y < rows p l → number_for p.cx p.shear_x (y / 2 ^ l) ≡ courant p l f
unfolding courant
x_courant_is p l f y axis at inside =
    rw (axis, at) (ap (λ z. number_for p.cx p.shear_x (at_base l z)) (sym (wrapped_inside (is_periodic p.y_sides) (rows p l) y inside)))

pub y_courant_is : (p : Problem) (l : ℕ) (f : Face) (x : ℕ) → f.axis ≡ Y → f.x ≡ pos x → x < columns p l → number_for p.cy p.shear_y (x / 2 ^ l) ≡ courant p l f
unfolding courant
y_courant_is p l f x axis at inside =
    rw (axis, at) (ap (λ z. number_for p.cy p.shear_y (at_base l z)) (sym (wrapped_inside (is_periodic p.x_sides) (columns p l) x inside)))

-- ---- values

chosen : (o : Option ℕ) (t : Bool) (x y b : ℕ) → unwrap_or o 0 ≤ b → x ≤ b → y ≤ b → unwrap_or o (cond t x y) ≤ b
chosen (Some v) t x y b h i k = h
chosen None true x y b h i k = i
chosen None false x y b h i k = k

pub mass_up : (p : Problem) (l : ℕ) (m old : Masses) (ms : List Masses) (r : AreReadyToStep p l (m ∷ ms) old) (c : Cell) → mass_of m c ≤ r.bound
mass_up p l m old ms r c = weighs l _ _ (r.masses.0.at c)

pub small_values : (p : Problem) (l : ℕ) (m old : Masses) (ms : List Masses) → AreReadyToStep p l (m ∷ ms) old → HasSmallValues p l m old
unfolding value_at
small_values p l m old ms r = record {
  at = λ c.
      let k = home_cell (domain p l) c in
      let sides : SidesUpTo p r.bound = sides_up p r.bound r.least in
      let part : inflow_at p l k / 4 ^ l ≤ inflow_at p l k = div-le_self (inflow_at p l k) (4 ^ l) in
      let side : inflow_at p l k / 4 ^ l ≤ r.bound = omega (arith, part, sides.at l k) in
      let quarter : mass_of old (parent k) / 4 ≤ r.bound = weighs l _ _ (r.olds.at (parent k)) in
      let all = chosen (m k) (in_domain (domain p l) k) _ _ r.bound (mass_up p l m old ms r k) quarter side in
      omega (arith, all, r.room);
}

-- ---- cells beside a face

pub home_nearby : (p : Problem) (l : ℕ) (c : Cell) → l ≤ 4 → IsNearby c → IsNearby (home_cell (domain p l) c)
home_nearby p l c known near =
    let wide : pos (columns p l) ≤ℤ pos 4096 = omega (arith, ints, doubled_small p.nx l p.limits.greatest_nx known) in
    let tall : pos (rows p l) ≤ℤ pos 4096 = omega (arith, ints, doubled_small p.ny l p.limits.greatest_ny known) in
    let x = wrapped_between (is_periodic p.x_sides) (columns p l) c.x (negsuc 0) (pos 4096) (level_some p.nx l p.limits.least_nx) (omega (arith, ints)) wide near.west near.east in
    let y = wrapped_between (is_periodic p.y_sides) (rows p l) c.y (negsuc 0) (pos 4096) (level_some p.ny l p.limits.least_ny) (omega (arith, ints)) tall near.south near.north in
    record { west = x.0; east = x.1; south = y.0; north = y.1 }

module _ (p : Problem) (l : ℕ) (f : Face) (known : l ≤ 4) (inside : IsFace p l f) where
  most_columns : columns p l ≤ 4096
  most_columns = doubled_small p.nx l p.limits.greatest_nx known

  most_rows : rows p l ≤ 4096
  most_rows = doubled_small p.ny l p.limits.greatest_ny known

  pub near_x : (negsuc 0 ≤ℤ (f.x -ℤ pos 1)) × (f.x ≤ℤ pos 4096)
  near_x = (omega (arith, ints, inside.west), omega (arith, ints, inside.east, most_columns))

  pub near_y : (negsuc 0 ≤ℤ (f.y -ℤ pos 1)) × (f.y ≤ℤ pos 4096)
  near_y = (omega (arith, ints, inside.south), omega (arith, ints, inside.north, most_rows))

pub there_at : (m : Masses) (r : Bool) (x y x' y' : ℤ) → r ≡ is_some (m (cell x y)) → x ≡ x' → y ≡ y' → r ≡ is_some (m (cell x' y'))
there_at m r x y x' y' e ex ey = e ∙ (λ i. is_some (m (cell (ex i) (ey i))))
