-- Values of cells, and their products with Courant numbers, fit the integers of code.
use Rattle.std.proofs.Common.{ℕ, zero, suc, ◌*◌, ◌/◌, ◌^◌, ◌<◌, ◌≤◌, Bool, true, false, cond, arith}
use Rattle.std.specs.Prelude.{unsigned_abs}
use Rattle.std.specs.declared.option.Option.{Option}
use Rattle.std.specs.declared.option.Option.TheVariants.{None, Some}
use Rattle.std.specs.Option.{unwrap_or}
use Rattle.std.proofs.Math.Nat.{div-le_self}
use Rattle.amr_box.specs.declared.Cell.{Cell}
use Rattle.amr_box.specs.declared.Face.{Face}
use Rattle.amr_box.specs.Cells.{parent}
use Rattle.amr_def.specs.declared.problem.Problem.{Problem}
use Rattle.amr_def.specs.Domain.{domain, home_cell, in_domain}
use Rattle.amr_def.specs.State.{State, level_at, masses_below, mass_of}
use Rattle.amr_def.specs.Value.{inflow_at, value_at}
use Rattle.amr_def.specs.Flux.{courant}
use Rattle.amr_def.specs.Facts.{IsSound}
use Rattle.amr_def.proofs.Greatest.{SidesUpTo}
use Rattle.amr_def.proofs.Stepping.{sides_up}
use Rattle.amr_def.proofs.OneStep.{masses-small}
use Rattle.amr_def.proofs.Totals.{courant_within}
use Rattle.amr_laws.proofs.Sizes.{product_small}

below-small : (p : Problem) (s : State) (l : ℕ) (c : Cell) → IsSound p s → mass_of (masses_below s l) c < 2 ^ 31
below-small p s zero c sound = omega arith
below-small p s (suc l) c sound = masses-small p s l c sound

chosen : (o : Option ℕ) (t : Bool) (x y b : ℕ) → unwrap_or o 0 < b → x < b → y < b → unwrap_or o (cond t x y) < b
chosen (Some v) t x y b h i k = h
chosen None true x y b h i k = i
chosen None false x y b h i k = k

pub values-small : (p : Problem) (s : State) (l : ℕ) (c : Cell) → IsSound p s → value_at p l (level_at s l).masses (masses_below s l) c < 2 ^ 31
unfolding value_at
values-small p s l c sound =
    let k = home_cell (domain p l) c in
    let old : mass_of (masses_below s l) (parent k) < 2 ^ 31 = below-small p s l (parent k) sound in
    let sides : SidesUpTo p (2 ^ 30) = sides_up p (2 ^ 30) (omega arith) in
    let quarter : mass_of (masses_below s l) (parent k) / 4 < 2 ^ 31 = omega (arith, old) in
    let part : inflow_at p l k / 4 ^ l ≤ inflow_at p l k = div-le_self (inflow_at p l k) (4 ^ l) in
    let side : inflow_at p l k / 4 ^ l < 2 ^ 31 = omega (arith, part, sides.at l k) in
    chosen ((level_at s l).masses k) (in_domain (domain p l) k) _ _ (2 ^ 31) (masses-small p s l k sound) quarter side

pub products-small : (p : Problem) (s : State) (l : ℕ) (f : Face) (c : Cell) → IsSound p s → unsigned_abs (courant p l f) * value_at p l (level_at s l).masses (masses_below s l) c < 2 ^ 42
products-small p s l f c sound =
    product_small (unsigned_abs (courant p l f)) (value_at p l (level_at s l).masses (masses_below s l) c) (omega (arith, courant_within p l f, p.limits.greatest_d)) (values-small p s l c sound)
