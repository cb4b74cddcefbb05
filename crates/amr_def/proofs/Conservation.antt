-- The mass of level 0 changes by what flows through its open sides.
use Rattle.std.proofs.Common.{◌≡◌, ℕ, ◌+◌, ◌<◌, ℤ, pos, ◌+ℤ◌, ◌-ℤ◌, ◌≤ℤ◌, IsSome, refl, sym, arith, add-one, ap, ◌∙◌}
use Rattle.std.specs.declared.option.Option.{Option}
use Rattle.std.specs.declared.option.Option.TheVariants.{None, Some}
use Rattle.std.specs.Option.{unwrap_or, option_map}
use Rattle.std.proofs.lemmas.Int.{ints}
use Rattle.amr_box.specs.declared.Axis.TheVariants.{X, Y}
use Rattle.amr_box.specs.Cells.{cell, at_least_zero}
use Rattle.amr_box.proofs.Numbers.{at_least_zero-same}
use Rattle.amr_def.specs.declared.problem.Problem.{Problem}
use Rattle.amr_def.specs.declared.problem.Sides.{Sides}
use Rattle.amr_def.specs.declared.problem.Sides.TheVariants.{Periodic, Open}
use Rattle.amr_def.proofs.Sums.{sum_z, sum_z-add, sum_z-sub, sum_z-same, sum_z-zero, telescope, pos-sum_to, through_ends}
use Rattle.amr_def.specs.State.{Masses}
use Rattle.amr_def.specs.Flux.{Fluxes, face, net, updated}
use Rattle.amr_def.specs.Ledger.{sum_to, mass_at, total_mass, below_zero, if_open, inflow, outflow}
use Rattle.amr_def.specs.Domain.{columns, rows}
use Rattle.amr_def.proofs.LevelLists.{IsWhole}

pub updated_entry : (o : Option ℕ) (z : ℤ) → IsSome o → pos 0 ≤ℤ (pos (unwrap_or o 0) +ℤ z) → pos (unwrap_or (option_map (λ v. at_least_zero (pos v +ℤ z)) o) 0) ≡ pos (unwrap_or o 0) +ℤ z
updated_entry None z h n = cc
updated_entry (Some v) z h n = at_least_zero-same (pos v +ℤ z) n

-- no cell of level 0 loses more than it has
pub record IsCovering (p : Problem) (m : Masses) (e : Fluxes) : Type 0 where
  pub at : (x y : ℕ) → x < (columns p 0) → y < (rows p 0) → pos 0 ≤ℤ (pos (mass_at m x y) +ℤ net e (cell (pos x) (pos y)))

-- on a periodic axis the last faces are the first ones
pub record IsPeriodic (p : Problem) (e : Fluxes) : Type 0 where
  pub x : p.x_sides ≡ Periodic → (y : ℕ) → e (face X (pos (columns p 0)) (pos y)) ≡ e (face X (pos 0) (pos y))
  pub y : p.y_sides ≡ Periodic → (x : ℕ) → e (face Y (pos x) (pos (rows p 0))) ≡ e (face Y (pos x) (pos 0))

-- the net fluxes of a whole rectangle are those through its sides
module _ (e : Fluxes) where
  row_net : (nx y : ℕ) → sum_z (λ x. net e (cell (pos x) (pos y))) nx ≡ (e (face X (pos 0) (pos y)) -ℤ e (face X (pos nx) (pos y))) +ℤ (sum_z (λ x. e (face Y (pos x) (pos y))) nx -ℤ sum_z (λ x. e (face Y (pos x) (pos (y + 1)))) nx)
  unfolding net
  row_net nx y =
      let ex : ℕ → ℤ = λ x. e (face X (pos x) (pos y)) in
      let low : ℕ → ℤ = λ x. e (face Y (pos x) (pos y)) in
      let high : ℕ → ℤ = λ x. e (face Y (pos x) (pos (y + 1))) in
      omega (arith, ints, sum_z-add (λ x. ex x -ℤ ex (x + 1)) (λ x. low x -ℤ high x) nx, telescope ex nx, sum_z-sub low high nx)

  whole_net : (nx ny : ℕ) → sum_z (λ y. sum_z (λ x. net e (cell (pos x) (pos y))) nx) ny ≡ sum_z (λ y. e (face X (pos 0) (pos y)) -ℤ e (face X (pos nx) (pos y))) ny +ℤ sum_z (λ x. e (face Y (pos x) (pos 0)) -ℤ e (face Y (pos x) (pos ny))) nx
  unfolding net
  whole_net nx ny =
      let sides : ℕ → ℤ = λ y. e (face X (pos 0) (pos y)) -ℤ e (face X (pos nx) (pos y)) in
      let ey : ℕ → ℤ = λ y. sum_z (λ x. e (face Y (pos x) (pos y))) nx in
      omega (
        arith,
        ints,
        sum_z-same (λ y. sum_z (λ x. net e (cell (pos x) (pos y))) nx) (λ y. sides y +ℤ (ey y -ℤ ey (y + 1))) ny (λ y h. row_net nx y),
        sum_z-add sides (λ y. ey y -ℤ ey (y + 1)) ny,
        telescope ey ny,
        sum_z-sub (λ x. e (face Y (pos x) (pos 0))) (λ x. e (face Y (pos x) (pos ny))) nx,
      )

-- through open sides what comes in less what goes out, and through periodic ones nothing
sides_net : (s : Sides) (f g : ℕ → ℤ) (n : ℕ) → (s ≡ Periodic → (i : ℕ) → g i ≡ f i) → pos (if_open s (sum_to (λ i. at_least_zero (f i) + below_zero (g i)) n)) -ℤ pos (if_open s (sum_to (λ i. below_zero (f i) + at_least_zero (g i)) n)) ≡ sum_z (λ i. f i -ℤ g i) n
sides_net Periodic f g n same = sym (sum_z-zero (λ i. f i -ℤ g i) n (λ i h. omega (arith, ints, same refl i)))
sides_net (Open low high) f g n same = through_ends f g n

module _ (p : Problem) (m : Masses) (e : Fluxes) where
  total-updated : IsWhole p m → IsCovering p m e → pos (total_mass p (updated m e)) ≡ pos (total_mass p m) +ℤ sum_z (λ y. sum_z (λ x. net e (cell (pos x) (pos y))) (columns p 0)) (rows p 0)
  unfolding updated total_mass
  total-updated whole covering =
      let old : ℕ → ℕ → ℕ = λ y x. mass_at m x y in
      let new : ℕ → ℕ → ℕ = λ y x. mass_at (updated m e) x y in
      let nets : ℕ → ℕ → ℤ = λ y x. net e (cell (pos x) (pos y)) in
      let row : (y : ℕ) → y < (rows p 0) → pos (sum_to (new y) (columns p 0)) ≡ pos (sum_to (old y) (columns p 0)) +ℤ sum_z (nets y) (columns p 0) =
      λ y below. omega (
        arith,
        ints,
        pos-sum_to (new y) (columns p 0),
        pos-sum_to (old y) (columns p 0),
        sum_z-same (λ x. pos (new y x)) (λ x. pos (old y x) +ℤ nets y x) (columns p 0) (λ x h. updated_entry (m (cell (pos x) (pos y))) (nets y x) (whole.at x y h below) (covering.at x y h below)),
        sum_z-add (λ x. pos (old y x)) (nets y) (columns p 0),
      ) in
      omega (
        arith,
        ints,
        pos-sum_to (λ y. sum_to (new y) (columns p 0)) (rows p 0),
        pos-sum_to (λ y. sum_to (old y) (columns p 0)) (rows p 0),
        sum_z-same (λ y. pos (sum_to (new y) (columns p 0))) (λ y. pos (sum_to (old y) (columns p 0)) +ℤ sum_z (nets y) (columns p 0)) (rows p 0) row,
        sum_z-add (λ y. pos (sum_to (old y) (columns p 0))) (λ y. sum_z (nets y) (columns p 0)) (rows p 0),
      )

  -- the mass after the step and what went out are the mass before it and what came in
  pub conserves : IsWhole p m → IsCovering p m e → IsPeriodic p e → total_mass p (updated m e) + outflow p e ≡ total_mass p m + inflow p e
  unfolding inflow outflow
  conserves whole covering periodic =
      omega (
        arith,
        ints,
        total-updated whole covering,
        whole_net e (columns p 0) (rows p 0),
        sides_net p.x_sides (λ y. e (face X (pos 0) (pos y))) (λ y. e (face X (pos (columns p 0)) (pos y))) (rows p 0) periodic.x,
        sides_net p.y_sides (λ x. e (face Y (pos x) (pos 0))) (λ x. e (face Y (pos x) (pos (rows p 0)))) (columns p 0) periodic.y,
      )

pub sum_next : (f : ℕ → ℕ) (n sum part : ℕ) → sum ≡ sum_to f n → part ≡ f n → sum + part ≡ sum_to f (n + 1)
sum_next f n sum part is here = (λ i. is i + here i) ∙ ap (sum_to f) (sym (add-one n))
