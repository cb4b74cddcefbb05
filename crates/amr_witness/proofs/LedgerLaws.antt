-- Flow through the ends of open axes.
use Rattle.std.proofs.Common.{◌≡◌, ℕ, ◌<◌, ◌≤◌, true, false, refl, pos, arith}
use Rattle.std.proofs.lemmas.Int.{ints}
use Rattle.amr_witness.proofs.FaceLaws.{apart, apart_too}
use Rattle.amr_box.specs.declared.Axis.{Axis}
use Rattle.amr_box.specs.declared.Axis.TheVariants.{X, Y}
use Rattle.amr_def.specs.declared.problem.Problem.{Problem}
use Rattle.amr_def.specs.declared.problem.Sides.{Sides}
use Rattle.amr_def.specs.declared.problem.Sides.TheVariants.{Periodic, Open}
use Rattle.amr_def.specs.Domain.{columns, rows, is_periodic}
use Rattle.amr_def.specs.Flux.{face}
use Rattle.amr_def.specs.Ledger.{if_open}
use Rattle.amr_def.proofs.Totals.{few_columns, few_rows}
use Rattle.amr_witness.specs.Ends.{across, along, end_face}
use Rattle.amr_witness.specs.Ready.{IsFace}

pub when_closed : (s : Sides) (n : ℕ) → is_periodic s ≡ true → 0 ≡ if_open s n
when_closed Periodic n e = refl
when_closed (Open low high) n e = cc

pub when_open : (s : Sides) (n : ℕ) → is_periodic s ≡ false → n ≡ if_open s n
when_open Periodic n e = cc
when_open (Open low high) n e = refl

module _ (p : Problem) (k : ℕ) where
  low_x : k < rows p 0 → IsFace p 0 (face X (pos 0) (pos k))
  low_x h = record { west = omega (arith, ints); south = omega (arith, ints); east = omega (arith, ints); north = omega (arith, ints, h); row = λ e. omega (arith, ints, h); column = λ e. absurd (apart e) }

  high_x : k < rows p 0 → IsFace p 0 (face X (pos (columns p 0)) (pos k))
  high_x h = record { west = omega (arith, ints); south = omega (arith, ints); east = omega (arith, ints); north = omega (arith, ints, h); row = λ e. omega (arith, ints, h); column = λ e. absurd (apart e) }

  low_y : k < columns p 0 → IsFace p 0 (face Y (pos k) (pos 0))
  low_y h = record { west = omega (arith, ints); south = omega (arith, ints); east = omega (arith, ints, h); north = omega (arith, ints); row = λ e. absurd (apart_too e); column = λ e. omega (arith, ints, h) }

  high_y : k < columns p 0 → IsFace p 0 (face Y (pos k) (pos (rows p 0)))
  high_y h = record { west = omega (arith, ints); south = omega (arith, ints); east = omega (arith, ints, h); north = omega (arith, ints); row = λ e. absurd (apart_too e); column = λ e. omega (arith, ints, h) }

pub low_end : (p : Problem) (axis : Axis) (k : ℕ) → k < across p axis → IsFace p 0 (end_face axis 0 k)
low_end p X k h = low_x p k h
low_end p Y k h = low_y p k h

pub high_end : (p : Problem) (axis : Axis) (k : ℕ) → k < across p axis → IsFace p 0 (end_face axis (along p axis) k)
high_end p X k h = high_x p k h
high_end p Y k h = high_y p k h

pub few_across : (p : Problem) (axis : Axis) → across p axis ≤ 256
few_across p X = few_rows p
few_across p Y = few_columns p
