-- Fluxes repeat on periodic axes: those of the faces of a cell are those of the faces of the cell that it stands for.
use Rattle.std.proofs.Common.{◌≡◌, ◌∙◌, ℕ, ℤ, pos, negsuc, ◌+ℤ◌, ◌-ℤ◌, refl, sym, ap}
use Rattle.amr_box.specs.declared.Cell.{Cell}
use Rattle.amr_box.specs.declared.Axis.{Axis}
use Rattle.amr_box.specs.declared.Axis.TheVariants.{X, Y}
use Rattle.amr_box.specs.Cells.{cell}
use Rattle.amr_box.proofs.Numbers.{minus_one, more_and_less}
use Rattle.amr_def.specs.declared.problem.Problem.{Problem}
use Rattle.amr_def.specs.Domain.{domain, home_cell}
use Rattle.amr_def.specs.State.{Masses}
use Rattle.amr_def.specs.Flux.{courant, courant_in, face, flow, flux_at, low_cell}
use Rattle.amr_def.proofs.Nesting.{home_shift}
use Rattle.amr_def.proofs.Values.{same_cell, value_same}
use Rattle.amr_register.specs.CoarseFlows.{high_face, low_face}
use Rattle.amr_flows.proofs.RegisterFlowsCells.{plus_none}

module _ (p : Problem) (l : ℕ) (m old : Masses) where
  abbrev at_home : Cell → Cell
  at_home = home_cell (domain p l)

  same_flux : (a : Axis) (x y x' y' : ℤ) → at_home (low_cell (face a x y)) ≡ at_home (low_cell (face a x' y')) → at_home (cell x y) ≡ at_home (cell x' y') → flux_at p l m old (face a x y) ≡ flux_at p l m old (face a x' y')
  unfolding flux_at courant
  same_flux a x y x' y' low high i =
      flow (courant_in p l a (high i)) p.d (value_same p l m old (low_cell (face a x y)) (low_cell (face a x' y')) low i) (value_same p l m old (cell x y) (cell x' y') high i)

  itself : (w : Cell) → at_home (at_home w) ≡ at_home w
  itself w =
      ap at_home (same_cell (sym (plus_none (at_home w).x)) (sym (plus_none (at_home w).y)))
      ∙ home_shift p l w.x w.y (pos 0) (pos 0) 1 1 refl refl ∙ ap at_home (same_cell (plus_none w.x) (plus_none w.y))

  before_x : (w : Cell) → at_home (cell ((at_home w).x -ℤ pos 1) (at_home w).y) ≡ at_home (cell (w.x -ℤ pos 1) w.y)
  before_x w =
      ap at_home (same_cell (minus_one (at_home w).x) (sym (plus_none (at_home w).y)))
      ∙ home_shift p l w.x w.y (negsuc 0) (pos 0) 0 1 refl refl ∙ ap at_home (same_cell (sym (minus_one w.x)) (plus_none w.y))

  before_y : (w : Cell) → at_home (cell (at_home w).x ((at_home w).y -ℤ pos 1)) ≡ at_home (cell w.x (w.y -ℤ pos 1))
  before_y w =
      ap at_home (same_cell (sym (plus_none (at_home w).x)) (minus_one (at_home w).y))
      ∙ home_shift p l w.x w.y (pos 0) (negsuc 0) 1 0 refl refl ∙ ap at_home (same_cell (plus_none w.x) (sym (minus_one w.y)))

  after_x : (w : Cell) → at_home (cell ((at_home w).x +ℤ pos 1) (at_home w).y) ≡ at_home (cell (w.x +ℤ pos 1) w.y)
  after_x w =
      ap at_home (same_cell refl (sym (plus_none (at_home w).y)))
      ∙ home_shift p l w.x w.y (pos 1) (pos 0) 2 1 refl refl ∙ ap at_home (same_cell refl (plus_none w.y))

  after_y : (w : Cell) → at_home (cell (at_home w).x ((at_home w).y +ℤ pos 1)) ≡ at_home (cell w.x (w.y +ℤ pos 1))
  after_y w =
      ap at_home (same_cell (sym (plus_none (at_home w).x)) refl)
      ∙ home_shift p l w.x w.y (pos 0) (pos 1) 1 2 refl refl ∙ ap at_home (same_cell (plus_none w.x) refl)

  pub low_x : (w : Cell) → flux_at p l m old (low_face X (at_home w)) ≡ flux_at p l m old (low_face X w)
  low_x w = same_flux X (at_home w).x (at_home w).y w.x w.y (before_x w) (itself w)

  pub low_y : (w : Cell) → flux_at p l m old (low_face Y (at_home w)) ≡ flux_at p l m old (low_face Y w)
  low_y w = same_flux Y (at_home w).x (at_home w).y w.x w.y (before_y w) (itself w)

  pub high_x : (w : Cell) → flux_at p l m old (high_face X (at_home w)) ≡ flux_at p l m old (high_face X w)
  high_x w =
      same_flux X ((at_home w).x +ℤ pos 1) (at_home w).y (w.x +ℤ pos 1) w.y
      (ap at_home (same_cell (more_and_less (at_home w).x) refl) ∙ itself w ∙ ap at_home (same_cell (sym (more_and_less w.x)) refl)) (after_x w)

  pub high_y : (w : Cell) → flux_at p l m old (high_face Y (at_home w)) ≡ flux_at p l m old (high_face Y w)
  high_y w =
      same_flux Y (at_home w).x ((at_home w).y +ℤ pos 1) w.x (w.y +ℤ pos 1)
      (ap at_home (same_cell refl (more_and_less (at_home w).y)) ∙ itself w ∙ ap at_home (same_cell refl (sym (more_and_less w.y)))) (after_y w)
