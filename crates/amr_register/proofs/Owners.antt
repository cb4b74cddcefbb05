-- The flow through a face by the values of a patch, as a call finds it: where the patch owns the face, and where it doesn't.
use Rattle.std.proofs.Common.{◌≡◌, ◌∙◌, ℕ, Bool, true, false, ◌&&◌, pos, sym, ap}
use Rattle.std.proofs.lemmas.Bool.{and_from, and_left, and_right, cond-false, cond-true}
use Rattle.amr_box.specs.declared.Cell.{Cell}
use Rattle.amr_box.specs.declared.Face.{Face}
use Rattle.amr_box.specs.Cells.{holds}
use Rattle.amr_def.specs.declared.problem.Problem.{Problem}
use Rattle.amr_def.specs.Domain.{Domain, domain, home_cell}
use Rattle.amr_def.specs.Flux.{face, high_cell}
use Rattle.amr_patch.specs.declared.patches.Patch.{Patch}
use Rattle.amr_patch.specs.Patches.{box}
use Rattle.amr_faces.specs.Faces.{flux_beside}
use Rattle.amr_register.specs.CoarseFlows.{has_high_cell, home_face, owned_flow}

-- a face that doesn't count
pub none_counts : (p : Problem) (l : ℕ) (q : Patch) (counts : Bool) (f : Face) → counts ≡ false → pos 0 ≡ owned_flow p l q counts f
none_counts p l q counts f h = sym (cond-false (counts && has_high_cell (domain p l) (box q) f) (flux_beside p l q (home_face (domain p l) f)) (pos 0) (and_left counts (has_high_cell (domain p l) (box q) f) h))

-- `high` is the cell of the domain that the cell at the high side of the face stands for
module _ (p : Problem) (l : ℕ) (q : Patch) (counts : Bool) (f : Face) (d : Domain) (high : Cell) (here : d ≡ domain p l) (g : Cell) (is_home : high ≡ home_cell d g) (is_high : g ≡ high_cell f) where
  at_home : high ≡ home_cell (domain p l) (high_cell f)
  at_home = is_home ∙ (λ i. home_cell (here i) (is_high i))

  pub no_owner : holds (box q) high ≡ false → pos 0 ≡ owned_flow p l q counts f
  no_owner none =
      sym (cond-false (counts && has_high_cell (domain p l) (box q) f) (flux_beside p l q (home_face (domain p l) f)) (pos 0) (and_right counts (has_high_cell (domain p l) (box q) f) (ap (holds (box q)) (sym at_home) ∙ none)))

  pub one_owner : counts ≡ true → holds (box q) high ≡ true → flux_beside p l q (face f.axis high.x high.y) ≡ owned_flow p l q counts f
  one_owner h held =
      ap (λ (c : Cell). flux_beside p l q (face f.axis c.x c.y)) at_home
      ∙ sym (cond-true (counts && has_high_cell (domain p l) (box q) f) (flux_beside p l q (home_face (domain p l) f)) (pos 0) (and_from counts (has_high_cell (domain p l) (box q) f) h (ap (holds (box q)) (sym at_home) ∙ held)))
