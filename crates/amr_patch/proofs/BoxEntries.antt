-- The boxes of a level, one by one.
use Rattle.std.proofs.Common.{◌≡◌, ℕ, zero, suc, ◌<◌, Bool, true, ◌||◌, List, [], ◌∷◌, length, get_or, ap, ◌∙◌, arith}
use Rattle.std.specs.Prelude.{IsTrue, pos, ◌||◌}
use Rattle.std.proofs.lemmas.Bool.{or_right}
use Rattle.amr_box.specs.declared.Cell.{Cell}
use Rattle.amr_box.specs.Cells.{Extent, cell, extent, holds, in_boxes}
use Rattle.amr_def.specs.declared.problem.Problem.{Problem}
use Rattle.amr_def.specs.Domain.{domain, in_domain}
use Rattle.amr_def.specs.Facts.{IsLevel}
use Rattle.amr_patch.specs.declared.levels.Level.{Level}
use Rattle.amr_patch.specs.Levels.{level_of}
use Rattle.amr_patch.specs.BoxRows.{HasCellsOf}

abbrev pub no_box : Extent
no_box = extent (cell (pos 0) (pos 0)) (cell (pos 0) (pos 0))

pub in_some : (bs : List Extent) (i : ℕ) (c : Cell) → i < length bs → holds (get_or bs i no_box) c ≡ true → in_boxes bs c ≡ true
in_some [] i c h e = absurd (omega (arith, h))
in_some (b ∷ bs) zero c h e = ap (λ (t : Bool). t || in_boxes bs c) e
in_some (b ∷ bs) (suc i) c h e = or_right (holds b c) (in_boxes bs c) (in_some bs i c (omega (arith, h)) e)

module _ (p : Problem) (l : ℕ) (level : Level) (is : IsLevel p l (level_of level)) (i : ℕ) (h : i < length (level_of level).boxes) where
  pub box_inside : (c : Cell) → IsTrue (holds (get_or (level_of level).boxes i no_box) c) → IsTrue (in_domain (domain p l) c)
  box_inside c e = is.inside c (in_some (level_of level).boxes i c h e)

  pub box_cells : HasCellsOf level (get_or (level_of level).boxes i no_box)
  box_cells = record { at = λ c e. is.filled c ∙ in_some (level_of level).boxes i c h e }
