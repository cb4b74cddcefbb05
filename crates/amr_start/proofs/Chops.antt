-- A worked chop.
use Rattle.std.proofs.Common.{◌≡◌, pos, [], ◌∷◌, refl}
use Rattle.amr_box.specs.Cells.{cell, extent}
use Rattle.amr_boxlist.specs.Chopped.{chopped}
use Rattle.amr_start.specs.Rows.{box_of}

nine_columns_by_4 : chopped 4 (box_of 9 3) ≡ extent (cell (pos 0) (pos 0)) (cell (pos 3) (pos 2)) ∷ extent (cell (pos 4) (pos 0)) (cell (pos 7) (pos 2)) ∷ extent (cell (pos 8) (pos 0)) (cell (pos 8) (pos 2)) ∷ []
nine_columns_by_4 = refl
