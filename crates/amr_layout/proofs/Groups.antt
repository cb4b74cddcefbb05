-- Which group a border face's patch is of.
use Rattle.std.proofs.Common.{◌≡◌, ℕ, ◌<◌, true, List, [], ◌∷◌, length, get_or, arith}
use Rattle.std.proofs.lemmas.Bool.{false_from_ne_true}
use Rattle.std.proofs.lemmas.Int.{ints}
use Rattle.std.proofs.lemmas.List.Sums.{position_or_len_is}
use Rattle.amr_box.specs.declared.Cell.{Cell}
use Rattle.amr_box.specs.Cells.{holds}
use Rattle.amr_patch.specs.declared.patches.Patch.{Patch}
use Rattle.amr_patch.specs.Patches.{ArePatchesApart, box}
use Rattle.amr_patch.proofs.Rows.{is_inside}
use Rattle.amr_layout.specs.Places.{holder_of}

-- one patch has the cell
pub holder_at : (ps : List Patch) (c : Cell) (j : ℕ) → ArePatchesApart ps → j < length ps → ((d : Patch) → holds (box (get_or ps j d)) c ≡ true) → holder_of ps c ≡ j
holder_at [] c j apart there holds_it = absurd (omega (arith, there))
holder_at (p ∷ ps) c j apart there holds_it =
    position_or_len_is (λ (q : Patch). holds (box q) c) (p ∷ ps) j p (omega (arith, there))
    (λ k lt. false_from_ne_true (holds (box (get_or (p ∷ ps) k p)) c) (λ e. apart k j p lt there c e (holds_it p)))
    (λ lt. holds_it p)

-- a patch has its own low corner
pub reader_is : (ps : List Patch) (i : ℕ) (d : Patch) → ArePatchesApart ps → i < length ps → holder_of ps (box (get_or ps i d)).lo ≡ i
reader_is ps i d apart lt =
    let q = get_or ps i d in
    position_or_len_is (λ (r : Patch). holds (box r) (box q).lo) ps i d (omega (arith, lt))
    (λ k below. false_from_ne_true (holds (box (get_or ps k d)) (box q).lo) (λ e. apart k i d below lt (box q).lo e (low q)))
    (λ l. low q)
  where
    low : (q : Patch) → holds (box q) (box q).lo ≡ true
    low q = is_inside (box q) (box q).lo (record { west = omega (arith, ints); east = q.near.wide; south = omega (arith, ints); north = q.near.high })
