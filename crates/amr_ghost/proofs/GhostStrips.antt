-- Ghost cells along a strip that have their values: none yet, fewer, and still.
use Rattle.std.proofs.Common.{◌≡◌, ℕ, ◌<◌, Bool, List, length, get_or, IsTrue, ◌∙◌}
use Rattle.std.specs.List.{AllZip}
use Rattle.std.proofs.lemmas.List.Elements.{AllZip-get_or}
use Rattle.amr_box.specs.declared.Cell.{Cell}
use Rattle.amr_box.specs.declared.Axis.{Axis}
use Rattle.amr_patch.specs.declared.patches.Patch.{Patch}
use Rattle.amr_patch.specs.Places.{in_frame}
use Rattle.amr_patch.specs.Patches.{box}
use Rattle.amr_ghost.specs.Strips.{step}
use Rattle.amr_ghost.specs.GhostCells.{AreGiven, HasGhosts, KeepsGhosts}

pub still_ghosts : (value : Cell → ℕ) (mark : Cell → Bool) (qs rs : List Patch) (i : ℕ) (q e : Patch) (axis : Axis) (c : Cell) (n : ℕ) → i < length qs → AllZip (KeepsGhosts value mark) qs rs → ((m : ℕ) → m < n → IsTrue (in_frame (box (get_or qs i q)) (step axis c m))) → HasGhosts value mark (get_or qs i q) axis c n → HasGhosts value mark (get_or rs i e) axis c n
still_ghosts value mark qs rs i q e axis c n there kept ghosts h = record { at = λ m t. (AllZip-get_or (KeepsGhosts value mark) qs rs i q e kept there).at (step axis c m) (ghosts m t) (h.at m t) }

-- values that are told otherwise
pub same_given : (value : Cell → ℕ) (mark : Cell → Bool) (axis : Axis) (to : Cell) (n : ℕ) (v w : ℕ → ℕ) (m : Bool) → ((k : ℕ) → k < n → v k ≡ w k) → AreGiven value mark axis to n v m → AreGiven value mark axis to n w m
same_given value mark axis to n v w m e h = record { values = λ k t. h.values k t ∙ e k t; marks = h.marks }
