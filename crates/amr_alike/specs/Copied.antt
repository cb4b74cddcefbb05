-- Patches with the box and the values of others.
use Rattle.std.specs.Prelude.{◌≡◌, ℕ, ◌<◌, List, slice_index_or}
use Rattle.amr_box.specs.declared.Cell.{Cell}
use Rattle.amr_patch.specs.declared.patches.Patch.{Patch}
use Rattle.amr_patch.specs.Patches.{box, mass_in}

pub record IsCopied (p q : Patch) : Type 0 where
  pub of_box : box q ≡ box p
  pub masses : (c : Cell) → mass_in q c ≡ mass_in p c

-- the first of the patches have those of the first of others
abbrev pub AreCopied : ℕ → List Patch → List Patch → Type 0
AreCopied n ps qs = (k : ℕ) (d e : Patch) → k < n → IsCopied (slice_index_or ps k d) (slice_index_or qs k e)
