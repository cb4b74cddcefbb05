-- Who puts a face.
use Rattle.std.specs.Prelude.{ℕ, ◌<◌, List, length, slice_index_or}
use Rattle.std.specs.List.{Contains}
use Rattle.amr_box.specs.declared.Face.{Face}
use Rattle.amr_def.specs.Domain.{Domain}
use Rattle.amr_patch.specs.declared.patches.Patch.{Patch}
use Rattle.amr_patch.specs.Patches.{box}
use Rattle.amr_layout.specs.Places.{puts_of}

-- a patch of the level puts this face at this place
pub record IsPut (d : Domain) (ps : List Patch) (each place : ℕ) (f : Face) : Type 0 where
  pub owner : ℕ
  pub there : owner < length ps
  pub put : (q : Patch) → Contains (puts_of d ps each (box (slice_index_or ps owner q))) (record { place = place; face = f })
