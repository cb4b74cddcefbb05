use Rattle.std.proofs.Common.{◌≡◌, false, map}
use Rattle.std.specs.List.{All, range_with_len}
use Rattle.amr_def.specs.Run.{plain_start}
use Rattle.amr_def.specs.Species.{of_species}
use Rattle.amr_patch.specs.Meshes.{is_spent, state_of}
use Rattle.amr_drive.specs.Flocks.{IsInPatchesOf}
use Rattle.amr_drive.proofs.flocks.bases.Given as goal

abbrev pub invariant-loop-k : goal.invariant-loop-k
invariant-loop-k l = record {
  problems : l.problems.items ≡ map (of_species l.p) (range_with_len 0 l.k);
  states : map state_of l.meshes.items ≡ map (λ k. plain_start (of_species l.p k)) (range_with_len 0 l.k);
  whole : All (λ m. is_spent m ≡ false) l.meshes.items;
  patches : All (IsInPatchesOf l.p) l.meshes.items;
}
