use Rattle.std.proofs.Common.{ℕ, ◌<◌, slice_index_or}
use Rattle.amr_patch.specs.declared.patches.Patch.{Patch}
use Rattle.amr_patch.specs.Levels.{level_of}
use Rattle.amr_patch.specs.Pairwise.{Pairwise}
use Rattle.amr_patch.specs.Patches.{KeepsFrameAndFluxes, masses_in}
use Rattle.amr_transfer.specs.Given.{HasMasses}
use Rattle.amr_transfer.specs.Shares.{kept_or_split}
use Rattle.amr_transfer.proofs.new_masses.fill_all.Given as goal

-- the patches before patch i have their masses
abbrev pub invariant-loop-i : goal.invariant-loop-i
invariant-loop-i l = record {
  kept : Pairwise KeepsFrameAndFluxes l.initial.patches l.patches;
  made : (j : ℕ) (d : Patch) → j < l.i → HasMasses (kept_or_split (level_of l.coarse).masses (masses_in l.old)) (slice_index_or l.patches j d);
}
