use Rattle.std.proofs.Common.{◌≡◌, ℕ, ◌<◌}
use Rattle.std.specs.Prelude.{slice_index}
use Rattle.amr_flux.specs.Paces.{y_share}
use Rattle.amr_flux.proofs.patch_steps.row_sizes.Given as goal

-- the sizes before place k are worked out
abbrev pub invariant-loop-k : goal.invariant-loop-k
invariant-loop-k l = (k : ℕ) → k < l.k → slice_index l.sizes k ≡ y_share l.pace (slice_index l.cells k)
