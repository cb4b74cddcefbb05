use Rattle.std.proofs.Common.{◌≡◌, ℕ, ◌<◌, pos, ◌-ℤ◌}
use Rattle.std.specs.Prelude.{slice_index, slice_index_or}
use Rattle.amr_faces.specs.Shares.{product}
use Rattle.amr_flux.proofs.y_faces.fluxes_by.Given as goal

-- the faces before place k have their fluxes
abbrev pub invariant-loop-k : goal.invariant-loop-k
invariant-loop-k l = (k : ℕ) → k < l.k → slice_index_or l.fluxes k (pos 0) ≡ pos (product (slice_index l.low_factors k) (slice_index l.low k)) -ℤ pos (product (slice_index l.high_factors k) (slice_index l.high k))
