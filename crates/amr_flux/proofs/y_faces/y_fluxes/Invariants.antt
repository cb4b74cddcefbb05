use Rattle.std.proofs.Common.{◌≡◌, ℕ, ◌+◌, ◌<◌, pos}
use Rattle.std.specs.Prelude.{slice_index, slice_index_or}
use Rattle.amr_def.specs.Flux.{flow}
use Rattle.amr_faces.specs.Numbers.{y_number}
use Rattle.amr_flux.proofs.y_faces.y_fluxes.Given as goal

-- the columns before i have their fluxes
abbrev pub invariant-loop-i : goal.invariant-loop-i
invariant-loop-i l = (i : ℕ) → i < l.i → slice_index_or l.fluxes i (pos 0) ≡ flow (y_number l.p l.shape.level (l.shape.column + i)) l.p.d (slice_index l.low i) (slice_index l.high i)
