use Rattle.std.proofs.Common.{◌≡◌, ℕ, ◌+◌, ◌<◌, pos}
use Rattle.std.specs.Prelude.{slice_index_or}
use Rattle.amr_def.specs.Flux.{flow}
use Rattle.amr_flux.specs.Tables.{value}
use Rattle.amr_flux.proofs.x_faces.column_at.Given as goal

-- the rows below j have their fluxes
abbrev pub invariant-loop-j : goal.invariant-loop-j
invariant-loop-j l = (j : ℕ) → j < l.j → slice_index_or l.fluxes j (pos 0) ≡ flow l.share.number l.share.parts (value l.shape.w l.values l.i (j + 1)) (value l.shape.w l.values (l.i + 1) (j + 1))
