use Rattle.std.proofs.Common.{◌≡◌, ℕ, ◌<◌, pos}
use Rattle.std.specs.Prelude.{slice_index_or}
use Rattle.amr_flux.specs.Tables.{x_flux}
use Rattle.amr_flux.proofs.x_faces.column_fluxes.Given as goal

-- the rows below j have their fluxes
abbrev pub invariant-loop-j : goal.invariant-loop-j
invariant-loop-j l = (j : ℕ) → j < l.j → slice_index_or l.fluxes j (pos 0) ≡ x_flux l.p l.shape.level l.shape.row l.shape.w l.values l.i j
