-- The fluxes of a level repeat past the ends of periodic axes.
use Rattle.std.proofs.Common.{◌≡◌, ℕ, ◌≤◌}
use Rattle.amr_box.specs.declared.Face.{Face}
use Rattle.amr_def.specs.declared.problem.Problem.{Problem}
use Rattle.amr_def.specs.Domain.{domain}
use Rattle.amr_def.specs.Flux.{flux_at}
use Rattle.amr_def.specs.State.{Masses}
use Rattle.amr_register.proofs.Homes.{size_at}
use Rattle.amr_register.proofs.Once.{same_flux}
use Rattle.amr_layout.specs.Places.{home_face}

pub fluxes_repeat : (p : Problem) (l : ℕ) (m old : Masses) (f : Face) → l ≤ 4 → flux_at p l m old (home_face (domain p l) f) ≡ flux_at p l m old f
fluxes_repeat p l m old f few = same_flux p l m old f.axis f.x f.y (size_at p l few)
