-- The patches of a level lie in its domain.
use Rattle.std.proofs.Common.{List, ap, sym, ℕ, ◌∙◌, ◌≡◌}
use Rattle.std.specs.Prelude.{is_some}
use Rattle.amr_def.specs.declared.problem.Problem.{Problem}
use Rattle.amr_def.specs.Domain.{domain}
use Rattle.amr_def.specs.State.{Level, Masses}
use Rattle.amr_def.specs.Facts.{IsLevel}
use Rattle.amr_ghost.specs.Frames.{AreInDomain}
use Rattle.amr_patch.proofs.Lookups.{some_mass}
use Rattle.amr_patch.specs.declared.patches.Patch.{Patch}
use Rattle.amr_patch.specs.Patches.{masses_in}

pub patches_inside : (p : Problem) (l : ℕ) (k : Level) (ps : List Patch) → IsLevel p l k → k.masses ≡ masses_in ps → AreInDomain (domain p l) ps
patches_inside p l k ps level is = λ c h. level.inside c (sym (level.filled c) ∙ ap (λ (m : Masses). is_some (m c)) is ∙ some_mass ps c ∙ h)
