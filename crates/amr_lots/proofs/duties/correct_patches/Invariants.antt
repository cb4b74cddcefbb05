use Rattle.amr_patch.specs.Patches.{masses_in}
use Rattle.amr_register.specs.Fields.{entry_in}
use Rattle.amr_lots.specs.Corrections.{IsCorrected, finer_in, register_in}
use Rattle.amr_lots.proofs.InPlaces.{AreChangedTo}
use Rattle.amr_lots.proofs.duties.correct_patches.Given as goal

-- the patches before this one are corrected
abbrev pub invariant-loop-k : goal.invariant-loop-k
invariant-loop-k l = AreChangedTo (λ _. IsCorrected (masses_in (finer_in l.correction)) (entry_in (register_in l.correction))) l.k l.initial.patches l.patches
