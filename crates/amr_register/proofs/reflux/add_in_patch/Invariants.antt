use Rattle.amr_register.proofs.PatchRefluxes.{IsPartly}
use Rattle.amr_register.proofs.reflux.add_in_patch.Given as goal

abbrev pub invariant-loop-n : goal.invariant-loop-n
invariant-loop-n l = IsPartly l.entries l.list l.initial.patch l.patch l.n
