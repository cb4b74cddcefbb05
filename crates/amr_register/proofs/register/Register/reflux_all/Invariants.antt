use Rattle.amr_register.specs.Fields.{entry_in}
use Rattle.amr_register.proofs.Changed.{AreChanged}
use Rattle.amr_register.proofs.Refluxes.{IsRefluxed}
use Rattle.amr_register.proofs.register.Register.reflux_all.Given as goal

abbrev pub invariant-loop-k : goal.invariant-loop-k
invariant-loop-k l = AreChanged (λ k. IsRefluxed (entry_in l.self)) l.initial.patches l.patches l.k
