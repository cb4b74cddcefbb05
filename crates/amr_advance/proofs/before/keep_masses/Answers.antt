use Rattle.std.proofs.Common.{sym, subst}
use Rattle.std.specs.declared.option.Option.{Option}
use Rattle.std.specs.declared.option.Option.TheVariants.{Some}
use Rattle.amr_advance.specs.declared.kept_layout.KeptLayout.{KeptLayout}
use Rattle.amr_advance.specs.KeptLayouts.{StaysKept}
use Rattle.amr_advance.proofs.before.keep_masses.Goals as goal

pub returns-in-Some-clause-kept : goal.returns-in-Some-clause-kept
returns-in-Some-clause-kept g c = subst (λ (o : Option KeptLayout). StaysKept (λ m. m) o (Some c.keep_by_layout.new.layout)) (sym c.in-Some.is) c.keep_by_layout.ensures.kept
