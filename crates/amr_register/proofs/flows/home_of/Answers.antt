use Rattle.std.proofs.Common.{sym, ◌∙◌}
use Rattle.amr_def.specs.Domain.{domain_of}
use Rattle.amr_register.proofs.Homes.{home_inside}
use Rattle.amr_register.proofs.flows.home_of.Goals as goal

pub returns-then-in_domain : goal.returns-then-in_domain
returns-then-in_domain c = sym (home_inside (domain_of c.args.dom.now) c.args.c (sym c.in_domain.ensures ∙ c.if-in_domain.true))
