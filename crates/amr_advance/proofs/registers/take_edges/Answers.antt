use Rattle.std.proofs.Common.{◌∙◌, [], ap, subst, sym}
use Rattle.std.specs.declared.option.Option.{Option}
use Rattle.std.specs.declared.option.Option.TheVariants.{Some}
use Rattle.amr_register.specs.declared.register.Register.{Register}
use Rattle.amr_advance.specs.Registers.{BothAreWithEdges, edges_of}
use Rattle.amr_advance.proofs.registers.take_edges.Goals as goal

pub returns-in-Some-clause-lists : goal.returns-in-Some-clause-lists
returns-in-Some-clause-lists c = c.take_edges.ensures.lists ∙ sym (ap edges_of c.in-Some.is)

pub returns-in-Some-clause-rest : goal.returns-in-Some-clause-rest
returns-in-Some-clause-rest c = subst (λ (r : Option Register). BothAreWithEdges [] r (Some c.take_edges.new.self)) (sym c.in-Some.is) c.take_edges.ensures.rest
