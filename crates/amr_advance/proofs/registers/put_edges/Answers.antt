use Rattle.std.proofs.Common.{subst, sym}
use Rattle.std.specs.declared.option.Option.{Option}
use Rattle.std.specs.declared.option.Option.TheVariants.{Some}
use Rattle.amr_register.specs.declared.register.Register.{Register}
use Rattle.amr_register.specs.EdgeCells.{lists_of}
use Rattle.amr_advance.specs.Registers.{BothAreWithEdges}
use Rattle.amr_advance.proofs.registers.put_edges.Goals as goal

pub returns-in-Some : goal.returns-in-Some
returns-in-Some c = subst (λ (r : Option Register). BothAreWithEdges (lists_of c.args.edges.items) r (Some c.put_edges.new.self)) (sym c.in-Some.is) c.put_edges.ensures
