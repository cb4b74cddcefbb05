use Rattle.std.proofs.Common.{◌≡◌, IfSome, subst, sym}
use Rattle.std.specs.declared.option.Option.{Option}
use Rattle.std.specs.declared.option.Option.TheVariants.{Some}
use Rattle.amr_register.specs.declared.register.Register.{Register}
use Rattle.amr_advance.specs.Registers.{BothHaveTakenNets, MayTakeNets}
use Rattle.amr_advance.proofs.registers.take_nets.Goals as goal

may : (r : Option Register) (s : Register) → r ≡ Some s → IfSome r MayTakeNets → MayTakeNets s
may r s e h = subst (λ (q : Option Register). IfSome q MayTakeNets) e h

pub take_nets-requires-clause-placed : goal.take_nets-requires-clause-placed
take_nets-requires-clause-placed c = (may c.args.register.now c.in-Some.register c.in-Some.is c.requires).placed

pub take_nets-requires-clause-small : goal.take_nets-requires-clause-small
take_nets-requires-clause-small c = (may c.args.register.now c.in-Some.register c.in-Some.is c.requires).small

pub take_nets-requires-clause-room : goal.take_nets-requires-clause-room
take_nets-requires-clause-room c = (may c.args.register.now c.in-Some.register c.in-Some.is c.requires).room

pub returns-in-Some : goal.returns-in-Some
returns-in-Some c = subst (λ (r : Option Register). BothHaveTakenNets r (Some c.take_nets.new.self)) (sym c.in-Some.is) (record { taken = c.take_nets.ensures.taken; cells = c.take_nets.ensures.cells })
