use Rattle.std.proofs.Common.{◌∙◌, ◌/◌, ap, arith}
use Rattle.std.specs.Option.{unwrap_or}
use Rattle.amr_patch.specs.Patches.{masses_in}
use Rattle.amr_letters.specs.Sources.{holder}
use Rattle.amr_letters.proofs.owned.held_quarter.Goals as goal

pub returns-in-Some-clause-from : goal.returns-in-Some-clause-from
returns-in-Some-clause-from c = c.in-Some.ensures.from ∙ ap (holder c.args.owned.patches.now c.args.owned.owners.now) c.parent.ensures.value

pub returns-in-Some-clause-mass : goal.returns-in-Some-clause-mass
returns-in-Some-clause-mass c = ap (λ o. unwrap_or o 0 / 4) (c.in-Some.ensures.mass ∙ ap (masses_in c.args.owned.patches.now) c.parent.ensures.value)

pub returns-in-Some-clause-small : goal.returns-in-Some-clause-small
returns-in-Some-clause-small c = let small = c.in-Some.ensures.small in omega (arith, small)

pub returns-in-None-clause-from : goal.returns-in-None-clause-from
returns-in-None-clause-from c = c.in-None.ensures.from ∙ ap (holder c.args.owned.patches.now c.args.owned.owners.now) c.parent.ensures.value
