use Rattle.std.proofs.Common.{◌∙◌, sym, ap}
use Rattle.std.specs.declared.option.Option.TheVariants.{Some}
use Rattle.amr_patch.proofs.Lookups.{masses_in-at, masses_in-none}
use Rattle.amr_letters.proofs.Holders.{holder-at, holder-none}
use Rattle.amr_letters.proofs.owned.held.Goals as goal

pub returns-in-Some-clause-from : goal.returns-in-Some-clause-from
returns-in-Some-clause-from c =
    sym (holder-at c.args.owned.patches.now c.args.owned.owners.now c.args.c c.in-Some.k c.args.owned.apart c.args.owned.counted c.in-Some.ensures.found)

pub returns-in-Some-clause-mass : goal.returns-in-Some-clause-mass
returns-in-Some-clause-mass c =
    ap Some c.mass.ensures.value
    ∙ sym (masses_in-at c.args.owned.patches.now c.args.c c.in-Some.k c.index-owned-k.result c.args.owned.apart c.in-Some.ensures.found)

pub returns-in-None-clause-from : goal.returns-in-None-clause-from
returns-in-None-clause-from c = sym (holder-none c.args.owned.patches.now c.args.owned.owners.now c.args.c (sym c.in-None.ensures.some))

pub returns-in-None-clause-mass : goal.returns-in-None-clause-mass
returns-in-None-clause-mass c = sym (masses_in-none c.args.owned.patches.now c.args.c (sym c.in-None.ensures.some))
