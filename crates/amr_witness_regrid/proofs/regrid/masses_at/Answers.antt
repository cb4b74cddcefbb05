use Rattle.std.proofs.Common.{get_or, refl, sym, ap}
use Rattle.amr_def.specs.State.{Level}
use Rattle.amr_witness_regrid.proofs.Filled.{at_level}
use Rattle.amr_witness_regrid.proofs.regrid.masses_at.Goals as goal

pub returns : goal.returns
returns c =
    let ks = c.args.levels.now in
    let r = c.index-levels-level.result in
    sym (ap (λ (k : Level). k.masses) (at_level ks c.args.level (get_or ks c.args.level r) r c.requires refl))
