use Rattle.std.proofs.Common.{◌∙◌, ap}
use Rattle.amr_witness.specs.Maps.{levels_of}
use Rattle.amr_regrid.specs.Outlines.{lists_in}
use Rattle.amr_witness_regrid.proofs.Regridded.{clone_same, regridded_more, regridded_none}
use Rattle.amr_witness_regrid.proofs.regrid.regridded_levels.Goals as goal

pub returns-in_default : goal.returns-in_default
returns-in_default c = ap levels_of c.new.ensures.items ∙ regridded_none c.args.levels.now (lists_in c.args.boxes.now) c.in_default.ensures.cases

pub refill-requires : goal.refill-requires
refill-requires c = c.requires

pub returns : goal.returns
returns c =
    let own = clone_same _ _ c.in-Some.base.now.masses c.in_ok-clone.field-0 c.in_ok-clone.ensures.cases (λ x y e. e) (λ x y e. e) in
    ap levels_of c.in_ok-insert.ensures.items ∙ regridded_more c.args.levels.now c.in-Some.olds.now c.in-Some.base.now (lists_in c.args.boxes.now) _ _ _ c.in-Some.ensures.cases.0 (c.in_ok-from_slice.ensures.items ∙ c.as_slice.ensures.value) own c.in_ok-all.ensures
