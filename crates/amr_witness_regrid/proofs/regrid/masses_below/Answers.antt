use Rattle.std.proofs.Common.{◌∙◌, sym, ap}
use Rattle.amr_def.specs.State.{masses_below}
use Rattle.amr_witness_regrid.specs.Wanted.{with_levels}
use Rattle.amr_witness_regrid.proofs.Filled.{below_is}
use Rattle.amr_witness_regrid.proofs.regrid.masses_below.Goals as goal

pub returns-then-level-eq0 : goal.returns-then-level-eq0
returns-then-level-eq0 c = sym (ap (masses_below (with_levels c.args.levels.now)) c.if-level-eq0.true)

pub returns-else-level-eq0 : goal.returns-else-level-eq0
returns-else-level-eq0 c = c.masses_at.ensures ∙ below_is (with_levels c.args.levels.now) c.args.level c.if-level-eq0.false
