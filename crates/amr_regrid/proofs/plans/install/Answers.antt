use Rattle.std.proofs.Common.{◌∙◌, List, map, sym, ap}
use Rattle.amr_def.specs.State as defined
use Rattle.amr_patch.specs.declared.levels.Level.{Level}
use Rattle.amr_patch.specs.Levels.{level_of}
use Rattle.amr_regrid.specs.Remade.{remade_levels}
use Rattle.amr_regrid.proofs.plans.install.Goals as goal

pub returns : goal.returns
returns c = record {
  state = c.of.ensures.state ∙ (λ i. record { step = c.step-step.ensures i; rows = c.take-rows.ensures.rows i; levels = map level_of (sym c.of.ensures.levels i) });
  levels = c.of.ensures.levels ∙ c.planned.ensures ∙ ap (λ (ks : List Level). remade_levels ks c.args.plan.remade.items) c.take-rows.ensures.all;
  whole = c.of.ensures.whole;
}
