use Rattle.std.proofs.Common.{◌∙◌, ap}
use Rattle.amr_box.specs.Cells.{half}
use Rattle.amr_box.proofs.Halves.{coarsened}
use Rattle.amr_box.proofs.Bx.coarsen2.Goals as goal

pub returns-clause-cells : goal.returns-clause-cells
returns-clause-cells c =
    coarsened c.args.self.now _ c.lo.ensures.proper
    (record {
      west_is = c.parent-lo.ensures.x ∙ ap half c.lo.ensures.x;
      south_is = c.parent-lo.ensures.y ∙ ap half c.lo.ensures.y;
      east_is = c.parent-hi.ensures.x ∙ ap half c.hi.ensures.x;
      north_is = c.parent-hi.ensures.y ∙ ap half c.hi.ensures.y;
    })
