use Rattle.std.proofs.Common.{sym, subst, refl}
use Rattle.amr_def.specs.Domain.{domain}
use Rattle.amr_layout.specs.Surroundings.{Around}
use Rattle.amr_advance.specs.Lots.{AreLots, PlansUnlessFilled}
use Rattle.amr_advance.proofs.AllPatches.{around_is}
use Rattle.amr_advance.proofs.kept_layout.lay_out_anew.Goals as goal

pub make_lots-requires-clause-frames : goal.make_lots-requires-clause-frames
make_lots-requires-clause-frames g c κs within = subst (λ b. PlansUnlessFilled b (domain c.args.given.problem.now c.args.given.level) c.args.patches.now c.in_ok-frames.frames) (sym c.requires.unfilled) c.in_ok-frames.ensures

pub returns-clause-layout : goal.returns-clause-layout
returns-clause-layout g c = λ own old. record {
  laid_out = record {
    level = refl;
    boxes = c.in_ok-boxes_of.ensures;
    cells = c.in_ok-from_slice.ensures.items;
    finer = λ e. c.in_ok-finer_boxes.ensures;
    few = c.in_ok-lots.ensures.few;
    lots = subst (λ (a : Around). AreLots a c.in_ok-lots.lots) (around_is c.args.given c.args.patches.now c.requires.all c.requires.unfilled) c.in_ok-lots.ensures.lots;
  };
  masses = c.in_ok-lots.ensures.masses c.args.given.problem.now c.args.given.level own old;
}

pub returns-clause-count : goal.returns-clause-count
returns-clause-count g c = c.in_ok-lots.ensures.count
