use Rattle.std.proofs.Common.{◌≡◌, ◌∙◌, sym, ap, map}
use Rattle.amr_patch.specs.Patches.{box}
use Rattle.amr_cycle.proofs.KeptLaws.{cells_alike}
use Rattle.amr_cycle.proofs.kept.is_on_boxes_of.Goals as goal

pub returns : goal.returns
returns c = λ yes.
    let same : map box c.patches.result.now ≡ map box c.patches-2.result.now = c.have_same_boxes.ensures yes in record {
      boxes = sym c.boxes.ensures ∙ c.are_same.ensures c.if-not-are_same.false ∙ c.boxes-2.ensures;
      patches = ap (map box) (sym c.patches.ensures.all) ∙ same ∙ ap (map box) c.patches-2.ensures.all;
      cells = cells_alike c.args.level.now c.args.kept.now c.patches-2.result.now c.patches.result.now c.patches-2.ensures.masses c.patches.ensures.masses (sym same);
    }
