use Rattle.std.proofs.Common.{◌≡◌, ◌∙◌, map, sym, ap}
use Rattle.amr_patch.specs.Levels.{level_of, patches_of}
use Rattle.amr_patch.specs.Patches.{box}
use Rattle.amr_checkpoint.proofs.exchange.is_alike.Goals as goal

pub returns-then-are_same : goal.returns-then-are_same
returns-then-are_same c alike =
    let boxes : (level_of c.args.a.now).boxes ≡ (level_of c.args.b.now).boxes = sym c.boxes.ensures ∙ c.are_same.ensures c.if-are_same.true ∙ c.boxes-2.ensures in
    let patches : map box (patches_of c.args.a.now) ≡ map box (patches_of c.args.b.now) = ap (map box) (sym c.patches.ensures.all) ∙ c.have_same_boxes.ensures alike ∙ ap (map box) c.patches-then-are_same.ensures.all in
    λ i. record { boxes = boxes i; patches = patches i }
