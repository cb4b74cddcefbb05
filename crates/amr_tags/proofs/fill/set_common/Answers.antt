use Rattle.std.proofs.Common.{◌∙◌, ◌&&◌, ◌||◌, ap, sym, refl}
use Rattle.std.proofs.Math.Bool.{or-false, and_self_left}
use Rattle.amr_box.specs.Cells.{holds}
use Rattle.amr_tags.specs.Parts.{in_rows}
use Rattle.amr_tags.proofs.CellCounts.{part-common}
use Rattle.amr_tags.proofs.fill.set_common.Goals as goal

pub set_part-requires-clause-part : goal.set_part-requires-clause-part
set_part-requires-clause-part c = part-common c.args.b.now c.args.other.now c.in-Some.part c.in-Some.ensures.corners (c.in-Some.ensures.some.0 refl)

pub returns-in-None-clause-cells : goal.returns-in-None-clause-cells
returns-in-None-clause-cells c =
    λ q. sym (ap (λ t. in_rows c.args.b.now c.args.words.now.items q || t) (c.in-None.ensures.none.0 refl q) ∙ or-false (in_rows c.args.b.now c.args.words.now.items q))

pub returns-in-Some-clause-cells : goal.returns-in-Some-clause-cells
returns-in-Some-clause-cells c =
    λ q.
    c.set_part.ensures.cells q
    ∙ ap (λ t. in_rows c.args.b.now c.args.words.now.items q || t) (ap (λ t. holds c.args.b.now q && t) (c.in-Some.ensures.cells.at q) ∙ and_self_left (holds c.args.b.now q) (holds c.args.other.now q))
