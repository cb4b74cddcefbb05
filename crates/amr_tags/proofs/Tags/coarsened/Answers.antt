use Rattle.std.proofs.Common.{◌≡◌, ◌∙◌, List, ℕ, ap}
use Rattle.amr_box.specs.Cells.{Extent, has_child_where}
use Rattle.amr_tags.specs.Parts.{in_rows}
use Rattle.amr_tags.specs.TagSets.{TagSet, has}
use Rattle.amr_tags.proofs.Tags.coarsened.Goals as goal

pub returns-clause-cells : goal.returns-clause-cells
returns-clause-cells c = λ q.
    let same : c.coarse.inside.bx ≡ c.coarsen2-bx.result = ap (λ (t : TagSet). t.bx) c.coarse.view_is ∙ c.in_ok-coarse.ensures.in_box in
    ap (λ (e : Extent). in_rows e c.coarsen_box.new.out.items q) same
    ∙ c.coarsen_box.ensures.cells q
    ∙ ap (λ (ws : List ℕ). has_child_where (in_rows c.self.inside.bx ws) q) c.deref.ensures.value
    ∙ ap (λ (t : TagSet). has_child_where (has t) q) c.self.view_is
