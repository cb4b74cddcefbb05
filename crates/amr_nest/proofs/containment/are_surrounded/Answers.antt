use Rattle.std.proofs.Common.{◌∙◌, ◌&&◌, sym, ap}
use Rattle.std.specs.List.{count_by}
use Rattle.amr_box.specs.Cells.{Extent, cells_of, holds}
use Rattle.amr_def.specs.Domain.{domain_of}
use Rattle.amr_tags.specs.TagSets.{has}
use Rattle.amr_nest.proofs.Added.{surrounded_by_counts}
use Rattle.amr_nest.proofs.containment.are_surrounded.Goals as goal

pub tag_around-requires-clause-in_box : goal.tag_around-requires-clause-in_box
tag_around-requires-clause-in_box c = c.in_ok-tags.ensures.in_box

pub returns : goal.returns
returns c =
    let b = c.bx-whole.result in
    let first = c.in_ok-tags.tags in
    let last = c.tag_around.new.tags in
    let whole = c.bx-whole.ensures.value in
    surrounded_by_counts (domain_of c.args.dom.now) (has first) (has last) c.args.fine.now c.args.coarse.now b (whole ∙ c.in_ok-tags.ensures.in_box) c.in_ok-tags.ensures.cells c.tag_around.ensures.cells c.count_in-covered.result c.count_in.result
    (c.count_in-covered.ensures ∙ ap (λ (e : Extent). count_by (λ q. holds b q && has first q) (cells_of e)) (sym whole))
    (c.count_in.ensures ∙ ap (λ (e : Extent). count_by (λ q. holds b q && has last q) (cells_of e)) (c.tag_around.ensures.shape.bx ∙ sym whole))
