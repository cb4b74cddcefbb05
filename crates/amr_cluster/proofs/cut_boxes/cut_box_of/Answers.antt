use Rattle.std.proofs.Common.{◌∙◌}
use Rattle.amr_box.specs.declared.Axis.TheVariants.{X, Y}
use Rattle.amr_tags.specs.TagSets.{has}
use Rattle.amr_cluster.specs.Work.{cells_in}
use Rattle.amr_cluster.proofs.Inner.{IsInner, inner-cut, inner-least}
use Rattle.amr_cluster.proofs.Ends.{no_tags, ends_inside}
use Rattle.amr_cluster.proofs.cut_boxes.cut_box_of.Goals as goal

pub returns-in_default : goal.returns-in_default
returns-in_default c =
    no_tags (has c.args.tags.now) c.args.part c.args.tags.now.bx c.requires.near c.requires.inside X c.deref.result.now (c.deref.ensures.value ∙ c.in_ok-counts.ensures.columns) (rw c.in_default.is at c.ends_of.ensures.none)

pub returns-in_default-ends_of : goal.returns-in_default-ends_of
returns-in_default-ends_of c =
    no_tags (has c.args.tags.now) c.args.part c.args.tags.now.bx c.requires.near c.requires.inside Y c.deref-2.result.now (c.deref-2.ensures.value ∙ c.in_ok-counts.ensures.rows) (rw c.in_default-ends_of.is at c.ends_of-2.ensures.none)

pub inner-bx-requires-clause-columns_inside : goal.inner-bx-requires-clause-columns_inside
inner-bx-requires-clause-columns_inside c =
    ends_inside X (cells_in (has c.args.tags.now) c.args.part) c.args.part c.deref.result.now c.in-Some.columns.first c.in-Some.columns.last (c.deref.ensures.value ∙ c.in_ok-counts.ensures.columns) c.in-Some.ensures.some

pub inner-bx-requires-clause-rows_inside : goal.inner-bx-requires-clause-rows_inside
inner-bx-requires-clause-rows_inside c =
    ends_inside Y (cells_in (has c.args.tags.now) c.args.part) c.args.part c.deref-2.result.now c.in-Some-ends_of.rows.first c.in-Some-ends_of.rows.last (c.deref-2.ensures.value ∙ c.in_ok-counts.ensures.rows) c.in-Some-ends_of.ensures.some

pub returns : goal.returns
returns c =
    let tags = has c.args.tags.now in
    let columns = c.in_ok-counts.counts.columns.items in
    let rows = c.in_ok-counts.counts.rows.items in
    let across = c.in-Some.columns in
    let upward = c.in-Some-ends_of.rows in
    let is : IsInner tags c.args.part c.args.tags.now.bx c.inner-bx.result columns rows across.first across.last upward.first upward.last = record {
      near = c.requires.near;
      inside = c.requires.inside;
      columns_are = c.in_ok-counts.ensures.columns;
      rows_are = c.in_ok-counts.ensures.rows;
      across = rw c.deref.ensures.value at c.in-Some.ensures.some;
      upward = rw c.deref-2.ensures.value at c.in-Some-ends_of.ensures.some;
      corners = c.inner-bx.ensures;
    } in
    record {
      least = inner-least tags c.args.part c.args.tags.now.bx c.inner-bx.result columns rows across.first across.last upward.first upward.last is;
      cut = (rw (c.deref-3.ensures.value, c.deref-4.ensures.value) at c.cut_by-cut.ensures) ∙ inner-cut tags c.args.part c.args.tags.now.bx c.inner-bx.result columns rows across.first across.last upward.first upward.last is c.args.efficiency c.args.w;
    }
