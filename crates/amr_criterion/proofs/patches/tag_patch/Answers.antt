use Rattle.std.proofs.Common.{◌∙◌, ◌&&◌, ◌+ℤ◌, ◌-ℤ◌, pos, ap, refl, subst}
use Rattle.amr_box.specs.declared.Axis.{Axis}
use Rattle.amr_box.specs.declared.Axis.TheVariants.{X, Y}
use Rattle.amr_box.specs.Cells.{Extent, holds}
use Rattle.amr_def.specs.Domain.{domain_of}
use Rattle.amr_patch.specs.Patches.{box, value_in}
use Rattle.amr_criterion.specs.Pairs.{IsJoined, in_steep_pair, region}
use Rattle.amr_criterion.specs.Tagged.{is_tagged_in, reach_high, reach_low}
use Rattle.amr_criterion.proofs.Joins.{joined_as, joined_none, joined_within}
use Rattle.amr_criterion.proofs.Flats.{none_tagged}
use Rattle.amr_criterion.proofs.TaggedIn.{IsAcross, IsUpward, tagged_in_is, pairs_of}
use Rattle.amr_criterion.proofs.patches.tag_patch.Goals as goal

pub returns-then-is_flat : goal.returns-then-is_flat
returns-then-is_flat c =
    let q = c.args.patch.now in
    let d = domain_of c.args.dom.now in
    joined_none (is_tagged_in c.args.threshold d q) c.args.tags.now (none_tagged c.args.threshold d q (c.is_flat.ensures c.if-is_flat.true))

pub returns : goal.returns
returns c =
    let q = c.args.patch.now in
    let d = domain_of c.args.dom.now in
    let t = c.args.threshold in
    let f = c.across.result in
    let u = c.upward.result in
    let is = c.bx-bx.ensures.value in
    let row : Extent = region f.from f.columns f.rows in
    let column : Extent = region u.from u.columns u.rows in
    let across : IsAcross d (box q) f.from f.columns f.rows = record {
      x = c.across.ensures.x ∙ ap (λ (b : Extent). reach_low d.wrap_x b.lo.x) is;
      y = c.across.ensures.y ∙ ap (λ (b : Extent). b.lo.y) is;
      wide = c.across.ensures.columns ∙ ap (λ (b : Extent). reach_high d.wrap_x d.columns b.hi.x -ℤ reach_low d.wrap_x b.lo.x) is;
      high = c.across.ensures.rows ∙ ap (λ (b : Extent). b.hi.y +ℤ pos 1 -ℤ b.lo.y) is;
    } in
    let upward : IsUpward d (box q) u.from u.columns u.rows = record {
      x = c.upward.ensures.x ∙ ap (λ (b : Extent). b.lo.x) is;
      y = c.upward.ensures.y ∙ ap (λ (b : Extent). reach_low d.wrap_y b.lo.y) is;
      wide = c.upward.ensures.columns ∙ ap (λ (b : Extent). b.hi.x +ℤ pos 1 -ℤ b.lo.x) is;
      high = c.upward.ensures.rows ∙ ap (λ (b : Extent). reach_high d.wrap_y d.rows b.hi.y -ℤ reach_low d.wrap_y b.lo.y) is;
    } in
    let first = subst (λ (a : Axis). IsJoined (λ k. holds (box q) k && in_steep_pair t (value_in q) a row k) c.args.tags.now c.tag_rows.new.tags) c.across.ensures.axis c.tag_rows.ensures in
    let second = subst (λ (a : Axis). IsJoined (λ k. holds (box q) k && in_steep_pair t (value_in q) a column k) c.tag_rows.new.tags c.tag_rows-2.new.tags) c.upward.ensures.axis c.tag_rows-2.ensures in
    joined_as (λ k. holds (box q) k && pairs_of t q row column k) (is_tagged_in t d q) c.args.tags.now c.tag_rows-2.new.tags
    (tagged_in_is t d q f.from u.from f.columns f.rows u.columns u.rows c.requires across upward)
    (joined_within (box q) (in_steep_pair t (value_in q) X row) (in_steep_pair t (value_in q) Y column) (pairs_of t q row column) c.args.tags.now c.tag_rows.new.tags c.tag_rows-2.new.tags (λ k. refl) first second)
