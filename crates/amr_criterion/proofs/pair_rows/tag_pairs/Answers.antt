use Rattle.std.proofs.Common.{◌≡◌, ◌∙◌, ◌-◌, ◌&&◌, ℕ, pos, ◌+ℤ◌, length, arith, ap, subst, sym}
use Rattle.std.proofs.lemmas.Int.{ints}
use Rattle.amr_box.specs.declared.Cell.{Cell}
use Rattle.amr_box.specs.Cells.{Extent, cell, holds}
use Rattle.amr_criterion.specs.Pairs.{IsJoined, ahead, in_steep_pair, region}
use Rattle.amr_criterion.proofs.Regions.{row_parts}
use Rattle.amr_criterion.proofs.Joins.{joined_none_within, joined_within}
use Rattle.amr_criterion.proofs.Steeps.{even_stretch, steep_union}
use Rattle.amr_criterion.proofs.pair_rows.tag_pairs.Goals as goal

pub loop-done-init : goal.loop-done-init
loop-done-init c = record {
  within = c.count_even-done.ensures.within;
  joined = λ value along.
      let pairs = c.args.pairs.now in
      let n = c.count_even-done.result in
      joined_none_within pairs.part (in_steep_pair pairs.threshold value pairs.axis (region pairs.from n 1)) c.args.tags.now
      (λ q. ap (λ (r : Extent). in_steep_pair pairs.threshold value pairs.axis r q) (sym (from_start pairs.from n))
      ∙ even_stretch pairs.threshold value pairs.axis pairs.from c.args.first.now c.args.second.now 0 n along (omega arith) c.count_even-done.ensures.within (λ k _ lt. c.count_even-done.ensures.even k lt) q);
}
  where
    from_start : (a : Cell) (n : ℕ) → region (ahead a 0) (n - 0) 1 ≡ region a n 1
    from_start a n =
        let x : a.x +ℤ pos 0 ≡ a.x = omega (arith, ints) in
        let w : n - 0 ≡ n = omega arith in
        λ i. region (cell (x i) a.y) (w i) 1

pub loop-done-preserved : goal.loop-done-preserved
loop-done-preserved c = record {
  within = c.tag_next-done.ensures.within;
  joined = λ value along.
      let pairs = c.args.pairs.now in
      let done = c.loop-done.done in
      let next = c.tag_next-done.result in
      joined_within pairs.part (in_steep_pair pairs.threshold value pairs.axis (region pairs.from done 1)) (in_steep_pair pairs.threshold value pairs.axis (region (ahead pairs.from done) (next - done) 1)) (in_steep_pair pairs.threshold value pairs.axis (region pairs.from next 1)) c.args.tags.now c.loop-done.tags c.tag_next-done.new.tags
      (steep_union pairs.threshold value pairs.axis (region pairs.from done 1) (region (ahead pairs.from done) (next - done) 1) (region pairs.from next 1) (λ q. row_parts pairs.from done (next - done) next q (omega (arith, c.tag_next-done.ensures.order))))
      (c.loop-done.invariant.joined value along)
      (c.tag_next-done.ensures.joined value along);
}

pub returns : goal.returns
returns c value along =
    let pairs = c.args.pairs.now in
    let all : c.loop-done.done ≡ length c.args.first.now = omega (arith, c.loop-done.invariant.within, c.loop-done-test.false) in
    subst (λ (n : ℕ). IsJoined (λ q. holds pairs.part q && in_steep_pair pairs.threshold value pairs.axis (region pairs.from n 1) q) c.args.tags.now c.loop-done.tags) all (c.loop-done.invariant.joined value along)
