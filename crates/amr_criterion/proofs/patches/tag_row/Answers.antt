use Rattle.std.proofs.Common.{◌≡◌, ◌∙◌, ℕ, ◌<◌, ◌&&◌, pos, ◌+ℤ◌, ◌-ℤ◌, ◌≤ℤ◌, length, ap, sym, subst, arith, to_z, of_z, w32}
use Rattle.std.proofs.lemmas.Int.{ints}
use Rattle.amr_box.specs.declared.Cell.{Cell}
use Rattle.amr_box.specs.Cells.{Extent, cell, holds}
use Rattle.amr_patch.specs.Patches.{box, value_in}
use Rattle.amr_criterion.specs.Pairs.{AreAlong, IsJoined, after, ahead, in_steep_pair, region}
use Rattle.amr_criterion.specs.Tagged.{IsRowOf}
use Rattle.amr_criterion.proofs.Regions.{after_ahead}
use Rattle.amr_criterion.proofs.patches.tag_row.Goals as goal

pub above-requires-clause-from : goal.above-requires-clause-from
above-requires-clause-from c =
    let some : 0 < c.args.firsts.now.rows = omega (arith, c.requires.inside) in
    let south : ((box c.args.patch.now).lo.y -ℤ pos 1) ≤ℤ (c.args.firsts.now.from.y +ℤ pos 0) = (c.requires.reached.firsts 0 some).south in
    omega (arith, ints, south, c.bx-bx.ensures.near.south)

pub above-requires-clause-to : goal.above-requires-clause-to
above-requires-clause-to c =
    let some : 0 < c.args.firsts.now.rows = omega (arith, c.requires.inside) in
    omega (arith, ints, (c.requires.reached.firsts 0 some).north, c.bx-bx.ensures.near.north)

pub values_from-first-requires : goal.values_from-first-requires
values_from-first-requires c =
    let r = c.requires.reached.firsts c.args.k c.requires.inside in
    record { west = omega (arith, ints, r.west); south = omega (arith, ints, r.south, c.above.ensures); east = omega (arith, ints, r.east); north = omega (arith, ints, r.north, c.above.ensures) }

pub after-requires : goal.after-requires
after-requires c =
    let r = c.requires.reached.firsts c.args.k c.requires.inside in
    record { x = omega (arith, ints, r.east, c.bx-bx.ensures.near.east); y = omega (arith, ints, r.north, c.above.ensures, c.bx-bx.ensures.near.north) }

pub values_from-second-requires : goal.values_from-second-requires
values_from-second-requires c =
    let f = c.args.firsts.now in
    let x : to_z w32 (of_z w32 f.from.x) ≡ f.from.x = omega (arith, ints) in
    let y : to_z w32 (of_z w32 c.above.result) ≡ f.from.y +ℤ pos c.args.k = omega (arith, ints, c.above.ensures) in
    subst (λ (q : Cell). IsRowOf (box c.args.patch.now) q f.columns) (sym (c.after.ensures ∙ (λ i. after f.axis (cell (x i) (y i))))) (c.requires.reached.seconds c.args.k c.requires.inside)

pub tag_pairs-requires-clause-small : goal.tag_pairs-requires-clause-small
tag_pairs-requires-clause-small c =
    let r = c.requires.reached.firsts c.args.k c.requires.inside in
    omega (arith, ints, c.values_from-first.ensures.count, r.west, r.east, c.bx-bx.ensures.near.west, c.bx-bx.ensures.near.east)

pub tag_pairs-requires-clause-room : goal.tag_pairs-requires-clause-room
tag_pairs-requires-clause-room c =
    let r = c.requires.reached.firsts c.args.k c.requires.inside in
    record { x = omega (arith, ints, r.east, c.bx-bx.ensures.near.east); y = omega (arith, ints, r.north, c.above.ensures, c.bx-bx.ensures.near.north) }

pub returns : goal.returns
returns c =
    let q = c.args.patch.now in
    let f = c.args.firsts.now in
    let t = c.args.threshold in
    let x : to_z w32 (of_z w32 f.from.x) ≡ f.from.x = omega (arith, ints) in
    let y : to_z w32 (of_z w32 c.above.result) ≡ f.from.y +ℤ pos c.args.k = omega (arith, ints, c.above.ensures) in
    let from : Cell = cell (to_z w32 (of_z w32 f.from.x)) (to_z w32 (of_z w32 c.above.result)) in
    let along : AreAlong (value_in q) f.axis from c.values_from-first.result.now c.values_from-second.result.now = record {
      firsts = λ k h. c.values_from-first.ensures.values k (omega (arith, h, c.values_from-first.ensures.count));
      seconds = λ k h. c.values_from-second.ensures.values k (omega (arith, h, c.values_from-first.ensures.count)) ∙ ap (value_in q) (ap (λ (a : Cell). ahead a k) c.after.ensures ∙ after_ahead f.axis from k);
    } in
    subst (λ (b : Extent). IsJoined (λ d. holds b d && in_steep_pair t (value_in q) f.axis (region (cell f.from.x (f.from.y +ℤ pos c.args.k)) f.columns 1) d) c.args.tags.now c.tag_pairs.new.tags) c.bx-bx.ensures.value
    (subst (λ (n : ℕ). IsJoined (λ d. holds c.bx-bx.result d && in_steep_pair t (value_in q) f.axis (region (cell f.from.x (f.from.y +ℤ pos c.args.k)) n 1) d) c.args.tags.now c.tag_pairs.new.tags) c.values_from-first.ensures.count
    (subst (λ (a : Cell). IsJoined (λ d. holds c.bx-bx.result d && in_steep_pair t (value_in q) f.axis (region a (length c.values_from-first.result.now) 1) d) c.args.tags.now c.tag_pairs.new.tags) (λ i. cell (x i) (y i))
    (c.tag_pairs.ensures (value_in q) along)))
