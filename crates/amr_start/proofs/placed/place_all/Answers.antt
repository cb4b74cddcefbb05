use Rattle.std.proofs.Common.{◌<◌, length, get_or, arith}
use Rattle.amr_start.specs.Rows.{box_of, masses_on}
use Rattle.amr_start.proofs.Placing.{lies_still, patch_more, zip_box, zip_refl}
use Rattle.amr_start.proofs.placed.place_all.Goals as goal

pub loop-i-init : goal.loop-i-init
loop-i-init c = record { boxes = zip_refl c.args.patches.now; made = λ j d h. absurd (omega (arith, h)) }

pub place_patch-requires-clause-inside : goal.place_patch-requires-clause-inside
place_patch-requires-clause-inside c =
    let ps = c.args.patches.now in
    let qs = c.loop-i.patches in
    let i = c.loop-i.i in
    let d = c.index-patches-i.result in
    let there : i < length ps = omega (arith, c.loop-i.auto.patches, c.loop-i.auto.i-end, c.loop-i-test.true) in
    lies_still (box_of c.args.columns c.args.rows) (get_or ps i d) (get_or qs i d) (zip_box ps qs i d d c.loop-i.invariant.boxes there) (c.requires.inside i d there)

pub loop-i-preserved : goal.loop-i-preserved
loop-i-preserved c =
    let there : c.loop-i.i < length c.loop-i.patches = omega (arith, c.loop-i.auto.patches, c.loop-i.auto.i-end, c.loop-i-test.true) in
    patch_more (masses_on c.args.columns c.args.rows c.args.masses.now) c.args.patches.now c.loop-i.patches c.loop-i.i c.index-patches-i.result c.place_patch.new.patch there c.place_patch.ensures.of_box c.place_patch.ensures.masses c.loop-i.invariant

pub returns-clause-boxes : goal.returns-clause-boxes
returns-clause-boxes c = c.loop-i.invariant.boxes

pub returns-clause-masses : goal.returns-clause-masses
returns-clause-masses c k d h = c.loop-i.invariant.made k d (omega (arith, h, c.loop-i.auto.patches, c.loop-i.auto.i-end, c.loop-i-test.false))
