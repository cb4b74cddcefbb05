use Rattle.std.proofs.Common.{◌∙◌, ◌++◌, [], ◌∷◌, map, sym, ap, subst, arith}
use Rattle.std.proofs.lemmas.List.{get_or-map, length-map, map-append, map_more, take_all}
use Rattle.amr_patch.specs.Levels.{level_of}
use Rattle.amr_witness.specs.Maps as maps
use Rattle.amr_witness_regrid.specs.Places.{HasBoxes}
use Rattle.amr_witness_regrid.proofs.mesh.plain_levels.Goals as goal

pub plain_level-requires : goal.plain_level-requires
plain_level-requires c =
    let ks = c.args.levels.now in
    let i = c.loop-level.level-index in
    let k = c.level-item.result in
    subst HasBoxes (get_or-map level_of ks i k (level_of k) c.loop-level-test.true ∙ ap level_of (sym c.level-item.is)) (c.requires i (level_of k) (omega (arith, length-map ks level_of, c.loop-level-test.true)))

pub loop-level-preserved : goal.loop-level-preserved
loop-level-preserved c =
    let ks = c.args.levels.now in
    let i = c.loop-level.level-index in
    let k = c.level-item.result in
    let n = c.in_ok-plain_level.field-0 in
    ap maps.levels_of c.in_ok-push.ensures.items ∙ map-append maps.level_of c.loop-level.all.items (n ∷ []) ∙ (λ t. c.loop-level.invariant t ++ (c.in_ok-plain_level.ensures ∙ ap level_of c.level-item.is) t ∷ []) ∙ sym (map_more level_of ks i k c.loop-level-test.true)

pub returns : goal.returns
returns c = c.loop-level.invariant ∙ ap (map level_of) (take_all c.loop-level.level-index c.args.levels.now c.loop-level-test.false)
