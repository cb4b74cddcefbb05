use Rattle.std.proofs.Common.{◌≡◌, ◌∙◌, ◌<◌, length, get_or, map, sym, ap, refl, arith}
use Rattle.std.proofs.lemmas.List.{length-map, take_all}
use Rattle.amr_patch.specs.Levels.{level_of}
use Rattle.amr_checkpoint.specs.Exchanges.{Shape, shape_of}
use Rattle.amr_checkpoint.proofs.Exchanging.{alike_at, level_given, one_more, same_count, shapes_stay}
use Rattle.amr_checkpoint.proofs.exchange.copy_levels.Goals as goal

pub loop-k-init : goal.loop-k-init
loop-k-init c = record { shapes = c.requires; given = refl }

-- the level and the one that it is given the masses of have the same boxes
alike : (c : goal.After-copy_masses) → shape_of (get_or c.loop-k.to c.loop-k.k c.index-to-k.result) ≡ shape_of c.index-from-k.result
alike c =
    sym (ap shape_of c.index-to-k.is)
    ∙ alike_at shape_of c.loop-k.to c.args.from.now c.loop-k.k c.index-to-k.result c.index-from-k.result c.loop-k.invariant.shapes (omega (arith, c.loop-k-test.true, c.loop-k.auto.to)) c.index-to-k.is c.index-from-k.is

pub copy_masses-requires : goal.copy_masses-requires
copy_masses-requires c =
    ap (λ (s : Shape). s.patches) (sym (ap shape_of c.index-to-k.is)
    ∙ alike_at shape_of c.loop-k.to c.args.from.now c.loop-k.k c.index-to-k.result c.index-from-k.result c.loop-k.invariant.shapes (omega (arith, c.loop-k-test.true, c.loop-k.auto.to)) c.index-to-k.is c.index-from-k.is)

pub loop-k-preserved : goal.loop-k-preserved
loop-k-preserved c =
    let to = c.loop-k.to in
    let from = c.args.from.now in
    let k = c.loop-k.k in
    let q = c.copy_masses.new.to in
    let inside : k < length to = omega (arith, c.loop-k-test.true, c.loop-k.auto.to) in
    let there : k < length from = omega (arith, inside, same_count shape_of to from c.loop-k.invariant.shapes) in
    let done = c.copy_masses.ensures in
    let level = level_given c.index-from-k.result q done.masses (done.boxes ∙ ap (λ (s : Shape). s.boxes) (alike c)) in
    let stays : shape_of q ≡ shape_of (get_or to k c.index-to-k.result) = λ i. record { boxes = done.boxes i; patches = done.patches i } in
    record {
      shapes = shapes_stay to k q c.index-to-k.result inside stays ∙ c.loop-k.invariant.shapes;
      given = one_more to from k q c.index-from-k.result inside there c.index-from-k.is level c.loop-k.invariant.given;
    }

pub returns : goal.returns
returns c =
    let to = c.loop-k.to in
    let from = c.args.from.now in
    let k = c.loop-k.k in
    let wide : length (map level_of to) ≡ length to = length-map to level_of in
    let long : length (map level_of from) ≡ length from = length-map from level_of in
    let count = same_count shape_of to from c.loop-k.invariant.shapes in
    sym (take_all k (map level_of to) (omega (arith, c.loop-k-test.false, c.loop-k.auto.to, wide))) ∙ c.loop-k.invariant.given ∙ take_all k (map level_of from) (omega (arith, c.loop-k-test.false, c.loop-k.auto.to, long, count))
