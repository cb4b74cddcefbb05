use Rattle.std.proofs.Common.{◌∙◌, ◌+◌, ◌<◌, ◌≤◌, ◌||◌, List, length, map, get_or, refl, sym, ap, arith}
use Rattle.std.specs.List.{list_any}
use Rattle.std.proofs.lemmas.List.{length-map, take_all}
use Rattle.amr_def.specs.State.{State}
use Rattle.amr_def.specs.Tags.{is_tagged}
use Rattle.amr_patch.specs.Meshes.{state_of}
use Rattle.amr_regrid.proofs.MeshOutlines.{itself, outlines_stay, read_levels, read_sound, read_whole, same_many, tags_more}
use Rattle.amr_regrid.proofs.boxes.joined_tags.Goals as goal

pub bounds-meshes-0 : goal.bounds-meshes-0
bounds-meshes-0 c = c.requires.meshes.some

pub tags_of-requires-clause-whole : goal.tags_of-requires-clause-whole
tags_of-requires-clause-whole c = read_whole c.args.p.now c.args.meshes.now c.args.meshes.now refl c.requires.meshes 0 (get_or c.args.meshes.now 0 c.index-meshes-0.result) c.requires.meshes.some (itself c.args.meshes.now 0 c.index-meshes-0.result c.requires.meshes.some)

pub tags_of-requires-clause-sound : goal.tags_of-requires-clause-sound
tags_of-requires-clause-sound c = read_sound c.args.p.now c.args.meshes.now c.args.meshes.now refl c.requires.meshes 0 (get_or c.args.meshes.now 0 c.index-meshes-0.result) c.requires.meshes.some (itself c.args.meshes.now 0 c.index-meshes-0.result c.requires.meshes.some)

pub tags_of-requires-clause-there : goal.tags_of-requires-clause-there
tags_of-requires-clause-there c =
    let many = read_levels c.args.p.now c.args.meshes.now c.args.meshes.now refl c.requires.meshes 0 (get_or c.args.meshes.now 0 c.index-meshes-0.result) c.requires.meshes.some (itself c.args.meshes.now 0 c.index-meshes-0.result c.requires.meshes.some) in
    omega (arith, many, c.requires.there)

pub loop-k-init : goal.loop-k-init
loop-k-init c = record {
  over = c.in_ok-joined.ensures.over;
  cells = λ q. c.in_ok-joined.ensures.cells q ∙ tags_more c.args.p.now c.args.meshes.now c.args.meshes.now refl c.requires.meshes 0 (get_or c.args.meshes.now 0 c.index-meshes-0.result) c.requires.meshes.some (itself c.args.meshes.now 0 c.index-meshes-0.result c.requires.meshes.some) c.args.l q;
  outlines = outlines_stay c.args.p.now c.args.meshes.now c.args.meshes.now refl c.requires.meshes 0 (get_or c.args.meshes.now 0 c.index-meshes-0.result) c.requires.meshes.some (itself c.args.meshes.now 0 c.index-meshes-0.result c.requires.meshes.some) c.tags_of.new.mesh c.tags_of.ensures.outline;
}

pub tags_of-requires-in-loop-k-clause-whole : goal.tags_of-requires-in-loop-k-clause-whole
tags_of-requires-in-loop-k-clause-whole c =
    let inside : c.loop-k.k < length c.loop-k.meshes = omega arith in
    read_whole c.args.p.now c.loop-k.meshes c.args.meshes.now c.loop-k.invariant.outlines c.requires.meshes c.loop-k.k (get_or c.loop-k.meshes c.loop-k.k c.index-meshes-k.result) inside (itself c.loop-k.meshes c.loop-k.k c.index-meshes-k.result inside)

pub tags_of-requires-in-loop-k-clause-sound : goal.tags_of-requires-in-loop-k-clause-sound
tags_of-requires-in-loop-k-clause-sound c =
    let inside : c.loop-k.k < length c.loop-k.meshes = omega arith in
    read_sound c.args.p.now c.loop-k.meshes c.args.meshes.now c.loop-k.invariant.outlines c.requires.meshes c.loop-k.k (get_or c.loop-k.meshes c.loop-k.k c.index-meshes-k.result) inside (itself c.loop-k.meshes c.loop-k.k c.index-meshes-k.result inside)

pub tags_of-requires-in-loop-k-clause-there : goal.tags_of-requires-in-loop-k-clause-there
tags_of-requires-in-loop-k-clause-there c =
    let inside : c.loop-k.k < length c.loop-k.meshes = omega arith in
    let many = read_levels c.args.p.now c.loop-k.meshes c.args.meshes.now c.loop-k.invariant.outlines c.requires.meshes c.loop-k.k (get_or c.loop-k.meshes c.loop-k.k c.index-meshes-k.result) inside (itself c.loop-k.meshes c.loop-k.k c.index-meshes-k.result inside) in
    omega (arith, many, c.requires.there)

pub join-requires : goal.join-requires
join-requires c = c.in_ok-tags.ensures.over.bx ∙ sym c.loop-k.invariant.over.bx

pub loop-k-preserved : goal.loop-k-preserved
loop-k-preserved c =
    let p = c.args.p.now in
    let js = c.loop-k.meshes in
    let ms = c.args.meshes.now in
    let inv = c.loop-k.invariant in
    let inside : c.loop-k.k < length c.loop-k.meshes = omega arith in
    record {
      over = record { bx = c.join.ensures.shape.bx ∙ inv.over.bx; x = c.join.ensures.shape.x ∙ inv.over.x; y = c.join.ensures.shape.y ∙ inv.over.y };
      cells = λ q. c.join.ensures.cells q ∙ (λ i. inv.cells q i || c.in_ok-tags.ensures.cells q i) ∙ tags_more p js ms inv.outlines c.requires.meshes c.loop-k.k (get_or js c.loop-k.k c.index-meshes-k.result) inside (itself js c.loop-k.k c.index-meshes-k.result inside) c.args.l q;
      outlines = outlines_stay p js ms inv.outlines c.requires.meshes c.loop-k.k (get_or js c.loop-k.k c.index-meshes-k.result) inside (itself js c.loop-k.k c.index-meshes-k.result inside) c.tags_of-in-loop-k.new.mesh c.tags_of-in-loop-k.ensures.outline;
    }

pub returns-clause-cells : goal.returns-clause-cells
returns-clause-cells c = λ q.
    let ss = map state_of c.args.meshes.now in
    let many = length-map c.args.meshes.now state_of in
    let same = same_many c.loop-k.meshes c.args.meshes.now c.loop-k.invariant.outlines in
    let long : length ss ≤ c.loop-k.k = omega (arith, many, same) in
    c.loop-k.invariant.cells q ∙ ap (list_any (λ (s : State). is_tagged c.args.p.now s c.args.l q)) (take_all c.loop-k.k ss long)

pub returns-in_err-tags-clause-outlines : goal.returns-in_err-tags-clause-outlines
returns-in_err-tags-clause-outlines c =
    let js = c.loop-k.meshes in
    let inside : c.loop-k.k < length c.loop-k.meshes = omega arith in
    outlines_stay c.args.p.now js c.args.meshes.now c.loop-k.invariant.outlines c.requires.meshes c.loop-k.k (get_or js c.loop-k.k c.index-meshes-k.result) inside (itself js c.loop-k.k c.index-meshes-k.result inside) c.tags_of-in-loop-k.new.mesh c.tags_of-in-loop-k.ensures.outline
