use Rattle.std.proofs.Common.{◌++◌, List, ℕ, ◌∙◌, arith}
use Rattle.std.proofs.lemmas.Int.{ints}
use Rattle.amr_patch.specs.Levels.{level_of}
use Rattle.amr_payload.specs.Payload.{box_bytes, corner_bytes, masses_bytes}
use Rattle.amr_codec.specs.Forms.{form_of}
use Rattle.amr_codec.proofs.Appending.{put_twice}
use Rattle.amr_patch.proofs.Corners.{corners}
use Rattle.amr_codec.proofs.levels.put_box.Goals as goal

pub put_corners-requires-clause-west : goal.put_corners-requires-clause-west
put_corners-requires-clause-west c =
    let k = corners c.args.p.now c.args.l c.args.b.now c.requires.fine c.lo.ensures.proper c.requires.inside in
    omega (arith, ints, k.west, c.lo.ensures.x)

pub put_corners-requires-clause-south : goal.put_corners-requires-clause-south
put_corners-requires-clause-south c =
    let k = corners c.args.p.now c.args.l c.args.b.now c.requires.fine c.lo.ensures.proper c.requires.inside in
    omega (arith, ints, k.south, c.lo.ensures.y)

pub put_corners-requires-clause-east : goal.put_corners-requires-clause-east
put_corners-requires-clause-east c =
    let k = corners c.args.p.now c.args.l c.args.b.now c.requires.fine c.lo.ensures.proper c.requires.inside in
    omega (arith, ints, k.east, c.hi.ensures.x)

pub put_corners-requires-clause-north : goal.put_corners-requires-clause-north
put_corners-requires-clause-north c =
    let k = corners c.args.p.now c.args.l c.args.b.now c.requires.fine c.lo.ensures.proper c.requires.inside in
    omega (arith, ints, k.north, c.hi.ensures.y)

pub put_masses_of-requires-clause-near : goal.put_masses_of-requires-clause-near
put_masses_of-requires-clause-near c = (corners c.args.p.now c.args.l c.args.b.now c.requires.fine c.lo.ensures.proper c.requires.inside).near

pub returns : goal.returns
unfolding box_bytes
returns c =
    let b = c.args.b.now in
    let m = (level_of c.args.level.now).masses in
    let rest : List ℕ = masses_bytes (form_of c.args.form.now) m b in
    let out = c.args.out.now.items in
    put_twice out c.put_corners.new.out.items c.put_masses_of.new.out.items (corner_bytes b.lo ++ corner_bytes b.hi) rest
    (c.in_ok-put_corners.ensures ∙ (λ i. out ++ (corner_bytes (c.lo.ensures.value i) ++ corner_bytes (c.hi.ensures.value i))))
    c.in_ok-put_masses_of.ensures
