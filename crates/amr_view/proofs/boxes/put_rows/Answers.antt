use Rattle.std.proofs.Common.{◌≡◌, ◌∙◌, ℕ, ◌+◌, ◌-◌, List, drop, sym, ap, subst, arith}
use Rattle.std.proofs.lemmas.Int.{ints}
use Rattle.std.proofs.lemmas.List.{length-drop, length-take}
use Rattle.amr_box.specs.Cells.{height}
use Rattle.amr_def.specs.Plot.{mass_line}
use Rattle.amr_def.specs.View.{finest_masses, view}
use Rattle.amr_patch.proofs.Corners.{corners}
use Rattle.amr_patch.proofs.Rows.{sides}
use Rattle.amr_patch.specs.Meshes.{state_of}
use Rattle.amr_plot.specs.Texts.{texts}
use Rattle.amr_plot.proofs.Pens.{puts_whole, texts_stop, texts_wrote, wrote_same}
use Rattle.amr_plot.proofs.Putting.{texts_of_range}
use Rattle.amr_view.proofs.Lines.{part_is}
use Rattle.amr_view.proofs.boxes.put_rows.Goals as goal

pub width-width-requires : goal.width-width-requires
width-width-requires g c = (corners c.args.p.now c.args.l c.args.b.now c.requires.fine c.lo-low.ensures.proper c.requires.inside).near

pub height-height-requires : goal.height-height-requires
height-height-requires g c = (corners c.args.p.now c.args.l c.args.b.now c.requires.fine c.lo-low.ensures.proper c.requires.inside).near

pub overflow_cast-y : goal.overflow_cast-y
overflow_cast-y g c =
    let near = (corners c.args.p.now c.args.l c.args.b.now c.requires.fine c.lo-low.ensures.proper c.requires.inside).near in
    omega (arith, ints, c.height-height.ensures.corners, c.loop-row-test.true, near.south, near.north)

pub overflow_add-y : goal.overflow_add-y
overflow_add-y g c =
    let near = (corners c.args.p.now c.args.l c.args.b.now c.requires.fine c.lo-low.ensures.proper c.requires.inside).near in
    omega (arith, ints, c.height-height.ensures.corners, c.loop-row-test.true, c.lo-low.ensures.y, near.south, near.north)

pub find_row-from-requires-clause-low : goal.find_row-from-requires-clause-low
find_row-from-requires-clause-low g c =
    let near = (corners c.args.p.now c.args.l c.args.b.now c.requires.fine c.lo-low.ensures.proper c.requires.inside).near in
    omega (arith, ints, c.height-height.ensures.corners, c.loop-row-test.true, c.lo-low.ensures.y, near.south, near.north)

pub find_row-from-requires-clause-high : goal.find_row-from-requires-clause-high
find_row-from-requires-clause-high g c =
    let near = (corners c.args.p.now c.args.l c.args.b.now c.requires.fine c.lo-low.ensures.proper c.requires.inside).near in
    omega (arith, ints, c.height-height.ensures.corners, c.loop-row-test.true, c.lo-low.ensures.y, near.south, near.north)

pub put_line-requires : goal.put_line-requires
put_line-requires g c = omega (arith, length-take (c.find_row-from.result + c.width-width.result - c.find_row-from.result) (drop c.find_row-from.result c.find_row-from.new.masses), length-drop c.find_row-from.result c.find_row-from.new.masses, c.find_row-from.ensures.within, c.width-width.ensures.value)

pub loop-row-init : goal.loop-row-init
loop-row-init g c = g.met.P.Pen.laws.nothing c.args.pen.now

pub returns-in_err-put_line : goal.returns-in_err-put_line
unfolding view
returns-in_err-put_line g c =
    let s = state_of c.args.mesh.now in
    let b = c.args.b.now in
    let f : ℕ → List ℕ = mass_line (finest_masses s c.args.l) b in
    let l = c.loop-row in
    let near = (corners c.args.p.now c.args.l b c.requires.fine c.lo-low.ensures.proper c.requires.inside).near in
    let here = part_is s c.args.l b l.row c.find_row-from.new.masses c.find_row-from.result c.width-width.result _ c.width-width.ensures.value (sides b near).some_columns (omega (arith, c.find_row-from.ensures.within, c.width-width.ensures.value)) c.find_row-from.ensures.masses (omega (arith, ints, c.lo-low.ensures.y, c.loop-row-test.true, c.height-height.ensures.corners, near.south, near.north)) in
    texts_stop g.met.P.Pen.laws c.args.pen.now l.pen c.put_line.new.pen f l.row (height b) _ c.from_residual.result c.from_residual.ensures.0
    (omega (arith, c.loop-row-test.true, c.height-height.ensures.value)) (texts_of_range f (height b)) l.invariant (subst (g.P.Pen.failed l.pen c.put_line.new.pen) here c.in_err-put_line.ensures.part)

pub loop-row-preserved : goal.loop-row-preserved
loop-row-preserved g c =
    let s = state_of c.args.mesh.now in
    let b = c.args.b.now in
    let f : ℕ → List ℕ = mass_line (finest_masses s c.args.l) b in
    let l = c.loop-row in
    let near = (corners c.args.p.now c.args.l b c.requires.fine c.lo-low.ensures.proper c.requires.inside).near in
    let here = part_is s c.args.l b l.row c.find_row-from.new.masses c.find_row-from.result c.width-width.result _ c.width-width.ensures.value (sides b near).some_columns (omega (arith, c.find_row-from.ensures.within, c.width-width.ensures.value)) c.find_row-from.ensures.masses (omega (arith, ints, c.lo-low.ensures.y, c.loop-row-test.true, c.height-height.ensures.corners, near.south, near.north)) in
    texts_wrote g.met.P.Pen.laws c.args.pen.now l.pen c.put_line.new.pen f l.row l.invariant (wrote_same g.met.P.Pen.laws l.pen c.put_line.new.pen _ _ here c.in_ok-put_line.ensures.whole)

pub returns : goal.returns
unfolding view
returns g c =
    let f : ℕ → List ℕ = mass_line (finest_masses (state_of c.args.mesh.now) c.args.l) c.args.b.now in
    let l = c.loop-row in
    let all : l.row ≡ height c.args.b.now = omega (arith, l.auto.row-end, c.loop-row-test.false, c.height-height.ensures.value) in
    puts_whole g.met.P.Pen.laws c.args.pen.now l.pen _ tt (wrote_same g.met.P.Pen.laws c.args.pen.now l.pen _ _ (ap (texts f) all ∙ sym (texts_of_range f (height c.args.b.now))) l.invariant)
