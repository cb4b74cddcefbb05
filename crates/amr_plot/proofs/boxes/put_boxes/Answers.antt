use Rattle.std.proofs.Common.{◌≡◌, ℕ, List, length, get_or, sym, ap, subst, ◌∙◌, arith}
use Rattle.amr_box.specs.Cells.{Extent}
use Rattle.amr_def.specs.Plot.{box_text, names_species}
use Rattle.amr_patch.proofs.BoxEntries.{no_box}
use Rattle.amr_patch.proofs.Items.{item}
use Rattle.amr_plot.specs.Layers.{IsLayerBox, layer_masses}
use Rattle.amr_plot.specs.Texts.{texts}
use Rattle.amr_plot.proofs.Pens.{puts_whole, texts_stop, texts_wrote, wrote_same}
use Rattle.amr_plot.proofs.Putting.{texts_of_list}
use Rattle.amr_plot.proofs.boxes.put_boxes.Goals as goal

pub put_box-requires-clause-of_layer : goal.put_box-requires-clause-of_layer
put_box-requires-clause-of_layer g c =
    let here = item c.args.boxes.now c.loop-b.b-index c.b-item.result no_box c.loop-b-test.true c.b-item.is in
    subst (λ (b : Extent). IsLayerBox c.args.layer b) (sym here) (c.requires.of_layer c.loop-b.b-index no_box c.loop-b-test.true)

pub returns-in_err-put_box : goal.returns-in_err-put_box
returns-in_err-put_box g c =
    let text : Extent → List ℕ = box_text (names_species c.args.layer.problem.now) (layer_masses c.args.layer) in
    let bs = c.args.boxes.now in
    let f : ℕ → List ℕ = λ i. text (get_or bs i no_box) in
    let l = c.loop-b in
    let here : text c.b-item.result ≡ f l.b-index = ap text (item bs l.b-index c.b-item.result no_box c.loop-b-test.true c.b-item.is) in
    texts_stop g.met.P.Pen.laws c.args.pen.now l.pen c.put_box.new.pen f l.b-index (length bs) _ c.from_residual.result c.from_residual.ensures.0
    c.loop-b-test.true (texts_of_list text no_box bs) l.invariant (subst (g.P.Pen.failed l.pen c.put_box.new.pen) here c.in_err-put_box.ensures.part)

pub loop-b-preserved : goal.loop-b-preserved
loop-b-preserved g c =
    let text : Extent → List ℕ = box_text (names_species c.args.layer.problem.now) (layer_masses c.args.layer) in
    let bs = c.args.boxes.now in
    let f : ℕ → List ℕ = λ i. text (get_or bs i no_box) in
    let l = c.loop-b in
    let here : text c.b-item.result ≡ f l.b-index = ap text (item bs l.b-index c.b-item.result no_box c.loop-b-test.true c.b-item.is) in
    texts_wrote g.met.P.Pen.laws c.args.pen.now l.pen c.put_box.new.pen f l.b-index l.invariant
    (wrote_same g.met.P.Pen.laws l.pen c.put_box.new.pen _ _ here c.in_ok-put_box.ensures.whole)

pub returns : goal.returns
returns g c =
    let text : Extent → List ℕ = box_text (names_species c.args.layer.problem.now) (layer_masses c.args.layer) in
    let bs = c.args.boxes.now in
    let f : ℕ → List ℕ = λ i. text (get_or bs i no_box) in
    let l = c.loop-b in
    let all : l.b-index ≡ length bs = omega (arith, l.auto.b-index-end, c.loop-b-test.false) in
    puts_whole g.met.P.Pen.laws c.args.pen.now l.pen _ tt
    (wrote_same g.met.P.Pen.laws c.args.pen.now l.pen _ _ (ap (texts f) all ∙ sym (texts_of_list text no_box bs)) l.invariant)
