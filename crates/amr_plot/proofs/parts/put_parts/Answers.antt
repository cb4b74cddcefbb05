use Rattle.std.proofs.Common.{◌≡◌, ℕ, List, length, get_or, sym, ap, subst, ◌∙◌, arith}
use Rattle.amr_patch.proofs.Items.{item}
use Rattle.amr_plot.specs.BoxParts.{IsPartOf, part_text}
use Rattle.amr_plot.specs.declared.parts.Part.{Part}
use Rattle.amr_plot.specs.Texts.{texts}
use Rattle.amr_plot.proofs.Cutting.{no_part}
use Rattle.amr_plot.proofs.Pens.{puts_whole, texts_stop, texts_wrote, wrote_same}
use Rattle.amr_plot.proofs.Putting.{texts_of_list}
use Rattle.amr_plot.proofs.parts.put_parts.Goals as goal

pub put_part-requires-clause-of_layer : goal.put_part-requires-clause-of_layer
put_part-requires-clause-of_layer g c =
    let here = item c.args.parts.now c.loop-part.part-index c.part-item.result no_part c.loop-part-test.true c.part-item.is in
    subst (λ (k : Part). IsPartOf c.args.layer k) (sym here) (c.requires.of_layer c.loop-part.part-index no_part c.loop-part-test.true)

pub returns-in_err-put_part : goal.returns-in_err-put_part
returns-in_err-put_part g c =
    let text : Part → List ℕ = part_text c.args.layer in
    let ps = c.args.parts.now in
    let f : ℕ → List ℕ = λ i. text (get_or ps i no_part) in
    let l = c.loop-part in
    let here : text c.part-item.result ≡ f l.part-index = ap text (item ps l.part-index c.part-item.result no_part c.loop-part-test.true c.part-item.is) in
    texts_stop g.met.P.Pen.laws c.args.pen.now l.pen c.put_part.new.pen f l.part-index (length ps) _ c.from_residual.result c.from_residual.ensures.0
    c.loop-part-test.true (texts_of_list text no_part ps) l.invariant (subst (g.P.Pen.failed l.pen c.put_part.new.pen) here c.in_err-put_part.ensures.part)

pub loop-part-preserved : goal.loop-part-preserved
loop-part-preserved g c =
    let text : Part → List ℕ = part_text c.args.layer in
    let ps = c.args.parts.now in
    let f : ℕ → List ℕ = λ i. text (get_or ps i no_part) in
    let l = c.loop-part in
    let here : text c.part-item.result ≡ f l.part-index = ap text (item ps l.part-index c.part-item.result no_part c.loop-part-test.true c.part-item.is) in
    texts_wrote g.met.P.Pen.laws c.args.pen.now l.pen c.put_part.new.pen f l.part-index l.invariant
    (wrote_same g.met.P.Pen.laws l.pen c.put_part.new.pen _ _ here c.in_ok-put_part.ensures.whole)

pub returns : goal.returns
returns g c =
    let text : Part → List ℕ = part_text c.args.layer in
    let ps = c.args.parts.now in
    let f : ℕ → List ℕ = λ i. text (get_or ps i no_part) in
    let l = c.loop-part in
    let all : l.part-index ≡ length ps = omega (arith, l.auto.part-index-end, c.loop-part-test.false) in
    puts_whole g.met.P.Pen.laws c.args.pen.now l.pen _ tt
    (wrote_same g.met.P.Pen.laws c.args.pen.now l.pen _ _ (ap (texts f) all ∙ sym (texts_of_list text no_part ps)) l.invariant)
