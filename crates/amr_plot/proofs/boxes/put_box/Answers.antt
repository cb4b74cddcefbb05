use Rattle.std.proofs.Common.{◌≡◌, ◌++◌, ℕ, List, length, sym, ap, subst, ◌∙◌, arith}
use Rattle.amr_box.specs.Cells.{height}
use Rattle.amr_def.specs.Plot.{box_line}
use Rattle.amr_plot.specs.BoxParts.{some_rows}
use Rattle.amr_plot.specs.Texts.{texts}
use Rattle.amr_plot.proofs.BoxTexts.{box_is, first_species, next_species, no_species, species_within}
use Rattle.amr_plot.proofs.Pens.{puts_first, puts_same, puts_stop, puts_whole, wrote_same}
use Rattle.amr_plot.proofs.boxes.put_box.Goals as goal

pub returns-in_err-put_fragments : goal.returns-in_err-put_fragments
returns-in_err-put_fragments g c =
    let k = c.args.layer in
    let b = c.args.b.now in
    let rest = texts (λ s. some_rows k b s 0 (height b)) (length k.meshes.now) in
    puts_same g.met.P.Pen.laws c.args.pen.now c.put_fragments.new.self _ _ c.from_residual.result
    (ap (λ (t : List ℕ). t ++ rest) c.box_row.ensures ∙ box_is k b)
    (puts_first g.met.P.Pen.laws c.args.pen.now c.put_fragments.new.self _ rest c.from_residual.result c.from_residual.ensures.0 c.in_err-put_fragments.ensures.part)

pub loop-species-preserved : goal.loop-species-preserved
loop-species-preserved g c =
    let k = c.args.layer in
    let b = c.args.b.now in
    let l = c.loop-species in
    let rows : some_rows k b l.species 0 c.height-height.result ≡ some_rows k b l.species 0 (height b) = ap (some_rows k b l.species 0) c.height-height.ensures.value in
    wrote_same g.met.P.Pen.laws c.args.pen.now c.put_some_rows.new.pen _ _ (sym (next_species k b l.species))
    (g.met.P.Pen.laws.more c.args.pen.now l.pen c.put_some_rows.new.pen _ _ l.invariant
    (wrote_same g.met.P.Pen.laws l.pen c.put_some_rows.new.pen _ _ rows c.in_ok-put_some_rows.ensures.whole))

pub put_some_rows-requires-clause-within : goal.put_some_rows-requires-clause-within
put_some_rows-requires-clause-within g c = omega (arith, c.height-height.ensures.value)

pub returns-in_err-put_some_rows : goal.returns-in_err-put_some_rows
returns-in_err-put_some_rows g c =
    let k = c.args.layer in
    let b = c.args.b.now in
    let l = c.loop-species in
    let rows : some_rows k b l.species 0 c.height-height.result ≡ some_rows k b l.species 0 (height b) = ap (some_rows k b l.species 0) c.height-height.ensures.value in
    puts_stop g.met.P.Pen.laws c.args.pen.now l.pen c.put_some_rows.new.pen (first_species k b l.species) (some_rows k b l.species 0 (height b)) _
    c.from_residual-in_err-put_some_rows.result c.from_residual-in_err-put_some_rows.ensures.0
    (species_within k b l.species c.loop-species-test.true) l.invariant
    (subst (g.P.Pen.failed l.pen c.put_some_rows.new.pen) rows c.in_err-put_some_rows.ensures.part)

pub returns : goal.returns
returns g c =
    let k = c.args.layer in
    let b = c.args.b.now in
    let l = c.loop-species in
    let all : l.species ≡ length k.meshes.now = omega (arith, l.auto.species-end, c.loop-species-test.false) in
    puts_whole g.met.P.Pen.laws c.args.pen.now l.pen _ tt
    (wrote_same g.met.P.Pen.laws c.args.pen.now l.pen _ _ (ap (first_species k b) all ∙ box_is k b) l.invariant)
