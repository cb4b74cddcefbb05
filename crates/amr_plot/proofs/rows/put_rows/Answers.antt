use Rattle.std.proofs.Common.{◌≡◌, ap, ℕ, ◌+◌, List, sym, arith, ◌∙◌}
use Rattle.std.proofs.lemmas.Int.{ints}
use Rattle.amr_def.specs.Plot.{mass_line}
use Rattle.amr_patch.proofs.Rows.{sides}
use Rattle.amr_patch.specs.Levels.{level_of}
use Rattle.amr_plot.specs.Texts.{texts}
use Rattle.amr_plot.proofs.Pens.{puts_whole, texts_stop, texts_wrote, wrote_same}
use Rattle.amr_plot.proofs.Putting.{range_texts}
use Rattle.amr_plot.proofs.rows.put_rows.Goals as goal

pub returns-in_err-put_row : goal.returns-in_err-put_row
returns-in_err-put_row g c =
    let all : ℕ → List ℕ = mass_line (level_of c.args.level.now).masses c.args.b.now in
    let l = c.loop-row in
    texts_stop g.met.P.Pen.laws c.args.pen.now l.pen c.put_row.new.pen (λ i. all (c.args.first + i)) l.row c.args.count _ c.from_residual.result c.from_residual.ensures.0
    c.loop-row-test.true (range_texts all c.args.first c.args.count) l.invariant c.in_err-put_row.ensures.part

pub loop-row-preserved : goal.loop-row-preserved
loop-row-preserved g c =
    let f : ℕ → List ℕ = λ i. mass_line (level_of c.args.level.now).masses c.args.b.now (c.args.first + i) in
    texts_wrote g.met.P.Pen.laws c.args.pen.now c.loop-row.pen c.put_row.new.pen f c.loop-row.row c.loop-row.invariant c.in_ok-put_row.ensures.whole

pub returns : goal.returns
returns g c =
    let whole : ℕ → List ℕ = mass_line (level_of c.args.level.now).masses c.args.b.now in
    let f : ℕ → List ℕ = λ i. whole (c.args.first + i) in
    let l = c.loop-row in
    let all : l.row ≡ c.args.count = omega (arith, l.auto.row-end, c.loop-row-test.false) in
    puts_whole g.met.P.Pen.laws c.args.pen.now l.pen _ tt
    (wrote_same g.met.P.Pen.laws c.args.pen.now l.pen _ _ (ap (texts f) all ∙ sym (range_texts whole c.args.first c.args.count)) l.invariant)

pub overflow_add-first : goal.overflow_add-first
overflow_add-first g c = let s = sides c.args.b.now c.requires.near in omega (arith, s.flat, c.requires.within, c.loop-row-test.true)

pub put_row-requires-clause-row : goal.put_row-requires-clause-row
put_row-requires-clause-row g c = let s = sides c.args.b.now c.requires.near in omega (arith, ints, s.high, c.requires.within, c.loop-row-test.true)

pub loop-row-init : goal.loop-row-init
loop-row-init g c = g.met.P.Pen.laws.nothing c.args.pen.now
