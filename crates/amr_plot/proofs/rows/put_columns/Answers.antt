use Rattle.std.proofs.Common.{◌≡◌, ◌+◌, ◌++◌, ℕ, List, length, sym, ap, subst, ◌∙◌, arith}
use Rattle.std.proofs.lemmas.Int.{ints}
use Rattle.amr_box.specs.Cells.{width}
use Rattle.amr_causes.specs.Bytes.{IsPrefix}
use Rattle.amr_patch.proofs.Rows.{sides}
use Rattle.amr_plot.specs.Texts.{masses_text, texts}
use Rattle.amr_plot.specs.Rows.{row_word}
use Rattle.amr_plot.proofs.Pens.{puts_stop, puts_whole, wrote_same}
use Rattle.amr_plot.proofs.Putting.{texts_before, texts_more}
use Rattle.amr_plot.proofs.Words.{some_masses}
use Rattle.amr_plot.proofs.rows.put_columns.Goals as goal

pub put_masses-requires : goal.put_masses-requires
put_masses-requires g c =
    let s = sides c.args.b.now c.requires.near in
    omega (arith, c.masses_from-masses.ensures.inside, s.narrow)

pub returns-in_err-put_masses : goal.returns-in_err-put_masses
returns-in_err-put_masses g c =
    let l = c.loop-first in
    let b = c.args.b.now in
    let masses = c.masses_from-masses.result.now in
    let n = length masses in
    let f : ℕ → List ℕ = row_word c.args.level.now b c.args.row in
    let same = some_masses c.args.level.now b c.args.row l.first masses c.masses_from-masses.ensures.masses in
    let more : texts f (l.first + n) ≡ texts f l.first ++ masses_text l.first masses = texts_more f l.first n ∙ ap (λ (t : List ℕ). texts f l.first ++ t) (sym same) in
    let is : IsPrefix (texts f l.first ++ masses_text l.first masses) (texts f (width b)) = subst (λ (t : List ℕ). IsPrefix t (texts f (width b))) more (texts_before f (l.first + n) (width b) c.masses_from-masses.ensures.inside) in
    puts_stop g.met.P.Pen.laws c.args.pen.now l.pen c.put_masses.new.pen (texts f l.first) (masses_text l.first masses) _ c.from_residual.result
    c.from_residual.ensures.0 is l.invariant.wrote c.in_err-put_masses.ensures.part

pub loop-first-preserved : goal.loop-first-preserved
loop-first-preserved g c =
    let l = c.loop-first in
    let b = c.args.b.now in
    let masses = c.masses_from-masses.result.now in
    let n = length masses in
    let f : ℕ → List ℕ = row_word c.args.level.now b c.args.row in
    let same = some_masses c.args.level.now b c.args.row l.first masses c.masses_from-masses.ensures.masses in
    let more : texts f (l.first + n) ≡ texts f l.first ++ masses_text l.first masses = texts_more f l.first n ∙ ap (λ (t : List ℕ). texts f l.first ++ t) (sym same) in
    record {
      wrote = wrote_same g.met.P.Pen.laws c.args.pen.now c.put_masses.new.pen _ _ (sym more)
          (g.met.P.Pen.laws.more c.args.pen.now l.pen c.put_masses.new.pen (texts f l.first) (masses_text l.first masses) l.invariant.wrote c.in_ok-put_masses.ensures.whole);
      within = c.masses_from-masses.ensures.inside;
    }

pub masses_from-masses-requires-clause-column : goal.masses_from-masses-requires-clause-column
masses_from-masses-requires-clause-column g c = omega (arith, ints, c.width-width.ensures.corners, c.loop-first-test.true)

pub returns : goal.returns
returns g c =
    let l = c.loop-first in
    let b = c.args.b.now in
    let all : l.first ≡ width b = omega (arith, c.loop-first-test.false, l.invariant.within, c.width-width.ensures.value) in
    puts_whole g.met.P.Pen.laws c.args.pen.now l.pen _ tt (wrote_same g.met.P.Pen.laws c.args.pen.now l.pen _ _ (ap (texts (row_word c.args.level.now b c.args.row)) all) l.invariant.wrote)

pub loop-first-init : goal.loop-first-init
loop-first-init g c = record { wrote = g.met.P.Pen.laws.nothing c.args.pen.now; within = omega arith }
