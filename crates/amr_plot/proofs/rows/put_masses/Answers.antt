use Rattle.std.proofs.Common.{◌≡◌, ◌+◌, ℕ, List, length, get_or, refl, ap, subst, arith}
use Rattle.amr_plot.specs.Texts.{texts, word}
use Rattle.amr_plot.proofs.Pens.{puts_whole, texts_stop, texts_wrote, wrote_same}
use Rattle.amr_plot.proofs.rows.put_masses.Goals as goal

pub returns-in_err-put_mass : goal.returns-in_err-put_mass
returns-in_err-put_mass g c =
    let f : ℕ → List ℕ = λ i. word (c.args.first + i) (get_or c.args.masses.now i 0) in
    let l = c.loop-k in
    let here : word (c.args.first + l.k) c.from.result ≡ f l.k = ap (word (c.args.first + l.k)) c.from.ensures in
    texts_stop g.met.P.Pen.laws c.args.pen.now l.pen c.put_mass.new.pen f l.k (length c.args.masses.now) _ c.from_residual.result c.from_residual.ensures.0
    c.loop-k-test.true refl l.invariant (subst (g.P.Pen.failed l.pen c.put_mass.new.pen) here c.in_err-put_mass.ensures.part)

pub loop-k-preserved : goal.loop-k-preserved
loop-k-preserved g c =
    let f : ℕ → List ℕ = λ i. word (c.args.first + i) (get_or c.args.masses.now i 0) in
    let l = c.loop-k in
    let here : word (c.args.first + l.k) c.from.result ≡ f l.k = ap (word (c.args.first + l.k)) c.from.ensures in
    texts_wrote g.met.P.Pen.laws c.args.pen.now l.pen c.put_mass.new.pen f l.k l.invariant
    (wrote_same g.met.P.Pen.laws l.pen c.put_mass.new.pen _ _ here c.in_ok-put_mass.ensures.whole)

pub returns : goal.returns
returns g c =
    let f : ℕ → List ℕ = λ i. word (c.args.first + i) (get_or c.args.masses.now i 0) in
    let l = c.loop-k in
    let all : l.k ≡ length c.args.masses.now = omega (arith, l.auto.k-end, c.loop-k-test.false) in
    puts_whole g.met.P.Pen.laws c.args.pen.now l.pen _ tt (wrote_same g.met.P.Pen.laws c.args.pen.now l.pen _ _ (ap (texts f) all) l.invariant)
