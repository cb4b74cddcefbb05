use Rattle.std.proofs.Common.{◌≡◌, ◌+◌, ◌≤◌, ◌++◌, ℕ, List, length, take, sym, ap, subst, ◌∙◌}
use Rattle.std.specs.Global.{Vec}
use Rattle.amr_plot.specs.Texts.{joined}
use Rattle.amr_plot.proofs.Pens.{puts_stop, puts_whole, wrote_same}
use Rattle.amr_plot.proofs.TextLaws.{all_taken, next_taken, next_within}
use Rattle.amr_plot.proofs.levels.put_texts.Goals as goal

pub returns-in_err-put_bytes : goal.returns-in_err-put_bytes
returns-in_err-put_bytes g c =
    let l = c.loop-made in
    let t = c.made-item.result in
    puts_stop g.met.P.Pen.laws c.args.pen.now l.pen c.put_bytes.new.self (joined (take l.made-index c.args.texts.now)) t.items _ c.from_residual.result
    c.from_residual.ensures.0 (next_within (λ (u : Vec ℕ). u.items) c.args.texts.now l.made-index t c.loop-made-test.true c.made-item.is)
    l.invariant (subst (g.P.Pen.failed l.pen c.put_bytes.new.self) c.deref.ensures.value c.in_err-put_bytes.ensures.part)

pub loop-made-preserved : goal.loop-made-preserved
loop-made-preserved g c =
    let l = c.loop-made in
    let t = c.made-item.result in
    let done : List ℕ = joined (take l.made-index c.args.texts.now) in
    let more : done ++ c.deref.result.now ≡ joined (take (l.made-index + 1) c.args.texts.now) = ap (λ (b : List ℕ). done ++ b) c.deref.ensures.value ∙ sym (next_taken (λ (u : Vec ℕ). u.items) c.args.texts.now l.made-index t c.loop-made-test.true c.made-item.is) in
    wrote_same g.met.P.Pen.laws c.args.pen.now c.put_bytes.new.self _ _ more
    (g.met.P.Pen.laws.more c.args.pen.now l.pen c.put_bytes.new.self done c.deref.result.now l.invariant c.in_ok-put_bytes.ensures.whole)

pub returns : goal.returns
returns g c =
    let l = c.loop-made in
    let all : length c.args.texts.now ≤ l.made-index = c.loop-made-test.false in
    puts_whole g.met.P.Pen.laws c.args.pen.now l.pen _ tt
    (wrote_same g.met.P.Pen.laws c.args.pen.now l.pen _ _ (all_taken (λ (u : Vec ℕ). u.items) c.args.texts.now l.made-index all) l.invariant)
