use Rattle.std.proofs.Common.{◌≡◌, sym, ap, ◌∙◌, arith}
use Rattle.std.proofs.lemmas.Int.{ints}
use Rattle.amr_def.specs.Domain.{columns}
use Rattle.amr_ghost.proofs.Inflows.{west_inflow, east_inflow, south_inflow, north_inflow}
use Rattle.amr_ghost.proofs.outside.inflow_at.Goals as goal

pub returns-then-c-lt0 : goal.returns-then-c-lt0
returns-then-c-lt0 c = c.low_inflow.ensures ∙ sym (west_inflow c.args.p.now c.args.l c.args.c (omega (arith, ints)))

pub returns-then-c-columns : goal.returns-then-c-columns
returns-then-c-columns c =
    let n : c.columns.result ≡ columns c.args.p.now c.args.l = c.columns.ensures.value ∙ ap (λ d. d.columns) c.domain-dom.ensures in
    c.high_inflow.ensures ∙ sym (east_inflow c.args.p.now c.args.l c.args.c (omega (arith, ints)) (omega (arith, ints)))

pub returns-then-c-lt0-2 : goal.returns-then-c-lt0-2
returns-then-c-lt0-2 c =
    let n : c.columns.result ≡ columns c.args.p.now c.args.l = c.columns.ensures.value ∙ ap (λ d. d.columns) c.domain-dom.ensures in
    c.low_inflow-then-c-lt0-2.ensures ∙ sym (south_inflow c.args.p.now c.args.l c.args.c (omega (arith, ints)) (omega (arith, ints)) (omega (arith, ints)))

pub returns : goal.returns
returns c =
    let n : c.columns.result ≡ columns c.args.p.now c.args.l = c.columns.ensures.value ∙ ap (λ d. d.columns) c.domain-dom.ensures in
    c.high_inflow-2.ensures ∙ sym (north_inflow c.args.p.now c.args.l c.args.c (omega (arith, ints)) (omega (arith, ints)) (omega (arith, ints)))
