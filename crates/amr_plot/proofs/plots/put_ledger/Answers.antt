use Rattle.std.proofs.Common.{◌≡◌, ◌<◌, ℕ, List, length, map, sym, ap, ◌∙◌, arith}
use Rattle.amr_def.specs.Facts.{row_at}
use Rattle.amr_def.specs.Plot.{ledger_lines, names_species}
use Rattle.amr_def.specs.Species.{first_state, no_state}
use Rattle.amr_def.specs.State.{State}
use Rattle.amr_patch.specs.Meshes.{state_of}
use Rattle.amr_plot.specs.Texts.{texts}
use Rattle.amr_plot.proofs.Meshes.{first_rows, mesh_at}
use Rattle.amr_plot.proofs.Pens.{puts_whole, texts_stop, texts_wrote, wrote_same}
use Rattle.amr_plot.proofs.PlotTexts.{place_text, places_text}
use Rattle.amr_plot.proofs.plots.put_ledger.Goals as goal

pub put_ledger_lines-requires-clause-there : goal.put_ledger_lines-requires-clause-there
put_ledger_lines-requires-clause-there g c =
    let first = mesh_at c.args.meshes.now 0 c.index-meshes-0.result c.requires.some c.index-meshes-0.is in
    let few = first_rows c.args.p.now c.args.meshes.now c.requires in
    omega (arith, c.step-count.ensures, ap (λ (s : State). s.step) first, few.0, c.loop-k-test.true)

pub returns-in_err-put_ledger_lines : goal.returns-in_err-put_ledger_lines
returns-in_err-put_ledger_lines g c =
    let ss : List State = map state_of c.args.meshes.now in
    let f : ℕ → List ℕ = place_text (ledger_lines (names_species c.args.p.now)) row_at ss in
    let l = c.loop-k in
    let first = mesh_at c.args.meshes.now 0 c.index-meshes-0.result c.requires.some c.index-meshes-0.is in
    let few = first_rows c.args.p.now c.args.meshes.now c.requires in
    let rows = length (first_state ss).rows in
    texts_stop g.met.P.Pen.laws c.args.pen.now l.pen c.put_ledger_lines.new.pen f l.k rows _ c.from_residual.result c.from_residual.ensures.0
    (omega (arith, c.step-count.ensures, ap (λ (s : State). s.step) first, few.0, c.loop-k-test.true))
    (places_text (ledger_lines (names_species c.args.p.now)) row_at rows ss) l.invariant c.in_err-put_ledger_lines.ensures.part

pub loop-k-preserved : goal.loop-k-preserved
loop-k-preserved g c =
    let ss : List State = map state_of c.args.meshes.now in
    let f : ℕ → List ℕ = place_text (ledger_lines (names_species c.args.p.now)) row_at ss in
    let l = c.loop-k in
    texts_wrote g.met.P.Pen.laws c.args.pen.now l.pen c.put_ledger_lines.new.pen f l.k l.invariant c.in_ok-put_ledger_lines.ensures.whole

pub returns : goal.returns
returns g c =
    let ss : List State = map state_of c.args.meshes.now in
    let f : ℕ → List ℕ = place_text (ledger_lines (names_species c.args.p.now)) row_at ss in
    let l = c.loop-k in
    let first = mesh_at c.args.meshes.now 0 c.index-meshes-0.result c.requires.some c.index-meshes-0.is in
    let few = first_rows c.args.p.now c.args.meshes.now c.requires in
    let rows = length (first_state ss).rows in
    let all : l.k ≡ rows = omega (arith, l.auto.k-end, c.loop-k-test.false, c.step-count.ensures, ap (λ (s : State). s.step) first, few.0) in
    puts_whole g.met.P.Pen.laws c.args.pen.now l.pen _ tt
    (wrote_same g.met.P.Pen.laws c.args.pen.now l.pen _ _ (ap (texts f) all ∙ sym (places_text (ledger_lines (names_species c.args.p.now)) row_at rows ss)) l.invariant)
