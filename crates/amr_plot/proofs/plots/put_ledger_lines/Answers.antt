use Rattle.std.proofs.Common.{◌≡◌, ◌<◌, ℕ, List, length, get_or, map, sym, ap, subst, ◌∙◌, arith}
use Rattle.std.proofs.lemmas.List.{get_or-map, length-map}
use Rattle.std.proofs.lemmas.Option.{get_or_from_slice_get}
use Rattle.amr_io.specs.Buffered.{fragments_text}
use Rattle.amr_def.specs.declared.problem.Row.{Row}
use Rattle.amr_def.specs.Facts.{no_row, row_at}
use Rattle.amr_def.specs.Plot.{ledger_line, ledger_lines, names_species}
use Rattle.amr_def.specs.State.{State}
use Rattle.amr_patch.specs.Meshes.{state_of}
use Rattle.amr_plot.specs.Texts.{texts}
use Rattle.amr_plot.proofs.Meshes.{mesh_at, row_of, rows_alike}
use Rattle.amr_plot.proofs.Pens.{puts_whole, texts_stop, texts_wrote, wrote_same}
use Rattle.amr_plot.proofs.Putting.{numbered_from_zero}
use Rattle.amr_plot.proofs.plots.put_ledger_lines.Goals as goal

pub returns : goal.returns
unfolding ledger_lines
returns g c =
    let rs : List Row = map (λ s. row_at s c.args.k) (map state_of c.args.meshes.now) in
    let count : length rs ≡ length c.args.meshes.now = length-map (map state_of c.args.meshes.now) (λ (s : State). row_at s c.args.k) ∙ length-map c.args.meshes.now state_of in
    let text : ℕ → Row → List ℕ = ledger_line (names_species c.args.p.now) c.args.k in
    let l = c.loop-species in
    let all : l.species ≡ length rs = omega (arith, l.auto.species-end, c.loop-species-test.false, count) in
    puts_whole g.met.P.Pen.laws c.args.pen.now l.pen _ tt
    (wrote_same g.met.P.Pen.laws c.args.pen.now l.pen _ _ (ap (texts (λ i. text i (get_or rs i no_row))) all ∙ sym (numbered_from_zero text no_row rs)) l.invariant)

pub row-requires-clause-inside : goal.row-requires-clause-inside
row-requires-clause-inside g c =
    let l = c.loop-species in
    let state = mesh_at c.args.meshes.now l.species c.index-meshes-species.result c.loop-species-test.true c.index-meshes-species.is in
    let alike = rows_alike c.args.p.now c.args.meshes.now l.species c.requires.plotted c.loop-species-test.true in
    omega (arith, ap (λ (s : State). length s.rows) state, alike, c.requires.there)

pub returns-in_err-put_fragments : goal.returns-in_err-put_fragments
unfolding ledger_lines
returns-in_err-put_fragments g c =
    let rs : List Row = map (λ s. row_at s c.args.k) (map state_of c.args.meshes.now) in
    let count : length rs ≡ length c.args.meshes.now = length-map (map state_of c.args.meshes.now) (λ (s : State). row_at s c.args.k) ∙ length-map c.args.meshes.now state_of in
    let text : ℕ → Row → List ℕ = ledger_line (names_species c.args.p.now) c.args.k in
    let l = c.loop-species in
    let row = row_of c.args.meshes.now l.species c.args.k c.index-meshes-species.result c.row.result c.loop-species-test.true c.index-meshes-species.is c.row.ensures in
    texts_stop g.met.P.Pen.laws c.args.pen.now l.pen c.put_fragments.new.self (λ i. text i (get_or rs i no_row)) l.species (length rs) _ c.from_residual.result
    c.from_residual.ensures.0 (omega (arith, c.loop-species-test.true, count)) (numbered_from_zero text no_row rs) l.invariant
    (subst (g.P.Pen.failed l.pen c.put_fragments.new.self) (c.ledger_row-row.ensures ∙ ap (text l.species) row) c.in_err-put_fragments.ensures.part)

pub loop-species-preserved : goal.loop-species-preserved
loop-species-preserved g c =
    let rs : List Row = map (λ s. row_at s c.args.k) (map state_of c.args.meshes.now) in
    let text : ℕ → Row → List ℕ = ledger_line (names_species c.args.p.now) c.args.k in
    let l = c.loop-species in
    let row = row_of c.args.meshes.now l.species c.args.k c.index-meshes-species.result c.row.result c.loop-species-test.true c.index-meshes-species.is c.row.ensures in
    texts_wrote g.met.P.Pen.laws c.args.pen.now l.pen c.put_fragments.new.self (λ i. text i (get_or rs i no_row)) l.species l.invariant
    (wrote_same g.met.P.Pen.laws l.pen c.put_fragments.new.self _ _ (c.ledger_row-row.ensures ∙ ap (text l.species) row) c.in_ok-put_fragments.ensures.whole)
