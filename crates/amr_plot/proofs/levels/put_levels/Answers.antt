use Rattle.std.proofs.Common.{◌≡◌, ◌<◌, ℕ, List, length, map, sym, ap, subst, ◌∙◌, arith}
use Rattle.std.proofs.lemmas.List.{length-map}
use Rattle.amr_def.specs.Plot.{level_text, names_species}
use Rattle.amr_def.specs.Species.{first_state}
use Rattle.amr_def.specs.State.{Level, State, level_at}
use Rattle.amr_patch.specs.Levels.{level_of}
use Rattle.amr_patch.specs.Meshes.{state_of}
use Rattle.amr_plot.specs.Texts.{texts}
use Rattle.amr_plot.proofs.Meshes.{mesh_at}
use Rattle.amr_plot.proofs.Pens.{puts_whole, texts_stop, texts_wrote, wrote_same}
use Rattle.amr_plot.proofs.PlotTexts.{place_text, places_text}
use Rattle.amr_plot.proofs.levels.put_levels.Goals as goal

pub returns-in_err-put_level : goal.returns-in_err-put_level
returns-in_err-put_level g c =
    let ss : List State = map state_of c.args.meshes.now in
    let f : ℕ → List ℕ = place_text (level_text (names_species c.args.p.now)) level_at ss in
    let l = c.loop-l in
    let first : state_of c.index-meshes-0.result ≡ first_state ss = mesh_at c.args.meshes.now 0 c.index-meshes-0.result c.requires.plotted.some c.index-meshes-0.is in
    let count : length c.levels.result.now ≡ length (first_state ss).levels =
    sym (length-map c.levels.result.now level_of) ∙ ap length c.levels.ensures.levels ∙ ap (λ (s : State). length s.levels) first in
    texts_stop g.met.P.Pen.laws c.args.pen.now l.pen c.put_level.new.pen f l.l (length (first_state ss).levels) _ c.from_residual.result c.from_residual.ensures.0
    (omega (arith, c.loop-l-test.true, count)) (places_text (level_text (names_species c.args.p.now)) level_at (length (first_state ss).levels) ss) l.invariant
    c.in_err-put_level.ensures.part

pub put_level-requires-clause-layer : goal.put_level-requires-clause-layer
put_level-requires-clause-layer g c =
    let ss : List State = map state_of c.args.meshes.now in
    let first : state_of c.index-meshes-0.result ≡ first_state ss = mesh_at c.args.meshes.now 0 c.index-meshes-0.result c.requires.plotted.some c.index-meshes-0.is in
    let count : length c.levels.result.now ≡ length (first_state ss).levels =
    sym (length-map c.levels.result.now level_of) ∙ ap length c.levels.ensures.levels ∙ ap (λ (s : State). length s.levels) first in
    record { plotted = c.requires.plotted; there = omega (arith, c.loop-l-test.true, count) }

pub loop-l-preserved : goal.loop-l-preserved
loop-l-preserved g c =
    let ss : List State = map state_of c.args.meshes.now in
    let f : ℕ → List ℕ = place_text (level_text (names_species c.args.p.now)) level_at ss in
    let l = c.loop-l in
    texts_wrote g.met.P.Pen.laws c.args.pen.now l.pen c.put_level.new.pen f l.l l.invariant c.in_ok-put_level.ensures.whole

pub returns : goal.returns
returns g c =
    let ss : List State = map state_of c.args.meshes.now in
    let f : ℕ → List ℕ = place_text (level_text (names_species c.args.p.now)) level_at ss in
    let l = c.loop-l in
    let first : state_of c.index-meshes-0.result ≡ first_state ss = mesh_at c.args.meshes.now 0 c.index-meshes-0.result c.requires.plotted.some c.index-meshes-0.is in
    let count : length c.levels.result.now ≡ length (first_state ss).levels =
    sym (length-map c.levels.result.now level_of) ∙ ap length c.levels.ensures.levels ∙ ap (λ (s : State). length s.levels) first in
    let all : l.l ≡ length (first_state ss).levels = omega (arith, l.auto.l-end, c.loop-l-test.false, count) in
    puts_whole g.met.P.Pen.laws c.args.pen.now l.pen _ tt
    (wrote_same g.met.P.Pen.laws c.args.pen.now l.pen _ _ (ap (texts f) all ∙ sym (places_text (level_text (names_species c.args.p.now)) level_at (length (first_state ss).levels) ss)) l.invariant)
