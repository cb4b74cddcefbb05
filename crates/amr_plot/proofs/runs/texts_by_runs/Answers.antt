use Rattle.std.proofs.Common.{◌≡◌, ◌∙◌, ◌*◌, ◌<◌, ◌≤◌, ℕ, List, length, get_or, take, drop, sym, ap, subst, arith}
use Rattle.std.specs.Prelude.{IfOk}
use Rattle.std.specs.Global.{Vec}
use Rattle.std.specs.List.{All, flat_map}
use Rattle.std.proofs.lemmas.List.Elements.{All-drop, All-take}
use Rattle.std.proofs.lemmas.Result.{IfOk-weaker}
use Rattle.amr_box.specs.Cells.{Extent}
use Rattle.amr_def.specs.Plot.{box_text, names_species}
use Rattle.amr_plot.specs.BoxParts.{IsPartOf, part_text}
use Rattle.amr_plot.specs.Layers.{IsLayerBox, layer_boxes, layer_masses}
use Rattle.amr_plot.specs.Texts.{AreTextsOfRuns, joined}
use Rattle.amr_plot.specs.declared.parts.Part.{Part}
use Rattle.amr_plot.proofs.Layers.{each_box}
use Rattle.amr_plot.proofs.TextLaws.{all_in_runs, all_taken}
use Rattle.amr_plot.proofs.runs.texts_by_runs.Goals as goal

pub parts_of-requires : goal.parts_of-requires
parts_of-requires g c =
    record { of_layer = subst (λ (bs : List Extent). All (IsLayerBox c.args.layer) bs) (sym c.boxes.ensures) (each_box c.args.layer c.requires.layer) }

pub map_chunks-requires-clause-accepts : goal.map_chunks-requires-clause-accepts
map_chunks-requires-clause-accepts g c κs within = λ start p chunk.
    let ps = c.deref.result.now in
    let P : Part → Type 0 = IsPartOf c.args.layer in
    let each : All P ps = subst (λ (l : List Part). All P l) (sym c.deref.ensures.value) c.in_ok-parts.ensures.of_layer in
    (c.requires.layer, subst (λ (l : List Part). All P l) (sym chunk.value) (All-take P c.max-size.result (drop start ps) (All-drop P start ps each)))

pub returns : goal.returns
returns g c =
    let k = c.args.layer in
    let ps = c.deref.result.now in
    let text : Part → List ℕ = part_text k in
    let whole_text : Extent → List ℕ = box_text (names_species k.problem.now) (layer_masses k) in
    let size = c.max-size.result in
    let runs = c.in_ok-runs.runs.items in
    let made : AreTextsOfRuns text ps size runs = λ j r lt. let chunk = (c.in_ok-runs.ensures.each j r lt).1 in subst (λ (l : List Part). IfOk (get_or runs j r) (λ v. v.items ≡ flat_map text l)) chunk.argument_is.value chunk.call in
    let some : 0 < size = omega (arith, c.max-size.ensures) in
    let enough : length ps ≤ length runs * size = all_in_runs (length ps) size (length runs) some (sym c.in_ok-runs.runs.ok.0 ∙ c.in_ok-runs.ensures.len) in
    let whole : flat_map text ps ≡ flat_map whole_text (layer_boxes k) = ap (λ (l : List Part). flat_map text l) c.deref.ensures.value ∙ c.in_ok-parts.ensures.texts ∙ ap (λ (l : List Extent). flat_map whole_text l) c.boxes.ensures in
    IfOk-weaker c.join_runs.result (λ (v : Vec (Vec ℕ)). joined v.items ≡ flat_map text (take (length runs * size) ps)) _ (λ v is. is ∙ all_taken text ps (length runs * size) enough ∙ whole)
    (IfOk-weaker c.join_runs.result (λ (v : Vec (Vec ℕ)). (f : Part → List ℕ) (l : List Part) (n : ℕ) → AreTextsOfRuns f l n runs → joined v.items ≡ flat_map f (take (length runs * n) l)) _ (λ v told. told text ps size made) c.join_runs.ensures)
