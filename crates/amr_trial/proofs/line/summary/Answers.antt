use Rattle.std.proofs.Common.{◌≡◌, [], ◌∷◌, ◌++◌, length, sym, ap, ◌∙◌}
use Rattle.std.proofs.lemmas.List.{length-map}
use Rattle.std.proofs.lemmas.Option.{get_or_from_slice_get}
use Rattle.sha2.specs.Sha256.{sha256}
use Rattle.hex.specs.Hex.{encode_lower}
use Rattle.amr_def.specs.Facts.{no_row, row_at}
use Rattle.amr_def.specs.Plot.{plot}
use Rattle.amr_patch.specs.Levels.{level_of}
use Rattle.amr_patch.specs.Meshes.{state_of}
use Rattle.amr_trial.proofs.Boxes.{boxes_fit}
use Rattle.amr_trial.proofs.LineParts.{line_in_parts, line_parts}
use Rattle.amr_trial.proofs.line.summary.Goals as goal

pub box_count-requires-clause-few : goal.box_count-requires-clause-few
box_count-requires-clause-few c = boxes_fit c.args.p.now (state_of c.args.mesh.now) c.requires.sound

pub returns : goal.returns
returns c =
    let p = c.args.p.now in
    let s = state_of c.args.mesh.now in
    let step = c.from-3.ensures ∙ c.step-step.ensures in
    let levels : length c.levels.result.now ≡ length s.levels = sym (length-map c.levels.result.now level_of) ∙ ap length c.levels.ensures.levels in
    let row : c.row-row.result ≡ row_at s s.step = sym (get_or_from_slice_get s.rows c.step-step.result c.row-row.result no_row c.row-row.ensures) ∙ ap (row_at s) c.step-step.ensures in
    let digest : c.as_str.result.now ≡ encode_lower (sha256 (plot p s)) = c.as_str.ensures.value ∙ c.in_ok-digits.ensures ∙ ap encode_lower c.plot_digest.ensures in
    c.in_ok-put.ensures
    ∙ (λ i. c.in_ok-line.ensures.items i ++ line_parts (c.from.ensures i) (c.from-2.ensures i) (step i) (levels i) (c.box_count.ensures i) (row i).mass (digest i) (10 ∷ []))
    ∙ line_in_parts c.args.number c.args.size p s
