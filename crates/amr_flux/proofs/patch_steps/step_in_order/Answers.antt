use Rattle.std.proofs.Common.{◌≡◌, ℕ, ◌+◌, ◌-◌, ◌*◌, ◌<◌, ℤ, ◌+ℤ◌, List, take, drop, length, length-drop, refl, ap, ◌∙◌, arith, rules}
use Rattle.std.specs.Prelude.{slice_index}
use Rattle.std.proofs.lemmas.List.{get_or-drop, take_rest}
use Rattle.amr_flux.specs.Paces.{IsWordOf, y_share}
use Rattle.amr_flux.specs.Tables.{count_below, value, x_marked}
use Rattle.amr_flux.proofs.Exchanged.{patch_cell, top_for, word_is, word_same}
use Rattle.amr_flux.proofs.Paces.{fits_still}
use Rattle.amr_flux.proofs.PatchSteps.{edge_fits, row_at_edge, top_flux}
use Rattle.amr_flux.proofs.Throughs.{later}
use Rattle.amr_flux.proofs.patch_steps.step_in_order.Goals as goal

pub row_sizes-requires-clause-fit : goal.row_sizes-requires-clause-fit
row_sizes-requires-clause-fit c =
    let w = c.args.shape.w in
    let r = c.first_row.result in
    edge_fits w c.args.shape.h r (r * (w + 2) + 1) (r * (w + 2) + 1 + w) c.args.values.now refl refl c.args.pace c.requires.fit c.first_row.ensures.inside

pub step_rows-ends-requires-clause-entering : goal.step_rows-ends-requires-clause-entering
step_rows-ends-requires-clause-entering c = λ i hi.
    let w = c.args.shape.w in
    let r = c.first_row.result in
    c.row_sizes.ensures i (omega (arith, hi, c.requires.width))
    ∙ ap (y_share c.args.pace) (row_at_edge w c.args.shape.h r (r * (w + 2) + 1) (r * (w + 2) + 1 + w) c.args.values.now refl refl i hi ∙ ap (value w c.args.values.now (i + 1)) c.first_row.ensures.value)

pub exchange_tops-requires-clause-fit : goal.exchange_tops-requires-clause-fit
exchange_tops-requires-clause-fit c = λ i hi.
    let w = c.args.shape.w in
    let h = c.args.shape.h in
    fits_still c.args.pace _ _ (later w h c.step_rows-ends.new.values c.args.values.now c.step_rows-ends.ensures.others (h + 1) (i + 1) _ (omega arith) (omega (arith, hi)) refl) (c.requires.fit.y i (h + 1) hi (omega arith))

pub exchange_tops-requires-clause-enough : goal.exchange_tops-requires-clause-enough
exchange_tops-requires-clause-enough c = omega (arith, c.requires.enough, c.step_rows-ends.ensures.ends, length-drop c.step_rows-ends.result c.args.border.sizes.now)

pub returns-clause-made : goal.returns-clause-made
returns-clause-made c = λ i j hi hj.
    let pace = c.args.pace in
    let w = c.args.shape.w in
    let h = c.args.shape.h in
    let marks = c.args.border.marks.now in
    let border = c.args.border.sizes.now in
    let old = c.args.values.now in
    let ended = c.step_rows-ends.new.values in
    let rest = take (length border - c.step_rows-ends.result) (drop c.step_rows-ends.result border) in
    let size : (n : ℕ) → slice_index rest n ≡ slice_index border (count_below (x_marked w marks) h + n) = λ n. ap (λ (es : List ℕ). slice_index es n) (take_rest border c.step_rows-ends.result) ∙ get_or-drop c.step_rows-ends.result border n 0 ∙ ap (λ k. slice_index border (k + n)) c.step_rows-ends.ensures.ends in
    let flux = top_flux pace c.args.down w h old ended c.step_rows-ends.new.across c.requires.way c.step_rows-ends.ensures.leaving (λ i hi. later w h ended old c.step_rows-ends.ensures.others (h + 1) (i + 1) _ (omega arith) (omega (arith, hi)) refl) in
    let tops = λ (i : ℕ) (z : ℤ) (hi : i < w) (has : IsWordOf z (value w ended (i + 1) h)). word_same (ap (λ y. z +ℤ y) (top_for pace w marks border old h i _ rest (flux i hi) size)) refl (c.exchange_tops.ensures.tops i z hi has) in
    word_is _ _ (patch_cell pace w h marks border old ended c.exchange_tops.new.values c.step_rows-ends.ensures.cells c.exchange_tops.ensures.others tops i j hi hj) (search rules) (c.requires.kept i j hi hj) (c.requires.fits i j hi hj)

pub returns-clause-others : goal.returns-clause-others
returns-clause-others c = λ q other.
    let w = c.args.shape.w in
    let h = c.args.shape.h in
    c.exchange_tops.ensures.others q (λ i hi e. other i (h - 1) hi (omega (arith, c.requires.some_rows)) (e ∙ ap (λ n. n * (w + 2) + (i + 1)) (omega (arith, c.requires.some_rows)))) ∙ c.step_rows-ends.ensures.others q other
