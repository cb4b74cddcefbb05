use Rattle.std.proofs.Common.{◌∙◌, length, sym, ap}
use Rattle.std.specs.Prelude.{is_some, pos, ◌+ℤ◌, slice_index}
use Rattle.amr_box.specs.Cells.{cell}
use Rattle.amr_def.specs.State.{Masses}
use Rattle.amr_patch.proofs.LevelLaws.{along_span}
use Rattle.amr_patch.proofs.Lookups.{some_mass}
use Rattle.amr_codec.proofs.spans.span_near.Goals as goal

pub returns-in-None-clause-there : goal.returns-in-None-clause-there
returns-in-None-clause-there c =
    c.in-None.ensures.some ∙ sym (some_mass c.patches-patches.result.now c.args.c) ∙ ap (λ (m : Masses). is_some (m c.args.c)) (sym c.patches-patches.ensures.masses)

pub returns-in-Some-clause-there : goal.returns-in-Some-clause-there
returns-in-Some-clause-there c =
    c.in-Some.ensures.some ∙ sym (some_mass c.patches-patches.result.now c.args.c) ∙ ap (λ (m : Masses). is_some (m c.args.c)) (sym c.patches-patches.ensures.masses)

pub returns-in-Some-clause-masses : goal.returns-in-Some-clause-masses
returns-in-Some-clause-masses c =
    λ k lt.
    let span = c.masses_from.result.now in
    ap (λ (m : Masses). m (cell (c.args.c.x +ℤ pos k) c.args.c.y)) c.patches-patches.ensures.masses
    ∙ along_span c.patches-patches.result.now c.args.c c.in-Some.k k (slice_index span k) (length span) c.index-patches-k.result c.patches-patches.ensures.apart c.in-Some.ensures.found c.index-patches-k.is c.masses_from.ensures.count lt (c.masses_from.ensures.masses k lt)
