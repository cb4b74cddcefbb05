use Rattle.std.proofs.Common.{◌≡◌, ◌∙◌, ℕ, ◌+◌, ◌-◌, ◌/◌, ◌≤◌, length, refl, sym, ap, arith}
use Rattle.std.specs.Option.{option_copied}
use Rattle.amr_box.specs.declared.Cell.{Cell}
use Rattle.amr_box.specs.Cells.{parent}
use Rattle.amr_def.specs.State.{Masses, mass_of}
use Rattle.amr_patch.specs.Levels.{level_of}
use Rattle.amr_ghost.specs.Strips.{step}
use Rattle.amr_ghost.specs.Frames.{old_masses}
use Rattle.amr_ghost.proofs.Counts.{first_written, part_length, whole_length}
use Rattle.amr_ghost.proofs.PlannedSpans.{further}
use Rattle.amr_ghost.proofs.outer.quarter_values.Goals as goal

pub loop-done-init : goal.loop-done-init
loop-done-init c = record { within = omega arith; count = refl; quarters = λ k t. absurd (omega arith) }

pub loop-done-preserved : goal.loop-done-preserved
loop-done-preserved c =
    let xs = c.loop-done.values in
    let ys = c.quarter_first-done.new.values in
    let done = c.loop-done.done in
    let n = c.quarter_first-done.result in
    let m = length xs - done in
    let old = old_masses (option_copied c.args.old) in
    let wanted : ℕ → ℕ = λ k. mass_of old (parent (step c.args.axis c.args.from k)) / 4 in
    let within : done + m ≤ length xs = omega (arith, c.loop-done.invariant.within, c.loop-done.invariant.count) in
    let part = part_length xs ys done m within in
    let few : n ≤ m = omega (arith, c.quarter_first-done.ensures.within, part) in
    let held : n ≤ length ys = omega (arith, c.quarter_first-done.ensures.within, c.quarter_first-done.ensures.count) in
    let is : old ≡ (level_of c.in-Some.level.now).masses = ap (λ o. old_masses (option_copied o)) c.in-Some.is in
    record {
      within = omega (arith, within, few, c.loop-done.invariant.count);
      count = whole_length xs ys done m within c.quarter_first-done.ensures.count ∙ c.loop-done.invariant.count;
      quarters = first_written xs ys done m within wanted n held c.loop-done.invariant.quarters
          (λ j t. c.quarter_first-done.ensures.quarters j t
          ∙ ap (λ (s : Cell). mass_of (level_of c.in-Some.level.now).masses (parent s) / 4) (further c.args.axis c.args.from c.step-first.result done j c.step-first.ensures)
          ∙ ap (λ (o : Masses). mass_of o (parent (step c.args.axis c.args.from (done + j))) / 4) (sym is));
    }

pub returns-clause-quarters : goal.returns-clause-quarters
returns-clause-quarters c k t = c.loop-done.invariant.quarters k (omega (arith, t, c.loop-done.invariant.count))
