use Rattle.std.proofs.Common.{◌≡◌, ◌∙◌, ◌^◌, map, subst, sym}
use Rattle.std.specs.Prelude.{pos, ◌+ℤ◌, ◌≤ℤ◌, ◌<ℤ◌, IfSome, IsSome}
use Rattle.std.specs.declared.option.Option.{Option}
use Rattle.std.specs.List.{Contains}
use Rattle.amr_box.specs.declared.Cell.{Cell}
use Rattle.amr_def.specs.State.{mass_of}
use Rattle.amr_patch.specs.Levels.{level_of, patches_of}
use Rattle.amr_patch.specs.Patches.{box}
use Rattle.amr_register.specs.declared.register.Register.{Register}
use Rattle.amr_register.specs.Entries.{with_entries}
use Rattle.amr_register.specs.Fields.{HasEdgesOf, IsPlaced}
use Rattle.amr_transfer.specs.Sums.{summed}
use Rattle.amr_advance.specs.Registers.{cells_of}
use Rattle.amr_cycle.specs.Cycles.{entries_of}
use Rattle.amr_cycle.proofs.correction.correct.Goals as goal

pub correct_kept-requires-clause-may : goal.correct_kept-requires-clause-may
correct_kept-requires-clause-may g c κs within =
    let is = sym c.take.ensures.value ∙ c.in-Some.is in record {
      placed = subst (λ (r : Option Register). IfSome r IsPlaced) is c.requires.placed;
      edges = subst (λ (r : Option Register). IfSome r (HasEdgesOf (map box (patches_of c.args.level.now)))) is c.requires.edges;
      of_level = subst (λ (r : Option Register). (q : Cell) → Contains (cells_of r) q → IsSome ((level_of c.args.level.now).masses q)) is c.requires.of_level;
      not_negative = subst (λ (r : Option Register). (q : Cell) → Contains (cells_of r) q → pos 0 ≤ℤ (pos (mass_of (level_of c.args.level.now).masses q) +ℤ entries_of r q)) is c.requires.not_negative;
      fits = subst (λ (r : Option Register). (q : Cell) → Contains (cells_of r) q → (pos (mass_of (level_of c.args.level.now).masses q) +ℤ entries_of r q) <ℤ pos (2 ^ 32)) is c.requires.fits;
      parents = c.requires.parents;
      coarsenable = c.requires.coarsenable;
      small = c.requires.small;
    }

pub correct_kept-requires-clause-crew : goal.correct_kept-requires-clause-crew
correct_kept-requires-clause-crew g c κs within = c.requires.crew _

pub returns-clause-masses : goal.returns-clause-masses
returns-clause-masses g c = subst (λ (r : Option Register). (level_of c.correct_kept.new.level).masses ≡ summed (level_of c.args.finer.now).masses (with_entries (entries_of r) (level_of c.args.level.now).masses)) (sym (sym c.take.ensures.value ∙ c.in-Some.is)) c.in_ok-whole.ensures.corrected.masses

pub returns-clause-boxes : goal.returns-clause-boxes
returns-clause-boxes g c = c.in_ok-whole.ensures.corrected.boxes

pub returns-clause-patches : goal.returns-clause-patches
returns-clause-patches g c = c.in_ok-whole.ensures.corrected.patches
