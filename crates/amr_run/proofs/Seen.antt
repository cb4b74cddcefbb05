-- What a problem has that has a view.
use Rattle.std.proofs.Common.{◌≡◌, ◌<◌, ◌≤◌, Bool, true, false, not, Some, None, nat_le, nat_lt, if◌then◌else◌, refl, sym, subst}
use Rattle.std.proofs.lemmas.Bool.{and_parts, leb-false, ltb-false}
use Rattle.std.proofs.lemmas.Option.{none-some}
use Rattle.amr_box.specs.declared.Cell.{Cell}
use Rattle.amr_box.specs.Cells.{Extent, holds, is_proper}
use Rattle.amr_cli.specs.declared.command.ViewOptions.{ViewOptions}
use Rattle.amr_def.specs.declared.problem.Problem.{Problem}
use Rattle.amr_def.specs.Domain.{domain, in_domain}
use Rattle.amr_payload.specs.Tests.{lies_in}
use Rattle.amr_payload.proofs.GridLevels.{box_inside}
use Rattle.amr_run.specs.Views.{bad_view, box_of, is_box_in}
use Rattle.amr_run.specs.declared.views.ViewPart.TheVariants as part

pub record IsSeen (asked : ViewOptions) (p : Problem) : Type 0 where
  pub fine : asked.level ≤ p.max_level
  pub box : is_box_in (domain p asked.level) (box_of asked.corners) ≡ true
  pub species : asked.species < p.species

pub is_seen : (asked : ViewOptions) (p : Problem) → bad_view asked p ≡ None → IsSeen asked p
is_seen asked p none = by_tests (nat_lt p.max_level asked.level) (is_box_in (domain p asked.level) (box_of asked.corners)) (nat_le p.species asked.species) refl refl refl none
  where
    by_tests : (fine box far : Bool) → nat_lt p.max_level asked.level ≡ fine → is_box_in (domain p asked.level) (box_of asked.corners) ≡ box → nat_le p.species asked.species ≡ far
        → (if fine then Some part.Level else (if not box then Some part.Box else (if far then Some part.Species else None))) ≡ None → IsSeen asked p
    by_tests true box far a b c is = absurd (none-some part.Level (sym is))
    by_tests false false far a b c is = absurd (none-some part.Box (sym is))
    by_tests false true true a b c is = absurd (none-some part.Species (sym is))
    by_tests false true false a b c is = record { fine = ltb-false p.max_level asked.level a; box = b; species = leb-false p.species asked.species c }

-- the cells of its box are cells of the domain
pub seen_inside : (asked : ViewOptions) (p : Problem) (b : Extent) → IsSeen asked p → b ≡ box_of asked.corners → (c : Cell) → holds b c ≡ true → in_domain (domain p asked.level) c ≡ true
seen_inside asked p b seen is c held =
    let own = box_of asked.corners in
    let parts = and_parts (is_proper own) (lies_in (domain p asked.level) own) seen.box in
    box_inside (domain p asked.level) own c parts.1 (subst (λ (e : Extent). holds e c ≡ true) is held)
