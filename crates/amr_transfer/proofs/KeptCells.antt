-- Cells of a patch that keep the masses of the level as it was: none, those of a span, those of one set after another.
use Rattle.std.proofs.Common.{◌≡◌, ◌∙◌, ℕ, ◌<◌, Bool, true, false, ◌||◌, ◌⊎◌, inl, inr, pos, ◌+ℤ◌, ◌≤ℤ◌, List, length, IsTrue, refl, sym, ap}
use Rattle.std.specs.Prelude.{slice_index_or, is_some}
use Rattle.std.proofs.lemmas.Bool.{both_ways, or_cases}
use Rattle.std.proofs.lemmas.List.Folds.{list_any_at}
use Rattle.amr_box.specs.declared.Cell.{Cell}
use Rattle.amr_box.specs.Cells.{holds}
use Rattle.amr_def.specs.State.{Masses, mass_of}
use Rattle.amr_patch.specs.declared.patches.Patch.{Patch}
use Rattle.amr_patch.specs.Patches.{ArePatchesApart, box, mass_in, masses_in}
use Rattle.amr_patch.proofs.Lookups.{some_mass}
use Rattle.amr_transfer.specs.Given.{IsGiven, HasOldMasses, span}
use Rattle.amr_transfer.proofs.GivenCells.{given_as, given_more, given_none, still_held}
use Rattle.amr_transfer.proofs.PatchLists.{mass_there}
use Rattle.amr_transfer.proofs.RowSpans.{span_inside}

pub kept_none : (old : Masses) (cells : Cell → Bool) (p : Patch) → ((c : Cell) → IsTrue (holds (box p) c) → cells c ≡ false) → HasOldMasses old cells p p
kept_none old cells p none = record {
  given = given_none cells (mass_of old) p none;
  there = λ c h on. absurd (both_ways (cells c) (none c h) on);
}

pub kept_more : (old : Masses) (some more all : Cell → Bool) (p q r : Patch) → HasOldMasses old some p q → HasOldMasses old more q r → ((c : Cell) → all c ≡ (some c || more c)) → HasOldMasses old all p r
kept_more old some more all p q r h k join = record {
  given = given_more some more all (mass_of old) p q r h.given k.given join;
  there = λ c i on. cases c i (or_cases (some c) (more c) (sym (join c) ∙ on));
}
  where
    cases : (c : Cell) → IsTrue (holds (box p) c) → (some c ≡ true) ⊎ (more c ≡ true) → is_some (old c) ≡ true
    cases c i (inl e) = h.there c i e
    cases c i (inr e) = k.there c (still_held p q c h.given.kept.of_box i) e

pub kept_as : (old : Masses) (cells other : Cell → Bool) (p q : Patch) → ((c : Cell) → IsTrue (holds (box p) c) → other c ≡ cells c) → HasOldMasses old cells p q → HasOldMasses old other p q
kept_as old cells other p q same h = record {
  given = given_as cells other (mass_of old) (mass_of old) p q same (λ c i on. refl) h.given;
  there = λ c i on. h.there c i (sym (same c i) ∙ on);
}

-- a span of a patch that was given the masses of one old patch, which reaches as far
pub kept_span : (ps : List Patch) (i : ℕ) (o p q : Patch) (c : Cell) (n : ℕ) → ArePatchesApart ps → i < length ps → o ≡ slice_index_or ps i o → holds (box o) c ≡ true → (c.x +ℤ pos n) ≤ℤ ((box o).hi.x +ℤ pos 1)
    → IsGiven (holds (span c n)) (mass_in o) p q → HasOldMasses (masses_in ps) (holds (span c n)) p q
kept_span ps i o p q c n apart lt at h room given = record {
  given = given_as (holds (span c n)) (holds (span c n)) (mass_in o) (mass_of (masses_in ps)) p q (λ d k. refl) (λ d k on. mass_there ps i o d apart lt at (span_inside (box o) c n d h room on)) given;
  there = λ d k on. some_mass ps d ∙ list_any_at (λ (r : Patch). holds (box r) d) ps i o lt (sym (ap (λ (r : Patch). holds (box r) d) at) ∙ span_inside (box o) c n d h room on);
}
