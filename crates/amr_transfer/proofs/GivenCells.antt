-- Cells of a patch that are given masses: none, those of a span, those of one set after another.
use Rattle.std.proofs.Common.{◌≡◌, ◌∙◌, ℕ, ◌+◌, ◌-◌, ◌<◌, Bool, true, false, ◌||◌, pos, ◌+ℤ◌, ◌≤ℤ◌, ◌≤◌, List, ◌++◌, length, take, drop, IsTrue, refl, sym, ap, subst, arith}
use Rattle.std.specs.Prelude.{slice_index}
use Rattle.std.proofs.lemmas.List.{get_or-drop, get_or-take, get_or_append_left, length-append, length-drop, length-take, length-take-le, take-append-le, take_all}
use Rattle.std.proofs.lemmas.Bool.{and_right, both_ways, not_from_true, or_from, or_parts}
use Rattle.amr_box.specs.declared.Cell.{Cell}
use Rattle.amr_box.specs.Cells.{Extent, cell, holds}
use Rattle.amr_patch.specs.declared.patches.Patch.{Patch}
use Rattle.amr_patch.specs.Places.{grown, in_frame}
use Rattle.amr_patch.specs.Patches.{SameBeside, SameFluxes, SameMarks, box, mass_in}
use Rattle.amr_patch.proofs.Entries.{in_grown, in_the_frame}
use Rattle.amr_patch.proofs.LevelLaws.{itself}
use Rattle.amr_patch.proofs.Keeping.{kept_twice}
use Rattle.amr_transfer.specs.Given.{IsGiven, span}
use Rattle.amr_transfer.proofs.RowSpans.{in_span, off_span, span_inside}

-- ---- what stays

-- a cell of the box is one of the box after it
pub still_held : (p q : Patch) (c : Cell) → box q ≡ box p → IsTrue (holds (box p) c) → IsTrue (holds (box q) c)
still_held p q c e h = subst (λ (b : Extent). IsTrue (holds b c)) (sym e) h

-- ---- sets of cells

-- none of the patch's cells is of the set
pub given_none : (cells : Cell → Bool) (mass : Cell → ℕ) (p : Patch) → ((c : Cell) → IsTrue (holds (box p) c) → cells c ≡ false) → IsGiven cells mass p p
given_none cells mass p none = record {
  kept = itself p;
  given = λ c h on. absurd (both_ways (cells c) (none c h) on);
  others = λ c h off. refl;
}

-- one set after another
pub given_more : (some more all : Cell → Bool) (mass : Cell → ℕ) (p q r : Patch) → IsGiven some mass p q → IsGiven more mass q r → ((c : Cell) → all c ≡ (some c || more c)) → IsGiven all mass p r
given_more some more all mass p q r h k join = record {
  kept = kept_twice p q r h.kept k.kept;
  given = λ c i on. cases c i (some c) (more c) refl refl (sym (join c) ∙ on);
  others = λ c i off. let none = or_parts (some c) (more c) (sym (join c) ∙ off) in k.others c (still_held p q c h.kept.of_box i) none.1 ∙ h.others c i none.0;
}
  where
    cases : (c : Cell) → IsTrue (holds (box p) c) → (s t : Bool) → some c ≡ s → more c ≡ t → (some c || more c) ≡ true → mass_in r c ≡ mass c
    cases c i s true e f on = k.given c (still_held p q c h.kept.of_box i) f
    cases c i true false e f on = k.others c (still_held p q c h.kept.of_box i) f ∙ h.given c i e
    cases c i false false e f on = absurd (both_ways (some c || more c) (or_from (some c) (more c) e f) on)

-- the same set and the same masses, where the patch has cells
pub given_as : (cells other : Cell → Bool) (mass value : Cell → ℕ) (p q : Patch) → ((c : Cell) → IsTrue (holds (box p) c) → other c ≡ cells c) → ((c : Cell) → IsTrue (holds (box p) c) → IsTrue (cells c) → mass c ≡ value c) → IsGiven cells mass p q → IsGiven other value p q
given_as cells other mass value p q same is h = record {
  kept = h.kept;
  given = λ c i on. let there : cells c ≡ true = sym (same c i) ∙ on in h.given c i there ∙ is c i there;
  others = λ c i off. h.others c i (sym (same c i) ∙ off);
}

-- ---- a span

pub given_span : (mass : Cell → ℕ) (p q : Patch) (c : Cell) (ms : List ℕ) → holds (box p) c ≡ true → (c.x +ℤ pos (length ms)) ≤ℤ ((box p).hi.x +ℤ pos 1)
    → ((k : ℕ) → k < length ms → mass_in q (cell (c.x +ℤ pos k) c.y) ≡ slice_index ms k) → SameBeside c (length ms) p q → SameMarks p q → SameFluxes p q → box q ≡ box p
    → ((k : ℕ) → k < length ms → slice_index ms k ≡ mass (cell (c.x +ℤ pos k) c.y)) → IsGiven (holds (span c (length ms))) mass p q
given_span mass p q c ms h room set beside marks fluxes of_box is = record {
  kept = record {
    of_box = of_box;
    ghosts = λ d t. beside d (in_the_frame (box p) d t) (λ k lt e. framed d t (span_inside (box p) c (length ms) d h room (on k d lt e)));
    marks = marks;
    fluxes = fluxes;
  };
  given = λ d i there. let at = in_span c (length ms) d there in ap (mass_in q) at.is ∙ set at.place at.below ∙ is at.place at.below ∙ ap mass (sym at.is);
  others = λ d i off. beside d (in_grown (box p) d i) (λ k lt e. off_span c (length ms) k d off lt e);
}
  where
    on : (k : ℕ) (d : Cell) → k < length ms → d ≡ cell (c.x +ℤ pos k) c.y → holds (span c (length ms)) d ≡ true
    on k d lt e = cases (holds (span c (length ms)) d) refl
      where
        cases : (t : Bool) → holds (span c (length ms)) d ≡ t → t ≡ true
        cases true f = refl
        cases false f = absurd (off_span c (length ms) k d f lt e)

    framed : (d : Cell) → in_frame (box p) d ≡ true → holds (box p) d ≡ true → ⊥
    framed d t i = both_ways (in_frame (box p) d) (and_right (holds (grown (box p)) d) _ (not_from_true (holds (box p) d) i)) t

-- the part of the room that was written is what was written
pub written : (n : ℕ) (room row : List ℕ) → n ≤ length room → length row ≡ length (take n room) → take n (row ++ drop n room) ≡ row
written n room row le same =
    let whole : length row ≡ n = same ∙ length-take-le n room le in
    take-append-le n row (drop n room) (omega (arith, whole)) ∙ take_all n row (omega (arith, whole))

-- a part of the room that was written, from a place on
pub written_count : (f n : ℕ) (row rest : List ℕ) → f + n ≤ length row → length (take (f + n - f) (drop f (row ++ rest))) ≡ n
written_count f n row rest le = length-take (f + n - f) (drop f (row ++ rest)) ∙ omega (arith, length-drop f (row ++ rest), length-append row rest)

pub written_at : (f n : ℕ) (row rest : List ℕ) (k : ℕ) → f + n ≤ length row → k < n → slice_index (take (f + n - f) (drop f (row ++ rest))) k ≡ slice_index row (f + k)
written_at f n row rest k le lt = get_or-take (f + n - f) (drop f (row ++ rest)) k 0 (omega arith) ∙ get_or-drop f (row ++ rest) k 0 ∙ get_or_append_left row rest 0 (f + k) (omega arith)
