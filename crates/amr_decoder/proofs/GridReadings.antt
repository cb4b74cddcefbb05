-- Boxes with their masses, read one after another.
use Rattle.std.proofs.Common.{◌≡◌, ℕ, zero, suc, ◌+◌, ◌-◌, ◌<◌, Bool, true, false, ◌&&◌, ◌||◌, not, List, [], ◌∷◌, refl, sym, ap, ◌∙◌, arith}
use Rattle.std.proofs.Math.Bool.{or-false, or_comm}
use Rattle.std.specs.Prelude.{nat_lt, reverse}
use Rattle.std.specs.List.{list_any}
use Rattle.std.proofs.lemmas.Bool.Decides.{nat_tests}
use Rattle.std.proofs.lemmas.List.{reverse-append}
use Rattle.std.proofs.lemmas.List.Folds.{list_any-append}
use Rattle.std.proofs.lemmas.Bool.{and_right, not_from_true}
use Rattle.amr_box.specs.Cells.{Extent}
use Rattle.amr_def.specs.declared.problem.Problem.{Problem}
use Rattle.amr_payload.specs.Payload.{Form}
use Rattle.amr_payload.specs.Tests.{Left, Grid, read, then_read, read_also, is_box_of, meets, read_grid, read_grids}
use Rattle.amr_decoder.specs.declared.faults.CodecFault.{CodecFault}
use Rattle.amr_decoder.specs.Faults.{IsFaultOf}
use Rattle.amr_decoder.proofs.BoxTests.{base_with, fine_with}
use Rattle.amr_decoder.proofs.Lists.{one_left}
use Rattle.amr_decoder.proofs.Readings.{fault_first, fault_same}

pub any-reverse : {A : Type 0} (test : A → Bool) (xs : List A) → list_any test xs ≡ list_any test (reverse xs)
any-reverse test [] = refl
any-reverse test (x ∷ xs) =
    or_comm (test x) (list_any test xs)
    ∙ ap (λ t. t || test x) (any-reverse test xs)
    ∙ ap (λ t. list_any test (reverse xs) || t) (sym (or-false (test x)))
    ∙ sym (list_any-append test (reverse xs) (x ∷ []))
    ∙ ap (list_any test) (sym (reverse-append (x ∷ []) xs))

-- ---- the tests on a box

pub unfit : (p : Problem) (l : ℕ) (earlier : List Extent) (b : Extent) → is_box_of p l [] b ≡ false → is_box_of p l earlier b ≡ false
unfit p zero earlier b h = base_with p zero earlier b refl ∙ h
unfit p (suc l) earlier b h = fine_with p (suc l) earlier b (λ e. absurd (cc)) ∙ ap (λ t. t && not (list_any (meets b) earlier)) h

pub in_the_way : (p : Problem) (l : ℕ) (earlier : List Extent) (b : Extent) → (nat_lt 0 l && list_any (meets b) earlier) ≡ true → is_box_of p l earlier b ≡ false
in_the_way p zero earlier b h = absurd (cc)
in_the_way p (suc l) earlier b h = fine_with p (suc l) earlier b (λ e. absurd (cc)) ∙ and_right (is_box_of p (suc l) [] b) _ (not_from_true (list_any (meets b) earlier) (positive l h))
  where
    positive : (l : ℕ) → (nat_lt 0 (suc l) && list_any (meets b) earlier) ≡ true → list_any (meets b) earlier ≡ true
    positive l h = grind (arith, nat_tests)

pub clear : (p : Problem) (l : ℕ) (earlier : List Extent) (b : Extent) → is_box_of p l [] b ≡ true → (nat_lt 0 l && list_any (meets b) earlier) ≡ false → is_box_of p l earlier b ≡ true
clear p zero earlier b fit h = base_with p zero earlier b refl ∙ fit
clear p (suc l) earlier b fit h = fine_with p (suc l) earlier b (λ e. absurd (cc)) ∙ (λ i. fit i && not (positive l h i))
  where
    positive : (l : ℕ) → (nat_lt 0 (suc l) && list_any (meets b) earlier) ≡ false → list_any (meets b) earlier ≡ false
    positive l h = grind (arith, nat_tests)

-- ---- one box after another

module _ (f : Form) (p : Problem) (n l : ℕ) where
  pub grid_next : (count k : ℕ) (earlier : List Extent) (g : Grid) (r e : Left) → k < count → read_grid f p n l earlier r ≡ read g e
      → read_grids f p n l (count - k) earlier r ≡ read_also g (read_grids f p n l (count - (k + 1)) (g.box ∷ earlier) e)
  grid_next count k earlier g r e inside first =
      ap (λ j. read_grids f p n l j earlier r) (one_left count k inside)
      ∙ ap (λ q. then_read q (λ g a. read_also g (read_grids f p n l (count - (k + 1)) (g.box ∷ earlier) a))) first

  pub grid_bad : (count k : ℕ) (earlier : List Extent) (r : Left) (e : CodecFault) → k < count → IsFaultOf (read_grid f p n l earlier r) e → IsFaultOf (read_grids f p n l (count - k) earlier r) e
  grid_bad count k earlier r e inside h =
      fault_same (read_grids f p n l (count - k) earlier r) (read_grids f p n l (suc (count - (k + 1))) earlier r) e (ap (λ j. read_grids f p n l j earlier r) (one_left count k inside))
      (fault_first (read_grid f p n l earlier r) (λ g a. read_also g (read_grids f p n l (count - (k + 1)) (g.box ∷ earlier) a)) e h)

  pub grids_end : (count k : ℕ) (earlier : List Extent) (r : Left) → count - k ≡ 0 → read_grids f p n l (count - k) earlier r ≡ read [] r
  grids_end count k earlier r none = ap (λ j. read_grids f p n l j earlier r) none

  pub no_grid_yet : (count : ℕ) (r : Left) → read_grids f p n l count [] r ≡ read_grids f p n l (count - 0) [] r
  no_grid_yet count r = let same : count ≡ count - 0 = omega arith in ap (λ j. read_grids f p n l j [] r) same
