-- Cells that are tagged after others and add none to them: told by two counts.
use Rattle.std.proofs.Common.{◌≡◌, ℕ, ◌+◌, ◌≤◌, Bool, true, false, ◌&&◌, ◌||◌, not, cond, ◌↔◌, List, [], ◌∷◌, ◌⊎◌, inl, inr, refl, sym, ap, ◌∙◌, arith, eq-eqb}
use Rattle.std.specs.Prelude.{nat_eq, IsTrue}
use Rattle.std.specs.List.{count_by, list_any}
use Rattle.std.proofs.lemmas.Bool.{and_from, and_parts, both_ways, eqb-true, or_cases, or_left, or_right}
use Rattle.std.proofs.lemmas.List.Sums.{sum_by-cons}
use Rattle.amr_box.specs.declared.Cell.{Cell}
use Rattle.amr_box.proofs.Tests.{same_test}
use Rattle.amr_box.specs.Cells.{Extent, cells_of, holds, in_boxes}
use Rattle.amr_box.proofs.CellLists.{any_in_box}
use Rattle.amr_def.specs.Domain.{Domain, domain_box, in_domain, is_near}
use Rattle.amr_def.specs.State.{is_covered_by}
use Rattle.amr_def.proofs.Uncovered.{domain_box_cells}

-- ---- a test and a wider one

one_wider : (s t : Bool) → (s ≡ true → t ≡ true) → cond s 1 0 ≤ cond t 1 0
one_wider true true h = omega arith
one_wider true false h = absurd (clash (h refl))
  where
    clash : false ≡ true → ⊥
    clash e = cc
one_wider false t h = omega arith

fewer : {A : Type 0} (f g : A → Bool) (xs : List A) → ((x : A) → f x ≡ true → g x ≡ true) → count_by f xs ≤ count_by g xs
fewer f g [] wider = omega arith
fewer f g (x ∷ xs) wider =
    omega (arith, sum_by-cons (λ x. cond (f x) 1 0) x xs, sum_by-cons (λ x. cond (g x) 1 0) x xs, one_wider (f x) (g x) (wider x), fewer f g xs wider)

-- where as many pass the wider one, no further element does
none_further : {A : Type 0} (f g : A → Bool) (xs : List A) → ((x : A) → f x ≡ true → g x ≡ true) → count_by f xs ≡ count_by g xs → list_any (λ x. g x && not (f x)) xs ≡ false
none_further f g [] wider same = refl
none_further f g (x ∷ xs) wider same =
    step (f x) (g x) (wider x) (sym (sum_by-cons (λ x. cond (f x) 1 0) x xs) ∙ same ∙ sum_by-cons (λ x. cond (g x) 1 0) x xs) (fewer f g xs wider) (none_further f g xs wider)
  where
    step : (s t : Bool) → (s ≡ true → t ≡ true) → cond s 1 0 + count_by f xs ≡ cond t 1 0 + count_by g xs → count_by f xs ≤ count_by g xs → (count_by f xs ≡ count_by g xs → list_any (λ x. g x && not (f x)) xs ≡ false) → ((t && not s) || list_any (λ x. g x && not (f x)) xs) ≡ false
    step true true wider here less more = more (omega arith)
    step true false wider here less more = absurd (clash (wider refl))
      where
        clash : false ≡ true → ⊥
        clash e = cc
    step false true wider here less more = absurd (omega arith)
    step false false wider here less more = more (omega arith)

had : (f g : Cell → Bool) (b : Extent) → ((c : Cell) → f c ≡ true → g c ≡ true) → count_by f (cells_of b) ≡ count_by g (cells_of b) → (c : Cell) → holds b c ≡ true → g c ≡ true → f c ≡ true
had f g b wider same c held passes = choose (f c) refl
  where
    choose : (t : Bool) → f c ≡ t → f c ≡ true
    choose true e = e
    choose false e = absurd (both_ways (list_any (λ x. g x && not (f x)) (cells_of b)) (none_further f g (cells_of b) wider same) (any_in_box (λ x. g x && not (f x)) b c held (and_from (g c) (not (f c)) passes (ap not e))))

-- ---- boxes of a level, and the cells around finer ones

-- the cells of the coarse boxes were tagged, m of them, and then those around the fine ones, together n
module _ (d : Domain) (before after : Cell → Bool) (fine coarse : List Extent) (b : Extent) (whole : b ≡ domain_box d)
    (first : (c : Cell) → before c ≡ (holds (domain_box d) c && in_boxes coarse c))
    (then : (c : Cell) → after c ≡ (before c || (holds (domain_box d) c && is_near d 1 (is_covered_by fine) c)))
    (m n : ℕ) (m_is : m ≡ count_by (λ c. holds b c && before c) (cells_of b)) (n_is : n ≡ count_by (λ c. holds b c && after c) (cells_of b)) where
  wider : (c : Cell) → (holds b c && before c) ≡ true → (holds b c && after c) ≡ true
  wider c h =
      let k = and_parts (holds b c) (before c) h in
      and_from (holds b c) (after c) k.0 (then c ∙ or_left (before c) (holds (domain_box d) c && is_near d 1 (is_covered_by fine) c) k.1)

  none_added : n ≡ m → (c : Cell) → in_domain d c ≡ true → is_near d 1 (is_covered_by fine) c ≡ true → in_boxes coarse c ≡ true
  none_added same c inside near =
      let here : holds (domain_box d) c ≡ true = domain_box_cells d c ∙ inside in
      let held : holds b c ≡ true = ap (λ (e : Extent). holds e c) whole ∙ here in
      let later : after c ≡ true = then c ∙ or_right (before c) (holds (domain_box d) c && is_near d 1 (is_covered_by fine) c) (and_from (holds (domain_box d) c) (is_near d 1 (is_covered_by fine) c) here near) in
      let both = had (λ c. holds b c && before c) (λ c. holds b c && after c) b wider (sym m_is ∙ sym same ∙ n_is) c held (and_from (holds b c) (after c) held later) in
      (and_parts (holds (domain_box d) c) (in_boxes coarse c) (sym (first c) ∙ (and_parts (holds b c) (before c) both).1)).1

  earlier : ((c : Cell) → in_domain d c ≡ true → is_near d 1 (is_covered_by fine) c ≡ true → in_boxes coarse c ≡ true) → (c : Cell) → after c ≡ true → before c ≡ true
  earlier all c h = choose (or_cases (before c) (holds (domain_box d) c && is_near d 1 (is_covered_by fine) c) (sym (then c) ∙ h))
    where
      choose : (before c ≡ true) ⊎ ((holds (domain_box d) c && is_near d 1 (is_covered_by fine) c) ≡ true) → before c ≡ true
      choose (inl k) = k
      choose (inr k) =
          let t = and_parts (holds (domain_box d) c) (is_near d 1 (is_covered_by fine) c) k in
          first c ∙ and_from (holds (domain_box d) c) (in_boxes coarse c) t.0 (all c (sym (domain_box_cells d c) ∙ t.0) t.1)

  same_count : ((c : Cell) → in_domain d c ≡ true → is_near d 1 (is_covered_by fine) c ≡ true → in_boxes coarse c ≡ true) → n ≡ m
  same_count all =
      let same : (λ (c : Cell). holds b c && after c) ≡ (λ (c : Cell). holds b c && before c) = λ i c.
      same_test (holds b c && after c) (holds b c && before c) (λ h. let k = and_parts (holds b c) (after c) h in and_from (holds b c) (before c) k.0 (earlier all c k.1)) (wider c) i in
      n_is ∙ ap (λ (test : Cell → Bool). count_by test (cells_of b)) same ∙ sym m_is

  pub surrounded_by_counts : IsTrue (nat_eq n m) ↔ ((c : Cell) → IsTrue (in_domain d c) → IsTrue (is_near d 1 (is_covered_by fine) c) → IsTrue (in_boxes coarse c))
  surrounded_by_counts = (λ h. none_added (eqb-true n m h), λ all. eq-eqb n m (same_count all))
