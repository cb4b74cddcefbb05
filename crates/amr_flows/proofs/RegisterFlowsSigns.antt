-- What the flow through a face adds to the gain of a register cell, less what it adds to its loss.
use Rattle.std.proofs.Common.{◌≡◌, ◌∙◌, ℕ, zero, suc, ◌+◌, ◌*◌, ◌/◌, ◌<◌, ◌⊎◌, inl, inr, Bool, true, false, ◌&&◌, cond, ℤ, pos, negsuc, ◌-ℤ◌, neg_ℤ, List, length, refl, sym, ap, arith}
use Rattle.std.specs.Prelude.{◌==◌, if◌then◌else◌, not, int_lt, slice_index_or, unsigned_abs}
use Rattle.std.specs.Ordering.{int_eq}
use Rattle.std.specs.List.{AllPairs}
use Rattle.std.specs.declared.cmp.Ordering.TheVariants.{Less}
use Rattle.std.proofs.lemmas.Int.{ints}
use Rattle.std.proofs.lemmas.Bool.{cases_eq, eq-eqb, false_from_ne_true, ne_eqb}
use Rattle.std.proofs.lemmas.List.Kept.{IsStrictlySortedBy-filter}
use Rattle.std.proofs.lemmas.List.Sums.{passes_at_first, position_or_len_is}
use Rattle.std.proofs.Math.Nat.{zero-div}
use Rattle.amr_box.specs.declared.Cell.{Cell}
use Rattle.amr_box.specs.Cells.{cells_of, is_same_cell}
use Rattle.amr_box.proofs.CellEquality.{coordinates_same, same_number}
use Rattle.amr_def.specs.declared.problem.Problem.{Problem}
use Rattle.amr_def.specs.Domain.{domain, domain_box}
use Rattle.amr_def.specs.State.{Masses}
use Rattle.amr_def.specs.Flux.{flow}
use Rattle.amr_layout.specs.Adds.{number_of}
use Rattle.amr_register.specs.RegisterCells.{is_register_cell, register_cells}
use Rattle.amr_register.specs.Entries.{row_cmp}
use Rattle.amr_register.proofs.RowOrder.{cells_sorted, rising, row_cmp-itself}

-- ---- words

-- what is added to the word of a gain, less what is added to the word of its loss
abbrev pub apart_by_words : ℕ → ℕ → ℕ → ℤ
apart_by_words k word a = pos (if word == 2 + 2 * k then a else 0) -ℤ pos (if word == 3 + 2 * k then a else 0)

tests_apart : (s t u v : Bool) (a : ℕ) → s ≡ u → t ≡ v → pos (if s then a else 0) -ℤ pos (if t then a else 0) ≡ pos (if u then a else 0) -ℤ pos (if v then a else 0)
tests_apart s t u v a e f i = pos (if e i then a else 0) -ℤ pos (if f i then a else 0)

pub gain_word : (n k a : ℕ) → apart_by_words k (2 + 2 * n) a ≡ cond (n == k) (pos a) (pos 0)
gain_word n k a = cases (cases_eq n k)
  where
    cases : (n ≡ k) ⊎ (n ≡ k → ⊥) → apart_by_words k (2 + 2 * n) a ≡ cond (n == k) (pos a) (pos 0)
    cases (inl e) =
        let here : pos a -ℤ pos 0 ≡ pos a = omega (arith, ints) in
        tests_apart _ _ true false a (eq-eqb (2 + 2 * n) (2 + 2 * k) (omega arith)) (ne_eqb (2 + 2 * n) (3 + 2 * k) (λ h. omega arith)) ∙ here ∙ sym (ap (λ (t : Bool). cond t (pos a) (pos 0)) (eq-eqb n k e))
    cases (inr e) =
        tests_apart _ _ false false a (ne_eqb (2 + 2 * n) (2 + 2 * k) (λ h. e (omega arith))) (ne_eqb (2 + 2 * n) (3 + 2 * k) (λ h. omega arith)) ∙ sym (ap (λ (t : Bool). cond t (pos a) (pos 0)) (ne_eqb n k e))

pub loss_word : (n k a : ℕ) → apart_by_words k (3 + 2 * n) a ≡ cond (n == k) (neg_ℤ (pos a)) (pos 0)
loss_word n k a = cases (cases_eq n k)
  where
    cases : (n ≡ k) ⊎ (n ≡ k → ⊥) → apart_by_words k (3 + 2 * n) a ≡ cond (n == k) (neg_ℤ (pos a)) (pos 0)
    cases (inl e) =
        let here : pos 0 -ℤ pos a ≡ neg_ℤ (pos a) = omega (arith, ints) in
        tests_apart _ _ false true a (ne_eqb (3 + 2 * n) (2 + 2 * k) (λ h. omega arith)) (eq-eqb (3 + 2 * n) (3 + 2 * k) (omega arith)) ∙ here ∙ sym (ap (λ (t : Bool). cond t (neg_ℤ (pos a)) (pos 0)) (eq-eqb n k e))
    cases (inr e) =
        tests_apart _ _ false false a (ne_eqb (3 + 2 * n) (2 + 2 * k) (λ h. omega arith)) (ne_eqb (3 + 2 * n) (3 + 2 * k) (λ h. e (omega arith))) ∙ sym (ap (λ (t : Bool). cond t (neg_ℤ (pos a)) (pos 0)) (ne_eqb n k e))

-- the words of the ledger are no words of a register cell
pub other_word : (k w a : ℕ) → w < 2 → apart_by_words k w a ≡ pos 0
other_word k w a h = tests_apart _ _ false false a (ne_eqb w (2 + 2 * k) (λ e. omega arith)) (ne_eqb w (3 + 2 * k) (λ e. omega arith))

-- ---- signs

nothing_flows : (low d : ℕ) → 0 * low / d ≡ 0
nothing_flows low d = ap (λ n. n / d) (let e : 0 * low ≡ 0 = omega arith in e) ∙ zero-div d

turned : (m : ℕ) → pos (unsigned_abs (neg_ℤ (pos m))) ≡ neg_ℤ (neg_ℤ (pos m))
turned zero = refl
turned (suc m) = refl

turned_back : (m : ℕ) → neg_ℤ (pos (unsigned_abs (neg_ℤ (pos m)))) ≡ neg_ℤ (pos m)
turned_back zero = refl
turned_back (suc m) = refl

-- the Courant number of a face, above 0 where mass flows into the box, and what flows out of it: s tells that the box is at
-- the face's high side
abbrev pub inward_of : Bool → ℤ → ℤ
inward_of s z = cond s z (neg_ℤ z)

abbrev pub outward_of : Bool → ℤ → ℤ
outward_of s e = cond s (neg_ℤ e) e

-- by the sign of the Courant number
abbrev pub by_sign : ℤ → ℕ → ℤ
by_sign i a = cond (not (int_eq i (pos 0))) (cond (int_lt i (pos 0)) (pos a) (neg_ℤ (pos a))) (pos 0)

above_zero : (n a : ℕ) → by_sign (pos (suc n)) a ≡ neg_ℤ (pos a)
above_zero n a =
    let other : int_eq (pos (suc n)) (pos 0) ≡ false = false_from_ne_true (int_eq (pos (suc n)) (pos 0)) (λ h. let e : pos (suc n) ≡ pos 0 = same_number (pos (suc n)) (pos 0) h in omega (arith, ints, e)) in
    let greater : int_lt (pos (suc n)) (pos 0) ≡ false = grind (arith, ints) in
    (λ i. cond (not (other i)) (cond (greater i) (pos a) (neg_ℤ (pos a))) (pos 0))

-- a flux has the sign of its Courant number
pub signed : (s : Bool) (z : ℤ) (d low high : ℕ) → by_sign (inward_of s z) (unsigned_abs (flow z d low high)) ≡ outward_of s (flow z d low high)
signed true (pos zero) d low high = sym (ap (λ n. neg_ℤ (pos n)) (nothing_flows low d))
signed true (pos (suc n)) d low high = above_zero n (suc n * low / d)
signed true (negsuc n) d low high = turned (suc n * high / d)
signed false (pos zero) d low high = sym (ap pos (nothing_flows low d))
signed false (pos (suc n)) d low high = refl
signed false (negsuc n) d low high = above_zero n (unsigned_abs (neg_ℤ (pos (suc n * high / d)))) ∙ turned_back (suc n * high / d)

-- a face beyond which cell n lies
pub part_of_face : (edge s : Bool) (z : ℤ) (d low high n k : ℕ)
    → cond (edge && not (int_eq (inward_of s z) (pos 0))) (apart_by_words k (cond (int_lt (inward_of s z) (pos 0)) (2 + 2 * n) (3 + 2 * n)) (unsigned_abs (flow z d low high))) (pos 0)
    ≡ cond (edge && (n == k)) (outward_of s (flow z d low high)) (pos 0)
part_of_face false s z d low high n k = refl
part_of_face true s z d low high n k = by_word (unsigned_abs (flow z d low high)) (int_lt (inward_of s z) (pos 0)) refl ∙ ap (λ (v : ℤ). cond (n == k) v (pos 0)) (signed s z d low high)
  where
    exchanged : (x v : Bool) (w y : ℤ) → w ≡ cond v y (pos 0) → cond x w (pos 0) ≡ cond v (cond x y (pos 0)) (pos 0)
    exchanged true v w y e = e
    exchanged false true w y e = refl
    exchanged false false w y e = refl

    by_word : (a : ℕ) (t : Bool) → int_lt (inward_of s z) (pos 0) ≡ t
        → cond (not (int_eq (inward_of s z) (pos 0))) (apart_by_words k (cond (int_lt (inward_of s z) (pos 0)) (2 + 2 * n) (3 + 2 * n)) a) (pos 0)
        ≡ cond (n == k) (by_sign (inward_of s z) a) (pos 0)
    by_word a true e =
        exchanged (not (int_eq (inward_of s z) (pos 0))) (n == k) (apart_by_words k (cond (int_lt (inward_of s z) (pos 0)) (2 + 2 * n) (3 + 2 * n)) a) (cond (int_lt (inward_of s z) (pos 0)) (pos a) (neg_ℤ (pos a)))
        (ap (λ (t : Bool). apart_by_words k (cond t (2 + 2 * n) (3 + 2 * n)) a) e ∙ gain_word n k a ∙ sym (ap (λ (t : Bool). cond (n == k) (cond t (pos a) (neg_ℤ (pos a))) (pos 0)) e))
    by_word a false e =
        exchanged (not (int_eq (inward_of s z) (pos 0))) (n == k) (apart_by_words k (cond (int_lt (inward_of s z) (pos 0)) (2 + 2 * n) (3 + 2 * n)) a) (cond (int_lt (inward_of s z) (pos 0)) (pos a) (neg_ℤ (pos a)))
        (ap (λ (t : Bool). apart_by_words k (cond t (2 + 2 * n) (3 + 2 * n)) a) e ∙ loss_word n k a ∙ sym (ap (λ (t : Bool). cond (n == k) (cond t (pos a) (neg_ℤ (pos a))) (pos 0)) e))

-- ---- numbers of cells

-- in order, so each once
pub register_cells_rise : (p : Problem) (l : ℕ) (m fine : Masses) → AllPairs (λ a b. row_cmp a b ≡ Less) (register_cells p l m fine)
register_cells_rise p l m fine = rising (register_cells p l m fine) (IsStrictlySortedBy-filter row_cmp (is_register_cell (domain p l) m fine) (cells_of (domain_box (domain p l))) (cells_sorted (domain_box (domain p l))))

-- a cell has number k where it is cell k, also if it isn't in the list
pub has_number : (cells : List Cell) (k : ℕ) (q d : Cell) → AllPairs (λ a b. row_cmp a b ≡ Less) cells → k < length cells → (number_of cells q == k) ≡ is_same_cell q (slice_index_or cells k d)
unfolding number_of
has_number cells k q d rises within = by_test (is_same_cell q (slice_index_or cells k d)) refl
  where
    by_test : (t : Bool) → is_same_cell q (slice_index_or cells k d) ≡ t → (number_of cells q == k) ≡ t
    by_test true e =
        let is : q ≡ slice_index_or cells k d = coordinates_same q (slice_index_or cells k d) e in
        eq-eqb (number_of cells q) k
        (position_or_len_is (is_same_cell q) cells k d (omega arith)
        (λ j lt. false_from_ne_true (is_same_cell q (slice_index_or cells j d)) (λ h. row_cmp-itself (slice_index_or cells j d) (slice_index_or cells k d) (sym (coordinates_same q (slice_index_or cells j d) h) ∙ is) (rises j k d lt within)))
        (λ lt. e))
    by_test false e =
        ne_eqb (number_of cells q) k
        (λ h. clash (sym (passes_at_first (is_same_cell q) cells d (omega (arith, h, within))) ∙ ap (λ (n : ℕ). is_same_cell q (slice_index_or cells n d)) h ∙ e))
      where
        clash : true ≡ false → ⊥
        clash f = cc
