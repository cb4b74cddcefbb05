-- Two sets of rows together.
use Rattle.std.proofs.Common.{◌≡◌, ℕ, ◌+◌, ◌*◌, ◌/◌, ◌%◌, ◌<◌, ◌≤◌, ◌≢◌, Bool, true, false, ◌&&◌, ◌||◌, refl, sym, ap, ◌∙◌, arith, List, length, set, get_or}
use Rattle.std.proofs.Math.Bool.{and-or_distrib_left}
use Rattle.std.specs.Prelude.{bit_or, nat_lt}
use Rattle.std.proofs.lemmas.Bool.Decides.{nat_tests}
use Rattle.std.proofs.lemmas.List.{get_or-set_same, get_or-set_other}
use Rattle.amr_box.specs.declared.Cell.{Cell}
use Rattle.amr_box.specs.Cells.{Extent, holds, width}
use Rattle.amr_tags.specs.Bits.{AreRows, bit, bit_of, words_for}
use Rattle.amr_tags.specs.TagSets.{column_in, row_in}
use Rattle.amr_tags.proofs.Shifts.{or-bit}

pub joined-bit : (p : ℕ) (words other new : List ℕ) (i j : ℕ) → ((k : ℕ) → get_or new k 0 ≡ bit_or (get_or words k 0) (get_or other k 0)) → bit_of p new i j ≡ (bit_of p words i j || bit_of p other i j)
joined-bit p words other new i j each = ap (λ (w : ℕ). bit w (i % 64)) (each (j * p + i / 64)) ∙ or-bit (get_or words (j * p + i / 64) 0) (get_or other (j * p + i / 64) 0) (i % 64)

pub joined-rows : (w h : ℕ) (words other new : List ℕ) → AreRows w h words → AreRows w h other → length new ≡ length words → ((k : ℕ) → get_or new k 0 ≡ bit_or (get_or words k 0) (get_or other k 0)) → AreRows w h new
joined-rows w h words other new rows rows' count each = record {
  count = count ∙ rows.count;
  unused = λ i j past below there. joined-bit (words_for w) words other new i j each ∙ (λ k. rows.unused i j past below there k || rows'.unused i j past below there k);
}

pub joined-cells : (b : Extent) (words other new : List ℕ) → ((k : ℕ) → get_or new k 0 ≡ bit_or (get_or words k 0) (get_or other k 0)) → (c : Cell) → (holds b c && bit_of (words_for (width b)) new (column_in b c) (row_in b c)) ≡ ((holds b c && bit_of (words_for (width b)) words (column_in b c) (row_in b c)) || (holds b c && bit_of (words_for (width b)) other (column_in b c) (row_in b c)))
joined-cells b words other new each c =
    ap (λ (t : Bool). holds b c && t) (joined-bit (words_for (width b)) words other new (column_in b c) (row_in b c) each)
    ∙ and-or_distrib_left (holds b c) (bit_of (words_for (width b)) words (column_in b c) (row_in b c)) (bit_of (words_for (width b)) other (column_in b c) (row_in b c))

-- one word more
pub next-word : (words other now : List ℕ) (k : ℕ) → k < length now → ((i : ℕ) → i < k → get_or now i 0 ≡ bit_or (get_or words i 0) (get_or other i 0)) → (i : ℕ) → i < k + 1 → (v : ℕ) → v ≡ bit_or (get_or words k 0) (get_or other k 0) → get_or (set now k v) i 0 ≡ bit_or (get_or words i 0) (get_or other i 0)
next-word words other now k within done i h v is = split (nat_lt i k) refl
  where
    split : (t : Bool) → nat_lt i k ≡ t → get_or (set now k v) i 0 ≡ bit_or (get_or words i 0) (get_or other i 0)
    split true e =
        let less : i < k = grind (arith, nat_tests) in
        get_or-set_other now k i v 0 (differ i k less) ∙ done i less
      where
        differ : (i k : ℕ) → i < k → i ≢ k
        differ i k h e = omega (arith, h, e)
    split false e =
        let past : k ≤ i = grind (arith, nat_tests) in
        let same : i ≡ k = omega (arith, h, past) in
        ap (λ (m : ℕ). get_or (set now k v) m 0) same ∙ get_or-set_same now k v 0 within ∙ is ∙ ap (λ (m : ℕ). bit_or (get_or words m 0) (get_or other m 0)) (sym same)
