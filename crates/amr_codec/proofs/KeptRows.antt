-- Rows that are compared with those of an older state, span by span.
use Rattle.std.proofs.Common.{◌≡◌, ℕ, zero, suc, ◌+◌, ◌<◌, ◌≤◌, Bool, true, false, List, [], ◌∷◌, ◌++◌, ◌-◌, ◌⊎◌, inl, inr, length, take, drop, map, get_or, get_or-take, get_or-drop, length-take-le, is_some, pos, ◌+ℤ◌, refl, sym, ap, subst, ◌∙◌, arith, flat_map, if◌then◌else◌}
use Rattle.std.specs.Prelude.{slice_index}
use Rattle.std.specs.Int.{w8, w32}
use Rattle.std.specs.List.{range_with_len}
use Rattle.std.specs.declared.option.Option.{Option}
use Rattle.std.specs.declared.option.Option.TheVariants.{Some, None}
use Rattle.std.proofs.lemmas.Int.{ints}
use Rattle.std.proofs.lemmas.Bool.{and_parts, and_from, cases_lt, eqb-true, eq-eqb, false_from_ne_true}
use Rattle.std.proofs.lemmas.List.{length-map}
use Rattle.std.proofs.lemmas.List.Folds.{flat_map-map}
use Rattle.std.proofs.lemmas.List.FromFn.{length-range_with_len}
use Rattle.amr_box.specs.declared.Cell.{Cell}
use Rattle.amr_box.specs.Cells.{Extent, cell, height, width}
use Rattle.amr_def.specs.State.{Masses, mass_of}
use Rattle.amr_payload.specs.Payload.{number_bytes, is_mass_of, have_masses, changed_bytes, cell_rows}
use Rattle.amr_codec.specs.Forms.{HasMassAt, cells_of_row}

some_same : (m n : ℕ) (o : Option ℕ) → o ≡ Some m → o ≡ Some n → m ≡ n
some_same m n o e f = cc

-- ---- a span

pub column_after : (b : Extent) (row first k : ℕ) (c : Cell) → c ≡ cell (b.lo.x +ℤ pos first) (b.lo.y +ℤ pos row) → cell (c.x +ℤ pos k) c.y ≡ cell (b.lo.x +ℤ pos (first + k)) (b.lo.y +ℤ pos row)
column_after b row first k c is =
    let x0 : c.x ≡ b.lo.x +ℤ pos first = ap (λ (d : Cell). d.x) is in
    let x : c.x +ℤ pos k ≡ b.lo.x +ℤ pos (first + k) = omega (arith, ints, x0) in
    let y : c.y ≡ b.lo.y +ℤ pos row = ap (λ (d : Cell). d.y) is in
    λ i. cell (x i) (y i)

module _ (m : Masses) (b : Extent) (row first : ℕ) (c : Cell) (is : c ≡ cell (b.lo.x +ℤ pos first) (b.lo.y +ℤ pos row)) (span masses part other : List ℕ) (n : ℕ) (inside : n ≤ length span) (within : n ≤ length masses)
    (part_is : part ≡ take n span) (other_is : other ≡ take n masses) (at : (k : ℕ) → k < length span → m (cell (c.x +ℤ pos k) c.y) ≡ Some (slice_index span k)) where
  part_count : length part ≡ n
  part_count = ap (λ (xs : List ℕ). length xs) part_is ∙ length-take-le n span inside

  part_at : (k : ℕ) → k < n → slice_index part k ≡ slice_index span k
  part_at k below = ap (λ (xs : List ℕ). get_or xs k 0) part_is ∙ get_or-take n span k 0 below

  other_at : (k : ℕ) → k < n → slice_index other k ≡ slice_index masses k
  other_at k below = ap (λ (xs : List ℕ). get_or xs k 0) other_is ∙ get_or-take n masses k 0 below

  pub span_same : ((k : ℕ) → k < length part → slice_index part k ≡ slice_index other k) → (k : ℕ) → k < n → HasMassAt m b row (first + k) (slice_index masses k)
  span_same same k below =
      ap m (sym (column_after b row first k c is)) ∙ at k (omega (arith, below, inside))
      ∙ ap Some (sym (part_at k below) ∙ same k (omega (arith, below, part_count)) ∙ other_at k below)

  pub span_equal : ((k : ℕ) → k < length masses → HasMassAt m b row (first + k) (slice_index masses k)) → (k : ℕ) → k < length part → slice_index part k ≡ slice_index other k
  span_equal all k below =
      let few : k < n = omega (arith, below, part_count) in
      part_at k few
      ∙ some_same (slice_index span k) (slice_index masses k) (m (cell (c.x +ℤ pos k) c.y)) (at k (omega (arith, few, inside))) (ap m (column_after b row first k c is) ∙ all k (omega (arith, few, within)))
      ∙ sym (other_at k few)

pub none_from : (o : Option ℕ) → is_some o ≡ false → o ≡ None
none_from None h = refl
none_from (Some m) h = absurd (cc)

pub not_there : (m : Masses) (b : Extent) (row first : ℕ) (c : Cell) (n : ℕ) → c ≡ cell (b.lo.x +ℤ pos first) (b.lo.y +ℤ pos row) → m c ≡ None → HasMassAt m b row (first + 0) n → ⊥
not_there m b row first c n is none has =
    let none_more : first + 0 ≡ first = omega arith in
    let here : m c ≡ Some n = ap m is ∙ ap (λ (k : ℕ). m (cell (b.lo.x +ℤ pos k) (b.lo.y +ℤ pos row))) (sym none_more) ∙ has in
    absurd (cc)

-- ---- one span after the other

pub more_columns : (P : ℕ → Type 0) (a n : ℕ) → ((i : ℕ) → i < a → P i) → ((k : ℕ) → k < n → P (a + k)) → (i : ℕ) → i < a + n → P i
more_columns P a n before next i lt = choose (cases_lt i a)
  where
    choose : (i < a) ⊎ (a ≤ i) → P i
    choose (inl few) = before i few
    choose (inr most) = let back : a + (i - a) ≡ i = omega (arith, most) in subst P back (next (i - a) (omega (arith, lt, most)))

pub spans_joined : (m : Masses) (b : Extent) (row first done count from : ℕ) (masses rest : List ℕ) → from ≡ first + done → rest ≡ drop done masses → ((k : ℕ) → k < done → HasMassAt m b row (first + k) (slice_index masses k))
    → ((k : ℕ) → k < count → HasMassAt m b row (from + k) (slice_index rest k)) → (k : ℕ) → k < done + count → HasMassAt m b row (first + k) (slice_index masses k)
spans_joined m b row first done count from masses rest at is before here = more_columns (λ k. HasMassAt m b row (first + k) (slice_index masses k)) done count before (λ k below. place k (here k below))
  where
    place : (k : ℕ) → HasMassAt m b row (from + k) (slice_index rest k) → HasMassAt m b row (first + (done + k)) (slice_index masses (done + k))
    place k has =
        let column : from + k ≡ first + (done + k) = omega (arith, at) in
        let number : slice_index rest k ≡ slice_index masses (done + k) = ap (λ (xs : List ℕ). get_or xs k 0) is ∙ get_or-drop done masses k 0 in
        subst (λ (j : ℕ). HasMassAt m b row j (slice_index masses (done + k))) column (subst (λ (n : ℕ). HasMassAt m b row (from + k) n) number has)

-- those of a part of a row
pub spans_within : (m : Masses) (b : Extent) (row first done from : ℕ) (masses rest : List ℕ) → from ≡ first + done → rest ≡ drop done masses → length rest + done ≤ length masses
    → ((k : ℕ) → k < length masses → HasMassAt m b row (first + k) (slice_index masses k)) → (k : ℕ) → k < length rest → HasMassAt m b row (from + k) (slice_index rest k)
spans_within m b row first done from masses rest at is sizes all k below =
    let column : first + (done + k) ≡ from + k = omega (arith, at) in
    let number : slice_index masses (done + k) ≡ slice_index rest k = sym (ap (λ (xs : List ℕ). get_or xs k 0) is ∙ get_or-drop done masses k 0) in
    subst (λ (j : ℕ). HasMassAt m b row j (slice_index rest k)) column (subst (λ (n : ℕ). HasMassAt m b row (first + (done + k)) n) number (all (done + k) (omega (arith, below, sizes))))

-- ---- a row

mass_here : (o : Option ℕ) (n : ℕ) → o ≡ Some n → is_mass_of o n ≡ true
mass_here o n is = ap (λ o. is_mass_of o n) is ∙ eq-eqb n n refl

mass_is : (o : Option ℕ) (n : ℕ) → is_mass_of o n ≡ true → o ≡ Some n
mass_is (Some m) n h = ap Some (eqb-true m n h)
mass_is None n h = absurd (cc)

-- cells of a row, one for each number from a on
abbrev pub row_from : Extent → ℕ → ℕ → ℕ → List Cell
row_from b row a n = map (λ i. cell (b.lo.x +ℤ pos i) (b.lo.y +ℤ pos row)) (range_with_len a n)

pub have_from : (m : Masses) (b : Extent) (row a n : ℕ) (masses : List ℕ) → length masses ≡ n → ((k : ℕ) → k < n → HasMassAt m b row (a + k) (slice_index masses k)) → have_masses m (row_from b row a n) masses ≡ true
have_from m b row a zero masses count all = refl
have_from m b row a (suc n) [] count all = absurd (omega arith)
have_from m b row a (suc n) (x ∷ masses) count all =
    let here : a + 0 ≡ a = omega arith in
    and_from (is_mass_of (m (cell (b.lo.x +ℤ pos a) (b.lo.y +ℤ pos row))) x) (have_masses m (row_from b row (a + 1) n) masses)
    (mass_here (m (cell (b.lo.x +ℤ pos a) (b.lo.y +ℤ pos row))) x (subst (λ (j : ℕ). HasMassAt m b row j x) here (all 0 (omega arith))))
    (have_from m b row (a + 1) n masses (omega (arith, count)) (λ k below. let next : a + suc k ≡ a + 1 + k = omega arith in subst (λ (j : ℕ). HasMassAt m b row j (slice_index masses k)) next (all (suc k) (omega (arith, below)))))

have_at : (m : Masses) (b : Extent) (row a n : ℕ) (masses : List ℕ) → have_masses m (row_from b row a n) masses ≡ true → (k : ℕ) → k < n → HasMassAt m b row (a + k) (slice_index masses k)
have_at m b row a zero masses have k below = absurd (omega arith)
have_at m b row a (suc n) [] have k below = absurd (cc)
have_at m b row a (suc n) (x ∷ masses) have zero below =
    let parts = and_parts (is_mass_of (m (cell (b.lo.x +ℤ pos a) (b.lo.y +ℤ pos row))) x) (have_masses m (row_from b row (a + 1) n) masses) have in
    let here : a ≡ a + 0 = omega arith in
    subst (λ (j : ℕ). HasMassAt m b row j x) here (mass_is (m (cell (b.lo.x +ℤ pos a) (b.lo.y +ℤ pos row))) x parts.0)
have_at m b row a (suc n) (x ∷ masses) have (suc k) below =
    let parts = and_parts (is_mass_of (m (cell (b.lo.x +ℤ pos a) (b.lo.y +ℤ pos row))) x) (have_masses m (row_from b row (a + 1) n) masses) have in
    let next : a + 1 + k ≡ a + suc k = omega arith in
    subst (λ (j : ℕ). HasMassAt m b row j (slice_index masses k)) next (have_at m b row (a + 1) n masses parts.1 k (omega (arith, below)))

pub from_none : (k : ℕ) → 0 + k ≡ k
from_none k = omega arith

-- whether the cells of a row have these masses
pub row_has : (m : Masses) (b : Extent) (row : ℕ) (masses : List ℕ) → length masses ≡ width b → ((k : ℕ) → k < width b → HasMassAt m b row k (slice_index masses k)) → have_masses m (cells_of_row b row) masses ≡ true
row_has m b row masses count all = have_from m b row 0 (width b) masses count (λ k below. subst (λ (j : ℕ). HasMassAt m b row j (slice_index masses k)) (sym (from_none k)) (all k below))

pub row_has_at : (m : Masses) (b : Extent) (row : ℕ) (masses : List ℕ) → have_masses m (cells_of_row b row) masses ≡ true → (k : ℕ) → k < width b → HasMassAt m b row k (slice_index masses k)
row_has_at m b row masses have k below = subst (λ (j : ℕ). HasMassAt m b row j (slice_index masses k)) (from_none k) (have_at m b row 0 (width b) masses have k below)

-- ---- a row by its flag

mass_listed : (m : Masses) (b : Extent) (row a n k : ℕ) → k < n → slice_index (map (mass_of m) (row_from b row a n)) k ≡ mass_of m (cell (b.lo.x +ℤ pos (a + k)) (b.lo.y +ℤ pos row))
mass_listed m b row a zero k below = absurd (omega arith)
mass_listed m b row a (suc n) zero below = let here : a ≡ a + 0 = omega arith in ap (λ (j : ℕ). mass_of m (cell (b.lo.x +ℤ pos j) (b.lo.y +ℤ pos row))) here
mass_listed m b row a (suc n) (suc k) below =
    let next : a + 1 + k ≡ a + suc k = omega arith in
    mass_listed m b row (a + 1) n k (omega (arith, below)) ∙ ap (λ (j : ℕ). mass_of m (cell (b.lo.x +ℤ pos j) (b.lo.y +ℤ pos row))) next

pub listed_at : (m : Masses) (b : Extent) (row k : ℕ) → k < width b → slice_index (map (mass_of m) (cells_of_row b row)) k ≡ mass_of m (cell (b.lo.x +ℤ pos k) (b.lo.y +ℤ pos row))
listed_at m b row k below = mass_listed m b row 0 (width b) k below ∙ ap (λ (j : ℕ). mass_of m (cell (b.lo.x +ℤ pos j) (b.lo.y +ℤ pos row))) (from_none k)

pub listed_count : (m : Masses) (b : Extent) (row : ℕ) → length (map (mass_of m) (cells_of_row b row)) ≡ width b
listed_count m b row = length-map (cells_of_row b row) (mass_of m) ∙ length-map (range_with_len 0 (width b)) (λ i. cell (b.lo.x +ℤ pos i) (b.lo.y +ℤ pos row)) ∙ length-range_with_len 0 (width b)

-- whether each cell of a row has its mass in an older level
abbrev pub IsKept : Masses → Masses → Extent → ℕ → Type 0
IsKept old m b row = (i : ℕ) → i < width b → HasMassAt old b row i (mass_of m (cell (b.lo.x +ℤ pos i) (b.lo.y +ℤ pos row)))

pub kept_bytes : (old m : Masses) (b : Extent) (row : ℕ) → IsKept old m b row → number_bytes w8 0 ≡ changed_bytes old m (cells_of_row b row)
unfolding changed_bytes
kept_bytes old m b row kept =
    let cs = cells_of_row b row in
    let has = row_has old b row (map (mass_of m) cs) (listed_count m b row) (λ k below. subst (λ (n : ℕ). HasMassAt old b row k n) (sym (listed_at m b row k below)) (kept k below)) in
    ap (λ (t : Bool). if t then number_bytes w8 0 else number_bytes w8 1 ++ flat_map (λ c. number_bytes w32 (mass_of m c)) cs) (sym has)

pub new_bytes : (old m : Masses) (b : Extent) (row : ℕ) → (IsKept old m b row → ⊥)
    → number_bytes w8 1 ++ flat_map (λ i. number_bytes w32 (mass_of m (cell (b.lo.x +ℤ pos i) (b.lo.y +ℤ pos row)))) (range_with_len 0 (width b)) ≡ changed_bytes old m (cells_of_row b row)
unfolding changed_bytes
new_bytes old m b row differs =
    let cs = cells_of_row b row in
    let has = false_from_ne_true (have_masses old cs (map (mass_of m) cs)) (λ have. differs (λ k below. subst (λ (n : ℕ). HasMassAt old b row k n) (listed_at m b row k below) (row_has_at old b row (map (mass_of m) cs) have k below))) in
    ap (λ (bs : List ℕ). number_bytes w8 1 ++ bs) (sym (flat_map-map (λ c. number_bytes w32 (mass_of m c)) (λ i. cell (b.lo.x +ℤ pos i) (b.lo.y +ℤ pos row)) (range_with_len 0 (width b))))
    ∙ ap (λ (t : Bool). if t then number_bytes w8 0 else number_bytes w8 1 ++ flat_map (λ c. number_bytes w32 (mass_of m c)) cs) (sym has)

-- all rows
pub rows_listed : (old m : Masses) (b : Extent) → flat_map (λ j. changed_bytes old m (cells_of_row b j)) (range_with_len 0 (height b)) ≡ flat_map (changed_bytes old m) (cell_rows b)
rows_listed old m b = sym (flat_map-map (changed_bytes old m) (λ j. map (λ i. cell (b.lo.x +ℤ pos i) (b.lo.y +ℤ pos j)) (range_with_len 0 (width b))) (range_with_len 0 (height b)))
