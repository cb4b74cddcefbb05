-- Rows of masses on an older state: those that it has, and those that are read.
use Rattle.std.proofs.Common.{◌≡◌, ◌↔◌, ℕ, zero, suc, ◌+◌, ◌-◌, ◌<◌, ◌≤◌, Bool, true, false, not, List, [], ◌∷◌, ◌++◌, length, take, drop, drop_at, length-drop, map, get_or-take, length-take-le, append_assoc, append-nil, pos, ◌+ℤ◌, is_some, refl, sym, ap, subst, ◌∙◌, arith}
use Rattle.std.specs.Prelude.{IsTrue, slice_index}
use Rattle.std.specs.Int.{w8, w32}
use Rattle.std.specs.List.{list_all, range_with_len}
use Rattle.std.specs.declared.option.Option.TheVariants.{Some, None}
use Rattle.std.proofs.lemmas.Bool.{and_parts, and_from, both_ways, false_from_ne_true}
use Rattle.std.proofs.lemmas.List.{length-map, map-append, take_all}
use Rattle.std.proofs.lemmas.List.FromFn.{length-range_with_len}
use Rattle.amr_box.specs.declared.Cell.{Cell}
use Rattle.amr_box.specs.Cells.{Extent, IsNear, cell, height, width}
use Rattle.amr_patch.proofs.Rows.{sides}
use Rattle.amr_box.proofs.Numbers.{range_parts}
use Rattle.amr_codec.specs.Forms.{HasMassAt, cells_of_row}
use Rattle.amr_codec.proofs.KeptRows.{column_after, have_from, row_from, row_has, row_has_at}
use Rattle.amr_def.specs.declared.problem.Problem.{Problem}
use Rattle.amr_def.specs.State.{Masses, mass_of, no_masses}
use Rattle.amr_payload.specs.Payload.{have_masses, cell_rows}
use Rattle.amr_payload.specs.Tests.{Left, Reading, bad, read, then_read, tested, read_joined, read_number, read_masses, read_flagged, read_changed, read_all_changed}
use Rattle.amr_payload.proofs.Forms.{are_own, are_there}
use Rattle.amr_payload.proofs.Readings.{joined_read}
use Rattle.amr_decoder.specs.declared.faults.CodecFault.{CodecFault}
use Rattle.amr_decoder.specs.declared.faults.CodecFault.TheVariants.{Bad, NoMemory}
use Rattle.amr_decoder.specs.Faults.{IsFaultOf}
use Rattle.amr_decoder.specs.Numbers.{number_at, numbers}
use Rattle.amr_decoder.proofs.Lists.{one_left}
use Rattle.amr_decoder.proofs.Readings.{fault_first, fault_same}

-- ---- a row that the older level has

row_parts : (b : Extent) (row a n : ℕ) → row_from b row 0 (a + n) ≡ row_from b row 0 a ++ row_from b row a n
row_parts b row a n =
    let at : ℕ → Cell = λ i. cell (b.lo.x +ℤ pos i) (b.lo.y +ℤ pos row) in
    let none : 0 + a ≡ a = omega arith in
    ap (map at) (range_parts 0 a n ∙ ap (λ k. range_with_len 0 a ++ range_with_len k n) none) ∙ map-append at (range_with_len 0 a) (range_with_len a n)

row_length : (b : Extent) (row a n : ℕ) → length (row_from b row a n) ≡ n
row_length b row a n = length-map (range_with_len a n) (λ i. cell (b.lo.x +ℤ pos i) (b.lo.y +ℤ pos row)) ∙ length-range_with_len a n

all_joined : (test : Cell → Bool) (cs ds : List Cell) → list_all test cs ≡ true → list_all test ds ≡ true → list_all test (cs ++ ds) ≡ true
all_joined test [] ds one other = other
all_joined test (c ∷ cs) ds one other = let parts = and_parts (test c) (list_all test cs) one in and_from (test c) (list_all test (cs ++ ds)) parts.0 (all_joined test cs ds parts.1 other)

-- the masses of the first n cells are added, and each of these is a cell of the level
pub record AreCopied (m : Masses) (b : Extent) (row n : ℕ) (before now : List ℕ) : Type 0 where
  pub items : now ≡ before ++ map (mass_of m) (row_from b row 0 n)
  pub there : list_all (λ c. is_some (m c)) (row_from b row 0 n) ≡ true

pub none_copied : (m : Masses) (b : Extent) (row : ℕ) (before : List ℕ) → AreCopied m b row 0 before before
none_copied m b row before = record { items = sym (append-nil before); there = refl }

pub more_copied : (m : Masses) (b : Extent) (row first count : ℕ) (c : Cell) (before now new span : List ℕ) → c ≡ cell (b.lo.x +ℤ pos first) (b.lo.y +ℤ pos row) → count ≤ length span
    → ((k : ℕ) → k < length span → m (cell (c.x +ℤ pos k) c.y) ≡ Some (slice_index span k)) → AreCopied m b row first before now → new ≡ now ++ take count span → AreCopied m b row (first + count) before new
more_copied m b row first count c before now new span is inside at copied added =
    let cs = row_from b row first count in
    let ms = take count span in
    let size : length ms ≡ count = length-take-le count span inside in
    let have : have_masses m cs ms ≡ true = have_from m b row first count ms size (λ k below.
    ap m (sym (column_after b row first k c is)) ∙ at k (omega (arith, below, inside)) ∙ ap Some (sym (get_or-take count span k 0 below))) in
    let own : map (mass_of m) cs ≡ ms = are_own m cs ms (size ∙ sym (row_length b row first count)) have in
    record {
      items = added ∙ (λ i. copied.items i ++ sym own i) ∙ append_assoc before (map (mass_of m) (row_from b row 0 first)) (map (mass_of m) cs)
          ∙ ap (λ (xs : List ℕ). before ++ xs) (sym (map-append (mass_of m) (row_from b row 0 first) cs) ∙ ap (map (mass_of m)) (sym (row_parts b row first count)));
      there = subst (λ (ds : List Cell). list_all (λ c. is_some (m c)) ds ≡ true) (sym (row_parts b row first count)) (all_joined (λ c. is_some (m c)) (row_from b row 0 first) cs copied.there (are_there m cs ms have));
    }

some_at : (m : Masses) (b : Extent) (row a n k : ℕ) → list_all (λ c. is_some (m c)) (row_from b row a n) ≡ true → k < n → is_some (m (cell (b.lo.x +ℤ pos (a + k)) (b.lo.y +ℤ pos row))) ≡ true
some_at m b row a zero k all below = absurd (omega arith)
some_at m b row a (suc n) zero all below =
    let here : a ≡ a + 0 = omega arith in
    let parts = and_parts (is_some (m (cell (b.lo.x +ℤ pos a) (b.lo.y +ℤ pos row)))) (list_all (λ c. is_some (m c)) (row_from b row (a + 1) n)) all in
    subst (λ (j : ℕ). is_some (m (cell (b.lo.x +ℤ pos j) (b.lo.y +ℤ pos row))) ≡ true) here parts.0
some_at m b row a (suc n) (suc k) all below =
    let next : a + 1 + k ≡ a + suc k = omega arith in
    let parts = and_parts (is_some (m (cell (b.lo.x +ℤ pos a) (b.lo.y +ℤ pos row)))) (list_all (λ c. is_some (m c)) (row_from b row (a + 1) n)) all in
    subst (λ (j : ℕ). is_some (m (cell (b.lo.x +ℤ pos j) (b.lo.y +ℤ pos row))) ≡ true) next (some_at m b row (a + 1) n k parts.1 (omega (arith, below)))

pub one_missing : (m : Masses) (b : Extent) (row first : ℕ) (c : Cell) → c ≡ cell (b.lo.x +ℤ pos first) (b.lo.y +ℤ pos row) → m c ≡ None → first < width b → list_all (λ c. is_some (m c)) (cells_of_row b row) ≡ false
one_missing m b row first c is none below =
    false_from_ne_true (list_all (λ c. is_some (m c)) (cells_of_row b row)) (λ all.
    let zero_and : 0 + first ≡ first = omega arith in
    let some = some_at m b row 0 (width b) first all below in
    both_ways (is_some (m (cell (b.lo.x +ℤ pos (0 + first)) (b.lo.y +ℤ pos row))))
    (ap (λ j. is_some (m (cell (b.lo.x +ℤ pos j) (b.lo.y +ℤ pos row)))) zero_and ∙ ap (λ (d : Cell). is_some (m d)) (sym is) ∙ ap is_some none) some)

-- no level has no cell of a row
pub none_there : (b : Extent) (row : ℕ) → 0 < width b → list_all (λ c. is_some (no_masses c)) (cells_of_row b row) ≡ false
none_there b row some = one_missing no_masses b row 0 (cell (b.lo.x +ℤ pos 0) (b.lo.y +ℤ pos row)) refl refl some

-- whether the cells of a row have these masses
pub has_same : (m : Masses) (b : Extent) (row : ℕ) (ms : List ℕ) (t : Bool) → (IsTrue t ↔ ((k : ℕ) → k < length ms → HasMassAt m b row (0 + k) (slice_index ms k))) → length ms ≡ width b → have_masses m (cells_of_row b row) ms ≡ t
has_same m b row ms true h size = row_has m b row ms size (λ k below. let zero_and : 0 + k ≡ k = omega arith in subst (λ (j : ℕ). HasMassAt m b row j (slice_index ms k)) zero_and (h.0 refl k (omega (arith, below, size))))
has_same m b row ms false h size =
    false_from_ne_true (have_masses m (cells_of_row b row) ms) (λ have.
    both_ways false refl (h.1 (λ k below. let zero_and : k ≡ 0 + k = omega arith in subst (λ (j : ℕ). HasMassAt m b row j (slice_index ms k)) zero_and (row_has_at m b row ms have k (omega (arith, below, size))))))

-- ---- a row by its flag

module _ (old : Masses) (p : Problem) (n l : ℕ) (cs : List Cell) (r a : Left) (flag : ℕ) (first : read_number w8 r ≡ read flag a) where
  flagged : read_changed old p n l cs r ≡ read_flagged old p n l cs r.place flag a
  unfolding read_changed
  flagged = ap (λ (q : Reading ℕ). then_read q (λ flag a. read_flagged old p n l cs r.place flag a)) first

  by_flag : (f : ℕ) → flag ≡ f → read_changed old p n l cs r ≡ read_flagged old p n l cs r.place f a
  by_flag f is = flagged ∙ ap (λ f. read_flagged old p n l cs r.place f a) is

  pub kept_read : (t : Bool) → flag ≡ 0 → list_all (λ c. is_some (old c)) cs ≡ t → read_changed old p n l cs r ≡ tested t r.place (map (mass_of old) cs) a
  kept_read t is there = by_flag 0 is ∙ ap (λ t. tested t r.place (map (mass_of old) cs) a) there

  pub other_bad : (flag ≡ 0 → ⊥) → (flag ≡ 1 → ⊥) → read_changed old p n l cs r ≡ bad r.place
  other_bad not_zero not_one = flagged ∙ neither flag not_zero not_one
    where
      neither : (f : ℕ) → (f ≡ 0 → ⊥) → (f ≡ 1 → ⊥) → read_flagged old p n l cs r.place f a ≡ bad r.place
      neither zero a b = absurd (a refl)
      neither (suc zero) a b = absurd (b refl)
      neither (suc (suc f)) a b = refl

  pub new_read : (ms : List ℕ) (e : Left) (t : Bool) (count : ℕ) → flag ≡ 1 → length cs ≡ count → read_masses w32 p n l count a ≡ read ms e → have_masses old cs ms ≡ t → read_changed old p n l cs r ≡ tested (not t) r.place ms e
  new_read ms e t count is size masses same =
      by_flag 1 is ∙ ap (λ k. then_read (read_masses w32 p n l k a) (λ ms a. tested (not (have_masses old cs ms)) r.place ms a)) size
      ∙ ap (λ (q : Reading (List ℕ)). then_read q (λ ms a. tested (not (have_masses old cs ms)) r.place ms a)) masses
      ∙ ap (λ t. tested (not t) r.place ms e) same

  pub new_bad : (e : CodecFault) (count : ℕ) → flag ≡ 1 → length cs ≡ count → IsFaultOf (read_masses w32 p n l count a) e → IsFaultOf (read_changed old p n l cs r) e
  new_bad e count is size h =
      fault_same (read_changed old p n l cs r) (then_read (read_masses w32 p n l count a) (λ ms a. tested (not (have_masses old cs ms)) r.place ms a)) e
      (by_flag 1 is ∙ ap (λ k. then_read (read_masses w32 p n l k a) (λ ms a. tested (not (have_masses old cs ms)) r.place ms a)) size)
      (fault_first (read_masses w32 p n l count a) (λ ms a. tested (not (have_masses old cs ms)) r.place ms a) e h)

pub flag_bad : (old : Masses) (p : Problem) (n l : ℕ) (cs : List Cell) (r : Left) (e : CodecFault) → IsFaultOf (read_number w8 r) e → IsFaultOf (read_changed old p n l cs r) e
unfolding read_changed
flag_bad old p n l cs r e h = fault_first (read_number w8 r) (λ flag a. read_flagged old p n l cs r.place flag a) e h

pub row_count : (b : Extent) (row : ℕ) → length (cells_of_row b row) ≡ width b
row_count b row = row_length b row 0 (width b)

-- ---- one row after the other

joined_twice : (xs ys : List ℕ) (q : Reading (List ℕ)) → read_joined xs (read_joined ys q) ≡ read_joined (xs ++ ys) q
joined_twice xs ys (bad place) = refl
joined_twice xs ys (read zs l) = ap (λ (ns : List ℕ). read ns l) (sym (append_assoc xs ys zs))

fault_joined : (xs : List ℕ) (q : Reading (List ℕ)) (e : CodecFault) → IsFaultOf q e → IsFaultOf (read_joined xs q) e
fault_joined xs q (Bad place) h = ap (λ q. read_joined xs q) h
fault_joined xs q NoMemory h = tt

-- n rows of a box from row j on
abbrev pub rows_from : Extent → ℕ → ℕ → List (List Cell)
rows_from b j n = map (cells_of_row b) (range_with_len j n)

module _ (old : Masses) (p : Problem) (n l : ℕ) (b : Extent) (rows : ℕ) (q : Reading (List ℕ)) where
  -- what is still to read comes after the masses so far
  abbrev pub IsAfterRows : ℕ → List ℕ → Left → Type 0
  IsAfterRows j ms r = q ≡ read_joined ms (read_all_changed old p n l (rows_from b j (rows - j)) r)

  next_rows : (j : ℕ) (r : Left) → j < rows → read_all_changed old p n l (rows_from b j (rows - j)) r
      ≡ then_read (read_changed old p n l (cells_of_row b j) r) (λ ms a. read_joined ms (read_all_changed old p n l (rows_from b (j + 1) (rows - (j + 1))) a))
  next_rows j r inside = ap (λ k. read_all_changed old p n l (rows_from b j k) r) (one_left rows j inside)

  pub row_next : (j : ℕ) (ms new : List ℕ) (r e : Left) → j < rows → IsAfterRows j ms r → read_joined ms (read_changed old p n l (cells_of_row b j) r) ≡ read new e → IsAfterRows (j + 1) new e
  row_next j ms new r e inside so_far here =
      let one = joined_read ms (read_changed old p n l (cells_of_row b j) r) new e here in
      let rest = read_all_changed old p n l (rows_from b (j + 1) (rows - (j + 1))) e in
      so_far ∙ ap (read_joined ms) (next_rows j r inside ∙ ap (λ q. then_read q (λ ms a. read_joined ms (read_all_changed old p n l (rows_from b (j + 1) (rows - (j + 1))) a))) one.first)
      ∙ joined_twice ms one.others rest ∙ ap (λ (xs : List ℕ). read_joined xs rest) (sym one.all)

  pub row_bad : (j : ℕ) (ms : List ℕ) (r : Left) (e : CodecFault) → j < rows → IsAfterRows j ms r → IsFaultOf (read_changed old p n l (cells_of_row b j) r) e → IsFaultOf q e
  row_bad j ms r e inside so_far h =
      fault_same q (read_joined ms (read_all_changed old p n l (rows_from b j (rows - j)) r)) e so_far
      (fault_joined ms (read_all_changed old p n l (rows_from b j (rows - j)) r) e
      (fault_same (read_all_changed old p n l (rows_from b j (rows - j)) r) (then_read (read_changed old p n l (cells_of_row b j) r) (λ ms a. read_joined ms (read_all_changed old p n l (rows_from b (j + 1) (rows - (j + 1))) a))) e (next_rows j r inside)
      (fault_first (read_changed old p n l (cells_of_row b j) r) (λ ms a. read_joined ms (read_all_changed old p n l (rows_from b (j + 1) (rows - (j + 1))) a)) e h)))

  pub rows_read : (j : ℕ) (ms : List ℕ) (r : Left) → rows - j ≡ 0 → IsAfterRows j ms r → q ≡ read ms r
  rows_read j ms r none so_far =
      so_far ∙ ap (λ k. read_joined ms (read_all_changed old p n l (rows_from b j k) r)) none ∙ ap (λ (xs : List ℕ). read xs r) (append-nil ms)

-- no row yet
pub no_rows_yet : (old : Masses) (p : Problem) (n l : ℕ) (b : Extent) (r : Left) (ms : List ℕ) → ms ≡ [] → read_all_changed old p n l (cell_rows b) r ≡ read_joined ms (read_all_changed old p n l (rows_from b 0 (height b - 0)) r)
no_rows_yet old p n l b r ms none_yet =
    let none : height b ≡ height b - 0 = omega arith in
    ap (λ k. read_all_changed old p n l (rows_from b 0 k) r) none ∙ sym (joined_none (read_all_changed old p n l (rows_from b 0 (height b - 0)) r)) ∙ ap (λ (xs : List ℕ). read_joined xs (read_all_changed old p n l (rows_from b 0 (height b - 0)) r)) (sym none_yet)
  where
    joined_none : (q : Reading (List ℕ)) → read_joined [] q ≡ q
    joined_none (bad place) = refl
    joined_none (read xs l) = refl

-- ---- numbers

pub no_numbers : (out bytes : List ℕ) → out ≡ out ++ numbers w32 0 bytes
unfolding numbers
no_numbers out bytes = sym (append-nil out)

pub count_of : (n : ℕ) (bytes : List ℕ) → length (numbers w32 n bytes) ≡ n
unfolding numbers
count_of n bytes = length-map (range_with_len 0 n) (number_at w32 bytes) ∙ length-range_with_len 0 n

pub near_wide : (b : Extent) → IsNear b → 0 < width b
near_wide b near = (sides b near).some_columns

pub all_copied : (m : Masses) (b : Extent) (row n : ℕ) (before items : List ℕ) → n ≡ width b → AreCopied m b row n before items → (items ≡ before ++ map (mass_of m) (cells_of_row b row)) × (list_all (λ c. is_some (m c)) (cells_of_row b row) ≡ true)
all_copied m b row n before items all copied =
    let whole : AreCopied m b row (width b) before items = subst (λ (k : ℕ). AreCopied m b row k before items) all copied in
    (whole.items, whole.there)

-- what was added to a list
pub added_part : (out ms items : List ℕ) (before : ℕ) → items ≡ out ++ ms → before ≡ length out → take (length items - before) (drop before items) ≡ ms
added_part out ms items before is at =
    let rest : drop before items ≡ ms = ap (drop before) is ∙ drop_at out ms before (sym at) in
    take_all (length items - before) (drop before items) (omega (arith, length-drop before items)) ∙ rest
