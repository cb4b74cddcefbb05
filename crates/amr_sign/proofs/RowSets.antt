-- The cells that rows of truth values stand for, and their signatures.
use Rattle.std.proofs.Common.{◌≡◌, ℕ, ◌+◌, ◌<◌, Bool, false, pos, ◌-ℤ◌, ◌+ℤ◌, List, [], ◌++◌, map, length, take, drop, slice_index, slice_index_or, sym, ap, ◌∙◌, arith, zero-add}
use Rattle.std.specs.List.{range_with_len}
use Rattle.std.specs.Global.{Vec}
use Rattle.std.specs.Vec.{vec_len}
use Rattle.std.proofs.lemmas.Int.{ints}
use Rattle.std.proofs.lemmas.List.{get_or-map, take-append-le}
use Rattle.std.proofs.lemmas.List.FromFn.{fill_by_all}
use Rattle.std.proofs.Math.Seq.{take-length}
use Rattle.amr_box.specs.declared.Axis.TheVariants.{X, Y}
use Rattle.amr_box.specs.Cells.{at_least_zero, width, height}
use Rattle.amr_def.specs.Signature.{signature}
use Rattle.amr_sign.specs.Counts.{bit, count_to}
use Rattle.amr_sign.specs.Rows.{Rows, HasEvenRows, columns_of, entry, frame, is_set, set_cells}
use Rattle.amr_sign.proofs.Counts.{at, columns-are, rows-are, count_to-same, count_to_more, map_to-same}

-- an entry of the row that a loop has come to
pub entry_at : (rows : Rows) (j : ℕ) (row : Vec Bool) → j < length rows → row ≡ slice_index_or rows j row → (i : ℕ) → entry rows j i ≡ slice_index_or row.items i false
entry_at rows j row inside is i =
    ap (λ (bits : List Bool). slice_index_or bits i false) (get_or-map {X = Vec Bool} (λ (r : Vec Bool). r.items) rows j row [] inside ∙ ap (λ (r : Vec Bool). r.items) (sym is))

pub row_len : (rows : Rows) (j : ℕ) (row : Vec Bool) → HasEvenRows rows → j < length rows → row ≡ slice_index_or rows j row → vec_len row ≡ columns_of rows
row_len rows j row even inside is = ap (λ (r : Vec Bool). vec_len r) is ∙ even j row inside

-- the count of column i, with the row that a loop has come to
pub column_more : (rows : Rows) (j : ℕ) (row : Vec Bool) (bits : List Bool) (i old new : ℕ) → j < length rows → row ≡ slice_index_or rows j row → bits ≡ row.items → old ≡ count_to (λ j. entry rows j i) j → new ≡ old + bit (slice_index_or bits i false) → new ≡ count_to (λ j. entry rows j i) (j + 1)
column_more rows j row bits i old new inside is same so_far added =
    let test : ℕ → Bool = λ j. entry rows j i in
    added
    ∙ ap (λ (n : ℕ). n + bit (slice_index_or bits i false)) so_far
    ∙ ap (λ (bs : List Bool). count_to test j + bit (slice_index_or bs i false)) same
    ∙ ap (λ (t : Bool). count_to test j + bit t) (sym (entry_at rows j row inside is i))
    ∙ sym (count_to_more test j)

-- what a slice of a whole list of counts leaves in the list
pub written_back : (f : ℕ → ℕ) (n m : ℕ) (new old : List ℕ) → length new ≡ n → n ≡ m → ((k : ℕ) → k < length new → slice_index new k ≡ f k) → take n (new ++ drop (length new) old) ≡ map f (range_with_len 0 m)
written_back f n m new old whole fits each =
    take-append-le n new (drop (length new) old) (omega arith)
    ∙ rw (← whole) (take-length new)
    ∙ fill_by_all f new m 0 (whole ∙ fits) (λ k h. each k (omega arith))

sized : (n : ℕ) → (pos n -ℤ pos 1 +ℤ pos 1 -ℤ pos 0) ≡ pos n
sized n = omega (arith, ints)

width-frame : (rows : Rows) → width (frame rows) ≡ columns_of rows
width-frame rows = ap at_least_zero (sized (columns_of rows))

height-frame : (rows : Rows) → height (frame rows) ≡ length rows
height-frame rows = ap at_least_zero (sized (length rows))

at-frame : (rows : Rows) (i j : ℕ) → at (is_set rows) (frame rows) i j ≡ entry rows j i
at-frame rows i j = ap (λ (k : ℕ). entry rows k (0 + i)) (zero-add j) ∙ ap (λ (k : ℕ). entry rows j k) (zero-add i)

pub signature-columns : (rows : Rows) → signature X (set_cells rows) (frame rows) ≡ map (λ i. count_to (λ j. entry rows j i) (length rows)) (range_with_len 0 (columns_of rows))
signature-columns rows =
    columns-are (is_set rows) (frame rows)
    ∙ ap (λ (n : ℕ). map (λ i. count_to (at (is_set rows) (frame rows) i) n) (range_with_len 0 (width (frame rows)))) (height-frame rows)
    ∙ ap (λ (n : ℕ). map (λ i. count_to (at (is_set rows) (frame rows) i) (length rows)) (range_with_len 0 n)) (width-frame rows)
    ∙ map_to-same _ _ (columns_of rows) (λ i h. count_to-same _ _ (length rows) (λ j. at-frame rows i j))

pub signature-rows : (rows : Rows) → signature Y (set_cells rows) (frame rows) ≡ map (λ j. count_to (λ i. entry rows j i) (columns_of rows)) (range_with_len 0 (length rows))
signature-rows rows =
    rows-are (is_set rows) (frame rows)
    ∙ ap (λ (n : ℕ). map (λ j. count_to (λ i. at (is_set rows) (frame rows) i j) n) (range_with_len 0 (height (frame rows)))) (width-frame rows)
    ∙ ap (λ (n : ℕ). map (λ j. count_to (λ i. at (is_set rows) (frame rows) i j) (columns_of rows)) (range_with_len 0 n)) (height-frame rows)
    ∙ map_to-same _ _ (length rows) (λ j h. count_to-same _ _ (columns_of rows) (λ i. at-frame rows i j))
