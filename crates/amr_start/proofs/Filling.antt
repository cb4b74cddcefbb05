-- How a block fills its cells, row by row.
use Rattle.std.proofs.Common.{◌≡◌, ℕ, ◌+◌, ◌*◌, ◌<◌, ◌≤◌, Bool, true, false, cond, ◌&&◌, ◌⊎◌, inl, inr, ◌≢◌, pos, List, length, get_or, take, ◌/◌, ◌%◌, ◌^◌, refl, sym, ap, subst, ◌∙◌, arith}
use Rattle.std.specs.Prelude.{nat_le, nat_lt}
use Rattle.std.proofs.lemmas.Bool.{and_parts, cases_eq, cases_lt, le-leb, le-ltb, leb-true, lt-leb, lt-ltb, ltb-true}
use Rattle.std.proofs.lemmas.Bool.Decides.{nat_tests}
use Rattle.std.proofs.lemmas.List.{get_or_past, get_or-replicate, length-replicate}
use Rattle.std.specs.Prelude.{replicate}
use Rattle.std.proofs.lemmas.List.Sums.{fold_more}
use Rattle.std.proofs.lemmas.List.Folds.{list_all_at}
use Rattle.std.specs.List.{list_all}
use Rattle.amr_def.specs.Limits.{is_block}
use Rattle.std.proofs.lemmas.Nat.{rows}
use Rattle.std.proofs.Math.Nat.{mul-le-mul_right}
use Rattle.std.proofs.Math.Bool.{and-false, and-true}
use Rattle.amr_box.specs.declared.Cell.{Cell}
use Rattle.amr_box.specs.Cells.{cell, holds, within}
use Rattle.amr_def.specs.declared.problem.Block.{Block}
use Rattle.amr_def.specs.Run.{block_extent, block_mass}
use Rattle.amr_start.specs.Rows.{IsBlockIn, FillsBlock}

-- whether a cell is in the rows of a block before row e
abbrev pub is_in_rows : Block → ℕ → ℕ → ℕ → Bool
is_in_rows b e x y = (nat_le b.x0 x && nat_lt x (b.x1 + 1)) && (nat_le b.y0 y && nat_lt y e)

-- the same places, in a list
same_span : (a b s x : ℕ) → (nat_le (s + a) (s + x) && nat_lt (s + x) (s + b)) ≡ (nat_le a x && nat_lt x b)
same_span a b s x = λ i. le i && lt i
  where
    le : nat_le (s + a) (s + x) ≡ nat_le a x
    le = grind (arith, nat_tests)

    lt : nat_lt (s + x) (s + b) ≡ nat_lt x b
    lt = grind (arith, nat_tests)

-- ---- a span of the list

-- ---- a row of a block

before_row : (columns y j x low : ℕ) → x < columns → y < j → y * columns + x < j * columns + low
before_row columns y j x low hx h =
    let one : y + 1 ≤ j = omega arith in
    let next : (y + 1) * columns ≤ j * columns = mul-le-mul_right columns one in
    omega (arith, next)

after_row : (columns y j x high : ℕ) → high ≤ columns → j < y → j * columns + high ≤ y * columns + x
after_row columns y j x high hx h =
    let one : j + 1 ≤ y = omega arith in
    let next : (j + 1) * columns ≤ y * columns = mul-le-mul_right columns one in
    omega (arith, next)

-- a span of row j fills what the block has of it
pub row_filled : (b : Block) (columns j x y mass old ms new : ℕ) → x < columns → b.x1 < columns → b.y0 ≤ j
    → ms ≡ cond (is_in_rows b j x y) mass old
    → new ≡ cond (nat_le (j * columns + b.x0) (y * columns + x) && nat_lt (y * columns + x) (j * columns + (b.x1 + 1))) mass ms
    → new ≡ cond (is_in_rows b (j + 1) x y) mass old
row_filled b columns j x y mass old ms new hx inside above had has = at_each (cases_lt y j)
  where
    column : Bool
    column = nat_le b.x0 x && nat_lt x (b.x1 + 1)

    at_each : (y < j) ⊎ (j ≤ y) → new ≡ cond (is_in_rows b (j + 1) x y) mass old
    at_each (inl below) =
        let outside = lt-leb (j * columns + b.x0) (y * columns + x) (before_row columns y j x b.x0 hx below) in
        has ∙ ap (λ (t : Bool). cond (t && nat_lt (y * columns + x) (j * columns + (b.x1 + 1))) mass ms) outside ∙ had
        ∙ ap (λ (t : Bool). cond ((nat_le b.x0 x && nat_lt x (b.x1 + 1)) && (nat_le b.y0 y && t)) mass old) (lt-ltb y j below ∙ sym (lt-ltb y (j + 1) (omega arith)))
    at_each (inr past) = from (cases_eq y j)
      where
        from : (y ≡ j) ⊎ (y ≢ j) → new ≡ cond (is_in_rows b (j + 1) x y) mass old
        from (inl e) =
            let place : y * columns ≡ j * columns = ap (λ t. t * columns) e in
            let span = ap (λ t. nat_le (j * columns + b.x0) (t + x) && nat_lt (t + x) (j * columns + (b.x1 + 1))) place ∙ same_span b.x0 (b.x1 + 1) (j * columns) x in
            let rows = le-leb b.y0 y (omega (arith, above)) in
            let none = le-ltb y j past in
            let one = lt-ltb y (j + 1) (omega (arith, e)) in
            has ∙ ap (λ (t : Bool). cond t mass ms) span
            ∙ ap (λ t. cond column mass t) (had ∙ ap (λ (t : Bool). cond (column && (nat_le b.y0 y && t)) mass old) none ∙ ap (λ (t : Bool). cond (column && t) mass old) (and-false (nat_le b.y0 y)) ∙ ap (λ (t : Bool). cond t mass old) (and-false column))
            ∙ sym (ap (λ (t : Bool). cond (column && (t && nat_lt y (j + 1))) mass old) rows ∙ ap (λ (t : Bool). cond (column && t) mass old) one ∙ ap (λ (t : Bool). cond t mass old) (and-true column))
        from (inr ne) =
            let far : j < y = omega arith in
            let farther : j + 1 ≤ y = omega arith in
            let outside = le-ltb (y * columns + x) (j * columns + (b.x1 + 1)) (after_row columns y j x (b.x1 + 1) (omega (arith, inside)) far) in
            let none = le-ltb y j past in
            let none_more = le-ltb y (j + 1) farther in
            has ∙ ap (λ (t : Bool). cond (nat_le (j * columns + b.x0) (y * columns + x) && t) mass ms) outside
            ∙ ap (λ (t : Bool). cond t mass ms) (and-false _) ∙ had
            ∙ ap (λ (t : Bool). cond (column && (nat_le b.y0 y && t)) mass old) (none ∙ sym none_more)

-- ---- a block

pub no_rows : (b : Block) (x y mass old : ℕ) → old ≡ cond (is_in_rows b b.y0 x y) mass old
no_rows b x y mass old = sym (ap (λ (t : Bool). cond (column && t) mass old) rows ∙ ap (λ (t : Bool). cond t mass old) (and-false column))
  where
    column : Bool
    column = nat_le b.x0 x && nat_lt x (b.x1 + 1)

    rows : (nat_le b.y0 y && nat_lt y b.y0) ≡ false
    rows = grind (arith, nat_tests)

below_next : (k n : ℕ) → nat_lt k (n + 1) ≡ nat_le k n
below_next k n = grind (arith, nat_tests)

within_is : (a b k : ℕ) → within (pos a) (pos b) (pos k) ≡ (nat_le a k && nat_lt k (b + 1))
within_is a b k = ap (λ (t : Bool). nat_le a k && t) (sym (below_next k b))

pub all_rows : (b : Block) (x y : ℕ) → is_in_rows b (b.y1 + 1) x y ≡ holds (block_extent b) (cell (pos x) (pos y))
all_rows b x y = λ i. sym (within_is b.x0 b.x1 x) i && sym (within_is b.y0 b.y1 y) i

pub span_inside : (columns rows y past_east count : ℕ) → y < rows → past_east ≤ columns → count ≡ rows * columns → y * columns + past_east ≤ count
span_inside columns rows y past_east count hy hx e =
    let one : y + 1 ≤ rows = omega arith in
    let next : (y + 1) * columns ≤ rows * columns = mul-le-mul_right columns one in
    omega (arith, next, e)

-- ---- the blocks in turn

pub filled_small : (w h : ℕ) (b : Block) (old new : List ℕ) → 0 < w → length new ≡ h * w → b.mass ≤ 2 ^ 30 → ((k : ℕ) → get_or old k 0 < 2 ^ 31) → FillsBlock w h b old new → (k : ℕ) → get_or new k 0 < 2 ^ 31
filled_small w h b old new some count light small filled k = at_each (cases_lt k (length new))
  where
    chosen : (t : Bool) (a c : ℕ) → a < 2 ^ 31 → c < 2 ^ 31 → cond t a c < 2 ^ 31
    chosen true a c ha hc = ha
    chosen false a c ha hc = hc

    at_each : (k < length new) ⊎ (length new ≤ k) → get_or new k 0 < 2 ^ 31
    at_each (inl inside) =
        let x : k % w < w = omega arith in
        let y : k / w < h = grind (arith, rows) in
        let place : k / w * w + k % w ≡ k = omega arith in
        let value : get_or new k 0 ≡ cond (holds (block_extent b) (cell (pos (k % w)) (pos (k / w)))) b.mass (get_or old k 0) =
        ap (λ t. get_or new t 0) (sym place) ∙ filled.at (k % w) (k / w) x y ∙ ap (λ t. cond (holds (block_extent b) (cell (pos (k % w)) (pos (k / w)))) b.mass (get_or old t 0)) place in
        rw value (chosen _ b.mass (get_or old k 0) (omega (arith, light)) (small k))
    at_each (inr past) = rw (get_or_past new k 0 past) (omega arith)

pub next_block : (bs : List Block) (i : ℕ) (d : Block) (c : Cell) → i < length bs → block_mass (take (i + 1) bs) c ≡ cond (holds (block_extent (get_or bs i d)) c) (get_or bs i d).mass (block_mass (take i bs) c)
next_block bs i d c inside = fold_more (λ m (k : Block). cond (holds (block_extent k) c) k.mass m) 0 bs i d inside

-- a list filled by one more block
pub record HasMore (w h : ℕ) (bs : List Block) (i : ℕ) (ms : List ℕ) : Type 0 where
  pub count : length ms ≡ h * w
  pub small : (k : ℕ) → get_or ms k 0 < 2 ^ 31
  pub at : (x y : ℕ) → x < w → y < h → get_or ms (y * w + x) 0 ≡ block_mass (take i bs) (cell (pos x) (pos y))

pub more_blocks : (w h : ℕ) (bs : List Block) (i : ℕ) (d : Block) (old new : List ℕ) → 0 < w → i < length bs → length new ≡ h * w → (get_or bs i d).mass ≤ 2 ^ 30 → FillsBlock w h (get_or bs i d) old new → HasMore w h bs i old → HasMore w h bs (i + 1) new
more_blocks w h bs i d old new some inside count light filled had = record {
  count = count;
  small = filled_small w h (get_or bs i d) old new some count light had.small filled;
  at = λ x y hx hy. filled.at x y hx hy
      ∙ ap (λ t. cond (holds (block_extent (get_or bs i d)) (cell (pos x) (pos y))) (get_or bs i d).mass t) (had.at x y hx hy)
      ∙ sym (next_block bs i d (cell (pos x) (pos y)) inside);
}

-- ---- the limits of blocks

block_in : (nx ny : ℕ) (b : Block) → is_block nx ny b ≡ true → IsBlockIn nx ny b
block_in nx ny b e =
    let mass = and_parts (nat_le b.x0 b.x1 && nat_lt b.x1 nx && nat_le b.y0 b.y1 && nat_lt b.y1 ny) (nat_le b.mass (2 ^ 30)) e in
    let north = and_parts (nat_le b.x0 b.x1 && nat_lt b.x1 nx && nat_le b.y0 b.y1) (nat_lt b.y1 ny) mass.0 in
    let high = and_parts (nat_le b.x0 b.x1 && nat_lt b.x1 nx) (nat_le b.y0 b.y1) north.0 in
    let wide = and_parts (nat_le b.x0 b.x1) (nat_lt b.x1 nx) high.0 in
    record { wide = leb-true b.x0 b.x1 wide.0; east = ltb-true b.x1 nx wide.1; high = leb-true b.y0 b.y1 high.1; north = ltb-true b.y1 ny north.1; mass = leb-true b.mass (2 ^ 30) mass.1 }

pub block_at : (nx ny : ℕ) (bs : List Block) (i : ℕ) (d : Block) → i < length bs → list_all (is_block nx ny) bs ≡ true → IsBlockIn nx ny (get_or bs i d)
block_at nx ny bs i d inside all = at (is_block nx ny (get_or bs i d)) refl
  where
    at : (t : Bool) → is_block nx ny (get_or bs i d) ≡ t → IsBlockIn nx ny (get_or bs i d)
    at true e = block_in nx ny (get_or bs i d) e
    at false e = let no = list_all_at (is_block nx ny) bs i d inside e in cc

abbrev pub zeros : ℕ → List ℕ
zeros n = replicate n 0

zero_at : (n k : ℕ) → get_or (zeros n) k 0 ≡ 0
zero_at n k = at_each (cases_lt k n)
  where
    at_each : (k < n) ⊎ (n ≤ k) → get_or (zeros n) k 0 ≡ 0
    at_each (inl inside) = get_or-replicate n k 0 0 inside
    at_each (inr past) = get_or_past (zeros n) k 0 (subst (λ (m : ℕ). m ≤ k) (sym (length-replicate {A = ℕ} n 0)) past)

-- a list of zeros, filled by no block
pub none_yet : (w h : ℕ) (bs : List Block) (ms : List ℕ) → ms ≡ zeros (h * w) → HasMore w h bs 0 ms
none_yet w h bs ms is = record {
  count = ap length is ∙ length-replicate {A = ℕ} (h * w) 0;
  small = λ k. rw (here k) (omega arith);
  at = λ x y hx hy. here (y * w + x);
}
  where
    here : (k : ℕ) → get_or ms k 0 ≡ 0
    here k = ap (λ (l : List ℕ). get_or l k 0) is ∙ zero_at (h * w) k
