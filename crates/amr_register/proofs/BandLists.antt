-- The cells of bands, one behind the other.
use Rattle.std.proofs.Common.{◌≡◌, ◌∙◌, ℕ, zero, suc, ◌+◌, ◌-◌, ◌*◌, ◌/◌, ◌%◌, ◌<◌, ◌≤◌, min, Bool, true, ◌&&◌, ◌⊎◌, inl, inr, ℤ, pos, ◌-ℤ◌, ◌≤ℤ◌, ◌<ℤ◌, List, [], ◌∷◌, ◌++◌, length, int_cmp, refl, sym, ap, subst, arith}
use Rattle.std.specs.Prelude.{slice_index_or}
use Rattle.std.specs.List.{AllByRecursion, Contains}
use Rattle.std.specs.List.Sorted.{IsStrictlySortedBy}
use Rattle.std.specs.Ordering.{MatchOrdering}
use Rattle.std.specs.declared.cmp.Ordering.{Ordering}
use Rattle.std.specs.declared.cmp.Ordering.TheVariants.{Equal, Greater, Less}
use Rattle.std.specs.Cmp.{int_ranks}
use Rattle.std.proofs.lemmas.Int.{ints}
use Rattle.std.proofs.lemmas.Bool.{and_from, and_parts}
use Rattle.std.proofs.lemmas.Grind.{div_ceil_times}
use Rattle.std.proofs.lemmas.List.{get_or-append_right, get_or_append_left, length-append}
use Rattle.std.proofs.lemmas.List.Elements.{Contains-append_cases, Contains-append_left, Contains-append_right}
use Rattle.std.proofs.lemmas.List.Kept.{IsStrictlySortedBy-filter}
use Rattle.std.proofs.lemmas.Nat.{div-add-mod', mul-le}
use Rattle.amr_box.specs.declared.Cell.{Cell}
use Rattle.amr_box.specs.Cells.{cells_of, within}
use Rattle.amr_box.proofs.Numbers.{is_between}
use Rattle.amr_def.specs.declared.problem.Problem.{Problem}
use Rattle.amr_def.specs.Domain.{Domain, cells_where, domain, domain_box}
use Rattle.amr_def.specs.State.{Masses, is_covered}
use Rattle.amr_patch.proofs.Rows.{IsBetween, between}
use Rattle.amr_register.specs.declared.bands.Band.{Band}
use Rattle.amr_register.specs.declared.sides.CoveredSides.{CoveredSides}
use Rattle.amr_register.specs.Bands.{IsBandOf, IsWhole}
use Rattle.amr_register.specs.Beside.{HasSides, HaveSides}
use Rattle.amr_register.specs.Entries.{row_cmp}
use Rattle.amr_register.specs.RegisterCells.{is_register_cell}
use Rattle.amr_register.proofs.CellLists.{where_among, where_inside, where_passes}
use Rattle.amr_register.proofs.Homes.{within_domain}
use Rattle.amr_register.proofs.RowOrder.{cells_sorted, less_by_row, same_sorted, sorted_append}

pub where_sorted : (d : Domain) (test : Cell → Bool) → IsStrictlySortedBy row_cmp (cells_where d test)
where_sorted d test = IsStrictlySortedBy-filter row_cmp test (cells_of (domain_box d)) (cells_sorted (domain_box d))

among_more : (z c : Cell) (zs : List Cell) → Contains zs c → Contains (z ∷ zs) c
among_more z c zs (k, lt, e) = (suc k, omega arith, e)

each_of : (P : Cell → Type 0) (xs : List Cell) → ((q : Cell) → Contains xs q → P q) → AllByRecursion P xs
each_of P [] f = tt
each_of P (x ∷ xs) f = (f x (0, omega arith, refl), each_of P xs (λ q h. f q (among_more x q xs h)))

nothing_there : (cs : List Cell) → ((q : Cell) → Contains cs q → ⊥) → cs ≡ []
nothing_there [] f = refl
nothing_there (x ∷ xs) f = absurd (f x (0, omega arith, refl))

-- ---- cells of some rows that pass a test

module _ (d : Domain) (t : Cell → Bool) where
  abbrev from_to : ℤ → ℤ → Cell → Bool
  from_to low high c = within low high c.y && t c

  in_rows : (low high : ℤ) (c : Cell) → Contains (cells_where d (from_to low high)) c → IsBetween low high c.y
  in_rows low high c h = between low high c.y (and_parts (within low high c.y) (t c) (where_passes d (from_to low high) c h)).0

  tested : (low high : ℤ) (c : Cell) → Contains (cells_where d (from_to low high)) c → t c ≡ true
  tested low high c h = (and_parts (within low high c.y) (t c) (where_passes d (from_to low high) c h)).1

  -- such a cell is one of other rows too, if it lies in them
  of_others : (low high low' high' : ℤ) (c : Cell) → low' ≤ℤ c.y → c.y ≤ℤ high' → Contains (cells_where d (from_to low high)) c → Contains (cells_where d (from_to low' high')) c
  of_others low high low' high' c h k m =
      where_among d (from_to low' high') c (where_inside d (from_to low high) c m) (and_from (within low' high' c.y) (t c) (is_between low' high' c.y h k) (tested low high c m))

  -- no row, no cell
  pub none_yet : (n : ℕ) → n ≡ 0 → cells_where d (from_to (pos 0) (pos n -ℤ pos 1)) ≡ []
  none_yet n e = nothing_there (cells_where d (from_to (pos 0) (pos n -ℤ pos 1))) (λ q h. let b = in_rows (pos 0) (pos n -ℤ pos 1) q h in omega (arith, ints, e, b.from, b.to))

  -- the cells of all rows
  pub all_rows : (n : ℕ) → d.rows ≤ n → cells_where d (from_to (pos 0) (pos n -ℤ pos 1)) ≡ cells_where d t
  all_rows n enough =
      let few = from_to (pos 0) (pos n -ℤ pos 1) in
      same_sorted (cells_where d few) (cells_where d t) (where_sorted d few) (where_sorted d t)
      (λ c h. where_among d t c (where_inside d few c h) (tested (pos 0) (pos n -ℤ pos 1) c h))
      (λ c h.
      let inside = where_inside d t c h in
      let w = within_domain d c inside in
      where_among d few c inside (and_from (within (pos 0) (pos n -ℤ pos 1) c.y) (t c) (is_between (pos 0) (pos n -ℤ pos 1) c.y w.south (omega (arith, ints, w.north, enough))) (where_passes d t c h)))

  module _ (low seam high : ℤ) (up : low ≤ℤ seam) (on : (seam -ℤ pos 1) ≤ℤ high) where
    abbrev lower : List Cell
    lower = cells_where d (from_to low (seam -ℤ pos 1))

    abbrev upper : List Cell
    upper = cells_where d (from_to seam high)

    both_sorted : IsStrictlySortedBy row_cmp (lower ++ upper)
    both_sorted =
        sorted_append lower upper (where_sorted d (from_to low (seam -ℤ pos 1))) (where_sorted d (from_to seam high))
        (each_of (λ x. AllByRecursion (λ y. row_cmp x y ≡ Less) upper) lower (λ x h. each_of (λ y. row_cmp x y ≡ Less) upper (λ y k.
        let a = in_rows low (seam -ℤ pos 1) x h in
        let b = in_rows seam high y k in
        less_by_row x y (omega (arith, ints, a.to, b.from)))))

    over : (c : Cell) → Contains (lower ++ upper) c → Contains (cells_where d (from_to low high)) c
    over c h = cases (Contains-append_cases lower upper c h)
      where
        cases : Contains lower c ⊎ Contains upper c → Contains (cells_where d (from_to low high)) c
        cases (inl m) = let a = in_rows low (seam -ℤ pos 1) c m in of_others low (seam -ℤ pos 1) low high c a.from (omega (arith, ints, a.to, on)) m
        cases (inr m) = let b = in_rows seam high c m in of_others seam high low high c (omega (arith, ints, b.from, up)) b.to m

    back : (c : Cell) → Contains (cells_where d (from_to low high)) c → Contains (lower ++ upper) c
    back c m = by_order (int_cmp c.y seam) (int_ranks c.y seam)
      where
        b : IsBetween low high c.y
        b = in_rows low high c m

        by_order : (o : Ordering) → MatchOrdering o (c.y <ℤ seam) (c.y ≡ seam) (seam <ℤ c.y) → Contains (lower ++ upper) c
        by_order Less h = Contains-append_left lower upper c (of_others low high low (seam -ℤ pos 1) c b.from (omega (arith, ints, h)) m)
        by_order Equal h = Contains-append_right lower upper c (of_others low high seam high c (omega (arith, ints, h)) b.to m)
        by_order Greater h = Contains-append_right lower upper c (of_others low high seam high c (omega (arith, ints, h)) b.to m)

    -- the cells of some rows, and behind them those of the next rows
    pub one_behind_the_other : cells_where d (from_to low (seam -ℤ pos 1)) ++ cells_where d (from_to seam high) ≡ cells_where d (from_to low high)
    one_behind_the_other = same_sorted (lower ++ upper) (cells_where d (from_to low high)) both_sorted (where_sorted d (from_to low high)) over back

-- ---- their sides

either_side : (k n : ℕ) → (k < n) ⊎ (n ≤ k)
either_side k zero = inr (omega arith)
either_side zero (suc n) = inl (omega arith)
either_side (suc k) (suc n) = more (either_side k n)
  where
    more : (k < n) ⊎ (n ≤ k) → (suc k < suc n) ⊎ (suc n ≤ suc k)
    more (inl t) = inl (omega (arith, t))
    more (inr t) = inr (omega (arith, t))

pub sides_behind : (d : Domain) (covered : Cell → Bool) (xs ys : List Cell) (ss ts : List CoveredSides) → length ss ≡ length xs → HaveSides d covered xs ss → HaveSides d covered ys ts → HaveSides d covered (xs ++ ys) (ss ++ ts)
sides_behind d covered xs ys ss ts e h g k c s lt = by_place (either_side k (length xs))
  where
    by_place : (k < length xs) ⊎ (length xs ≤ k) → HasSides d covered (slice_index_or (xs ++ ys) k c) (slice_index_or (ss ++ ts) k s)
    by_place (inl under) =
        let cells : slice_index_or (xs ++ ys) k c ≡ slice_index_or xs k c = get_or_append_left xs ys c k under in
        let sides : slice_index_or (ss ++ ts) k s ≡ slice_index_or ss k s = get_or_append_left ss ts s k (omega (arith, e, under)) in
        subst (λ (q : Cell). HasSides d covered q (slice_index_or (ss ++ ts) k s)) (sym cells) (subst (λ (r : CoveredSides). HasSides d covered (slice_index_or xs k c) r) (sym sides) (h k c s under))
    by_place (inr past) =
        let n = length xs in
        let cells : slice_index_or (xs ++ ys) k c ≡ slice_index_or ys (k - n) c = get_or-append_right xs ys n k c refl past in
        let sides : slice_index_or (ss ++ ts) k s ≡ slice_index_or ts (k - n) s = get_or-append_right ss ts n k s e past in
        let there : k - n < length ys = omega (arith, lt, length-append xs ys, past) in
        subst (λ (q : Cell). HasSides d covered q (slice_index_or (ss ++ ts) k s)) (sym cells) (subst (λ (r : CoveredSides). HasSides d covered (slice_index_or ys (k - n) c) r) (sym sides) (g (k - n) c s there))

-- ---- bands

module _ (p : Problem) (l : ℕ) (m fine : Masses) where
  abbrev test : Cell → Bool
  test = is_register_cell (domain p l) m fine

  -- a band of no rows
  pub nothing : (b : Band) (n : ℕ) → b.cells.items ≡ [] → b.sides.items ≡ [] → n ≡ 0 → IsBandOf p l m fine (pos 0) (pos n -ℤ pos 1) b
  nothing b n cells sides e = record {
    cells = cells ∙ sym (none_yet (domain p l) test n e);
    sides = λ k c s lt. absurd (omega (arith, lt, ap length cells));
    side_count = ap length sides ∙ sym (ap length cells);
  }

  -- the next band was added
  pub added : (n size : ℕ) (a b c : Band) → c.cells.items ≡ a.cells.items ++ b.cells.items → c.sides.items ≡ a.sides.items ++ b.sides.items → IsBandOf p l m fine (pos 0) (pos (n * size) -ℤ pos 1) a → IsBandOf p l m fine (pos (n * size)) (pos ((n + 1) * size) -ℤ pos 1) b → IsBandOf p l m fine (pos 0) (pos ((n + 1) * size) -ℤ pos 1) c
  added n size a b c cells sides h g = record {
    cells = cells ∙ (λ i. h.cells i ++ g.cells i) ∙ one_behind_the_other (domain p l) test (pos 0) (pos (n * size)) (pos ((n + 1) * size) -ℤ pos 1) (omega (arith, ints)) (omega (arith, ints));
    sides = subst (λ (cs : List Cell). HaveSides (domain p l) (is_covered fine) cs c.sides.items) (sym cells) (subst (λ (ss : List CoveredSides). HaveSides (domain p l) (is_covered fine) (a.cells.items ++ b.cells.items) ss) (sym sides) (sides_behind (domain p l) (is_covered fine) a.cells.items b.cells.items a.sides.items b.sides.items h.side_count h.sides g.sides));
    side_count = ap length sides ∙ length-append a.sides.items b.sides.items ∙ (λ i. h.side_count i + g.side_count i) ∙ sym (length-append a.cells.items b.cells.items) ∙ sym (ap length cells);
  }

  -- the band of all rows
  pub whole : (n : ℕ) (b : Band) → (domain p l).rows ≤ n → IsBandOf p l m fine (pos 0) (pos n -ℤ pos 1) b → IsWhole p l m fine b
  whole n b enough h = record { cells = h.cells ∙ all_rows (domain p l) test n enough; sides = h.sides; side_count = h.side_count }

-- so many belts have all rows
pub enough_rows : (rows n : ℕ) → 0 < n → rows ≤ n * (rows / n + 1)
enough_rows rows n some =
    let ceil : rows ≤ (rows / n + min 1 (rows % n)) * n = (div_ceil_times rows n some).0 in
    let more : (rows / n + min 1 (rows % n)) * n ≤ (rows / n + 1) * n = mul-le (rows / n + min 1 (rows % n)) n (rows / n + 1) n (omega arith) (omega arith) in
    let turned : (rows / n + 1) * n ≡ n * (rows / n + 1) = grind arith in
    omega (arith, ceil, more, turned)

-- and no belt has more rows than this
pub small_belt : (rows n : ℕ) → 0 < n → rows ≤ 4096 → rows / n + 1 ≤ 4097
small_belt rows n some few =
    let least : rows / n * 1 ≤ rows / n * n = mul-le (rows / n) 1 (rows / n) n (omega arith) some in
    omega (arith, few, least, div-add-mod' rows n)
