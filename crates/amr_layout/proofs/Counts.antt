-- How many faces stand on the edges of a level's patches, and how many register cells there are: their numbers are far below what
-- numbers of 32 bits tell apart. Patches have no cell in common, so at most four faces stand for each cell of the level.
use Rattle.std.proofs.Common.{◌≡◌, ℕ, zero, suc, ◌+◌, ◌-◌, ◌*◌, ◌^◌, ◌<◌, ◌≤◌, ◌⊎◌, true, false, ◌&&◌, cond, List, [], ◌∷◌, length, get_or, pos, ◌+ℤ◌, ◌-ℤ◌, ◌≤ℤ◌, ◌<ℤ◌, refl, sym, ap, inl, inr, arith}
use Rattle.std.specs.Prelude.{Err, Ok, OnOk, Result}
use Rattle.std.specs.List.{All}
use Rattle.std.proofs.lemmas.Int.{ints}
use Rattle.std.proofs.lemmas.Bool.{cases_Bool, false_from_ne_true}
use Rattle.std.proofs.lemmas.Nat.{mul-le}
use Rattle.std.proofs.Math.Nat.{mul-le-mul_left, mul-le-mul_right}
use Rattle.amr_box.specs.declared.Cell.{Cell}
use Rattle.amr_box.specs.Cells.{Extent, at_least_zero, cell, height, holds, is_same_cell, width}
use Rattle.amr_box.proofs.Numbers.{at_least_zero-same, is_between}
use Rattle.amr_def.specs.declared.problem.Problem.{Problem}
use Rattle.amr_def.specs.Domain.{columns, domain, in_domain, rows}
use Rattle.amr_def.specs.Ledger.{sum_to}
use Rattle.amr_def.proofs.Nesting.{in_domain-inside}
use Rattle.amr_def.proofs.Sizes.{doubled_small}
use Rattle.amr_patch.specs.declared.patches.Patch.{Patch}
use Rattle.amr_patch.specs.Orders.{comes_first}
use Rattle.amr_patch.specs.Patches.{ArePatchesApart, box}
use Rattle.amr_patch.proofs.Rows.{is_inside, place_within}
use Rattle.amr_faces.specs.Faces.{IsInDomain}
use Rattle.amr_phase.specs.Plans.{total}
use Rattle.amr_layout.specs.Adds.{AreInOrder, HasRegisterCells}
use Rattle.amr_layout.specs.Surroundings.{Around, edge_count}
use Rattle.amr_layout.proofs.Totals.{total_most}

-- ---- sums

sum_add : (f g : ℕ → ℕ) (n : ℕ) → sum_to (λ k. f k + g k) n ≡ sum_to f n + sum_to g n
sum_add f g zero = refl
sum_add f g (suc n) = let rest = sum_add f g n in omega (arith, rest)

sum_none : (n : ℕ) → sum_to (λ k. 0) n ≡ 0
sum_none zero = refl
sum_none (suc n) = let rest = sum_none n in omega (arith, rest)

sum_most : (f : ℕ → ℕ) (v n : ℕ) → ((k : ℕ) → f k ≤ v) → sum_to f n ≤ n * v
sum_most f v zero h = omega arith
sum_most f v (suc n) h = let rest : sum_to f n ≤ n * v = sum_most f v n h in let here : f n ≤ v = h n in let r : sum_to f n + f n ≤ suc n * v = omega (arith, rest, here) in r

-- n values one after another, each at least v
sum_run : (f : ℕ → ℕ) (a v n : ℕ) → ((k : ℕ) → k < n → v ≤ f (a + k)) → n * v ≤ sum_to f (a + n)
sum_run f a v zero h = omega arith
sum_run f a v (suc n) h =
    let rest : n * v ≤ sum_to f (a + n) = sum_run f a v n (λ k lt. h k (omega (arith, lt))) in
    let here : v ≤ f (a + n) = h n (omega arith) in
    let step : sum_to f (a + suc n) ≡ sum_to f (a + n) + f (a + n) = let e : a + suc n ≡ suc (a + n) = omega arith in ap (sum_to f) e in
    let r : suc n * v ≤ sum_to f (a + suc n) = omega (arith, rest, here, step) in r

sum_longer : (f : ℕ → ℕ) (m n : ℕ) → sum_to f m ≤ sum_to f (m + n)
sum_longer f m zero = let e : sum_to f (m + zero) ≡ sum_to f m = (let e : m + zero ≡ m = omega arith in ap (sum_to f) e) in omega (arith, e)
sum_longer f m (suc n) =
    let rest : sum_to f m ≤ sum_to f (m + n) = sum_longer f m n in
    let step : sum_to f (m + suc n) ≡ sum_to f (m + n) + f (m + n) = let e : m + suc n ≡ suc (m + n) = omega arith in ap (sum_to f) e in
    omega (arith, rest, step)

-- within the first m values
sum_within : (f : ℕ → ℕ) (a v n m : ℕ) → a + n ≤ m → ((k : ℕ) → k < n → v ≤ f (a + k)) → n * v ≤ sum_to f m
sum_within f a v n m le h =
    let rest : n * v ≤ sum_to f (a + n) = sum_run f a v n h in
    let more : sum_to f (a + n) ≤ sum_to f (a + n + (m - (a + n))) = sum_longer f (a + n) (m - (a + n)) in
    let e : a + n + (m - (a + n)) ≡ m = omega (arith, le) in
    let all : sum_to f (a + n + (m - (a + n))) ≡ sum_to f m = ap (sum_to f) e in
    omega (arith, rest, more, all)

module _ {A : Type 0} where
  -- sums over a list of sums up to n, the other way round
  sums_turned : (g : A → ℕ → ℕ) (n : ℕ) (xs : List A) → total (λ x. sum_to (g x) n) xs ≡ sum_to (λ k. total (λ x. g x k) xs) n
  sums_turned g n [] = sym (sum_none n)
  sums_turned g n (x ∷ xs) =
      let rest = sums_turned g n xs in
      let add = sum_add (g x) (λ k. total (λ y. g y k) xs) n in
      omega (arith, rest, add)

-- ---- the cells of one box

at_cell : Cell → Extent → ℕ
at_cell c b = cond (holds b c) 1 0

is_held : (b : Extent) (x y : ℕ) → b.lo.x ≤ℤ pos x → pos x ≤ℤ b.hi.x → b.lo.y ≤ℤ pos y → pos y ≤ℤ b.hi.y → at_cell (cell (pos x) (pos y)) b ≡ 1
unfolding at_cell
is_held b x y west east south north = (λ i. cond (is_between b.lo.x b.hi.x (pos x) west east i && is_between b.lo.y b.hi.y (pos y) south north i) 1 0)

-- how many of the first columns and rows of cells a box has
pub cells_among : ℕ → ℕ → Extent → ℕ
cells_among w h b = sum_to (λ j. sum_to (λ i. at_cell (cell (pos i) (pos j)) b) w) h

pub record IsAmong (w h : ℕ) (b : Extent) : Type 0 where
  pub wide : b.lo.x ≤ℤ b.hi.x
  pub high : b.lo.y ≤ℤ b.hi.y
  pub west : pos 0 ≤ℤ b.lo.x
  pub south : pos 0 ≤ℤ b.lo.y
  pub east : b.hi.x <ℤ pos w
  pub north : b.hi.y <ℤ pos h

module _ (w h : ℕ) (b : Extent) (in_all : IsAmong w h b) where
  x0 : ℕ
  x0 = at_least_zero b.lo.x

  y0 : ℕ
  y0 = at_least_zero b.lo.y

  west_is : pos x0 ≡ b.lo.x
  unfolding x0
  west_is = at_least_zero-same b.lo.x in_all.west

  south_is : pos y0 ≡ b.lo.y
  unfolding y0
  south_is = at_least_zero-same b.lo.y in_all.south

  wide_is : pos (width b) ≡ b.hi.x +ℤ pos 1 -ℤ b.lo.x
  wide_is = at_least_zero-same (b.hi.x +ℤ pos 1 -ℤ b.lo.x) (omega (arith, ints, in_all.wide))

  high_is : pos (height b) ≡ b.hi.y +ℤ pos 1 -ℤ b.lo.y
  high_is = at_least_zero-same (b.hi.y +ℤ pos 1 -ℤ b.lo.y) (omega (arith, ints, in_all.high))

  here : (i j : ℕ) → i < width b → j < height b → 1 ≤ at_cell (cell (pos (x0 + i)) (pos (y0 + j))) b
  here i j x_lt y_lt =
      let e : at_cell (cell (pos (x0 + i)) (pos (y0 + j))) b ≡ 1 =
      is_held b (x0 + i) (y0 + j) (omega (arith, ints, west_is)) (omega (arith, ints, west_is, wide_is, x_lt)) (omega (arith, ints, south_is)) (omega (arith, ints, south_is, high_is, y_lt)) in
      omega (arith, e)

  all_cells : height b * width b ≤ cells_among w h b
  unfolding cells_among
  all_cells =
      sum_within (λ j. sum_to (λ i. at_cell (cell (pos i) (pos j)) b) w) y0 (width b) (height b) h (omega (arith, ints, south_is, high_is, in_all.north))
      (λ j y_lt.
      let row : width b * 1 ≤ sum_to (λ i. at_cell (cell (pos i) (pos (y0 + j))) b) w = sum_within (λ i. at_cell (cell (pos i) (pos (y0 + j))) b) x0 1 (width b) w (omega (arith, ints, west_is, wide_is, in_all.east)) (λ i x_lt. here i j x_lt y_lt) in
      omega (arith, row))

  pub few_edges : edge_count b ≤ 4 * cells_among w h b
  few_edges =
      let columns : 1 ≤ width b = omega (arith, ints, wide_is, in_all.wide) in
      let rows : 1 ≤ height b = omega (arith, ints, high_is, in_all.high) in
      let tall : height b * 1 ≤ height b * width b = mul-le-mul_left (height b) columns in
      let broad : 1 * width b ≤ height b * width b = mul-le-mul_right (width b) rows in
      omega (arith, all_cells, tall, broad)

-- ---- the cells of patches

none_held : (c : Cell) (ps : List Patch) → ((k : ℕ) (q : Patch) → k < length ps → holds (box (get_or ps k q)) c ≡ true → ⊥) → total (λ q. at_cell c (box q)) ps ≡ 0
unfolding at_cell
none_held c [] h = refl
none_held c (p ∷ ps) h =
    let not_here : holds (box p) c ≡ false = false_from_ne_true (holds (box p) c) (h 0 p (omega arith)) in
    let rest : total (λ q. cond {A = ℕ} (holds (box q) c) 1 0) ps ≡ 0 = none_held c ps (λ k q lt. h (suc k) q (omega (arith, lt))) in
    let first : cond {A = ℕ} (holds (box p) c) 1 0 ≡ 0 = ap (λ t. cond {A = ℕ} t 1 0) not_here in
    omega (arith, first, rest)

-- each cell is one of a patch at most
held_once : (c : Cell) (ps : List Patch) → ArePatchesApart ps → total (λ q. at_cell c (box q)) ps ≤ 1
unfolding at_cell
held_once c [] apart = omega arith
held_once c (p ∷ ps) apart = from (held_once c ps (λ i j q lt below. apart (suc i) (suc j) q (omega (arith, lt)) (omega (arith, below)))) (cases_Bool (holds (box p) c))
  where
    from : total (λ q. cond {A = ℕ} (holds (box q) c) 1 0) ps ≤ 1 → (holds (box p) c ≡ true) ⊎ (holds (box p) c ≡ false) → cond {A = ℕ} (holds (box p) c) 1 0 + total (λ q. cond {A = ℕ} (holds (box q) c) 1 0) ps ≤ 1
    from rest (inl held) =
        let others : total (λ q. cond {A = ℕ} (holds (box q) c) 1 0) ps ≡ 0 = none_held c ps (λ k q lt also. apart 0 (suc k) q (omega arith) (omega (arith, lt)) c held also) in
        let first : cond {A = ℕ} (holds (box p) c) 1 0 ≡ 1 = ap (λ t. cond {A = ℕ} t 1 0) held in
        omega (arith, first, others)
    from rest (inr not_held) =
        let first : cond {A = ℕ} (holds (box p) c) 1 0 ≡ 0 = ap (λ t. cond {A = ℕ} t 1 0) not_held in
        omega (arith, first, rest)

all_cells_once : (w h : ℕ) (ps : List Patch) → ArePatchesApart ps → total (λ q. cells_among w h (box q)) ps ≤ h * w
unfolding cells_among
all_cells_once w h ps apart =
    let by_rows = sums_turned (λ (q : Patch) j. sum_to (λ i. at_cell (cell (pos i) (pos j)) (box q)) w) h ps in
    let most = sum_most (λ j. total (λ (q : Patch). sum_to (λ i. at_cell (cell (pos i) (pos j)) (box q)) w) ps) w h (λ j.
    let by_columns = sums_turned (λ (q : Patch) i. at_cell (cell (pos i) (pos j)) (box q)) w ps in
    let row = sum_most (λ i. total (λ (q : Patch). at_cell (cell (pos i) (pos j)) (box q)) ps) 1 w (λ i. held_once (cell (pos i) (pos j)) ps apart) in
    omega (arith, by_columns, row)) in
    omega (arith, by_rows, most)

-- a domain of level 4 at most has at most 4096 rows and columns
cells_of_domain : (p : Problem) (l : ℕ) → l ≤ 4 → rows p l * columns p l ≤ 2 ^ 24
cells_of_domain p l few = mul-le (rows p l) (columns p l) 4096 4096 (doubled_small p.ny l p.limits.greatest_ny few) (doubled_small p.nx l p.limits.greatest_nx few)

among_domain : (p : Problem) (l : ℕ) (q : Patch) → IsInDomain (domain p l) (box q) → IsAmong (columns p l) (rows p l) (box q)
among_domain p l q inside =
    let b = box q in
    let low = in_domain-inside p l b.lo (inside.at b.lo (is_inside b b.lo (record { west = omega (arith, ints); east = q.near.wide; south = omega (arith, ints); north = q.near.high }))) in
    let high = in_domain-inside p l b.hi (inside.at b.hi (is_inside b b.hi (record { west = q.near.wide; east = omega (arith, ints); south = q.near.high; north = omega (arith, ints) }))) in
    record { wide = q.near.wide; high = q.near.high; west = low.west; south = low.south; east = high.east; north = high.north }

-- at most four faces for each cell of the domain
pub faces_few : (p : Problem) (l : ℕ) (ps : List Patch) → l ≤ 4 → ArePatchesApart ps → All (λ q. IsInDomain (domain p l) (box q)) ps → total (λ q. edge_count (box q)) ps ≤ 2 ^ 26
faces_few p l ps few apart inside =
    let w = columns p l in
    let h = rows p l in
    let each : total (λ (q : Patch). edge_count (box q)) ps ≤ 4 * total (λ (q : Patch). cells_among w h (box q)) ps =
    total_most (λ (q : Patch). edge_count (box q)) (λ (q : Patch). cells_among w h (box q)) 4 ps (λ k q lt. few_edges w h (box (get_or ps k q)) (among_domain p l (get_or ps k q) (inside k q lt))) in
    omega (arith, each, all_cells_once w h ps apart, cells_of_domain p l few)

-- ---- register cells

-- where a cell stands in the domain, row by row
place_of : ℕ → Cell → ℕ
place_of w c = at_least_zero c.y * w + at_least_zero c.x

record IsWithin (w h : ℕ) (c : Cell) : Type 0 where
  west : pos (at_least_zero c.x) ≡ c.x
  south : pos (at_least_zero c.y) ≡ c.y
  east : at_least_zero c.x < w
  north : at_least_zero c.y < h

within_domain : (p : Problem) (l : ℕ) (c : Cell) → in_domain (domain p l) c ≡ true → IsWithin (columns p l) (rows p l) c
within_domain p l c there =
    let h = in_domain-inside p l c there in
    let x : pos (at_least_zero c.x) ≡ c.x = at_least_zero-same c.x h.west in
    let y : pos (at_least_zero c.y) ≡ c.y = at_least_zero-same c.y h.south in
    record { west = x; south = y; east = omega (arith, ints, x, h.east); north = omega (arith, ints, y, h.north) }

comes_after : (a b : Cell) → comes_first a b ≡ true → is_same_cell a b ≡ false → (a.y <ℤ b.y) ⊎ ((a.y ≤ℤ b.y) × (a.x <ℤ b.x))
comes_after a b first other = grind (arith, ints)

stands_after : (w h : ℕ) (a b : Cell) → IsWithin w h a → IsWithin w h b → (a.y <ℤ b.y) ⊎ ((a.y ≤ℤ b.y) × (a.x <ℤ b.x)) → place_of w a < place_of w b
unfolding place_of
stands_after w h a b in_a in_b (inl below) =
    let rise : at_least_zero a.y + 1 ≤ at_least_zero b.y = omega (arith, ints, in_a.south, in_b.south, below) in
    let times : (at_least_zero a.y + 1) * w ≤ at_least_zero b.y * w = mul-le-mul_right w rise in
    omega (arith, times, in_a.east)
stands_after w h a b in_a in_b (inr (level, left)) =
    let rise : at_least_zero a.y ≤ at_least_zero b.y = omega (arith, ints, in_a.south, in_b.south, level) in
    let times : at_least_zero a.y * w ≤ at_least_zero b.y * w = mul-le-mul_right w rise in
    omega (arith, times, ints, in_a.west, in_b.west, left)

module _ (w h : ℕ) (cells : List Cell) (ordered : AreInOrder cells) (within : All (IsWithin w h) cells) where
  -- each stands past as many places as there are cells before it
  stands_at : (k : ℕ) (c : Cell) → k < length cells → k ≤ place_of w (get_or cells k c)
  stands_at zero c lt = omega arith
  stands_at (suc k) c lt =
      let before : k ≤ place_of w (get_or cells k c) = stands_at k c (omega arith) in
      let next = ordered k (suc k) c (omega arith) lt in
      let up = stands_after w h (get_or cells k c) (get_or cells (suc k) c) (within k c (omega arith)) (within (suc k) c lt)
      (comes_after (get_or cells k c) (get_or cells (suc k) c) next.0 (false_from_ne_true (is_same_cell (get_or cells k c) (get_or cells (suc k) c)) next.1)) in
      omega (arith, before, up)

  no_more : length cells ≤ h * w
  unfolding place_of
  no_more = from (length cells) refl
    where
      from : (n : ℕ) → length cells ≡ n → length cells ≤ h * w
      from zero e = omega (arith, e)
      from (suc n) e =
          let z = cell (pos 0) (pos 0) in
          let lt : n < length cells = omega (arith, e) in
          let at : n ≤ at_least_zero (get_or cells n z).y * w + at_least_zero (get_or cells n z).x = stands_at n z lt in
          let in_all = place_within (at_least_zero (get_or cells n z).y) (at_least_zero (get_or cells n z).x) w h (within n z lt).north (within n z lt).east in
          omega (arith, e, at, in_all)

-- at most one register cell for each cell of the coarser domain
pub cells_few : (s : Around) → s.level ≤ 4 → HasRegisterCells s → length s.cells ≤ 2 ^ 24
cells_few s few has =
    let l = s.level - 1 in
    let low : l ≤ 4 = omega (arith, few) in
    let most = no_more (columns s.problem l) (rows s.problem l) s.cells has.ordered (λ k c lt. within_domain s.problem l (get_or s.cells k c) (has.inside k c lt)) in
    omega (arith, most, cells_of_domain s.problem l low)

-- what holds anyway holds where there is a result
pub on_ok : {T E P : Type 0} (r : Result T E) → P → OnOk r P
on_ok (Ok x) h = h
on_ok (Err e) h = tt
