-- The children of a cell, and the cells that they stand for on periodic axes.
use Rattle.std.proofs.Common.{◌≡◌, ◌∙◌, ℕ, zero, suc, ◌+◌, ◌*◌, ◌%◌, ◌/◌, ◌^◌, ◌<◌, ◌≤◌, Bool, true, false, ℤ, pos, negsuc, ◌+ℤ◌, refl, sym, ap, arith}
use Rattle.std.specs.Prelude.{is_some}
use Rattle.std.proofs.lemmas.Int.{ints}
use lib.Arith.{mod-mul}
use Rattle.amr_box.specs.declared.Cell.{Cell}
use Rattle.amr_box.specs.Cells.{cell, half, parent}
use Rattle.amr_def.specs.declared.problem.Problem.{Problem}
use Rattle.amr_def.specs.Domain.{domain, home_cell, is_periodic, wrapped}
use Rattle.amr_def.specs.Regrid.{odd}
use Rattle.amr_def.specs.State.{Masses, is_covered}
use Rattle.amr_def.proofs.Courants.{power_positive, some_columns, twice_as_many}
use Rattle.amr_def.proofs.LevelLists.{HasAllChildren, IsCellInside}
use Rattle.amr_def.proofs.Nesting.{odd_small}
use Rattle.amr_def.proofs.Nests.{half_and_odd}
use Rattle.amr_def.proofs.Uncovered.{child_inside, half-double, half-double_next, home_at, no_children}
use Rattle.amr_def.proofs.Values.{same_cell}

-- ---- a child, by its column and its row in the cell

abbrev pub bit : Bool → ℕ
bit false = 0
bit true = 1

abbrev pub child_of : Cell → Bool → Bool → Cell
child_of c a i = cell (c.x +ℤ c.x +ℤ pos (bit a)) (c.y +ℤ c.y +ℤ pos (bit i))

bit_small : (a : Bool) → bit a ≤ 1
bit_small false = omega arith
bit_small true = omega arith

pub plus_none : (z : ℤ) → z +ℤ pos 0 ≡ z
plus_none z = omega (arith, ints)

half_of : (z : ℤ) (a : Bool) → half (z +ℤ z +ℤ pos (bit a)) ≡ z
half_of z false = ap half (plus_none (z +ℤ z)) ∙ half-double z
half_of z true = half-double_next z

pub parent_of : (c : Cell) (a i : Bool) → parent (child_of c a i) ≡ c
parent_of c a i = same_cell (half_of c.x a) (half_of c.y i)

which : (n : ℕ) → n ≤ 1 → (a : Bool) × (n ≡ bit a)
which zero h = (false, refl)
which (suc zero) h = (true, refl)
which (suc (suc n)) h = absurd (omega arith)

half_and : (z h : ℤ) → half z ≡ h → (a : Bool) × (z ≡ h +ℤ h +ℤ pos (bit a))
half_and z h e =
    let a = which (odd z) (odd_small z) in
    (a.0, half_and_odd z ∙ (λ i. e i +ℤ e i +ℤ pos (a.1 i)))

-- each cell is a child of its parent
pub is_child_of : (q c : Cell) → parent q ≡ c → (a : Bool) × ((i : Bool) × (q ≡ child_of c a i))
is_child_of q c e =
    let x = half_and q.x c.x (ap (λ (d : Cell). d.x) e) in
    let y = half_and q.y c.y (ap (λ (d : Cell). d.y) e) in
    (x.0, (y.0, same_cell x.1 y.1))

pub child_of-inside : (p : Problem) (l : ℕ) (c : Cell) (a i : Bool) → IsCellInside p l c → IsCellInside p (suc l) (child_of c a i)
child_of-inside p l c a i inside = child_inside p l c (child_of c a i) (bit a) (bit i) (bit_small a) (bit_small i) refl inside

pub child_of-home : (p : Problem) (l : ℕ) (c : Cell) (a i : Bool) → IsCellInside p l c → home_cell (domain p (suc l)) (child_of c a i) ≡ child_of c a i
child_of-home p l c a i inside = home_at p (suc l) (child_of c a i) (child_of-inside p l c a i inside)

-- ---- on periodic axes

double_mod : (a n i : ℕ) → 0 < n → i < 2 → (a + a + i) % (n + n) ≡ a % n + a % n + i
double_mod a n i some small =
    let twice : n + n ≡ n * 2 = omega arith in
    let halved : (a + a + i) / 2 ≡ a = omega arith in
    let rest : (a + a + i) % 2 ≡ i = omega arith in
    let parts : (a + a + i) % (n * 2) ≡ ((a + a + i) / 2 % n) * 2 + (a + a + i) % 2 = mod-mul (a + a + i) some (omega arith) in
    rw twice (parts ∙ rw (halved, rest) (omega arith))

wrapped_child : (s : Bool) (n : ℕ) (z : ℤ) (a : Bool) → 0 < n → wrapped s (n + n) (z +ℤ z +ℤ pos (bit a)) ≡ wrapped s n z +ℤ wrapped s n z +ℤ pos (bit a)
wrapped_child false n z a some = refl
wrapped_child true n (pos m) a some = ap pos (double_mod m n (bit a) some (let h = bit_small a in omega (arith, h)))
wrapped_child true n (negsuc m) false some =
    let e : negsuc m +ℤ negsuc m +ℤ pos 0 ≡ negsuc (m + m + 1) = omega (arith, ints) in
    ap (wrapped true (n + n)) e ∙ omega (arith, ints, double_mod m n 1 some (omega arith))
wrapped_child true n (negsuc m) true some =
    let e : negsuc m +ℤ negsuc m +ℤ pos 1 ≡ negsuc (m + m + 0) = omega (arith, ints) in
    ap (wrapped true (n + n)) e ∙ omega (arith, ints, double_mod m n 0 some (omega arith))

half_wrapped : (s : Bool) (n l : ℕ) (z : ℤ) (a : Bool) → 0 < n * 2 ^ l → half (wrapped s (n * 2 ^ suc l) (z +ℤ z +ℤ pos (bit a))) ≡ wrapped s (n * 2 ^ l) z
half_wrapped s n l z a some =
    ap (λ (k : ℕ). half (wrapped s k (z +ℤ z +ℤ pos (bit a)))) (twice_as_many n l)
    ∙ ap half (wrapped_child s (n * 2 ^ l) z a some)
    ∙ half_of (wrapped s (n * 2 ^ l) z) a

-- the parent of the cell that a child stands for is the one that its parent stands for
pub parent_home : (p : Problem) (l : ℕ) (c : Cell) (a i : Bool) → parent (home_cell (domain p (suc l)) (child_of c a i)) ≡ home_cell (domain p l) c
parent_home p l c a i =
    same_cell (half_wrapped (is_periodic p.x_sides) p.nx l c.x a (power_positive p.nx l (some_columns p).x))
    (half_wrapped (is_periodic p.y_sides) p.ny l c.y i (power_positive p.ny l (some_columns p).y))

-- ---- covered cells

module _ (fine : Masses) (children : HasAllChildren fine) where
  of_covered : (c : Cell) (a i : Bool) → is_covered fine c ≡ true → is_some (fine (child_of c a i)) ≡ true
  of_covered c false false h = ap (λ (q : Cell). is_some (fine q)) (same_cell (plus_none _) (plus_none _)) ∙ children.k0 c h
  of_covered c true false h = ap (λ (q : Cell). is_some (fine q)) (same_cell refl (plus_none _)) ∙ children.k1 c h
  of_covered c false true h = ap (λ (q : Cell). is_some (fine q)) (same_cell (plus_none _) refl) ∙ children.k2 c h
  of_covered c true true h = children.k3 c h

  of_free : (c : Cell) (a i : Bool) → is_covered fine c ≡ false → is_some (fine (child_of c a i)) ≡ false
  of_free c false false h = ap (λ (q : Cell). is_some (fine q)) (same_cell (plus_none _) (plus_none _)) ∙ ap is_some (no_children fine c h).k0
  of_free c true false h = ap (λ (q : Cell). is_some (fine q)) (same_cell refl (plus_none _)) ∙ ap is_some (no_children fine c h).k1
  of_free c false true h = ap (λ (q : Cell). is_some (fine q)) (same_cell (plus_none _) refl) ∙ ap is_some (no_children fine c h).k2
  of_free c true true h = ap is_some (no_children fine c h).k3

  -- a cell is of the finer level where its parent is covered
  pub alike : (q : Cell) → is_some (fine q) ≡ is_covered fine (parent q)
  alike q = by_test (is_covered fine (parent q)) refl (is_child_of q (parent q) refl)
    where
      by_test : (t : Bool) → is_covered fine (parent q) ≡ t → (a : Bool) × ((i : Bool) × (q ≡ child_of (parent q) a i)) → is_some (fine q) ≡ is_covered fine (parent q)
      by_test true e t = ap (λ (k : Cell). is_some (fine k)) t.1.1 ∙ of_covered (parent q) t.0 t.1.0 e ∙ sym e
      by_test false e t = ap (λ (k : Cell). is_some (fine k)) t.1.1 ∙ of_free (parent q) t.0 t.1.0 e ∙ sym e
