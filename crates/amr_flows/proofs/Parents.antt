-- The parents of the cells of a level and of cells one beside its domain.
use Rattle.std.proofs.Common.{◌≡◌, ◌∙◌, ℕ, zero, suc, ◌+◌, ◌-◌, ◌/◌, ◌<◌, ◌≤◌, Bool, true, false, ◌⊎◌, inl, inr, ℤ, pos, negsuc, ◌+ℤ◌, ◌-ℤ◌, ◌≤ℤ◌, refl, sym, ap, arith}
use Rattle.std.specs.Prelude.{is_some}
use Rattle.std.proofs.lemmas.Int.{ints}
use Rattle.std.proofs.lemmas.Bool.{cases_lt}
use Rattle.amr_box.specs.declared.Cell.{Cell}
use Rattle.amr_box.specs.Cells.{cell, half, parent}
use Rattle.amr_box.proofs.CellEquality.{same_cell}
use Rattle.amr_box.proofs.Halves.{half_is}
use Rattle.amr_def.specs.declared.problem.Problem.{Problem}
use Rattle.amr_def.specs.Domain.{columns, domain, home_cell, is_periodic, rows, wrapped}
use Rattle.amr_def.specs.Regrid.{odd}
use Rattle.amr_def.specs.State.{Masses, is_covered}
use Rattle.amr_def.proofs.Courants.{power_positive, some_columns, twice_as_many}
use Rattle.amr_def.proofs.Flows.{wrapped_before, wrapped_end, wrapped_inside}
use Rattle.amr_def.proofs.LevelLists.{HasAllChildren, child_0, child_1, child_2, child_3}
use Rattle.amr_def.proofs.Nesting.{odd_small}
use Rattle.amr_def.proofs.Nests.{half_and_odd}

-- ---- a coordinate at most one past the ends of an axis

last_wrapped : (n : ℕ) → 0 < n → wrapped true n (negsuc 0) ≡ pos (n - 1)
last_wrapped n some =
    let back : pos n -ℤ pos 1 ≡ pos (n - 1) = omega (arith, ints) in
    sym (wrapped_before n some) ∙ ap (wrapped true n) back ∙ wrapped_inside true n (n - 1) (omega arith)

first_wrapped : (n : ℕ) → 0 < n → wrapped true n (pos n) ≡ pos 0
first_wrapped n some = wrapped_end n ∙ wrapped_inside true n 0 some

half_home : (s : Bool) (n : ℕ) (z : ℤ) → 0 < n → negsuc 0 ≤ℤ z → z ≤ℤ pos (n + n) → half (wrapped s (n + n) z) ≡ wrapped s n (half z)
half_home false n z some from to = refl
half_home true n (negsuc zero) some from to = ap half (last_wrapped (n + n) (omega arith)) ∙ ap pos (omega arith) ∙ sym (last_wrapped n some)
half_home true n (negsuc (suc a)) some from to = absurd (omega (arith, ints, from))
half_home true n (pos a) some from to = by_size (cases_lt a (n + n))
  where
    by_size : (a < n + n) ⊎ (n + n ≤ a) → half (wrapped true (n + n) (pos a)) ≡ wrapped true n (half (pos a))
    by_size (inl lt) = ap half (wrapped_inside true (n + n) a lt) ∙ sym (wrapped_inside true n (a / 2) (omega arith))
    by_size (inr le) =
        let last : a ≡ n + n = omega (arith, ints, to) in
        let middle : a / 2 ≡ n = omega (arith, last) in
        ap (λ (k : ℕ). half (wrapped true (n + n) (pos k))) last ∙ ap half (first_wrapped (n + n) (omega arith)) ∙ sym (ap (λ (k : ℕ). wrapped true n (pos k)) middle ∙ first_wrapped n some)

-- the parent of the cell that a cell stands for is what the parent stands for
pub parent_home : (p : Problem) (l : ℕ) (x y : ℤ) → negsuc 0 ≤ℤ x → x ≤ℤ pos (columns p (suc l)) → negsuc 0 ≤ℤ y → y ≤ℤ pos (rows p (suc l)) → parent (home_cell (domain p (suc l)) (cell x y)) ≡ home_cell (domain p l) (cell (half x) (half y))
parent_home p l x y west east south north =
    let some = some_columns p in
    let cols : columns p (suc l) ≡ columns p l + columns p l = twice_as_many p.nx l in
    let rws : rows p (suc l) ≡ rows p l + rows p l = twice_as_many p.ny l in
    same_cell
    (ap (λ (n : ℕ). half (wrapped (is_periodic p.x_sides) n x)) cols ∙ half_home (is_periodic p.x_sides) (columns p l) x (power_positive p.nx l some.x) west (omega (arith, ints, east, cols)))
    (ap (λ (n : ℕ). half (wrapped (is_periodic p.y_sides) n y)) rws ∙ half_home (is_periodic p.y_sides) (rows p l) y (power_positive p.ny l some.y) south (omega (arith, ints, north, rws)))

-- ---- halves of neighbours

pub half_before : (z : ℤ) → (half (z -ℤ pos 1) +ℤ pos 1 ≡ half z) ⊎ (half (z -ℤ pos 1) ≡ half z)
half_before z = by_odd (odd z) (half_and_odd z) (odd_small z)
  where
    by_odd : (n : ℕ) → z ≡ half z +ℤ half z +ℤ pos n → n ≤ 1 → (half (z -ℤ pos 1) +ℤ pos 1 ≡ half z) ⊎ (half (z -ℤ pos 1) ≡ half z)
    by_odd zero e h = inl (omega (arith, ints, e, half_and_odd (z -ℤ pos 1), odd_small (z -ℤ pos 1)))
    by_odd (suc zero) e h = inr (omega (arith, ints, e, half_and_odd (z -ℤ pos 1), odd_small (z -ℤ pos 1)))
    by_odd (suc (suc n)) e h = absurd (omega arith)

pub half_after : (z : ℤ) → (half (z +ℤ pos 1) +ℤ negsuc 0 ≡ half z) ⊎ (half (z +ℤ pos 1) ≡ half z)
half_after z = by_odd (odd z) (half_and_odd z) (odd_small z)
  where
    by_odd : (n : ℕ) → z ≡ half z +ℤ half z +ℤ pos n → n ≤ 1 → (half (z +ℤ pos 1) +ℤ negsuc 0 ≡ half z) ⊎ (half (z +ℤ pos 1) ≡ half z)
    by_odd zero e h = inr (omega (arith, ints, e, half_and_odd (z +ℤ pos 1), odd_small (z +ℤ pos 1)))
    by_odd (suc zero) e h = inl (omega (arith, ints, e, half_and_odd (z +ℤ pos 1), odd_small (z +ℤ pos 1)))
    by_odd (suc (suc n)) e h = absurd (omega arith)

-- ---- a cell and its parent

some_is : (fine : Masses) (q r : Cell) → q ≡ r → is_some (fine q) ≡ true → is_some (fine r) ≡ true
some_is fine q r e h = sym (ap (λ (c : Cell). is_some (fine c)) e) ∙ h

module _ (fine : Masses) (q : Cell) where
  -- where a covered cell has all of its children, each cell with a covered parent is one of the finer level
  pub child_there : HasAllChildren fine → is_covered fine (parent q) ≡ true → is_some (fine q) ≡ true
  child_there all h = by_halves (half_is q.x) (half_is q.y)
    where
      by_halves : (q.x ≡ half q.x +ℤ half q.x) ⊎ (q.x ≡ half q.x +ℤ half q.x +ℤ pos 1) → (q.y ≡ half q.y +ℤ half q.y) ⊎ (q.y ≡ half q.y +ℤ half q.y +ℤ pos 1) → is_some (fine q) ≡ true
      by_halves (inl ex) (inl ey) = some_is fine (child_0 (parent q)) q (sym (same_cell ex ey)) (all.k0 (parent q) h)
      by_halves (inr ex) (inl ey) = some_is fine (child_1 (parent q)) q (sym (same_cell ex ey)) (all.k1 (parent q) h)
      by_halves (inl ex) (inr ey) = some_is fine (child_2 (parent q)) q (sym (same_cell ex ey)) (all.k2 (parent q) h)
      by_halves (inr ex) (inr ey) = some_is fine (child_3 (parent q)) q (sym (same_cell ex ey)) (all.k3 (parent q) h)
