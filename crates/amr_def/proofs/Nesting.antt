-- From the facts of a sound state to what a step needs of a level and the finer one.
use Rattle.std.proofs.Common.{◌≡◌, ℕ, zero, suc, ◌+◌, ◌-◌, ◌*◌, ◌%◌, ◌<◌, ◌≤◌, Bool, true, false, ◌⊎◌, inl, inr, ℤ, pos, negsuc, ◌+ℤ◌, ◌-ℤ◌, ◌≤ℤ◌, ◌<ℤ◌, IsSome, is_some, refl, sym, ap, subst, ◌∙◌, arith, List, [], ◌∷◌, length, ◌/◌}
use Rattle.std.specs.Prelude.{unsigned_abs, slice_index_or}
use Rattle.std.specs.List.{list_any}
use Rattle.std.specs.Int.{int_rem_euclid}
use Rattle.std.proofs.lemmas.Int.{ints, int_rem_euclid_is}
use Rattle.std.proofs.lemmas.Bool.{and_parts, or_right}
use Rattle.std.proofs.lemmas.Bool.Decides.{nat_tests}
use Rattle.std.proofs.Math.Nat.{mod-add-mod, mul-le-mul_left}
use Rattle.amr_box.specs.declared.Cell.{Cell}
use Rattle.amr_box.specs.declared.Axis.{Axis}
use Rattle.amr_box.specs.declared.Axis.TheVariants.{X, Y}
use Rattle.amr_box.specs.Cells.{cell, has_child_where, Extent, half, moved, in_boxes, square}
use Rattle.amr_box.proofs.Numbers.{less_and_more, plus_minus_one}
use Rattle.amr_def.specs.declared.problem.Problem.{Problem}
use Rattle.amr_def.specs.Limits.{is_blocking}
use Rattle.amr_def.specs.Domain.{Domain, domain, columns, rows, is_periodic, wrapped, home_cell, in_domain, is_inside, is_near}
use Rattle.amr_def.specs.State.{Masses, Level, is_covered, is_covered_by}
use Rattle.amr_def.specs.Flux.{low_cell, high_cell, face}
use Rattle.amr_def.specs.Regrid.{odd}
use Rattle.amr_def.specs.Facts.{IsAligned, IsLevel, IsNestedLevel}
use Rattle.amr_def.proofs.LevelLists.{IsCellInside, IsInside, IsNest, HasAllChildren, child_0}
use Rattle.amr_def.proofs.Values.{same_cell}
use Rattle.amr_def.proofs.Children.{plus_none}
use Rattle.amr_def.proofs.Courants.{twice_as_many, power_positive, some_columns}
use Rattle.amr_def.proofs.Uncovered.{in_domain-yes, home_at}
use Rattle.amr_def.proofs.Nests.{IsEven, AllEven, half_and_odd, all_children}

-- ---- boxes on multiples of the blocking factor have even low and odd high coordinates

pub blocking_cases : (b : ℕ) → is_blocking b ≡ true → (b ≡ 2) ⊎ ((b ≡ 4) ⊎ (b ≡ 8))
blocking_cases b h = grind (arith, nat_tests)

pub even_by : (b : ℕ) → (b ≡ 2) ⊎ ((b ≡ 4) ⊎ (b ≡ 8)) → (z : ℤ) → int_rem_euclid z (pos b) ≡ pos 0 → odd z ≡ 0
even_by b (inl e) (pos a) h = let r : a % 2 ≡ 0 = omega (arith, ints, rw e at h) in r
even_by b (inl e) (negsuc a) h = let r : int_rem_euclid (negsuc a) (pos 2) ≡ pos 0 = rw e at h in omega (arith, ints, r)
even_by b (inr (inl e)) (pos a) h = let r : int_rem_euclid (pos a) (pos 4) ≡ pos 0 = rw e at h in omega (arith, ints, r)
even_by b (inr (inl e)) (negsuc a) h = let r : int_rem_euclid (negsuc a) (pos 4) ≡ pos 0 = rw e at h in omega (arith, ints, r)
even_by b (inr (inr e)) (pos a) h = let r : int_rem_euclid (pos a) (pos 8) ≡ pos 0 = rw e at h in omega (arith, ints, r)
even_by b (inr (inr e)) (negsuc a) h = let r : int_rem_euclid (negsuc a) (pos 8) ≡ pos 0 = rw e at h in omega (arith, ints, r)

pub odd_small : (z : ℤ) → odd z ≤ 1
odd_small (pos a) = omega arith
odd_small (negsuc a) = omega arith

pub odd_before : (z : ℤ) → odd (z +ℤ pos 1) ≡ 0 → odd z ≡ 1
odd_before z h = omega (arith, ints, h, half_and_odd z, half_and_odd (z +ℤ pos 1), odd_small z)

pub aligned_even : (b : ℕ) (e : Extent) → is_blocking b ≡ true → IsAligned b e → IsEven e
aligned_even b e h a =
    let which = blocking_cases b h in
    (even_by b which e.lo.x a.west, even_by b which e.lo.y a.south, odd_before e.hi.x (even_by b which (e.hi.x +ℤ pos 1) a.east), odd_before e.hi.y (even_by b which (e.hi.y +ℤ pos 1) a.north))

-- ---- cells of the domain

pub test_inside : (n : ℕ) (z : ℤ) → is_inside n z ≡ true → (pos 0 ≤ℤ z) × (z <ℤ pos n)
test_inside n z h = grind (arith, ints)

pub in_domain-inside : (p : Problem) (l : ℕ) (c : Cell) → in_domain (domain p l) c ≡ true → IsCellInside p l c
unfolding in_domain
in_domain-inside p l c h =
    let parts = and_parts _ _ h in
    let x = test_inside (columns p l) c.x parts.0 in
    let y = test_inside (rows p l) c.y parts.1 in
    record { west = x.0; east = x.1; south = y.0; north = y.1 }

pub parent_inside : (p : Problem) (l : ℕ) (c k : Cell) (i j : ℕ) → i ≤ 1 → j ≤ 1 → k.x ≡ c.x +ℤ c.x +ℤ pos i → k.y ≡ c.y +ℤ c.y +ℤ pos j → IsCellInside p (suc l) k → IsCellInside p l c
parent_inside p l c k i j hi hj x y inside = record {
  west = omega (arith, ints, x, inside.west);
  east = omega (arith, ints, x, inside.east, twice_as_many p.nx l);
  south = omega (arith, ints, y, inside.south);
  north = omega (arith, ints, y, inside.north, twice_as_many p.ny l);
}

-- ---- past the end of a periodic axis

pub lifted : (n : ℕ) (z : ℤ) → 0 < n → (m : ℕ) × (z +ℤ pos (unsigned_abs z * n) ≡ pos m)
lifted n (pos a) some = (a + a * n, omega (arith, ints))
lifted n (negsuc a) some =
    let enough : suc a * 1 ≤ suc a * n = mul-le-mul_left (suc a) some in
    (suc a * n - suc a, omega (arith, ints, enough))

pub wrapped_shift : (b : Bool) (n : ℕ) (z w : ℤ) (u : ℕ) → 0 < n → w +ℤ pos 1 ≡ pos u → wrapped b n (wrapped b n z +ℤ w) ≡ wrapped b n (z +ℤ w)
wrapped_shift false n z w u some is = refl
wrapped_shift true n z w u some is =
    let k = unsigned_abs z in
    let up = lifted n z some in
    let m = up.0 in
    let here : int_rem_euclid z (pos n) ≡ pos (m % n) = int_rem_euclid_is z (pos n) n k m some refl up.1 in
    let first : pos (m % n) +ℤ w +ℤ pos (1 * n) ≡ pos (m % n + (u + n - 1)) = omega (arith, ints, is) in
    let more : (k + 1) * n ≡ k * n + n = omega arith in
    let second : z +ℤ w +ℤ pos ((k + 1) * n) ≡ pos (m + (u + n - 1)) = omega (arith, ints, is, up.1, more) in
    ap (λ (t : ℤ). int_rem_euclid (t +ℤ w) (pos n)) here
    ∙ int_rem_euclid_is (pos (m % n) +ℤ w) (pos n) n 1 (m % n + (u + n - 1)) some refl first
    ∙ ap pos (mod-add-mod m n (u + n - 1))
    ∙ sym (int_rem_euclid_is (z +ℤ w) (pos n) n (k + 1) (m + (u + n - 1)) some refl second)

-- ---- a cell at most one away

pub any_at : (f : Cell → Bool) (cs : List Cell) (i : ℕ) (d : Cell) → i < length cs → f (slice_index_or cs i d) ≡ true → list_any f cs ≡ true
any_at f [] i d h e = absurd (omega arith)
any_at f (c ∷ cs) zero d h e = rw e
any_at f (c ∷ cs) (suc i) d h e = or_right (f c) (list_any f cs) (any_at f cs i d (omega arith) e)

module _ (d : Domain) (test : Cell → Bool) (c : Cell) where
  -- whether the cell at this offset passes the test
  abbrev pub at_offset : Cell → Bool
  at_offset o = test (home_cell d (moved c o))

  pub near_south : at_offset (cell (pos 0) (negsuc 0)) ≡ true → is_near d 1 test c ≡ true
  near_south h = any_at at_offset (square 1) 1 c (omega arith) h

  pub near_west : at_offset (cell (negsuc 0) (pos 0)) ≡ true → is_near d 1 test c ≡ true
  near_west h = any_at at_offset (square 1) 3 c (omega arith) h

  pub near_itself : at_offset (cell (pos 0) (pos 0)) ≡ true → is_near d 1 test c ≡ true
  near_itself h = any_at at_offset (square 1) 4 c (omega arith) h

  pub near_east : at_offset (cell (pos 1) (pos 0)) ≡ true → is_near d 1 test c ≡ true
  near_east h = any_at at_offset (square 1) 5 c (omega arith) h

  pub near_north : at_offset (cell (pos 0) (pos 1)) ≡ true → is_near d 1 test c ≡ true
  near_north h = any_at at_offset (square 1) 7 c (omega arith) h

-- ---- a level and the finer one

-- masses that fill boxes cover what the boxes cover
pub covered_boxes : (m : Masses) (bs : List Extent) → ((c : Cell) → is_some (m c) ≡ in_boxes bs c) → is_covered m ≡ is_covered_by bs
unfolding is_covered
covered_boxes m bs filled =
    let same : (λ (k : Cell). is_some (m k)) ≡ in_boxes bs = λ i k. filled k i in
    ap has_child_where same

module _ (p : Problem) (l : ℕ) where
  -- the cell at most one away from a cell's own place
  pub home_shift : (x y i j : ℤ) (u v : ℕ) → i +ℤ pos 1 ≡ pos u → j +ℤ pos 1 ≡ pos v → home_cell (domain p l) (moved (home_cell (domain p l) (cell x y)) (cell i j)) ≡ home_cell (domain p l) (cell (x +ℤ i) (y +ℤ j))
  home_shift x y i j u v hu hv =
      let some = some_columns p in
      same_cell (wrapped_shift (is_periodic p.x_sides) (columns p l) x i u (power_positive p.nx l some.x) hu) (wrapped_shift (is_periodic p.y_sides) (rows p l) y j v (power_positive p.ny l some.y) hv)

module _ (p : Problem) (l : ℕ) (k fine : Level) (klevel : IsLevel p l k) (flevel : IsLevel p (suc l) fine) (nested : IsNestedLevel p l k fine) where
  pub all_even : (bs : List Extent) → ((j : ℕ) (e : Extent) → j < length bs → IsAligned p.blocking (slice_index_or bs j e)) → AllEven bs
  all_even [] h = tt
  all_even (b ∷ bs) h = (aligned_even p.blocking b p.limits.blocking_factor (h 0 b (omega arith)), all_even bs (λ j e i. h (suc j) e (omega arith)))

  pub children : HasAllChildren fine.masses
  children = all_children fine.boxes fine.masses (all_even fine.boxes nested.aligned) flevel.filled

  pub covered_inside : (c : Cell) → is_covered fine.masses c ≡ true → IsCellInside p l c
  covered_inside c h =
      let there : in_boxes fine.boxes (child_0 c) ≡ true = sym (flevel.filled (child_0 c)) ∙ children.k0 c h in
      parent_inside p l c (child_0 c) 0 0 (omega arith) (omega arith) (sym (plus_none _)) (sym (plus_none _)) (in_domain-inside p (suc l) (child_0 c) (flevel.inside (child_0 c) there))

  covered_by_boxes : is_covered fine.masses ≡ is_covered_by fine.boxes
  covered_by_boxes = covered_boxes fine.masses fine.boxes flevel.filled

  -- a cell of the domain that is near a covered one is of the level
  pub of_level : (c : Cell) → in_domain (domain p l) c ≡ true → is_near (domain p l) 1 (is_covered fine.masses) c ≡ true → IsSome (k.masses c)
  of_level c inside near = klevel.filled c ∙ nested.around c inside (subst (λ (t : Cell → Bool). is_near (domain p l) 1 t c ≡ true) covered_by_boxes near)

  pub covered_there : (c : Cell) → is_covered fine.masses c ≡ true → IsSome (k.masses c)
  covered_there c h =
      let inside = covered_inside c h in
      let itself : home_cell (domain p l) (moved c (cell (pos 0) (pos 0))) ≡ c = ap (home_cell (domain p l)) (same_cell (plus_none c.x) (plus_none c.y)) ∙ home_at p l c inside in
      of_level c (in_domain-yes p l c inside) (near_itself (domain p l) (is_covered fine.masses) c (ap (is_covered fine.masses) itself ∙ h))

  abbrev home : ℤ → ℤ → Cell
  home x y = home_cell (domain p l) (cell x y)

  low_of : (a : Axis) (x y : ℤ) → is_covered fine.masses (home_cell (domain p l) (high_cell (face a x y))) ≡ true → in_domain (domain p l) (home_cell (domain p l) (low_cell (face a x y))) ≡ true → IsSome (k.masses (home_cell (domain p l) (low_cell (face a x y))))
  low_of X x y h inside =
      let there : home_cell (domain p l) (moved (home (x -ℤ pos 1) y) (cell (pos 1) (pos 0))) ≡ home x y =
      home_shift p l (x -ℤ pos 1) y (pos 1) (pos 0) 2 1 refl refl ∙ ap (home_cell (domain p l)) (same_cell (less_and_more x) (plus_none y)) in
      of_level (home (x -ℤ pos 1) y) inside (near_east (domain p l) (is_covered fine.masses) (home (x -ℤ pos 1) y) (ap (is_covered fine.masses) there ∙ h))
  low_of Y x y h inside =
      let there : home_cell (domain p l) (moved (home x (y -ℤ pos 1)) (cell (pos 0) (pos 1))) ≡ home x y =
      home_shift p l x (y -ℤ pos 1) (pos 0) (pos 1) 1 2 refl refl ∙ ap (home_cell (domain p l)) (same_cell (plus_none x) (less_and_more y)) in
      of_level (home x (y -ℤ pos 1)) inside (near_north (domain p l) (is_covered fine.masses) (home x (y -ℤ pos 1)) (ap (is_covered fine.masses) there ∙ h))

  high_of : (a : Axis) (x y : ℤ) → is_covered fine.masses (home_cell (domain p l) (low_cell (face a x y))) ≡ true → in_domain (domain p l) (home_cell (domain p l) (high_cell (face a x y))) ≡ true → IsSome (k.masses (home_cell (domain p l) (high_cell (face a x y))))
  high_of X x y h inside =
      let there : home_cell (domain p l) (moved (home x y) (cell (negsuc 0) (pos 0))) ≡ home (x -ℤ pos 1) y =
      home_shift p l x y (negsuc 0) (pos 0) 0 1 refl refl ∙ ap (home_cell (domain p l)) (same_cell (plus_minus_one x) (plus_none y)) in
      of_level (home x y) inside (near_west (domain p l) (is_covered fine.masses) (home x y) (ap (is_covered fine.masses) there ∙ h))
  high_of Y x y h inside =
      let there : home_cell (domain p l) (moved (home x y) (cell (pos 0) (negsuc 0))) ≡ home x (y -ℤ pos 1) =
      home_shift p l x y (pos 0) (negsuc 0) 1 0 refl refl ∙ ap (home_cell (domain p l)) (same_cell (plus_none x) (plus_minus_one y)) in
      of_level (home x y) inside (near_south (domain p l) (is_covered fine.masses) (home x y) (ap (is_covered fine.masses) there ∙ h))

  pub nest : IsNest p l k.masses fine.masses
  nest = record {
    children = children;
    there = covered_there;
    low = λ f. low_of f.axis f.x f.y;
    high = λ f. high_of f.axis f.x f.y;
  }

pub level_inside : (p : Problem) (l : ℕ) (k : Level) → IsLevel p l k → IsInside p l k.masses
level_inside p l k level = record { at = λ c h. in_domain-inside p l c (level.inside c (sym (level.filled c) ∙ h)) }

pub half_ahead : (z : ℤ) (k : ℕ) → half (z +ℤ pos k) ≡ half z +ℤ pos ((odd z + k) / 2)
half_ahead z k = omega (arith, ints, half_and_odd z, half_and_odd (z +ℤ pos k), odd_small z, odd_small (z +ℤ pos k))
