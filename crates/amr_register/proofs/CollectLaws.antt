-- Lists to which register cells are added.
use Rattle.std.proofs.Common.{◌≡◌, ◌∙◌, ℕ, ◌+◌, ◌<◌, Bool, true, false, ◌⊎◌, inl, inr, ℤ, pos, negsuc, ◌+ℤ◌, ◌-ℤ◌, List, [], ◌∷◌, ◌++◌, length, refl, sym, ap, subst, arith}
use Rattle.std.specs.Prelude.{is_some, not, slice_index_or}
use Rattle.std.specs.List.{Contains}
use Rattle.std.proofs.lemmas.Int.{ints}
use Rattle.std.proofs.lemmas.Bool.{and_from, and_parts, both_ways, cases_eq, not-true, not_from_false}
use Rattle.std.proofs.lemmas.List.Elements.{Contains-append_left, Contains-push_cases}
use Rattle.amr_box.specs.declared.Cell.{Cell}
use Rattle.amr_box.specs.Cells.{Extent, IsNear, cell, height, holds, moved, parents_of, width}
use Rattle.amr_box.proofs.CellEquality.{same_cell}
use Rattle.amr_def.specs.Domain.{Domain, home_cell, in_domain}
use Rattle.amr_def.specs.State.{Masses, is_covered}
use Rattle.amr_def.specs.Tags.{neighbours}
use Rattle.amr_def.proofs.Nesting.{any_at}
use Rattle.amr_patch.proofs.Rows.{is_inside, sides}
use Rattle.amr_faces.specs.Faces.{IsInDomain}
use Rattle.amr_register.specs.RegisterCells.{has_neighbour_where, is_register_cell}
use Rattle.amr_register.specs.Beside.{IsBesideDomain, stands_beside}
use Rattle.amr_register.specs.CellLists.{Collects, Finds, FindsAround, FindsBelowAndAbove, FindsLeftAndRight}
use Rattle.amr_register.proofs.RowOrder.{nothing_among}
use Rattle.amr_register.proofs.Taken.{same_at}
use Rattle.amr_register.proofs.Homes.{HasSize, beside_domain, domain_cell, home_inside, moved_home}

-- ---- the test

pub none_covered : (d : Domain) (m fine : Masses) (c : Cell) → is_covered fine c ≡ true → is_register_cell d m fine c ≡ true → ⊥
unfolding is_register_cell
none_covered d m fine c e h = clash (sym e ∙ not-true (is_covered fine c) (and_parts (not (is_covered fine c)) _ (and_parts (is_some (m c)) _ h).1).0)
  where
    clash : true ≡ false → ⊥
    clash f = cc

pub is_beside : (d : Domain) (m fine : Masses) (c : Cell) → is_register_cell d m fine c ≡ true → has_neighbour_where d (is_covered fine) c ≡ true
unfolding is_register_cell
is_beside d m fine c h = (and_parts (not (is_covered fine c)) _ (and_parts (is_some (m c)) _ h).1).1

pub passes : (d : Domain) (m fine : Masses) (c : Cell) → is_some (m c) ≡ true → is_covered fine c ≡ false → has_neighbour_where d (is_covered fine) c ≡ true → is_register_cell d m fine c ≡ true
unfolding is_register_cell
passes d m fine c h k b = and_from (is_some (m c)) _ h (and_from (not (is_covered fine c)) _ (not_from_false (is_covered fine c) k) b)

-- ---- cells of the domain beside covered ones

pub none_outside : (d : Domain) (covered : Cell → Bool) (c : Cell) → in_domain d c ≡ false → stands_beside d covered c ≡ true → ⊥
unfolding stands_beside
none_outside d covered c e h = both_ways (in_domain d c) e (and_parts (in_domain d c) _ h).0

pub none_within : (d : Domain) (covered : Cell → Bool) (c : Cell) → covered c ≡ true → stands_beside d covered c ≡ true → ⊥
unfolding stands_beside
none_within d covered c e h = both_ways (covered c) (not-true (covered c) (and_parts (not (covered c)) _ (and_parts (in_domain d c) _ h).1).0) e

pub stands : (d : Domain) (covered : Cell → Bool) (c : Cell) → in_domain d c ≡ true → covered c ≡ false → has_neighbour_where d covered c ≡ true → stands_beside d covered c ≡ true
unfolding stands_beside
stands d covered c h k b = and_from (in_domain d c) _ h (and_from (not (covered c)) _ (not_from_false (covered c) k) b)

-- ---- what is added

pub nothing_added : (test : Cell → Bool) (old new : List Cell) → new ≡ old → Collects test old new
nothing_added test old new e = record { kept = λ q h. subst (λ (cs : List Cell). Contains cs q) (sym e) h; passing = λ q h. inl (subst (λ (cs : List Cell). Contains cs q) e h) }

pub one_added : (test : Cell → Bool) (old new : List Cell) (c : Cell) → new ≡ old ++ c ∷ [] → test c ≡ true → Collects test old new
one_added test old new c e t = record {
  kept = λ q h. subst (λ (cs : List Cell). Contains cs q) (sym e) (Contains-append_left old (c ∷ []) q h);
  passing = λ q h. either q (Contains-push_cases old c q (subst (λ (cs : List Cell). Contains cs q) e h));
}
  where
    either : (q : Cell) → Contains old q ⊎ (c ≡ q) → Contains old q ⊎ (test q ≡ true)
    either q (inl h) = inl h
    either q (inr s) = inr (ap test (sym s) ∙ t)

pub more_added : (test : Cell → Bool) (a b c : List Cell) → Collects test a b → Collects test b c → Collects test a c
more_added test a b c h k = record { kept = λ q t. k.kept q (h.kept q t); passing = λ q t. either q (k.passing q t) }
  where
    either : (q : Cell) → Contains b q ⊎ (test q ≡ true) → Contains a q ⊎ (test q ≡ true)
    either q (inl t) = h.passing q t
    either q (inr t) = inr t

-- ---- the cells beside a box of covered cells

pub record IsBesideCovered (d : Domain) (covered : Cell → Bool) (q : Cell) : Type 0 where
  pub near : IsBesideDomain q
  pub beside : has_neighbour_where d covered (home_cell d q) ≡ true

module _ (d : Domain) (covered : Cell → Bool) (size : HasSize d) (c : Cell) (inside : in_domain d c ≡ true) (here : covered c ≡ true) where
  abbrev test : Cell → Bool
  test o = covered (home_cell d o)

  -- the cell itself is the neighbour of each of its four neighbours
  back_again : (x y i j : ℤ) (u v : ℕ) → i +ℤ pos 1 ≡ pos u → j +ℤ pos 1 ≡ pos v → x +ℤ i ≡ c.x → y +ℤ j ≡ c.y → covered (home_cell d (moved (home_cell d (cell x y)) (cell i j))) ≡ true
  back_again x y i j u v hu hv ex ey = ap covered (moved_home d (cell x y) i j u v size hu hv ∙ ap (home_cell d) (same_cell ex ey) ∙ home_inside d c inside) ∙ here

  pub west_ready : (q : Cell) → q ≡ cell (c.x -ℤ pos 1) c.y → IsBesideCovered d covered q
  west_ready q e =
      let near = domain_cell d c size inside in
      subst (λ (r : Cell). IsBesideCovered d covered r) (sym e) (record {
        near = record { west = omega (arith, ints, near.west); east = omega (arith, ints, near.east); south = omega (arith, ints, near.south); north = omega (arith, ints, near.north) };
        beside = any_at (λ o. test (moved (home_cell d (cell (c.x -ℤ pos 1) c.y)) o)) neighbours 1 c (omega arith) (back_again (c.x -ℤ pos 1) c.y (pos 1) (pos 0) 2 1 refl refl (omega (arith, ints)) (omega (arith, ints)));
      })

  pub east_ready : (q : Cell) → q ≡ cell (c.x +ℤ pos 1) c.y → IsBesideCovered d covered q
  east_ready q e =
      let near = domain_cell d c size inside in
      subst (λ (r : Cell). IsBesideCovered d covered r) (sym e) (record {
        near = record { west = omega (arith, ints, near.west); east = omega (arith, ints, near.east); south = omega (arith, ints, near.south); north = omega (arith, ints, near.north) };
        beside = any_at (λ o. test (moved (home_cell d (cell (c.x +ℤ pos 1) c.y)) o)) neighbours 0 c (omega arith) (back_again (c.x +ℤ pos 1) c.y (negsuc 0) (pos 0) 0 1 refl refl (omega (arith, ints)) (omega (arith, ints)));
      })

  pub south_ready : (q : Cell) → q ≡ cell c.x (c.y -ℤ pos 1) → IsBesideCovered d covered q
  south_ready q e =
      let near = domain_cell d c size inside in
      subst (λ (r : Cell). IsBesideCovered d covered r) (sym e) (record {
        near = record { west = omega (arith, ints, near.west); east = omega (arith, ints, near.east); south = omega (arith, ints, near.south); north = omega (arith, ints, near.north) };
        beside = any_at (λ o. test (moved (home_cell d (cell c.x (c.y -ℤ pos 1))) o)) neighbours 3 c (omega arith) (back_again c.x (c.y -ℤ pos 1) (pos 0) (pos 1) 1 2 refl refl (omega (arith, ints)) (omega (arith, ints)));
      })

  pub north_ready : (q : Cell) → q ≡ cell c.x (c.y +ℤ pos 1) → IsBesideCovered d covered q
  north_ready q e =
      let near = domain_cell d c size inside in
      subst (λ (r : Cell). IsBesideCovered d covered r) (sym e) (record {
        near = record { west = omega (arith, ints, near.west); east = omega (arith, ints, near.east); south = omega (arith, ints, near.south); north = omega (arith, ints, near.north) };
        beside = any_at (λ o. test (moved (home_cell d (cell c.x (c.y +ℤ pos 1))) o)) neighbours 2 c (omega arith) (back_again c.x (c.y +ℤ pos 1) (pos 0) (negsuc 0) 1 0 refl refl (omega (arith, ints)) (omega (arith, ints)));
      })

-- ---- the ends of a box's rows and columns

pub row_low : (b : Extent) (j : ℕ) → IsNear b → j < height b → holds b (cell b.lo.x (b.lo.y +ℤ pos j)) ≡ true
row_low b j near lt = is_inside b (cell b.lo.x (b.lo.y +ℤ pos j)) (record { west = omega (arith, ints); east = near.wide; south = omega (arith, ints); north = omega (arith, ints, (sides b near).high) })

pub row_high : (b : Extent) (j : ℕ) → IsNear b → j < height b → holds b (cell b.hi.x (b.lo.y +ℤ pos j)) ≡ true
row_high b j near lt = is_inside b (cell b.hi.x (b.lo.y +ℤ pos j)) (record { west = near.wide; east = omega (arith, ints); south = omega (arith, ints); north = omega (arith, ints, (sides b near).high) })

pub column_low : (b : Extent) (i : ℕ) → IsNear b → i < width b → holds b (cell (b.lo.x +ℤ pos i) b.lo.y) ≡ true
column_low b i near lt = is_inside b (cell (b.lo.x +ℤ pos i) b.lo.y) (record { west = omega (arith, ints); east = omega (arith, ints, (sides b near).wide); south = omega (arith, ints); north = near.high })

pub column_high : (b : Extent) (i : ℕ) → IsNear b → i < width b → holds b (cell (b.lo.x +ℤ pos i) b.hi.y) ≡ true
column_high b i near lt = is_inside b (cell (b.lo.x +ℤ pos i) b.hi.y) (record { west = omega (arith, ints); east = omega (arith, ints, (sides b near).wide); south = near.high; north = omega (arith, ints) })

-- such a cell is one of the domain, and covered
pub record IsCoveredCell (d : Domain) (covered : Cell → Bool) (c : Cell) : Type 0 where
  pub inside : in_domain d c ≡ true
  pub here : covered c ≡ true

pub covered_at : (d : Domain) (covered : Cell → Bool) (b : Extent) (q r : Cell) → IsInDomain d b → ((c : Cell) → holds b c ≡ true → covered c ≡ true) → q ≡ r → holds b r ≡ true → IsCoveredCell d covered q
covered_at d covered b q r inside all e h =
    let held : holds b q ≡ true = ap (holds b) e ∙ h in
    record { inside = inside.at q held; here = all q held }

pub near_at : (d : Domain) (covered : Cell → Bool) (q : Cell) → HasSize d → IsCoveredCell d covered q → IsBesideDomain q
near_at d covered q size h = beside_domain q (domain_cell d q size h.inside)

-- ---- box by box

-- cells were added, those beside the first n rows among them
pub record RowsDone (d : Domain) (test : Cell → Bool) (b : Extent) (old new : List Cell) (n : ℕ) : Type 0 where
  pub collects : Collects test old new
  pub finds : FindsLeftAndRight d test b n new

pub record ColumnsDone (d : Domain) (test : Cell → Bool) (b : Extent) (old new : List Cell) (n : ℕ) : Type 0 where
  pub collects : Collects test old new
  pub finds : FindsBelowAndAbove d test b n new

pub no_rows : (d : Domain) (test : Cell → Bool) (b : Extent) (cs : List Cell) → RowsDone d test b cs cs 0
no_rows d test b cs = record { collects = nothing_added test cs cs refl; finds = record { left = λ j lt. absurd (omega arith); right = λ j lt. absurd (omega arith) } }

pub no_columns : (d : Domain) (test : Cell → Bool) (b : Extent) (cs : List Cell) → ColumnsDone d test b cs cs 0
no_columns d test b cs = record { collects = nothing_added test cs cs refl; finds = record { below = λ i lt. absurd (omega arith); above = λ i lt. absurd (omega arith) } }

-- what holds of the places below n and of place n
each_more : (P : ℕ → Type 0) (n : ℕ) → ((j : ℕ) → j < n → P j) → P n → (j : ℕ) → j < n + 1 → P j
each_more P n below here j lt = by_place (cases_eq j n)
  where
    by_place : (j ≡ n) ⊎ (j ≡ n → ⊥) → P j
    by_place (inl e) = subst P (sym e) here
    by_place (inr ne) = below j (omega arith)

pub more_rows : (d : Domain) (test : Cell → Bool) (b : Extent) (old now middle new : List Cell) (n : ℕ) (low high west east : Cell) → RowsDone d test b old now n → Collects test now middle → Collects test middle new
    → low ≡ cell b.lo.x (b.lo.y +ℤ pos n) → west ≡ cell (low.x -ℤ pos 1) low.y → Finds test (home_cell d west) middle → high ≡ cell b.hi.x (b.lo.y +ℤ pos n) → east ≡ cell (high.x +ℤ pos 1) high.y → Finds test (home_cell d east) new → RowsDone d test b old new (n + 1)
more_rows d test b old now middle new n low high west east done first second is_low is_west finds_west is_high is_east finds_east = record {
  collects = more_added test old now new done.collects both;
  finds = record {
    left = each_more (λ j. Finds test (home_cell d (cell (b.lo.x -ℤ pos 1) (b.lo.y +ℤ pos j))) new) n (λ j lt t. both.kept _ (done.finds.left j lt t))
        (subst (λ (q : Cell). Finds test (home_cell d q) new) (is_west ∙ (λ i. cell ((is_low i).x -ℤ pos 1) (is_low i).y)) (λ t. second.kept _ (finds_west t)));
    right = each_more (λ j. Finds test (home_cell d (cell (b.hi.x +ℤ pos 1) (b.lo.y +ℤ pos j))) new) n (λ j lt t. both.kept _ (done.finds.right j lt t))
        (subst (λ (q : Cell). Finds test (home_cell d q) new) (is_east ∙ (λ i. cell ((is_high i).x +ℤ pos 1) (is_high i).y)) finds_east);
  };
}
  where
    both : Collects test now new
    both = more_added test now middle new first second

pub more_columns : (d : Domain) (test : Cell → Bool) (b : Extent) (old now middle new : List Cell) (n : ℕ) (low high south north : Cell) → ColumnsDone d test b old now n → Collects test now middle → Collects test middle new
    → low ≡ cell (b.lo.x +ℤ pos n) b.lo.y → south ≡ cell low.x (low.y -ℤ pos 1) → Finds test (home_cell d south) middle → high ≡ cell (b.lo.x +ℤ pos n) b.hi.y → north ≡ cell high.x (high.y +ℤ pos 1) → Finds test (home_cell d north) new → ColumnsDone d test b old new (n + 1)
more_columns d test b old now middle new n low high south north done first second is_low is_south finds_south is_high is_north finds_north = record {
  collects = more_added test old now new done.collects both;
  finds = record {
    below = each_more (λ j. Finds test (home_cell d (cell (b.lo.x +ℤ pos j) (b.lo.y -ℤ pos 1))) new) n (λ j lt t. both.kept _ (done.finds.below j lt t))
        (subst (λ (q : Cell). Finds test (home_cell d q) new) (is_south ∙ (λ i. cell (is_low i).x ((is_low i).y -ℤ pos 1))) (λ t. second.kept _ (finds_south t)));
    above = each_more (λ j. Finds test (home_cell d (cell (b.lo.x +ℤ pos j) (b.hi.y +ℤ pos 1))) new) n (λ j lt t. both.kept _ (done.finds.above j lt t))
        (subst (λ (q : Cell). Finds test (home_cell d q) new) (is_north ∙ (λ i. cell (is_high i).x ((is_high i).y +ℤ pos 1))) finds_north);
  };
}
  where
    both : Collects test now new
    both = more_added test now middle new first second

pub all_rows : (d : Domain) (test : Cell → Bool) (b : Extent) (old new : List Cell) (n : ℕ) → n ≡ height b → RowsDone d test b old new n → FindsLeftAndRight d test b (height b) new
all_rows d test b old new n e done = subst (λ (k : ℕ). FindsLeftAndRight d test b k new) e done.finds

pub all_columns : (d : Domain) (test : Cell → Bool) (b : Extent) (old new : List Cell) (n : ℕ) → n ≡ width b → ColumnsDone d test b old new n → FindsBelowAndAbove d test b (width b) new
all_columns d test b old new n e done = subst (λ (k : ℕ). FindsBelowAndAbove d test b k new) e done.finds

-- what was found stays, where more is added
pub still_around : (d : Domain) (test : Cell → Bool) (b : Extent) (old new : List Cell) → Collects test old new → FindsAround d test b old → FindsAround d test b new
still_around d test b old new more h = record {
  rows = record { left = λ j lt t. more.kept _ (h.rows.left j lt t); right = λ j lt t. more.kept _ (h.rows.right j lt t) };
  columns = record { below = λ i lt t. more.kept _ (h.columns.below i lt t); above = λ i lt t. more.kept _ (h.columns.above i lt t) };
}

pub found_around : (d : Domain) (test : Cell → Bool) (b : Extent) (old new : List Cell) → Collects test old new → FindsLeftAndRight d test b (height b) old → FindsBelowAndAbove d test b (width b) new → FindsAround d test b new
found_around d test b old new more h k = record {
  rows = record { left = λ j lt t. more.kept _ (h.left j lt t); right = λ j lt t. more.kept _ (h.right j lt t) };
  columns = k;
}

-- ---- all boxes

-- register cells alone, and those beside the first n boxes among them
pub record BoxesDone (d : Domain) (test : Cell → Bool) (bs : List Extent) (cs : List Cell) (n : ℕ) : Type 0 where
  pub passing : (q : Cell) → Contains cs q → test q ≡ true
  pub finds : (k : ℕ) (b : Extent) → k < n → k < length bs → FindsAround d test (parents_of (slice_index_or bs k b)) cs

pub no_boxes : (d : Domain) (test : Cell → Bool) (bs : List Extent) (cs : List Cell) → cs ≡ [] → BoxesDone d test bs cs 0
no_boxes d test bs cs e = record {
  passing = λ q h. absurd (nothing_among q (subst (λ (xs : List Cell). Contains xs q) e h));
  finds = λ k b lt there. absurd (omega arith);
}

pub more_boxes : (d : Domain) (test : Cell → Bool) (bs : List Extent) (old new : List Cell) (n : ℕ) (b0 b : Extent) → BoxesDone d test bs old n → n < length bs → Collects test old new → b ≡ parents_of (slice_index_or bs n b0) → FindsAround d test b new → BoxesDone d test bs new (n + 1)
more_boxes d test bs old new n b0 b done lt more is found = record {
  passing = λ q h. either q (more.passing q h);
  finds = λ k e below there. by_place k e below there (cases_eq k n);
}
  where
    either : (q : Cell) → Contains old q ⊎ (test q ≡ true) → test q ≡ true
    either q (inl h) = done.passing q h
    either q (inr t) = t

    by_place : (k : ℕ) (e : Extent) → k < n + 1 → k < length bs → (k ≡ n) ⊎ (k ≡ n → ⊥) → FindsAround d test (parents_of (slice_index_or bs k e)) new
    by_place k e below there (inl same) =
        subst (λ (i : ℕ). FindsAround d test (parents_of (slice_index_or bs i e)) new) (sym same)
        (subst (λ (x : Extent). FindsAround d test x new) (is ∙ ap parents_of (same_at bs n b0 e lt)) found)
    by_place k e below there (inr ne) = still_around d test (parents_of (slice_index_or bs k e)) old new more (done.finds k e (omega arith) there)
