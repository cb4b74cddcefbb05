-- The ends of a level's domain: what flows there is what flows beside uncovered cells, and what flows through the ends of
-- the finer level in its two steps.
use Rattle.std.proofs.Common.{◌≡◌, ℕ, zero, suc, ◌+◌, ◌<◌, Bool, true, false, cond, ◌&&◌, ◌||◌, ℤ, pos, ◌+ℤ◌, ◌-ℤ◌, IsSome, is_some, refl, sym, ap, subst, ◌∙◌, arith, add-one}
use Rattle.std.specs.Prelude.{not}
use Rattle.std.specs.declared.option.Option.{Option}
use Rattle.std.specs.declared.option.Option.TheVariants.{None}
use Rattle.std.proofs.lemmas.Int.{ints}
use Rattle.std.proofs.lemmas.Bool.{false_from_ne_true}
use Rattle.amr_box.specs.declared.Cell.{Cell}
use Rattle.amr_box.specs.declared.Face.{Face}
use Rattle.amr_box.specs.declared.Axis.TheVariants.{X, Y}
use Rattle.amr_box.specs.Cells.{at_least_zero, cell}
use Rattle.amr_box.proofs.CellEquality.{same_cell}
use Rattle.amr_def.specs.declared.problem.Problem.{Problem}
use Rattle.amr_def.specs.declared.problem.Sides.{Sides}
use Rattle.amr_def.specs.declared.problem.Sides.TheVariants.{Periodic, Open}
use Rattle.amr_def.specs.Domain.{columns, rows, domain, home_cell, is_periodic, wrapped}
use Rattle.amr_def.specs.State.{Masses, is_covered}
use Rattle.amr_def.specs.Flux.{Fluxes, courant, face, flux_at, high_cell, low_cell}
use Rattle.amr_def.specs.LevelStep.{effective, through_children}
use Rattle.amr_def.specs.Ledger.{below_zero, if_open, sum_to}
use Rattle.amr_def.proofs.LevelLists.{IsCellInside, IsInside, IsNest, child_0, child_1, child_2, child_3}
use Rattle.amr_def.proofs.Courants.{courant_x_first, courant_x_second, courant_y_first, courant_y_second, twice_as_many}
use Rattle.amr_def.proofs.Subcycle.{bool_cases}
use Rattle.amr_def.proofs.Uncovered.{HasNoChildren, home_at, no_children, same_face}
use Rattle.amr_laws.specs.Sides.{inflow_beside, is_uncovered, outflow_beside, x_beside, y_beside}
use Rattle.amr_laws.proofs.Signs.{AllSigned, IsAdditive, IsSigned, above_additive, below_additive, signed_at}

-- ---- sums

pub sum_same : (f g : ℕ → ℕ) (n : ℕ) → ((i : ℕ) → i < n → f i ≡ g i) → sum_to f n ≡ sum_to g n
sum_same f g zero h = refl
sum_same f g (suc n) h = omega (arith, sum_same f g n (λ i k. h i (omega arith)), h n (omega arith))

pub sum_add : (f g : ℕ → ℕ) (n : ℕ) → sum_to (λ i. f i + g i) n ≡ sum_to f n + sum_to g n
sum_add f g zero = refl
sum_add f g (suc n) = omega (arith, sum_add f g n)

-- of an even number of terms, two at a time
pub sum_pairs : (f : ℕ → ℕ) (n : ℕ) → sum_to f (n + n) ≡ sum_to (λ i. f (i + i) + f (i + i + 1)) n
sum_pairs f zero = refl
sum_pairs f (suc n) =
    let two : suc n + suc n ≡ suc (suc (n + n)) = omega arith in
    ap (sum_to f) two ∙ omega (arith, sum_pairs f n, ap f (add-one (n + n)))

-- ---- one end of an axis

-- what is known of face i of an end: its flux is that of the level, or what flows through its two child faces in both
-- finer steps where the cell beside is covered
pub record IsFace (there covered : Bool) (z plain a1 b1 a2 b2 : ℤ) : Type 0 where
  pub within : covered ≡ true → there ≡ true
  pub is : z ≡ cond covered ((a1 +ℤ b1) +ℤ (a2 +ℤ b2)) plain
  pub sign : ℤ
  pub first_1 : IsSigned sign a1
  pub second_1 : IsSigned sign b1
  pub first_2 : IsSigned sign a2
  pub second_2 : IsSigned sign b2

module _ (q : ℤ → ℕ) (add : IsAdditive q) where
  four_parts : (s a b e f : ℤ) → IsSigned s a → IsSigned s b → IsSigned s e → IsSigned s f → q ((a +ℤ b) +ℤ (e +ℤ f)) ≡ (q a + q b) + (q e + q f)
  four_parts s a b e f i j k m =
      (λ t. q ((i.1 t +ℤ j.1 t) +ℤ (k.1 t +ℤ m.1 t))) ∙ add.four s i.0 j.0 k.0 m.0 ∙ sym (λ t. (q (i.1 t) + q (j.1 t)) + (q (k.1 t) + q (m.1 t)))

  one_face : (there covered : Bool) (z plain a1 b1 a2 b2 : ℤ) → IsFace there covered z plain a1 b1 a2 b2
      → cond there (q z) 0 ≡ cond (there && not covered) (q plain) 0 + ((cond covered (q a1) 0 + cond covered (q b1) 0) + (cond covered (q a2) 0 + cond covered (q b2) 0))
  one_face true true z plain a1 b1 a2 b2 f = omega (arith, ap q f.is, four_parts f.sign a1 b1 a2 b2 f.first_1 f.second_1 f.first_2 f.second_2)
  one_face true false z plain a1 b1 a2 b2 f = omega (arith, ap q f.is)
  one_face false true z plain a1 b1 a2 b2 f = let e : false ≡ true = f.within refl in cc
  one_face false false z plain a1 b1 a2 b2 f = omega arith

  module _ (n k : ℕ) (twice : k ≡ n + n) (there covered child : ℕ → Bool) (z plain e1 e2 : ℕ → ℤ) where
    pub end_sum : ((i : ℕ) → i < n → child (i + i) ≡ covered i) → ((i : ℕ) → i < n → child (i + i + 1) ≡ covered i)
        → ((i : ℕ) → i < n → IsFace (there i) (covered i) (z i) (plain i) (e1 (i + i)) (e1 (i + i + 1)) (e2 (i + i)) (e2 (i + i + 1)))
        → sum_to (λ i. cond (there i) (q (z i)) 0) n ≡ sum_to (λ i. cond (there i && not (covered i)) (q (plain i)) 0) n + (sum_to (λ j. cond (child j) (q (e1 j)) 0) k + sum_to (λ j. cond (child j) (q (e2 j)) 0) k)
    end_sum first second face =
        let own : ℕ → ℕ = λ i. cond (there i && not (covered i)) (q (plain i)) 0 in
        let one : ℕ → ℕ = λ j. cond (child j) (q (e1 j)) 0 in
        let two : ℕ → ℕ = λ j. cond (child j) (q (e2 j)) 0 in
        let pairs : (ℕ → ℕ) → ℕ → ℕ = λ g i. g (i + i) + g (i + i + 1) in
        let each : (i : ℕ) → i < n → cond (there i) (q (z i)) 0 ≡ own i + (pairs one i + pairs two i) = λ i h.
        one_face (there i) (covered i) (z i) (plain i) (e1 (i + i)) (e1 (i + i + 1)) (e2 (i + i)) (e2 (i + i + 1)) (face i h)
        ∙ sym (λ t. own i + ((cond (first i h t) (q (e1 (i + i))) 0 + cond (second i h t) (q (e1 (i + i + 1))) 0) + (cond (first i h t) (q (e2 (i + i))) 0 + cond (second i h t) (q (e2 (i + i + 1))) 0))) in
        sum_same (λ i. cond (there i) (q (z i)) 0) (λ i. own i + (pairs one i + pairs two i)) n each
        ∙ sum_add own (λ i. pairs one i + pairs two i) n
        ∙ ap (λ t. sum_to own n + t) (sum_add (pairs one) (pairs two) n ∙ sym (λ t. sum_pairs one n t + sum_pairs two n t) ∙ sym (λ t. sum_to one (twice t) + sum_to two (twice t)))

-- ---- the four ends of a level's domain

both_ends : (a b c d a' b' c' d' : ℕ) → a ≡ b + (c + d) → a' ≡ b' + (c' + d') → a + a' ≡ (b + b') + ((c + c') + (d + d'))
both_ends a b c d a' b' c' d' h k = omega (arith, h, k)

module _ (p : Problem) (l : ℕ) (m old fine : Masses) (e1 e2 : Fluxes) (inside : IsInside p l m) (nest : IsNest p l m fine) (all1 : AllSigned p (suc l) e1) (all2 : AllSigned p (suc l) e2) where
  e : Fluxes
  e = effective p l m old fine e1 e2

  plain : Fluxes
  plain = flux_at p l m old

  not_outside : (k : Cell) → (IsCellInside p l k → ⊥) → is_covered fine k ≡ false
  not_outside k out = false_from_ne_true (is_covered fine k) (λ h. out (inside.at k (nest.there k h)))

  some_none : (o : Option ℕ) → o ≡ None → is_some o ≡ false
  some_none o h = ap is_some h

  -- a child is there exactly where its parent is covered
  child_there : (c k : Cell) → (is_covered fine c ≡ true → IsSome (fine k)) → (HasNoChildren fine c → fine k ≡ None) → is_some (fine k) ≡ is_covered fine c
  child_there c k then_there else_none = bool_cases (is_covered fine c) (λ h. then_there h ∙ sym h) (λ h. some_none (fine k) (else_none (no_children fine c h)) ∙ sym h)

  there_0 : (c : Cell) → is_some (fine (child_0 c)) ≡ is_covered fine c
  there_0 c = child_there c (child_0 c) (nest.children.k0 c) (λ n. n.k0)

  there_1 : (c : Cell) → is_some (fine (child_1 c)) ≡ is_covered fine c
  there_1 c = child_there c (child_1 c) (nest.children.k1 c) (λ n. n.k1)

  there_2 : (c : Cell) → is_some (fine (child_2 c)) ≡ is_covered fine c
  there_2 c = child_there c (child_2 c) (nest.children.k2 c) (λ n. n.k2)

  there_3 : (c : Cell) → is_some (fine (child_3 c)) ≡ is_covered fine c
  there_3 c = child_there c (child_3 c) (nest.children.k3 c) (λ n. n.k3)

  -- the effective flux of a face with a cell beside it that is inside, at its high or at its low side, and one outside
  cond_high : (a b : Bool) (x y : ℤ) → a ≡ false → cond (a || b) x y ≡ cond b x y
  cond_high a b x y h = ap (λ (t : Bool). cond (t || b) x y) h

  cond_low : (a b : Bool) (x y : ℤ) → b ≡ false → cond (a || b) x y ≡ cond a x y
  cond_low true b x y h = refl
  cond_low false b x y h = ap (λ (t : Bool). cond t x y) h

  beside_high : (f : Face) (c : Cell) → home_cell (domain p l) (high_cell f) ≡ c → (IsCellInside p l (home_cell (domain p l) (low_cell f)) → ⊥)
      → e f ≡ cond (is_covered fine c) (through_children e1 f.axis f.x f.y +ℤ through_children e2 f.axis f.x f.y) (plain f)
  unfolding e plain effective
  beside_high f c home out =
      cond_high (is_covered fine (home_cell (domain p l) (low_cell f))) (is_covered fine (home_cell (domain p l) (high_cell f))) (through_children e1 f.axis f.x f.y +ℤ through_children e2 f.axis f.x f.y) (flux_at p l m old f) (not_outside (home_cell (domain p l) (low_cell f)) out) ∙ ap (λ (k : Cell). cond (is_covered fine k) (through_children e1 f.axis f.x f.y +ℤ through_children e2 f.axis f.x f.y) (flux_at p l m old f)) home

  beside_low : (f : Face) (c : Cell) → home_cell (domain p l) (low_cell f) ≡ c → (IsCellInside p l (home_cell (domain p l) (high_cell f)) → ⊥)
      → e f ≡ cond (is_covered fine c) (through_children e1 f.axis f.x f.y +ℤ through_children e2 f.axis f.x f.y) (plain f)
  unfolding e plain effective
  beside_low f c home out =
      cond_low (is_covered fine (home_cell (domain p l) (low_cell f))) (is_covered fine (home_cell (domain p l) (high_cell f))) (through_children e1 f.axis f.x f.y +ℤ through_children e2 f.axis f.x f.y) (flux_at p l m old f) (not_outside (home_cell (domain p l) (high_cell f)) out) ∙ ap (λ (k : Cell). cond (is_covered fine k) (through_children e1 f.axis f.x f.y +ℤ through_children e2 f.axis f.x f.y) (flux_at p l m old f)) home

  -- with the child faces by other coordinates
  face_of : (f : Face) (c : Cell) (g h : Face) (s : ℤ) → e f ≡ cond (is_covered fine c) ((e1 g +ℤ e1 h) +ℤ (e2 g +ℤ e2 h)) (plain f) → courant p (suc l) g ≡ s → courant p (suc l) h ≡ s
      → (g' h' : Face) → g ≡ g' → h ≡ h' → IsFace (is_some (m c)) (is_covered fine c) (e f) (plain f) (e1 g') (e1 h') (e2 g') (e2 h')
  face_of f c g h s is first second g' h' eg eh = record {
    within = nest.there c;
    is = is ∙ (λ i. cond (is_covered fine c) ((e1 (eg i) +ℤ e1 (eh i)) +ℤ (e2 (eg i) +ℤ e2 (eh i))) (plain f));
    sign = s;
    first_1 = subst (λ (k : Face). IsSigned s (e1 k)) eg (signed_at p l e1 all1 g s first);
    second_1 = subst (λ (k : Face). IsSigned s (e1 k)) eh (signed_at p l e1 all1 h s second);
    first_2 = subst (λ (k : Face). IsSigned s (e2 k)) eg (signed_at p l e2 all2 g s first);
    second_2 = subst (λ (k : Face). IsSigned s (e2 k)) eh (signed_at p l e2 all2 h s second);
  }

  -- ---- coordinates of child faces, and of cells beside the ends

  twice_columns : columns p (suc l) ≡ columns p l + columns p l
  twice_columns = twice_as_many p.nx l

  twice_rows : rows p (suc l) ≡ rows p l + rows p l
  twice_rows = twice_as_many p.ny l

  double : (i : ℕ) → pos i +ℤ pos i ≡ pos (i + i)
  double i = omega (arith, ints)

  double_next : (i : ℕ) → pos i +ℤ pos i +ℤ pos 1 ≡ pos (i + i + 1)
  double_next i = omega (arith, ints)

  last_child : (n k : ℕ) → k ≡ n + n → (pos n -ℤ pos 1) +ℤ (pos n -ℤ pos 1) +ℤ pos 1 ≡ pos k -ℤ pos 1
  last_child n k h = omega (arith, ints, h)

  end_child : (n k : ℕ) → k ≡ n + n → pos n +ℤ pos n ≡ pos k
  end_child n k h = omega (arith, ints, h)

  west_in : (i : ℕ) → 0 < columns p l → i < rows p l → IsCellInside p l (cell (pos 0) (pos i))
  west_in i some h = record { west = omega (arith, ints); east = omega (arith, ints, some); south = omega (arith, ints); north = omega (arith, ints, h) }

  east_in : (i : ℕ) → 0 < columns p l → i < rows p l → IsCellInside p l (cell (pos (columns p l) -ℤ pos 1) (pos i))
  east_in i some h = record { west = omega (arith, ints, some); east = omega (arith, ints); south = omega (arith, ints); north = omega (arith, ints, h) }

  south_in : (i : ℕ) → 0 < rows p l → i < columns p l → IsCellInside p l (cell (pos i) (pos 0))
  south_in i some h = record { west = omega (arith, ints); east = omega (arith, ints, h); south = omega (arith, ints); north = omega (arith, ints, some) }

  north_in : (i : ℕ) → 0 < rows p l → i < columns p l → IsCellInside p l (cell (pos i) (pos (rows p l) -ℤ pos 1))
  north_in i some h = record { west = omega (arith, ints); east = omega (arith, ints, h); south = omega (arith, ints, some); north = omega (arith, ints) }

  -- past the end of an open axis
  stays : (b : Bool) (n : ℕ) (z : ℤ) → b ≡ false → wrapped b n z ≡ z
  stays b n z h = ap (λ (t : Bool). wrapped t n z) h

  -- ---- the x axis

  module _ (open_x : is_periodic p.x_sides ≡ false) (some_x : 0 < columns p l) where
    west_out : (i : ℕ) → IsCellInside p l (home_cell (domain p l) (cell (pos 0 -ℤ pos 1) (pos i))) → ⊥
    west_out i at = let x = stays (is_periodic p.x_sides) (columns p l) (pos 0 -ℤ pos 1) open_x in let w = at.west in omega (arith, ints, x, w)

    east_out : (i : ℕ) → IsCellInside p l (home_cell (domain p l) (cell (pos (columns p l)) (pos i))) → ⊥
    east_out i at = let x = stays (is_periodic p.x_sides) (columns p l) (pos (columns p l)) open_x in let w = at.east in omega (arith, ints, x, w)

    west_face : (i : ℕ) → i < rows p l → let f : Face = face X (pos 0) (pos i) in let c : Cell = cell (pos 0) (pos i) in
        IsFace (is_some (m c)) (is_covered fine c) (e f) (plain f) (e1 (face X (pos 0) (pos (i + i)))) (e1 (face X (pos 0) (pos (i + i + 1)))) (e2 (face X (pos 0) (pos (i + i)))) (e2 (face X (pos 0) (pos (i + i + 1))))
    west_face i h =
        let f = face X (pos 0) (pos i) in
        let c = cell (pos 0) (pos i) in
        face_of f c (face X (pos 0 +ℤ pos 0) (pos i +ℤ pos i)) (face X (pos 0 +ℤ pos 0) (pos i +ℤ pos i +ℤ pos 1)) (courant p l f)
        (beside_high f c (home_at p l c (west_in i some_x h)) (west_out i))
        (courant_x_first p l (pos 0) (pos 0 +ℤ pos 0) (pos i) (pos i)) (courant_x_second p l (pos 0) (pos 0 +ℤ pos 0) (pos i) (pos i))
        (face X (pos 0) (pos (i + i))) (face X (pos 0) (pos (i + i + 1))) (same_face X refl (double i)) (same_face X refl (double_next i))

    east_face : (i : ℕ) → i < rows p l → let f : Face = face X (pos (columns p l)) (pos i) in let c : Cell = cell (pos (columns p l) -ℤ pos 1) (pos i) in let k : ℤ = pos (columns p (suc l)) in
        IsFace (is_some (m c)) (is_covered fine c) (e f) (plain f) (e1 (face X k (pos (i + i)))) (e1 (face X k (pos (i + i + 1)))) (e2 (face X k (pos (i + i)))) (e2 (face X k (pos (i + i + 1))))
    east_face i h =
        let n = columns p l in
        let k = columns p (suc l) in
        let f = face X (pos n) (pos i) in
        let c = cell (pos n -ℤ pos 1) (pos i) in
        let end = end_child n k twice_columns in
        face_of f c (face X (pos n +ℤ pos n) (pos i +ℤ pos i)) (face X (pos n +ℤ pos n) (pos i +ℤ pos i +ℤ pos 1)) (courant p l f)
        (beside_low f c (home_at p l c (east_in i some_x h)) (east_out i))
        (courant_x_first p l (pos n) (pos n +ℤ pos n) (pos i) (pos i)) (courant_x_second p l (pos n) (pos n +ℤ pos n) (pos i) (pos i))
        (face X (pos k) (pos (i + i))) (face X (pos k) (pos (i + i + 1))) (same_face X end (double i)) (same_face X end (double_next i))

    x_axis : (low high : ℤ → ℕ) → IsAdditive low → IsAdditive high
        → x_beside p l (λ c. is_some (m c)) low high e ≡ x_beside p l (is_uncovered m fine) low high plain + (x_beside p (suc l) (λ c. is_some (fine c)) low high e1 + x_beside p (suc l) (λ c. is_some (fine c)) low high e2)
    x_axis low high add_low add_high =
        let n = columns p l in
        let k = columns p (suc l) in
        let last = last_child n k twice_columns in
        let west = end_sum low add_low (rows p l) (rows p (suc l)) twice_rows (λ y. is_some (m (cell (pos 0) (pos y)))) (λ y. is_covered fine (cell (pos 0) (pos y))) (λ y. is_some (fine (cell (pos 0) (pos y))))
        (λ y. e (face X (pos 0) (pos y))) (λ y. plain (face X (pos 0) (pos y))) (λ y. e1 (face X (pos 0) (pos y))) (λ y. e2 (face X (pos 0) (pos y)))
        (λ i h. ap (λ (t : Cell). is_some (fine t)) (sym (same_cell refl (double i))) ∙ there_0 (cell (pos 0) (pos i)))
        (λ i h. ap (λ (t : Cell). is_some (fine t)) (sym (same_cell refl (double_next i))) ∙ there_2 (cell (pos 0) (pos i)))
        west_face in
        let east = end_sum high add_high (rows p l) (rows p (suc l)) twice_rows (λ y. is_some (m (cell (pos n -ℤ pos 1) (pos y)))) (λ y. is_covered fine (cell (pos n -ℤ pos 1) (pos y))) (λ y. is_some (fine (cell (pos k -ℤ pos 1) (pos y))))
        (λ y. e (face X (pos n) (pos y))) (λ y. plain (face X (pos n) (pos y))) (λ y. e1 (face X (pos k) (pos y))) (λ y. e2 (face X (pos k) (pos y)))
        (λ i h. ap (λ (t : Cell). is_some (fine t)) (sym (same_cell last (double i))) ∙ there_1 (cell (pos n -ℤ pos 1) (pos i)))
        (λ i h. ap (λ (t : Cell). is_some (fine t)) (sym (same_cell last (double_next i))) ∙ there_3 (cell (pos n -ℤ pos 1) (pos i)))
        east_face in
        both_ends _ _ _ _ _ _ _ _ west east

  -- ---- the y axis

  module _ (open_y : is_periodic p.y_sides ≡ false) (some_y : 0 < rows p l) where
    south_out : (i : ℕ) → IsCellInside p l (home_cell (domain p l) (cell (pos i) (pos 0 -ℤ pos 1))) → ⊥
    south_out i at = let y = stays (is_periodic p.y_sides) (rows p l) (pos 0 -ℤ pos 1) open_y in let w = at.south in omega (arith, ints, y, w)

    north_out : (i : ℕ) → IsCellInside p l (home_cell (domain p l) (cell (pos i) (pos (rows p l)))) → ⊥
    north_out i at = let y = stays (is_periodic p.y_sides) (rows p l) (pos (rows p l)) open_y in let w = at.north in omega (arith, ints, y, w)

    south_face : (i : ℕ) → i < columns p l → let f : Face = face Y (pos i) (pos 0) in let c : Cell = cell (pos i) (pos 0) in
        IsFace (is_some (m c)) (is_covered fine c) (e f) (plain f) (e1 (face Y (pos (i + i)) (pos 0))) (e1 (face Y (pos (i + i + 1)) (pos 0))) (e2 (face Y (pos (i + i)) (pos 0))) (e2 (face Y (pos (i + i + 1)) (pos 0)))
    south_face i h =
        let f = face Y (pos i) (pos 0) in
        let c = cell (pos i) (pos 0) in
        face_of f c (face Y (pos i +ℤ pos i) (pos 0 +ℤ pos 0)) (face Y (pos i +ℤ pos i +ℤ pos 1) (pos 0 +ℤ pos 0)) (courant p l f)
        (beside_high f c (home_at p l c (south_in i some_y h)) (south_out i))
        (courant_y_first p l (pos i) (pos i) (pos 0) (pos 0 +ℤ pos 0)) (courant_y_second p l (pos i) (pos i) (pos 0) (pos 0 +ℤ pos 0))
        (face Y (pos (i + i)) (pos 0)) (face Y (pos (i + i + 1)) (pos 0)) (same_face Y (double i) refl) (same_face Y (double_next i) refl)

    north_face : (i : ℕ) → i < columns p l → let f : Face = face Y (pos i) (pos (rows p l)) in let c : Cell = cell (pos i) (pos (rows p l) -ℤ pos 1) in let k : ℤ = pos (rows p (suc l)) in
        IsFace (is_some (m c)) (is_covered fine c) (e f) (plain f) (e1 (face Y (pos (i + i)) k)) (e1 (face Y (pos (i + i + 1)) k)) (e2 (face Y (pos (i + i)) k)) (e2 (face Y (pos (i + i + 1)) k))
    north_face i h =
        let n = rows p l in
        let k = rows p (suc l) in
        let f = face Y (pos i) (pos n) in
        let c = cell (pos i) (pos n -ℤ pos 1) in
        let end = end_child n k twice_rows in
        face_of f c (face Y (pos i +ℤ pos i) (pos n +ℤ pos n)) (face Y (pos i +ℤ pos i +ℤ pos 1) (pos n +ℤ pos n)) (courant p l f)
        (beside_low f c (home_at p l c (north_in i some_y h)) (north_out i))
        (courant_y_first p l (pos i) (pos i) (pos n) (pos n +ℤ pos n)) (courant_y_second p l (pos i) (pos i) (pos n) (pos n +ℤ pos n))
        (face Y (pos (i + i)) (pos k)) (face Y (pos (i + i + 1)) (pos k)) (same_face Y (double i) end) (same_face Y (double_next i) end)

    y_axis : (low high : ℤ → ℕ) → IsAdditive low → IsAdditive high
        → y_beside p l (λ c. is_some (m c)) low high e ≡ y_beside p l (is_uncovered m fine) low high plain + (y_beside p (suc l) (λ c. is_some (fine c)) low high e1 + y_beside p (suc l) (λ c. is_some (fine c)) low high e2)
    y_axis low high add_low add_high =
        let n = rows p l in
        let k = rows p (suc l) in
        let last = last_child n k twice_rows in
        let south = end_sum low add_low (columns p l) (columns p (suc l)) twice_columns (λ x. is_some (m (cell (pos x) (pos 0)))) (λ x. is_covered fine (cell (pos x) (pos 0))) (λ x. is_some (fine (cell (pos x) (pos 0))))
        (λ x. e (face Y (pos x) (pos 0))) (λ x. plain (face Y (pos x) (pos 0))) (λ x. e1 (face Y (pos x) (pos 0))) (λ x. e2 (face Y (pos x) (pos 0)))
        (λ i h. ap (λ (t : Cell). is_some (fine t)) (sym (same_cell (double i) refl)) ∙ there_0 (cell (pos i) (pos 0)))
        (λ i h. ap (λ (t : Cell). is_some (fine t)) (sym (same_cell (double_next i) refl)) ∙ there_1 (cell (pos i) (pos 0)))
        south_face in
        let north = end_sum high add_high (columns p l) (columns p (suc l)) twice_columns (λ x. is_some (m (cell (pos x) (pos n -ℤ pos 1)))) (λ x. is_covered fine (cell (pos x) (pos n -ℤ pos 1))) (λ x. is_some (fine (cell (pos x) (pos k -ℤ pos 1))))
        (λ x. e (face Y (pos x) (pos n))) (λ x. plain (face Y (pos x) (pos n))) (λ x. e1 (face Y (pos x) (pos k))) (λ x. e2 (face Y (pos x) (pos k)))
        (λ i h. ap (λ (t : Cell). is_some (fine t)) (sym (same_cell (double i) last)) ∙ there_2 (cell (pos i) (pos n -ℤ pos 1)))
        (λ i h. ap (λ (t : Cell). is_some (fine t)) (sym (same_cell (double_next i) last)) ∙ there_3 (cell (pos i) (pos n -ℤ pos 1)))
        north_face in
        both_ends _ _ _ _ _ _ _ _ south north

  -- ---- both axes

  if_open_parts : (s : Sides) (a b c d : ℕ) → (is_periodic s ≡ false → a ≡ b + (c + d)) → if_open s a ≡ if_open s b + (if_open s c + if_open s d)
  if_open_parts Periodic a b c d h = refl
  if_open_parts (Open low high) a b c d h = h refl

  module _ (some_x : 0 < columns p l) (some_y : 0 < rows p l) where
    pub inflow_parts : inflow_beside p l (λ c. is_some (m c)) (effective p l m old fine e1 e2)
        ≡ inflow_beside p l (is_uncovered m fine) (flux_at p l m old) + (inflow_beside p (suc l) (λ c. is_some (fine c)) e1 + inflow_beside p (suc l) (λ c. is_some (fine c)) e2)
    unfolding inflow_beside e plain
    inflow_parts = both_ends _ _ _ _ _ _ _ _
        (if_open_parts p.x_sides _ _ _ _ (λ o. x_axis o some_x at_least_zero below_zero above_additive below_additive))
        (if_open_parts p.y_sides _ _ _ _ (λ o. y_axis o some_y at_least_zero below_zero above_additive below_additive))

    pub outflow_parts : outflow_beside p l (λ c. is_some (m c)) (effective p l m old fine e1 e2)
        ≡ outflow_beside p l (is_uncovered m fine) (flux_at p l m old) + (outflow_beside p (suc l) (λ c. is_some (fine c)) e1 + outflow_beside p (suc l) (λ c. is_some (fine c)) e2)
    unfolding outflow_beside e plain
    outflow_parts = both_ends _ _ _ _ _ _ _ _
        (if_open_parts p.x_sides _ _ _ _ (λ o. x_axis o some_x below_zero at_least_zero below_additive above_additive))
        (if_open_parts p.y_sides _ _ _ _ (λ o. y_axis o some_y below_zero at_least_zero below_additive above_additive))
