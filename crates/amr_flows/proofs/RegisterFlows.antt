-- What the patches of a level add to the gain of a register cell, less what they add to its loss, is what comes into the cell
-- through the child faces of its coarse-fine edges.
use Rattle.std.proofs.Common.{◌≡◌, ◌∙◌, ℕ, suc, ◌+◌, ◌*◌, ◌<◌, Bool, true, false, ◌||◌, cond, ℤ, pos, negsuc, ◌+ℤ◌, ◌-ℤ◌, neg_ℤ, List, [], ◌∷◌, length, refl, sym, ap, arith}
use Rattle.std.specs.Prelude.{slice_index_or}
use Rattle.std.specs.List.{All, Contains}
use Rattle.std.proofs.lemmas.Int.{ints}
use Rattle.std.proofs.lemmas.Bool.{cond-false, cond-true, false_from_ne_true}
use Rattle.std.proofs.lemmas.List.Elements.{Contains-get_or}
use Rattle.amr_box.specs.declared.Cell.{Cell}
use Rattle.amr_box.specs.declared.Axis.TheVariants.{X, Y}
use Rattle.amr_box.specs.Cells.{cell, holds, moved, parent}
use Rattle.amr_def.specs.declared.problem.Problem.{Problem}
use Rattle.amr_def.specs.Domain.{domain, home_cell, in_domain}
use Rattle.amr_def.specs.State.{Level, Masses, is_covered}
use Rattle.amr_def.specs.Facts.{IsLevel, IsNestedLevel}
use Rattle.amr_def.specs.Flux.{Fluxes, face, flux_at, low_cell, net}
use Rattle.amr_def.specs.LevelStep.{through_children}
use Rattle.amr_def.proofs.LevelLists.{IsCellInside}
use Rattle.amr_def.proofs.Nesting.{children, in_domain-inside}
use Rattle.amr_def.proofs.Uncovered.{home_at}
use Rattle.amr_def.proofs.Values.{same_cell}
use Rattle.amr_patch.specs.declared.patches.Patch.{Patch}
use Rattle.amr_patch.specs.Patches.{ArePatchesApart, box, in_patches}
use Rattle.amr_patch.proofs.Lookups.{in_none, in_one, same_default}
use Rattle.amr_register.specs.CoarseFlows.{high_face, low_face}
use Rattle.amr_register.specs.RegisterCells.{is_coarse_fine, is_register_cell, register_cells}
use Rattle.amr_register.proofs.CellLists.{where_inside, where_passes}
use Rattle.amr_register.proofs.CollectLaws.{none_covered}
use Rattle.amr_register.proofs.NetOver.{high_tells, low_tells}
use Rattle.amr_layout.specs.Adds.{flows_of, word_total}
use Rattle.amr_flows.specs.Laws.{ArePatchesOf, RegisterWordsAreOfChildren}
use Rattle.amr_flows.specs.Words.{child_flows}
use Rattle.amr_flows.proofs.RegisterFlowsSums.{over_same, over_sum, sum_over, totals_apart}
use Rattle.amr_flows.proofs.RegisterFlowsCells.{alike, bit, parent_home, plus_none, child_of}
use Rattle.amr_flows.proofs.RegisterFlowsSides.{gate}
use Rattle.amr_flows.proofs.RegisterFlowsRepeat.{high_x, high_y, low_x, low_y}
use Rattle.amr_flows.proofs.RegisterFlowsCrossings.{east, north, south, west}
use Rattle.amr_flows.proofs.RegisterFlowsBoxes.{by_gates, from_gates, goal_cell, level, size}

-- ---- a cell is in one patch

one_holds : (g : Cell) (v : ℤ) (ps : List Patch) → ArePatchesApart ps → sum_over (λ q. cond (holds (box q) g) v (pos 0)) ps ≡ cond (in_patches ps g) v (pos 0)
one_holds g v [] apart = refl
one_holds g v (q ∷ qs) apart = by_test (holds (box q) g) refl (one_holds g v qs (λ i j d lt h. apart (suc i) (suc j) d (omega arith) (omega arith)))
  where
    others : holds (box q) g ≡ true → in_patches qs g ≡ false
    others h = in_none qs g (λ j d lt k. apart 0 (suc j) d (omega arith) (omega arith) g h k)

    by_test : (t : Bool) → holds (box q) g ≡ t → sum_over (λ r. cond (holds (box r) g) v (pos 0)) qs ≡ cond (in_patches qs g) v (pos 0) → cond (holds (box q) g) v (pos 0) +ℤ sum_over (λ r. cond (holds (box r) g) v (pos 0)) qs ≡ cond (holds (box q) g || in_patches qs g) v (pos 0)
    by_test true e rest =
        let here : cond (holds (box q) g) v (pos 0) ≡ v = cond-true (holds (box q) g) v (pos 0) e in
        let none : cond (in_patches qs g) v (pos 0) ≡ pos 0 = cond-false (in_patches qs g) v (pos 0) (others e) in
        let all : cond (holds (box q) g || in_patches qs g) v (pos 0) ≡ v = ap (λ (t : Bool). cond (t || in_patches qs g) v (pos 0)) e in
        omega (arith, ints, here, none, all, rest)
    by_test false e rest =
        let here : cond (holds (box q) g) v (pos 0) ≡ pos 0 = cond-false (holds (box q) g) v (pos 0) e in
        let all : cond (holds (box q) g || in_patches qs g) v (pos 0) ≡ cond (in_patches qs g) v (pos 0) = ap (λ (t : Bool). cond (t || in_patches qs g) v (pos 0)) e in
        omega (arith, ints, here, all, rest)

-- ---- the register cell and its sides

cond_sum : (t : Bool) (v w : ℤ) → cond t v (pos 0) +ℤ cond t w (pos 0) ≡ cond t (v +ℤ w) (pos 0)
cond_sum true v w = refl
cond_sum false v w = refl

cond_minus : (t : Bool) (v w : ℤ) → cond t (neg_ℤ v +ℤ neg_ℤ w) (pos 0) ≡ neg_ℤ (cond t (v +ℤ w) (pos 0))
cond_minus true v w = omega (arith, ints)
cond_minus false v w = refl

twice_next : (z : ℤ) → z +ℤ z +ℤ pos 1 +ℤ pos 1 ≡ (z +ℤ pos 1) +ℤ (z +ℤ pos 1) +ℤ pos 0
twice_next z = omega (arith, ints)

twice_before : (z : ℤ) → z +ℤ z +ℤ pos 0 +ℤ negsuc 0 ≡ (z -ℤ pos 1) +ℤ (z -ℤ pos 1) +ℤ pos 1
twice_before z = omega (arith, ints)

there_again : (z : ℤ) → z +ℤ pos 0 +ℤ negsuc 0 +ℤ pos 1 ≡ z
there_again z = omega (arith, ints)

module _ (p : Problem) (l : ℕ) (coarse fine : Level) (old finer : Masses) (ps : List Patch) (k : ℕ) (d : Cell) (clevel : IsLevel p l coarse) (flevel : IsLevel p (suc l) fine) (nested : IsNestedLevel p l coarse fine) (patches : ArePatchesOf p (suc l) fine.masses ps)
    (within : k < length (register_cells p l coarse.masses fine.masses)) where
  abbrev c : Cell
  c = goal_cell p l coarse.masses fine.masses old finer ps k d within

  abbrev e : Fluxes
  e = flux_at p (suc l) fine.masses old

  abbrev covered : Cell → Bool
  covered q = is_covered fine.masses (home_cell (domain p l) q)

  listed : Contains (register_cells p l coarse.masses fine.masses) c
  listed = Contains-get_or (register_cells p l coarse.masses fine.masses) k d within

  in_level : in_domain (domain p l) c ≡ true
  in_level = where_inside (domain p l) (is_register_cell (domain p l) coarse.masses fine.masses) c listed

  inside : IsCellInside p l c
  inside = in_domain-inside p l c in_level

  free : is_covered fine.masses c ≡ false
  free = false_from_ne_true (is_covered fine.masses c) (λ h. none_covered (domain p l) coarse.masses fine.masses c h (where_passes (domain p l) (is_register_cell (domain p l) coarse.masses fine.masses) c listed))

  not_covered : (q : Cell) → q ≡ c → covered q ≡ false
  not_covered q is = ap covered is ∙ ap (is_covered fine.masses) (home_at p l c inside) ∙ free

  tells : (q : Cell) → in_patches ps q ≡ is_covered fine.masses (parent q)
  tells q = patches.cells q ∙ alike fine.masses (children p l coarse fine clevel flevel nested) q

  -- ---- over the patches

  abbrev gates : Cell → (Bool → Cell) → (Cell → ℤ) → Patch → ℤ
  gates from near value q = from_gates p l coarse.masses fine.masses old finer ps k d within (box q) from near value

  -- the gates of a side are of the level where the cell beyond the side, n, is covered
  side_total : (from : Cell) (near : Bool → Cell) (value : Cell → ℤ) (n : Cell) (a b : Bool → Bool) → ((i : Bool) → moved (near i) from ≡ child_of n (a i) (b i)) → sum_over (gates from near value) ps ≡ cond (covered n) (value (gate p l from near false) +ℤ value (gate p l from near true)) (pos 0)
  side_total from near value n a b is =
      let first = gate p l from near false in
      let second = gate p l from near true in
      let of_level : (i : Bool) → in_patches ps (gate p l from near i) ≡ covered n = λ i. tells (gate p l from near i) ∙ ap (λ (q : Cell). is_covered fine.masses (parent (home_cell (domain p (suc l)) q))) (is i) ∙ ap (is_covered fine.masses) (parent_home p l n (a i) (b i)) in
      over_sum (λ q. cond (holds (box q) first) (value first) (pos 0)) (λ q. cond (holds (box q) second) (value second) (pos 0)) ps
      ∙ (λ i. one_holds first (value first) ps patches.apart i +ℤ one_holds second (value second) ps patches.apart i)
      ∙ (λ i. cond (of_level false i) (value first) (pos 0) +ℤ cond (of_level true i) (value second) (pos 0))
      ∙ cond_sum (covered n) (value first) (value second)

  -- ---- the four sides of the cell

  abbrev flows : Fluxes
  flows = child_flows p l fine.masses e

  at_east : sum_over (gates east (λ i. child_of c true i) (λ u. neg_ℤ (e (low_face X u)))) ps ≡ neg_ℤ (flows (high_face X c))
  unfolding child_flows is_coarse_fine
  at_east =
      let n : Cell = cell (c.x +ℤ pos 1) c.y in
      let is : (i : Bool) → moved (child_of c true i) east ≡ child_of n false i = λ i. same_cell (twice_next c.x) (plus_none _) in
      let through : (i : Bool) (y : ℤ) → n.y +ℤ n.y +ℤ pos (bit i) ≡ y → e (low_face X (gate p l east (λ i. child_of c true i) i)) ≡ e (face X (n.x +ℤ n.x) y) = λ i y at. low_x p (suc l) fine.masses old (moved (child_of c true i) east) ∙ ap (λ (q : Cell). e (low_face X q)) (is i ∙ same_cell (plus_none _) at) in
      let a = through false (n.y +ℤ n.y) (plus_none _) in
      let b = through true (n.y +ℤ n.y +ℤ pos 1) refl in
      side_total east (λ i. child_of c true i) (λ u. neg_ℤ (e (low_face X u))) n (λ i. false) (λ i. i) is
      ∙ (λ i. cond (covered n) (neg_ℤ (a i) +ℤ neg_ℤ (b i)) (pos 0))
      ∙ cond_minus (covered n) (e (face X (n.x +ℤ n.x) (n.y +ℤ n.y))) (e (face X (n.x +ℤ n.x) (n.y +ℤ n.y +ℤ pos 1)))
      ∙ ap (λ (t : Bool). neg_ℤ (cond t (through_children e X n.x n.y) (pos 0))) (sym (high_tells (covered (low_cell (face X n.x n.y))) (covered n) (not_covered (low_cell (face X n.x n.y)) (same_cell (let z : c.x +ℤ pos 1 -ℤ pos 1 ≡ c.x = omega (arith, ints) in z) refl))))

  at_north : sum_over (gates north (λ i. child_of c i true) (λ u. neg_ℤ (e (low_face Y u)))) ps ≡ neg_ℤ (flows (high_face Y c))
  unfolding child_flows is_coarse_fine
  at_north =
      let n : Cell = cell c.x (c.y +ℤ pos 1) in
      let is : (i : Bool) → moved (child_of c i true) north ≡ child_of n i false = λ i. same_cell (plus_none _) (twice_next c.y) in
      let through : (i : Bool) (x : ℤ) → n.x +ℤ n.x +ℤ pos (bit i) ≡ x → e (low_face Y (gate p l north (λ i. child_of c i true) i)) ≡ e (face Y x (n.y +ℤ n.y)) = λ i x at. low_y p (suc l) fine.masses old (moved (child_of c i true) north) ∙ ap (λ (q : Cell). e (low_face Y q)) (is i ∙ same_cell at (plus_none _)) in
      let a = through false (n.x +ℤ n.x) (plus_none _) in
      let b = through true (n.x +ℤ n.x +ℤ pos 1) refl in
      side_total north (λ i. child_of c i true) (λ u. neg_ℤ (e (low_face Y u))) n (λ i. i) (λ i. false) is
      ∙ (λ i. cond (covered n) (neg_ℤ (a i) +ℤ neg_ℤ (b i)) (pos 0))
      ∙ cond_minus (covered n) (e (face Y (n.x +ℤ n.x) (n.y +ℤ n.y))) (e (face Y (n.x +ℤ n.x +ℤ pos 1) (n.y +ℤ n.y)))
      ∙ ap (λ (t : Bool). neg_ℤ (cond t (through_children e Y n.x n.y) (pos 0))) (sym (high_tells (covered (low_cell (face Y n.x n.y))) (covered n) (not_covered (low_cell (face Y n.x n.y)) (same_cell refl (let z : c.y +ℤ pos 1 -ℤ pos 1 ≡ c.y = omega (arith, ints) in z)))))

  at_west : sum_over (gates west (λ i. child_of c false i) (λ u. e (high_face X u))) ps ≡ flows (low_face X c)
  unfolding child_flows is_coarse_fine
  at_west =
      let n : Cell = cell (c.x -ℤ pos 1) c.y in
      let is : (i : Bool) → moved (child_of c false i) west ≡ child_of n true i = λ i. same_cell (twice_before c.x) (plus_none _) in
      let through : (i : Bool) (y : ℤ) → c.y +ℤ c.y +ℤ pos (bit i) +ℤ pos 0 ≡ y → e (high_face X (gate p l west (λ i. child_of c false i) i)) ≡ e (face X (c.x +ℤ c.x) y) = λ i y at. high_x p (suc l) fine.masses old (moved (child_of c false i) west) ∙ (λ j. e (face X (there_again (c.x +ℤ c.x) j) (at j))) in
      let a = through false (c.y +ℤ c.y) (plus_none _ ∙ plus_none _) in
      let b = through true (c.y +ℤ c.y +ℤ pos 1) (plus_none _) in
      side_total west (λ i. child_of c false i) (λ u. e (high_face X u)) n (λ i. true) (λ i. i) is
      ∙ (λ i. cond (covered n) (a i +ℤ b i) (pos 0))
      ∙ ap (λ (t : Bool). cond t (through_children e X c.x c.y) (pos 0)) (sym (low_tells (covered n) (covered c) (not_covered c refl)))

  at_south : sum_over (gates south (λ i. child_of c i false) (λ u. e (high_face Y u))) ps ≡ flows (low_face Y c)
  unfolding child_flows is_coarse_fine
  at_south =
      let n : Cell = cell c.x (c.y -ℤ pos 1) in
      let is : (i : Bool) → moved (child_of c i false) south ≡ child_of n i true = λ i. same_cell (plus_none _) (twice_before c.y) in
      let through : (i : Bool) (x : ℤ) → c.x +ℤ c.x +ℤ pos (bit i) +ℤ pos 0 ≡ x → e (high_face Y (gate p l south (λ i. child_of c i false) i)) ≡ e (face Y x (c.y +ℤ c.y)) = λ i x at. high_y p (suc l) fine.masses old (moved (child_of c i false) south) ∙ (λ j. e (face Y (at j) (there_again (c.y +ℤ c.y) j))) in
      let a = through false (c.x +ℤ c.x) (plus_none _ ∙ plus_none _) in
      let b = through true (c.x +ℤ c.x +ℤ pos 1) (plus_none _) in
      side_total south (λ i. child_of c i false) (λ u. e (high_face Y u)) n (λ i. i) (λ i. true) is
      ∙ (λ i. cond (covered n) (a i +ℤ b i) (pos 0))
      ∙ ap (λ (t : Bool). cond t (through_children e Y c.x c.y) (pos 0)) (sym (low_tells (covered n) (covered c) (not_covered c refl)))

  -- ---- all

  abbrev difference : Patch → ℤ
  difference q =
      pos (word_total (size p l coarse.masses fine.masses old finer ps k d within) (2 + 2 * k) (flows_of (level p l coarse.masses fine.masses old finer ps k d within) (box q)))
      -ℤ pos (word_total (size p l coarse.masses fine.masses old finer ps k d within) (3 + 2 * k) (flows_of (level p l coarse.masses fine.masses old finer ps k d within) (box q)))

  abbrev rows : Patch → ℤ
  rows q = gates east (λ i. child_of c true i) (λ u. neg_ℤ (e (low_face X u))) q +ℤ gates west (λ i. child_of c false i) (λ u. e (high_face X u)) q

  abbrev columns : Patch → ℤ
  columns q = gates north (λ i. child_of c i true) (λ u. neg_ℤ (e (low_face Y u))) q +ℤ gates south (λ i. child_of c i false) (λ u. e (high_face Y u)) q

  each_patch : All (λ q. difference q ≡ rows q +ℤ columns q) ps
  each_patch n q0 lt =
      let q = slice_index_or ps n q0 in
      by_gates p l coarse.masses fine.masses old finer ps k d within inside tells free (box q) q.near
      (λ r h. (patches.inside n q0 lt).at r h)
      (λ r h. in_one ps r n (record { inside = lt; holds_it = λ q1. ap (λ (s : Patch). holds (box s) r) (same_default ps n q1 q0 lt) ∙ h }))

  net_of : (w x y z : ℤ) (f : Fluxes) → w ≡ neg_ℤ (f (high_face X c)) → x ≡ f (low_face X c) → y ≡ neg_ℤ (f (high_face Y c)) → z ≡ f (low_face Y c) → (w +ℤ x) +ℤ (y +ℤ z) ≡ net f c
  unfolding net
  net_of w x y z f a b g h = omega (arith, ints, a, b, g, h)

  pub into_cell : sum_over difference ps ≡ net flows c
  into_cell =
      over_same difference (λ q. rows q +ℤ columns q) ps each_patch
      ∙ over_sum rows columns ps
      ∙ (λ i. over_sum (gates east (λ i. child_of c true i) (λ u. neg_ℤ (e (low_face X u)))) (gates west (λ i. child_of c false i) (λ u. e (high_face X u))) ps i
      +ℤ over_sum (gates north (λ i. child_of c i true) (λ u. neg_ℤ (e (low_face Y u)))) (gates south (λ i. child_of c i false) (λ u. e (high_face Y u))) ps i)
      ∙ net_of _ _ _ _ flows at_east at_west at_north at_south

pub words_are_of_children : RegisterWordsAreOfChildren
words_are_of_children p l coarse fine old finer ps k d clevel flevel nested patches within =
    totals_apart
    (λ q. word_total (size p l coarse.masses fine.masses old finer ps k d within) (2 + 2 * k) (flows_of (level p l coarse.masses fine.masses old finer ps k d within) (box q)))
    (λ q. word_total (size p l coarse.masses fine.masses old finer ps k d within) (3 + 2 * k) (flows_of (level p l coarse.masses fine.masses old finer ps k d within) (box q))) ps
    ∙ into_cell p l coarse fine old finer ps k d clevel flevel nested patches within
