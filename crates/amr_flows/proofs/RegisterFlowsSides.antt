-- The faces between a box and the children of a register cell, on one side of the box.
use Rattle.std.proofs.Common.{◌≡◌, ◌∙◌, ℕ, suc, ◌<◌, ◌⊎◌, inl, inr, Bool, true, false, ◌&&◌, cond, ℤ, pos, ◌+ℤ◌, refl, sym, ap, arith}
use Rattle.std.specs.Prelude.{not}
use Rattle.std.proofs.lemmas.Int.{ints}
use Rattle.std.proofs.lemmas.Bool.{and_from, and_parts, cond-false, cond-true, false_from_ne_true, not_from_false}
use Rattle.amr_box.specs.declared.Cell.{Cell}
use Rattle.amr_box.specs.Cells.{Extent, holds, is_same_cell, moved, parent}
use Rattle.amr_box.proofs.CellEquality.{coordinates_itself, coordinates_same}
use Rattle.amr_box.proofs.Tests.{opposite}
use Rattle.amr_def.specs.declared.problem.Problem.{Problem}
use Rattle.amr_def.specs.Domain.{domain, home_cell, in_domain}
use Rattle.amr_def.specs.State.{Masses, is_covered}
use Rattle.amr_def.proofs.LevelLists.{IsCellInside}
use Rattle.amr_def.proofs.Nesting.{home_shift, in_domain-inside}
use Rattle.amr_def.proofs.Uncovered.{home_at, in_domain-yes}
use Rattle.amr_def.proofs.Sums.{sum_z, sum_z-add, sum_z-same}
use Rattle.amr_flows.proofs.RegisterFlowsSums.{none_below, one_below}
use Rattle.amr_flows.proofs.RegisterFlowsCells.{parent_of, child_of, child_of-home, child_of-inside, is_child_of}

-- an offset by which no coordinate falls by more than 1
pub record IsStep (o : Cell) : Type 0 where
  pub columns : ℕ
  pub rows : ℕ
  pub x : o.x +ℤ pos 1 ≡ pos columns
  pub y : o.y +ℤ pos 1 ≡ pos rows

-- a step to the cell beside a cell, the step back, and of the children of c those that the first step enters from outside,
-- `near`, and those beyond them, `far`
pub record IsCrossing (c to from : Cell) (near far : Bool → Cell) : Type 0 where
  pub step_to : IsStep to
  pub step_from : IsStep from
  pub back : (q : Cell) → moved (moved q from) to ≡ q
  pub forth : (q : Cell) → moved (moved q to) from ≡ q
  pub near_child : (i : Bool) → (a : Bool) × ((b : Bool) × (near i ≡ child_of c a b))
  pub before_far : (i : Bool) → moved (far i) from ≡ near i
  pub each : (a b : Bool) → (i : Bool) × ((child_of c a b ≡ near i) ⊎ (child_of c a b ≡ far i))
  pub near_apart : near false ≡ near true → ⊥

-- the cells of a box along the side where the step leads out of it
pub record IsEdge (b : Extent) (n : ℕ) (u : ℕ → Cell) (to : Cell) : Type 0 where
  pub held : (j : ℕ) → j < n → holds b (u j) ≡ true
  pub reached : (g : Cell) → holds b g ≡ true → (holds b (moved g to) ≡ true → ⊥) → (j : ℕ) × (j < n) × (u j ≡ g)
  pub once : (i j : ℕ) → u i ≡ u j → i ≡ j

-- one of two, or none
two_cases : (t a b : Bool) (v x y : ℤ) → (t ≡ true → ((a ≡ true) × (b ≡ false) × (v ≡ x)) ⊎ ((a ≡ false) × (b ≡ true) × (v ≡ y))) → (t ≡ false → (a ≡ false) × (b ≡ false)) → cond t v (pos 0) ≡ cond a x (pos 0) +ℤ cond b y (pos 0)
two_cases true a b v x y h k = by_case (h refl)
  where
    by_case : ((a ≡ true) × (b ≡ false) × (v ≡ x)) ⊎ ((a ≡ false) × (b ≡ true) × (v ≡ y)) → v ≡ cond a x (pos 0) +ℤ cond b y (pos 0)
    by_case (inl e) =
        let l = cond-true a x (pos 0) e.0 in
        let r = cond-false b y (pos 0) e.1 in
        let s = e.2 in
        omega (arith, ints, l, r, s)
    by_case (inr e) =
        let l = cond-false a x (pos 0) e.0 in
        let r = cond-true b y (pos 0) e.1 in
        let s = e.2 in
        omega (arith, ints, l, r, s)
two_cases false a b v x y h k = λ i. sym (cond-false a x (pos 0) (k refl).0) i +ℤ sym (cond-false b y (pos 0) (k refl).1) i

apart_cells : (q r : Cell) → (q ≡ r → ⊥) → is_same_cell q r ≡ false
apart_cells q r h = false_from_ne_true (is_same_cell q r) (λ e. h (coordinates_same q r e))

equal_cells : (q r : Cell) → q ≡ r → is_same_cell q r ≡ true
equal_cells q r e = ap (λ (k : Cell). is_same_cell q k) (sym e) ∙ coordinates_itself q

-- whether a cell stands for a child of c that isn't of a level; `there` tells the cells of the level
abbrev pub lies_in : Problem → ℕ → (Cell → Bool) → Cell → Cell → Bool
lies_in p l there c o =
    (in_domain (domain p (suc l)) (home_cell (domain p (suc l)) o) && not (there (home_cell (domain p (suc l)) o))) && is_same_cell (parent (home_cell (domain p (suc l)) o)) c

-- the cells before the near children, as cells of the domain
abbrev pub gate : Problem → ℕ → Cell → (Bool → Cell) → Bool → Cell
gate p l from near i = home_cell (domain p (suc l)) (moved (near i) from)

-- a cell c that isn't covered, below a level of which `there` tells the cells
module _ (p : Problem) (l : ℕ) (fine : Masses) (there : Cell → Bool) (c : Cell) (inside : IsCellInside p l c) (tells : (q : Cell) → there q ≡ is_covered fine (parent q)) (free : is_covered fine c ≡ false) where
  abbrev home : Cell → Cell
  home = home_cell (domain p (suc l))

  -- no child of c is of the level
  none_there : (a b : Bool) → there (child_of c a b) ≡ false
  none_there a b = tells (child_of c a b) ∙ ap (is_covered fine) (parent_of c a b) ∙ free

  abbrev into : Cell → Bool
  into = lies_in p l there c

  in_child : (o : Cell) (a b : Bool) → home o ≡ child_of c a b → into o ≡ true
  in_child o a b e =
      and_from _ _
      (and_from _ _ (ap (in_domain (domain p (suc l))) e ∙ in_domain-yes p (suc l) (child_of c a b) (child_of-inside p l c a b inside)) (not_from_false (there (home o)) (ap there e ∙ none_there a b)))
      (equal_cells (parent (home o)) c (ap parent e ∙ parent_of c a b))

  module _ (to from : Cell) (near far : Bool → Cell) (crossing : IsCrossing c to from near far) where
    abbrev at : Bool → Cell
    at = gate p l from near

    forward_home : (q : Cell) → home (moved (home q) to) ≡ home (moved q to)
    forward_home q = home_shift p (suc l) q.x q.y to.x to.y crossing.step_to.columns crossing.step_to.rows crossing.step_to.x crossing.step_to.y

    backward_home : (q : Cell) → home (moved (home q) from) ≡ home (moved q from)
    backward_home q = home_shift p (suc l) q.x q.y from.x from.y crossing.step_from.columns crossing.step_from.rows crossing.step_from.x crossing.step_from.y

    near_home : (i : Bool) → home (near i) ≡ near i
    near_home i = let t = crossing.near_child i in ap home t.1.1 ∙ child_of-home p l c t.0 t.1.0 inside ∙ sym t.1.1

    past_gate : (i : Bool) → home (moved (at i) to) ≡ near i
    past_gate i = forward_home (moved (near i) from) ∙ ap home (crossing.back (near i)) ∙ near_home i

    gates_apart : at false ≡ at true → ⊥
    gates_apart e = crossing.near_apart (sym (past_gate false) ∙ ap (λ (q : Cell). home (moved q to)) e ∙ past_gate true)

    near_none : (i : Bool) → there (near i) ≡ false
    near_none i = let t = crossing.near_child i in ap there t.1.1 ∙ none_there t.0 t.1.0

    -- from a gate the step leads into a child
    enters : (u : Cell) (i : Bool) → u ≡ at i → into (moved u to) ≡ true
    enters u i e =
        let t = crossing.near_child i in
        in_child (moved u to) t.0 t.1.0 (ap (λ (q : Cell). home (moved q to)) e ∙ past_gate i ∙ t.1.1)

    module _ (u : Cell) (own : home u ≡ u) (some : there u ≡ true) where
      before : (o : Cell) → home (moved u to) ≡ o → u ≡ home (moved o from)
      before o e = sym own ∙ ap home (sym (crossing.forth u)) ∙ sym (backward_home (moved u to)) ∙ ap (λ (q : Cell). home (moved q from)) e

      -- and only from a gate
      from_gate : into (moved u to) ≡ true → (i : Bool) × (u ≡ at i)
      from_gate h =
          let o = home (moved u to) in
          let parts = and_parts (in_domain (domain p (suc l)) o && not (there o)) (is_same_cell (parent o) c) h in
          let child = is_child_of o c (coordinates_same (parent o) c parts.1) in
          let side = crossing.each child.0 child.1.0 in
          by_side child.0 child.1.0 side.0 child.1.1 side.1
        where
          by_side : (a b i : Bool) → home (moved u to) ≡ child_of c a b → (child_of c a b ≡ near i) ⊎ (child_of c a b ≡ far i) → (i : Bool) × (u ≡ at i)
          by_side a b i e (inl n) = (i, before (near i) (e ∙ n))
          by_side a b i e (inr f) = absurd (opposite some (ap there (before (far i) (e ∙ f) ∙ ap home (crossing.before_far i) ∙ near_home i) ∙ near_none i))

      other_gate : (i j : Bool) → u ≡ at i → (at i ≡ at j → ⊥) → is_same_cell u (at j) ≡ false
      other_gate i j e h = apart_cells u (at j) (λ f. h (sym e ∙ f))

      -- the value of a cell from which the step leads into a child, by the gates
      pub by_gates : (value : Cell → ℤ) → cond (into (moved u to)) (value u) (pos 0) ≡ cond (is_same_cell u (at false)) (value (at false)) (pos 0) +ℤ cond (is_same_cell u (at true)) (value (at true)) (pos 0)
      by_gates value = two_cases (into (moved u to)) (is_same_cell u (at false)) (is_same_cell u (at true)) (value u) (value (at false)) (value (at true)) (λ h. by_gate (from_gate h)) (λ h. (none false h, none true h))
        where
          by_gate : (i : Bool) × (u ≡ at i) → ((is_same_cell u (at false) ≡ true) × (is_same_cell u (at true) ≡ false) × (value u ≡ value (at false))) ⊎ ((is_same_cell u (at false) ≡ false) × (is_same_cell u (at true) ≡ true) × (value u ≡ value (at true)))
          by_gate (false, e) = inl (equal_cells u (at false) e, other_gate false true e gates_apart, ap value e)
          by_gate (true, e) = inr (other_gate true false e (λ f. gates_apart (sym f)), equal_cells u (at true) e, ap value e)

          none : (i : Bool) → into (moved u to) ≡ false → is_same_cell u (at i) ≡ false
          none i h = apart_cells u (at i) (λ e. opposite (enters u i e) h)

    module _ (b : Extent) (n : ℕ) (u : ℕ → Cell) (edge : IsEdge b n u to) (lies : (q : Cell) → holds b q ≡ true → in_domain (domain p (suc l)) q ≡ true) (of_level : (q : Cell) → holds b q ≡ true → there q ≡ true) where
      own_cell : (q : Cell) → holds b q ≡ true → home q ≡ q
      own_cell q h = home_at p (suc l) q (in_domain-inside p (suc l) q (lies q h))

      -- the cell past a gate is no cell of the box
      out : (i : Bool) → holds b (moved (at i) to) ≡ true → ⊥
      out i h = opposite (of_level (moved (at i) to) h) (ap there (sym (own_cell (moved (at i) to) h) ∙ past_gate i) ∙ near_none i)

      at_gate : (i : Bool) (v : ℤ) → sum_z (λ j. cond (is_same_cell (u j) (at i)) v (pos 0)) n ≡ cond (holds b (at i)) v (pos 0)
      at_gate i v = by_test (holds b (at i)) refl
        where
          by_test : (t : Bool) → holds b (at i) ≡ t → sum_z (λ j. cond (is_same_cell (u j) (at i)) v (pos 0)) n ≡ cond (holds b (at i)) v (pos 0)
          by_test true e =
              let j = edge.reached (at i) e (out i) in
              one_below (λ j. is_same_cell (u j) (at i)) v n j.0 j.1 (equal_cells (u j.0) (at i) j.2) (λ k lt h. edge.once k j.0 (coordinates_same (u k) (at i) h ∙ sym j.2))
              ∙ sym (cond-true (holds b (at i)) v (pos 0) e)
          by_test false e =
              none_below (λ j. is_same_cell (u j) (at i)) v n (λ j lt h. opposite (ap (holds b) (sym (coordinates_same (u j) (at i) h)) ∙ edge.held j lt) e)
              ∙ sym (cond-false (holds b (at i)) v (pos 0) e)

      -- along the side of the box
      pub along_edge : (value : Cell → ℤ) → sum_z (λ j. cond (into (moved (u j) to)) (value (u j)) (pos 0)) n ≡ cond (holds b (at false)) (value (at false)) (pos 0) +ℤ cond (holds b (at true)) (value (at true)) (pos 0)
      along_edge value =
          sum_z-same _ (λ j. cond (is_same_cell (u j) (at false)) (value (at false)) (pos 0) +ℤ cond (is_same_cell (u j) (at true)) (value (at true)) (pos 0)) n
          (λ j lt. by_gates (u j) (own_cell (u j) (edge.held j lt)) (of_level (u j) (edge.held j lt)) value)
          ∙ sum_z-add (λ j. cond (is_same_cell (u j) (at false)) (value (at false)) (pos 0)) (λ j. cond (is_same_cell (u j) (at true)) (value (at true)) (pos 0)) n
          ∙ (λ i. at_gate false (value (at false)) i +ℤ at_gate true (value (at true)) i)
