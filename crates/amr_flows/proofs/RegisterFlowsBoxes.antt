-- What one patch adds to the gain of a register cell, less what it adds to its loss.
use Rattle.std.proofs.Common.{◌≡◌, ◌∙◌, ℕ, suc, ◌+◌, ◌*◌, ◌<◌, Bool, true, false, ◌&&◌, cond, ℤ, pos, ◌+ℤ◌, ◌-ℤ◌, neg_ℤ, List, length, map, refl, sym, ap, arith}
use Rattle.std.specs.Prelude.{◌==◌, ◌||◌, int_lt, not, slice_index_or}
use Rattle.std.specs.Ordering.{int_eq}
use Rattle.std.proofs.lemmas.Int.{ints}
use Rattle.std.proofs.lemmas.Bool.{false_from_ne_true}
use Rattle.amr_box.specs.declared.Cell.{Cell}
use Rattle.amr_box.specs.declared.Face.{Face}
use Rattle.amr_box.specs.declared.Axis.TheVariants.{X, Y}
use Rattle.amr_box.specs.Cells.{Extent, IsNear, cell, height, holds, is_same_cell, moved, parent, width}
use Rattle.amr_box.proofs.Numbers.{minus_one}
use Rattle.amr_def.specs.declared.problem.Problem.{Problem}
use Rattle.amr_def.specs.Domain.{domain, in_domain}
use Rattle.amr_def.specs.State.{Masses, is_covered}
use Rattle.amr_def.specs.Flux.{courant, flux_at, high_cell, low_cell}
use Rattle.amr_def.specs.Value.{value_at}
use Rattle.amr_def.proofs.LevelLists.{IsCellInside}
use Rattle.amr_def.proofs.Values.{same_cell as same_corner}
use Rattle.amr_def.proofs.Sums.{sum_z, sum_z-same}
use Rattle.amr_patch.specs.declared.patches.Patch.{Patch}
use Rattle.amr_patch.specs.Patches.{in_patches}
use Rattle.amr_patch.proofs.Rows.{inside}
use Rattle.amr_faces.specs.Faces.{passing, x_end, y_end}
use Rattle.amr_layout.specs.Surroundings.{Around, around_masses, edge_count, edge_face, inside as inner, inward, is_coarse_fine, is_open, x_start, y_start}
use Rattle.amr_layout.specs.declared.FlowTo.{FlowTo}
use Rattle.amr_layout.specs.Adds.{cell_beyond, flow_to, flows_of, goes_on, is_ledger_face, number_of, size_to, word_of, word_total}
use Rattle.amr_layout.proofs.Going.{open_alone}
use Rattle.amr_register.specs.CoarseFlows.{high_face, low_face}
use Rattle.amr_register.specs.RegisterCells.{register_cells}
use Rattle.amr_flows.specs.Laws.{plain_size}
use Rattle.amr_flows.proofs.RegisterFlowsSums.{over_edges, over_map, over_passing, totals_apart}
use Rattle.amr_flows.proofs.RegisterFlowsSigns.{apart_by_words, has_number, inward_of, other_word, outward_of, part_of_face, register_cells_rise}
use Rattle.amr_flows.proofs.RegisterFlowsSides.{along_edge, gate, lies_in}
use Rattle.amr_flows.proofs.RegisterFlowsCrossings.{east, edge_east, edge_north, edge_south, edge_west, north, south, cross_east, cross_north, cross_south, cross_west, west}
use Rattle.amr_flows.proofs.RegisterFlowsCells.{plus_none, child_of}

module _ (p : Problem) (l : ℕ) (coarse fine old finer : Masses) (ps : List Patch) (k : ℕ) (d : Cell) (within : k < length (register_cells p l coarse fine)) where
  -- the level, its fluxes, and the register cell with number k
  abbrev pub level : Around
  level = around_masses p (suc l) ps (register_cells p l coarse fine) finer

  abbrev pub flux : Face → ℤ
  flux = flux_at p (suc l) fine old

  abbrev pub size : Face → ℕ
  size = plain_size p (suc l) fine old

  abbrev pub goal_cell : Cell
  goal_cell = slice_index_or (register_cells p l coarse fine) k d

  -- ---- what each face adds

  -- what flows out of the box through a face of the coarse-fine edge beyond which the register cell lies
  abbrev pub part : Extent → Face → ℤ
  part b f = cond (is_coarse_fine level b f && is_same_cell (cell_beyond level b f) goal_cell) (outward_of (holds b (high_cell f)) (flux f)) (pos 0)

  abbrev difference : FlowTo → ℤ
  difference x = apart_by_words k x.word (size x.face)

  face_part : (b : Extent) (f : Face) → cond (goes_on level b f) (difference (flow_to (word_of level b f) f)) (pos 0) ≡ part b f
  unfolding goes_on word_of is_ledger_face inward flux_at
  face_part b f =
      from (is_open level b f) (open_alone level b f)
      ∙ ap (λ (t : Bool). cond (is_coarse_fine level b f && t) (outward_of (holds b (high_cell f)) (flux f)) (pos 0)) (has_number (register_cells p l coarse fine) k (cell_beyond level b f) d (register_cells_rise p l coarse fine) within)
    where
      n : ℕ
      n = number_of (register_cells p l coarse fine) (cell_beyond level b f)

      i : ℤ
      i = inward_of (holds b (high_cell f)) (courant p (suc l) f)

      nothing : (t u : Bool) → cond t (apart_by_words k (cond u 0 1) (size f)) (pos 0) ≡ pos 0
      nothing true true = other_word k 0 (size f) (omega arith)
      nothing true false = other_word k 1 (size f) (omega arith)
      nothing false u = refl

      from : (o : Bool) → (o ≡ true → is_coarse_fine level b f ≡ false)
          → cond (((o && not (is_covered finer (inner b f))) || is_coarse_fine level b f) && not (int_eq i (pos 0))) (apart_by_words k (cond o (cond (int_lt (pos 0) i) 0 1) (cond (int_lt i (pos 0)) (2 + 2 * n) (3 + 2 * n))) (size f)) (pos 0)
          ≡ cond (is_coarse_fine level b f && (n == k)) (outward_of (holds b (high_cell f)) (flux f)) (pos 0)
      from true alone =
          nothing ((not (is_covered finer (inner b f)) || is_coarse_fine level b f) && not (int_eq i (pos 0))) (int_lt (pos 0) i)
          ∙ sym (ap (λ (t : Bool). cond (t && (n == k)) (outward_of (holds b (high_cell f)) (flux f)) (pos 0)) (alone refl))
      from false alone =
          part_of_face (is_coarse_fine level b f) (holds b (high_cell f)) (courant p (suc l) f) p.d (value_at p (suc l) fine old (low_cell f)) (value_at p (suc l) fine old (high_cell f)) n k

  pub box_parts : (b : Extent) → pos (word_total size (2 + 2 * k) (flows_of level b)) -ℤ pos (word_total size (3 + 2 * k) (flows_of level b))
      ≡ (sum_z (λ j. part b (x_start b j)) (height b) +ℤ sum_z (λ j. part b (x_end b j)) (height b)) +ℤ (sum_z (λ i. part b (y_start b i)) (width b) +ℤ sum_z (λ i. part b (y_end b i)) (width b))
  unfolding flows_of
  box_parts b =
      let to : Face → FlowTo = λ f. flow_to (word_of level b f) f in
      totals_apart (size_to size (2 + 2 * k)) (size_to size (3 + 2 * k)) (map to (passing (goes_on level b) (edge_face b) (edge_count b)))
      ∙ over_map difference to (passing (goes_on level b) (edge_face b) (edge_count b))
      ∙ over_passing (λ f. difference (to f)) (goes_on level b) (edge_face b) (edge_count b)
      ∙ sum_z-same (λ n. cond (goes_on level b (edge_face b n)) (difference (to (edge_face b n))) (pos 0)) (λ n. part b (edge_face b n)) (edge_count b) (λ n lt. face_part b (edge_face b n))
      ∙ over_edges (part b) b

  -- ---- by sides

  at_side : (b : Extent) (f : Face) (t : Bool) (o : Cell) → holds b (high_cell f) ≡ t → cond t (low_cell f) (high_cell f) ≡ o → part b f ≡ cond (lies_in p l (in_patches ps) goal_cell o) (outward_of t (flux f)) (pos 0)
  unfolding is_coarse_fine cell_beyond
  at_side b f t o e is =
      ap (λ (s : Bool). cond (lies_in p l (in_patches ps) goal_cell (cond s (low_cell f) (high_cell f))) (outward_of s (flux f)) (pos 0)) e
      ∙ ap (λ (q : Cell). cond (lies_in p l (in_patches ps) goal_cell q) (outward_of t (flux f)) (pos 0)) is

  -- what flows out of a cell through its faces on each side
  abbrev pub out_west : Cell → ℤ
  out_west u = neg_ℤ (flux (low_face X u))

  abbrev pub out_east : Cell → ℤ
  out_east u = flux (high_face X u)

  abbrev pub out_south : Cell → ℤ
  out_south u = neg_ℤ (flux (low_face Y u))

  abbrev pub out_north : Cell → ℤ
  out_north u = flux (high_face Y u)

  module _ (b : Extent) (near : IsNear b) where
    west_part : (j : ℕ) → j < height b → part b (x_start b j) ≡ cond (lies_in p l (in_patches ps) goal_cell (moved (cell b.lo.x (b.lo.y +ℤ pos j)) west)) (out_west (cell b.lo.x (b.lo.y +ℤ pos j))) (pos 0)
    west_part j lt = at_side b (x_start b j) true (moved (cell b.lo.x (b.lo.y +ℤ pos j)) west) ((edge_west b near).held j lt) (same_corner (minus_one b.lo.x) (sym (plus_none _)))

    south_part : (j : ℕ) → j < width b → part b (y_start b j) ≡ cond (lies_in p l (in_patches ps) goal_cell (moved (cell (b.lo.x +ℤ pos j) b.lo.y) south)) (out_south (cell (b.lo.x +ℤ pos j) b.lo.y)) (pos 0)
    south_part j lt = at_side b (y_start b j) true (moved (cell (b.lo.x +ℤ pos j) b.lo.y) south) ((edge_south b near).held j lt) (same_corner (sym (plus_none _)) (minus_one b.lo.y))

    past_east : (y : ℤ) → holds b (cell (b.hi.x +ℤ pos 1) y) ≡ true → ⊥
    past_east y h = let i = inside b (cell (b.hi.x +ℤ pos 1) y) h in omega (arith, ints, i.east)

    past_north : (x : ℤ) → holds b (cell x (b.hi.y +ℤ pos 1)) ≡ true → ⊥
    past_north x h = let i = inside b (cell x (b.hi.y +ℤ pos 1)) h in omega (arith, ints, i.north)

    east_part : (j : ℕ) → j < height b → part b (x_end b j) ≡ cond (lies_in p l (in_patches ps) goal_cell (moved (cell b.hi.x (b.lo.y +ℤ pos j)) east)) (out_east (cell b.hi.x (b.lo.y +ℤ pos j))) (pos 0)
    east_part j lt = at_side b (x_end b j) false (moved (cell b.hi.x (b.lo.y +ℤ pos j)) east) (false_from_ne_true _ (past_east (b.lo.y +ℤ pos j))) (same_corner refl (sym (plus_none _)))

    north_part : (j : ℕ) → j < width b → part b (y_end b j) ≡ cond (lies_in p l (in_patches ps) goal_cell (moved (cell (b.lo.x +ℤ pos j) b.hi.y) north)) (out_north (cell (b.lo.x +ℤ pos j) b.hi.y)) (pos 0)
    north_part j lt = at_side b (y_end b j) false (moved (cell (b.lo.x +ℤ pos j) b.hi.y) north) (false_from_ne_true _ (past_north (b.lo.x +ℤ pos j))) (same_corner (sym (plus_none _)) refl)

  -- what flows out of the box from the two gates of a side, where it holds them
  abbrev pub from_gates : Extent → Cell → (Bool → Cell) → (Cell → ℤ) → ℤ
  from_gates b from near value = cond (holds b (gate p l from near false)) (value (gate p l from near false)) (pos 0) +ℤ cond (holds b (gate p l from near true)) (value (gate p l from near true)) (pos 0)

  module _ (inside_goal : IsCellInside p l goal_cell) (tells : (q : Cell) → in_patches ps q ≡ is_covered fine (parent q)) (free : is_covered fine goal_cell ≡ false)
      (b : Extent) (near : IsNear b) (lies : (q : Cell) → holds b q ≡ true → in_domain (domain p (suc l)) q ≡ true) (of_level : (q : Cell) → holds b q ≡ true → in_patches ps q ≡ true) where
    pub by_gates : pos (word_total size (2 + 2 * k) (flows_of level b)) -ℤ pos (word_total size (3 + 2 * k) (flows_of level b))
        ≡ (from_gates b east (λ i. child_of goal_cell true i) out_west +ℤ from_gates b west (λ i. child_of goal_cell false i) out_east)
        +ℤ (from_gates b north (λ i. child_of goal_cell i true) out_south +ℤ from_gates b south (λ i. child_of goal_cell i false) out_north)
    by_gates =
        let c = goal_cell in
        let w : sum_z (λ j. part b (x_start b j)) (height b) ≡ from_gates b east (λ i. child_of c true i) out_west =
        sum_z-same (λ j. part b (x_start b j)) _ (height b) (west_part b near)
        ∙ along_edge p l fine (in_patches ps) c inside_goal tells free west east (λ i. child_of c true i) (λ i. child_of c false i) (cross_west c) b (height b) (λ j. cell b.lo.x (b.lo.y +ℤ pos j)) (edge_west b near) lies of_level out_west in
        let e : sum_z (λ j. part b (x_end b j)) (height b) ≡ from_gates b west (λ i. child_of c false i) out_east =
        sum_z-same (λ j. part b (x_end b j)) _ (height b) (east_part b near)
        ∙ along_edge p l fine (in_patches ps) c inside_goal tells free east west (λ i. child_of c false i) (λ i. child_of c true i) (cross_east c) b (height b) (λ j. cell b.hi.x (b.lo.y +ℤ pos j)) (edge_east b near) lies of_level out_east in
        let s : sum_z (λ j. part b (y_start b j)) (width b) ≡ from_gates b north (λ i. child_of c i true) out_south =
        sum_z-same (λ j. part b (y_start b j)) _ (width b) (south_part b near)
        ∙ along_edge p l fine (in_patches ps) c inside_goal tells free south north (λ i. child_of c i true) (λ i. child_of c i false) (cross_south c) b (width b) (λ j. cell (b.lo.x +ℤ pos j) b.lo.y) (edge_south b near) lies of_level out_south in
        let n : sum_z (λ j. part b (y_end b j)) (width b) ≡ from_gates b south (λ i. child_of c i false) out_north =
        sum_z-same (λ j. part b (y_end b j)) _ (width b) (north_part b near)
        ∙ along_edge p l fine (in_patches ps) c inside_goal tells free north south (λ i. child_of c i false) (λ i. child_of c i true) (cross_north c) b (width b) (λ j. cell (b.lo.x +ℤ pos j) b.hi.y) (edge_north b near) lies of_level out_north in
        box_parts b ∙ (λ i. (w i +ℤ e i) +ℤ (s i +ℤ n i))
