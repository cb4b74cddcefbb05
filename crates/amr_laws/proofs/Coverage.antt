-- New boxes lie in their domain, and cover each cell whose parent is wanted.
use Rattle.std.proofs.Common.{◌≡◌, ℕ, suc, ◌+◌, ◌*◌, ◌/◌, ◌%◌, ◌^◌, ◌<◌, ◌≤◌, Bool, true, ℤ, pos, negsuc, ◌≤ℤ◌, ◌<ℤ◌, sym, ap, subst, ◌∙◌, arith, List, map}
use Rattle.std.proofs.lemmas.Int.{ints}
use Rattle.std.proofs.Math.Nat.{lt-div-mul-add, div-mul-le_self, mul-le-mul_right, mod-add-div', mul-div_cancel, div-lt_iff_lt-mul}
use Rattle.amr_box.specs.declared.Cell.{Cell}
use Rattle.amr_box.specs.Cells.{parent, Extent, extent, holds, in_boxes}
use Rattle.amr_def.specs.declared.problem.Problem.{Problem}
use Rattle.amr_def.specs.Domain.{Domain, domain, domain_box, columns, rows, refined, in_blocks, has_cell_where}
use Rattle.amr_def.specs.Cluster.{cluster}
use Rattle.amr_def.specs.NewBoxes.{is_wanted, block_side, wanted_blocks}
use Rattle.amr_def.specs.Regrid.{odd}
use Rattle.amr_def.proofs.LevelLists.{IsCellInside}
use Rattle.amr_def.proofs.Courants.{twice_as_many}
use Rattle.amr_def.proofs.Nesting.{parent_inside, odd_small}
use Rattle.amr_def.proofs.Nests.{half_and_odd}
use Rattle.amr_def.proofs.ClusterLaws.{own_holds, cluster-disjoint, cluster-proper}
use Rattle.amr_laws.proofs.Blocks.{IsSide, block_at, block_of, holds-refined, in_boxes-refined, parent-block, side_positive}
use Rattle.amr_laws.proofs.CellSets.{any_in_box, clustered}
use Rattle.amr_laws.proofs.NewLevels.{AreNewBoxes, is_blocking_of, all_aligned, all_proper, refined_disjoint, pairs_apart, box_holds, cluster_within_domain}

-- the new boxes of level l + 1, over those of level l + 2
abbrev pub boxes_over : Problem → (ℕ → Cell → Bool) → ℕ → List Extent → List Extent
boxes_over p tagged l finer = map (refined p.blocking) (cluster p.efficiency p.min_width (wanted_blocks p tagged l finer))

-- ---- from blocks to cells and back

unblock : (n m : ℕ) (z : ℤ) → 0 < n → pos 0 ≤ℤ block_at n z → block_at n z <ℤ pos m → (pos 0 ≤ℤ z) × (z <ℤ pos (m * n))
unblock n m (pos a) some h k =
    let fits : a / n + 1 ≤ m = omega (arith, ints, k) in
    let whole : (a / n + 1) * n ≤ m * n = mul-le-mul_right n fits in
    let above : a < a / n * n + n = lt-div-mul-add some in
    (omega (arith, ints), omega (arith, ints, whole, above))
unblock n m (negsuc a) some h k = absurd (omega (arith, ints, h))

into_block : (n m : ℕ) (z : ℤ) → 0 < n → pos 0 ≤ℤ z → z <ℤ pos (m * n) → (pos 0 ≤ℤ block_at n z) × (block_at n z <ℤ pos m)
into_block n m (pos a) some h k =
    let less : a / n < m = (div-lt_iff_lt-mul some).1 (omega (arith, ints, k)) in
    (omega (arith, ints), omega (arith, ints, less))
into_block n m (negsuc a) some h k = absurd (omega (arith, ints, h))

-- a side of level 0 of whole blocks is one at each level
whole_blocks : (n h l : ℕ) → 0 < h → n % h ≡ 0 → n * 2 ^ l ≡ n * 2 ^ l / h * h
whole_blocks n h l some none =
    let whole : n ≡ n / h * h = omega (arith, mod-add-div' n h, none) in
    let sized : n * 2 ^ l ≡ n / h * 2 ^ l * h = ap (λ t. t * 2 ^ l) whole ∙ omega arith in
    let quotient : n * 2 ^ l / h ≡ n / h * 2 ^ l = ap (λ t. t / h) sized ∙ mul-div_cancel (n / h * 2 ^ l) some in
    sized ∙ ap (λ t. t * h) (sym quotient)

module _ (p : Problem) (tagged : ℕ → Cell → Bool) (l : ℕ) (finer : List Extent) where
  abbrev wanted : Cell → Bool
  wanted = is_wanted p tagged l finer

  abbrev blocks : Domain
  blocks = in_blocks (block_side p) (domain p l)

  abbrev clusters : List Extent
  clusters = cluster p.efficiency p.min_width (wanted_blocks p tagged l finer)

  side : IsSide p.blocking
  side = (is_blocking_of p).side

  half_side : IsSide (block_side p)
  half_side = (is_blocking_of p).half_side

  fewer : (n : ℕ) → n / block_side p * p.blocking ≤ n + n
  fewer n =
      let below : n / block_side p * block_side p ≤ n = div-mul-le_self n (block_side p) in
      let twice : n / block_side p * p.blocking ≡ n / block_side p * (block_side p + block_side p) = ap (λ t. n / block_side p * t) (is_blocking_of p).twice in
      omega (arith, below, twice)

  inside : (c : Cell) → in_boxes (boxes_over p tagged l finer) c ≡ true → IsCellInside p (suc l) c
  inside c h =
      let some = side_positive p.blocking side in
      let i = cluster_within_domain p.efficiency p.min_width blocks (has_cell_where (block_side p) wanted) (block_of p.blocking c) (sym (in_boxes-refined p.blocking side clusters c) ∙ h) in
      let x = unblock p.blocking (columns p l / block_side p) c.x some i.from_west i.to_east in
      let y = unblock p.blocking (rows p l / block_side p) c.y some i.from_south i.to_north in
      record {
        west = x.0;
        east = omega (arith, ints, x.1, fewer (columns p l), twice_as_many p.nx l);
        south = y.0;
        north = omega (arith, ints, y.1, fewer (rows p l), twice_as_many p.ny l);
      }

  pub new_boxes-good : AreNewBoxes p (suc l) (boxes_over p tagged l finer)
  new_boxes-good = record {
    proper = all_proper p.blocking side clusters (cluster-proper p.efficiency p.min_width (wanted_blocks p tagged l finer));
    aligned = all_aligned p.blocking side clusters;
    disjoint = pairs_apart (boxes_over p tagged l finer) (refined_disjoint p.blocking side clusters (cluster-disjoint p.efficiency p.min_width (wanted_blocks p tagged l finer)));
    inside = inside;
  }

  -- ---- what is covered

  pub of_parent : (q : Cell) → IsCellInside p (suc l) q → IsCellInside p l (parent q)
  of_parent q i = parent_inside p l (parent q) q (odd q.x) (odd q.y) (odd_small q.x) (odd_small q.y) (half_and_odd q.x) (half_and_odd q.y) i

  block_held : (c : Cell) → IsCellInside p l c → holds (domain_box blocks) (block_of (block_side p) c) ≡ true
  block_held c i =
      let some = side_positive (block_side p) half_side in
      let x = into_block (block_side p) (columns p l / block_side p) c.x some i.west (subst (λ n. c.x <ℤ pos n) (whole_blocks p.nx (block_side p) l some p.limits.x_blocks) i.east) in
      let y = into_block (block_side p) (rows p l / block_side p) c.y some i.south (subst (λ n. c.y <ℤ pos n) (whole_blocks p.ny (block_side p) l some p.limits.y_blocks) i.north) in
      box_holds blocks (block_of (block_side p) c) (record { from_west = x.0; to_east = x.1; from_south = y.0; to_north = y.1 })

  block_wanted : (c : Cell) → wanted c ≡ true → has_cell_where (block_side p) wanted (block_of (block_side p) c) ≡ true
  block_wanted c h =
      let b = block_of (block_side p) c in
      any_in_box wanted (refined (block_side p) (extent b b)) c (holds-refined (block_side p) half_side (extent b b) c ∙ own_holds b) h

  -- each cell whose parent is wanted is in a new box
  pub new_boxes-cover : (q : Cell) → IsCellInside p (suc l) q → wanted (parent q) ≡ true → in_boxes (boxes_over p tagged l finer) q ≡ true
  new_boxes-cover q i h =
      let c = parent q in
      let inside_blocks = block_held c (of_parent q i) in
      in_boxes-refined p.blocking side clusters q
      ∙ ap (in_boxes clusters) (parent-block p.blocking (is_blocking_of p) q)
      ∙ clustered p.efficiency p.min_width blocks (has_cell_where (block_side p) wanted) (block_of (block_side p) c) inside_blocks (block_wanted c h)
