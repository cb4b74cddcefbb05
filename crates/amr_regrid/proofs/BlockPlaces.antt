-- The blocks of a level: how many there are, and where their cells and the clusters of them lie.
use Rattle.std.proofs.Common.{◌≡◌, ℕ, zero, suc, ◌/◌, ◌<◌, ◌≤◌, Bool, true, inl, inr, ℤ, pos, ◌+ℤ◌, ◌-ℤ◌, ◌*ℤ◌, ◌≤ℤ◌, ◌<ℤ◌, sym, subst, arith, List, [], ◌∷◌, length, get_or}
use Rattle.std.specs.List.{All}
use Rattle.std.proofs.lemmas.Int.{ints}
use Rattle.std.proofs.Math.Nat.{div-le_self}
use Rattle.amr_box.specs.declared.Cell.{Cell}
use Rattle.amr_box.specs.declared.Axis.TheVariants.{X, Y}
use Rattle.amr_box.specs.Cells.{Extent, extent, holds, within}
use Rattle.amr_def.specs.declared.problem.Problem.{Problem}
use Rattle.amr_def.specs.Domain.{Domain, cells_where, columns, domain_box, refined, rows}
use Rattle.amr_def.specs.Cluster.{cluster, cluster_within}
use Rattle.amr_def.specs.NewBoxes.{block_side}
use Rattle.amr_def.proofs.ClusterLaws.{BoxesBelow, BoxesFrom, within_below, within_from}
use Rattle.amr_def.proofs.LevelLists.{IsCellInside}
use Rattle.amr_def.proofs.Sizes.{doubled_small}
use Rattle.amr_laws.proofs.Blocks.{IsSide}
use Rattle.amr_laws.proofs.CellSets.{both_parts, each_inside, each_then}
use Rattle.amr_laws.proofs.NewLevels.{box_axis, is_blocking_of}
use Rattle.amr_regrid.specs.Blocks.{IsLow, blocks_of}

pub columns_few : (p : Problem) (l : ℕ) → l ≤ 4 → (blocks_of p l).columns ≤ 4096
columns_few p l k = let d = div-le_self (columns p l) (block_side p) in omega (arith, d, doubled_small p.nx l p.limits.greatest_nx k)

pub rows_few : (p : Problem) (l : ℕ) → l ≤ 4 → (blocks_of p l).rows ≤ 4096
rows_few p l k = let d = div-le_self (rows p l) (block_side p) in omega (arith, d, doubled_small p.ny l p.limits.greatest_ny k)

-- ---- the cells of a block lie in the domain

pub axis_bounds : (low high z : ℤ) → within low high z ≡ true → (low ≤ℤ z) × (z ≤ℤ high)
axis_bounds low high z h = grind (arith, ints)

abbrev InBlock : ℕ → ℕ → ℤ → ℤ → Type 0
InBlock x s z q = within (pos 0) (pos (x / s) -ℤ pos 1) z ≡ true → within (pos s *ℤ z) (pos s *ℤ z +ℤ (pos s -ℤ pos 1)) q ≡ true → (pos 0 ≤ℤ q) × (q <ℤ pos x)

in_block_1 : (x : ℕ) (z q : ℤ) → InBlock x 1 z q
in_block_1 x z q h k = let a = axis_bounds (pos 0) (pos (x / 1) -ℤ pos 1) z h in let b = axis_bounds (pos 1 *ℤ z) (pos 1 *ℤ z +ℤ (pos 1 -ℤ pos 1)) q k in (omega (arith, ints, a.0, a.1, b.0, b.1), omega (arith, ints, a.0, a.1, b.0, b.1))

in_block_2 : (x : ℕ) (z q : ℤ) → InBlock x 2 z q
in_block_2 x z q h k = let a = axis_bounds (pos 0) (pos (x / 2) -ℤ pos 1) z h in let b = axis_bounds (pos 2 *ℤ z) (pos 2 *ℤ z +ℤ (pos 2 -ℤ pos 1)) q k in (omega (arith, ints, a.0, a.1, b.0, b.1), omega (arith, ints, a.0, a.1, b.0, b.1))

in_block_4 : (x : ℕ) (z q : ℤ) → InBlock x 4 z q
in_block_4 x z q h k = let a = axis_bounds (pos 0) (pos (x / 4) -ℤ pos 1) z h in let b = axis_bounds (pos 4 *ℤ z) (pos 4 *ℤ z +ℤ (pos 4 -ℤ pos 1)) q k in (omega (arith, ints, a.0, a.1, b.0, b.1), omega (arith, ints, a.0, a.1, b.0, b.1))

in_block_8 : (x : ℕ) (z q : ℤ) → InBlock x 8 z q
in_block_8 x z q h k = let a = axis_bounds (pos 0) (pos (x / 8) -ℤ pos 1) z h in let b = axis_bounds (pos 8 *ℤ z) (pos 8 *ℤ z +ℤ (pos 8 -ℤ pos 1)) q k in (omega (arith, ints, a.0, a.1, b.0, b.1), omega (arith, ints, a.0, a.1, b.0, b.1))

in_block : (x s : ℕ) (z q : ℤ) → IsSide s → InBlock x s z q
in_block x s z q (inl e) = subst (λ t. InBlock x t z q) (sym e) (in_block_1 x z q)
in_block x s z q (inr (inl e)) = subst (λ t. InBlock x t z q) (sym e) (in_block_2 x z q)
in_block x s z q (inr (inr (inl e))) = subst (λ t. InBlock x t z q) (sym e) (in_block_4 x z q)
in_block x s z q (inr (inr (inr e))) = subst (λ t. InBlock x t z q) (sym e) (in_block_8 x z q)

-- a cell of a block of the level's blocks
pub block_inside : (p : Problem) (l : ℕ) (c q : Cell) → holds (domain_box (blocks_of p l)) c ≡ true → holds (refined (block_side p) (extent c c)) q ≡ true → IsCellInside p l q
block_inside p l c q h k =
    let side = (is_blocking_of p).half_side in
    let parts = both_parts _ _ h in
    let inner = both_parts _ _ k in
    let x = in_block (columns p l) (block_side p) c.x q.x side parts.0 inner.0 in
    let y = in_block (rows p l) (block_side p) c.y q.y side parts.1 inner.1 in
    record { west = x.0; east = x.1; south = y.0; north = y.1 }

-- ---- clusters of blocks lie among them

all_low : (e f : ℕ) (bs : List Extent) → e ≤ 4096 → f ≤ 4096 → BoxesFrom X (pos 0) bs → BoxesBelow X (pos e) bs → BoxesFrom Y (pos 0) bs → BoxesBelow Y (pos f) bs → (i : ℕ) (d : Extent) → i < length bs → IsLow (get_or bs i d)
all_low e f [] h k w x s n i d fits = absurd (omega arith)
all_low e f (b ∷ bs) h k w x s n zero d fits = record { west = w.0; east = omega (arith, ints, x.0, h); south = s.0; north = omega (arith, ints, n.0, k) }
all_low e f (b ∷ bs) h k w x s n (suc i) d fits = all_low e f bs h k w.1 x.1 s.1 n.1 i d (omega (arith, fits))

pub clusters_low : (efficiency w : ℕ) (d : Domain) (test : Cell → Bool) → d.columns ≤ 4096 → d.rows ≤ 4096 → All IsLow (cluster efficiency w (cells_where d test))
unfolding cluster
clusters_low efficiency w d test h k =
    let cs = cells_where d test in
    let held = each_inside d test in
    let axes : (q : Cell) → holds (domain_box d) q ≡ true → (pos 0 ≤ℤ q.x) × (q.x <ℤ pos d.columns) × (pos 0 ≤ℤ q.y) × (q.y <ℤ pos d.rows) = λ q h.
    let parts = both_parts _ _ h in
    let x = box_axis d.columns q.x parts.0 in
    let y = box_axis d.rows q.y parts.1 in
    (x.0, x.1, y.0, y.1) in
    all_low d.columns d.rows (cluster_within efficiency w (length cs) cs) h k
    (within_from efficiency w (length cs) X (pos 0) cs (each_then (λ q. holds (domain_box d) q ≡ true) (λ q. pos 0 ≤ℤ q.x) (λ q h. (axes q h).0) cs held))
    (within_below efficiency w (length cs) X (pos d.columns) cs (each_then (λ q. holds (domain_box d) q ≡ true) (λ q. q.x <ℤ pos d.columns) (λ q h. (axes q h).1) cs held))
    (within_from efficiency w (length cs) Y (pos 0) cs (each_then (λ q. holds (domain_box d) q ≡ true) (λ q. pos 0 ≤ℤ q.y) (λ q h. (axes q h).2) cs held))
    (within_below efficiency w (length cs) Y (pos d.rows) cs (each_then (λ q. holds (domain_box d) q ≡ true) (λ q. q.y <ℤ pos d.rows) (λ q h. (axes q h).3) cs held))
