-- The tags of a level, grown, joined with what nests finer boxes, and gathered into blocks.
use Rattle.std.proofs.Common.{◌≡◌, ℕ, zero, suc, ◌+◌, ◌*◌, ◌/◌, ◌%◌, ◌^◌, ◌≤◌, Bool, true, ◌&&◌, ◌||◌, pos, ◌-ℤ◌, refl, sym, ap, subst, ◌∙◌, arith, add-one, List}
use Rattle.std.specs.List.{filter}
use Rattle.std.proofs.lemmas.Int.{ints}
use Rattle.amr_box.specs.declared.Cell.{Cell}
use Rattle.amr_box.specs.Cells.{cell, cells_of, Extent, extent, half, holds, parents_of}
use Rattle.amr_cluster.specs.Grown.{IsOverDomain}
use Rattle.amr_cluster.specs.Work.{cells_in}
use Rattle.amr_cluster.proofs.GrownTags.{grown-is}
use Rattle.amr_def.specs.declared.problem.Problem.{Problem}
use Rattle.amr_def.specs.Domain.{Domain, columns, domain, domain_box, has_cell_where, in_blocks, in_domain, refined, rows}
use Rattle.amr_def.specs.NewBoxes.{block_side, is_projected, is_wanted, wanted_blocks}
use Rattle.amr_def.specs.Tags.{is_grown}
use Rattle.amr_def.proofs.Courants.{power_positive, twice_as_many}
use Rattle.amr_def.proofs.Uncovered.{in_domain-yes}
use Rattle.amr_tags.specs.TagSets.{TagSet, has}
use Rattle.amr_tags.specs.TagSets.{is_near_tag}
use Rattle.amr_regrid.specs.Blocks.{blocks_of}
use Rattle.amr_regrid.proofs.BlockPlaces.{block_inside}
use Rattle.amr_regrid.proofs.CellBlocks.{any_box, filter_box, has_cell_1}

-- ---- the next coarser level

half_many : (n l : ℕ) → n * 2 ^ (l + 1) / 2 ≡ n * 2 ^ l
half_many n l =
    let e : n * 2 ^ (l + 1) ≡ n * 2 ^ suc l = ap (λ (k : ℕ). n * 2 ^ k) (add-one l) in
    let f : n * 2 ^ (l + 1) ≡ n * 2 ^ l + n * 2 ^ l = e ∙ twice_as_many n l in
    omega (arith, f)

pub below_is : (p : Problem) (l : ℕ) → in_blocks 2 (domain p (l + 1)) ≡ domain p l
below_is p l i = record { columns = half_many p.nx l i; rows = half_many p.ny l i; wrap_x = (domain p l).wrap_x; wrap_y = (domain p l).wrap_y }

-- ---- a domain in blocks

even_many : (n t : ℕ) → n % 2 ≡ 0 → (n * t) % 2 ≡ 0
even_many n t e =
    let whole : n ≡ n / 2 + n / 2 = omega (arith, e) in
    let twice : n * t ≡ n / 2 * t + n / 2 * t = ap (λ (k : ℕ). k * t) whole ∙ omega arith in
    omega (arith, twice)

fourth_many : (n t : ℕ) → n % 4 ≡ 0 → (n * t) % 4 ≡ 0
fourth_many n t e =
    let whole : n ≡ n / 4 + n / 4 + n / 4 + n / 4 = omega (arith, e) in
    let fourth : n * t ≡ n / 4 * t + n / 4 * t + n / 4 * t + n / 4 * t = ap (λ (k : ℕ). k * t) whole ∙ omega arith in
    omega (arith, fourth)

half_last : (n : ℕ) → 1 ≤ n → n % 2 ≡ 0 → half (pos n -ℤ pos 1) ≡ pos (n / 2) -ℤ pos 1
half_last zero h e = absurd (omega (arith, h))
half_last (suc m) h e =
    let less : pos (suc m) -ℤ pos 1 ≡ pos m = omega (arith, ints) in
    let halves : m / 2 + 1 ≡ suc m / 2 = omega (arith, e) in
    ap half less ∙ omega (arith, ints, halves)

-- the parents of the cells of a domain of even sides
pub halved : (d : Domain) → 1 ≤ d.columns → d.columns % 2 ≡ 0 → 1 ≤ d.rows → d.rows % 2 ≡ 0 → parents_of (domain_box d) ≡ domain_box (in_blocks 2 d)
halved d some x more y i = extent (cell (pos 0) (pos 0)) (cell (half_last d.columns some x i) (half_last d.rows more y i))

module _ (p : Problem) (l : ℕ) where
  side_is : (b : ℕ) → p.blocking ≡ b → block_side p ≡ b / 2
  side_is b e = ap (λ (t : ℕ). t / 2) e

  some_columns : 1 ≤ columns p l
  some_columns = omega (arith, power_positive p.nx l (omega (arith, p.limits.least_nx)))

  some_rows : 1 ≤ rows p l
  some_rows = omega (arith, power_positive p.ny l (omega (arith, p.limits.least_ny)))

  whole : (n : ℕ) → n / 1 ≡ n
  whole n = omega arith

  -- blocks of one cell
  module _ (two : p.blocking ≡ 2) where
    pub cells_1 : (test : Cell → Bool) (c : Cell) → test c ≡ has_cell_where (block_side p) test c
    cells_1 test c = sym (ap (λ (s : ℕ). has_cell_where s test c) (side_is 2 two) ∙ has_cell_1 test c)

  -- blocks of two by two
  module _ (four : p.blocking ≡ 4) where
    pub blocks_2 : parents_of (domain_box (domain p l)) ≡ domain_box (blocks_of p l)
    blocks_2 =
        let x : p.nx % 2 ≡ 0 = subst (λ (s : ℕ). p.nx % s ≡ 0) (side_is 4 four) p.limits.x_blocks in
        let y : p.ny % 2 ≡ 0 = subst (λ (s : ℕ). p.ny % s ≡ 0) (side_is 4 four) p.limits.y_blocks in
        halved (domain p l) some_columns (even_many p.nx (2 ^ l) x) some_rows (even_many p.ny (2 ^ l) y)
        ∙ sym (ap (λ (s : ℕ). domain_box (in_blocks s (domain p l))) (side_is 4 four))

  -- blocks of four by four
  module _ (eight : p.blocking ≡ 8) where
    fourth_columns : columns p l % 4 ≡ 0
    fourth_columns = fourth_many p.nx (2 ^ l) (subst (λ (s : ℕ). p.nx % s ≡ 0) (side_is 8 eight) p.limits.x_blocks)

    fourth_rows : rows p l % 4 ≡ 0
    fourth_rows = fourth_many p.ny (2 ^ l) (subst (λ (s : ℕ). p.ny % s ≡ 0) (side_is 8 eight) p.limits.y_blocks)

    halves : (n : ℕ) → n / 2 / 2 ≡ n / 4
    halves n = omega arith

    half_some : (n : ℕ) → 1 ≤ n → n % 4 ≡ 0 → 1 ≤ n / 2
    half_some n h e = omega (arith, h, e)

    half_even : (n : ℕ) → n % 4 ≡ 0 → n / 2 % 2 ≡ 0
    half_even n e = omega (arith, e)

    even : (n : ℕ) → n % 4 ≡ 0 → n % 2 ≡ 0
    even n e = omega (arith, e)

    pub pairs_4 : parents_of (domain_box (domain p l)) ≡ domain_box (in_blocks 2 (domain p l))
    pairs_4 = halved (domain p l) some_columns (even (columns p l) fourth_columns) some_rows (even (rows p l) fourth_rows)

    pub blocks_4 : parents_of (domain_box (in_blocks 2 (domain p l))) ≡ domain_box (blocks_of p l)
    blocks_4 =
        halved (in_blocks 2 (domain p l)) (half_some (columns p l) some_columns fourth_columns) (half_even (columns p l) fourth_columns) (half_some (rows p l) some_rows fourth_rows) (half_even (rows p l) fourth_rows)
        ∙ (λ i. domain_box (record { columns = halves (columns p l) i; rows = halves (rows p l) i; wrap_x = (domain p l).wrap_x; wrap_y = (domain p l).wrap_y }))
        ∙ sym (ap (λ (s : ℕ). domain_box (in_blocks s (domain p l))) (side_is 8 eight))

  pub cells_by : (b : ℕ) (test : Cell → Bool) (by : Cell → Bool) → p.blocking ≡ b → ((c : Cell) → has_cell_where (b / 2) test c ≡ by c) → (c : Cell) → by c ≡ has_cell_where (block_side p) test c
  cells_by b test by e is c = sym (ap (λ (s : ℕ). has_cell_where s test c) (side_is b e) ∙ is c)

-- ---- the wanted blocks

module _ (p : Problem) (l : ℕ) (finer : List Extent) (first grown joined blocks : TagSet) (over : IsOverDomain (domain p l) first)
    (grows : (c : Cell) → has grown c ≡ (holds first.bx c && is_near_tag first p.n_error_buf c))
    (joins : (c : Cell) → has joined c ≡ (has grown c || (in_domain (domain p l) c && is_projected (domain p (l + 1)) finer c)))
    (box : blocks.bx ≡ domain_box (blocks_of p l))
    (gathers : (c : Cell) → has blocks c ≡ has_cell_where (block_side p) (has joined) c) where
  abbrev wanted : Cell → Bool
  wanted = is_wanted p (λ k. has first) l finer

  joined_is : (q : Cell) → in_domain (domain p l) q ≡ true → has joined q ≡ wanted q
  joined_is q inside =
      let near : has grown q ≡ (in_domain (domain p l) q && is_grown p l (has first) q) = grows q ∙ grown-is (domain p l) first over (has first) (λ c. refl) p.n_error_buf q in
      joins q ∙ (λ i. near i || (in_domain (domain p l) q && is_projected (domain p (l + 1)) finer q))
      ∙ (λ i. (inside i && is_grown p l (has first) q) || (inside i && is_projected (domain p (l + 1)) finer q))

  pub wanted_are : cells_in (has blocks) blocks.bx ≡ wanted_blocks p (λ k. has first) l finer
  wanted_are =
      ap (λ (b : Extent). filter (has blocks) (cells_of b)) box
      ∙ filter_box (has blocks) (has_cell_where (block_side p) wanted) (domain_box (blocks_of p l)) each
    where
      each : (c : Cell) → holds (domain_box (blocks_of p l)) c ≡ true → has blocks c ≡ has_cell_where (block_side p) wanted c
      each c held = gathers c ∙ any_box (has joined) wanted (refined (block_side p) (extent c c)) (λ q k. joined_is q (in_domain-yes p l q (block_inside p l c q held k)))
