-- The problem of a species alone is within the limits.
use Rattle.std.proofs.Common.{◌≡◌, ◌≤◌, ℕ, ◌==◌, zero, suc, Bool, true, false, cond, refl, List, [], ◌∷◌, map, length, nat_le, arith}
use Rattle.std.proofs.lemmas.Bool.{and_parts as both_parts, and_from as and_true}
use Rattle.std.specs.List.{list_all, filter}
use Rattle.amr_def.specs.declared.problem.Problem.{Problem}
use Rattle.amr_def.specs.declared.problem.Block.{Block}
use Rattle.amr_def.specs.declared.problem.Sides.{Sides}
use Rattle.amr_def.specs.declared.problem.Sides.TheVariants.{Periodic, Open}
use Rattle.amr_def.specs.Limits.{Limits, has_inflows, is_block, is_of_species_below, most_species}
use Rattle.amr_def.specs.OneSpecies.{alone, blocks_of, is_of, sides_of}

inflows_of : (k : ℕ) (sides : Sides) → has_inflows sides ≡ true → has_inflows (sides_of k sides) ≡ true
inflows_of k Periodic h = refl
inflows_of zero (Open low high) h = h
inflows_of (suc k) (Open low high) h = refl

few_of : (k : ℕ) (bs : List Block) → length (blocks_of k bs) ≤ length bs
few_of k [] = omega arith
few_of k (b ∷ bs) = go (b.species == k) (few_of k bs)
  where
    go : (t : Bool) → length (blocks_of k bs) ≤ length bs → length (map alone (cond t (b ∷ filter (is_of k) bs) (filter (is_of k) bs))) ≤ suc (length bs)
    go true h = omega (arith, h)
    go false h = omega (arith, h)

inside_of : (nx ny k : ℕ) (bs : List Block) → list_all (is_block nx ny) bs ≡ true → list_all (is_block nx ny) (blocks_of k bs) ≡ true
inside_of nx ny k [] h = refl
inside_of nx ny k (b ∷ bs) h =
    let parts = both_parts (is_block nx ny b) (list_all (is_block nx ny) bs) h in
    go (b.species == k) parts.0 (inside_of nx ny k bs parts.1)
  where
    go : (t : Bool) → is_block nx ny b ≡ true → list_all (is_block nx ny) (blocks_of k bs) ≡ true
        → list_all (is_block nx ny) (map alone (cond t (b ∷ filter (is_of k) bs) (filter (is_of k) bs))) ≡ true
    go true one more = and_true (is_block nx ny b) (list_all (is_block nx ny) (blocks_of k bs)) one more
    go false one more = more

first_alone : (bs : List Block) → list_all (is_of_species_below 1) (map alone bs) ≡ true
first_alone [] = refl
first_alone (b ∷ bs) = first_alone bs

one_at_least : (version : ℕ) → 1 ≤ most_species version
one_at_least version = go (nat_le version 2)
  where
    go : (t : Bool) → 1 ≤ cond t 1 4
    go true = omega arith
    go false = omega arith

abbrev pub LimitsOfSpecies : Problem → ℕ → Type 0
LimitsOfSpecies p k =
    Limits p.version p.name p.nx p.ny p.steps p.cx p.cy p.d p.shear_x p.shear_y (sides_of k p.x_sides) (sides_of k p.y_sides) p.max_level p.tag
    p.n_error_buf p.efficiency p.min_width p.regrid_int p.blocking p.max_grid_size (blocks_of k p.blocks) 1

pub limits_of_species : (p : Problem) (k : ℕ) → LimitsOfSpecies p k
limits_of_species p k = let l = p.limits in record {
  first_version = l.first_version;
  last_version = l.last_version;
  named = l.named;
  short_name = l.short_name;
  name_bytes = l.name_bytes;
  least_nx = l.least_nx;
  greatest_nx = l.greatest_nx;
  least_ny = l.least_ny;
  greatest_ny = l.greatest_ny;
  greatest_steps = l.greatest_steps;
  greatest_cx = l.greatest_cx;
  greatest_cy = l.greatest_cy;
  least_d = l.least_d;
  greatest_d = l.greatest_d;
  rows_shear = l.rows_shear;
  columns_shear = l.columns_shear;
  stable = l.stable;
  x_inflows = inflows_of k p.x_sides l.x_inflows;
  y_inflows = inflows_of k p.y_sides l.y_inflows;
  greatest_max_level = l.greatest_max_level;
  tag_count = l.tag_count;
  thresholds = l.thresholds;
  greatest_n_error_buf = l.greatest_n_error_buf;
  least_efficiency = l.least_efficiency;
  greatest_efficiency = l.greatest_efficiency;
  least_min_width = l.least_min_width;
  greatest_min_width = l.greatest_min_width;
  least_regrid_int = l.least_regrid_int;
  greatest_regrid_int = l.greatest_regrid_int;
  blocking_factor = l.blocking_factor;
  x_blocks = l.x_blocks;
  y_blocks = l.y_blocks;
  least_max_grid_size = l.least_max_grid_size;
  greatest_max_grid_size = l.greatest_max_grid_size;
  even_max_grid_size = l.even_max_grid_size;
  block_count = omega (arith, few_of k p.blocks, l.block_count);
  blocks_inside = inside_of p.nx p.ny k p.blocks l.blocks_inside;
  some_species = omega arith;
  few_species = one_at_least p.version;
  blocks_species = first_alone (filter (is_of k) p.blocks);
}
