-- The limits of a problem's numbers and lists. (profile)
use Rattle.std.specs.Prelude.{◌≡◌, if◌then◌else◌, ℕ, ◌+◌, ◌/◌, ◌%◌, ◌^◌, ◌≤◌, max}
use Rattle.std.specs.Prelude.{Bool, true, ◌&&◌, ◌||◌, ◌==◌, nat_lt, nat_le, ℤ, unsigned_abs, List, [], ◌∷◌, length}
use Rattle.std.specs.List.{list_all}
use Rattle.amr_def.specs.declared.problem.Sides.{Sides}
use Rattle.amr_def.specs.declared.problem.Sides.TheVariants.{Periodic, Open}
use Rattle.amr_def.specs.declared.problem.Block.{Block}

-- a number from low to high, both inside
abbrev pub between : ℕ → ℕ → ℕ → Bool
between low high n = nat_le low n && nat_le n high

-- a to z, 0 to 9, - and _
abbrev pub is_name_byte : ℕ → Bool
is_name_byte b = between 97 122 b || between 48 57 b || (b == 45) || (b == 95)

-- the greatest mass of a block, inflow and threshold
abbrev pub greatest_given : ℕ
greatest_given = 2 ^ 30

abbrev pub has_inflows : Sides → Bool
has_inflows Periodic = true
has_inflows (Open low high) = nat_le low greatest_given && nat_le high greatest_given

-- ---- Courant numbers

-- the numbers in use on an axis: one for each row or column of level 0, or one for all
abbrev pub in_use : ℤ → List ℤ → List ℤ
in_use c [] = c ∷ []
in_use c (s ∷ ss) = s ∷ ss

abbrev pub greatest_size : List ℤ → ℕ
greatest_size [] = 0
greatest_size (c ∷ cs) = max (unsigned_abs c) (greatest_size cs)

-- none, or one for each of n rows or columns, each from -1024 to 1024
abbrev pub is_shear : ℕ → List ℤ → Bool
is_shear n cs = ((length cs == 0) || (length cs == n)) && nat_le (greatest_size cs) 1024

-- ---- blocks

-- corners in order and in a level 0 of nx by ny cells, and the mass
abbrev pub is_block : ℕ → ℕ → Block → Bool
is_block nx ny b = nat_le b.x0 b.x1 && nat_lt b.x1 nx && nat_le b.y0 b.y1 && nat_lt b.y1 ny && nat_le b.mass greatest_given

-- the mass is of one of so many species
abbrev pub is_of_species_below : ℕ → Block → Bool
is_of_species_below n b = nat_lt b.species n

-- how many species a problem of a version may have
abbrev pub most_species : ℕ → ℕ
most_species version = if nat_le version 2 then 1 else 4

abbrev pub is_blocking : ℕ → Bool
is_blocking b = (b == 2) || (b == 4) || (b == 8)

-- ---- the limits

pub record Limits (version : ℕ) (name : List ℕ) (nx ny steps : ℕ) (cx cy : ℤ) (d : ℕ) (shear_x shear_y : List ℤ) (x_sides y_sides : Sides) (max_level : ℕ)
    (tag : List ℕ) (n_error_buf efficiency min_width regrid_int blocking max_grid_size : ℕ) (blocks : List Block) (species : ℕ) : Type 0 where
  pub first_version : 1 ≤ version
  pub last_version : version ≤ 3
  pub named : 1 ≤ length name
  pub short_name : length name ≤ 32
  pub name_bytes : list_all is_name_byte name ≡ true
  pub least_nx : 2 ≤ nx
  pub greatest_nx : nx ≤ 256
  pub least_ny : 2 ≤ ny
  pub greatest_ny : ny ≤ 256
  pub greatest_steps : steps ≤ 4096
  pub greatest_cx : unsigned_abs cx ≤ 1024
  pub greatest_cy : unsigned_abs cy ≤ 1024
  pub least_d : 1 ≤ d
  pub greatest_d : d ≤ 1024
  pub rows_shear : is_shear ny shear_x ≡ true
  pub columns_shear : is_shear nx shear_y ≡ true
  -- no cell gives more than it has: the Courant numbers of the two axes add up to at most 1
  pub stable : greatest_size (in_use cx shear_x) + greatest_size (in_use cy shear_y) ≤ d
  pub x_inflows : has_inflows x_sides ≡ true
  pub y_inflows : has_inflows y_sides ≡ true
  pub greatest_max_level : max_level ≤ 4
  pub tag_count : length tag ≡ max_level
  pub thresholds : list_all (between 1 greatest_given) tag ≡ true
  pub greatest_n_error_buf : n_error_buf ≤ 8
  pub least_efficiency : 1 ≤ efficiency
  pub greatest_efficiency : efficiency ≤ 100
  pub least_min_width : 1 ≤ min_width
  pub greatest_min_width : min_width ≤ 16
  pub least_regrid_int : 1 ≤ regrid_int
  pub greatest_regrid_int : regrid_int ≤ 4096
  pub blocking_factor : is_blocking blocking ≡ true
  -- half of the blocking factor divides level 0
  pub x_blocks : nx % (blocking / 2) ≡ 0
  pub y_blocks : ny % (blocking / 2) ≡ 0
  pub least_max_grid_size : 4 ≤ max_grid_size
  pub greatest_max_grid_size : max_grid_size ≤ 256
  pub even_max_grid_size : max_grid_size % 2 ≡ 0
  pub block_count : length blocks ≤ 256
  pub blocks_inside : list_all (is_block nx ny) blocks ≡ true
  pub some_species : 1 ≤ species
  pub few_species : species ≤ most_species version
  pub blocks_species : list_all (is_of_species_below species) blocks ≡ true

-- of the domain of a level
pub record DomainLimits (l nx ny : ℕ) : Type 0 where
  pub greatest_level : l ≤ 4
  pub least_columns : 2 ≤ nx
  pub greatest_columns : nx ≤ 256
  pub least_rows : 2 ≤ ny
  pub greatest_rows : ny ≤ 256
