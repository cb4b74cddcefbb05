-- The fields of a problem, as its text writes them.
use Rattle.std.specs.Prelude.{◌≡◌, ℕ, ℤ, pos, negsuc, List, [], ◌∷◌, map}
use Rattle.amr_def.specs.declared.problem.Problem.{Problem}
use Rattle.amr_def.specs.declared.problem.Block.{Block}
use Rattle.amr_def.specs.declared.problem.Sides.{Sides}
use Rattle.amr_def.specs.declared.problem.Sides.TheVariants.{Periodic, Open}
use Rattle.amr_problem.specs.declared.entries.Entries.{Entries}

-- as a problem writes an axis's sides: -1 twice, or its inflows
abbrev pub sides_numbers : Sides → List ℤ
sides_numbers Periodic = negsuc 0 ∷ negsuc 0 ∷ []
sides_numbers (Open low high) = pos low ∷ pos high ∷ []

-- as a problem of version 3 writes a block; before it the species, which is 0 there, isn't written
abbrev pub block_numbers : Block → List ℤ
block_numbers b = pos b.x0 ∷ pos b.y0 ∷ pos b.x1 ∷ pos b.y1 ∷ pos b.mass ∷ pos b.species ∷ []

-- ---- from entries to a problem

-- The fields of a problem are what the entries say. They stand in the order of its limits.
pub record AreValues (e : Entries) (version : ℕ) (name : List ℕ) (nx ny steps : ℕ) (cx cy : ℤ) (d : ℕ) (shear_x shear_y : List ℤ) (x_sides y_sides : Sides)
    (max_level : ℕ) (tag : List ℕ) (n_error_buf efficiency min_width regrid_int blocking max_grid_size : ℕ) (blocks : List Block) (species : ℕ) : Type 0 where
  pub version_is : e.basics.version ≡ pos version
  pub name_is : e.basics.name.items ≡ name
  pub nx_is : e.basics.nx ≡ pos nx
  pub ny_is : e.basics.ny ≡ pos ny
  pub steps_is : e.basics.steps ≡ pos steps
  pub cx_is : e.basics.cx ≡ cx
  pub cy_is : e.basics.cy ≡ cy
  pub d_is : e.basics.d ≡ pos d
  pub shear_x_is : e.overlay.shear_x.items ≡ shear_x
  pub shear_y_is : e.overlay.shear_y.items ≡ shear_y
  pub x_sides_are : e.basics.x_low ∷ e.basics.x_high ∷ [] ≡ sides_numbers x_sides
  pub y_sides_are : e.basics.y_low ∷ e.basics.y_high ∷ [] ≡ sides_numbers y_sides
  pub max_level_is : e.basics.max_level ≡ pos max_level
  pub tag_is : e.refining.tag.items ≡ map pos tag
  pub n_error_buf_is : e.refining.n_error_buf ≡ pos n_error_buf
  pub efficiency_is : e.refining.efficiency ≡ pos efficiency
  pub min_width_is : e.refining.min_width ≡ pos min_width
  pub regrid_int_is : e.refining.regrid_int ≡ pos regrid_int
  pub blocking_is : e.overlay.blocking ≡ pos blocking
  pub max_grid_size_is : e.refining.max_grid_size ≡ pos max_grid_size
  pub blocks_are : e.overlay.blocks.items ≡ map block_numbers blocks
  pub species_is : e.overlay.species ≡ pos species

abbrev pub IsOfEntries : Entries → Problem → Type 0
IsOfEntries e p =
    AreValues e p.version p.name p.nx p.ny p.steps p.cx p.cy p.d p.shear_x p.shear_y p.x_sides p.y_sides p.max_level p.tag p.n_error_buf p.efficiency
    p.min_width p.regrid_int p.blocking p.max_grid_size p.blocks p.species
