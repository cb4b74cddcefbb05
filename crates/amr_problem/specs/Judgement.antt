-- The judgement of bytes: the problem that they are, or their first fault. (profile)
use Rattle.std.specs.Prelude.{◌≡◌, ℕ, pos, List, [], ◌∷◌, ◌++◌, map, Option, Some, None}
use Rattle.toml.specs.Data.{Members}
use Rattle.amr_def.specs.declared.problem.Problem.{Problem}
use Rattle.amr_problem.specs.declared.fault.ProblemFault.{ProblemFault}
use Rattle.amr_problem.specs.declared.key.Key.TheVariants.{Version, Name, Cells, Steps, Courant, Sides, MaxLevel, Tag, NErrorBuf, Efficiency}
use Rattle.amr_problem.specs.declared.key.Key.TheVariants.{MinWidth, RegridInt, MaxGridSize, Blocks, ShearX, ShearY, Blocking, Species}
use Rattle.amr_problem.specs.Document.{table_of}
use Rattle.amr_problem.specs.Fields.{sides_numbers, block_numbers}
use Rattle.amr_problem.specs.Values.{number_at, text_at, numbers_at, integers_at, shear_at, rows_at}
use Rattle.amr_problem.specs.Faults.{first_fault}

-- the fields of a problem are what stands at the keys of the table
pub record HasKeys (table : Members) (p : Problem) : Type 0 where
  pub version : number_at table Version ≡ Some (pos p.version)
  pub name : text_at table Name ≡ Some p.name
  pub cells : numbers_at 2 table Cells ≡ Some (pos p.nx ∷ pos p.ny ∷ [])
  pub steps : number_at table Steps ≡ Some (pos p.steps)
  pub courant : numbers_at 3 table Courant ≡ Some (p.cx ∷ p.cy ∷ pos p.d ∷ [])
  pub sides : numbers_at 4 table Sides ≡ Some (sides_numbers p.x_sides ++ sides_numbers p.y_sides)
  pub max_level : number_at table MaxLevel ≡ Some (pos p.max_level)
  pub tag : integers_at table Tag ≡ Some (map pos p.tag)
  pub n_error_buf : number_at table NErrorBuf ≡ Some (pos p.n_error_buf)
  pub efficiency : number_at table Efficiency ≡ Some (pos p.efficiency)
  pub min_width : number_at table MinWidth ≡ Some (pos p.min_width)
  pub regrid_int : number_at table RegridInt ≡ Some (pos p.regrid_int)
  pub max_grid_size : number_at table MaxGridSize ≡ Some (pos p.max_grid_size)
  -- as the problem's version writes them
  pub blocks : rows_at p.version table Blocks ≡ Some (map block_numbers p.blocks)
  -- cx for each row, or none where that of courant holds in all
  pub shear_x : shear_at (pos p.ny) table ShearX ≡ Some p.shear_x
  -- cy for each column, or none
  pub shear_y : shear_at (pos p.nx) table ShearY ≡ Some p.shear_y
  pub blocking : number_at table Blocking ≡ Some (pos p.blocking)
  pub species : number_at table Species ≡ Some (pos p.species)

-- the fault of bytes: none exactly where they are those of a problem
unfoldable pub fault_of : List ℕ → Option ProblemFault
fault_of bytes = first_fault bytes

-- the problem is the one that the bytes are; that it is within the limits is a fact of its type
pub record IsProblemOf (bytes : List ℕ) (p : Problem) : Type 0 where
  pub clean : fault_of bytes ≡ None
  pub keys : HasKeys (table_of bytes) p
