-- The command set, as a table. (profile)
use Rattle.std.specs.Prelude.{ℕ, List, [], ◌∷◌, codes}

-- a number that a command takes, from `low` to `high`, with its name
pub record NumberRow : Type 0 where
  pub name : List ℕ
  pub low : ℕ
  pub high : ℕ

-- a command with its numbers: those that have to stand in their places, in order, and those that may be given by name, as
-- `--NAME N` or `--NAME=N`
pub record CommandRow : Type 0 where
  pub name : List ℕ
  pub places : List NumberRow
  pub options : List NumberRow

-- how many workers share a step, or the jobs of a batch
abbrev pub workers : NumberRow
workers = record { name = codes "workers"; low = 1; high = 64 }

-- the step that a run stops at
abbrev pub to : NumberRow
to = record { name = codes "to"; low = 0; high = 4096 }

-- how many steps lie between two checkpoints
abbrev pub keep : NumberRow
keep = record { name = codes "keep"; low = 1; high = 4096 }

-- how many records follow each whole state in a store that is created
abbrev pub deltas : NumberRow
deltas = record { name = codes "deltas"; low = 1; high = 7 }

-- where a trial's draws begin
abbrev pub number : NumberRow
number = record { name = codes "number"; low = 0; high = 4294967295 }

-- a trial's cells along each axis
abbrev pub size : NumberRow
size = record { name = codes "size"; low = 8; high = 256 }

-- the level that a view is of
abbrev pub level : NumberRow
level = record { name = codes "level"; low = 0; high = 4 }

-- a column or a row of the box that a view is of
abbrev pub coordinate : List ℕ → NumberRow
coordinate name = record { name = name; low = 0; high = 4095 }

-- the box's first column and row, and its last
abbrev pub x0 : NumberRow
x0 = coordinate (codes "x0")

abbrev pub y0 : NumberRow
y0 = coordinate (codes "y0")

abbrev pub x1 : NumberRow
x1 = coordinate (codes "x1")

abbrev pub y1 : NumberRow
y1 = coordinate (codes "y1")

-- the species that is seen
abbrev pub species : NumberRow
species = record { name = codes "species"; low = 0; high = 3 }

abbrev pub commands : List CommandRow
commands =
    record { name = codes "run"; places = []; options = workers ∷ to ∷ keep ∷ deltas ∷ [] }
    ∷ record { name = codes "check"; places = []; options = [] }
    ∷ record { name = codes "show"; places = []; options = [] }
    ∷ record { name = codes "trial"; places = number ∷ size ∷ []; options = workers ∷ [] }
    ∷ record { name = codes "batch"; places = []; options = workers ∷ [] }
    ∷ record { name = codes "view"; places = level ∷ x0 ∷ y0 ∷ x1 ∷ y1 ∷ []; options = species ∷ workers ∷ [] }
    ∷ []
