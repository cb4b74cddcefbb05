-- The faults of a problem, in the order in which they are looked for. (profile)
use Rattle.std.specs.Prelude.{ℕ, ◌+◌, ◌/◌, ◌%◌, ◌==◌, ℤ, pos, Bool, ◌&&◌, not, nat_lt, int_le, int_lt, unsigned_abs, List, [], ◌∷◌, length, map}
use Rattle.std.specs.Prelude.{find, fold, true, position, slice_index_or, Option, Some, None, option_map, is_some, if◌then◌else◌}
use Rattle.std.specs.Ordering.{int_eq}
use Rattle.std.specs.List.{list_all, enumerate_from}
use Rattle.std.specs.Option.{option_or, option_map_or}
use Rattle.amr_box.specs.declared.Axis.{Axis}
use Rattle.amr_box.specs.declared.Axis.TheVariants.{X, Y}
use Rattle.amr_def.specs.Limits.{is_name_byte, in_use, greatest_size}
use Rattle.toml.specs.Data.{Members, no_members, member}
use Rattle.amr_problem.specs.declared.fault.ProblemFault.{ProblemFault}
use Rattle.amr_problem.specs.declared.fault.ProblemFault.TheVariants.{TooLong, NotToml, UnknownKey, Missing, WrongKind}
use Rattle.amr_problem.specs.declared.fault.ProblemFault.TheVariants.{OutOfRange, SidesDiffer, BlockOutside, TagCount, SpeciesOutside}
use Rattle.amr_problem.specs.declared.fault.ProblemFault.TheVariants as fault
use Rattle.amr_problem.specs.declared.key.Key.{Key}
use Rattle.amr_problem.specs.declared.key.Key.TheVariants.{Version, Cells, Courant, Sides, MaxLevel, Tag, Blocks, ShearX, ShearY, Blocking, Species}
use Rattle.amr_problem.specs.declared.range.Range.{Range}
use Rattle.amr_problem.specs.Document.{document, table_of}
use Rattle.amr_problem.specs.Keys.{Kind, number, text, numbers, list, shear, rows, kind_of, keys, is_known, versions, holds, first_outside, first_beyond}
use Rattle.amr_problem.specs.Values.{◌>>=◌, is_there, number_at, text_at, numbers_at, integers_at, shear_at, rows_at}

-- the first that is some
abbrev pub first_some : {A : Type 0} → List (Option A) → Option A
first_some options = fold option_or None options

-- ---- the faults, each by its number in the order

abbrev pub most_bytes : ℕ
most_bytes = 65536

-- 1: there are too many bytes
abbrev pub too_long : List ℕ → Option ProblemFault
too_long bytes = if nat_lt most_bytes (length bytes) then Some TooLong else None

-- 2: they are no TOML
abbrev pub not_toml : List ℕ → Option ProblemFault
not_toml bytes = if is_some (document bytes) then None else Some NotToml

abbrev pub keys_in : Members → List (List ℕ)
keys_in no_members = []
keys_in (member key value rest) = key ∷ keys_in rest

-- the version of a problem that says this number: 1 where there is no such version
abbrev pub known_version : ℤ → ℕ
known_version z = if holds versions z then unsigned_abs z else 1

-- the version whose keys are known and whose blocks are read: 1 where a problem says no number
abbrev pub version_in : Members → ℕ
version_in table = option_map_or known_version (number_at table Version) 1

-- 3: a key is none of the version's. The members stand in the order of their bytes, so this is the least such key.
abbrev pub unknown_key : Members → Option ProblemFault
unknown_key table = option_map UnknownKey (find (λ key. not (is_known (version_in table) key)) (keys_in table))

-- 4: a key is absent, and nothing stands where it is
abbrev pub missing_key : Members → Option ProblemFault
missing_key table = option_map Missing (find (λ key. not (is_there table key)) keys)

-- how many numbers a shear of an axis has, by the columns and rows of level 0
abbrev pub shear_count : Axis → List ℤ → Option ℤ
shear_count X (nx ∷ ny ∷ []) = Some ny
shear_count Y (nx ∷ ny ∷ []) = Some nx
shear_count _ _ = None

abbrev pub shear_along : Axis → Members → Key → Option (List ℤ)
shear_along axis table key = numbers_at 2 table Cells >>= shear_count axis >>= (λ count. shear_at count table key)

abbrev pub is_read : Members → Key → Kind → Bool
is_read table key (number r) = is_some (number_at table key)
is_read table key (text r) = is_some (text_at table key)
is_read table key (numbers rs) = is_some (numbers_at (length rs) table key)
is_read table key (list r) = is_some (integers_at table key)
is_read table key (shear axis r) = is_some (shear_along axis table key)
is_read table key (rows most rs) = is_some (rows_at (version_in table) table key)

-- 5: a value is of another kind
abbrev pub first_wrong : Members → List Key → Option ProblemFault
first_wrong table ks = option_map WrongKind (find (λ key. not (is_read table key (kind_of key))) ks)

abbrev pub wrong_kind : Members → Option ProblemFault
wrong_kind table = first_wrong table keys

-- a text is too short or too long, or has other bytes than a name: then its length
abbrev pub text_outside : Range → List ℕ → Option ℤ
text_outside r bytes = if holds r (pos (length bytes)) && list_all is_name_byte bytes then None else Some (pos (length bytes))

-- there are too many rows: then their number; or a number of a row is out of its range
abbrev pub rows_outside : ℕ → List Range → List (List ℤ) → Option ℤ
rows_outside most rs many = if nat_lt most (length many) then Some (pos (length many)) else first_some (map (first_outside rs) many)

abbrev pub outside : Members → Key → Kind → Option ℤ
outside table key (number r) = number_at table key >>= (λ z. first_outside (r ∷ []) (z ∷ []))
outside table key (text r) = text_at table key >>= text_outside r
outside table key (numbers rs) = numbers_at (length rs) table key >>= first_outside rs
outside table key (list r) = integers_at table key >>= first_beyond r
outside table key (shear axis r) = shear_along axis table key >>= first_beyond r
outside table key (rows most rs) = rows_at (version_in table) table key >>= rows_outside most rs

abbrev pub key_outside : Members → Key → Option ProblemFault
key_outside table key = option_map (OutOfRange key) (outside table key (kind_of key))

-- 6: a number is out of its range
abbrev pub out_of_range : Members → Option ProblemFault
out_of_range table = first_some (map (key_outside table) keys)

-- a sum that exceeds d
abbrev pub over_by : ℕ → ℤ → Option ProblemFault
over_by sum d = if int_lt d (pos sum) then Some (fault.Courant (pos sum) d) else None

-- 7: more than a whole cell flows out of it in a step: the greatest sizes of the numbers that are in use along x and along y
-- add up to more than d
abbrev pub courant_over : List ℤ → List ℤ → List ℤ → Option ProblemFault
courant_over (cx ∷ cy ∷ d ∷ []) xs ys = over_by (greatest_size (in_use cx xs) + greatest_size (in_use cy ys)) d
courant_over _ xs ys = None

-- a side below 0 is the -1 of a periodic axis
abbrev pub is_periodic : ℤ → Bool
is_periodic side = int_lt side (pos 0)

-- one of the two is periodic and the other isn't
abbrev pub differ : ℤ → ℤ → Bool
differ low high = if is_periodic low then not (is_periodic high) else is_periodic high

-- 8: one side of an axis is periodic and the other isn't
abbrev pub sides_differ : List ℤ → Option ProblemFault
sides_differ (x_low ∷ x_high ∷ y_low ∷ y_high ∷ []) =
    if differ x_low x_high then Some (SidesDiffer X) else (if differ y_low y_high then Some (SidesDiffer Y) else None)
sides_differ _ = None

-- 9: a block has its corners out of order, or lies outside of the cells
abbrev pub is_inside : List ℤ → List ℤ → Bool
is_inside (nx ∷ ny ∷ []) (x0 ∷ y0 ∷ x1 ∷ y1 ∷ others) = int_le x0 x1 && int_lt x1 nx && int_le y0 y1 && int_lt y1 ny
is_inside _ _ = true

abbrev pub block_outside : List ℤ → List (List ℤ) → Option ProblemFault
block_outside cells blocks = option_map BlockOutside (position (λ block. not (is_inside cells block)) blocks)

-- 10: tag has not one threshold for each level below the finest
abbrev pub tag_count : ℤ → List ℤ → Option ProblemFault
tag_count max_level tag = if int_eq (pos (length tag)) max_level then None else Some (TagCount (pos (length tag)) max_level)

-- half of the blocking factor divides the number of cells
abbrev pub fits : ℤ → ℤ → Bool
fits blocking cells = unsigned_abs cells % (unsigned_abs blocking / 2) == 0

-- 11: the blocking factor does not fit level 0 along an axis
abbrev pub blocking_misfit : List ℤ → ℤ → Option ProblemFault
blocking_misfit (nx ∷ ny ∷ []) b =
    if fits b nx then (if fits b ny then None else Some (fault.Blocking Y b)) else Some (fault.Blocking X b)
blocking_misfit _ b = None

abbrev pub species_of : List ℤ → ℤ
species_of block = slice_index_or block 5 (pos 0)

-- 12: the species of a block, from 0 on, is none of so many
abbrev pub species_outside : ℤ → List (List ℤ) → Option ProblemFault
species_outside many blocks =
    option_map (λ e. SpeciesOutside e.0 e.1) (find (λ e. not (int_lt e.1 many)) (enumerate_from 0 (map species_of blocks)))

-- ---- the first of them

abbrev pub courant_fault : Members → Option ProblemFault
courant_fault table =
    numbers_at 3 table Courant >>= (λ c. shear_along X table ShearX >>= (λ xs. shear_along Y table ShearY >>= (λ ys. courant_over c xs ys)))

-- of a table
abbrev pub fault_in : Members → Option ProblemFault
fault_in table = first_some
    (unknown_key table
    ∷ missing_key table
    ∷ wrong_kind table
    ∷ out_of_range table
    ∷ courant_fault table
    ∷ (numbers_at 4 table Sides >>= sides_differ)
    ∷ (numbers_at 2 table Cells >>= (λ cells. rows_at (version_in table) table Blocks >>= block_outside cells))
    ∷ (number_at table MaxLevel >>= (λ levels. integers_at table Tag >>= tag_count levels))
    ∷ (numbers_at 2 table Cells >>= (λ cells. number_at table Blocking >>= blocking_misfit cells))
    ∷ (number_at table Species >>= (λ many. rows_at (version_in table) table Blocks >>= species_outside many))
    ∷ [])

-- of bytes
abbrev pub first_fault : List ℕ → Option ProblemFault
first_fault bytes = first_some (too_long bytes ∷ not_toml bytes ∷ fault_in (table_of bytes) ∷ [])
