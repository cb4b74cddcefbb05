-- The values of a document, each read by the kind of its key.
--     number_at, text_at, numbers_at, integers_at, shear_at, rows_at
--         the value that stands at a key: none where there is none, or one of another kind
use Rattle.std.specs.Prelude.{ℕ, ◌+◌, nat_lt, ℤ, pos, Bool, ◌==◌, List, [], ◌∷◌, ◌++◌, Option, Some, None, option_map, option_and_then, is_some, if◌then◌else◌}
use Rattle.std.specs.Ordering.{int_eq}
use Rattle.std.specs.Option.{option_or}
use Rattle.toml.specs.Data.{Data, as_integer, as_str, as_array, Items, no_items, item, Members, get_member}
use Rattle.amr_problem.specs.declared.key.Key.{Key}
use Rattle.amr_problem.specs.Keys.{text_of, absent_of, stands}

infixl 10 ◌>>=◌
abbrev pub ◌>>=◌ : {A B : Type 0} → Option A → (A → Option B) → Option B
o >>= f = option_and_then f o

abbrev pub count : Items → ℕ
count no_items = 0
count (item d rest) = count rest + 1

-- the integers of an array that has nothing else
abbrev pub integers : Items → Option (List ℤ)
integers no_items = Some []
integers (item d rest) = as_integer d >>= (λ z. option_map (λ zs. z ∷ zs) (integers rest))

-- the same, of an array of so many
abbrev pub numbers_in : ℕ → Items → Option (List ℤ)
numbers_in many items = if count items == many then integers items else None

abbrev pub numbers_of : ℕ → Data → Option (List ℤ)
numbers_of many d = as_array d >>= numbers_in many

abbrev pub integers_of : Data → Option (List ℤ)
integers_of d = as_array d >>= integers

-- the integers of an array that has exactly so many
abbrev pub shear_in : ℤ → Items → Option (List ℤ)
shear_in many items = if int_eq (pos (count items)) many then integers items else None

abbrev pub shear_of : ℤ → Data → Option (List ℤ)
shear_of many d = as_array d >>= shear_in many

-- the six integers of a block: its corners, its mass and its species, which is 0 before version 3, where a block is written without it
abbrev pub block_of : ℕ → Data → Option (List ℤ)
block_of version d = if nat_lt version 3 then option_map (λ zs. zs ++ pos 0 ∷ []) (numbers_of 5 d) else numbers_of 6 d

-- the rows of an array of the version's blocks
abbrev pub rows_in : ℕ → Items → Option (List (List ℤ))
rows_in version no_items = Some []
rows_in version (item d rest) = block_of version d >>= (λ zs. option_map (λ rows. zs ∷ rows) (rows_in version rest))

abbrev pub rows_of : ℕ → Data → Option (List (List ℤ))
rows_of version d = as_array d >>= rows_in version

-- ---- at a key

-- the value that is written at it
abbrev pub written_at : Members → Key → Option Data
written_at table key = get_member (text_of key) table

-- the value that stands at it: the one that is written, or what stands where the key is absent
abbrev pub value_at : Members → Key → Option Data
value_at table key = option_or (written_at table key) (stands (absent_of key))

unfoldable pub is_there : Members → Key → Bool
is_there table key = is_some (value_at table key)

unfoldable pub number_at : Members → Key → Option ℤ
number_at table key = value_at table key >>= as_integer

unfoldable pub text_at : Members → Key → Option (List ℕ)
text_at table key = value_at table key >>= as_str

unfoldable pub numbers_at : ℕ → Members → Key → Option (List ℤ)
numbers_at many table key = value_at table key >>= numbers_of many

unfoldable pub rows_at : ℕ → Members → Key → Option (List (List ℤ))
rows_at version table key = value_at table key >>= rows_of version

unfoldable pub integers_at : Members → Key → Option (List ℤ)
integers_at table key = value_at table key >>= integers_of

-- as it is written
abbrev pub shear_written : ℤ → Option Data → Option (List ℤ)
shear_written many None = Some []
shear_written many (Some d) = shear_of many d

-- one number for each of so many rows or columns, or none at all where the key is absent
unfoldable pub shear_at : ℤ → Members → Key → Option (List ℤ)
shear_at many table key = shear_written many (written_at table key)
