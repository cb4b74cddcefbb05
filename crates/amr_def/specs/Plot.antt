-- The text of a plot, as its bytes. (profile)
use Rattle.std.specs.Prelude.{ℕ, ◌+◌, pos, ◌+ℤ◌, Bool, if◌then◌else◌, nat_le, List, [], ◌∷◌, ◌++◌, map, length, codes, decimal, slice_index_or}
use Rattle.std.specs.Fmt.{signed_decimal}
use Rattle.std.specs.List.{flat_map, join_by, range_with_len}
use Rattle.amr_box.specs.Cells.{cell, Extent, width, height}
use Rattle.amr_def.specs.declared.problem.Problem.{Problem}
use Rattle.amr_def.specs.declared.problem.Row.{Row}
use Rattle.amr_def.specs.State.{Masses, Level, State, level_at, mass_of, no_level}
use Rattle.amr_def.specs.Facts.{row_at}
use Rattle.amr_def.specs.Species.{by_place, first_state, step_of}

-- each line ends in one newline
abbrev pub line : List ℕ → List ℕ
line text = text ++ 10 ∷ []

-- words with one space between
abbrev pub spaced : List (List ℕ) → List ℕ
spaced = join_by (λ word. word) (32 ∷ [])

-- each item's text, by its number from k on
abbrev pub numbered : {A : Type 0} → (ℕ → A → List ℕ) → ℕ → List A → List ℕ
numbered text k [] = []
numbered text k (a ∷ rest) = text k a ++ numbered text (k + 1) rest

-- the number of a species, where a plot names species
abbrev pub species_words : Bool → ℕ → List (List ℕ)
species_words named s = if named then decimal s ∷ [] else []

-- of step k and species s
unfoldable pub ledger_line : Bool → ℕ → ℕ → Row → List ℕ
ledger_line named k s r = line (spaced (codes "ledger" ∷ decimal k ∷ species_words named s ++ (decimal r.mass ∷ decimal r.inflow ∷ decimal r.outflow ∷ [])))

-- of step k, by the row of each species
unfoldable pub ledger_lines : Bool → ℕ → List Row → List ℕ
ledger_lines named k rs = numbered (ledger_line named k) 0 rs

-- the masses of row j of a box, counted from its low row, from the low column on
unfoldable pub mass_line : Masses → Extent → ℕ → List ℕ
mass_line m b j = line (spaced (map (λ i. decimal (mass_of m (cell (b.lo.x +ℤ pos i) (b.lo.y +ℤ pos j)))) (range_with_len 0 (width b))))

unfoldable pub box_line : Extent → List ℕ
box_line b = line (spaced (codes "box" ∷ signed_decimal b.lo.x ∷ signed_decimal b.lo.y ∷ signed_decimal b.hi.x ∷ signed_decimal b.hi.y ∷ []))

-- what stands before the rows of a species in a box, where a plot names species
abbrev pub species_line : Bool → ℕ → List ℕ
species_line named s = if named then line (codes "species " ++ decimal s) else []

-- the rows of a species in a box, from the low row on
unfoldable pub rows_text : Bool → Extent → ℕ → Masses → List ℕ
rows_text named b s m = species_line named s ++ flat_map (mass_line m b) (range_with_len 0 (height b))

-- a box and its rows, by the masses of each species
unfoldable pub box_text : Bool → List Masses → Extent → List ℕ
box_text named ms b = box_line b ++ numbered (rows_text named b) 0 ms

unfoldable pub level_line : ℕ → Level → List ℕ
level_line l k = line (spaced (codes "level" ∷ decimal l ∷ decimal (length k.boxes) ∷ []))

-- a level and its boxes, in order, by the level of each species
unfoldable pub level_text : Bool → ℕ → List Level → List ℕ
level_text named l ks = let first = slice_index_or ks 0 no_level in level_line l first ++ flat_map (box_text named (map (λ k. k.masses) ks)) first.boxes

-- plots of version 3 name species
abbrev pub names_species : Problem → Bool
names_species p = nat_le 3 p.version

unfoldable pub head_text : Problem → ℕ → List ℕ
head_text p step =
    line (codes "amr-plot " ++ decimal (if names_species p then 2 else 1)) ++ line (codes "name " ++ p.name) ++ line (codes "step " ++ decimal step)

-- by the state of each species
unfoldable pub plot_all : Problem → List State → List ℕ
plot_all p ss =
    let named = names_species p in
    head_text p (step_of ss)
    ++ (numbered (ledger_lines named) 0 (by_place row_at (length (first_state ss).rows) ss)
    ++ (numbered (level_text named) 0 (by_place level_at (length (first_state ss).levels) ss) ++ line (codes "end")))

-- of one species
abbrev pub plot : Problem → State → List ℕ
plot p s = plot_all p (s ∷ [])
