-- From entries without a fault to the limits of a problem.
use Rattle.std.proofs.Common.{◌≡◌, ◌∙◌, sym, refl, ℕ, ◌+◌, ◌/◌, ◌%◌, ◌==◌, ◌≤◌, ◌^◌, true, false, not, ◌||◌, nat_le, le-leb, eq-eqb, ℤ, pos, negsuc, ◌≤ℤ◌, int_lt, unsigned_abs, inl, inr, List, [], ◌∷◌, map, length, find, None, is_none, arith}
use Rattle.std.proofs.lemmas.Bool.{cases_Bool, and_parts, eqb-true}
use Rattle.std.proofs.lemmas.Bool.Decides.{Decides-int_eq}
use Rattle.std.proofs.lemmas.Int.{ints}
use Rattle.std.proofs.lemmas.List.{length-map}
use Rattle.std.specs.List.{list_all, enumerate_from}
use Rattle.std.specs.Ordering.{int_eq}
use Rattle.amr_box.proofs.Numbers.{le_from}
use Rattle.amr_def.specs.declared.problem.Block.{Block}
use Rattle.amr_def.specs.declared.problem.Sides.{Sides}
use Rattle.amr_def.specs.declared.problem.Sides.TheVariants.{Periodic, Open}
use Rattle.amr_def.specs.Limits.{Limits, is_block, has_inflows, greatest_size, in_use, is_shear, between, greatest_given, is_blocking, is_of_species_below, most_species}
use Rattle.amr_problem.specs.declared.entries.Entries.{Entries}
use Rattle.amr_problem.specs.declared.key.Key.TheVariants.{Blocks}
use Rattle.amr_problem.specs.Keys.{ranges_of, block_mass, block_species, coordinate, threshold, courant_number, blocking_factor, is_even, holds, first_outside}
use Rattle.amr_problem.specs.Fields.{sides_numbers, block_numbers, AreValues}
use Rattle.amr_problem.specs.Faults.{over_by, is_periodic, differ, sides_differ, is_inside, tag_count, fits, blocking_misfit, species_of, species_outside}
use Rattle.amr_problem.specs.Entries.{IsSide, is_for_each, FitsBasics, IsClean}
use Rattle.amr_problem.proofs.FirstSome.{option_map-none}
use Rattle.amr_problem.proofs.RangeLaws.{holds-IsIn, first_outside-none}
use Rattle.amr_problem.proofs.EntryLaws.{size_within}
use Rattle.amr_problem.proofs.Shapes.{none_from_test, position-none}

not_below : (a : ℤ) (n : ℕ) → int_lt a (pos n) ≡ false → pos n ≤ℤ a
not_below a n h = grind (arith, ints)

-- the greatest sizes of the numerators in use add up to at most d
stable-from_none : (sum : ℕ) (d : ℤ) → over_by sum d ≡ None → pos sum ≤ℤ d
stable-from_none sum d h =
    elim (cases_Bool (int_lt d (pos sum))) [
      | inl over ↦ absurd (let e = rw over at h in cc)
      | inr within ↦ not_below d sum within
    ]

-- numerators in their range
pub sizes_within : (zs : List ℤ) → list_all (holds courant_number) zs ≡ true → greatest_size zs ≤ 1024
sizes_within [] h = omega arith
sizes_within (z ∷ zs) h =
    let (here, others) = and_parts (holds courant_number z) (list_all (holds courant_number) zs) h in
    let this : unsigned_abs z ≤ 1024 = size_within z (holds-IsIn courant_number z here) in
    let rest : greatest_size zs ≤ 1024 = sizes_within zs others in
    omega arith

-- the numerators in use
pub in_use_within : (c : ℤ) (zs : List ℤ) → unsigned_abs c ≤ 1024 → list_all (holds courant_number) zs ≡ true → greatest_size (in_use c zs) ≤ 1024
in_use_within c [] one all = omega (arith, one)
in_use_within c (z ∷ zs) one all = sizes_within (z ∷ zs) all

pub same_pos : (m n : ℕ) → int_eq (pos m) (pos n) ≡ true → m ≡ n
same_pos m n h = let same : pos m ≡ pos n = (Decides-int_eq (pos m) (pos n)).0 h in omega (arith, ints)

-- a shear of none, or of one number for each row or column, in their range
shear_fits : (n : ℕ) (zs : List ℤ) → is_for_each (pos n) zs ≡ true → list_all (holds courant_number) zs ≡ true → is_shear n zs ≡ true
shear_fits n zs each inside =
    rw (le-leb (greatest_size zs) 1024 (sizes_within zs inside))
    (elim (cases_Bool (length zs == 0)) [
      | inl none ↦ rw none refl
      | inr some ↦ let many : length zs ≡ n = same_pos (length zs) n (rw some at each) in rw (some, eq-eqb (length zs) n many) refl
    ])

-- thresholds in their range
thresholds_fit : (ns : List ℕ) → list_all (holds threshold) (map pos ns) ≡ true → list_all (between 1 greatest_given) ns ≡ true
thresholds_fit [] h = refl
thresholds_fit (n ∷ ns) h =
    let (here, others) = and_parts (holds threshold (pos n)) (list_all (holds threshold) (map pos ns)) h in
    let within = holds-IsIn threshold (pos n) here in
    let least : pos 1 ≤ℤ pos n = within.least in
    let greatest : pos n ≤ℤ pos 1073741824 = within.greatest in
    let low : 1 ≤ n = omega (arith, ints) in
    let high : n ≤ 2 ^ 30 = omega (arith, ints) in
    rw (le-leb 1 n low, le-leb n (2 ^ 30) high, thresholds_fit ns others) refl

-- as many as the finest level says
counted : (level : ℕ) (ns : List ℕ) → tag_count (pos level) (map pos ns) ≡ None → length ns ≡ level
counted level ns h =
    elim (cases_Bool (int_eq (pos (length (map pos ns))) (pos level))) [
      | inl same ↦ sym (length-map ns pos) ∙ same_pos (length (map pos ns)) level same
      | inr other ↦ absurd (let e = rw other at h in cc)
    ]

is_factor : (b : ℕ) → int_eq (pos b) (pos 2) || int_eq (pos b) (pos 4) || int_eq (pos b) (pos 8) ≡ true → is_blocking b ≡ true
is_factor b h =
    elim (cases_Bool (int_eq (pos b) (pos 2))) [
      | inl two ↦ rw (same_pos b 2 two) refl
      | inr not_two ↦ elim (cases_Bool (int_eq (pos b) (pos 4))) [
        | inl four ↦ rw (same_pos b 4 four) refl
        | inr not_four ↦ rw (same_pos b 8 (rw (not_two, not_four) at h)) refl
      ]
    ]

-- both sides of each axis are periodic, or neither
pub record AreAlike (x_low x_high y_low y_high : ℤ) : Type 0 where
  pub x : is_periodic x_low ≡ is_periodic x_high
  pub y : is_periodic y_low ≡ is_periodic y_high

same_from_alike : (low high : ℤ) → differ low high ≡ false → is_periodic low ≡ is_periodic high
same_from_alike low high h =
    elim (cases_Bool (is_periodic low)) [
      | inl low_is ↦ elim (cases_Bool (is_periodic high)) [
        | inl high_is ↦ low_is ∙ sym high_is
        | inr high_not ↦ absurd (let e = rw (low_is, high_not) at h in cc)
      ]
      | inr low_not ↦ low_not ∙ sym (rw low_not at h)
    ]

pub alike_from_none : (a b c d : ℤ) → sides_differ (a ∷ b ∷ c ∷ d ∷ []) ≡ None → AreAlike a b c d
alike_from_none a b c d h =
    elim (cases_Bool (differ a b)) [
      | inl x ↦ absurd (let e = rw x at h in cc)
      | inr x ↦ elim (cases_Bool (differ c d)) [
        | inl y ↦ absurd (let e = rw (x, y) at h in cc)
        | inr y ↦ record { x = same_from_alike a b x; y = same_from_alike c d y }
      ]
    ]

-- half of the blocking factor divides both numbers of cells
pub record AreMultiples (nx ny b : ℤ) : Type 0 where
  pub x : fits b nx ≡ true
  pub y : fits b ny ≡ true

pub fits_from_none : (nx ny b : ℤ) → blocking_misfit (nx ∷ ny ∷ []) b ≡ None → AreMultiples nx ny b
fits_from_none nx ny b h =
    elim (cases_Bool (fits b nx)) [
      | inr x ↦ absurd (let e = rw x at h in cc)
      | inl x ↦ elim (cases_Bool (fits b ny)) [
        | inr y ↦ absurd (let e = rw (x, y) at h in cc)
        | inl y ↦ record { x = x; y = y }
      ]
    ]

-- the inflows of an axis in their range
inflows_fit : (s : Sides) (low high : ℤ) → low ∷ high ∷ [] ≡ sides_numbers s → IsSide low → IsSide high → has_inflows s ≡ true
inflows_fit Periodic low high is in_low in_high = refl
inflows_fit (Open l h) low high is in_low in_high =
    let low_is : low ≡ pos l = cc in
    let high_is : high ≡ pos h = cc in
    let low_fits : pos l ≤ℤ pos 1073741824 = rw low_is at in_low.greatest in
    let high_fits : pos h ≤ℤ pos 1073741824 = rw high_is at in_high.greatest in
    let low_in : l ≤ 2 ^ 30 = omega (arith, ints) in
    let high_in : h ≤ 2 ^ 30 = omega (arith, ints) in
    rw (le-leb l (2 ^ 30) low_in, le-leb h (2 ^ 30) high_in)

-- an integer from 0 on
pub whole : (z : ℤ) → pos 0 ≤ℤ z → z ≡ pos (unsigned_abs z)
whole (pos n) h = refl
whole (negsuc n) h = absurd (omega (arith, ints))

-- the block of six integers
abbrev pub block_as : (x0 y0 x1 y1 mass species : ℤ) → Block
block_as x0 y0 x1 y1 mass species = record { x0 = unsigned_abs x0; y0 = unsigned_abs y0; x1 = unsigned_abs x1; y1 = unsigned_abs y1; mass = unsigned_abs mass; species = unsigned_abs species }

pub block_as-numbers : (a b c d e f : ℤ) → first_outside (ranges_of Blocks) (a ∷ b ∷ c ∷ d ∷ e ∷ f ∷ []) ≡ None → a ∷ b ∷ c ∷ d ∷ e ∷ f ∷ [] ≡ block_numbers (block_as a b c d e f)
block_as-numbers a b c d e f h =
    let ends = block_mass ∷ block_species ∷ [] in
    let x0 = first_outside-none coordinate (coordinate ∷ coordinate ∷ coordinate ∷ ends) a (b ∷ c ∷ d ∷ e ∷ f ∷ []) h in
    let y0 = first_outside-none coordinate (coordinate ∷ coordinate ∷ ends) b (c ∷ d ∷ e ∷ f ∷ []) x0.others in
    let x1 = first_outside-none coordinate (coordinate ∷ ends) c (d ∷ e ∷ f ∷ []) y0.others in
    let y1 = first_outside-none coordinate ends d (e ∷ f ∷ []) x1.others in
    let m = first_outside-none block_mass (block_species ∷ []) e (f ∷ []) y1.others in
    let s = first_outside-none block_species [] f [] m.others in
    let a_is : a ≡ pos (unsigned_abs a) = whole a x0.here.least in
    let b_is : b ≡ pos (unsigned_abs b) = whole b y0.here.least in
    let c_is : c ≡ pos (unsigned_abs c) = whole c x1.here.least in
    let d_is : d ≡ pos (unsigned_abs d) = whole d y1.here.least in
    let e_is : e ≡ pos (unsigned_abs e) = whole e m.here.least in
    let f_is : f ≡ pos (unsigned_abs f) = whole f s.here.least in
    cc

-- the mass of a block in its range
mass_fits : (b : Block) → first_outside (ranges_of Blocks) (block_numbers b) ≡ None → b.mass ≤ 2 ^ 30
mass_fits b h =
    let ends = block_mass ∷ block_species ∷ [] in
    let are = pos b.mass ∷ pos b.species ∷ [] in
    let x0 = first_outside-none coordinate (coordinate ∷ coordinate ∷ coordinate ∷ ends) (pos b.x0) (pos b.y0 ∷ pos b.x1 ∷ pos b.y1 ∷ are) h in
    let y0 = first_outside-none coordinate (coordinate ∷ coordinate ∷ ends) (pos b.y0) (pos b.x1 ∷ pos b.y1 ∷ are) x0.others in
    let x1 = first_outside-none coordinate (coordinate ∷ ends) (pos b.x1) (pos b.y1 ∷ are) y0.others in
    let y1 = first_outside-none coordinate ends (pos b.y1) are x1.others in
    let mass = first_outside-none block_mass (block_species ∷ []) (pos b.mass) (pos b.species ∷ []) y1.others in
    let fits : pos b.mass ≤ℤ pos 1073741824 = mass.here.greatest in
    omega (arith, ints)

one_block : (nx ny : ℕ) (b : Block) → is_inside (pos nx ∷ pos ny ∷ []) (block_numbers b) ≡ true → first_outside (ranges_of Blocks) (block_numbers b) ≡ None → is_block nx ny b ≡ true
one_block nx ny b inside in_range = rw (inside, le-leb b.mass (2 ^ 30) (mass_fits b in_range))

pub blocks_inside : (nx ny : ℕ) (bs : List Block) → list_all (is_inside (pos nx ∷ pos ny ∷ [])) (map block_numbers bs) ≡ true → list_all (λ row. is_none (first_outside (ranges_of Blocks) row)) (map block_numbers bs) ≡ true → list_all (is_block nx ny) bs ≡ true
blocks_inside nx ny [] inside in_range = refl
blocks_inside nx ny (b ∷ bs) inside in_range =
    let (here, others) = and_parts (is_inside (pos nx ∷ pos ny ∷ []) (block_numbers b)) (list_all (is_inside (pos nx ∷ pos ny ∷ [])) (map block_numbers bs)) inside in
    let (here', others') = and_parts (is_none (first_outside (ranges_of Blocks) (block_numbers b))) (list_all (λ row. is_none (first_outside (ranges_of Blocks) row)) (map block_numbers bs)) in_range in
    rw (one_block nx ny b here (none_from_test _ here'), blocks_inside nx ny bs others others')

-- the species of blocks are below their number
species_known : (many k : ℕ) (bs : List Block) → find (λ e. not (int_lt e.1 (pos many))) (enumerate_from k (map species_of (map block_numbers bs))) ≡ None → list_all (is_of_species_below many) bs ≡ true
species_known many k [] h = refl
species_known many k (b ∷ bs) h =
    elim (cases_Bool (int_lt (pos b.species) (pos many))) [
      | inl below ↦ rw (below, species_known many (k + 1) bs (rw below at h))
      | inr above ↦ absurd (let e = rw above at h in cc)
    ]

few_species : (version species : ℕ) → (pos version ≤ℤ pos 2 → pos species ≡ pos 1) → pos species ≤ℤ pos 4 → species ≤ most_species version
few_species version species alone most =
    elim (cases_Bool (nat_le version 2)) [
      | inl early ↦ let one : pos species ≡ pos 1 = alone (le_from (pos version) (pos 2) early) in rw early (omega (arith, ints))
      | inr late ↦ rw late (omega (arith, ints))
    ]

pub has_limits : (e : Entries) {version : ℕ} {name : List ℕ} {nx ny steps : ℕ} {cx cy : ℤ} {d : ℕ} {shear_x shear_y : List ℤ} {x_sides y_sides : Sides} {max_level : ℕ} {tag : List ℕ} {n_error_buf efficiency min_width regrid_int blocking max_grid_size : ℕ} {blocks : List Block} {species : ℕ}
    → IsClean e → FitsBasics e.basics e.overlay
    → AreValues e version name nx ny steps cx cy d shear_x shear_y x_sides y_sides max_level tag n_error_buf efficiency min_width regrid_int blocking max_grid_size blocks species
    → Limits version name nx ny steps cx cy d shear_x shear_y x_sides y_sides max_level tag n_error_buf efficiency min_width regrid_int blocking max_grid_size blocks species
has_limits e {version} {name} {nx} {ny} {steps} {cx} {cy} {d} {shear_x} {shear_y} {x_sides} {y_sides} {max_level} {tag} {n_error_buf} {efficiency} {min_width} {regrid_int} {blocking} {max_grid_size} {blocks} {species} clean fit v =
    let b = clean.in_range.basics in
    let r = clean.in_range.refining in
    let o = clean.in_range.overlay in
    let inside : list_all (is_inside (e.basics.nx ∷ e.basics.ny ∷ [])) e.overlay.blocks.items ≡ true = position-none (is_inside (e.basics.nx ∷ e.basics.ny ∷ [])) e.overlay.blocks.items (option_map-none _ _ clean.inside) in
    let inside' : list_all (is_inside (pos nx ∷ pos ny ∷ [])) (map block_numbers blocks) ≡ true = rw (v.nx_is, v.ny_is, v.blocks_are) at inside in
    let in_range' : list_all (λ row. is_none (first_outside (ranges_of Blocks) row)) (map block_numbers blocks) ≡ true = rw v.blocks_are at o.blocks in
    let over : over_by (greatest_size (in_use cx shear_x) + greatest_size (in_use cy shear_y)) (pos d) ≡ None = rw (v.cx_is, v.cy_is, v.d_is, v.shear_x_is, v.shear_y_is) at clean.stable in
    let stable : pos (greatest_size (in_use cx shear_x) + greatest_size (in_use cy shear_y)) ≤ℤ pos d = stable-from_none _ (pos d) over in
    let least_version : pos 1 ≤ℤ pos version = rw v.version_is at b.least_version in
    let greatest : pos version ≤ℤ pos 3 = rw v.version_is at b.greatest_version in
    let least_nx : pos 2 ≤ℤ pos nx = rw v.nx_is at b.least_nx in
    let greatest_nx : pos nx ≤ℤ pos 256 = rw v.nx_is at b.greatest_nx in
    let least_ny : pos 2 ≤ℤ pos ny = rw v.ny_is at b.least_ny in
    let greatest_ny : pos ny ≤ℤ pos 256 = rw v.ny_is at b.greatest_ny in
    let greatest_steps : pos steps ≤ℤ pos 4096 = rw v.steps_is at b.greatest_steps in
    let least_d : pos 1 ≤ℤ pos d = rw v.d_is at b.least_d in
    let greatest_d : pos d ≤ℤ pos 1024 = rw v.d_is at b.greatest_d in
    let greatest_max_level : pos max_level ≤ℤ pos 4 = rw v.max_level_is at b.greatest_max_level in
    let greatest_buf : pos n_error_buf ≤ℤ pos 8 = rw v.n_error_buf_is at r.greatest_n_error_buf in
    let least_share : pos 1 ≤ℤ pos efficiency = rw v.efficiency_is at r.least_efficiency in
    let greatest_share : pos efficiency ≤ℤ pos 100 = rw v.efficiency_is at r.greatest_efficiency in
    let least_width : pos 1 ≤ℤ pos min_width = rw v.min_width_is at r.least_min_width in
    let greatest_width : pos min_width ≤ℤ pos 16 = rw v.min_width_is at r.greatest_min_width in
    let least_interval : pos 1 ≤ℤ pos regrid_int = rw v.regrid_int_is at r.least_regrid_int in
    let greatest_interval : pos regrid_int ≤ℤ pos 4096 = rw v.regrid_int_is at r.greatest_regrid_int in
    let least_grid : pos 4 ≤ℤ pos max_grid_size = rw v.max_grid_size_is at r.least_max_grid_size in
    let greatest_grid : pos max_grid_size ≤ℤ pos 256 = rw v.max_grid_size_is at r.greatest_max_grid_size in
    let even : is_even (pos max_grid_size) ≡ true = rw v.max_grid_size_is at r.even_max_grid_size in
    let many : length (map block_numbers blocks) ≤ 256 = rw v.blocks_are at o.block_count in
    let factor : holds blocking_factor (pos blocking) ≡ true = rw v.blocking_is at o.blocking in
    let x_fits : fits (pos blocking) (pos nx) ≡ true = rw (v.blocking_is, v.nx_is) at clean.x_fits in
    let least_species : pos 1 ≤ℤ pos species = rw v.species_is at o.least_species in
    let greatest_species : pos species ≤ℤ pos 4 = rw v.species_is at o.greatest_species in
    let known : species_outside (pos species) (map block_numbers blocks) ≡ None = rw (v.species_is, v.blocks_are) at clean.known in
    let y_fits : fits (pos blocking) (pos ny) ≡ true = rw (v.blocking_is, v.ny_is) at clean.y_fits in
    record {
      first_version = omega (arith, ints);
      last_version = omega (arith, ints);
      named = rw v.name_is at b.named;
      short_name = rw v.name_is at b.short_name;
      name_bytes = rw v.name_is at b.name_bytes;
      least_nx = omega (arith, ints);
      greatest_nx = omega (arith, ints);
      least_ny = omega (arith, ints);
      greatest_ny = omega (arith, ints);
      greatest_steps = omega (arith, ints);
      greatest_cx = rw v.cx_is at b.size_cx;
      greatest_cy = rw v.cy_is at b.size_cy;
      least_d = omega (arith, ints);
      greatest_d = omega (arith, ints);
      rows_shear = shear_fits ny shear_x (rw (v.ny_is, v.shear_x_is) at fit.rows) (rw v.shear_x_is at o.shear_x);
      columns_shear = shear_fits nx shear_y (rw (v.nx_is, v.shear_y_is) at fit.columns) (rw v.shear_y_is at o.shear_y);
      stable = omega (arith, ints);
      x_inflows = inflows_fit x_sides e.basics.x_low e.basics.x_high v.x_sides_are b.x_low b.x_high;
      y_inflows = inflows_fit y_sides e.basics.y_low e.basics.y_high v.y_sides_are b.y_low b.y_high;
      greatest_max_level = omega (arith, ints);
      tag_count = counted max_level tag (rw (v.max_level_is, v.tag_is) at clean.counted);
      thresholds = thresholds_fit tag (rw v.tag_is at r.tag);
      greatest_n_error_buf = omega (arith, ints);
      least_efficiency = omega (arith, ints);
      greatest_efficiency = omega (arith, ints);
      least_min_width = omega (arith, ints);
      greatest_min_width = omega (arith, ints);
      least_regrid_int = omega (arith, ints);
      greatest_regrid_int = omega (arith, ints);
      blocking_factor = is_factor blocking (holds-IsIn blocking_factor (pos blocking) factor).among;
      x_blocks = eqb-true (nx % (blocking / 2)) 0 x_fits;
      y_blocks = eqb-true (ny % (blocking / 2)) 0 y_fits;
      least_max_grid_size = omega (arith, ints);
      greatest_max_grid_size = omega (arith, ints);
      even_max_grid_size = eqb-true (max_grid_size % 2) 0 even;
      block_count = omega (arith, length-map blocks block_numbers);
      blocks_inside = blocks_inside nx ny blocks inside' in_range';
      some_species = omega (arith, ints);
      few_species = few_species version species (rw (v.version_is, v.species_is) at fit.alone) greatest_species;
      blocks_species = species_known species 0 blocks (option_map-none _ _ known);
    }
