-- Bytes without a fault are a problem.
use Rattle.std.proofs.Common.{◌≡◌, ◌∙◌, sym, ap, refl, ℕ, true, ℤ, pos, negsuc, ◌≤ℤ◌, unsigned_abs, inl, inr, List, [], ◌∷◌, map, length, drop, get_or, Option, None, Some, is_none, option_map, int_lt, false, arith}
use Rattle.std.proofs.lemmas.Bool.{cases_Bool, and_parts, true≢false}
use Rattle.std.proofs.lemmas.Int.{ints}
use Rattle.std.proofs.lemmas.Option.{same_Some}
use Rattle.std.specs.List.{list_all}
use Rattle.std.specs.Option.{option_or}
use Rattle.toml.specs.Data.{Data, Items, no_items, item, Members, as_array}
use Rattle.amr_def.specs.declared.problem.Block.{Block}
use Rattle.amr_def.specs.declared.problem.Problem.{Problem}
use Rattle.amr_def.specs.declared.problem.Sides.TheVariants.{Periodic, Open}
use Rattle.amr_def.specs.declared.problem.Sides as sides
use Rattle.amr_problem.specs.declared.entries.Entries.{Entries}
use Rattle.amr_problem.specs.declared.fault.ProblemFault.{ProblemFault}
use Rattle.amr_problem.specs.declared.key.Key.TheVariants.{Cells, Sides, MaxLevel, Tag, Blocks, Blocking, Species}
use Rattle.amr_problem.specs.Document.{table_of}
use Rattle.amr_problem.specs.Entries.{IsReadOf, IsSide, IsClean, range_fault, in_range_fault, entry_fault}
use Rattle.amr_problem.specs.Faults.{too_long, not_toml, unknown_key, missing_key, wrong_kind, out_of_range, courant_fault, sides_differ, block_outside, tag_count, blocking_misfit, species_outside, fault_in, is_periodic, version_in}
use Rattle.amr_problem.specs.Fields.{sides_numbers, block_numbers, AreValues}
use Rattle.amr_problem.specs.Judgement.{fault_of, HasKeys, IsProblemOf}
use Rattle.amr_problem.specs.Keys.{ranges_of, threshold, blocking_factor, holds, first_outside}
use Rattle.amr_problem.specs.Values.{◌>>=◌, integers_at, number_at, numbers_at, block_of, rows_at, rows_in, rows_of, value_at}
use Rattle.amr_problem.proofs.EntryLaws.{in_range}
use Rattle.amr_problem.proofs.FirstSome.{both_none, fold-none}
use Rattle.amr_problem.proofs.JudgementLaws.{fault_in-entries, fits_basics, has_keys, is_clean}
use Rattle.amr_problem.proofs.ProblemLaws.{block_as, block_as-numbers, has_limits, whole}
use Rattle.amr_problem.proofs.RangeLaws.{holds-IsIn}
use Rattle.amr_problem.proofs.Shapes.{six, none_from_test}
use Rattle.amr_problem.proofs.TableEntries.{entries_of, length-block_of}

-- ---- from integers to the fields of a problem

all_whole : (zs : List ℤ) → list_all (holds threshold) zs ≡ true → zs ≡ map pos (map unsigned_abs zs)
all_whole [] h = refl
all_whole (z ∷ zs) h =
    let (here, others) = and_parts (holds threshold z) (list_all (holds threshold) zs) h in
    let least : pos 1 ≤ℤ z = (holds-IsIn threshold z here).least in
    let same : z ≡ pos (unsigned_abs z) = whole z (omega (arith, ints)) in
    let rest : zs ≡ map pos (map unsigned_abs zs) = all_whole zs others in
    ap (λ (n : ℤ). n ∷ zs) same ∙ ap (λ (ns : List ℤ). pos (unsigned_abs z) ∷ ns) rest

not_periodic : (n : ℕ) → is_periodic (pos n) ≡ false
not_periodic n =
    elim (cases_Bool (int_lt (pos n) (pos 0))) [
      | inl below ↦ absurd (grind (arith, ints))
      | inr above ↦ above
    ]

two_sides : (low high : ℤ) → IsSide low → IsSide high → is_periodic low ≡ is_periodic high → (s : sides.Sides) × (low ∷ high ∷ [] ≡ sides_numbers s)
two_sides (pos l) (pos h) in_low in_high alike = (Open l h, refl)
two_sides (pos l) (negsuc h) in_low in_high alike = absurd (true≢false (sym alike ∙ not_periodic l))
two_sides (negsuc l) (pos h) in_low in_high alike = absurd (true≢false (alike ∙ not_periodic h))
two_sides (negsuc l) (negsuc h) in_low in_high alike =
    let low : negsuc 0 ≤ℤ negsuc l = in_low.least in
    let high : negsuc 0 ≤ℤ negsuc h = in_high.least in
    let l_is : l ≡ 0 = omega (arith, ints) in
    let h_is : h ≡ 0 = omega (arith, ints) in
    (Periodic, rw (l_is, h_is))

block_from : (zs : List ℤ) → length zs ≡ 6 → first_outside (ranges_of Blocks) zs ≡ None → (k : Block) × (zs ≡ block_numbers k)
block_from zs many h =
    let is = six zs many in
    let z : ℕ → ℤ = λ i. get_or zs i (pos 0) in
    (block_as (z 0) (z 1) (z 2) (z 3) (z 4) (z 5), is ∙ block_as-numbers (z 0) (z 1) (z 2) (z 3) (z 4) (z 5) (rw is at h))

-- the parts of what is read one by one
record Parts {A : Type 0} (first : Option A) (others : Option (List A)) (xs : List A) : Type 0 where
  head : A
  tail : List A
  first_is : first ≡ Some head
  others_are : others ≡ Some tail
  all : xs ≡ head ∷ tail

parts : {A : Type 0} (first : Option A) (others : Option (List A)) (xs : List A) → first >>= (λ z. option_map (λ ys. z ∷ ys) others) ≡ Some xs → Parts first others xs
parts None others xs h = absurd (cc)
parts (Some z) None xs h = absurd (cc)
parts (Some z) (Some ys) xs h = record { head = z; tail = ys; first_is = refl; others_are = refl; all = sym (same_Some (z ∷ ys) xs h) }

abbrev AreInRange : List (List ℤ) → Type 0
AreInRange rows = list_all (λ row. is_none (first_outside (ranges_of Blocks) row)) rows ≡ true

blocks_in : (version : ℕ) (items : Items) (rows : List (List ℤ)) → rows_in version items ≡ Some rows → AreInRange rows → (ks : List Block) × (rows ≡ map block_numbers ks)
blocks_in version no_items rows h inside = ([], sym (same_Some [] rows h))
blocks_in version (item d rest) rows h inside =
    let p = parts (block_of version d) (rows_in version rest) rows h in
    let (here, others) = and_parts (is_none (first_outside (ranges_of Blocks) p.head)) (list_all (λ row. is_none (first_outside (ranges_of Blocks) row)) p.tail) (rw p.all at inside) in
    let first = block_from p.head (length-block_of version d p.head p.first_is) (none_from_test _ here) in
    let more = blocks_in version rest p.tail p.others_are others in
    (first.0 ∷ more.0, p.all ∙ ap (λ (z : List ℤ). z ∷ p.tail) first.1 ∙ ap (λ (zs : List (List ℤ)). block_numbers first.0 ∷ zs) more.1)

blocks_of : (version : ℕ) (d : Option Items) (rows : List (List ℤ)) → d >>= rows_in version ≡ Some rows → AreInRange rows → (ks : List Block) × (rows ≡ map block_numbers ks)
blocks_of version None rows h inside = absurd (cc)
blocks_of version (Some items) rows h inside = blocks_in version items rows h inside

blocks_read : (version : ℕ) (d : Option Data) (rows : List (List ℤ)) → d >>= rows_of version ≡ Some rows → AreInRange rows → (ks : List Block) × (rows ≡ map block_numbers ks)
blocks_read version None rows h inside = absurd (cc)
blocks_read version (Some d) rows h inside = blocks_of version (as_array d) rows h inside

blocks_at : (version : ℕ) (table : Members) (rows : List (List ℤ)) → rows_at version table Blocks ≡ Some rows → AreInRange rows → (ks : List Block) × (rows ≡ map block_numbers ks)
unfolding rows_at
blocks_at version table rows h inside = blocks_read version (value_at table Blocks) rows h inside

-- ---- the problem of entries

problem_of : (table : Members) (e : Entries) → unknown_key table ≡ None → IsReadOf table e → IsClean e → (p : Problem) × HasKeys table p
problem_of table e known read clean =
    let b = e.basics in
    let r = e.refining in
    let o = e.overlay in
    let in_b = clean.in_range.basics in
    let in_r = clean.in_range.refining in
    let in_o = clean.in_range.overlay in
    let xs = two_sides b.x_low b.x_high in_b.x_low in_b.x_high clean.x_alike in
    let ys = two_sides b.y_low b.y_high in_b.y_low in_b.y_high clean.y_alike in
    let ks = blocks_at (version_in table) table o.blocks.items read.overlay.blocks in_o.blocks in
    let factor = holds-IsIn blocking_factor o.blocking in_o.blocking in
    let version_least : pos 1 ≤ℤ b.version = in_b.least_version in
    let nx_least : pos 2 ≤ℤ b.nx = in_b.least_nx in
    let ny_least : pos 2 ≤ℤ b.ny = in_b.least_ny in
    let d_least : pos 1 ≤ℤ b.d = in_b.least_d in
    let efficiency_least : pos 1 ≤ℤ r.efficiency = in_r.least_efficiency in
    let width_least : pos 1 ≤ℤ r.min_width = in_r.least_min_width in
    let interval_least : pos 1 ≤ℤ r.regrid_int = in_r.least_regrid_int in
    let grid_least : pos 4 ≤ℤ r.max_grid_size = in_r.least_max_grid_size in
    let blocking_least : pos 2 ≤ℤ o.blocking = factor.least in
    let species_least : pos 1 ≤ℤ o.species = in_o.least_species in
    let values : AreValues e (unsigned_abs b.version) b.name.items (unsigned_abs b.nx) (unsigned_abs b.ny) (unsigned_abs b.steps) b.cx b.cy (unsigned_abs b.d) o.shear_x.items o.shear_y.items xs.0 ys.0 (unsigned_abs b.max_level) (map unsigned_abs r.tag.items) (unsigned_abs r.n_error_buf) (unsigned_abs r.efficiency) (unsigned_abs r.min_width) (unsigned_abs r.regrid_int) (unsigned_abs o.blocking) (unsigned_abs r.max_grid_size) ks.0 (unsigned_abs o.species) = record {
      version_is = whole b.version (omega (arith, ints));
      name_is = refl;
      nx_is = whole b.nx (omega (arith, ints));
      ny_is = whole b.ny (omega (arith, ints));
      steps_is = whole b.steps in_b.least_steps;
      cx_is = refl;
      cy_is = refl;
      d_is = whole b.d (omega (arith, ints));
      shear_x_is = refl;
      shear_y_is = refl;
      x_sides_are = xs.1;
      y_sides_are = ys.1;
      max_level_is = whole b.max_level in_b.least_max_level;
      tag_is = all_whole r.tag.items in_r.tag;
      n_error_buf_is = whole r.n_error_buf in_r.least_n_error_buf;
      efficiency_is = whole r.efficiency (omega (arith, ints));
      min_width_is = whole r.min_width (omega (arith, ints));
      regrid_int_is = whole r.regrid_int (omega (arith, ints));
      blocking_is = whole o.blocking (omega (arith, ints));
      max_grid_size_is = whole r.max_grid_size (omega (arith, ints));
      blocks_are = ks.1;
      species_is = whole o.species (omega (arith, ints));
    } in
    let p : Problem = record {
      version = unsigned_abs b.version;
      name = b.name.items;
      nx = unsigned_abs b.nx;
      ny = unsigned_abs b.ny;
      steps = unsigned_abs b.steps;
      cx = b.cx;
      cy = b.cy;
      d = unsigned_abs b.d;
      shear_x = o.shear_x.items;
      shear_y = o.shear_y.items;
      x_sides = xs.0;
      y_sides = ys.0;
      max_level = unsigned_abs b.max_level;
      tag = map unsigned_abs r.tag.items;
      n_error_buf = unsigned_abs r.n_error_buf;
      efficiency = unsigned_abs r.efficiency;
      min_width = unsigned_abs r.min_width;
      regrid_int = unsigned_abs r.regrid_int;
      blocking = unsigned_abs o.blocking;
      max_grid_size = unsigned_abs r.max_grid_size;
      blocks = ks.0;
      species = unsigned_abs o.species;
      limits = has_limits e clean (fits_basics table e known read) values;
    } in
    (p, has_keys table e p read values)

of_table : (table : Members) → fault_in table ≡ None → (p : Problem) × HasKeys table p
of_table table none =
    let later : List (Option ProblemFault) = (numbers_at 4 table Sides >>= sides_differ)
    ∷ (numbers_at 2 table Cells >>= (λ cells. rows_at (version_in table) table Blocks >>= block_outside cells))
    ∷ (number_at table MaxLevel >>= (λ levels. integers_at table Tag >>= tag_count levels))
    ∷ (numbers_at 2 table Cells >>= (λ cells. number_at table Blocking >>= blocking_misfit cells))
    ∷ (number_at table Species >>= (λ many. rows_at (version_in table) table Blocks >>= species_outside many))
    ∷ [] in
    let unknown = fold-none (unknown_key table) (missing_key table ∷ wrong_kind table ∷ out_of_range table ∷ courant_fault table ∷ later) none in
    let missing = fold-none (missing_key table) (wrong_kind table ∷ out_of_range table ∷ courant_fault table ∷ later) unknown.second in
    let wrong = fold-none (wrong_kind table) (out_of_range table ∷ courant_fault table ∷ later) missing.second in
    let outside = fold-none (out_of_range table) (courant_fault table ∷ later) wrong.second in
    let courant = fold-none (courant_fault table) later outside.second in
    let differ = fold-none (numbers_at 4 table Sides >>= sides_differ) (drop 1 later) courant.second in
    let blocks = fold-none (numbers_at 2 table Cells >>= (λ cells. rows_at (version_in table) table Blocks >>= block_outside cells)) (drop 2 later) differ.second in
    let tags = fold-none (number_at table MaxLevel >>= (λ levels. integers_at table Tag >>= tag_count levels)) (drop 3 later) blocks.second in
    let e = entries_of table (record { kinds = wrong.first; ranges = outside.first; tags = tags.first }) in
    let absent : option_or (unknown_key table) (missing_key table) ≡ None = rw unknown.first missing.first in
    let same : fault_in table ≡ entry_fault e.0 = fault_in-entries table e.0 absent wrong.first e.1 in
    let both = both_none (range_fault e.0) (in_range_fault e.0) (sym same ∙ none) in
    problem_of table e.0 unknown.first e.1 (is_clean e.0 (in_range e.0 both.first) both.second)

pub is_problem : (bytes : List ℕ) → fault_of bytes ≡ None → (p : Problem) × IsProblemOf bytes p
unfolding fault_of
is_problem bytes clean =
    let long = fold-none (too_long bytes) (not_toml bytes ∷ fault_in (table_of bytes) ∷ []) clean in
    let text = fold-none (not_toml bytes) (fault_in (table_of bytes) ∷ []) long.second in
    let table = fold-none (fault_in (table_of bytes)) [] text.second in
    let p = of_table (table_of bytes) table.first in
    (p.0, record { clean = clean; keys = p.1 })
