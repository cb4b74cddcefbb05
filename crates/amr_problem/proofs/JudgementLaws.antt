-- From the entries of a table to its problem.
use Rattle.std.proofs.Common.{◌≡◌, ◌∙◌, ap, subst, ℕ, map, ℤ, pos, List, [], ◌∷◌, ◌++◌, Option, Some, None}
use Rattle.std.specs.Option.{option_or}
use Rattle.toml.specs.Data.{Members}
use Rattle.amr_def.specs.declared.problem.Problem.{Problem}
use Rattle.amr_problem.specs.declared.entries.Entries.{Entries}
use Rattle.amr_problem.specs.declared.fault.ProblemFault.{ProblemFault}
use Rattle.amr_problem.specs.declared.key.Key.TheVariants.{Version, Blocks}
use Rattle.amr_problem.specs.Faults.{unknown_key, missing_key, wrong_kind, courant_over, sides_differ, block_outside, tag_count, blocking_misfit, species_outside, fault_in}
use Rattle.amr_problem.specs.Entries.{IsReadOf, FitsBasics, IsInRange, IsClean, range_fault, in_range_fault, entry_fault}
use Rattle.amr_problem.specs.Fields.{IsOfEntries, block_numbers}
use Rattle.amr_problem.specs.Judgement.{HasKeys}
use Rattle.amr_problem.proofs.EntryLaws.{same_ranges}
use Rattle.amr_problem.proofs.FirstSome.{first_some-cons, fold-none}
use Rattle.amr_problem.proofs.ProblemLaws.{alike_from_none, fits_from_none}
use Rattle.amr_problem.specs.Values.{number_at, rows_at}
use Rattle.amr_problem.proofs.ValueLaws.{shear_at-for_each}
use Rattle.amr_problem.proofs.VersionLaws.{one_species, version_in-is}

-- ---- the fault of a table

-- those of entries within their ranges
abbrev later_faults : Entries → List (Option ProblemFault)
later_faults e =
    courant_over (e.basics.cx ∷ e.basics.cy ∷ e.basics.d ∷ []) e.overlay.shear_x.items e.overlay.shear_y.items
    ∷ sides_differ (e.basics.x_low ∷ e.basics.x_high ∷ e.basics.y_low ∷ e.basics.y_high ∷ [])
    ∷ block_outside (e.basics.nx ∷ e.basics.ny ∷ []) e.overlay.blocks.items
    ∷ tag_count e.basics.max_level e.refining.tag.items
    ∷ blocking_misfit (e.basics.nx ∷ e.basics.ny ∷ []) e.overlay.blocking
    ∷ species_outside e.overlay.species e.overlay.blocks.items
    ∷ []

-- where the keys are right, the fault is that of the entries
pub fault_in-entries : (table : Members) (e : Entries) → option_or (unknown_key table) (missing_key table) ≡ None → wrong_kind table ≡ None → IsReadOf table e → fault_in table ≡ entry_fault e
fault_in-entries table e absent kinds r =
    rw (absent, kinds, same_ranges table e r, r.basics.courant, r.basics.sides, r.basics.cells, r.basics.max_level, r.refining.tag, r.overlay.blocks, r.overlay.shear_x, r.overlay.shear_y, r.overlay.blocking, r.overlay.species) (first_some-cons (range_fault e) (later_faults e))

-- ---- from entries to keys

pub fits_basics : (table : Members) (e : Entries) → unknown_key table ≡ None → IsReadOf table e → FitsBasics e.basics e.overlay
fits_basics table e known r = record {
  rows = shear_at-for_each e.basics.ny table _ _ r.overlay.shear_x;
  columns = shear_at-for_each e.basics.nx table _ _ r.overlay.shear_y;
  alone = one_species table e.basics.version e.overlay.species known r.basics.version r.overlay.species;
}

-- the sides of both axes
four_sides : {a b c d : ℤ} {xs ys : List ℤ} → a ∷ b ∷ [] ≡ xs → c ∷ d ∷ [] ≡ ys → a ∷ b ∷ c ∷ d ∷ [] ≡ xs ++ ys
four_sides x y = rw (← x, ← y)

pub has_keys : (table : Members) (e : Entries) (p : Problem) → IsReadOf table e → IsOfEntries e p → HasKeys table p
has_keys table e p r v =
    let b = r.basics in
    let f = r.refining in
    let o = r.overlay in
    let version : number_at table Version ≡ Some (pos p.version) = b.version ∙ ap Some v.version_is in
    let same = version_in-is table p.version version p.limits.first_version p.limits.last_version in
    record {
      version = version;
      name = b.name ∙ ap Some v.name_is;
      cells = b.cells ∙ rw (v.nx_is, v.ny_is);
      steps = b.steps ∙ ap Some v.steps_is;
      courant = b.courant ∙ rw (v.cx_is, v.cy_is, v.d_is);
      sides = b.sides ∙ ap Some (four_sides v.x_sides_are v.y_sides_are);
      max_level = b.max_level ∙ ap Some v.max_level_is;
      tag = f.tag ∙ ap Some v.tag_is;
      n_error_buf = f.n_error_buf ∙ ap Some v.n_error_buf_is;
      efficiency = f.efficiency ∙ ap Some v.efficiency_is;
      min_width = f.min_width ∙ ap Some v.min_width_is;
      regrid_int = f.regrid_int ∙ ap Some v.regrid_int_is;
      max_grid_size = f.max_grid_size ∙ ap Some v.max_grid_size_is;
      blocks = subst (λ (n : ℕ). rows_at n table Blocks ≡ Some (map block_numbers p.blocks)) same (o.blocks ∙ ap Some v.blocks_are);
      shear_x = rw v.ny_is at (o.shear_x ∙ ap Some v.shear_x_is);
      shear_y = rw v.nx_is at (o.shear_y ∙ ap Some v.shear_y_is);
      blocking = o.blocking ∙ ap Some v.blocking_is;
      species = o.species ∙ ap Some v.species_is;
    }

-- ---- entries without a fault

pub is_clean : (e : Entries) → IsInRange e → in_range_fault e ≡ None → IsClean e
is_clean e inside none =
    let b = e.basics in
    let o = e.overlay in
    let sides = b.x_low ∷ b.x_high ∷ b.y_low ∷ b.y_high ∷ [] in
    let cells = b.nx ∷ b.ny ∷ [] in
    let from_species = species_outside o.species o.blocks.items ∷ [] in
    let from_blocking = blocking_misfit cells o.blocking ∷ from_species in
    let from_tag = tag_count b.max_level e.refining.tag.items ∷ from_blocking in
    let from_blocks = block_outside cells o.blocks.items ∷ from_tag in
    let from_sides = sides_differ sides ∷ from_blocks in
    let courant = fold-none (courant_over (b.cx ∷ b.cy ∷ b.d ∷ []) o.shear_x.items o.shear_y.items) from_sides none in
    let alike = fold-none (sides_differ sides) from_blocks courant.second in
    let within = fold-none (block_outside cells o.blocks.items) from_tag alike.second in
    let counted = fold-none (tag_count b.max_level e.refining.tag.items) from_blocking within.second in
    let fitting = fold-none (blocking_misfit cells o.blocking) from_species counted.second in
    let known = fold-none (species_outside o.species o.blocks.items) [] fitting.second in
    let same = alike_from_none b.x_low b.x_high b.y_low b.y_high alike.first in
    let both = fits_from_none b.nx b.ny o.blocking fitting.first in
    record {
      in_range = inside;
      stable = courant.first;
      x_alike = same.x;
      y_alike = same.y;
      inside = within.first;
      counted = counted.first;
      x_fits = both.x;
      y_fits = both.y;
      known = known.first;
    }
