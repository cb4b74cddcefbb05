use Rattle.std.proofs.Common.{◌≡◌, cond, take}
use Rattle.std.specs.declared.option.Option.TheVariants.{Some}
use Rattle.std.specs.Option.{unwrap_or}
use Rattle.std.specs.List.{list_any}
use Rattle.std.specs.Ordering.{eq_by_cmp}
use Rattle.amr_box.specs.declared.Cell.{Cell}
use Rattle.amr_box.specs.Cells.{cell_cmp}
use Rattle.amr_def.specs.Regrid.{split_mass}
use Rattle.amr_witness.specs.Maps.{masses_of, old_of}
use Rattle.amr_witness_regrid.proofs.masses.fill.Given as goal

-- the cells that were visited have their masses
abbrev pub invariant-loop-c : goal.invariant-loop-c
invariant-loop-c l = (q : Cell) → masses_of l.next q
    ≡ cond (list_any (λ c. eq_by_cmp cell_cmp q c) (take l.c-index l.c-items)) (Some (unwrap_or (old_of l.old q) (split_mass (masses_of l.coarse) q))) (masses_of l.initial.next q)
