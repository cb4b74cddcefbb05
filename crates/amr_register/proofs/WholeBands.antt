-- What a register needs of the band of all register cells.
use Rattle.std.proofs.Common.{◌≡◌, ◌∙◌, ℕ, ◌^◌, ◌<◌, ◌≤◌, true, List, length, get_or, refl, sym, ap, subst, arith}
use Rattle.std.specs.Prelude.{is_some}
use Rattle.std.specs.List.{All}
use Rattle.std.proofs.lemmas.List.Elements.{Contains-get_or}
use Rattle.amr_box.specs.declared.Cell.{Cell}
use Rattle.amr_def.specs.declared.problem.Problem.{Problem}
use Rattle.amr_def.specs.Domain.{domain}
use Rattle.amr_def.specs.State.{Masses}
use Rattle.amr_patch.specs.declared.levels.Level.{Level}
use Rattle.amr_patch.specs.Levels.{level_of, patches_of}
use Rattle.amr_patch.specs.Patches.{in_patches, masses_in}
use Rattle.amr_patch.proofs.Lookups.{some_mass}
use Rattle.amr_register.specs.Beside.{IsDomainCell}
use Rattle.amr_register.specs.Entries.{AreRising}
use Rattle.amr_register.specs.RegisterCells.{is_register_cell, register_cells}
use Rattle.amr_register.proofs.BandLists.{where_sorted}
use Rattle.amr_register.proofs.CellLists.{of_level, where_passes}
use Rattle.amr_register.proofs.FewCells.{few_cells}
use Rattle.amr_register.proofs.FineBoxes.{near_cells}
use Rattle.amr_register.proofs.RowOrder.{rising}

masses_are : (k : Level) → (level_of k).masses ≡ masses_in (patches_of k)
unfolding level_of patches_of
masses_are k = refl

module _ (p : Problem) (l : ℕ) (k : Level) (fine : Masses) (cs : List Cell) (are : cs ≡ register_cells p l (level_of k).masses fine) where
  -- each is a cell of the level
  pub there : All (λ (q : Cell). in_patches (patches_of k) q ≡ true) cs
  there = subst (λ (xs : List Cell). All (λ (q : Cell). in_patches (patches_of k) q ≡ true) xs) (sym are) (λ i q lt.
      let m = (level_of k).masses in
      let x : Cell = get_or (register_cells p l m fine) i q in
      sym (some_mass (patches_of k) x) ∙ sym (ap (λ (n : Masses). is_some (n x)) (masses_are k))
      ∙ of_level (domain p l) m fine x (where_passes (domain p l) (is_register_cell (domain p l) m fine) x (Contains-get_or (register_cells p l m fine) i q lt)))

  pub few : l ≤ 4 → length cs < 2 ^ 32
  few shallow = omega (arith, ap length are, few_cells p l (level_of k).masses fine shallow)

  pub rises : AreRising cs
  rises = subst (λ (xs : List Cell). AreRising xs) (sym are) (rising (register_cells p l (level_of k).masses fine) (where_sorted (domain p l) (is_register_cell (domain p l) (level_of k).masses fine)))

  pub near : l ≤ 4 → All IsDomainCell cs
  near shallow = near_cells p l (is_register_cell (domain p l) (level_of k).masses fine) cs shallow are
