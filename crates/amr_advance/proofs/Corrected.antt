-- What corrected patches make of a level: each patch was given its entries and its sums, and so the level has them all.
use Rattle.std.proofs.Common.{◌≡◌, ◌∙◌, ℕ, zero, suc, ◌^◌, ◌<◌, Bool, true, false, cond, ℤ, pos, ◌+ℤ◌, ◌≤ℤ◌, ◌<ℤ◌, List, [], ◌∷◌, refl, sym, ap, subst, arith}
use Rattle.std.specs.Prelude.{is_some, slice_index_or}
use Rattle.std.specs.Option.{option_map}
use Rattle.std.specs.declared.option.Option.{Option}
use Rattle.std.specs.declared.option.Option.TheVariants.{None, Some}
use Rattle.std.specs.List.{All, AllZip, Contains}
use Rattle.std.proofs.lemmas.Bool.{false≢true}
use Rattle.amr_box.specs.declared.Cell.{Cell}
use Rattle.amr_box.specs.Cells.{Extent, at_least_zero, child, holds, parent}
use Rattle.amr_box.proofs.Children.{by_child}
use Rattle.amr_def.specs.State.{Masses, children_mass, is_covered, mass_of}
use Rattle.amr_patch.specs.declared.levels.Level.{Level as Held}
use Rattle.amr_patch.specs.declared.patches.Patch.{Patch}
use Rattle.amr_patch.specs.Pairwise.{Pairwise}
use Rattle.amr_patch.specs.Patches.{ArePatchesApart, KeepsFrameAndFluxes, box, mass_in, masses_in}
use Rattle.amr_patch.proofs.LevelLaws.{all_kept}
use Rattle.amr_patch.proofs.Lookups.{same_default}
use Rattle.amr_register.specs.declared.register.Register.{Register}
use Rattle.amr_register.specs.Entries.{with_entries}
use Rattle.amr_register.specs.Fields.{cells_in, entry_in}
use Rattle.amr_transfer.specs.Sums.{summed}
use Rattle.amr_transfer.proofs.Halves.{parent_child}
use Rattle.amr_transfer.proofs.PatchLists.{mass_there}
use Rattle.amr_lots.specs.declared.lot.Correction.{Correction}
use Rattle.amr_lots.specs.Corrections.{AreCorrectedBy, FitsEntries, IsCorrected, finer_in, register_in}
use Rattle.amr_advance.specs.Correction.{IsTriedLevel}

-- ---- the parents of fine cells

parent_of : (c : Cell) (k : ℕ) → k < 4 → parent (child c k) ≡ c
parent_of c zero few = parent_child c 0 0 (omega arith) (omega arith)
parent_of c (suc zero) few = parent_child c 1 0 (omega arith) (omega arith)
parent_of c (suc (suc zero)) few = parent_child c 0 1 (omega arith) (omega arith)
parent_of c (suc (suc (suc zero))) few = parent_child c 1 1 (omega arith) (omega arith)
parent_of c (suc (suc (suc (suc k)))) few = absurd (omega (arith, few))

-- a covered cell is a cell of the level, if the parents of fine cells are
covered_there : (fine coarse : Masses) (c : Cell) → ((d : Cell) → is_some (fine d) ≡ true → is_some (coarse (parent d)) ≡ true) → is_covered fine c ≡ true → is_some (coarse c) ≡ true
unfolding is_covered
covered_there fine coarse c parents h =
    by_child (λ d. is_some (fine d)) c (is_some (coarse c) ≡ true) (λ k few on. ap (λ (d : Cell). is_some (coarse d)) (sym (parent_of c k few)) ∙ parents (child c k) on) h

-- ---- the masses of corrected patches

module _ (fine : Masses) (entry : Cell → ℤ) where
  -- all but their masses stays
  pub kept_all : (ps qs : List Patch) → AllZip (IsCorrected fine entry) ps qs → Pairwise KeepsFrameAndFluxes ps qs
  kept_all [] [] h = tt
  kept_all [] (q ∷ qs) h = absurd h
  kept_all (p ∷ ps) [] h = absurd h
  kept_all (p ∷ ps) (q ∷ qs) h = (h.0.kept, kept_all ps qs h.1)

  -- the mass of a cell that had this one
  abbrev corrected : Cell → ℕ → ℕ
  corrected c v = cond (is_covered fine c) (children_mass fine c) (at_least_zero (pos v +ℤ entry c))

  masses_at : (ps qs : List Patch) (c : Cell) → AllZip (IsCorrected fine entry) ps qs → masses_in qs c ≡ option_map (corrected c) (masses_in ps c)
  masses_at [] [] c h = refl
  masses_at [] (q ∷ qs) c h = absurd h
  masses_at (p ∷ ps) [] c h = absurd h
  masses_at (p ∷ ps) (q ∷ qs) c h =
      ap (λ (b : Extent). cond (holds b c) (Some (mass_in q c)) (masses_in qs c)) h.0.kept.of_box
      ∙ cases (holds (box p) c) refl (masses_at ps qs c h.1)
    where
      cases : (t : Bool) → holds (box p) c ≡ t → masses_in qs c ≡ option_map (corrected c) (masses_in ps c) → cond t (Some (mass_in q c)) (masses_in qs c) ≡ option_map (corrected c) (cond t (Some (mass_in p c)) (masses_in ps c))
      cases true on rest = ap Some (h.0.masses c on)
      cases false on rest = rest

  -- entries first, and then sums
  either : (c : Cell) (t : Bool) (o : Option ℕ) → (t ≡ true → is_some o ≡ true)
      → option_map (λ v. cond t (children_mass fine c) (at_least_zero (pos v +ℤ entry c))) o ≡ cond t (Some (children_mass fine c)) (option_map (λ v. at_least_zero (pos v +ℤ entry c)) o)
  either c true None there = absurd (cc (there refl))
  either c true (Some v) there = refl
  either c false None there = refl
  either c false (Some v) there = refl

  pub corrected_level : (ps qs : List Patch) → ((d : Cell) → is_some (fine d) ≡ true → is_some (masses_in ps (parent d)) ≡ true) → AllZip (IsCorrected fine entry) ps qs → masses_in qs ≡ summed fine (with_entries entry (masses_in ps))
  corrected_level ps qs parents h = λ i c. (masses_at ps qs c h ∙ either c (is_covered fine c) (masses_in ps c) (covered_there fine (masses_in ps) c parents)) i

-- ---- a level whose correction was tried

module _ (t : Bool) (whole : Correction) (ps qs : List Patch) (done : t ≡ true → AreCorrectedBy whole ps qs) (same : t ≡ false → qs ≡ ps) where
  -- all but the masses of its patches is as before
  pub tried_kept : Pairwise KeepsFrameAndFluxes ps qs
  tried_kept = by_answer t refl
    where
      by_answer : (u : Bool) → t ≡ u → Pairwise KeepsFrameAndFluxes ps qs
      by_answer true is = kept_all (masses_in (finer_in whole)) (entry_in (register_in whole)) ps qs (done is)
      by_answer false is = subst (Pairwise KeepsFrameAndFluxes ps) (sym (same is)) (all_kept ps)

pub not_tried : (t : Bool) (r : Register) (finer k : Held) → t ≡ false → IsTriedLevel t r finer k k
not_tried t r finer k undone = record { corrected = λ is. absurd (false≢true (sym undone ∙ is)); same = λ h. refl; boxes = refl; patches = refl }

-- ---- entries that fit a level fit each of its patches

pub fits_each : (r : Register) (ps : List Patch) → ArePatchesApart ps → ((c : Cell) → Contains (cells_in r) c → pos 0 ≤ℤ (pos (mass_of (masses_in ps) c) +ℤ entry_in r c)) → ((c : Cell) → Contains (cells_in r) c → (pos (mass_of (masses_in ps) c) +ℤ entry_in r c) <ℤ pos (2 ^ 32))
    → All (FitsEntries r) ps
fits_each r ps apart low high k d lt = record {
  not_negative = λ c among on. subst (λ (n : ℕ). pos 0 ≤ℤ (pos n +ℤ entry_in r c)) (sym (mass_is c on)) (low c among);
  fits = λ c among on. subst (λ (n : ℕ). (pos n +ℤ entry_in r c) <ℤ pos (2 ^ 32)) (sym (mass_is c on)) (high c among);
}
  where
    q : Patch
    q = slice_index_or ps k d

    mass_is : (c : Cell) → holds (box q) c ≡ true → mass_in q c ≡ mass_of (masses_in ps) c
    mass_is c on = mass_there ps k q c apart lt (same_default ps k d q lt) on
