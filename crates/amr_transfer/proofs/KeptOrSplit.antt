-- Masses that are kept or shared out, and that the children of a cell add up to it, where the old level was in sync with it.
use Rattle.std.proofs.Common.{◌≡◌, ◌∙◌, ℕ, ◌+◌, ◌<◌, Bool, true, false, cond, is_some, refl, sym, ap, subst, List, arith}
use Rattle.std.specs.declared.option.Option.{Option}
use Rattle.std.specs.declared.option.Option.TheVariants.{None, Some}
use Rattle.std.specs.Option.{unwrap_or}
use Rattle.amr_box.specs.declared.Cell.{Cell}
use Rattle.amr_box.specs.Cells.{Extent, child, holds, in_boxes}
use Rattle.amr_def.specs.Regrid.{refilled, split_mass}
use Rattle.amr_def.specs.State.{Masses, children_mass, is_covered, mass_of}
use Rattle.amr_def.proofs.Children.{first_child, fourth_child, second_child, third_child}
use Rattle.amr_def.proofs.Nests.{shares_sum}
use Rattle.amr_def.proofs.Uncovered.{no_children}
use Rattle.amr_patch.proofs.Lookups.{some_mass}
use Rattle.amr_patch.specs.declared.patches.Patch.{Patch}
use Rattle.std.specs.List.{All}
use Rattle.amr_patch.specs.Pairwise.{Pairwise}
use Rattle.amr_patch.specs.Patches.{KeepsFrameAndFluxes, box, mass_in, masses_in}
use Rattle.amr_transfer.proofs.PatchLists.{kept_in, masses_had}
use Rattle.amr_transfer.specs.Given.{HasMasses, IsGiven, HasOldMasses}
use Rattle.amr_transfer.specs.Shares.{HasChildren, IsInSync, kept_or_split}
use Rattle.amr_transfer.proofs.Halves.{share_child}

kept_some : (o : Option ℕ) (v : ℕ) → is_some o ≡ true → unwrap_or o v ≡ unwrap_or o 0
kept_some (Some m) v h = refl
kept_some None v h = absurd (cc)

split_none : (o : Option ℕ) (v : ℕ) → is_some o ≡ false → v ≡ unwrap_or o v
split_none (Some m) v h = absurd (cc)
split_none None v h = refl

-- a patch whose cells were given their shares, and then those of the old level their old masses
pub filled_patch : (coarse old : Masses) (p q r : Patch) → IsGiven (holds (box p)) (split_mass coarse) p q → IsGiven (λ c. is_some (old c)) (mass_of old) q r → HasMasses (kept_or_split coarse old) r
filled_patch coarse old p q r split kept = record { at = λ c h. cases c h (is_some (old c)) refl }
  where
    cases : (c : Cell) → holds (box r) c ≡ true → (t : Bool) → is_some (old c) ≡ t → mass_in r c ≡ kept_or_split coarse old c
    cases c h true e = kept.given c (subst (λ (b : Extent). holds b c ≡ true) kept.kept.of_box h) e ∙ sym (kept_some (old c) (split_mass coarse c) e)
    cases c h false e =
        let now : holds (box q) c ≡ true = subst (λ (b : Extent). holds b c ≡ true) kept.kept.of_box h in
        let first : holds (box p) c ≡ true = subst (λ (b : Extent). holds b c ≡ true) split.kept.of_box now in
        kept.others c now e ∙ split.given c first first ∙ split_none (old c) (split_mass coarse c) e

-- a patch whose cells all were of the old level
pub whole_patch : (coarse old : Masses) (p q : Patch) → HasOldMasses old (holds (box p)) p q → HasMasses (kept_or_split coarse old) q
whole_patch coarse old p q kept = record { at = λ c h. all c (subst (λ (b : Extent). holds b c ≡ true) kept.given.kept.of_box h) }
  where
    all : (c : Cell) → holds (box p) c ≡ true → mass_in q c ≡ kept_or_split coarse old c
    all c h = kept.given.given c h h ∙ sym (kept_some (old c) (split_mass coarse c) (kept.there c h h))

-- a level of such patches
pub filled_level : (coarse old : Masses) (boxes : List Extent) (ps qs : List Patch) (c : Cell) → ((d : Cell) → is_some (masses_in ps d) ≡ in_boxes boxes d) → Pairwise KeepsFrameAndFluxes ps qs → All (HasMasses (kept_or_split coarse old)) qs → masses_in qs c ≡ refilled coarse old boxes c
filled_level coarse old boxes ps qs c filled kept has =
    masses_had (kept_or_split coarse old) qs c has
    ∙ ap (λ (t : Bool). cond t (Some (kept_or_split coarse old c)) None) (kept_in ps qs c kept ∙ sym (some_mass ps c) ∙ filled c)

module _ (coarse old : Masses) (boxes : List Extent) (fine : Masses) (c : Cell) (filled : (d : Cell) → is_some (fine d) ≡ in_boxes boxes d) (there : HasChildren fine c) where
  mass_is : (k : ℕ) → k < 4 → mass_of (refilled coarse old boxes) (child c k) ≡ kept_or_split coarse old (child c k)
  mass_is k lt = ap (λ (t : Bool). unwrap_or (cond t (Some (kept_or_split coarse old (child c k))) None) 0) (sym (filled (child c k)) ∙ there k lt)

  sum_is : children_mass (refilled coarse old boxes) c ≡ kept_or_split coarse old (child c 0) + kept_or_split coarse old (child c 1) + kept_or_split coarse old (child c 2) + kept_or_split coarse old (child c 3)
  sum_is i = mass_is 0 (omega arith) i + mass_is 1 (omega arith) i + mass_is 2 (omega arith) i + mass_is 3 (omega arith) i

  -- children that were of the level
  were : HasChildren old c → children_mass (refilled coarse old boxes) c ≡ children_mass old c
  were all =
      let kept : (k : ℕ) → k < 4 → kept_or_split coarse old (child c k) ≡ mass_of old (child c k) = λ k lt. kept_some (old (child c k)) (split_mass coarse (child c k)) (all k lt) in
      sum_is ∙ (λ i. kept 0 (omega arith) i + kept 1 (omega arith) i + kept 2 (omega arith) i + kept 3 (omega arith) i)

  -- children that were not
  new : is_covered old c ≡ false → children_mass (refilled coarse old boxes) c ≡ mass_of coarse c
  new off =
      let none = no_children old c off in
      let split : (d : Cell) → old d ≡ None → kept_or_split coarse old d ≡ split_mass coarse d = λ d e. ap (λ (o : Option ℕ). unwrap_or o (split_mass coarse d)) e in
      let k0 = split (child c 0) (ap old (first_child c) ∙ none.k0) ∙ share_child coarse c 0 0 (omega arith) (omega arith) in
      let k1 = split (child c 1) (ap old (second_child c) ∙ none.k1) ∙ share_child coarse c 1 0 (omega arith) (omega arith) in
      let k2 = split (child c 2) (ap old (third_child c) ∙ none.k2) ∙ share_child coarse c 0 1 (omega arith) (omega arith) in
      let k3 = split (child c 3) (ap old (fourth_child c) ∙ none.k3) ∙ share_child coarse c 1 1 (omega arith) (omega arith) in
      sum_is ∙ (λ i. k0 i + k1 i + k2 i + k3 i) ∙ shares_sum (mass_of coarse c)

  pub adds_up : IsInSync coarse old c → children_mass (refilled coarse old boxes) c ≡ mass_of coarse c
  adds_up sync = cases (is_covered old c) refl
    where
      cases : (t : Bool) → is_covered old c ≡ t → children_mass (refilled coarse old boxes) c ≡ mass_of coarse c
      cases true on = were (sync.children on) ∙ sym (sync.mass on)
      cases false off = new off
