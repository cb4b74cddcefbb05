-- The patches of a level after a step.
use Rattle.std.proofs.Common.{◌≡◌, ℕ, ◌<◌, Bool, true, false, cond, pos, ◌+ℤ◌, List, [], ◌∷◌, length, map, refl, sym, ap, ◌∙◌, arith}
use Rattle.std.specs.declared.option.Option.{Option}
use Rattle.std.specs.declared.option.Option.TheVariants.{Some}
use Rattle.std.specs.Option.{option_map}
use Rattle.std.specs.List.{AllZip}
use Rattle.std.proofs.lemmas.List.Elements.{AllZip-get_or, length_all_zip}
use Rattle.amr_box.specs.declared.Cell.{Cell}
use Rattle.amr_box.specs.Cells.{Extent, at_least_zero, holds}
use Rattle.amr_def.specs.Flux.{Fluxes, net, updated}
use Rattle.amr_patch.specs.declared.patches.Patch.{Patch}
use Rattle.amr_patch.specs.Patches.{ArePatchesApart, box, mass_in, masses_in}
use Rattle.amr_lots.specs.Lots.{IsStepped}

mass_cases : (t : Bool) (a b : ℕ) (f : ℕ → ℕ) (x y : Option ℕ) → (t ≡ true → b ≡ f a) → y ≡ option_map f x → cond t (Some b) y ≡ option_map f (cond t (Some a) x)
mass_cases true a b f x y e h = ap Some (e refl)
mass_cases false a b f x y e h = h

module _ (e : Fluxes) where
  -- cell by cell
  at_cell : (qs rs : List Patch) (c : Cell) → AllZip (IsStepped e) qs rs → masses_in rs c ≡ option_map (λ v. at_least_zero (pos v +ℤ net e c)) (masses_in qs c)
  at_cell [] [] c h = refl
  at_cell [] (r ∷ rs) c h = absurd h
  at_cell (q ∷ qs) [] c h = absurd h
  at_cell (q ∷ qs) (r ∷ rs) c h =
      ap (λ (b : Extent). cond (holds b c) (Some (mass_in r c)) (masses_in rs c)) h.0.of_box
      ∙ mass_cases (holds (box q) c) (mass_in q c) (mass_in r c) (λ v. at_least_zero (pos v +ℤ net e c)) (masses_in qs c) (masses_in rs c) (λ t. ap at_least_zero (h.0.masses c t)) (at_cell qs rs c h.1)

  pub stepped_masses : (qs rs : List Patch) → AllZip (IsStepped e) qs rs → masses_in rs ≡ updated (masses_in qs) e
  unfolding updated
  stepped_masses qs rs h = λ i c. at_cell qs rs c h i

  pub stepped_boxes : (qs rs : List Patch) → AllZip (IsStepped e) qs rs → map box rs ≡ map box qs
  stepped_boxes [] [] h = refl
  stepped_boxes [] (r ∷ rs) h = absurd h
  stepped_boxes (q ∷ qs) [] h = absurd h
  stepped_boxes (q ∷ qs) (r ∷ rs) h = λ i. h.0.of_box i ∷ stepped_boxes qs rs h.1 i

  pub stepped_apart : (qs rs : List Patch) → AllZip (IsStepped e) qs rs → ArePatchesApart qs → ArePatchesApart rs
  stepped_apart qs rs h apart = λ i j d below there c a b.
      let n : length qs ≡ length rs = length_all_zip (IsStepped e) qs rs h in
      let high : j < length qs = omega (arith, there, n) in
      let low : i < length qs = omega (arith, below, high) in
      apart i j d below high c
      (ap (λ (t : Extent). holds t c) (sym (AllZip-get_or (IsStepped e) qs rs i d d h low).of_box) ∙ a)
      (ap (λ (t : Extent). holds t c) (sym (AllZip-get_or (IsStepped e) qs rs j d d h high).of_box) ∙ b)
