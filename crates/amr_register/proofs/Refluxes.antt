-- The patches of a level, to whose masses the entries of its register cells are added.
use Rattle.std.proofs.Common.{◌≡◌, ◌∙◌, ℕ, suc, ◌<◌, ◌≤◌, Bool, true, false, ℤ, pos, ◌+ℤ◌, List, [], ◌∷◌, length, map, refl, sym, ap, subst, arith}
use Rattle.std.specs.Prelude.{slice_index_or}
use Rattle.std.specs.Option.{option_map, unwrap_or}
use Rattle.std.specs.declared.option.Option.{Option}
use Rattle.std.specs.declared.option.Option.TheVariants.{Some}
use Rattle.std.proofs.lemmas.Bool.{cond-false, cond-true}
use Rattle.amr_box.specs.declared.Cell.{Cell}
use Rattle.amr_box.specs.Cells.{Extent, at_least_zero, holds}
use Rattle.amr_patch.specs.declared.patches.Patch.{Patch}
use Rattle.amr_def.specs.State.{mass_of}
use Rattle.amr_patch.specs.Orders.{IsHolder}
use Rattle.amr_patch.specs.Pairwise.{Pairwise}
use Rattle.amr_patch.specs.Patches.{ArePatchesApart, KeepsFrameAndFluxes, box, mass_in, masses_in}
use Rattle.amr_patch.proofs.Lookups.{masses_in-at, same_default}
use Rattle.amr_register.specs.declared.register.Register.{Register}
use Rattle.amr_register.specs.Entries.{AreRising, with_entries}
use Rattle.amr_register.specs.Fields.{HasEdgesOf, IsBoxAt}
use Rattle.amr_register.proofs.BoxesAt.{box_at}
use Rattle.amr_register.proofs.Changed.{AreChanged}
use Rattle.amr_register.proofs.RowOrder.{row_cmp-itself}
use Rattle.amr_register.proofs.Taken.{same_at}

pub apart_places : (cs : List Cell) (i j : ℕ) (c d : Cell) → AreRising cs → i < j → j < length cs → slice_index_or cs i c ≡ slice_index_or cs j d → ⊥
apart_places cs i j c d rises lt l e = row_cmp-itself (slice_index_or cs i d) (slice_index_or cs j d) (same_at cs i d c (omega arith) ∙ e) (rises i j d lt l)

-- a patch has its masses with their entries, and keeps all else
pub record IsRefluxed (entry : Cell → ℤ) (p q : Patch) : Type 0 where
  pub kept : KeepsFrameAndFluxes p q
  pub masses : (c : Cell) → holds (box p) c ≡ true → mass_in q c ≡ at_least_zero (pos (mass_in p c) +ℤ entry c)

-- two lists of one length, place by place
pairwise_from : {A : Type 0} (R : A → A → Type 0) (xs ys : List A) → length ys ≡ length xs → ((k : ℕ) (d e : A) → k < length xs → R (slice_index_or xs k d) (slice_index_or ys k e)) → Pairwise R xs ys
pairwise_from R [] [] n h = tt
pairwise_from R [] (y ∷ ys) n h = absurd (omega arith)
pairwise_from R (x ∷ xs) [] n h = absurd (omega arith)
pairwise_from R (x ∷ xs) (y ∷ ys) n h = (h 0 x y (omega arith), pairwise_from R xs ys (omega arith) (λ k d e lt. h (suc k) d e (omega arith)))

-- so the level has its masses with their entries
all_refluxed : (entry : Cell → ℤ) (ps qs : List Patch) (c : Cell) → Pairwise (IsRefluxed entry) ps qs → masses_in qs c ≡ with_entries entry (masses_in ps) c
all_refluxed entry [] [] c h = refl
all_refluxed entry [] (q ∷ qs) c h = absurd h
all_refluxed entry (p ∷ ps) [] c h = absurd h
all_refluxed entry (p ∷ ps) (q ∷ qs) c h = by_test (holds (box p) c) refl (all_refluxed entry ps qs c h.1)
  where
    add : Option ℕ → Option ℕ
    add o = option_map (λ v. at_least_zero (pos v +ℤ entry c)) o

    by_test : (t : Bool) → holds (box p) c ≡ t → masses_in qs c ≡ with_entries entry (masses_in ps) c → masses_in (q ∷ qs) c ≡ with_entries entry (masses_in (p ∷ ps)) c
    by_test true s rest = cond-true _ _ _ (ap (λ (b : Extent). holds b c) h.0.kept.of_box ∙ s) ∙ ap Some (h.0.masses c s) ∙ ap add (sym (cond-true _ (Some (mass_in p c)) (masses_in ps c) s))
    by_test false s rest = cond-false _ _ _ (ap (λ (b : Extent). holds b c) h.0.kept.of_box ∙ s) ∙ rest ∙ ap add (sym (cond-false _ (Some (mass_in p c)) (masses_in ps c) s))

-- patch k at its turn, which is as it was
module _ (ps : List Patch) (k : ℕ) (p q : Patch) (apart : ArePatchesApart ps) (lt : k < length ps) (is : p ≡ slice_index_or ps k q) where
  pub turn_place : (r : Register) → HasEdgesOf (map box ps) r → IsBoxAt k (box p) r
  turn_place r edges = subst (λ (x : Patch). IsBoxAt k (box x) r) (sym is) (box_at r ps k q edges apart lt)

  pub turn_mass : (c : Cell) → holds (box p) c ≡ true → mass_of (masses_in ps) c ≡ mass_in p c
  turn_mass c held =
      let holder : IsHolder ps c k = record { inside = lt; holds_it = λ d. ap (λ (x : Patch). holds (box x) c) (same_default ps k d q lt ∙ sym is) ∙ held } in
      ap (λ (o : Option ℕ). unwrap_or o 0) (masses_in-at ps c k q apart holder) ∙ ap (λ (x : Patch). mass_in x c) (sym is)

-- all patches have had their turn
module _ (entry : Cell → ℤ) (ps qs : List Patch) (n : ℕ) (all : length ps ≤ n) (h : AreChanged (λ k. IsRefluxed entry) ps qs n) where
  pub all_have_entries : masses_in qs ≡ with_entries entry (masses_in ps)
  all_have_entries = λ i c. all_refluxed entry ps qs c (pairwise_from (IsRefluxed entry) ps qs h.count (λ k d e lt. h.done k d e (omega (arith, lt, all)) lt)) i

  pub all_frames_kept : Pairwise KeepsFrameAndFluxes ps qs
  all_frames_kept = pairwise_from KeepsFrameAndFluxes ps qs h.count (λ k d e lt. (h.done k d e (omega (arith, lt, all)) lt).kept)
