-- The rank of the patch that has a cell.
use Rattle.std.proofs.Common.{◌≡◌, ◌∙◌, ℕ, zero, suc, ◌<◌, ◌/◌, ◌^◌, cond, Bool, true, false, List, [], ◌∷◌, length, refl, sym, ap, arith}
use Rattle.std.specs.Prelude.{slice_index, IfSome}
use Rattle.std.specs.declared.option.Option.{Option}
use Rattle.std.specs.declared.option.Option.TheVariants.{None, Some}
use Rattle.std.specs.List.{All}
use Rattle.std.specs.Option.{unwrap_or}
use Rattle.std.proofs.lemmas.Bool.{false_from_ne_true, or_parts}
use Rattle.std.proofs.lemmas.List.Elements.{All-head, All-tail}
use Rattle.amr_box.specs.declared.Cell.{Cell}
use Rattle.amr_box.specs.Cells.{holds, parent}
use Rattle.amr_def.specs.Cut.{or_else}
use Rattle.amr_def.specs.Domain.{domain, home_cell, in_domain}
use Rattle.amr_def.specs.State.{mass_of}
use Rattle.amr_def.specs.Value.{home_value, inflow_at, value_at}
use Rattle.amr_patch.specs.declared.patches.Patch.{Patch}
use Rattle.amr_patch.specs.Orders.{IsHolder}
use Rattle.amr_patch.specs.Patches.{ArePatchesApart, box, in_patches, mass_in, masses_in}
use Rattle.amr_letters.specs.Sources.{AreOwned, Sharing, holder, source, source_of_home, value_of}

pub holder-at : (ps : List Patch) (owners : List ℕ) (c : Cell) (i : ℕ) → ArePatchesApart ps → length owners ≡ length ps → IsHolder ps c i → holder ps owners c ≡ Some (slice_index owners i)
holder-at [] owners c i apart count h = let lt : i < 0 = h.inside in absurd (omega arith)
holder-at (p ∷ ps) [] c i apart count h = absurd (omega (arith, count))
holder-at (p ∷ ps) (o ∷ owners) c zero apart count h = rw (h.holds_it p) refl
holder-at (p ∷ ps) (o ∷ owners) c (suc i) apart count h =
    let lt : suc i < suc (length ps) = h.inside in
    let other : holds (box p) c ≡ false = false_from_ne_true (holds (box p) c) (λ e. apart 0 (suc i) p (omega arith) lt c e (h.holds_it p)) in
    rw other (holder-at ps owners c i (λ j k d lt within. apart (suc j) (suc k) d (omega (arith, lt)) (omega (arith, within))) (omega (arith, count)) (record { inside = omega (arith, lt); holds_it = λ d. h.holds_it d }))

pub holder-none : (ps : List Patch) (owners : List ℕ) (c : Cell) → in_patches ps c ≡ false → holder ps owners c ≡ None
holder-none [] owners c e = refl
holder-none (p ∷ ps) [] c e = refl
holder-none (p ∷ ps) (o ∷ owners) c e = let parts = or_parts (holds (box p) c) (in_patches ps c) e in rw (parts.0) (holder-none ps owners c parts.1)

-- where no rank is the holder, no patch has the cell
pub none_holds : (ps : List Patch) (owners : List ℕ) (c : Cell) → length owners ≡ length ps → holder ps owners c ≡ None → masses_in ps c ≡ None
none_holds [] owners c count e = refl
none_holds (p ∷ ps) [] c count e = absurd (omega (arith, count))
none_holds (p ∷ ps) (o ∷ owners) c count e = by_test (holds (box p) c) e (λ f. none_holds ps owners c (omega (arith, count)) f)
  where
    by_test : (b : Bool) → cond b (Some o) (holder ps owners c) ≡ None → (holder ps owners c ≡ None → masses_in ps c ≡ None) → cond b (Some (mass_in p c)) (masses_in ps c) ≡ None
    by_test true f go = cc
    by_test false f go = go f

pub holder_below : (n : ℕ) (ps : List Patch) (owners : List ℕ) (c : Cell) (rank : ℕ) → All (λ owner. owner < n) owners → holder ps owners c ≡ Some rank → rank < n
holder_below n [] owners c rank all e = cc
holder_below n (p ∷ ps) [] c rank all e = cc
holder_below n (p ∷ ps) (o ∷ owners) c rank all e = by_test (holds (box p) c) e (λ f. holder_below n ps owners c rank (All-tail (λ owner. owner < n) o owners all) f)
  where
    some : {x y : ℕ} → Some x ≡ Some y → x ≡ y
    some f = ap (λ o. unwrap_or o 0) f

    by_test : (b : Bool) → cond b (Some o) (holder ps owners c) ≡ Some rank → (holder ps owners c ≡ Some rank → rank < n) → rank < n
    by_test true f go = let own = All-head (λ owner. owner < n) o owners all in let same = some f in omega (arith, own, same)
    by_test false f go = go f

-- a rank that a value comes from is one of so many
pub source_below : (n : ℕ) (s : Sharing) (c : Cell) (rank : ℕ) → AreOwned n s.patches s.owners → AreOwned n s.coarser s.coarser_owners → source s c ≡ Some rank → rank < n
source_below n s c rank own coarser e = by_holder (holder s.patches s.owners h) refl e
  where
    h : Cell
    h = home_cell (domain s.problem s.level) c

    some : {x y : ℕ} → Some x ≡ Some y → x ≡ y
    some f = ap (λ o. unwrap_or o 0) f

    by_parent : (b : Bool) → cond b (holder s.coarser s.coarser_owners (parent h)) None ≡ Some rank → rank < n
    by_parent true f = holder_below n s.coarser s.coarser_owners (parent h) rank coarser.ranked f
    by_parent false f = cc

    by_holder : (o : Option ℕ) → holder s.patches s.owners h ≡ o → or_else o (cond (in_domain (domain s.problem s.level) h) (holder s.coarser s.coarser_owners (parent h)) None) ≡ Some rank → rank < n
    by_holder None is f = by_parent (in_domain (domain s.problem s.level) h) f
    by_holder (Some o) is f = holder_below n s.patches s.owners h rank own.ranked (is ∙ f)

-- ---- where a ghost cell gets its value from

module _ (s : Sharing) (c h : Cell) (home : h ≡ home_cell (domain s.problem s.level) c) where
  at_home : source_of_home s h ≡ source s c
  at_home = ap (source_of_home s) home

  pub source_own : (rank : ℕ) → Some rank ≡ holder s.patches s.owners h → Some rank ≡ source s c
  source_own rank e = ap (λ o. or_else o (cond (in_domain (domain s.problem s.level) h) (holder s.coarser s.coarser_owners (parent h)) None)) e ∙ at_home

  pub source_coarser : (o : Option ℕ) → None ≡ holder s.patches s.owners h → o ≡ cond (in_domain (domain s.problem s.level) h) (holder s.coarser s.coarser_owners (parent h)) None → o ≡ source s c
  source_coarser o none e = e ∙ ap (λ r. or_else r (cond (in_domain (domain s.problem s.level) h) (holder s.coarser s.coarser_owners (parent h)) None)) none ∙ at_home

  value_home : home_value s.problem s.level (masses_in s.patches) (masses_in s.coarser) h ≡ value_of s c
  unfolding value_at
  value_home = ap (home_value s.problem s.level (masses_in s.patches) (masses_in s.coarser)) home

  abbrev otherwise : Bool → ℕ
  otherwise inside = cond inside (mass_of (masses_in s.coarser) (parent h) / 4) (inflow_at s.problem s.level h / 4 ^ s.level)

  pub value_own : (m : ℕ) → Some m ≡ masses_in s.patches h → m ≡ value_of s c
  value_own m e = ap (λ o. unwrap_or o (otherwise (in_domain (domain s.problem s.level) h))) e ∙ value_home

  pub value_coarser : (m : ℕ) → None ≡ masses_in s.patches h → in_domain (domain s.problem s.level) h ≡ true → m ≡ mass_of (masses_in s.coarser) (parent h) / 4 → m ≡ value_of s c
  value_coarser m none inside e = e ∙ ap otherwise (sym inside) ∙ ap (λ o. unwrap_or o (otherwise (in_domain (domain s.problem s.level) h))) none ∙ value_home

pub if_some : {A : Type 0} {P Q : A → Type 0} (o : Option A) → IfSome o P → ((x : A) → P x → Q x) → IfSome o Q
if_some None h f = h
if_some (Some x) h f = f x h
