-- The part of a list of patches that may reach some rows.
use Rattle.std.proofs.Common.{◌≡◌, ◌∙◌, ℕ, zero, suc, ◌+◌, ◌<◌, ◌≤◌, Bool, false, cond, ℤ, ◌≤ℤ◌, ◌<ℤ◌, List, [], ◌∷◌, length, take, drop, refl, sym, ap, arith}
use Rattle.std.specs.Prelude.{slice_index_or}
use Rattle.std.specs.declared.option.Option.{Option}
use Rattle.std.specs.declared.option.Option.TheVariants.{None, Some}
use Rattle.std.proofs.lemmas.Int.{ints}
use Rattle.std.proofs.lemmas.Bool.{false_from_ne_true}
use Rattle.std.proofs.lemmas.List.{get_or-drop, get_or-take, length-drop, length-take}
use Rattle.amr_box.specs.declared.Cell.{Cell}
use Rattle.amr_box.specs.Cells.{holds}
use Rattle.amr_patch.specs.declared.patches.Patch.{Patch}
use Rattle.amr_patch.specs.Patches.{ArePatchesApart, box, mass_in, masses_in}
use Rattle.amr_patch.proofs.Rows.{inside}

-- ---- what a part of the list has

pub masses_from : (ps : List Patch) (n : ℕ) (c : Cell) → ((i : ℕ) (d : Patch) → i < n → i < length ps → holds (box (slice_index_or ps i d)) c ≡ false) → masses_in (drop n ps) c ≡ masses_in ps c
masses_from ps zero c h = refl
masses_from [] (suc n) c h = refl
masses_from (p ∷ ps) (suc n) c h =
    masses_from ps n c (λ i d lt l. h (suc i) d (omega arith) (omega arith)) ∙ ap (λ (t : Bool). cond t (Some (mass_in p c)) (masses_in ps c)) (sym (h 0 p (omega arith) (omega arith)))

none_has : (ps : List Patch) (c : Cell) → ((i : ℕ) (d : Patch) → i < length ps → holds (box (slice_index_or ps i d)) c ≡ false) → masses_in ps c ≡ None
none_has [] c h = refl
none_has (p ∷ ps) c h = ap (λ (t : Bool). cond t (Some (mass_in p c)) (masses_in ps c)) (h 0 p (omega arith)) ∙ none_has ps c (λ i d lt. h (suc i) d (omega arith))

pub masses_up_to : (ps : List Patch) (n : ℕ) (c : Cell) → ((i : ℕ) (d : Patch) → n ≤ i → i < length ps → holds (box (slice_index_or ps i d)) c ≡ false) → masses_in (take n ps) c ≡ masses_in ps c
masses_up_to ps zero c h = sym (none_has ps c (λ i d lt. h i d (omega arith) lt))
masses_up_to [] (suc n) c h = refl
masses_up_to (p ∷ ps) (suc n) c h = ap (λ (o : Option ℕ). cond (holds (box p) c) (Some (mass_in p c)) o) (masses_up_to ps n c (λ i d le lt. h (suc i) d (omega arith) (omega arith)))

-- the patches from `from` up to `to`, where none outside has the cell
pub masses_between : (ps : List Patch) (from to n : ℕ) (c : Cell) → from + n ≡ to → ((i : ℕ) (d : Patch) → i < from → i < length ps → holds (box (slice_index_or ps i d)) c ≡ false) → ((i : ℕ) (d : Patch) → to ≤ i → i < length ps → holds (box (slice_index_or ps i d)) c ≡ false) → masses_in (take n (drop from ps)) c ≡ masses_in ps c
masses_between ps from to n c e low high =
    masses_up_to (drop from ps) n c
    (λ i d le lt. ap (λ (p : Patch). holds (box p) c) (get_or-drop from ps i d) ∙ high (from + i) d (omega arith) (omega (arith, lt, length-drop from ps)))
    ∙ masses_from ps from c low

pub apart_between : (ps : List Patch) (from n : ℕ) → ArePatchesApart ps → ArePatchesApart (take n (drop from ps))
apart_between ps from n apart = λ i j d lt l c a b.
    let all = length-take n (drop from ps) in
    let rest = length-drop from ps in
    let few : j < n = omega (arith, l, all) in
    let there : from + j < length ps = omega (arith, l, all, rest) in
    let at : (k : ℕ) → k < n → slice_index_or (take n (drop from ps)) k d ≡ slice_index_or ps (from + k) d = λ k less. get_or-take n (drop from ps) k d less ∙ get_or-drop from ps k d in
    apart (from + i) (from + j) d (omega arith) there c (ap (λ (p : Patch). holds (box p) c) (sym (at i (omega arith))) ∙ a) (ap (λ (p : Patch). holds (box p) c) (sym (at j few)) ∙ b)

-- ---- patches too low or too high

pub too_low : (p : Patch) (c : Cell) (low : ℤ) → (box p).hi.y <ℤ low → low ≤ℤ c.y → holds (box p) c ≡ false
too_low p c low under from = false_from_ne_true (holds (box p) c) (λ h. let i = inside (box p) c h in omega (arith, ints, i.north, under, from))

pub too_high : (p : Patch) (c : Cell) (high : ℤ) → high <ℤ (box p).lo.y → c.y ≤ℤ high → holds (box p) c ≡ false
too_high p c high over to = false_from_ne_true (holds (box p) c) (λ h. let i = inside (box p) c h in omega (arith, ints, i.south, over, to))
