-- The parts of a regrid, a level at a time.
use Rattle.std.proofs.Common.{◌≡◌, ℕ, zero, suc, ◌<◌, ◌≤◌, refl, sym, ap, subst, ◌∙◌, arith, List, [], ◌∷◌, length, slice_index_or}
use Rattle.std.specs.List.{All, AllZip}
use Rattle.std.specs.Map.{lookup}
use Rattle.std.proofs.lemmas.List.{get_or_default}
use Rattle.std.specs.BTreeMap.{BTreeMap, IsClone, is_at}
use Rattle.amr_box.specs.declared.Cell.{Cell}
use Rattle.amr_box.specs.Cells.{cell_cmp, Extent, IsNear}
use Rattle.amr_def.specs.declared.problem.Problem.{Problem}
use Rattle.amr_def.specs.State.{Level, Masses, State, level_at, no_level}
use Rattle.amr_def.specs.Facts.{IsSound}
use Rattle.amr_def.proofs.Nesting.{in_domain-inside}
use Rattle.amr_def.specs.Regrid.{first_masses, refill, refilled, regridded_levels, rest_of}
use Rattle.amr_laws.proofs.NearBoxes.{boxes_near}
use Rattle.amr_witness.specs.declared.PlainLevel.{PlainLevel}
use Rattle.std.specs.Global.{Vec}
use Rattle.amr_witness.specs.Maps.{levels_of, masses_of}
pub use Rattle.amr_regrid.proofs.Refilling.{boxes_more, items_empty, items_some, nil_of, no_boxes, refill_empty, refill_none, regrid_is}
use Rattle.amr_regrid.proofs.Refilling.{refill_more}
use Rattle.amr_regrid.specs.Outlines.{lists_in}
use Rattle.amr_witness_regrid.specs.Places.{AreInside, HasBoxes}

-- ---- levels

-- ---- near boxes

pub head_near : (bs more : List (Vec Extent)) (here : Vec Extent) → bs ≡ here ∷ more → All (All IsNear) (lists_in bs) → All IsNear here.items
head_near bs more here parts all = (subst (λ (xs : List (Vec Extent)). All (All IsNear) (lists_in xs)) parts all) 0 [] (omega arith)

pub tail_near : (bs more : List (Vec Extent)) (here : Vec Extent) → bs ≡ here ∷ more → All (All IsNear) (lists_in bs) → All (All IsNear) (lists_in more)
tail_near bs more here parts all = λ k d h. (subst (λ (xs : List (Vec Extent)). All (All IsNear) (lists_in xs)) parts all) (suc k) d (omega (arith, h))

pub more_near : (bs all : List (Vec Extent)) (here : Vec Extent) → bs ≡ here ∷ all → All IsNear here.items → All (All IsNear) (lists_in all) → All (All IsNear) (lists_in bs)
more_near bs all here parts one rest = subst (λ (xs : List (Vec Extent)). All (All IsNear) (lists_in xs)) (sym parts) at
  where
    at : All (All IsNear) (lists_in (here ∷ all))
    at zero d h = one
    at (suc k) d h = rest k d (omega (arith, h))

-- ---- a refilled level on those above it

pub level_on : (m new : Masses) (olds : List Level) (boxes more : List (List Extent)) (here bs : List Extent) (above : List Level) → boxes ≡ here ∷ more → 0 < length here → new ≡ refilled m (first_masses olds) here → bs ≡ here
    → above ≡ refill new (rest_of olds) more → record { boxes = bs; masses = new } ∷ above ≡ refill m olds boxes
level_on m new olds boxes more here bs above parts some is same rest = (λ i. record { boxes = same i; masses = new } ∷ rest i) ∙ refill_more m new olds boxes more here parts some is

-- ---- the state

pub regridded_none : (ks : List PlainLevel) (boxes : List (List Extent)) → length ks ≡ 0 → [] ≡ regridded_levels (levels_of ks) boxes
regridded_none [] boxes none = refl
regridded_none (k ∷ ks) boxes none = absurd (omega arith)

pub regridded_more : (ks rest : List PlainLevel) (k : PlainLevel) (boxes : List (List Extent)) (above : List Level) (bs : List Extent) (m : Masses) → ks ≡ k ∷ rest → bs ≡ k.boxes.items → m ≡ masses_of k.masses
    → above ≡ refill (masses_of k.masses) (levels_of rest) boxes → record { boxes = bs; masses = m } ∷ above ≡ regridded_levels (levels_of ks) boxes
regridded_more ks rest k boxes above bs m parts same own is = (λ i. record { boxes = same i; masses = own i } ∷ is i) ∙ ap (λ (xs : List PlainLevel). regridded_levels (levels_of xs) boxes) (sym parts)

pub sound_inside : (p : Problem) (s : State) → IsSound p s → AreInside p s.levels
sound_inside p s sound = record {
  at = λ l h. record {
    at = λ c there.
        let level = sound.nested.each l h in
        let inside = in_domain-inside p l c (level.inside c (sym (level.filled c) ∙ there)) in
        record { west = inside.west; south = inside.south; east = inside.east; north = inside.north };
  };
}

pub sound_boxes : (p : Problem) (s : State) → IsSound p s → All HasBoxes s.levels
sound_boxes p s sound = λ l d h.
    let known : l ≤ 4 = omega (arith, h, sound.few_levels, p.limits.greatest_max_level) in
    let level = sound.nested.each l h in
    let same : level_at s l ≡ slice_index_or s.levels l d = get_or_default s.levels l no_level d h in
    subst HasBoxes same (record { near = λ j b fits. (boxes_near p l (level_at s l) known level j b fits).near; at = level.filled })

-- ---- empty lists

pub nothing_near : (bs : List (Vec Extent)) → bs ≡ [] → All (All IsNear) (lists_in bs)
nothing_near bs e = subst (λ (xs : List (Vec Extent)). All (All IsNear) (lists_in xs)) (sym e) (λ k d h. absurd (omega (arith, h)))

-- ---- copies

entries_same : {K X : Type 0} (C : K → K → Type 0) (D : X → X → Type 0) → ((x y : K) → C x y → y ≡ x) → ((x y : X) → D x y → y ≡ x) → (xs ys : List (K × X)) → AllZip (λ p q. C p.0 q.0 × D p.1 q.1) xs ys → ys ≡ xs
entries_same C D f g [] [] h = refl
entries_same C D f g [] (y ∷ ys) h = absurd h
entries_same C D f g (x ∷ xs) [] h = absurd h
entries_same C D f g (x ∷ xs) (y ∷ ys) h = λ i. (f x.0 y.0 h.0.0 i, g x.1 y.1 h.0.1 i) ∷ entries_same C D f g xs ys h.1 i

pub clone_same : (C : Cell → Cell → Type 0) (D : ℕ → ℕ → Type 0) (m n : BTreeMap Cell ℕ) → IsClone C D m n → ((x y : Cell) → C x y → y ≡ x) → ((x y : ℕ) → D x y → y ≡ x) → masses_of n ≡ masses_of m
clone_same C D m n is f g = λ i q. lookup (is_at (cell_cmp q)) (entries_same C D f g m.entries n.entries is i)
