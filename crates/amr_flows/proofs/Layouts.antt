-- The layout of a level, by counts.
use Rattle.std.proofs.Common.{◌≡◌, ◌∙◌, ℕ, zero, suc, ◌+◌, ◌-◌, ◌<◌, ◌==◌, Bool, true, false, cond, List, [], ◌∷◌, length, map, refl, ap, subst, pos, eq-eqb, arith}
use Rattle.std.specs.Prelude.{slice_index_or}
use Rattle.std.specs.List.{All, filter}
use Rattle.std.proofs.lemmas.Bool.{ne_eqb}
use Rattle.std.proofs.lemmas.List.{get_or-map, length-map}
use Rattle.amr_box.specs.declared.Cell.{Cell}
use Rattle.amr_box.specs.declared.Face.{Face}
use Rattle.amr_box.specs.Cells.{Extent, holds}
use Rattle.amr_def.specs.Domain.{Domain, home_cell}
use Rattle.amr_box.specs.declared.Axis.TheVariants.{X}
use Rattle.amr_def.specs.Flux.{face, high_cell}
use Rattle.amr_patch.specs.declared.patches.Patch.{Patch}
use Rattle.amr_patch.specs.Patches.{ArePatchesApart, box, in_patches}
use Rattle.amr_phase.specs.Plans.{total}
use Rattle.amr_layout.specs.declared.PutAt.{PutAt}
use Rattle.amr_layout.specs.Places.{borders_of, holder_of, home_face, level_borders, placed, puts_among, puts_of}
use Rattle.amr_layout.specs.Surroundings.{Around, domain_around}
use Rattle.amr_flows.specs.Layouts.{IsBetweenGroups, IsExact, IsOwnPut, puts_at}
use Rattle.amr_layout.proofs.Totals.{total_each}
use Rattle.amr_flows.proofs.LedgerFlowsSums.{one_holder}
use Rattle.amr_layout.proofs.Planned.{all_parts, own_puts as placed_own}
use Rattle.amr_flows.proofs.PutPlaces.{leads, leads_away, leads_is}
use Rattle.amr_flows.proofs.WordSums.{each_once}

any_face : Face
any_face = face X (pos 0) (pos 0)

-- ---- each place is put once

at_place : ℕ → PutAt → ℕ
at_place n u = cond (u.place == n) 1 0

module _ (test : Face → Bool) where
  own : List PutAt → List PutAt
  own us = filter (λ (u : PutAt). test u.face) us

  count_cons : (n : ℕ) (u : PutAt) (us : List PutAt) → total (at_place n) (own (u ∷ us)) ≡ cond (test u.face) (at_place n u) 0 + total (at_place n) (own us)
  unfolding own
  count_cons n u us = from (test u.face)
    where
      from : (t : Bool) → total (at_place n) (cond t (u ∷ filter (λ (v : PutAt). test v.face) us) (filter (λ (v : PutAt). test v.face) us)) ≡ cond t (at_place n u) 0 + total (at_place n) (filter (λ (v : PutAt). test v.face) us)
      from true = refl
      from false = omega arith

  away : (m n : ℕ) (f : Face) → (m == n) ≡ false → cond {A = ℕ} (test f) (at_place n (record { place = m; face = f })) 0 ≡ 0
  unfolding at_place
  away m n f e = from (test f)
    where
      from : (t : Bool) → cond {A = ℕ} t (cond (m == n) 1 0) 0 ≡ 0
      from true = ap (λ (b : Bool). cond {A = ℕ} b 1 0) e
      from false = refl

  here : (m n : ℕ) (f : Face) → (m == n) ≡ true → cond {A = ℕ} (test f) (at_place n (record { place = m; face = f })) 0 ≡ cond (test f) 1 0
  unfolding at_place
  here m n f e = ap (λ (b : Bool). cond {A = ℕ} (test f) (cond b 1 0) 0) e

  none_before : (m n : ℕ) (fs : List Face) → n < m → total (at_place n) (own (placed m fs)) ≡ 0
  unfolding own
  none_before m n [] lt = refl
  none_before m n (f ∷ fs) lt =
      let first = count_cons n (record { place = m; face = f }) (placed (suc m) fs) in
      let gone = away m n f (ne_eqb m n (λ e. absurd (omega arith))) in
      let rest = none_before (suc m) n fs (omega arith) in
      omega (arith, first, gone, rest)

  put_here : (m k : ℕ) (fs : List Face) (f : Face) → k < length fs → total (at_place (m + k)) (own (placed m fs)) ≡ cond (test (slice_index_or fs k f)) 1 0
  put_here m k [] f lt = absurd (omega arith)
  put_here m zero (g ∷ fs) f lt =
      let first = count_cons (m + 0) (record { place = m; face = g }) (placed (suc m) fs) in
      let this = here m (m + 0) g (eq-eqb m (m + 0) (omega arith)) in
      let rest = none_before (suc m) (m + 0) fs (omega arith) in
      omega (arith, first, this, rest)
  put_here m (suc k) (g ∷ fs) f lt =
      let first = count_cons (m + suc k) (record { place = m; face = g }) (placed (suc m) fs) in
      let gone = away m (m + suc k) g (ne_eqb m (m + suc k) (λ e. absurd (omega arith))) in
      let shift : suc m + k ≡ m + suc k = omega arith in
      let rest : total (at_place (m + suc k)) (own (placed (suc m) fs)) ≡ cond (test (slice_index_or fs k f)) 1 0 = subst (λ (n : ℕ). total (at_place n) (own (placed (suc m) fs)) ≡ cond (test (slice_index_or fs k f)) 1 0) shift (put_here (suc m) k fs f (omega arith)) in
      omega (arith, first, gone, rest)

-- ---- of a level

module _ (s : Around) (each : ℕ) where
  abbrev d : Domain
  d = domain_around s

  abbrev ps : List Patch
  ps = s.patches

  abbrev fs : List Face
  fs = level_borders (domain_around s) s.patches each s.patches

  abbrev homes : List Face
  homes = map (home_face (domain_around s)) (level_borders (domain_around s) s.patches each s.patches)

  abbrev cell_of : ℕ → Face → Cell
  cell_of n f = high_cell (slice_index_or homes n f)

  of_patch : (n : ℕ) (f : Face) → n < length homes → (q : Patch) → total (at_place n) (puts_of d ps each (box q)) ≡ cond (holds (box q) (cell_of n f)) 1 0
  unfolding puts_of own
  of_patch n f lt q =
      let from_zero : 0 + n ≡ n = omega arith in
      let test : Face → Bool = λ g. holds (box q) (high_cell g) in
      subst (λ (k : ℕ). total (at_place k) (own test (placed 0 homes)) ≡ cond (test (slice_index_or homes n f)) 1 0) from_zero (put_here test 0 n homes f lt)

  borders_lead : All (λ f. in_patches s.patches (home_cell (domain_around s) (high_cell f)) ≡ true) (level_borders (domain_around s) s.patches each s.patches)
  unfolding level_borders
  borders_lead =
      all_parts (λ (q : Patch). borders_of d ps each (box q)) (λ f. in_patches ps (home_cell d (high_cell f)) ≡ true) ps
      (λ k q lt j f below. let b = box (slice_index_or ps k q) in leads_is d ps each (holder_of ps b.lo) (slice_index_or (borders_of d ps each b) j f) (leads d ps each b j f below))

  held : (n : ℕ) (f : Face) → n < length fs → in_patches ps (cell_of n (home_face d f)) ≡ true
  held n f lt = ap (λ (g : Face). in_patches ps (high_cell g)) (get_or-map (home_face d) fs n f (home_face d f) lt) ∙ borders_lead n f lt

  once : ArePatchesApart s.patches → (n : ℕ) (f : Face) → n < length fs → puts_at s each n ≡ 1
  unfolding at_place
  once apart n f lt =
      let below : n < length homes = omega (arith, lt, length-map fs (home_face d)) in
      let c = cell_of n (home_face d f) in
      total_each (λ (q : Patch). total (at_place n) (puts_of d ps each (box q))) (λ (q : Patch). cond (holds (box q) c) 1 0) ps (λ k q under. of_patch n (home_face d f) below (slice_index_or ps k q))
      ∙ one_holder ps apart c 1
      ∙ ap (λ (t : Bool). cond t 1 0) (held n f lt)

  -- each put of a patch is its own
  own_puts : (q : Patch) → All (IsOwnPut s each q) (puts_of (domain_around s) s.patches each (box q))
  unfolding puts_of
  own_puts q = λ k u lt.
      let x = slice_index_or (puts_among d (box q) fs) k u in
      let is = placed_own (λ (v : PutAt). holds (box q) (high_cell v.face)) 0 homes any_face k u lt in
      let there : x.place < length fs = omega (arith, is.within, length-map fs (home_face d)) in
      let at : x.place - 0 ≡ x.place = omega arith in
      record {
        owner = is.is_own;
        there = there;
        of_border = λ f. is.of_face ∙ ap (λ n. slice_index_or homes n any_face) at ∙ get_or-map (home_face d) fs x.place f any_face there;
      }

  -- border faces lie between groups
  between : (b : Extent) → All (IsBetweenGroups s each b) (borders_of (domain_around s) s.patches each b)
  between b = λ k f lt.
      let g = slice_index_or (borders_of d ps each b) k f in
      let lead = leads d ps each b k f lt in
      record { of_level = leads_is d ps each (holder_of ps b.lo) g lead; of_other = leads_away d ps each (holder_of ps b.lo) g lead }

pub layouts_are_exact : (s : Around) (each : ℕ) → ArePatchesApart s.patches → IsExact s each
layouts_are_exact s each apart = record {
  between = between s each;
  put_once = λ n lt. once s each apart n any_face lt;
  put_by_owner = own_puts s each;
  added_once = λ q flow word. each_once s (box q) flow word;
}
