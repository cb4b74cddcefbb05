-- Boxes that have all children of the parents of their cells: two of them meet where their parents do, so tags of parents tell.
use Rattle.std.proofs.Common.{◌≡◌, ℕ, zero, suc, ◌-◌, ◌*◌, ◌^◌, ◌<◌, Bool, true, false, ◌&&◌, ◌||◌, ℤ, pos, ◌+ℤ◌, ◌-ℤ◌, ◌≤ℤ◌, ◌<ℤ◌, List, [], ◌∷◌, ◌++◌, map, reverse, refl, sym, ap, ◌∙◌, arith, inl, inr, ◌⊎◌}
use Rattle.std.specs.Prelude.{is_some, IsNone, ◌↔◌}
use Rattle.std.specs.Int.{int_max, int_min}
use Rattle.std.specs.List.{All, list_any}
use Rattle.std.specs.declared.option.Option.{Option}
use Rattle.std.proofs.lemmas.Int.{ints, clamps}
use Rattle.std.proofs.lemmas.Bool.{and_from, and_parts, both_ways, or_cases, or_left, or_parts, or_right, true_from_ne_false}
use Rattle.std.proofs.lemmas.List.{map-append, reverse-append}
use Rattle.std.proofs.lemmas.List.Folds.{list_any-append}
use Rattle.amr_box.specs.declared.Cell.{Cell}
use Rattle.amr_box.specs.Cells.{Extent, common, half, holds, in_boxes, parents_of}
use Rattle.amr_def.specs.declared.problem.Problem.{Problem}
use Rattle.amr_def.specs.Domain.{domain, domain_box, in_domain}
use Rattle.amr_def.proofs.Courants.{twice_as_many}
use Rattle.amr_def.proofs.Nesting.{aligned_even, in_domain-inside}
use Rattle.amr_def.proofs.Nests.{even_is, odd_is}
use Rattle.amr_tags.proofs.Places.{in_holds, is_in}
use Rattle.amr_payload.specs.Tests.{is_box_of, meets}
use Rattle.amr_payload.proofs.GridLevels.{aligned_is, fine_box, is_proper_from, meeting_cell, meets_at, proper_is}
use Rattle.amr_decoder.specs.declared.grid.Grid.{Grid}
use Rattle.amr_decoder.specs.Apart.{IsOverParents, newest_first}
use Rattle.amr_decoder.specs.Grids.{boxes_of}
use Rattle.amr_box.proofs.Tests.{and_never, same_test}

-- ---- two boxes

-- along an axis: from an even number to an odd one, and the halves
over : (a b c d la ha lb hb : ℤ) → a +ℤ a ≡ la → b +ℤ b +ℤ pos 1 ≡ ha → c +ℤ c ≡ lb → d +ℤ d +ℤ pos 1 ≡ hb → int_max a c ≤ℤ int_min b d → int_max la lb ≤ℤ int_min ha hb
over a b c d la ha lb hb ea eb ec ed h = omega (arith, ints, clamps)

under : (a b c d la ha lb hb : ℤ) → a +ℤ a ≡ la → b +ℤ b +ℤ pos 1 ≡ ha → c +ℤ c ≡ lb → d +ℤ d +ℤ pos 1 ≡ hb → int_max la lb ≤ℤ int_min ha hb → int_max a c ≤ℤ int_min b d
under a b c d la ha lb hb ea eb ec ed h = omega (arith, ints, clamps)

module _ (below a b : Extent) (p : IsOverParents below a) (q : IsOverParents below b) where
  pub meet_over : meets (parents_of a) (parents_of b) ≡ true → meets a b ≡ true
  meet_over h =
      let k = proper_is (common (parents_of a) (parents_of b)) h in
      is_proper_from (common a b) (record {
        wide = over (half a.lo.x) (half a.hi.x) (half b.lo.x) (half b.hi.x) a.lo.x a.hi.x b.lo.x b.hi.x p.west p.east q.west q.east k.wide;
        high = over (half a.lo.y) (half a.hi.y) (half b.lo.y) (half b.hi.y) a.lo.y a.hi.y b.lo.y b.hi.y p.south p.north q.south q.north k.high;
      })

  pub parents_meet : meets a b ≡ true → meets (parents_of a) (parents_of b) ≡ true
  parents_meet h =
      let k = proper_is (common a b) h in
      is_proper_from (common (parents_of a) (parents_of b)) (record {
        wide = under (half a.lo.x) (half a.hi.x) (half b.lo.x) (half b.hi.x) a.lo.x a.hi.x b.lo.x b.hi.x p.west p.east q.west q.east k.wide;
        high = under (half a.lo.y) (half a.hi.y) (half b.lo.y) (half b.hi.y) a.lo.y a.hi.y b.lo.y b.hi.y p.south p.north q.south q.north k.high;
      })

-- ---- a box that passed the tests on itself

pub over_parents : (p : Problem) (l : ℕ) (b : Extent) → 0 < l → is_box_of p l [] b ≡ true → IsOverParents (domain_box (domain p (l - 1))) b
over_parents p zero b some h = absurd (omega arith)
over_parents p (suc l) b some h =
    let k = fine_box p l [] b h in
    let corners = and_parts (in_domain (domain p (suc l)) b.lo) (in_domain (domain p (suc l)) b.hi) k.lies in
    let low = in_domain-inside p (suc l) b.lo corners.0 in
    let high = in_domain-inside p (suc l) b.hi corners.1 in
    let even = aligned_even p.blocking b p.limits.blocking_factor (aligned_is p.blocking b k.aligned) in
    let w = even_is b.lo.x even.0 in
    let s = even_is b.lo.y even.1 in
    let e = odd_is b.hi.x even.2 in
    let n = odd_is b.hi.y even.3 in
    let below : suc l - 1 ≡ l = omega arith in
    record {
      west = sym w;
      south = sym s;
      east = sym e;
      north = sym n;
      inside = λ c held.
          let i = is_in (parents_of b) c held in
          ap (λ (m : ℕ). holds (domain_box (domain p m)) c) below
          ∙ in_holds (domain_box (domain p l)) c (from_zero b.lo.x c.x w low.west i.west) (to_end p.nx l b.hi.x c.x e high.east i.east) (from_zero b.lo.y c.y s low.south i.south) (to_end p.ny l b.hi.y c.y n high.north i.north);
    }
  where
    from_zero : (z x : ℤ) → z ≡ half z +ℤ half z → pos 0 ≤ℤ z → half z ≤ℤ x → pos 0 ≤ℤ x
    from_zero z x e low h = omega (arith, ints, e, low, h)

    to_end : (n l : ℕ) (z x : ℤ) → z ≡ half z +ℤ half z +ℤ pos 1 → z <ℤ pos (n * 2 ^ suc l) → x ≤ℤ half z → x ≤ℤ (pos (n * 2 ^ l) -ℤ pos 1)
    to_end n l z x e high h = omega (arith, ints, e, high, h, twice_as_many n l)

-- ---- one box and a list of others

module _ (below b : Extent) (q : IsOverParents below b) where
  none_common : (bs : List Extent) → All (IsOverParents below) bs → list_any (meets b) bs ≡ false → (c : Cell) → holds (parents_of b) c ≡ true → in_boxes (map parents_of bs) c ≡ true → ⊥
  none_common [] all h c here there = absurd (cc)
  none_common (a ∷ bs) all h c here there =
      choose (or_cases (holds (parents_of a) c) (in_boxes (map parents_of bs) c) there) (none_common bs (λ k d lt. all (suc k) d (omega arith)) (or_parts (meets b a) (list_any (meets b) bs) h).1 c here)
    where
      choose : (holds (parents_of a) c ≡ true) ⊎ (in_boxes (map parents_of bs) c ≡ true) → (in_boxes (map parents_of bs) c ≡ true → ⊥) → ⊥
      choose (inl k) later =
          both_ways (meets b a || list_any (meets b) bs) h
          (or_left (meets b a) (list_any (meets b) bs) (meet_over below b a q (all 0 a (omega arith)) (meets_at (parents_of b) (parents_of a) c here k)))
      choose (inr k) later = later k

  none_met : (bs : List Extent) → All (IsOverParents below) bs → ((c : Cell) → holds (parents_of b) c ≡ true → in_boxes (map parents_of bs) c ≡ true → ⊥) → list_any (meets b) bs ≡ false
  none_met [] all h = refl
  none_met (a ∷ bs) all h =
      both_none (meets b a) (list_any (meets b) bs) (none_met bs (λ k d lt. all (suc k) d (omega arith)) (λ c here there. h c here (or_right (holds (parents_of a) c) (in_boxes (map parents_of bs) c) there)))
      (λ m. let k = meeting_cell (parents_of b) (parents_of a) (parents_meet below b a q (all 0 a (omega arith)) m) in
      let c = (common (parents_of b) (parents_of a)).lo in
      h c k.0 (or_left (holds (parents_of a) c) (in_boxes (map parents_of bs) c) k.1))
    where
      both_none : (s t : Bool) → t ≡ false → (s ≡ true → ⊥) → (s || t) ≡ false
      both_none true t e n = absurd (n refl)
      both_none false t e n = e

  -- what a look at the tags tells
  pub met_by_tags : {A : Type 0} (found : Option A) (bs : List Extent) (tags : Cell → Bool) → All (IsOverParents below) bs → ((c : Cell) → tags c ≡ (holds below c && in_boxes (map parents_of bs) c))
      → (IsNone found ↔ ((c : Cell) → (holds (parents_of b) c && tags c) ≡ false)) → is_some found ≡ list_any (meets b) bs
  met_by_tags found bs tags all are none =
      same_test (is_some found) (list_any (meets b) bs)
      (λ h. true_from_ne_false (list_any (meets b) bs) (λ e. both_ways (is_some found) (none.1 (no_tag e)) h))
      (λ h. true_from_ne_false (is_some found) (λ e. both_ways (list_any (meets b) bs) (none_met bs all (no_cell (none.0 e))) h))
    where
      no_tag : list_any (meets b) bs ≡ false → (c : Cell) → (holds (parents_of b) c && tags c) ≡ false
      no_tag e c = and_never (holds (parents_of b) c) (tags c) (λ here tagged. none_common bs all e c here (and_parts (holds below c) (in_boxes (map parents_of bs) c) (sym (are c) ∙ tagged)).1)

      no_cell : ((c : Cell) → (holds (parents_of b) c && tags c) ≡ false) → (c : Cell) → holds (parents_of b) c ≡ true → in_boxes (map parents_of bs) c ≡ true → ⊥
      no_cell e c here there =
          both_ways (holds (parents_of b) c && tags c) (e c) (and_from (holds (parents_of b) c) (tags c) here (are c ∙ and_from (holds below c) (in_boxes (map parents_of bs) c) (q.inside c here) there))

-- ---- one box more

pub newest : (gs hs : List Grid) (g : Grid) → hs ≡ gs ++ g ∷ [] → newest_first hs ≡ g.bx ∷ newest_first gs
newest gs hs g e =
    ap (λ (gs : List Grid). newest_first gs) e
    ∙ ap (λ (bs : List Extent). reverse bs) (map-append (λ (g : Grid). g.bx) gs (g ∷ []))
    ∙ reverse-append (boxes_of gs) (g.bx ∷ [])

pub parents_more : (t old held : Bool) (bs : List Extent) (b : Extent) (c : Cell) → t ≡ (old || (held && holds (parents_of b) c)) → old ≡ (held && in_boxes (map parents_of bs) c) → t ≡ (held && in_boxes (map parents_of (bs ++ b ∷ [])) c)
parents_more t old held bs b c now before =
    now
    ∙ ap (λ (s : Bool). s || (held && holds (parents_of b) c)) before
    ∙ joined held (in_boxes (map parents_of bs) c) (holds (parents_of b) c)
    ∙ ap (λ (s : Bool). held && s) (sym last)
  where
    joined : (d l r : Bool) → ((d && l) || (d && r)) ≡ (d && (l || (r || false)))
    joined true l true = refl
    joined true l false = refl
    joined false l r = refl

    last : in_boxes (map parents_of (bs ++ b ∷ [])) c ≡ (in_boxes (map parents_of bs) c || (holds (parents_of b) c || false))
    last = ap (λ (es : List Extent). in_boxes es c) (map-append parents_of bs (b ∷ [])) ∙ list_any-append (λ (e : Extent). holds e c) (map parents_of bs) (parents_of b ∷ [])
