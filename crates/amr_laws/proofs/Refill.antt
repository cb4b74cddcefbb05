-- A level with new boxes: its cells, its nesting, and its masses, kept or shared out.
use Rattle.std.proofs.Common.{◌≡◌, ℕ, zero, suc, ◌+◌, ◌*◌, ◌<◌, Bool, true, false, cond, ℤ, pos, ◌+ℤ◌, IsSome, is_some, refl, sym, ap, subst, ◌∙◌, arith, List, [], ◌∷◌, length, add-one}
use Rattle.std.specs.declared.option.Option.{Option}
use Rattle.std.specs.declared.option.Option.TheVariants.{None, Some}
use Rattle.std.specs.Option.{unwrap_or}
use Rattle.std.proofs.lemmas.Int.{ints}
use Rattle.amr_box.specs.declared.Cell.{Cell}
use Rattle.amr_box.specs.Cells.{parent, Extent, in_boxes}
use Rattle.amr_box.proofs.Children.{child_of_parent}
use Rattle.amr_def.specs.declared.problem.Problem.{Problem}
use Rattle.amr_def.specs.Domain.{domain, in_domain, is_near}
use Rattle.amr_def.specs.State.{Masses, Level, is_covered, is_covered_by, mass_of, children_mass}
use Rattle.amr_def.specs.NewBoxes.{first_boxes, is_projected, is_wanted, new_boxes}
use Rattle.amr_def.specs.Tags.{is_grown}
use Rattle.amr_def.specs.Regrid.{child_share, odd, child_number, split_mass, refilled}
use Rattle.amr_def.specs.Facts.{IsLevel, IsNestedLevel}
use Rattle.amr_def.proofs.LevelLists.{IsCellInside, HasAllChildren, IsSyncedPair, child_0, child_1, child_2, child_3}
use Rattle.amr_def.proofs.Values.{same_cell}
use Rattle.amr_def.proofs.Children.{children_mass-is}
use Rattle.amr_def.proofs.Subcycle.{bool_cases}
use Rattle.amr_def.proofs.Uncovered.{in_domain-yes, half-double, half-double_next, no_children}
use Rattle.amr_def.proofs.Nesting.{in_domain-inside, children, covered_boxes, covered_there}
use Rattle.amr_def.proofs.Nests.{half_and_odd, shares_sum}
use Rattle.amr_laws.proofs.CellSets.{right}
use Rattle.amr_laws.proofs.NewLevels.{AreNewBoxes}
use Rattle.amr_laws.proofs.Coverage.{new_boxes-good, new_boxes-cover}

-- ---- the new boxes of all levels

-- each cell of the level whose parent is wanted is in a box
pub record Covers (p : Problem) (tagged : ℕ → Cell → Bool) (l : ℕ) (finer bs : List Extent) : Type 0 where
  pub at : (q : Cell) → IsCellInside p (suc l) q → is_wanted p tagged l finer (parent q) ≡ true → in_boxes bs q ≡ true

abbrev pub NewFacts : Problem → (ℕ → Cell → Bool) → ℕ → List (List Extent) → Type 0
NewFacts p tagged l [] = Unit {0}
NewFacts p tagged l (bs ∷ more) = AreNewBoxes p (suc l) bs × Covers p tagged l (first_boxes more) bs × NewFacts p tagged (suc l) more

pub new_facts : (p : Problem) (tagged : ℕ → Cell → Bool) (n l : ℕ) → NewFacts p tagged l (new_boxes p tagged n l)
unfolding new_boxes
new_facts p tagged zero l = tt
new_facts p tagged (suc n) l =
    let finer = first_boxes (new_boxes p tagged n (suc l)) in
    (new_boxes-good p tagged l finer, record { at = new_boxes-cover p tagged l finer }, new_facts p tagged n (suc l))

-- ---- one new level over a coarser one

-- a cell of the domain near the children's parents of these boxes is of the level
pub record Surrounds (p : Problem) (l : ℕ) (k : Level) (bs : List Extent) : Type 0 where
  pub at : (c : Cell) → in_domain (domain p l) c ≡ true → is_near (domain p l) 1 (is_covered_by bs) c ≡ true → in_boxes k.boxes c ≡ true

-- a cell of the level over old children has their mass
pub record SyncedWithin (m old : Masses) : Type 0 where
  pub at : (c : Cell) → IsSome (m c) → is_covered old c ≡ true → mass_of m c ≡ children_mass old c

abbrev pub new_level : Masses → Masses → List Extent → Level
new_level coarse old bs = record { boxes = bs; masses = refilled coarse old bs }

pub is_some-given : (t : Bool) (m : ℕ) → is_some (cond t (Some m) None) ≡ t
is_some-given true m = refl
is_some-given false m = refl

pub covered_by_boxes : (coarse old : Masses) (bs : List Extent) → is_covered (refilled coarse old bs) ≡ is_covered_by bs
unfolding is_covered
covered_by_boxes coarse old bs = covered_boxes (refilled coarse old bs) bs (λ k. is_some-given (in_boxes bs k) (unwrap_or (old k) (split_mass coarse k)))

kept_mass : (t : Bool) (o : Option ℕ) (v : ℕ) → t ≡ true → IsSome o → unwrap_or (cond t (Some (unwrap_or o v)) None) 0 ≡ unwrap_or o 0
kept_mass true (Some w) v e h = refl
kept_mass true None v e h = cc
kept_mass false o v e h = cc

given_mass : (t : Bool) (o : Option ℕ) (v : ℕ) → t ≡ true → o ≡ None → unwrap_or (cond t (Some (unwrap_or o v)) None) 0 ≡ v
given_mass true o v e h = rw h refl
given_mass false o v e h = cc

-- a cell of the boxes that was of the level keeps its mass
pub kept : (coarse old : Masses) (bs : List Extent) (q : Cell) → in_boxes bs q ≡ true → IsSome (old q) → mass_of (refilled coarse old bs) q ≡ mass_of old q
kept coarse old bs q held was = kept_mass (in_boxes bs q) (old q) (split_mass coarse q) held was

given : (coarse old : Masses) (bs : List Extent) (q : Cell) → in_boxes bs q ≡ true → old q ≡ None → mass_of (refilled coarse old bs) q ≡ split_mass coarse q
given coarse old bs q held none = given_mass (in_boxes bs q) (old q) (split_mass coarse q) held none

odd-double : (z : ℤ) → odd (z +ℤ z) ≡ 0
odd-double z = omega (arith, ints, half_and_odd (z +ℤ z), half-double z)

odd-double_next : (z : ℤ) → odd (z +ℤ z +ℤ pos 1) ≡ 1
odd-double_next z = omega (arith, ints, half_and_odd (z +ℤ z +ℤ pos 1), half-double_next z)

-- ---- the shares of the four children

module _ (coarse : Masses) (c : Cell) where
  shared : (q : Cell) (i j : ℕ) → parent q ≡ c → odd q.x ≡ i → odd q.y ≡ j → split_mass coarse q ≡ child_share (mass_of coarse c) (2 * j + i)
  shared q i j e ex ey = ap (λ (k : Cell). child_share (mass_of coarse k) (child_number q)) e ∙ ap (λ (t : ℕ). child_share (mass_of coarse c) (2 * t + odd q.x)) ey ∙ ap (λ (t : ℕ). child_share (mass_of coarse c) (2 * j + t)) ex

  share_0 : split_mass coarse (child_0 c) ≡ child_share (mass_of coarse c) 0
  share_0 = shared (child_0 c) 0 0 (same_cell (half-double c.x) (half-double c.y)) (odd-double c.x) (odd-double c.y)

  share_1 : split_mass coarse (child_1 c) ≡ child_share (mass_of coarse c) 1
  share_1 = shared (child_1 c) 1 0 (same_cell (half-double_next c.x) (half-double c.y)) (odd-double_next c.x) (odd-double c.y)

  share_2 : split_mass coarse (child_2 c) ≡ child_share (mass_of coarse c) 2
  share_2 = shared (child_2 c) 0 1 (same_cell (half-double c.x) (half-double_next c.y)) (odd-double c.x) (odd-double_next c.y)

  share_3 : split_mass coarse (child_3 c) ≡ child_share (mass_of coarse c) 3
  share_3 = shared (child_3 c) 1 1 (same_cell (half-double_next c.x) (half-double_next c.y)) (odd-double_next c.x) (odd-double_next c.y)

module _ (p : Problem) (l : ℕ) (k : Level) (old : Masses) (bs : List Extent) (klevel : IsLevel p l k) (some : 0 < length bs) (good : AreNewBoxes p (suc l) bs) (surrounds : Surrounds p l k bs) where
  abbrev fine : Level
  fine = new_level k.masses old bs

  pub new_is_level : IsLevel p (suc l) fine
  new_is_level = record {
    some = some;
    proper = good.proper;
    disjoint = good.disjoint;
    inside = λ c h. in_domain-yes p (suc l) c (good.inside c h);
    filled = λ c. is_some-given (in_boxes bs c) (unwrap_or (old c) (split_mass k.masses c));
  }

  pub new_is_nested : IsNestedLevel p l k fine
  new_is_nested = record { aligned = good.aligned; around = surrounds.at }

  module _ (old_children : HasAllChildren old) (synced : SyncedWithin k.masses old) where
    module _ (c : Cell) (covered : is_covered fine.masses c ≡ true) where
      all : HasAllChildren fine.masses
      all = children p l k fine klevel new_is_level new_is_nested

      boxed : (q : Cell) → IsSome (fine.masses q) → in_boxes bs q ≡ true
      boxed q h = sym (is_some-given (in_boxes bs q) (unwrap_or (old q) (split_mass k.masses q))) ∙ h

      m0 : in_boxes bs (child_0 c) ≡ true
      m0 = boxed (child_0 c) (all.k0 c covered)

      m1 : in_boxes bs (child_1 c) ≡ true
      m1 = boxed (child_1 c) (all.k1 c covered)

      m2 : in_boxes bs (child_2 c) ≡ true
      m2 = boxed (child_2 c) (all.k2 c covered)

      m3 : in_boxes bs (child_3 c) ≡ true
      m3 = boxed (child_3 c) (all.k3 c covered)

      there : IsSome (k.masses c)
      there = covered_there p l k fine klevel new_is_level new_is_nested c covered

      -- children that were there keep their masses
      were : is_covered old c ≡ true → mass_of k.masses c ≡ children_mass fine.masses c
      were h =
          let sum : mass_of k.masses c ≡ children_mass old c = synced.at c there h in
          let k0 = kept k.masses old bs (child_0 c) m0 (old_children.k0 c h) in
          let k1 = kept k.masses old bs (child_1 c) m1 (old_children.k1 c h) in
          let k2 = kept k.masses old bs (child_2 c) m2 (old_children.k2 c h) in
          let k3 = kept k.masses old bs (child_3 c) m3 (old_children.k3 c h) in
          sum ∙ children_mass-is c old ∙ sym (children_mass-is c fine.masses ∙ (λ i. k0 i + k1 i + k2 i + k3 i))

      -- others share their parent's mass
      were_not : is_covered old c ≡ false → mass_of k.masses c ≡ children_mass fine.masses c
      were_not h =
          let none = no_children old c h in
          let k0 = given k.masses old bs (child_0 c) m0 none.k0 ∙ share_0 k.masses c in
          let k1 = given k.masses old bs (child_1 c) m1 none.k1 ∙ share_1 k.masses c in
          let k2 = given k.masses old bs (child_2 c) m2 none.k2 ∙ share_2 k.masses c in
          let k3 = given k.masses old bs (child_3 c) m3 none.k3 ∙ share_3 k.masses c in
          sym (children_mass-is c fine.masses ∙ (λ i. k0 i + k1 i + k2 i + k3 i) ∙ shares_sum (mass_of k.masses c))

    pub new_is_synced : IsSyncedPair k.masses fine.masses
    new_is_synced = record { at = λ c covered. bool_cases (is_covered old c) (were c covered) (were_not c covered) }

-- the new level surrounds the boxes of the next one
pub next_surrounds : (p : Problem) (tagged : ℕ → Cell → Bool) (l : ℕ) (coarse old : Masses) (bs next : List Extent) → Covers p tagged l next bs → Surrounds p (suc l) (new_level coarse old bs) next
next_surrounds p tagged l coarse old bs next covers = record {
  at = λ c inside near.
      let near_here : is_near (domain p (l + 1)) 1 (is_covered_by next) c ≡ true = subst (λ (n : ℕ). is_near (domain p n) 1 (is_covered_by next) c ≡ true) (sym (add-one l)) near in
      covers.at c (in_domain-inside p (suc l) c inside)
      (right (is_grown p l (tagged l) (parent c)) (is_projected (domain p (l + 1)) next (parent c)) (child_of_parent (is_near (domain p (l + 1)) 1 (is_covered_by next)) c near_here));
}
