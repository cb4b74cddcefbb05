-- All new levels of a regrid: nested, synced and bounded as the old ones.
use Rattle.std.proofs.Common.{◌≡◌, ℕ, zero, suc, ◌+◌, ◌*◌, ◌/◌, ◌%◌, ◌^◌, ◌<◌, ◌≤◌, Bool, true, false, cond, IsSome, refl, sym, subst, ◌∙◌, arith, List, [], ◌∷◌, length}
use Rattle.std.specs.declared.option.Option.{Option}
use Rattle.std.specs.declared.option.Option.TheVariants.{None, Some}
use Rattle.std.specs.Option.{unwrap_or}
use Rattle.std.specs.Prelude.{nat_lt}
use Rattle.std.proofs.lemmas.Bool.Decides.{nat_tests}
use Rattle.std.proofs.Math.Nat.{mul-le-mul_left, le_of_mul-le-mul_left}
use Rattle.amr_box.specs.declared.Cell.{Cell}
use Rattle.amr_box.specs.Cells.{Extent, in_boxes, parent}
use Rattle.amr_def.specs.declared.problem.Problem.{Problem}
use Rattle.amr_def.specs.State.{Masses, Level, no_masses, is_covered, mass_of}
use Rattle.amr_def.specs.NewBoxes.{first_boxes}
use Rattle.amr_def.specs.Regrid.{child_share, child_number, split_mass, refilled, first_masses, rest_of, refill}
use Rattle.amr_def.specs.Facts.{IsLevel}
use Rattle.amr_def.proofs.LevelLists.{HasAllChildren}
use Rattle.amr_def.proofs.Children.{covered_by}
use Rattle.amr_def.proofs.Nesting.{children, covered_there}
use Rattle.amr_def.proofs.Greatest.{AllUpTo, MassesUpTo}
use Rattle.amr_def.proofs.Chain.{Chain, chain_first, nth}
use Rattle.amr_def.proofs.Stepping.{masses_in, nothing_up}
use Rattle.amr_laws.proofs.Sizes.{weight_some}
use Rattle.amr_laws.proofs.Refill.{NewFacts, Surrounds, SyncedWithin, new_level, is_some-given, kept, new_is_level, new_is_nested, new_is_synced, next_surrounds}

-- ---- the old levels above a level

none_covered : (c : Cell) → is_covered no_masses c ≡ true → ⊥
none_covered c h = let e : false ≡ true = sym (covered_by c no_masses) ∙ h in cc

pub no_children_at_all : HasAllChildren no_masses
no_children_at_all = record {
  k0 = λ c h. absurd (none_covered c h);
  k1 = λ c h. absurd (none_covered c h);
  k2 = λ c h. absurd (none_covered c h);
  k3 = λ c h. absurd (none_covered c h);
}

-- the old levels from l + 1 on
pub record OldFacts (p : Problem) (l : ℕ) (olds : List Level) : Type 0 where
  pub children : HasAllChildren (first_masses olds)
  pub links : Chain p (suc l) olds

pub later_facts : (p : Problem) (l : ℕ) (olds : List Level) → OldFacts p l olds → OldFacts p (suc l) (rest_of olds)
later_facts p l [] o = record { children = no_children_at_all; links = tt }
later_facts p l (a ∷ []) o = record { children = no_children_at_all; links = tt }
later_facts p l (a ∷ b ∷ more) o = record {
  children = children p (suc l) a b o.links.0 (chain_first p (suc (suc l)) b more o.links.3) o.links.1;
  links = o.links.3;
}

pub nothing_synced : (m : Masses) → SyncedWithin m no_masses
nothing_synced m = record { at = λ c there h. absurd (none_covered c h) }

pub later_synced : (p : Problem) (l : ℕ) (coarse : Masses) (olds : List Level) (bs : List Extent) → OldFacts p l olds → SyncedWithin (refilled coarse (first_masses olds) bs) (first_masses (rest_of olds))
later_synced p l coarse [] bs o = nothing_synced _
later_synced p l coarse (a ∷ []) bs o = nothing_synced _
later_synced p l coarse (a ∷ b ∷ more) bs o = record {
  at = λ c there covered.
      let was : IsSome (a.masses c) = covered_there p (suc l) a b o.links.0 (chain_first p (suc (suc l)) b more o.links.3) o.links.1 c covered in
      let held : in_boxes bs c ≡ true = sym (is_some-given (in_boxes bs c) (unwrap_or (a.masses c) (split_mass coarse c))) ∙ there in
      kept coarse a.masses bs c held was ∙ o.links.2.at c covered;
}

-- ---- nested and synced

pub refill_chain : (p : Problem) (tagged : ℕ → Cell → Bool) (l : ℕ) (k : Level) (olds : List Level) (boxes : List (List Extent)) → IsLevel p l k → Surrounds p l k (first_boxes boxes) → SyncedWithin k.masses (first_masses olds) → OldFacts p l olds → NewFacts p tagged l boxes → Chain p l (k ∷ refill k.masses olds boxes)
unfolding refill
refill_chain p tagged l k olds [] level surrounds synced o new = level
refill_chain p tagged l k olds ([] ∷ more) level surrounds synced o new = level
refill_chain p tagged l k olds ((b ∷ bs) ∷ more) level surrounds synced o new =
    let fine = new_level k.masses (first_masses olds) (b ∷ bs) in
    let fine_level = new_is_level p l k (first_masses olds) (b ∷ bs) level (omega arith) new.0 surrounds in (
      level,
      new_is_nested p l k (first_masses olds) (b ∷ bs) level (omega arith) new.0 surrounds,
      new_is_synced p l k (first_masses olds) (b ∷ bs) level (omega arith) new.0 surrounds o.children synced,
      refill_chain p tagged (suc l) fine (rest_of olds) more fine_level
          (next_surrounds p tagged l k.masses (first_masses olds) (b ∷ bs) (first_boxes more) new.1)
          (later_synced p l k.masses olds (b ∷ bs) o) (later_facts p l olds o) new.2,
    )

pub refill_count : (coarse : Masses) (olds : List Level) (boxes : List (List Extent)) → length (refill coarse olds boxes) ≤ length boxes
unfolding refill
refill_count coarse olds [] = omega arith
refill_count coarse olds ([] ∷ more) = omega arith
refill_count coarse olds ((b ∷ bs) ∷ more) = omega (arith, refill_count (refilled coarse (first_masses olds) (b ∷ bs)) (rest_of olds) more)

-- ---- bounded

share_at_most : (m k q : ℕ) → m ≤ 4 * q → child_share m k ≤ q
share_at_most m k q h = by_test (nat_lt k (m % 4)) refl
  where
    rest_some : (k r : ℕ) → nat_lt k r ≡ true → 0 < r
    rest_some k r e = grind (arith, nat_tests)

    by_test : (t : Bool) → nat_lt k (m % 4) ≡ t → m / 4 + cond t 1 0 ≤ q
    by_test true e = let some : 0 < m % 4 = rest_some k (m % 4) e in omega arith
    by_test false e = omega arith

-- a bound that is a multiple of the weight of a cell of the next level
pub record IsScaled (b : ℕ) : Type 0 where
  pub at : (l : ℕ) → l < 4 → (q : ℕ) × (b ≡ 4 ^ l * (4 * q)) × (b ≡ 4 ^ suc l * q)

given_at_most : (w b : ℕ) (t : Bool) (o : Option ℕ) (v : ℕ) → w * unwrap_or o 0 ≤ b → w * v ≤ b → w * unwrap_or (cond t (Some (unwrap_or o v)) None) 0 ≤ b
given_at_most w b true (Some m) v h k = h
given_at_most w b true None v h k = k
given_at_most w b false o v h k = nothing_up w b

less_weight : (w m q : ℕ) → 0 < w → w * m ≤ w * q → m ≤ q
less_weight w m q some h = le_of_mul-le-mul_left h some

refilled_up : (l : ℕ) (coarse old : Masses) (bs : List Extent) (b : ℕ) → l < 4 → IsScaled b → MassesUpTo l coarse b → ((c : Cell) → 4 ^ suc l * mass_of old c ≤ b) → MassesUpTo (suc l) (refilled coarse old bs) b
refilled_up l coarse old bs b few scaled up olds = record {
  at = λ c.
      let s = scaled.at l few in
      let q = s.0 in
      let m = mass_of coarse (parent c) in
      let below : 4 ^ l * m ≤ 4 ^ l * (4 * q) = subst (λ t. 4 ^ l * m ≤ t) s.1 (up.at (parent c)) in
      let small : m ≤ 4 * q = less_weight (4 ^ l) m (4 * q) (weight_some l) below in
      let part : split_mass coarse c ≤ q = share_at_most m (child_number c) q small in
      let weighed : 4 ^ suc l * split_mass coarse c ≤ 4 ^ suc l * q = mul-le-mul_left (4 ^ suc l) part in
      let given : 4 ^ suc l * split_mass coarse c ≤ b = subst (λ t. 4 ^ suc l * split_mass coarse c ≤ t) (sym s.2) weighed in
      given_at_most (4 ^ suc l) b (in_boxes bs c) (old c) (split_mass coarse c) (olds c) given;
}

first_up : (l : ℕ) (olds : List Level) (b : ℕ) → AllUpTo l (masses_in olds) b → (c : Cell) → 4 ^ l * mass_of (first_masses olds) c ≤ b
first_up l [] b u c = nothing_up (4 ^ l) b
first_up l (k ∷ ks) b u c = u.0.at c

rest_up : (l : ℕ) (olds : List Level) (b : ℕ) → AllUpTo l (masses_in olds) b → AllUpTo (suc l) (masses_in (rest_of olds)) b
rest_up l [] b u = tt
rest_up l (k ∷ ks) b u = u.1

pub refill_up : (l : ℕ) (coarse : Masses) (olds : List Level) (boxes : List (List Extent)) (b : ℕ) → l + length boxes ≤ 4 → IsScaled b → MassesUpTo l coarse b → AllUpTo (suc l) (masses_in olds) b → AllUpTo (suc l) (masses_in (refill coarse olds boxes)) b
unfolding refill
refill_up l coarse olds [] b few scaled up ups = tt
refill_up l coarse olds ([] ∷ more) b few scaled up ups = tt
refill_up l coarse olds ((bx ∷ bs) ∷ more) b few scaled up ups =
    let here = refilled_up l coarse (first_masses olds) (bx ∷ bs) b (omega arith) scaled up (first_up (suc l) olds b ups) in
    (here, refill_up (suc l) (refilled coarse (first_masses olds) (bx ∷ bs)) (rest_of olds) more b (omega arith) scaled here (rest_up (suc l) olds b ups))

-- the bound by the number of a level
pub up_to_each : (l : ℕ) (ks : List Level) (b : ℕ) → AllUpTo l (masses_in ks) b → (j : ℕ) (c : Cell) → 4 ^ (l + j) * mass_of (nth ks j).masses c ≤ b
up_to_each l [] b u j c = nothing_up (4 ^ (l + j)) b
up_to_each l (k ∷ ks) b u zero c = let e : l ≡ l + 0 = omega arith in subst (λ i. 4 ^ i * mass_of k.masses c ≤ b) e (u.0.at c)
up_to_each l (k ∷ ks) b u (suc j) c = let e : suc l + j ≡ l + suc j = omega arith in subst (λ i. 4 ^ i * mass_of (nth ks j).masses c ≤ b) e (up_to_each (suc l) ks b u.1 j c)
