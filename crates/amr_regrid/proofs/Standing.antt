-- New boxes over a coarser level: apart, near, within the children of its cells; and the level that they make.
use Rattle.std.proofs.Common.{◌≡◌, ℕ, zero, suc, ◌+◌, ◌<◌, ◌≤◌, Bool, true, false, cond, IsSome, is_some, refl, sym, ap, subst, ◌∙◌, arith, List, [], ◌∷◌, length}
use Rattle.std.specs.declared.option.Option.{Option}
use Rattle.std.specs.declared.option.Option.TheVariants.{None, Some}
use Rattle.std.specs.Option.{unwrap_or}
use Rattle.std.specs.List.{All}
use Rattle.std.proofs.lemmas.Int.{ints}
use Rattle.std.proofs.lemmas.Bool.{or_left}
use Rattle.amr_box.specs.declared.Cell.{Cell}
use Rattle.amr_box.specs.Cells.{Extent, holds, in_boxes, parent}
use Rattle.amr_box.proofs.Children.{child_of_parent}
use Rattle.amr_def.specs.declared.problem.Problem.{Problem}
use Rattle.amr_def.specs.Domain.{domain, domain_box, in_domain}
use Rattle.amr_def.specs.Facts.{IsAligned, IsLevel}
use Rattle.amr_def.specs.NewBoxes.{first_boxes, new_boxes}
use Rattle.amr_def.specs.Regrid.{refilled, split_mass}
use Rattle.amr_def.specs.State.{Level, Masses, is_covered}
use Rattle.amr_def.proofs.LevelLists.{IsCellInside}
use Rattle.amr_def.proofs.Nesting.{covered_there}
use Rattle.amr_def.proofs.Sizes.{doubled_small}
use Rattle.amr_def.proofs.Uncovered.{domain_box_cells}
use Rattle.amr_laws.proofs.NewLevels.{AreNewBoxes}
use Rattle.amr_laws.proofs.Refill.{NewFacts, Surrounds, covered_by_boxes, new_facts, new_is_level, new_is_nested, new_level, next_surrounds}
use Rattle.amr_laws.proofs.SoundRegrid.{new_boxes_count}
use Rattle.amr_patch.specs.Patches.{ArePairwiseApart, AreNear, IsNearCell}
use Rattle.amr_regrid.specs.Remade.{HasMassesInBoxes, Stands}

-- ---- the boxes of the next level and those beyond it

rest : List (List Extent) → List (List Extent)
rest [] = []
rest (bs ∷ more) = more

count_more : (p : Problem) (tagged : ℕ → Cell → Bool) (n l : ℕ) (boxes more : List (List Extent)) (here : List Extent) → boxes ≡ new_boxes p tagged n l → boxes ≡ here ∷ more → (m : ℕ) × (more ≡ new_boxes p tagged m (suc l))
unfolding new_boxes rest
count_more p tagged zero l boxes more here is parts = absurd (let e : here ∷ more ≡ [] = sym parts ∙ is in cc)
count_more p tagged (suc n) l boxes more here is parts = (n, ap rest (sym parts ∙ is))

module _ (p : Problem) (l : ℕ) (k : Level) (boxes more : List (List Extent)) (here : List Extent) (stands : Stands p l k boxes) (parts : boxes ≡ here ∷ more) where
  facts : NewFacts p stands.tagged l (here ∷ more)
  facts = subst (λ (bs : List (List Extent)). NewFacts p stands.tagged l bs) (sym stands.boxes_are ∙ parts) (new_facts p stands.tagged stands.count l)

  good : AreNewBoxes p (suc l) here
  good = facts.0

  surrounds : Surrounds p l k here
  surrounds = subst (λ (bs : List (List Extent)). Surrounds p l k (first_boxes bs)) parts (record { at = stands.nested.around })

  pub apart : ArePairwiseApart here
  apart = good.disjoint

  known : suc l + length more ≤ 4
  known = let e : length boxes ≡ suc (length more) = ap length parts in omega (arith, stands.few, e)

  near_cell : (c : Cell) → IsCellInside p (suc l) c → IsNearCell c
  near_cell c i =
      let x = doubled_small p.nx (suc l) p.limits.greatest_nx (omega (arith, known)) in
      let y = doubled_small p.ny (suc l) p.limits.greatest_ny (omega (arith, known)) in
      record { west = omega (arith, ints, i.west); east = omega (arith, ints, i.east, x); south = omega (arith, ints, i.south); north = omega (arith, ints, i.north, y) }

  pub near : AreNear here
  near c h = near_cell c (good.inside c h)

  module _ (some : 0 < length here) (old : Masses) where
    fine : Level
    fine = new_level k.masses old here

    pub fine_level : IsLevel p (suc l) (new_level k.masses old here)
    fine_level = new_is_level p l k old here stands.level some good surrounds

    pub parents : (c : Cell) → in_boxes here c ≡ true → IsSome (k.masses (parent c))
    parents c h =
        let covered : is_covered (refilled k.masses old here) (parent c) ≡ true = ap (λ (f : Cell → Bool). f (parent c)) (covered_by_boxes k.masses old here) ∙ child_of_parent (in_boxes here) c h in
        covered_there p l k (new_level k.masses old here) stands.level fine_level (new_is_nested p l k old here stands.level some good surrounds) (parent c) covered

    none_aligned : All (IsAligned p.blocking) []
    none_aligned j d h = absurd (omega (arith, h))

    next_aligned : (bs : List (List Extent)) → NewFacts p stands.tagged (suc l) bs → All (IsAligned p.blocking) (first_boxes bs)
    next_aligned [] f = none_aligned
    next_aligned (b ∷ bs) f = f.0.aligned

    pub next : Stands p (suc l) (new_level k.masses old here) more
    next =
        let m = count_more p stands.tagged stands.count l boxes more here stands.boxes_are parts in
        record {
          tagged = stands.tagged;
          count = m.0;
          boxes_are = m.1;
          few = known;
          level = fine_level;
          nested = record { aligned = next_aligned more facts.2; around = (next_surrounds p stands.tagged l k.masses old here (first_boxes more) facts.1).at };
        }

-- ---- a level whose boxes stay

kept_one : (o : Option ℕ) (t : Bool) (v : ℕ) → is_some o ≡ t → o ≡ cond t (Some (unwrap_or o v)) None
kept_one (Some m) true v e = refl
kept_one (Some m) false v e = cc
kept_one None true v e = cc
kept_one None false v e = refl

pub kept_masses : (coarse : Masses) (k : Level) (here : List Extent) → HasMassesInBoxes k → k.boxes ≡ here → k.masses ≡ refilled coarse k.masses here
kept_masses coarse k here filled same =
    λ i c. kept_one (k.masses c) (in_boxes here c) (split_mass coarse c) (filled.at c ∙ ap (λ (bs : List Extent). in_boxes bs c) same) i

-- ---- over level 0

whole_covers : (p : Problem) (k : Level) → k.boxes ≡ domain_box (domain p 0) ∷ [] → (c : Cell) → in_domain (domain p 0) c ≡ true → in_boxes k.boxes c ≡ true
whole_covers p k base c inside =
    ap (λ (bs : List Extent). in_boxes bs c) base ∙ or_left (holds (domain_box (domain p 0)) c) false (domain_box_cells (domain p 0) c ∙ inside)

aligned_first : (p : Problem) (tagged : ℕ → Cell → Bool) (bs : List (List Extent)) → NewFacts p tagged 0 bs → All (IsAligned p.blocking) (first_boxes bs)
aligned_first p tagged [] f = λ j d h. absurd (omega (arith, h))
aligned_first p tagged (b ∷ bs) f = f.0.aligned

-- the new boxes of a regrid stand over the level that is the whole domain
pub base_stands : (p : Problem) (tagged : ℕ → Cell → Bool) (n : ℕ) (k : Level) (boxes : List (List Extent)) → n ≤ 4 → boxes ≡ new_boxes p tagged n 0 → IsLevel p 0 k → k.boxes ≡ domain_box (domain p 0) ∷ [] → Stands p 0 k boxes
base_stands p tagged n k boxes few is level base =
    let many : length boxes ≡ n = ap length is ∙ new_boxes_count p tagged n 0 in
    let facts : NewFacts p tagged 0 boxes = subst (NewFacts p tagged 0) (sym is) (new_facts p tagged n 0) in
    record {
      tagged = tagged;
      count = n;
      boxes_are = is;
      few = omega (arith, many, few);
      level = level;
      nested = record { aligned = aligned_first p tagged boxes facts; around = λ c inside near. whole_covers p k base c inside };
    }
