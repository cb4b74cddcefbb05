-- What messages carry: masses packed from a run of a level are those of the level's cells. Copies take them from patches by their boxes alone.
use Rattle.std.proofs.Common.{◌≡◌, ◌∙◌, ℕ, ◌+◌, ◌*◌, ◌<◌, List, [], ◌∷◌, length, drop, get_or, map, IsTrue, sym, ap, subst, arith}
use Rattle.std.specs.List.{All}
use Rattle.std.specs.declared.option.Option.TheVariants.{Some}
use Rattle.std.proofs.lemmas.List.Elements.{All-head, All-tail}
use Rattle.amr_box.specs.Cells.{Extent, holds}
use Rattle.amr_patch.specs.declared.patches.Patch.{Patch}
use Rattle.amr_patch.specs.Patches.{ArePatchesApart, box, mass_in, masses_in}
use Rattle.amr_patch.proofs.Lookups.{masses_in-at}
use Rattle.amr_patch.proofs.SameBoxes.{box_at, same_length}
use Rattle.amr_ghost.specs.Strips.{step}
use Rattle.amr_ghost.specs.Parts.{IsRun}
use Rattle.amr_ghost.specs.Messages.{AreMassesOf, ArePacked, IsTaken}
use Rattle.amr_ghost.specs.declared.parts.FrameCopy.{FrameCopy}

-- copies are taken from patches by their boxes alone
pub taken_of_boxes : (rs fs : List Patch) → map box rs ≡ map box fs → (c : FrameCopy) → IsTaken rs c → IsTaken fs c
taken_of_boxes rs fs same c h = record {
  there = subst (λ n. c.source < n) (same_length rs fs same) h.there;
  small = h.small;
  room = h.room;
  held = λ q k lt. subst (λ (b : Extent). IsTrue (holds b (step c.strip.axis c.from k))) (box_at rs fs c.source q same) (h.held q k lt);
}

-- a list that has a place has a patch
some_patch : (ps : List Patch) (k : ℕ) → k < length ps → Patch
some_patch [] k lt = absurd (omega (arith, lt))
some_patch (p ∷ ps) k lt = p

module _ (width u : ℕ) (qs us : List Patch) (apart : ArePatchesApart qs) (run : IsRun width u qs us) where
  -- the mass of a cell that a copy takes is that in its patch of the run
  taken_mass : (c : FrameCopy) (q : Patch) (k : ℕ) → IsTaken us c → k < c.strip.count → masses_in qs (step c.strip.axis c.from k) ≡ Some (mass_in (get_or us c.source q) (step c.strip.axis c.from k))
  taken_mass c q k taken lt =
      masses_in-at qs (step c.strip.axis c.from k) (u * width + c.source) q apart (record {
        inside = run.there c.source taken.there;
        holds_it = λ d. subst (λ (p : Patch). IsTrue (holds (box p) (step c.strip.axis c.from k))) (run.same c.source d taken.there) (taken.held d k lt);
      })
      ∙ ap (λ (p : Patch). Some (mass_in p (step c.strip.axis c.from k))) (sym (run.same c.source q taken.there))

  -- masses packed from a run of a level are those of its cells
  pub packed_carries : (cs : List FrameCopy) (ms : List ℕ) → All (IsTaken us) cs → ArePacked us cs ms → AreMassesOf (masses_in qs) cs ms
  packed_carries [] ms taken packed = tt
  packed_carries (c ∷ cs) ms taken packed =
      let first = All-head (IsTaken us) c cs taken in
      let q = some_patch us c.source first.there in (
        λ k lt. taken_mass c q k first lt ∙ ap Some (sym (packed.0 q k lt)),
        packed_carries cs (drop c.strip.count ms) (All-tail (IsTaken us) c cs taken) packed.1,
      )

  -- and masses of its cells are as if they were packed from it
  pub carries_packed : (cs : List FrameCopy) (ms : List ℕ) → All (IsTaken us) cs → AreMassesOf (masses_in qs) cs ms → ArePacked us cs ms
  carries_packed [] ms taken carried = tt
  carries_packed (c ∷ cs) ms taken carried =
      let first = All-head (IsTaken us) c cs taken in (
        λ q k lt. some_same (sym (carried.0 k lt) ∙ taken_mass c q k first lt),
        carries_packed cs (drop c.strip.count ms) (All-tail (IsTaken us) c cs taken) carried.1,
      )
    where
      some_same : {a b : ℕ} → Some a ≡ Some b → a ≡ b
      some_same e = cc
