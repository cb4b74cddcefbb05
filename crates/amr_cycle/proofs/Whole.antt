-- A step of levels as calls make it: the coarsest, then twice the others, then the correction.
use Rattle.std.proofs.Common.{◌≡◌, ℕ, suc, ◌+◌, ◌^◌, ◌<◌, ℤ, pos, ◌+ℤ◌, neg_ℤ, Bool, List, ◌∷◌, map, refl, sym, ap, subst, ◌∙◌, arith}
use Rattle.std.specs.Prelude.{◌≤ℤ◌, ◌<ℤ◌, IfSome, IsSome}
use Rattle.std.specs.declared.option.Option.{Option}
use Rattle.std.specs.declared.option.Option.TheVariants.{Some}
use Rattle.std.specs.List.{All, Contains}
use Rattle.amr_box.specs.declared.Cell.{Cell}
use Rattle.amr_box.specs.Cells.{Extent, parent}
use Rattle.amr_def.specs.declared.problem.Problem.{Problem}
use Rattle.amr_def.specs.Domain.{domain}
use Rattle.amr_def.specs.State.{Level, Masses, children_mass, mass_of}
use Rattle.amr_def.specs.Flux.{Fluxes, flux_at, updated}
use Rattle.amr_def.specs.LevelStep.{step}
use Rattle.amr_def.specs.Ledger.{first_of}
use Rattle.amr_def.specs.Facts.{IsNestedIn, IsNestedLevel}
use Rattle.amr_laws.specs.Levels.{masses_of}
use Rattle.amr_laws.specs.Sides.{is_uncovered}
use Rattle.amr_laws.specs.Substeps.{after_step}
use Rattle.amr_patch.specs.declared.levels.Level.{Level as Held}
use Rattle.amr_patch.specs.Levels.{level_of, patches_of}
use Rattle.amr_ghost.specs.Frames.{old_masses}
use Rattle.amr_register.specs.declared.register.Register.{Register}
use Rattle.amr_register.specs.Entries.{with_entries}
use Rattle.amr_register.specs.Fields.{IsPlaced}
use Rattle.amr_register.specs.RegisterCells.{register_cells}
use Rattle.amr_transfer.specs.Sums.{AreCoarsenable, summed}
use Rattle.amr_flows.specs.Subcycle.{AreGathered, CoverAlike, children_part, edge_part, flows_of_step}
use Rattle.amr_advance.specs.Registers.{BothChange, HasCoarser, cells_of, gained}
use Rattle.amr_cycle.specs.Cycles.{IsCoarsePart, IsPartOfStep, SomeHasEntries, entries_of, patch_boxes}
use Rattle.amr_cycle.proofs.Coarsenable.{all_coarsenable}
use Rattle.amr_cycle.proofs.Cycling.{alike_between, coarse_level, coarse_nested, cycle_is, first_part, flows_are, last_is, lost_small, next_boxes, next_masses, next_part, won_small}
use Rattle.amr_cycle.proofs.Cycling as cycling
use Rattle.amr_cycle.proofs.Corrections.{fits_32, kept_at, of_level_at, parents_at, small_sums}
use Rattle.amr_cycle.proofs.Registers.{gathers, is_placed, listed_in, serves, won}

plus_one : (n : ℕ) → n + 1 ≡ suc n
plus_one n = omega arith

alike_itself : (m : Masses) → CoverAlike m m
alike_itself m = record { covered = refl; register = λ p l n. refl; children = λ p l e. refl; edges = λ p l n old. refl }

tail_boxes : (h g : Held) (hs gs : List Held) → patch_boxes (h ∷ hs) ≡ patch_boxes (g ∷ gs) → patch_boxes hs ≡ patch_boxes gs
tail_boxes h g hs gs e = cc

-- what holds of a problem, a number and a coarser level holds of the same ones
same_part : (p q : Problem) (l n : ℕ) (ks : List Level) (old over : Masses) → q ≡ p → n ≡ l → over ≡ old → IsPartOfStep p l ks old → IsPartOfStep q n ks over
same_part p q l n ks old over problem number masses h = rw (problem, number, masses) h

same_coarser : (p q : Problem) (l n : ℕ) (k : Level) (old over : Option Held) (r : Option Register) → q ≡ p → n ≡ l → over ≡ old → HasCoarser p l k old r → HasCoarser q n k over r
same_coarser p q l n k old over r problem number level h = rw (problem, number, level) h

-- ---- the stages of a step of levels

-- level k over finer ones, of which `next` is the first
pub record IsOver (p : Problem) (l : ℕ) (k : Level) (finer : List Held) (old : Masses) : Type 0 where
  pub part : IsPartOfStep p l (k ∷ map level_of finer) old
  pub next : Held
  pub rest : List Held
  pub is : finer ≡ next ∷ rest

-- after k's own step: the level of before it, the register below it, and what the finer steps are made with
pub record IsBegun {p : Problem} {l : ℕ} {k : Level} {finer : List Held} {old : Masses} (s : IsOver p l k finer old) : Type 0 where
  pub before : Held
  pub same : level_of before ≡ k
  pub register : Option Register
  pub has : SomeHasEntries p l k.masses (level_of s.next).masses (λ c. neg_ℤ (edge_part p l k old (level_of s.next).masses c)) register
  pub problem : Problem
  pub problem_is : problem ≡ p
  pub number : ℕ
  pub number_is : number ≡ l + 1
  pub over : Option Held
  pub over_is : over ≡ Some before

-- after a step of these finer levels
pub record IsMade {p : Problem} {l : ℕ} {k : Level} {finer : List Held} {old : Masses} {s : IsOver p l k finer old} (b : IsBegun s) (before : Held) (others : List Held) (register : Option Register) : Type 0 where
  pub next : Held
  pub rest : List Held
  pub after : Option Register
  pub levels : level_of next ∷ map level_of rest ≡ after_step b.problem b.number (level_of before ∷ map level_of others) (old_masses b.over)
  pub boxes : patch_boxes (next ∷ rest) ≡ patch_boxes (before ∷ others)
  pub change : BothChange (gained b.problem b.number (level_of before).masses (flux_at b.problem b.number (level_of before).masses (old_masses b.over))) register after

module _ {p : Problem} {l : ℕ} {k : Level} {finer : List Held} {old : Masses} (s : IsOver p l k finer old) where
  abbrev next : Held
  next = s.next

  abbrev rest : List Held
  rest = s.rest

  abbrev fine : Level
  fine = level_of next

  abbrev ks : List Level
  ks = map level_of rest

  pub part_of : IsPartOfStep p l (k ∷ fine ∷ ks) old
  part_of = subst (λ (hs : List Held). IsPartOfStep p l (k ∷ map level_of hs) old) s.is s.part

  coarse_part : IsCoarsePart p l k fine old
  coarse_part = record { finest = ks; part = part_of }

  abbrev flows_first : (ℕ → (Cell → Bool) → Fluxes → ℕ) → ℕ
  flows_first flows = flows_of_step flows p (suc l) (fine ∷ ks) k.masses

  abbrev flows_second : (ℕ → (Cell → Bool) → Fluxes → ℕ) → ℕ
  flows_second flows = flows_of_step flows p (suc l) (after_step p (suc l) (fine ∷ ks) k.masses) k.masses

  pub flows_split : (flows : ℕ → (Cell → Bool) → Fluxes → ℕ) → flows_of_step flows p l (k ∷ map level_of finer) old ≡ flows l (is_uncovered k.masses fine.masses) (flux_at p l k.masses old) + (flows_first flows + flows_second flows)
  flows_split flows = ap (λ (hs : List Held). flows_of_step flows p l (k ∷ map level_of hs) old) s.is ∙ flows_are p l k fine ks old part_of flows

  pub rest_coarsenable : All (λ h. AreCoarsenable (patches_of h)) finer → All (λ h. AreCoarsenable (patches_of h)) rest
  rest_coarsenable h = λ n d lt. subst (λ (hs : List Held). All (λ g. AreCoarsenable (patches_of g)) hs) s.is h (suc n) d (omega (arith, lt))

  abbrev entries_0 : Cell → ℤ
  entries_0 c = neg_ℤ (edge_part p l k old fine.masses c)

  abbrev entries_1 : Cell → ℤ
  entries_1 c = entries_0 c +ℤ children_part p l k fine.masses fine.masses c

  -- ---- before the first finer step

  module _ (b : IsBegun s) where
    abbrev q : Problem
    q = b.problem

    abbrev n : ℕ
    n = b.number

    abbrev over : Option Held
    over = b.over

    number : n ≡ suc l
    number = b.number_is ∙ plus_one l

    same_masses : old_masses over ≡ k.masses
    same_masses = ap old_masses b.over_is ∙ ap (λ (j : Level). j.masses) b.same

    pub part_1 : IsPartOfStep q n (fine ∷ ks) (old_masses over)
    part_1 = same_part p q (suc l) n (fine ∷ ks) k.masses (old_masses over) b.problem_is number same_masses (first_part p l k fine ks old part_of)

    pub coarser_1 : HasCoarser q n fine over b.register
    coarser_1 = same_coarser p q (suc l) n fine (Some b.before) over b.register b.problem_is number b.over_is (serves p l k fine fine b.before entries_0 b.register b.same (coarse_level p l k fine old coarse_part) (coarse_nested p l k fine old coarse_part) (alike_itself fine.masses) (lost_small p l k fine ks old part_of) b.has)

    pub flows_1 : (flows : Problem → ℕ → (Cell → Bool) → Fluxes → ℕ) → flows_of_step (flows q) q n (fine ∷ ks) (old_masses over) ≡ flows_first (flows p)
    flows_1 flows = λ i. flows_of_step (flows (b.problem_is i)) (b.problem_is i) (number i) (fine ∷ ks) (same_masses i)

    -- a register that changed by what a finer step gains
    changed : (m : Masses) (r s : Option Register) → BothChange (gained q n m (flux_at q n m (old_masses over))) r s → BothChange (gained p (suc l) m (flux_at p (suc l) m (old_masses over))) r s
    changed m r s h = subst (λ (d : ℕ). BothChange (gained p d m (flux_at p d m (old_masses over))) r s) number (subst (λ (o : Problem). BothChange (gained o n m (flux_at o n m (old_masses over))) r s) b.problem_is h)

    -- ---- after it

    module _ (once : IsMade b next rest b.register) where
      abbrev next1 : Held
      next1 = once.next

      abbrev rest1 : List Held
      rest1 = once.rest

      abbrev regs1 : Option Register
      regs1 = once.after

      is_after : level_of next1 ∷ map level_of rest1 ≡ after_step p (suc l) (fine ∷ ks) k.masses
      is_after = once.levels ∙ (λ i. after_step (b.problem_is i) (number i) (fine ∷ ks) (same_masses i))

      between_is : (level_of next1).masses ≡ cycling.between p l k fine ks old part_of
      between_is = next_masses p l k fine ks old part_of (level_of next1) (map level_of rest1) is_after

      alike : CoverAlike fine.masses (level_of next1).masses
      alike = subst (CoverAlike fine.masses) (sym between_is) (alike_between p l k fine ks old part_of)

      has1 : SomeHasEntries p l k.masses fine.masses entries_1 regs1
      has1 = won p l k fine fine.masses (old_masses over) entries_0 b.register regs1 same_masses (alike_itself fine.masses) b.has (changed fine.masses b.register regs1 once.change)

      nested1 : IsNestedLevel p l k (level_of next1)
      nested1 = subst (λ (bs : List Extent). IsNestedIn (domain p l) p.blocking bs k.boxes) (sym (next_boxes p l k fine ks old part_of (level_of next1) (map level_of rest1) is_after)) (coarse_nested p l k fine old coarse_part)

      pub part_2 : IsPartOfStep q n (level_of next1 ∷ map level_of rest1) (old_masses over)
      part_2 = same_part p q (suc l) n (level_of next1 ∷ map level_of rest1) k.masses (old_masses over) b.problem_is number same_masses (next_part p l k fine ks old part_of (level_of next1) (map level_of rest1) is_after)

      pub coarser_2 : HasCoarser q n (level_of next1) over regs1
      coarser_2 = same_coarser p q (suc l) n (level_of next1) (Some b.before) over regs1 b.problem_is number b.over_is (serves p l k fine (level_of next1) b.before entries_1 regs1 b.same (coarse_level p l k fine old coarse_part) nested1 alike (won_small p l k fine ks old part_of) has1)

      pub rest1_coarsenable : All (λ h. AreCoarsenable (patches_of h)) finer → All (λ h. AreCoarsenable (patches_of h)) rest1
      rest1_coarsenable h = all_coarsenable rest1 rest (tail_boxes next1 next rest1 rest once.boxes) (rest_coarsenable h)

      pub flows_2 : (flows : Problem → ℕ → (Cell → Bool) → Fluxes → ℕ) → flows_of_step (flows q) q n (level_of next1 ∷ map level_of rest1) (old_masses over) ≡ flows_second (flows p)
      flows_2 flows = λ i. flows_of_step (flows (b.problem_is i)) (b.problem_is i) (number i) (is_after i) (same_masses i)

      -- ---- after the second

      module _ (twice : IsMade b next1 rest1 regs1) where
        abbrev next2 : Held
        next2 = twice.next

        abbrev rest2 : List Held
        rest2 = twice.rest

        abbrev regs2 : Option Register
        regs2 = twice.after

        ends : level_of next2 ∷ map level_of rest2 ≡ after_step p (suc l) (level_of next1 ∷ map level_of rest1) k.masses
        ends = twice.levels ∙ (λ i. after_step (b.problem_is i) (number i) (level_of next1 ∷ map level_of rest1) (same_masses i))

        pub has2 : SomeHasEntries p l k.masses fine.masses (λ c. entries_1 c +ℤ children_part p l k fine.masses (cycling.between p l k fine ks old part_of) c) regs2
        has2 = subst (λ (m : Masses). SomeHasEntries p l k.masses fine.masses (λ c. entries_1 c +ℤ children_part p l k fine.masses m c) regs2) between_is
            (won p l k fine (level_of next1).masses (old_masses over) entries_1 regs1 regs2 same_masses alike has1 (changed (level_of next1).masses regs1 regs2 twice.change))

        pub placed_2 : IfSome regs2 IsPlaced
        placed_2 = is_placed p l k.masses fine.masses (λ c. entries_1 c +ℤ children_part p l k fine.masses (cycling.between p l k fine ks old part_of) c) regs2 has2

        pub gathered2 : AreGathered p l k old fine.masses (cycling.between p l k fine ks old part_of) (entries_of regs2)
        gathered2 = gathers p l k fine old (cycling.between p l k fine ks old part_of) regs2 has2

        pub next2_is : (level_of next2).masses ≡ first_of (step p (suc l) (masses_of (after_step p (suc l) (fine ∷ ks) k.masses)) k.masses).levels
        next2_is = last_is p l k fine ks old part_of (level_of next1) (map level_of rest1) is_after (level_of next2) (map level_of rest2) ends

        pub boxes_stay : patch_boxes (next2 ∷ rest2) ≡ patch_boxes finer
        boxes_stay = twice.boxes ∙ once.boxes ∙ ap patch_boxes (sym s.is)

        pub next2_coarsenable : All (λ h. AreCoarsenable (patches_of h)) finer → AreCoarsenable (patches_of next2)
        next2_coarsenable h = all_coarsenable (next2 ∷ rest2) finer boxes_stay h 0 next2 (omega arith)

        pub levels_are : (j : Level) → j.boxes ≡ k.boxes → j.masses ≡ summed (level_of next2).masses (with_entries (entries_of regs2) (updated k.masses (flux_at p l k.masses old)))
            → j ∷ level_of next2 ∷ map level_of rest2 ≡ after_step p l (k ∷ map level_of finer) old
        levels_are j bs ms =
            cycle_is p l k fine ks old part_of (level_of next1) (map level_of rest1) is_after (level_of next2) (map level_of rest2) ends (entries_of regs2) j gathered2 bs ms
            ∙ ap (λ (hs : List Held). after_step p l (k ∷ map level_of hs) old) (sym s.is)

        -- ---- what the correction asks

        module _ (m : Masses) (m_is : m ≡ updated k.masses (flux_at p l k.masses old)) where
          in_register : (q : Cell) → Contains (cells_of regs2) q → Contains (register_cells p l k.masses fine.masses) q
          in_register q listed = listed_in p l k.masses fine.masses (λ c. entries_1 c +ℤ children_part p l k fine.masses (cycling.between p l k fine ks old part_of) c) regs2 q has2 listed

          pub of_level_2 : (q : Cell) → Contains (cells_of regs2) q → IsSome (m q)
          of_level_2 q listed = subst (λ (n : Masses). IsSome (n q)) (sym m_is) (of_level_at p l k fine ks old part_of q (in_register q listed))

          pub kept_2 : (q : Cell) → Contains (cells_of regs2) q → pos 0 ≤ℤ (pos (mass_of m q) +ℤ entries_of regs2 q)
          kept_2 q listed = subst (λ (n : Masses). pos 0 ≤ℤ (pos (mass_of n q) +ℤ entries_of regs2 q)) (sym m_is) (kept_at p l k fine ks old part_of (entries_of regs2) gathered2 q (in_register q listed))

          pub fits_2 : (q : Cell) → Contains (cells_of regs2) q → (pos (mass_of m q) +ℤ entries_of regs2 q) <ℤ pos (2 ^ 32)
          fits_2 q listed = subst (λ (n : Masses). (pos (mass_of n q) +ℤ entries_of regs2 q) <ℤ pos (2 ^ 32)) (sym m_is) (fits_32 p l k fine ks old part_of (entries_of regs2) gathered2 q (in_register q listed))

          pub parents_2 : (q : Cell) → IsSome ((level_of next2).masses q) → IsSome (m (parent q))
          parents_2 q there = subst (λ (n : Masses). IsSome (n (parent q))) (sym m_is) (parents_at p l k fine ks old part_of (level_of next2).masses next2_is q there)

          pub small_2 : (q : Cell) → children_mass (level_of next2).masses q < 2 ^ 32
          small_2 q = small_sums p l k fine ks old part_of (level_of next2).masses next2_is (entries_of regs2) gathered2 q
