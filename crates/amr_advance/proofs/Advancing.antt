-- What a step of a level's patches gives to the level and to what the step adds to.
use Rattle.std.proofs.Common.{◌≡◌, ℕ, zero, suc, ◌+◌, ◌*◌, ◌^◌, ◌<◌, pos, ◌+ℤ◌, ◌-ℤ◌, List, length, sym, ap, subst, ◌∙◌, arith}
use Rattle.std.specs.Prelude.{is_some, slice_index, slice_index_or, unsigned_abs}
use Rattle.std.specs.declared.option.Option.{Option}
use Rattle.std.specs.declared.option.Option.TheVariants.{None, Some}
use Rattle.amr_box.specs.declared.Cell.{Cell}
use Rattle.amr_box.specs.declared.Face.{Face}
use Rattle.amr_def.specs.declared.problem.Problem.{Problem}
use Rattle.amr_def.specs.State.{Level, Masses}
use Rattle.amr_def.specs.Flux.{flux_at, net}
use Rattle.amr_def.specs.Facts.{IsLevel}
use Rattle.amr_laws.specs.Sides.{inflow_beside, is_uncovered, outflow_beside}
use Rattle.amr_patch.proofs.Lookups.{some_mass}
use Rattle.amr_patch.specs.declared.levels.Level.{Level as Held}
use Rattle.amr_patch.specs.declared.patches.Patch.{Patch}
use Rattle.amr_patch.specs.Levels.{level_of}
use Rattle.amr_patch.specs.Patches.{masses_in}
use Rattle.amr_layout.specs.Adds.{HasRegisterCells}
use Rattle.amr_layout.specs.Surroundings.{around, around_masses}
use Rattle.amr_flows.proofs.Ordered.{serve, serve_base}
use Rattle.amr_flows.specs.Laws.{plain_size}
use Rattle.amr_flows.specs.Words.{child_flows, level_total}
use Rattle.amr_flows.proofs.LedgerFlows.{inflow_of_level, outflow_of_level}
use Rattle.amr_flows.proofs.RegisterFlows.{words_are_of_children}
use Rattle.amr_flows.proofs.SubcycleSizes.{children_size}
use Rattle.amr_register.specs.declared.register.Register.{Register}
use Rattle.amr_register.specs.RegisterCells.{register_cells}
use Rattle.amr_register.specs.Fields.{cells_in, entry_in}
use Rattle.amr_advance.specs.Registers.{BothChange, Changes, HasCoarser, cells_of, gained}
use Rattle.amr_advance.specs.Totals.{HasTotals, HasAbsorbed, MayAbsorb, SomeHasAbsorbed, SomeMayAbsorb}

-- ---- the level

-- the register's list serves the layout
pub cells_serve : (p : Problem) (l : ℕ) (k : Level) (old : Option Held) (r : Option Register) (qs : List Patch) (next : Option Held) → HasCoarser p l k old r → IsLevel p l k → masses_in qs ≡ k.masses → HasRegisterCells (around p l qs (cells_of r) next)
cells_serve p zero k None None qs next h level same = serve_base p qs next (λ c d. sym (some_mass qs c) ∙ ap (λ (m : Masses). is_some (m c)) same ∙ h c d)
cells_serve p zero k None (Some r) qs next h level same = absurd h
cells_serve p zero k (Some coarse) r qs next h level same = absurd h
cells_serve p (suc l) k None r qs next h level same = absurd h
cells_serve p (suc l) k (Some coarse) None qs next h level same = absurd h
cells_serve p (suc l) k (Some coarse) (Some r) qs next h level same =
    subst (λ (xs : List Cell). HasRegisterCells (around p (suc l) qs xs next)) (sym h.2.cells) (serve p l (level_of coarse) k qs next h.0 level h.1 same)

-- ---- the sums

module _ (p : Problem) (l : ℕ) (m old fine : Masses) (cells : List Cell) (ws : List ℕ) (totals : HasTotals p l m old fine cells ws) (count : length ws ≡ 2 + 2 * length cells) where
  pub inflow_is : slice_index ws 0 ≡ inflow_beside p l (is_uncovered m fine) (flux_at p l m old)
  inflow_is = totals.words 0 (omega (arith, count)) ∙ inflow_of_level p l m old fine totals.patches cells totals.of_level

  pub outflow_is : slice_index ws 1 ≡ outflow_beside p l (is_uncovered m fine) (flux_at p l m old)
  outflow_is = totals.words 1 (omega (arith, count)) ∙ outflow_of_level p l m old fine totals.patches cells totals.of_level

-- ---- the register of the next coarser level

module _ (p : Problem) (l : ℕ) (k : Level) (coarse : Held) (r : Register) (old fine : Masses) (ws : List ℕ) (h : HasCoarser p (suc l) k (Some coarse) (Some r)) (level : IsLevel p (suc l) k)
    (totals : HasTotals p (suc l) k.masses old fine (cells_in r) ws) (count : length ws ≡ 2 + 2 * length (cells_in r)) where
  abbrev listed : List Cell
  listed = register_cells p l (level_of coarse).masses k.masses

  in_list : (n : ℕ) → n < length (cells_in r) → n < length listed
  in_list n lt = omega (arith, lt, ap length h.2.cells)

  pub word_is : (n : ℕ) (c : Cell) → n < length (cells_in r) → pos (slice_index ws (2 + 2 * n)) -ℤ pos (slice_index ws (3 + 2 * n)) ≡ net (child_flows p l k.masses (flux_at p (suc l) k.masses old)) (slice_index_or (cells_in r) n c)
  word_is n c lt =
      (λ i. pos (totals.words (2 + 2 * n) (omega (arith, lt, count)) i) -ℤ pos (totals.words (3 + 2 * n) (omega (arith, lt, count)) i))
      ∙ (λ i. pos (level_total (around_masses p (suc l) totals.patches (h.2.cells i) fine) (plain_size p (suc l) k.masses old) (2 + 2 * n)) -ℤ pos (level_total (around_masses p (suc l) totals.patches (h.2.cells i) fine) (plain_size p (suc l) k.masses old) (3 + 2 * n)))
      ∙ words_are_of_children p l (level_of coarse) k old fine totals.patches n c h.0 level h.1 totals.of_level (in_list n lt)
      ∙ ap (λ (xs : List Cell). net (child_flows p l k.masses (flux_at p (suc l) k.masses old)) (slice_index_or xs n c)) (sym h.2.cells)

  word_small : ((f : Face) → unsigned_abs (flux_at p (suc l) k.masses old f) < 2 ^ 31) → (n : ℕ) → n < length (cells_in r) → unsigned_abs (pos (slice_index ws (2 + 2 * n)) -ℤ pos (slice_index ws (3 + 2 * n))) < 2 ^ 61
  word_small small n lt =
      let c : Cell = record { x = pos 0; y = pos 0 } in
      let size = children_size p l k.masses (flux_at p (suc l) k.masses old) (slice_index_or (cells_in r) n c) small in
      subst (λ z. unsigned_abs z < 2 ^ 61) (sym (word_is n c lt)) (omega (arith, size))

  pub may_absorb : ((f : Face) → unsigned_abs (flux_at p (suc l) k.masses old f) < 2 ^ 31) → MayAbsorb ws r
  may_absorb small = record { made = (p, (l, ((level_of coarse).masses, (k.masses, h.2)))); room = h.3; net = word_small small }

  pub has_changed : (s : Register) → HasAbsorbed ws r s → Changes (gained p (suc l) k.masses (flux_at p (suc l) k.masses old)) r s
  has_changed s a = record {
    cells = a.cells;
    entries = λ c there.
        let at : c ≡ slice_index_or (cells_in r) there.0 c = sym there.2 in
        a.gained there.0 c there.1 at ∙ ap (λ z. entry_in r c +ℤ z) (word_is there.0 c there.1 ∙ ap (net (child_flows p l k.masses (flux_at p (suc l) k.masses old))) there.2);
  }

-- where there is one
pub some_may_absorb : (p : Problem) (l : ℕ) (k : Level) (below : Option Held) (r : Option Register) (old fine : Masses) (ws : List ℕ) → HasCoarser p l k below r → IsLevel p l k → HasTotals p l k.masses old fine (cells_of r) ws → length ws ≡ 2 + 2 * length (cells_of r)
    → ((f : Face) → unsigned_abs (flux_at p l k.masses old f) < 2 ^ 31) → SomeMayAbsorb ws r
some_may_absorb p zero k None None old fine ws h level totals count small = tt
some_may_absorb p zero k None (Some r) old fine ws h level totals count small = absurd h
some_may_absorb p zero k (Some coarse) r old fine ws h level totals count small = absurd h
some_may_absorb p (suc l) k None r old fine ws h level totals count small = absurd h
some_may_absorb p (suc l) k (Some coarse) None old fine ws h level totals count small = absurd h
some_may_absorb p (suc l) k (Some coarse) (Some r) old fine ws h level totals count small = may_absorb p l k coarse r old fine ws h level totals count small

pub both_changed : (p : Problem) (l : ℕ) (k : Level) (below : Option Held) (r s : Option Register) (old fine : Masses) (ws : List ℕ) → HasCoarser p l k below r → IsLevel p l k → HasTotals p l k.masses old fine (cells_of r) ws → length ws ≡ 2 + 2 * length (cells_of r)
    → SomeHasAbsorbed ws r s → BothChange (gained p l k.masses (flux_at p l k.masses old)) r s
both_changed p zero k None None None old fine ws h level totals count a = tt
both_changed p zero k None None (Some s) old fine ws h level totals count a = absurd a
both_changed p zero k None (Some r) s old fine ws h level totals count a = absurd h
both_changed p zero k (Some coarse) r s old fine ws h level totals count a = absurd h
both_changed p (suc l) k None r s old fine ws h level totals count a = absurd h
both_changed p (suc l) k (Some coarse) None s old fine ws h level totals count a = absurd h
both_changed p (suc l) k (Some coarse) (Some r) None old fine ws h level totals count a = absurd a
both_changed p (suc l) k (Some coarse) (Some r) (Some s) old fine ws h level totals count a = has_changed p l k coarse r old fine ws h level totals count s a
