-- The register over a level, from its own step on through both finer ones.
use Rattle.std.proofs.Common.{◌≡◌, ℕ, suc, ◌^◌, ◌<◌, ◌≤◌, ℤ, pos, ◌+ℤ◌, neg_ℤ, List, refl, sym, ap, subst, ◌∙◌, arith}
use Rattle.std.specs.Prelude.{unsigned_abs, IfSome}
use Rattle.std.specs.declared.option.Option.{Option}
use Rattle.std.specs.declared.option.Option.TheVariants.{None, Some}
use Rattle.std.specs.List.{Contains}
use Rattle.std.proofs.lemmas.Int.{ints}
use Rattle.amr_box.specs.declared.Cell.{Cell}
use Rattle.amr_box.specs.Cells.{Extent}
use Rattle.amr_def.specs.declared.problem.Problem.{Problem}
use Rattle.amr_def.specs.State.{Level, Masses}
use Rattle.amr_def.specs.Flux.{Fluxes, flux_at, net}
use Rattle.amr_def.specs.Facts.{IsLevel, IsNestedLevel}
use Rattle.amr_patch.specs.declared.levels.Level.{Level as Held}
use Rattle.amr_patch.specs.Levels.{level_of}
use Rattle.amr_register.specs.declared.register.Register.{Register}
use Rattle.amr_register.specs.RegisterCells.{register_cells}
use Rattle.amr_register.specs.Fields.{HasEdgesOf, IsPlaced, IsRegisterOf, entry_in}
use Rattle.amr_register.proofs.SameCells.{edges_kept, no_entry, of_covered, register_kept, small_entries}
use Rattle.amr_flows.specs.Words.{child_flows}
use Rattle.amr_flows.specs.Subcycle.{AreGathered, CoverAlike, children_part, edge_part}
use Rattle.amr_advance.specs.Registers.{BothChange, HasCoarser, HasFiner, cells_of, gained, taken}
use Rattle.amr_cycle.specs.Cycles.{SomeHasEntries, entries_of}

-- made anew, a register serves the step of its level
pub has_finer : (p : Problem) (l : ℕ) (k : Level) (next : Held) (r : Register) → l ≤ 3 → IsLevel p (suc l) (level_of next) → IsNestedLevel p l k (level_of next) → IsRegisterOf p l k.masses (level_of next).masses r → ((c : Cell) → entry_in r c ≡ pos 0)
    → HasFiner p l k (Some next) (Some r)
has_finer p l k next r few level nested of zeros = (few, level, nested, of, λ c. subst (λ (z : ℤ). unsigned_abs z < 2 ^ 61) (sym (zeros c)) (omega arith))

-- and has then lost the plain flows
pub lost : (p : Problem) (l : ℕ) (k fine : Level) (old : Masses) (r : Register) (s : Option Register) → IsRegisterOf p l k.masses fine.masses r → ((c : Cell) → entry_in r c ≡ pos 0) → BothChange (taken p l k.masses old fine.masses) (Some r) s
    → SomeHasEntries p l k.masses fine.masses (λ c. neg_ℤ (edge_part p l k old fine.masses c)) s
lost p l k fine old r None of zeros h = absurd h
lost p l k fine old r (Some s) of zeros h = record {
  of_levels = register_kept p l k.masses fine.masses r s h.cells of;
  entries = λ c listed.
      let before = zeros c in
      let now = h.entries c (subst (λ (cs : List Cell). Contains cs c) h.cells.cells listed) in
      omega (arith, ints, before, now);
}

-- levels that cover the same cells have the same register
pub of_alike : (p : Problem) (l : ℕ) (m fine after : Masses) (r : Register) → CoverAlike fine after → IsRegisterOf p l m fine r → IsRegisterOf p l m after r
of_alike p l m fine after r alike of = of_covered p l m fine after r alike.covered of

-- a register that changed has edges of the same boxes
pub edges_stay : (boxes : List Extent) (by : Cell → ℤ) (r s : Option Register) → BothChange by r s → IfSome r (HasEdgesOf boxes) → IfSome s (HasEdgesOf boxes)
edges_stay boxes by None None change h = tt
edges_stay boxes by None (Some s) change h = absurd change
edges_stay boxes by (Some r) None change h = absurd change
edges_stay boxes by (Some r) (Some s) change h = edges_kept boxes r s change.cells h

-- where there is none there is none afterwards
pub none_stays : (by : Cell → ℤ) (r s : Option Register) → r ≡ None → BothChange by r s → s ≡ None
none_stays by r None is h = refl
none_stays by r (Some s) is h = absurd (subst (λ (o : Option Register). BothChange by o (Some s)) is h)

-- with entries that are small it serves a step of the finer level
pub serves : (p : Problem) (l : ℕ) (k fine after : Level) (before : Held) (e : Cell → ℤ) (r : Option Register) → level_of before ≡ k → IsLevel p l k → IsNestedLevel p l k after → CoverAlike fine.masses after.masses
    → ((c : Cell) → Contains (register_cells p l k.masses fine.masses) c → unsigned_abs (e c) < 2 ^ 61) → SomeHasEntries p l k.masses fine.masses e r → HasCoarser p (suc l) after (Some before) r
serves p l k fine after before e None is level nested alike small h = absurd h
serves p l k fine after before e (Some r) is level nested alike small h = (
  subst (IsLevel p l) (sym is) level,
  subst (λ (x : Level). IsNestedLevel p l x after) (sym is) nested,
  subst (λ (x : Level). IsRegisterOf p l x.masses after.masses r) (sym is) (of_alike p l k.masses fine.masses after.masses r alike h.of_levels),
  small_entries r (2 ^ 61) (omega arith) (λ c listed. subst (λ (z : ℤ). unsigned_abs z < 2 ^ 61) (sym (h.entries c listed)) (small c (subst (λ (cs : List Cell). Contains cs c) h.of_levels.cells listed))),
)

-- and has then gained what flows through its faces
pub won : (p : Problem) (l : ℕ) (k fine : Level) (m old : Masses) (e : Cell → ℤ) (r s : Option Register) → old ≡ k.masses → CoverAlike fine.masses m → SomeHasEntries p l k.masses fine.masses e r → BothChange (gained p (suc l) m (flux_at p (suc l) m old)) r s
    → SomeHasEntries p l k.masses fine.masses (λ c. e c +ℤ children_part p l k fine.masses m c) s
won p l k fine m old e None s is alike h change = absurd h
won p l k fine m old e (Some r) None is alike h change = absurd change
won p l k fine m old e (Some r) (Some s) is alike h change = record {
  of_levels = register_kept p l k.masses fine.masses r s change.cells h.of_levels;
  entries = λ c listed.
      let before_listed = subst (λ (cs : List Cell). Contains cs c) change.cells.cells listed in
      let before = h.entries c before_listed in
      let now = change.entries c before_listed in
      let fluxes : net (child_flows p l m (flux_at p (suc l) m old)) c ≡ children_part p l k fine.masses m c =
      ap (λ (b : Masses). net (child_flows p l m (flux_at p (suc l) m b)) c) is ∙ ap (λ (f : Fluxes). net f c) (alike.children p l (flux_at p (suc l) m k.masses)) in
      omega (arith, ints, before, now, fluxes);
}

-- after both finer steps it has gathered what the step needs
pub gathers : (p : Problem) (l : ℕ) (k fine : Level) (old between : Masses) (r : Option Register)
    → SomeHasEntries p l k.masses fine.masses (λ c. (neg_ℤ (edge_part p l k old fine.masses c) +ℤ children_part p l k fine.masses fine.masses c) +ℤ children_part p l k fine.masses between c) r → AreGathered p l k old fine.masses between (entries_of r)
gathers p l k fine old between None h = absurd h
gathers p l k fine old between (Some r) h = record {
  cells = λ c listed. let now = h.entries c (subst (λ (cs : List Cell). Contains cs c) (sym h.of_levels.cells) listed) in omega (arith, ints, now);
  others = λ c none. no_entry r c (λ listed. none (subst (λ (cs : List Cell). Contains cs c) h.of_levels.cells listed));
}

-- its cells stand in its lists
pub is_placed : (p : Problem) (l : ℕ) (m fine : Masses) (e : Cell → ℤ) (r : Option Register) → SomeHasEntries p l m fine e r → IfSome r IsPlaced
is_placed p l m fine e None h = absurd h
is_placed p l m fine e (Some r) h = h.of_levels.placed

pub listed_in : (p : Problem) (l : ℕ) (m fine : Masses) (e : Cell → ℤ) (r : Option Register) (c : Cell) → SomeHasEntries p l m fine e r → Contains (cells_of r) c → Contains (register_cells p l m fine) c
listed_in p l m fine e None c h listed = absurd h
listed_in p l m fine e (Some r) c h listed = subst (λ (cs : List Cell). Contains cs c) h.of_levels.cells listed
