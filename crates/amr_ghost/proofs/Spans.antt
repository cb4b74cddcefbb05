-- A span of ghost cells: copied from the patch that has the cells that they stand for, or one that stands for no cell of the level.
use Rattle.std.proofs.Common.{◌≡◌, ℕ, ◌+◌, ◌-◌, ◌/◌, ◌^◌, ◌<◌, ◌≤◌, false, cond, ℤ, pos, ◌+ℤ◌, ◌≤ℤ◌, ◌<ℤ◌, List, length, get_or, IsTrue, sym, ap, subst, ◌∙◌, arith}
use Rattle.std.specs.Prelude.{is_some}
use Rattle.std.specs.declared.option.Option.{Option}
use Rattle.std.specs.declared.option.Option.TheVariants.{None, Some}
use Rattle.std.specs.Option.{unwrap_or}
use Rattle.std.proofs.lemmas.Int.{ints}
use Rattle.amr_box.specs.declared.Cell.{Cell}
use Rattle.amr_box.specs.declared.Axis.{Axis}
use Rattle.amr_box.specs.declared.Axis.TheVariants.{X, Y}
use Rattle.amr_box.specs.Cells.{Extent, IsNear, along, holds, parent}
use Rattle.amr_def.specs.declared.problem.Problem.{Problem}
use Rattle.amr_def.specs.Domain.{Domain, domain, home_cell, in_domain, is_inside}
use Rattle.amr_def.specs.State.{Masses, mass_of}
use Rattle.amr_def.specs.Value.{home_value, inflow_at, value_at}
use Rattle.amr_def.proofs.Values.{value_here}
use Rattle.amr_patch.specs.declared.patches.Patch.{Patch}
use Rattle.amr_patch.specs.Patches.{ArePatchesApart, box, mass_in, masses_in}
use Rattle.amr_patch.specs.Orders.{IsHolder}
use Rattle.amr_patch.specs.Places.{grown, in_frame}
use Rattle.amr_patch.proofs.Entries.{in_grown}
use Rattle.amr_patch.proofs.Lookups.{masses_in-at, same_default}
use Rattle.amr_ghost.specs.Strips.{HasRoom, step}
use Rattle.amr_ghost.specs.Frames.{is_of_level}
use Rattle.amr_ghost.specs.GhostCells.{AreCopied, IsGhostStrip, size_along}
use Rattle.amr_ghost.proofs.Steps.{frame_grown}
use Rattle.amr_ghost.proofs.Homes.{bounds, held_ahead, home_step, step_step}

pub room_inside : (b : Extent) (c : Cell) → IsNear b → IsTrue (holds b c) → HasRoom c
room_inside b c near h =
    let k = bounds b c h in
    let e : c.x ≤ℤ b.hi.x = k.east in
    let n : c.y ≤ℤ b.hi.y = k.north in
    record { x = omega (arith, ints); y = omega (arith, ints) }

pub step_none : (axis : Axis) (c : Cell) → step axis c 0 ≡ c
step_none X c = λ i. record { x = none c.x i; y = c.y }
  where
    none : (z : ℤ) → z +ℤ pos 0 ≡ z
    none z = omega (arith, ints)
step_none Y c = λ i. record { x = c.x; y = none c.y i }
  where
    none : (z : ℤ) → z +ℤ pos 0 ≡ z
    none z = omega (arith, ints)

pub first_ghost : (P : Cell → Type 0) (axis : Axis) (c : Cell) → P (step axis c 0) → P c
first_ghost P axis c h = subst P (step_none axis c) h

-- so a strip of ghost cells, or of cells of a box, begins in the grown box
pub begins_in_frame : (b t : Extent) (axis : Axis) (c : Cell) → t ≡ b → IsTrue (in_frame b (step axis c 0)) → IsTrue (holds (grown t) c)
begins_in_frame b t axis c same first = first_ghost (λ (s : Cell). IsTrue (holds (grown t) s)) axis c (rw same (frame_grown b (step axis c 0) first))

pub begins_in_box : (b t : Extent) (axis : Axis) (c : Cell) → t ≡ b → IsTrue (holds b (step axis c 0)) → IsTrue (holds (grown t) c)
begins_in_box b t axis c same first = first_ghost (λ (s : Cell). IsTrue (holds (grown t) s)) axis c (rw same (in_grown b (step axis c 0) first))

-- ---- the cells that a patch has from one on

last_ahead : (z h : ℤ) (n k : ℕ) → z +ℤ pos n ≡ h +ℤ pos 1 → k < n → (z +ℤ pos k) ≤ℤ h
last_ahead z h n k e t = omega (arith, ints)

pub span_held : (ps : List Patch) (j : ℕ) (e q : Patch) (axis : Axis) (h : Cell) (n k : ℕ) → IsHolder ps h j → along axis h +ℤ pos n ≡ along axis (box (get_or ps j e)).hi +ℤ pos 1 → k < n → IsTrue (holds (box (get_or ps j q)) (step axis h k))
span_held ps j e q axis h n k holder end t =
    let same : get_or ps j e ≡ get_or ps j q = same_default ps j e q holder.inside in
    let ahead : along axis h +ℤ pos n ≡ along axis (box (get_or ps j q)).hi +ℤ pos 1 = subst (λ (p : Patch). along axis h +ℤ pos n ≡ along axis (box p).hi +ℤ pos 1) same end in
    held_ahead (box (get_or ps j q)) axis h k (holder.holds_it q) (last_ahead (along axis h) (along axis (box (get_or ps j q)).hi) n k ahead t)

-- the cells of a strip stand for those of a strip
pub first_inside : (d : Domain) (axis : Axis) (c : Cell) (count : ℕ) → 0 < count → ((k : ℕ) → k < count → IsTrue (is_inside (size_along axis d) (along axis c +ℤ pos k))) → IsTrue (is_inside (size_along axis d) (along axis c))
first_inside d axis c count some inside = subst (λ (z : ℤ). IsTrue (is_inside (size_along axis d) z)) (none (along axis c)) (inside 0 some)
  where
    none : (z : ℤ) → z +ℤ pos 0 ≡ z
    none z = omega (arith, ints)

pub strip_home : (d : Domain) (axis : Axis) (c h : Cell) (count k : ℕ) → h ≡ home_cell d c → 0 < count → k < count → ((j : ℕ) → j < count → IsTrue (is_inside (size_along axis d) (along axis c +ℤ pos j))) → home_cell d (step axis c k) ≡ step axis h k
strip_home d axis c h count k home some t inside = home_step d axis c k (first_inside d axis c count some inside) (inside k t) ∙ ap (λ (s : Cell). step axis s k) (sym home)

pub span_copied : (p : Problem) (l : ℕ) (ps : List Patch) (old : Masses) (j : ℕ) (d : Patch) (b : Extent) (axis : Axis) (c h : Cell) (count n : ℕ) → ArePatchesApart ps → j < length ps → h ≡ home_cell (domain p l) c → 0 < count → n ≤ count → IsGhostStrip (domain p l) b axis c count → ((q : Patch) (k : ℕ) → k < n → IsTrue (holds (box (get_or ps j q)) (step axis h k))) → AreCopied (value_at p l (masses_in ps) old) (is_of_level p l (masses_in ps)) (get_or ps j d) axis c h n
span_copied p l ps old j d b axis c h count n apart there home some few strip held = record {
  values = λ k t. value_here p l (masses_in ps) old (step axis c k) (step axis h k) (home_is k t) (ap is_some (mass_is k t)) ∙ ap (λ (o : Option ℕ). unwrap_or o 0) (mass_is k t);
  marks = λ k t. ap (λ (s : Cell). is_some (masses_in ps s)) (home_is k t) ∙ ap is_some (mass_is k t);
}
  where
    home_is : (k : ℕ) → k < n → home_cell (domain p l) (step axis c k) ≡ step axis h k
    home_is k t = strip_home (domain p l) axis c h count k home some (omega arith) strip.inside

    mass_is : (k : ℕ) → k < n → masses_in ps (step axis h k) ≡ Some (mass_in (get_or ps j d) (step axis h k))
    mass_is k t = masses_in-at ps (step axis h k) j d apart (record { inside = there; holds_it = λ q. held q k t })

-- ---- a cell that is not of the level

pub outer_is : (p : Problem) (l : ℕ) (m old : Masses) (c h : Cell) (v : ℕ) → h ≡ home_cell (domain p l) c → m h ≡ None → v ≡ cond (in_domain (domain p l) h) (mass_of old (parent h) / 4) (inflow_at p l h / 4 ^ l) → value_at p l m old c ≡ v
unfolding value_at
outer_is p l m old c h v home none is = ap (home_value p l m old) (sym home) ∙ ap (λ (o : Option ℕ). unwrap_or o (cond (in_domain (domain p l) h) (mass_of old (parent h) / 4) (inflow_at p l h / 4 ^ l))) none ∙ sym is

pub no_mark : (p : Problem) (l : ℕ) (m : Masses) (c h : Cell) → h ≡ home_cell (domain p l) c → m h ≡ None → is_of_level p l m c ≡ false
no_mark p l m c h home none = ap (λ (s : Cell). is_some (m s)) (sym home) ∙ ap is_some none

-- ---- two spans, one after the other

pub room_ahead : (d : Domain) (axis : Axis) (c : Cell) (k : ℕ) → HasRoom c → size_along axis d ≤ 4096 → IsTrue (is_inside (size_along axis d) (along axis c +ℤ pos k)) → HasRoom (step axis c k)
room_ahead d X c k room size inside = record { x = low d.columns (c.x +ℤ pos k) size inside; y = room.y }
  where
    low : (n : ℕ) (z : ℤ) → n ≤ 4096 → IsTrue (is_inside n z) → z <ℤ pos 33554433
    low n z s h = grind (arith, ints)
room_ahead d Y c k room size inside = record { x = room.x; y = low d.rows (c.y +ℤ pos k) size inside }
  where
    low : (n : ℕ) (z : ℤ) → n ≤ 4096 → IsTrue (is_inside n z) → z <ℤ pos 33554433
    low n z s h = grind (arith, ints)

pub rest_of_strip : (d : Domain) (b b' : Extent) (axis : Axis) (c c' : Cell) (count done : ℕ) → b' ≡ b → c' ≡ step axis c done → IsGhostStrip d b axis c count → IsGhostStrip d b' axis c' (count - done)
rest_of_strip d b b' axis c c' count done same is strip = rw (same, is) (record {
  ghosts = λ k t. rw step_step (strip.ghosts (done + k) (omega arith));
  beside = λ k t. rw step_step (strip.beside (done + k) (omega arith));
  inside = λ k t. subst (λ (z : ℤ). IsTrue (is_inside (size_along axis d) z)) (further axis c k) (strip.inside (done + k) (omega arith));
})
  where
    further : (axis : Axis) (c : Cell) (k : ℕ) → along axis c +ℤ pos (done + k) ≡ along axis (step axis c done) +ℤ pos k
    further X c k = omega (arith, ints)
    further Y c k = omega (arith, ints)
