-- Strips of ghost cells that stand for no cell of the level: outside an open side, and in a gap between patches.
use Rattle.std.proofs.Common.{◌≡◌, ◌∙◌, ◌⊎◌, inl, inr, ℕ, zero, suc, ◌/◌, ◌^◌, ◌<◌, ◌≤◌, Bool, true, false, ◌&&◌, cond, ℤ, pos, ◌+ℤ◌, ◌≤ℤ◌, ◌<ℤ◌, List, IsTrue, refl, sym, ap, subst, arith}
use Rattle.std.specs.Prelude.{int_lt}
use Rattle.std.specs.declared.option.Option.{Option}
use Rattle.std.specs.declared.option.Option.TheVariants.{None}
use Rattle.std.specs.Option.{unwrap_or}
use Rattle.std.proofs.lemmas.Int.{ints}
use Rattle.std.proofs.lemmas.Bool.{cond-false, cond-true, false_from_ne_true}
use Rattle.amr_box.specs.declared.Cell.{Cell}
use Rattle.amr_box.specs.declared.Axis.{Axis}
use Rattle.amr_box.specs.declared.Axis.TheVariants.{X, Y}
use Rattle.amr_box.specs.Cells.{Extent, along, holds, parent}
use Rattle.amr_box.proofs.Tests.{opposite}
use Rattle.amr_def.specs.declared.problem.Problem.{Problem}
use Rattle.amr_def.specs.Domain.{Domain, columns, domain, home_cell, in_domain, is_inside}
use Rattle.amr_def.specs.State.{Masses, mass_of}
use Rattle.amr_def.specs.Value.{inflow_at, value_at}
use Rattle.amr_def.proofs.Homes.{inside-itself}
use Rattle.amr_patch.specs.declared.patches.Patch.{Patch}
use Rattle.amr_patch.specs.Patches.{ArePatchesApart, box, in_patches, mass_in, masses_in}
use Rattle.amr_patch.specs.Orders.{IsHolder}
use Rattle.amr_patch.proofs.Lookups.{masses_in-at, masses_in-none, same_default}
use Rattle.std.specs.Prelude.{slice_index_or}
use Rattle.amr_ghost.specs.Strips.{step}
use Rattle.amr_ghost.specs.Frames.{AreInDomain, is_of_level}
use Rattle.amr_ghost.specs.GhostCells.{AreGiven, size_along}
use Rattle.amr_ghost.proofs.BoxSides.{high_inside, inside_of, low_inside}
use Rattle.amr_ghost.proofs.Inflows.{east_inflow, north_inflow, south_inflow, west_inflow}
use Rattle.amr_ghost.proofs.Parents.{parents_held}
use Rattle.amr_ghost.proofs.Spans.{first_inside, no_mark, outer_is, step_none, strip_home}

-- the cells of a strip along an axis of the domain are all of the domain, or none is
domain_ahead : (d : Domain) (axis : Axis) (h : Cell) (k : ℕ) → IsTrue (is_inside (size_along axis d) (along axis h)) → IsTrue (is_inside (size_along axis d) (along axis h +ℤ pos k)) → in_domain d (step axis h k) ≡ in_domain d h
unfolding in_domain
domain_ahead d X h k first here = ap (λ (t : Bool). t && is_inside d.rows h.y) (here ∙ sym first)
domain_ahead d Y h k first here = ap (λ (t : Bool). is_inside d.columns h.x && t) (here ∙ sym first)

below_or_not : (a b : ℤ) → (a <ℤ b) ⊎ (b ≤ℤ a)
below_or_not a b = by_test (int_lt a b) refl
  where
    by_test : (t : Bool) → int_lt a b ≡ t → (a <ℤ b) ⊎ (b ≤ℤ a)
    by_test true e = inl (grind (arith, ints))
    by_test false e = inr (grind (arith, ints))

in_both : (d : Domain) (h : Cell) → IsTrue (is_inside d.columns h.x) → IsTrue (is_inside d.rows h.y) → in_domain d h ≡ true
unfolding in_domain
in_both d h x y = rw (x, y) refl

-- beside an open side all lie outside of that side
inflow_ahead : (p : Problem) (l : ℕ) (axis : Axis) (h : Cell) (k : ℕ) → IsTrue (is_inside (size_along axis (domain p l)) (along axis h)) → IsTrue (is_inside (size_along axis (domain p l)) (along axis h +ℤ pos k)) → in_domain (domain p l) h ≡ false → inflow_at p l (step axis h k) ≡ inflow_at p l h
inflow_ahead p l X h k first here out = by_row (below_or_not h.y (pos 0))
  where
    n : ℕ
    n = columns p l

    by_row : (h.y <ℤ pos 0) ⊎ (pos 0 ≤ℤ h.y) → inflow_at p l (step X h k) ≡ inflow_at p l h
    by_row (inl below) = south_inflow p l (step X h k) (low_inside n (h.x +ℤ pos k) here) (high_inside n (h.x +ℤ pos k) here) below ∙ sym (south_inflow p l h (low_inside n h.x first) (high_inside n h.x first) below)
    by_row (inr above) = north_inflow p l (step X h k) (low_inside n (h.x +ℤ pos k) here) (high_inside n (h.x +ℤ pos k) here) above ∙ sym (north_inflow p l h (low_inside n h.x first) (high_inside n h.x first) above)
inflow_ahead p l Y h k first here out = by_column (below_or_not h.x (pos 0)) (below_or_not h.x (pos (columns p l)))
  where
    by_column : (h.x <ℤ pos 0) ⊎ (pos 0 ≤ℤ h.x) → (h.x <ℤ pos (columns p l)) ⊎ (pos (columns p l) ≤ℤ h.x) → inflow_at p l (step Y h k) ≡ inflow_at p l h
    by_column (inl below) other = west_inflow p l (step Y h k) below ∙ sym (west_inflow p l h below)
    by_column (inr from) (inr above) = east_inflow p l (step Y h k) from above ∙ sym (east_inflow p l h from above)
    by_column (inr from) (inl to) = absurd (opposite (in_both (domain p l) h (inside_of (columns p l) h.x from to) first) out)

-- a strip of cells in rows or columns of the domain, which begins with a cell that stands for h
module _ (d : Domain) (axis : Axis) (c h : Cell) (count : ℕ) (home : h ≡ home_cell d c) (some : 0 < count) (inside : (k : ℕ) → k < count → IsTrue (is_inside (size_along axis d) (along axis c +ℤ pos k))) where
  pub home_is : (k : ℕ) → k < count → step axis h k ≡ home_cell d (step axis c k)
  home_is k t = sym (strip_home d axis c h count k home some t inside)

  -- along the axis a cell stands for itself
  along_home : (axis' : Axis) → IsTrue (is_inside (size_along axis' d) (along axis' c)) → along axis' h ≡ along axis' c
  along_home X first = ap (λ (s : Cell). s.x) home ∙ inside-itself d.wrap_x d.columns c.x first
  along_home Y first = ap (λ (s : Cell). s.y) home ∙ inside-itself d.wrap_y d.rows c.y first

  first_in : IsTrue (is_inside (size_along axis d) (along axis c))
  first_in = first_inside d axis c count some inside

  home_in : IsTrue (is_inside (size_along axis d) (along axis h))
  home_in = subst (λ (z : ℤ). IsTrue (is_inside (size_along axis d) z)) (sym (along_home axis first_in)) first_in

  further_in : (k : ℕ) → k < count → IsTrue (is_inside (size_along axis d) (along axis h +ℤ pos k))
  further_in k t = subst (λ (z : ℤ). IsTrue (is_inside (size_along axis d) (z +ℤ pos k))) (sym (along_home axis first_in)) (inside k t)

  same_domain : (k : ℕ) → k < count → in_domain d (step axis h k) ≡ in_domain d h
  same_domain k t = domain_ahead d axis h k home_in (further_in k t)

  -- outside of the domain no patch of the level has a cell, nor in a gap
  pub outside_none : (ps : List Patch) → AreInDomain d ps → in_domain d h ≡ false → (k : ℕ) → k < count → masses_in ps (step axis h k) ≡ None
  outside_none ps lie out k t = masses_in-none ps (step axis h k) (false_from_ne_true (in_patches ps (step axis h k)) (λ held. opposite (lie (step axis h k) held) (same_domain k t ∙ out)))

  pub gap_none : (ps : List Patch) (n : ℕ) → ((k : ℕ) → k < n → in_patches ps (step axis h k) ≡ false) → (k : ℕ) → k < n → masses_in ps (step axis h k) ≡ None
  gap_none ps n gap k t = masses_in-none ps (step axis h k) (gap k t)

-- none of its cells has one of the masses m
module _ (p : Problem) (l : ℕ) (m old : Masses) (axis : Axis) (c h : Cell) (count : ℕ) (home : h ≡ home_cell (domain p l) c) (some : 0 < count) (inside : (k : ℕ) → k < count → IsTrue (is_inside (size_along axis (domain p l)) (along axis c +ℤ pos k))) where
  abbrev d : Domain
  d = domain p l

  -- outside an open side each cell has that side's inflow
  pub outside_given : (v : ℕ) → ((k : ℕ) → k < count → m (step axis h k) ≡ None) → in_domain (domain p l) h ≡ false → v ≡ inflow_at p l h / 4 ^ l → AreGiven (value_at p l m old) (is_of_level p l m) axis c count (λ k. v) false
  outside_given v none out is = record {
    values = λ k t. outer_is p l m old (step axis c k) (step axis h k) v (home_is d axis c h count home some inside k t) (none k t) (value k t);
    marks = λ k t. no_mark p l m (step axis c k) (step axis h k) (home_is d axis c h count home some inside k t) (none k t);
  }
    where
      value : (k : ℕ) → k < count → v ≡ cond (in_domain d (step axis h k)) (mass_of old (parent (step axis h k)) / 4) (inflow_at p l (step axis h k) / 4 ^ l)
      value k t =
          is
          ∙ ap (λ (n : ℕ). n / 4 ^ l) (sym (inflow_ahead p l axis h k (home_in d axis c h count home some inside) (further_in d axis c h count home some inside k t) out))
          ∙ sym (cond-false (in_domain d (step axis h k)) (mass_of old (parent (step axis h k)) / 4) (inflow_at p l (step axis h k) / 4 ^ l) (same_domain d axis c h count home some inside k t ∙ out))

  -- in a gap of the domain each cell has a quarter of what its parent had
  pub gap_given : (n : ℕ) → n ≤ count → in_domain (domain p l) h ≡ true → ((k : ℕ) → k < n → m (step axis h k) ≡ None) → AreGiven (value_at p l m old) (is_of_level p l m) axis c n (λ k. mass_of old (parent (step axis h k)) / 4) false
  gap_given n few here none = record {
    values = λ k t. outer_is p l m old (step axis c k) (step axis h k) (mass_of old (parent (step axis h k)) / 4) (home_is d axis c h count home some inside k (below k t)) (none k t) (value k (below k t));
    marks = λ k t. no_mark p l m (step axis c k) (step axis h k) (home_is d axis c h count home some inside k (below k t)) (none k t);
  }
    where
      below : (k : ℕ) → k < n → k < count
      below k t = omega arith

      value : (k : ℕ) → k < count → mass_of old (parent (step axis h k)) / 4 ≡ cond (in_domain d (step axis h k)) (mass_of old (parent (step axis h k)) / 4) (inflow_at p l (step axis h k) / 4 ^ l)
      value k t = sym (cond-true (in_domain d (step axis h k)) (mass_of old (parent (step axis h k)) / 4) (inflow_at p l (step axis h k) / 4 ^ l) (same_domain d axis c h count home some inside k t ∙ here))

-- ---- the masses of the coarser level

pub level_mass : (m : Masses) (ps : List Patch) (j : ℕ) (d : Patch) (c : Cell) → m ≡ masses_in ps → ArePatchesApart ps → IsHolder ps c j → mass_of m c ≡ mass_in (slice_index_or ps j d) c
level_mass m ps j d c is apart here = ap (λ (n : Masses). mass_of n c) is ∙ ap (λ (o : Option ℕ). unwrap_or o 0) (masses_in-at ps c j d apart here)

pub no_mass : (m : Masses) (ps : List Patch) (c : Cell) → m ≡ masses_in ps → in_patches ps c ≡ false → mass_of m c ≡ 0
no_mass m ps c is none = ap (λ (n : Masses). mass_of n c) is ∙ ap (λ (o : Option ℕ). unwrap_or o 0) (masses_in-none ps c none)

-- what holds of the first cell, of a strip of one
pub only_first : (P : Cell → Type 0) (axis : Axis) (c : Cell) (k : ℕ) → k < 1 → P c → P (step axis c k)
only_first P axis c zero t h = subst P (sym (step_none axis c)) h
only_first P axis c (suc k) t h = absurd (omega arith)

-- the cells from one on whose parents one patch has
pub over_patch : (ps : List Patch) (j : ℕ) (e : Patch) (b : Extent) (axis : Axis) (from first_parent : Cell) (n k : ℕ) → IsHolder ps first_parent j → first_parent ≡ parent from → e ≡ slice_index_or ps j e → b ≡ box e → along axis from +ℤ pos n ≡ along axis b.hi +ℤ along axis b.hi +ℤ pos 2 → k < n → (q : Patch) → IsTrue (holds (box (slice_index_or ps j q)) (parent (step axis from k)))
over_patch ps j e b axis from first_parent n k here is_parent is same end t q =
    let one : b ≡ box (slice_index_or ps j q) = same ∙ ap box (is ∙ same_default ps j e q here.inside) in
    let ahead : along axis from +ℤ pos n ≡ along axis (box (slice_index_or ps j q)).hi +ℤ along axis (box (slice_index_or ps j q)).hi +ℤ pos 2 = subst (λ (x : Extent). along axis from +ℤ pos n ≡ along axis x.hi +ℤ along axis x.hi +ℤ pos 2) one end in
    parents_held (box (slice_index_or ps j q)) axis from n k (subst (λ (s : Cell). IsTrue (holds (box (slice_index_or ps j q)) s)) is_parent (here.holds_it q)) ahead t
