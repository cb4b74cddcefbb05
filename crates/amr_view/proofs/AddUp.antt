-- The finest masses of a level add up to those of the next coarser one, and so to the ledger's.
use Rattle.std.proofs.Common.{◌≡◌, ℕ, zero, suc, ◌+◌, ◌<◌, ◌≤◌, ◌⊎◌, inl, inr, true, false, pos, IsSome, length, refl, sym, ap, subst, ◌∙◌, add_assoc, add-one, arith}
use Rattle.std.specs.declared.option.Option.{Option}
use Rattle.std.specs.declared.option.Option.TheVariants.{None, Some}
use Rattle.std.specs.Option.{unwrap_or}
use Rattle.std.proofs.lemmas.Bool.{cases_lt}
use Rattle.std.proofs.lemmas.List.{get_or_past}
use Rattle.amr_box.specs.declared.Cell.{Cell}
use Rattle.amr_box.specs.Cells.{cell}
use Rattle.amr_def.specs.declared.problem.Problem.{Problem}
use Rattle.amr_def.specs.Domain.{columns, rows}
use Rattle.amr_def.specs.State.{Level, Masses, State, children_mass, is_covered, level_at, mass_of, no_level, no_masses}
use Rattle.amr_def.specs.Facts.{IsSound, IsLevel, IsNestedLevel, row_at}
use Rattle.amr_def.specs.Ledger.{sum_to, total_mass}
use Rattle.amr_def.specs.Regrid.{child_share, split_mass}
use Rattle.amr_def.specs.View.{finest_mass, finest_masses}
use Rattle.amr_def.proofs.Children.{children_mass-is, first_child, second_child, third_child, fourth_child}
use Rattle.amr_def.proofs.Courants.{twice_as_many}
use Rattle.amr_def.proofs.LevelLists.{child_0, child_1, child_2, child_3}
use Rattle.amr_def.proofs.Nesting.{children, covered_there}
use Rattle.amr_def.proofs.Nests.{shares_sum}
use Rattle.amr_def.proofs.Subcycle.{bool_cases}
use Rattle.amr_def.proofs.Uncovered.{no_children}
use Rattle.amr_transfer.proofs.Halves.{share_child}
use Rattle.amr_view.specs.Laws.{finest_total}

-- ---- sums in pairs

-- two neighbours at a time
pairs : (f : ℕ → ℕ) (n : ℕ) → sum_to f (n + n) ≡ sum_to (λ i. f (i + i) + f (i + i + 1)) n
pairs f zero = refl
pairs f (suc n) =
    let twice : suc n + suc n ≡ suc (suc (n + n)) = omega arith in
    ap (sum_to f) twice
    ∙ ap (λ (t : ℕ). t + f (n + n) + f (suc (n + n))) (pairs f n)
    ∙ add_assoc (sum_to (λ i. f (i + i) + f (i + i + 1)) n) (f (n + n)) (f (suc (n + n)))
    ∙ ap (λ (k : ℕ). sum_to (λ i. f (i + i) + f (i + i + 1)) n + (f (n + n) + f k)) (sym (add-one (n + n)))

both : (f g : ℕ → ℕ) (n : ℕ) → sum_to f n + sum_to g n ≡ sum_to (λ i. f i + g i) n
both f g zero = refl
both f g (suc n) = omega (arith, both f g n)

-- a square, by fours of neighbours
fours : (f : ℕ → ℕ → ℕ) (m n : ℕ) → sum_to (λ y. sum_to (λ x. f x y) (m + m)) (n + n)
    ≡ sum_to (λ y. sum_to (λ x. (f (x + x) (y + y) + f (x + x + 1) (y + y)) + (f (x + x) (y + y + 1) + f (x + x + 1) (y + y + 1))) m) n
fours f m n =
    pairs (λ y. sum_to (λ x. f x y) (m + m)) n
    ∙ (λ i. sum_to (λ y. pairs (λ x. f x (y + y)) m i + pairs (λ x. f x (y + y + 1)) m i) n)
    ∙ (λ i. sum_to (λ y. both (λ x. f (x + x) (y + y) + f (x + x + 1) (y + y)) (λ x. f (x + x) (y + y + 1) + f (x + x + 1) (y + y + 1)) m i) n)

-- ---- the finest masses of the children of a cell

module _ (s : State) (l : ℕ) (c : Cell) where
  abbrev fine : Masses
  fine = (level_at s (suc l)).masses

  abbrev given : Cell → ℕ
  given q = split_mass (finest_masses s l) q

  finest_is : (q : Cell) → finest_mass s (suc l) q ≡ unwrap_or (fine q) (given q)
  unfolding finest_mass
  finest_is q = refl

  own : (q : Cell) → IsSome (fine q) → finest_mass s (suc l) q ≡ mass_of fine q
  own q some = finest_is q ∙ kept (fine q) (given q) some
    where
      kept : (o : Option ℕ) (v : ℕ) → IsSome o → unwrap_or o v ≡ unwrap_or o 0
      kept (Some m) v h = refl
      kept None v h = cc

  shared : (q : Cell) (v : ℕ) → fine q ≡ None → given q ≡ v → finest_mass s (suc l) q ≡ v
  shared q v none is = finest_is q ∙ ap (λ (o : Option ℕ). unwrap_or o (given q)) none ∙ is

  abbrev total : ℕ
  total = finest_mass s (suc l) (child_0 c) + finest_mass s (suc l) (child_1 c) + finest_mass s (suc l) (child_2 c) + finest_mass s (suc l) (child_3 c)

  -- where none is of the finer level, their shares
  shared_total : is_covered fine c ≡ false → total ≡ finest_mass s l c
  shared_total none =
      let m : ℕ = finest_mass s l c in
      let coarse = finest_masses s l in
      let no = no_children fine c none in
      let first = shared (child_0 c) (child_share m 0) no.k0 (ap given (sym (first_child c)) ∙ share_child coarse c 0 0 (omega arith) (omega arith)) in
      let second = shared (child_1 c) (child_share m 1) no.k1 (ap given (sym (second_child c)) ∙ share_child coarse c 1 0 (omega arith) (omega arith)) in
      let third = shared (child_2 c) (child_share m 2) no.k2 (ap given (sym (third_child c)) ∙ share_child coarse c 0 1 (omega arith) (omega arith)) in
      let fourth = shared (child_3 c) (child_share m 3) no.k3 (ap given (sym (fourth_child c)) ∙ share_child coarse c 1 1 (omega arith) (omega arith)) in
      (λ i. first i + second i + third i + fourth i) ∙ shares_sum m

  -- where all are, their own, which make up the mass of the cell
  own_total : IsSome (fine (child_0 c)) → IsSome (fine (child_1 c)) → IsSome (fine (child_2 c)) → IsSome (fine (child_3 c)) → total ≡ children_mass fine c
  own_total h0 h1 h2 h3 = (λ i. own (child_0 c) h0 i + own (child_1 c) h1 i + own (child_2 c) h2 i + own (child_3 c) h3 i) ∙ sym (children_mass-is c fine)

-- a cell of a level has its own mass
finest_here : (s : State) (l : ℕ) (c : Cell) → IsSome ((level_at s l).masses c) → finest_mass s l c ≡ mass_of (level_at s l).masses c
unfolding finest_mass
finest_here s zero c h = refl
finest_here s (suc l) c h = own s l c c h

-- no level covers a cell where there is none
covered_by_none : (c : Cell) → is_covered no_masses c ≡ false
unfolding is_covered
covered_by_none c = refl

module _ (p : Problem) (s : State) (l : ℕ) (sound : IsSound p s) where
  next_level : suc l < length s.levels → IsLevel p (suc l) (level_at s (suc l))
  next_level h = sound.nested.each (suc l) h

  this_level : suc l < length s.levels → IsLevel p l (level_at s l)
  this_level h = sound.nested.each l (omega arith)

  nested : suc l < length s.levels → IsNestedLevel p l (level_at s l) (level_at s (suc l))
  nested h = subst (λ (k : ℕ). IsNestedLevel p l (level_at s l) (level_at s k)) (add-one l) (sound.nested.nested l (omega arith))

  synced : (c : Cell) → suc l < length s.levels → is_covered (fine s l c) c ≡ true → mass_of (level_at s l).masses c ≡ children_mass (fine s l c) c
  synced c h = subst (λ (k : ℕ). is_covered (level_at s k).masses c ≡ true → mass_of (level_at s l).masses c ≡ children_mass (level_at s k).masses c) (add-one l) (sound.synced.at l c (omega arith))

  covered_total : (c : Cell) → suc l < length s.levels → is_covered (fine s l c) c ≡ true → total s l c ≡ finest_mass s l c
  covered_total c h covered =
      let all = children p l (level_at s l) (level_at s (suc l)) (this_level h) (next_level h) (nested h) in
      let there = covered_there p l (level_at s l) (level_at s (suc l)) (this_level h) (next_level h) (nested h) c covered in
      own_total s l c (all.k0 c covered) (all.k1 c covered) (all.k2 c covered) (all.k3 c covered) ∙ sym (synced c h covered) ∙ sym (finest_here s l c there)

  -- the children of a cell have its mass
  children_total : (c : Cell) → total s l c ≡ finest_mass s l c
  children_total c = bool_cases (is_covered (fine s l c) c) (by_number (cases_lt (suc l) (length s.levels))) (shared_total s l c)
    where
      by_number : (suc l < length s.levels) ⊎ (length s.levels ≤ suc l) → is_covered (fine s l c) c ≡ true → total s l c ≡ finest_mass s l c
      by_number (inl h) covered = covered_total c h covered
      by_number (inr h) covered =
          let none : is_covered (fine s l c) c ≡ false = ap (λ (k : Level). is_covered k.masses c) (get_or_past s.levels (suc l) no_level h) ∙ covered_by_none c in
          absurd (cc)

  same_total : finest_total p s (suc l) ≡ finest_total p s l
  same_total =
      let at : ℕ → ℕ → ℕ = λ x y. finest_mass s (suc l) (cell (pos x) (pos y)) in
      let four : (x y : ℕ) → (at (x + x) (y + y) + at (x + x + 1) (y + y)) + (at (x + x) (y + y + 1) + at (x + x + 1) (y + y + 1)) ≡ finest_mass s l (cell (pos x) (pos y)) =
      λ x y. sym (add_assoc (at (x + x) (y + y) + at (x + x + 1) (y + y)) (at (x + x) (y + y + 1)) (at (x + x + 1) (y + y + 1))) ∙ children_total (cell (pos x) (pos y)) in
      (λ i. sum_to (λ y. sum_to (λ x. at x y) (twice_as_many p.nx l i)) (twice_as_many p.ny l i))
      ∙ fours at (columns p l) (rows p l)
      ∙ (λ i. sum_to (λ y. sum_to (λ x. four x y i) (columns p l)) (rows p l))

base_total : (p : Problem) (s : State) → finest_total p s 0 ≡ total_mass p (level_at s 0).masses
unfolding finest_mass total_mass
base_total p s = refl

pub views_add_up : (p : Problem) (s : State) (l : ℕ) → IsSound p s → finest_total p s l ≡ (row_at s s.step).mass
views_add_up p s zero sound = base_total p s ∙ sym sound.telescoped.last
views_add_up p s (suc l) sound = same_total p s l sound ∙ views_add_up p s l sound
