-- After a regrid each tagged cell is covered.
use Rattle.std.proofs.Common.{◌≡◌, ℕ, zero, suc, ◌+◌, ◌<◌, Bool, true, false, pos, ◌-ℤ◌, is_some, IsSome, sym, ap, subst, ◌∙◌, arith, List, [], ◌∷◌, length, add-one}
use Rattle.std.proofs.lemmas.Bool.{and_from}
use Rattle.std.specs.Prelude.{slice_index_or}
use Rattle.std.specs.Option.{unwrap_or}
use Rattle.std.proofs.lemmas.Int.{ints}
use Rattle.amr_box.specs.declared.Cell.{Cell}
use Rattle.amr_box.specs.Cells.{cell, extent, parent, has_child_where, Extent, within, moved, in_boxes}
use Rattle.amr_box.proofs.Children.{child_of_parent}
use Rattle.amr_def.specs.declared.problem.Problem.{Problem}
use Rattle.amr_def.specs.declared.problem.Row.{Row}
use Rattle.amr_def.specs.Domain.{domain, home_cell, is_near}
use Rattle.amr_def.specs.State.{Masses, Level, State, level_at, is_covered}
use Rattle.amr_def.specs.Tags.{is_tagged, is_tagged_by, is_grown}
use Rattle.amr_def.specs.NewBoxes.{first_boxes, is_projected}
use Rattle.amr_def.specs.Regrid.{split_mass, refilled, first_masses, rest_of, refill, new_level_count, regrid, regrid_by}
use Rattle.amr_def.specs.Facts.{IsSound, IsHeld}
use Rattle.amr_def.proofs.LevelLists.{IsCellInside, child_0}
use Rattle.amr_def.proofs.Values.{same_cell}
use Rattle.amr_def.proofs.Children.{plus_none}
use Rattle.amr_def.proofs.Uncovered.{home_at, child_inside, half-double}
use Rattle.amr_def.proofs.Nesting.{in_domain-inside, near_itself}
use Rattle.amr_def.proofs.Chain.{nth}
use Rattle.amr_laws.proofs.CellSets.{both_parts, left, right, any_in_box}
use Rattle.amr_laws.proofs.Coverage.{of_parent}
use Rattle.amr_laws.proofs.Refill.{Covers, NewFacts, new_facts, is_some-given}
use Rattle.amr_laws.proofs.SoundRegrid.{before, boxes, count}

abbrev pub boxes_at : List (List Extent) → ℕ → List Extent
boxes_at ns j = slice_index_or ns j []

-- ---- a cell is near itself

itself : (p : Problem) (l : ℕ) (c : Cell) → IsCellInside p l c → home_cell (domain p l) (moved c (cell (pos 0) (pos 0))) ≡ c
itself p l c i = ap (home_cell (domain p l)) (same_cell (plus_none c.x) (plus_none c.y)) ∙ home_at p l c i

none_away : (n : ℕ) → within (pos 0 -ℤ pos n) (pos n) (pos 0) ≡ true
none_away n = grind (arith, ints)

grown_itself : (p : Problem) (l : ℕ) (tagged : Cell → Bool) (c : Cell) → IsCellInside p l c → tagged c ≡ true → is_grown p l tagged c ≡ true
grown_itself p l tagged c i h =
    let n = p.n_error_buf in
    any_in_box (λ o. tagged (home_cell (domain p l) (moved c o))) (extent (cell (pos 0 -ℤ pos n) (pos 0 -ℤ pos n)) (cell (pos n) (pos n))) (cell (pos 0) (pos 0))
    (and_from _ _ (none_away n) (none_away n)) (ap tagged (itself p l c i) ∙ h)

-- ---- where a level has a box, those below it have one

first_inside : (p : Problem) (tagged : ℕ → Cell → Bool) (l : ℕ) (ns : List (List Extent)) → NewFacts p tagged l ns → (q : Cell) → in_boxes (first_boxes ns) q ≡ true → IsCellInside p (suc l) q
first_inside p tagged l [] new q h = cc
first_inside p tagged l (bs ∷ more) new q h = new.0.inside q h

below : (p : Problem) (tagged : ℕ → Cell → Bool) (l : ℕ) (bs : List Extent) (more : List (List Extent)) → Covers p tagged l (first_boxes more) bs → NewFacts p tagged (suc l) more → (q : Cell) → in_boxes (first_boxes more) q ≡ true → in_boxes bs (parent q) ≡ true
below p tagged l bs more covers new q h =
    let c = parent q in
    let finer = first_boxes more in
    let i : IsCellInside p (suc l) c = of_parent p tagged (suc l) finer q (first_inside p tagged (suc l) more new q h) in
    let child_here : has_child_where (in_boxes finer) c ≡ true = child_of_parent (in_boxes finer) q h in
    let near : is_near (domain p (suc l)) 1 (has_child_where (in_boxes finer)) c ≡ true = near_itself (domain p (suc l)) (has_child_where (in_boxes finer)) c (ap (has_child_where (in_boxes finer)) (itself p (suc l) c i) ∙ child_here) in
    let near_here : is_near (domain p (l + 1)) 1 (has_child_where (in_boxes finer)) c ≡ true = subst (λ (n : ℕ). is_near (domain p n) 1 (has_child_where (in_boxes finer)) c ≡ true) (sym (add-one l)) near in
    covers.at c i (right (is_grown p l (tagged l) (parent c)) (is_projected (domain p (l + 1)) finer (parent c)) (child_of_parent (is_near (domain p (l + 1)) 1 (has_child_where (in_boxes finer))) c near_here))

-- a cell of the new boxes of level j + 1 is a cell of that level, and level l + 1 has a box
pub found : (p : Problem) (tagged : ℕ → Cell → Bool) (l : ℕ) (coarse : Masses) (olds : List Level) (ns : List (List Extent)) → NewFacts p tagged l ns → (j : ℕ) (q : Cell) → in_boxes (boxes_at ns j) q ≡ true
    → ((c : Cell) × (in_boxes (first_boxes ns) c ≡ true)) × IsSome ((nth (refill coarse olds ns) j).masses q)
unfolding refill
found p tagged l coarse olds [] new j q h = cc
found p tagged l coarse olds ([] ∷ more) new zero q h = cc
found p tagged l coarse olds ((b ∷ bs) ∷ more) new zero q h =
    ((q, h), is_some-given (in_boxes (b ∷ bs) q) (unwrap_or (first_masses olds q) (split_mass coarse q)) ∙ h)
found p tagged l coarse olds ([] ∷ more) new (suc j) q h =
    let rest = found p tagged (suc l) coarse olds more new.2 j q h in
    let none : false ≡ true = below p tagged l [] more new.1 new.2 rest.0.0 rest.0.1 in
    cc
found p tagged l coarse olds ((b ∷ bs) ∷ more) new (suc j) q h =
    let rest = found p tagged (suc l) (refilled coarse (first_masses olds) (b ∷ bs)) (rest_of olds) more new.2 j q h in
    ((parent rest.0.0, below p tagged l (b ∷ bs) more new.1 new.2 rest.0.0 rest.0.1), rest.1)

-- ---- the children of grown tags are in the new boxes

pub boxed : (p : Problem) (tagged : ℕ → Cell → Bool) (l : ℕ) (ns : List (List Extent)) → NewFacts p tagged l ns → (j m : ℕ) → l + j ≡ m → j < length ns → (q : Cell) → IsCellInside p (suc m) q → is_grown p m (tagged m) (parent q) ≡ true → in_boxes (boxes_at ns j) q ≡ true
boxed p tagged l [] new j m e fits q i h = absurd (omega arith)
boxed p tagged l (bs ∷ more) new zero m e fits q i h =
    let same : l ≡ m = omega arith in
    let inside : IsCellInside p (suc l) q = subst (λ k. IsCellInside p (suc k) q) (sym same) i in
    let grown : is_grown p l (tagged l) (parent q) ≡ true = subst (λ k. is_grown p k (tagged k) (parent q) ≡ true) (sym same) h in
    new.1.at q inside (left (is_grown p l (tagged l) (parent q)) (is_projected (domain p (l + 1)) (first_boxes more) (parent q)) grown)
boxed p tagged l (bs ∷ more) new (suc j) m e fits q i h = boxed p tagged (suc l) more new.2 j m (omega arith) (omega arith) q i h

-- ---- tags are held

pub tagged_there : (p : Problem) (s : State) (l : ℕ) (c : Cell) → is_tagged p s l c ≡ true → IsSome ((level_at s l).masses c)
unfolding is_tagged_by
tagged_there p s l c h = (both_parts _ _ h).0

covers_parent : (m : Masses) (c : Cell) → IsSome (m (child_0 c)) → is_covered m c ≡ true
unfolding is_covered
covers_parent m c h =
    let is : parent (child_0 c) ≡ c = same_cell (half-double c.x) (half-double c.y) in
    subst (λ (k : Cell). has_child_where (λ q. is_some (m q)) k ≡ true) is (child_of_parent (λ q. is_some (m q)) (child_0 c) h)

held_from : (p : Problem) (tagged : ℕ → Cell → Bool) (n : ℕ) (rs : List Row) (k : Level) (ks : List Level) → IsSound p (before p tagged n rs k ks) → (l : ℕ) (c : Cell) → l < length (k ∷ ks) → l < p.max_level → tagged l c ≡ true → IsSome ((nth (k ∷ ks) l).masses c)
    → is_covered (level_at (regrid_by p tagged (before p tagged n rs k ks)) (l + 1)).masses c ≡ true
unfolding regrid_by
held_from p tagged n rs k ks sound l c fits low h there =
    let ns = boxes p tagged n rs k ks in
    let level = sound.nested.each l fits in
    let inside : IsCellInside p l c = in_domain-inside p l c (level.inside c (sym (level.filled c) ∙ there)) in
    let grown : is_grown p l (tagged l) c ≡ true = grown_itself p l (tagged l) c inside h in
    let is : parent (child_0 c) ≡ c = same_cell (half-double c.x) (half-double c.y) in
    let child_in : IsCellInside p (suc l) (child_0 c) = child_inside p l c (child_0 c) 0 0 (omega arith) (omega arith) (same_cell (sym (plus_none _)) (sym (plus_none _))) inside in
    let facts = new_facts p tagged (new_level_count p (before p tagged n rs k ks)) 0 in
    let in_new : in_boxes (boxes_at ns l) (child_0 c) ≡ true = boxed p tagged 0 ns facts l l (omega arith) (omega (arith, count p tagged n rs k ks)) (child_0 c) child_in (ap (is_grown p l (tagged l)) is ∙ grown) in
    let new_there = (found p tagged 0 k.masses ks ns facts l (child_0 c) in_new).1 in
    subst (λ i. is_covered (nth (k ∷ refill k.masses ks ns) i).masses c ≡ true) (sym (add-one l)) (covers_parent (nth (refill k.masses ks ns) l).masses c new_there)

held_by_levels : (p : Problem) (tagged : ℕ → Cell → Bool) (n : ℕ) (rs : List Row) (ks : List Level) → let s : State = record { step = n; rows = rs; levels = ks } in IsSound p s → (l : ℕ) (c : Cell) → l < length ks → l < p.max_level → tagged l c ≡ true → IsSome ((level_at s l).masses c) → is_covered (level_at (regrid_by p tagged s) (l + 1)).masses c ≡ true
held_by_levels p tagged n rs [] sound = absurd (omega (arith, sound.some_level))
held_by_levels p tagged n rs (k ∷ ks) sound = held_from p tagged n rs k ks sound

-- a tagged cell of a level below the greatest is covered after the regrid by these tags
pub regrid_by-held : (p : Problem) (tagged : ℕ → Cell → Bool) (s : State) → IsSound p s → (l : ℕ) (c : Cell) → l < length s.levels → l < p.max_level → tagged l c ≡ true → IsSome ((level_at s l).masses c) → is_covered (level_at (regrid_by p tagged s) (l + 1)).masses c ≡ true
regrid_by-held p tagged s sound = held_by_levels p tagged s.step s.rows s.levels sound

pub regrid-held : (p : Problem) (s : State) → IsSound p s → IsHeld p s (regrid p s)
unfolding regrid
regrid-held p s sound = record { at = λ l c fits low h. regrid_by-held p (is_tagged p s) s sound l c fits low h (tagged_there p s l c h) }
