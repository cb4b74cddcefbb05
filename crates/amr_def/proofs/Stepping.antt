-- The levels of a state after a step: the same boxes, nested and synced.
use Rattle.std.proofs.Common.{◌≡◌, ℕ, zero, suc, ◌+◌, ◌*◌, ◌^◌, ◌<◌, ◌≤◌, Bool, true, false, cond, ◌&&◌, ◌||◌, pos, ◌-ℤ◌, refl, ap, subst, ◌∙◌, arith, List, [], ◌∷◌, length, map}
use Rattle.std.specs.Prelude.{int_le}
use Rattle.std.proofs.lemmas.Int.{ints}
use Rattle.std.proofs.lemmas.Bool.Decides.{nat_tests}
use Rattle.amr_box.specs.declared.Cell.{Cell}
use Rattle.amr_box.specs.Cells.{cell, in_boxes}
use Rattle.amr_def.specs.declared.problem.Problem.{Problem}
use Rattle.amr_def.specs.declared.problem.Sides.{Sides}
use Rattle.amr_def.specs.declared.problem.Sides.TheVariants.{Periodic, Open}
use Rattle.amr_def.specs.Limits.{has_inflows}
use Rattle.amr_def.specs.Domain.{domain, domain_box, columns, rows}
use Rattle.amr_def.specs.State.{Masses, Level, mass_of}
use Rattle.amr_def.specs.Value.{low_inflow, high_inflow, inflow_at}
use Rattle.amr_def.specs.Ledger.{first_of}
use Rattle.amr_def.specs.Run.{with_masses}
use Rattle.amr_def.specs.Facts.{IsLevel, growth}
use Rattle.amr_def.proofs.LevelLists.{IsWhole, Nested, Synced}
use Rattle.amr_def.proofs.Subcycle.{HasSameCells, SameCells}
use Rattle.amr_def.proofs.Greatest.{SidesUpTo, AllUpTo, rise}
use Rattle.amr_def.proofs.Nesting.{nest, level_inside}
use Rattle.amr_def.proofs.Chain.{nth, Chain}

abbrev pub masses_in : List Level → List Masses
masses_in ks = map (λ k. k.masses) ks

pub chain_lists : (p : Problem) (l : ℕ) (ks : List Level) → Chain p l ks → Nested p l (masses_in ks) × Synced (masses_in ks)
chain_lists p l [] x = (tt, tt)
chain_lists p l (k ∷ []) x = (level_inside p l k x, tt)
chain_lists p l (k ∷ fine ∷ []) x = ((level_inside p l k x.0, nest p l k fine x.0 x.3 x.1, level_inside p (suc l) fine x.3), (x.2, tt))
chain_lists p l (k ∷ fine ∷ finest ∷ finer) x =
    let rest = chain_lists p (suc l) (fine ∷ finest ∷ finer) x.3 in
    ((level_inside p l k x.0, nest p l k fine x.0 x.3.0 x.1, rest.0), (x.2, rest.1))

-- ---- new masses in the same boxes

pub level_kept : (p : Problem) (l : ℕ) (k : Level) (m : Masses) → HasSameCells k.masses m → IsLevel p l k → IsLevel p l (record { boxes = k.boxes; masses = m })
level_kept p l k m same level = record { some = level.some; proper = level.proper; disjoint = level.disjoint; inside = level.inside; filled = λ c. same.at c ∙ level.filled c }

pub chain_kept : (p : Problem) (l : ℕ) (ks : List Level) (ms : List Masses) → Chain p l ks → SameCells (masses_in ks) ms → Synced ms → Chain p l (with_masses ks ms)
chain_kept p l [] ms x same synced = tt
chain_kept p l (k ∷ ks) [] x same synced = absurd same
chain_kept p l (k ∷ []) (m ∷ []) x same synced = level_kept p l k m same.0 x
chain_kept p l (k ∷ []) (m ∷ m' ∷ ms) x same synced = absurd same.1
chain_kept p l (k ∷ fine ∷ finer) (m ∷ []) x same synced = absurd same.1
chain_kept p l (k ∷ fine ∷ finer) (m ∷ m' ∷ ms) x same synced =
    (level_kept p l k m same.0 x.0, x.1, synced.0, chain_kept p (suc l) (fine ∷ finer) (m' ∷ ms) x.3 same.1 synced.1)

pub count_kept : (ks : List Level) (ms : List Masses) → SameCells (masses_in ks) ms → length (with_masses ks ms) ≡ length ks
count_kept [] ms same = refl
count_kept (k ∷ ks) [] same = absurd same
count_kept (k ∷ ks) (m ∷ ms) same = ap suc (count_kept ks ms same.1)

pub boxes_kept : (k : Level) (ks : List Level) (ms : List Masses) → SameCells (masses_in (k ∷ ks)) ms → (nth (with_masses (k ∷ ks) ms) 0).boxes ≡ k.boxes
boxes_kept k ks [] same = absurd same
boxes_kept k ks (m ∷ ms) same = refl

pub first_kept : (k : Level) (ks : List Level) (ms : List Masses) → (nth (with_masses (k ∷ ks) ms) 0).masses ≡ first_of ms
first_kept k ks [] = refl
first_kept k ks (m ∷ ms) = refl

-- ---- level 0 has each cell of the domain

pub inside_box : (n x : ℕ) → x < n → (int_le (pos 0) (pos x) && int_le (pos x) (pos n -ℤ pos 1)) ≡ true
inside_box n x h = grind (arith, ints)

pub both_hold : (a b : Bool) → a ≡ true → b ≡ true → ((a && b) || false) ≡ true
both_hold a b e f = rw (e, f)

pub whole : (p : Problem) (k : Level) → IsLevel p 0 k → k.boxes ≡ domain_box (domain p 0) ∷ [] → IsWhole p k.masses
whole p k level base = record {
  at = λ x y hx hy.
      level.filled (cell (pos x) (pos y)) ∙ ap (λ bs. in_boxes bs (cell (pos x) (pos y))) base ∙ both_hold _ _ (inside_box (columns p 0) x hx) (inside_box (rows p 0) y hy);
}

-- ---- bounds

pub cond_within : (t : Bool) (x y b : ℕ) → x ≤ b → y ≤ b → cond t x y ≤ b
cond_within true x y b h k = h
cond_within false x y b h k = k

pub low_within : (s : Sides) → has_inflows s ≡ true → low_inflow s ≤ 2 ^ 30
low_within Periodic h = omega arith
low_within (Open low high) h = grind (arith, nat_tests)

pub high_within : (s : Sides) → has_inflows s ≡ true → high_inflow s ≤ 2 ^ 30
high_within Periodic h = omega arith
high_within (Open low high) h = grind (arith, nat_tests)

pub sides_up : (p : Problem) (b : ℕ) → 2 ^ 30 ≤ b → SidesUpTo p b
unfolding inflow_at
sides_up p b h = record {
  at = λ l c.
      let west : low_inflow p.x_sides ≤ b = omega (arith, h, low_within p.x_sides p.limits.x_inflows) in
      let east : high_inflow p.x_sides ≤ b = omega (arith, h, high_within p.x_sides p.limits.x_inflows) in
      let south : low_inflow p.y_sides ≤ b = omega (arith, h, low_within p.y_sides p.limits.y_inflows) in
      let north : high_inflow p.y_sides ≤ b = omega (arith, h, high_within p.y_sides p.limits.y_inflows) in
      cond_within _ _ _ b west (cond_within _ _ _ b east (cond_within _ _ _ b south north));
}

pub all_up : (l : ℕ) (ks : List Level) (b : ℕ) → ((j : ℕ) (c : Cell) → 4 ^ (l + j) * mass_of (nth ks j).masses c ≤ b) → AllUpTo l (masses_in ks) b
all_up l [] b h = tt
all_up l (k ∷ ks) b h = (
  record { at = λ c. let e : l + 0 ≡ l = omega arith in subst (λ i. 4 ^ i * mass_of k.masses c ≤ b) e (h 0 c) },
  all_up (suc l) ks b (λ j c. let e : l + suc j ≡ suc l + j = omega arith in subst (λ i. 4 ^ i * mass_of (nth ks j).masses c ≤ b) e (h (suc j) c)),
)

pub nothing_up : (w b : ℕ) → w * 0 ≤ b
nothing_up w b = omega arith

pub up_at : (l : ℕ) (ks : List Level) (ms : List Masses) (b : ℕ) → AllUpTo l ms b → (j : ℕ) (c : Cell) → 4 ^ (l + j) * mass_of (nth (with_masses ks ms) j).masses c ≤ b
up_at l [] ms b u j c = nothing_up (4 ^ (l + j)) b
up_at l (k ∷ ks) [] b u j c = nothing_up (4 ^ (l + j)) b
up_at l (k ∷ ks) (m ∷ ms) b u zero c = let e : l ≡ l + 0 = omega arith in subst (λ i. 4 ^ i * mass_of m c ≤ b) e (u.0.at c)
up_at l (k ∷ ks) (m ∷ ms) b u (suc j) c = let e : suc l + j ≡ l + suc j = omega arith in subst (λ i. 4 ^ i * mass_of (nth (with_masses ks ms) j).masses c ≤ b) e (up_at (suc l) ks ms b u.1 j c)

-- ---- a step raises masses by no more than the bound grows

pub growth_least : (m : ℕ) → 2048 ≤ growth m
growth_least m = grind (arith, nat_tests)

pub growth_greatest : (m : ℕ) → 3 ≤ m → 131072 ≤ growth m
growth_greatest m h = grind (arith, nat_tests)

pub rise_within : (n m : ℕ) → n ≤ m + 1 → m ≤ 4 → rise n 0 ≤ growth m
rise_within zero m h k = omega arith
rise_within (suc zero) m h k = let e : rise 1 0 ≡ 14 = refl in omega (arith, e, growth_least m)
rise_within (suc (suc zero)) m h k = let e : rise 2 0 ≡ 126 = refl in omega (arith, e, growth_least m)
rise_within (suc (suc (suc zero))) m h k = let e : rise 3 0 ≡ 1022 = refl in omega (arith, e, growth_least m)
rise_within (suc (suc (suc (suc zero)))) m h k = let e : rise 4 0 ≡ 8190 = refl in omega (arith, e, growth_greatest m (omega arith))
rise_within (suc (suc (suc (suc (suc zero))))) m h k = let e : rise 5 0 ≡ 65534 = refl in omega (arith, e, growth_greatest m (omega arith))
rise_within (suc (suc (suc (suc (suc (suc n)))))) m h k = absurd (omega arith)
