-- A step of a level and of those finer than it: no mass falls below 0, and covered cells stay the sums of their children.
use Rattle.std.proofs.Common.{◌≡◌, ℕ, zero, suc, ◌/◌, Bool, true, false, cond, ◌||◌, ℤ, pos, negsuc, ◌+ℤ◌, ◌≤ℤ◌, IsSome, is_some, refl, sym, ap, subst, ◌∙◌, arith, List, [], ◌∷◌}
use Rattle.std.specs.declared.option.Option.{Option}
use Rattle.std.specs.declared.option.Option.TheVariants.{None, Some}
use Rattle.std.specs.Option.{option_map}
use Rattle.std.proofs.lemmas.Int.{ints}
pub use Rattle.std.proofs.lemmas.Bool.{false_from_ne_true as is_false}
use Rattle.amr_box.specs.declared.Cell.{Cell}
use Rattle.amr_box.specs.Cells.{parent}
use Rattle.amr_def.specs.declared.problem.Problem.{Problem}
use Rattle.amr_def.proofs.Flows.{net_is}
use Rattle.amr_def.proofs.Children.{covered_by}
use Rattle.amr_def.proofs.Conservation.{updated_entry}
use Rattle.amr_def.proofs.Values.{same_cell, value_here, flow_same}
use Rattle.amr_def.proofs.TwoLevels.{together, IsExact, covered_mass}
use Rattle.amr_def.proofs.Ghosts.{LeavesHigh, LeavesLow, HasGhosts, plain_ghosts, flow_leaves_high, flow_leaves_low, left_over}
use Rattle.amr_def.proofs.Uncovered.{home_at, no_children, uncovered_covers}
use Rattle.amr_def.specs.State.{Masses, is_covered, mass_of, children_mass}
use Rattle.amr_def.proofs.LevelLists.{child_0, child_1, child_2, child_3}
use Rattle.amr_box.specs.declared.Axis.TheVariants.{X, Y}
use Rattle.amr_box.proofs.Numbers.{more_and_less}
use Rattle.amr_def.specs.Flux.{face, Fluxes, net, courant, low_cell, high_cell, flux_at, updated}
use Rattle.amr_def.specs.Domain.{home_cell, in_domain, domain}
use Rattle.amr_def.specs.Value.{value_at}
use Rattle.amr_def.specs.LevelStep.{effective, no_fluxes, at_top, over_finer, step_within}
use Rattle.amr_def.proofs.LevelLists.{IsStable, IsInside, IsNest, IsSyncedPair, Nested, Synced}

pub record HasSameCells (m m' : Masses) : Type 0 where
  pub at : (c : Cell) → is_some (m' c) ≡ is_some (m c)

abbrev pub SameCells : List Masses → List Masses → Type 0
SameCells [] [] = Unit {0}
SameCells [] (m' ∷ ms') = ⊥
SameCells (m ∷ ms) [] = ⊥
SameCells (m ∷ ms) (m' ∷ ms') = HasSameCells m m' × SameCells ms ms'

-- ---- what does not depend on the masses

pub covered_same : (fine fine' : Masses) → HasSameCells fine fine' → (c : Cell) → is_covered fine' c ≡ is_covered fine c
covered_same fine fine' same c =
    covered_by c fine' ∙ (λ i. same.at (child_0 c) i || same.at (child_1 c) i || same.at (child_2 c) i || same.at (child_3 c) i) ∙ sym (covered_by c fine)

module _ (p : Problem) (l : ℕ) (m m' fine fine' : Masses) (same : HasSameCells m m') (finer : HasSameCells fine fine') where
  then_covered : (c : Cell) → is_covered fine' c ≡ true → is_covered fine c ≡ true
  then_covered c h = sym (covered_same fine fine' finer c) ∙ h

  nest_same : IsNest p l m fine → IsNest p l m' fine'
  nest_same n = record {
    children = record {
      k0 = λ c h. finer.at (child_0 c) ∙ n.children.k0 c (then_covered c h);
      k1 = λ c h. finer.at (child_1 c) ∙ n.children.k1 c (then_covered c h);
      k2 = λ c h. finer.at (child_2 c) ∙ n.children.k2 c (then_covered c h);
      k3 = λ c h. finer.at (child_3 c) ∙ n.children.k3 c (then_covered c h);
    };
    there = λ c h. same.at c ∙ n.there c (then_covered c h);
    low = λ f h k. same.at _ ∙ n.low f (then_covered _ h) k;
    high = λ f h k. same.at _ ∙ n.high f (then_covered _ h) k;
  }

inside_same : (p : Problem) (l : ℕ) (m m' : Masses) → HasSameCells m m' → IsInside p l m → IsInside p l m'
inside_same p l m m' same i = record { at = λ c h. i.at c (sym (same.at c) ∙ h) }

pub nested_same : (p : Problem) (l : ℕ) (ms ms' : List Masses) → SameCells ms ms' → Nested p l ms → Nested p l ms'
nested_same p l [] [] same n = n
nested_same p l [] (m' ∷ ms') same n = absurd same
nested_same p l (m ∷ ms) [] same n = absurd same
nested_same p l (m ∷ []) (m' ∷ []) same n = inside_same p l m m' same.0 n
nested_same p l (m ∷ []) (m' ∷ fine' ∷ ms') same n = absurd same.1
nested_same p l (m ∷ fine ∷ ms) (m' ∷ []) same n = absurd same.1
nested_same p l (m ∷ fine ∷ ms) (m' ∷ fine' ∷ ms') same n =
    (inside_same p l m m' same.0 n.0, nest_same p l m m' fine fine' same.0 same.1.0 n.1, nested_same p (suc l) (fine ∷ ms) (fine' ∷ ms') same.1 n.2)

same_chain : (ms ms' ms'' : List Masses) → SameCells ms ms' → SameCells ms' ms'' → SameCells ms ms''
same_chain [] [] ms'' a b = b
same_chain [] (m' ∷ ms') ms'' a b = absurd a
same_chain (m ∷ ms) [] ms'' a b = absurd a
same_chain (m ∷ ms) (m' ∷ ms') [] a b = absurd b
same_chain (m ∷ ms) (m' ∷ ms') (m'' ∷ ms'') a b = (record { at = λ c. b.0.at c ∙ a.0.at c }, same_chain ms ms' ms'' a.1 b.1)

same_itself : (ms : List Masses) → SameCells ms ms
same_itself [] = tt
same_itself (m ∷ ms) = (record { at = λ c. refl }, same_itself ms)

-- ---- what one step gives at the coarsest of its levels

pub record HeadFacts (p : Problem) (l : ℕ) (old m m' : Masses) (e : Fluxes) : Type 0 where
  pub ghosts : HasGhosts p l m old e
  pub exact : (c : Cell) → IsSome (m c) → pos (mass_of m' c) ≡ pos (mass_of m c) +ℤ net e c

abbrev pub AtHead : Problem → ℕ → Masses → List Masses → List Masses → Fluxes → Type 0
AtHead p l old [] ms' e = Unit {0}
AtHead p l old (m ∷ ms) [] e = ⊥
AtHead p l old (m ∷ ms) (m' ∷ ms') e = HeadFacts p l old m m' e

pub record KeepsLevels (p : Problem) (l : ℕ) (ms : List Masses) (old : Masses) (ms' : List Masses) (e : Fluxes) : Type 0 where
  pub same : SameCells ms ms'
  pub synced : Synced ms'
  pub head : AtHead p l old ms ms' e

pub updated_same : (m : Masses) (e : Fluxes) → HasSameCells m (updated m e)
unfolding updated
updated_same m e = record { at = λ c. mapped (m c) _ }
  where
    mapped : (o : Option ℕ) (f : ℕ → ℕ) → is_some (option_map f o) ≡ is_some o
    mapped None f = refl
    mapped (Some v) f = refl

pub updated_exact : (m : Masses) (e : Fluxes) (c : Cell) → IsSome (m c) → pos 0 ≤ℤ (pos (mass_of m c) +ℤ net e c) → pos (mass_of (updated m e) c) ≡ pos (mass_of m c) +ℤ net e c
unfolding updated
updated_exact m e c there covers = updated_entry (m c) (net e c) there covers

pub none_is : (o : Option ℕ) → o ≡ None → is_some o ≡ true → ⊥
none_is o e h = cc

-- ---- the finest level

module _ (p : Problem) (l : ℕ) (m old : Masses) (stable : IsStable p) (inside : IsInside p l m) where
  pub plain_covers : (c : Cell) → IsSome (m c) → pos 0 ≤ℤ (pos (mass_of m c) +ℤ net (flux_at p l m old) c)
  unfolding flux_at courant
  plain_covers c there =
      let cx = courant p l (face X c.x c.y) in
      let cy = courant p l (face Y c.x c.y) in
      let home = home_at p l c (inside.at c there) in
      let own : (k : Cell) → k ≡ c → value_at p l m old k ≡ mass_of m c = λ k e. value_here p l m old k c (ap (home_cell (domain p l)) e ∙ home) there in
      let n = net_is (λ f. flux_at p l m old f) c _ _ _ _
      (flow_same cx p.d refl (own c refl))
      (flow_same cx p.d (own _ (same_cell (more_and_less c.x) refl)) refl)
      (flow_same cy p.d refl (own c refl))
      (flow_same cy p.d (own _ (same_cell refl (more_and_less c.y))) refl) in
      subst (λ (z : ℤ). pos 0 ≤ℤ (pos (mass_of m c) +ℤ z)) (sym n)
      (left_over cx cy p.d (mass_of m c) _ _ _ _ stable.some (stable.within l (home_cell (domain p l) c)) (flow_leaves_low _ _ _ _) (flow_leaves_high _ _ _ _) (flow_leaves_low _ _ _ _) (flow_leaves_high _ _ _ _))

  top_kept : KeepsLevels p l (m ∷ []) old (at_top p l m old).levels (at_top p l m old).fluxes
  unfolding at_top
  top_kept = record {
    same = (updated_same m _, tt);
    synced = tt;
    head = record {
      ghosts = plain_ghosts p l m old;
      exact = λ c there. updated_exact m _ c there (plain_covers c there);
    };
  }

-- ---- a level over finer ones

pub cond_none : (a b : Bool) (x y : ℤ) → a ≡ false → b ≡ false → cond (a || b) x y ≡ y
cond_none a b x y e f = rw (e, f)

module _ (p : Problem) (l : ℕ) (m old fine : Masses) (e1 e2 : Fluxes) (nest : IsNest p l m fine) where
  pub uncovered_where_none : (k : Cell) → m k ≡ None → is_covered fine k ≡ false
  uncovered_where_none k none = is_false _ (λ h. none_is _ none (nest.there k h))

  together_ghosts : HasGhosts p l m old (together p l m old fine e1 e2)
  unfolding effective
  together_ghosts =
      let plain = plain_ghosts p l m old in
      record {
        high = λ f k home none inside.
            let low_not : is_covered fine (home_cell (domain p l) (low_cell f)) ≡ false = ap (is_covered fine) home ∙ uncovered_where_none k none in
            let high_not : is_covered fine (home_cell (domain p l) (high_cell f)) ≡ false = is_false _ (λ h. none_is _ (ap m home ∙ none) (nest.low f h (ap (in_domain (domain p l)) home ∙ inside))) in
            subst (λ (z : ℤ). LeavesHigh (courant p l f) p.d (mass_of old (parent k) / 4) z) (sym (cond_none _ _ _ _ low_not high_not)) (plain.high f k home none inside);
        low = λ f k home none inside.
            let high_not : is_covered fine (home_cell (domain p l) (high_cell f)) ≡ false = ap (is_covered fine) home ∙ uncovered_where_none k none in
            let low_not : is_covered fine (home_cell (domain p l) (low_cell f)) ≡ false = is_false _ (λ h. none_is _ (ap m home ∙ none) (nest.high f h (ap (in_domain (domain p l)) home ∙ inside))) in
            subst (λ (z : ℤ). LeavesLow (courant p l f) p.d (mass_of old (parent k) / 4) z) (sym (cond_none _ _ _ _ low_not high_not)) (plain.low f k home none inside);
      }

pub bool_cases : {P : Type 0} (b : Bool) → (b ≡ true → P) → (b ≡ false → P) → P
bool_cases true h k = h refl
bool_cases false h k = k refl

pub same_none : (o o' : Option ℕ) → is_some o' ≡ is_some o → o ≡ None → o' ≡ None
same_none None None e h = refl
same_none None (Some v) e h = cc
same_none (Some v) o' e h = cc

module _ (p : Problem) (l : ℕ) (m old fine fine1 fine2 : Masses) (e1 e2 : Fluxes) (stable : IsStable p) (inside : IsInside p l m) (nest : IsNest p l m fine) (synced : IsSyncedPair m fine)
    (same1 : HasSameCells fine fine1) (same2 : HasSameCells fine1 fine2) (head1 : HeadFacts p (suc l) m fine fine1 e1) (head2 : HeadFacts p (suc l) m fine1 fine2 e2) where
  exact_finer : IsExact fine fine2 e1 e2
  exact_finer = record { at = λ k there. omega (arith, ints, head1.exact k there, head2.exact k (same1.at k ∙ there)) }

  pub covered_is : (c : Cell) → is_covered fine c ≡ true → pos (mass_of m c) +ℤ net (together p l m old fine e1 e2) c ≡ pos (children_mass fine2 c)
  covered_is c covered = covered_mass p l m old fine fine2 e1 e2 exact_finer nest.children c (home_at p l c (inside.at c (nest.there c covered))) covered (synced.at c covered)

  pub together_covers : (c : Cell) → IsSome (m c) → pos 0 ≤ℤ (pos (mass_of m c) +ℤ net (together p l m old fine e1 e2) c)
  together_covers c there = bool_cases (is_covered fine c)
      (λ covered. omega (arith, ints, covered_is c covered))
      (λ uncovered. uncovered_covers p l m old fine fine1 e1 e2 stable head1.ghosts head2.ghosts (λ k none. same_none _ _ (same1.at k) none) c (inside.at c there) there (no_children fine c uncovered))

  over_head : HeadFacts p l old m (updated m (together p l m old fine e1 e2)) (together p l m old fine e1 e2)
  over_head = record {
    ghosts = together_ghosts p l m old fine e1 e2 nest;
    exact = λ c there. updated_exact m _ c there (together_covers c there);
  }

  over_synced : IsSyncedPair (updated m (together p l m old fine e1 e2)) fine2
  over_synced = record {
    at = λ c covered2.
        let covered : is_covered fine c ≡ true = sym (covered_same fine fine1 same1 c) ∙ sym (covered_same fine1 fine2 same2 c) ∙ covered2 in
        let there = nest.there c covered in
        omega (arith, ints, updated_exact m (together p l m old fine e1 e2) c there (together_covers c there), covered_is c covered);
  }

-- a level and the results of two steps of the finer ones
over_kept : (p : Problem) (l : ℕ) (m old fine : Masses) (finer ms1 ms2 : List Masses) (e1 e2 : Fluxes) → IsStable p → Nested p l (m ∷ fine ∷ finer) → IsSyncedPair m fine
    → KeepsLevels p (suc l) (fine ∷ finer) m ms1 e1 → KeepsLevels p (suc l) ms1 m ms2 e2
    → KeepsLevels p l (m ∷ fine ∷ finer) old (updated m (together p l m old fine e1 e2) ∷ ms2) (together p l m old fine e1 e2)
over_kept p l m old fine finer [] ms2 e1 e2 stable nested synced k1 k2 = absurd k1.same
over_kept p l m old fine finer (fine1 ∷ finer1) [] e1 e2 stable nested synced k1 k2 = absurd k2.same
over_kept p l m old fine finer (fine1 ∷ finer1) (fine2 ∷ finer2) e1 e2 stable nested synced k1 k2 = record {
  same = (updated_same m _, same_chain (fine ∷ finer) (fine1 ∷ finer1) (fine2 ∷ finer2) k1.same k2.same);
  synced = (over_synced p l m old fine fine1 fine2 e1 e2 stable nested.0 nested.1 synced k1.same.0 k2.same.0 k1.head k2.head, k2.synced);
  head = over_head p l m old fine fine1 fine2 e1 e2 stable nested.0 nested.1 synced k1.same.0 k2.same.0 k1.head k2.head;
}

-- ---- every step

net_none : (c : Cell) → net no_fluxes c ≡ pos 0
unfolding net
net_none c = refl

none_leaves_high : (c : ℤ) (d v : ℕ) → LeavesHigh c d v (pos 0)
none_leaves_high (pos a) d v = omega (arith, ints)
none_leaves_high (negsuc a) d v = omega (arith, ints)

none_leaves_low : (c : ℤ) (d v : ℕ) → LeavesLow c d v (pos 0)
none_leaves_low (pos a) d v = omega (arith, ints)
none_leaves_low (negsuc a) d v = omega (arith, ints)

unchanged_head : (p : Problem) (l : ℕ) (old : Masses) (ms : List Masses) → AtHead p l old ms ms no_fluxes
unchanged_head p l old [] = tt
unchanged_head p l old (m ∷ ms) = record {
  ghosts = record { high = λ f k h n i. none_leaves_high _ _ _; low = λ f k h n i. none_leaves_low _ _ _ };
  exact = λ c there. omega (arith, ints, net_none c);
}

pub step-kept : (p : Problem) (n l : ℕ) (ms : List Masses) (old : Masses) → IsStable p → Nested p l ms → Synced ms → KeepsLevels p l ms old (step_within p n l ms old).levels (step_within p n l ms old).fluxes
unfolding step_within over_finer
step-kept p zero l ms old stable nested synced = record { same = same_itself ms; synced = synced; head = unchanged_head p l old ms }
step-kept p (suc n) l [] old stable nested synced = record { same = tt; synced = tt; head = tt }
step-kept p (suc n) l (m ∷ []) old stable nested synced = top_kept p l m old stable nested
step-kept p (suc n) l (m ∷ fine ∷ finer) old stable nested synced =
    let first = step_within p n (suc l) (fine ∷ finer) m in
    let k1 : KeepsLevels p (suc l) (fine ∷ finer) m first.levels first.fluxes = step-kept p n (suc l) (fine ∷ finer) m stable nested.2 synced.1 in
    let k2 = step-kept p n (suc l) first.levels m stable (nested_same p (suc l) (fine ∷ finer) first.levels k1.same nested.2) k1.synced in
    over_kept p l m old fine finer first.levels _ first.fluxes _ stable nested synced.0 k1 k2
