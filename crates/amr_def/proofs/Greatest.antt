-- A step of all levels raises the greatest mass, counted in cells of level 0, by at most `rise`.
use Rattle.std.proofs.Common.{◌≡◌, ℕ, zero, suc, ◌+◌, ◌-◌, ◌*◌, ◌/◌, ◌^◌, ◌≤◌, Bool, true, false, cond, ℤ, pos, negsuc, ◌+ℤ◌, IsSome, refl, ap, subst, ◌∙◌, arith, List, [], ◌∷◌, length}
use Rattle.std.specs.Prelude.{unsigned_abs}
use Rattle.std.specs.declared.option.Option.{Option}
use Rattle.std.specs.declared.option.Option.TheVariants.{None, Some}
use Rattle.std.specs.Option.{unwrap_or}
use Rattle.std.proofs.lemmas.Int.{ints}
use Rattle.std.proofs.Math.Nat.{mul-le-mul_left, mul-div-le, pow-suc, div-mul-le_self}
use Rattle.amr_box.specs.declared.Cell.{Cell}
use Rattle.amr_box.specs.Cells.{parent, child}
use Rattle.amr_def.specs.declared.problem.Problem.{Problem}
use Rattle.amr_def.proofs.TwoLevels.{together}
use Rattle.amr_def.proofs.Flows.{net_is}
use Rattle.amr_def.proofs.Values.{same_cell, flow_same, value_here}
use Rattle.amr_def.proofs.Bounds.{new_mass_bounded, plain_gain}
use Rattle.amr_def.proofs.Ghosts.{ghost_value}
use Rattle.amr_def.proofs.Uncovered.{no_children, home_at}
use Rattle.amr_def.proofs.Subcycle.{SameCells, HasSameCells, KeepsLevels, HeadFacts, step-kept, nested_same, is_false, none_is, cond_none, bool_cases, same_none, uncovered_where_none, covered_is, together_covers, updated_exact, plain_covers}
use Rattle.amr_def.proofs.Raise.{Along, Flows, IsUpTo, IsForward, IsBackward, signed, flow_along, together_along, uncovered_raised}
use Rattle.amr_def.specs.State.{Masses, is_covered, mass_of, children_mass}
use Rattle.amr_box.specs.declared.Axis.TheVariants.{X, Y}
use Rattle.amr_box.proofs.Numbers.{more_and_less}
use Rattle.amr_def.specs.Flux.{face, Fluxes, net, flow, courant, low_cell, high_cell, flux_at, updated}
use Rattle.amr_def.specs.Domain.{home_cell, in_domain, domain}
use Rattle.amr_def.specs.Value.{value_at, inflow_at}
use Rattle.amr_def.specs.LevelStep.{effective, at_top, over_finer, step_within}
use Rattle.amr_def.proofs.LevelLists.{IsStable, IsInside, IsNest, IsSyncedPair, Nested, Synced}

pub record MassesUpTo (l : ℕ) (m : Masses) (b : ℕ) : Type 0 where
  pub at : (c : Cell) → 4 ^ l * mass_of m c ≤ b

pub record OldUpTo (l : ℕ) (old : Masses) (b : ℕ) : Type 0 where
  pub at : (k : Cell) → 4 ^ l * (mass_of old k / 4) ≤ b

pub record SidesUpTo (p : Problem) (b : ℕ) : Type 0 where
  pub at : (l : ℕ) (c : Cell) → inflow_at p l c ≤ b

chosen_up : (o : Option ℕ) (t : Bool) (x y w b : ℕ) → w * unwrap_or o 0 ≤ b → w * x ≤ b → w * y ≤ b → w * unwrap_or o (cond t x y) ≤ b
chosen_up (Some v) t x y w b h i k = h
chosen_up None true x y w b h i k = i
chosen_up None false x y w b h i k = k

pub values_up : (p : Problem) (l : ℕ) (m old : Masses) (b : ℕ) → MassesUpTo l m b → OldUpTo l old b → SidesUpTo p b → IsUpTo p l m old b
unfolding value_at
values_up p l m old b masses olds sides = record {
  at = λ c.
      let k = home_cell (domain p l) c in
      let side : 4 ^ l * (inflow_at p l k / 4 ^ l) ≤ b = omega (arith, mul-div-le (inflow_at p l k) (4 ^ l), sides.at l k) in
      chosen_up (m k) (in_domain (domain p l) k) _ _ (4 ^ l) b (masses.at k) (olds.at (parent k)) side;
}

pub finer_old : (l : ℕ) (m : Masses) (b : ℕ) → MassesUpTo l m b → OldUpTo (suc l) m b
finer_old l m b masses = record {
  at = λ k.
      let quarter : 4 ^ l * (mass_of m k / 4 * 4) ≤ 4 ^ l * mass_of m k = mul-le-mul_left (4 ^ l) (div-mul-le_self (mass_of m k) 4) in
      rw (pow-suc 4 l) (omega (arith, quarter, masses.at k));
}

-- ---- a higher bound

pub masses_more : (l : ℕ) (m : Masses) (a b : ℕ) → a ≤ b → MassesUpTo l m a → MassesUpTo l m b
masses_more l m a b h u = record { at = λ c. omega (arith, u.at c, h) }

pub old_more : (l : ℕ) (m : Masses) (a b : ℕ) → a ≤ b → OldUpTo l m a → OldUpTo l m b
old_more l m a b h u = record { at = λ c. omega (arith, u.at c, h) }

pub sides_more : (p : Problem) (a b : ℕ) → a ≤ b → SidesUpTo p a → SidesUpTo p b
sides_more p a b h u = record { at = λ l c. omega (arith, u.at l c, h) }

along_more : (c : ℤ) (d w a b : ℕ) (z : ℤ) → a ≤ b → Along c d w a z → Along c d w b z
along_more c d w a b z h g =
    let more : unsigned_abs c * a ≤ unsigned_abs c * b = mul-le-mul_left (unsigned_abs c) h in
    record { size = g.size; is = g.is; at_most = omega (arith, g.at_most, more) }

pub flows_more : (p : Problem) (l : ℕ) (m old : Masses) (a b : ℕ) (e : Fluxes) → a ≤ b → Flows p l m old a e → Flows p l m old b e
flows_more p l m old a b e h g = record { along = λ f. along_more _ _ _ a b _ h (g.along f); high = g.high; low = g.low }

-- ---- the fluxes of a level

flow_high_exact : (c : ℤ) (d v high : ℕ) → IsForward c → flow c d v high ≡ signed c (unsigned_abs c * v / d)
flow_high_exact (pos a) d v high h = refl
flow_high_exact (negsuc a) d v high h = absurd h

flow_low_exact : (c : ℤ) (d low v : ℕ) → IsBackward c → flow c d low v ≡ signed c (unsigned_abs c * v / d)
flow_low_exact (pos a) d low v h = absurd h
flow_low_exact (negsuc a) d low v h = refl

pub plain_flows : (p : Problem) (l : ℕ) (m old : Masses) (b : ℕ) → IsUpTo p l m old b → Flows p l m old b (flux_at p l m old)
unfolding flux_at
plain_flows p l m old b values = record {
  along = λ f. flow_along (courant p l f) p.d (4 ^ l) b _ _ (values.at (low_cell f)) (values.at (high_cell f));
  high = λ f k home none inside fwd. flow_high_exact (courant p l f) p.d _ _ fwd ∙ ap (λ (v : ℕ). signed (courant p l f) (unsigned_abs (courant p l f) * v / p.d)) (ghost_value p l m old (low_cell f) k home none inside);
  low = λ f k home none inside bwd. flow_low_exact (courant p l f) p.d _ _ bwd ∙ ap (λ (v : ℕ). signed (courant p l f) (unsigned_abs (courant p l f) * v / p.d)) (ghost_value p l m old (high_cell f) k home none inside);
}

module _ (p : Problem) (l : ℕ) (m old fine fine' : Masses) (b : ℕ) (e1 e2 : Fluxes) (nest : IsNest p l m fine) (flows1 : Flows p (suc l) fine m b e1) (flows2 : Flows p (suc l) fine' m b e2) (values : IsUpTo p l m old b) where
  together_flows : Flows p l m old b (together p l m old fine e1 e2)
  unfolding effective
  together_flows =
      let plain = plain_flows p l m old b values in
      record {
        along = together_along p l m old fine fine' b e1 e2 flows1 flows2 values;
        high = λ f k home none inside fwd.
            let low_not : is_covered fine (home_cell (domain p l) (low_cell f)) ≡ false = ap (is_covered fine) home ∙ uncovered_where_none p l m old fine e1 e2 nest k none in
            let high_not : is_covered fine (home_cell (domain p l) (high_cell f)) ≡ false = is_false _ (λ h. none_is _ (ap m home ∙ none) (nest.low f h (ap (in_domain (domain p l)) home ∙ inside))) in
            cond_none _ _ _ _ low_not high_not ∙ plain.high f k home none inside fwd;
        low = λ f k home none inside bwd.
            let high_not : is_covered fine (home_cell (domain p l) (high_cell f)) ≡ false = ap (is_covered fine) home ∙ uncovered_where_none p l m old fine e1 e2 nest k none in
            let low_not : is_covered fine (home_cell (domain p l) (low_cell f)) ≡ false = is_false _ (λ h. none_is _ (ap m home ∙ none) (nest.high f h (ap (in_domain (domain p l)) home ∙ inside))) in
            cond_none _ _ _ _ low_not high_not ∙ plain.low f k home none inside bwd;
      }

-- ---- the masses of one level after the step

some_or_none : {P : Type 0} (o : Option ℕ) → (IsSome o → P) → (o ≡ None → P) → P
some_or_none None h k = k refl
some_or_none (Some v) h k = h refl

none_left : (m : Masses) (e : Fluxes) (c : Cell) → m c ≡ None → mass_of (updated m e) c ≡ 0
unfolding updated
none_left m e c none = rw none refl

module _ (p : Problem) (l : ℕ) (m old : Masses) (b : ℕ) (stable : IsStable p) (inside : IsInside p l m) (masses : MassesUpTo l m b) (values : IsUpTo p l m old b) where
  pub plain_raised : (c : Cell) → home_cell (domain p l) c ≡ c → IsSome (m c) → (new : ℕ) → pos new ≡ pos (mass_of m c) +ℤ net (flux_at p l m old) c → 4 ^ l * new ≤ b + 14 * 4 ^ l
  unfolding flux_at courant
  plain_raised c home there new exact =
      let cx = courant p l (face X c.x c.y) in
      let cy = courant p l (face Y c.x c.y) in
      let stable_here : unsigned_abs cx + unsigned_abs cy ≤ p.d = stable.within l (home_cell (domain p l) c) in
      let own : (k : Cell) → k ≡ c → value_at p l m old k ≡ mass_of m c = λ k e. value_here p l m old k c (ap (home_cell (domain p l)) e ∙ home) there in
      let n = net_is (λ f. flux_at p l m old f) c _ _ _ _
      (flow_same cx p.d refl (own c refl)) (flow_same cx p.d (own _ (same_cell (more_and_less c.x) refl)) refl)
      (flow_same cy p.d refl (own c refl)) (flow_same cy p.d (own _ (same_cell refl (more_and_less c.y))) refl) in
      let rest : p.d ≡ unsigned_abs cx + unsigned_abs cy + (p.d - (unsigned_abs cx + unsigned_abs cy)) = omega (arith, stable_here) in
      let raised = new_mass_bounded (unsigned_abs cx) (unsigned_abs cy) _ p.d (4 ^ l) b (mass_of m c) new 1 _ _ stable.some rest (masses.at c)
      (plain_gain cx p.d (4 ^ l) b (mass_of m c) _ _ stable.some (values.at _) (values.at _))
      (plain_gain cy p.d (4 ^ l) b (mass_of m c) _ _ stable.some (values.at _) (values.at _))
      (exact ∙ ap (λ (z : ℤ). pos (mass_of m c) +ℤ z) n) in
      omega (arith, raised)

  pub top_raised : MassesUpTo l (updated m (flux_at p l m old)) (b + 14 * 4 ^ l)
  top_raised = record {
    at = λ c. some_or_none (m c)
        (λ there.
        let home = home_at p l c (inside.at c there) in
        let new = mass_of (updated m (flux_at p l m old)) c in
        let exact : pos new ≡ pos (mass_of m c) +ℤ net (flux_at p l m old) c = updated_exact m (flux_at p l m old) c there (plain_covers p l m old stable inside c there) in
        plain_raised c home there new exact)
        (λ none. omega (arith, ap (λ t. 4 ^ l * t) (none_left m (flux_at p l m old) c none)));
  }

module _ (p : Problem) (l : ℕ) (m old fine fine1 fine2 : Masses) (b : ℕ) (e1 e2 : Fluxes) (stable : IsStable p) (inside : IsInside p l m) (nest : IsNest p l m fine) (synced : IsSyncedPair m fine)
    (same1 : HasSameCells fine fine1) (same2 : HasSameCells fine1 fine2) (head1 : HeadFacts p (suc l) m fine fine1 e1) (head2 : HeadFacts p (suc l) m fine1 fine2 e2)
    (flows1 : Flows p (suc l) fine m b e1) (flows2 : Flows p (suc l) fine1 m b e2) (masses : MassesUpTo l m b) (values : IsUpTo p l m old b) (finer : MassesUpTo (suc l) fine2 b) where
  over_raised : MassesUpTo l (updated m (together p l m old fine e1 e2)) (b + 14 * 4 ^ l)
  over_raised = record {
    at = λ c.
        let e = together p l m old fine e1 e2 in
        let new = mass_of (updated m e) c in
        some_or_none (m c)
        (λ there.
        let exact : pos new ≡ pos (mass_of m c) +ℤ net e c = updated_exact m e c there (together_covers p l m old fine fine1 fine2 e1 e2 stable inside nest synced same1 same2 head1 head2 c there) in
        bool_cases (is_covered fine c)
        (λ covered.
        let sum : new ≡ children_mass fine2 c = omega (arith, ints, exact, covered_is p l m old fine fine1 fine2 e1 e2 stable inside nest synced same1 same2 head1 head2 c covered) in
        omega (arith, ap (λ t. 4 ^ l * t) sum, quarter (child c 0), quarter (child c 1), quarter (child c 2), quarter (child c 3)))
        (λ uncovered. uncovered_raised p l m old fine fine1 b e1 e2 flows1 flows2 values stable (λ k none. same_none _ _ (same1.at k) none) c (inside.at c there) there (no_children fine c uncovered) new (masses.at c) exact))
        (λ none. omega (arith, ap (λ t. 4 ^ l * t) (none_left m e c none)));
  }
    where
      quarter : (k : Cell) → 4 ^ l * 4 * mass_of fine2 k ≤ b
      quarter k = subst (λ w. w * mass_of fine2 k ≤ b) (pow-suc 4 l) (finer.at k)

-- ---- all levels

abbrev pub AllUpTo : ℕ → List Masses → ℕ → Type 0
AllUpTo l [] b = Unit {0}
AllUpTo l (m ∷ ms) b = MassesUpTo l m b × AllUpTo (suc l) ms b

pub all_more : (l : ℕ) (ms : List Masses) (a b : ℕ) → a ≤ b → AllUpTo l ms a → AllUpTo l ms b
all_more l [] a b h u = tt
all_more l (m ∷ ms) a b h u = (masses_more l m a b h u.0, all_more (suc l) ms a b h u.1)

abbrev pub HeadFlows : Problem → ℕ → List Masses → Masses → ℕ → Fluxes → Type 0
HeadFlows p l [] old b e = Unit {0}
HeadFlows p l (m ∷ ms) old b e = Flows p l m old b e

pub record IsRaised (p : Problem) (l : ℕ) (ms : List Masses) (old : Masses) (ms' : List Masses) (e : Fluxes) (b : ℕ) : Type 0 where
  pub masses : AllUpTo l ms' b
  pub flows : HeadFlows p l ms old b e

-- by how much n levels from l on may be raised
abbrev pub rise : ℕ → ℕ → ℕ
rise zero l = 0
rise (suc n) l = 2 * rise n (suc l) + 14 * 4 ^ l

pub same_length : (ms ms' : List Masses) → SameCells ms ms' → length ms' ≡ length ms
same_length [] [] s = refl
same_length [] (m' ∷ ms') s = absurd s
same_length (m ∷ ms) [] s = absurd s
same_length (m ∷ ms) (m' ∷ ms') s = ap suc (same_length ms ms' s.1)

over_all : (p : Problem) (l : ℕ) (m old fine : Masses) (finer ms1 ms2 : List Masses) (e1 e2 : Fluxes) (b r : ℕ) → IsStable p → Nested p l (m ∷ fine ∷ finer) → IsSyncedPair m fine
    → KeepsLevels p (suc l) (fine ∷ finer) m ms1 e1 → KeepsLevels p (suc l) ms1 m ms2 e2
    → IsRaised p (suc l) (fine ∷ finer) m ms1 e1 (b + r) → IsRaised p (suc l) ms1 m ms2 e2 (b + r + r)
    → MassesUpTo l m b → OldUpTo l old b → SidesUpTo p b
    → IsRaised p l (m ∷ fine ∷ finer) old (updated m (together p l m old fine e1 e2) ∷ ms2) (together p l m old fine e1 e2) (b + (2 * r + 14 * 4 ^ l))
over_all p l m old fine finer [] ms2 e1 e2 b r stable nested synced k1 k2 r1 r2 masses olds sides = absurd k1.same
over_all p l m old fine finer (fine1 ∷ finer1) [] e1 e2 b r stable nested synced k1 k2 r1 r2 masses olds sides = absurd k2.same
over_all p l m old fine finer (fine1 ∷ finer1) (fine2 ∷ finer2) e1 e2 b r stable nested synced k1 k2 r1 r2 masses olds sides =
    let top = b + r + r in
    let bigger : b ≤ top = omega arith in
    let enough : top ≤ b + (2 * r + 14 * 4 ^ l) = omega arith in
    let last : top + 14 * 4 ^ l ≤ b + (2 * r + 14 * 4 ^ l) = omega arith in
    let flows1 = flows_more p (suc l) fine m (b + r) top e1 (omega arith) r1.flows in
    let m_up = masses_more l m b top bigger masses in
    let values = values_up p l m old top m_up (old_more l old b top bigger olds) (sides_more p b top bigger sides) in
    let raised = over_raised p l m old fine fine1 fine2 top e1 e2 stable nested.0 nested.1 synced k1.same.0 k2.same.0 k1.head k2.head flows1 r2.flows m_up values r2.masses.0 in
    record {
      masses = (masses_more l _ _ _ last raised, all_more (suc l) (fine2 ∷ finer2) top _ enough r2.masses);
      flows = flows_more p l m old top _ _ enough (together_flows p l m old fine fine1 top e1 e2 nested.1 flows1 r2.flows values);
    }

pub step-raises : (p : Problem) (n l : ℕ) (ms : List Masses) (old : Masses) (b : ℕ) → length ms ≤ n → IsStable p → Nested p l ms → Synced ms → AllUpTo l ms b → OldUpTo l old b → SidesUpTo p b → IsRaised p l ms old (step_within p n l ms old).levels (step_within p n l ms old).fluxes (b + rise n l)
unfolding step_within over_finer at_top
step-raises p zero l [] old b enough stable nested synced masses olds sides = record { masses = tt; flows = tt }
step-raises p zero l (m ∷ ms) old b enough stable nested synced masses olds sides = absurd (omega arith)
step-raises p (suc n) l [] old b enough stable nested synced masses olds sides = record { masses = tt; flows = tt }
step-raises p (suc n) l (m ∷ []) old b enough stable nested synced masses olds sides =
    let values = values_up p l m old b masses.0 olds sides in
    record {
      masses = (masses_more l _ _ _ (omega arith) (top_raised p l m old b stable nested masses.0 values), tt);
      flows = flows_more p l m old b _ _ (omega arith) (plain_flows p l m old b values);
    }
step-raises p (suc n) l (m ∷ fine ∷ finer) old b enough stable nested synced masses olds sides =
    let first = step_within p n (suc l) (fine ∷ finer) m in
    let r = rise n (suc l) in
    let k1 = step-kept p n (suc l) (fine ∷ finer) m stable nested.2 synced.1 in
    let nested1 = nested_same p (suc l) (fine ∷ finer) first.levels k1.same nested.2 in
    let k2 = step-kept p n (suc l) first.levels m stable nested1 k1.synced in
    let fewer : length (fine ∷ finer) ≤ n = omega arith in
    let fewer1 : length first.levels ≤ n = omega (arith, same_length (fine ∷ finer) first.levels k1.same) in
    let below = finer_old l m b masses.0 in
    let r1 = step-raises p n (suc l) (fine ∷ finer) m b fewer stable nested.2 synced.1 masses.1 below sides in
    let r2 = step-raises p n (suc l) first.levels m (b + r) fewer1 stable nested1 k1.synced r1.masses (old_more (suc l) m b (b + r) (omega arith) below) (sides_more p b (b + r) (omega arith) sides) in
    over_all p l m old fine finer first.levels _ first.fluxes _ b r stable nested synced.0 k1 k2 r1 r2 masses.0 olds sides

-- three levels are raised by at most 1022
rise_of_three : rise 3 0 ≡ 1022
rise_of_three = refl
