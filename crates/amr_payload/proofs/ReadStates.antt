-- Bytes that pass all tests are the payload of the state that is read, and the state is sound.
use Rattle.std.proofs.Common.{◌≡◌, ℕ, zero, suc, ◌+◌, ◌-◌, ◌*◌, ◌^◌, ◌<◌, ◌≤◌, Bool, true, false, not, ◌&&◌, ◌||◌, List, [], ◌∷◌, ◌++◌, length, get_or, take, drop, refl, sym, ap, subst, ◌∙◌, arith, flat_map, All, nat_le, ◌==◌, mul-zero, append-nil, append_assoc, if◌then◌else◌}
use Rattle.std.specs.Int.{Width, w8, w32}
use Rattle.std.specs.declared.result.Result.TheVariants.{Ok, Err}
use Rattle.std.proofs.lemmas.Bool.{and_parts, leb-true, eqb-true}
use Rattle.amr_box.specs.declared.Cell.{Cell}
use Rattle.amr_box.specs.Cells.{Extent, in_boxes}
use Rattle.amr_def.specs.declared.problem.Problem.{Problem}
use Rattle.amr_def.specs.declared.problem.Row.{Row}
use Rattle.amr_def.specs.Limits.{between}
use Rattle.amr_def.specs.Domain.{Domain, domain, domain_box, in_domain, is_near}
use Rattle.amr_def.specs.State.{Masses, Level, State, no_level, level_at, mass_of, is_covered, is_covered_by, children_mass}
use Rattle.amr_def.specs.Ledger.{total_mass}
use Rattle.amr_def.specs.Facts.{IsAligned, IsLevel, IsNestedLevel, IsTelescoped, IsSmallRow, IsSound, growth, no_row, row_at}
use Rattle.amr_def.proofs.Nesting.{covered_inside}
use Rattle.amr_def.proofs.Uncovered.{domain_box_cells, in_domain-yes}
use Rattle.amr_payload.specs.Payload.{IsMassWidth, Form, Basis, alone, number_bytes, row_bytes, level_bytes, levels_bytes, state_bytes, payload}
use Rattle.amr_payload.specs.Tests.{Left, Reading, bad, read, then_read, tested, read_also, read_number, read_ledger, read_step, read_level, read_finer, read_all_finer, read_levels, read_state, decoded, nothing_follows, surrounds, is_in_sync, is_in_balance, row_place, level_of}
use Rattle.amr_payload.proofs.Readings.{left, AreBytes, are_bytes, was_read, was_tested, also_read, Took, took_then, took_none, took_same}
use Rattle.amr_payload.proofs.Numbers.{code_8, code_32}
use Rattle.amr_payload.proofs.Forms.{IsForm, whole_form}
use Rattle.amr_payload.proofs.Fields.{read_rest, IsChain, IsLedger, CanStand, ledger_took}
use Rattle.amr_payload.proofs.Grids.{grids_bytes, IsLevelRead, level_took}
use Rattle.amr_payload.proofs.Places.{any_cell}
use Rattle.amr_payload.proofs.GridLevels.{all_from, level_written, is_level, level_bounded, all_aligned, base_boxes}

-- ---- two levels

on_true : (a b : Bool) → (not a || b) ≡ true → a ≡ true → b ≡ true
on_true true b h is = h
on_true false b h is = absurd (cc)

pub surrounds_at : (d : Domain) (coarse fine : List Extent) (c : Cell) → surrounds d coarse fine ≡ true → in_domain d c ≡ true → is_near d 1 (is_covered_by fine) c ≡ true → in_boxes coarse c ≡ true
surrounds_at d coarse fine c h inside near =
    on_true (is_near d 1 (is_covered_by fine) c) (in_boxes coarse c)
    (any_cell (λ c. not (is_near d 1 (is_covered_by fine) c) || in_boxes coarse c) (domain_box d) c h (domain_box_cells d c ∙ inside)) near

pub in_sync_at : (d : Domain) (coarse fine : Masses) (c : Cell) → is_in_sync d coarse fine ≡ true → in_domain d c ≡ true → is_covered fine c ≡ true → mass_of coarse c ≡ children_mass fine c
in_sync_at d coarse fine c h inside covered =
    eqb-true (mass_of coarse c) (children_mass fine c) (on_true (is_covered fine c) (mass_of coarse c == children_mass fine c)
    (any_cell (λ c. not (is_covered fine c) || (mass_of coarse c == children_mass fine c)) (domain_box d) c h (domain_box_cells d c ∙ inside)) covered)

abbrev pub bound : Problem → ℕ → ℕ
bound p n = 2 ^ 30 + growth p.max_level * (n + 1)

-- a level that was read, and one over another
pub record IsGood (p : Problem) (n l : ℕ) (k : Level) : Type 0 where
  pub level : IsLevel p l k
  pub bounded : (c : Cell) → 4 ^ l * mass_of k.masses c ≤ bound p n

pub record IsOver (p : Problem) (n l : ℕ) (below k : Level) : Type 0 where
  pub good : IsGood p n (suc l) k
  pub aligned : All (IsAligned p.blocking) k.boxes
  pub around : surrounds (domain p l) below.boxes k.boxes ≡ true
  pub sync : is_in_sync (domain p l) below.masses k.masses ≡ true

abbrev pub IsTower : Problem → ℕ → ℕ → Level → List Level → Type 0
IsTower p n l below [] = Unit {0}
IsTower p n l below (k ∷ ks) = IsOver p n l below k × IsTower p n (suc l) k ks

module _ (p : Problem) (n : ℕ) where
  nested_level : (l : ℕ) (below k : Level) → IsOver p n l below k → IsNestedLevel p l below k
  nested_level l below k h = record { aligned = h.aligned; around = λ c inside near. surrounds_at (domain p l) below.boxes k.boxes c h.around inside near }

  synced_level : (l : ℕ) (below k : Level) → IsLevel p l below → IsOver p n l below k → (c : Cell) → is_covered k.masses c ≡ true → mass_of below.masses c ≡ children_mass k.masses c
  synced_level l below k level h c covered =
      in_sync_at (domain p l) below.masses k.masses c h.sync (in_domain-yes p l c (covered_inside p l below k level h.good.level (nested_level l below k h) c covered)) covered

  each_level : (l : ℕ) (below : Level) (ks : List Level) → IsLevel p l below → IsTower p n l below ks → (i : ℕ) → i < suc (length ks) → IsLevel p (l + i) (get_or (below ∷ ks) i no_level)
  each_level l below ks level h zero inside = subst (λ (l : ℕ). IsLevel p l below) (omega arith) level
  each_level l below [] level h (suc i) inside = absurd (omega arith)
  each_level l below (k ∷ ks) level h (suc i) inside =
      let more = each_level (suc l) k ks h.0.good.level h.1 i (omega arith) in
      let same : suc l + i ≡ l + suc i = omega arith in
      subst (λ (m : ℕ). IsLevel p m (get_or (k ∷ ks) i no_level)) same more

  each_pair : (l : ℕ) (below : Level) (ks : List Level) → IsTower p n l below ks → (i : ℕ) → i + 1 < suc (length ks) → IsOver p n (l + i) (get_or (below ∷ ks) i no_level) (get_or (below ∷ ks) (i + 1) no_level)
  each_pair l below [] h i inside = absurd (omega arith)
  each_pair l below (k ∷ ks) h zero inside = let same : l ≡ l + 0 = omega arith in subst (λ (m : ℕ). IsOver p n m below k) same h.0
  each_pair l below (k ∷ ks) h (suc i) inside =
      let more = each_pair (suc l) k ks h.1 i (omega arith) in
      let same : suc l + i ≡ l + suc i = omega arith in
      let next : get_or (k ∷ ks) (i + 1) no_level ≡ get_or (below ∷ k ∷ ks) (suc i + 1) no_level = at_same (i + 1) (suc i + 1) (omega arith) in
      subst (λ (m : ℕ). IsOver p n m (get_or (k ∷ ks) i no_level) (get_or (below ∷ k ∷ ks) (suc i + 1) no_level)) same
      (subst (λ (e : Level). IsOver p n (suc l + i) (get_or (k ∷ ks) i no_level) e) next more)
    where
      at_same : (j m : ℕ) → m ≡ suc j → get_or (k ∷ ks) j no_level ≡ get_or (below ∷ k ∷ ks) m no_level
      at_same j m e = sym (ap (λ m. get_or (below ∷ k ∷ ks) m no_level) e)

  each_bounded : (l : ℕ) (below : Level) (ks : List Level) → IsGood p n l below → IsTower p n l below ks → (i : ℕ) (c : Cell) → 4 ^ (l + i) * mass_of (get_or (below ∷ ks) i no_level).masses c ≤ bound p n
  each_bounded l below ks good h zero c = let same : l ≡ l + 0 = omega arith in subst (λ (m : ℕ). 4 ^ m * mass_of below.masses c ≤ bound p n) same (good.bounded c)
  each_bounded l below [] good h (suc i) c = omega (arith, mul-zero (4 ^ (l + suc i)))
  each_bounded l below (k ∷ ks) good h (suc i) c =
      let more = each_bounded (suc l) k ks h.0.good h.1 i c in
      let same : suc l + i ≡ l + suc i = omega arith in
      subst (λ (m : ℕ). 4 ^ m * mass_of (get_or (k ∷ ks) i no_level).masses c ≤ bound p n) same more

  -- from level 0 on
  from_base : (base : Level) (ks : List Level) → IsLevel p 0 base → IsTower p n 0 base ks → (l : ℕ) → l < suc (length ks) → IsLevel p l (get_or (base ∷ ks) l no_level)
  from_base base ks level h l inside = let same : 0 + l ≡ l = omega arith in subst (λ (m : ℕ). IsLevel p m (get_or (base ∷ ks) l no_level)) same (each_level 0 base ks level h l inside)

  pair_from_base : (base : Level) (ks : List Level) → IsTower p n 0 base ks → (l : ℕ) → l + 1 < suc (length ks) → IsOver p n l (get_or (base ∷ ks) l no_level) (get_or (base ∷ ks) (l + 1) no_level)
  pair_from_base base ks h l inside = let same : 0 + l ≡ l = omega arith in subst (λ (m : ℕ). IsOver p n m (get_or (base ∷ ks) l no_level) (get_or (base ∷ ks) (l + 1) no_level)) same (each_pair 0 base ks h l inside)

  bounded_from_base : (base : Level) (ks : List Level) → IsGood p n 0 base → IsTower p n 0 base ks → (l : ℕ) (c : Cell) → 4 ^ l * mass_of (get_or (base ∷ ks) l no_level).masses c ≤ bound p n
  bounded_from_base base ks good h l c = let same : 0 + l ≡ l = omega arith in subst (λ (m : ℕ). 4 ^ m * mass_of (get_or (base ∷ ks) l no_level).masses c ≤ bound p n) same (each_bounded 0 base ks good h l c)

-- ---- reading levels

module _ (fs : ℕ → Form) (p : Problem) (n : ℕ) (forms : (l : ℕ) → IsForm (fs l) p n l) where
  pub record IsGoodRead (l : ℕ) (k : Level) (r e : Left) : Type 0 where
    pub took : Took (level_bytes (fs l) k) r e
    pub good : IsGood p n l k

  good_read : (l : ℕ) (r e : Left) (k : Level) → IsLevelRead (fs l) p n l (forms l) k r e → IsGoodRead l k r e
  good_read l r e k h = subst (λ (k : Level). IsGoodRead l k r e) h.is (record {
    took = took_same (grids_bytes (fs l) h.grids) (level_bytes (fs l) (level_of h.grids)) r e e (sym (level_written (fs l) p n l h.grids h.count h.each)) refl h.took;
    good = record { level = is_level p n l h.grids h.count h.each; bounded = λ c. level_bounded p n l h.grids c h.each };
  })

  pub record IsFinerRead (l : ℕ) (below k : Level) (r e : Left) : Type 0 where
    pub took : Took (level_bytes (fs (suc l)) k) r e
    pub over : IsOver p n l below k

  finer_took : (l : ℕ) (below : Level) (r e : Left) (k : Level) → AreBytes r.bytes → read_finer (fs (suc l)) p n l below r ≡ read k e → IsFinerRead l below k r e
  unfolding read_finer
  finer_took l below r e k small h =
      let a = was_read (read_level (fs (suc l)) p n (suc l) r) (λ k a. tested (surrounds (domain p l) below.boxes k.boxes && is_in_sync (domain p l) below.masses k.masses) r.place k a) k e h in
      let one = level_took (fs (suc l)) p n (suc l) (forms (suc l)) r a.rest a.value small a.first in
      let test = was_tested (surrounds (domain p l) below.boxes a.value.boxes && is_in_sync (domain p l) below.masses a.value.masses) r.place a.value k a.rest e a.second in
      let parts = and_parts (surrounds (domain p l) below.boxes a.value.boxes) (is_in_sync (domain p l) below.masses a.value.masses) test.passes in
      let good = good_read (suc l) r a.rest a.value one in
      let aligned : All (IsAligned p.blocking) a.value.boxes = subst (λ (k : Level). All (IsAligned p.blocking) k.boxes) one.is (all_aligned p n l one.grids one.each) in
      subst (λ (k : Level). IsFinerRead l below k r e) test.value (record {
        took = took_same (level_bytes (fs (suc l)) a.value) (level_bytes (fs (suc l)) a.value) r a.rest e refl test.rest good.took;
        over = record { good = good.good; aligned = aligned; around = parts.0; sync = parts.1 };
      })

  pub record AreFinerRead (t l : ℕ) (below : Level) (ks : List Level) (r e : Left) : Type 0 where
    pub took : Took (levels_bytes fs (suc l) ks) r e
    pub count : length ks ≡ t
    pub tower : IsTower p n l below ks

  all_finer_took : (t l : ℕ) (below : Level) (r e : Left) (ks : List Level) → AreBytes r.bytes → read_all_finer fs p n t l below r ≡ read ks e → AreFinerRead t l below ks r e
  all_finer_took zero l below r e [] small h = record { took = took_same [] [] r r e refl (read_rest [] [] r e h) (took_none r small); count = refl; tower = tt }
  all_finer_took zero l below r e (k ∷ ks) small h = absurd (cc)
  all_finer_took (suc t) l below r e ks small h =
      let a = was_read (read_finer (fs (suc l)) p n l below r) (λ k a. read_also k (read_all_finer fs p n t (suc l) k a)) ks e h in
      let one = finer_took l below r a.rest a.value small a.first in
      let others = also_read a.value (read_all_finer fs p n t (suc l) a.value a.rest) ks e a.second in
      let more = all_finer_took t (suc l) a.value a.rest e others.others one.took.small others.first in
      subst (λ (ks : List Level). AreFinerRead (suc t) l below ks r e) (sym others.all) (record {
        took = took_then (level_bytes (fs (suc l)) a.value) (levels_bytes fs (suc (suc l)) others.others) r a.rest e one.took more.took;
        count = ap (λ t. suc t) more.count;
        tower = (one.over, more.tower);
      })

  -- a level 0 and finer ones over it
  pub record AreLevelsRead (ks : List Level) (r e : Left) : Type 0 where
    pub base : Level
    pub finer : List Level
    pub is : ks ≡ base ∷ finer
    pub took : Took (number_bytes w8 (length ks) ++ levels_bytes fs 0 ks) r e
    pub few : length ks ≤ p.max_level + 1
    pub good : IsGood p n 0 base
    pub boxes : base.boxes ≡ domain_box (domain p 0) ∷ []
    pub tower : IsTower p n 0 base finer

  pub levels_took : (r e : Left) (ks : List Level) → AreBytes r.bytes → read_levels fs p n r ≡ read ks e → AreLevelsRead ks r e
  unfolding read_levels
  levels_took r e ks small h =
      let a = was_read (read_number w8 r) (λ t a. then_read (tested (between 1 (p.max_level + 1) t) r.place t a) (λ t a. then_read (read_level (fs 0) p n 0 a) (λ k b. read_also k (read_all_finer fs p n (t - 1) 0 k b)))) ks e h in
      let t = was_read (tested (between 1 (p.max_level + 1) a.value) r.place a.value a.rest) (λ t a. then_read (read_level (fs 0) p n 0 a) (λ k b. read_also k (read_all_finer fs p n (t - 1) 0 k b))) ks e a.second in
      let test = was_tested (between 1 (p.max_level + 1) a.value) r.place a.value t.value a.rest t.rest t.first in
      let b = was_read (read_level (fs 0) p n 0 t.rest) (λ k b. read_also k (read_all_finer fs p n (t.value - 1) 0 k b)) ks e t.second in
      let others = also_read b.value (read_all_finer fs p n (t.value - 1) 0 b.value b.rest) ks e b.second in
      let number = took_same (number_bytes w8 a.value) (number_bytes w8 t.value) r a.rest t.rest (ap (λ m. number_bytes w8 m) test.value) test.rest (code_8.took r a.rest a.value small a.first) in
      let one = level_took (fs 0) p n 0 (forms 0) t.rest b.rest b.value number.small b.first in
      let good = good_read 0 t.rest b.rest b.value one in
      let more = all_finer_took (t.value - 1) 0 b.value b.rest e others.others good.took.small others.first in
      let parts = and_parts (nat_le 1 a.value) (nat_le a.value (p.max_level + 1)) test.passes in
      let some : 1 ≤ a.value = leb-true 1 a.value parts.0 in
      let few : a.value ≤ p.max_level + 1 = leb-true a.value (p.max_level + 1) parts.1 in
      let count : length (b.value ∷ others.others) ≡ t.value = omega (arith, more.count, test.value, some) in
      subst (λ (ks : List Level). AreLevelsRead ks r e) (sym others.all) (record {
        base = b.value;
        finer = others.others;
        is = refl;
        took = took_then (number_bytes w8 (length (b.value ∷ others.others))) (level_bytes (fs 0) b.value ++ levels_bytes fs 1 others.others) r t.rest e
            (took_same (number_bytes w8 t.value) (number_bytes w8 (length (b.value ∷ others.others))) r t.rest t.rest (ap (λ m. number_bytes w8 m) (sym count)) refl number)
            (took_then (level_bytes (fs 0) b.value) (levels_bytes fs 1 others.others) t.rest b.rest e good.took more.took);
        few = omega (arith, count, test.value, few);
        good = good.good;
        boxes = subst (λ (k : Level). k.boxes ≡ domain_box (domain p 0) ∷ []) one.is (base_boxes p n one.grids one.count one.each);
        tower = more.tower;
      })

-- ---- the ledger

chained : (before : Row) (vs : List Row) → IsChain before vs → (k : ℕ) → k < length vs → (get_or (before ∷ vs) (k + 1) no_row).mass + (get_or (before ∷ vs) (k + 1) no_row).outflow ≡ (get_or (before ∷ vs) k no_row).mass + (get_or (before ∷ vs) (k + 1) no_row).inflow
chained before [] h k inside = absurd (omega arith)
chained before (v ∷ vs) h zero inside = eqb-true (v.mass + v.outflow) (before.mass + v.inflow) h.0
chained before (v ∷ vs) h (suc k) inside = next (k + 1) (suc k + 1) (omega arith) (chained v vs h.1 k (omega arith))
  where
    next : (i j : ℕ) → j ≡ suc i → (get_or (v ∷ vs) i no_row).mass + (get_or (v ∷ vs) i no_row).outflow ≡ (get_or (v ∷ vs) k no_row).mass + (get_or (v ∷ vs) i no_row).inflow
        → (get_or (before ∷ v ∷ vs) j no_row).mass + (get_or (before ∷ v ∷ vs) j no_row).outflow ≡ (get_or (v ∷ vs) k no_row).mass + (get_or (before ∷ v ∷ vs) j no_row).inflow
    next i j e h = subst (λ (j : ℕ). (get_or (before ∷ v ∷ vs) j no_row).mass + (get_or (before ∷ v ∷ vs) j no_row).outflow ≡ (get_or (v ∷ vs) k no_row).mass + (get_or (before ∷ v ∷ vs) j no_row).inflow) (sym e) h

telescoped : (p : Problem) (s : State) → length s.rows ≡ s.step + 1 → IsLedger s.rows → is_in_balance p s ≡ true → IsTelescoped p s
telescoped p s count ledger balance = by_rows s.rows refl count ledger
  where
    last : (row_at s s.step).mass ≡ total_mass p (level_at s 0).masses
    last = eqb-true (row_at s s.step).mass (total_mass p (level_at s 0).masses) balance

    by_rows : (vs : List Row) → s.rows ≡ vs → length vs ≡ s.step + 1 → IsLedger vs → IsTelescoped p s
    by_rows [] is count ledger = absurd ledger
    by_rows (v ∷ vs) is count ledger =
        let flows = and_parts (v.inflow == 0) (v.outflow == 0) ledger.0 in
        record {
          count = ap (λ (rs : List Row). length rs) is ∙ count;
          no_inflow = ap (λ (rs : List Row). (get_or rs 0 no_row).inflow) is ∙ eqb-true v.inflow 0 flows.0;
          no_outflow = ap (λ (rs : List Row). (get_or rs 0 no_row).outflow) is ∙ eqb-true v.outflow 0 flows.1;
          each = λ k before. subst (λ (rs : List Row). (get_or rs (k + 1) no_row).mass + (get_or rs (k + 1) no_row).outflow ≡ (get_or rs k no_row).mass + (get_or rs (k + 1) no_row).inflow) (sym is) (chained v vs ledger.1 k (omega (arith, count)));
          last = last;
        }

-- ---- the state

state_of : ℕ → List Row → List Level → State
state_of n rows levels = record { step = n; rows = rows; levels = levels }

-- what a state can be read and written on
pub record IsBasis (on : Basis) (p : Problem) : Type 0 where
  pub forms : (n l : ℕ) → length on.rows ≤ n → IsForm (on.forms l) p n l
  pub rows : CanStand on.rows

pub record IsStateRead (on : Basis) (p : Problem) (s : State) (r e : Left) : Type 0 where
  pub took : Took (state_bytes on s) r e
  pub sound : IsSound p s
  pub step : length on.rows ≤ s.step
  pub older : take (length on.rows) s.rows ≡ on.rows

sound_state : (p : Problem) (s : State) (base : Level) (finer : List Level) → s.levels ≡ base ∷ finer → s.step ≤ p.steps → length s.levels ≤ p.max_level + 1
    → IsGood p s.step 0 base → base.boxes ≡ domain_box (domain p 0) ∷ [] → IsTower p s.step 0 base finer → IsTelescoped p s → All IsSmallRow s.rows → IsSound p s
sound_state p s base finer is within few good boxes tower ledger small =
    record {
      within = within;
      base = ap (λ (ks : List Level). (get_or ks 0 no_level).boxes) is ∙ boxes;
      some_level = let some : length s.levels ≡ suc (length finer) = ap (λ (ks : List Level). length ks) is in omega arith;
      few_levels = few;
      nested = record {
        each = λ l inside. subst (λ (ks : List Level). l < length ks → IsLevel p l (get_or ks l no_level)) (sym is) (λ inside. from_base p s.step base finer good.level tower l inside) inside;
        nested = λ l inside. subst (λ (ks : List Level). l + 1 < length ks → IsNestedLevel p l (get_or ks l no_level) (get_or ks (l + 1) no_level)) (sym is)
            (λ inside. nested_level p s.step l (get_or (base ∷ finer) l no_level) (get_or (base ∷ finer) (l + 1) no_level) (pair_from_base p s.step base finer tower l inside)) inside;
      };
      synced = record {
        at = λ l c inside covered. subst (λ (ks : List Level). l + 1 < length ks → is_covered (get_or ks (l + 1) no_level).masses c ≡ true → mass_of (get_or ks l no_level).masses c ≡ children_mass (get_or ks (l + 1) no_level).masses c) (sym is)
            (λ inside covered. synced_level p s.step l (get_or (base ∷ finer) l no_level) (get_or (base ∷ finer) (l + 1) no_level) (from_base p s.step base finer good.level tower l (omega arith)) (pair_from_base p s.step base finer tower l inside) c covered) inside covered;
      };
      bounded = record { at = λ l c. subst (λ (ks : List Level). 4 ^ l * mass_of (get_or ks l no_level).masses c ≤ bound p s.step) (sym is) (bounded_from_base p s.step base finer good tower l c) };
      telescoped = ledger;
      small_rows = small;
    }

pub state_took : (on : Basis) (p : Problem) (r e : Left) (s : State) → IsBasis on p → AreBytes r.bytes → read_state on p r ≡ read s e → IsStateRead on p s r e
unfolding read_state read_step state_bytes state_of
state_took on p r e s basis small h =
    let before : ℕ = length on.rows in
    let last = λ (place n : ℕ) (rows : List Row) (levels : List Level) (c : Left). tested (is_in_balance p (state_of n rows levels)) (row_place place before n) (state_of n rows levels) c in
    let a = was_read (read_step p before r) (λ n a. then_read (read_ledger on.rows n a) (λ rows b. then_read (read_levels on.forms p n b) (λ levels c. last a.place n rows levels c))) s e h in
    let t = was_read (read_number w32 r) (λ n a. tested (between before p.steps n) r.place n a) a.value a.rest a.first in
    let step = was_tested (between before p.steps t.value) r.place t.value a.value t.rest a.rest t.second in
    let number = took_same (number_bytes w32 t.value) (number_bytes w32 a.value) r t.rest a.rest (ap (λ m. number_bytes w32 m) step.value) step.rest (code_32.took r t.rest t.value small t.first) in
    let ends = and_parts (nat_le before t.value) (nat_le t.value p.steps) step.passes in
    let after : before ≤ t.value = leb-true before t.value ends.0 in
    let within : t.value ≤ p.steps = leb-true t.value p.steps ends.1 in
    let later : before ≤ a.value = omega (arith, after, step.value) in
    let b = was_read (read_ledger on.rows a.value a.rest) (λ rows b. then_read (read_levels on.forms p a.value b) (λ levels c. last a.rest.place a.value rows levels c)) s e a.second in
    let rows = ledger_took on.rows a.value a.rest b.rest b.value basis.rows later number.small b.first in
    let c = was_read (read_levels on.forms p a.value b.rest) (λ levels c. last a.rest.place a.value b.value levels c) s e b.second in
    let levels = levels_took on.forms p a.value (λ l. basis.forms a.value l later) b.rest c.rest c.value rows.took.small c.first in
    let read_one = state_of a.value b.value c.value in
    let test = was_tested (is_in_balance p read_one) (row_place a.rest.place before a.value) read_one s c.rest e c.second in
    let new_rows = flat_map row_bytes (drop before b.value) in
    subst (λ (s : State). IsStateRead on p s r e) test.value (record {
      took = took_same (state_bytes on read_one) (state_bytes on read_one) r c.rest e refl test.rest
          (regroup (number_bytes w32 a.value) new_rows (number_bytes w8 (length c.value)) (levels_bytes on.forms 0 c.value) r c.rest
          (took_then (number_bytes w32 a.value ++ new_rows) (number_bytes w8 (length c.value) ++ levels_bytes on.forms 0 c.value) r b.rest c.rest
          (took_then (number_bytes w32 a.value) new_rows r a.rest b.rest number rows.took) levels.took));
      sound = sound_state p read_one levels.base levels.finer levels.is (omega (arith, within, step.value)) levels.few levels.good levels.boxes levels.tower
          (telescoped p read_one rows.count rows.ledger test.passes) (all_from IsSmallRow b.value rows.small);
      step = later;
      older = rows.older;
    })
  where
    regroup : (a b c d : List ℕ) (r e : Left) → Took (a ++ b ++ (c ++ d)) r e → Took (a ++ b ++ c ++ d) r e
    regroup a b c d r e t = took_same (a ++ b ++ (c ++ d)) (a ++ b ++ c ++ d) r e e (sym (append_assoc (a ++ b) c d)) refl t

-- a reading to the end of the bytes
pub record IsReadToEnd {A : Type 0} (q : Reading A) (a : A) : Type 0 where
  pub rest : Left
  pub first : q ≡ read a rest
  pub none : rest.bytes ≡ []

pub read_to_end : {A : Type 0} (q : Reading A) (a : A) → nothing_follows q ≡ Ok a → IsReadToEnd q a
read_to_end (bad place) a h = absurd (cc)
read_to_end (read b e) a h = by_end (length e.bytes == 0) refl h
  where
    none_left : (bs : List ℕ) → (length bs == 0) ≡ true → bs ≡ []
    none_left [] h = refl
    none_left (b ∷ bs) h = let none : suc (length bs) ≡ 0 = eqb-true (suc (length bs)) 0 h in absurd (omega arith)

    by_end : (z : Bool) → (length e.bytes == 0) ≡ z → (if z then Ok b else Err e.place) ≡ Ok a → IsReadToEnd (read b e) a
    by_end true ends h = record { rest = e; first = let same : b ≡ a = cc in ap (λ a. read a e) same; none = none_left e.bytes ends }
    by_end false ends h = absurd (cc)

-- ---- a payload

pub alone_basis : (w : Width) (p : Problem) → IsMassWidth w → IsBasis (alone w) p
alone_basis w p width = record { forms = λ n l after. whole_form w p n l width; rows = tt }

pub record IsDecoded (w : Width) (p : Problem) (s : State) (bytes : List ℕ) : Type 0 where
  pub is : bytes ≡ payload w s
  pub sound : IsSound p s

pub decoded_is : (w : Width) (p : Problem) (s : State) (bytes : List ℕ) → IsMassWidth w → All (λ b. b < 256) bytes → decoded w p bytes ≡ Ok s → IsDecoded w p s bytes
unfolding decoded
decoded_is w p s bytes width small h =
    let all = read_to_end (read_state (alone w) p (left 0 bytes)) s h in
    let r = state_took (alone w) p (left 0 bytes) all.rest s (alone_basis w p width) (are_bytes bytes small) all.first in
    record { is = r.took.is ∙ ap (λ (bs : List ℕ). payload w s ++ bs) all.none ∙ append-nil (payload w s); sound = r.sound }
