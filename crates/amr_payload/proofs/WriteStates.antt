-- A sound state is read back from its payload, which fits a slot.
use Rattle.std.proofs.Common.{◌≡◌, ℕ, suc, ◌+◌, ◌-◌, ◌^◌, ◌<◌, ◌≤◌, true, List, [], ◌∷◌, ◌++◌, length, get_or, take, drop, refl, sym, ap, subst, ◌∙◌, arith, flat_map, nat_le, ◌==◌, append_assoc, append-nil}
use Rattle.std.specs.Int.{Width, w8, w32}
use Rattle.std.specs.declared.result.Result.{Result}
use Rattle.std.specs.declared.result.Result.TheVariants.{Ok}
use Rattle.std.proofs.lemmas.Bool.{and_from, le-leb, eq-eqb}
use Rattle.amr_def.specs.declared.problem.Problem.{Problem}
use Rattle.amr_def.specs.declared.problem.Row.{Row}
use Rattle.amr_def.specs.Limits.{between}
use Rattle.amr_def.specs.Domain.{domain, domain_box}
use Rattle.amr_def.specs.State.{Level, State, no_level, level_at}
use Rattle.amr_def.specs.Ledger.{total_mass}
use Rattle.amr_def.specs.Facts.{IsSmallRow, IsSound, no_row, row_at}
use Rattle.amr_def.proofs.Totals.{bound_small}
use Rattle.amr_payload.specs.Payload.{IsMassWidth, Form, Basis, alone, number_bytes, row_bytes, level_bytes, levels_bytes, state_bytes, payload}
use Rattle.amr_payload.specs.Tests.{Left, Reading, then_read, tested, read_also, read_number, read_ledger, read_step, read_level, read_all_finer, read_levels, read_state, decoded, nothing_follows, is_in_balance, row_place}
use Rattle.amr_payload.proofs.Readings.{left, Gives, gives_then, gives_tested, gives_also, gives_at}
use Rattle.amr_payload.proofs.Numbers.{code_8, code_32}
use Rattle.amr_payload.proofs.Forms.{IsForm}
use Rattle.amr_payload.proofs.Fields.{IsChain, IsLedger, ledger_gives}
use Rattle.amr_payload.proofs.ReadStates.{bound, IsGood, IsOver, IsTower, IsBasis, alone_basis}
use Rattle.amr_payload.proofs.WriteLevels.{each_from, base_back, all_finer_back, over_from}

-- ---- the ledger

chain_from : (before : Row) (vs : List Row) → ((k : ℕ) → k < length vs → (get_or (before ∷ vs) (k + 1) no_row).mass + (get_or (before ∷ vs) (k + 1) no_row).outflow ≡ (get_or (before ∷ vs) k no_row).mass + (get_or (before ∷ vs) (k + 1) no_row).inflow) → IsChain before vs
chain_from before [] h = tt
chain_from before (v ∷ vs) h = (
  eq-eqb (v.mass + v.outflow) (before.mass + v.inflow) (h 0 (omega arith)),
  chain_from v vs (λ k inside. next (suc k + 1) (k + 1) k (omega arith) (h (suc k) (omega arith))),
)
  where
    next : (j i k : ℕ) → j ≡ suc i → (get_or (before ∷ v ∷ vs) j no_row).mass + (get_or (before ∷ v ∷ vs) j no_row).outflow ≡ (get_or (v ∷ vs) k no_row).mass + (get_or (before ∷ v ∷ vs) j no_row).inflow
        → (get_or (v ∷ vs) i no_row).mass + (get_or (v ∷ vs) i no_row).outflow ≡ (get_or (v ∷ vs) k no_row).mass + (get_or (v ∷ vs) i no_row).inflow
    next j i k e h = subst (λ (j : ℕ). (get_or (before ∷ v ∷ vs) j no_row).mass + (get_or (before ∷ v ∷ vs) j no_row).outflow ≡ (get_or (v ∷ vs) k no_row).mass + (get_or (before ∷ v ∷ vs) j no_row).inflow) e h

pub ledger_from : (rs : List Row) (n : ℕ) → length rs ≡ n + 1 → (get_or rs 0 no_row).inflow ≡ 0 → (get_or rs 0 no_row).outflow ≡ 0
    → ((k : ℕ) → k < n → (get_or rs (k + 1) no_row).mass + (get_or rs (k + 1) no_row).outflow ≡ (get_or rs k no_row).mass + (get_or rs (k + 1) no_row).inflow) → IsLedger rs
ledger_from [] n count no_in no_out each = absurd (omega arith)
ledger_from (v ∷ vs) n count no_in no_out each = (
  and_from (v.inflow == 0) (v.outflow == 0) (eq-eqb v.inflow 0 no_in) (eq-eqb v.outflow 0 no_out),
  chain_from v vs (λ k inside. each k (omega arith)),
)

-- ---- the levels

tower_from : (p : Problem) (n l : ℕ) (below : Level) (ks : List Level) → ((i : ℕ) → i + 1 < suc (length ks) → IsOver p n (l + i) (get_or (below ∷ ks) i no_level) (get_or (below ∷ ks) (i + 1) no_level)) → IsTower p n l below ks
tower_from p n l below [] h = tt
tower_from p n l below (k ∷ ks) h = (
  let same : l + 0 ≡ l = omega arith in subst (λ (m : ℕ). IsOver p n m below k) same (h 0 (omega arith)),
  tower_from p n (suc l) k ks (λ i inside. next i (l + suc i) (suc l + i) (suc i + 1) (i + 1) (omega arith) (omega arith) (h (suc i) (omega arith))),
)
  where
    next : (i a b j m : ℕ) → a ≡ b → j ≡ suc m → IsOver p n a (get_or (k ∷ ks) i no_level) (get_or (below ∷ k ∷ ks) j no_level) → IsOver p n b (get_or (k ∷ ks) i no_level) (get_or (k ∷ ks) m no_level)
    next i a b j m e f h = subst (λ (b : ℕ). IsOver p n b (get_or (k ∷ ks) i no_level) (get_or (k ∷ ks) m no_level)) e (subst (λ (j : ℕ). IsOver p n a (get_or (k ∷ ks) i no_level) (get_or (below ∷ k ∷ ks) j no_level)) f h)

pub record HasTower (p : Problem) (s : State) : Type 0 where
  pub base : Level
  pub finer : List Level
  pub is : s.levels ≡ base ∷ finer
  pub good : IsGood p s.step 0 base
  pub boxes : base.boxes ≡ domain_box (domain p 0) ∷ []
  pub tower : IsTower p s.step 0 base finer
  pub few : length (base ∷ finer) ≤ p.max_level + 1

good_at : (p : Problem) (s : State) → IsSound p s → (l : ℕ) → l < length s.levels → IsGood p s.step l (level_at s l)
good_at p s sound l inside = record { level = sound.nested.each l inside; bounded = λ c. sound.bounded.at l c }

over_at : (p : Problem) (s : State) → IsSound p s → (l : ℕ) → l + 1 < length s.levels → IsOver p s.step (0 + l) (level_at s l) (level_at s (l + 1))
over_at p s sound l inside =
    let one : l + 1 ≡ suc l = omega arith in
    let none : l ≡ 0 + l = omega arith in
    subst (λ (m : ℕ). IsOver p s.step m (level_at s l) (level_at s (l + 1))) none
    (over_from p s.step l (level_at s l) (level_at s (l + 1)) (subst (λ (m : ℕ). IsGood p s.step m (level_at s (l + 1))) one (good_at p s sound (l + 1) inside))
    (sound.nested.nested l inside) (λ c covered. sound.synced.at l c inside covered))

pub has_tower : (p : Problem) (s : State) → IsSound p s → HasTower p s
has_tower p s sound = by_levels s.levels refl sound.some_level
  where
    by_levels : (ks : List Level) → s.levels ≡ ks → 0 < length ks → HasTower p s
    by_levels [] is some = absurd (omega arith)
    by_levels (k ∷ ks) is some = record {
      base = k;
      finer = ks;
      is = is;
      good = subst (λ (es : List Level). 0 < length es → IsGood p s.step 0 (get_or es 0 no_level)) is (λ some. good_at p s sound 0 some) some;
      boxes = subst (λ (es : List Level). (get_or es 0 no_level).boxes ≡ domain_box (domain p 0) ∷ []) is sound.base;
      tower = tower_from p s.step 0 k ks (subst (λ (es : List Level). (i : ℕ) → i + 1 < length es → IsOver p s.step (0 + i) (get_or es i no_level) (get_or es (i + 1) no_level)) is (over_at p s sound));
      few = subst (λ (es : List Level). length es ≤ p.max_level + 1) is sound.few_levels;
    }

-- ---- reading them back

module _ (fs : ℕ → Form) (p : Problem) (n : ℕ) (forms : (l : ℕ) → IsForm (fs l) p n l) where
  levels_back : (base : Level) (finer : List Level) (j : ℕ) (bs : List ℕ) → bound p n < 2 ^ 31 → IsGood p n 0 base → base.boxes ≡ domain_box (domain p 0) ∷ [] → IsTower p n 0 base finer → length (base ∷ finer) ≤ p.max_level + 1
      → Gives (read_levels fs p n (left j (number_bytes w8 (length (base ∷ finer)) ++ (level_bytes (fs 0) base ++ (levels_bytes fs 1 finer ++ bs))))) (base ∷ finer) bs
  unfolding read_levels
  levels_back base finer j bs small good boxes tower few =
      let t : ℕ = length (base ∷ finer) in
      let rest = levels_bytes fs 1 finer ++ bs in
      let most : p.max_level ≤ 4 = p.limits.greatest_max_level in
      let less : suc (length finer) - 1 ≡ length finer = omega arith in
      let deep : 0 + length finer ≤ 4 = omega (arith, few, most) in
      gives_then (read_number w8 (left j (number_bytes w8 (suc (length finer)) ++ (level_bytes (fs 0) base ++ rest)))) (λ t a. then_read (tested (between 1 (p.max_level + 1) t) j t a) (λ t a. then_read (read_level (fs 0) p n 0 a) (λ k b. read_also k (read_all_finer fs p n (t - 1) 0 k b)))) (suc (length finer)) (base ∷ finer) (level_bytes (fs 0) base ++ rest) bs
      (code_8.gives (suc (length finer)) j (level_bytes (fs 0) base ++ rest) (omega (arith, few, most)))
      (λ i. gives_then (tested (between 1 (p.max_level + 1) (suc (length finer))) j (suc (length finer)) (left i (level_bytes (fs 0) base ++ rest))) (λ t a. then_read (read_level (fs 0) p n 0 a) (λ k b. read_also k (read_all_finer fs p n (t - 1) 0 k b))) (suc (length finer)) (base ∷ finer) (level_bytes (fs 0) base ++ rest) bs
      (gives_tested (between 1 (p.max_level + 1) (suc (length finer))) j i (suc (length finer)) (level_bytes (fs 0) base ++ rest)
      (and_from (nat_le 1 (suc (length finer))) (nat_le (suc (length finer)) (p.max_level + 1)) (le-leb 1 (suc (length finer)) (omega arith)) (le-leb (suc (length finer)) (p.max_level + 1) few)))
      (λ i. gives_then (read_level (fs 0) p n 0 (left i (level_bytes (fs 0) base ++ rest))) (λ k b. read_also k (read_all_finer fs p n (suc (length finer) - 1) 0 k b)) base (base ∷ finer) rest bs
      (base_back fs p n forms small base i rest good boxes)
      (λ i. gives_also (read_all_finer fs p n (suc (length finer) - 1) 0 base (left i rest)) base finer bs
      (subst (λ (t : ℕ). Gives (read_all_finer fs p n t 0 base (left i rest)) finer bs) (sym less) (all_finer_back fs p n forms small 0 base finer i bs deep tower)))))

five_parts : (a b c d e bs : List ℕ) → a ++ b ++ c ++ (d ++ e) ++ bs ≡ a ++ (b ++ (c ++ (d ++ (e ++ bs))))
five_parts a b c d e bs = append_assoc (a ++ b ++ c) (d ++ e) bs ∙ append_assoc (a ++ b) c (d ++ e ++ bs) ∙ append_assoc a b (c ++ (d ++ e ++ bs)) ∙ ap (λ xs. a ++ (b ++ (c ++ xs))) (append_assoc d e bs)

made : ℕ → List Row → List Level → State
made n rows levels = record { step = n; rows = rows; levels = levels }

-- a sound state whose first rows are those that stand is read back, wherever its bytes begin
pub state_back : (on : Basis) (p : Problem) (s : State) (k : ℕ) (bs : List ℕ) → IsBasis on p → IsSound p s → length on.rows ≤ s.step → take (length on.rows) s.rows ≡ on.rows → Gives (read_state on p (left k (state_bytes on s ++ bs))) s bs
unfolding read_state read_step state_bytes
state_back on p s k bs basis sound after older =
    let tower = has_tower p s sound in
    let small = bound_small p s.step (omega (arith, sound.within)) in
    let before : ℕ = length on.rows in
    let n = number_bytes w32 s.step in
    let rs = flat_map row_bytes (drop before s.rows) in
    let t = number_bytes w8 (length (tower.base ∷ tower.finer)) in
    let b = level_bytes (on.forms 0) tower.base in
    let f = levels_bytes on.forms 1 tower.finer in
    let rest = t ++ (b ++ (f ++ bs)) in
    let bytes : state_bytes on s ++ bs ≡ n ++ (rs ++ rest) = ap (λ (ks : List Level). n ++ rs ++ number_bytes w8 (length ks) ++ levels_bytes on.forms 0 ks ++ bs) tower.is ∙ five_parts n rs t b f bs in
    let telescoped = sound.telescoped in
    let step_small : s.step < 2 ^ 32 = omega (arith, sound.within, p.limits.greatest_steps) in
    let balance : is_in_balance p (record { step = s.step; rows = s.rows; levels = tower.base ∷ tower.finer }) ≡ true = subst (λ (ks : List Level). is_in_balance p (record { step = s.step; rows = s.rows; levels = ks }) ≡ true) tower.is
    (eq-eqb (row_at s s.step).mass (total_mass p (level_at s 0).masses) telescoped.last) in
    let whole : State = record { step = s.step; rows = s.rows; levels = tower.base ∷ tower.finer } in
    let same : whole ≡ s = λ i. record { step = s.step; rows = s.rows; levels = sym tower.is i } in
    let last = λ (place n : ℕ) (rows : List Row) (levels : List Level) (c : Left). tested (is_in_balance p (record { step = n; rows = rows; levels = levels })) (row_place place before n) (record { step = n; rows = rows; levels = levels }) c in
    let forms = λ (l : ℕ). basis.forms s.step l after in
    gives_at (λ r. read_state on p r) k s (state_bytes on s ++ bs) (n ++ (rs ++ rest)) bs bytes
    (subst (λ (e : State). Gives (read_state on p (left k (n ++ (rs ++ rest)))) e bs) same
    (gives_then (read_step p before (left k (n ++ (rs ++ rest))))
    (λ n a. then_read (read_ledger on.rows n a) (λ rows b. then_read (read_levels on.forms p n b) (λ levels c. last a.place n rows levels c))) s.step whole (rs ++ rest) bs
    (gives_then (read_number w32 (left k (n ++ (rs ++ rest)))) (λ n a. tested (between before p.steps n) k n a) s.step s.step (rs ++ rest) (rs ++ rest)
    (code_32.gives s.step k (rs ++ rest) step_small)
    (λ i. gives_tested (between before p.steps s.step) k i s.step (rs ++ rest) (and_from (nat_le before s.step) (nat_le s.step p.steps) (le-leb before s.step after) (le-leb s.step p.steps sound.within))))
    (λ i. gives_then (read_ledger on.rows s.step (left i (rs ++ rest))) (λ rows b. then_read (read_levels on.forms p s.step b) (λ levels c. last i s.step rows levels c)) s.rows whole rest bs
    (ledger_gives on.rows s.step s.rows i rest telescoped.count (ledger_from s.rows s.step telescoped.count telescoped.no_inflow telescoped.no_outflow telescoped.each) (each_from IsSmallRow s.rows sound.small_rows) older)
    (λ j. gives_then (read_levels on.forms p s.step (left j rest)) (λ levels c. last i s.step s.rows levels c) (tower.base ∷ tower.finer) whole bs bs
    (levels_back on.forms p s.step forms tower.base tower.finer j bs small tower.good tower.boxes tower.tower tower.few)
    (λ m. gives_tested (is_in_balance p whole) (row_place i before s.step) m whole bs balance)))))

pub read_back : (w : Width) (p : Problem) (s : State) → IsMassWidth w → IsSound p s → decoded w p (payload w s) ≡ Ok s
unfolding decoded
read_back w p s width sound =
    let back = state_back (alone w) p s 0 [] (alone_basis w p width) sound (omega arith) refl in
    ap (λ (bs : List ℕ). nothing_follows (read_state (alone w) p (left 0 bs))) (sym (append-nil (payload w s))) ∙ ap (λ (q : Reading State). nothing_follows q) back.is

pub one_state : (w : Width) (p : Problem) (s s' : State) → IsMassWidth w → IsSound p s → IsSound p s' → payload w s ≡ payload w s' → s ≡ s'
one_state w p s s' width sound sound' same =
    let first = read_back w p s width sound in
    let second = read_back w p s' width sound' in
    let both = ap (λ (bs : List ℕ). decoded w p bs) same in
    same_ok (decoded w p (payload w s)) (decoded w p (payload w s')) first second both
  where
    same_ok : (a b : Result State ℕ) → a ≡ Ok s → b ≡ Ok s' → a ≡ b → s ≡ s'
    same_ok a b e f h = cc
