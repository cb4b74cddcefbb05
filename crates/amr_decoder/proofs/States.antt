-- A state that was read, and a whole payload.
use Rattle.std.proofs.Common.{◌≡◌, ℕ, zero, suc, ◌<◌, ◌≤◌, ◌+◌, ◌*◌, ◌-◌, ◌++◌, nat_le, length-append, Bool, false, List, [], ◌∷◌, length, get_or, All, refl, sym, ap, subst, ◌∙◌, arith}
use Rattle.std.specs.Prelude.{◌==◌, if◌then◌else◌}
use Rattle.std.specs.Int.{Width, w64, byte_len, from_le_bytes}
use Rattle.std.specs.declared.result.Result.TheVariants.{Ok, Err}
use Rattle.std.proofs.lemmas.Bool.{eqb-true, false_from_ne_true}
use Rattle.amr_def.specs.declared.problem.Problem.{Problem}
use Rattle.amr_def.specs.declared.problem.Row.{Row}
use Rattle.amr_def.specs.Facts.{no_row}
use Rattle.amr_def.specs.Ledger.{total_mass}
use Rattle.amr_def.specs.State.{Level, State, no_level}
use Rattle.amr_patch.proofs.Lookups.{same_default}
use Rattle.amr_payload.specs.Payload.{Basis, alone}
use Rattle.amr_payload.specs.Tests.{Left, Reading, after, has_no_flows, is_row_after, read_ledger, read_number, read_row, decoded, is_in_balance, nothing_follows, read, read_first_row, read_also, read_levels, read_row_after, read_rows, read_rows_after, read_state, read_step, row_place, tested, then_read}
use Rattle.amr_payload.proofs.Readings.{also_read, joined_read, was_read, was_tested}
use Rattle.amr_payload.proofs.Fields.{read_rest}
use Rattle.amr_decoder.specs.declared.faults.CodecFault.{CodecFault}
use Rattle.amr_decoder.specs.declared.faults.CodecFault.TheVariants.{Bad, NoMemory}
use Rattle.amr_decoder.specs.Faults.{IsFaultOf, IsRefusalOf}
use Rattle.amr_decoder.proofs.Readings.{fault_first, fault_next}

-- ---- how many rows were read

rows_after_counted : (n : ℕ) (before : Row) (r e : Left) (vs : List Row) → read_rows_after n before r ≡ read vs e → length vs ≡ n
rows_after_counted zero before r e [] h = refl
rows_after_counted zero before r e (v ∷ vs) h = absurd (cc)
rows_after_counted (suc n) before r e vs h =
    let a = was_read (read_row_after before r) (λ v a. read_also v (read_rows_after n v a)) vs e h in
    let others = also_read a.value (read_rows_after n a.value a.rest) vs e a.second in
    ap (λ (rs : List Row). length rs) others.all ∙ ap (λ k. suc k) (rows_after_counted n a.value a.rest e others.others others.first)

first_counted : (n : ℕ) (r e : Left) (vs : List Row) → read_rows n r ≡ read vs e → length vs ≡ suc n
unfolding read_rows
first_counted n r e vs h =
    let a = was_read (read_first_row r) (λ v a. read_also v (read_rows_after n v a)) vs e h in
    let others = also_read a.value (read_rows_after n a.value a.rest) vs e a.second in
    ap (λ (rs : List Row). length rs) others.all ∙ ap (λ k. suc k) (rows_after_counted n a.value a.rest e others.others others.first)

pub rows_counted : (old : List Row) (n : ℕ) (r e : Left) (vs : List Row) → length old ≤ n → read_ledger old n r ≡ read vs e → length vs ≡ suc n
rows_counted [] n r e vs before h = first_counted n r e vs h
rows_counted (v ∷ os) n r e vs before h =
    let last = get_or (v ∷ os) (length os) no_row in
    let j = joined_read (v ∷ os) (read_rows_after (n - length os) last r) vs e h in
    let sizes : length vs ≡ suc (length (os ++ j.others)) = ap (λ (rs : List Row). length rs) j.all in
    omega (arith, sizes, length-append os j.others, rows_after_counted (n - length os) last r e j.others j.first, before)

-- ---- where the rows end

number_place : (w : Width) (r e : Left) (n : ℕ) → read_number w r ≡ read n e → e.place ≡ r.place + byte_len w
unfolding read_number
number_place w r e n h = ap (λ (l : Left). l.place) (sym (was_tested (nat_le (byte_len w) (length r.bytes)) r.place (from_le_bytes w r.bytes) n (after (byte_len w) r) e h).rest)

row_end : (r e : Left) (v : Row) → read_row r ≡ read v e → e.place ≡ r.place + 24
unfolding read_row
row_end r e v h =
    let a = was_read (read_number w64 r) (λ mass a. then_read (read_number w64 a) (λ inflow b. then_read (read_number w64 b) (λ outflow c. read (row_of mass inflow outflow) c))) v e h in
    let b = was_read (read_number w64 a.rest) (λ inflow b. then_read (read_number w64 b) (λ outflow c. read (row_of a.value inflow outflow) c)) v e a.second in
    let c = was_read (read_number w64 b.rest) (λ outflow c. read (row_of a.value b.value outflow) c) v e b.second in
    let first : a.rest.place ≡ r.place + 8 = number_place w64 r a.rest a.value a.first in
    let second : b.rest.place ≡ a.rest.place + 8 = number_place w64 a.rest b.rest b.value b.first in
    let third : c.rest.place ≡ b.rest.place + 8 = number_place w64 b.rest c.rest c.value c.first in
    let end : e.place ≡ c.rest.place = ap (λ (l : Left). l.place) (sym (read_rest (row_of a.value b.value c.value) v c.rest e c.second)) in
    omega (arith, first, second, third, end)
  where
    row_of : ℕ → ℕ → ℕ → Row
    row_of mass inflow outflow = record { mass = mass; inflow = inflow; outflow = outflow }

rows_after_end : (n : ℕ) (before : Row) (r e : Left) (vs : List Row) → read_rows_after n before r ≡ read vs e → e.place ≡ r.place + 24 * n
unfolding read_row_after
rows_after_end zero before r e vs h = let end : r.place ≡ e.place = ap (λ (l : Left). l.place) (read_rest [] vs r e h) in omega (arith, end)
rows_after_end (suc n) before r e vs h =
    let a = was_read (read_row_after before r) (λ v a. read_also v (read_rows_after n v a)) vs e h in
    let t = was_read (read_row r) (λ v a. tested (is_row_after before v) r.place v a) a.value a.rest a.first in
    let one = row_end r t.rest t.value t.first in
    let end : t.rest.place ≡ a.rest.place = ap (λ (l : Left). l.place) (was_tested (is_row_after before t.value) r.place t.value a.value t.rest a.rest t.second).rest in
    let others = also_read a.value (read_rows_after n a.value a.rest) vs e a.second in
    omega (arith, one, end, rows_after_end n a.value a.rest e others.others others.first)

first_end : (n : ℕ) (r e : Left) (vs : List Row) → read_rows n r ≡ read vs e → e.place ≡ r.place + 24 * n + 24
unfolding read_rows read_first_row
first_end n r e vs h =
    let a = was_read (read_first_row r) (λ v a. read_also v (read_rows_after n v a)) vs e h in
    let t = was_read (read_row r) (λ v a. tested (has_no_flows v) r.place v a) a.value a.rest a.first in
    let one = row_end r t.rest t.value t.first in
    let end : t.rest.place ≡ a.rest.place = ap (λ (l : Left). l.place) (was_tested (has_no_flows t.value) r.place t.value a.value t.rest a.rest t.second).rest in
    let others = also_read a.value (read_rows_after n a.value a.rest) vs e a.second in
    omega (arith, one, end, rows_after_end n a.value a.rest e others.others others.first)

pub ledger_place : (old : List Row) (n : ℕ) (r e : Left) (vs : List Row) → length old ≤ n → read_ledger old n r ≡ read vs e → e.place ≡ r.place + 24 * (n - length old) + 24
ledger_place [] n r e vs before h = omega (arith, first_end n r e vs h)
ledger_place (v ∷ os) n r e vs before h =
    let last = get_or (v ∷ os) (length os) no_row in
    let j = joined_read (v ∷ os) (read_rows_after (n - length os) last r) vs e h in
    omega (arith, rows_after_end (n - length os) last r e j.others j.first, before)

-- the place of the last row, before their end
pub last_row : (before n first end place : ℕ) → place ≡ end → end ≡ first + 24 * (n - before) + 24 → row_place first before n ≡ place - 24
last_row before n first end place is ends = omega (arith, is, ends)

-- ---- a state

abbrev pub state_with : ℕ → List Row → List Level → State
state_with n rows levels = record { step = n; rows = rows; levels = levels }

module _ (on : Basis) (p : Problem) where
  abbrev before : ℕ
  before = length on.rows

  abbrev after_levels : ℕ → ℕ → List Row → List Level → Left → Reading State
  after_levels place n rows levels c = tested (is_in_balance p (state_with n rows levels)) (row_place place before n) (state_with n rows levels) c

  abbrev after_rows : ℕ → ℕ → List Row → Left → Reading State
  after_rows place n rows b = then_read (read_levels on.forms p n b) (λ levels c. after_levels place n rows levels c)

  abbrev after_step : ℕ → Left → Reading State
  after_step n a = then_read (read_ledger on.rows n a) (λ rows b. after_rows a.place n rows b)

  pub step_bad : (r : Left) (e : CodecFault) → IsFaultOf (read_step p before r) e → IsFaultOf (read_state on p r) e
  unfolding read_state
  step_bad r e h = fault_first (read_step p before r) after_step e h

  pub rows_bad : (r a : Left) (n : ℕ) (e : CodecFault) → read_step p before r ≡ read n a → IsFaultOf (read_ledger on.rows n a) e → IsFaultOf (read_state on p r) e
  unfolding read_state
  rows_bad r a n e step h = fault_next (read_step p before r) after_step n a e step (fault_first (read_ledger on.rows n a) (λ rows b. after_rows a.place n rows b) e h)

  pub levels_bad : (r a b : Left) (n : ℕ) (rows : List Row) (e : CodecFault) → read_step p before r ≡ read n a → read_ledger on.rows n a ≡ read rows b → IsFaultOf (read_levels on.forms p n b) e → IsFaultOf (read_state on p r) e
  unfolding read_state
  levels_bad r a b n rows e step ledger h =
      fault_next (read_step p before r) after_step n a e step
      (fault_next (read_ledger on.rows n a) (λ rows b. after_rows a.place n rows b) rows b e ledger (fault_first (read_levels on.forms p n b) (λ levels c. after_levels a.place n rows levels c) e h))

  pub state_tested : (r a b c : Left) (n : ℕ) (rows : List Row) (levels : List Level) (t : Bool) → read_step p before r ≡ read n a → read_ledger on.rows n a ≡ read rows b → read_levels on.forms p n b ≡ read levels c → is_in_balance p (state_with n rows levels) ≡ t
      → read_state on p r ≡ tested t (row_place a.place before n) (state_with n rows levels) c
  unfolding read_state
  state_tested r a b c n rows levels t step ledger all balance =
      ap (λ (q : Reading ℕ). then_read q after_step) step
      ∙ ap (λ (q : Reading (List Row)). then_read q (λ rows b. after_rows a.place n rows b)) ledger
      ∙ ap (λ (q : Reading (List Level)). then_read q (λ levels c. after_levels a.place n rows levels c)) all
      ∙ ap (λ t. tested t (row_place a.place before n) (state_with n rows levels) c) balance

-- whether the row that was read has the mass of level 0
pub balance : (p : Problem) (n : ℕ) (rows : List Row) (levels held : List Level) (row : Row) (t : Bool) → held ≡ levels → n < length rows → row ≡ get_or rows n row → t ≡ (row.mass == total_mass p (get_or held 0 no_level).masses) → is_in_balance p (state_with n rows levels) ≡ t
balance p n rows levels held row t same inside at is =
    ap (λ (r : Row). r.mass == total_mass p (get_or levels 0 no_level).masses) (sym (at ∙ same_default rows n row no_row inside))
    ∙ ap (λ (ks : List Level). row.mass == total_mass p (get_or ks 0 no_level).masses) (sym same)
    ∙ sym is

-- ---- a whole payload

abbrev pub start_of : List ℕ → Left
start_of bytes = record { place = 0; bytes = bytes }

module _ (w : Width) (p : Problem) (bytes : List ℕ) where
  pub state_bad : (e : CodecFault) → IsFaultOf (read_state (alone w) p (start_of bytes)) e → IsRefusalOf (decoded w p bytes) e
  unfolding decoded
  state_bad (Bad place) h = ap (λ (q : Reading State). nothing_follows q) h
  state_bad NoMemory h = tt

  pub all_decoded : (s : State) (e : Left) → read_state (alone w) p (start_of bytes) ≡ read s e → length e.bytes ≡ 0 → decoded w p bytes ≡ Ok s
  unfolding decoded
  all_decoded s e h none = ap (λ (q : Reading State). nothing_follows q) h ∙ ap (λ n. if n == 0 then Ok s else Err e.place) none

  pub some_follows : (s : State) (e : Left) → read_state (alone w) p (start_of bytes) ≡ read s e → 0 < length e.bytes → decoded w p bytes ≡ Err e.place
  unfolding decoded
  some_follows s e h some = ap (λ (q : Reading State). nothing_follows q) h ∙ ap (λ (t : Bool). if t then Ok s else Err e.place) (not_zero (length e.bytes) some)
    where
      not_zero : (n : ℕ) → 0 < n → (n == 0) ≡ false
      not_zero n some = false_from_ne_true (n == 0) (λ e. let none : n ≡ 0 = eqb-true n 0 e in absurd (omega (arith, some, none)))

pub all_bytes : (bs : List ℕ) → ((k : ℕ) → get_or bs k 0 < 256) → All (λ b. b < 256) bs
all_bytes bs h = λ k d lt. subst (λ b. b < 256) (same_default bs k 0 d lt) (h k)

-- bytes that are decoded are refused for memory alone
pub decoded_back : (w : Width) (p : Problem) (s : State) (bytes : List ℕ) (e : CodecFault) → decoded w p bytes ≡ Ok s → IsRefusalOf (decoded w p bytes) e → e ≡ NoMemory
decoded_back w p s bytes (Bad place) is h = absurd (let clash : Ok s ≡ Err place = sym is ∙ h in cc)
decoded_back w p s bytes NoMemory is h = refl
