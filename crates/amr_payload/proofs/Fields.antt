-- The fields of a payload, one kind after the other: what is read was written, and what is written is read.
use Rattle.std.proofs.Common.{◌≡◌, ℕ, zero, suc, ◌+◌, true, List, [], ◌∷◌, ◌++◌, length, take, drop, get_or, ◌≤◌, ◌-◌, take_at, drop_at, take-append-drop, length-append, refl, sym, ap, subst, ◌∙◌, append_assoc, arith, flat_map}
use Rattle.std.specs.Int.{w64}
use Rattle.amr_def.specs.declared.problem.Row.{Row}
use Rattle.amr_def.specs.Facts.{IsSmallRow, no_row}
use Rattle.amr_payload.specs.Payload.{number_bytes, row_bytes}
use Rattle.amr_payload.specs.Tests.{Left, read, then_read, tested, read_also, read_number, read_row, has_no_flows, is_row_after, read_first_row, read_row_after, read_rows_after, read_rows, read_ledger}
use Rattle.amr_payload.proofs.Readings.{left, AreBytes, was_read, was_tested, also_read, joined_read, Took, took_then, took_none, took_same, Gives, gives, gives_then, gives_tested, gives_also, gives_joined, gives_at}
use Rattle.amr_payload.proofs.Numbers.{code_64, below_64}

abbrev pub Each : {A : Type 0} → (A → Type 0) → List A → Type 0
Each P [] = Unit {0}
Each P (x ∷ xs) = P x × Each P xs

pub read_value : {A : Type 0} (a b : A) (l e : Left) → read a l ≡ read b e → a ≡ b
read_value a b l e h = cc

pub read_rest : {A : Type 0} (a b : A) (l e : Left) → read a l ≡ read b e → l ≡ e
read_rest a b l e h = cc

-- ---- rows

abbrev row_of : ℕ → ℕ → ℕ → Row
row_of mass inflow outflow = record { mass = mass; inflow = inflow; outflow = outflow }

pub record IsRowRead (v : Row) (r e : Left) : Type 0 where
  pub took : Took (row_bytes v) r e
  pub small : IsSmallRow v

pub row_took : (r e : Left) (v : Row) → AreBytes r.bytes → read_row r ≡ read v e → IsRowRead v r e
unfolding read_row row_bytes
row_took r e v small h =
    let a = was_read (read_number w64 r) (λ mass a. then_read (read_number w64 a) (λ inflow b. then_read (read_number w64 b) (λ outflow c. read (row_of mass inflow outflow) c))) v e h in
    let b = was_read (read_number w64 a.rest) (λ inflow b. then_read (read_number w64 b) (λ outflow c. read (row_of a.value inflow outflow) c)) v e a.second in
    let c = was_read (read_number w64 b.rest) (λ outflow c. read (row_of a.value b.value outflow) c) v e b.second in
    let ta = code_64.took r a.rest a.value small a.first in
    let tb = code_64.took a.rest b.rest b.value ta.small b.first in
    let tc = code_64.took b.rest c.rest c.value tb.small c.first in
    let same : row_of a.value b.value c.value ≡ v = read_value _ _ _ _ c.second in
    record {
      took = took_same (row_bytes (row_of a.value b.value c.value)) (row_bytes v) r c.rest e (ap (λ v. row_bytes v) same) (read_rest _ _ _ _ c.second)
          (took_then _ _ r b.rest c.rest (took_then _ _ r a.rest b.rest ta tb) tc);
      small = subst (λ (v : Row). IsSmallRow v) same (record {
        mass = below_64 r a.rest a.value small a.first;
        inflow = below_64 a.rest b.rest b.value ta.small b.first;
        outflow = below_64 b.rest c.rest c.value tb.small c.first;
      });
    }

pub row_gives : (v : Row) (k : ℕ) (bs : List ℕ) → IsSmallRow v → Gives (read_row (left k (row_bytes v ++ bs))) v bs
unfolding read_row row_bytes
row_gives v k bs small =
    let m = number_bytes w64 v.mass in
    let i = number_bytes w64 v.inflow in
    let o = number_bytes w64 v.outflow in
    gives_at (λ r. read_row r) k v (m ++ i ++ o ++ bs) (m ++ (i ++ (o ++ bs))) bs (append_assoc (m ++ i) o bs ∙ append_assoc m i (o ++ bs))
    (gives_then _ _ v.mass v (i ++ (o ++ bs)) bs (code_64.gives v.mass k _ small.mass)
    (λ k. gives_then _ _ v.inflow v (o ++ bs) bs (code_64.gives v.inflow k _ small.inflow)
    (λ k. gives_then _ _ v.outflow v bs bs (code_64.gives v.outflow k _ small.outflow)
    (λ k. gives k v bs))))

-- each row is one after that before it
abbrev pub IsChain : Row → List Row → Type 0
IsChain before [] = Unit {0}
IsChain before (v ∷ vs) = (is_row_after before v ≡ true) × IsChain v vs

pub record AreRowsRead (before : Row) (n : ℕ) (vs : List Row) (r e : Left) : Type 0 where
  pub took : Took (flat_map row_bytes vs) r e
  pub count : length vs ≡ n
  pub chain : IsChain before vs
  pub small : Each IsSmallRow vs

pub rows_after_took : (n : ℕ) (before : Row) (r e : Left) (vs : List Row) → AreBytes r.bytes → read_rows_after n before r ≡ read vs e → AreRowsRead before n vs r e
unfolding read_row_after
rows_after_took zero before r e [] small h = record { took = took_same [] [] r r e refl (read_rest _ _ _ _ h) (took_none r small); count = refl; chain = tt; small = tt }
rows_after_took zero before r e (v ∷ vs) small h = absurd (cc)
rows_after_took (suc n) before r e vs small h =
    let a = was_read (read_row_after before r) (λ v a. read_also v (read_rows_after n v a)) vs e h in
    let t = was_read (read_row r) (λ v a. tested (is_row_after before v) r.place v a) a.value a.rest a.first in
    let one = row_took r t.rest t.value small t.first in
    let test = was_tested (is_row_after before t.value) r.place t.value a.value t.rest a.rest t.second in
    let others = also_read a.value (read_rows_after n a.value a.rest) vs e a.second in
    let took = took_same (row_bytes t.value) (row_bytes a.value) r t.rest a.rest (ap (λ v. row_bytes v) test.value) test.rest one.took in
    let more = rows_after_took n a.value a.rest e others.others took.small others.first in
    subst (λ (vs : List Row). AreRowsRead before (suc n) vs r e) (sym others.all) (record {
      took = took_then _ _ r a.rest e took more.took;
      count = omega (arith, more.count);
      chain = (subst (λ (v : Row). is_row_after before v ≡ true) test.value test.passes, more.chain);
      small = (subst (λ (v : Row). IsSmallRow v) test.value one.small, more.small);
    })

pub rows_after_give : (before : Row) (vs : List Row) (k : ℕ) (bs : List ℕ) → IsChain before vs → Each IsSmallRow vs → Gives (read_rows_after (length vs) before (left k (flat_map row_bytes vs ++ bs))) vs bs
unfolding read_row_after
rows_after_give before [] k bs chain small = gives k [] bs
rows_after_give before (v ∷ vs) k bs chain small =
    gives_at (λ r. read_rows_after (suc (length vs)) before r) k (v ∷ vs) (row_bytes v ++ flat_map row_bytes vs ++ bs) (row_bytes v ++ (flat_map row_bytes vs ++ bs)) bs (append_assoc (row_bytes v) (flat_map row_bytes vs) bs)
    (gives_then (read_row_after before (left k (row_bytes v ++ (flat_map row_bytes vs ++ bs)))) (λ v a. read_also v (read_rows_after (length vs) v a)) v (v ∷ vs) (flat_map row_bytes vs ++ bs) bs
    (gives_then (read_row (left k (row_bytes v ++ (flat_map row_bytes vs ++ bs)))) (λ v a. tested (is_row_after before v) k v a) v v (flat_map row_bytes vs ++ bs) (flat_map row_bytes vs ++ bs)
    (row_gives v k (flat_map row_bytes vs ++ bs) small.0) (λ m. gives_tested (is_row_after before v) k m v (flat_map row_bytes vs ++ bs) chain.0))
    (λ k. gives_also (read_rows_after (length vs) v (left k (flat_map row_bytes vs ++ bs))) v vs bs (rows_after_give v vs k bs chain.1 small.1)))

-- the first row has no flows, and each other is one after that before it
abbrev pub IsLedger : List Row → Type 0
IsLedger [] = ⊥
IsLedger (v ∷ vs) = (has_no_flows v ≡ true) × IsChain v vs

pub record IsLedgerRead (n : ℕ) (vs : List Row) (r e : Left) : Type 0 where
  pub took : Took (flat_map row_bytes vs) r e
  pub count : length vs ≡ n + 1
  pub ledger : IsLedger vs
  pub small : Each IsSmallRow vs

pub rows_took : (n : ℕ) (r e : Left) (vs : List Row) → AreBytes r.bytes → read_rows n r ≡ read vs e → IsLedgerRead n vs r e
unfolding read_rows read_first_row
rows_took n r e vs small h =
    let a = was_read (read_first_row r) (λ v a. read_also v (read_rows_after n v a)) vs e h in
    let t = was_read (read_row r) (λ v a. tested (has_no_flows v) r.place v a) a.value a.rest a.first in
    let one = row_took r t.rest t.value small t.first in
    let test = was_tested (has_no_flows t.value) r.place t.value a.value t.rest a.rest t.second in
    let others = also_read a.value (read_rows_after n a.value a.rest) vs e a.second in
    let took = took_same (row_bytes t.value) (row_bytes a.value) r t.rest a.rest (ap (λ v. row_bytes v) test.value) test.rest one.took in
    let more = rows_after_took n a.value a.rest e others.others took.small others.first in
    subst (λ (vs : List Row). IsLedgerRead n vs r e) (sym others.all) (record {
      took = took_then _ _ r a.rest e took more.took;
      count = omega (arith, more.count);
      ledger = (subst (λ (v : Row). has_no_flows v ≡ true) test.value test.passes, more.chain);
      small = (subst (λ (v : Row). IsSmallRow v) test.value one.small, more.small);
    })

pub rows_give : (n : ℕ) (vs : List Row) (k : ℕ) (bs : List ℕ) → length vs ≡ n + 1 → IsLedger vs → Each IsSmallRow vs → Gives (read_rows n (left k (flat_map row_bytes vs ++ bs))) vs bs
unfolding read_rows read_first_row
rows_give n [] k bs count ledger small = absurd ledger
rows_give n (v ∷ vs) k bs count ledger small =
    let same : length vs ≡ n = omega (arith, count) in
    gives_at (λ r. read_rows n r) k (v ∷ vs) (row_bytes v ++ flat_map row_bytes vs ++ bs) (row_bytes v ++ (flat_map row_bytes vs ++ bs)) bs (append_assoc (row_bytes v) (flat_map row_bytes vs) bs)
    (gives_then (read_first_row (left k (row_bytes v ++ (flat_map row_bytes vs ++ bs)))) (λ v a. read_also v (read_rows_after n v a)) v (v ∷ vs) (flat_map row_bytes vs ++ bs) bs
    (gives_then (read_row (left k (row_bytes v ++ (flat_map row_bytes vs ++ bs)))) (λ v a. tested (has_no_flows v) k v a) v v (flat_map row_bytes vs ++ bs) (flat_map row_bytes vs ++ bs)
    (row_gives v k (flat_map row_bytes vs ++ bs) small.0) (λ m. gives_tested (has_no_flows v) k m v (flat_map row_bytes vs ++ bs) ledger.0))
    (λ k. gives_also (read_rows_after n v (left k (flat_map row_bytes vs ++ bs))) v vs bs
    (subst (λ (n : ℕ). Gives (read_rows_after n v (left k (flat_map row_bytes vs ++ bs))) vs bs) same (rows_after_give v vs k bs ledger.1 small.1))))

-- ---- rows that stand already

each_joined : {A : Type 0} (P : A → Type 0) (xs ys : List A) → Each P xs → Each P ys → Each P (xs ++ ys)
each_joined P [] ys one other = other
each_joined P (x ∷ xs) ys one other = (one.0, each_joined P xs ys one.1 other)

each_later : {A : Type 0} (P : A → Type 0) (xs ys : List A) → Each P (xs ++ ys) → Each P ys
each_later P [] ys h = h
each_later P (x ∷ xs) ys h = each_later P xs ys h.1

chain_joined : (before : Row) (vs ws : List Row) → IsChain before vs → IsChain (get_or (before ∷ vs) (length vs) no_row) ws → IsChain before (vs ++ ws)
chain_joined before [] ws one other = other
chain_joined before (v ∷ vs) ws one other = (one.0, chain_joined v vs ws one.1 other)

chain_later : (before : Row) (vs ws : List Row) → IsChain before (vs ++ ws) → IsChain (get_or (before ∷ vs) (length vs) no_row) ws
chain_later before [] ws h = h
chain_later before (v ∷ vs) ws h = chain_later v vs ws h.1

-- the rows of a ledger, or none
abbrev pub CanStand : List Row → Type 0
CanStand [] = Unit {0}
CanStand (v ∷ vs) = IsLedger (v ∷ vs) × Each IsSmallRow (v ∷ vs)

pub record IsLaterRead (old : List Row) (n : ℕ) (vs : List Row) (r e : Left) : Type 0 where
  pub took : Took (flat_map row_bytes (drop (length old) vs)) r e
  pub count : length vs ≡ n + 1
  pub ledger : IsLedger vs
  pub small : Each IsSmallRow vs
  pub older : take (length old) vs ≡ old

pub ledger_took : (old : List Row) (n : ℕ) (r e : Left) (vs : List Row) → CanStand old → length old ≤ n → AreBytes r.bytes → read_ledger old n r ≡ read vs e → IsLaterRead old n vs r e
ledger_took [] n r e vs stand before small h =
    let all = rows_took n r e vs small h in
    record { took = all.took; count = all.count; ledger = all.ledger; small = all.small; older = refl }
ledger_took (v ∷ os) n r e vs stand before small h =
    let last = get_or (v ∷ os) (length os) no_row in
    let j = joined_read (v ∷ os) (read_rows_after (n - length os) last r) vs e h in
    let more = rows_after_took (n - length os) last r e j.others small j.first in
    let rest : drop (suc (length os)) (v ∷ (os ++ j.others)) ≡ j.others = drop_at (v ∷ os) j.others (suc (length os)) refl in
    subst (λ (vs : List Row). IsLaterRead (v ∷ os) n vs r e) (sym j.all) (record {
      took = took_same (flat_map row_bytes j.others) (flat_map row_bytes (drop (suc (length os)) (v ∷ (os ++ j.others)))) r e e (ap (λ ws. flat_map row_bytes ws) (sym rest)) refl more.took;
      count = omega (arith, length-append os j.others, more.count, before);
      ledger = (stand.0.0, chain_joined v os j.others stand.0.1 more.chain);
      small = each_joined IsSmallRow (v ∷ os) j.others stand.1 more.small;
      older = take_at (v ∷ os) j.others (suc (length os)) refl;
    })

later_gives : (v : Row) (os ws : List Row) (n k : ℕ) (bs : List ℕ) → length ws ≡ n - length os → IsChain v (os ++ ws) → Each IsSmallRow (os ++ ws)
    → Gives (read_ledger (v ∷ os) n (left k (flat_map row_bytes ws ++ bs))) (v ∷ (os ++ ws)) bs
later_gives v os ws n k bs count chain small =
    let last = get_or (v ∷ os) (length os) no_row in
    gives_joined (read_rows_after (n - length os) last (left k (flat_map row_bytes ws ++ bs))) (v ∷ os) ws bs
    (subst (λ (m : ℕ). Gives (read_rows_after m last (left k (flat_map row_bytes ws ++ bs))) ws bs) count
    (rows_after_give last ws k bs (chain_later v os ws chain) (each_later IsSmallRow os ws small)))

pub ledger_gives : (old : List Row) (n : ℕ) (vs : List Row) (k : ℕ) (bs : List ℕ) → length vs ≡ n + 1 → IsLedger vs → Each IsSmallRow vs → take (length old) vs ≡ old
    → Gives (read_ledger old n (left k (flat_map row_bytes (drop (length old) vs) ++ bs))) vs bs
ledger_gives [] n vs k bs count ledger small older = rows_give n vs k bs count ledger small
ledger_gives (v ∷ os) n vs k bs count ledger small older =
    let ws = drop (suc (length os)) vs in
    let is : v ∷ (os ++ ws) ≡ vs = ap (λ (xs : List Row). xs ++ ws) (sym older) ∙ take-append-drop (suc (length os)) vs in
    let both : IsLedger (v ∷ (os ++ ws)) = subst (λ (vs : List Row). IsLedger vs) (sym is) ledger in
    let fits : Each IsSmallRow (v ∷ (os ++ ws)) = subst (λ (vs : List Row). Each IsSmallRow vs) (sym is) small in
    let sizes : length (v ∷ (os ++ ws)) ≡ n + 1 = ap (λ (vs : List Row). length vs) is ∙ count in
    subst (λ (vs : List Row). Gives (read_ledger (v ∷ os) n (left k (flat_map row_bytes ws ++ bs))) vs bs) is
    (later_gives v os ws n k bs (omega (arith, sizes, length-append os ws)) both.1 fits.1)
