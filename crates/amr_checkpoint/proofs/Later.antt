-- Later states of a run, and what may be put into a store next.
use Rattle.std.proofs.Common.{◌≡◌, inl, inr, ℕ, zero, suc, ◌+◌, ◌-◌, ◌≤◌, ◌<◌, nat_lt, min, Bool, true, false, cond, List, [], ◌∷◌, ◌++◌, length, take, Option, Some, None, IfSome, refl, sym, ◌∙◌, ap, subst, arith}
use Rattle.std.proofs.lemmas.List.{length-take, take-append-le, take-take, take_all}
use Rattle.std.proofs.lemmas.Bool.{cases_Bool, eqb-true, eqb-false, ltb-true}
use Rattle.std.specs.Prelude.{◌&&◌, ◌==◌, is_some}
use Rattle.amr_def.specs.declared.problem.Problem.{Problem}
use Rattle.amr_def.specs.declared.problem.Row.{Row}
use Rattle.amr_def.specs.Facts.{IsSound}
use Rattle.amr_def.specs.Regrid.{regrid, regrid_by}
use Rattle.amr_def.specs.Run.{finish, next, regrid_is_due, stepped, times}
use Rattle.amr_def.specs.State.{State}
use Rattle.amr_def.proofs.Runs.{finish_step}
use Rattle.amr_patch.specs.declared.meshes.Mesh.{Mesh}
use Rattle.amr_patch.specs.Meshes.{is_spent, state_of}
use Rattle.amr_payload.specs.Delta.{IsLater}
use Rattle.amr_store.specs.declared.store.Store.{Store}
use Rattle.amr_store.specs.Stands.{IsStoreReady, chain_in, deltas_in, last_in, problem_in, version_in}
use Rattle.amr_checkpoint.specs.declared.checkpoint.KeptStore.{KeptStore}
use Rattle.amr_checkpoint.specs.Checkpoints.{HoldsLatest, IsCopyWhere, IsLatest, IsStoreAfter, IsStoreFor, IsStorePast, KeepsLatest, MayPut, content_at_mesh}
use Rattle.amr_checkpoint.specs.Contents.{At, Holds}
use Rattle.amr_checkpoint.specs.Made.{takes_record}

-- ---- rows that stand

-- the first list begins the second
abbrev Begins : List Row → List Row → Type 0
Begins rows more = take (length rows) more ≡ rows

begins_short : (rows more : List Row) → Begins rows more → length rows ≤ length more
begins_short rows more is = omega (arith, length-take (length rows) more, ap length is)

begins_on : (a b c : List Row) → Begins a b → Begins b c → Begins a c
begins_on a b c first second =
    sym (take-take (length a) (length b) c (begins_short a b first)) ∙ ap (take (length a)) second ∙ first

begins_same : (rows : List Row) → Begins rows rows
begins_same rows = take_all (length rows) rows (omega arith)

begins_pushed : (rows : List Row) (r : Row) → Begins rows (rows ++ r ∷ [])
begins_pushed rows r = take-append-le (length rows) rows (r ∷ []) (omega arith) ∙ take_all (length rows) rows (omega arith)

regrid_rows : (p : Problem) (s : State) (b : Bool) → (cond b (regrid p s) s).rows ≡ s.rows
unfolding regrid regrid_by
regrid_rows p s true = refl
regrid_rows p s false = refl

begins_next : (p : Problem) (s : State) → Begins s.rows (next p s).rows
unfolding next stepped
begins_next p s =
    subst (λ (rows : List Row). Begins rows (next p s).rows) (regrid_rows p s (regrid_is_due p s)) (begins_pushed (cond (regrid_is_due p s) (regrid p s) s).rows _)

begins_times : (p : Problem) (n : ℕ) (s : State) → Begins s.rows (times (next p) n s).rows
begins_times p zero s = begins_same s.rows
begins_times p (suc n) s = begins_on s.rows (next p s).rows (times (next p) n (next p s)).rows (begins_next p s) (begins_times p n (next p s))

begins_finish : (p : Problem) (s : State) (k : ℕ) → Begins s.rows (finish p s k).rows
unfolding finish
begins_finish p s k = begins_times p (k - s.step) s

-- the state of a run at a later step is later
pub later_of_run : (p : Problem) (s : State) (k : ℕ) → s.step < k → IsLater s (finish p s k)
later_of_run p s k less = record {
  step = omega (arith, less, finish_step p s k (omega (arith, less)));
  rows = begins_finish p s k;
}

pub later_on : (a b c : State) → IsLater a b → IsLater b c → IsLater a c
later_on a b c first second = record {
  step = omega (arith, first.step, second.step);
  rows = begins_on a.rows b.rows c.rows first.rows second.rows;
}

-- ---- what may be put next

above_later : (last : Option ℕ) (s later : State) → s.step < later.step → IfSome last (λ l. l < s.step + 1) → IfSome last (λ l. l < later.step + 1)
above_later None s later less above = tt
above_later (Some l) s later less above = omega (arith, less, above)

keeps_later : (p : Problem) (st : Store) (latest : Option Mesh) (s later : State) → IsLater s later → KeepsLatest p st latest s → KeepsLatest p st latest later
keeps_later p st None s later on keeps = keeps
keeps_later p st (Some mesh) s later on keeps = (
  keeps.0,
  record { whole = keeps.1.whole; sound = keeps.1.sound; last = keeps.1.last; older = later_on (state_of mesh) s later keeps.1.older on; version = keeps.1.version },
)

is_some_of : (o : Option ℕ) (n : ℕ) → o ≡ Some n → is_some o ≡ true
is_some_of o n is = ap is_some is

takes_by : (st : Store) (n : ℕ) (b : Bool) → last_in st ≡ Some n → nat_lt (chain_in st) (deltas_in st) ≡ b → takes_record st ≡ b
takes_by st n b last is = ap (λ (t : Bool). t && nat_lt (chain_in st) (deltas_in st)) (is_some_of (last_in st) n last) ∙ is

takes_none : (st : Store) → last_in st ≡ None → takes_record st ≡ false
takes_none st none = ap (λ (o : Option ℕ). is_some o && nat_lt (chain_in st) (deltas_in st)) none

some_records : (st : Store) → (version_in st ≡ 3 → ⊥) → deltas_in st ≡ 0 → nat_lt (chain_in st) (deltas_in st) ≡ true → ⊥
some_records st other none takes = let less : chain_in st < deltas_in st = ltb-true (chain_in st) (deltas_in st) takes in omega (arith, less, none)

-- only a store of version 3 has records
version_3 : (st : Store) → ((version_in st ≡ 3 → ⊥) → deltas_in st ≡ 0) → nat_lt (chain_in st) (deltas_in st) ≡ true → version_in st ≡ 3
version_3 st none takes = elim (cases_Bool (version_in st == 3)) [
  | inl is ↦ eqb-true (version_in st) 3 is
  | inr other ↦ absurd (some_records st (eqb-false (version_in st) 3 other) (none (eqb-false (version_in st) 3 other)) takes)
]

-- a copy of the latest state is kept where the next one is put on it
keeps_copy : (p : Problem) (st : Store) (s later : State) (copy : Option Mesh) → last_in st ≡ Some (s.step + 1) → ((version_in st ≡ 3 → ⊥) → deltas_in st ≡ 0) → IsSound p s → IsLater s later → IsCopyWhere (nat_lt (chain_in st) (deltas_in st)) s copy
    → KeepsLatest p st copy later
keeps_copy p st s later None last none sound on copy = takes_by st (s.step + 1) false last copy
keeps_copy p st s later (Some mesh) last none sound on copy = (
  takes_by st (s.step + 1) true last copy.0,
  record {
    whole = copy.2;
    sound = subst (IsSound p) (sym copy.1) sound;
    last = last ∙ ap (λ (t : State). Some (t.step + 1)) (sym copy.1);
    older = subst (λ (t : State). IsLater t later) (sym copy.1) on;
    version = version_3 st none copy.0;
  },
)

holds_copy : (seen : Option (List ℕ)) (p : Problem) (st : Store) (s : State) (b : Bool) (copy : Option Mesh) → IsCopyWhere b s copy → ((image : List ℕ) → seen ≡ Some image → Holds image (At (problem_in st) p s (s.step + 1))) → HoldsLatest seen p st copy
holds_copy seen p st s b None copy held = tt
holds_copy seen p st s b (Some mesh) copy held = λ image told. subst (λ (t : State). Holds image (At (problem_in st) p t (t.step + 1))) (sym copy.1) (held image told)

module _ {D : Type 0} (seen : D → Option (List ℕ)) (moment : D → ℕ) (leaves : D → ℕ → List ℕ → Type 0) where
  -- a later state where this one may be
  pub may_put_later : (p : Problem) (kept : KeptStore) (s later : State) (d : D) → IsLater s later → MayPut seen moment leaves p kept s d → MayPut seen moment leaves p kept later d
  may_put_later p kept s later d on may = record {
    store_is = may.store_is;
    above = above_later (last_in kept.store) s later on.step may.above;
    ready = may.ready;
    latest = keeps_later p kept.store kept.latest s later on may.latest;
    held = may.held;
  }

  -- a later one than the latest
  pub may_put_after : (p : Problem) (st : Store) (copy spare : Option Mesh) (s later : State) (d : D) → IsStorePast p (s.step + 1) st → IsStoreReady seen moment leaves st d → ((version_in st ≡ 3 → ⊥) → deltas_in st ≡ 0) → IsSound p s
      → IsLater s later → IsCopyWhere (nat_lt (chain_in st) (deltas_in st)) s copy → ((image : List ℕ) → seen d ≡ Some image → Holds image (At (problem_in st) p s (s.step + 1)))
      → MayPut seen moment leaves p (record { store = st; latest = copy; spare = spare }) later d
  may_put_after p st copy spare s later d past ready none sound on wanted held = record {
    store_is = past.store_is;
    above = subst (λ (o : Option ℕ). IfSome o (λ l. l < later.step + 1)) (sym past.last) (let less = on.step in omega (arith, less));
    ready = ready;
    latest = keeps_copy p st s later copy past.last none sound on wanted;
    held = holds_copy (seen d) p st s (nat_lt (chain_in st) (deltas_in st)) copy wanted held;
  }

  -- any into a store without a state
  pub may_put_first : (p : Problem) (kept : KeptStore) (later : State) (d : D) → IsStoreFor p kept.store → last_in kept.store ≡ None → kept.latest ≡ None → IsStoreReady seen moment leaves kept.store d → MayPut seen moment leaves p kept later d
  may_put_first p kept later d of none no_copy ready = record {
    store_is = of;
    above = subst (λ (o : Option ℕ). IfSome o (λ l. l < later.step + 1)) (sym none) tt;
    ready = ready;
    latest = subst (λ (o : Option Mesh). KeepsLatest p kept.store o later) (sym no_copy) (takes_none kept.store none);
    held = subst (λ (o : Option Mesh). HoldsLatest (seen d) p kept.store o) (sym no_copy) tt;
  }

  -- the same of a store that was read
  pub may_put_kept : (p : Problem) (kept : KeptStore) (st : Store) (s later : State) (d : D) → kept.store ≡ st → IsStorePast p (s.step + 1) st → IsStoreReady seen moment leaves st d → ((version_in st ≡ 3 → ⊥) → deltas_in st ≡ 0) → IsSound p s
      → IsLater s later → IsCopyWhere (nat_lt (chain_in st) (deltas_in st)) s kept.latest → ((image : List ℕ) → seen d ≡ Some image → Holds image (At (problem_in st) p s (s.step + 1)))
      → MayPut seen moment leaves p kept later d
  may_put_kept p kept st s later d same past ready none sound on wanted held =
      subst (λ (x : Store). MayPut seen moment leaves p (record { store = x; latest = kept.latest; spare = kept.spare }) later d) (sym same) (may_put_after p st kept.latest kept.spare s later d past ready none sound on wanted held)
