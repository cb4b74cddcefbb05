-- The levels of a sound state one after the other, and what a step needs of them.
use Rattle.std.proofs.Common.{◌≡◌, ℕ, zero, suc, ◌+◌, ◌<◌, sym, subst, arith, List, [], ◌∷◌, length, add-one}
use Rattle.std.specs.Prelude.{slice_index_or}
use Rattle.amr_def.specs.declared.problem.Problem.{Problem}
use Rattle.amr_def.specs.State.{Level, State, no_level, level_at}
use Rattle.amr_def.specs.Facts.{IsLevel, IsNestedLevel, IsNested, IsSynced}
use Rattle.amr_def.proofs.LevelLists.{IsSyncedPair}

abbrev pub nth : List Level → ℕ → Level
nth ks j = slice_index_or ks j no_level

-- ---- facts of levels by their numbers, and of each level and the next

pub record Indexed (p : Problem) (l : ℕ) (ks : List Level) : Type 0 where
  pub each : (j : ℕ) → j < length ks → IsLevel p (l + j) (nth ks j)
  pub nested : (j : ℕ) → suc j < length ks → IsNestedLevel p (l + j) (nth ks j) (nth ks (suc j))
  pub synced : (j : ℕ) → suc j < length ks → IsSyncedPair (nth ks j).masses (nth ks (suc j)).masses

abbrev pub Chain : Problem → ℕ → List Level → Type 0
Chain p l [] = Unit {0}
Chain p l (k ∷ []) = IsLevel p l k
Chain p l (k ∷ fine ∷ finer) = IsLevel p l k × IsNestedLevel p l k fine × IsSyncedPair k.masses fine.masses × Chain p (suc l) (fine ∷ finer)

later : (p : Problem) (l : ℕ) (k : Level) (ks : List Level) → Indexed p l (k ∷ ks) → Indexed p (suc l) ks
later p l k ks x = record {
  each = λ j h. let e : l + suc j ≡ suc l + j = omega arith in subst (λ i. IsLevel p i (nth ks j)) e (x.each (suc j) (omega arith));
  nested = λ j h. let e : l + suc j ≡ suc l + j = omega arith in subst (λ i. IsNestedLevel p i (nth ks j) (nth ks (suc j))) e (x.nested (suc j) (omega arith));
  synced = λ j h. x.synced (suc j) (omega arith);
}

here : (p : Problem) (l : ℕ) (k : Level) (ks : List Level) → Indexed p l (k ∷ ks) → IsLevel p l k
here p l k ks x = let e : l + 0 ≡ l = omega arith in subst (λ i. IsLevel p i k) e (x.each 0 (omega arith))

pub chain : (p : Problem) (l : ℕ) (ks : List Level) → Indexed p l ks → Chain p l ks
chain p l [] x = tt
chain p l (k ∷ []) x = here p l k [] x
chain p l (k ∷ fine ∷ finer) x =
    let e : l + 0 ≡ l = omega arith in
    (here p l k (fine ∷ finer) x, subst (λ i. IsNestedLevel p i k fine) e (x.nested 0 (omega arith)), x.synced 0 (omega arith), chain p (suc l) (fine ∷ finer) (later p l k (fine ∷ finer) x))

pub chain_first : (p : Problem) (l : ℕ) (k : Level) (ks : List Level) → Chain p l (k ∷ ks) → IsLevel p l k
chain_first p l k [] x = x
chain_first p l k (fine ∷ finer) x = x.0

-- and back
chain_each : (p : Problem) (l : ℕ) (ks : List Level) → Chain p l ks → (j : ℕ) → j < length ks → IsLevel p (l + j) (nth ks j)
chain_each p l [] x j h = absurd (omega arith)
chain_each p l (k ∷ []) x zero h = let e : l ≡ l + 0 = omega arith in subst (λ i. IsLevel p i k) e x
chain_each p l (k ∷ []) x (suc j) h = absurd (omega arith)
chain_each p l (k ∷ fine ∷ finer) x zero h = let e : l ≡ l + 0 = omega arith in subst (λ i. IsLevel p i k) e x.0
chain_each p l (k ∷ fine ∷ finer) x (suc j) h =
    let e : suc l + j ≡ l + suc j = omega arith in subst (λ i. IsLevel p i (nth (fine ∷ finer) j)) e (chain_each p (suc l) (fine ∷ finer) x.3 j (omega arith))

chain_nested : (p : Problem) (l : ℕ) (ks : List Level) → Chain p l ks → (j : ℕ) → suc j < length ks → IsNestedLevel p (l + j) (nth ks j) (nth ks (suc j))
chain_nested p l [] x j h = absurd (omega arith)
chain_nested p l (k ∷ []) x j h = absurd (omega arith)
chain_nested p l (k ∷ fine ∷ finer) x zero h = let e : l ≡ l + 0 = omega arith in subst (λ i. IsNestedLevel p i k fine) e x.1
chain_nested p l (k ∷ fine ∷ finer) x (suc j) h =
    let e : suc l + j ≡ l + suc j = omega arith in subst (λ i. IsNestedLevel p i (nth (fine ∷ finer) j) (nth (fine ∷ finer) (suc j))) e (chain_nested p (suc l) (fine ∷ finer) x.3 j (omega arith))

chain_synced : (p : Problem) (l : ℕ) (ks : List Level) → Chain p l ks → (j : ℕ) → suc j < length ks → IsSyncedPair (nth ks j).masses (nth ks (suc j)).masses
chain_synced p l [] x j h = absurd (omega arith)
chain_synced p l (k ∷ []) x j h = absurd (omega arith)
chain_synced p l (k ∷ fine ∷ finer) x zero h = x.2
chain_synced p l (k ∷ fine ∷ finer) x (suc j) h = chain_synced p (suc l) (fine ∷ finer) x.3 j (omega arith)

pub indexed : (p : Problem) (l : ℕ) (ks : List Level) → Chain p l ks → Indexed p l ks
indexed p l ks x = record { each = chain_each p l ks x; nested = chain_nested p l ks x; synced = chain_synced p l ks x }

-- ---- of a state

pub state_chain : (p : Problem) (s : State) → IsNested p s → IsSynced s → Chain p 0 s.levels
state_chain p s n y = chain p 0 s.levels (record {
  each = λ j h. let e : j ≡ 0 + j = omega arith in subst (λ i. IsLevel p i (level_at s j)) e (n.each j h);
  nested = λ j h.
      let e : j ≡ 0 + j = omega arith in
      subst (λ i. IsNestedLevel p i (level_at s j) (level_at s (suc j))) e (subst (λ i. IsNestedLevel p j (level_at s j) (level_at s i)) (add-one j) (n.nested j (omega arith)));
  synced = λ j h. subst (λ i. IsSyncedPair (level_at s j).masses (level_at s i).masses) (add-one j) (record { at = λ c covered. y.at j c (omega arith) covered });
})

pub state_nested : (p : Problem) (s : State) → Chain p 0 s.levels → IsNested p s
state_nested p s x =
    let i = indexed p 0 s.levels x in
    record {
      each = λ l h. let e : 0 + l ≡ l = omega arith in subst (λ i. IsLevel p i (level_at s l)) e (i.each l h);
      nested = λ l h.
          let e : 0 + l ≡ l = omega arith in
          subst (λ i. IsNestedLevel p l (level_at s l) (level_at s i)) (sym (add-one l)) (subst (λ i. IsNestedLevel p i (level_at s l) (level_at s (suc l))) e (i.nested l (omega arith)));
    }

pub state_synced : (p : Problem) (s : State) → Chain p 0 s.levels → IsSynced s
state_synced p s x = record {
  at = λ l c h. (subst (λ i. IsSyncedPair (level_at s l).masses (level_at s i).masses) (sym (add-one l)) ((indexed p 0 s.levels x).synced l (omega arith))).at c;
}
