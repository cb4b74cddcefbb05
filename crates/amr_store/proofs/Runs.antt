-- A run of calls of a disk.
use Rattle.std.proofs.Common.{◌≡◌, inl, inr, ⊎_elim, ℕ, nat_le, List, subst, arith}
use Rattle.std.proofs.lemmas.Bool.{cases_Bool, leb-true, leb-false}
use Rattle.std.proofs.Common.{Option, Some, sym}
use Rattle.amr_disk.specs.Image.{Torn, Same, Only}
use Rattle.amr_disk.specs.Replay.{torn_same}
use Rattle.amr_disk.specs.Moments.{Passes, StopsIn}
use Rattle.amr_store.specs.Phases.{TornTwice, TornThrice}

module _ {D : Type 0} (moment : D → ℕ) (leaves : D → ℕ → List ℕ → Type 0) where
  -- before the first call
  pub started : (old : D) (P : List ℕ → Type 0) → ((c : List ℕ) → leaves old (moment old) c → P c) → StopsIn moment leaves old old P
  started old P here = record {
    later = omega arith;
    kept = λ t c le left. left;
    still = λ t c le left. left;
    each = λ t c ge le left. let is : t ≡ moment old = omega arith in here c (subst (λ (k : ℕ). leaves old k c) is left);
  }

  -- one call more, after which each image has P
  pub goes_on : (old mid new : D) (P : List ℕ → Type 0) (step : List ℕ → List ℕ → Type 0) → StopsIn moment leaves old mid P → Passes (moment mid) (moment new) (leaves mid) (leaves new) step
      → ((c : List ℕ) → leaves new (moment new) c → P c) → StopsIn moment leaves old new P
  goes_on old mid new P step so_far call here = record {
    later = omega (arith, so_far.later, call.later);
    kept = λ t c le left. so_far.kept t c le (call.kept t c (omega (arith, so_far.later)) left);
    still = λ t c le left. call.still t c (omega (arith, so_far.later)) (so_far.still t c le left);
    each = λ t c ge le left. elim (cases_Bool (nat_le t (moment mid))) [
      | inl early ↦ so_far.each t c ge (leb-true t (moment mid) early) (call.kept t c (leb-true t (moment mid) early) left)
      | inr late ↦ ⊎_elim (λ before. so_far.each (moment mid) c so_far.later (omega arith) before) (here c) (call.between t c (omega (arith, leb-false t (moment mid) late)) le left)
    ];
  }

  -- a run after a run
  pub joins : (old mid new : D) (P Q R : List ℕ → Type 0) → StopsIn moment leaves old mid P → StopsIn moment leaves mid new Q → ((c : List ℕ) → P c → R c) → ((c : List ℕ) → Q c → R c) → StopsIn moment leaves old new R
  joins old mid new P Q R first second p q = record {
    later = omega (arith, first.later, second.later);
    kept = λ t c le left. first.kept t c le (second.kept t c (omega (arith, first.later)) left);
    still = λ t c le left. second.still t c (omega (arith, first.later)) (first.still t c le left);
    each = λ t c ge le left. elim (cases_Bool (nat_le t (moment mid))) [
      | inl early ↦ p c (first.each t c ge (leb-true t (moment mid) early) (second.kept t c (leb-true t (moment mid) early) left))
      | inr late ↦ q c (second.each t c (omega (arith, leb-false t (moment mid) late)) le left)
    ];
  }

  pub weaker : (old new : D) (P Q : List ℕ → Type 0) → ((c : List ℕ) → P c → Q c) → StopsIn moment leaves old new P → StopsIn moment leaves old new Q
  weaker old new P Q to run = record { later = run.later; kept = run.kept; still = run.still; each = λ t c ge le left. to c (run.each t c ge le left) }

  pub only_at : (old : D) (seen : Option (List ℕ)) (s : List ℕ) → seen ≡ Some s → Only seen (leaves old (moment old)) → (c : List ℕ) → leaves old (moment old) c → c ≡ s
  only_at old seen s is settled = subst (λ (o : Option (List ℕ)). Only o (leaves old (moment old))) is settled

  -- a write to a settled disk
  pub writes : (old new : D) (at n : ℕ) (s : List ℕ) → ((c : List ℕ) → leaves old (moment old) c → c ≡ s) → Passes (moment old) (moment new) (leaves old) (leaves new) (Torn at n)
      → StopsIn moment leaves old new (Torn at n s)
  writes old new at n s settled call =
      goes_on old old new (Torn at n s) (Torn at n) (started old (Torn at n s) (λ c left. subst (λ (d : List ℕ). Torn at n d c) (settled c left) (torn_same at n c))) call
      (λ c left. let from = call.after c left in subst (λ (d : List ℕ). Torn at n d c) (settled from.0 from.1) from.2)

  -- one write more
  pub writes_on : (old mid new : D) (at n : ℕ) (P Q : List ℕ → Type 0) → StopsIn moment leaves old mid P → Passes (moment mid) (moment new) (leaves mid) (leaves new) (Torn at n)
      → ((d c : List ℕ) → P d → Torn at n d c → Q c) → StopsIn moment leaves old new Q
  writes_on old mid new at n P Q run call torn =
      goes_on old mid new Q (Torn at n) (weaker old mid P Q (λ c p. torn c c p (torn_same at n c)) run) call
      (λ c left. let from = call.after c left in torn from.0 c (run.each (moment mid) from.0 run.later (omega arith) from.1) from.2)

  -- two writes, and three, to a settled disk
  pub two_writes : (d0 d1 d2 : D) (a n b k : ℕ) (s : List ℕ) → ((c : List ℕ) → leaves d0 (moment d0) c → c ≡ s) → Passes (moment d0) (moment d1) (leaves d0) (leaves d1) (Torn a n) → Passes (moment d1) (moment d2) (leaves d1) (leaves d2) (Torn b k)
      → StopsIn moment leaves d0 d2 (TornTwice a n b k s)
  two_writes d0 d1 d2 a n b k s settled first second =
      writes_on d0 d1 d2 b k (Torn a n s) (TornTwice a n b k s) (writes d0 d1 a n s settled first) second (λ d e p t. (d, p, t))

  pub three_writes : (d0 d1 d2 d3 : D) (a n b k e j : ℕ) (s : List ℕ) → ((c : List ℕ) → leaves d0 (moment d0) c → c ≡ s) → Passes (moment d0) (moment d1) (leaves d0) (leaves d1) (Torn a n) → Passes (moment d1) (moment d2) (leaves d1) (leaves d2) (Torn b k)
      → Passes (moment d2) (moment d3) (leaves d2) (leaves d3) (Torn e j) → StopsIn moment leaves d0 d3 (TornThrice a n b k e j s)
  three_writes d0 d1 d2 d3 a n b k e j s settled first second third =
      writes_on d0 d2 d3 e j (TornTwice a n b k s) (TornThrice a n b k e j s) (two_writes d0 d1 d2 a n b k s settled first second) third (λ d i p t. (d, p, t))

  -- a sync
  pub syncs : (old mid new : D) (P : List ℕ → Type 0) → StopsIn moment leaves old mid P → Passes (moment mid) (moment new) (leaves mid) (leaves new) Same → StopsIn moment leaves old new P
  syncs old mid new P run call =
      goes_on old mid new P Same run call
      (λ c left. let from = call.after c left in subst P (sym from.2) (run.each (moment mid) from.0 run.later (omega arith) from.1))
