-- A run of calls that only read.
use Rattle.std.proofs.Common.{◌≡◌, inl, inr, ⊎_elim, ℕ, ◌≤◌, nat_le, List, Option, Some, None, refl, sym, ◌∙◌, subst, arith}
use Rattle.std.proofs.lemmas.Bool.{cases_Bool, leb-true, leb-false}
use Rattle.amr_disk.specs.Image.{Same, Only}
use Rattle.amr_disk.specs.Moments.{StopsIn, Rests, StaysDurable}
use Rattle.amr_disk.specs.Replay.{rests_same}
use Rattle.amr_store.proofs.Runs.{started, goes_on, only_at}
use Rattle.amr_store.specs.Phases.{OnlyReads}

module _ {D : Type 0} (seen : D → Option (List ℕ)) (moment : D → ℕ) (leaves : D → ℕ → List ℕ → Type 0) where
  -- an image after a read was one before it
  before : (old new : D) → OnlyReads seen moment leaves old new → (c : List ℕ) → leaves new (moment new) c → leaves old (moment old) c
  before old new reads c left =
      let from = reads.images.passes.after c left in
      subst (λ (x : List ℕ). leaves old (moment old) x) (sym from.2) from.1

  pub no_reads : (old : D) → OnlyReads seen moment leaves old old
  no_reads old = record {
    same = refl;
    images = rests_same (seen old) (moment old) (leaves old);
  }

  -- until the first of two runs ends, a stop leaves as much on the later disk
  only_still : (told : Option (List ℕ)) (old mid new : D) (t : ℕ) → Rests told (moment mid) (moment new) (leaves mid) (leaves new) → t ≤ moment mid → Only told (leaves mid t) → Only told (leaves new t)
  only_still None old mid new t call le only = tt
  only_still (Some s) old mid new t call le only = λ c left. only c (call.passes.kept t c le left)

  only_back : (told : Option (List ℕ)) (old mid new : D) (t : ℕ) → Rests told (moment mid) (moment new) (leaves mid) (leaves new) → t ≤ moment mid → Only told (leaves new t) → Only told (leaves mid t)
  only_back None old mid new t call le only = tt
  only_back (Some s) old mid new t call le only = λ c left. only c (call.passes.still t c le left)

  stays_on : (told : Option (List ℕ)) (old mid new : D) → Rests told (moment old) (moment mid) (leaves old) (leaves mid) → Rests told (moment mid) (moment new) (leaves mid) (leaves new) → StaysDurable told (moment old) (moment new) (leaves new)
  stays_on told old mid new first second = λ k t from order to settled. elim (cases_Bool (nat_le t (moment mid))) [
    | inl early ↦
        let le : t ≤ moment mid = leb-true t (moment mid) early in
        only_still told old mid new t second le (first.stays k t from order le (only_back told old mid new k second (omega (arith, le, order)) settled))
    | inr late ↦ elim (cases_Bool (nat_le k (moment mid))) [
      | inl before_mid ↦
          let le : k ≤ moment mid = leb-true k (moment mid) before_mid in
          let here = first.stays k (moment mid) from le (omega arith) (only_back told old mid new k second le settled) in
          second.stays (moment mid) t (omega arith) (omega (arith, leb-false t (moment mid) late)) to (only_still told old mid new (moment mid) second (omega arith) here)
      | inr after_mid ↦ second.stays k t (omega (arith, leb-false k (moment mid) after_mid)) order to settled
    ]
  ]

  pub reads_on : (old mid new : D) → OnlyReads seen moment leaves old mid → OnlyReads seen moment leaves mid new → OnlyReads seen moment leaves old new
  reads_on old mid new first second = record {
    same = second.same ∙ first.same;
    images = record {
      passes = record {
        later = omega (arith, first.images.passes.later, second.images.passes.later);
        kept = λ t c le left. first.images.passes.kept t c le (second.images.passes.kept t c (omega (arith, first.images.passes.later)) left);
        still = λ t c le left. second.images.passes.still t c (omega (arith, first.images.passes.later)) (first.images.passes.still t c le left);
        between = λ t c from to left. elim (cases_Bool (nat_le t (moment mid))) [
          | inl early ↦
              let le : t ≤ moment mid = leb-true t (moment mid) early in
              ⊎_elim (λ old_one. inl old_one) (λ one. inl (before old mid first c one)) (first.images.passes.between t c from le (second.images.passes.kept t c le left))
          | inr late ↦
              ⊎_elim (λ one. inl (before old mid first c one)) (λ one. inr one) (second.images.passes.between t c (omega (arith, leb-false t (moment mid) late)) to left)
        ];
        after = λ c left. let from = second.images.passes.after c left in let back = first.images.passes.after from.0 from.1 in (back.0, back.1, from.2 ∙ back.2);
      };
      stays = stays_on (seen old) old mid new first.images (subst (λ (o : Option (List ℕ)). Rests o (moment mid) (moment new) (leaves mid) (leaves new)) first.same second.images);
    };
  }

  pub reads_settled : (old new : D) → OnlyReads seen moment leaves old new → Only (seen old) (leaves old (moment old)) → Only (seen new) (leaves new (moment new))
  reads_settled old new reads settled = subst (λ (o : Option (List ℕ)). Only o (leaves new (moment new))) (sym reads.same) (go (seen old) settled)
    where
      go : (o : Option (List ℕ)) → Only o (leaves old (moment old)) → Only o (leaves new (moment new))
      go None is = tt
      go (Some s) is = λ c left. is c (before old new reads c left)

  pub reads_stops : (old new : D) (s : List ℕ) → OnlyReads seen moment leaves old new → Only (seen old) (leaves old (moment old)) → seen old ≡ Some s → StopsIn moment leaves old new (Same s)
  reads_stops old new s reads settled is =
      goes_on moment leaves old old new (Same s) Same (started moment leaves old (Same s) (λ c left. only_at moment leaves old _ s is settled c left)) reads.images.passes
      (λ c left. only_at moment leaves old _ s is settled c (before old new reads c left))
