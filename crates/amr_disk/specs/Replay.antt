-- A log with one call more.
use Rattle.std.proofs.Common.{◌≡◌, inl, inr, ℕ, ◌+◌, ◌-◌, ◌≤◌, ◌<◌, max, List, [], ◌∷◌, ◌++◌, length, take, drop, replicate, nat_le}
use Rattle.std.proofs.Common.{Bool, true, false, Option, Some, refl, sym, ◌∙◌, ap, subst, arith, length-append}
use Rattle.std.proofs.lemmas.List.{take-append-le, take_all}
use Rattle.std.proofs.lemmas.Grind.{common_steps}
use Rattle.std.proofs.lemmas.Bool.{cases_Bool, leb-true, leb-false}
use Rattle.std.specs.Prelude.{slice_index}
use Rattle.amr_disk.specs.Image.{Torn, Same, Only, placed, written_at}
use Rattle.amr_disk.specs.Moments.{Passes, Rests, StaysDurable}
use Rattle.std.specs.Prelude.{if◌then◌else◌}
use Rattle.amr_disk.specs.Limits.{Limits, has_room, with_write}
use Rattle.amr_disk.specs.Calls.{Call, Wrote, Synced, seen_after, Leaves, LeavesAt, left_after}

pub seen_write : (seen : List ℕ) (log : List Call) (at : ℕ) (v : List ℕ) → seen_after seen (log ++ Wrote at v ∷ []) ≡ written_at at v (seen_after seen log)
seen_write seen [] at v = refl
seen_write seen (Wrote p w ∷ rest) at v = seen_write (written_at p w seen) rest at v
seen_write seen (Synced ∷ rest) at v = seen_write seen rest at v

pub seen_sync : (seen : List ℕ) (log : List Call) → seen_after seen (log ++ Synced ∷ []) ≡ seen_after seen log
seen_sync seen [] = refl
seen_sync seen (Wrote p w ∷ rest) = seen_sync (written_at p w seen) rest
seen_sync seen (Synced ∷ rest) = seen_sync seen rest

pub leaves_write : (now : List ℕ → Type 0) (seen : List ℕ) (log : List Call) (at : ℕ) (v : List ℕ) (c : List ℕ) → Leaves now seen (log ++ Wrote at v ∷ []) c
    → (d : List ℕ) × Leaves now seen log d × Torn at (length v) d c
leaves_write now seen [] at v c left = left
leaves_write now seen (Wrote p w ∷ rest) at v c left = leaves_write _ (written_at p w seen) rest at v c left
leaves_write now seen (Synced ∷ rest) at v c left = leaves_write _ seen rest at v c left

pub leaves_sync : (now : List ℕ → Type 0) (seen : List ℕ) (log : List Call) (c : List ℕ) → Leaves now seen (log ++ Synced ∷ []) c → c ≡ seen_after seen log
leaves_sync now seen [] c left = left
leaves_sync now seen (Wrote p w ∷ rest) c left = leaves_sync _ (written_at p w seen) rest c left
leaves_sync now seen (Synced ∷ rest) c left = leaves_sync _ seen rest c left

pub torn_same : (at n : ℕ) (c : List ℕ) → Torn at n c c
torn_same at n c = record { no_shorter = omega arith; no_longer = omega arith; below = λ i a b. refl; above = λ i a b. refl }

no_shorter_placed : (gap at n : ℕ) (bytes old : List ℕ) → length bytes ≡ n
    → length old ≤ length (take at old ++ replicate (at - length old) gap ++ bytes ++ drop (at + n) old)
no_shorter_placed gap at n bytes old size = grind (arith, common_steps)

no_longer_placed : (gap at n : ℕ) (bytes old : List ℕ) → length bytes ≡ n
    → length (take at old ++ replicate (at - length old) gap ++ bytes ++ drop (at + n) old) ≤ max (length old) (at + n)
no_longer_placed gap at n bytes old size = grind (arith, common_steps)

below_placed : (gap at n i : ℕ) (bytes old : List ℕ) → length bytes ≡ n → i < length old → i < at
    → slice_index (take at old ++ replicate (at - length old) gap ++ bytes ++ drop (at + n) old) i ≡ slice_index old i
below_placed gap at n i bytes old size within below = grind (arith, common_steps)

above_placed : (gap at n i : ℕ) (bytes old : List ℕ) → length bytes ≡ n → i < length old → at + n ≤ i
    → slice_index (take at old ++ replicate (at - length old) gap ++ bytes ++ drop (at + n) old) i ≡ slice_index old i
above_placed gap at n i bytes old size within above = grind (arith, common_steps)

-- a write that is done, with any filling of a gap, is one that a stop may leave
pub torn_placed : (gap at : ℕ) (bytes old : List ℕ) → Torn at (length bytes) old (placed gap at bytes old)
torn_placed gap at [] old = torn_same at 0 old
torn_placed gap at (b ∷ bs) old = record {
  no_shorter = no_shorter_placed gap at (length (b ∷ bs)) (b ∷ bs) old refl;
  no_longer = no_longer_placed gap at (length (b ∷ bs)) (b ∷ bs) old refl;
  below = λ i within below. below_placed gap at (length (b ∷ bs)) i (b ∷ bs) old refl within below;
  above = λ i within above. above_placed gap at (length (b ∷ bs)) i (b ∷ bs) old refl within above;
}

pub torn_written : (at : ℕ) (bytes old : List ℕ) → Torn at (length bytes) old (written_at at bytes old)
torn_written at bytes old = torn_placed 0 at bytes old

-- an image where each pending write was left in a way that a stop may leave it
pub left_is_image : (part : ℕ → List ℕ → List ℕ → List ℕ) → ((at : ℕ) (bytes old : List ℕ) → Torn at (length bytes) old (part at bytes old))
    → (now : List ℕ → Type 0) (image seen : List ℕ) (log : List Call) → now image → Leaves now seen log (left_after part image seen log)
left_is_image part torn now image seen [] is = is
left_is_image part torn now image seen (Wrote at v ∷ rest) is =
    left_is_image part torn _ (part at v image) (written_at at v seen) rest (image, is, torn at v image)
left_is_image part torn now image seen (Synced ∷ rest) is = left_is_image part torn _ seen seen rest refl

pub reads : (now : List ℕ → Type 0) (seen : List ℕ) (log : List Call) → now seen → Leaves now seen log (seen_after seen log)
reads now seen [] is = is
reads now seen (Wrote at v ∷ rest) is = reads _ (written_at at v seen) rest (seen, is, torn_written at v seen)
reads now seen (Synced ∷ rest) is = reads _ seen rest refl

pub reads_image : (base bytes : List ℕ) (log : List Call) (s : List ℕ) → bytes ≡ seen_after base log → Some bytes ≡ Some s → LeavesAt base log (length log) s
reads_image base bytes log s replayed is =
    let same : seen_after base log ≡ s = cc in
    let whole : take (length log) log ≡ log = take_all (length log) log (omega arith) in
    subst (λ (l : List Call). Leaves (λ x. x ≡ base) base l s) (sym whole)
    (subst (λ (x : List ℕ). Leaves (λ y. y ≡ base) base log x) same (reads (λ x. x ≡ base) base log refl))

pub passes_same : (now : ℕ) (leaves : ℕ → List ℕ → Type 0) (step : List ℕ → List ℕ → Type 0) → ((c : List ℕ) → step c c) → Passes now now leaves leaves step
passes_same now leaves step stays = record {
  later = omega arith;
  kept = λ t c le left. left;
  still = λ t c le left. left;
  between = λ t c ge le left. let is : t ≡ now = omega arith in inr (subst (λ (k : ℕ). leaves k c) is left);
  after = λ c left. (c, left, stays c);
}

-- within a moment
stays_still : (seen : Option (List ℕ)) (now : ℕ) (leaves : ℕ → List ℕ → Type 0) → StaysDurable seen now now leaves
stays_still seen now leaves = λ k t from order to settled. let is : k ≡ t = omega arith in subst (λ (n : ℕ). Only seen (leaves n)) is settled

-- from one moment to the next, where a stop leaves what a read gives at the end
stays_next : (seen : Option (List ℕ)) (before now : ℕ) (leaves : ℕ → List ℕ → Type 0) → now ≤ before + 1 → Only seen (leaves now)
    → StaysDurable seen before now leaves
stays_next seen before now leaves next durable = λ k t from order to settled. elim (cases_Bool (nat_le now t)) [
  | inl last ↦ let is : now ≡ t = omega (arith, leb-true now t last) in subst (λ (n : ℕ). Only seen (leaves n)) is durable
  | inr earlier ↦ let is : k ≡ t = omega (arith, leb-false now t earlier) in subst (λ (n : ℕ). Only seen (leaves n)) is settled
]

-- a call that changed nothing
pub rests_same : (seen : Option (List ℕ)) (now : ℕ) (leaves : ℕ → List ℕ → Type 0) → Rests seen now now leaves leaves
rests_same seen now leaves = record { passes = passes_same now leaves Same (λ c. refl); stays = stays_still seen now leaves }

pub passes_push : (base : List ℕ) (log later : List Call) (e : Call) (step : List ℕ → List ℕ → Type 0) → later ≡ log ++ e ∷ []
    → ((c : List ℕ) → Leaves (λ x. x ≡ base) base (log ++ e ∷ []) c → (d : List ℕ) × Leaves (λ x. x ≡ base) base log d × step d c)
    → Passes (length log) (length later) (LeavesAt base log) (LeavesAt base later) step
passes_push base log later e step is made =
    subst (λ (l : List Call). Passes (length log) (length l) (LeavesAt base log) (LeavesAt base l) step) (sym is) pushed
  where
    P : List Call → List ℕ → Type 0
    P l c = Leaves (λ x. x ≡ base) base l c

    front : (t : ℕ) → t ≤ length log → take t (log ++ e ∷ []) ≡ take t log
    front t le = take-append-le t log (e ∷ []) le

    size : length (log ++ e ∷ []) ≡ length log + 1
    size = length-append log (e ∷ [])

    pushed : Passes (length log) (length (log ++ e ∷ [])) (LeavesAt base log) (LeavesAt base (log ++ e ∷ [])) step
    pushed = record {
      later = omega (arith, size);
      kept = λ t c le left. subst (λ (l : List Call). Leaves (λ x. x ≡ base) base l c) (front t le) left;
      still = λ t c le left. subst (λ (l : List Call). Leaves (λ x. x ≡ base) base l c) (sym (front t le)) left;
      between = λ t c ge le left. elim (cases_Bool (nat_le t (length log))) [
        | inl early ↦
            let is_first : t ≡ length log = omega (arith, leb-true t (length log) early) in
            let here : LeavesAt base (log ++ e ∷ []) (length log) c = subst (λ (k : ℕ). LeavesAt base (log ++ e ∷ []) k c) is_first left in
            inl (subst (λ (l : List Call). Leaves (λ x. x ≡ base) base l c) (front (length log) (omega arith)) here)
        | inr late ↦
            let is_last : t ≡ length (log ++ e ∷ []) = omega (arith, size, leb-false t (length log) late) in
            inr (subst (λ (k : ℕ). LeavesAt base (log ++ e ∷ []) k c) is_last left)
      ];
      after = λ c left.
          let whole : take (length (log ++ e ∷ [])) (log ++ e ∷ []) ≡ log ++ e ∷ [] = take_all _ _ (omega arith) in
          let from = made c (subst (λ (l : List Call). Leaves (λ x. x ≡ base) base l c) whole left) in
          (from.0, subst (λ (l : List Call). Leaves (λ x. x ≡ base) base l from.0) (sym (take_all (length log) log (omega arith))) from.1, from.2);
    }

pub durable : (base bytes : List ℕ) (log later : List Call) (c : List ℕ) → bytes ≡ seen_after base log → later ≡ log ++ Synced ∷ []
    → LeavesAt base later (length later) c → c ≡ bytes
durable base bytes log later c is pushed left =
    let whole : take (length later) later ≡ log ++ Synced ∷ [] = take_all (length later) later (omega arith) ∙ pushed in
    leaves_sync (λ x. x ≡ base) base log c (subst (λ (l : List Call). Leaves (λ x. x ≡ base) base l c) whole left) ∙ sym is

synced : (base : List ℕ) (log : List Call) (c : List ℕ) → Leaves (λ x. x ≡ base) base (log ++ Synced ∷ []) c → (d : List ℕ)
    × Leaves (λ x. x ≡ base) base log d × Same d c
synced base log c left = (seen_after base log, reads (λ x. x ≡ base) base log refl, leaves_sync (λ x. x ≡ base) base log c left)

-- a sync that the log took
pub rests_sync : (base later_base bytes : List ℕ) (log later : List Call) → bytes ≡ seen_after base log → later_base ≡ base → later ≡ log ++ Synced ∷ []
    → Rests (Some bytes) (length log) (length later) (LeavesAt base log) (LeavesAt later_base later)
rests_sync base later_base bytes log later replayed same is =
    let size : length later ≡ length log + 1 = ap (λ (l : List Call). length l) is ∙ length-append log (Synced ∷ []) in
    subst (λ (b : List ℕ). Rests (Some bytes) (length log) (length later) (LeavesAt base log) (LeavesAt b later)) (sym same) (record {
      passes = passes_push base log later Synced Same is (synced base log);
      stays =
          stays_next (Some bytes) (length log) (length later) (LeavesAt base later) (omega (arith, size))
          (λ c left. durable base bytes log later c replayed is left);
    })

passes_taken : (taken : Bool) (base : List ℕ) (log later : List Call) (at : ℕ) (v : List ℕ) → later ≡ (if taken then log ++ Wrote at v ∷ [] else log)
    → Passes (length log) (length later) (LeavesAt base log) (LeavesAt base later) (Torn at (length v))
passes_taken true base log later at v is = passes_push base log later (Wrote at v) (Torn at (length v)) is (leaves_write (λ x. x ≡ base) base log at v)
passes_taken false base log later at v is =
    subst (λ (l : List Call). Passes (length log) (length l) (LeavesAt base log) (LeavesAt base l) (Torn at (length v))) (sym is)
    (passes_same (length log) (LeavesAt base log) (Torn at (length v)) (λ c. torn_same at (length v) c))

passes_with : (limits : Limits) (base : List ℕ) (log later : List Call) (at : ℕ) (v : List ℕ) → later ≡ with_write limits log at v
    → Passes (length log) (length later) (LeavesAt base log) (LeavesAt base later) (Torn at (length v))
passes_with limits base log later at [] is = passes_taken false base log later at [] is
passes_with limits base log later at (b ∷ bs) is = passes_taken (has_room limits log at (b ∷ bs)) base log later at (b ∷ bs) is

-- a write, which the log takes where it has room
pub passes_write : (limits : Limits) (base later_base : List ℕ) (log mid later : List Call) (at : ℕ) (v : List ℕ) → later_base ≡ base → mid ≡ log
    → later ≡ with_write limits mid at v
    → Passes (length log) (length later) (LeavesAt base log) (LeavesAt later_base later) (Torn at (length v))
passes_write limits base later_base log mid later at v same kept is =
    subst (λ (b : List ℕ). Passes (length log) (length later) (LeavesAt base log) (LeavesAt b later) (Torn at (length v))) (sym same)
    (passes_with limits base log later at v (is ∙ ap (λ (l : List Call). with_write limits l at v) kept))

-- a sync that the log took: a stop leaves what a read gives
pub durable_sync : (base later_base bytes : List ℕ) (log later : List Call) (c : List ℕ) → bytes ≡ seen_after base log → later_base ≡ base
    → later ≡ log ++ Synced ∷ [] → LeavesAt later_base later (length later) c → c ≡ bytes
durable_sync base later_base bytes log later c is same pushed left =
    durable base bytes log later c is pushed (subst (λ (b : List ℕ). LeavesAt b later (length later) c) same left)
