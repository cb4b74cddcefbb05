-- The log of a disk in memory with one step more.
use Rattle.std.proofs.Common.{◌≡◌, ℕ, ◌+◌, ◌≤◌, ◌<◌, max, List, [], ◌∷◌, ◌++◌, Vec, Global, length, suc, take, drop, nat_le, nat_lt, Bool, true, false, ◌&&◌, refl, sym, ◌∙◌, ap, arith, length-append}
use Rattle.std.proofs.lemmas.List.{take-append-le, drop-append-le, take_all}
use Rattle.std.proofs.Common.{inl, inr}
use Rattle.std.proofs.lemmas.Bool.{cases_Bool, leb-true}
use Rattle.std.proofs.lemmas.Grind.{common_steps}
use Rattle.amr_disk.specs.Calls.{Call, Wrote, Synced, seen_after}
use Rattle.amr_disk.specs.Image.{written_at}
use Rattle.amr_disk.specs.Replay.{seen_sync, seen_write, torn_written}
use Rattle.amr_disk.specs.Limits.{Limits, bytes_in, has_room, has_call, with_write}
use Rattle.amr_disk.specs.Log.{calls_of, size_of, reach_of}
use Rattle.amr_disk.specs.declared.step.Step.{Step}
use Rattle.amr_disk.specs.declared.step.Step.TheVariants.{Write, Sync}

pub calls_of-write : (steps : List Step) (written chunk : List ℕ) (at : ℕ) → size_of steps ≡ length written
    → calls_of (steps ++ Write at (length chunk) ∷ []) (written ++ chunk) ≡ calls_of steps written ++ Wrote at chunk ∷ []
calls_of-write [] [] chunk at whole = ap (λ (p : List ℕ). Wrote at p ∷ []) (take_all (length chunk) chunk (omega arith))
calls_of-write [] (b ∷ bs) chunk at whole = absurd (zero_is_no_suc (length bs) whole)
  where
    zero_is_no_suc : (n : ℕ) → 0 ≡ suc n → ⊥
    zero_is_no_suc n e = cc
calls_of-write (Write p len ∷ rest) written chunk at whole =
    let front : take len (written ++ chunk) ≡ take len written = take-append-le len written chunk (omega arith) in
    let back : drop len (written ++ chunk) ≡ drop len written ++ chunk = drop-append-le len written chunk (omega arith) in
    let left : size_of rest ≡ length (drop len written) = grind (arith, common_steps) in
    let later = calls_of-write rest (drop len written) chunk at left in
    rw (front, back, later) refl
calls_of-write (Sync ∷ rest) written chunk at whole = ap (λ (l : List Call). Synced ∷ l) (calls_of-write rest written chunk at whole)

pub calls_of-sync : (steps : List Step) (written : List ℕ) → calls_of (steps ++ Sync ∷ []) written ≡ calls_of steps written ++ Synced ∷ []
calls_of-sync [] written = refl
calls_of-sync (Write p len ∷ rest) written = ap (λ (l : List Call). Wrote p (take len written) ∷ l) (calls_of-sync rest (drop len written))
calls_of-sync (Sync ∷ rest) written = ap (λ (l : List Call). Synced ∷ l) (calls_of-sync rest written)

pub size_of-write : (steps : List Step) (at len : ℕ) → size_of (steps ++ Write at len ∷ []) ≡ size_of steps + len
size_of-write [] at len = omega arith
size_of-write (Write p n ∷ rest) at len = omega (arith, size_of-write rest at len)
size_of-write (Sync ∷ rest) at len = size_of-write rest at len

pub size_of-sync : (steps : List Step) → size_of (steps ++ Sync ∷ []) ≡ size_of steps
size_of-sync [] = refl
size_of-sync (Write p n ∷ rest) = ap (λ (k : ℕ). n + k) (size_of-sync rest)
size_of-sync (Sync ∷ rest) = size_of-sync rest

pub reach_of-write : (steps : List Step) (at len : ℕ) → reach_of (steps ++ Write at len ∷ []) ≡ max (reach_of steps) (at + len)
reach_of-write [] at len = omega arith
reach_of-write (Write p n ∷ rest) at len = omega (arith, reach_of-write rest at len)
reach_of-write (Sync ∷ rest) at len = reach_of-write rest at len

pub reach_of-sync : (steps : List Step) → reach_of (steps ++ Sync ∷ []) ≡ reach_of steps
reach_of-sync [] = refl
reach_of-sync (Write p n ∷ rest) = ap (λ (k : ℕ). max (p + n) k) (reach_of-sync rest)
reach_of-sync (Sync ∷ rest) = reach_of-sync rest

pub length-calls_of : (steps : List Step) (written : List ℕ) → length (calls_of steps written) ≡ length steps
length-calls_of [] written = refl
length-calls_of (Write p n ∷ rest) written = ap suc (length-calls_of rest (drop n written))
length-calls_of (Sync ∷ rest) written = ap suc (length-calls_of rest written)

pub bytes_in-calls_of : (steps : List Step) (written : List ℕ) → size_of steps ≤ length written → bytes_in (calls_of steps written) ≡ size_of steps
bytes_in-calls_of [] written whole = refl
bytes_in-calls_of (Write p n ∷ rest) written whole =
    let size : length (take n written) ≡ n = grind (arith, common_steps) in
    let left : size_of rest ≤ length (drop n written) = grind (arith, common_steps) in
    omega (arith, size, bytes_in-calls_of rest (drop n written) left)
bytes_in-calls_of (Sync ∷ rest) written whole = bytes_in-calls_of rest written whole

-- the test of room, by the lengths of the log
pub room_is : (limits : Limits) (steps : List Step) (written : List ℕ) (at w s : ℕ) (chunk : List ℕ) → 0 < length chunk → size_of steps ≡ w → w ≡ length written → s ≡ length steps
    → has_room limits (calls_of steps written) at chunk ≡ (nat_le (at + length chunk) limits.capacity && nat_le (w + length chunk) limits.capacity && nat_lt s limits.calls)
room_is limits steps written at w s [] some whole is count = absurd (omega arith)
room_is limits steps written at w s (b ∷ bs) some whole is count =
    let bytes : bytes_in (calls_of steps written) ≡ w = bytes_in-calls_of steps written (omega arith) ∙ whole in
    let calls : length (calls_of steps written) ≡ s = length-calls_of steps written ∙ sym count in
    rw (bytes, calls) refl

pub call_is : (limits : Limits) (steps : List Step) (written : List ℕ) (s : ℕ) → s ≡ length steps → has_call limits (calls_of steps written) ≡ nat_lt s limits.calls
call_is limits steps written s count = ap (λ (n : ℕ). nat_lt n limits.calls) (length-calls_of steps written ∙ sym count)

pub with_write-room : (limits : Limits) (calls : List Call) (at : ℕ) (chunk : List ℕ) → 0 < length chunk → has_room limits calls at chunk ≡ true → with_write limits calls at chunk ≡ calls ++ Wrote at chunk ∷ []
with_write-room limits calls at [] some room = absurd (omega arith)
with_write-room limits calls at (b ∷ bs) some room = rw room refl

pub with_write-none : (limits : Limits) (calls : List Call) (at : ℕ) (chunk : List ℕ) → 0 < length chunk → has_room limits calls at chunk ≡ false → with_write limits calls at chunk ≡ calls
with_write-none limits calls at [] some room = absurd (omega arith)
with_write-none limits calls at (b ∷ bs) some room = rw room refl

pub log_sync : (steps later : List Step) (written : List ℕ) → later ≡ steps ++ Sync ∷ [] → calls_of later written ≡ calls_of steps written ++ Synced ∷ []
log_sync steps later written is = ap (λ (l : List Step). calls_of l written) is ∙ calls_of-sync steps written

pub log_write : (steps later : List Step) (written grown chunk : List ℕ) (at len w : ℕ) → size_of steps ≡ w → w ≡ length written → len ≡ length chunk → later ≡ steps ++ Write at len ∷ [] → grown ≡ written ++ chunk
    → calls_of later grown ≡ calls_of steps written ++ Wrote at chunk ∷ []
log_write steps later written grown chunk at len w size whole is pushed longer =
    rw (pushed, longer, is) (calls_of-write steps written chunk at (size ∙ whole))

pub replayed_sync : (made bytes : List ℕ) (steps later : List Step) (written : List ℕ) → bytes ≡ seen_after made (calls_of steps written) → later ≡ steps ++ Sync ∷ [] → bytes ≡ seen_after made (calls_of later written)
replayed_sync made bytes steps later written is pushed =
    is ∙ sym (seen_sync made (calls_of steps written)) ∙ ap (λ (l : List Call). seen_after made l) (sym (log_sync steps later written pushed))

pub replayed_write : (made bytes next : List ℕ) (steps later : List Step) (written grown chunk : List ℕ) (at len w : ℕ) → bytes ≡ seen_after made (calls_of steps written)
    → size_of steps ≡ w → w ≡ length written → len ≡ length chunk → later ≡ steps ++ Write at len ∷ [] → grown ≡ written ++ chunk → next ≡ written_at at chunk bytes → next ≡ seen_after made (calls_of later grown)
replayed_write made bytes next steps later written grown chunk at len w is size whole n pushed longer placed =
    placed ∙ ap (λ (b : List ℕ). written_at at chunk b) is ∙ sym (seen_write made (calls_of steps written) at chunk)
    ∙ ap (λ (l : List Call). seen_after made l) (sym (log_write steps later written grown chunk at len w size whole n pushed longer))

pub length_written : (at : ℕ) (chunk old : List ℕ) → length (written_at at chunk old) ≤ max (length old) (at + length chunk)
length_written at [] old = omega arith
length_written at (b ∷ bs) old = omega (arith, (torn_written at (b ∷ bs) old).no_longer)

pub size_after_sync : (steps later : List Step) → later ≡ steps ++ Sync ∷ [] → size_of later ≡ size_of steps
size_after_sync steps later is = ap (λ (l : List Step). size_of l) is ∙ size_of-sync steps

pub reach_after_sync : (steps later : List Step) (end : ℕ) → later ≡ steps ++ Sync ∷ [] → reach_of steps ≤ end → reach_of later ≤ end
reach_after_sync steps later end is within = let same = ap (λ (l : List Step). reach_of l) is ∙ reach_of-sync steps in omega (arith, same)

pub size_after_write : (steps later : List Step) (at len : ℕ) → later ≡ steps ++ Write at len ∷ [] → size_of later ≡ size_of steps + len
size_after_write steps later at len is = ap (λ (l : List Step). size_of l) is ∙ size_of-write steps at len

pub reach_after_write : (steps later : List Step) (at len end : ℕ) → later ≡ steps ++ Write at len ∷ [] → reach_of steps ≤ end → at + len ≤ end → reach_of later ≤ end
reach_after_write steps later at len end is within here = let grown = ap (λ (l : List Step). reach_of l) is ∙ reach_of-write steps at len in omega (arith, grown)

-- a write that has room ends within the capacity
pub room_ends : (x y : ℕ) (p q : Bool) → true ≡ (nat_le x y && p && q) → x ≤ y
room_ends x y p q is = elim (cases_Bool (nat_le x y)) [
  | inl le ↦ leb-true x y le
  | inr gt ↦ let none : (nat_le x y && p && q) ≡ false = rw gt refl in absurd (two_truths (is ∙ none))
]
  where
    two_truths : true ≡ false → ⊥
    two_truths e = cc

pub whole_after : (steps later : List Step) (at : ℕ) (written grown : Vec ℕ Global) (chunk : List ℕ) → later ≡ steps ++ Write at (length chunk) ∷ [] → size_of steps ≡ written.len → grown.items ≡ written.items ++ chunk → size_of later ≡ grown.len
whole_after steps later at written grown chunk is whole longer =
    let size = ap (λ (l : List ℕ). length l) longer ∙ length-append written.items chunk in
    omega (arith, size_after_write steps later at (length chunk) is, size, written.ok.0, grown.ok.0)

pub fits_after : (at end : ℕ) (chunk : List ℕ) (old new : Vec ℕ Global) → at + length chunk ≤ end → old.len ≤ end → new.items ≡ written_at at chunk old.items → new.len ≤ end
fits_after at end chunk old new ends fits placed =
    let size = ap (λ (l : List ℕ). length l) placed in
    omega (arith, size, length_written at chunk old.items, old.ok.0, new.ok.0)
