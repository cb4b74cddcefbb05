-- A whole image, with the store that counts in it.
use Rattle.std.proofs.Common.{◌≡◌, ℕ, ◌+◌, ◌≤◌, ◌<◌, max, nat_le, nat_lt, ◌==◌, Bool, true, false, not, ◌&&◌, ◌||◌, List, [], ◌∷◌, ◌++◌, length, drop, None, inl, inr, refl, sym, ◌∙◌, ap, subst, arith, ap₂}
use Rattle.std.proofs.lemmas.Bool.{cases_Bool, eqb-true, ltb-true, ltb-false, lt-ltb, le-ltb, leb-false, lt-leb, or_parts, or_from, not-false, not_from_true}
use Rattle.std.specs.Prelude.{slice_index, nat_eq}
use Rattle.std.specs.Cmp.Lexicographic.{pointwise}
use Rattle.amr_store.proofs.Parts.{SameHead, beyond_changed}
use Rattle.amr_store.proofs.Leads.{lead_other, other_deltas}
use Rattle.amr_store.proofs.Places.{Outside}
use Rattle.amr_store.specs.Table.{slot_count}
use Rattle.amr_store.proofs.Whole.{Whole, whole_of, tests_of, found_append, front_none, head_none, NoneFound}
use Rattle.amr_store.specs.declared.part.Part.TheVariants.{Renewal}
use Rattle.amr_store.specs.Layout.{open_gate, magic_1, magic_2, magic_3, long_at, lead_of, size_of, gate_at, problem_of}
use Rattle.amr_store.specs.Stored.{Reads, Held, is_open, tests, first_found, has_magic_1, has_magic_2, has_magic_3, is_known, count_of, end_in, is_renewed, base_of, renewal_tests, damage_in, state_of, is_empty, stored}

pub stored_is : (image : List ℕ) (base : ℕ) → Reads image base → stored image ≡ Held (state_of (drop base image))
stored_is image base reads = rw (reads.held, reads.sound, reads.base_is) refl

-- the tests on the store at place 0 find nothing
pub outer_whole : (image : List ℕ) → damage_in image ≡ None → Whole (is_known image) image
outer_whole image sound = whole_of (is_known image) image (front_none (tests (is_known image) image) (renewal_tests image) sound)

renewal_none : (image : List ℕ) → damage_in image ≡ None → first_found (renewal_tests image) ≡ None
renewal_none image sound =
    let front = front_none (tests (is_known image) image) (renewal_tests image) sound in
    sym (found_append (tests (is_known image) image) (renewal_tests image) front) ∙ sound

renewal_rows : (image : List ℕ) → is_renewed image ≡ true → damage_in image ≡ None
    → first_found (tests (has_magic_2 (drop (end_in image) image)) (drop (end_in image) image) ++ (not (pointwise nat_eq (problem_of (drop (end_in image) image)) (problem_of image)), Renewal) ∷ []) ≡ None
renewal_rows image renewed sound = rw renewed at (renewal_none image sound)

pub base_plain : (image : List ℕ) → is_renewed image ≡ false → base_of image ≡ 0
base_plain image plain = rw plain refl

pub base_renewed : (image : List ℕ) → is_renewed image ≡ true → base_of image ≡ end_in image
base_renewed image renewed = rw renewed refl

pub true_whole : (has_magic : Bool) (image : List ℕ) → Whole has_magic image → Whole true image
true_whole true image whole = whole
true_whole false image whole = let no : false ≡ true = whole.magic in cc

-- the store that counts is whole
pub inner_whole : (image : List ℕ) (base : ℕ) → Reads image base → Whole true (drop base image)
inner_whole image base reads = elim (cases_Bool (is_renewed image)) [
  | inl renewed ↦
      let rows = renewal_rows image renewed reads.sound in
      let at : end_in image ≡ base = sym (base_renewed image renewed) ∙ reads.base_is in
      subst (λ (n : ℕ). Whole true (drop n image)) at
      (true_whole (has_magic_2 (drop (end_in image) image)) (drop (end_in image) image) (whole_of (has_magic_2 (drop (end_in image) image)) (drop (end_in image) image) (front_none (tests (has_magic_2 (drop (end_in image) image)) (drop (end_in image) image)) ((not (pointwise nat_eq (problem_of (drop (end_in image) image)) (problem_of image)), Renewal) ∷ []) rows)))
  | inr plain ↦
      let at : 0 ≡ base = sym (base_plain image plain) ∙ reads.base_is in
      subst (λ (n : ℕ). Whole true (drop n image)) at (true_whole _ image (outer_whole image reads.sound))
]

-- the bytes at the first place and the length of an image that holds a store
pub open_first : (image : List ℕ) → is_empty image ≡ false → is_open image 0 ≡ true
open_first image held = not-false (is_open image 0) (or_parts (nat_le (length image) 1) _ held).1

pub two_bytes : (image : List ℕ) → is_empty image ≡ false → 1 < length image
two_bytes image held = leb-false (length image) 1 (or_parts (nat_le (length image) 1) _ held).0

pub held_of : (image : List ℕ) → 1 < length image → is_open image 0 ≡ true → is_empty image ≡ false
held_of image long open_is = or_from (nat_le (length image) 1) _ (lt-leb (length image) 1 long) (not_from_true (is_open image 0) open_is)

with_magic : (has_magic : Bool) (image : List ℕ) → has_magic ≡ true → Whole true image → Whole has_magic image
with_magic has_magic image is whole = subst (λ (m : Bool). Whole m image) (sym is) whole

pub end_kept : (old new : List ℕ) → SameHead old new → end_in new ≡ end_in old
end_kept old new head = rw (head.text, head.size) refl

pub magic_1_kept : (old new : List ℕ) → SameHead old new → has_magic_1 new ≡ has_magic_1 old
magic_1_kept old new head = ap (λ (n : ℕ). n == magic_1) head.magic

magic_2_kept : (old new : List ℕ) → SameHead old new → has_magic_2 new ≡ has_magic_2 old
magic_2_kept old new head = ap (λ (n : ℕ). n == magic_2) head.magic

pub some_magic_kept : (old new : List ℕ) → SameHead old new → (is_known new) ≡ (is_known old)
some_magic_kept old new head = ap (λ (m : ℕ). ((m == magic_1) || (m == magic_3)) || (m == magic_2)) head.magic

pub held_kept : (old new : List ℕ) (a b : ℕ) → 0 < a → Outside a b old new → is_empty old ≡ false → is_empty new ≡ false
held_kept old new a b past out held =
    let long = two_bytes old held in
    held_of new (omega (arith, long, out.no_shorter)) (ap (λ (n : ℕ). n == open_gate) (out.below 0 (omega (arith, long)) past) ∙ open_first old held)

pub and_first : (a b c : Bool) → a ≡ false → (a && b && c) ≡ false
and_first true b c is = let no : true ≡ false = is in cc
and_first false b c is = refl

pub and_second : (a b c : Bool) → b ≡ false → (a && b && c) ≡ false
and_second true true c is = let no : true ≡ false = is in cc
and_second true false c is = refl
and_second false b c is = refl

pub and_third : (a b c : Bool) → c ≡ false → (a && b && c) ≡ false
and_third true true c is = is
and_third true false c is = refl
and_third false b c is = refl

pub third_false : (a b c : Bool) → a ≡ true → b ≡ true → (a && b && c) ≡ false → c ≡ false
third_false true true c p q is = is
third_false true false c p q is = let no : false ≡ true = q in cc
third_false false b c p q is = let no : false ≡ true = p in cc

pub all_true : (a b c : Bool) → a ≡ true → b ≡ true → c ≡ true → (a && b && c) ≡ true
all_true true true c p q is = is
all_true true false c p q is = q
all_true false b c p q is = p

first_true : (a b c : Bool) → (a && b && c) ≡ true → a ≡ true
first_true true b c is = refl
first_true false b c is = is

second_true : (a b c : Bool) → (a && b && c) ≡ true → b ≡ true
second_true true true c is = refl
second_true true false c is = is
second_true false b c is = let no : false ≡ true = is in cc

third_true : (a b c : Bool) → (a && b && c) ≡ true → c ≡ true
third_true true true c is = is
third_true true false c is = let no : false ≡ true = is in cc
third_true false b c is = let no : false ≡ true = is in cc

-- a store of version 1 ends where its slots do
pub end_first : (part : List ℕ) → has_magic_1 part ≡ true → gate_at (count_of part) (lead_of part) (size_of part) ≡ end_in part
end_first part one = ap (λ (n : ℕ). gate_at (slot_count n) (lead_of part) (size_of part)) (other_deltas part other) ∙ ap (λ (n : ℕ). gate_at 2 n (size_of part)) (lead_other part other)
  where
    other : has_magic_3 part ≡ false
    other = ap (λ (n : ℕ). n == magic_3) (eqb-true (long_at part 1) magic_1 one)

-- an image that was not renewed stays so, where nothing was written at the end of its store or past it
still_plain : (old new : List ℕ) (b : ℕ) → is_renewed old ≡ false → SameHead old new → length new ≤ max (length old) b → (has_magic_1 old ≡ true → b ≤ end_in old + 1)
    → (has_magic_1 old ≡ true → end_in old < length old → slice_index new (end_in old) ≡ slice_index old (end_in old)) → is_renewed new ≡ false
still_plain old new b plain head no_longer within same =
    let e = end_kept old new head in
    elim (cases_Bool (has_magic_1 old)) [
      | inr other ↦ and_first (has_magic_1 new) (nat_lt (end_in new + 1) (length new)) (is_open new (end_in new)) (magic_1_kept old new head ∙ other)
      | inl one ↦ elim (cases_Bool (nat_lt (end_in old + 1) (length old))) [
        | inr short ↦ and_second (has_magic_1 new) (nat_lt (end_in new + 1) (length new)) (is_open new (end_in new)) (le-ltb (end_in new + 1) (length new) (omega (arith, no_longer, within one, e, ltb-false (end_in old + 1) (length old) short)))
        | inl long ↦
            let gate : is_open old (end_in old) ≡ false = third_false (has_magic_1 old) (nat_lt (end_in old + 1) (length old)) (is_open old (end_in old)) one long plain in
            let still : is_open new (end_in old) ≡ false = ap (λ (n : ℕ). n == open_gate) (same one (omega (arith, ltb-true (end_in old + 1) (length old) long))) ∙ gate in
            and_third (has_magic_1 new) (nat_lt (end_in new + 1) (length new)) _ (ap (λ (n : ℕ). is_open new n) e ∙ still)
      ]
    ]

pub plain_sound : (new : List ℕ) → (is_known new) ≡ true → Whole true new → is_renewed new ≡ false → damage_in new ≡ None
plain_sound new magic whole plain =
    found_append (tests (is_known new) new) (renewal_tests new) (tests_of (is_known new) new (with_magic _ new magic whole)) ∙ rw plain refl

pub plain_changed : (old new : List ℕ) (a b : ℕ) → Reads old 0 → is_renewed old ≡ false → 0 < a → (has_magic_1 old ≡ true → b ≤ end_in old) → Outside a b old new → SameHead old new → Whole true new → Reads new 0
plain_changed old new a b reads plain past within out head whole =
    let plain_new = still_plain old new b plain head out.no_longer (λ one. omega (arith, within one)) (λ one here. out.above (end_in old) here (within one)) in
    record {
      held = held_kept old new a b past out reads.held;
      sound = plain_sound new (some_magic_kept old new head ∙ (outer_whole old reads.sound).magic) whole plain_new;
      base_is = base_plain new plain_new;
    }

-- what the tests on a renewed image ask of the new store
pub record Renewed (image : List ℕ) : Type 0 where
  pub magic : has_magic_2 (drop (end_in image) image) ≡ true
  pub whole : Whole true (drop (end_in image) image)
  pub same : pointwise nat_eq (problem_of (drop (end_in image) image)) (problem_of image) ≡ true

pub renewed_of : (image : List ℕ) → is_renewed image ≡ true → damage_in image ≡ None → Renewed image
renewed_of image renewed sound =
    let part = drop (end_in image) image in
    let rows = renewal_rows image renewed sound in
    let front = front_none (tests (has_magic_2 part) part) ((not (pointwise nat_eq (problem_of part) (problem_of image)), Renewal) ∷ []) rows in
    let back : NoneFound ((not (pointwise nat_eq (problem_of part) (problem_of image)), Renewal) ∷ []) =
    record { none = sym (found_append (tests (has_magic_2 part) part) ((not (pointwise nat_eq (problem_of part) (problem_of image)), Renewal) ∷ []) front) ∙ rows } in
    let whole = whole_of (has_magic_2 part) part front in
    record {
      magic = whole.magic;
      whole = true_whole (has_magic_2 part) part whole;
      same = not-false (pointwise nat_eq (problem_of part) (problem_of image)) (head_none _ _ _ back);
    }

pub one_row : (test : Bool) → test ≡ true → first_found ((not test, Renewal) ∷ []) ≡ None
one_row true is = refl
one_row false is = let no : false ≡ true = is in cc

pub renewed_sound : (image : List ℕ) → (is_known image) ≡ true → Whole true image → is_renewed image ≡ true → Renewed image → damage_in image ≡ None
renewed_sound image magic whole renewed inner =
    let part = drop (end_in image) image in
    found_append (tests (is_known image) image) (renewal_tests image) (tests_of (is_known image) image (with_magic _ image magic whole))
    ∙ rw renewed
    (found_append (tests (has_magic_2 part) part) ((not (pointwise nat_eq (problem_of part) (problem_of image)), Renewal) ∷ []) (tests_of (has_magic_2 part) part (with_magic _ part inner.magic inner.whole))
    ∙ one_row (pointwise nat_eq (problem_of part) (problem_of image)) inner.same)

pub renewed_moved : (image : List ℕ) (e : ℕ) → end_in image ≡ e → has_magic_2 (drop e image) ≡ true → Whole true (drop e image) → pointwise nat_eq (problem_of (drop e image)) (problem_of image) ≡ true → Renewed image
renewed_moved image e is magic whole same = record {
  magic = subst (λ (n : ℕ). has_magic_2 (drop n image) ≡ true) (sym is) magic;
  whole = subst (λ (n : ℕ). Whole true (drop n image)) (sym is) whole;
  same = subst (λ (n : ℕ). pointwise nat_eq (problem_of (drop n image)) (problem_of image) ≡ true) (sym is) same;
}

pub renewed_changed : (old new : List ℕ) (a b : ℕ) → Reads old (end_in old) → is_renewed old ≡ true → 0 < a → Outside (end_in old + a) (end_in old + b) old new
    → SameHead (drop (end_in old) old) (drop (end_in old) new) → Whole true (drop (end_in old) new) → Reads new (end_in old)
renewed_changed old new a b reads renewed past out head whole =
    let e = end_in old in
    let outer = true_whole _ old (outer_whole old reads.sound) in
    let one = first_true (has_magic_1 old) (nat_lt (e + 1) (length old)) (is_open old e) renewed in
    let front = beyond_changed old new (e + a) (e + b) outer (omega (arith, end_first old one)) out in
    let inner = renewed_of old renewed reads.sound in
    let same_end : end_in new ≡ e = end_kept old new front.head in
    let long : e + 1 < length old = ltb-true (e + 1) (length old) (second_true (has_magic_1 old) (nat_lt (e + 1) (length old)) (is_open old e) renewed) in
    let gate : is_open new e ≡ true = ap (λ (n : ℕ). n == open_gate) (out.below e (omega (arith, long)) (omega arith)) ∙ third_true (has_magic_1 old) (nat_lt (e + 1) (length old)) (is_open old e) renewed in
    let renewed_new : is_renewed new ≡ true = all_true (has_magic_1 new) (nat_lt (end_in new + 1) (length new)) (is_open new (end_in new))
    (magic_1_kept old new front.head ∙ first_true (has_magic_1 old) (nat_lt (e + 1) (length old)) (is_open old e) renewed)
    (lt-ltb (end_in new + 1) (length new) (omega (arith, same_end, long, out.no_shorter)))
    (ap (λ (n : ℕ). is_open new n) same_end ∙ gate) in
    let inner_new = renewed_moved new e same_end (magic_2_kept (drop e old) (drop e new) head ∙ inner.magic) whole
    (ap₂ (λ (p q : List ℕ). pointwise nat_eq p q) head.problem front.head.problem ∙ inner.same) in
    record {
      held = held_kept old new (e + a) (e + b) (omega arith) out reads.held;
      sound = renewed_sound new (some_magic_kept old new front.head ∙ (outer_whole old reads.sound).magic) front.whole renewed_new inner_new;
      base_is = base_renewed new renewed_new ∙ same_end;
    }

outside_at : (a b c d : ℕ) (old new : List ℕ) → a ≡ c → b ≡ d → Outside a b old new → Outside c d old new
outside_at a b c d old new e f out = subst (λ (n : ℕ). Outside c n old new) f (subst (λ (n : ℕ). Outside n b old new) e out)

-- an image where a slot of the store that counts was written reads as that store, whichever it is
pub reads_changed : (old new : List ℕ) (base a b : ℕ) → Reads old base → 0 < a → (has_magic_1 (drop base old) ≡ true → b ≤ end_in (drop base old)) → Outside (base + a) (base + b) old new
    → SameHead (drop base old) (drop base new) → Whole true (drop base new) → Reads new base
reads_changed old new base a b reads past within out head whole = elim (cases_Bool (is_renewed old)) [
  | inl renewed ↦
      let at : end_in old ≡ base = sym (base_renewed old renewed) ∙ reads.base_is in
      subst Changed at (λ r w o h v. renewed_changed old new a b r renewed past o h v) reads within out head whole
  | inr plain ↦
      let at : 0 ≡ base = sym (base_plain old plain) ∙ reads.base_is in
      subst Changed at (λ r w o h v. plain_changed old new a b r plain past w (outside_at (0 + a) (0 + b) a b old new (omega arith) (omega arith) o) h v) reads within out head whole
]
  where
    Changed : ℕ → Type 0
    Changed n = Reads old n → (has_magic_1 (drop n old) ≡ true → b ≤ end_in (drop n old)) → Outside (n + a) (n + b) old new → SameHead (drop n old) (drop n new) → Whole true (drop n new) → Reads new n
