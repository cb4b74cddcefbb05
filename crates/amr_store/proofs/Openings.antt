-- What an image is stored as, by what the tests on it find.
use Rattle.std.proofs.Common.{◌≡◌, inl, inr, ℕ, ◌+◌, ◌≤◌, ◌==◌, nat_le, nat_lt, Bool, true, false, not, ◌&&◌, ◌||◌, List, [], ◌∷◌, ◌++◌, length, drop, Option, Some, None, refl, sym, ◌∙◌, ap, subst, arith, ap₂}
use Rattle.std.proofs.lemmas.Bool.{cases_Bool}
use Rattle.std.proofs.lemmas.Bool.Decides.{nat_tests}
use Rattle.std.specs.Prelude.{slice_range, nat_eq}
use Rattle.std.specs.Cmp.Lexicographic.{pointwise}
use Rattle.std.proofs.Math.Bool.{and_assoc}
use Rattle.amr_store.proofs.Calls.{stands_at}
use Rattle.amr_store.proofs.Images.{base_plain, base_renewed, one_row, stored_is}
use Rattle.amr_store.proofs.Whole.{found_append, front_found, whole_of}
use Rattle.amr_store.specs.declared.check.Outline.{Outline}
use Rattle.amr_store.specs.declared.found.Found.{Found}
use Rattle.amr_store.specs.declared.found.Found.TheVariants.{Nothing, Ready, Damaged as Faulty}
use Rattle.amr_store.specs.declared.part.Part.{Part}
use Rattle.amr_store.specs.declared.part.Part.TheVariants.{Renewal}
use Rattle.amr_store.specs.declared.slot.Slot.{Slot}
use Rattle.amr_store.specs.declared.store.Store.{Store}
use Rattle.amr_store.specs.declared.fields.Head.{Head}
use Rattle.amr_store.specs.Checks.{IsOutline, IsHeldBy, IsInner, IsRenewedAt}
use Rattle.amr_store.specs.Layout.{magic_1, magic_3, version_by, long_at, problem_of, text_length, end_of}
use Rattle.amr_store.specs.Opened.{Finds, FindsIn, IsReadyFound, IsRenewedFound, IsStoreAtBase, IsUnshut}
use Rattle.amr_store.specs.Fields.{SaysHead, magic_in}
use Rattle.amr_store.specs.Table.{chain_of, last_of, latest_base, sequence_in, slot_at}
use Rattle.amr_store.proofs.Recorded.{of_records, first_records}
use Rattle.amr_disk.specs.Image.{Only}
use Rattle.amr_store.specs.Shown.{Shows, last_entry, sequence_of}
use Rattle.amr_store.specs.Stands.{Stands, base_in, version_in, problem_in, slot_size_in, deltas_in, slots_in}
use Rattle.amr_store.specs.Stored.{Entry, latest_entry, Empty, Damaged, stored, state_of, is_empty, is_open, is_renewed, end_in, tests, renewal_tests, damage_in, first_found, deltas_of, slots_of, has_magic_1, has_magic_2}

damaged_stored : (s : List ℕ) (p : Part) → is_empty s ≡ false → damage_in s ≡ Some p → stored s ≡ Damaged p
damaged_stored s p held damage = rw (held, damage) refl

-- the byte that tells whether a store was made
pub empty_is : (s : List ℕ) (has : Bool) → has ≡ (nat_lt 1 (length s) && is_open s 0) → has ≡ false → stored s ≡ Empty
empty_is s has is none = rw (none_empty (nat_le (length s) 1) (is_open s 0) (sym (tests_same (length s) (is_open s 0)) ∙ sym is ∙ none)) refl
  where
    tests_same : (n : ℕ) (b : Bool) → (nat_lt 1 n && b) ≡ (not (nat_le n 1) && b)
    tests_same n b = elim (cases_Bool (nat_le n 1)) [
      | inl short ↦ grind (arith, nat_tests)
      | inr long ↦ grind (arith, nat_tests)
    ]

    none_empty : (a b : Bool) → (not a && b) ≡ false → (a || not b) ≡ true
    none_empty true b e = refl
    none_empty false true e = let wrong : true ≡ false = e in cc
    none_empty false false e = refl

pub held_is : (s : List ℕ) (has : Bool) → has ≡ (nat_lt 1 (length s) && is_open s 0) → has ≡ true → is_empty s ≡ false
held_is s has is some = some_held (nat_le (length s) 1) (is_open s 0) (sym (tests_same (length s) (is_open s 0)) ∙ sym is ∙ some)
  where
    tests_same : (n : ℕ) (b : Bool) → (nat_lt 1 n && b) ≡ (not (nat_le n 1) && b)
    tests_same n b = elim (cases_Bool (nat_le n 1)) [
      | inl short ↦ grind (arith, nat_tests)
      | inr long ↦ grind (arith, nat_tests)
    ]

    some_held : (a b : Bool) → (not a && b) ≡ true → (a || not b) ≡ false
    some_held true b e = let wrong : false ≡ true = e in cc
    some_held false true e = refl
    some_held false false e = let wrong : false ≡ true = e in cc

pub outer_damaged : (s : List ℕ) (p : Part) → is_empty s ≡ false → first_found (tests (magic_in true s) s) ≡ Some p → stored s ≡ Damaged p
outer_damaged s p held found = damaged_stored s p held (front_found (tests (magic_in true s) s) (renewal_tests s) p found)

-- the end of a store by its head
pub end_is : (head : Head) (s : List ℕ) → SaysHead head s → end_in s ≡ end_of head.text head.slot_size
end_is head s is = ap₂ end_of (sym is.text_is) (sym is.size_is)

one_is : (m v : ℕ) → v ≡ version_by m → (v == 1) ≡ (m == magic_1)
one_is m v is = ap (λ (n : ℕ). n == 1) is ∙ first m
  where
    first : (m : ℕ) → (version_by m == 1) ≡ (m == magic_1)
    first m = elim (cases_Bool (m == magic_1)) [
      | inl one ↦ rw one refl
      | inr other ↦ elim (cases_Bool (m == magic_3)) [
        | inl three ↦ rw (other, three) refl
        | inr none ↦ rw (other, none) refl
      ]
    ]

-- whether it was renewed, by its head
pub renewed_is : (head : Head) (s : List ℕ) (has : Bool) → SaysHead head s
    → has ≡ ((head.version == 1) && (nat_lt (end_of head.text head.slot_size + 1) (length s) && is_open s (end_of head.text head.slot_size))) → has ≡ is_renewed s
renewed_is head s has is tests =
    tests ∙ same (head.version == 1) (has_magic_1 s) (end_of head.text head.slot_size) (end_in s) (one_is (long_at s 1) head.version is.version_is) (sym (end_is head s is))
  where
    same : (a b : Bool) (m n : ℕ) → a ≡ b → m ≡ n → (a && (nat_lt (m + 1) (length s) && is_open s m)) ≡ (b && nat_lt (n + 1) (length s) && is_open s n)
    same a b m n e f = rw (e, f) (sym (and_assoc b (nat_lt (n + 1) (length s)) (is_open s n)))

plain_none : (s : List ℕ) → is_renewed s ≡ false → first_found (renewal_tests s) ≡ None
plain_none s plain = rw plain refl

-- a store in memory stands for an image that was not renewed
pub plain_stands : (store : Store) (outline : Outline) (s : List ℕ) → IsHeldBy outline.head s → IsOutline outline s → is_renewed s ≡ false → base_in store ≡ 0
    → version_in store ≡ outline.head.version → (21 + outline.head.text ≤ length s → problem_in store ≡ slice_range s 21 (21 + outline.head.text)) → slot_size_in store ≡ outline.head.slot_size
    → deltas_in store ≡ outline.deltas → slots_in store ≡ outline.slots.items → Stands store s
plain_stands store outline s is outline_is plain base version problem size deltas slots =
    let whole = whole_of (magic_in true s) s is.sound in
    let head = is.head_is in
    stands_at store s 0 (sym base)
    record { held = is.held; sound = found_append (tests (magic_in true s) s) (renewal_tests s) is.sound ∙ plain_none s plain; base_is = base_plain s plain }
    (version ∙ head.version_is) (problem (omega (arith, whole.text_whole, head.text_is)) ∙ ap (λ (n : ℕ). slice_range s 21 (21 + n)) head.text_is) (size ∙ head.size_is) (deltas ∙ outline_is.deltas) (slots ∙ outline_is.slots)

renewal_is : (s : List ℕ) → is_renewed s ≡ true → first_found (renewal_tests s)
    ≡ first_found (tests (has_magic_2 (drop (end_in s) s)) (drop (end_in s) s) ++ (not (pointwise nat_eq (problem_of (drop (end_in s) s)) (problem_of s)), Renewal) ∷ [])
renewal_is s renewed = rw renewed refl

damage_is : (s : List ℕ) → first_found (tests (magic_in true s) s) ≡ None → is_renewed s ≡ true
    → damage_in s ≡ first_found (tests (has_magic_2 (drop (end_in s) s)) (drop (end_in s) s) ++ (not (pointwise nat_eq (problem_of (drop (end_in s) s)) (problem_of s)), Renewal) ∷ [])
damage_is s sound renewed = found_append (tests (magic_in true s) s) (renewal_tests s) sound ∙ renewal_is s renewed

-- the new store of a renewed one is damaged
pub inner_damaged : (head : Head) (s : List ℕ) (p : Part) → IsHeldBy head s → is_renewed s ≡ true → first_found (tests (magic_in false (drop (end_in s) s)) (drop (end_in s) s)) ≡ Some p → stored s ≡ Damaged p
inner_damaged head s p is renewed found =
    damaged_stored s p is.held (damage_is s is.sound renewed ∙ front_found (tests (has_magic_2 (drop (end_in s) s)) (drop (end_in s) s)) ((not (pointwise nat_eq (problem_of (drop (end_in s) s)) (problem_of s)), Renewal) ∷ []) p found)

last_row : (b : Bool) → b ≡ false → first_found ((not b, Renewal) ∷ []) ≡ Some Renewal
last_row true is = let wrong : true ≡ false = is in cc
last_row false is = refl

problem_at : (text : ℕ) (part : List ℕ) (m : Bool) (bytes : List ℕ) → first_found (tests m part) ≡ None → text ≡ text_length part → (21 + text ≤ length part → bytes ≡ slice_range part 21 (21 + text)) → bytes ≡ problem_of part
problem_at text part m bytes none is told =
    let whole = whole_of m part none in
    told (omega (arith, whole.text_whole, is)) ∙ ap (λ (n : ℕ). slice_range part 21 (21 + n)) is

-- the problems of both stores, as they were read
pub record ProblemsRead (text base : ℕ) (inner : Outline) (problem old s : List ℕ) : Type 0 where
  pub new_told : 21 + inner.head.text ≤ length (drop base s) → problem ≡ slice_range (drop base s) 21 (21 + inner.head.text)
  pub old_told : 21 + text ≤ length s → old ≡ slice_range s 21 (21 + text)

same_problems : (text : ℕ) (inner : Outline) (s problem old : List ℕ) (b : Bool) → IsRenewedAt text (end_in s) s → IsInner inner (drop (end_in s) s) → ProblemsRead text (end_in s) inner problem old s
    → pointwise nat_eq problem old ≡ b → pointwise nat_eq (problem_of (drop (end_in s) s)) (problem_of s) ≡ b
same_problems text inner s problem old b is of read same =
    let part = drop (end_in s) s in
    let new_is = problem_at inner.head.text part (magic_in false part) problem of.sound of.outline_is.head.text_is read.new_told in
    let old_is = problem_at text s (magic_in true s) old is.sound is.text_is read.old_told in
    subst (λ (x : List ℕ). pointwise nat_eq x (problem_of s) ≡ b) new_is (subst (λ (x : List ℕ). pointwise nat_eq problem x ≡ b) old_is same)

-- the new store holds another problem
other_problem : (text : ℕ) (inner : Outline) (s problem old : List ℕ) → IsRenewedAt text (end_in s) s → IsInner inner (drop (end_in s) s) → ProblemsRead text (end_in s) inner problem old s
    → pointwise nat_eq problem old ≡ false → stored s ≡ Damaged Renewal
other_problem text inner s problem old is of read differ =
    let part = drop (end_in s) s in
    damaged_stored s Renewal is.held
    (damage_is s is.sound is.renewed ∙ found_append (tests (has_magic_2 part) part) ((not (pointwise nat_eq (problem_of part) (problem_of s)), Renewal) ∷ []) of.sound
    ∙ last_row (pointwise nat_eq (problem_of part) (problem_of s)) (same_problems text inner s problem old false is of read differ))

-- a store in memory stands for an image that was renewed
renewed_stands : (store : Store) (text : ℕ) (inner : Outline) (s problem old : List ℕ) → IsRenewedAt text (end_in s) s → IsInner inner (drop (end_in s) s) → ProblemsRead text (end_in s) inner problem old s
    → pointwise nat_eq problem old ≡ true → problem_in store ≡ problem → IsStoreAtBase (end_in s) inner store → Stands store s
renewed_stands store text inner s problem old is of read equal problem_is store_is =
    let part = drop (end_in s) s in
    let head = of.outline_is.head in
    let same = same_problems text inner s problem old true is of read equal in
    stands_at store s (end_in s) (sym store_is.base_is)
    record {
      held = is.held;
      sound = damage_is s is.sound is.renewed ∙ found_append (tests (has_magic_2 part) part) ((not (pointwise nat_eq (problem_of part) (problem_of s)), Renewal) ∷ []) of.sound ∙ one_row (pointwise nat_eq (problem_of part) (problem_of s)) same;
      base_is = base_renewed s is.renewed;
    }
    (store_is.version ∙ head.version_is) (problem_is ∙ problem_at inner.head.text part (magic_in false part) problem of.sound head.text_is read.new_told) (store_is.slot_size ∙ head.size_is)
    (store_is.deltas ∙ of.outline_is.deltas) (store_is.slots ∙ of.outline_is.slots)

-- a store that stands for an image shows what is stored
pub shows_of : (store : Store) (s : List ℕ) → Stands store s → Shows store (stored s)
shows_of store s is =
    let part = drop (base_in store) s in
    let all = of_records part (chain_of (deltas_of part) (slots_of part)) (omega arith) in (
      state_of part,
      stored_is s (base_in store) is.reads,
      record {
        version = is.version;
        problem = is.problem;
        slot_size = is.slot_size;
        deltas = is.deltas;
        chain = ap₂ chain_of is.deltas is.slots ∙ sym all.count;
        last = ap₂ last_of is.deltas is.slots ∙ all.last;
        sequences = λ number le.
            let few : number ≤ chain_of (deltas_of part) (slots_of part) = omega (arith, le, all.count) in
            ap₂ (λ (d : ℕ) (l : List (Option Slot)). sequence_in (slot_at l (latest_base d l + number))) is.deltas is.slots ∙ (of_records part number few).last
            ∙ ap (λ (l : List Entry). sequence_of (last_entry (latest_entry part) l)) (sym (first_records part number (chain_of (deltas_of part) (slots_of part)) few (omega arith)));
      },
    )

-- the new store of a renewed one, by what was made of its problem and the old one
renewed_found : (found : Found) (text : ℕ) (inner : Outline) (s problem old : List ℕ) → IsRenewedFound (end_in s) inner problem old found → IsRenewedAt text (end_in s) s → IsInner inner (drop (end_in s) s)
    → ProblemsRead text (end_in s) inner problem old s → FindsIn found s
renewed_found Nothing text inner s problem old made is of read = absurd made
renewed_found (Ready store) text inner s problem old made is of read = renewed_stands store text inner s problem old is of read made.0 made.1 made.2
renewed_found (Faulty part) text inner s problem old made is of read = other_problem text inner s problem old is of read made.0 ∙ ap Damaged (sym made.1)

pub renewed_finds : (found : Found) (text base : ℕ) (inner : Outline) (s problem old : List ℕ) → IsRenewedFound base inner problem old found → IsRenewedAt text base s → IsInner inner (drop base s)
    → ProblemsRead text base inner problem old s → FindsIn found s
renewed_finds found text base inner s problem old made is =
    subst (λ (b : ℕ). IsRenewedFound b inner problem old found → IsRenewedAt text b s → IsInner inner (drop b s) → ProblemsRead text b inner problem old s → FindsIn found s) (sym is.base_is)
    (renewed_found found text inner s problem old) made is

-- what was found in the image shows what is stored
pub finds_of : (found : Found) (s : List ℕ) → FindsIn found s → Finds found (stored s)
finds_of Nothing s is = is
finds_of (Ready store) s is = shows_of store s is
finds_of (Faulty part) s is = is

pub ready_found : {D : Type 0} (seen : D → Option (List ℕ)) (moment : D → ℕ) (leaves : D → ℕ → List ℕ → Type 0) (found : Found) (disk : D) → IsUnshut found
    → ((s : List ℕ) → seen disk ≡ Some s → FindsIn found s) → Only (seen disk) (leaves disk (moment disk)) → IsReadyFound seen moment leaves found disk
ready_found seen moment leaves Nothing disk open_is finds settled = tt
ready_found seen moment leaves (Ready store) disk open_is finds settled = (open_is, record { settled = λ shut. settled; stands = λ shut s is. finds s is })
ready_found seen moment leaves (Faulty part) disk open_is finds settled = tt

pub maybe_renewed : (head : Head) (s : List ℕ) (has : Bool) → SaysHead head s → head.version ≡ 1
    → has ≡ (nat_lt (end_of head.text head.slot_size + 1) (length s) && is_open s (end_of head.text head.slot_size)) → has ≡ is_renewed s
maybe_renewed head s has is one tests = renewed_is head s has is (tests ∙ sym (both (head.version == 1) _ (ap (λ (n : ℕ). n == 1) one)))
  where
    both : (a b : Bool) → a ≡ true → (a && b) ≡ b
    both true b e = refl
    both false b e = let wrong : false ≡ true = e in cc
