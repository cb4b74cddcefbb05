-- A new store of version 3, with a gate for each slot.
use Rattle.std.proofs.Common.{◌≡◌, inl, inr, ℕ, zero, suc, ◌+◌, ◌-◌, ◌*◌, ◌≤◌, ◌<◌, ◌^◌, ◌==◌, nat_lt, true, false, List, [], ◌∷◌, ◌++◌, length, Option, Some, None, refl, sym, ◌∙◌, ap, subst, arith, length-append}
use Rattle.std.proofs.lemmas.Bool.{cases_Bool, ltb-true, ltb-false}
use Rattle.std.proofs.lemmas.Bool.Decides.{nat_tests}
use Rattle.std.proofs.lemmas.List.{get_or_append_left, get_or-append-add}
use Rattle.std.specs.Prelude.{slice_index, option_map}
use Rattle.amr_disk.specs.Image.{Torn, written_at}
use Rattle.amr_disk.specs.Replay.{torn_written}
use Rattle.amr_store.proofs.Heads.{is_head, magic_small, word_from}
use Rattle.amr_store.proofs.Tables.{gates_apart}
use Rattle.amr_store.proofs.Writes.{written_index, written_length, written_byte, long_from, range_is}
use Rattle.amr_store.specs.Created.{IsNew, IsLaid, magic_of, head_bytes, head_bytes_3, gates_shut, laid_image_3}
use Rattle.amr_store.specs.Layout.{lead_length, gate_at}
use Rattle.amr_store.specs.Table.{slot_count}

-- what the gates of the slots behind the first leave of an image
record GatesShut (n lead size : ℕ) (old new : List ℕ) : Type 0 where
  no_shorter : length old ≤ length new
  before : (i : ℕ) → i < length old → i < gate_at 1 lead size → slice_index new i ≡ slice_index old i
  shut : (k : ℕ) → 1 ≤ k → k ≤ n → slice_index new (gate_at k lead size) ≡ 0
  reach : 1 ≤ n → gate_at n lead size < length new

shut_all : (n lead size : ℕ) (image : List ℕ) → GatesShut n lead size image (gates_shut n lead size image)
shut_all zero lead size image = record { no_shorter = omega arith; before = λ i here lt. refl; shut = λ k from to. absurd (omega arith); reach = λ some. absurd (omega arith) }
shut_all (suc n) lead size image =
    let mid = gates_shut n lead size image in
    let gate = gate_at (suc n) lead size in
    let new = written_at gate (0 ∷ []) mid in
    let was = shut_all n lead size image in
    let torn : Torn gate 1 mid new = torn_written gate (0 ∷ []) mid in
    let long : gate + 1 ≤ length new = written_length gate (0 ∷ []) mid (omega arith) in
    record {
      no_shorter = omega (arith, was.no_shorter, torn.no_shorter);
      before = λ i here lt. torn.below i (omega (arith, here, was.no_shorter)) (omega (arith, lt, first n)) ∙ was.before i here lt;
      shut = λ k from to. elim (cases_Bool (nat_lt k (suc n))) [
        | inl early ↦
            let apart = gates_apart k (suc n) lead size (ltb-true k (suc n) early) in
            let at_least : 1 ≤ n = omega (arith, from, ltb-true k (suc n) early) in
            let ends : gate_at k lead size ≤ gate_at n lead size = below k n (omega (arith, ltb-true k (suc n) early)) in
            torn.below (gate_at k lead size) (omega (arith, ends, was.reach at_least)) (omega (arith, apart)) ∙ was.shut k from (omega (arith, ltb-true k (suc n) early))
        | inr last ↦
            let is : k ≡ suc n = omega (arith, to, ltb-false k (suc n) last) in
            ap (λ (j : ℕ). slice_index new (gate_at j lead size)) is ∙ written_byte gate 0 mid
      ];
      reach = λ some. omega arith;
    }
  where
    first : (n : ℕ) → gate_at 1 lead size ≤ gate_at (suc n) lead size
    first zero = omega arith
    first (suc n) = let apart = gates_apart 1 (suc (suc n)) lead size (omega arith) in omega (arith, apart)

    below : (k n : ℕ) → k ≤ n → gate_at k lead size ≤ gate_at n lead size
    below k n le = elim (cases_Bool (nat_lt k n)) [
      | inl early ↦ let apart = gates_apart k n lead size (ltb-true k n early) in omega (arith, apart)
      | inr same ↦ let is : k ≡ n = omega (arith, le, ltb-false k n same) in subst (λ (j : ℕ). gate_at k lead size ≤ gate_at j lead size) is (omega arith)
    ]

-- a head of version 3, and the closed gate behind it
record IsHead3 (deltas : ℕ) (head problem : List ℕ) (size : ℕ) : Type 0 where
  count : length head ≡ 22 + length problem
  front : (i : ℕ) → i < 21 + length problem → slice_index head i ≡ slice_index (head_bytes deltas 3 problem size) i
  gate : slice_index head (21 + length problem) ≡ 0

is_head_3 : (deltas : ℕ) (head problem : List ℕ) (size : ℕ) → head ≡ head_bytes_3 deltas problem size → IsHead3 deltas head problem size
is_head_3 deltas head problem size is = subst (λ (h : List ℕ). IsHead3 deltas h problem size) (sym is) record {
  count = omega (arith, length-append front (0 ∷ []), wide);
  front = λ i lt. get_or_append_left front (0 ∷ []) 0 i (omega (arith, wide, lt));
  gate = ap (λ (n : ℕ). slice_index (front ++ 0 ∷ []) n) place ∙ get_or-append-add front (0 ∷ []) 0 0;
}
  where
    front : List ℕ
    front = head_bytes deltas 3 problem size

    wide : length front ≡ 21 + length problem
    wide = (is_head deltas 3 front problem size refl).count

    place : 21 + length problem ≡ length front + 0
    place = omega (arith, wide)

pub new_3 : (deltas : ℕ) (s head problem : List ℕ) (size : ℕ) → 0 < deltas → head ≡ head_bytes_3 deltas problem size → length problem ≤ 65536 → size ≤ 2 ^ 40
    → IsNew 3 deltas problem size (gates_shut (1 + 2 * deltas) (lead_length 3 (length problem)) size (written_at 1 head s))
new_3 deltas s head problem size some head_is text_fits size_fits =
    let lead = lead_length 3 (length problem) in
    let l = length problem in
    let mid = written_at 1 head s in
    let all = gates_shut (1 + 2 * deltas) lead size mid in
    let is = is_head_3 deltas head problem size head_is in
    let of = is_head deltas 3 (head_bytes deltas 3 problem size) problem size refl in
    let gates = shut_all (1 + 2 * deltas) lead size mid in
    let long : 1 + length head ≤ length mid = written_length 1 head s (omega (arith, is.count)) in
    let at : (i : ℕ) → i < 22 + l → slice_index all (1 + i) ≡ slice_index head i = λ i lt.
    gates.before (1 + i) (omega (arith, long, is.count, lt)) (omega (arith, lt)) ∙ written_index 1 i head s (omega (arith, is.count, lt)) in
    let front : (i : ℕ) → i < 21 + l → slice_index all (1 + i) ≡ slice_index (head_bytes deltas 3 problem size) i = λ i lt. at i (omega (arith, lt)) ∙ is.front i lt in
    let whole : gate_at (1 + 2 * deltas) lead size < length all = gates.reach (omega arith) in
    record {
      long = whole;
      magic = long_from all 1 (magic_of 3) (magic_small 3) (λ i lt. front i (omega arith) ∙ of.magic i lt);
      size_is = long_from all 9 size (omega arith) (λ i lt. ap (λ (n : ℕ). slice_index all n) (nine i) ∙ front (8 + i) (omega arith) ∙ of.size_is i lt);
      text_is = word_from all 17 l (omega arith) (λ i lt. ap (λ (n : ℕ). slice_index all n) (seventeen i) ∙ front (16 + i) (omega arith) ∙ of.text_is i lt);
      problem_is = range_is all 21 problem (omega (arith, whole)) (λ i lt. ap (λ (n : ℕ). slice_index all n) (twenty_one i) ∙ front (20 + i) (omega arith) ∙ of.problem_is i lt);
      number = λ third. ap (λ (n : ℕ). slice_index all n) number_at ∙ front (20 + l) (omega arith) ∙ of.gate;
      shut = λ k few. elim (cases_Bool (k == 0)) [
        | inl zeroth ↦ ap (λ (n : ℕ). slice_index all n) (first_gate k (equal k 0 zeroth)) ∙ at (21 + l) (omega arith) ∙ is.gate
        | inr other ↦ gates.shut k (some_of k other) (omega (arith, few))
      ];
    }
  where
    nine : (i : ℕ) → 9 + i ≡ 1 + (8 + i)
    nine i = omega arith

    seventeen : (i : ℕ) → 17 + i ≡ 1 + (16 + i)
    seventeen i = omega arith

    twenty_one : (i : ℕ) → 21 + i ≡ 1 + (20 + i)
    twenty_one i = omega arith

    number_at : 21 + length problem ≡ 1 + (20 + length problem)
    number_at = omega arith

    equal : (i j : ℕ) → (i == j) ≡ true → i ≡ j
    equal i j is = grind (arith, nat_tests)

    some_of : (k : ℕ) → (k == 0) ≡ false → 1 ≤ k
    some_of k other = grind (arith, nat_tests)

    first_gate : (k : ℕ) → k ≡ 0 → gate_at k (lead_length 3 (length problem)) size ≡ 1 + (21 + length problem)
    first_gate k is = ap (λ (n : ℕ). gate_at n (lead_length 3 (length problem)) size) is ∙ omega arith

pub laid_3 : (deltas : ℕ) (s head problem : List ℕ) (size : ℕ) → 0 < deltas → head ≡ head_bytes_3 deltas problem size → length problem ≤ 65536 → size ≤ 2 ^ 40
    → IsLaid 3 deltas problem size (gates_shut (1 + 2 * deltas) (lead_length 3 (length problem)) size (written_at 1 head s))
laid_3 deltas s head problem size some head_is text_fits size_fits = record {
  inner = new_3 deltas s head problem size some head_is text_fits size_fits;
  plain = record { past = λ one long. absurd (not_one 3 refl one) };
}
  where
    not_one : (version : ℕ) → version ≡ 3 → version ≡ 1 → ⊥
    not_one version is one = omega (arith, is, one)

-- one gate more
gates_next : (k lead size : ℕ) (image : List ℕ) → 1 ≤ k → written_at (gate_at k lead size) (0 ∷ []) (gates_shut (k - 1) lead size image) ≡ gates_shut (k + 1 - 1) lead size image
gates_next k lead size image from =
    ap (λ (n : ℕ). written_at (gate_at n lead size) (0 ∷ []) (gates_shut (k - 1) lead size image)) before ∙ ap (λ (n : ℕ). gates_shut n lead size image) after
  where
    before : k ≡ suc (k - 1)
    before = omega (arith, from)

    after : suc (k - 1) ≡ k + 1 - 1
    after = omega (arith, from)

-- what a read gives once one gate more was written
pub gates_seen : (k lead size gate : ℕ) (f : List ℕ → List ℕ) (o p q : Option (List ℕ)) → 1 ≤ k → gate ≡ gate_at k lead size → p ≡ option_map (λ s. gates_shut (k - 1) lead size (f s)) o → q ≡ option_map (written_at gate (0 ∷ [])) p
    → q ≡ option_map (λ s. gates_shut (k + 1 - 1) lead size (f s)) o
gates_seen k lead size gate f None p q from at was is = is ∙ ap (λ (x : Option (List ℕ)). option_map (written_at gate (0 ∷ [])) x) was
gates_seen k lead size gate f (Some s) p q from at was is =
    is ∙ ap (λ (x : Option (List ℕ)). option_map (written_at gate (0 ∷ [])) x) was
    ∙ ap (λ (x : List ℕ). Some x) (ap (λ (n : ℕ). written_at n (0 ∷ []) (gates_shut (k - 1) lead size (f s))) at ∙ gates_next k lead size (f s) from)

-- all gates were written
pub gates_all : (k deltas lead size : ℕ) (head problem : List ℕ) (o p : Option (List ℕ)) → k ≡ slot_count deltas → lead ≡ lead_length 3 (length problem) → head ≡ head_bytes_3 deltas problem size
    → p ≡ option_map (λ s. gates_shut (k - 1) lead size (written_at 1 head s)) o → p ≡ option_map (laid_image_3 deltas problem size) o
gates_all k deltas lead size head problem o p count lead_is head_is is = is ∙ same _ _ _ _ _ _ (last k count) lead_is head_is
  where
    last : (k : ℕ) → k ≡ slot_count deltas → k - 1 ≡ 1 + 2 * deltas
    last k e = omega (arith, e)

    same : (m n a b : ℕ) (h i : List ℕ) → m ≡ n → a ≡ b → h ≡ i → option_map (λ s. gates_shut m a size (written_at 1 h s)) o ≡ option_map (λ s. gates_shut n b size (written_at 1 i s)) o
    same m n a b h i e f g = rw (e, f, g) refl

pub laid_3_of : (deltas : ℕ) (s t problem : List ℕ) (size : ℕ) → 0 < deltas → length problem ≤ 65536 → size ≤ 2 ^ 40 → laid_image_3 deltas problem size s ≡ t → IsLaid 3 deltas problem size t
laid_3_of deltas s t problem size some text_fits size_fits is =
    subst (λ (i : List ℕ). IsLaid 3 deltas problem size i) is (laid_3 deltas s (head_bytes_3 deltas problem size) problem size some refl text_fits size_fits)
