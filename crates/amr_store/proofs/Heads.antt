-- The head of a new store, as it is written.
use Rattle.std.proofs.Common.{◌≡◌, inl, inr, ℕ, ◌+◌, ◌<◌, ◌^◌, ◌==◌, List, [], ◌∷◌, ◌++◌, length, drop, refl, sym, ◌∙◌, ap, subst, arith, length-append, lit<}
use Rattle.std.proofs.lemmas.Bool.{cases_Bool}
use Rattle.std.proofs.lemmas.List.{get_or-drop, get_or_append_left, get_or-append-add}
use Rattle.std.proofs.lemmas.Nat.{from_le_bytes-to_le_bytes_4}
use Rattle.std.specs.Int.{from_le_bytes, to_le_bytes, w32, w64}
use Rattle.std.specs.Prelude.{slice_index}
use Rattle.amr_store.specs.Created.{magic_of, head_bytes}
use Rattle.amr_store.specs.Layout.{word_at}

pub magic_small : (version : ℕ) → magic_of version < 2 ^ 64
magic_small version = elim (cases_Bool (version == 1)) [
  | inl one ↦ rw one (lit< tt)
  | inr other ↦ elim (cases_Bool (version == 3)) [
    | inl three ↦ rw (other, three) (lit< tt)
    | inr two ↦ rw (other, two) (lit< tt)
  ]
]

-- the head as it was written
low_8 : (last version : ℕ) (problem : List ℕ) (size i : ℕ) → i < 8 → slice_index (head_bytes last version problem size) i ≡ slice_index (to_le_bytes w64 (magic_of version)) i
low_8 last version problem size i lt =
    let m = to_le_bytes w64 (magic_of version) in
    let z = to_le_bytes w64 size in
    let n = to_le_bytes w32 (length problem) in
    get_or_append_left (m ++ z ++ n ++ problem) (last ∷ []) 0 i (omega (arith, length-append (m ++ z ++ n) problem))
    ∙ get_or_append_left (m ++ z ++ n) problem 0 i (omega arith) ∙ get_or_append_left (m ++ z) n 0 i (omega arith) ∙ get_or_append_left m z 0 i lt

next_8 : (last version : ℕ) (problem : List ℕ) (size i : ℕ) → i < 8 → slice_index (head_bytes last version problem size) (8 + i) ≡ slice_index (to_le_bytes w64 size) i
next_8 last version problem size i lt =
    let m = to_le_bytes w64 (magic_of version) in
    let z = to_le_bytes w64 size in
    let n = to_le_bytes w32 (length problem) in
    get_or_append_left (m ++ z ++ n ++ problem) (last ∷ []) 0 (8 + i) (omega (arith, length-append (m ++ z ++ n) problem))
    ∙ get_or_append_left (m ++ z ++ n) problem 0 (8 + i) (omega arith) ∙ get_or_append_left (m ++ z) n 0 (8 + i) (omega arith) ∙ get_or-append-add m z i 0

next_4 : (last version : ℕ) (problem : List ℕ) (size i : ℕ) → i < 4 → slice_index (head_bytes last version problem size) (16 + i) ≡ slice_index (to_le_bytes w32 (length problem)) i
next_4 last version problem size i lt =
    let m = to_le_bytes w64 (magic_of version) in
    let z = to_le_bytes w64 size in
    let n = to_le_bytes w32 (length problem) in
    get_or_append_left (m ++ z ++ n ++ problem) (last ∷ []) 0 (16 + i) (omega (arith, length-append (m ++ z ++ n) problem))
    ∙ get_or_append_left (m ++ z ++ n) problem 0 (16 + i) (omega arith) ∙ get_or-append-add (m ++ z) n i 0

text_at : (last version : ℕ) (problem : List ℕ) (size i : ℕ) → i < length problem → slice_index (head_bytes last version problem size) (20 + i) ≡ slice_index problem i
text_at last version problem size i lt =
    let f = to_le_bytes w64 (magic_of version) ++ to_le_bytes w64 size ++ to_le_bytes w32 (length problem) in
    get_or_append_left (f ++ problem) (last ∷ []) 0 (20 + i) (omega (arith, length-append f problem)) ∙ get_or-append-add f problem i 0

gate_at_end : (last version : ℕ) (problem : List ℕ) (size : ℕ) → slice_index (head_bytes last version problem size) (20 + length problem) ≡ last
gate_at_end last version problem size =
    let f = to_le_bytes w64 (magic_of version) ++ to_le_bytes w64 size ++ to_le_bytes w32 (length problem) in
    let at : 20 + length problem ≡ length (f ++ problem) + 0 = omega (arith, length-append f problem) in
    ap (λ (n : ℕ). slice_index (head_bytes last version problem size) n) at ∙ get_or-append-add (f ++ problem) (last ∷ []) 0 0

head_length_is : (last version : ℕ) (problem : List ℕ) (size : ℕ) → length (head_bytes last version problem size) ≡ 21 + length problem
head_length_is last version problem size =
    let f = to_le_bytes w64 (magic_of version) ++ to_le_bytes w64 size ++ to_le_bytes w32 (length problem) in
    omega (arith, length-append f problem, length-append (f ++ problem) (last ∷ []))

pub word_from : (image : List ℕ) (p n : ℕ) → n < 2 ^ 32 → ((i : ℕ) → i < 4 → slice_index image (p + i) ≡ slice_index (to_le_bytes w32 n) i) → word_at image p ≡ n
word_from image p n fits same =
    let at : (i : ℕ) → i < 4 → slice_index (drop p image) i ≡ slice_index (to_le_bytes w32 n) i = λ i lt. get_or-drop p image i 0 ∙ same i lt in
    let read : word_at image p ≡ from_le_bytes w32 (to_le_bytes w32 n) = rw (at 0 (omega arith), at 1 (omega arith), at 2 (omega arith), at 3 (omega arith)) refl in
    read ∙ from_le_bytes-to_le_bytes_4 n fits

-- a head that holds these bytes, as facts on its places
pub record IsHead (last version : ℕ) (head problem : List ℕ) (size : ℕ) : Type 0 where
  pub count : length head ≡ 21 + length problem
  pub magic : (i : ℕ) → i < 8 → slice_index head i ≡ slice_index (to_le_bytes w64 (magic_of version)) i
  pub size_is : (i : ℕ) → i < 8 → slice_index head (8 + i) ≡ slice_index (to_le_bytes w64 size) i
  pub text_is : (i : ℕ) → i < 4 → slice_index head (16 + i) ≡ slice_index (to_le_bytes w32 (length problem)) i
  pub problem_is : (i : ℕ) → i < length problem → slice_index head (20 + i) ≡ slice_index problem i
  pub gate : slice_index head (20 + length problem) ≡ last

pub is_head : (last version : ℕ) (head problem : List ℕ) (size : ℕ) → head ≡ head_bytes last version problem size → IsHead last version head problem size
is_head last version head problem size is = subst (λ (h : List ℕ). IsHead last version h problem size) (sym is) record {
  count = head_length_is last version problem size;
  magic = low_8 last version problem size;
  size_is = next_8 last version problem size;
  text_is = next_4 last version problem size;
  problem_is = text_at last version problem size;
  gate = gate_at_end last version problem size;
}
