-- Laws of the readers of a document's values.
use Rattle.std.proofs.Common.{◌≡◌, ◌∙◌, sym, ap, refl, ℕ, ◌+◌, ◌<◌, ◌≤◌, ◌≢◌, true, ◌==◌, ℤ, pos, inl, inr, eq-eqb, List, [], ◌∷◌, ◌++◌, length, drop, take, get_or, set, append_assoc, Option, Some, None, option_map, arith, append-nil}
use Rattle.std.specs.Ordering.{int_eq}
use Rattle.std.proofs.lemmas.Bool.{ne_eqb, cases_Bool, or_right}
use Rattle.std.proofs.lemmas.Option.{same_Some}
use Rattle.std.proofs.lemmas.List.{take_more_set, drop_all, take_all}
use Rattle.toml.specs.Data.{Data, as_integer, as_array, Items, no_items, item, Members}
use Rattle.toml.specs.View.{view, items_view}
use Rattle.toml.specs.declared.value.Value.{Value}
use Rattle.toml.proofs.Views.{items_view-drop}
use Rattle.amr_problem.specs.declared.key.Key.{Key}
use Rattle.amr_problem.specs.Values.{◌>>=◌, count, integers, numbers_in, block_of, rows_in, shear_in, shear_written, shear_at, written_at}
use Rattle.amr_problem.specs.Entries.{is_for_each}

pub count_view : (vs : List Value) → count (items_view vs) ≡ length vs
count_view [] = refl
count_view (v ∷ vs) = omega (arith, count_view vs)

-- the integers from a place on, where an integer stands at it
pub integers-at : (vs : List Value) (i : ℕ) (d : Value) (z : ℤ) → i < length vs → as_integer (view (get_or vs i d)) ≡ Some z
    → integers (items_view (drop i vs)) ≡ option_map (λ zs. z ∷ zs) (integers (items_view (drop (i + 1) vs)))
integers-at vs i d z h is = rw (items_view-drop vs i d h, is)

-- the integers from a place on, where no integer stands at it
pub integers-none : (vs : List Value) (i : ℕ) (d : Value) → i < length vs → as_integer (view (get_or vs i d)) ≡ None
    → integers (items_view (drop i vs)) ≡ None
integers-none vs i d h is = rw (items_view-drop vs i d h, is)

-- one more number is read
pub read_more : (found : List ℤ) (i : ℕ) (z : ℤ) (rest : Option (List ℤ)) → i < length found
    → option_map (λ zs. take i found ++ zs) (option_map (λ zs. z ∷ zs) rest) ≡ option_map (λ zs. take (i + 1) (set found i z) ++ zs) rest
read_more found i z None h = refl
read_more found i z (Some zs) h = rw (take_more_set found i z h, append_assoc)

-- nothing is read yet
pub read_none : (found : List ℤ) (all : Option (List ℤ)) → all ≡ option_map (λ zs. take 0 found ++ zs) all
read_none found None = refl
read_none found (Some zs) = refl

-- a number that is no integer spoils the whole array
pub read_spoilt : (found : List ℤ) (i : ℕ) (all rest : Option (List ℤ)) → all ≡ option_map (λ zs. take i found ++ zs) rest → rest ≡ None → all ≡ None
read_spoilt found i all rest h none = rw none at h

-- all is read
pub read_all : (vs : List Value) (found : List ℤ) (i : ℕ) → length vs ≤ i → length found ≡ length vs
    → integers (items_view vs) ≡ option_map (λ zs. take i found ++ zs) (integers (items_view (drop i vs)))
    → integers (items_view vs) ≡ Some found
read_all vs found i past room h =
    let over : drop i vs ≡ [] = drop_all i vs past in
    let full : take i found ≡ found = take_all i found (omega arith) in
    let read : integers (items_view vs) ≡ Some (found ++ []) = rw (over, full) at h in
    read ∙ ap Some (append-nil found)

-- the same where values are pushed onto a list
pub none_pushed : {A : Type 0} (all : Option (List A)) → all ≡ option_map (λ xs. [] ++ xs) all
none_pushed None = refl
none_pushed (Some xs) = refl

pub one_pushed : {A : Type 0} (found : List A) (x : A) (rest : Option (List A))
    → option_map (λ xs. found ++ xs) (option_map (λ xs. x ∷ xs) rest) ≡ option_map (λ xs. (found ++ x ∷ []) ++ xs) rest
one_pushed found x None = refl
one_pushed found x (Some xs) = simp append_assoc

pub spoilt : {A : Type 0} (found : List A) (all rest : Option (List A)) → all ≡ option_map (λ xs. found ++ xs) rest → rest ≡ None → all ≡ None
spoilt found all rest h none = rw none at h

pub all_pushed : {A : Type 0} (found : List A) (all rest : Option (List A)) → all ≡ option_map (λ xs. found ++ xs) rest → rest ≡ Some [] → all ≡ Some found
all_pushed found all rest h end = h ∙ ap (option_map (λ xs. found ++ xs)) end ∙ ap Some (append-nil found)

-- the rows from a place on, where a row stands at it
pub rows-at : (version : ℕ) (vs : List Value) (i : ℕ) (d : Value) (zs : List ℤ) → i < length vs → block_of version (view (get_or vs i d)) ≡ Some zs
    → rows_in version (items_view (drop i vs)) ≡ option_map (λ rows. zs ∷ rows) (rows_in version (items_view (drop (i + 1) vs)))
rows-at version vs i d zs h is = rw (items_view-drop vs i d h, is)

pub rows-none : (version : ℕ) (vs : List Value) (i : ℕ) (d : Value) → i < length vs → block_of version (view (get_or vs i d)) ≡ None
    → rows_in version (items_view (drop i vs)) ≡ None
rows-none version vs i d h is = rw (items_view-drop vs i d h, is)

-- past the end
pub integers-end : (vs : List Value) (i : ℕ) → length vs ≤ i → integers (items_view (drop i vs)) ≡ Some []
integers-end vs i past = let over : drop i vs ≡ [] = drop_all i vs past in rw over

pub rows-end : (version : ℕ) (vs : List Value) (i : ℕ) → length vs ≤ i → rows_in version (items_view (drop i vs)) ≡ Some []
rows-end version vs i past = let over : drop i vs ≡ [] = drop_all i vs past in rw over

-- so many items
pub numbers_in_whole : (many : ℕ) (vs : List Value) → length vs ≡ many → numbers_in many (items_view vs) ≡ integers (items_view vs)
numbers_in_whole many vs same = rw (count_view vs, eq-eqb (length vs) many same)

-- other than so many
pub numbers_in_other : (many : ℕ) (vs : List Value) → length vs ≢ many → numbers_in many (items_view vs) ≡ None
numbers_in_other many vs other = rw (count_view vs, ne_eqb (length vs) many other)

-- ---- one for each of so many rows or columns

-- as many integers are read as there are items
pub length-integers : (items : Items) (zs : List ℤ) → integers items ≡ Some zs → length zs ≡ count items
length-integers no_items zs h = let same = same_Some [] zs h in ap length (sym same)
length-integers (item d rest) zs h = length-read (as_integer d) (integers rest) zs (count rest) (λ ys is. length-integers rest ys is) h
  where
    length-read : (first : Option ℤ) (others : Option (List ℤ)) (zs : List ℤ) (n : ℕ) → ((ys : List ℤ) → others ≡ Some ys → length ys ≡ n) → first >>= (λ z. option_map (λ ys. z ∷ ys) others) ≡ Some zs → length zs ≡ n + 1
    length-read None others zs n rest h = absurd (cc)
    length-read (Some z) None zs n rest h = absurd (cc)
    length-read (Some z) (Some ys) zs n rest h = let same = same_Some (z ∷ ys) zs h in ap length (sym same) ∙ omega (arith, rest ys refl)

shear_in-for_each : (many : ℤ) (items : Items) (zs : List ℤ) → shear_in many items ≡ Some zs → is_for_each many zs ≡ true
shear_in-for_each many items zs h =
    elim (cases_Bool (int_eq (pos (count items)) many)) [
      | inl same ↦
          let read : integers items ≡ Some zs = rw same at h in
          let length_is : length zs ≡ count items = length-integers items zs read in
          or_right (length zs == 0) (int_eq (pos (length zs)) many) (rw length_is same)
      | inr other ↦ absurd (let e = rw other at h in cc)
    ]

shear_of-for_each : (many : ℤ) (d : Option Items) (zs : List ℤ) → d >>= shear_in many ≡ Some zs → is_for_each many zs ≡ true
shear_of-for_each many None zs h = absurd (cc)
shear_of-for_each many (Some items) zs h = shear_in-for_each many items zs h

shear_written-for_each : (many : ℤ) (d : Option Data) (zs : List ℤ) → shear_written many d ≡ Some zs → is_for_each many zs ≡ true
shear_written-for_each many None zs h = let same = same_Some [] zs h in rw (← same) refl
shear_written-for_each many (Some d) zs h = shear_of-for_each many (as_array d) zs h

-- a shear has no numbers, or one for each row or column
pub shear_at-for_each : (many : ℤ) (table : Members) (key : Key) (zs : List ℤ) → shear_at many table key ≡ Some zs → is_for_each many zs ≡ true
unfolding shear_at
shear_at-for_each many table key zs h = shear_written-for_each many (written_at table key) zs h
