-- Bytes that are put one after another: those of the entries of a list, and of the numbers of a range.
use Rattle.std.proofs.Common.{◌≡◌, ℕ, suc, ◌+◌, ◌<◌, ◌≤◌, List, [], ◌∷◌, ◌++◌, length, length-append, get_or, take, drop, length-take-le, map, zero, refl, sym, ap, ◌∙◌, append_assoc, append-nil, arith, pos, ◌+ℤ◌}
use Rattle.std.specs.List.{flat_map, range_with_len}
use Rattle.std.proofs.lemmas.List.{drop-append-le, flat_map_more, take_all, take_at}
use Rattle.std.proofs.lemmas.Grind.{take_at_read}
use Rattle.std.proofs.lemmas.List.Concat.{flat_map-append}
use Rattle.std.proofs.lemmas.List.Folds.{flat_map-map}
use Rattle.amr_box.specs.declared.Cell.{Cell}
use Rattle.amr_box.specs.Cells.{Extent, cell, cells_of, height, width}
use Rattle.amr_box.proofs.Numbers.{range_parts}
use Rattle.amr_def.specs.State.{Level}
use Rattle.amr_payload.specs.Payload.{Form, level_bytes, levels_bytes}

-- ---- lists

-- one more entry
pub entry_more : {A : Type 0} (f : A → List ℕ) (start : List ℕ) (xs : List A) (i : ℕ) (x d : A) → i < length xs → x ≡ get_or xs i d → (start ++ flat_map f (take i xs)) ++ f x ≡ start ++ flat_map f (take (i + 1) xs)
entry_more f start xs i x d inside is =
    flat_map_more f start (take i xs) x ∙ ap (λ y. start ++ flat_map f (take i xs ++ y ∷ [])) is ∙ ap (λ ys. start ++ flat_map f ys) (sym (take_at_read xs i d inside).1)

-- all entries
pub entries_all : {A : Type 0} (f : A → List ℕ) (start : List ℕ) (xs : List A) (i : ℕ) → length xs ≤ i → start ++ flat_map f (take i xs) ≡ start ++ flat_map f xs
entries_all f start xs i end = ap (λ ys. start ++ flat_map f ys) (take_all i xs end)

-- the same of the entries from one on
pub later_more : {A : Type 0} (f : A → List ℕ) (start : List ℕ) (first : ℕ) (xs : List A) (i : ℕ) (x d : A) → first ≤ i → i < length xs → x ≡ get_or xs i d
    → (start ++ flat_map f (drop first (take i xs))) ++ f x ≡ start ++ flat_map f (drop first (take (i + 1) xs))
later_more f start first xs i x d after inside is =
    let long : first ≤ length (take i xs) = omega (arith, length-take-le i xs (omega (arith, inside)), after) in
    flat_map_more f start (drop first (take i xs)) x ∙ ap (λ ys. start ++ flat_map f ys) (sym (drop-append-le first (take i xs) (x ∷ []) long))
    ∙ ap (λ y. start ++ flat_map f (drop first (take i xs ++ y ∷ []))) is ∙ ap (λ ys. start ++ flat_map f (drop first ys)) (sym (take_at_read xs i d inside).1)

pub later_all : {A : Type 0} (f : A → List ℕ) (start : List ℕ) (first : ℕ) (xs : List A) (i : ℕ) → length xs ≤ i → start ++ flat_map f (drop first (take i xs)) ≡ start ++ flat_map f (drop first xs)
later_all f start first xs i end = ap (λ ys. start ++ flat_map f (drop first ys)) (take_all i xs end)

pub none_later : {A : Type 0} (f : A → List ℕ) (start : List ℕ) (first : ℕ) (xs : List A) → start ≡ start ++ flat_map f (drop first (take first xs))
none_later f start first xs = sym (append-nil start) ∙ ap (λ ys. start ++ flat_map f ys) (sym (no_later first xs))
  where
    no_later : {A : Type 0} (n : ℕ) (xs : List A) → drop n (take n xs) ≡ []
    no_later zero xs = refl
    no_later (suc n) [] = refl
    no_later (suc n) (x ∷ xs) = no_later n xs

-- one more level, and all levels
levels_joined : (fs : ℕ → Form) (l : ℕ) (ks es : List Level) → levels_bytes fs l (ks ++ es) ≡ levels_bytes fs l ks ++ levels_bytes fs (l + length ks) es
levels_joined fs l [] es = let same : l ≡ l + 0 = omega arith in ap (λ n. levels_bytes fs n es) same
levels_joined fs l (k ∷ ks) es =
    let same : suc l + length ks ≡ l + suc (length ks) = omega arith in
    ap (λ (bs : List ℕ). level_bytes (fs l) k ++ bs) (levels_joined fs (suc l) ks es ∙ ap (λ n. levels_bytes fs (suc l) ks ++ levels_bytes fs n es) same)
    ∙ sym (append_assoc (level_bytes (fs l) k) (levels_bytes fs (suc l) ks) (levels_bytes fs (l + suc (length ks)) es))

pub level_more : (fs : ℕ → Form) (start : List ℕ) (ks : List Level) (i : ℕ) (k d : Level) → i < length ks → k ≡ get_or ks i d
    → (start ++ levels_bytes fs 0 (take i ks)) ++ level_bytes (fs i) k ≡ start ++ levels_bytes fs 0 (take (i + 1) ks)
level_more fs start ks i k d inside is =
    let before : 0 + length (take i ks) ≡ i = omega (arith, length-take-le i ks (omega (arith, inside))) in
    append_assoc start (levels_bytes fs 0 (take i ks)) (level_bytes (fs i) k)
    ∙ ap (λ (bs : List ℕ). start ++ (levels_bytes fs 0 (take i ks) ++ bs)) (sym (append-nil (level_bytes (fs i) k)) ∙ ap (λ n. levels_bytes fs n (k ∷ [])) (sym before))
    ∙ ap (λ (bs : List ℕ). start ++ bs) (sym (levels_joined fs 0 (take i ks) (k ∷ [])))
    ∙ ap (λ (e : Level). start ++ levels_bytes fs 0 (take i ks ++ e ∷ [])) is
    ∙ ap (λ (es : List Level). start ++ levels_bytes fs 0 es) (sym (take_at_read ks i d inside).1)

pub levels_all : (fs : ℕ → Form) (start : List ℕ) (ks : List Level) (i : ℕ) → length ks ≤ i → start ++ levels_bytes fs 0 (take i ks) ≡ start ++ levels_bytes fs 0 ks
levels_all fs start ks i end = ap (λ (es : List Level). start ++ levels_bytes fs 0 es) (take_all i ks end)

-- one list and then another
pub put_twice : (a b c x y : List ℕ) → b ≡ a ++ x → c ≡ b ++ y → c ≡ a ++ (x ++ y)
put_twice a b c x y first second = second ∙ ap (λ (l : List ℕ). l ++ y) first ∙ append_assoc a x y

-- ---- ranges

-- n numbers more
pub range_more : (f : ℕ → List ℕ) (start : List ℕ) (m n : ℕ) → (start ++ flat_map f (range_with_len 0 m)) ++ flat_map f (range_with_len m n) ≡ start ++ flat_map f (range_with_len 0 (m + n))
range_more f start m n =
    let e : 0 + m ≡ m = omega arith in
    append_assoc start (flat_map f (range_with_len 0 m)) (flat_map f (range_with_len m n))
    ∙ ap (λ (l : List ℕ). start ++ l) (sym (flat_map-append f (range_with_len 0 m) (range_with_len m n)) ∙ ap (λ k. flat_map f (range_with_len 0 m ++ range_with_len k n)) (sym e) ∙ ap (flat_map f) (sym (range_parts 0 m n)))

-- one number more
pub number_more : (f : ℕ → List ℕ) (start : List ℕ) (m : ℕ) → (start ++ flat_map f (range_with_len 0 m)) ++ f m ≡ start ++ flat_map f (range_with_len 0 (m + 1))
number_more f start m = ap (λ (l : List ℕ). (start ++ flat_map f (range_with_len 0 m)) ++ l) (sym (append-nil (f m))) ∙ range_more f start m 1

-- ---- masses

-- those of the columns from m on
pub span_bytes : (g : ℕ → List ℕ) (h : ℕ → ℕ) (m : ℕ) (xs : List ℕ) → ((k : ℕ) → k < length xs → get_or xs k 0 ≡ h (m + k)) → flat_map g xs ≡ flat_map (λ i. g (h i)) (range_with_len m (length xs))
span_bytes g h m [] e = refl
span_bytes g h m (x ∷ xs) e =
    let z : m + 0 ≡ m = omega arith in
    let here : x ≡ h m = e 0 (omega arith) ∙ ap h z in
    let rest : (k : ℕ) → k < length xs → get_or xs k 0 ≡ h (m + 1 + k) = λ k below. let s : m + suc k ≡ m + 1 + k = omega arith in e (suc k) (omega (arith, below)) ∙ ap h s in
    λ i. g (here i) ++ span_bytes g h (m + 1) xs rest i

flat_map_twice : {A B : Type 0} (f : B → List ℕ) (g : A → List B) (xs : List A) → flat_map f (flat_map g xs) ≡ flat_map (λ x. flat_map f (g x)) xs
flat_map_twice f g [] = refl
flat_map_twice f g (x ∷ xs) = flat_map-append f (g x) (flat_map g xs) ∙ ap (λ (l : List ℕ). flat_map f (g x) ++ l) (flat_map_twice f g xs)

-- the cells of a box, row by row
pub rows_of_cells : (g : Cell → List ℕ) (b : Extent) → flat_map g (cells_of b) ≡ flat_map (λ j. flat_map (λ i. g (cell (b.lo.x +ℤ pos i) (b.lo.y +ℤ pos j))) (range_with_len 0 (width b))) (range_with_len 0 (height b))
rows_of_cells g b =
    flat_map_twice g (λ j. map (λ i. cell (b.lo.x +ℤ pos i) (b.lo.y +ℤ pos j)) (range_with_len 0 (width b))) (range_with_len 0 (height b))
    ∙ (λ t. flat_map (λ j. flat_map-map g (λ i. cell (b.lo.x +ℤ pos i) (b.lo.y +ℤ pos j)) (range_with_len 0 (width b)) t) (range_with_len 0 (height b)))

-- ---- numbers written over bytes

-- the front of a list, up to the end of what was written at a place
front_written : (bytes ys post : List ℕ) (at m : ℕ) → at ≤ length bytes → m ≡ at + length ys → take m (take at bytes ++ (ys ++ post)) ≡ take at bytes ++ ys
front_written bytes ys post at m within end =
    ap (take m) (sym (append_assoc (take at bytes) ys post)) ∙ take_at (take at bytes ++ ys) post m (omega (arith, end, length-append (take at bytes) ys, length-take-le at bytes within))

-- one number more
pub number_written : (f : ℕ → List ℕ) (numbers bytes ys post : List ℕ) (k x at m : ℕ) → k < length numbers → x ≡ get_or numbers k 0 → ys ≡ f x → at ≤ length bytes → m ≡ at + length ys → take at bytes ≡ flat_map f (take k numbers)
    → take m (take at bytes ++ (ys ++ post)) ≡ flat_map f (take (k + 1) numbers)
number_written f numbers bytes ys post k x at m inside is here within end before =
    front_written bytes ys post at m within end ∙ ap (λ (zs : List ℕ). zs ++ ys) before ∙ ap (λ (zs : List ℕ). flat_map f (take k numbers) ++ zs) here ∙ entry_more f [] numbers k x 0 inside is

-- all numbers
pub all_written : (f : ℕ → List ℕ) (numbers bytes : List ℕ) (k at : ℕ) → length bytes ≤ at → length numbers ≤ k → take at bytes ≡ flat_map f (take k numbers) → bytes ≡ flat_map f numbers
all_written f numbers bytes k at end all before = sym (take_all at bytes end) ∙ before ∙ ap (flat_map f) (take_all k numbers all)
