-- Layouts that are taken out of a list, run after run.
use Rattle.std.proofs.Common.{◌≡◌, ◌∙◌, ℕ, zero, suc, ◌+◌, ◌-◌, ◌*◌, ◌<◌, ◌≤◌, List, [], ◌∷◌, ◌++◌, length, length-append, get_or, map, set, take, drop, refl, sym, ap, subst, arith}
use Rattle.std.specs.List.{AllZip}
use Rattle.std.proofs.lemmas.Grind.{flat_map-append}
use Rattle.std.proofs.lemmas.List.{drop-drop, drop-map, drop-set-lt, get_or-drop, length-drop, length-set, take-append-drop, take_more}
use Rattle.amr_layout.specs.declared.PatchLayout.{PatchLayout}
use Rattle.amr_layout.specs.declared.PutAt.{PutAt}
use Rattle.amr_layout.specs.Arounds.{all_places_read, all_puts}
use Rattle.amr_layout.specs.Places.{HasMask}
use Rattle.amr_layout.specs.Surroundings.{Around, domain_around}
use Rattle.amr_lots.specs.Runs.{run}
use Rattle.amr_lots.specs.Works.{places_read}
use Rattle.amr_lots.proofs.Runs.{map_run, run_first, take_first}
use Rattle.amr_patch.specs.declared.patches.Patch.{Patch}
use Rattle.amr_advance.specs.Cuts.{AreLayoutsFrom, AreLayoutsOfRun, IsRunOf}
use Rattle.amr_advance.proofs.RunZips.{zip_run}

-- ---- what follows in lists

-- lists that are the same from one place on are so from a later one
pub drop_later : {A : Type 0} (m n : ℕ) (xs ys : List A) → m ≤ n → drop m xs ≡ drop m ys → drop n xs ≡ drop n ys
drop_later m n xs ys le e =
    let is : m + (n - m) ≡ n = omega (arith, le) in
    ap (λ k. drop k xs) (sym is) ∙ sym (drop-drop (n - m) m xs) ∙ ap (drop (n - m)) e ∙ drop-drop (n - m) m ys ∙ ap (λ k. drop k ys) is

zip_drop : {A B : Type 0} (R : A → B → Type 0) (n : ℕ) (xs : List A) (ys : List B) → AllZip R xs ys → AllZip R (drop n xs) (drop n ys)
zip_drop R zero xs ys h = h
zip_drop R (suc n) [] [] h = h
zip_drop R (suc n) [] (y ∷ ys) h = absurd h
zip_drop R (suc n) (x ∷ xs) [] h = absurd h
zip_drop R (suc n) (x ∷ xs) (y ∷ ys) h = zip_drop R n xs ys h.1

zip_later : {A B : Type 0} (R : A → B → Type 0) (m n : ℕ) (xs : List A) (ys : List B) → m ≤ n → AllZip R (drop m xs) (drop m ys) → AllZip R (drop n xs) (drop n ys)
zip_later R m n xs ys le h =
    let is : m + (n - m) ≡ n = omega (arith, le) in
    subst (λ k. AllZip R (drop k xs) (drop k ys)) is
    (subst (λ zs. AllZip R zs (drop (m + (n - m)) ys)) (drop-drop (n - m) m xs) (subst (AllZip R (drop (n - m) (drop m xs))) (drop-drop (n - m) m ys) (zip_drop R (n - m) (drop m xs) (drop m ys) h)))

-- ---- items taken one after another

-- so many items of a list from the first on were taken, one after another, and those after them stand
pub record AreTakenTo {A : Type 0} (first k : ℕ) (old left taken : List A) : Type 0 where
  pub items : taken ≡ take k (drop first old)
  pub rest : drop (first + k) left ≡ drop (first + k) old
  pub count : length left ≡ length old

pub none_taken : {A : Type 0} (first : ℕ) (xs : List A) → AreTakenTo first 0 xs xs []
none_taken first xs = record { items = refl; rest = refl; count = refl }

at_place : {A : Type 0} (n : ℕ) (xs ys : List A) (d : A) → drop n xs ≡ drop n ys → get_or xs n d ≡ get_or ys n d
at_place n xs ys d e =
    let is : n + 0 ≡ n = omega arith in
    ap (λ k. get_or xs k d) (sym is) ∙ sym (get_or-drop n xs 0 d) ∙ ap (λ zs. get_or zs 0 d) e ∙ get_or-drop n ys 0 d ∙ ap (λ k. get_or ys k d) is

pub one_taken : {A : Type 0} (first k : ℕ) (old left taken more : List A) (x y : A) → AreTakenTo first k old left taken → first + k < length old → x ≡ get_or left (first + k) x → more ≡ taken ++ x ∷ [] → AreTakenTo first (k + 1) old (set left (first + k) y) more
one_taken first k old left taken more x y h lt is pushed = record {
  items = pushed ∙ ap (λ zs. zs ++ x ∷ []) h.items ∙ ap (λ z. take k (drop first old) ++ z ∷ []) here ∙ sym (take_more (drop first old) k x (omega (arith, lt, length-drop first old)));
  rest = drop-set-lt (first + (k + 1)) left (first + k) y (omega arith) ∙ drop_later (first + k) (first + (k + 1)) left old (omega arith) h.rest;
  count = length-set left (first + k) y ∙ h.count;
}
  where
    here : x ≡ get_or (drop first old) k x
    here = is ∙ at_place (first + k) left old x h.rest ∙ sym (get_or-drop first old k x)

abbrev puts : PatchLayout → List PutAt
puts t = t.puts.items

abbrev reads : PatchLayout → List ℕ
reads t = t.border.items

reads_split : (n : ℕ) (ts : List PatchLayout) → length (places_read ts) ≡ length (places_read (take n ts)) + length (places_read (drop n ts))
reads_split n ts = ap (λ (us : List PatchLayout). length (places_read us)) (sym (take-append-drop n ts)) ∙ ap length (flat_map-append reads (take n ts) (drop n ts)) ∙ length-append (places_read (take n ts)) (places_read (drop n ts))

fewer_reads : (m n : ℕ) (ts : List PatchLayout) → m ≤ n → length (places_read (drop n ts)) ≤ length (places_read (drop m ts))
fewer_reads m n ts le =
    let is : m + (n - m) ≡ n = omega (arith, le) in
    let rest : length (places_read (drop (n - m) (drop m ts))) ≡ length (places_read (drop n ts)) = ap (λ (us : List PatchLayout). length (places_read us)) (drop-drop (n - m) m ts ∙ ap (λ k. drop k ts) is) in
    omega (arith, rest, reads_split (n - m) (drop m ts))

-- ---- the layouts of a run, and those after it

abbrev Masked : Around → ℕ → Patch → PatchLayout → Type 0
Masked s each = HasMask (domain_around s) s.patches each

pub layouts_of_run : (s : Around) (each k count : ℕ) (ts us : List PatchLayout) → IsRunOf each k count (length s.patches) → AreLayoutsFrom s each (k * each) ts → us ≡ take count (drop (k * each) ts) → AreLayoutsOfRun s each k us
layouts_of_run s each k count ts us of h taken = subst (AreLayoutsOfRun s each k) (sym (taken ∙ cut)) (record {
  puts = map_run puts each k ts ∙ ap (take each) h.puts;
  borders = map_run reads each k ts ∙ ap (take each) h.borders;
  masks = subst (λ (qs : List Patch). AllZip (Masked s each) qs (run each k ts)) (run_first each (drop (k * each) s.patches))
      (subst (AllZip (Masked s each) (run each 0 (drop (k * each) s.patches))) (run_first each (drop (k * each) ts)) (zip_run (Masked s each) each 0 (drop (k * each) s.patches) (drop (k * each) ts) h.masks));
  few = let few = h.few in omega (arith, few, reads_split each (drop (k * each) ts));
})
  where
    cut : take count (drop (k * each) ts) ≡ run each k ts
    cut = let n = of.count in let m = h.count in take_first each count (drop (k * each) ts) (omega (arith, n, m, length-drop (k * each) ts))

pub layouts_after : (s : Around) (each from next : ℕ) (ts us : List PatchLayout) → from ≤ next → AreLayoutsFrom s each from ts → length us ≡ length ts → drop next us ≡ drop next ts → AreLayoutsFrom s each next us
layouts_after s each from next ts us le h count rest = record {
  count = count ∙ h.count;
  puts = same puts (all_puts s each) h.puts;
  borders = same reads (all_places_read s each) h.borders;
  masks = subst (AllZip (Masked s each) (drop next s.patches)) (sym rest) (zip_later (Masked s each) from next s.patches ts le h.masks);
  few = let few = h.few in omega (arith, few, fewer_reads from next ts le, ap (λ (vs : List PatchLayout). length (places_read vs)) rest);
}
  where
    same : {A : Type 0} (f : PatchLayout → A) (zs : List A) → drop from (map f ts) ≡ drop from zs → drop next (map f us) ≡ drop next zs
    same f zs e = drop-map f next us ∙ ap (map f) rest ∙ sym (drop-map f next ts) ∙ drop_later from next (map f ts) zs le e
