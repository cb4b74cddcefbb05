-- Texts of items one behind the other, and of runs of them.
use Rattle.std.proofs.Common.{◌≡◌, ◌∙◌, ℕ, ◌+◌, ◌*◌, ◌/◌, ◌%◌, ◌<◌, ◌≤◌, min, List, [], ◌∷◌, ◌++◌, length, get_or, take, drop, Ok, sym, ap, subst, append-nil, take-add, arith}
use Rattle.std.specs.Prelude.{IfOk}
use Rattle.std.specs.Fork.{slice_chunk}
use Rattle.std.specs.Global.{Vec}
use Rattle.std.specs.List.{flat_map}
use Rattle.std.specs.declared.result.Result.{Result}
use Rattle.std.proofs.lemmas.Grind.{div_ceil_times, flat_map-append}
use Rattle.std.proofs.lemmas.List.{get_or_append_left, get_or-append-add, length-append, take-append-drop, take_all, take_more}
use Rattle.amr_causes.specs.Bytes.{IsPrefix}
use Rattle.amr_io.specs.declared.WriteFault.{WriteFault}
use Rattle.amr_plot.specs.Texts.{AreTextsOfRuns, joined}

-- ---- texts of items in turn

module _ {A : Type 0} (f : A → List ℕ) where
  pub one_more : (xs : List A) (x : A) → flat_map f (xs ++ x ∷ []) ≡ flat_map f xs ++ f x
  one_more xs x = flat_map-append f xs (x ∷ []) ∙ ap (λ (l : List ℕ). flat_map f xs ++ l) (append-nil (f x))

  pub next_taken : (xs : List A) (i : ℕ) (x : A) → i < length xs → x ≡ get_or xs i x → flat_map f (take (i + 1) xs) ≡ flat_map f (take i xs) ++ f x
  next_taken xs i x below is = ap (flat_map f) (take_more xs i x below ∙ ap (λ (y : A). take i xs ++ y ∷ []) (sym is)) ∙ one_more (take i xs) x

  -- the next text goes behind those before it
  pub next_within : (xs : List A) (i : ℕ) (x : A) → i < length xs → x ≡ get_or xs i x → IsPrefix (flat_map f (take i xs) ++ f x) (flat_map f xs)
  next_within xs i x below is = record {
    rest = flat_map f (drop (i + 1) xs);
    split = ap (λ (l : List ℕ). l ++ flat_map f (drop (i + 1) xs)) (sym (next_taken xs i x below is)) ∙ sym (flat_map-append f (take (i + 1) xs) (drop (i + 1) xs)) ∙ ap (flat_map f) (take-append-drop (i + 1) xs);
  }

  pub all_taken : (xs : List A) (n : ℕ) → length xs ≤ n → flat_map f (take n xs) ≡ flat_map f xs
  all_taken xs n enough = ap (flat_map f) (take_all n xs enough)

-- ---- runs

module _ {A : Type 0} (f : A → List ℕ) (bs : List A) (size : ℕ) (runs : List (Result (Vec ℕ) WriteFault)) (run : Result (Vec ℕ) WriteFault) (all : AreTextsOfRuns f bs size (runs ++ run ∷ [])) where
  runs_before : AreTextsOfRuns f bs size runs
  runs_before k r lt = subst (λ (x : Result (Vec ℕ) WriteFault). IfOk x (λ v. v.items ≡ flat_map f (slice_chunk bs size k))) (get_or_append_left runs (run ∷ []) r k lt) (all k r (omega (arith, lt, length-append runs (run ∷ []))))

  last_run : IfOk run (λ v. v.items ≡ flat_map f (slice_chunk bs size (length runs)))
  last_run =
      let at : get_or (runs ++ run ∷ []) (length runs) run ≡ run = ap (λ (k : ℕ). get_or (runs ++ run ∷ []) k run) (omega arith) ∙ get_or-append-add runs (run ∷ []) 0 run in
      subst (λ (x : Result (Vec ℕ) WriteFault). IfOk x (λ v. v.items ≡ flat_map f (slice_chunk bs size (length runs)))) at (all (length runs) run (omega (arith, length-append runs (run ∷ []))))

-- the text of the next run stands behind those of the runs so far
pub next_joined : {A : Type 0} (f : A → List ℕ) (bs : List A) (size : ℕ) (runs : List (Result (Vec ℕ) WriteFault)) (run : Result (Vec ℕ) WriteFault) (v : Vec ℕ) (ts all : List (Vec ℕ)) → run ≡ Ok v → all ≡ ts ++ v ∷ []
    → (AreTextsOfRuns f bs size runs → joined ts ≡ flat_map f (take (length runs * size) bs)) → AreTextsOfRuns f bs size (runs ++ run ∷ []) → joined all ≡ flat_map f (take (length (runs ++ run ∷ []) * size) bs)
next_joined f bs size runs run v ts all is behind so_far texts =
    let n : ℕ = length runs * size in
    let first : joined ts ≡ flat_map f (take n bs) = so_far (runs_before f bs size runs run texts) in
    let then : v.items ≡ flat_map f (take size (drop n bs)) = subst (λ (x : Result (Vec ℕ) WriteFault). IfOk x (λ u. u.items ≡ flat_map f (slice_chunk bs size (length runs)))) is (last_run f bs size runs run texts) in
    let count : length (runs ++ run ∷ []) ≡ length runs + 1 = length-append runs (run ∷ []) in
    let to : n + size ≡ length (runs ++ run ∷ []) * size = sym (ap (λ (k : ℕ). k * size) count ∙ omega arith) in
    ap joined behind ∙ one_more (λ (t : Vec ℕ). t.items) ts v ∙ (λ i. first i ++ then i)
    ∙ sym (flat_map-append f (take n bs) (take size (drop n bs)))
    ∙ ap (flat_map f) (sym (take-add n size bs))
    ∙ ap (λ (k : ℕ). flat_map f (take k bs)) to

-- runs of one size, as many as are begun, have all items
pub all_in_runs : (items size runs : ℕ) → 0 < size → runs ≡ items / size + min 1 (items % size) → items ≤ runs * size
all_in_runs items size runs some count = subst (λ (n : ℕ). items ≤ n * size) (sym count) ((div_ceil_times items size some).0)
