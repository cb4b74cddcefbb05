-- What holds of two lists place by place, and of each run of lists.
use Rattle.std.proofs.Common.{◌≡◌, ℕ, ◌+◌, ◌*◌, ◌/◌, ◌%◌, ◌<◌, ◌≤◌, List, length, get_or, drop, sym, subst, arith}
use Rattle.std.specs.List.{All, AllZip}
use Rattle.std.proofs.Math.Nat.{lt_of_mul-lt-mul_right, mod-lt}
use Rattle.std.proofs.lemmas.Nat.{div-add-mod'}
use Rattle.std.proofs.lemmas.List.{get_or_default, length-drop, length-take}
use Rattle.std.proofs.lemmas.Slice.Zip.{AllZip-long}
use Rattle.amr_register.proofs.EdgeLists.{zip_at, zip_from}
use Rattle.amr_lots.specs.Runs.{run}
use Rattle.amr_lots.proofs.Runs.{run_at, run_has, run_place}

pub zip_length : {A B : Type 0} (R : A → B → Type 0) (xs : List A) (ys : List B) → AllZip R xs ys → length xs ≡ length ys
zip_length R xs ys h = sym (AllZip-long R xs ys h)

-- of lists of the same kind
pub zip_places : {A : Type 0} (R : A → A → Type 0) (xs ys : List A) → length xs ≡ length ys → ((k : ℕ) (x : A) → k < length xs → R (get_or xs k x) (get_or ys k x)) → AllZip R xs ys
zip_places R xs ys same each = zip_from R xs ys (sym same) (λ k d e lt. subst (R (get_or xs k d)) (get_or_default ys k d e (omega (arith, lt, same))) (each k d lt))

-- a run of each
pub zip_run : {A B : Type 0} (R : A → B → Type 0) (each k : ℕ) (xs : List A) (ys : List B) → AllZip R xs ys → AllZip R (run each k xs) (run each k ys)
zip_run R each k xs ys h =
    let n = zip_length R xs ys h in
    let same : length (run each k xs) ≡ length (run each k ys) = omega (arith, n, length-take each (drop (k * each) xs), length-take each (drop (k * each) ys), length-drop (k * each) xs, length-drop (k * each) ys) in
    zip_from R (run each k xs) (run each k ys) (sym same) (λ i a b lt.
    subst (λ (y : _). R (get_or (run each k xs) i a) y) (sym (run_at each ys k i b (omega (arith, lt, same))))
    (subst (λ (x : _). R x (get_or ys (k * each + i) b)) (sym (run_at each xs k i a lt)) (zip_at R xs ys (k * each + i) a b h (run_place each xs k i lt))))

-- where a place lies: in which run, and where in it
pub div_mod : (j each : ℕ) → j / each * each + j % each ≡ j
div_mod j each = div-add-mod' j each

pub mod_below : (j each : ℕ) → 0 < each → j % each < each
mod_below j each some = mod-lt j some

pub run_below : (j each runs : ℕ) → 0 < each → j < runs * each → j / each < runs
run_below j each runs some lt = lt_of_mul-lt-mul_right each (omega (arith, lt, div-add-mod' j each))

module _ {A : Type 0} (each runs : ℕ) (some : 0 < each) (xs : List A) (enough : length xs ≤ runs * each) where
  -- what holds of each run holds of all
  pub all_runs : (P : A → Type 0) → ((k : ℕ) → k < runs → All P (run each k xs)) → All P xs
  all_runs P h = λ j d lt.
      let k = j / each in
      let i = j % each in
      let whole : k * each + i ≡ j = div_mod j each in
      let below : k < runs = run_below j each runs some (omega (arith, lt, enough)) in
      let there : i < length (run each k xs) = run_has each xs k i (mod_below j each some) (omega (arith, whole, lt)) in
      subst (λ n. P (get_or xs n d)) whole (subst P (run_at each xs k i d there) (h k below i d there))

  -- and so of two lists
  pub zip_runs : (R : A → A → Type 0) (ys : List A) → length xs ≡ length ys → ((k : ℕ) → k < runs → AllZip R (run each k xs) (run each k ys)) → AllZip R xs ys
  zip_runs R ys same h = zip_from R xs ys (sym same) (λ j a b lt.
      let k = j / each in
      let i = j % each in
      let whole : k * each + i ≡ j = div_mod j each in
      let below : k < runs = run_below j each runs some (omega (arith, lt, enough)) in
      let there : i < length (run each k xs) = run_has each xs k i (mod_below j each some) (omega (arith, whole, lt)) in
      let too : i < length (run each k ys) = run_has each ys k i (mod_below j each some) (omega (arith, whole, lt, same)) in
      subst (λ n. R (get_or xs n a) (get_or ys n b)) whole
      (subst (λ (y : A). R (get_or xs (k * each + i) a) y) (run_at each ys k i b too)
      (subst (λ (x : A). R x (get_or (run each k ys) i b)) (run_at each xs k i a there) (zip_at R (run each k xs) (run each k ys) i a b (h k below) there))))
