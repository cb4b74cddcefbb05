-- The front of a batch, and its first job.
use Rattle.std.proofs.Common.{◌≡◌, ◌≢◌, ◌∙◌, ℕ, zero, suc, ◌+◌, ◌^◌, ◌<◌, ◌≤◌, List, [], ◌∷◌, ◌++◌, length, get_or, take, drop, refl, sym, ap, subst, append_assoc, length-append, length-drop, take-add, add-one, drop-cons, arith}
use Rattle.std.specs.Prelude.{codes, decimal}
use Rattle.std.specs.Char.{digit_value}
use Rattle.std.specs.Str.Parse.{AllDigits}
use Rattle.std.proofs.lemmas.Fmt.{decimal_is_IsNumeral}
use Rattle.std.proofs.lemmas.List.{length-take-le, take-append-drop}
use Rattle.std.proofs.Math.Seq.{take-append_seam}
use Rattle.amr_batch.specs.Batch.{BeginsWith, IsJob, job_text}

-- ---- lines

abbrev pub HasNoNewline : List ℕ → Type 0
HasNoNewline [] = Unit {0}
HasNoNewline (b ∷ bs) = (b ≢ 10) × HasNoNewline bs

-- what stands before the first newline is one list, and what stands after it
pub one_line : (a b x y : List ℕ) → HasNoNewline a → HasNoNewline b → a ++ 10 ∷ x ≡ b ++ 10 ∷ y → (a ≡ b) × (x ≡ y)
one_line [] [] x y one two e = (refl, cc)
one_line [] (d ∷ ds) x y one two e = let here : d ≡ 10 = cc in absurd (two.0 here)
one_line (c ∷ cs) [] x y one two e = let here : c ≡ 10 = cc in absurd (one.0 here)
one_line (c ∷ cs) (d ∷ ds) x y one two e =
    let here : c ≡ d = cc in
    let rest : cs ++ 10 ∷ x ≡ ds ++ 10 ∷ y = cc in
    let more = one_line cs ds x y one.1 two.1 rest in
    ((λ i. here i ∷ more.0 i), more.1)

pub digits_no_newline : (ds : List ℕ) → AllDigits 10 ds → HasNoNewline ds
digits_no_newline [] all = tt
digits_no_newline (d ∷ ds) all = ((λ e. let k : digit_value 10 < 10 = subst (λ (x : ℕ). digit_value x < 10) e all.0 in omega arith), digits_no_newline ds all.1)

pub number_no_newline : (n : ℕ) → n < 2 ^ 64 → HasNoNewline (decimal n)
number_no_newline n small = digits_no_newline (decimal n) ((decimal_is_IsNumeral n small).0.1)

pub none_before : (xs : List ℕ) (i : ℕ) → ((k : ℕ) → k < i → get_or xs k 0 ≢ 10) → HasNoNewline (take i xs)
none_before xs zero none = tt
none_before [] (suc i) none = tt
none_before (x ∷ xs) (suc i) none = (none 0 (omega arith), none_before xs i (λ k below. none (suc k) (omega (arith, below))))

pub newline_after : (a x : List ℕ) → get_or (a ++ 10 ∷ x) (length a) 0 ≡ 10
newline_after [] x = refl
newline_after (c ∷ cs) x = newline_after cs x

pub split_at : (xs : List ℕ) (i : ℕ) → i < length xs → get_or xs i 0 ≡ 10 → xs ≡ take i xs ++ 10 ∷ drop (i + 1) xs
split_at xs i below here =
    sym (take-append-drop i xs)
    ∙ ap (λ (l : List ℕ). take i xs ++ l) (drop-cons xs i 0 below ∙ (λ t. here t ∷ drop (sym (add-one i) t) xs))

-- a job's text, with what follows it, from its digits on
pub job_front : (job rest : List ℕ) → job_text job ++ rest ≡ codes "job " ++ (decimal (length job) ++ 10 ∷ (job ++ rest))
job_front job rest = append_assoc (codes "job ") (decimal (length job) ++ 10 ∷ job) rest ∙ ap (λ (l : List ℕ). codes "job " ++ l) (append_assoc (decimal (length job)) (10 ∷ job) rest)

-- lists behind one front
pub same_front : (a x y : List ℕ) → a ++ x ≡ a ++ y → x ≡ y
same_front [] x y e = e
same_front (c ∷ cs) x y e = same_front cs x y (cc)

-- what stands behind the mark has a job's digits, a newline and the job
pub behind_mark : (line job rest : List ℕ) → codes "job " ++ line ≡ job_text job ++ rest → line ≡ decimal (length job) ++ 10 ∷ (job ++ rest)
behind_mark line job rest e = same_front (codes "job ") line (decimal (length job) ++ 10 ∷ (job ++ rest)) (e ∙ job_front job rest)

-- ---- the first job, found by its mark, its newline and its number

pub job_begins : (bytes line : List ℕ) (end len : ℕ) → bytes ≡ codes "job " ++ line → end < length line → get_or line end 0 ≡ 10 → take end line ≡ decimal len → len ≤ 65536 → 4 + end + 1 + len ≤ length bytes → BeginsWith bytes (4 + end + 1) len
job_begins bytes line end len marked below here digits small inside =
    let from : ℕ = 4 + end + 1 in
    let after : List ℕ = drop (end + 1) line in
    let head : List ℕ = codes "job " ++ (decimal len ++ 10 ∷ []) in
    let regroup : (x : List ℕ) → codes "job " ++ (decimal len ++ 10 ∷ x) ≡ head ++ x = λ x. ap (λ (l : List ℕ). codes "job " ++ l) (sym (append_assoc (decimal len) (10 ∷ []) x)) ∙ sym (append_assoc (codes "job ") (decimal len ++ 10 ∷ []) x) in
    let whole : bytes ≡ head ++ after = marked ∙ ap (λ (l : List ℕ). codes "job " ++ l) (split_at line end below here ∙ ap (λ (l : List ℕ). l ++ 10 ∷ after) digits) ∙ regroup after in
    let wide : length (decimal len) ≡ end = sym (ap length digits) ∙ length-take-le end line (omega (arith, below)) in
    let long : from ≡ length head = omega (arith, length-append (decimal len) (10 ∷ []), wide) in
    let front : take from bytes ≡ head = (λ i. take (long i) (whole i)) ∙ take-append_seam head after in
    let body : List ℕ = take len (drop from bytes) in
    let size : length body ≡ len = length-take-le len (drop from bytes) (omega (arith, length-drop from bytes, inside)) in
    record {
      small = small;
      some = omega arith;
      inside = inside;
      job = take-add from len bytes ∙ ap (λ (l : List ℕ). l ++ body) front ∙ sym (regroup body) ∙ ap (λ (n : ℕ). codes "job " ++ (decimal n ++ 10 ∷ body)) (sym size);
    }

-- what stands in a line with a job's digits, and how long it is
pub record HasDigits (line : List ℕ) (end n : ℕ) : Type 0 where
  pub digits : take end line ≡ decimal n
  pub long : end + 1 + n ≤ length line

pub has_digits : (line job rest : List ℕ) (end : ℕ) → IsJob job → line ≡ decimal (length job) ++ 10 ∷ (job ++ rest) → end < length line → ((k : ℕ) → k < end → get_or line k 0 ≢ 10) → get_or line end 0 ≡ 10 → HasDigits line end (length job)
has_digits line job rest end fits is below before here =
    let n : ℕ = length job in
    let both = one_line (take end line) (decimal n) (drop (end + 1) line) (job ++ rest) (none_before line end before) (number_no_newline n (omega (arith, fits))) (sym (split_at line end below here) ∙ is) in
    let wide : length (decimal n) ≡ end = sym (ap length both.0) ∙ length-take-le end line (omega (arith, below)) in
    let all : length line ≡ length (decimal n) + length (10 ∷ (job ++ rest)) = ap length is ∙ length-append (decimal n) (10 ∷ (job ++ rest)) in
    let long : end + 1 + n ≤ length line = omega (arith, all, wide, length-append job rest) in
    record { digits = both.0; long = long }
