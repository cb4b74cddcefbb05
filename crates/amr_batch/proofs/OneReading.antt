-- Bytes are read as jobs in one way.
use Rattle.std.proofs.Common.{◌≡◌, ◌∙◌, ℕ, suc, ◌<◌, ◌≤◌, List, [], ◌∷◌, ◌++◌, All, ◌⊎◌, inl, inr, length, refl, sym, ap, flat_map, append_assoc, append-nil, arith}
use Rattle.std.specs.Prelude.{codes, decimal}
use Rattle.std.proofs.lemmas.Bool.{cases_lt}
use Rattle.std.proofs.lemmas.Fmt.{decimal_injective}
use Rattle.amr_batch.specs.Batch.{HasNoJob, IsJob, job_text}
use Rattle.amr_batch.specs.Laws.{HasOnePlace, HasOneReading, IsOneOrTheOther}
use Rattle.amr_batch.proofs.Fronts.{job_front, number_no_newline, one_line, same_front}

-- lists of one length before what follows
same_size : (a b x y : List ℕ) → length a ≡ length b → a ++ x ≡ b ++ y → (a ≡ b) × (x ≡ y)
same_size [] [] x y size e = (refl, e)
same_size [] (d ∷ ds) x y size e = absurd (omega (arith, size))
same_size (c ∷ cs) [] x y size e = absurd (omega (arith, size))
same_size (c ∷ cs) (d ∷ ds) x y size e =
    let here : c ≡ d = cc in
    let rest : cs ++ x ≡ ds ++ y = cc in
    let more = same_size cs ds x y (omega (arith, size)) rest in
    ((λ i. here i ∷ more.0 i), more.1)

-- one job is the front of bytes, and one rest follows it
one_job : (a b x y : List ℕ) → IsJob a → IsJob b → job_text a ++ x ≡ job_text b ++ y → (a ≡ b) × (x ≡ y)
one_job a b x y fits also e =
    let m : ℕ = length a in
    let n : ℕ = length b in
    let behind : decimal m ++ 10 ∷ (a ++ x) ≡ decimal n ++ 10 ∷ (b ++ y) =
    same_front (codes "job ") (decimal m ++ 10 ∷ (a ++ x)) (decimal n ++ 10 ∷ (b ++ y)) (sym (job_front a x) ∙ e ∙ job_front b y) in
    let lines = one_line (decimal m) (decimal n) (a ++ x) (b ++ y) (number_no_newline m (omega (arith, fits))) (number_no_newline n (omega (arith, also))) behind in
    same_size a b x y (decimal_injective m n (omega (arith, fits)) (omega (arith, also)) lines.0) lines.1

-- jobs that are read so far, before what follows
front_of : (job : List ℕ) (jobs : List (List ℕ)) (x : List ℕ) → flat_map job_text (job ∷ jobs) ++ x ≡ job_text job ++ (flat_map job_text jobs ++ x)
front_of job jobs x = append_assoc (job_text job) (flat_map job_text jobs) x

later : (job : List ℕ) (jobs : List (List ℕ)) → All IsJob (job ∷ jobs) → All IsJob jobs
later job jobs all k d below = all (suc k) d (omega (arith, below))

first : (job : List ℕ) (jobs : List (List ℕ)) → All IsJob (job ∷ jobs) → IsJob job
first job jobs all = all 0 job (omega arith)

-- nothing follows a batch
no_front : (job x : List ℕ) → [] ≡ job_text job ++ x → ⊥
no_front job x e = cc

one_reading : (jobs others : List (List ℕ)) → All IsJob jobs → All IsJob others → flat_map job_text jobs ≡ flat_map job_text others → jobs ≡ others
one_reading [] [] all also e = refl
one_reading [] (b ∷ rest_b) all also e = absurd (no_front b (flat_map job_text rest_b) e)
one_reading (a ∷ rest_a) [] all also e = absurd (no_front a (flat_map job_text rest_a) (sym e))
one_reading (a ∷ rest_a) (b ∷ rest_b) all also e =
    let both = one_job a b (flat_map job_text rest_a) (flat_map job_text rest_b) (first a rest_a all) (first b rest_b also) e in
    let more = one_reading rest_a rest_b (later a rest_a all) (later b rest_b also) both.1 in
    (λ i. both.0 i ∷ more i)

pub has_one_reading : HasOneReading
has_one_reading bytes jobs others is also = one_reading jobs others is.each also.each (sym is.whole ∙ also.whole)

-- after some jobs of a list of jobs there are more, or none
not_there : (jobs others : List (List ℕ)) (rest x : List ℕ) → All IsJob jobs → All IsJob others → length others < length jobs → flat_map job_text jobs ++ x ≡ flat_map job_text others ++ rest → HasNoJob rest → ⊥
not_there [] others rest x all also fewer e none = omega (arith, fewer)
not_there (a ∷ rest_a) [] rest x all also fewer e none = none a (flat_map job_text rest_a ++ x) (first a rest_a all) (sym e ∙ front_of a rest_a x)
not_there (a ∷ rest_a) (b ∷ rest_b) rest x all also fewer e none =
    let both = one_job a b (flat_map job_text rest_a ++ x) (flat_map job_text rest_b ++ rest) (first a rest_a all) (first b rest_b also) (sym (front_of a rest_a x) ∙ e ∙ front_of b rest_b rest) in
    not_there rest_a rest_b rest x (later a rest_a all) (later b rest_b also) (omega (arith, fewer)) both.1 none

-- the same number of jobs before what follows are the same jobs
same_jobs : (jobs others : List (List ℕ)) (x y : List ℕ) → All IsJob jobs → All IsJob others → length jobs ≡ length others → flat_map job_text jobs ++ x ≡ flat_map job_text others ++ y → (jobs ≡ others) × (x ≡ y)
same_jobs [] [] x y all also size e = (refl, e)
same_jobs [] (b ∷ rest_b) x y all also size e = absurd (omega (arith, size))
same_jobs (a ∷ rest_a) [] x y all also size e = absurd (omega (arith, size))
same_jobs (a ∷ rest_a) (b ∷ rest_b) x y all also size e =
    let both = one_job a b (flat_map job_text rest_a ++ x) (flat_map job_text rest_b ++ y) (first a rest_a all) (first b rest_b also) (sym (front_of a rest_a x) ∙ e ∙ front_of b rest_b y) in
    let more = same_jobs rest_a rest_b x y (later a rest_a all) (later b rest_b also) (omega (arith, size)) both.1 in
    ((λ i. both.0 i ∷ more.0 i), more.1)

-- as many jobs as a batch has at most, or none that follows: no other list of jobs reads so far
breaks_last : (jobs others : List (List ℕ)) (rest x : List ℕ) → All IsJob jobs → All IsJob others → length jobs ≤ 256 → HasNoJob rest ⊎ (length others ≡ 256) → flat_map job_text jobs ++ x ≡ flat_map job_text others ++ rest → length jobs ≤ length others
breaks_last jobs others rest x all also few (inr full) e = omega (arith, few, full)
breaks_last jobs others rest x all also few (inl none) e = from (cases_lt (length others) (length jobs))
  where
    from : (length others < length jobs) ⊎ (length jobs ≤ length others) → length jobs ≤ length others
    from (inl fewer) = absurd (not_there jobs others rest x all also fewer e none)
    from (inr enough) = enough

longer : (jobs others : List (List ℕ)) (rest : List ℕ) → All IsJob jobs → All IsJob others → length jobs ≤ length others → flat_map job_text jobs ≡ flat_map job_text others ++ rest → 0 < length rest → ⊥
longer [] [] rest all also fewer e some = omega (arith, ap length e, some)
longer [] (b ∷ rest_b) rest all also fewer e some = no_front b (flat_map job_text rest_b ++ rest) (e ∙ front_of b rest_b rest)
longer (a ∷ rest_a) [] rest all also fewer e some = omega (arith, fewer)
longer (a ∷ rest_a) (b ∷ rest_b) rest all also fewer e some =
    let both = one_job a b (flat_map job_text rest_a) (flat_map job_text rest_b ++ rest) (first a rest_a all) (first b rest_b also) (e ∙ front_of b rest_b rest) in
    longer rest_a rest_b rest (later a rest_a all) (later b rest_b also) (omega (arith, fewer)) both.1 some

pub is_one_or_the_other : IsOneOrTheOther
is_one_or_the_other bytes jobs place is (inl (long, here)) = omega (arith, long, is.short)
is_one_or_the_other bytes jobs place is (inr (short, (others, broken))) =
    let e : flat_map job_text jobs ≡ flat_map job_text others ++ broken.rest = sym is.whole ∙ broken.whole in
    let fewer = breaks_last jobs others broken.rest [] is.each broken.each is.few broken.breaks (append-nil (flat_map job_text jobs) ∙ e) in
    longer jobs others broken.rest is.each broken.each fewer e broken.some

pub has_one_place : HasOnePlace
has_one_place bytes place other (inl (long, here)) (inl (also, there)) = omega (arith, here, there)
has_one_place bytes place other (inl (long, here)) (inr (short, broken)) = absurd (omega (arith, long, short))
has_one_place bytes place other (inr (short, broken)) (inl (long, there)) = absurd (omega (arith, long, short))
has_one_place bytes place other (inr (short, (jobs, one))) (inr (also, (others, two))) =
    let e : flat_map job_text jobs ++ one.rest ≡ flat_map job_text others ++ two.rest = sym one.whole ∙ two.whole in
    let up = breaks_last jobs others two.rest one.rest one.each two.each one.few two.breaks e in
    let down = breaks_last others jobs one.rest two.rest two.each one.each two.few one.breaks (sym e) in
    let same = same_jobs jobs others one.rest two.rest one.each two.each (omega (arith, up, down)) e in
    one.place_is ∙ ap (λ (js : List (List ℕ)). length (flat_map job_text js)) same.0 ∙ sym two.place_is
