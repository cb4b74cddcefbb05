use Rattle.std.proofs.Common.{◌≡◌, ◌∙◌, ℕ, ◌+◌, List, ◌∷◌, ◌++◌, Some, length, get_or, decimal, sym, ap, length-append, arith}
use Rattle.std.specs.Prelude.{codes}
use Rattle.std.proofs.lemmas.Bool.Decides.{Decides-eqb}
use Rattle.std.proofs.lemmas.Fmt.{decimal_injective}
use Rattle.std.proofs.lemmas.Slice.Eq.{strip_prefix_is}
use Rattle.amr_batch.proofs.Fronts.{behind_mark, has_digits, job_begins, newline_after}
use Rattle.amr_batch.proofs.spans.first_job.Goals as goal

pub returns-in_default-newline_at-clause-none : goal.returns-in_default-newline_at-clause-none
returns-in_default-newline_at-clause-none c job rest fits e =
    let line : List ℕ = c.in-Some.line.now in
    let ds : List ℕ = decimal (length job) in
    let marked : c.args.bytes.now ≡ codes "job " ++ line = strip_prefix_is Decides-eqb c.args.bytes.now (codes "job ") (Some c.in-Some.line) c.in-Some.ensures.cases in
    let is : line ≡ ds ++ 10 ∷ (job ++ rest) = behind_mark line job rest (sym marked ∙ e) in
    let all : length line ≡ length ds + length (10 ∷ (job ++ rest)) = ap length is ∙ length-append ds (10 ∷ (job ++ rest)) in
    c.in_default-newline_at.ensures.none (length ds) (omega (arith, all)) (ap (λ (l : List ℕ). get_or l (length ds) 0) is ∙ newline_after ds (job ++ rest))

pub returns-in_default-numeral-clause-none : goal.returns-in_default-numeral-clause-none
returns-in_default-numeral-clause-none c job rest fits e =
    let line : List ℕ = c.in-Some.line.now in
    let end : ℕ = c.in-Some-newline_at.end in
    let told = c.in-Some-newline_at.ensures in
    let marked : c.args.bytes.now ≡ codes "job " ++ line = strip_prefix_is Decides-eqb c.args.bytes.now (codes "job ") (Some c.in-Some.line) c.in-Some.ensures.cases in
    let has = has_digits line job rest end fits (behind_mark line job rest (sym marked ∙ e)) told.inside told.before told.here in
    c.in_default-numeral.ensures.none (length job) fits has.digits

pub returns-then-bytes-from-clause-none : goal.returns-then-bytes-from-clause-none
returns-then-bytes-from-clause-none c job rest fits e =
    let line : List ℕ = c.in-Some.line.now in
    let end : ℕ = c.in-Some-newline_at.end in
    let len : ℕ = c.in-Some-numeral.len in
    let told = c.in-Some-newline_at.ensures in
    let marked : c.args.bytes.now ≡ codes "job " ++ line = strip_prefix_is Decides-eqb c.args.bytes.now (codes "job ") (Some c.in-Some.line) c.in-Some.ensures.cases in
    let has = has_digits line job rest end fits (behind_mark line job rest (sym marked ∙ e)) told.inside told.before told.here in
    let same : len ≡ length job = decimal_injective len (length job) (omega (arith, c.in-Some-numeral.ensures.small)) (omega (arith, fits)) (sym c.in-Some-numeral.ensures.found ∙ has.digits) in
    let whole : length c.args.bytes.now ≡ 4 + length line = omega (arith, ap length marked) in
    omega (arith, same, whole, has.long, c.if-bytes-from.true)

pub returns-clause-found : goal.returns-clause-found
returns-clause-found c =
    let line : List ℕ = c.in-Some.line.now in
    let end : ℕ = c.in-Some-newline_at.end in
    let len : ℕ = c.in-Some-numeral.len in
    let told = c.in-Some-newline_at.ensures in
    let marked : c.args.bytes.now ≡ codes "job " ++ line = strip_prefix_is Decides-eqb c.args.bytes.now (codes "job ") (Some c.in-Some.line) c.in-Some.ensures.cases in
    let whole : length c.args.bytes.now ≡ 4 + length line = omega (arith, ap length marked) in
    job_begins c.args.bytes.now line end len marked told.inside told.here c.in-Some-numeral.ensures.found c.in-Some-numeral.ensures.small (omega (arith, whole, told.inside, c.if-bytes-from.false))
