-- The line of a refusal, as the fragments that are written.
use Rattle.std.proofs.Common.{◌≡◌, ℕ, ℤ, pos, negsuc, List, [], ◌++◌, Result, OnOk, OnErr, refl, sym, ◌∙◌, ap, subst}
use Rattle.std.specs.Prelude.{codes, decimal, unsigned_abs}
use Rattle.std.specs.Fmt.{signed_decimal}
use Rattle.amr_causes.specs.Bytes.{Grows}
use Rattle.amr_io.specs.Short.{FallsShort}
use Rattle.amr_def.specs.Plot.{line}
use Rattle.amr_box.specs.declared.Axis.{Axis}
use Rattle.amr_problem.specs.declared.fault.ProblemFault.{ProblemFault}
use Rattle.amr_problem.specs.declared.fault.ProblemFault.TheVariants as problem
use Rattle.amr_problem.specs.declared.key.Key.{Key}
use Rattle.amr_problem.specs.Keys.{text_of}
use Rattle.amr_run.specs.Texts.{axis_text, fault_text, refusal, sign_text}

-- another text for the same bytes
module _ {S : Type 0} (holds : S → List ℕ → Type 0) (old new : S) where
  pub whole_as : {F : Type 0} (r : Result Unit F) (text same : List ℕ) → text ≡ same → OnOk r (Grows holds old new text) → OnOk r (Grows holds old new same)
  whole_as r text same is whole = subst (λ (t : List ℕ). OnOk r (Grows holds old new t)) is whole

  pub short_as : {F : Type 0} (r : Result Unit F) (text same : List ℕ) → text ≡ same → OnErr r (FallsShort holds old new text) → OnErr r (FallsShort holds old new same)
  short_as r text same is short = subst (λ (t : List ℕ). OnErr r (FallsShort holds old new t)) is short

signed_text : (z : ℤ) (rest : List ℕ) → sign_text z ++ (decimal (unsigned_abs z) ++ rest) ≡ signed_decimal z ++ rest
signed_text (pos n) rest = refl
signed_text (negsuc n) rest = refl

-- a number's sign and its digits, before what is left
pub sign_and_digits : (sign : List ℕ) (size : ℕ) (z : ℤ) (rest : List ℕ) → sign ≡ sign_text z → size ≡ unsigned_abs z → sign ++ (decimal size ++ rest) ≡ signed_decimal z ++ rest
sign_and_digits sign size z rest sign_is size_is =
    ap (λ (s : List ℕ). s ++ (decimal size ++ rest)) sign_is ∙ (ap (λ (n : ℕ). sign_text z ++ (decimal n ++ rest)) size_is ∙ signed_text z rest)

-- ---- the lines of faults

pub out_of_range_line : (key : Key) (z : ℤ) (name sign : List ℕ) (size : ℕ) → name ≡ text_of key → sign ≡ sign_text z → size ≡ unsigned_abs z
    → line (codes "amr: problem: out of range " ++ (name ++ (codes " " ++ (sign ++ (decimal size ++ []))))) ≡ refusal (fault_text (problem.OutOfRange key z))
out_of_range_line key z name sign size name_is sign_is size_is =
    ap (λ (n : List ℕ). line (codes "amr: problem: out of range " ++ (n ++ (codes " " ++ (sign ++ (decimal size ++ [])))))) name_is
    ∙ ap (λ (t : List ℕ). line (codes "amr: problem: out of range " ++ (text_of key ++ (codes " " ++ t)))) (sign_and_digits sign size z [] sign_is size_is)

pub courant_line : (z y : ℤ) (sign other_sign : List ℕ) (size other_size : ℕ) → sign ≡ sign_text z → size ≡ unsigned_abs z → other_sign ≡ sign_text y → other_size ≡ unsigned_abs y
    → line (codes "amr: problem: courant " ++ (sign ++ (decimal size ++ (codes " over " ++ (other_sign ++ (decimal other_size ++ [])))))) ≡ refusal (fault_text (problem.Courant z y))
courant_line z y sign other_sign size other_size sign_is size_is other_sign_is other_size_is =
    ap (λ (t : List ℕ). line (codes "amr: problem: courant " ++ t)) (sign_and_digits sign size z _ sign_is size_is)
    ∙ ap (λ (t : List ℕ). line (codes "amr: problem: courant " ++ (signed_decimal z ++ (codes " over " ++ t)))) (sign_and_digits other_sign other_size y [] other_sign_is other_size_is)

pub tag_count_line : (z y : ℤ) (sign other_sign : List ℕ) (size other_size : ℕ) → sign ≡ sign_text z → size ≡ unsigned_abs z → other_sign ≡ sign_text y → other_size ≡ unsigned_abs y
    → line (codes "amr: problem: " ++ (sign ++ (decimal size ++ (codes " tags for " ++ (other_sign ++ (decimal other_size ++ (codes " levels" ++ []))))))) ≡ refusal (fault_text (problem.TagCount z y))
tag_count_line z y sign other_sign size other_size sign_is size_is other_sign_is other_size_is =
    ap (λ (t : List ℕ). line (codes "amr: problem: " ++ t)) (sign_and_digits sign size z _ sign_is size_is)
    ∙ ap (λ (t : List ℕ). line (codes "amr: problem: " ++ (signed_decimal z ++ (codes " tags for " ++ t)))) (sign_and_digits other_sign other_size y (codes " levels" ++ []) other_sign_is other_size_is)

pub blocking_line : (axis : Axis) (z : ℤ) (sign name : List ℕ) (size : ℕ) → sign ≡ sign_text z → size ≡ unsigned_abs z → name ≡ axis_text axis
    → line (codes "amr: problem: blocking " ++ (sign ++ (decimal size ++ (codes " does not fit " ++ (name ++ []))))) ≡ refusal (fault_text (problem.Blocking axis z))
blocking_line axis z sign name size sign_is size_is name_is =
    ap (λ (t : List ℕ). line (codes "amr: problem: blocking " ++ t)) (sign_and_digits sign size z _ sign_is size_is)
    ∙ ap (λ (n : List ℕ). line (codes "amr: problem: blocking " ++ (signed_decimal z ++ (codes " does not fit " ++ (n ++ []))))) name_is

pub species_line : (index number : ℕ) (z : ℤ) (sign : List ℕ) (size : ℕ) → number ≡ index → sign ≡ sign_text z → size ≡ unsigned_abs z
    → line (codes "amr: problem: block " ++ (decimal number ++ (codes " of species " ++ (sign ++ (decimal size ++ []))))) ≡ refusal (fault_text (problem.SpeciesOutside index z))
species_line index number z sign size number_is sign_is size_is =
    ap (λ (n : ℕ). line (codes "amr: problem: block " ++ (decimal n ++ (codes " of species " ++ (sign ++ (decimal size ++ [])))))) number_is
    ∙ ap (λ (t : List ℕ). line (codes "amr: problem: block " ++ (decimal index ++ (codes " of species " ++ t)))) (sign_and_digits sign size z [] sign_is size_is)

-- the line of a fault that is this one
pub refusal_of : (fault same : ProblemFault) → fault ≡ same → refusal (fault_text same) ≡ refusal (fault_text fault)
refusal_of fault same is = ap (λ (f : ProblemFault). refusal (fault_text f)) (sym is)
