-- Several values, read one after another.
use Rattle.std.proofs.Common.{◌≡◌, ℕ, suc, ◌+◌, ◌-◌, ◌<◌, List, [], ◌∷◌, ◌++◌, refl, sym, ap, ◌∙◌, arith, append-nil}
use Rattle.amr_payload.specs.Tests.{Left, Reading, bad, read, read_also, read_joined}
use Rattle.amr_decoder.specs.declared.faults.CodecFault.{CodecFault}
use Rattle.amr_decoder.specs.declared.faults.CodecFault.TheVariants.{Bad, NoMemory}
use Rattle.amr_decoder.specs.Faults.{IsFaultOf}
use Rattle.amr_decoder.proofs.Readings.{fault_same}

-- values and then others
abbrev pub also_all : {A : Type 0} → List A → Reading (List A) → Reading (List A)
also_all [] q = q
also_all (x ∷ xs) q = read_also x (also_all xs q)

pub also_more : {A : Type 0} (xs : List A) (x : A) (q : Reading (List A)) → also_all xs (read_also x q) ≡ also_all (xs ++ x ∷ []) q
also_more [] x q = refl
also_more (y ∷ xs) x q = ap (λ q. read_also y q) (also_more xs x q)

pub also_end : {A : Type 0} (xs ys : List A) (l : Left) → also_all xs (read ys l) ≡ read (xs ++ ys) l
also_end [] ys l = refl
also_end (x ∷ xs) ys l = ap (λ q. read_also x q) (also_end xs ys l)

pub also_bad : {A : Type 0} (xs : List A) (place : ℕ) → also_all xs (bad place) ≡ bad place
also_bad [] place = refl
also_bad (x ∷ xs) place = ap (λ q. read_also x q) (also_bad xs place)

pub fault_all : {A : Type 0} (xs : List A) (q : Reading (List A)) (e : CodecFault) → IsFaultOf q e → IsFaultOf (also_all xs q) e
fault_all xs q (Bad place) h = ap (also_all xs) h ∙ also_bad xs place
fault_all xs q NoMemory h = tt

-- values and then others, in either way
pub joined_all : {A : Type 0} (xs : List A) (q : Reading (List A)) → read_joined xs q ≡ also_all xs q
joined_all xs (bad place) = sym (also_bad xs place)
joined_all xs (read ys l) = sym (also_end xs ys l)

pub also_one : {A : Type 0} (x : A) (q : Reading (List A)) → read_joined (x ∷ []) q ≡ read_also x q
also_one x (bad place) = refl
also_one x (read ys l) = refl

-- one value more
pub more : {A : Type 0} (q : Reading (List A)) (xs : List A) (x : A) (now next : Reading (List A)) → q ≡ also_all xs now → now ≡ read_also x next → q ≡ also_all (xs ++ x ∷ []) next
more q xs x now next so_far here = so_far ∙ ap (also_all xs) here ∙ also_more xs x next

-- no value more
pub all_read : {A : Type 0} (q : Reading (List A)) (xs : List A) (now : Reading (List A)) (l : Left) → q ≡ also_all xs now → now ≡ read [] l → q ≡ read xs l
all_read q xs now l so_far end = so_far ∙ ap (also_all xs) end ∙ also_end xs [] l ∙ ap (λ ys. read ys l) (append-nil xs)

-- the next one is bad
pub bad_next : {A : Type 0} (q : Reading (List A)) (xs : List A) (now : Reading (List A)) (e : CodecFault) → q ≡ also_all xs now → IsFaultOf now e → IsFaultOf q e
bad_next q xs now e so_far h = fault_same q (also_all xs now) e so_far (fault_all xs now e h)

pub one_left : (n k : ℕ) → k < n → n - k ≡ suc (n - (k + 1))
one_left n k h = omega arith
