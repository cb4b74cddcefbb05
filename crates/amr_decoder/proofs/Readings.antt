-- Readings of a number at a place of bytes, and readings one after another.
use Rattle.std.proofs.Common.{◌≡◌, ℕ, ◌+◌, ◌-◌, ◌<◌, ◌≤◌, List, length, drop, ap, ◌∙◌, arith, length-drop, drop-drop}
use Rattle.std.specs.Int.{Width, byte_len, from_le_bytes}
use Rattle.std.proofs.lemmas.Bool.{le-leb, lt-leb}
use Rattle.amr_payload.specs.Tests.{Left, Reading, bad, read, then_read, tested, read_also, after, read_number}
use Rattle.amr_decoder.specs.declared.faults.CodecFault.{CodecFault}
use Rattle.amr_decoder.specs.declared.faults.CodecFault.TheVariants.{Bad, NoMemory}
use Rattle.amr_decoder.specs.Faults.{IsFaultOf}

abbrev pub left_at : ℕ → List ℕ → Left
left_at k bytes = record { place = k; bytes = drop k bytes }

pub number_read : (w : Width) (k : ℕ) (bytes : List ℕ) → byte_len w ≤ length bytes - k → read_number w (left_at k bytes) ≡ read (from_le_bytes w (drop k bytes)) (left_at (k + byte_len w) bytes)
unfolding read_number
number_read w k bytes h =
    ap (λ t. tested t k (from_le_bytes w (drop k bytes)) (after (byte_len w) (left_at k bytes))) (le-leb (byte_len w) (length (drop k bytes)) (omega (arith, length-drop k bytes)))
    ∙ ap (λ (bs : List ℕ). read (from_le_bytes w (drop k bytes)) (record { place = k + byte_len w; bytes = bs })) (drop-drop (byte_len w) k bytes ∙ ap (λ n. drop n bytes) (omega arith))

pub number_bad : (w : Width) (k : ℕ) (bytes : List ℕ) → length bytes - k < byte_len w → read_number w (left_at k bytes) ≡ bad k
unfolding read_number
number_bad w k bytes h =
    ap (λ t. tested t k (from_le_bytes w (drop k bytes)) (after (byte_len w) (left_at k bytes))) (lt-leb (byte_len w) (length (drop k bytes)) (omega (arith, length-drop k bytes)))

-- ---- faults

pub fault_same : {A : Type 0} (q r : Reading A) (e : CodecFault) → q ≡ r → IsFaultOf r e → IsFaultOf q e
fault_same q r (Bad place) same h = same ∙ h
fault_same q r NoMemory same h = tt

-- what is read next goes by what is read first: the first is bad, or the next is
pub fault_first : {A B : Type 0} (q : Reading A) (next : A → Left → Reading B) (e : CodecFault) → IsFaultOf q e → IsFaultOf (then_read q next) e
fault_first q next (Bad place) h = ap (λ q. then_read q next) h
fault_first q next NoMemory h = tt

pub fault_next : {A B : Type 0} (q : Reading A) (next : A → Left → Reading B) (a : A) (l : Left) (e : CodecFault) → q ≡ read a l → IsFaultOf (next a l) e → IsFaultOf (then_read q next) e
fault_next q next a l e first second = fault_same (then_read q next) (next a l) e (ap (λ q. then_read q next) first) second

pub fault_also : {A : Type 0} (a : A) (q : Reading (List A)) (e : CodecFault) → IsFaultOf q e → IsFaultOf (read_also a q) e
fault_also a q (Bad place) h = ap (λ q. read_also a q) h
fault_also a q NoMemory h = tt
