-- Batches: jobs one after another, each a line with its length and then so many bytes. (profile)
use Rattle.std.specs.Prelude.{◌≡◌, ◌⊎◌, ℕ, ◌+◌, ◌<◌, ◌≤◌, List, ◌∷◌, ◌++◌, length, take, drop, codes, decimal}
use Rattle.std.specs.List.{All, flat_map}
use Rattle.amr_batch.specs.declared.spans.Span.{Span}

-- a job in a batch: its length in decimal digits, without leading zeros, and its bytes
abbrev pub job_text : List ℕ → List ℕ
job_text job = codes "job " ++ (decimal (length job) ++ (10 ∷ job))

-- so long a job may be
abbrev pub IsJob : List ℕ → Type 0
IsJob job = length job ≤ 65536

-- the bytes are a batch of these jobs
pub record IsBatch (bytes : List ℕ) (jobs : List (List ℕ)) : Type 0 where
  pub whole : bytes ≡ flat_map job_text jobs
  pub each : All IsJob jobs
  pub few : length jobs ≤ 256
  pub short : length bytes ≤ 1048576

-- no job is the front of these bytes
abbrev pub HasNoJob : List ℕ → Type 0
HasNoJob bytes = (job rest : List ℕ) → IsJob job → bytes ≡ job_text job ++ rest → ⊥

-- after these jobs something else begins, or a job more than a batch has
pub record BreaksAfter (bytes : List ℕ) (jobs : List (List ℕ)) (place : ℕ) : Type 0 where
  pub rest : List ℕ
  pub whole : bytes ≡ flat_map job_text jobs ++ rest
  pub some : 0 < length rest
  pub each : All IsJob jobs
  pub few : length jobs ≤ 256
  pub place_is : place ≡ length (flat_map job_text jobs)
  pub breaks : HasNoJob rest ⊎ (length jobs ≡ 256)

-- the bytes are no batch, and this is the place to be told: their greatest length where they are longer, and else where the first
-- job begins that is not whole and of the form, or is one too many
abbrev pub IsMalformedAt : List ℕ → ℕ → Type 0
IsMalformedAt bytes place =
    ((1048576 < length bytes) × (place ≡ 1048576)) ⊎ ((length bytes ≤ 1048576) × ((jobs : List (List ℕ)) × BreaksAfter bytes jobs place))

-- the bytes of a span, and that it lies in the batch
abbrev pub bytes_in : List ℕ → Span → List ℕ
bytes_in bytes s = take s.len (drop s.from bytes)

abbrev pub IsSpanOf : List ℕ → Span → Type 0
IsSpanOf bytes s = s.from + s.len ≤ length bytes

-- the bytes begin with a job whose own bytes are so many from this offset on
pub record BeginsWith (bytes : List ℕ) (from len : ℕ) : Type 0 where
  pub small : len ≤ 65536
  pub some : 0 < from
  pub inside : from + len ≤ length bytes
  pub job : take (from + len) bytes ≡ job_text (take len (drop from bytes))
