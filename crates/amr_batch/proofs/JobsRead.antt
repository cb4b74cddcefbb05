-- The jobs of a batch, read one after another.
use Rattle.std.proofs.Common.{◌≡◌, ◌∙◌, ℕ, ◌+◌, ◌-◌, ◌<◌, ◌≤◌, List, [], ◌∷◌, ◌++◌, All, length, map, take, drop, inl, inr, ◌⊎◌, sym, ap, subst, append-nil, flat_map, length-append, length-drop, take-add, arith}
use Rattle.std.proofs.lemmas.Grind.{flat_map-append}
use Rattle.std.proofs.lemmas.List.{drop-drop, length-map, length-take-le, map-append, take-append-drop, take_all}
use Rattle.std.proofs.lemmas.List.Elements.{All-append, All-cons, All-nil}
use Rattle.amr_batch.specs.declared.spans.Span.{Span}
use Rattle.amr_batch.specs.Batch.{BeginsWith, HasNoJob, IsBatch, IsJob, IsMalformedAt, IsSpanOf, bytes_in, job_text}

-- what is left of a slice from a place on
pub whole_rest : (bytes : List ℕ) (at : ℕ) → take (length bytes - at) (drop at bytes) ≡ drop at bytes
whole_rest bytes at = take_all (length bytes - at) (drop at bytes) (omega (arith, length-drop at bytes))

-- the bytes before a place are these jobs
pub record AreRead (bytes : List ℕ) (spans : List Span) (at : ℕ) : Type 0 where
  pub within : at ≤ length bytes
  pub so_far : take at bytes ≡ flat_map job_text (map (bytes_in bytes) spans)
  pub each : All IsJob (map (bytes_in bytes) spans)
  pub inside : All (IsSpanOf bytes) spans
  pub few : length spans ≤ 256

module _ (bytes : List ℕ) (spans : List Span) (at from len : ℕ) (are : AreRead bytes spans at) (room : length spans < 256) (begins : BeginsWith (drop at bytes) from len) where
  pub one_more_read : (all : List Span) → all ≡ spans ++ record { from = at + from; len = len } ∷ [] → AreRead bytes all (at + (from + len))
  one_more_read all is =
      let s : Span = record { from = at + from; len = len } in
      let f : Span → List ℕ = bytes_in bytes in
      let long : length (drop at bytes) + at ≡ length bytes = omega (arith, length-drop at bytes, are.within) in
      let inside : at + from + len ≤ length bytes = omega (arith, begins.inside, long) in
      let body : take len (drop from (drop at bytes)) ≡ f s = ap (take len) (drop-drop from at bytes) in
      let size : length (f s) ≡ len = length-take-le len (drop (at + from) bytes) (omega (arith, length-drop (at + from) bytes, inside)) in
      let mapped : map f (spans ++ s ∷ []) ≡ map f spans ++ f s ∷ [] = map-append f spans (s ∷ []) in
      let read : take (at + (from + len)) bytes ≡ flat_map job_text (map f spans) ++ job_text (f s) =
      take-add at (from + len) bytes ∙ (λ i. are.so_far i ++ begins.job i) ∙ ap (λ (l : List ℕ). flat_map job_text (map f spans) ++ job_text l) body in
      let joined : flat_map job_text (map f spans) ++ job_text (f s) ≡ flat_map job_text (map f spans ++ f s ∷ []) =
      sym (flat_map-append job_text (map f spans) (f s ∷ []) ∙ ap (λ (l : List ℕ). flat_map job_text (map f spans) ++ l) (append-nil (job_text (f s)))) in
      let known : AreRead bytes (spans ++ s ∷ []) (at + (from + len)) = record {
        within = omega (arith, inside);
        so_far = read ∙ joined ∙ ap (flat_map job_text) (sym mapped);
        each = subst (λ (l : List (List ℕ)). All IsJob l) (sym mapped) (All-append IsJob (map f spans) (f s ∷ []) are.each (All-cons IsJob (f s) [] (omega (arith, size, begins.small)) (All-nil IsJob)));
        inside = All-append (IsSpanOf bytes) spans (s ∷ []) are.inside (All-cons (IsSpanOf bytes) s [] inside (All-nil (IsSpanOf bytes)));
        few = omega (arith, room, length-append spans (s ∷ []));
      } in
      subst (λ (l : List Span). AreRead bytes l (at + (from + len))) (sym is) known

pub all_read : (bytes : List ℕ) (spans : List Span) (at : ℕ) → AreRead bytes spans at → length bytes ≤ at → length bytes ≤ 1048576 → IsBatch bytes (map (bytes_in bytes) spans)
all_read bytes spans at are done short = record {
  whole = sym (take_all at bytes done) ∙ are.so_far;
  each = are.each;
  few = omega (arith, are.few, length-map spans (bytes_in bytes));
  short = short;
}

pub breaks_here : (bytes : List ℕ) (spans : List Span) (at : ℕ) → AreRead bytes spans at → at < length bytes → length bytes ≤ 1048576 → HasNoJob (drop at bytes) ⊎ (length spans ≡ 256) → IsMalformedAt bytes at
breaks_here bytes spans at are more short breaks =
    let jobs : List (List ℕ) = map (bytes_in bytes) spans in
    let count : length jobs ≡ length spans = length-map spans (bytes_in bytes) in
    inr (
      short,
      (
        jobs,
        record {
          rest = drop at bytes;
          whole = sym (take-append-drop at bytes) ∙ ap (λ (l : List ℕ). l ++ drop at bytes) are.so_far;
          some = omega (arith, length-drop at bytes, more);
          each = are.each;
          few = omega (arith, are.few, count);
          place_is = sym (length-take-le at bytes (omega (arith, more))) ∙ ap length are.so_far;
          breaks = as_jobs breaks;
        },
      ),
    )
  where
    as_jobs : HasNoJob (drop at bytes) ⊎ (length spans ≡ 256) → HasNoJob (drop at bytes) ⊎ (length (map (bytes_in bytes) spans) ≡ 256)
    as_jobs (inl none) = inl none
    as_jobs (inr full) = inr (length-map spans (bytes_in bytes) ∙ full)
