-- Texts in turn through one buffer.
use Rattle.std.proofs.Common.{◌≡◌, ℕ, zero, suc, ◌+◌, ◌<◌, length, take, drop, get_or, refl, arith, add-one, List, [], ◌∷◌, ◌++◌, sym, ◌∙◌, ap, append_assoc, subst}
use Rattle.std.proofs.lemmas.List.{append-nil}
use Rattle.amr_causes.specs.Bytes.{Grows, TakesPrefix}
use Rattle.amr_io.specs.Buffered.{Sent, fragment_text, fragments_text}
use Rattle.amr_io.specs.declared.fragment.Fragment.{Fragment}
use Rattle.amr_causes.proofs.ByteLaws.{grows_more, grows_to, takes_longer}

module _ {S : Type 0} (holds : S → List ℕ → Type 0) where
  -- one text after another
  pub sent_then : (s0 s1 s2 : S) (k0 k1 k2 t1 t2 : List ℕ) → Sent holds s0 s1 k0 k1 t1 → Sent holds s1 s2 k1 k2 t2 → Sent holds s0 s2 k0 k2 (t1 ++ t2)
  sent_then s0 s1 s2 k0 k1 k2 t1 t2 first second = (
    first.0 ++ second.0,
    grows_more holds s0 s1 s2 first.0 second.0 first.1 second.1,
    append_assoc first.0 second.0 k2 ∙ ap (λ (l : List ℕ). first.0 ++ l) second.2 ∙ sym (append_assoc first.0 k1 t2) ∙ ap (λ (l : List ℕ). l ++ t2) first.2 ∙ append_assoc k0 t1 t2,
  )

  -- a fault in the next text
  pub sent_stops : (s0 s1 s2 : S) (k0 k1 t1 t2 : List ℕ) → Sent holds s0 s1 k0 k1 t1 → TakesPrefix holds s1 s2 (k1 ++ t2) → TakesPrefix holds s0 s2 (k0 ++ (t1 ++ t2))
  sent_stops s0 s1 s2 k0 k1 t1 t2 first second = (
    first.0 ++ second.0,
    record {
      rest = second.1.rest;
      split = append_assoc first.0 second.0 second.1.rest ∙ ap (λ (l : List ℕ). first.0 ++ l) second.1.split ∙ sym (append_assoc first.0 k1 t2) ∙ ap (λ (l : List ℕ). l ++ t2) first.2 ∙ append_assoc k0 t1 t2;
    },
    grows_more holds s0 s1 s2 first.0 second.0 first.1 second.2,
  )

  -- a flush sent what was kept back
  pub all_out : (old new : S) (kept keeps out : List ℕ) → Grows holds old new out → out ++ keeps ≡ kept ++ [] → keeps ≡ [] → Grows holds old new kept
  all_out old new kept keeps out grows sent empty =
      grows_to holds old new out kept (sym (append-nil out) ∙ ap (λ (l : List ℕ). out ++ l) (sym empty) ∙ sent ∙ append-nil kept) grows

  -- all went out
  pub all_sent : (s0 s1 : S) (k1 text : List ℕ) → Sent holds s0 s1 [] k1 text → k1 ≡ [] → Grows holds s0 s1 text
  all_sent s0 s1 k1 text sent empty = grows_to holds s0 s1 sent.0 text (sym (append-nil sent.0) ∙ ap (λ (l : List ℕ). sent.0 ++ l) (sym empty) ∙ sent.2) sent.1

  -- a fault in the flush
  pub flush_stops : (s0 s1 s2 : S) (k0 k1 text : List ℕ) → k0 ≡ [] → Sent holds s0 s1 k0 k1 text → TakesPrefix holds s1 s2 k1 → TakesPrefix holds s0 s2 text
  flush_stops s0 s1 s2 k0 k1 text empty first second = (
    first.0 ++ second.0,
    record { rest = second.1.rest; split = append_assoc first.0 second.0 second.1.rest ∙ ap (λ (l : List ℕ). first.0 ++ l) second.1.split ∙ first.2 ∙ ap (λ (l : List ℕ). l ++ text) empty },
    grows_more holds s0 s1 s2 first.0 second.0 first.1 second.2,
  )

pub fragments_one_more : (ps : List Fragment) (i : ℕ) (d : Fragment) → i < length ps → fragments_text (take (i + 1) ps) ≡ fragments_text (take i ps) ++ fragment_text (get_or ps i d)
fragments_one_more [] i d within = absurd (omega arith)
fragments_one_more (p ∷ ps) zero d within = append-nil (fragment_text p)
fragments_one_more (p ∷ ps) (suc i) d within = rw add-one (ap (λ (l : List ℕ). fragment_text p ++ l) (rw add-one at (fragments_one_more ps i d (omega arith))) ∙ sym (append_assoc (fragment_text p) (fragments_text (take i ps)) (fragment_text (get_or ps i d))))

pub fragments_split : (ps : List Fragment) (i : ℕ) → fragments_text ps ≡ fragments_text (take i ps) ++ fragments_text (drop i ps)
fragments_split ps zero = refl
fragments_split [] (suc i) = refl
fragments_split (p ∷ ps) (suc i) = ap (λ (l : List ℕ). fragment_text p ++ l) (fragments_split ps i) ∙ sym (append_assoc (fragment_text p) (fragments_text (take i ps)) (fragments_text (drop i ps)))

module _ {S : Type 0} (holds : S → List ℕ → Type 0) where
  -- one fragment more
  pub fragment_sent : (s0 s1 s2 : S) (k0 k1 k2 : List ℕ) (ps : List Fragment) (i : ℕ) (d : Fragment) → i < length ps → Sent holds s0 s1 k0 k1 (fragments_text (take i ps)) → Sent holds s1 s2 k1 k2 (fragment_text (get_or ps i d))
      → Sent holds s0 s2 k0 k2 (fragments_text (take (i + 1) ps))
  fragment_sent s0 s1 s2 k0 k1 k2 ps i d within first second =
      subst (λ (t : List ℕ). Sent holds s0 s2 k0 k2 t) (sym (fragments_one_more ps i d within)) (sent_then holds s0 s1 s2 k0 k1 k2 _ _ first second)

  -- a fault in a fragment
  pub fragment_stops : (s0 s1 s2 : S) (k0 k1 : List ℕ) (ps : List Fragment) (i : ℕ) (d : Fragment) → i < length ps → Sent holds s0 s1 k0 k1 (fragments_text (take i ps)) → TakesPrefix holds s1 s2 (k1 ++ fragment_text (get_or ps i d))
      → TakesPrefix holds s0 s2 (k0 ++ fragments_text ps)
  fragment_stops s0 s1 s2 k0 k1 ps i d within first second =
      let stop = sent_stops holds s0 s1 s2 k0 k1 (fragments_text (take i ps)) (fragment_text (get_or ps i d)) first second in
      let rest : List ℕ = fragments_text (drop (i + 1) ps) in
      let whole : (k0 ++ (fragments_text (take i ps) ++ fragment_text (get_or ps i d))) ++ rest ≡ k0 ++ fragments_text ps =
      append_assoc k0 _ rest ∙ ap (λ (l : List ℕ). k0 ++ l) (ap (λ (l : List ℕ). l ++ rest) (sym (fragments_one_more ps i d within)) ∙ sym (fragments_split ps (i + 1))) in
      subst (λ (t : List ℕ). TakesPrefix holds s0 s2 t) whole (takes_longer holds s0 s2 _ rest stop)
