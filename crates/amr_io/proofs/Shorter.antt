-- Where a fault comes, not all went out.
use Rattle.std.proofs.Common.{◌≡◌, ℕ, ◌+◌, ◌<◌, length, take, drop, get_or, arith, List, [], ◌++◌, sym, ◌∙◌, ap, append_assoc, subst, length-drop, length-append}
use Rattle.std.proofs.lemmas.List.{take-append-drop}
use Rattle.amr_causes.specs.Bytes.{Grows, TakesPrefix}
use Rattle.amr_io.specs.Buffered.{Sent, fragment_text, fragments_text}
use Rattle.amr_io.specs.Short.{IsProperPrefix, FallsShort}
use Rattle.amr_io.specs.declared.fragment.Fragment.{Fragment}
use Rattle.amr_causes.proofs.ByteLaws.{grows_more}
use Rattle.amr_io.proofs.Sending.{fragments_one_more, fragments_split}

pub proper_take : (n : ℕ) (whole : List ℕ) → n < length whole → IsProperPrefix (take n whole) whole
proper_take n whole within = record { rest = drop n whole; some = omega (arith, length-drop n whole); split = take-append-drop n whole }

pub proper_longer : (part whole more : List ℕ) → IsProperPrefix part whole → IsProperPrefix part (whole ++ more)
proper_longer part whole more is = record {
  rest = is.rest ++ more;
  some = omega (arith, is.some, length-append is.rest more);
  split = sym (append_assoc part is.rest more) ∙ ap (λ (l : List ℕ). l ++ more) is.split;
}

pub proper_after : (front part whole : List ℕ) → IsProperPrefix part whole → IsProperPrefix (front ++ part) (front ++ whole)
proper_after front part whole is = record { rest = is.rest; some = is.some; split = append_assoc front part is.rest ∙ ap (λ (l : List ℕ). front ++ l) is.split }

module _ {S : Type 0} (holds : S → List ℕ → Type 0) where
  -- less than the whole is a prefix of it
  pub short_takes : (old new : S) (whole : List ℕ) → FallsShort holds old new whole → TakesPrefix holds old new whole
  short_takes old new whole short = (short.0, record { rest = short.1.rest; split = short.1.split }, short.2)

  -- some went out, and not all
  pub short_first : (old new : S) (n : ℕ) (whole : List ℕ) → n < length whole → Grows holds old new (take n whole) → FallsShort holds old new whole
  short_first old new n whole within grows = (take n whole, proper_take n whole within, grows)

  -- less than a text is less than a longer text
  pub short_longer : (old new : S) (whole more : List ℕ) → FallsShort holds old new whole → FallsShort holds old new (whole ++ more)
  short_longer old new whole more short = (short.0, proper_longer short.0 whole more short.1, short.2)

  -- one text went out, and then less than the next
  pub short_after : (old mid new : S) (front whole : List ℕ) → Grows holds old mid front → FallsShort holds mid new whole → FallsShort holds old new (front ++ whole)
  short_after old mid new front whole first second =
      (front ++ second.0, proper_after front second.0 whole second.1, grows_more holds old mid new front second.0 first second.2)

  -- a fault in the next text
  pub sent_short : (s0 s1 s2 : S) (k0 k1 t1 t2 : List ℕ) → Sent holds s0 s1 k0 k1 t1 → FallsShort holds s1 s2 (k1 ++ t2) → FallsShort holds s0 s2 (k0 ++ (t1 ++ t2))
  sent_short s0 s1 s2 k0 k1 t1 t2 first second =
      let whole : first.0 ++ (k1 ++ t2) ≡ k0 ++ (t1 ++ t2) = sym (append_assoc first.0 k1 t2) ∙ ap (λ (l : List ℕ). l ++ t2) first.2 ∙ append_assoc k0 t1 t2 in
      subst (λ (l : List ℕ). FallsShort holds s0 s2 l) whole (short_after s0 s1 s2 first.0 (k1 ++ t2) first.1 second)

  -- a fault in the flush after a text
  pub flush_short : (s0 s1 s2 : S) (k0 k1 text : List ℕ) → k0 ≡ [] → Sent holds s0 s1 k0 k1 text → FallsShort holds s1 s2 k1 → FallsShort holds s0 s2 text
  flush_short s0 s1 s2 k0 k1 text empty first second =
      let whole : first.0 ++ k1 ≡ text = first.2 ∙ ap (λ (l : List ℕ). l ++ text) empty in
      subst (λ (l : List ℕ). FallsShort holds s0 s2 l) whole (short_after s0 s1 s2 first.0 k1 first.1 second)

  -- a fault in a fragment
  pub fragment_short : (s0 s1 s2 : S) (k0 k1 : List ℕ) (ps : List Fragment) (i : ℕ) (d : Fragment) → i < length ps → Sent holds s0 s1 k0 k1 (fragments_text (take i ps)) → FallsShort holds s1 s2 (k1 ++ fragment_text (get_or ps i d))
      → FallsShort holds s0 s2 (k0 ++ fragments_text ps)
  fragment_short s0 s1 s2 k0 k1 ps i d within first second =
      let stop = sent_short s0 s1 s2 k0 k1 (fragments_text (take i ps)) (fragment_text (get_or ps i d)) first second in
      let rest : List ℕ = fragments_text (drop (i + 1) ps) in
      let whole : (k0 ++ (fragments_text (take i ps) ++ fragment_text (get_or ps i d))) ++ rest ≡ k0 ++ fragments_text ps =
      append_assoc k0 _ rest ∙ ap (λ (l : List ℕ). k0 ++ l) (ap (λ (l : List ℕ). l ++ rest) (sym (fragments_one_more ps i d within)) ∙ sym (fragments_split ps (i + 1))) in
      subst (λ (t : List ℕ). FallsShort holds s0 s2 t) whole (short_longer s0 s2 _ rest stop)
