use Rattle.std.proofs.Common.{◌≡◌, List, ℕ, [], ◌∷◌, ◌++◌, subst, rules}
use Rattle.std.proofs.lemmas.List.{append-nil}
use Rattle.amr_causes.specs.Bytes.{Grows}
use Rattle.amr_def.specs.Plot.{line}
use Rattle.amr_io.specs.Buffered.{Sent, fragments_text}
use Rattle.amr_io.specs.Short.{FallsShort}
use Rattle.amr_io.proofs.Sending.{all_sent, sent_then}
use Rattle.amr_io.proofs.Shorter.{flush_short, sent_short, short_longer}
use Rattle.amr_run.proofs.line.put_line.Goals as goal

pub returns-in_err-put_fragments-clause-short : goal.returns-in_err-put_fragments-clause-short
returns-in_err-put_fragments-clause-short g c =
    let short = subst (λ (kept : List ℕ). FallsShort g.O.Sink.holds c.args.sink.now c.put_fragments.new.sink (kept ++ fragments_text c.args.fragments.now)) c.make-text.ensures c.in_err-put_fragments.ensures.short in
    let all = short_longer g.O.Sink.holds c.args.sink.now c.put_fragments.new.sink (fragments_text c.args.fragments.now) (10 ∷ []) short in
    search (rules, all)

pub returns-in_err-put_str-clause-short : goal.returns-in_err-put_str-clause-short
returns-in_err-put_str-clause-short g c =
    let stop = sent_short g.O.Sink.holds c.args.sink.now c.put_fragments.new.sink c.put_str.new.sink c.make-text.result c.put_fragments.new.self (fragments_text c.args.fragments.now) (10 ∷ []) c.in_ok-put_fragments.ensures.sent c.in_err-put_str.ensures.short in
    let all = subst (λ (kept : List ℕ). FallsShort g.O.Sink.holds c.args.sink.now c.put_str.new.sink (kept ++ (fragments_text c.args.fragments.now ++ 10 ∷ []))) c.make-text.ensures stop in
    search (rules, all)

pub returns-in_err-flush-clause-short : goal.returns-in_err-flush-clause-short
returns-in_err-flush-clause-short g c =
    let sent = sent_then g.O.Sink.holds c.args.sink.now c.put_fragments.new.sink c.put_str.new.sink c.make-text.result c.put_fragments.new.self c.put_str.new.self (fragments_text c.args.fragments.now) (10 ∷ []) c.in_ok-put_fragments.ensures.sent c.in_ok-put_str.ensures.sent in
    let all = flush_short g.O.Sink.holds c.args.sink.now c.put_str.new.sink c.flush.new.sink c.make-text.result c.put_str.new.self (fragments_text c.args.fragments.now ++ 10 ∷ []) c.make-text.ensures sent c.in_err-flush.ensures.short in
    search (rules, all)

-- all that was put went out, with nothing kept back
module _ {S : Type 0} (holds : S → List ℕ → Type 0) where
  went_out : (s0 s1 s2 s3 : S) (k0 k1 k2 k3 text : List ℕ) → k0 ≡ [] → Sent holds s0 s1 k0 k1 text → Sent holds s1 s2 k1 k2 (10 ∷ []) → Sent holds s2 s3 k2 k3 [] → k3 ≡ [] → Grows holds s0 s3 (line text)
  went_out s0 s1 s2 s3 k0 k1 k2 k3 text none first second third empty =
      let sent = sent_then holds s0 s2 s3 k0 k2 k3 (line text) [] (sent_then holds s0 s1 s2 k0 k1 k2 text (10 ∷ []) first second) third in
      let from_none = subst (λ (kept : List ℕ). Sent holds s0 s3 kept k3 (line text ++ [])) none sent in
      all_sent holds s0 s3 k3 (line text) (subst (λ (t : List ℕ). Sent holds s0 s3 [] k3 t) (append-nil (line text)) from_none) empty

pub returns-clause-whole : goal.returns-clause-whole
returns-clause-whole g c =
    went_out g.O.Sink.holds c.args.sink.now c.put_fragments.new.sink c.put_str.new.sink c.flush.new.sink c.make-text.result c.put_fragments.new.self c.put_str.new.self c.flush.new.self (fragments_text c.args.fragments.now)
    c.make-text.ensures c.in_ok-put_fragments.ensures.sent c.in_ok-put_str.ensures.sent c.in_ok-flush.ensures.sent c.in_ok-flush.ensures.empty
