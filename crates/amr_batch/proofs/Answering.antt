-- Replies that are put one after another.
use Rattle.std.proofs.Common.{◌≡◌, ◌∙◌, ℕ, ◌+◌, ◌<◌, ◌≤◌, List, [], ◌∷◌, ◌++◌, length, map, drop, get_or, refl, sym, ap, subst, append_assoc}
use Rattle.std.specs.Prelude.{codes, decimal, Result, Ok, Err, OnErr}
use Rattle.std.proofs.lemmas.List.{append-nil, drop_all, drop_more}
use Rattle.amr_causes.specs.Bytes.{Grows}
use Rattle.amr_causes.proofs.ByteLaws.{grows_more, grows_none}
use Rattle.amr_def.specs.Plot.{line, numbered, spaced}
use Rattle.amr_io.specs.Short.{FallsShort}
use Rattle.amr_io.proofs.Shorter.{short_after, short_longer}
use Rattle.amr_batch.specs.declared.answer.Reply.{Reply}
use Rattle.amr_batch.specs.Answer.{answer_text, job_reply, reply_text}

-- a word goes before what is left, and the end of the line after it
word_then : (word rest end : List ℕ) → (32 ∷ (word ++ rest)) ++ end ≡ 32 ∷ (word ++ (rest ++ end))
word_then word rest end = ap (λ (l : List ℕ). 32 ∷ l) (append_assoc word rest end)

after_word : (word : List ℕ) {l m : List ℕ} → l ≡ m → 32 ∷ (word ++ l) ≡ 32 ∷ (word ++ m)
after_word word e = ap (λ (l : List ℕ). 32 ∷ (word ++ l)) e

three_words : (a b c end : List ℕ) → (32 ∷ (a ++ (32 ∷ (b ++ (32 ∷ (c ++ [])))))) ++ end ≡ 32 ∷ (a ++ (32 ∷ (b ++ (32 ∷ (c ++ end)))))
three_words a b c end = word_then a _ end ∙ after_word a (word_then b _ end ∙ after_word b (word_then c [] end))

-- the line of a reply, as the fragments that are put
pub reply_fragments : (i code size : ℕ) → codes "reply " ++ (decimal i ++ (codes " " ++ (decimal code ++ (codes " " ++ (decimal size ++ (codes "\n" ++ [])))))) ≡ line (spaced (codes "reply" ∷ decimal i ∷ decimal code ∷ decimal size ∷ []))
reply_fragments i code size = ap (λ (l : List ℕ). codes "reply" ++ l) (sym (three_words (decimal i) (decimal code) (decimal size) (10 ∷ [])))

-- a reply, as the fragments of its line and then its bytes
pub reply_is : (i code size : ℕ) (r : Reply) (text : List ℕ) → code ≡ r.code → size ≡ length r.text.items → text ≡ r.text.items
    → (codes "reply " ++ (decimal i ++ (codes " " ++ (decimal code ++ (codes " " ++ (decimal size ++ (codes "\n" ++ []))))))) ++ text ≡ reply_text i (job_reply r)
reply_is i code size r text code_is size_is text_is =
    ap (λ (l : List ℕ). l ++ text) (reply_fragments i code size)
    ∙ (λ t. line (spaced (codes "reply" ∷ decimal i ∷ decimal (code_is t) ∷ decimal (size_is t) ∷ [])) ++ text_is t)

-- what holds anyway holds where a call fails
pub where_it_fails : {T E P : Type 0} (r : Result T E) → P → OnErr r P
where_it_fails (Ok v) p = tt
where_it_fails (Err e) p = p

abbrev replies_from : ℕ → List Reply → List ℕ
replies_from k rs = numbered reply_text k (map job_reply (drop k rs))

-- the next reply, and those after it
next_reply : (rs : List Reply) (k : ℕ) (d : Reply) → k < length rs → replies_from k rs ≡ reply_text k (job_reply (get_or rs k d)) ++ replies_from (k + 1) rs
next_reply rs k d below =
    ap (λ (l : List Reply). numbered reply_text k (map job_reply l)) (drop_more rs k d below)

no_reply : (rs : List Reply) (k : ℕ) → length rs ≤ k → replies_from k rs ≡ []
no_reply rs k past = ap (λ (l : List Reply). numbered reply_text k (map job_reply l)) (drop_all k rs past)

-- the replies before number k went out
pub record HasPut {S : Type 0} (holds : S → List ℕ → Type 0) (old new : S) (rs : List Reply) (k : ℕ) : Type 0 where
  pub sent : List ℕ
  pub grows : Grows holds old new sent
  pub whole : sent ++ replies_from k rs ≡ numbered reply_text 0 (map job_reply rs)

module _ {S : Type 0} (holds : S → List ℕ → Type 0) where
  pub put_none : (old : S) (rs : List Reply) → HasPut holds old old rs 0
  put_none old rs = record { sent = []; grows = grows_none holds old; whole = refl }

  pub put_more : (old mid new : S) (rs : List Reply) (k : ℕ) (d : Reply) → k < length rs → HasPut holds old mid rs k → Grows holds mid new (reply_text k (job_reply (get_or rs k d))) → HasPut holds old new rs (k + 1)
  put_more old mid new rs k d below has grows =
      let reply = reply_text k (job_reply (get_or rs k d)) in
      record {
        sent = has.sent ++ reply;
        grows = grows_more holds old mid new has.sent reply has.grows grows;
        whole = append_assoc has.sent reply (replies_from (k + 1) rs) ∙ ap (λ (l : List ℕ). has.sent ++ l) (sym (next_reply rs k d below)) ∙ has.whole;
      }

  -- less than the next reply went out
  pub put_short : (old mid new : S) (rs : List Reply) (k : ℕ) (d : Reply) → k < length rs → HasPut holds old mid rs k → FallsShort holds mid new (reply_text k (job_reply (get_or rs k d))) → FallsShort holds old new (answer_text (map job_reply rs))
  put_short old mid new rs k d below has short =
      let reply = reply_text k (job_reply (get_or rs k d)) in
      let later = replies_from (k + 1) rs in
      let whole : has.sent ++ (reply ++ later) ≡ numbered reply_text 0 (map job_reply rs) = ap (λ (l : List ℕ). has.sent ++ l) (sym (next_reply rs k d below)) ∙ has.whole in
      subst (λ (l : List ℕ). FallsShort holds old new (l ++ line (codes "end"))) whole
      (short_longer holds old new (has.sent ++ (reply ++ later)) (line (codes "end")) (short_after holds old mid new has.sent (reply ++ later) has.grows (short_longer holds mid new reply later short)))

  all_sent : (old new : S) (rs : List Reply) (k : ℕ) → length rs ≤ k → (has : HasPut holds old new rs k) → has.sent ≡ numbered reply_text 0 (map job_reply rs)
  all_sent old new rs k past has = sym (append-nil has.sent) ∙ ap (λ (l : List ℕ). has.sent ++ l) (sym (no_reply rs k past)) ∙ has.whole

  -- all replies, and the end
  pub put_end : (old mid new : S) (rs : List Reply) (k : ℕ) → length rs ≤ k → HasPut holds old mid rs k → Grows holds mid new (line (codes "end")) → Grows holds old new (answer_text (map job_reply rs))
  put_end old mid new rs k past has grows =
      subst (λ (l : List ℕ). Grows holds old new (l ++ line (codes "end"))) (all_sent old mid rs k past has) (grows_more holds old mid new has.sent (line (codes "end")) has.grows grows)

  pub end_short : (old mid new : S) (rs : List Reply) (k : ℕ) → length rs ≤ k → HasPut holds old mid rs k → FallsShort holds mid new (line (codes "end")) → FallsShort holds old new (answer_text (map job_reply rs))
  end_short old mid new rs k past has short =
      subst (λ (l : List ℕ). FallsShort holds old new (l ++ line (codes "end"))) (all_sent old mid rs k past has) (short_after holds old mid new has.sent (line (codes "end")) has.grows short)
