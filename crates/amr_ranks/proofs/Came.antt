-- Which letters a rank has taken after a list of events.
use Rattle.std.proofs.Common.{◌≡◌, ◌⊎◌, ℕ, ◌<◌, ◌≤◌, ◌==◌, Bool, true, false, true≢false, List, [], ◌∷◌, ◌++◌, length, get_or, set, refl, sym, ap, ◌∙◌, subst, ⊎_elim, arith, eq-eqb, ne_eqb}
use Rattle.std.specs.Prelude.{◌&&◌, ◌||◌}
use Rattle.std.proofs.lemmas.List.{get_or-set_same, get_or-set_other}
use Rattle.std.proofs.lemmas.List.Folds.{list_any-append}
use Rattle.std.proofs.lemmas.Bool.{eqb-true}
use mathlib.Core.Logic.{dite}
use native.Mathlib.Decide.{ℕ_discrete}
use Rattle.amr_ranks.specs.declared.net.NetEvent.{NetEvent}
use Rattle.amr_ranks.specs.declared.net.NetEvent.TheVariants.{Post, Deliver}
use Rattle.amr_ranks.specs.Letters.{LetterOf, letter_at}
use Rattle.amr_ranks.specs.Nodes.{is_in}
use Rattle.amr_ranks.specs.Nets.{NetOf, IsConsistent, taken_by, is_posted, after}
use Rattle.amr_ranks.specs.Laws.{comes}
use Rattle.amr_ranks.proofs.Events.{post_cases, deliver_cases, taken_cases, keeps_next, taken_there}

or_none : (x : Bool) → x ≡ (x || false)
or_none true = refl
or_none false = refl

-- a test that holds only where another does adds nothing to it
sent_same : (p b : Bool) → (b ≡ true → p ≡ true) → p ≡ (p || b)
sent_same true b f = refl
sent_same false true f = f refl
sent_same false false f = refl

disabled_same : (x p b r : Bool) → (p && b) ≡ false → (x || r) ≡ (x || ((p && b) || r))
disabled_same x p b r e = ap (λ t. x || (t || r)) (sym e)

enabled_same : (x p b r : Bool) → (b ≡ true → p ≡ true) → ((x || b) || r) ≡ (x || ((p && b) || r))
enabled_same true p b r f = refl
enabled_same false true b r f = refl
enabled_same false false true r f = absurd (true≢false (sym (f refl)))
enabled_same false false false r f = refl

-- letter k is taken by its rank
abbrev has_come : NetOf → LetterOf → Bool
has_come c l = is_in l.number (taken_by c l.to)

-- the flag of a letter after a post
posted_now : (c : NetOf) → IsConsistent c → (j k : ℕ) → j < length c.letters → is_posted c j ≡ false → get_or (set c.posted j true) k false ≡ (is_posted c k || (j == k))
posted_now c h j k lt out =
    dite (ℕ_discrete k j)
    (λ e. subst (λ n. get_or (set c.posted j true) n false ≡ (is_posted c n || (j == n))) (sym e)
    (get_or-set_same c.posted j true false (let n = h.posts in omega arith) ∙ sym (ap (λ p. p || (j == j)) out ∙ ap (λ b. false || b) (eq-eqb j j refl))))
    (λ ne. get_or-set_other c.posted j k true false ne ∙ (or_none (is_posted c k) ∙ ap (λ b. is_posted c k || b) (sym (ne_eqb j k (λ s. ne (sym s))))))

-- one letter more at its rank
taken_now : (c : NetOf) → IsConsistent c → (j k : ℕ) → j < length c.letters → k < length c.letters
    → is_in (letter_at c.letters k).number (get_or (set c.taken (letter_at c.letters j).to (taken_by c (letter_at c.letters j).to ++ (letter_at c.letters j).number ∷ [])) (letter_at c.letters k).to [])
    ≡ (has_come c (letter_at c.letters k) || (j == k))
taken_now c h j k j_lt k_lt =
    let a : LetterOf = letter_at c.letters j in
    let b : LetterOf = letter_at c.letters k in
    let more : List ℕ = taken_by c a.to ++ a.number ∷ [] in
    dite (ℕ_discrete b.to a.to)
    (λ e.
    let list : get_or (set c.taken a.to more) b.to [] ≡ taken_by c b.to ++ a.number ∷ [] = ap (λ r. get_or (set c.taken a.to more) r []) e ∙ (taken_there c h j j_lt ∙ ap (λ r. taken_by c r ++ a.number ∷ []) (sym e)) in
    let parts : is_in b.number (taken_by c b.to ++ a.number ∷ []) ≡ (is_in b.number (taken_by c b.to) || ((a.number == b.number) || false)) = list_any-append (λ m. m == b.number) (taken_by c b.to) (a.number ∷ []) in
    let tests : ((a.number == b.number) || false) ≡ (j == k) = sym (or_none (a.number == b.number)) ∙ (
    dite (ℕ_discrete j k)
    (λ s. eq-eqb a.number b.number (ap (λ n. (letter_at c.letters n).number) s) ∙ sym (eq-eqb j k s))
    (λ ne. ne_eqb a.number b.number (λ s. ne (h.net.numbers_differ j k j_lt k_lt (sym e) s)) ∙ sym (ne_eqb j k ne))
    ) in
    ap (is_in b.number) list ∙ (parts ∙ ap (λ t. is_in b.number (taken_by c b.to) || t) tests))
    (λ ne.
    ap (is_in b.number) (get_or-set_other c.taken a.to b.to more [] ne)
    ∙ (or_none (has_come c b) ∙ ap (λ t. has_come c b || t) (sym (ne_eqb j k (λ s. ne (ap (λ n. (letter_at c.letters n).to) (sym s)))))))

and_none : (x : Bool) → (x && false) ≡ false
and_none true = refl
and_none false = refl

-- a delivery that isn't enabled is none of the letter
off : (c : NetOf) (i n : ℕ) → n < length c.letters → (length c.letters ≤ i) ⊎ (is_posted c i ≡ false) → (is_posted c n && (i == n)) ≡ false
off c i n n_lt why =
    dite (ℕ_discrete i n)
    (λ s. ⊎_elim (λ past. absurd (omega arith)) (λ out. ap (λ p. p && (i == n)) (subst (λ m. is_posted c m ≡ false) s out)) why)
    (λ ne. ap (λ t. is_posted c n && t) (ne_eqb i n ne) ∙ and_none (is_posted c n))

-- a letter is taken by its rank where it was, or where it comes
pub came : (c : NetOf) → IsConsistent c → (es : List NetEvent) → (k : ℕ) → k < length c.letters
    → has_come (after c es) (letter_at c.letters k) ≡ (has_come c (letter_at c.letters k) || comes (is_posted c k) k es)
came c h [] k lt = or_none (has_come c (letter_at c.letters k))
came c h (Post j ∷ es) k lt =
    let b : LetterOf = letter_at c.letters k in
    let P : NetOf → Type 0 = λ (d : NetOf). IsConsistent d → has_come (after d es) b ≡ (has_come c b || comes (is_posted c k || (j == k)) k es) in
    post_cases P c j
    (λ why _. came c h es k lt ∙ ap (λ p. has_come c b || comes p k es) (sent_same (is_posted c k) (j == k) (λ e.
    let s : j ≡ k = eqb-true j k e in
    ⊎_elim (λ past. absurd (omega arith)) (λ sent. subst (λ n. is_posted c n ≡ true) s sent) why)))
    (λ j_lt out g. came (record c { posted = set c.posted j true }) g es k lt ∙ ap (λ p. has_come c b || comes p k es) (posted_now c h j k j_lt out))
    (keeps_next c h (Post j))
came c h (Deliver j ∷ es) k lt =
    let b : LetterOf = letter_at c.letters k in
    let a : LetterOf = letter_at c.letters j in
    let P : NetOf → Type 0 = λ (d : NetOf). IsConsistent d → has_come (after d es) b ≡ (has_come c b || ((is_posted c k && (j == k)) || comes (is_posted c k) k es)) in
    deliver_cases P c j
    (λ why _. came c h es k lt ∙ disabled_same (has_come c b) (is_posted c k) (j == k) (comes (is_posted c k) k es) (off c j k lt why))
    (λ j_lt sent.
    let on : (j == k) ≡ true → is_posted c k ≡ true = λ e. subst (λ n. is_posted c n ≡ true) (eqb-true j k e) sent in
    taken_cases P c a
    (λ again _. came c h es k lt ∙ (ap (λ x. x || comes (is_posted c k) k es) (sent_same (has_come c b) (j == k) (λ e. subst (λ n. has_come c (letter_at c.letters n) ≡ true) (eqb-true j k e) again))
    ∙ enabled_same (has_come c b) (is_posted c k) (j == k) (comes (is_posted c k) k es) on))
    (λ new g. came (record c { taken = set c.taken a.to (taken_by c a.to ++ a.number ∷ []) }) g es k lt ∙ (ap (λ x. x || comes (is_posted c k) k es) (taken_now c h j k j_lt lt)
    ∙ enabled_same (has_come c b) (is_posted c k) (j == k) (comes (is_posted c k) k es) on)))
    (keeps_next c h (Deliver j))
