-- What an event makes of a state, by cases.
use Rattle.std.proofs.Common.{◌≡◌, ◌⊎◌, ℕ, ◌+◌, ◌<◌, ◌≤◌, ◌==◌, cond, Bool, true, false, List, [], ◌∷◌, ◌++◌, length, get_or, set, replicate, Some, None, refl, sym, ◌∙◌, subst, ⊎_elim, inl, inr, arith, eq-eqb}
use Rattle.std.specs.Prelude.{nat_lt, unwrap_or}
use Rattle.std.proofs.Math.ListN.{length-set, length-replicate}
use Rattle.std.proofs.lemmas.List.{get_or-set_same, get_or-set_other, get_or-replicate, get_or_past}
use Rattle.std.proofs.lemmas.List.Elements.{All-get_or}
use Rattle.std.proofs.lemmas.Bool.{ltb-true, ltb-false, eqb-true, cases_lt}
use mathlib.Core.Logic.{dite}
use native.Mathlib.Decide.{ℕ_discrete}
use Rattle.amr_ranks.specs.declared.net.NetEvent.{NetEvent}
use Rattle.amr_ranks.specs.declared.net.NetEvent.TheVariants.{Post, Deliver}
use Rattle.amr_ranks.specs.Items.{times}
use Rattle.amr_ranks.specs.Letters.{LetterOf, IsNet, no_letter, letter_at, numbers_to}
use Rattle.amr_ranks.specs.Nodes.{is_in}
use Rattle.amr_ranks.specs.Nets.{NetOf, IsConsistent, fresh, taken_by, is_posted, with_taken, after_post, after_deliver, next_of, after}
use Rattle.amr_ranks.proofs.Sums.{one_if, total-append, absent}
use Rattle.amr_ranks.proofs.Chosen.{number_there}

module _ (P : NetOf → Type 0) (c : NetOf) where
  pub post_cases : (k : ℕ) → ((length c.letters ≤ k) ⊎ (is_posted c k ≡ true) → P c) → (k < length c.letters → is_posted c k ≡ false → P (record c { posted = set c.posted k true }))
      → P (unwrap_or (after_post c k) c)
  post_cases k same sent = by_tests (nat_lt k (length c.letters)) refl (is_posted c k) refl
    where
      by_tests : (a : Bool) → nat_lt k (length c.letters) ≡ a → (b : Bool) → is_posted c k ≡ b → P (unwrap_or (cond a (cond b None (Some (record c { posted = set c.posted k true }))) None) c)
      by_tests true e true f = same (inr f)
      by_tests true e false f = sent (ltb-true k (length c.letters) e) f
      by_tests false e b f = same (inl (ltb-false k (length c.letters) e))

  pub deliver_cases : (k : ℕ) → ((length c.letters ≤ k) ⊎ (is_posted c k ≡ false) → P c) → (k < length c.letters → is_posted c k ≡ true → P (with_taken c (letter_at c.letters k)))
      → P (unwrap_or (after_deliver c k) c)
  deliver_cases k same came = by_tests (nat_lt k (length c.letters)) refl (is_posted c k) refl
    where
      by_tests : (a : Bool) → nat_lt k (length c.letters) ≡ a → (b : Bool) → is_posted c k ≡ b → P (unwrap_or (cond a (cond b (Some (with_taken c (letter_at c.letters k))) None) None) c)
      by_tests true e true f = came (ltb-true k (length c.letters) e) f
      by_tests true e false f = same (inr f)
      by_tests false e b f = same (inl (ltb-false k (length c.letters) e))

  abbrev taking_now : LetterOf → NetOf
  taking_now l = record c { taken = set c.taken l.to (taken_by c l.to ++ l.number ∷ []) }

  pub taken_cases : (l : LetterOf) → (is_in l.number (taken_by c l.to) ≡ true → P c) → (is_in l.number (taken_by c l.to) ≡ false → P (taking_now l)) → P (with_taken c l)
  taken_cases l again new = by_test (is_in l.number (taken_by c l.to)) refl
    where
      by_test : (b : Bool) → is_in l.number (taken_by c l.to) ≡ b → P (cond b c (record c { taken = set c.taken l.to (taken_by c l.to ++ l.number ∷ []) }))
      by_test true e = again e
      by_test false e = new e

pub to_fits : (c : NetOf) → IsConsistent c → (k : ℕ) → k < length c.letters → (letter_at c.letters k).to < length c.taken
to_fits c h k lt = All-get_or (λ (l : LetterOf). l.to < length c.taken) c.letters k no_letter lt h.net.ranks_fit

-- what a rank has taken after a new letter
pub taken_there : (c : NetOf) → IsConsistent c → (k : ℕ) → k < length c.letters
    → get_or (set c.taken (letter_at c.letters k).to (taken_by c (letter_at c.letters k).to ++ (letter_at c.letters k).number ∷ [])) (letter_at c.letters k).to [] ≡ taken_by c (letter_at c.letters k).to ++ (letter_at c.letters k).number ∷ []
taken_there c h k lt = get_or-set_same c.taken (letter_at c.letters k).to (taken_by c (letter_at c.letters k).to ++ (letter_at c.letters k).number ∷ []) [] (to_fits c h k lt)

keeps_post : (c : NetOf) → IsConsistent c → (k : ℕ) → IsConsistent (record c { posted = set c.posted k true })
keeps_post c h k = record { net = h.net; posts = length-set c.posted k true ∙ h.posts; once = h.once }

-- one more number at most
pub one_more : (b : Bool) (old new all : ℕ) → new ≡ old + (one_if b + 0) → old ≤ all → (b ≡ true → (old ≡ 0) × (0 < all)) → new ≤ all
one_more true old new all sum le first = let f = first refl in let e : new ≡ old + (1 + 0) = sum in omega arith
one_more false old new all sum le first = let e : new ≡ old + (0 + 0) = sum in omega arith

-- the numbers that a rank has taken, with that of a new letter
module _ (c : NetOf) (h : IsConsistent c) (k : ℕ) (lt : k < length c.letters) (out : is_in (letter_at c.letters k).number (taken_by c (letter_at c.letters k).to) ≡ false) where
  abbrev l : LetterOf
  l = letter_at c.letters k

  abbrev more : List ℕ
  more = taken_by c l.to ++ l.number ∷ []

  pub once_more : (n : ℕ) → times n more ≤ times n (numbers_to l.to c.letters)
  once_more n =
      let sum : times n more ≡ times n (taken_by c l.to) + (one_if (l.number == n) + 0) = total-append (λ m. one_if (m == n)) (taken_by c l.to) (l.number ∷ []) in
      one_more (l.number == n) (times n (taken_by c l.to)) (times n more) (times n (numbers_to l.to c.letters)) sum (h.once l.to n) (λ e.
      let is : l.number ≡ n = eqb-true l.number n e in (
        subst (λ m. times m (taken_by c l.to) ≡ 0) is (absent l.number (taken_by c l.to) out),
        subst (λ m. 0 < times m (numbers_to l.to c.letters)) is (number_there (λ (x : LetterOf). x.to == l.to) c.letters k lt (eq-eqb l.to l.to refl)),
      ))

  pub keeps_new : IsConsistent (record c { taken = set c.taken l.to more })
  keeps_new = record {
    net = subst (λ n. IsNet c.letters n c.words c.room) (sym (length-set c.taken l.to more)) h.net;
    posts = h.posts;
    once = λ rank n. dite (ℕ_discrete rank l.to)
        (λ e. subst (λ r. times n (get_or (set c.taken l.to more) r []) ≤ times n (numbers_to r c.letters)) (sym e) (subst (λ (ms : List ℕ). times n ms ≤ times n (numbers_to l.to c.letters)) (sym (taken_there c h k lt)) (once_more n)))
        (λ ne. subst (λ (ms : List ℕ). times n ms ≤ times n (numbers_to rank c.letters)) (sym (get_or-set_other c.taken l.to rank more [] ne)) (h.once rank n));
  }

pub keeps_next : (c : NetOf) → IsConsistent c → (e : NetEvent) → IsConsistent (unwrap_or (next_of c e) c)
keeps_next c h (Post k) = post_cases IsConsistent c k (λ _. h) (λ _ _. keeps_post c h k)
keeps_next c h (Deliver k) = deliver_cases IsConsistent c k (λ _. h) (λ lt _. taken_cases IsConsistent c (letter_at c.letters k) (λ _. h) (λ out. keeps_new c h k lt out))

-- the state has these letters, words, cells and ranks
pub record IsOf (ls : List LetterOf) (ranks w r : ℕ) (c : NetOf) : Type 0 where
  pub consistent : IsConsistent c
  pub letters : c.letters ≡ ls
  pub count : length c.taken ≡ ranks
  pub words : c.words ≡ w
  pub room : c.room ≡ r

module _ (ls : List LetterOf) (ranks w r : ℕ) where
  pub fresh_is : IsNet ls ranks w r → IsOf ls ranks w r (fresh ls ranks w r)
  fresh_is net = record {
    consistent = record {
      net = subst (λ n. IsNet ls n w r) (sym (length-replicate ranks [])) net;
      posts = length-replicate (length ls) false;
      once = λ rank n. subst (λ (ms : List ℕ). times n ms ≤ times n (numbers_to rank ls)) (sym (none_taken rank)) (let z : 0 ≤ times n (numbers_to rank ls) = omega arith in z);
    };
    letters = refl;
    count = length-replicate ranks [];
    words = refl;
    room = refl;
  }
    where
      none_taken : (rank : ℕ) → ◌≡◌ {A = List ℕ} (get_or (replicate ranks []) rank []) []
      none_taken rank = ⊎_elim (λ lt. get_or-replicate ranks rank [] [] lt) (λ ge. get_or_past (replicate ranks []) rank [] (let n = length-replicate {A = List ℕ} ranks [] in omega arith)) (cases_lt rank ranks)

  next_is : (c : NetOf) → IsOf ls ranks w r c → (e : NetEvent) → IsOf ls ranks w r (unwrap_or (next_of c e) c)
  next_is c h (Post k) =
      post_cases (IsOf ls ranks w r) c k (λ _. h) (λ _ _. record { consistent = keeps_post c h.consistent k; letters = h.letters; count = h.count; words = h.words; room = h.room })
  next_is c h (Deliver k) =
      deliver_cases (IsOf ls ranks w r) c k (λ _. h) (λ lt _.
      taken_cases (IsOf ls ranks w r) c (letter_at c.letters k) (λ _. h) (λ out. record {
        consistent = keeps_new c h.consistent k lt out;
        letters = h.letters;
        count = length-set c.taken (letter_at c.letters k).to (taken_by c (letter_at c.letters k).to ++ (letter_at c.letters k).number ∷ []) ∙ h.count;
        words = h.words;
        room = h.room;
      }))

  pub after_is : (c : NetOf) → IsOf ls ranks w r c → (es : List NetEvent) → IsOf ls ranks w r (after c es)
  after_is c h [] = h
  after_is c h (e ∷ es) = after_is (unwrap_or (next_of c e) c) (next_is c h e) es
