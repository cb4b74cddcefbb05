use Rattle.std.proofs.Common.{◌≡◌, ℕ, ◌+◌, ◌<◌, ◌++◌, ◌∷◌, [], List, length, get_or, map, take, sym, ap, ◌∙◌, append-nil, append_assoc}
use Rattle.std.proofs.lemmas.List.{map-append, take_all, take_more}
use Rattle.amr_layout.proofs.in_threads.append_bounds.Goals as goal

one_more : (old xs : List ℕ) (n : ℕ) (bs : List ℕ) (i d : ℕ) → i < length bs → xs ≡ old ++ map (λ b. n + b) (take i bs) → xs ++ (n + get_or bs i d) ∷ [] ≡ old ++ map (λ b. n + b) (take (i + 1) bs)
one_more old xs n bs i d lt before =
    let f : ℕ → ℕ = λ b. n + b in
    ap (λ (l : List ℕ). l ++ (n + get_or bs i d) ∷ []) before ∙ append_assoc old (map f (take i bs)) ((n + get_or bs i d) ∷ [])
    ∙ ap (λ (l : List ℕ). old ++ l) (sym (map-append f (take i bs) (get_or bs i d ∷ [])) ∙ ap (map f) (sym (take_more bs i d lt)))

pub loop-b-init : goal.loop-b-init
loop-b-init c = sym (append-nil c.args.all.now.items)

pub loop-b-preserved : goal.loop-b-preserved
loop-b-preserved c = c.in_ok-push.ensures.items ∙ one_more c.args.all.now.items c.loop-b.all.items c.args.before c.args.bounds.now c.loop-b.b-index _ c.loop-b-test.true c.loop-b.invariant

pub returns : goal.returns
returns c = c.loop-b.invariant ∙ ap (λ bs. c.args.all.now.items ++ map (λ b. c.args.before + b) bs) (take_all c.loop-b.b-index c.args.bounds.now c.loop-b-test.false)
