use Rattle.std.proofs.Common.{◌≡◌, ◌∙◌, ◌≤◌, ap, sym, subst, arith, List, length}
use Rattle.std.specs.List.{All}
use Rattle.std.proofs.lemmas.List.Elements.{All-same}
use Rattle.amr_ranks.specs.Letters.{IsNet, LetterOf}
use Rattle.amr_gather.proofs.Brought.{all_own, first_held, first_net, letters_count}
use Rattle.amr_gather.proofs.gather.rank_for.Goals as goal

pub make-requires-clause-few : goal.make-requires-clause-few
make-requires-clause-few c =
    let count = ap (λ (ls : List LetterOf). length ls) c.in_ok-letters.ensures ∙ letters_count c.args.ranks c.args.words in
    let few = c.requires in
    omega (arith, count, few)

pub make-requires-clause-own : goal.make-requires-clause-own
make-requires-clause-own c = subst (λ (ls : List LetterOf). All (λ (l : LetterOf). l.to ≡ 0) ls) (sym c.in_ok-letters.ensures) (all_own 0 _)

pub make-requires-clause-net : goal.make-requires-clause-net
make-requires-clause-net c = subst (λ (ls : List LetterOf). IsNet ls 1 c.args.words 0) (sym c.in_ok-letters.ensures) (first_net c.args.ranks c.args.words)

pub returns : goal.returns
returns c =
    first_held c.args.ranks c.args.words c.in-Ok.rank c.in-Ok.ensures.ready.post c.in-Ok.ensures.unsent c.in_ok-letters.letters.items c.in_ok-letters.ensures c.in-Ok.ensures.letters c.in-Ok.ensures.node
