use Rattle.std.proofs.Common.{◌≡◌, ◌∙◌, ◌+◌, ap, sym, subst, arith, List, length}
use Rattle.std.specs.List.{All}
use Rattle.amr_ranks.specs.Items.{total}
use Rattle.amr_ranks.specs.Letters.{IsNet, LetterOf}
use Rattle.amr_letters.specs.Shared.{sharing}
use Rattle.amr_letters.proofs.Net.{count, net, own}
use Rattle.amr_letters.proofs.bring.rank_for.Goals as goal

pub make-requires-clause-few : goal.make-requires-clause-few
make-requires-clause-few c =
    let n = ap (λ (ls : List LetterOf). length ls) c.in_ok-letters.ensures.letters ∙ count (sharing c.args.s) c.args.ranks c.args.to in
    let few = c.requires.ranks in
    omega (arith, n, few)

pub make-requires-clause-own : goal.make-requires-clause-own
make-requires-clause-own c =
    subst (λ (ls : List LetterOf). All (λ (l : LetterOf). l.to ≡ c.args.to) ls) (sym c.in_ok-letters.ensures.letters) (own (sharing c.args.s) c.args.ranks c.args.to)

pub make-requires-clause-net : goal.make-requires-clause-net
make-requires-clause-net c =
    let is : c.in_ok-cells.cells ≡ total (λ (l : LetterOf). length l.items) c.in_ok-letters.letters.items = c.in_ok-cells.ensures ∙ ap (total (λ (l : LetterOf). length l.items)) c.as_slice.ensures.value in
    let same = ap (total (λ (l : LetterOf). length l.items)) c.in_ok-letters.ensures.letters in
    subst (λ (ls : List LetterOf). IsNet ls (c.args.to + 1) 0 c.in_ok-cells.cells) (sym c.in_ok-letters.ensures.letters) (net (sharing c.args.s) c.args.ranks c.args.to c.in_ok-cells.cells (omega (arith, is, same)))
