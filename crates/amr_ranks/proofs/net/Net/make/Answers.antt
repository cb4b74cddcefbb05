use Rattle.std.proofs.Common.{◌≡◌, ℕ, ◌+◌, ◌++◌, false, List, [], ◌∷◌, length, replicate, sym, ap, ◌∙◌, arith}
use Rattle.std.specs.Prelude.{map}
use Rattle.std.specs.List.{range_with_len}
use Rattle.std.proofs.lemmas.List.FromFn.{map-range_with_len_more}
use Rattle.amr_ranks.specs.Letters.{LetterOf, numbers_to}
use Rattle.amr_ranks.specs.Nodes.{NodeOf, fresh_node}
use Rattle.amr_ranks.proofs.Held.{made_held}
use Rattle.amr_ranks.proofs.net.Net.make.Goals as goal

pub loop-rank-preserved : goal.loop-rank-preserved
loop-rank-preserved c =
    let n : ℕ = c.loop-rank.rank in
    let first : ℕ → NodeOf = λ r. fresh_node r (numbers_to r c.args.letters.items) c.args.words c.args.cells in
    let node : c.in_ok-make.field-0 ≡ first n = c.in_ok-make.ensures ∙ ap (λ (ms : List ℕ). fresh_node n ms c.args.words c.args.cells) (c.in_ok-numbers.ensures ∙ ap (λ (ls : List LetterOf). numbers_to n ls) c.as_slice.ensures.value) in
    c.in_ok-push.ensures.items
    ∙ (ap (λ (ds : List NodeOf). ds ++ c.in_ok-make.field-0 ∷ []) c.loop-rank.invariant
    ∙ (ap (λ (d : NodeOf). map first (range_with_len 0 n) ++ d ∷ []) node ∙ sym (map-range_with_len_more first 0 n n (let e : 0 + n ≡ n = omega arith in e))))

pub invariant_of-result : goal.invariant_of-result
invariant_of-result c =
    let first : ℕ → NodeOf = λ r. fresh_node r (numbers_to r c.args.letters.items) c.args.words c.args.cells in
    let all : c.loop-rank.rank ≡ c.args.ranks = (let f = c.loop-rank-test.false in let e = c.loop-rank.auto.rank-end in omega arith) in
    let count : c.len.result ≡ length c.args.letters.items = (let e = c.len.ensures in omega arith) in
    (made_held c.args.letters.items c.args.ranks c.args.words c.args.cells c.requires c.in_ok-posted.posted.items c.loop-rank.nodes.items
    (c.in_ok-posted.ensures.items_if_clones_equal (λ y e. e) ∙ ap (λ n. replicate n false) count) (c.loop-rank.invariant ∙ ap (λ n. map first (range_with_len 0 n)) all)).0

pub returns : goal.returns
returns c =
    let first : ℕ → NodeOf = λ r. fresh_node r (numbers_to r c.args.letters.items) c.args.words c.args.cells in
    let all : c.loop-rank.rank ≡ c.args.ranks = (let f = c.loop-rank-test.false in let e = c.loop-rank.auto.rank-end in omega arith) in
    let count : c.len.result ≡ length c.args.letters.items = (let e = c.len.ensures in omega arith) in
    (made_held c.args.letters.items c.args.ranks c.args.words c.args.cells c.requires c.in_ok-posted.posted.items c.loop-rank.nodes.items
    (c.in_ok-posted.ensures.items_if_clones_equal (λ y e. e) ∙ ap (λ n. replicate n false) count) (c.loop-rank.invariant ∙ ap (λ n. map first (range_with_len 0 n)) all)).1
