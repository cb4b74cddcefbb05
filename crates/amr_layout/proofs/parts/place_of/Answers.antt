use Rattle.std.proofs.Common.{◌≡◌, ◌∙◌, ℕ, ◌+◌, List, [], ◌∷◌, length, refl, ap, arith}
use Rattle.std.specs.Prelude.{slice_index}
use Rattle.std.proofs.Math.ListN.{set}
use Rattle.std.proofs.lemmas.List.{get_or_push, length-append, length-set}
use Rattle.amr_layout.specs.PartFlows.{AreNumbersOf}
use Rattle.amr_layout.proofs.PartFlows.{few_words, place_there, pushed_word, same_words, word_more}
use Rattle.amr_layout.proofs.parts.place_of.Goals as goal
use Rattle.amr_layout.proofs.parts.place_of.Goals.{In_ok-push}

none : (c : In_ok-push) → slice_index c.args.numbers.now c.args.word ≡ 0
none c = omega arith

more : (c : In_ok-push) → AreNumbersOf c.push.new.self.items (set c.args.numbers.now c.args.word (c.len-place.result + 1))
more c = word_more c.requires.numbers c.args.word (c.len-place.result + 1) c.push.new.self.items (set c.args.numbers.now c.args.word (c.len-place.result + 1)) c.requires.there (none c) (omega arith) c.in_ok-push.ensures.items refl

one_longer : (c : In_ok-push) → length c.push.new.self.items ≡ c.len-place.result + 1
one_longer c = omega (arith, ap length c.in_ok-push.ensures.items, length-append c.args.words.now.items (c.args.word ∷ []))

pub overflow_add-numbers : goal.overflow_add-numbers
overflow_add-numbers c =
    let n = few_words (more c) in
    let m = length-set c.args.numbers.now c.args.word (c.len-place.result + 1) in
    let e = one_longer c in
    omega (arith, n, m, e)

pub returns-then-number-gt0 : goal.returns-then-number-gt0
returns-then-number-gt0 c =
    let there = place_there c.requires.numbers c.args.word (slice_index c.args.numbers.now c.args.word) refl (omega arith) in
    record {
      count = refl;
      numbers = c.requires.numbers;
      longer = same_words c.args.words.now.items;
      within = there.0;
      place = there.1;
    }

pub returns : goal.returns
returns c = record {
  count = length-set c.args.numbers.now c.args.word (c.len-place.result + 1);
  numbers = more c;
  longer = pushed_word c.args.words.now.items c.push.new.self.items c.args.word c.in_ok-push.ensures.items;
  within = let e = one_longer c in omega (arith, e);
  place = ap (λ (xs : List ℕ). slice_index xs c.len-place.result) c.in_ok-push.ensures.items ∙ get_or_push c.args.words.now.items c.args.word 0 c.len-place.result (omega arith);
}
