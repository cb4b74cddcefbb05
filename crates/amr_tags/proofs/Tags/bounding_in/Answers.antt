use Rattle.std.proofs.Common.{◌≡◌, ◌∙◌, ◌<◌, ◌&&◌, arith, false, refl, subst, sym, List, ℕ}
use Rattle.amr_box.specs.declared.Cell.{Cell}
use Rattle.amr_box.specs.Cells.{holds}
use Rattle.amr_tags.specs.Edges.{HasOne, in_part}
use Rattle.amr_tags.specs.TagSets.{IsLeastBox, TagSet, has}
use Rattle.amr_tags.proofs.CellCounts.{part-common}
use Rattle.amr_tags.proofs.Halving.{least-is, none-apart, none_in_part, not-none, one_in_part, part-is}
use Rattle.amr_tags.proofs.Tags.bounding_in.Goals as goal

pub count_part-requires-clause-part : goal.count_part-requires-clause-part
count_part-requires-clause-part c = part-common c.self.inside.bx c.args.b c.in-Some.part c.in-Some.ensures.corners (c.in-Some.ensures.some.0 refl)

pub least-requires-clause-part : goal.least-requires-clause-part
least-requires-clause-part c = part-common c.self.inside.bx c.args.b c.in-Some.part c.in-Some.ensures.corners (c.in-Some.ensures.some.0 refl)

pub returns-in-None-clause-none : goal.returns-in-None-clause-none
returns-in-None-clause-none c = (λ _. subst (λ (t : TagSet). (q : Cell) → (holds c.args.b q && has t q) ≡ false) c.self.view_is (none-apart c.self.inside.bx c.args.b c.self.inside.words.items (c.in-None.ensures.none.0 refl)), λ _. refl)

pub returns-then-count_part-eq0-clause-none : goal.returns-then-count_part-eq0-clause-none
returns-then-count_part-eq0-clause-none c =
    let b = c.self.inside.bx in
    let part = c.in-Some.part in
    let zero : c.count_part.result ≡ 0 = omega (arith, c.if-count_part-eq0.true) in
    let empty = none_in_part b part c.deref.result.now (part-common b c.args.b part c.in-Some.ensures.corners (c.in-Some.ensures.some.0 refl)) (sym c.count_part.ensures ∙ zero) in
    let none = subst (λ (words : List ℕ). (q : Cell) → in_part b words part q ≡ false) c.deref.ensures.value empty in
    (λ _. subst (λ (t : TagSet). (q : Cell) → (holds c.args.b q && has t q) ≡ false) c.self.view_is (λ q. sym (part-is b c.args.b part c.self.inside.words.items (λ d. c.in-Some.ensures.cells.at d) q) ∙ none q), λ _. refl)

pub least-requires-clause-some : goal.least-requires-clause-some
least-requires-clause-some c =
    let b = c.self.inside.bx in
    let part = c.in-Some.part in
    let more : 0 < c.count_part.result = omega (arith, c.if-count_part-eq0.false) in
    subst (λ (words : List ℕ). HasOne (in_part b words part)) (c.deref.ensures.value ∙ sym c.deref-in-Some.ensures.value) (one_in_part b part c.deref.result.now (subst (λ (n : ℕ). 0 < n) c.count_part.ensures more))

pub returns-else-count_part-eq0-clause-least : goal.returns-else-count_part-eq0-clause-least
returns-else-count_part-eq0-clause-least c =
    let b = c.self.inside.bx in
    let part = c.in-Some.part in
    let least = subst (λ (words : List ℕ). IsLeastBox c.least.result (in_part b words part)) c.deref-in-Some.ensures.value c.least.ensures in
    subst (λ (t : TagSet). IsLeastBox c.least.result (λ q. holds c.args.b q && has t q)) c.self.view_is
    (least-is c.least.result (in_part b c.self.inside.words.items part) _ (part-is b c.args.b part c.self.inside.words.items (λ d. c.in-Some.ensures.cells.at d)) least)

pub returns-else-count_part-eq0-clause-none : goal.returns-else-count_part-eq0-clause-none
returns-else-count_part-eq0-clause-none c = (λ never. absurd (cc), λ h. absurd (not-none c.least.result (λ q. holds c.args.b q && has c.args.self.now q) (returns-else-count_part-eq0-clause-least c) h))
