use Rattle.std.proofs.Common.{◌≡◌, ◌∙◌, ℕ, ◌+◌, ◌≤◌, ◌<◌, ◌++◌, ◌∷◌, [], List, sym, ap, subst, append-nil, arith}
use Rattle.std.specs.List.{All, flat_map}
use Rattle.std.proofs.lemmas.List.Elements.{All-append, All-cons, All-nil}
use Rattle.amr_box.specs.Cells.{height}
use Rattle.amr_patch.proofs.Rows.{sides}
use Rattle.amr_plot.specs.BoxParts.{IsPartOf, part_text}
use Rattle.amr_plot.specs.declared.parts.Part.{Part}
use Rattle.amr_plot.specs.declared.parts.Part.TheVariants.{Rows}
use Rattle.amr_plot.proofs.BoxTexts.{all_rows}
use Rattle.amr_plot.proofs.Cutting.{first_text, rows_put_some, some_put}
use Rattle.amr_plot.proofs.parts.append_rows.Goals as goal

pub loop-first-preserved : goal.loop-first-preserved
loop-first-preserved c =
    let k = c.args.layer in
    let b = c.args.b.now in
    let l = c.loop-first in
    let count = c.min-count.result in
    let within : l.first + count ≤ height b = omega (arith, c.min-count.ensures, c.loop-first-test.true, c.height-height.ensures.value) in
    let some : 0 < count = omega (arith, c.min-count.ensures, c.max-most.ensures, c.loop-first-test.true) in
    record {
      within = within;
      texts = rows_put_some k b c.args.species c.args.parts.now.items l.parts.items c.push.new.self.items l.first count some l.invariant.texts c.in_ok-push.ensures.items;
      of_layer = subst (λ (ps : List Part). All (IsPartOf k) ps) (sym c.in_ok-push.ensures.items)
          (All-append (IsPartOf k) l.parts.items (Rows b c.args.species l.first count ∷ []) l.invariant.of_layer (All-cons (IsPartOf k) (Rows b c.args.species l.first count) [] (c.requires.of_layer, c.requires.there, within) (All-nil (IsPartOf k))));
    }

pub returns-clause-texts : goal.returns-clause-texts
returns-clause-texts c =
    let k = c.args.layer in
    let b = c.args.b.now in
    let l = c.loop-first in
    let all : l.first ≡ height b = omega (arith, l.invariant.within, c.loop-first-test.false, c.height-height.ensures.value) in
    let some = (sides b c.requires.of_layer.near).some_rows in
    l.invariant.texts ∙ ap (λ (n : ℕ). flat_map (part_text k) c.args.parts.now.items ++ first_text k b c.args.species n) all
    ∙ ap (λ (t : List ℕ). flat_map (part_text k) c.args.parts.now.items ++ t) (some_put k b c.args.species (height b) some ∙ all_rows k b c.args.species)
