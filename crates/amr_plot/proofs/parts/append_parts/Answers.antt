use Rattle.std.proofs.Common.{◌≡◌, ◌∙◌, ℕ, ◌++◌, ◌∷◌, [], List, length, sym, ap, subst, append_assoc, arith}
use Rattle.std.specs.List.{All, flat_map}
use Rattle.std.proofs.lemmas.List.Elements.{All-append, All-cons, All-nil}
use Rattle.amr_plot.specs.BoxParts.{IsPartOf, part_text}
use Rattle.amr_plot.specs.declared.parts.Part.{Part}
use Rattle.amr_plot.specs.declared.parts.Part.TheVariants.{Line}
use Rattle.amr_plot.proofs.BoxTexts.{all_rows, box_is, first_species, next_species, no_species}
use Rattle.amr_plot.proofs.TextLaws.{one_more}
use Rattle.amr_plot.proofs.parts.append_parts.Goals as goal

pub loop-species-preserved : goal.loop-species-preserved
loop-species-preserved c =
    let k = c.args.layer in
    let b = c.args.b.now in
    let l = c.loop-species in
    let old = c.args.parts.now.items in
    record {
      texts = c.in_ok-append_rows.ensures.texts
          ∙ (λ i. l.invariant.texts i ++ sym (all_rows k b l.species) i)
          ∙ append_assoc (flat_map (part_text k) old) (first_species k b l.species) _
          ∙ ap (λ (t : List ℕ). flat_map (part_text k) old ++ t) (sym (next_species k b l.species));
      of_layer = c.in_ok-append_rows.ensures.of_layer;
    }

pub returns-clause-texts : goal.returns-clause-texts
returns-clause-texts c =
    let k = c.args.layer in
    let b = c.args.b.now in
    let l = c.loop-species in
    let all : l.species ≡ length k.meshes.now = omega (arith, l.auto.species-end, c.loop-species-test.false) in
    l.invariant.texts ∙ ap (λ (t : List ℕ). flat_map (part_text k) c.args.parts.now.items ++ t) (ap (first_species k b) all ∙ box_is k b)
