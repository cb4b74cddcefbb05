use Rattle.std.proofs.Common.{List, ℕ, [], ◌++◌, ◌∙◌, ap, codes}
use Rattle.amr_def.specs.Plot.{line}
use Rattle.amr_run.proofs.Messages.{short_as, refusal_of, whole_as}
use Rattle.amr_run.proofs.message.put_fault.Goals as goal

pub returns-in-UnknownKey-clause-whole : goal.returns-in-UnknownKey-clause-whole
returns-in-UnknownKey-clause-whole g c =
    whole_as g.E.Sink.holds c.args.err.now c.put_line-in-UnknownKey.new.sink c.put_line-in-UnknownKey.result _ _
    (ap (λ (t : List ℕ). line (codes "amr: problem: unknown key " ++ (t ++ []))) c.text.ensures ∙ refusal_of _ _ c.in-UnknownKey.is) c.put_line-in-UnknownKey.ensures.whole

pub returns-in-UnknownKey-clause-short : goal.returns-in-UnknownKey-clause-short
returns-in-UnknownKey-clause-short g c =
    short_as g.E.Sink.holds c.args.err.now c.put_line-in-UnknownKey.new.sink c.put_line-in-UnknownKey.result _ _
    (ap (λ (t : List ℕ). line (codes "amr: problem: unknown key " ++ (t ++ []))) c.text.ensures ∙ refusal_of _ _ c.in-UnknownKey.is) c.put_line-in-UnknownKey.ensures.short

pub returns-in-Courant-clause-whole : goal.returns-in-Courant-clause-whole
returns-in-Courant-clause-whole g c = whole_as g.E.Sink.holds c.args.err.now c.put_courant.new.err c.put_courant.result _ _ (refusal_of _ _ c.in-Courant.is) c.put_courant.ensures.whole

pub returns-in-Courant-clause-short : goal.returns-in-Courant-clause-short
returns-in-Courant-clause-short g c = short_as g.E.Sink.holds c.args.err.now c.put_courant.new.err c.put_courant.result _ _ (refusal_of _ _ c.in-Courant.is) c.put_courant.ensures.short

pub returns-in-SidesDiffer-clause-whole : goal.returns-in-SidesDiffer-clause-whole
returns-in-SidesDiffer-clause-whole g c =
    whole_as g.E.Sink.holds c.args.err.now c.put_line-in-SidesDiffer.new.sink c.put_line-in-SidesDiffer.result _ _
    (ap (λ (t : List ℕ). line (codes "amr: problem: sides differ " ++ (t ++ []))) c.axis_name.ensures ∙ refusal_of _ _ c.in-SidesDiffer.is) c.put_line-in-SidesDiffer.ensures.whole

pub returns-in-SidesDiffer-clause-short : goal.returns-in-SidesDiffer-clause-short
returns-in-SidesDiffer-clause-short g c =
    short_as g.E.Sink.holds c.args.err.now c.put_line-in-SidesDiffer.new.sink c.put_line-in-SidesDiffer.result _ _
    (ap (λ (t : List ℕ). line (codes "amr: problem: sides differ " ++ (t ++ []))) c.axis_name.ensures ∙ refusal_of _ _ c.in-SidesDiffer.is) c.put_line-in-SidesDiffer.ensures.short

pub returns-in-TagCount-clause-whole : goal.returns-in-TagCount-clause-whole
returns-in-TagCount-clause-whole g c = whole_as g.E.Sink.holds c.args.err.now c.put_tag_count.new.err c.put_tag_count.result _ _ (refusal_of _ _ c.in-TagCount.is) c.put_tag_count.ensures.whole

pub returns-in-TagCount-clause-short : goal.returns-in-TagCount-clause-short
returns-in-TagCount-clause-short g c = short_as g.E.Sink.holds c.args.err.now c.put_tag_count.new.err c.put_tag_count.result _ _ (refusal_of _ _ c.in-TagCount.is) c.put_tag_count.ensures.short

pub returns-in-Blocking-clause-whole : goal.returns-in-Blocking-clause-whole
returns-in-Blocking-clause-whole g c = whole_as g.E.Sink.holds c.args.err.now c.put_blocking.new.err c.put_blocking.result _ _ (refusal_of _ _ c.in-Blocking.is) c.put_blocking.ensures.whole

pub returns-in-Blocking-clause-short : goal.returns-in-Blocking-clause-short
returns-in-Blocking-clause-short g c = short_as g.E.Sink.holds c.args.err.now c.put_blocking.new.err c.put_blocking.result _ _ (refusal_of _ _ c.in-Blocking.is) c.put_blocking.ensures.short

pub returns-in-Missing-clause-whole : goal.returns-in-Missing-clause-whole
returns-in-Missing-clause-whole g c =
    whole_as g.E.Sink.holds c.args.err.now c.put_line-in-Missing.new.sink c.put_line-in-Missing.result _ _
    (ap (λ (t : List ℕ). line (codes "amr: problem: missing key " ++ (t ++ []))) c.text-in-Missing.ensures ∙ refusal_of _ _ c.in-Missing.is) c.put_line-in-Missing.ensures.whole

pub returns-in-Missing-clause-short : goal.returns-in-Missing-clause-short
returns-in-Missing-clause-short g c =
    short_as g.E.Sink.holds c.args.err.now c.put_line-in-Missing.new.sink c.put_line-in-Missing.result _ _
    (ap (λ (t : List ℕ). line (codes "amr: problem: missing key " ++ (t ++ []))) c.text-in-Missing.ensures ∙ refusal_of _ _ c.in-Missing.is) c.put_line-in-Missing.ensures.short

pub returns-in-WrongKind-clause-whole : goal.returns-in-WrongKind-clause-whole
returns-in-WrongKind-clause-whole g c =
    whole_as g.E.Sink.holds c.args.err.now c.put_line-in-WrongKind.new.sink c.put_line-in-WrongKind.result _ _
    (ap (λ (t : List ℕ). line (codes "amr: problem: wrong kind " ++ (t ++ []))) c.text-in-WrongKind.ensures ∙ refusal_of _ _ c.in-WrongKind.is) c.put_line-in-WrongKind.ensures.whole

pub returns-in-WrongKind-clause-short : goal.returns-in-WrongKind-clause-short
returns-in-WrongKind-clause-short g c =
    short_as g.E.Sink.holds c.args.err.now c.put_line-in-WrongKind.new.sink c.put_line-in-WrongKind.result _ _
    (ap (λ (t : List ℕ). line (codes "amr: problem: wrong kind " ++ (t ++ []))) c.text-in-WrongKind.ensures ∙ refusal_of _ _ c.in-WrongKind.is) c.put_line-in-WrongKind.ensures.short

pub returns-in-SpeciesOutside-clause-whole : goal.returns-in-SpeciesOutside-clause-whole
returns-in-SpeciesOutside-clause-whole g c = whole_as g.E.Sink.holds c.args.err.now c.put_species.new.err c.put_species.result _ _ (refusal_of _ _ c.in-SpeciesOutside.is) c.put_species.ensures.whole

pub returns-in-SpeciesOutside-clause-short : goal.returns-in-SpeciesOutside-clause-short
returns-in-SpeciesOutside-clause-short g c = short_as g.E.Sink.holds c.args.err.now c.put_species.new.err c.put_species.result _ _ (refusal_of _ _ c.in-SpeciesOutside.is) c.put_species.ensures.short
