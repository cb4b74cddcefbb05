use Rattle.std.proofs.Common.{◌∙◌, sym, eq-eqb}
use Rattle.std.proofs.lemmas.Bool.{eqb-true}
use Rattle.amr_decoder.proofs.sync.is_sum.Goals as goal

pub returns : goal.returns
returns c = (
  λ h. record { at = sym (c.from.ensures ∙ c.mass_of.ensures) ∙ eqb-true c.from.result c.children_mass.result h ∙ c.children_mass.ensures },
  λ s. eq-eqb c.from.result c.children_mass.result (c.from.ensures ∙ c.mass_of.ensures ∙ s.at ∙ sym c.children_mass.ensures),
)
