use Rattle.std.proofs.Common.{◌≡◌, ◌∙◌, ◌<◌, length, set, sym, ap, subst}
use Rattle.amr_gather.specs.Totals.{Totals}
use Rattle.amr_gather.proofs.gather.Gather.set.Goals as goal

pub set_letter-requires-clause-held : goal.set_letter-requires-clause-held
set_letter-requires-clause-held c = c.self.invariant

pub set_letter-requires-clause-from : goal.set_letter-requires-clause-from
set_letter-requires-clause-from c = subst (λ (t : Totals). c.args.from < length t.lists) (sym c.self.view_is) c.requires.from

pub set_letter-requires-clause-words : goal.set_letter-requires-clause-words
set_letter-requires-clause-words c = subst (λ (t : Totals). length c.args.totals.now ≡ t.words) (sym c.self.view_is) c.requires.words

pub invariant_of-self : goal.invariant_of-self
invariant_of-self c = c.set_letter.ensures.held

pub returns : goal.returns
returns c = c.set_letter.ensures.told ∙ ap (λ (t : Totals). record t { lists = set t.lists c.args.from c.args.totals.now }) c.self.view_is
