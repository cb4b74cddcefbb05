use Rattle.amr_flows.proofs.RegisterFlows.{words_are_of_children}
use Rattle.amr_flows.proofs.register_words_are_of_children.Goals as goal

pub returns : goal.returns
returns c = words_are_of_children
