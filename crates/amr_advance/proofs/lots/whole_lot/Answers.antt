use Rattle.amr_advance.proofs.lots.whole_lot.Goals as goal

pub whole_workspace-requires-clause-flows : goal.whole_workspace-requires-clause-flows
whole_workspace-requires-clause-flows c = c.requires.flows

pub returns : goal.returns
returns c = λ each le. let made = c.in_ok-whole_workspace.ensures each le in record { serves = made.serves; flows = made.flows; words = made.words; totals = made.totals }
