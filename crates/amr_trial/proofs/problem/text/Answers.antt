use Rattle.amr_trial.proofs.TextParts.{text_put}
use Rattle.amr_trial.proofs.problem.text.Goals as goal

pub returns : goal.returns
returns c =
    text_put c.args.number c.args.size c.of_trial-generator.result c.draw-cx.new.self c.draw-cy.new.self c.draw-cx.result c.draw-cy.result c.in_ok-out.out.items c.put_head.new.out.items c.put_blocks.new.out.items
    c.of_trial-generator.ensures c.draw-cx.ensures.state c.draw-cy.ensures.state c.draw-cx.ensures.number c.draw-cy.ensures.number c.in_ok-out.ensures.items c.in_ok-put_head.ensures c.in_ok-put_blocks.ensures
