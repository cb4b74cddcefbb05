use Rattle.std.proofs.Common.{◌≡◌, Bool, true, false}
use Rattle.std.specs.Prelude.{OnErr, OnOk}
use Rattle.std.specs.declared.result.Result.{Result}
use Rattle.std.specs.declared.result.Result.TheVariants.{Err, Ok}
use Rattle.std.proofs.lemmas.Result.{on_err_weaker, on_ok_weaker}
use Rattle.amr_advance.specs.InLots.{MayStepInLots}
use Rattle.amr_advance.proofs.level.step_in_lots.Given as given
use Rattle.amr_advance.proofs.level.step_in_lots.Goals.{After-run_in_lots-run}
use Rattle.amr_advance.proofs.level.step_in_lots.Goals as goal

-- it was made, or it was not
made_or_not : {A E P Q : Type 0} (r : Result A E) → OnOk r P → OnErr r Q → (b : Bool) × ((b ≡ true → P) × (b ≡ false → Q))
made_or_not (Ok v) p q = (true, ((λ e. p), (λ e. absurd (cc))))
made_or_not (Err e) p q = (false, ((λ e. absurd (cc)), (λ e. q)))

may : (g : given.Over) (c : After-run_in_lots-run g) → MayStepInLots c.args.given c.args.patches.now c.args.edges.now c.args.lots.now
may g c = record { step = c.requires.step; lots = c.requires.lots; several = c.requires.several; edges = c.requires.edges }

pub take_from_lots-requires : goal.take_from_lots-requires
take_from_lots-requires g c =
    let went = c.run_in_lots-run.ensures.run in
    let b = made_or_not c.run_in_lots-run.result went.3 went.4 in (
      c.args.given,
      b.0,
      c.args.patches.now,
      c.args.edges.now,
      c.args.lots.now,
      record { may = may g (goal.at.take_from_lots-requires g c).After-run_in_lots-run; handed = went.0; given = went.1; as_many = went.2; made = b.1.0; unmade = b.1.1; rest = c.run_in_lots-run.ensures.rest },
    )

pub returns-clause-made : goal.returns-clause-made
returns-clause-made g c =
    let went = c.run_in_lots-run.ensures.run in
    on_ok_weaker c.run_in_lots-run.result (λ done.
    c.take_from_lots.ensures.made c.args.given c.args.patches.now c.args.edges.now c.args.lots.now
    (record { may = may g (goal.at.returns-clause-made g c).After-run_in_lots-run; handed = went.0; given = went.1; as_many = went.2; made = λ e. done; unmade = λ e. absurd (cc); rest = c.run_in_lots-run.ensures.rest })) went.3

pub returns-clause-same : goal.returns-clause-same
returns-clause-same g c =
    let went = c.run_in_lots-run.ensures.run in
    on_err_weaker c.run_in_lots-run.result (λ same.
    (c.take_from_lots.ensures.unmade c.args.given c.args.patches.now c.args.edges.now c.args.lots.now
    (record { may = may g (goal.at.returns-clause-same g c).After-run_in_lots-run; handed = went.0; given = went.1; as_many = went.2; made = λ e. absurd (cc); unmade = λ e. same; rest = c.run_in_lots-run.ensures.rest })).0) went.4

pub returns-clause-same_edges : goal.returns-clause-same_edges
returns-clause-same_edges g c =
    let went = c.run_in_lots-run.ensures.run in
    on_err_weaker c.run_in_lots-run.result (λ same.
    (c.take_from_lots.ensures.unmade c.args.given c.args.patches.now c.args.edges.now c.args.lots.now
    (record { may = may g (goal.at.returns-clause-same_edges g c).After-run_in_lots-run; handed = went.0; given = went.1; as_many = went.2; made = λ e. absurd (cc); unmade = λ e. same; rest = c.run_in_lots-run.ensures.rest })).1) went.4
