use Rattle.std.proofs.Common.{◌∙◌, inl, ap, sym, subst, IfSome, Option, [], refl, Err}
use Rattle.std.proofs.lemmas.Option.{none-some, same_Some}
use Rattle.amr_causes.proofs.ByteLaws.{grows_none, were_left}
use Rattle.amr_cli.specs.declared.command.Command.{Command}
use Rattle.amr_cli.specs.Words.{command_of}
use Rattle.amr_run.specs.Outcome.{Outcome, StopsTo}
use Rattle.amr_run.specs.Sources.{TakesAtMost}
use Rattle.amr_run.specs.Table.{OpensStore, meaning}
use Rattle.amr_run.specs.declared.status.Status.TheVariants.{Done, NoMemory, Usage}
use Rattle.amr_run.proofs.Causes.{no_causes}
use Rattle.amr_run.proofs.KeptOutcomes.{stops_none}
use Rattle.amr_run.proofs.Outcomes.{of_command, of_no_memory, takes_none}
use Rattle.amr_run.proofs.run.serve.Goals as goal

pub returns-in-Err-Usage-clause-outcome : goal.returns-in-Err-Usage-clause-outcome
returns-in-Err-Usage-clause-outcome g c =
    let left = were_left (g.S.Source.left c.args.src.now) in
    let none = c.in-Err-Usage.ensures.usage (ap Err c.in-Err-Usage.field-0-is) in
    let seen = g.D.Disk.seen c.args.disk.now in (
      left.0,
      (
        [],
        (
          [],
          left.1,
          grows_none g.O.Sink.holds c.args.out.now,
          grows_none g.E.Sink.holds c.args.err.now,
          subst (λ (o : Option Command). Outcome Usage o left.0 seen [] []) (sym none) (refl, refl),
          stops_none g.D.Disk.seen g.D.Disk.moment g.D.Disk.leaves c.args.disk.now Usage (command_of c.args.words.now) left.0 tt,
        ),
      ),
    )

pub returns-in-Err-NoMemory-clause-outcome : goal.returns-in-Err-NoMemory-clause-outcome
returns-in-Err-NoMemory-clause-outcome g c =
    let left = were_left (g.S.Source.left c.args.src.now) in (
      left.0,
      (
        [],
        (
          [],
          left.1,
          grows_none g.O.Sink.holds c.args.out.now,
          grows_none g.E.Sink.holds c.args.err.now,
          of_no_memory (command_of c.args.words.now) left.0 (g.D.Disk.seen c.args.disk.now),
          stops_none g.D.Disk.seen g.D.Disk.moment g.D.Disk.leaves c.args.disk.now NoMemory (command_of c.args.words.now) left.0 tt,
        ),
      ),
    )

pub returns-in-Ok-answer-clause-outcome : goal.returns-in-Ok-answer-clause-outcome
returns-in-Ok-answer-clause-outcome g c =
    let done = c.in-Ok-answer.ensures.outcome in
    let all = done.1.1 in (
      done.0,
      (
        done.1.0,
        (
          all.0,
          all.1,
          all.2,
          all.3,
          of_command Done (command_of c.args.words.now) c.in-Ok.command done.0 (g.D.Disk.seen c.args.disk.now) done.1.0 all.0 c.in-Ok.ensures.command all.4,
          subst (λ (o : Option Command). StopsTo g.D.Disk.seen g.D.Disk.moment g.D.Disk.leaves c.args.disk.now c.answer.new.disk Done o done.0 all.0) (sym c.in-Ok.ensures.command) all.5,
        ),
      ),
    )

pub returns-in-Err-clause-outcome : goal.returns-in-Err-clause-outcome
returns-in-Err-clause-outcome g c =
    let done = c.in-Err.ensures.outcome in
    let all = done.1.1 in (
      done.0,
      (
        done.1.0,
        (
          all.0,
          all.1,
          all.2,
          all.3,
          of_command c.in-Err.refusal (command_of c.args.words.now) c.in-Ok.command done.0 (g.D.Disk.seen c.args.disk.now) done.1.0 all.0 c.in-Ok.ensures.command all.4,
          subst (λ (o : Option Command). StopsTo g.D.Disk.seen g.D.Disk.moment g.D.Disk.leaves c.args.disk.now c.answer.new.disk c.in-Err.refusal o done.0 all.0) (sym c.in-Ok.ensures.command) all.5,
        ),
      ),
    )

-- ---- what is pending

pub returns-in-Err-Usage-clause-settled : goal.returns-in-Err-Usage-clause-settled
returns-in-Err-Usage-clause-settled g c command asked opens = tt

pub returns-in-Err-NoMemory-clause-settled : goal.returns-in-Err-NoMemory-clause-settled
returns-in-Err-NoMemory-clause-settled g c command asked opens = inl refl

pub returns-in-Ok-answer-clause-settled : goal.returns-in-Ok-answer-clause-settled
returns-in-Ok-answer-clause-settled g c command asked opens = c.in-Ok-answer.ensures.settled (subst OpensStore (same_Some command c.in-Ok.command (sym asked ∙ c.in-Ok.ensures.command)) opens)

pub returns-in-Err-clause-settled : goal.returns-in-Err-clause-settled
returns-in-Err-clause-settled g c command asked opens = c.in-Err.ensures.settled (subst OpensStore (same_Some command c.in-Ok.command (sym asked ∙ c.in-Ok.ensures.command)) opens)

-- ---- words that are no command

pub returns-in-Err-Usage-clause-untouched : goal.returns-in-Err-Usage-clause-untouched
returns-in-Err-Usage-clause-untouched g c none = (refl, refl, refl, refl)

pub returns-in-Err-NoMemory-clause-untouched : goal.returns-in-Err-NoMemory-clause-untouched
returns-in-Err-NoMemory-clause-untouched g c none = (refl, refl, refl, refl)

pub returns-in-Ok-answer-clause-untouched : goal.returns-in-Ok-answer-clause-untouched
returns-in-Ok-answer-clause-untouched g c none = absurd (none-some c.in-Ok.command (sym none ∙ c.in-Ok.ensures.command))

pub returns-in-Err-clause-untouched : goal.returns-in-Err-clause-untouched
returns-in-Err-clause-untouched g c none = absurd (none-some c.in-Ok.command (sym none ∙ c.in-Ok.ensures.command))

-- ---- what was taken

pub returns-in-Err-Usage-clause-taken : goal.returns-in-Err-Usage-clause-taken
returns-in-Err-Usage-clause-taken g c command asked = takes_none (g.S.Source.left c.args.src.now) (meaning command).reads

pub returns-in-Err-NoMemory-clause-taken : goal.returns-in-Err-NoMemory-clause-taken
returns-in-Err-NoMemory-clause-taken g c command asked = takes_none (g.S.Source.left c.args.src.now) (meaning command).reads

pub returns-in-Ok-answer-clause-taken : goal.returns-in-Ok-answer-clause-taken
returns-in-Ok-answer-clause-taken g c command asked =
    subst (λ (k : Command). IfSome (meaning k).reads (λ most. TakesAtMost most (g.S.Source.left c.args.src.now) (g.S.Source.left c.answer.new.src))) (same_Some c.in-Ok.command command (sym c.in-Ok.ensures.command ∙ asked)) c.in-Ok-answer.ensures.taken

pub returns-in-Err-clause-taken : goal.returns-in-Err-clause-taken
returns-in-Err-clause-taken g c command asked =
    subst (λ (k : Command). IfSome (meaning k).reads (λ most. TakesAtMost most (g.S.Source.left c.args.src.now) (g.S.Source.left c.answer.new.src))) (same_Some c.in-Ok.command command (sym c.in-Ok.ensures.command ∙ asked)) c.in-Err.ensures.taken

-- ---- causes

pub returns-in-Err-Usage-clause-causes : goal.returns-in-Err-Usage-clause-causes
returns-in-Err-Usage-clause-causes g c = no_causes Usage _ (λ is. cc) (λ is. cc) (λ is. cc)

pub returns-in-Err-NoMemory-clause-causes : goal.returns-in-Err-NoMemory-clause-causes
returns-in-Err-NoMemory-clause-causes g c = no_causes NoMemory _ (λ is. cc) (λ is. cc) (λ is. cc)

pub returns-in-Ok-answer-clause-causes : goal.returns-in-Ok-answer-clause-causes
returns-in-Ok-answer-clause-causes g c = c.in-Ok-answer.ensures.causes

pub returns-in-Err-clause-causes : goal.returns-in-Err-clause-causes
returns-in-Err-clause-causes g c = c.in-Err.ensures.causes

-- ---- the disk comes after the source

pub returns-in-Ok-answer-clause-source_first : goal.returns-in-Ok-answer-clause-source_first
returns-in-Ok-answer-clause-source_first g c = c.in-Ok-answer.ensures.source_first

pub returns-in-Err-clause-source_first : goal.returns-in-Err-clause-source_first
returns-in-Err-clause-source_first g c = c.in-Err.ensures.source_first
