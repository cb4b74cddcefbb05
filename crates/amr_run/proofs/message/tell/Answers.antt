use Rattle.std.proofs.Common.{List, ℕ, [], ◌++◌, ◌∙◌, ap, codes, sym}
use Rattle.amr_def.specs.Plot.{line}
use Rattle.amr_run.specs.Texts.{message}
use Rattle.amr_run.proofs.Messages.{whole_as}
use Rattle.amr_run.proofs.message.tell.Goals as goal

pub returns-in-BadView-clause-whole : goal.returns-in-BadView-clause-whole
returns-in-BadView-clause-whole g c =
    whole_as g.E.Sink.holds c.args.err.now c.put_line-in-BadView.new.sink c.put_line-in-BadView.result _ _
    (ap (λ (t : List ℕ). line (codes "amr: view outside: " ++ (t ++ []))) c.part_name.ensures ∙ ap message (sym c.in-BadView.is)) c.put_line-in-BadView.ensures.whole

pub returns-in-DiskFault-clause-whole : goal.returns-in-DiskFault-clause-whole
returns-in-DiskFault-clause-whole g c =
    whole_as g.E.Sink.holds c.args.err.now c.put_line-in-DiskFault.new.sink c.put_line-in-DiskFault.result _ _ (ap message (sym c.in-DiskFault.is)) c.put_line-in-DiskFault.ensures.whole

pub returns-in-NoMemory-clause-whole : goal.returns-in-NoMemory-clause-whole
returns-in-NoMemory-clause-whole g c =
    whole_as g.E.Sink.holds c.args.err.now c.put_line-in-NoMemory.new.sink c.put_line-in-NoMemory.result _ _ (ap message (sym c.in-NoMemory.is)) c.put_line-in-NoMemory.ensures.whole
