use Rattle.std.proofs.Common.{◌++◌, ◌∙◌, ap, subst, sym, ⊎_elim, inl, inr}
use Rattle.amr_causes.proofs.ByteLaws.{grows_more}
use Rattle.amr_causes.proofs.CauseLaws.{rose_before}
use Rattle.amr_cli.specs.Words.{command_of}
use Rattle.amr_run.specs.Outcome.{EndsAtSource}
use Rattle.amr_run.specs.Texts.{message}
use Rattle.amr_run.proofs.Outcomes.{ends_by_line, err_before, is_complete, told}
use Rattle.amr_run.proofs.run.amr_gated.Goals as goal

pub returns : goal.returns
returns g c =
    let holds = g.E.Sink.holds in
    let faults = g.E.Sink.faults in
    let status = c.serve-status.result in
    let serve = c.serve-status.ensures in
    let old = faults c.args.err.now in
    let mid = faults c.serve-status.new.err in
    let now = faults c.tell.new.err in
    let done = serve.outcome in
    let all = done.1.1 in
    let line = told holds c.serve-status.new.err c.tell.new.err mid now (message status) c.tell.result c.tell.ensures.whole c.tell.ensures.short c.tell.ensures.cause in
    let before = err_before status _ old mid (λ other. (serve.causes.no_write_fault other).1) serve.causes.write_fault in
    record {
      served = record {
        bytes = done.0;
        sent = done.1.0;
        said = all.0;
        all = all.0 ++ line.0;
        had_left = all.1;
        out_grows = all.2;
        err_grows = grows_more holds c.args.err.now c.serve-status.new.err c.tell.new.err all.0 line.0 all.3 line.1;
        outcome = all.4;
        line = ends_by_line status all.0 line.0 old mid now before line.2 line.3;
        stops = all.5;
        settled = serve.settled;
        ended = serve.ended;
        unread = serve.unread;
        taken = serve.taken;
        unopened = serve.unopened;
        unwritten = serve.unwritten;
        source_first = λ is. serve.source_first (subst EndsAtSource (sym is) tt);
        judged_first = λ fault is. serve.source_first (subst EndsAtSource (sym is) tt);
        species_first = λ k is. serve.source_first (subst EndsAtSource (sym is) tt);
        untouched = λ none. let same = serve.untouched none in (same.0, same.1, same.3);
        quiet = λ command asked keeps is. c.tell.ensures.quiet is ∙ serve.silent command asked keeps;
        read_fault = serve.causes.read_fault;
        disk_fault = serve.causes.disk_fault;
        write_fault = λ is. ⊎_elim (λ h. inl h.0) (λ h. inr (rose_before old mid now h c.tell.ensures.cause.later)) (serve.causes.write_fault is);
        no_read_fault = serve.causes.no_read_fault;
        no_disk_fault = serve.causes.no_disk_fault;
        no_write_fault = λ other. (serve.causes.no_write_fault other).0;
        no_line_fault = λ is. ap faults (c.tell.ensures.quiet is) ∙ (serve.causes.no_write_fault (λ other. absurd (cc))).1;
        complete = λ command asked has no_read no_write no_line no_disk.
            is_complete status (command_of c.args.words.now) command done.0 (g.D.Disk.seen c.args.disk.now) done.1.0 all.0 asked (has done.0 all.1) all.4
            (λ is. no_read (serve.causes.read_fault is))
            (λ is. ⊎_elim (λ h. no_write h.0) (λ h. no_line (rose_before old mid now h c.tell.ensures.cause.later)) (serve.causes.write_fault is))
            (λ is. no_disk (serve.causes.disk_fault is));
      };
    }
