use Rattle.std.proofs.Common.{◌≡◌, ℕ, List, inl, inr, subst, arith}
use Rattle.amr_batch.specs.Batch.{BeginsWith, HasNoJob, IsMalformedAt}
use Rattle.amr_batch.proofs.JobsRead.{breaks_here, one_more_read, whole_rest}
use Rattle.amr_batch.proofs.spans.jobs.Goals as goal

pub returns-then-len-eq-MOST_JOBS-clause-malformed : goal.returns-then-len-eq-MOST_JOBS-clause-malformed
returns-then-len-eq-MOST_JOBS-clause-malformed c place e =
    let l = c.loop-at in
    let same : l.at ≡ place = cc in
    subst (λ (n : ℕ). IsMalformedAt c.args.bytes.now n) same
    (breaks_here c.args.bytes.now l.spans.items l.at l.invariant c.loop-at-test.true (omega (arith, c.if-bytes-gt-MOST_BYTES.false)) (inr (omega (arith, c.len.ensures, c.if-len-eq-MOST_JOBS.true))))

pub returns-in_default-clause-malformed : goal.returns-in_default-clause-malformed
returns-in_default-clause-malformed c place e =
    let l = c.loop-at in
    let same : l.at ≡ place = cc in
    subst (λ (n : ℕ). IsMalformedAt c.args.bytes.now n) same
    (breaks_here c.args.bytes.now l.spans.items l.at l.invariant c.loop-at-test.true (omega (arith, c.if-bytes-gt-MOST_BYTES.false)) (inl (subst (λ (bs : List ℕ). HasNoJob bs) (whole_rest c.args.bytes.now l.at) c.in_default.ensures.none)))

pub loop-at-preserved : goal.loop-at-preserved
loop-at-preserved c =
    let l = c.loop-at in
    one_more_read c.args.bytes.now l.spans.items l.at c.in-Some.job.from c.in-Some.job.len l.invariant (omega (arith, l.invariant.few, c.len.ensures, c.if-len-eq-MOST_JOBS.false)) (subst (λ (bs : List ℕ). BeginsWith bs c.in-Some.job.from c.in-Some.job.len) (whole_rest c.args.bytes.now l.at) c.in-Some.ensures.found) c.push.new.self.items c.in_ok-push.ensures.items
