-- What a batch is answered, and that it is answered in one way.
use Rattle.std.proofs.Common.{◌≡◌, ◌∙◌, ℕ, ◌<◌, inl, inr, List, [], ◌∷◌, Some, length, map, get_or, refl, sym, ap, subst, arith}
use Rattle.std.proofs.lemmas.List.{get_or-map, length-map, same_lists}
use Rattle.std.proofs.lemmas.Option.{none-some, same_Some}
use Rattle.amr_batch.specs.Answer.{JobReply, answer_text, job_reply}
use Rattle.amr_batch.specs.Batch.{IsBatch, bytes_in}
use Rattle.amr_batch.specs.Replies.{AreReplies, job_at, no_span}
use Rattle.amr_batch.specs.declared.answer.Reply.{Reply}
use Rattle.amr_batch.specs.declared.spans.Span.{Span}
use Rattle.amr_batch.proofs.OneReading.{has_one_reading}
use Rattle.amr_def.specs.declared.problem.Problem.{Problem}
use Rattle.amr_def.specs.Plot.{plot_all}
use Rattle.amr_def.specs.Species.{run_all}
use Rattle.amr_problem.specs.declared.fault.ProblemFault.{ProblemFault}
use Rattle.amr_problem.specs.Judgement.{IsProblemOf, fault_of}
use Rattle.amr_problem.proofs.OneProblem.{one_problem}
use Rattle.amr_run.specs.Answer.{IsSoundRun}
use Rattle.amr_run.specs.Batch.{IsBatchAnswer, IsReplyTo}
use Rattle.amr_run.specs.Laws.{BatchesHaveOneAnswer, JobsHaveOneReply, RepliesStandAlone}
use Rattle.amr_run.specs.Texts.{message}
use Rattle.amr_run.specs.declared.status.Status.TheVariants as status

-- ---- one way

same_reply : (one other : JobReply) → one.code ≡ other.code → one.text ≡ other.text → one ≡ other
same_reply one other code text = λ i. record { code = code i; text = text i }

pub one_reply : JobsHaveOneReply
one_reply job one other (inl a) (inl b) =
    let same = one_problem job a.plot.problem b.plot.problem a.plot.accepted b.plot.accepted in
    same_reply one other (a.done ∙ sym b.done) (a.plot.text ∙ ap (λ (p : Problem). plot_all p (run_all p p.steps)) same ∙ sym b.plot.text)
one_reply job one other (inl a) (inr b) = absurd (none-some b.fault (sym a.plot.accepted.clean ∙ b.first))
one_reply job one other (inr a) (inl b) = absurd (none-some a.fault (sym b.plot.accepted.clean ∙ a.first))
one_reply job one other (inr a) (inr b) =
    let same = same_Some a.fault b.fault (sym a.first ∙ b.first) in
    same_reply one other (a.refused ∙ sym b.refused) (a.line ∙ ap (λ (f : ProblemFault). message (status.Problem f)) same ∙ sym b.line)

pub stand_alone : RepliesStandAlone
stand_alone bytes others out more a b i j job reply here there same =
    one_reply (get_or b.jobs j job) (get_or a.replies i reply) (get_or b.replies j reply)
    (subst (λ (k : List ℕ). IsReplyTo k (get_or a.replies i reply)) same (a.each i job reply here)) (b.each j job reply there)

pub one_answer : BatchesHaveOneAnswer
one_answer bytes out more a b =
    let jobs : a.jobs ≡ b.jobs = has_one_reading bytes a.jobs b.jobs a.batch b.batch in
    let count : length a.replies ≡ length b.replies = a.count ∙ ap length jobs ∙ sym b.count in
    let each : (k : ℕ) (d : JobReply) → k < length a.replies → get_or a.replies k d ≡ get_or b.replies k d =
    λ k d below. stand_alone bytes bytes out more a b k k [] d (omega (arith, below, a.count)) (omega (arith, below, count, b.count)) (ap (λ (l : List (List ℕ)). get_or l k []) jobs) in
    a.text ∙ ap answer_text (same_lists a.replies b.replies count each) ∙ sym b.text

-- ---- a reply

pub plot_reply : (job : List ℕ) (p : Problem) (text : List ℕ) → IsProblemOf job p → text ≡ plot_all p (run_all p p.steps) → IsSoundRun p p.steps → IsReplyTo job (record { code = 0; text = text })
plot_reply job p text accepted is sound = inl (record { done = refl; plot = record { problem = p; accepted = accepted; text = is; run = sound } })

pub line_reply : (job : List ℕ) (fault : ProblemFault) (code : ℕ) (text : List ℕ) → fault_of job ≡ Some fault → code ≡ 3 → text ≡ message (status.Problem fault) → IsReplyTo job (record { code = code; text = text })
line_reply job fault code text first refused is = inr (record { fault = fault; first = first; refused = refused; line = is })

-- ---- the answer

some_of : {A : Type 0} (xs : List A) (k : ℕ) → k < length xs → A
some_of [] k below = absurd (omega (arith, below))
some_of (x ∷ xs) k below = x

-- the replies of the jobs that stand in the bytes
pub is_batch_answer : (bytes read : List ℕ) (spans jobs : List Span) (replies : List Reply) → read ≡ bytes → spans ≡ jobs → IsBatch bytes (map (bytes_in bytes) jobs) → AreReplies (λ job r. IsReplyTo job (job_reply r)) read spans replies
    → IsBatchAnswer bytes (answer_text (map job_reply replies))
is_batch_answer bytes read spans jobs replies same found batch are = record {
  jobs = map (bytes_in bytes) spans;
  batch = subst (λ (l : List Span). IsBatch bytes (map (bytes_in bytes) l)) (sym found) batch;
  replies = map job_reply replies;
  count = length-map replies job_reply ∙ are.count ∙ sym (length-map spans (bytes_in bytes));
  each = each;
  text = refl;
}
  where
    each : (k : ℕ) (job : List ℕ) (reply : JobReply) → k < length (map (bytes_in bytes) spans) → IsReplyTo (get_or (map (bytes_in bytes) spans) k job) (get_or (map job_reply replies) k reply)
    each k job reply below =
        let inside : k < length spans = omega (arith, below, length-map spans (bytes_in bytes)) in
        let answered : k < length replies = omega (arith, inside, are.count) in
        let d = some_of replies k answered in
        let job_is : job_at read spans k ≡ get_or (map (bytes_in bytes) spans) k job =
        ap (λ (b : List ℕ). bytes_in b (get_or spans k no_span)) same ∙ sym (get_or-map (bytes_in bytes) spans k no_span job inside) in
        let reply_is : job_reply (get_or replies k d) ≡ get_or (map job_reply replies) k reply = sym (get_or-map job_reply replies k d reply answered) in
        subst (λ (j : List ℕ). IsReplyTo j (get_or (map job_reply replies) k reply)) job_is (subst (IsReplyTo (job_at read spans k)) reply_is (are.each k d answered))
