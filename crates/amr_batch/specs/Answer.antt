-- The answer to a batch: the reply of each job, in order, and the end. (profile)
use Rattle.std.specs.Prelude.{ℕ, List, [], ◌∷◌, ◌++◌, length, codes, decimal}
use Rattle.amr_def.specs.Plot.{line, numbered, spaced}
use Rattle.amr_batch.specs.declared.answer.Reply.{Reply}

-- a job's exit status, and the bytes of its answer
pub record JobReply : Type 0 where
  pub code : ℕ
  pub text : List ℕ

abbrev pub job_reply : Reply → JobReply
job_reply r = record { code = r.code; text = r.text.items }

-- the reply of a job by its number: a line with its status and its length, and its bytes
abbrev pub reply_text : ℕ → JobReply → List ℕ
reply_text i r = line (spaced (codes "reply" ∷ decimal i ∷ decimal r.code ∷ decimal (length r.text) ∷ [])) ++ r.text

-- the replies of jobs 0, 1 and so on, and the end
abbrev pub answer_text : List JobReply → List ℕ
answer_text replies = numbered reply_text 0 replies ++ line (codes "end")
