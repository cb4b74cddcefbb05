-- What calls that keep the checkpoints of a run said of them.
use Rattle.std.proofs.Common.{◌≡◌, ℕ, List, ◌++◌, Option, Some, None, sym, ◌∙◌, ap, subst, [], ◌∷◌}
use Rattle.std.proofs.lemmas.List.{append-nil}
use Rattle.amr_causes.specs.Bytes.{IsPrefix}
use Rattle.amr_causes.specs.Causes.{Rose}
use Rattle.amr_io.specs.Short.{IsProperPrefix}
use Rattle.amr_io.proofs.Shorter.{proper_after, proper_longer}
use Rattle.amr_checkpoint.specs.declared.faults.KeepFault.{KeepFault}
use Rattle.amr_checkpoint.specs.declared.faults.KeepFault.TheVariants as fault
use Rattle.amr_checkpoint.specs.Contents.{Content}
use Rattle.amr_checkpoint.specs.KeptCheckpoints.{AreFirstOf, ErrFailsBy, IsCutAtLast, IsSaid, Keeps, StandsBy}
use Rattle.amr_checkpoint.specs.Marks.{acknowledgement, acknowledgements}
use Rattle.amr_checkpoint.specs.Outside.{OutsideAt}
use Rattle.amr_checkpoint.proofs.KeptStates.{acks_on}

-- the lines of all that was to be made, or the first bytes of them: at a fault of `err` not all that it was to get
abbrev pub SaysOfRun : Option KeepFault → List ℕ → List ℕ → ℕ → ℕ → Type 0
SaysOfRun None said lines before now = (said ≡ lines) × (now ≡ before)
SaysOfRun (Some fault.DiskFault) said lines before now = IsPrefix said lines × (now ≡ before)
SaysOfRun (Some fault.NoMemory) said lines before now = IsPrefix said lines × (now ≡ before)
SaysOfRun (Some fault.WriteFault) said lines before now = IsProperPrefix said lines × Rose before now

-- the line of the last was cut short, so all of them were
cut_short : (said : List ℕ) (made : List Content) → IsCutAtLast said made → IsProperPrefix said (acknowledgements made)
cut_short said made h =
    subst (λ (t : List ℕ). IsProperPrefix t (acknowledgements made)) h.all
    (subst (IsProperPrefix (acknowledgements h.front ++ h.part))
    (ap (λ (t : List ℕ). acknowledgements h.front ++ t) (sym (append-nil (acknowledgement h.last))) ∙ sym (acks_on h.front (h.last ∷ [])) ∙ ap acknowledgements h.split)
    (proper_after (acknowledgements h.front) h.part (acknowledgement h.last) h.cut))

first_lines : (all first rest : List Content) → first ++ rest ≡ all → acknowledgements first ++ acknowledgements rest ≡ acknowledgements all
first_lines all first rest split = sym (acks_on first rest) ∙ ap acknowledgements split

first_said : (all stood : List Content) (said lines : List ℕ) → AreFirstOf all stood → said ≡ acknowledgements stood → acknowledgements all ≡ lines → IsPrefix said lines
first_said all stood said lines stands says same = record {
  rest = acknowledgements stands.rest;
  split = ap (λ (t : List ℕ). t ++ acknowledgements stands.rest) says ∙ first_lines all stood stands.rest stands.split ∙ same;
}

run_says : (ended : Option KeepFault) (all stood : List Content) (said lines : List ℕ) (before now : ℕ) → StandsBy ended all stood → IsSaid ended said stood → ErrFailsBy ended before now → acknowledgements all ≡ lines
    → SaysOfRun ended said lines before now
run_says None all stood said lines before now stands says fails same = (says ∙ ap acknowledgements stands ∙ same, fails)
run_says (Some fault.DiskFault) all stood said lines before now stands says fails same = (first_said all stood said lines stands says same, fails)
run_says (Some fault.NoMemory) all stood said lines before now stands says fails same = (first_said all stood said lines stands says same, fails)
run_says (Some fault.WriteFault) all stood said lines before now stands says fails same = (
  subst (IsProperPrefix said) (first_lines all stood stands.rest stands.split ∙ same)
      (proper_longer said (acknowledgements stood) (acknowledgements stands.rest) (cut_short said stood says)),
  fails,
)

pub says_of_run : (deltas : Option ℕ) (before after : OutsideAt) (all : List Content) (ended : Option KeepFault) (lines : List ℕ) → (h : Keeps deltas before after all ended) → acknowledgements all ≡ lines
    → SaysOfRun ended h.said lines before.err_faults after.err_faults
says_of_run deltas before after all ended lines h same = run_says ended all h.stood h.said lines before.err_faults after.err_faults h.stands h.says h.err_fails same
