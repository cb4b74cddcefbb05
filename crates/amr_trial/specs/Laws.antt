-- Laws of trials, each of which a call of this crate ensures.
use Rattle.std.specs.Prelude.{◌≡◌, ℕ, ◌+◌, ◌^◌, ◌<◌, ◌≤◌, true, length, Some}
use Rattle.std.specs.Str.{is_utf8}
use Rattle.amr_def.specs.declared.problem.Problem.{Problem}
use Rattle.amr_def.specs.declared.problem.Block.{Block}
use Rattle.amr_problem.specs.Judgement.{IsProblemOf}
use Rattle.toml.specs.Parse.{parse_document}
use Rattle.amr_trial.specs.Document.{document}
use Rattle.amr_trial.specs.Trial.{IsSize, block, courant_x, courant_y, text}

-- the Courant numbers of both axes, in eighths, add up to less than 1
abbrev pub CourantNumbersFit : Type 0
CourantNumbersFit = (number : ℕ) → courant_x number + courant_y number ≤ 7

-- the corners are in order and in the domain, and the mass is one that a problem may have
pub record LiesInside (size : ℕ) (b : Block) : Type 0 where
  pub columns : b.x0 ≤ b.x1
  pub rows : b.y0 ≤ b.y1
  pub east : b.x1 < size
  pub north : b.y1 < size
  pub mass : b.mass < 4096

abbrev pub BlocksLieInside : Type 0
BlocksLieInside = (number size k : ℕ) → IsSize size → LiesInside size (block number size k)

-- the text of a trial is TOML, and the table that it is
abbrev pub TextsAreDocuments : Type 0
TextsAreDocuments = (number size : ℕ) → number < 2 ^ 32 → IsSize size → parse_document (text number size) ≡ Some (document number size)

abbrev pub TextsAreUtf8 : Type 0
TextsAreUtf8 = (number size : ℕ) → number < 2 ^ 32 → IsSize size → is_utf8 (text number size) ≡ true

abbrev pub TextsAreShort : Type 0
TextsAreShort = (number size : ℕ) → number < 2 ^ 32 → IsSize size → length (text number size) ≤ 512

-- The judgement accepts the text of a trial: the text has no fault, and is a problem.
abbrev pub TextsAreAccepted : Type 0
TextsAreAccepted = (number size : ℕ) → number < 2 ^ 32 → IsSize size → (p : Problem) × IsProblemOf (text number size) p

-- and that problem has 16 steps
abbrev pub TrialsHaveSixteenSteps : Type 0
TrialsHaveSixteenSteps = (number size : ℕ) (p : Problem) → number < 2 ^ 32 → IsSize size → IsProblemOf (text number size) p → p.steps ≡ 16
