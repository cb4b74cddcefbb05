-- Words that begin with a command's name, ask for no help and have no fault are a command.
use Rattle.std.proofs.Common.{◌≡◌, ◌∙◌, ℕ, ◌⊎◌, inl, inr, ⊎_elim, Bool, true, false, ◌||◌, not, List, [], ◌∷◌, ◌++◌, Option, Some, None, is_some, option_map, option_and_then, codes, refl, sym, ap, subst, append_assoc, append-nil}
use Rattle.std.specs.Prelude.{find, unwrap_or}
use Rattle.std.specs.List.{fold, list_any}
use Rattle.std.specs.Str.{bytes_eq}
use Rattle.std.proofs.lemmas.Bool.{and_parts, true≢false, or_cases}
use Rattle.std.proofs.lemmas.Slice.Eq.{bytes_eq-Decides}
use Rattle.clap.specs.Faults.{check_fault, defaults_fault, settle_fault, entered_fault, fault_of, level_fault, walk_fault}
use Rattle.clap.specs.Kinds.{Kinds, check_kinds, or_else}
use Rattle.clap.specs.Simple.{Shape, built, entered, label_of, names_of, new_shape, subcommand_of}
use Rattle.clap.specs.Takes.{is_given}
use Rattle.clap.specs.ValueTests.{accepts}
use Rattle.clap.specs.Walk.{Held, Names, Row, Rule, Text, Walk, after_step, answers_to, arg_by_id, finished, first_of, idle, settled, subcommand_or_other, walked_from, nothing_held, rows_after, stop_after, walk, walk_from, walked}
use Rattle.clap.specs.declared.builder.value_parser.ValueParser.TheVariants as parser
use Rattle.clap.proofs.ValueTestLemmas.{accepts-Accepts}
use Rattle.amr_cli.specs.Table.{NumberRow, deltas, keep, level, number, size, species, to, workers, x0, x1, y0, y1}
use Rattle.amr_cli.specs.Program.{program_app}
use Rattle.amr_cli.specs.Numbers.{in_range, number_of}
use Rattle.amr_cli.specs.Words.{batch_of, command_from, command_of, corners_by, corners_of, may_be_command, is_command_name, is_help, option_of, option_or, value_or, place_of, run_by, run_of, species_of, trial_of, view_by, view_of, workers_of}
use Rattle.amr_cli.specs.declared.command.Command.TheVariants.{Batch, Trial}
use Rattle.amr_cli.proofs.Numerals.{taken_is_read}
use Rattle.amr_cli.proofs.Walks.{Every, IsPlainRule, RowsFit, checks, first_none, first_passes, given_first, rows_fit, second_none}

some_map : {A B : Type 0} (f : A → B) (o : Option A) → is_some o ≡ true → is_some (option_map f o) ≡ true
some_map f None h = h
some_map f (Some x) h = refl

-- ---- numbers in rows

module _ (row : NumberRow) (c : List Rule) (a : Rule) (is : arg_by_id c row.name ≡ Some a) (takes : a.parser ≡ Some (parser.Unsigned row.low row.high)) where
  read_here : (rows : List Row) (t : Text) → RowsFit c rows → first_of row.name rows ≡ Some t → is_some (option_and_then (in_range row.low row.high) (number_of t)) ≡ true
  read_here rows t fit there =
      let passes = first_passes c row.name a is rows t fit there in
      let by_parser : accepts a.ignore_case (parser.Unsigned row.low row.high) t ≡ true = rw takes at passes in
      taken_is_read row.low row.high t (accepts-Accepts a.ignore_case (parser.Unsigned row.low row.high) t by_parser)

  option_read : (rows : List Row) → RowsFit c rows → is_some (option_of row rows) ≡ true
  option_read rows fit = found (first_of row.name rows) refl
    where
      found : (o : Option Text) → first_of row.name rows ≡ o → is_some (option_of row rows) ≡ true
      found None there = rw there refl
      found (Some t) there = rw there (some_map (λ n. Some n) (option_and_then (in_range row.low row.high) (number_of t)) (read_here rows t fit there))

  or_read : (absent : ℕ) (rows : List Row) → RowsFit c rows → is_some (option_or absent row rows) ≡ true
  or_read absent rows fit = some_map (value_or absent) (option_of row rows) (option_read rows fit)

  place_read : (rows : List Row) → RowsFit c rows → is_given row.name rows ≡ true → is_some (place_of row rows) ≡ true
  place_read rows fit given = found (first_of row.name rows) refl (given_first c row.name a is rows fit given)
    where
      found : (o : Option Text) → first_of row.name rows ≡ o → is_some o ≡ true → is_some (option_and_then (λ (t : Text). option_and_then (in_range row.low row.high) (number_of t)) o) ≡ true
      found None there h = absurd (true≢false (sym h))
      found (Some t) there h = read_here rows t fit there

-- ---- the commands with numbers

abbrev run_shape : Shape
run_shape = unwrap_or (find (λ (s : Shape). answers_to (codes "run") (label_of s)) (built program_app).subs) (new_shape [])

abbrev trial_shape : Shape
trial_shape = unwrap_or (find (λ (s : Shape). answers_to (codes "trial") (label_of s)) (built program_app).subs) (new_shape [])

abbrev batch_shape : Shape
batch_shape = unwrap_or (find (λ (s : Shape). answers_to (codes "batch") (label_of s)) (built program_app).subs) (new_shape [])

abbrev view_shape : Shape
view_shape = unwrap_or (find (λ (s : Shape). answers_to (codes "view") (label_of s)) (built program_app).subs) (new_shape [])

run_plain : Every (IsPlainRule run_shape.rules) run_shape.rules
run_plain = (
  record { own = refl; action = inl refl; some = λ _. refl; no_default = refl },
  (
    record { own = refl; action = inl refl; some = λ _. refl; no_default = refl },
    (
      record { own = refl; action = inl refl; some = λ _. refl; no_default = refl },
      (
        record { own = refl; action = inl refl; some = λ _. refl; no_default = refl },
        (record { own = refl; action = inr refl; some = λ e. absurd (cc); no_default = refl }, tt),
      ),
    ),
  ),
)

trial_plain : Every (IsPlainRule trial_shape.rules) trial_shape.rules
trial_plain = (
  record { own = refl; action = inl refl; some = λ _. refl; no_default = refl },
  (
    record { own = refl; action = inl refl; some = λ _. refl; no_default = refl },
    (
      record { own = refl; action = inl refl; some = λ _. refl; no_default = refl },
      (record { own = refl; action = inr refl; some = λ e. absurd (cc); no_default = refl }, tt),
    ),
  ),
)

batch_plain : Every (IsPlainRule batch_shape.rules) batch_shape.rules
batch_plain = (
  record { own = refl; action = inl refl; some = λ _. refl; no_default = refl },
  (record { own = refl; action = inr refl; some = λ e. absurd (cc); no_default = refl }, tt),
)

view_plain : Every (IsPlainRule view_shape.rules) view_shape.rules
view_plain = (
  record { own = refl; action = inl refl; some = λ _. refl; no_default = refl },
  (
    record { own = refl; action = inl refl; some = λ _. refl; no_default = refl },
    (
      record { own = refl; action = inl refl; some = λ _. refl; no_default = refl },
      (
        record { own = refl; action = inl refl; some = λ _. refl; no_default = refl },
        (
          record { own = refl; action = inl refl; some = λ _. refl; no_default = refl },
          (
            record { own = refl; action = inl refl; some = λ _. refl; no_default = refl },
            (
              record { own = refl; action = inl refl; some = λ _. refl; no_default = refl },
              (record { own = refl; action = inr refl; some = λ e. absurd (cc); no_default = refl }, tt),
            ),
          ),
        ),
      ),
    ),
  ),
)

all_three : {A B C D : Type 0} (f : A → B → C → D) (a : Option A) (b : Option B) (c : Option C) → is_some a ≡ true → is_some b ≡ true → is_some c ≡ true → is_some (option_and_then (λ x. option_and_then (λ y. option_map (λ z. f x y z) c) b) a) ≡ true
all_three f None b c ha hb hc = absurd (true≢false (sym ha))
all_three f (Some x) None c ha hb hc = absurd (true≢false (sym hb))
all_three f (Some x) (Some y) None ha hb hc = absurd (true≢false (sym hc))
all_three f (Some x) (Some y) (Some z) ha hb hc = refl

all_four : {A B C D E : Type 0} (f : A → B → C → D → E) (a : Option A) (b : Option B) (c : Option C) (d : Option D) → is_some a ≡ true → is_some b ≡ true → is_some c ≡ true → is_some d ≡ true
    → is_some (option_and_then (λ x. option_and_then (λ y. option_and_then (λ z. option_map (λ w. f x y z w) d) c) b) a) ≡ true
all_four f None b c d ha hb hc hd = absurd (true≢false (sym ha))
all_four f (Some x) b c d ha hb hc hd = all_three (λ y z w. f x y z w) b c d hb hc hd

run_read : (words : List Text) → level_fault run_shape [] nothing_held words false [] ≡ [] → is_some (run_of (rows_after run_shape.rules [] words)) ≡ true
run_read words none =
    let rows = rows_after run_shape.rules [] words in
    let fit = rows_fit run_shape run_plain words none in
    all_four (λ w k e d. run_by w k e d) (workers_of rows) (option_of to rows) (option_of keep rows) (option_of deltas rows)
    (or_read workers run_shape.rules _ refl refl 1 rows fit)
    (option_read to run_shape.rules _ refl refl rows fit)
    (option_read keep run_shape.rules _ refl refl rows fit)
    (option_read deltas run_shape.rules _ refl refl rows fit)

-- what is wanted was given, and so was the rest of it
given_too : (a rest : Bool) → check_kinds false false ((not a) || rest) ≡ [] → (a ≡ true) × (check_kinds false false rest ≡ [])
given_too true rest h = (refl, h)
given_too false rest h = absurd (cc)

trial_read : (words : List Text) → level_fault trial_shape [] nothing_held words false [] ≡ [] → is_some (trial_of (rows_after trial_shape.rules [] words)) ≡ true
trial_read words none =
    let rows = rows_after trial_shape.rules [] words in
    let fit = rows_fit trial_shape trial_plain words none in
    let a = given_too (is_given number.name rows) ((not (is_given size.name rows)) || false) (checks trial_shape trial_plain words none) in
    let b = given_too (is_given size.name rows) false a.1 in
    all_three (λ n m w. Trial n m w) (place_of number rows) (place_of size rows) (workers_of rows)
    (place_read number trial_shape.rules _ refl refl rows fit a.0)
    (place_read size trial_shape.rules _ refl refl rows fit b.0)
    (or_read workers trial_shape.rules _ refl refl 1 rows fit)

batch_read : (words : List Text) → level_fault batch_shape [] nothing_held words false [] ≡ [] → is_some (batch_of (rows_after batch_shape.rules [] words)) ≡ true
batch_read words none =
    let rows = rows_after batch_shape.rules [] words in
    let fit = rows_fit batch_shape batch_plain words none in
    some_map (λ w. Batch w) (workers_of rows) (or_read workers batch_shape.rules _ refl refl 1 rows fit)

view_read : (words : List Text) → level_fault view_shape [] nothing_held words false [] ≡ [] → is_some (view_of (rows_after view_shape.rules [] words)) ≡ true
view_read words none =
    let rows = rows_after view_shape.rules [] words in
    let fit = rows_fit view_shape view_plain words none in
    let last : Bool = (not (is_given y1.name rows)) || false in
    let third : Bool = (not (is_given x1.name rows)) || last in
    let second : Bool = (not (is_given y0.name rows)) || third in
    let first : Bool = (not (is_given x0.name rows)) || second in
    let l = given_too (is_given level.name rows) first (checks view_shape view_plain words none) in
    let a = given_too (is_given x0.name rows) second l.1 in
    let b = given_too (is_given y0.name rows) third a.1 in
    let c = given_too (is_given x1.name rows) last b.1 in
    let d = given_too (is_given y1.name rows) false c.1 in
    all_four (λ l b s w. view_by l b s w) (place_of level rows) (corners_of rows) (species_of rows) (workers_of rows)
    (place_read level view_shape.rules _ refl refl rows fit l.0)
    (all_four (λ a b c d. corners_by a b c d) (place_of x0 rows) (place_of y0 rows) (place_of x1 rows) (place_of y1 rows)
    (place_read x0 view_shape.rules _ refl refl rows fit a.0)
    (place_read y0 view_shape.rules _ refl refl rows fit b.0)
    (place_read x1 view_shape.rules _ refl refl rows fit c.0)
    (place_read y1 view_shape.rules _ refl refl rows fit d.0))
    (or_read species view_shape.rules _ refl refl 0 rows fit)
    (or_read workers view_shape.rules _ refl refl 1 rows fit)

-- ---- the first word

abbrev top_rules : List Rule
top_rules = (built program_app).top.rules

abbrev command_names : Names
command_names = names_of (built program_app)

-- a walk that stopped takes the rest as it is
stopped_at : (rest : List Text) (w : Walk) (name : Text) (so_far : List Text) → w.stopped ≡ Some (name, so_far) → (fold (walked top_rules command_names) w rest).stopped ≡ Some (name, so_far ++ rest)
unfolding walked
stopped_at [] w name so_far is = is ∙ ap (λ (ts : List Text). Some (name, ts)) (sym (append-nil so_far))
stopped_at (word ∷ rest) w name so_far is =
    let more : (walked top_rules command_names w word).stopped ≡ Some (name, so_far ++ word ∷ []) = ap (λ (o : Option (Text × List Text)). (walked_from top_rules command_names o w word).stopped) is in
    stopped_at rest (walked top_rules command_names w word) name (so_far ++ word ∷ []) more ∙ ap (λ (ts : List Text). Some (name, ts)) (append_assoc so_far (word ∷ []) rest)

stop_is : (name : Text) (rest : List Text) → find (answers_to name) command_names ≡ Some (name, []) → stop_after top_rules command_names (name ∷ rest) ≡ Some (name, rest)
unfolding walked
stop_is name rest known =
    let w = walk_from nothing_held in
    let first : (walked top_rules command_names w name).stopped ≡ Some (name, []) =
    ap (λ (o : Option (Text × List Text)). (after_step top_rules name w (subcommand_or_other top_rules (option_map (λ (s : Text × List Text). s.0) o) idle 1 name nothing_held).0 (subcommand_or_other top_rules (option_map (λ (s : Text × List Text). s.0) o) idle 1 name nothing_held).1).stopped) known in
    stopped_at rest (walked top_rules command_names w name) name [] first

below_none : (top : Shape) (names : Names) (h : Held) (words : List Text) (sub : Bool) (below : Kinds) → level_fault top names h words sub below ≡ [] → below ≡ []
below_none top names h words sub below none =
    let end = (walk top.rules names h words).held in
    let last = or_else (settle_fault top.rules top.args_override_self end) (or_else (defaults_fault (settled top.rules end).rows top.rules) (check_fault top (finished top.rules end) sub)) in
    first_none below last (second_none (walk_fault top names (walk_from h) words) (or_else below last) none)

-- the command that was entered takes the words after its name
entered_none : (name : Text) (rest : List Text) → find (answers_to name) command_names ≡ Some (name, []) → fault_of program_app (name ∷ rest) ≡ [] → entered_fault (built program_app) (Some (name, rest)) ≡ []
entered_none name rest known none =
    let stop = stop_after top_rules command_names (name ∷ rest) in
    let below = below_none (built program_app).top command_names nothing_held (name ∷ rest) (is_some (entered (built program_app) stop)) (entered_fault (built program_app) stop) none in
    ap (entered_fault (built program_app)) (sym (stop_is name rest known)) ∙ below

-- ---- the law

module _ (rest : List Text) where
  abbrev IsRead : Text → Type 0
  IsRead name = is_some (command_from (subcommand_of program_app (name ∷ rest))) ≡ true

  entered_as : (name : Text) → find (answers_to name) command_names ≡ Some (name, []) → is_some (command_from (entered (built program_app) (Some (name, rest)))) ≡ true → IsRead name
  entered_as name known read = ap (λ (o : Option (Text × List Text)). is_some (command_from (entered (built program_app) o))) (stop_is name rest known) ∙ read

  abbrev IsTaken : Text → Type 0
  IsTaken name = fault_of program_app (name ∷ rest) ≡ [] → IsRead name

  run_taken : IsTaken (codes "run")
  run_taken none = entered_as (codes "run") refl (run_read rest (entered_none (codes "run") rest refl none))

  check_taken : IsTaken (codes "check")
  check_taken none = entered_as (codes "check") refl refl

  show_taken : IsTaken (codes "show")
  show_taken none = entered_as (codes "show") refl refl

  trial_taken : IsTaken (codes "trial")
  trial_taken none = entered_as (codes "trial") refl (trial_read rest (entered_none (codes "trial") rest refl none))

  batch_taken : IsTaken (codes "batch")
  batch_taken none = entered_as (codes "batch") refl (batch_read rest (entered_none (codes "batch") rest refl none))

  view_taken : IsTaken (codes "view")
  view_taken none = entered_as (codes "view") refl (view_read rest (entered_none (codes "view") rest refl none))

  named : (word : Text) → is_command_name word ≡ true → IsTaken word
  named word h =
      let view : Bool = bytes_eq word (codes "view") || false in
      let batch : Bool = bytes_eq word (codes "batch") || view in
      let trial : Bool = bytes_eq word (codes "trial") || batch in
      let show : Bool = bytes_eq word (codes "show") || trial in
      let check : Bool = bytes_eq word (codes "check") || show in
      let by_view = either (codes "view") false view_taken (λ e. absurd (true≢false (sym e))) in
      let by_trial = either (codes "trial") batch trial_taken (either (codes "batch") view batch_taken by_view) in
      either (codes "run") check run_taken (either (codes "check") show check_taken (either (codes "show") trial show_taken by_trial)) h
    where
      is : (name : Text) → bytes_eq word name ≡ true → IsTaken name → IsTaken word
      is name e taken = subst IsTaken (sym ((bytes_eq-Decides word name).0 e)) taken

      either : (name : Text) (others : Bool) → IsTaken name → (others ≡ true → IsTaken word) → bytes_eq word name || others ≡ true → IsTaken word
      either name others taken more e = ⊎_elim (λ t. is name t taken) more (or_cases (bytes_eq word name) others e)

taken : (words : List Text) → may_be_command words ≡ true → fault_of program_app words ≡ [] → is_some (command_from (subcommand_of program_app words)) ≡ true → is_some (command_of words) ≡ true
taken words may none read = rw (may, none) read

pub two_causes : (words : List Text) → may_be_command words ≡ true → fault_of program_app words ≡ [] → is_some (command_of words) ≡ true
two_causes [] may none = absurd (true≢false (sym may))
two_causes (word ∷ rest) may none = taken (word ∷ rest) may none (named rest word (and_parts (is_command_name word) (not (list_any is_help (word ∷ rest))) may).0 none)
