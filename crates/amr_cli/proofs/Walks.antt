-- Where a simple command without commands of its own takes words, each value that it found passes the parser of its argument.
use Rattle.std.proofs.Common.{◌≡◌, ◌∙◌, ℕ, zero, suc, ◌⊎◌, inl, inr, Bool, true, false, ◌&&◌, not, nat_lt, List, [], ◌∷◌, ◌++◌, length, drop, Option, Some, None, is_some, if◌then◌else◌, slice_get, encode_utf8, option_and_then, refl, sym, ap, subst}
use Rattle.std.specs.Prelude.{find}
use Rattle.std.specs.List.{fold}
use Rattle.std.specs.Option.{option_map_or}
use Rattle.std.specs.Str.{bytes_eq, chars}
use Rattle.std.proofs.lemmas.Bool.{cases_Bool, true≢false}
use Rattle.std.proofs.lemmas.Option.{same_Some}
use Rattle.std.proofs.lemmas.Slice.Eq.{bytes_eq-Decides}
use Rattle.clap.specs.Facts.{explicit_source, parser_of_value, unwrap_or_range}
use Rattle.clap.specs.Takes.{is_given}
use Rattle.clap.specs.Faults.{action_fault, bundle_fault, check_fault, defaults_fault, level_fault, flag_word_fault, flags_fault, bundle_step_fault, long_fault, option_fault, other_fault, positional_fault, react_fault, repeat_fault, settle_fault, short_fault, step_fault, stray_fault, turn_fault, use_fault, values_fault, walk_fault, word_fault}
use Rattle.clap.specs.Kinds.{Kinds, or_else, range_kinds, value_kinds, values_kinds}
use Rattle.clap.specs.Lexer.{long_of, short_of}
use Rattle.clap.specs.Simple.{Shape}
use Rattle.clap.specs.ValueTests.{accepts}
use Rattle.clap.specs.Walk.{Held, Outcome, Row, Rule, Step, Text, Waiting, Walk, action_of, after_flag, after_step, has_long, has_short, arg_by_id, arg_by_index, arg_by_long, arg_by_short, attached_value, bundle, bundle_met, bundle_step, finished, flag_met, is_pending, long_met, long_or_other, more_values, nothing_held, pushed, rows_after, default_rows, first_of, has_row, subcommand_or_other, walked_from, most_values, option_met, option_word, plain_word, reacted, reading_by, settled_rows, used_by_id, settled, short_met, short_or_plain, subcommand_met, takes_several, takes_values, to_positional, used, used_as, values_or_missing, walk, walk_from, walked, with_default, with_values, without, word_met, done, waits, plain, refused, idle, option, positional, next, trailing, subcommand, value}
use Rattle.clap.specs.declared.builder.action.ArgAction.{ArgAction}
use Rattle.clap.specs.declared.builder.action.ArgAction.TheVariants.{Set, Help}
use Rattle.clap.specs.declared.error.kind.ErrorKind.TheVariants as kind
use Rattle.clap.specs.declared.parser.matches.ValueSource.{ValueSource}
use Rattle.clap.specs.declared.parser.matches.ValueSource.TheVariants.{CommandLine}
use Rattle.clap.specs.declared.builder.value_parser.Reading.{Reading}

-- ---- lists of kinds

pub first_none : (ks ls : Kinds) → or_else ks ls ≡ [] → ks ≡ []
first_none [] ls h = refl
first_none (k ∷ ks) ls h = absurd (cc)

pub second_none : (ks ls : Kinds) → or_else ks ls ≡ [] → ls ≡ []
second_none [] ls h = h
second_none (k ∷ ks) ls h = absurd (cc)

-- ---- each element of a list

abbrev pub Every : {X : Type 0} → (X → Type 0) → List X → Type 0
Every P [] = Unit {0}
Every P (x ∷ xs) = P x × Every P xs

found_in : {X : Type 0} (P : X → Type 0) (test : X → Bool) (xs : List X) (x : X) → Every P xs → find test xs ≡ Some x → P x
found_in P test [] x all h = absurd (cc)
found_in P test (y ∷ ys) x all h = by_test (test y) h (found_in P test ys x all.1)
  where
    by_test : (t : Bool) → (if t then Some y else find test ys) ≡ Some x → (find test ys ≡ Some x → P x) → P x
    by_test true is more = let same : y ≡ x = same_Some y x is in subst P same all.0
    by_test false is more = more is

-- ---- rows whose first value passes

-- the first value passes the argument's parser
abbrev pub Fits : Rule → List Text → Type 0
Fits a [] = ⊥
Fits a (t ∷ ts) = accepts a.ignore_case (parser_of_value a.parser) t ≡ true

fits_more : (a : Rule) (vs ws : List Text) → Fits a vs → Fits a (vs ++ ws)
fits_more a [] ws h = absurd h
fits_more a (v ∷ vs) ws h = h

-- values that do not fail, where some are wanted
fits_from : (a : Rule) (v : Text) (vs : List Text) → values_fault a (v ∷ vs) ≡ [] → Fits a (v ∷ vs)
fits_from a v vs h =
    let none = first_none (value_kinds a.ignore_case (parser_of_value a.parser) v) (values_kinds a.ignore_case (parser_of_value a.parser) vs) h in
    elim (cases_Bool (accepts a.ignore_case (parser_of_value a.parser) v)) [
      | inl pass ↦ pass
      | inr fail ↦ absurd (let e = rw fail at none in cc)
    ]

-- an argument of these, which takes one value or asks for help
pub record IsPlainRule (c : List Rule) (a : Rule) : Type 0 where
  pub own : arg_by_id c a.id ≡ Some a
  pub action : (action_of a ≡ Set) ⊎ (action_of a ≡ Help)
  pub some : action_of a ≡ Set → nat_lt 0 (unwrap_or_range a.range).start_inclusive ≡ true
  pub no_default : a.defaults ≡ []

module _ (c : List Rule) where
  abbrev pub RowFits : Row → Type 0
  RowFits r = (a : Rule) → arg_by_id c r.id ≡ Some a → Fits a r.values

  abbrev pub RowsFit : List Row → Type 0
  RowsFit [] = Unit {0}
  RowsFit (r ∷ rs) = RowFits r × RowsFit rs

  without_fit : (id : Text) (rows : List Row) → RowsFit rows → RowsFit (without id rows)
  without_fit id [] h = tt
  without_fit id (r ∷ rs) h = by_test (bytes_eq r.id id) (without_fit id rs h.1)
    where
      by_test : (t : Bool) → RowsFit (without id rs) → RowsFit (if t then [] ++ rs else r ∷ without id rs)
      by_test true more = h.1
      by_test false more = (h.0, more)

  with_values_fit : (id : Text) (how : Reading) (s : ValueSource) (vs : List Text) (rows : List Row) → ((a : Rule) → arg_by_id c id ≡ Some a → Fits a vs) → RowsFit rows → RowsFit (with_values id how s vs rows)
  with_values_fit id how s vs [] new h = (new, tt)
  with_values_fit id how s vs (r ∷ rs) new h = by_test (bytes_eq r.id id) (with_values_fit id how s vs rs new h.1)
    where
      by_test : (t : Bool) → RowsFit (with_values id how s vs rs) → RowsFit (if t then more_values s vs r ++ rs else r ∷ with_values id how s vs rs)
      by_test true more = (λ a is. fits_more a r.values vs (h.0 a is), h.1)
      by_test false more = (h.0, more)

  module _ (again : Bool) where
    used_set : (a : Rule) (vs : List Text) (rows : List Row) → arg_by_id c a.id ≡ Some a → nat_lt 0 (unwrap_or_range a.range).start_inclusive ≡ true
        → or_else (range_kinds (unwrap_or_range a.range).start_inclusive (most_values a) (length vs)) (action_fault Set again a (values_or_missing a vs) rows) ≡ [] → RowsFit rows → (how : Reading) → RowsFit (used_as Set a.id how (values_or_missing a vs) rows)
    used_set a [] rows own some h fit how = absurd (let none = first_none (range_kinds (unwrap_or_range a.range).start_inclusive (most_values a) 0) (action_fault Set again a (values_or_missing a []) rows) h in let e = rw some at none in cc)
    used_set a (v ∷ vs) rows own some h fit how =
        let of_action = second_none (range_kinds (unwrap_or_range a.range).start_inclusive (most_values a) (length (v ∷ vs))) (action_fault Set again a (v ∷ vs) rows) h in
        let of_values = second_none (repeat_fault again a.id rows) (values_fault a (v ∷ vs)) of_action in
        let fits = fits_from a v vs of_values in
        with_values_fit a.id how CommandLine (v ∷ vs) (without a.id rows) (λ b is. subst (λ (x : Rule). Fits x (v ∷ vs)) (same_Some a b (sym own ∙ is)) fits) (without_fit a.id rows fit)

    used_fit : (a : Rule) (vs : List Text) (rows : List Row) → IsPlainRule c a → use_fault again a vs rows ≡ [] → RowsFit rows → RowsFit (used a vs rows)
    used_fit a vs rows plain_rule h fit =
        elim plain_rule.action [
          | inl set ↦
              subst (λ (x : ArgAction). or_else (range_kinds (unwrap_or_range a.range).start_inclusive (most_values a) (length vs)) (action_fault x again a (values_or_missing a vs) rows) ≡ [] → RowsFit (used_as x a.id (reading_by a) (values_or_missing a vs) rows)) (sym set)
              (λ k. used_set a vs rows plain_rule.own (plain_rule.some set) k fit (reading_by a)) h
          | inr help ↦ subst (λ (x : ArgAction). RowsFit (used_as x a.id (reading_by a) (values_or_missing a vs) rows)) (sym help) fit
        ]

    -- ---- what is held

    module _ (good : Every (IsPlainRule c) c) where
      abbrev HeldFits : Held → Type 0
      HeldFits h = RowsFit h.rows

      plain_by_id : (id : Text) (a : Rule) → arg_by_id c id ≡ Some a → IsPlainRule c a
      plain_by_id id a is = found_in (IsPlainRule c) (λ (b : Rule). bytes_eq b.id id) c a good is

      settled_fit : (h : Held) → settle_fault c again h ≡ [] → HeldFits h → HeldFits (settled c h)
      settled_fit h none fit = by_pending h.pending none
        where
          by_pending : (p : Option (Text × List Text)) → option_map_or (λ (q : Text × List Text). option_map_or (λ (a : Rule). use_fault again a q.1 h.rows) (arg_by_id c q.0) []) p [] ≡ [] → RowsFit (settled_rows c p h.rows)
          by_pending None k = fit
          by_pending (Some q) k = by_rule (arg_by_id c q.0) refl k
            where
              by_rule : (o : Option Rule) → arg_by_id c q.0 ≡ o → option_map_or (λ (a : Rule). use_fault again a q.1 h.rows) o [] ≡ [] → RowsFit (used_by_id o q.1 h.rows)
              by_rule None is k = fit
              by_rule (Some a) is k = used_fit a q.1 h.rows (plain_by_id q.0 a is) k fit

      reacted_fit : (a : Rule) (vs : List Text) (h : Held) → IsPlainRule c a → react_fault c again a vs h ≡ [] → HeldFits h → HeldFits (reacted c a vs h)
      reacted_fit a vs h plain_rule none fit =
          let before = first_none (settle_fault c again h) (use_fault again a vs (settled c h).rows) none in
          let applied = second_none (settle_fault c again h) (use_fault again a vs (settled c h).rows) none in
          used_fit a vs (settled c h).rows plain_rule applied (settled_fit h before fit)

      option_fit : (a : Rule) (v : Option Text) (h : Held) → IsPlainRule c a → option_fault c again a v h ≡ [] → HeldFits h → HeldFits (option_met c a v h).0
      option_fit a (Some v) h plain_rule none fit = reacted_fit a (v ∷ []) h plain_rule none fit
      option_fit a None h plain_rule none fit = settled_fit h none fit

      long_fit : (name : Text) (v : Option Text) (h : Held) → long_fault c again (arg_by_long c name) v h ≡ [] → HeldFits h → HeldFits (long_met c (arg_by_long c name) v h).0
      long_fit name v h none fit = by_rule (arg_by_long c name) refl none
        where
          flag : (a : Rule) (w : Option Text) → IsPlainRule c a → (if is_some w then kind.TooManyValues ∷ [] else react_fault c again a [] h) ≡ [] → RowsFit (flag_met c a w h).0.rows
          flag a (Some w) plain_rule k = fit
          flag a None plain_rule k = reacted_fit a [] h plain_rule k fit

          by_rule : (o : Option Rule) → arg_by_long c name ≡ o → long_fault c again o v h ≡ [] → RowsFit (long_met c o v h).0.rows
          by_rule None is k = fit
          by_rule (Some a) is k = by_kind (takes_values a) k
            where
              plain_rule : IsPlainRule c a
              plain_rule = found_in (IsPlainRule c) (λ (b : Rule). not (is_some b.index) && has_long b name) c a good is

              by_kind : (t : Bool) → (if t then option_fault c again a v h else (if is_some v then kind.TooManyValues ∷ [] else react_fault c again a [] h)) ≡ [] → RowsFit (if t then option_met c a v h else flag_met c a v h).0.rows
              by_kind true k = option_fit a v h plain_rule k fit
              by_kind false k = flag a v plain_rule k

      -- ---- a bundle of short flags

      short_fit : (x : ℕ) (rest : Text) (h : Held) (go : Held → Held × Outcome) (none_after : Held → Kinds) → ((k : Held) → none_after k ≡ [] → HeldFits k → HeldFits (go k).0)
          → short_fault c again (arg_by_short c x) rest h none_after ≡ [] → HeldFits h → HeldFits (short_met c (arg_by_short c x) rest h go).0
      short_fit x rest h go none_after more none fit = by_rule (arg_by_short c x) refl none
        where
          by_rule : (o : Option Rule) → arg_by_short c x ≡ o → short_fault c again o rest h none_after ≡ [] → RowsFit (short_met c o rest h go).0.rows
          by_rule None is k = fit
          by_rule (Some a) is k = by_kind (takes_values a) k
            where
              plain_rule : IsPlainRule c a
              plain_rule = found_in (IsPlainRule c) (λ (b : Rule). not (is_some b.index) && has_short b x) c a good is

              by_kind : (t : Bool) → (if t then option_fault c again a (attached_value rest) h else or_else (react_fault c again a [] h) (none_after (reacted c a [] h))) ≡ [] → RowsFit (if t then option_met c a (attached_value rest) h else go (reacted c a [] h)).0.rows
              by_kind true k = option_fit a (attached_value rest) h plain_rule k fit
              by_kind false k =
                  let here = first_none (react_fault c again a [] h) (none_after (reacted c a [] h)) k in
                  more (reacted c a [] h) (second_none (react_fault c again a [] h) (none_after (reacted c a [] h)) k) (reacted_fit a [] h plain_rule here fit)

      flags_fit : (n : ℕ) (flags : Text) (skip : ℕ) (so_far : Outcome) (h : Held) → flags_fault c again n flags skip h ≡ [] → HeldFits h → HeldFits (bundle_met c n flags skip so_far h).0
      unfolding bundle_met flags_fault
      flags_fit zero flags skip so_far h none fit = fit
      flags_fit (suc n) flags skip so_far h none fit = by_char (slice_get (chars flags) 0) skip none (flags_fit n)
        where
          by_char : (x : Option ℕ) (m : ℕ) → bundle_step_fault c again x flags m h (flags_fault c again n) ≡ [] → ((fs : Text) (j : ℕ) (o : Outcome) (k : Held) → flags_fault c again n fs j k ≡ [] → RowsFit k.rows → RowsFit (bundle_met c n fs j o k).0.rows) → RowsFit (bundle_step c x flags m so_far h (bundle_met c n)).0.rows
          by_char None m k more = fit
          by_char (Some x) zero k more =
              let rest = drop (length (encode_utf8 x)) flags in
              short_fit x rest h (bundle_met c n rest 0 done) (flags_fault c again n rest 0) (more rest 0 done) k fit
          by_char (Some x) (suc m) k more = more (drop (length (encode_utf8 x)) flags) m so_far h k fit

      -- ---- a word

      plain_rows : (waiting : Waiting) (word : Text) (h : Held) → (plain_word c waiting word h).0.rows ≡ h.rows
      plain_rows idle word h = refl
      plain_rows positional word h = refl
      plain_rows (option id) word h = of_rule (arg_by_id c id)
        where
          of_rule : (o : Option Rule) → (option_word o id word h).0.rows ≡ h.rows
          of_rule None = refl
          of_rule (Some a) = refl

      after_rows : (waiting : Waiting) (word : Text) (h : Held) (o : Outcome) → (after_flag c waiting word h o).0.rows ≡ h.rows
      after_rows waiting word h done = refl
      after_rows waiting word h (waits id) = refl
      after_rows waiting word h plain = plain_rows waiting word h
      after_rows waiting word h refused = plain_rows waiting word h

      other_fit : (waiting : Waiting) (word : Text) (h : Held) → flag_word_fault c again (long_of word) word h ≡ [] → HeldFits h → HeldFits (long_or_other c waiting word (long_of word) h).0
      other_fit waiting word h none fit = by_long (long_of word) none
        where
          by_short : (o : Option Text) → option_map_or (λ (flags : Text). bundle_fault c again flags h) o [] ≡ [] → RowsFit (short_or_plain c waiting word o h).0.rows
          by_short None k = subst RowsFit (sym (plain_rows waiting word h)) fit
          by_short (Some flags) k = subst RowsFit (sym (after_rows waiting word (bundle c flags h).0 (bundle c flags h).1)) (flags_fit (length flags) flags h.skip plain (record h { skip = 0 }) k fit)

          by_long : (o : Option (Text × Option Text)) → flag_word_fault c again o word h ≡ [] → RowsFit (long_or_other c waiting word o h).0.rows
          by_long (Some p) k = subst RowsFit (sym (after_rows waiting word (long_met c (arg_by_long c p.0) p.1 h).0 (long_met c (arg_by_long c p.0) p.1 h).1)) (long_fit p.0 p.1 h k fit)
          by_long None k = by_short (short_of word) k

-- ---- the words of a command without commands of its own

no_names : (waiting : Waiting) (word : Text) → subcommand_met [] waiting word ≡ None
no_names idle word = refl
no_names (option id) word = refl
no_names positional word = refl

module _ (s : Shape) (good : Every (IsPlainRule s.rules) s.rules) where
  abbrev Fit : List Row → Type 0
  Fit rows = RowsFit s.rules rows

  word_fit : (is_trailing : Bool) (waiting : Waiting) (position : ℕ) (word : Text) (h : Held) → word_fault s [] is_trailing waiting word h ≡ [] → Fit h.rows → Fit (word_met s.rules [] is_trailing waiting position word h).0.rows
  word_fit true waiting position word h none fit = fit
  word_fit false waiting position word h none fit = by_name (subcommand_met [] waiting word) (no_names waiting word) none
    where
      by_dashes : (t : Bool) → (if t then [] else flag_word_fault s.rules s.args_override_self (long_of word) word h) ≡ [] → Fit (if t then (h, trailing position) else long_or_other s.rules waiting word (long_of word) h).0.rows
      by_dashes true k = fit
      by_dashes false k = other_fit s.rules s.args_override_self good waiting word h k fit

      by_name : (o : Option Text) → o ≡ None → other_fault s o word h ≡ [] → Fit (subcommand_or_other s.rules o waiting position word h).0.rows
      by_name (Some n) is k = absurd (cc)
      by_name None is k = by_dashes (bytes_eq word (45 ∷ 45 ∷ [])) k

  step_fit : (w : Walk) (word : Text) (h : Held) (st : Step) → step_fault s w.position h st ≡ [] → Fit h.rows → Fit (after_step s.rules word w h st).held.rows
  step_fit w word h (next waiting) none fit = fit
  step_fit w word h (trailing p) none fit = fit
  step_fit w word h (subcommand name) none fit = fit
  step_fit w word h value none fit = by_rule (arg_by_index s.rules w.position) none
    where
      by_pending : (a : Rule) (t : Bool) → (if t then [] else settle_fault s.rules s.args_override_self h) ≡ [] → Fit (pushed a.id word (if t then h else settled s.rules h)).rows
      by_pending a true k = fit
      by_pending a false k = settled_fit s.rules s.args_override_self good h k fit

      by_rule : (o : Option Rule) → option_map_or (λ (a : Rule). positional_fault s.rules s.args_override_self a h) o (stray_fault s) ≡ [] → Fit (to_positional s.rules o word w h).held.rows
      by_rule None k = fit
      by_rule (Some a) k = by_pending a (is_pending a h.pending && takes_several a) k

  turn_fit : (w : Walk) (word : Text) → turn_fault s [] w word ≡ [] → Fit w.held.rows → Fit (walked s.rules [] w word).held.rows
  unfolding walked
  turn_fit w word none fit = by_stop w.stopped none
    where
      by_stop : (o : Option (Text × List Text)) → (if is_some o then [] else or_else (word_fault s [] w.is_trailing w.waiting word w.held) (step_fault s w.position (word_met s.rules [] w.is_trailing w.waiting w.position word w.held).0 (word_met s.rules [] w.is_trailing w.waiting w.position word w.held).1)) ≡ [] → Fit (walked_from s.rules [] o w word).held.rows
      by_stop (Some p) k = fit
      by_stop None k =
          let m = word_met s.rules [] w.is_trailing w.waiting w.position word w.held in
          let here = first_none (word_fault s [] w.is_trailing w.waiting word w.held) (step_fault s w.position m.0 m.1) k in
          step_fit w word m.0 m.1 (second_none (word_fault s [] w.is_trailing w.waiting word w.held) (step_fault s w.position m.0 m.1) k) (word_fit w.is_trailing w.waiting w.position word w.held here fit)

  words_fit : (words : List Text) (w : Walk) → walk_fault s [] w words ≡ [] → Fit w.held.rows → Fit (fold (walked s.rules []) w words).held.rows
  unfolding walk_fault
  words_fit [] w none fit = fit
  words_fit (word ∷ rest) w none fit =
      let here = first_none (turn_fault s [] w word) (walk_fault s [] (walked s.rules [] w word) rest) none in
      words_fit rest (walked s.rules [] w word) (second_none (turn_fault s [] w word) (walk_fault s [] (walked s.rules [] w word) rest) none) (turn_fit w word here fit)

  default_stays : (rows : List Row) (a : Rule) → a.defaults ≡ [] → with_default rows a ≡ rows
  default_stays rows a none = by_row (has_row a.id rows)
    where
      no_values : default_rows a.id (reading_by a) a.defaults rows ≡ rows
      no_values = ap (λ (vs : List Text). default_rows a.id (reading_by a) vs rows) none

      by_row : (t : Bool) → (if t then rows else default_rows a.id (reading_by a) a.defaults rows) ≡ rows
      by_row true = refl
      by_row false = no_values

  defaults_stay : (rules : List Rule) (rows : List Row) → Every (IsPlainRule s.rules) rules → fold with_default rows rules ≡ rows
  defaults_stay [] rows all = refl
  defaults_stay (a ∷ rules) rows all = ap (λ (rs : List Row). fold with_default rs rules) (default_stays rows a all.0.no_default) ∙ defaults_stay rules rows all.1

  -- where the words are taken, the rows that they leave fit
  pub rows_fit : (words : List Text) → level_fault s [] nothing_held words false [] ≡ [] → RowsFit s.rules (rows_after s.rules [] words)
  rows_fit words none =
      let w = walk_from nothing_held in
      let end = (walk s.rules [] nothing_held words).held in
      let rest = or_else (settle_fault s.rules s.args_override_self end) (or_else (defaults_fault (settled s.rules end).rows s.rules) (check_fault s (finished s.rules end) false)) in
      let walks = first_none (walk_fault s [] w words) rest none in
      let later = second_none (walk_fault s [] w words) rest none in
      let settles = first_none (settle_fault s.rules s.args_override_self end) (or_else (defaults_fault (settled s.rules end).rows s.rules) (check_fault s (finished s.rules end) false)) later in
      subst Fit (sym (defaults_stay s.rules (settled s.rules end).rows good)) (settled_fit s.rules s.args_override_self good end settles (words_fit words w walks tt))

  pub checks : (words : List Text) → level_fault s [] nothing_held words false [] ≡ [] → check_fault s (rows_after s.rules [] words) false ≡ []
  checks words none =
      let w = walk_from nothing_held in
      let end = (walk s.rules [] nothing_held words).held in
      let last = or_else (defaults_fault (settled s.rules end).rows s.rules) (check_fault s (finished s.rules end) false) in
      let later = second_none (walk_fault s [] w words) (or_else (settle_fault s.rules s.args_override_self end) last) none in
      let defaults = second_none (settle_fault s.rules s.args_override_self end) last later in
      second_none (defaults_fault (settled s.rules end).rows s.rules) (check_fault s (finished s.rules end) false) defaults

-- ---- what is found in rows that fit

module _ (c : List Rule) (id : Text) (a : Rule) (is : arg_by_id c id ≡ Some a) where
  pub first_passes : (rows : List Row) (t : Text) → RowsFit c rows → first_of id rows ≡ Some t → accepts a.ignore_case (parser_of_value a.parser) t ≡ true
  first_passes [] t fit h = absurd (cc)
  first_passes (r ∷ rs) t fit h = by_test (bytes_eq r.id id) refl h (first_passes rs t fit.1)
    where
      by_values : (vs : List Text) → Fits a vs → slice_get vs 0 ≡ Some t → accepts a.ignore_case (parser_of_value a.parser) t ≡ true
      by_values [] f e = absurd f
      by_values (v ∷ vs) f e = subst (λ (u : Text). accepts a.ignore_case (parser_of_value a.parser) u ≡ true) (same_Some v t e) f

      by_test : (b : Bool) → bytes_eq r.id id ≡ b → option_and_then (λ (q : Row). slice_get q.values 0) (if b then Some r else find (λ (q : Row). bytes_eq q.id id) rs) ≡ Some t → (first_of id rs ≡ Some t → accepts a.ignore_case (parser_of_value a.parser) t ≡ true) → accepts a.ignore_case (parser_of_value a.parser) t ≡ true
      by_test true e k more = by_values r.values (fit.0 a (ap (arg_by_id c) ((bytes_eq-Decides r.id id).0 e) ∙ is)) k
      by_test false e k more = more k

  pub given_first : (rows : List Row) → RowsFit c rows → is_given id rows ≡ true → is_some (first_of id rows) ≡ true
  given_first [] fit h = absurd (true≢false (sym h))
  given_first (r ∷ rs) fit h = by_test (bytes_eq r.id id) refl h (given_first rs fit.1)
    where
      by_values : (vs : List Text) → Fits a vs → is_some (slice_get vs 0) ≡ true
      by_values [] f = absurd f
      by_values (v ∷ vs) f = refl

      by_test : (b : Bool) → bytes_eq r.id id ≡ b → option_map_or (λ (q : Row). explicit_source q.source) (if b then Some r else find (λ (q : Row). bytes_eq q.id id) rs) false ≡ true → (is_given id rs ≡ true → is_some (first_of id rs) ≡ true)
          → is_some (option_and_then (λ (q : Row). slice_get q.values 0) (if b then Some r else find (λ (q : Row). bytes_eq q.id id) rs)) ≡ true
      by_test true e k more = by_values r.values (fit.0 a (ap (arg_by_id c) ((bytes_eq-Decides r.id id).0 e) ∙ is))
      by_test false e k more = more k
