use Rattle.std.proofs.Common.{◌+◌, ◌-◌, [], ◌∷◌, List, All, map, sym, ap, subst, ◌∙◌, arith}
use Rattle.std.proofs.lemmas.List.{map-append}
use Rattle.std.proofs.lemmas.List.Elements.{All-push}
use Rattle.std.proofs.lemmas.Result.{err_from_is_err_and}
use Rattle.amr_codec.specs.Forms.{basis_of, form_of}
use Rattle.amr_def.specs.State as defined
use Rattle.amr_patch.specs.declared.levels.Level.{Level}
use Rattle.amr_patch.specs.Levels.{level_of}
use Rattle.amr_payload.specs.Payload.{Form}
use Rattle.amr_payload.specs.Tests.{read, read_all_finer, read_also}
use Rattle.amr_start.specs.PatchBoxes.{IsChopped}
use Rattle.amr_decoder.specs.Lefts.{left_of}
use Rattle.amr_decoder.specs.ReadLevels.{IsReadable, read_over}
use Rattle.amr_decoder.proofs.LevelReadings.{basis_forms}
use Rattle.amr_decoder.proofs.FinerLevels.{over_bad, over_end, over_next}
use Rattle.amr_decoder.proofs.Lists.{also_all, also_end, bad_next, more}
use Rattle.amr_decoder.proofs.Readings.{fault_also}
use Rattle.amr_decoder.proofs.finer.add_finer.Goals as goal

pub read_finer-requires-clause-form : goal.read_finer-requires-clause-form
read_finer-requires-clause-form c =
    subst (λ (f : Form). IsReadable c.args.p.now c.args.step (c.loop-k.k + 1) f) (sym c.form_at-form.ensures) (basis_forms c.args.p.now c.args.basis.now c.args.step (c.loop-k.k + 1) c.requires.basis c.requires.after)

pub loop-k-preserved : goal.loop-k-preserved
loop-k-preserved c =
    let l = c.loop-k in
    let fs = (basis_of c.args.basis.now).forms in
    let p = c.args.p.now in
    let n = c.args.step in
    let t = c.args.count in
    let r = left_of l.reader in
    let e = left_of c.read_finer.new.reader in
    let below = level_of l.last in
    let k = level_of c.in_ok-level.level in
    let now = read_all_finer fs p n (t - l.k) l.k below r in
    let next = read_all_finer fs p n (t - (l.k + 1)) (l.k + 1) k e in
    record {
      so_far = more (read_over fs p n t (level_of c.args.base) (left_of c.args.reader.now)) (map level_of l.levels.items) below (read_also below now) (read_also k next) l.invariant.so_far
          (ap (λ q. read_also below q) (over_next fs p n t l.k below (form_of c.form_at-form.result) k r e c.form_at-form.ensures c.loop-k-test.true c.in_ok-level.ensures.read))
          ∙ ap (λ (ks : List defined.Level). also_all ks (read_also k next)) (sym (map-append level_of l.levels.items (l.last ∷ [])) ∙ ap (map level_of) (sym c.in_ok-push.ensures.items));
      level = c.in_ok-level.ensures.level;
      chopped = subst (λ (ks : List Level). All (IsChopped p.max_grid_size) ks) (sym c.in_ok-push.ensures.items) (All-push (IsChopped p.max_grid_size) l.levels.items l.last l.invariant.chopped l.invariant.last);
      last = c.in_ok-level.ensures.chopped;
    }

pub returns-in_err-level-clause-bad : goal.returns-in_err-level-clause-bad
returns-in_err-level-clause-bad c =
    let l = c.loop-k in
    let fs = (basis_of c.args.basis.now).forms in
    let p = c.args.p.now in
    let n = c.args.step in
    let t = c.args.count in
    let r = left_of l.reader in
    let below = level_of l.last in
    let now = read_all_finer fs p n (t - l.k) l.k below r in
    let q = err_from_is_err_and c.from_residual.result c.from_residual.ensures.1 in
    rw (q.1, q.2) (bad_next (read_over fs p n t (level_of c.args.base) (left_of c.args.reader.now)) (map level_of l.levels.items) (read_also below now) c.in_err-level.field-0.0 l.invariant.so_far
    (fault_also below now c.in_err-level.field-0.0 (over_bad fs p n t l.k below (form_of c.form_at-form.result) r c.in_err-level.field-0.0 c.form_at-form.ensures c.loop-k-test.true c.in_err-level.ensures.bad)))

pub returns-clause-read : goal.returns-clause-read
returns-clause-read c =
    let l = c.loop-k in
    let fs = (basis_of c.args.basis.now).forms in
    let p = c.args.p.now in
    let n = c.args.step in
    let t = c.args.count in
    let r = left_of l.reader in
    let below = level_of l.last in
    l.invariant.so_far
    ∙ ap (λ q. also_all (map level_of l.levels.items) (read_also below q)) (over_end fs p n t l.k below r (omega (arith, c.loop-k-test.false)))
    ∙ also_end (map level_of l.levels.items) (below ∷ []) r
    ∙ ap (λ (ks : List defined.Level). read ks r) (sym (map-append level_of l.levels.items (l.last ∷ [])) ∙ ap (map level_of) (sym c.in_ok-push-2.ensures.items))

pub returns-clause-chopped : goal.returns-clause-chopped
returns-clause-chopped c =
    let l = c.loop-k in
    let max = c.args.p.now.max_grid_size in
    subst (λ (ks : List Level). All (IsChopped max) ks) (sym c.in_ok-push-2.ensures.items) (All-push (IsChopped max) l.levels.items l.last l.invariant.chopped l.invariant.last)
