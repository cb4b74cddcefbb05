use Rattle.std.proofs.Common.{◌≡◌, ◌∙◌, ℕ, false, drop, sym, subst}
use Rattle.amr_store.proofs.Openings.{end_is, inner_damaged}
use Rattle.std.proofs.lemmas.Result.{IfOk-weaker}
use Rattle.amr_store.specs.declared.check.Checked.TheVariants.{Whole, Faulty}
use Rattle.amr_store.specs.Checks.{Checks}
use Rattle.amr_store.specs.Fields.{magic_in}
use Rattle.amr_store.specs.Stored.{tests, end_in}
use Rattle.amr_store.proofs.Readings.{reads_on}
use Rattle.amr_store.proofs.open.open_renewed.Goals as goal

pub returns-in-Ok-Whole-clause-told : goal.returns-in-Ok-Whole-clause-told
returns-in-Ok-Whole-clause-told g c =
    IfOk-weaker c.open_inner.result _ _ (λ found told s is held renewed.
    let base = c.end_of-base.result in
    let part = drop base s in
    let checked : Checks (Whole c.in-Ok-Whole.inner) (tests (magic_in false part) part) part = (rw c.in-Ok-Whole.field-0-is at c.in-Ok-Whole.ensures.told) s is in
    let at : base ≡ end_in s = c.end_of-base.ensures.place ∙ sym (end_is c.args.head s held.head_is) in
    told s (c.check.ensures.reads.same ∙ is) record { held = held.held; sound = held.sound; text_is = held.head_is.text_is; renewed = renewed; base_is = at } record { sound = checked.0; outline_is = checked.1 }) c.open_inner.ensures.told

pub returns-in-Ok-Faulty-clause-told : goal.returns-in-Ok-Faulty-clause-told
returns-in-Ok-Faulty-clause-told g c s is held renewed =
    let base = c.end_of-base.result in
    let part = drop base s in
    let checked : Checks (Faulty c.in-Ok-Faulty.part) (tests (magic_in false part) part) part = (rw c.in-Ok-Faulty.field-0-is at c.in-Ok-Faulty.ensures.told) s is in
    let at : base ≡ end_in s = c.end_of-base.ensures.place ∙ sym (end_is c.args.head s held.head_is) in
    inner_damaged c.args.head s c.in-Ok-Faulty.part held renewed (subst (λ (b : ℕ). Checks (Faulty c.in-Ok-Faulty.part) (tests (magic_in false (drop b s)) (drop b s)) (drop b s)) at checked)

pub returns-in-Ok-Whole-clause-reads : goal.returns-in-Ok-Whole-clause-reads
returns-in-Ok-Whole-clause-reads g c = reads_on g.D.Disk.seen g.D.Disk.moment g.D.Disk.leaves c.args.disk.now c.check.new.disk c.open_inner.new.disk c.check.ensures.reads c.open_inner.ensures.reads
