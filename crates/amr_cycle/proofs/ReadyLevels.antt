-- What levels keep is ready for a step of them.
use Rattle.std.proofs.Common.{◌≡◌, ℕ, ◌+◌, Bool, true, false, not, List, ◌∷◌, get_or, sym, subst}
use Rattle.std.specs.declared.option.Option.{Option}
use Rattle.std.specs.Option.{option_copied}
use Rattle.amr_def.specs.declared.problem.Problem.{Problem}
use Rattle.amr_def.specs.State.{Level}
use Rattle.amr_ghost.specs.Frames.{old_masses}
use Rattle.amr_advance.specs.declared.kept_layout.KeptLayout.{KeptLayout}
use Rattle.amr_advance.specs.KeptLayouts.{Forgets}
use Rattle.amr_cycle.specs.declared.context.LevelContext.{LevelContext}
use Rattle.amr_cycle.specs.declared.kept.KeptLevel.{KeptLevel}
use Rattle.amr_cycle.specs.KeptLevels.{AreKept}
use Rattle.amr_cycle.specs.Steps.{AreReady, IsKeptIn}
use Rattle.amr_cycle.proofs.KeptLaws.{kept_again, kept_all, kept_first}

-- the first of them, once it has forgotten what it may not keep
pub own_ready : (given : LevelContext) (again : Bool) (j : Level) (js : List Level) (k : KeptLevel) (ks ls : List KeptLevel) → ls ≡ k ∷ ks → (o : Option KeptLayout) → Forgets (record { own = false; coarser = not again }) k.layout o
    → AreReady given again (j ∷ js) ls → IsKeptIn given j (record k { layout = o })
own_ready given again j js k ks ls is o forgets h =
    kept_again given.problem.now given.level j.masses (old_masses (option_copied given.old)) again k o forgets
    (λ e. subst (λ (xs : List KeptLevel). IsKeptIn given j (get_or xs 0 k)) is (h.beside e k))
    (kept_first given.problem.now given.level j js k ks ls is h.kept)

-- after its step, with what the finer ones keep
pub ready_all : (given : LevelContext) (j : Level) (js : List Level) (k : KeptLevel) (ks : List KeptLevel) → IsKeptIn given j k → AreKept given.problem.now (given.level + 1) js ks → AreReady given true (j ∷ js) (k ∷ ks)
ready_all given j js k ks own rest = record { kept = kept_all given.problem.now given.level j js k ks (old_masses (option_copied given.old), own) rest; beside = λ e d. own }

kept_here : (given : LevelContext) (p : Problem) (l : ℕ) (js : List Level) (ks : List KeptLevel) → given.problem.now ≡ p → given.level ≡ l → AreKept p l js ks → AreKept given.problem.now given.level js ks
kept_here given p l js ks problem number h = subst (λ n. AreKept given.problem.now n js ks) (sym number) (subst (λ (q : Problem). AreKept q l js ks) (sym problem) h)

-- for the first of two steps of finer levels
pub ready_anew : (given : LevelContext) (p : Problem) (l : ℕ) (js : List Level) (ks : List KeptLevel) → given.problem.now ≡ p → given.level ≡ l → AreKept p l js ks → AreReady given false js ks
ready_anew given p l js ks problem number h = record { kept = kept_here given p l js ks problem number h; beside = λ e. absurd (cc) }

-- and after both
pub kept_anew : (given : LevelContext) (p : Problem) (l : ℕ) (js : List Level) (ks : List KeptLevel) → given.problem.now ≡ p → given.level ≡ l → AreKept given.problem.now given.level js ks → AreKept p l js ks
kept_anew given p l js ks problem number h = subst (λ n. AreKept p n js ks) number (subst (λ (q : Problem). AreKept q given.level js ks) problem h)
