-- Runs on objects of their own, which no object of a command takes part in.
--     no_labels            nobody gives labels
--     TriedAs, IsTried     a run that ended, or for which memory was wanting
--     TryRun               a call of such a run
--     on_trial             what a made source is, what its run comes to, and what tests tell
use Rattle.std.specs.Prelude.{◌≡◌, ℕ, true, List, [], Option, Some, None}
use Rattle.py_meaning.specs.Events.{events_in}
use Rattle.py_meaning.specs.Modules.{LoadedModule}
use Rattle.py_meaning.specs.Program.{run_modules}
use Rattle.py_syntax.specs.Tree.{Text}
use Rattle.cov_data.specs.DataSet.{Text as Bytes}
use Rattle.cov_measure_laws.specs.Meant.{tree_plan}
use Rattle.cov_measure_laws.specs.Whole.{IsDataOf}
use Rattle.cov_programs.specs.Objects.{Moves}
use Rattle.cov_step.specs.Calls.{Call, spells, checks, reads, puts, opens, lists, loads, saves, removes, makes, writes, crosses, measures, tries, tests, selects, judges, says, Answer, Ran}
use Rattle.cov_step.specs.Objects.{CheckOf}
use Rattle.cov_streams.specs.Retests.{SelectRun, JudgeRun}

-- nobody gives labels
abbrev pub no_labels : Unit {0} → Bytes → Bytes → Option (List ℕ) → Unit {0} → Type 0
no_labels old «module» function label new = label ≡ None

-- A run of these modules with these words and an empty input ended so. The rows are those that it
-- means, with arcs and no label.
pub record TriedAs (ms : List LoadedModule) (words : List Text) (budget : ℕ) (r : Ran)
    : Type 0 where
  pub outcome : r.outcome ≡ (run_modules ms words [] budget).outcome
  pub steps : r.steps ≡ (run_modules ms words [] budget).steps
  pub rows :
      IsDataOf no_labels (tree_plan ms true []) tt
      (events_in (run_modules ms words [] budget).items) r.rows tt

-- it ended so, or memory was wanting for it
abbrev pub IsTried : List LoadedModule → List Text → ℕ → Option Ran → Type 0
IsTried ms words budget None = Unit {0}
IsTried ms words budget (Some r) = TriedAs ms words budget r

-- a run on objects of its own, which leaves all others as they were
pub record TryRun {W : Type 0} (old : W) (ms : List LoadedModule) (words : List Text) (budget : ℕ)
    (answer : Option Ran) (new : W) : Type 0 where
  pub tried : IsTried ms words budget answer
  pub same : new ≡ old

-- no object is asked: what a source is, what its run comes to, and what tests tell of changes
abbrev pub on_trial : Moves Call Answer (Unit {0})
on_trial old (spells words) answer new = ⊥
on_trial old (checks bytes) reading new = CheckOf old bytes reading new
on_trial old (reads name most) answer new = ⊥
on_trial old (puts name bytes) refusal new = ⊥
on_trial old (opens name script) answer new = ⊥
on_trial old lists answer new = ⊥
on_trial old (loads name) answer new = ⊥
on_trial old (saves name content) refusal new = ⊥
on_trial old (removes name) refusal new = ⊥
on_trial old (makes texts) refusal new = ⊥
on_trial old (writes bytes) refusal new = ⊥
on_trial old (crosses modules words budget) answer new = ⊥
on_trial old (measures asked modules hook) answer new = ⊥
on_trial old (tries modules words budget) answer new = TryRun old modules words budget answer new
on_trial old (tests asked modules) answer new = ⊥
on_trial old (selects budget before after) answer new =
    SelectRun old budget before after answer new
on_trial old (judges budget modules) answer new = JudgeRun old budget modules answer new
on_trial old (says text) answer new = ⊥
