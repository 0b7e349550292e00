-- What tests tell of changes, as calls of a command.
--     SelectedAs, SelectRun       the tests of a new version that must run again
--     verdict_of, judged_of       a mutant with its verdict, in the words of commands
--     JudgedAs, JudgeRun          what tests notice of mutants
use Rattle.std.specs.Prelude.{◌≡◌, ◌≢◌, ℕ, List, map}
use Rattle.py_builtins.specs.Outcomes.{finished}
use Rattle.py_changes.specs.Paths.{path_of}
use Rattle.py_meaning.specs.Modules.{LoadedModule}
use Rattle.cov_step.specs.Calls.{AfterImport, came, not_imported, starved, Selection, Verdict, killed, survived, unreached, Judged}
use Rattle.cov_suite.specs.Results.{import_of}
use Rattle.cov_verdicts.specs.Chosen.{IsChosen}
use Rattle.cov_verdicts.specs.Verdicts.{JudgedView, AreJudged}
use Rattle.cov_verdicts.specs.Verdicts as verdicts

-- The import finished, and these tests of the new modules must run again, as both versions mean. Or
-- it didn't finish, or memory was wanting.
abbrev pub SelectedAs : ℕ → List LoadedModule → List LoadedModule → AfterImport Selection → Type 0
SelectedAs budget old new (came s) = IsChosen budget old new s.names s.count
SelectedAs budget old new not_imported = (import_of old budget).outcome ≢ finished
SelectedAs budget old new starved = Unit {0}

-- a selection on objects of its own, which leaves all others as they were
pub record SelectRun {W : Type 0} (old : W) (budget : ℕ) (before after : List LoadedModule)
    (answer : AfterImport Selection) (new : W) : Type 0 where
  pub selected : SelectedAs budget before after answer
  pub same : new ≡ old

-- what is told of a mutant
abbrev pub verdict_of : verdicts.Verdict → Verdict
verdict_of verdicts.killed = killed
verdict_of verdicts.survived = survived
verdict_of verdicts.unreached = unreached

-- a mutant of these modules that was judged
abbrev pub judged_of : List LoadedModule → JudgedView → Judged
judged_of ms j = record {
  path = path_of ms j.«module»;
  line = j.line;
  old = j.old;
  new = j.new;
  verdict = verdict_of j.verdict;
}

-- the import finished, and the mutants have the verdicts that they mean; or it didn't finish, or
-- memory was wanting
abbrev pub JudgedAs : ℕ → List LoadedModule → AfterImport (List Judged) → Type 0
JudgedAs budget ms (came js) =
    (views : List JudgedView) × AreJudged budget ms views × (js ≡ map (judged_of ms) views)
JudgedAs budget ms not_imported = (import_of ms budget).outcome ≢ finished
JudgedAs budget ms starved = Unit {0}

-- verdicts of tests on objects of their own, which leave all others as they were
pub record JudgeRun {W : Type 0} (old : W) (budget : ℕ) (ms : List LoadedModule)
    (answer : AfterImport (List Judged)) (new : W) : Type 0 where
  pub judged : JudgedAs budget ms answer
  pub same : new ≡ old
