-- What tests notice of the mutants of modules, by what these mean.
--     mutants_from, mutants_of     the mutants of the modules but the script
--     IsReached                    a line that the import or a test reached
--     IsNoticed                    a change that the tests notice
--     Verdict, HasVerdict          what is told of a mutant
--     JudgedView, IsJudged         a mutant with its verdict
--     AreJudged                    all of them
use Rattle.std.specs.Prelude.{◌≡◌, ◌≢◌, ◌⊎◌, ℕ, suc, true, false, List, [], ◌∷◌, ◌++◌, map, All, Contains}
use Rattle.py_builtins.specs.Outcomes.{finished}
use Rattle.py_changes.specs.Mutants.{Marked, module_mutants}
use Rattle.py_changes.specs.Paths.{path_of, HasReached}
use Rattle.py_changes.specs.Tests.{tested, has_passed}
use Rattle.py_meaning.specs.Modules.{LoadedModule}
use Rattle.py_mutants_laws.specs.Unreached.{with_body}
use Rattle.py_syntax.specs.Tree.{Text, Stmts}
use Rattle.cov_suite.specs.Results.{import_of}
use Rattle.cov_suite.specs.Tests.{tests_of}
use Rattle.cov_verdicts.specs.Chosen.{test_of}

-- the mutants of modules, the first of which has this number
abbrev pub mutants_from : ℕ → List LoadedModule → List (ℕ × (Marked × Stmts))
mutants_from m [] = []
mutants_from m (x ∷ ms) =
    map (λ mutant. (m, mutant)) (module_mutants x.body) ++ mutants_from (suc m) ms

-- those of all modules but the script, with the numbers of their modules
abbrev pub mutants_of : List LoadedModule → List (ℕ × (Marked × Stmts))
mutants_of [] = []
mutants_of (script ∷ others) = mutants_from 1 others

-- the import or a test reached this line of the module with this number
abbrev pub IsReached : ℕ → List LoadedModule → ℕ → ℕ → Type 0
IsReached budget ms m l =
    HasReached ms (import_of ms budget).items (path_of ms m) l
    ⊎ ((name : Text) × Contains (tests_of ms) name
    × HasReached ms (tested ms (test_of budget name)).items (path_of ms m) l)

-- With these modules in place of the others the import doesn't finish, or a test that passed before
-- doesn't pass.
abbrev pub IsNoticed : ℕ → List LoadedModule → List LoadedModule → Type 0
IsNoticed budget ms changed =
    ((import_of changed budget).outcome ≢ finished)
    ⊎ ((name : Text) × Contains (tests_of ms) name
    × (has_passed (tested ms (test_of budget name)).returned ≡ true)
    × (has_passed (tested changed (test_of budget name)).returned ≡ false))

-- what is told of a mutant
pub data Verdict : Type 0 where
  killed : Verdict
  survived : Verdict
  unreached : Verdict

-- its line is reached and the tests notice it, or they don't, or its line isn't reached
abbrev pub HasVerdict : (reached noticed : Type 0) → Verdict → Type 0
HasVerdict reached noticed killed = reached × noticed
HasVerdict reached noticed survived = reached × (noticed → ⊥)
HasVerdict reached noticed unreached = reached → ⊥

-- a mutant that was judged: the number of its module, its line, the token that is changed, the one
-- in its place, and its verdict
pub record JudgedView : Type 0 where
  pub «module» : ℕ
  pub line : ℕ
  pub old : List ℕ
  pub new : List ℕ
  pub verdict : Verdict

-- a mutant of a module, judged
pub record IsJudged (budget : ℕ) (ms : List LoadedModule) (mutant : ℕ × (Marked × Stmts))
    (j : JudgedView) : Type 0 where
  pub in_module : j.«module» ≡ mutant.0
  pub at_line : j.line ≡ mutant.1.0.0
  pub old_token : j.old ≡ mutant.1.0.1.old
  pub new_token : j.new ≡ mutant.1.0.1.new
  pub verdict : HasVerdict (IsReached budget ms mutant.0 mutant.1.0.0)
      (IsNoticed budget ms (with_body ms mutant.0 mutant.1.1)) j.verdict

-- one for each, in order
abbrev pub InPairs : {A B : Type 0} → (A → B → Type 0) → List A → List B → Type 0
InPairs holds [] [] = Unit {0}
InPairs holds [] (y ∷ ys) = ⊥
InPairs holds (x ∷ xs) [] = ⊥
InPairs holds (x ∷ xs) (y ∷ ys) = holds x y × InPairs holds xs ys

-- The import finished. These are the mutants of all modules but the script, in order, each with its
-- verdict. Of one whose line isn't reached no test would notice anything.
pub record AreJudged (budget : ℕ) (ms : List LoadedModule) (js : List JudgedView) : Type 0 where
  pub imports : (import_of ms budget).outcome ≡ finished
  pub judged : InPairs (IsJudged budget ms) (mutants_of ms) js
  pub unreached : All (λ mutant. (IsReached budget ms mutant.0 mutant.1.0.0 → ⊥)
      → IsNoticed budget ms (with_body ms mutant.0 mutant.1.1) → ⊥) (mutants_of ms)
