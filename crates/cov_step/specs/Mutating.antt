-- The command `mutate`: what the tests of a file notice of changes in its modules.
--     verdict_text, mutant_line, mutant_lines    a line for each mutant
--     is_killed, is_survivor, is_unreached       the mutants of a verdict
--     judged_line, mutation_lines                how many there are, and all lines
--     judged_in                                  what follows from loading
--     mutate                                     the command
use Rattle.std.specs.Prelude.{ℕ, suc, Bool, true, false, List, [], ◌∷◌, ◌++◌, filter, length, Option, codes, decimal, encode_utf8_all}
use Rattle.py_meaning.specs.Modules.{LoadedModule}
use Rattle.cov_programs.specs.Programs.{give, ask, bind, ◌>>=◌}
use Rattle.cov_words.specs.Values.{Word}
use Rattle.cov_step.specs.Calls.{Answered, Verdict, killed, survived, unreached, Judged, judges, Step}
use Rattle.cov_step.specs.Commands.{usual_steps}
use Rattle.cov_step.specs.Names.{or_else}
use Rattle.cov_step.specs.Phases.{opened, done, write_last}
use Rattle.cov_step.specs.Testing.{tests_name, came_or}

-- ---- the lines

-- a verdict
abbrev pub verdict_text : Verdict → List ℕ
verdict_text killed = codes "killed"
verdict_text survived = codes "survived"
verdict_text unreached = codes "unreached"

-- `NUMBER PATH:LINE OLD -> NEW VERDICT`
abbrev pub mutant_line : (number : ℕ) → Judged → List ℕ
mutant_line number j =
    decimal number ++ (codes " " ++ (encode_utf8_all j.path ++ (codes ":" ++ (decimal j.line
    ++ (codes " " ++ (j.old ++ (codes " -> " ++ (j.new ++ (codes " "
    ++ (verdict_text j.verdict ++ codes "\n"))))))))))

-- mutants are numbered from here on
abbrev pub mutant_lines : (number : ℕ) → List Judged → List ℕ
mutant_lines number [] = []
mutant_lines number (j ∷ js) = mutant_line number j ++ mutant_lines (suc number) js

-- a mutant that the import or a test notices
abbrev pub is_killed : Verdict → Bool
is_killed killed = true
is_killed survived = false
is_killed unreached = false

-- one that is reached, and that neither notices
abbrev pub is_survivor : Verdict → Bool
is_survivor killed = false
is_survivor survived = true
is_survivor unreached = false

-- one that isn't reached
abbrev pub is_unreached : Verdict → Bool
is_unreached killed = false
is_unreached survived = false
is_unreached unreached = true

-- how many mutants are judged so
abbrev pub count_of : (Verdict → Bool) → List Judged → ℕ
count_of which js = length (filter (λ j. which j.verdict) js)

-- `K killed, S survived, U unreached`
abbrev pub judged_line : (killed survived unreached : ℕ) → List ℕ
judged_line k s u =
    decimal k ++ (codes " killed, " ++ (decimal s ++ (codes " survived, " ++ (decimal u
    ++ codes " unreached\n"))))

-- a line for each mutant, numbered from 1, and then that of their counts
abbrev pub mutation_lines : List Judged → List ℕ
mutation_lines js =
    mutant_lines 1 js
    ++ judged_line (count_of is_killed js) (count_of is_survivor js) (count_of is_unreached js)

-- ---- the command

-- the tests run of the modules and of their mutants, and then the verdicts are written
abbrev pub judged_in : (most : ℕ) (file : Word) (ms : List LoadedModule) → Step Answered
judged_in most file ms = do
  answer ← ask (judges most ms) give
  judged ← came_or file answer
  write_last (mutation_lines judged) done

-- no settings are read, and no data are touched
abbrev pub mutate : (steps : Option ℕ) (file : Word) → Step Answered
mutate steps file = do
  ms ← opened tests_name file
  judged_in (or_else steps usual_steps) file ms
