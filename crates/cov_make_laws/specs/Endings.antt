-- How the runs of sources that are made up end.
--     EndsWell, MadeFinish         with as many steps as the size asks for
--     EndsEarly, MadeFinishByDefault, MadeFinishOnMachine    with the default budget
use Rattle.std.specs.Prelude.{◌≡◌, ℕ, ◌+◌, ◌*◌, ◌<◌, ◌≤◌, List}
use Rattle.py_builtins.specs.Outcomes.{Outcome, finished}
use Rattle.py_code.specs.Programs as machine
use Rattle.py_code.specs.Slots.{by_slots}
use Rattle.py_code.specs.Units.{Module}
use Rattle.py_compile.specs.ProgramRuns.{AreFaithful}
use Rattle.py_meaning.specs.Program.{Run, run_modules}
use Rattle.py_syntax.specs.Tree.{Text}
use Rattle.cov_make_laws.specs.Loadings.{module_alone}

-- a run finished, after a seventh of 151 steps for each block and of 33 at most
pub record EndsWell (size : ℕ) (run : Run) : Type 0 where
  pub outcome : run.outcome ≡ finished
  pub steps : 7 * run.steps ≤ 151 * size + 33

-- the run of each source of a size that the command takes does, with that budget or a larger one,
-- whatever its words and its input are
abbrev pub MadeFinish : Type 0
MadeFinish =
    (name path : Text) (words : List Text) (input : List ℕ) (seed size budget : ℕ)
    → size ≤ 16000 → 151 * size + 33 ≤ 7 * budget
    → EndsWell size (run_modules (module_alone name path seed size) words input budget)

-- a run finished, after less than 400,000 steps
pub record EndsEarly (how : Outcome) (count : ℕ) : Type 0 where
  pub outcome : how ≡ finished
  pub steps : count < 400000

-- the run of each source does, with the default budget
abbrev pub MadeFinishByDefault : Type 0
MadeFinishByDefault =
    (name path : Text) (words : List Text) (input : List ℕ) (seed size : ℕ) → size ≤ 16000
    → let run = run_modules (module_alone name path seed size) words input 1000000 in
    EndsEarly run.outcome run.steps

-- the machine's run of its code does
abbrev pub MadeFinishOnMachine : Type 0
MadeFinishOnMachine =
    (cs : List Module) (name path : Text) (words : List Text) (input : List ℕ) (seed size : ℕ)
    → size ≤ 16000 → AreFaithful cs (module_alone name path seed size)
    → let run = machine.run (by_slots cs) cs (machine.first_world cs words) input 1000000 in
    EndsEarly run.outcome run.steps
