-- What loading answers of a program that can be loaded.
--     IsStarvedOrFailed     the answer is want of memory, or a fault of the shelf
--     IsProgramOf           the answer is the program of these modules, or one of both
--     AnswersProgram        so it is where these modules can be loaded
use Rattle.std.specs.Prelude.{◌≡◌, ◌⊎◌, List, Result, Ok, Err}
use Rattle.py_meaning.specs.Modules.{LoadedModule}
use Rattle.py_syntax.specs.Tree.{Text}
use Rattle.cov_why.specs.Answers.{AnsweredAs}
use Rattle.cov_why.specs.declared.why.Why.{Why}
use Rattle.cov_why.specs.declared.why.Why.TheVariants as why
use Rattle.cov_run.specs.declared.programs.Loaded.{Loaded}
use Rattle.cov_run.specs.Loading.{Told, IsLoaded}
use Rattle.cov_run.specs.Loads.{LoadsTo, loaded_modules}

-- the answer is want of memory, or a fault of the shelf
abbrev pub IsStarvedOrFailed : Why → Type 0
IsStarvedOrFailed w = (w ≡ why.NoMemory) ⊎ (w ≡ why.ShelfFault)

-- the answer is the program of these modules, or says nothing of the files
abbrev pub IsProgramOf : List LoadedModule → Result Loaded Why → Type 0
IsProgramOf ms (Ok l) = loaded_modules l ≡ ms
IsProgramOf ms (Err w) = IsStarvedOrFailed w

-- where the modules can be loaded, the answer is their program, or says nothing of the files
abbrev pub AnswersProgram : Type 0
AnswersProgram =
    (told : Told) (script name : Text) (ms : List LoadedModule) (result : Result Loaded Why)
    → IsLoaded told script name ms
    → AnsweredAs loaded_modules result (LoadsTo told script name) → IsProgramOf ms result
