-- The hook of a run, as the files that it was loaded from.
--     IsHookOf, HookAs         a hook that loaded files mean; or none
--     AnsweredAs, HookFollows  code that follows a program which gives one
use Rattle.std.specs.Prelude.{◌≡◌, Option, Some, None, Result, Ok, Err}
use Rattle.py_compile_laws.specs.Traces.{AreWellFormed}
use Rattle.cov_hook.specs.declared.hook.Hook.{Hook}
use Rattle.cov_hook.specs.View.{state_of}
use Rattle.cov_hook_laws.specs.Laws.{with_trees}
use Rattle.cov_hook_laws.specs.MeantHooks.{meant_opened}
use Rattle.cov_measure_laws.specs.Meant.{IsFaithfulHook}
use Rattle.cov_programs.specs.Ends.{Follows}
use Rattle.cov_programs.specs.Objects.{Moves}
use Rattle.cov_step.specs.Calls.{Call, Answer, HookFiles, IsNoMemory, Step}
use Rattle.cov_why.specs.Answers.{PlainWhy, plain_why}
use Rattle.cov_why.specs.declared.why.Why.{Why}

-- A hook of faithful code of these files, as they mean it when it is opened.
pub record IsHookOf (hook : Hook) (files : HookFiles) : Type 0 where
  pub well_formed : AreWellFormed files.modules
  pub faithful : IsFaithfulHook state_of files.modules (Some hook)
  pub opened :
      with_trees files.modules (state_of hook)
      ≡ meant_opened files.modules files.script files.function

-- such a hook; or there is none
abbrev pub HookAs : Option Hook → Option HookFiles → Type 0
HookAs None None = Unit {0}
HookAs None (Some files) = ⊥
HookAs (Some hook) None = ⊥
HookAs (Some hook) (Some files) = IsHookOf hook files

-- an answer of the code says what was found
abbrev pub AnsweredAs : Result (Option Hook) Why → Result (Option HookFiles) PlainWhy → Type 0
AnsweredAs (Ok hook) (Ok files) = HookAs hook files
AnsweredAs (Ok hook) (Err why) = ⊥
AnsweredAs (Err w) (Ok files) = ⊥
AnsweredAs (Err w) (Err why) = plain_why w ≡ why

-- the code follows a program that gives the files of a hook, and answers with a hook of these
pub record HookFollows {W : Type 0} (moves : Moves Call Answer W) (p : Step (Option HookFiles))
    (old : W) (answer : Result (Option Hook) Why) (new : W) : Type 0 where
  pub found : Result (Option HookFiles) PlainWhy
  pub says : AnsweredAs answer found
  pub follows : Follows moves IsNoMemory p old found new
