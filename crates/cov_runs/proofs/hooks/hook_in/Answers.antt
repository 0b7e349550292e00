use Rattle.std.proofs.Common.{Err, ap}
use Rattle.std.specs.Str.{chars}
use Rattle.py_code.specs.Loaded.{modules_of}
use Rattle.cov_run.specs.Loads.{loaded_modules}
use Rattle.cov_runs.proofs.Hooking.{defined, hook-starved, hook-there, is-hook, no-hook, pairs-some, undefined}
use Rattle.cov_runs.proofs.hooks.hook_in.Goals as goal

pub returns-in-Ok : goal.returns-in-Ok
returns-in-Ok c =
    let l = c.args.loaded in
    hook-there (loaded_modules l) c.args.script.now c.args.function.now c.in-Ok.hook
    (defined (loaded_modules l) (chars c.args.function.now) ((c.hooks_mean.ensures.defines (modules_of l.programs) (loaded_modules l) c.requires.compiled.faithful (chars c.args.function.now)).0 c.in-Ok.ensures.has_function))
    (is-hook c.hooks_mean.ensures l c.in-Ok.hook c.args.script.now c.args.function.now c.requires.compiled (pairs-some l.programs.modules.items l.modules.items c.requires.compiled.some c.requires.compiled.beside) c.requires.script c.in-Ok.ensures.opened)

pub returns-in-Err-NoFunction : goal.returns-in-Err-NoFunction
returns-in-Err-NoFunction c =
    let l = c.args.loaded in
    no-hook (loaded_modules l) c.args.script.now c.args.function.now c.no_function.result
    (undefined (loaded_modules l) (chars c.args.function.now)
    (λ h. c.in-Err-NoFunction.ensures.no_function.0 (ap Err c.in-Err-NoFunction.field-0-is) ((c.hooks_mean.ensures.defines (modules_of l.programs) (loaded_modules l) c.requires.compiled.faithful (chars c.args.function.now)).1 h)))
    c.no_function.ensures

pub returns : goal.returns
returns c = hook-starved (loaded_modules c.args.loaded) c.args.script.now c.args.function.now
