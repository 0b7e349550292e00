use Rattle.std.proofs.Common.{Option, String, ap, refl, string_bytes, subst, sym}
use Rattle.std.specs.Global.{Global}
use Rattle.cov_config.specs.Plain.{hook_view}
use Rattle.cov_programs.proofs.Composing.{followed-so}
use Rattle.cov_run.specs.Loads.{loaded_modules}
use Rattle.cov_step.specs.Objects.{on_shelf}
use Rattle.cov_step.specs.Phases.{hook_of, main_name, opened}
use Rattle.cov_runs.specs.Hooks.{HookFollows}
use Rattle.cov_runs.proofs.Hooking.{hook-in-so, hook-loaded, hook-not-loaded, no-hook-named}
use Rattle.cov_runs.proofs.hooks.hook_of.Goals as goal

pub returns-in-None : goal.returns-in-None
returns-in-None g c = subst (λ (h : Option (String Global × String Global)). HookFollows (on_shelf g.H.Shelf) (hook_of (hook_view h)) c.args.shelf.now _ c.args.shelf.now) (sym c.in-None.is) (no-hook-named g.H.Shelf c.args.shelf.now)

pub returns-in_err-loaded-in-Some : goal.returns-in_err-loaded-in-Some
returns-in_err-loaded-in-Some g c =
    subst (λ (h : Option (String Global × String Global)). HookFollows (on_shelf g.H.Shelf) (hook_of (hook_view h)) c.args.shelf.now c.from_residual.result c.opened.new.shelf) (sym c.in-Some.is)
    (hook-not-loaded g.H.Shelf (string_bytes c.in-Some.script) (string_bytes c.in-Some.function) c.args.shelf.now c.opened.new.shelf _ c.from_residual.result
    (followed-so (on_shelf g.H.Shelf) (ap (opened main_name) c.as_str.ensures.value) refl c.in_err-loaded-in-Some.ensures.follows) c.from_residual.ensures)

pub returns-in_ok-loaded-in-Some : goal.returns-in_ok-loaded-in-Some
returns-in_ok-loaded-in-Some g c =
    subst (λ (h : Option (String Global × String Global)). HookFollows (on_shelf g.H.Shelf) (hook_of (hook_view h)) c.args.shelf.now c.hook_in.result c.opened.new.shelf) (sym c.in-Some.is)
    (hook-loaded g.H.Shelf (string_bytes c.in-Some.script) (string_bytes c.in-Some.function) (loaded_modules c.in_ok-loaded-in-Some.loaded) c.args.shelf.now c.opened.new.shelf c.hook_in.result
    (followed-so (on_shelf g.H.Shelf) (ap (opened main_name) c.as_str.ensures.value) refl c.in_ok-loaded-in-Some.ensures.follows)
    (hook-in-so (loaded_modules c.in_ok-loaded-in-Some.loaded) c.hook_in.result c.as_str-in-Some.ensures.value c.as_str-in-Some-2.ensures.value c.hook_in.ensures))
