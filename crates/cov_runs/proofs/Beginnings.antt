-- Memory may be wanting where the parts of a run begin.
use Rattle.std.proofs.Common.{Bool, true, false, if◌then◌else◌, List, Option, Some, None}
use Rattle.std.specs.Bool.{beq}
use Rattle.py_meaning.specs.Modules.{LoadedModule}
use Rattle.cov_programs.specs.Ends.{IsOpen}
use Rattle.cov_programs.specs.Programs.{bind, give}
use Rattle.cov_programs.proofs.Each.{then-open}
use Rattle.cov_step.specs.Answers.{Before, nothing, there, bad_row}
use Rattle.cov_step.specs.Calls.{Asked, HookFiles, refuse}
use Rattle.cov_step.specs.Commands.{measured}
use Rattle.cov_step.specs.Phases.{hook_of, joins}
use Rattle.cov_why.specs.Answers.{Refusal}
use Rattle.cov_words.specs.Values.{Word}
use Rattle.cov_runs.specs.Rests.{hooked, targeted}

kind-open : {A : Type 0} (b : Bool) (a : A) (r : Refusal) → IsOpen (if b then give a else refuse {A = A} r)
kind-open true a r = tt
kind-open false a r = tt

pub joins-open : (append : Bool) (own : Word) (arcs : Bool) (was : Before) → IsOpen (joins append own arcs was)
joins-open false own arcs was = tt
joins-open true own arcs nothing = tt
joins-open true own arcs (there d) = kind-open (beq arcs d.arcs) (Some d) _
joins-open true own arcs (bad_row i) = tt

pub joining-open : (append : Bool) (own : Word) (asked : Asked) (ms : List LoadedModule) (h : Option HookFiles) (was : Before) → IsOpen (bind (joins append own asked.arcs was) (measured own asked ms h))
joining-open append own asked ms h was = then-open (joins append own asked.arcs was) (measured own asked ms h) (joins-open append own asked.arcs was) (λ old. tt)

hook-open : (hook : Option (Word × Word)) → IsOpen (hook_of hook)
hook-open None = tt
hook-open (Some h) = tt

pub hooked-open : (own : Word) (append : Bool) (asked : Asked) (hook : Option (Word × Word)) (ms : List LoadedModule) → IsOpen (hooked own append asked hook ms)
hooked-open own append asked hook ms = then-open (hook_of hook) (targeted own append asked ms) (hook-open hook) (λ h. tt)
