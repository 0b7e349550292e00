use Rattle.std.proofs.Common.{◌≡◌, ℕ, List, None, Some, subst}
use Rattle.std.specs.Prelude.{MatchOption}
use Rattle.py_value.specs.View.{plain}
use Rattle.py_builtins.specs.Predefined.{predefined}
use Rattle.py_builtins.specs.World.{value_of}
use Rattle.py_world.proofs.globals.Globals.predefined.Goals as goal

pub returns-in-Some : goal.returns-in-Some
returns-in-Some c =
    subst (λ (x : List ℕ). MatchOption c.predefined.result (value_of x predefined ≡ None) (λ v. value_of x predefined ≡ Some (plain v)))
    c.in-Some.ensures c.predefined.ensures
