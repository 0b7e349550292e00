-- Which fault of scope is answered.
use Rattle.std.specs.Prelude.{◌≡◌, List}
use Rattle.py_syntax.specs.Tree.{Stmts}
use Rattle.py_scope.specs.declared.error.ScopeError.{ScopeError}
use Rattle.py_scope.specs.Answer.{IsFirst}
use Rattle.py_scope.specs.Faults.{IsWellFormed, faults_of}

-- of some faults one at most is the first
abbrev pub OneFirst : Type 0
OneFirst =
    (faults : List ScopeError) (e f : ScopeError) → IsFirst faults e → IsFirst faults f → e ≡ f

-- a well-formed module has no first fault
abbrev pub NoneFirst : Type 0
NoneFirst = (m : Stmts) (e : ScopeError) → IsWellFormed m → IsFirst (faults_of m) e → ⊥
