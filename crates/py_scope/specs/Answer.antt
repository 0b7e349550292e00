-- Which fault of a module is answered.
use Rattle.std.specs.Prelude.{◌≡◌, ◌⊎◌, ◌<◌, ℕ, List, All, Contains}
use Rattle.py_scope.specs.declared.error.ScopeError.{ScopeError}
use Rattle.py_scope.specs.declared.error.ScopeError.TheVariants.{BreakOutside, ReturnOutside, GlobalAfterUse, NestedFunction, EarlyIrrefutable, TwiceNamed, NoMemory}

-- the line that is to blame
abbrev pub line_of : ScopeError → ℕ
line_of (BreakOutside l) = l
line_of (ReturnOutside l) = l
line_of (GlobalAfterUse l) = l
line_of (NestedFunction l) = l
line_of (EarlyIrrefutable l) = l
line_of (TwiceNamed l) = l
line_of NoMemory = 0

-- the number of a fault
abbrev pub number_of : ScopeError → ℕ
number_of (BreakOutside l) = 1
number_of (ReturnOutside l) = 2
number_of (GlobalAfterUse l) = 3
number_of (NestedFunction l) = 4
number_of (EarlyIrrefutable l) = 5
number_of (TwiceNamed l) = 6
number_of NoMemory = 70

-- The line of e is earlier, or it is the same and the number of e is smaller.
abbrev pub ComesBefore : ScopeError → ScopeError → Type 0
ComesBefore e f = (line_of e < line_of f) ⊎ ((line_of e ≡ line_of f) × (number_of e < number_of f))

-- e is one of the faults, and none comes before it
pub record IsFirst (faults : List ScopeError) (e : ScopeError) : Type 0 where
  pub is_one : Contains faults e
  pub first : All (λ f. ComesBefore f e → ⊥) faults
