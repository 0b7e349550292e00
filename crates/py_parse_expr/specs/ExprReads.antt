-- What the reading of an expression from a place in a list of tokens answers.
use Rattle.std.specs.Prelude.{ℕ, Bool, true, false, List, Result, Ok, Err}
use Rattle.py_syntax.specs.Spelling.{HEIGHT}
use Rattle.py_syntax.specs.Kinds.{Kind, End}
use Rattle.py_syntax.specs.View.{plain_expr}
use Rattle.py_grammar.specs.declared.error.ReadError.{ReadError}
use Rattle.py_grammar.specs.declared.error.ReadError.TheVariants as error
use Rattle.py_parse_expr.specs.declared.exprs.ExprRead.{ExprRead}
use Rattle.py_parse_expr.specs.declared.exprs.ExprPart.{ExprPart}
use Rattle.py_parse_expr.specs.declared.exprs.ExprPart.TheVariants as part_
use Rattle.py_grammar.specs.Machine.{Goal, any, one, target, start}
use Rattle.py_grammar.specs.Reading.{Unexpected, TooDeep, Reads, EndsAt}

-- what the whole is to be
abbrev pub goal_of : ExprPart → Goal
goal_of part_.Any = any
goal_of part_.One = one
goal_of part_.Target = target

-- The answer is how the machine ends.
abbrev pub FollowsMachine : List Kind → ℕ → ExprPart → Result ExprRead ReadError → Type 0
FollowsMachine ts at part (Ok r) =
    EndsAt HEIGHT (start (goal_of part)) ts at r.next (Reads (plain_expr r.expr.value))
FollowsMachine ts at part (Err (error.Unexpected place)) =
    EndsAt HEIGHT (start (goal_of part)) ts at place Unexpected
FollowsMachine ts at part (Err (error.TooDeep place)) =
    EndsAt HEIGHT (start (goal_of part)) ts at place TooDeep
FollowsMachine ts at part (Err error.NoMemory) = Unit {0}

-- whether a token is the end of the list
abbrev pub is_end : Kind → Bool
is_end End = true
is_end t = false
