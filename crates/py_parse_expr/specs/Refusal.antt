-- What the reading of a whole list of tokens answers.
use Rattle.std.specs.Prelude.{◌≤◌, List, Result, Ok, Err}
use Rattle.py_syntax.specs.declared.expr.Expr.{Expr as Node}
use Rattle.py_syntax.specs.Spelling.{HEIGHT}
use Rattle.py_syntax.specs.Kinds.{Kind}
use Rattle.py_syntax.specs.Normal.{height}
use Rattle.py_syntax.specs.View.{plain_expr}
use Rattle.py_grammar.specs.declared.error.ReadError.{ReadError}
use Rattle.py_grammar.specs.declared.error.ReadError.TheVariants as error
use Rattle.py_grammar.specs.Refusal.{Spells, IsUnexpected, IsTooDeep}

-- The expression that a whole list spells, or where and why it is refused.
abbrev pub Parses : List Kind → Result Node ReadError → Type 0
Parses ts (Ok e) = Spells (plain_expr e) ts × (height (plain_expr e) ≤ HEIGHT)
Parses ts (Err (error.Unexpected place)) = IsUnexpected HEIGHT ts place
Parses ts (Err (error.TooDeep place)) = IsTooDeep HEIGHT ts place
Parses ts (Err error.NoMemory) = Unit {0}
