-- What the token after a suite is to its statement, as the code says it.
use Rattle.std.specs.Prelude.{◌≡◌, Some, None, Result, Ok, Err}
use Rattle.std.specs.declared.alloc.AllocError.{AllocError}
use Rattle.py_token.specs.declared.token.Token.{Token}
use Rattle.py_syntax.specs.Tree.{StmtKind}
use Rattle.py_syntax.specs.Kinds.{Kind}
use Rattle.py_statements.specs.declared.after_suite.Part.{Part}
use Rattle.py_statements.specs.declared.after_suite.Part.TheVariants as part_
use Rattle.py_statements.specs.Machine.{next_part}
use Rattle.py_statements.specs.ViewSuiteOf.{boxed_kind}
use Rattle.py_statements.specs.ViewStates.{kind_at, view_place}

-- the part that a token begins after a suite of a statement
abbrev pub IsPart : StmtKind → Kind → Result Part AllocError → Type 0
IsPart k t (Ok (part_.Next p)) = next_part k t ≡ Some (view_place p)
IsPart k t (Ok (part_.Whole k')) = (next_part k t ≡ None) × (boxed_kind k' ≡ k)
IsPart k t (Err e) = Unit {0}

-- the same of the kind of a token
abbrev pub IsPartAt : Token → StmtKind → Result Part AllocError → Type 0
IsPartAt t k r = IsPart k (kind_at t) r
