-- Whether lists are empty, and what a token is not.
--     some_exprs .. some_cases     whether a list holds some
--     NoName, IsNameIn             a name, or none
--     is_equal_sign .. is_case     single tokens
--     is_a                         the class of a token
use Rattle.std.specs.Prelude.{◌≡◌, Bool, true, false, Option, Some, None, Result, Ok, Err, bytes_eq}
use Rattle.std.specs.declared.alloc.AllocError.{AllocError}
use Rattle.py_token.specs.declared.token.Mark.TheVariants as mark
use Rattle.py_syntax.specs.Tree.{Text, Exprs, no_exprs, exprs, Arms, no_arms, arm, Clauses}
use Rattle.py_syntax.specs.Tree.{no_clauses, clause, Cases, no_cases, case}
use Rattle.py_syntax.specs.Kinds.{Kind, Name, Sign, Newline, Indent, Dedent, End}
use Rattle.py_syntax.specs.Statements.{case_name}
use Rattle.py_syntax.specs.Headers.{is_colon, ends_line}
use Rattle.py_statements.specs.declared.lists.Class.{Class}
use Rattle.py_statements.specs.declared.lists.Class.TheVariants as class_
use Rattle.py_statements.specs.ViewMarks.{is_newline}

-- whether there is an expression
abbrev pub some_exprs : Exprs → Bool
some_exprs no_exprs = false
some_exprs (exprs e es) = true

-- whether there is a test
abbrev pub some_arms : Arms → Bool
some_arms no_arms = false
some_arms (arm t b arms) = true

-- whether there is an `except` clause
abbrev pub some_clauses : Clauses → Bool
some_clauses no_clauses = false
some_clauses (clause e x b cs) = true

-- whether there is a case
abbrev pub some_cases : Cases → Bool
some_cases no_cases = false
some_cases (case p g b cs) = true

-- the token is no name
abbrev pub NoName : Kind → Type 0
NoName (Name x) = ⊥
NoName k = Unit {0}

-- the name that a token is
abbrev pub IsNameIn : Kind → Result (Option Text) AllocError → Type 0
IsNameIn k (Ok (Some x)) = k ≡ Name x
IsNameIn k (Ok None) = NoName k
IsNameIn k (Err e) = Unit {0}

-- whether a token is `=`
abbrev pub is_equal_sign : Kind → Bool
is_equal_sign (Sign mark.Equal) = true
is_equal_sign k = false

-- whether a token is a semicolon
abbrev pub is_semicolon : Kind → Bool
is_semicolon (Sign mark.Semicolon) = true
is_semicolon k = false

-- the token ends a simple statement
abbrev pub ends_simple : Kind → Bool
ends_simple (Sign mark.Semicolon) = true
ends_simple Newline = true
ends_simple k = false

-- whether a token is a comma
abbrev pub is_comma : Kind → Bool
is_comma (Sign mark.Comma) = true
is_comma k = false

-- whether a token is `)`
abbrev pub is_right_paren : Kind → Bool
is_right_paren (Sign mark.RightParen) = true
is_right_paren k = false

-- whether a block begins with a token
abbrev pub is_indent : Kind → Bool
is_indent Indent = true
is_indent k = false

-- whether a block ends with a token
abbrev pub is_dedent : Kind → Bool
is_dedent Dedent = true
is_dedent k = false

-- whether a token is the end of the list
abbrev pub is_end : Kind → Bool
is_end End = true
is_end k = false

-- the name `case`
abbrev pub is_case : Kind → Bool
is_case (Name x) = bytes_eq x case_name
is_case k = false

-- the token is of that class
abbrev pub is_a : Class → Kind → Bool
is_a class_.Comma k = is_comma k
is_a class_.Colon k = is_colon k
is_a class_.Semicolon k = is_semicolon k
is_a class_.EqualSign k = is_equal_sign k
is_a class_.RightParen k = is_right_paren k
is_a class_.Newline k = is_newline k
is_a class_.Indent k = is_indent k
is_a class_.Dedent k = is_dedent k
is_a class_.End k = is_end k
is_a class_.SimpleEnd k = ends_simple k
is_a class_.LineEnd k = ends_line k
