-- What is open in an expression as the code holds it, without trees.
--     bare_class                       classes of tokens, without what they hold
--     view_operator .. view_class      operators and classes as the code holds them
--     view_precedence, view_opener     precedences, and what opened a bracket
--     view_frame                       one frame
--     view_open, view_stack            the stack
--     Opens, Pops                      frames more, and one fewer
use Rattle.std.specs.Prelude.{◌≡◌, ◌<◌, length, pos, List, [], ◌∷◌, reverse, Option, Some, None}
use Rattle.std.specs.Global.{Vec}
use Rattle.py_syntax.specs.Tree.{no_exprs, no_pairs, no_links, absent}
use Rattle.py_syntax.specs.Kinds.{End, no_pieces}
use Rattle.py_syntax.specs.Normal.{Precedence, LExprs, LExpr, LOr, LAnd, LNot, LCmp, LSum, LTerm, LUnary, LPost}
use Rattle.py_grammar.specs.TokenClasses.{BinaryOperator, b_or, b_and, b_op, TokenClass, t_name, t_int, t_none, t_bool, t_string, t_format, t_bad_format, t_not, t_is, t_if, t_else, t_compare, t_operator, t_comma, t_colon, t_dot, t_left_paren, t_right_paren, t_left_bracket, t_right_bracket, t_left_brace, t_right_brace, t_other}
use Rattle.py_grammar.specs.Machine.{any, Opener, a_call, a_list, Frame, exprs_first, exprs_rest, cond_first, cond_test, cond_else, first, right, not_of, compare_first, compare_rest, unary_of, post_rest, in_items, index_first, in_index, slice_to, in_paren, in_key, in_value, Ctx, Outside, on}
use Rattle.py_grammar.specs.Least.{least_name}
use Rattle.py_parse_fields.specs.declared.operators.BinaryOperator as code_operator
use Rattle.py_parse_fields.specs.declared.operators.BinaryOperator.TheVariants as operator_
use Rattle.py_parse_fields.specs.declared.operators.Precedence as code_precedence
use Rattle.py_parse_fields.specs.declared.operators.Precedence.TheVariants as precedence_
use Rattle.py_parse_fields.specs.declared.token_classes.Symbol as code_symbol
use Rattle.py_parse_fields.specs.declared.token_classes.Symbol.TheVariants as symbol_
use Rattle.py_parse_fields.specs.declared.token_classes.TokenClass as code_class
use Rattle.py_parse_fields.specs.declared.token_classes.TokenClass.TheVariants as class_
use Rattle.py_parse_fields.specs.declared.frames.Opener as code_opener
use Rattle.py_parse_fields.specs.declared.frames.Opener.TheVariants as opener_
use Rattle.py_parse_fields.specs.declared.frames.Frame as code_frame
use Rattle.py_parse_fields.specs.declared.frames.Frame.TheVariants as frame_

-- a class without the texts, numbers and trees that it holds
abbrev pub bare_class : TokenClass → TokenClass
bare_class (t_name x) = t_name []
bare_class (t_int n) = t_int (pos 0)
bare_class (t_bool b) = t_none
bare_class (t_string x) = t_string []
bare_class (t_format ps) = t_string []
bare_class (t_bad_format ps) = t_bad_format no_pieces
bare_class (t_other k) = t_other End
bare_class t = t

-- an operator that joins two operands
abbrev pub view_operator : code_operator.BinaryOperator → BinaryOperator
view_operator operator_.Or = b_or
view_operator operator_.And = b_and
view_operator (operator_.Op op) = b_op op

-- the class of a token that is no expression by itself and holds no text
abbrev pub view_symbol : code_symbol.Symbol → TokenClass
view_symbol symbol_.Not = t_not
view_symbol symbol_.Is = t_is
view_symbol symbol_.If = t_if
view_symbol symbol_.Else = t_else
view_symbol (symbol_.Compare op) = t_compare op
view_symbol (symbol_.BinaryOperator j) = t_operator (view_operator j)
view_symbol symbol_.Comma = t_comma
view_symbol symbol_.Colon = t_colon
view_symbol symbol_.Dot = t_dot
view_symbol symbol_.LeftParen = t_left_paren
view_symbol symbol_.RightParen = t_right_paren
view_symbol symbol_.LeftBracket = t_left_bracket
view_symbol symbol_.RightBracket = t_right_bracket
view_symbol symbol_.LeftBrace = t_left_brace
view_symbol symbol_.RightBrace = t_right_brace
view_symbol symbol_.Other = t_other End

-- the class of a token
abbrev pub view_class : code_class.TokenClass → TokenClass
view_class class_.Name = t_name []
view_class class_.Number = t_int (pos 0)
view_class class_.Constant = t_none
view_class class_.Text = t_string []
view_class class_.BadFormat = t_bad_format no_pieces
view_class (class_.Symbol s) = view_symbol s

-- a precedence of the grammar
abbrev pub view_precedence : code_precedence.Precedence → Precedence
view_precedence precedence_.Exprs = LExprs
view_precedence precedence_.Expr = LExpr
view_precedence precedence_.Or = LOr
view_precedence precedence_.And = LAnd
view_precedence precedence_.Not = LNot
view_precedence precedence_.Compare = LCmp
view_precedence precedence_.Sum = LSum
view_precedence precedence_.Term = LTerm
view_precedence precedence_.Unary = LUnary
view_precedence precedence_.Post = LPost

-- what opened a bracket that holds items
abbrev pub view_opener : code_opener.Opener → Opener
view_opener opener_.Call = a_call least_name
view_opener opener_.List = a_list

-- the least trees stand for those that were read
abbrev pub view_frame : code_frame.Frame → Frame
view_frame frame_.ExprsFirst = exprs_first
view_frame frame_.ExprsRest = exprs_rest least_name no_exprs
view_frame frame_.CondFirst = cond_first
view_frame frame_.CondTest = cond_test least_name
view_frame frame_.CondElse = cond_else least_name least_name
view_frame (frame_.First l) = first (view_precedence l)
view_frame (frame_.Right j) = right (view_operator j) least_name
view_frame frame_.NotOf = not_of
view_frame frame_.CompareFirst = compare_first
view_frame (frame_.CompareRest op) = compare_rest least_name no_links op
view_frame (frame_.UnaryOf s) = unary_of s
view_frame frame_.PostRest = post_rest
view_frame (frame_.InItems o) = in_items (view_opener o) no_exprs
view_frame frame_.IndexFirst = index_first least_name
view_frame frame_.InIndex = in_index least_name
view_frame frame_.SliceTo = slice_to least_name absent
view_frame frame_.InParen = in_paren
view_frame frame_.InKey = in_key no_pairs
view_frame frame_.InValue = in_value no_pairs least_name

-- the frames that are open, the innermost first
abbrev pub view_open : List code_frame.Frame → Ctx
view_open [] = Outside any
view_open (f ∷ fs) = on (view_frame f) (view_open fs)

-- the innermost is the last in the code, and the first in the machine
abbrev pub view_stack : List code_frame.Frame → Ctx
view_stack fs = view_open (reverse fs)

-- more frames are open than were
abbrev pub Opens : (Ctx → Ctx) → Vec code_frame.Frame → Vec code_frame.Frame → Type 0
Opens added old new = view_stack new.items ≡ added (view_stack old.items)

-- the innermost frame is taken off, where there is one
abbrev pub Pops : Option code_frame.Frame → List code_frame.Frame → List code_frame.Frame → Type 0
Pops None old new = old ≡ []
Pops (Some f) old new =
    (view_stack old ≡ on (view_frame f) (view_stack new)) × (length new < length old)
