-- The reader of expressions as a machine: a stack of what is open, and a step for each token.
--     at_most, same_precedence                precedences and their order
--     snoc .. strings_of                      lists with one more at the end, and strings side by
--                                             side
--     Goal, Opener, Frame, Ctx                what is read towards, and what is open
--     State, Out                              a place in an expression, and what a token makes of
--                                             it
--     upto_exprs .. upto                      the frames from one precedence up to another
--     begin, leave, give, step, start         the steps
--     ended, format_class, class .. parts     the class of a token, and the fields of f-strings
--     Verdict, run                            the reading of a list
use Rattle.std.specs.Prelude.{nat_eq, Bool, true, false, cond, List, [], ◌∷◌, Option, Some, None, option_map}
use Rattle.py_operator.specs.declared.operator.BinOp.TheVariants as op_
use Rattle.py_operator.specs.declared.operator.CmpOp.{CmpOp}
use Rattle.py_operator.specs.declared.operator.CmpOp.TheVariants as cmp_
use Rattle.py_token.specs.declared.token.Keyword.TheVariants as word
use Rattle.py_token.specs.declared.token.Mark.TheVariants as mark
use Rattle.py_syntax.specs.declared.expr.Comparison.{Comparison}
use Rattle.py_syntax.specs.declared.expr.Comparison.TheVariants.{Op, Is, IsNot}
use Rattle.py_syntax.specs.declared.expr.Sign.{Sign as UnarySign}
use Rattle.py_syntax.specs.declared.expr.Sign.TheVariants as sign_
use Rattle.py_syntax.specs.Tree.{Text, Expr, name, int, str, fstr, none, bool, tuple, list, dict, paren, not', unary, compare, call, index, slice, attr, Exprs, no_exprs, exprs, Pairs, no_pairs, pair, Links, no_links, link, OptExpr, absent, present, Fragments, no_fragments, plain, format, Parts, no_parts, text, field}
use Rattle.py_syntax.specs.Tree as tree_
use Rattle.py_syntax.specs.Kinds.{Kind, Name, Word, Int, Str, FString, Sign, Newline, Indent, Dedent, End, Pieces, no_pieces, chars_piece, field_piece, Kinds, no_kinds, kinds}
use Rattle.py_syntax.specs.Normal.{Precedence, LEnd, LExprs, LExpr, LOr, LAnd, LNot, LCmp, LSum, LTerm, LUnary, LPost, rank, is_target}
use Rattle.py_grammar.specs.TokenClasses.{BinaryOperator, b_or, b_and, b_op, TokenClass, t_name, t_int, t_none, t_bool, t_string, t_format, t_bad_format, t_not, t_is, t_if, t_else, t_compare, t_operator, t_comma, t_colon, t_dot, t_left_paren, t_right_paren, t_left_bracket, t_right_bracket, t_left_brace, t_right_brace, t_other, operator_precedence, operator_right, joined, begins}
use Rattle.std.specs.Prelude.{nat_le}

-- whether one precedence is as loose as the other, or looser
abbrev pub at_most : Precedence → Precedence → Bool
at_most a b = nat_le (rank a) (rank b)

-- whether two precedences are the same
abbrev pub same_precedence : Precedence → Precedence → Bool
same_precedence a b = nat_eq (rank a) (rank b)

-- ---- one more at the end

-- items with one more
abbrev pub snoc : Exprs → Expr → Exprs
snoc no_exprs e = exprs e no_exprs
snoc (exprs f es) e = exprs f (snoc es e)

-- entries of a dict with one more
abbrev pub snoc_pair : Pairs → Expr → Expr → Pairs
snoc_pair no_pairs k v = pair k v no_pairs
snoc_pair (pair k' v' ps) k v = pair k' v' (snoc_pair ps k v)

-- comparisons of a chain with one more
abbrev pub snoc_link : Links → Comparison → Expr → Links
snoc_link no_links op e = link op e no_links
snoc_link (link op' e' ls) op e = link op' e' (snoc_link ls op e)

-- neighbouring strings with one more
abbrev pub snoc_plain : Fragments → Text → Fragments
snoc_plain no_fragments x = plain x no_fragments
snoc_plain (plain y fs) x = plain y (snoc_plain fs x)
snoc_plain (format ps fs) x = format ps (snoc_plain fs x)

-- the same with an f-string more
abbrev pub snoc_format : Fragments → Parts → Fragments
snoc_format no_fragments ps = format ps no_fragments
snoc_format (plain y fs) ps = plain y (snoc_format fs ps)
snoc_format (format qs fs) ps = format qs (snoc_format fs ps)

-- ---- neighbouring strings: one string, or an f-string where there is one among them

-- whether an f-string is among the strings
abbrev pub has_format : Fragments → Bool
has_format no_fragments = false
has_format (plain x fs) = has_format fs
has_format (format ps fs) = true

-- the strings that are no f-strings
abbrev pub texts : Fragments → List Text
texts no_fragments = []
texts (plain x fs) = x ∷ texts fs
texts (format ps fs) = texts fs

-- the tree of neighbouring strings
abbrev pub strings_of : Fragments → Expr
strings_of fs = cond (has_format fs) (fstr fs) (str (texts fs))

-- ---- the stack

-- What the whole is to be: any `exprs`, one `expr`, or the target of a `for`, of which the items
-- before a comma are kept.
pub data Goal : Type 0 where
  any : Goal
  one : Goal
  target : Goal
  targets : (f : Expr) (es : Exprs) → Goal

-- what opened a bracket that holds items
pub data Opener : Type 0 where
  a_call : (callee : Expr) → Opener
  a_list : Opener

-- a call or a list with its items, and whether a comma stands after them
abbrev pub made : Opener → Exprs → Bool → Expr
made (a_call f) es c = call f es c
made a_list es c = list es c

-- A place where a production waits for a part, with the parts in front of it.
pub data Frame : Type 0 where
  -- an `expr` that may be the first of several; one after a comma
  exprs_first : Frame
  exprs_rest : (f : Expr) (es : Exprs) → Frame
  -- the body of a conditional expression, its test, and what stands after `else`
  cond_first : Frame
  cond_test : (body : Expr) → Frame
  cond_else : (body test : Expr) → Frame
  -- an operand that may be the left one of an operator of that precedence; the right one
  first : (l : Precedence) → Frame
  right : (j : BinaryOperator) (a : Expr) → Frame
  -- the operand of `not`
  not_of : Frame
  -- an operand that may begin a chain of comparisons; one in it
  compare_first : Frame
  compare_rest : (a : Expr) (ls : Links) (op : CmpOp) → Frame
  -- the operand of a sign
  unary_of : (s : UnarySign) → Frame
  -- what may be called, indexed or asked for a name
  post_rest : Frame
  -- an item of a call or a list
  in_items : (o : Opener) (es : Exprs) → Frame
  -- the first `expr` of an index or a slice; several as an index; the end of a slice
  index_first : (of : Expr) → Frame
  in_index : (of : Expr) → Frame
  slice_to : (of : Expr) (from : OptExpr) → Frame
  -- what stands in round brackets
  in_paren : Frame
  -- a key and a value of a dict
  in_key : (ps : Pairs) → Frame
  in_value : (ps : Pairs) (key : Expr) → Frame

-- what is open round the place, from the inside
pub data Ctx : Type 0 where
  Outside : (g : Goal) → Ctx
  on : (f : Frame) (k : Ctx) → Ctx

-- A place in an expression, with what was read of the innermost part.
pub data State : Type 0 where
  -- an expression of that precedence, or of a tighter one, has to begin
  Want : (l : Precedence) (k : Ctx) → State
  -- an expression is read, and may go on
  Have : (e : Expr) (k : Ctx) → State
  -- a string or several are read
  Strings : (fs : Fragments) (k : Ctx) → State
  -- after `(`
  AfterOpen : (k : Ctx) → State
  -- after a comma of a tuple; of the target of a `for`
  AfterComma : (f : Expr) (es : Exprs) (k : Ctx) → State
  AfterTarget : (f : Expr) (es : Exprs) → State
  -- after the bracket of a call or a list; after a comma in it
  ItemsOpen : (o : Opener) (k : Ctx) → State
  ItemsComma : (o : Opener) (es : Exprs) (k : Ctx) → State
  -- after `{`; after a comma of a dict
  DictOpen : (k : Ctx) → State
  DictComma : (ps : Pairs) (k : Ctx) → State
  -- after the bracket of an index or a slice; after the colon of a slice
  IndexOpen : (of : Expr) (k : Ctx) → State
  SliceColon : (of : Expr) (from : OptExpr) (k : Ctx) → State
  -- after a dot
  AfterDot : (of : Expr) (k : Ctx) → State
  -- after the `not` of `not in`, `is`, and `is not`; after what stands after `is`
  AfterNot : (a : Expr) (ls : Links) (k : Ctx) → State
  AfterIs : (a : Expr) (ls : Links) (k : Ctx) → State
  AfterIsNot : (a : Expr) (ls : Links) (k : Ctx) → State
  Linked : (a : Expr) (ls : Links) (k : Ctx) → State

-- What a token makes of a place: the next one, no expression, or the end of the outermost one.
pub data Out : Type 0 where
  Next : State → Out
  Stuck : Out
  -- the outermost expression is whole, and the token is not taken
  Left : Expr → Out

-- ---- the frames from one precedence up to another

-- up to several expressions with commas
abbrev pub upto_exprs : Precedence → Ctx → Ctx
upto_exprs lev k = cond (at_most lev LExprs) (on exprs_first k) k

-- up to a conditional expression
abbrev pub upto_cond : Precedence → Ctx → Ctx
upto_cond lev k = cond (at_most lev LExpr) (on cond_first (upto_exprs lev k)) k

-- up to the operands of an `or`
abbrev pub upto_or : Precedence → Ctx → Ctx
upto_or lev k = cond (at_most lev LOr) (on (first LOr) (upto_cond lev k)) k

-- up to the operands of an `and`
abbrev pub upto_and : Precedence → Ctx → Ctx
upto_and lev k = cond (at_most lev LAnd) (on (first LAnd) (upto_or lev k)) k

-- up to the operands of a comparison
abbrev pub upto_compare : Precedence → Ctx → Ctx
upto_compare lev k = cond (at_most lev LCmp) (on compare_first (upto_and lev k)) k

-- up to the operands of a sum
abbrev pub upto_sum : Precedence → Ctx → Ctx
upto_sum lev k = cond (at_most lev LSum) (on (first LSum) (upto_compare lev k)) k

-- up to the operands of a product
abbrev pub upto_term : Precedence → Ctx → Ctx
upto_term lev k = cond (at_most lev LTerm) (on (first LTerm) (upto_sum lev k)) k

-- what is open after a tree of the second precedence, where one of the first was to begin
abbrev pub upto : Precedence → Precedence → Ctx → Ctx
upto lev LEnd k = k
upto lev LExprs k = upto_exprs lev k
upto lev LExpr k = upto_exprs lev k
upto lev LOr k = upto_or lev k
upto lev LAnd k = upto_and lev k
upto lev LNot k = upto_and lev k
upto lev LCmp k = upto_compare lev k
upto lev LSum k = upto_sum lev k
upto lev LTerm k = upto_term lev k
upto lev LUnary k = upto_term lev k
upto lev LPost k = on post_rest (upto_term lev k)

-- ---- the steps

-- An expression of that precedence, or of a tighter one, begins.
abbrev pub begin : Precedence → Ctx → TokenClass → Out
begin lev k (t_name x) = Next (Have (name x) (upto lev LPost k))
begin lev k (t_int n) = Next (Have (int n) (upto lev LPost k))
begin lev k t_none = Next (Have none (upto lev LPost k))
begin lev k (t_bool b) = Next (Have (bool b) (upto lev LPost k))
begin lev k (t_string x) = Next (Strings (plain x no_fragments) (upto lev LPost k))
begin lev k (t_format ps) = Next (Strings (format ps no_fragments) (upto lev LPost k))
begin lev k t_not = cond (at_most lev LNot) (Next (Want LNot (on not_of (upto lev LNot k)))) Stuck
begin lev k (t_operator (b_op op_.Add)) =
    cond (at_most lev LUnary) (Next (Want LUnary (on (unary_of sign_.Plus) (upto lev LUnary k))))
    Stuck
begin lev k (t_operator (b_op op_.Sub)) =
    cond (at_most lev LUnary) (Next (Want LUnary (on (unary_of sign_.Minus) (upto lev LUnary k))))
    Stuck
begin lev k t_left_paren = Next (AfterOpen (upto_term lev k))
begin lev k t_left_bracket = Next (ItemsOpen a_list (upto_term lev k))
begin lev k t_left_brace = Next (DictOpen (upto_term lev k))
begin lev k _ = Stuck

-- the token that closes a bracket with items
abbrev pub close_items : Opener → Exprs → Bool → Ctx → TokenClass → Out → Out
close_items (a_call f) es c k t_right_paren o = Next (Have (call f es c) (on post_rest k))
close_items a_list es c k t_right_bracket o = Next (Have (list es c) (on post_rest k))
close_items p es c k t o = o

-- the outermost expression is whole
abbrev pub leave : Expr → Goal → TokenClass → Out
leave e any t = Left e
leave e one t = Left e
leave e target t_comma = cond (is_target e) (Next (AfterTarget e no_exprs)) Stuck
leave e target t = cond (is_target e) (Left e) Stuck
leave e (targets f es) t_comma = cond (is_target e) (Next (AfterTarget f (snoc es e))) Stuck
leave e (targets f es) t = cond (is_target e) (Left (tuple (exprs f (snoc es e)) false)) Stuck

-- An expression is whole as far as the stack knows, and this token comes.
abbrev pub give : Expr → Ctx → TokenClass → Out
give e (Outside g) t = leave e g t
give e (on exprs_first k) t_comma = Next (AfterComma e no_exprs k)
give e (on exprs_first k) t = give e k t
give e (on (exprs_rest f es) k) t_comma = Next (AfterComma f (snoc es e) k)
give e (on (exprs_rest f es) k) t = give (tuple (exprs f (snoc es e)) false) k t
give e (on cond_first k) t_if = Next (Want LOr (on (cond_test e) k))
give e (on cond_first k) t = give e k t
give e (on (cond_test b) k) t_else = Next (Want LExpr (on (cond_else b e) k))
give e (on (cond_test b) k) t = Stuck
give e (on (cond_else b c) k) t = give (tree_.cond b c e) k t
give e (on (first l) k) (t_operator j) =
    cond (same_precedence l (operator_precedence j))
    (Next (Want (operator_right j) (on (right j e) k)))
    (give e k (t_operator j))
give e (on (first l) k) t = give e k t
give e (on (right i a) k) (t_operator j) =
    cond (same_precedence (operator_precedence i) (operator_precedence j))
    (Next (Want (operator_right j) (on (right j (joined i a e)) k)))
    (give (joined i a e) k (t_operator j))
give e (on (right i a) k) t = give (joined i a e) k t
give e (on not_of k) t = give (not' e) k t
give e (on compare_first k) (t_compare op) = Next (Want LSum (on (compare_rest e no_links op) k))
give e (on compare_first k) t_not = Next (AfterNot e no_links k)
give e (on compare_first k) t_is = Next (AfterIs e no_links k)
give e (on compare_first k) t = give e k t
give e (on (compare_rest a ls p) k) (t_compare op) =
    Next (Want LSum (on (compare_rest a (snoc_link ls (Op p) e) op) k))
give e (on (compare_rest a ls p) k) t_not = Next (AfterNot a (snoc_link ls (Op p) e) k)
give e (on (compare_rest a ls p) k) t_is = Next (AfterIs a (snoc_link ls (Op p) e) k)
give e (on (compare_rest a ls p) k) t = give (compare a (snoc_link ls (Op p) e)) k t
give e (on (unary_of s) k) t = give (unary s e) k t
give e (on post_rest k) t_left_paren = Next (ItemsOpen (a_call e) k)
give e (on post_rest k) t_left_bracket = Next (IndexOpen e k)
give e (on post_rest k) t_dot = Next (AfterDot e k)
give e (on post_rest k) t = give e k t
give e (on (in_items o es) k) t_comma = Next (ItemsComma o (snoc es e) k)
give e (on (in_items o es) k) t = close_items o (snoc es e) false k t Stuck
give e (on (index_first f) k) t_comma = Next (AfterComma e no_exprs (on (in_index f) k))
give e (on (index_first f) k) t_colon = Next (SliceColon f (present e) k)
give e (on (index_first f) k) t_right_bracket = Next (Have (index f e) (on post_rest k))
give e (on (index_first f) k) t = Stuck
give e (on (in_index f) k) t_right_bracket = Next (Have (index f e) (on post_rest k))
give e (on (in_index f) k) t = Stuck
give e (on (slice_to f from) k) t_right_bracket =
    Next (Have (slice f from (present e)) (on post_rest k))
give e (on (slice_to f from) k) t = Stuck
give e (on in_paren k) t_right_paren = Next (Have (paren e) (on post_rest k))
give e (on in_paren k) t = Stuck
give e (on (in_key ps) k) t_colon = Next (Want LExpr (on (in_value ps e) k))
give e (on (in_key ps) k) t = Stuck
give e (on (in_value ps key) k) t_comma = Next (DictComma (snoc_pair ps key e) k)
give e (on (in_value ps key) k) t_right_brace =
    Next (Have (dict (snoc_pair ps key e) false) (on post_rest k))
give e (on (in_value ps key) k) t = Stuck

-- What a token makes of a place.
abbrev pub step : State → TokenClass → Out
step (Want lev k) t = begin lev k t
step (Have e k) t = give e k t
step (Strings fs k) (t_string x) = Next (Strings (snoc_plain fs x) k)
step (Strings fs k) (t_format ps) = Next (Strings (snoc_format fs ps) k)
step (Strings fs k) (t_bad_format ps) = Stuck
step (Strings fs k) t = give (strings_of fs) k t
step (AfterOpen k) t_right_paren = Next (Have (tuple no_exprs false) (on post_rest k))
step (AfterOpen k) t = begin LExprs (on in_paren k) t
step (AfterComma f es k) t =
    cond (begins t) (begin LExpr (on (exprs_rest f es) k) t) (give (tuple (exprs f es) true) k t)
step (AfterTarget f es) t =
    cond (begins t) (begin LPost (Outside (targets f es)) t) (Left (tuple (exprs f es) true))
step (ItemsOpen o k) t =
    close_items o no_exprs false k t (begin LExpr (on (in_items o no_exprs) k) t)
step (ItemsComma o es k) t = close_items o es true k t (begin LExpr (on (in_items o es) k) t)
step (DictOpen k) t_right_brace = Next (Have (dict no_pairs false) (on post_rest k))
step (DictOpen k) t = begin LExpr (on (in_key no_pairs) k) t
step (DictComma ps k) t_right_brace = Next (Have (dict ps true) (on post_rest k))
step (DictComma ps k) t = begin LExpr (on (in_key ps) k) t
step (IndexOpen f k) t_colon = Next (SliceColon f absent k)
step (IndexOpen f k) t = begin LExpr (on (index_first f) k) t
step (SliceColon f from k) t_right_bracket = Next (Have (slice f from absent) (on post_rest k))
step (SliceColon f from k) t = begin LExpr (on (slice_to f from) k) t
step (AfterDot f k) (t_name x) = Next (Have (attr f x) (on post_rest k))
step (AfterDot f k) t = Stuck
step (AfterNot a ls k) (t_compare cmp_.In) = Next (Want LSum (on (compare_rest a ls cmp_.NotIn) k))
step (AfterNot a ls k) t = Stuck
step (AfterIs a ls k) t_not = Next (AfterIsNot a ls k)
step (AfterIs a ls k) t_none = Next (Linked a (snoc_link ls Is none) k)
step (AfterIs a ls k) (t_bool b) = Next (Linked a (snoc_link ls Is (bool b)) k)
step (AfterIs a ls k) t = Stuck
step (AfterIsNot a ls k) t_none = Next (Linked a (snoc_link ls IsNot none) k)
step (AfterIsNot a ls k) (t_bool b) = Next (Linked a (snoc_link ls IsNot (bool b)) k)
step (AfterIsNot a ls k) t = Stuck
step (Linked a ls k) (t_compare op) = Next (Want LSum (on (compare_rest a ls op) k))
step (Linked a ls k) t_not = Next (AfterNot a ls k)
step (Linked a ls k) t_is = Next (AfterIs a ls k)
step (Linked a ls k) t = give (compare a ls) k t

-- nothing is read of an expression that is read towards this goal
abbrev pub start : Goal → State
start any = Want LExprs (Outside any)
start one = Want LExpr (Outside one)
start target = Want LPost (Outside target)
start (targets f es) = AfterTarget f es

-- ---- the class of a token

-- the expression that a state has, where no more comes
abbrev pub ended : State → Option Expr
ended s =
    elim (step s (t_other End)) as (λ (o : Out). Option Expr)
    [ Next n ↦ None | Stuck ↦ None | Left e ↦ Some e ]

-- the class of an f-string, with the trees of its fields where all have one
abbrev pub format_class : Pieces → Option Parts → TokenClass
format_class ps (Some qs) = t_format qs
format_class ps None = t_bad_format ps

-- The fields of an f-string are read by the machine itself.
abbrev mutual
  -- the class of a token
  pub class : Kind → TokenClass
  class (Name x) = t_name x
  class (Int n) = t_int n
  class (Str x) = t_string x
  class (FString ps) = format_class ps (parts ps)
  class (Word word.None) = t_none
  class (Word word.True) = t_bool true
  class (Word word.False) = t_bool false
  class (Word word.Not) = t_not
  class (Word word.Is) = t_is
  class (Word word.If) = t_if
  class (Word word.Else) = t_else
  class (Word word.In) = t_compare cmp_.In
  class (Word word.Or) = t_operator b_or
  class (Word word.And) = t_operator b_and
  class (Word w) = t_other (Word w)
  class (Sign mark.EqualEqual) = t_compare cmp_.Eq
  class (Sign mark.NotEqual) = t_compare cmp_.Ne
  class (Sign mark.Less) = t_compare cmp_.Lt
  class (Sign mark.LessEqual) = t_compare cmp_.Le
  class (Sign mark.Greater) = t_compare cmp_.Gt
  class (Sign mark.GreaterEqual) = t_compare cmp_.Ge
  class (Sign mark.Plus) = t_operator (b_op op_.Add)
  class (Sign mark.Minus) = t_operator (b_op op_.Sub)
  class (Sign mark.Star) = t_operator (b_op op_.Mul)
  class (Sign mark.DoubleSlash) = t_operator (b_op op_.Floor)
  class (Sign mark.Percent) = t_operator (b_op op_.Mod)
  class (Sign mark.Comma) = t_comma
  class (Sign mark.Colon) = t_colon
  class (Sign mark.Dot) = t_dot
  class (Sign mark.LeftParen) = t_left_paren
  class (Sign mark.RightParen) = t_right_paren
  class (Sign mark.LeftBracket) = t_left_bracket
  class (Sign mark.RightBracket) = t_right_bracket
  class (Sign mark.LeftBrace) = t_left_brace
  class (Sign mark.RightBrace) = t_right_brace
  class (Sign m) = t_other (Sign m)
  class Newline = t_other Newline
  class Indent = t_other Indent
  class Dedent = t_other Dedent
  class End = t_other End

  -- the trees of the pieces of an f-string, where each field has one
  pub parts : Pieces → Option Parts
  parts no_pieces = Some no_parts
  parts (chars_piece x ps) = option_map (λ qs. text x qs) (parts ps)
  parts (field_piece ks ps) =
      elim (field_expr (start any) ks) as (λ (o : Option Expr). Option Parts)
      [ None ↦ None | Some e ↦ option_map (λ qs. field e qs) (parts ps) ]

  -- the tree of a field from a state on, where it has one
  pub field_expr : State → Kinds → Option Expr
  field_expr s no_kinds = ended s
  field_expr s (kinds t ts) =
      elim (step s (class t)) as (λ (o : Out). Option Expr)
      [ Next n ↦ field_expr n ts | Stuck ↦ None | Left e ↦ None ]

-- ---- reading a list

-- The tokens from the first that no step takes, or the expression and the tokens after it.
pub data Verdict : Type 0 where
  Refused : List Kind → Verdict
  Leaves : Expr → List Kind → Verdict

-- the reading of a list from a state on
abbrev pub run : State → List Kind → Verdict
run s [] = Refused []
run s (t ∷ ts) =
    elim (step s (class t)) as (λ (o : Out). Verdict)
    [ Next n ↦ run n ts | Stuck ↦ Refused (t ∷ ts) | Left e ↦ Leaves e (t ∷ ts) ]
