-- What texts, numbers and trees a token holds makes no difference to which tokens are taken.
use Rattle.std.proofs.Common.{◌≡◌, Bool, true, false, refl}
use Rattle.py_syntax.specs.declared.expr.Comparison.TheVariants.{Op}
use Rattle.py_syntax.specs.Tree.{Expr, tuple, not', unary, compare, Exprs, no_exprs, exprs, no_pairs}
use Rattle.py_syntax.specs.Tree as tree_
use Rattle.py_syntax.specs.Normal.{Precedence, LExprs, LExpr}
use Rattle.py_grammar.specs.TokenClasses.{TokenClass, t_name, t_none, t_string, t_format, t_bad_format, t_not, t_is, t_if, t_else, t_compare, t_operator, t_comma, t_colon, t_dot, t_left_paren, t_right_paren, t_left_bracket, t_right_bracket, t_right_brace, t_other, joined}
use Rattle.py_grammar.specs.Machine.{snoc, snoc_link, strings_of, any, one, target, targets, Opener, a_call, a_list, exprs_first, exprs_rest, cond_first, cond_test, cond_else, first, right, not_of, compare_first, compare_rest, unary_of, post_rest, in_items, index_first, in_index, slice_to, in_paren, in_key, in_value, Ctx, Outside, on, State, Want, Have, Strings, AfterOpen, AfterComma, AfterTarget, ItemsOpen, ItemsComma, DictOpen, DictComma, IndexOpen, SliceColon, AfterDot, AfterNot, AfterIs, AfterIsNot, Linked, Out, Stuck, begin, close_items, give, step}
use Rattle.py_grammar.specs.Bare.{bare_out}
use Rattle.py_parse_fields.specs.Frames.{bare_class}

same_close : (o : Opener) (es : Exprs) (c : Bool) (k : Ctx) (t : TokenClass) (a b : Out) → bare_out a ≡ bare_out b → bare_out (close_items o es c k t a) ≡ bare_out (close_items o es c k (bare_class t) b)
same_close (a_call f) es c k t_right_paren x y h = refl
same_close (a_call f) es c k t x y h = h
same_close a_list es c k t_right_bracket x y h = refl
same_close a_list es c k t x y h = h

same_give : (e : Expr) (k : Ctx) (t : TokenClass) → bare_out (give e k t) ≡ bare_out (give e k (bare_class t))
same_give e (Outside any) t = refl
same_give e (Outside one) t = refl
same_give e (Outside target) t_comma = refl
same_give e (Outside target) t = refl
same_give e (Outside (targets f es)) t_comma = refl
same_give e (Outside (targets f es)) t = refl
same_give e (on exprs_first k) t_comma = refl
same_give e (on exprs_first k) t = same_give e k t
same_give e (on (exprs_rest f es) k) t_comma = refl
same_give e (on (exprs_rest f es) k) t = same_give (tuple (exprs f (snoc es e)) false) k t
same_give e (on cond_first k) t_if = refl
same_give e (on cond_first k) t = same_give e k t
same_give e (on (cond_test b) k) t_else = refl
same_give e (on (cond_test b) k) t = refl
same_give e (on (cond_else b c) k) t = same_give (tree_.cond b c e) k t
same_give e (on (first l) k) (t_operator j) = refl
same_give e (on (first l) k) t = same_give e k t
same_give e (on (right i a) k) (t_operator j) = refl
same_give e (on (right i a) k) t = same_give (joined i a e) k t
same_give e (on not_of k) t = same_give (not' e) k t
same_give e (on compare_first k) (t_compare op) = refl
same_give e (on compare_first k) t_not = refl
same_give e (on compare_first k) t_is = refl
same_give e (on compare_first k) t = same_give e k t
same_give e (on (compare_rest a ls p) k) (t_compare op) = refl
same_give e (on (compare_rest a ls p) k) t_not = refl
same_give e (on (compare_rest a ls p) k) t_is = refl
same_give e (on (compare_rest a ls p) k) t = same_give (compare a (snoc_link ls (Op p) e)) k t
same_give e (on (unary_of s) k) t = same_give (unary s e) k t
same_give e (on post_rest k) t_left_paren = refl
same_give e (on post_rest k) t_left_bracket = refl
same_give e (on post_rest k) t_dot = refl
same_give e (on post_rest k) t = same_give e k t
same_give e (on (in_items o es) k) t_comma = refl
same_give e (on (in_items o es) k) t = same_close o (snoc es e) false k t Stuck Stuck refl
same_give e (on (index_first f) k) t_comma = refl
same_give e (on (index_first f) k) t = refl
same_give e (on (in_index f) k) t_comma = refl
same_give e (on (in_index f) k) t = refl
same_give e (on (slice_to f from) k) t_comma = refl
same_give e (on (slice_to f from) k) t = refl
same_give e (on in_paren k) t_comma = refl
same_give e (on in_paren k) t = refl
same_give e (on (in_key ps) k) t_comma = refl
same_give e (on (in_key ps) k) t = refl
same_give e (on (in_value ps key) k) t_comma = refl
same_give e (on (in_value ps key) k) t = refl

same_begin : (lev : Precedence) (k : Ctx) (t : TokenClass) → bare_out (begin lev k t) ≡ bare_out (begin lev k (bare_class t))
same_begin lev k (t_name x) = refl
same_begin lev k t = refl

-- a step, whatever the token holds
pub same_step : (s : State) (t : TokenClass) → bare_out (step s t) ≡ bare_out (step s (bare_class t))
same_step (Want lev k) t = same_begin lev k t
same_step (Have e k) t = same_give e k t
same_step (Strings fs k) (t_string x) = refl
same_step (Strings fs k) (t_format ps) = refl
same_step (Strings fs k) (t_bad_format ps) = refl
same_step (Strings fs k) t = same_give (strings_of fs) k t
same_step (AfterOpen k) t_right_paren = refl
same_step (AfterOpen k) t = same_begin LExprs (on in_paren k) t
same_step (AfterComma f es k) (t_name x) = refl
same_step (AfterComma f es k) (t_other t) = same_give (tuple (exprs f es) true) k (t_other t)
same_step (AfterComma f es k) t = refl
same_step (AfterTarget f es) (t_name x) = refl
same_step (AfterTarget f es) t = refl
same_step (ItemsOpen o k) t = same_close o no_exprs false k t (begin LExpr (on (in_items o no_exprs) k) t) (begin LExpr (on (in_items o no_exprs) k) (bare_class t)) (same_begin LExpr (on (in_items o no_exprs) k) t)
same_step (ItemsComma o es k) t = same_close o es true k t (begin LExpr (on (in_items o es) k) t) (begin LExpr (on (in_items o es) k) (bare_class t)) (same_begin LExpr (on (in_items o es) k) t)
same_step (DictOpen k) t_right_brace = refl
same_step (DictOpen k) t = same_begin LExpr (on (in_key no_pairs) k) t
same_step (DictComma ps k) t_right_brace = refl
same_step (DictComma ps k) t = same_begin LExpr (on (in_key ps) k) t
same_step (IndexOpen f k) t_colon = refl
same_step (IndexOpen f k) t = same_begin LExpr (on (index_first f) k) t
same_step (SliceColon f from k) t_right_bracket = refl
same_step (SliceColon f from k) t = same_begin LExpr (on (slice_to f from) k) t
same_step (AfterDot f k) (t_name x) = refl
same_step (AfterDot f k) t = refl
same_step (AfterNot a ls k) (t_compare op) = refl
same_step (AfterNot a ls k) t = refl
same_step (AfterIs a ls k) t_not = refl
same_step (AfterIs a ls k) t = refl
same_step (AfterIsNot a ls k) t_none = refl
same_step (AfterIsNot a ls k) t = refl
same_step (Linked a ls k) (t_compare op) = refl
same_step (Linked a ls k) t_not = refl
same_step (Linked a ls k) t_is = refl
same_step (Linked a ls k) t = same_give (compare a ls) k t
