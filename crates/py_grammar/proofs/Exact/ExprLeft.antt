-- What a token leaves of a state is the tree that the state finishes with.
use Rattle.std.proofs.Common.{◌≡◌, Bool, true, false, cond, ◌&&◌, refl, sym, ap, subst, ◌∙◌}
use Rattle.py_operator.specs.declared.operator.BinOp.TheVariants as op_
use Rattle.py_operator.specs.declared.operator.CmpOp.TheVariants as cmp_
use Rattle.py_syntax.specs.declared.expr.Comparison.TheVariants.{Op}
use Rattle.py_syntax.specs.declared.expr.Sign.TheVariants as sign_
use Rattle.py_syntax.specs.Tree.{Expr, tuple, not', unary, compare, Exprs, no_exprs, exprs, no_pairs}
use Rattle.py_syntax.specs.Tree as tree_
use Rattle.py_syntax.specs.Normal.{Precedence, LExprs, LExpr, LNot, LUnary, LPost, is_target, are_targets}
use Rattle.py_grammar.specs.TokenClasses.{b_op, TokenClass, t_name, t_none, t_bool, t_string, t_format, t_bad_format, t_not, t_is, t_if, t_else, t_compare, t_operator, t_comma, t_colon, t_dot, t_left_paren, t_right_paren, t_left_bracket, t_right_bracket, t_right_brace, operator_precedence, operator_right, joined, begins}
use Rattle.py_grammar.specs.Machine.{at_most, same_precedence, snoc, snoc_link, strings_of, Goal, any, one, target, targets, Opener, a_call, a_list, exprs_first, exprs_rest, cond_first, cond_test, cond_else, first, right, not_of, compare_first, compare_rest, unary_of, post_rest, in_items, index_first, in_index, slice_to, in_paren, in_key, in_value, Ctx, Outside, on, State, Want, Have, Strings, AfterOpen, AfterComma, AfterTarget, ItemsOpen, ItemsComma, DictOpen, DictComma, IndexOpen, SliceColon, AfterDot, AfterNot, AfterIs, AfterIsNot, Linked, Out, Next, Stuck, Left, upto, begin, close_items, leave, give, step}
use Rattle.py_grammar.specs.Least.{least_name, wants, whole, finished}
use Rattle.py_grammar.proofs.Least.Finish.{as_target_same}
use Rattle.py_grammar.proofs.Least.Grows.{tuple_snoc, and_left, and_right, true_and}

-- no expression is left
abbrev Stays : Out → Type 0
Stays (Left e) = ⊥
Stays o = Unit {0}

-- the one that is left is this
abbrev pub LeavesIt : Expr → Out → Type 0
LeavesIt x (Left e) = x ≡ e
LeavesIt x o = Unit {0}

kept : (x : Expr) (o : Out) → Stays o → LeavesIt x o
kept x (Next s) h = tt
kept x Stuck h = tt
kept x (Left e) h = absurd h

either : (b : Bool) (s : State) → Stays (cond b (Next s) Stuck)
either true s = tt
either false s = tt

close_keeps : (o : Opener) (es : Exprs) (c : Bool) (k : Ctx) (t : TokenClass) (other : Out) → Stays other → Stays (close_items o es c k t other)
close_keeps (a_call f) es c k t_right_paren other h = tt
close_keeps (a_call f) es c k t other h = h
close_keeps a_list es c k t_right_bracket other h = tt
close_keeps a_list es c k t other h = h

begin_keeps : (lev : Precedence) (k : Ctx) (t : TokenClass) → Stays (begin lev k t)
begin_keeps lev k (t_name x) = tt
begin_keeps lev k t_not = go (at_most lev LNot)
  where
    go : (b : Bool) → Stays (cond b (Next (Want LNot (on not_of (upto lev LNot k)))) Stuck)
    go true = tt
    go false = tt
begin_keeps lev k (t_operator (b_op op_.Add)) = either (at_most lev LUnary) (Want LUnary (on (unary_of sign_.Plus) (upto lev LUnary k)))
begin_keeps lev k (t_operator (b_op op_.Sub)) = either (at_most lev LUnary) (Want LUnary (on (unary_of sign_.Minus) (upto lev LUnary k)))
begin_keeps lev k t = tt

-- ---- where a target is wanted, nothing else is left

leave_no : (e : Expr) (g : Goal) (t : TokenClass) → wants (Outside g) ≡ true → is_target e ≡ false → Stays (leave e g t)
leave_no e any t w n = absurd cc
leave_no e one t w n = absurd cc
leave_no e target t_comma w n = subst (λ (b : Bool). Stays (cond b (Next (AfterTarget e no_exprs)) Stuck)) (sym n) tt
leave_no e target t w n = subst (λ (b : Bool). Stays (cond b (Left e) Stuck)) (sym n) tt
leave_no e (targets f es) t_comma w n = subst (λ (b : Bool). Stays (cond b (Next (AfterTarget f (snoc es e))) Stuck)) (sym n) tt
leave_no e (targets f es) t w n = subst (λ (b : Bool). Stays (cond b (Left (tuple (exprs f (snoc es e)) false)) Stuck)) (sym n) tt

not_item : (f : Expr) (es : Exprs) (e : Expr) (k : Ctx) → ((is_target f && are_targets es) && wants k) ≡ true → is_target e ≡ false → is_target (tuple (exprs f (snoc es e)) false) ≡ false
not_item f es e k w n = tuple_snoc f es e false ∙ true_and (is_target f && are_targets es) (is_target e) (and_left (is_target f && are_targets es) (wants k) w) ∙ n

no_left : (e : Expr) (k : Ctx) (t : TokenClass) → wants k ≡ true → is_target e ≡ false → Stays (give e k t)
no_left e (Outside g) t w n = leave_no e g t w n
no_left e (on exprs_first k) t_comma w n = tt
no_left e (on exprs_first k) t w n = no_left e k t w n
no_left e (on (exprs_rest f es) k) t_comma w n = tt
no_left e (on (exprs_rest f es) k) t w n = no_left (tuple (exprs f (snoc es e)) false) k t (and_right (is_target f && are_targets es) (wants k) w) (not_item f es e k w n)
no_left e (on cond_first k) t_if w n = tt
no_left e (on cond_first k) t w n = no_left e k t w n
no_left e (on (first l) k) (t_operator j) w n = go (same_precedence l (operator_precedence j)) (no_left e k (t_operator j) w n)
  where
    go : (b : Bool) → Stays (give e k (t_operator j)) → Stays (cond b (Next (Want (operator_right j) (on (right j e) k))) (give e k (t_operator j)))
    go true rec = tt
    go false rec = rec
no_left e (on (first l) k) t w n = no_left e k t w n
no_left e (on compare_first k) (t_compare op) w n = tt
no_left e (on compare_first k) t_not w n = tt
no_left e (on compare_first k) t_is w n = tt
no_left e (on compare_first k) t w n = no_left e k t w n
no_left e (on post_rest k) t_left_paren w n = tt
no_left e (on post_rest k) t_left_bracket w n = tt
no_left e (on post_rest k) t_dot w n = tt
no_left e (on post_rest k) t w n = no_left e k t w n
no_left e (on (in_items a_list es) k) t_comma w n = tt
no_left e (on (in_items a_list es) k) t w n = close_keeps a_list (snoc es e) false k t Stuck tt
no_left e (on in_paren k) t_right_paren w n = tt
no_left e (on in_paren k) t w n = tt
no_left e (on (in_items (a_call f) es) k) t w n = absurd cc
no_left e (on f k) t w n = absurd cc

-- ---- what is left

leave_left : (x e : Expr) (g : Goal) (t : TokenClass) → x ≡ whole (Outside g) e → LeavesIt x (leave e g t)
leave_left x e any t h = h
leave_left x e one t h = h
leave_left x e target t_comma h = kept x (cond (is_target e) (Next (AfterTarget e no_exprs)) Stuck) (either (is_target e) (AfterTarget e no_exprs))
leave_left x e target t h = go (is_target e) refl
  where
    go : (b : Bool) → is_target e ≡ b → LeavesIt x (cond b (Left e) Stuck)
    go true is = h ∙ as_target_same e is
    go false is = tt
leave_left x e (targets f es) t_comma h = kept x (cond (is_target e) (Next (AfterTarget f (snoc es e))) Stuck) (either (is_target e) (AfterTarget f (snoc es e)))
leave_left x e (targets f es) t h = go (is_target e) refl
  where
    go : (b : Bool) → is_target e ≡ b → LeavesIt x (cond b (Left (tuple (exprs f (snoc es e)) false)) Stuck)
    go true is = h ∙ ap (λ (y : Expr). tuple (exprs f (snoc es y)) false) (as_target_same e is)
    go false is = tt

give_left : (x e : Expr) (k : Ctx) (t : TokenClass) → x ≡ whole k e → LeavesIt x (give e k t)
give_left x e (Outside g) t h = leave_left x e g t h
give_left x e (on exprs_first k) t_comma h = tt
give_left x e (on exprs_first k) t h = give_left x e k t h
give_left x e (on (exprs_rest f es) k) t_comma h = tt
give_left x e (on (exprs_rest f es) k) t h = give_left x (tuple (exprs f (snoc es e)) false) k t h
give_left x e (on cond_first k) t_if h = tt
give_left x e (on cond_first k) t h = give_left x e k t h
give_left x e (on (cond_test b) k) t_else h = tt
give_left x e (on (cond_test b) k) t h = tt
give_left x e (on (cond_else b c) k) t h = give_left x (tree_.cond b c e) k t h
give_left x e (on (first l) k) (t_operator j) h = go (same_precedence l (operator_precedence j)) (give_left x e k (t_operator j) h)
  where
    go : (b : Bool) → LeavesIt x (give e k (t_operator j)) → LeavesIt x (cond b (Next (Want (operator_right j) (on (right j e) k))) (give e k (t_operator j)))
    go true rec = tt
    go false rec = rec
give_left x e (on (first l) k) t h = give_left x e k t h
give_left x e (on (right i a) k) (t_operator j) h = go (same_precedence (operator_precedence i) (operator_precedence j)) (give_left x (joined i a e) k (t_operator j) h)
  where
    go : (b : Bool) → LeavesIt x (give (joined i a e) k (t_operator j)) → LeavesIt x (cond b (Next (Want (operator_right j) (on (right j (joined i a e)) k))) (give (joined i a e) k (t_operator j)))
    go true rec = tt
    go false rec = rec
give_left x e (on (right i a) k) t h = give_left x (joined i a e) k t h
give_left x e (on not_of k) t h = give_left x (not' e) k t h
give_left x e (on compare_first k) (t_compare op) h = tt
give_left x e (on compare_first k) t_not h = tt
give_left x e (on compare_first k) t_is h = tt
give_left x e (on compare_first k) t h = give_left x e k t h
give_left x e (on (compare_rest a ls p) k) (t_compare op) h = tt
give_left x e (on (compare_rest a ls p) k) t_not h = tt
give_left x e (on (compare_rest a ls p) k) t_is h = tt
give_left x e (on (compare_rest a ls p) k) t h = give_left x (compare a (snoc_link ls (Op p) e)) k t h
give_left x e (on (unary_of s) k) t h = give_left x (unary s e) k t h
give_left x e (on post_rest k) t_left_paren h = tt
give_left x e (on post_rest k) t_left_bracket h = tt
give_left x e (on post_rest k) t_dot h = tt
give_left x e (on post_rest k) t h = go (λ i. give_left x e k t i) (wants k) refl (is_target e) refl h
  where
    go : (x ≡ whole k e → LeavesIt x (give e k t)) → (w : Bool) → wants k ≡ w → (b : Bool) → is_target e ≡ b → x ≡ whole k (cond w (cond b e (tree_.index e least_name)) e) → LeavesIt x (give e k t)
    go rec true w true b h = rec h
    go rec true w false b h = kept x (give e k t) (no_left e k t w b)
    go rec false w b is h = rec h
give_left x e (on (in_items o es) k) t_comma h = tt
give_left x e (on (in_items o es) k) t h = kept x (close_items o (snoc es e) false k t Stuck) (close_keeps o (snoc es e) false k t Stuck tt)
give_left x e (on (index_first f) k) t_comma h = tt
give_left x e (on (index_first f) k) t_colon h = tt
give_left x e (on (index_first f) k) t_right_bracket h = tt
give_left x e (on (index_first f) k) t h = tt
give_left x e (on (in_index f) k) t_right_bracket h = tt
give_left x e (on (in_index f) k) t h = tt
give_left x e (on (slice_to f from) k) t_right_bracket h = tt
give_left x e (on (slice_to f from) k) t h = tt
give_left x e (on in_paren k) t_right_paren h = tt
give_left x e (on in_paren k) t h = tt
give_left x e (on (in_key ps) k) t_colon h = tt
give_left x e (on (in_key ps) k) t h = tt
give_left x e (on (in_value ps key) k) t_comma h = tt
give_left x e (on (in_value ps key) k) t_right_brace h = tt
give_left x e (on (in_value ps key) k) t h = tt

begin_left : (x : Expr) (lev : Precedence) (k : Ctx) (t : TokenClass) → LeavesIt x (begin lev k t)
begin_left x lev k t = kept x (begin lev k t) (begin_keeps lev k t)

-- what a token leaves of a state is its least tree
pub step_left : (s : State) (t : TokenClass) → LeavesIt (finished s) (step s t)
step_left (Want lev k) t = begin_left (finished (Want lev k)) lev k t
step_left (Have e k) t = give_left (whole k e) e k t refl
step_left (Strings fs k) (t_string x) = tt
step_left (Strings fs k) (t_format ps) = tt
step_left (Strings fs k) (t_bad_format ps) = tt
step_left (Strings fs k) t = give_left (whole k (strings_of fs)) (strings_of fs) k t refl
step_left (AfterOpen k) t_right_paren = tt
step_left (AfterOpen k) t = begin_left (finished (AfterOpen k)) LExprs (on in_paren k) t
step_left (AfterComma f es k) t = go (begins t)
  where
    go : (b : Bool) → LeavesIt (whole k (tuple (exprs f es) true)) (cond b (begin LExpr (on (exprs_rest f es) k) t) (give (tuple (exprs f es) true) k t))
    go true = begin_left (whole k (tuple (exprs f es) true)) LExpr (on (exprs_rest f es) k) t
    go false = give_left (whole k (tuple (exprs f es) true)) (tuple (exprs f es) true) k t refl
step_left (AfterTarget f es) t = go (begins t)
  where
    go : (b : Bool) → LeavesIt (tuple (exprs f es) true) (cond b (begin LPost (Outside (targets f es)) t) (Left (tuple (exprs f es) true)))
    go true = begin_left (tuple (exprs f es) true) LPost (Outside (targets f es)) t
    go false = refl
step_left (ItemsOpen o k) t = kept (finished (ItemsOpen o k)) (close_items o no_exprs false k t (begin LExpr (on (in_items o no_exprs) k) t)) (close_keeps o no_exprs false k t (begin LExpr (on (in_items o no_exprs) k) t) (begin_keeps LExpr (on (in_items o no_exprs) k) t))
step_left (ItemsComma o es k) t = kept (finished (ItemsComma o es k)) (close_items o es true k t (begin LExpr (on (in_items o es) k) t)) (close_keeps o es true k t (begin LExpr (on (in_items o es) k) t) (begin_keeps LExpr (on (in_items o es) k) t))
step_left (DictOpen k) t_right_brace = tt
step_left (DictOpen k) t = begin_left (finished (DictOpen k)) LExpr (on (in_key no_pairs) k) t
step_left (DictComma ps k) t_right_brace = tt
step_left (DictComma ps k) t = begin_left (finished (DictComma ps k)) LExpr (on (in_key ps) k) t
step_left (IndexOpen f k) t_colon = tt
step_left (IndexOpen f k) t = begin_left (finished (IndexOpen f k)) LExpr (on (index_first f) k) t
step_left (SliceColon f from k) t_right_bracket = tt
step_left (SliceColon f from k) t = begin_left (finished (SliceColon f from k)) LExpr (on (slice_to f from) k) t
step_left (AfterDot f k) (t_name x) = tt
step_left (AfterDot f k) t = tt
step_left (AfterNot a ls k) (t_compare cmp_.In) = tt
step_left (AfterNot a ls k) t = tt
step_left (AfterIs a ls k) t_not = tt
step_left (AfterIs a ls k) t_none = tt
step_left (AfterIs a ls k) (t_bool b) = tt
step_left (AfterIs a ls k) t = tt
step_left (AfterIsNot a ls k) t_none = tt
step_left (AfterIsNot a ls k) (t_bool b) = tt
step_left (AfterIsNot a ls k) t = tt
step_left (Linked a ls k) (t_compare op) = tt
step_left (Linked a ls k) t_not = tt
step_left (Linked a ls k) t_is = tt
step_left (Linked a ls k) t = give_left (whole k (compare a ls)) (compare a ls) k t refl
