-- An expression that is whole is no higher than what the state before was completed to.
use Rattle.std.proofs.Common.{◌≡◌, ℕ, ◌≤◌, Bool, true, false, cond, ◌&&◌, refl, ap, ◌∙◌, arith}
use Rattle.py_operator.specs.declared.operator.CmpOp.TheVariants as cmp_
use Rattle.py_operator.specs.declared.operator.BinOp.TheVariants as op_
use Rattle.py_syntax.specs.declared.expr.Comparison.TheVariants.{Op}
use Rattle.py_syntax.specs.Tree.{Expr, tuple, not', unary, compare, index, Exprs, no_exprs, exprs, no_pairs}
use Rattle.py_syntax.specs.Tree as tree_
use Rattle.py_syntax.specs.Normal.{Precedence, LExprs, LExpr, LNot, LUnary, LPost, is_target, are_targets, height}
use Rattle.py_grammar.specs.TokenClasses.{TokenClass, b_op, t_name, t_int, t_none, t_bool, t_string, t_format, t_bad_format, t_not, t_is, t_if, t_else, t_compare, t_operator, t_comma, t_colon, t_dot, t_left_paren, t_right_paren, t_left_bracket, t_right_bracket, t_left_brace, t_right_brace, operator_precedence, joined, begins}
use Rattle.py_grammar.specs.Machine.{at_most, same_precedence, snoc, snoc_link, strings_of, Goal, any, one, target, targets, Opener, a_call, a_list, exprs_first, exprs_rest, cond_first, cond_test, cond_else, first, right, not_of, compare_first, compare_rest, unary_of, post_rest, in_items, index_first, in_index, slice_to, in_paren, in_key, in_value, Ctx, Outside, on, State, Want, Have, Strings, AfterOpen, AfterComma, AfterTarget, ItemsOpen, ItemsComma, DictOpen, DictComma, IndexOpen, SliceColon, AfterDot, AfterNot, AfterIs, AfterIsNot, Linked, Out, Next, Stuck, Left, upto, begin, close_items, leave, give, step, start}
use Rattle.py_grammar.specs.Least.{least_name, as_target, target_if, wants, fit, whole, least}
use Rattle.py_statements.specs.Machine.{Continuation, value, augmented, leaving, asserted, reason, arm_test, while_test, for_target, for_over, clause_kind, subject, guard, default, goal}
use Rattle.py_statements.specs.Levels.{is_start}
use Rattle.py_grammar.proofs.Least.Grows.{heights_snoc, tuple_snoc, and_right}

-- What leaves is no higher than this, and a step leads to no beginning.
abbrev pub LeavesWithin : ℕ → Out → Type 0
LeavesWithin n (Next s) = is_start s ≡ false
LeavesWithin n Stuck = Unit {0}
LeavesWithin n (Left e) = height e ≤ n

within_if : (n : ℕ) (b : Bool) (o p : Out) → LeavesWithin n o → LeavesWithin n p → LeavesWithin n (cond b o p)
within_if n true o p h i = h
within_if n false o p h i = i

target_high : (e : Expr) → height e ≤ height (as_target e)
target_high e = go (is_target e)
  where
    go : (b : Bool) → height e ≤ height (cond b e (index e least_name))
    go true = omega arith
    go false = omega arith

leave_within : (e : Expr) (g : Goal) (t : TokenClass) → LeavesWithin (height (whole (Outside g) e)) (leave e g t)
leave_within e any t = omega arith
leave_within e one t = omega arith
leave_within e target t_comma = within_if (height (as_target e)) (is_target e) (Next (AfterTarget e no_exprs)) Stuck refl tt
leave_within e target t = within_if (height (as_target e)) (is_target e) (Left e) Stuck (target_high e) tt
leave_within e (targets f es) t_comma = within_if (height (tuple (exprs f (snoc es (as_target e))) false)) (is_target e) (Next (AfterTarget f (snoc es e))) Stuck refl tt
leave_within e (targets f es) t = within_if (height (tuple (exprs f (snoc es (as_target e))) false)) (is_target e) (Left (tuple (exprs f (snoc es e)) false)) Stuck (let one = heights_snoc es e in let two = heights_snoc es (as_target e) in let three = target_high e in omega arith) tt

-- nothing leaves where an expression begins
pub begin_within : (n : ℕ) (lev : Precedence) (k : Ctx) (t : TokenClass) → LeavesWithin n (begin lev k t)
begin_within n lev k (t_name x) = refl
begin_within n lev k (t_int i) = refl
begin_within n lev k t_none = refl
begin_within n lev k (t_bool b) = refl
begin_within n lev k (t_string x) = refl
begin_within n lev k (t_format ps) = refl
begin_within n lev k t_not = within_if n (at_most lev LNot) (Next (Want LNot (on not_of (upto lev LNot k)))) Stuck refl tt
begin_within n lev k (t_operator (b_op op_.Add)) = within_if n (at_most lev LUnary) _ Stuck refl tt
begin_within n lev k (t_operator (b_op op_.Sub)) = within_if n (at_most lev LUnary) _ Stuck refl tt
begin_within n lev k t_left_paren = refl
begin_within n lev k t_left_bracket = refl
begin_within n lev k t_left_brace = refl
begin_within n lev k t = tt

close_within : (n : ℕ) (p : Opener) (es : Exprs) (c : Bool) (k : Ctx) (t : TokenClass) (o : Out) → LeavesWithin n o → LeavesWithin n (close_items p es c k t o)
close_within n (a_call f) es c k t_right_paren o h = refl
close_within n a_list es c k t_right_bracket o h = refl
close_within n p es c k t o h = h

-- ---- what is no target doesn't leave where one is wanted

-- nothing leaves
abbrev Stays : Out → Type 0
Stays (Next s) = is_start s ≡ false
Stays Stuck = Unit {0}
Stays (Left e) = ⊥

stays_within : (n : ℕ) (o : Out) → Stays o → LeavesWithin n o
stays_within n (Next s) h = h
stays_within n Stuck h = tt
stays_within n (Left e) h = absurd h

stays_if : (b : Bool) (o p : Out) → Stays o → Stays p → Stays (cond b o p)
stays_if true o p h i = h
stays_if false o p h i = i

stays_not : (b : Bool) (o p : Out) → b ≡ false → Stays p → Stays (cond b o p)
stays_not true o p is h = absurd cc
stays_not false o p is h = h

close_stays : (p : Opener) (es : Exprs) (c : Bool) (k : Ctx) (t : TokenClass) → Stays (close_items p es c k t Stuck)
close_stays (a_call f) es c k t_right_paren = refl
close_stays a_list es c k t_right_bracket = refl
close_stays p es c k t = tt

no_and : (a b : Bool) → b ≡ false → (a && b) ≡ false
no_and true b h = h
no_and false b h = refl

give_stays : (e : Expr) (k : Ctx) (t : TokenClass) → wants k ≡ true → is_target e ≡ false → Stays (give e k t)
give_stays e (Outside any) t w plain = absurd cc
give_stays e (Outside one) t w plain = absurd cc
give_stays e (Outside target) t_comma w plain = stays_not (is_target e) (Next (AfterTarget e no_exprs)) Stuck plain tt
give_stays e (Outside target) t w plain = stays_not (is_target e) (Left e) Stuck plain tt
give_stays e (Outside (targets f es)) t_comma w plain = stays_not (is_target e) (Next (AfterTarget f (snoc es e))) Stuck plain tt
give_stays e (Outside (targets f es)) t w plain = stays_not (is_target e) (Left (tuple (exprs f (snoc es e)) false)) Stuck plain tt
give_stays e (on exprs_first k) t_comma w plain = refl
give_stays e (on exprs_first k) t w plain = give_stays e k t w plain
give_stays e (on (exprs_rest f es) k) t_comma w plain = refl
give_stays e (on (exprs_rest f es) k) t w plain = give_stays (tuple (exprs f (snoc es e)) false) k t (and_right (is_target f && are_targets es) (wants k) w) (tuple_snoc f es e false ∙ no_and (is_target f && are_targets es) (is_target e) plain)
give_stays e (on cond_first k) t_if w plain = refl
give_stays e (on cond_first k) t w plain = give_stays e k t w plain
give_stays e (on (cond_test b) k) t w plain = absurd cc
give_stays e (on (cond_else b c) k) t w plain = absurd cc
give_stays e (on (first l) k) (t_operator j) w plain = stays_if (same_precedence l (operator_precedence j)) _ (give e k (t_operator j)) refl (give_stays e k (t_operator j) w plain)
give_stays e (on (first l) k) t w plain = give_stays e k t w plain
give_stays e (on (right i a) k) t w plain = absurd cc
give_stays e (on not_of k) t w plain = absurd cc
give_stays e (on compare_first k) (t_compare op) w plain = refl
give_stays e (on compare_first k) t_not w plain = refl
give_stays e (on compare_first k) t_is w plain = refl
give_stays e (on compare_first k) t w plain = give_stays e k t w plain
give_stays e (on (compare_rest a ls p) k) t w plain = absurd cc
give_stays e (on (unary_of s) k) t w plain = absurd cc
give_stays e (on post_rest k) t_left_paren w plain = refl
give_stays e (on post_rest k) t_left_bracket w plain = refl
give_stays e (on post_rest k) t_dot w plain = refl
give_stays e (on post_rest k) t w plain = give_stays e k t w plain
give_stays e (on (in_items (a_call f) es) k) t w plain = absurd cc
give_stays e (on (in_items a_list es) k) t_comma w plain = refl
give_stays e (on (in_items a_list es) k) t w plain = close_stays a_list (snoc es e) false k t
give_stays e (on (index_first f) k) t w plain = absurd cc
give_stays e (on (in_index f) k) t w plain = absurd cc
give_stays e (on (slice_to f from) k) t w plain = absurd cc
give_stays e (on in_paren k) t_right_paren w plain = refl
give_stays e (on in_paren k) t w plain = tt
give_stays e (on (in_key ps) k) t w plain = absurd cc
give_stays e (on (in_value ps key) k) t w plain = absurd cc

-- what is made a target where one is wanted
fitted : (e : Expr) (k : Ctx) (t : TokenClass) → LeavesWithin (height (whole k e)) (give e k t) → LeavesWithin (height (whole k (fit k e))) (give e k t)
fitted e k t h = go (wants k) refl (is_target e) refl
  where
    go : (w : Bool) → wants k ≡ w → (b : Bool) → is_target e ≡ b → LeavesWithin (height (whole k (target_if w e))) (give e k t)
    go false is b plain = h
    go true is true yes_it = let same : as_target e ≡ e = ap (λ (b : Bool). cond b e (index e least_name)) yes_it in rw same h
    go true is false plain = stays_within _ (give e k t) (give_stays e k t is plain)

-- ---- steps

give_within : (e : Expr) (k : Ctx) (t : TokenClass) → LeavesWithin (height (whole k e)) (give e k t)
give_within e (Outside g) t = leave_within e g t
give_within e (on exprs_first k) t_comma = refl
give_within e (on exprs_first k) t = give_within e k t
give_within e (on (exprs_rest f es) k) t_comma = refl
give_within e (on (exprs_rest f es) k) t = give_within (tuple (exprs f (snoc es e)) false) k t
give_within e (on cond_first k) t_if = refl
give_within e (on cond_first k) t = give_within e k t
give_within e (on (cond_test b) k) t_else = refl
give_within e (on (cond_test b) k) t = tt
give_within e (on (cond_else b c) k) t = give_within (tree_.cond b c e) k t
give_within e (on (first l) k) (t_operator j) = within_if (height (whole k e)) (same_precedence l (operator_precedence j)) _ (give e k (t_operator j)) refl (give_within e k (t_operator j))
give_within e (on (first l) k) t = give_within e k t
give_within e (on (right i a) k) (t_operator j) = within_if (height (whole k (joined i a e))) (same_precedence (operator_precedence i) (operator_precedence j)) _ (give (joined i a e) k (t_operator j)) refl (give_within (joined i a e) k (t_operator j))
give_within e (on (right i a) k) t = give_within (joined i a e) k t
give_within e (on not_of k) t = give_within (not' e) k t
give_within e (on compare_first k) (t_compare op) = refl
give_within e (on compare_first k) t_not = refl
give_within e (on compare_first k) t_is = refl
give_within e (on compare_first k) t = give_within e k t
give_within e (on (compare_rest a ls p) k) (t_compare op) = refl
give_within e (on (compare_rest a ls p) k) t_not = refl
give_within e (on (compare_rest a ls p) k) t_is = refl
give_within e (on (compare_rest a ls p) k) t = give_within (compare a (snoc_link ls (Op p) e)) k t
give_within e (on (unary_of s) k) t = give_within (unary s e) k t
give_within e (on post_rest k) t_left_paren = refl
give_within e (on post_rest k) t_left_bracket = refl
give_within e (on post_rest k) t_dot = refl
give_within e (on post_rest k) t = fitted e k t (give_within e k t)
give_within e (on (in_items o es) k) t_comma = refl
give_within e (on (in_items o es) k) t = close_within (height (whole (on (in_items o es) k) e)) o (snoc es e) false k t Stuck tt
give_within e (on (index_first f) k) t_comma = refl
give_within e (on (index_first f) k) t_colon = refl
give_within e (on (index_first f) k) t_right_bracket = refl
give_within e (on (index_first f) k) t = tt
give_within e (on (in_index f) k) t_right_bracket = refl
give_within e (on (in_index f) k) t = tt
give_within e (on (slice_to f from) k) t_right_bracket = refl
give_within e (on (slice_to f from) k) t = tt
give_within e (on in_paren k) t_right_paren = refl
give_within e (on in_paren k) t = tt
give_within e (on (in_key ps) k) t_colon = refl
give_within e (on (in_key ps) k) t = tt
give_within e (on (in_value ps key) k) t_comma = refl
give_within e (on (in_value ps key) k) t_right_brace = refl
give_within e (on (in_value ps key) k) t = tt

pub step_within : (s : State) (t : TokenClass) → LeavesWithin (least s) (step s t)
step_within (Want lev k) t = begin_within (least (Want lev k)) lev k t
step_within (Have e k) t = give_within e k t
step_within (Strings fs k) (t_string x) = refl
step_within (Strings fs k) (t_format ps) = refl
step_within (Strings fs k) (t_bad_format ps) = tt
step_within (Strings fs k) t = give_within (strings_of fs) k t
step_within (AfterOpen k) t_right_paren = refl
step_within (AfterOpen k) t = begin_within (least (AfterOpen k)) LExprs (on in_paren k) t
step_within (AfterComma f es k) t = within_if (least (AfterComma f es k)) (begins t) (begin LExpr (on (exprs_rest f es) k) t) (give (tuple (exprs f es) true) k t) (begin_within (least (AfterComma f es k)) LExpr (on (exprs_rest f es) k) t) (give_within (tuple (exprs f es) true) k t)
step_within (AfterTarget f es) t = within_if (least (AfterTarget f es)) (begins t) (begin LPost (Outside (targets f es)) t) (Left (tuple (exprs f es) true)) (begin_within (least (AfterTarget f es)) LPost (Outside (targets f es)) t) (omega arith)
step_within (ItemsOpen o k) t = close_within (least (ItemsOpen o k)) o no_exprs false k t (begin LExpr (on (in_items o no_exprs) k) t) (begin_within (least (ItemsOpen o k)) LExpr (on (in_items o no_exprs) k) t)
step_within (ItemsComma o es k) t = close_within (least (ItemsComma o es k)) o es true k t (begin LExpr (on (in_items o es) k) t) (begin_within (least (ItemsComma o es k)) LExpr (on (in_items o es) k) t)
step_within (DictOpen k) t_right_brace = refl
step_within (DictOpen k) t = begin_within (least (DictOpen k)) LExpr (on (in_key no_pairs) k) t
step_within (DictComma ps k) t_right_brace = refl
step_within (DictComma ps k) t = begin_within (least (DictComma ps k)) LExpr (on (in_key ps) k) t
step_within (IndexOpen f k) t_colon = refl
step_within (IndexOpen f k) t = begin_within (least (IndexOpen f k)) LExpr (on (index_first f) k) t
step_within (SliceColon f from k) t_right_bracket = refl
step_within (SliceColon f from k) t = begin_within (least (SliceColon f from k)) LExpr (on (slice_to f from) k) t
step_within (AfterDot f k) (t_name x) = refl
step_within (AfterDot f k) t = tt
step_within (AfterNot a ls k) (t_compare cmp_.In) = refl
step_within (AfterNot a ls k) t = tt
step_within (AfterIs a ls k) t_not = refl
step_within (AfterIs a ls k) t_none = refl
step_within (AfterIs a ls k) (t_bool b) = refl
step_within (AfterIs a ls k) t = tt
step_within (AfterIsNot a ls k) t_none = refl
step_within (AfterIsNot a ls k) (t_bool b) = refl
step_within (AfterIsNot a ls k) t = tt
step_within (Linked a ls k) (t_compare op) = refl
step_within (Linked a ls k) t_not = refl
step_within (Linked a ls k) t_is = refl
step_within (Linked a ls k) t = give_within (compare a ls) k t

-- nothing leaves at the beginning of what an expression is for
pub start_within : (r : Continuation) (t : TokenClass) → LeavesWithin 0 (step (start (goal r)) t)
start_within (value ts) t = begin_within 0 LExprs (Outside any) t
start_within (augmented p op) t = begin_within 0 LExprs (Outside any) t
start_within (leaving true) t = begin_within 0 LExpr (Outside one) t
start_within (leaving false) t = begin_within 0 LExprs (Outside any) t
start_within asserted t = begin_within 0 LExpr (Outside one) t
start_within (reason test) t = begin_within 0 LExpr (Outside one) t
start_within (arm_test arms) t = begin_within 0 LExpr (Outside one) t
start_within while_test t = begin_within 0 LExpr (Outside one) t
start_within for_target t = begin_within 0 LPost (Outside target) t
start_within (for_over x) t = begin_within 0 LExprs (Outside any) t
start_within (clause_kind body cs) t = begin_within 0 LExpr (Outside one) t
start_within subject t = begin_within 0 LExprs (Outside any) t
start_within (guard e last cs p) t = begin_within 0 LExpr (Outside one) t
start_within (default x ps ds y) t = begin_within 0 LExpr (Outside one) t
