-- States with the same frames up to the trees accept the same tokens.
use Rattle.std.proofs.Common.{◌≡◌, Bool, true, false, cond, [], ◌∷◌, Option, Some, None, refl, sym, ap, ◌∙◌}
use Rattle.py_operator.specs.declared.operator.BinOp.TheVariants as op_
use Rattle.py_operator.specs.declared.operator.CmpOp.TheVariants as cmp_
use Rattle.py_syntax.specs.declared.expr.Comparison.TheVariants.{Op}
use Rattle.py_syntax.specs.declared.expr.Sign.TheVariants as sign_
use Rattle.py_syntax.specs.Tree.{Expr, str, tuple, not', unary, compare, Exprs, no_exprs, exprs, no_pairs, no_links, absent, no_fragments, plain, field}
use Rattle.py_syntax.specs.Tree as tree_
use Rattle.py_syntax.specs.Kinds.{End, Kinds, no_kinds, kinds}
use Rattle.py_syntax.specs.Normal.{Precedence, LExprs, LExpr, LOr, LAnd, LNot, LCmp, LSum, LTerm, LUnary}
use Rattle.py_grammar.specs.TokenClasses.{b_op, TokenClass, t_name, t_int, t_none, t_bool, t_string, t_format, t_bad_format, t_not, t_is, t_if, t_else, t_compare, t_operator, t_comma, t_colon, t_dot, t_left_paren, t_right_paren, t_left_bracket, t_right_bracket, t_left_brace, t_right_brace, t_other, operator_precedence, operator_right, joined, begins}
use Rattle.py_grammar.specs.Machine.{at_most, same_precedence, snoc, snoc_link, strings_of, any, one, target, targets, Opener, a_call, a_list, Frame, exprs_first, exprs_rest, cond_first, cond_test, cond_else, first, right, not_of, compare_first, compare_rest, unary_of, post_rest, in_items, index_first, in_index, slice_to, in_paren, in_key, in_value, Ctx, Outside, on, State, Want, Have, Strings, AfterOpen, AfterComma, AfterTarget, ItemsOpen, ItemsComma, DictOpen, DictComma, IndexOpen, SliceColon, AfterDot, AfterNot, AfterIs, AfterIsNot, Linked, Out, Next, Stuck, Left, upto_exprs, upto_cond, upto_or, upto_and, upto_compare, upto_sum, upto_term, begin, close_items, give, step, class, field_expr}
use Rattle.py_grammar.specs.Least.{least_name}
use Rattle.py_grammar.proofs.Sound.Spelled.{field_after, ended_by}
use Rattle.py_grammar.specs.Bare.{bare_opener, bare_ctx, bare, bare_out, Free}
use Rattle.py_grammar.proofs.View.Alike.{bare_twice, close_alike, give_alike, begin_alike}

abbrev pub FreeState : State → Type 0
FreeState (Want lev k) = Free k
FreeState (Have e k) = Free k
FreeState (Strings fs k) = Free k
FreeState (AfterOpen k) = Free k
FreeState (AfterComma f es k) = Free k
FreeState (AfterTarget f es) = ⊥
FreeState (ItemsOpen o k) = Free k
FreeState (ItemsComma o es k) = Free k
FreeState (DictOpen k) = Free k
FreeState (DictComma ps k) = Free k
FreeState (IndexOpen f k) = Free k
FreeState (SliceColon f from k) = Free k
FreeState (AfterDot f k) = Free k
FreeState (AfterNot a ls k) = Free k
FreeState (AfterIs a ls k) = Free k
FreeState (AfterIsNot a ls k) = Free k
FreeState (Linked a ls k) = Free k

pub step_alike : (s : State) (t : TokenClass) → FreeState s → bare_out (step s t) ≡ bare_out (step (bare s) t)
step_alike (Want lev k) t h = begin_alike lev k t h
step_alike (Have e k) t h = give_alike e least_name k t h
step_alike (Strings fs k) (t_string x) h = ap (λ (c : Ctx). Next (Strings (plain [] no_fragments) c)) (sym (bare_twice k h))
step_alike (Strings fs k) (t_format x) h = ap (λ (c : Ctx). Next (Strings (plain [] no_fragments) c)) (sym (bare_twice k h))
step_alike (Strings fs k) (t_bad_format x) h = refl
step_alike (Strings fs k) t h = give_alike (strings_of fs) (str ([] ∷ [])) k t h
step_alike (AfterOpen k) t_right_paren h = ap (λ (c : Ctx). Next (Have least_name (on post_rest c))) (sym (bare_twice k h))
step_alike (AfterOpen k) t h = begin_alike LExprs (on in_paren k) t h
step_alike (AfterComma f es k) t h = go (begins t)
  where
    go : (b : Bool) → bare_out (cond b (begin LExpr (on (exprs_rest f es) k) t) (give (tuple (exprs f es) true) k t)) ≡ bare_out (cond b (begin LExpr (on (exprs_rest least_name no_exprs) (bare_ctx k)) t) (give (tuple (exprs least_name no_exprs) true) (bare_ctx k) t))
    go true = begin_alike LExpr (on (exprs_rest f es) k) t h
    go false = give_alike (tuple (exprs f es) true) (tuple (exprs least_name no_exprs) true) k t h
step_alike (AfterTarget f es) t h = absurd h
step_alike (ItemsOpen o k) t h = close_alike o no_exprs no_exprs false false k t (begin LExpr (on (in_items o no_exprs) k) t) (begin LExpr (on (in_items (bare_opener o) no_exprs) (bare_ctx k)) t) h (begin_alike LExpr (on (in_items o no_exprs) k) t h)
step_alike (ItemsComma o es k) t h = close_alike o es no_exprs true true k t (begin LExpr (on (in_items o es) k) t) (begin LExpr (on (in_items (bare_opener o) no_exprs) (bare_ctx k)) t) h (begin_alike LExpr (on (in_items o es) k) t h)
step_alike (DictOpen k) t_right_brace h = ap (λ (c : Ctx). Next (Have least_name (on post_rest c))) (sym (bare_twice k h))
step_alike (DictOpen k) t h = begin_alike LExpr (on (in_key no_pairs) k) t h
step_alike (DictComma ps k) t_right_brace h = ap (λ (c : Ctx). Next (Have least_name (on post_rest c))) (sym (bare_twice k h))
step_alike (DictComma ps k) t h = begin_alike LExpr (on (in_key ps) k) t h
step_alike (IndexOpen f k) t_colon h = ap (λ (c : Ctx). Next (SliceColon least_name absent c)) (sym (bare_twice k h))
step_alike (IndexOpen f k) t h = begin_alike LExpr (on (index_first f) k) t h
step_alike (SliceColon f from k) t_right_bracket h = ap (λ (c : Ctx). Next (Have least_name (on post_rest c))) (sym (bare_twice k h))
step_alike (SliceColon f from k) t h = begin_alike LExpr (on (slice_to f from) k) t h
step_alike (AfterDot f k) (t_name x) h = ap (λ (c : Ctx). Next (Have least_name (on post_rest c))) (sym (bare_twice k h))
step_alike (AfterDot f k) t h = refl
step_alike (AfterNot a ls k) (t_compare cmp_.In) h = ap (λ (c : Ctx). Next (Want LSum (on (compare_rest least_name no_links cmp_.NotIn) c))) (sym (bare_twice k h))
step_alike (AfterNot a ls k) t h = refl
step_alike (AfterIs a ls k) t_not h = ap (λ (c : Ctx). Next (AfterIsNot least_name no_links c)) (sym (bare_twice k h))
step_alike (AfterIs a ls k) t_none h = ap (λ (c : Ctx). Next (Linked least_name no_links c)) (sym (bare_twice k h))
step_alike (AfterIs a ls k) (t_bool b) h = ap (λ (c : Ctx). Next (Linked least_name no_links c)) (sym (bare_twice k h))
step_alike (AfterIs a ls k) t h = refl
step_alike (AfterIsNot a ls k) t_none h = ap (λ (c : Ctx). Next (Linked least_name no_links c)) (sym (bare_twice k h))
step_alike (AfterIsNot a ls k) (t_bool b) h = ap (λ (c : Ctx). Next (Linked least_name no_links c)) (sym (bare_twice k h))
step_alike (AfterIsNot a ls k) t h = refl
step_alike (Linked a ls k) (t_compare op) h = ap (λ (c : Ctx). Next (Want LSum (on (compare_rest least_name no_links op) c))) (sym (bare_twice k h))
step_alike (Linked a ls k) t_not h = ap (λ (c : Ctx). Next (AfterNot least_name no_links c)) (sym (bare_twice k h))
step_alike (Linked a ls k) t_is h = ap (λ (c : Ctx). Next (AfterIs least_name no_links c)) (sym (bare_twice k h))
step_alike (Linked a ls k) t h = give_alike (compare a ls) (compare least_name no_links) k t h

-- ---- no step asks for a target

abbrev pub FreeOut : Out → Type 0
FreeOut (Next s) = FreeState s
FreeOut Stuck = Unit {0}
FreeOut (Left e) = Unit {0}

close_free : (o : Opener) (es : Exprs) (c : Bool) (k : Ctx) (t : TokenClass) (other : Out) → Free k → FreeOut other → FreeOut (close_items o es c k t other)
close_free (a_call f) es c k t_right_paren other h is = h
close_free a_list es c k t_right_bracket other h is = h
close_free o es c k t other h is = is

give_free : (e : Expr) (k : Ctx) (t : TokenClass) → Free k → FreeOut (give e k t)
give_free e (Outside any) t h = tt
give_free e (Outside one) t h = tt
give_free e (Outside target) t h = absurd h
give_free e (Outside (targets f es)) t h = absurd h
give_free e (on exprs_first k) t_comma h = h
give_free e (on exprs_first k) t h = give_free e k t h
give_free e (on (exprs_rest f es) k) t_comma h = h
give_free e (on (exprs_rest f es) k) t h = give_free (tuple (exprs f (snoc es e)) false) k t h
give_free e (on cond_first k) t_if h = h
give_free e (on cond_first k) t h = give_free e k t h
give_free e (on (cond_test b) k) t_else h = h
give_free e (on (cond_test b) k) t h = tt
give_free e (on (cond_else b c) k) t h = give_free (tree_.cond b c e) k t h
give_free e (on (first l) k) (t_operator j) h = go (same_precedence l (operator_precedence j)) (give_free e k (t_operator j) h)
  where
    go : (b : Bool) → FreeOut (give e k (t_operator j)) → FreeOut (cond b (Next (Want (operator_right j) (on (right j e) k))) (give e k (t_operator j)))
    go true rec = h
    go false rec = rec
give_free e (on (first l) k) t h = give_free e k t h
give_free e (on (right i a) k) (t_operator j) h = go (same_precedence (operator_precedence i) (operator_precedence j)) (give_free (joined i a e) k (t_operator j) h)
  where
    go : (b : Bool) → FreeOut (give (joined i a e) k (t_operator j)) → FreeOut (cond b (Next (Want (operator_right j) (on (right j (joined i a e)) k))) (give (joined i a e) k (t_operator j)))
    go true rec = h
    go false rec = rec
give_free e (on (right i a) k) t h = give_free (joined i a e) k t h
give_free e (on not_of k) t h = give_free (not' e) k t h
give_free e (on compare_first k) (t_compare op) h = h
give_free e (on compare_first k) t_not h = h
give_free e (on compare_first k) t_is h = h
give_free e (on compare_first k) t h = give_free e k t h
give_free e (on (compare_rest a ls p) k) (t_compare op) h = h
give_free e (on (compare_rest a ls p) k) t_not h = h
give_free e (on (compare_rest a ls p) k) t_is h = h
give_free e (on (compare_rest a ls p) k) t h = give_free (compare a (snoc_link ls (Op p) e)) k t h
give_free e (on (unary_of s) k) t h = give_free (unary s e) k t h
give_free e (on post_rest k) t_left_paren h = h
give_free e (on post_rest k) t_left_bracket h = h
give_free e (on post_rest k) t_dot h = h
give_free e (on post_rest k) t h = give_free e k t h
give_free e (on (in_items o es) k) t_comma h = h
give_free e (on (in_items o es) k) t h = close_free o (snoc es e) false k t Stuck h tt
give_free e (on (index_first f) k) t_comma h = h
give_free e (on (index_first f) k) t_colon h = h
give_free e (on (index_first f) k) t_right_bracket h = h
give_free e (on (index_first f) k) t h = tt
give_free e (on (in_index f) k) t_right_bracket h = h
give_free e (on (in_index f) k) t h = tt
give_free e (on (slice_to f from) k) t_right_bracket h = h
give_free e (on (slice_to f from) k) t h = tt
give_free e (on in_paren k) t_right_paren h = h
give_free e (on in_paren k) t h = tt
give_free e (on (in_key ps) k) t_colon h = h
give_free e (on (in_key ps) k) t h = tt
give_free e (on (in_value ps key) k) t_comma h = h
give_free e (on (in_value ps key) k) t_right_brace h = h
give_free e (on (in_value ps key) k) t h = tt

pushed_free : (b : Bool) (f : Frame) (j k : Ctx) → Free j → Free k → Free (cond b (on f j) k)
pushed_free true f j k h i = h
pushed_free false f j k h i = i

exprs_free : (lev : Precedence) (k : Ctx) → Free k → Free (upto_exprs lev k)
exprs_free lev k h = pushed_free (at_most lev LExprs) exprs_first k k h h

and_free : (lev : Precedence) (k : Ctx) → Free k → Free (upto_and lev k)
and_free lev k h = pushed_free (at_most lev LAnd) (first LAnd) (upto_or lev k) k (pushed_free (at_most lev LOr) (first LOr) (upto_cond lev k) k (pushed_free (at_most lev LExpr) cond_first (upto_exprs lev k) k (exprs_free lev k h) h) h) h

term_free : (lev : Precedence) (k : Ctx) → Free k → Free (upto_term lev k)
term_free lev k h = pushed_free (at_most lev LTerm) (first LTerm) (upto_sum lev k) k (pushed_free (at_most lev LSum) (first LSum) (upto_compare lev k) k (pushed_free (at_most lev LCmp) compare_first (upto_and lev k) k (and_free lev k h) h) h) h

prefix_free : (b : Bool) (s : State) → FreeState s → FreeOut (cond b (Next s) Stuck)
prefix_free true s h = h
prefix_free false s h = tt

begin_free : (lev : Precedence) (k : Ctx) (t : TokenClass) → Free k → FreeOut (begin lev k t)
begin_free lev k (t_name x) h = term_free lev k h
begin_free lev k (t_int x) h = term_free lev k h
begin_free lev k t_none h = term_free lev k h
begin_free lev k (t_bool x) h = term_free lev k h
begin_free lev k (t_string x) h = term_free lev k h
begin_free lev k (t_format x) h = term_free lev k h
begin_free lev k t_not h = prefix_free (at_most lev LNot) (Want LNot (on not_of (upto_and lev k))) (and_free lev k h)
begin_free lev k (t_operator (b_op op_.Add)) h = prefix_free (at_most lev LUnary) (Want LUnary (on (unary_of sign_.Plus) (upto_term lev k))) (term_free lev k h)
begin_free lev k (t_operator (b_op op_.Sub)) h = prefix_free (at_most lev LUnary) (Want LUnary (on (unary_of sign_.Minus) (upto_term lev k))) (term_free lev k h)
begin_free lev k t_left_paren h = term_free lev k h
begin_free lev k t_left_bracket h = term_free lev k h
begin_free lev k t_left_brace h = term_free lev k h
begin_free lev k t h = tt

pub step_free : (s : State) (t : TokenClass) → FreeState s → FreeOut (step s t)
step_free (Want lev k) t h = begin_free lev k t h
step_free (Have e k) t h = give_free e k t h
step_free (Strings fs k) (t_string x) h = h
step_free (Strings fs k) (t_format x) h = h
step_free (Strings fs k) (t_bad_format x) h = tt
step_free (Strings fs k) t h = give_free (strings_of fs) k t h
step_free (AfterOpen k) t_right_paren h = h
step_free (AfterOpen k) t h = begin_free LExprs (on in_paren k) t h
step_free (AfterComma f es k) t h = go (begins t)
  where
    go : (b : Bool) → FreeOut (cond b (begin LExpr (on (exprs_rest f es) k) t) (give (tuple (exprs f es) true) k t))
    go true = begin_free LExpr (on (exprs_rest f es) k) t h
    go false = give_free (tuple (exprs f es) true) k t h
step_free (AfterTarget f es) t h = absurd h
step_free (ItemsOpen o k) t h = close_free o no_exprs false k t (begin LExpr (on (in_items o no_exprs) k) t) h (begin_free LExpr (on (in_items o no_exprs) k) t h)
step_free (ItemsComma o es k) t h = close_free o es true k t (begin LExpr (on (in_items o es) k) t) h (begin_free LExpr (on (in_items o es) k) t h)
step_free (DictOpen k) t_right_brace h = h
step_free (DictOpen k) t h = begin_free LExpr (on (in_key no_pairs) k) t h
step_free (DictComma ps k) t_right_brace h = h
step_free (DictComma ps k) t h = begin_free LExpr (on (in_key ps) k) t h
step_free (IndexOpen f k) t_colon h = h
step_free (IndexOpen f k) t h = begin_free LExpr (on (index_first f) k) t h
step_free (SliceColon f from k) t_right_bracket h = h
step_free (SliceColon f from k) t h = begin_free LExpr (on (slice_to f from) k) t h
step_free (AfterDot f k) (t_name x) h = h
step_free (AfterDot f k) t h = tt
step_free (AfterNot a ls k) (t_compare cmp_.In) h = h
step_free (AfterNot a ls k) t h = tt
step_free (AfterIs a ls k) t_not h = h
step_free (AfterIs a ls k) t_none h = h
step_free (AfterIs a ls k) (t_bool b) h = h
step_free (AfterIs a ls k) t h = tt
step_free (AfterIsNot a ls k) t_none h = h
step_free (AfterIsNot a ls k) (t_bool b) h = h
step_free (AfterIsNot a ls k) t h = tt
step_free (Linked a ls k) (t_compare op) h = h
step_free (Linked a ls k) t_not h = h
step_free (Linked a ls k) t_is h = h
step_free (Linked a ls k) t h = give_free (compare a ls) k t h

-- ---- fields

abbrev pub is_spelled : Option Expr → Bool
is_spelled None = false
is_spelled (Some e) = true

steps_alike : (s u : State) (t : TokenClass) → FreeState s → FreeState u → bare s ≡ bare u → bare_out (step s t) ≡ bare_out (step u t)
steps_alike s u t h i same = step_alike s t h ∙ ap (λ (x : State). bare_out (step x t)) same ∙ sym (step_alike u t i)

-- Whether some `exprs` spells a field can be told without its trees.
pub fields_alike : (ks : Kinds) (s u : State) → FreeState s → FreeState u → bare s ≡ bare u → is_spelled (field_expr s ks) ≡ is_spelled (field_expr u ks)
fields_alike no_kinds s u h i same = go (step s (t_other End)) (step u (t_other End)) (steps_alike s u (t_other End) h i same)
  where
    go : (o p : Out) → bare_out o ≡ bare_out p → is_spelled (ended_by o) ≡ is_spelled (ended_by p)
    go (Next n) (Next m) is = refl
    go (Next n) Stuck is = refl
    go (Next n) (Left e) is = absurd cc
    go Stuck (Next m) is = refl
    go Stuck Stuck is = refl
    go Stuck (Left e) is = absurd cc
    go (Left e) (Next m) is = absurd cc
    go (Left e) Stuck is = absurd cc
    go (Left e) (Left d) is = refl
fields_alike (kinds t ts) s u h i same = go (λ n m. fields_alike ts n m) (step s (class t)) (step u (class t)) (step_free s (class t) h) (step_free u (class t) i) (steps_alike s u (class t) h i same)
  where
    go : ((n m : State) → FreeState n → FreeState m → bare n ≡ bare m → is_spelled (field_expr n ts) ≡ is_spelled (field_expr m ts)) → (o p : Out) → FreeOut o → FreeOut p → bare_out o ≡ bare_out p → is_spelled (field_after o ts) ≡ is_spelled (field_after p ts)
    go rec (Next n) (Next m) h i is = let same : bare n ≡ bare m = cc in rec n m h i same
    go rec (Next n) Stuck h i is = absurd cc
    go rec (Next n) (Left e) h i is = absurd cc
    go rec Stuck (Next m) h i is = absurd cc
    go rec Stuck Stuck h i is = refl
    go rec Stuck (Left e) h i is = refl
    go rec (Left e) (Next m) h i is = absurd cc
    go rec (Left e) Stuck h i is = refl
    go rec (Left e) (Left d) h i is = refl
