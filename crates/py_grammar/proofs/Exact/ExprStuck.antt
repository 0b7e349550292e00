-- Where a token is refused after an expression.
use Rattle.std.proofs.Common.{◌≡◌, Bool, true, false, cond, refl, sym, subst}
use Rattle.py_operator.specs.declared.operator.BinOp.TheVariants as op_
use Rattle.py_token.specs.declared.token.Keyword.{Keyword}
use Rattle.py_token.specs.declared.token.Keyword.TheVariants as word
use Rattle.py_token.specs.declared.token.Mark.{Mark}
use Rattle.py_token.specs.declared.token.Mark.TheVariants as mark
use Rattle.py_syntax.specs.declared.expr.Comparison.TheVariants.{Op}
use Rattle.py_syntax.specs.Tree.{Expr, tuple, not', unary, compare, no_exprs, exprs}
use Rattle.py_syntax.specs.Tree as tree_
use Rattle.py_syntax.specs.Kinds.{Kind, Word, FString, Sign, End}
use Rattle.py_syntax.specs.Normal.{LExpr, LPost, is_target}
use Rattle.py_grammar.specs.TokenClasses.{b_op, TokenClass, t_name, t_int, t_none, t_bool, t_string, t_format, t_bad_format, t_not, t_is, t_if, t_compare, t_operator, t_comma, t_dot, t_left_paren, t_left_bracket, t_left_brace, t_other, operator_precedence, operator_right, joined, begins}
use Rattle.py_grammar.specs.Machine.{same_precedence, snoc, snoc_link, strings_of, Goal, any, one, target, targets, a_call, a_list, exprs_first, exprs_rest, cond_first, cond_test, cond_else, first, right, not_of, compare_first, compare_rest, unary_of, post_rest, in_items, index_first, in_index, slice_to, in_paren, in_key, in_value, Ctx, Outside, on, State, Want, Have, Strings, AfterOpen, AfterComma, AfterTarget, ItemsOpen, ItemsComma, DictOpen, DictComma, IndexOpen, SliceColon, AfterDot, AfterNot, AfterIs, AfterIsNot, Linked, Out, Next, Stuck, Left, begin, give, step, class}
use Rattle.py_grammar.proofs.Sound.Valid.{Sound}
use Rattle.py_grammar.specs.ExprTrees.{IsRefused}

abbrev pub stuck : Out → Bool
stuck Stuck = true
stuck o = false

abbrev pub left : Out → Bool
left (Left e) = true
left o = false

give_stuck : (e : Expr) (k : Ctx) (t : TokenClass) → stuck (give e k t) ≡ true → left (give e k (t_other End)) ≡ false
give_stuck e (Outside any) t h = absurd cc
give_stuck e (Outside one) t h = absurd cc
give_stuck e (Outside target) t_comma h = go (is_target e) h
  where
    go : (b : Bool) → stuck (cond b (Next (AfterTarget e no_exprs)) Stuck) ≡ true → left (cond b (Left e) Stuck) ≡ false
    go true h = absurd cc
    go false h = refl
give_stuck e (Outside target) t h = go (is_target e) h
  where
    go : (b : Bool) → stuck (cond b (Left e) Stuck) ≡ true → left (cond b (Left e) Stuck) ≡ false
    go true h = absurd cc
    go false h = refl
give_stuck e (Outside (targets f es)) t_comma h = go (is_target e) h
  where
    go : (b : Bool) → stuck (cond b (Next (AfterTarget f (snoc es e))) Stuck) ≡ true → left (cond b (Left (tuple (exprs f (snoc es e)) false)) Stuck) ≡ false
    go true h = absurd cc
    go false h = refl
give_stuck e (Outside (targets f es)) t h = go (is_target e) h
  where
    go : (b : Bool) → stuck (cond b (Left (tuple (exprs f (snoc es e)) false)) Stuck) ≡ true → left (cond b (Left (tuple (exprs f (snoc es e)) false)) Stuck) ≡ false
    go true h = absurd cc
    go false h = refl
give_stuck e (on exprs_first k) t_comma h = absurd cc
give_stuck e (on exprs_first k) t h = give_stuck e k t h
give_stuck e (on (exprs_rest f es) k) t_comma h = absurd cc
give_stuck e (on (exprs_rest f es) k) t h = give_stuck (tuple (exprs f (snoc es e)) false) k t h
give_stuck e (on cond_first k) t_if h = absurd cc
give_stuck e (on cond_first k) t h = give_stuck e k t h
give_stuck e (on (cond_test b) k) t h = refl
give_stuck e (on (cond_else b c) k) t h = give_stuck (tree_.cond b c e) k t h
give_stuck e (on (first l) k) (t_operator j) h = go (same_precedence l (operator_precedence j)) (λ i. give_stuck e k (t_operator j) i) h
  where
    go : (b : Bool) → (stuck (give e k (t_operator j)) ≡ true → left (give e k (t_other End)) ≡ false) → stuck (cond b (Next (Want (operator_right j) (on (right j e) k))) (give e k (t_operator j))) ≡ true → left (give e k (t_other End)) ≡ false
    go true rec h = absurd cc
    go false rec h = rec h
give_stuck e (on (first l) k) t h = give_stuck e k t h
give_stuck e (on (right i a) k) (t_operator j) h = go (same_precedence (operator_precedence i) (operator_precedence j)) (λ x. give_stuck (joined i a e) k (t_operator j) x) h
  where
    go : (b : Bool) → (stuck (give (joined i a e) k (t_operator j)) ≡ true → left (give (joined i a e) k (t_other End)) ≡ false) → stuck (cond b (Next (Want (operator_right j) (on (right j (joined i a e)) k))) (give (joined i a e) k (t_operator j))) ≡ true → left (give (joined i a e) k (t_other End)) ≡ false
    go true rec h = absurd cc
    go false rec h = rec h
give_stuck e (on (right i a) k) t h = give_stuck (joined i a e) k t h
give_stuck e (on not_of k) t h = give_stuck (not' e) k t h
give_stuck e (on compare_first k) (t_compare op) h = absurd cc
give_stuck e (on compare_first k) t_not h = absurd cc
give_stuck e (on compare_first k) t_is h = absurd cc
give_stuck e (on compare_first k) t h = give_stuck e k t h
give_stuck e (on (compare_rest a ls p) k) (t_compare op) h = absurd cc
give_stuck e (on (compare_rest a ls p) k) t_not h = absurd cc
give_stuck e (on (compare_rest a ls p) k) t_is h = absurd cc
give_stuck e (on (compare_rest a ls p) k) t h = give_stuck (compare a (snoc_link ls (Op p) e)) k t h
give_stuck e (on (unary_of s) k) t h = give_stuck (unary s e) k t h
give_stuck e (on post_rest k) t_left_paren h = absurd cc
give_stuck e (on post_rest k) t_left_bracket h = absurd cc
give_stuck e (on post_rest k) t_dot h = absurd cc
give_stuck e (on post_rest k) t h = give_stuck e k t h
give_stuck e (on (in_items (a_call f) es) k) t h = refl
give_stuck e (on (in_items a_list es) k) t h = refl
give_stuck e (on (index_first f) k) t h = refl
give_stuck e (on (in_index f) k) t h = refl
give_stuck e (on (slice_to f from) k) t h = refl
give_stuck e (on in_paren k) t h = refl
give_stuck e (on (in_key ps) k) t h = refl
give_stuck e (on (in_value ps key) k) t h = refl

-- A token that may be refused after an expression.
abbrev pub refuses : Goal → TokenClass → Bool
refuses g (t_bad_format ps) = true
refuses target t_not = true
refuses target (t_operator (b_op op_.Add)) = true
refuses target (t_operator (b_op op_.Sub)) = true
refuses g t = false

no_more : (b : Bool) → b ≡ false → b ≡ true → ⊥
no_more true h i = absurd cc
no_more false h i = absurd cc

-- an operand is refused where one may begin
comma_refuses : (g : Goal) (k : Ctx) (t : TokenClass) → begins t ≡ true → stuck (begin LExpr k t) ≡ true → refuses g t ≡ true
comma_refuses g k (t_bad_format ps) b h = refl
comma_refuses g k (t_name x) b h = absurd cc
comma_refuses g k (t_int n) b h = absurd cc
comma_refuses g k t_none b h = absurd cc
comma_refuses g k (t_bool c) b h = absurd cc
comma_refuses g k (t_string x) b h = absurd cc
comma_refuses g k (t_format ps) b h = absurd cc
comma_refuses g k t_not b h = absurd cc
comma_refuses g k (t_operator (b_op op_.Add)) b h = absurd cc
comma_refuses g k (t_operator (b_op op_.Sub)) b h = absurd cc
comma_refuses g k t_left_paren b h = absurd cc
comma_refuses g k t_left_bracket b h = absurd cc
comma_refuses g k t_left_brace b h = absurd cc
comma_refuses g k t b h = absurd cc

target_refuses : (k : Ctx) (t : TokenClass) → begins t ≡ true → stuck (begin LPost k t) ≡ true → refuses target t ≡ true
target_refuses k (t_bad_format ps) b h = refl
target_refuses k (t_name x) b h = absurd cc
target_refuses k (t_int n) b h = absurd cc
target_refuses k t_none b h = absurd cc
target_refuses k (t_bool c) b h = absurd cc
target_refuses k (t_string x) b h = absurd cc
target_refuses k (t_format ps) b h = absurd cc
target_refuses k t_not b h = refl
target_refuses k (t_operator (b_op op_.Add)) b h = refl
target_refuses k (t_operator (b_op op_.Sub)) b h = refl
target_refuses k t_left_paren b h = absurd cc
target_refuses k t_left_bracket b h = absurd cc
target_refuses k t_left_brace b h = absurd cc
target_refuses k t b h = absurd cc

pub step_stuck : (g : Goal) (s : State) (t : TokenClass) → Sound g s → stuck (step s t) ≡ true → left (step s (t_other End)) ≡ true → refuses g t ≡ true
step_stuck g (Want lev k) t valid h e = absurd cc
step_stuck g (Have d k) t valid h e = absurd (no_more (left (give d k (t_other End))) (give_stuck d k t h) e)
step_stuck g (Strings fs k) (t_string x) valid h e = absurd cc
step_stuck g (Strings fs k) (t_format ps) valid h e = absurd cc
step_stuck g (Strings fs k) (t_bad_format ps) valid h e = refl
step_stuck g (Strings fs k) t valid h e = absurd (no_more (left (give (strings_of fs) k (t_other End))) (give_stuck (strings_of fs) k t h) e)
step_stuck g (AfterOpen k) t valid h e = absurd cc
step_stuck g (AfterComma f es k) t valid h e = go (begins t) refl h
  where
    go : (b : Bool) → begins t ≡ b → stuck (cond b (begin LExpr (on (exprs_rest f es) k) t) (give (tuple (exprs f es) true) k t)) ≡ true → refuses g t ≡ true
    go true b h = comma_refuses g (on (exprs_rest f es) k) t b h
    go false b h = absurd (no_more (left (give (tuple (exprs f es) true) k (t_other End))) (give_stuck (tuple (exprs f es) true) k t h) e)
step_stuck g (AfterTarget f es) t valid h e = subst (λ (x : Goal). refuses x t ≡ true) (sym valid.0) (go (begins t) refl h)
  where
    go : (b : Bool) → begins t ≡ b → stuck (cond b (begin LPost (Outside (targets f es)) t) (Left (tuple (exprs f es) true))) ≡ true → refuses target t ≡ true
    go true b h = target_refuses (Outside (targets f es)) t b h
    go false b h = absurd cc
step_stuck g (ItemsOpen (a_call f) k) t valid h e = absurd cc
step_stuck g (ItemsOpen a_list k) t valid h e = absurd cc
step_stuck g (ItemsComma (a_call f) es k) t valid h e = absurd cc
step_stuck g (ItemsComma a_list es k) t valid h e = absurd cc
step_stuck g (DictOpen k) t valid h e = absurd cc
step_stuck g (DictComma ps k) t valid h e = absurd cc
step_stuck g (IndexOpen f k) t valid h e = absurd cc
step_stuck g (SliceColon f from k) t valid h e = absurd cc
step_stuck g (AfterDot f k) t valid h e = absurd cc
step_stuck g (AfterNot a ls k) t valid h e = absurd cc
step_stuck g (AfterIs a ls k) t valid h e = absurd cc
step_stuck g (AfterIsNot a ls k) t valid h e = absurd cc
step_stuck g (Linked a ls k) (t_compare op) valid h e = absurd cc
step_stuck g (Linked a ls k) t_not valid h e = absurd cc
step_stuck g (Linked a ls k) t_is valid h e = absurd cc
step_stuck g (Linked a ls k) t valid h e = absurd (no_more (left (give (compare a ls) k (t_other End))) (give_stuck (compare a ls) k t h) e)

-- ---- the same, said of the token

word_refused : (g : Goal) (w : Keyword) → refuses g (class (Word w)) ≡ true → IsRefused g (Word w)
word_refused target word.Not h = tt
word_refused any word.Not h = absurd cc
word_refused one word.Not h = absurd cc
word_refused (targets f es) word.Not h = absurd cc
word_refused g w h = absurd cc

mark_refused : (g : Goal) (m : Mark) → refuses g (class (Sign m)) ≡ true → IsRefused g (Sign m)
mark_refused target mark.Plus h = tt
mark_refused any mark.Plus h = absurd cc
mark_refused one mark.Plus h = absurd cc
mark_refused (targets f es) mark.Plus h = absurd cc
mark_refused target mark.Minus h = tt
mark_refused any mark.Minus h = absurd cc
mark_refused one mark.Minus h = absurd cc
mark_refused (targets f es) mark.Minus h = absurd cc
mark_refused g m h = absurd cc

pub refused : (g : Goal) (t : Kind) → refuses g (class t) ≡ true → IsRefused g t
refused g (FString ps) h = tt
refused g (Word w) h = word_refused g w h
refused g (Sign m) h = mark_refused g m h
refused g t h = absurd cc
