-- Where a string may stand in an expression, and how high it makes the whole.
use Rattle.std.proofs.Common.{◌≡◌, ℕ, ◌≤◌, ◌<◌, nat_le, Bool, true, false, cond, refl, sym, ap, ◌∙◌, arith}
use Rattle.std.proofs.lemmas.Bool.{leb-true, leb-false}
use Rattle.py_token.specs.declared.token.Keyword.{Keyword}
use Rattle.py_token.specs.declared.token.Keyword.TheVariants as word
use Rattle.py_token.specs.declared.token.Mark.{Mark}
use Rattle.py_token.specs.declared.token.Mark.TheVariants as mark
use Rattle.py_syntax.specs.declared.expr.Comparison.TheVariants.{Op}
use Rattle.py_syntax.specs.Tree.{Expr, fstr, tuple, not', unary, compare, exprs, Fragments, no_fragments, format, Parts}
use Rattle.py_syntax.specs.Tree as tree_
use Rattle.py_syntax.specs.Kinds.{Kind, Word, FString, Sign, End, Pieces}
use Rattle.py_syntax.specs.Normal.{LExpr, LExprs, LPost, is_target, height, height_fragments, height_parts}
use Rattle.py_grammar.specs.TokenClasses.{TokenClass, t_name, t_none, t_bool, t_format, t_bad_format, t_not, t_is, t_if, t_else, t_compare, t_operator, t_comma, t_colon, t_dot, t_left_paren, t_right_paren, t_left_bracket, t_right_bracket, t_right_brace, t_other, joined}
use Rattle.py_grammar.specs.Machine.{snoc, snoc_link, snoc_format, has_format, strings_of, any, one, target, targets, a_call, a_list, exprs_first, exprs_rest, cond_first, cond_test, cond_else, first, right, not_of, compare_first, compare_rest, unary_of, post_rest, in_items, index_first, in_index, slice_to, in_paren, in_key, in_value, Ctx, Outside, on, State, Want, Have, Strings, AfterOpen, AfterComma, AfterTarget, ItemsOpen, ItemsComma, DictOpen, DictComma, IndexOpen, SliceColon, AfterDot, AfterNot, AfterIs, AfterIsNot, Linked, Out, Next, Stuck, Left, upto, give, step, class}
use Rattle.py_grammar.specs.Least.{whole}
use Rattle.py_grammar.specs.Budgets.{budget}
use Rattle.py_parse_expr.specs.ExprViews.{plain_class}
use Rattle.py_parse_expr.specs.ExprFields.{takes_string, NoFString, has_spelled_fields, IsHigh}
use Rattle.py_grammar.proofs.Least.LeastNeverFalls.{format_snoc}
use Rattle.py_parse_expr.proofs.Least.Budgets.{budget_low, whole_fits}

-- ---- tokens that no expression goes on with

abbrev pub Foreign : TokenClass → Type 0
Foreign (t_format qs) = Unit {0}
Foreign (t_bad_format ps) = Unit {0}
Foreign (t_other t) = Unit {0}
Foreign t = ⊥

abbrev pub Ends : Out → Type 0
Ends (Next n) = ⊥
Ends o = Unit {0}

-- All do the same, and none is taken.
abbrev pub Alike : Out → Out → Type 0
Alike o p = (o ≡ p) × Ends p

left_or_stuck : (b : Bool) (e : Expr) → Alike (cond b (Left e) Stuck) (cond b (Left e) Stuck)
left_or_stuck true e = (refl, tt)
left_or_stuck false e = (refl, tt)

pub give_alike : (e : Expr) (k : Ctx) (t : TokenClass) → Foreign t → Alike (give e k t) (give e k (t_other End))
give_alike e (Outside any) t h = (refl, tt)
give_alike e (Outside one) t h = (refl, tt)
give_alike e (Outside target) t_comma h = absurd h
give_alike e (Outside target) t h = left_or_stuck (is_target e) e
give_alike e (Outside (targets f es)) t_comma h = absurd h
give_alike e (Outside (targets f es)) t h = left_or_stuck (is_target e) (tuple (exprs f (snoc es e)) false)
give_alike e (on exprs_first k) t_comma h = absurd h
give_alike e (on exprs_first k) t h = give_alike e k t h
give_alike e (on (exprs_rest f es) k) t_comma h = absurd h
give_alike e (on (exprs_rest f es) k) t h = give_alike (tuple (exprs f (snoc es e)) false) k t h
give_alike e (on cond_first k) t_if h = absurd h
give_alike e (on cond_first k) t h = give_alike e k t h
give_alike e (on (cond_test b) k) t_else h = absurd h
give_alike e (on (cond_test b) k) t h = (refl, tt)
give_alike e (on (cond_else b c) k) t h = give_alike (tree_.cond b c e) k t h
give_alike e (on (first l) k) (t_operator j) h = absurd h
give_alike e (on (first l) k) t h = give_alike e k t h
give_alike e (on (right i a) k) (t_operator j) h = absurd h
give_alike e (on (right i a) k) t h = give_alike (joined i a e) k t h
give_alike e (on not_of k) t h = give_alike (not' e) k t h
give_alike e (on compare_first k) (t_compare op) h = absurd h
give_alike e (on compare_first k) t_not h = absurd h
give_alike e (on compare_first k) t_is h = absurd h
give_alike e (on compare_first k) t h = give_alike e k t h
give_alike e (on (compare_rest a ls p) k) (t_compare op) h = absurd h
give_alike e (on (compare_rest a ls p) k) t_not h = absurd h
give_alike e (on (compare_rest a ls p) k) t_is h = absurd h
give_alike e (on (compare_rest a ls p) k) t h = give_alike (compare a (snoc_link ls (Op p) e)) k t h
give_alike e (on (unary_of s) k) t h = give_alike (unary s e) k t h
give_alike e (on post_rest k) t_left_paren h = absurd h
give_alike e (on post_rest k) t_left_bracket h = absurd h
give_alike e (on post_rest k) t_dot h = absurd h
give_alike e (on post_rest k) t h = give_alike e k t h
give_alike e (on (in_items (a_call f) es) k) t_comma h = absurd h
give_alike e (on (in_items (a_call f) es) k) t_right_paren h = absurd h
give_alike e (on (in_items (a_call f) es) k) t h = (refl, tt)
give_alike e (on (in_items a_list es) k) t_comma h = absurd h
give_alike e (on (in_items a_list es) k) t_right_bracket h = absurd h
give_alike e (on (in_items a_list es) k) t h = (refl, tt)
give_alike e (on (index_first f) k) t_comma h = absurd h
give_alike e (on (index_first f) k) t_colon h = absurd h
give_alike e (on (index_first f) k) t_right_bracket h = absurd h
give_alike e (on (index_first f) k) t h = (refl, tt)
give_alike e (on (in_index f) k) t_right_bracket h = absurd h
give_alike e (on (in_index f) k) t h = (refl, tt)
give_alike e (on (slice_to f from) k) t_right_bracket h = absurd h
give_alike e (on (slice_to f from) k) t h = (refl, tt)
give_alike e (on in_paren k) t_right_paren h = absurd h
give_alike e (on in_paren k) t h = (refl, tt)
give_alike e (on (in_key ps) k) t_colon h = absurd h
give_alike e (on (in_key ps) k) t h = (refl, tt)
give_alike e (on (in_value ps key) k) t_comma h = absurd h
give_alike e (on (in_value ps key) k) t_right_brace h = absurd h
give_alike e (on (in_value ps key) k) t h = (refl, tt)

-- where no string may stand
pub step_alike : (s : State) (t : TokenClass) → takes_string s ≡ false → Foreign t → Alike (step s t) (step s (t_other End))
step_alike (Have e k) t is h = give_alike e k t h
step_alike (AfterDot f k) (t_name x) is h = absurd h
step_alike (AfterDot f k) t is h = (refl, tt)
step_alike (AfterNot a ls k) (t_compare op) is h = absurd h
step_alike (AfterNot a ls k) t is h = (refl, tt)
step_alike (AfterIs a ls k) t_not is h = absurd h
step_alike (AfterIs a ls k) t_none is h = absurd h
step_alike (AfterIs a ls k) (t_bool b) is h = absurd h
step_alike (AfterIs a ls k) t is h = (refl, tt)
step_alike (AfterIsNot a ls k) t_none is h = absurd h
step_alike (AfterIsNot a ls k) (t_bool b) is h = absurd h
step_alike (AfterIsNot a ls k) t is h = (refl, tt)
step_alike (Linked a ls k) (t_compare op) is h = absurd h
step_alike (Linked a ls k) t_not is h = absurd h
step_alike (Linked a ls k) t_is is h = absurd h
step_alike (Linked a ls k) t is h = give_alike (compare a ls) k t h
step_alike s t is h = absurd cc

-- All tokens that stand in no expression are one.
pub step_other : (s : State) (t : Kind) → step s (t_other End) ≡ step s (t_other t)
step_other (Have e k) t = sym (give_alike e k (t_other t) tt).0
step_other (Strings fs k) t = sym (give_alike (strings_of fs) k (t_other t) tt).0
step_other (AfterComma f es k) t = sym (give_alike (tuple (exprs f es) true) k (t_other t) tt).0
step_other (Linked a ls k) t = sym (give_alike (compare a ls) k (t_other t) tt).0
step_other (ItemsOpen (a_call f) k) t = refl
step_other (ItemsOpen a_list k) t = refl
step_other (ItemsComma (a_call f) es k) t = refl
step_other (ItemsComma a_list es k) t = refl
step_other s t = refl

abbrev NoFormat : TokenClass → Type 0
NoFormat (t_format qs) = ⊥
NoFormat (t_bad_format ps) = ⊥
NoFormat t = Unit {0}

step_plain : (s : State) (t : TokenClass) → NoFormat t → step s (plain_class t) ≡ step s t
step_plain s (t_format qs) h = absurd h
step_plain s (t_bad_format ps) h = absurd h
step_plain s (t_other t) h = step_other s t
step_plain s t h = refl

word_plain : (w : Keyword) → NoFormat (class (Word w))
word_plain word.None = tt
word_plain w = tt

mark_plain : (m : Mark) → NoFormat (class (Sign m))
mark_plain mark.Comma = tt
mark_plain m = tt

no_format : (t : Kind) → NoFString t → NoFormat (class t)
no_format (FString ps) h = absurd h
no_format (Word w) h = word_plain w
no_format (Sign m) h = mark_plain m
no_format t h = tt

-- a token that is no f-string, by the class that the code gives it
pub step_token : (s : State) (t : Kind) → NoFString t → step s (plain_class (class t)) ≡ step s (class t)
step_token s t h = step_plain s (class t) (no_format t h)

pub spelled_token : (t : Kind) → NoFString t → has_spelled_fields t ≡ true
spelled_token (FString ps) h = absurd h
spelled_token t h = refl

-- ---- where a string may stand

pub step_bad : (s : State) (ps : Pieces) → takes_string s ≡ true → step s (t_bad_format ps) ≡ Stuck
step_bad (Have e k) ps is = absurd cc
step_bad (AfterDot f k) ps is = absurd cc
step_bad (AfterNot a ls k) ps is = absurd cc
step_bad (AfterIs a ls k) ps is = absurd cc
step_bad (AfterIsNot a ls k) ps is = absurd cc
step_bad (Linked a ls k) ps is = absurd cc
step_bad (ItemsOpen (a_call f) k) ps is = refl
step_bad (ItemsOpen a_list k) ps is = refl
step_bad (ItemsComma (a_call f) es k) ps is = refl
step_bad (ItemsComma a_list es k) ps is = refl
step_bad s ps is = refl

-- An f-string is taken.
abbrev Takes : Parts → Out → Type 0
Takes qs o = (fs : Fragments) × (k : Ctx) × (o ≡ Next (Strings fs k)) × (has_format fs ≡ true) × (height_parts qs ≤ height_fragments fs)

begun : (qs : Parts) (k : Ctx) → Takes qs (Next (Strings (format qs no_fragments) k))
begun qs k = (format qs no_fragments, k, refl, refl, omega arith)

step_takes : (s : State) (qs : Parts) → takes_string s ≡ true → Takes qs (step s (t_format qs))
step_takes (Have e k) qs is = absurd cc
step_takes (AfterDot f k) qs is = absurd cc
step_takes (AfterNot a ls k) qs is = absurd cc
step_takes (AfterIs a ls k) qs is = absurd cc
step_takes (AfterIsNot a ls k) qs is = absurd cc
step_takes (Linked a ls k) qs is = absurd cc
step_takes (Strings fs k) qs is = let f = format_snoc fs qs in let high = f.1 in (snoc_format fs qs, k, refl, f.0, omega arith)
step_takes (Want lev k) qs is = begun qs (upto lev LPost k)
step_takes (AfterOpen k) qs is = begun qs (upto LExprs LPost (on in_paren k))
step_takes (AfterComma f es k) qs is = begun qs (upto LExpr LPost (on (exprs_rest f es) k))
step_takes (AfterTarget f es) qs is = begun qs (upto LPost LPost (Outside (targets f es)))
step_takes (ItemsOpen (a_call f) k) qs is = begun qs _
step_takes (ItemsOpen a_list k) qs is = begun qs _
step_takes (ItemsComma (a_call f) es k) qs is = begun qs _
step_takes (ItemsComma a_list es k) qs is = begun qs _
step_takes (DictOpen k) qs is = begun qs _
step_takes (DictComma ps k) qs is = begun qs _
step_takes (IndexOpen f k) qs is = begun qs _
step_takes (SliceColon f from k) qs is = begun qs _

-- a whole is as high as its part
pub whole_high : (k : Ctx) (e : Expr) (limit : ℕ) → limit < height e → limit < height (whole k e)
whole_high k e limit high = go (nat_le (height (whole k e)) limit) refl
  where
    go : (b : Bool) → nat_le (height (whole k e)) limit ≡ b → limit < height (whole k e)
    go true is = let fits = leb-true (height e) (budget limit k (is_target e)) (sym (whole_fits limit k e) ∙ is) in let low = budget_low limit k (is_target e) in absurd (omega arith)
    go false is = let no = leb-false (height (whole k e)) limit is in omega arith

strings_high : (fs : Fragments) (limit : ℕ) → has_format fs ≡ true → limit ≤ height_fragments fs → limit < height (strings_of fs)
strings_high fs limit some high = let is = ap (λ (b : Bool). height (cond b (fstr fs) (tree_.str (Rattle.py_grammar.specs.Machine.texts fs)))) some in omega arith

-- An f-string with fields that are too high makes all too high.
pub step_high : (s : State) (qs : Parts) (limit : ℕ) → takes_string s ≡ true → limit ≤ height_parts qs → IsHigh limit (step s (t_format qs))
step_high s qs limit is high =
    let t = step_takes s qs is in
    let more = t.4 in
    (Strings t.0 t.1, t.2, whole_high t.1 (strings_of t.0) limit (strings_high t.0 limit t.3 (omega arith)))
