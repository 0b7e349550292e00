-- Which tokens are accepted does not depend on the trees in the frames, unless a target is asked for.
use Rattle.std.proofs.Common.{◌≡◌, Bool, true, false, cond, [], refl, sym, ap, ◌∙◌}
use Rattle.py_operator.specs.declared.operator.BinOp.TheVariants as op_
use Rattle.py_syntax.specs.declared.expr.Comparison.TheVariants.{Op}
use Rattle.py_syntax.specs.declared.expr.Sign.TheVariants as sign_
use Rattle.py_syntax.specs.Tree.{Expr, tuple, not', or, unary, compare, Exprs, no_exprs, exprs, no_pairs, no_links, absent, no_fragments, plain}
use Rattle.py_syntax.specs.Tree as tree_
use Rattle.py_syntax.specs.Normal.{Precedence, LExprs, LExpr, LOr, LAnd, LNot, LCmp, LSum, LTerm, LUnary}
use Rattle.py_grammar.specs.TokenClasses.{b_op, TokenClass, t_name, t_int, t_none, t_bool, t_string, t_format, t_not, t_is, t_if, t_else, t_compare, t_operator, t_comma, t_colon, t_dot, t_left_paren, t_right_paren, t_left_bracket, t_right_bracket, t_left_brace, t_right_brace, operator_precedence, operator_right, joined}
use Rattle.py_grammar.specs.Machine.{at_most, same_precedence, snoc, snoc_link, any, one, target, targets, Opener, a_call, a_list, Frame, exprs_first, exprs_rest, cond_first, cond_test, cond_else, first, right, not_of, compare_first, compare_rest, unary_of, post_rest, in_items, index_first, in_index, slice_to, in_paren, in_key, in_value, Ctx, Outside, on, Want, Have, Strings, AfterOpen, AfterComma, ItemsOpen, ItemsComma, DictOpen, DictComma, IndexOpen, SliceColon, AfterDot, AfterNot, AfterIs, Out, Next, Stuck, upto_exprs, upto_cond, upto_or, upto_and, upto_compare, upto_sum, upto_term, begin, close_items, give}
use Rattle.py_grammar.specs.Least.{least_name}
use Rattle.py_grammar.specs.Bare.{bare_opener, bare_frame, bare_ctx, bare_out, Free}

bare_opener_twice : (o : Opener) → bare_opener (bare_opener o) ≡ bare_opener o
bare_opener_twice (a_call f) = refl
bare_opener_twice a_list = refl

bare_frame_twice : (f : Frame) → bare_frame (bare_frame f) ≡ bare_frame f
bare_frame_twice (in_items o es) = ap (λ (x : Opener). in_items x no_exprs) (bare_opener_twice o)
bare_frame_twice (exprs_rest f es) = refl
bare_frame_twice f = refl

pub bare_twice : (k : Ctx) → Free k → bare_ctx (bare_ctx k) ≡ bare_ctx k
bare_twice (Outside any) h = refl
bare_twice (Outside one) h = refl
bare_twice (Outside target) h = absurd h
bare_twice (Outside (targets f es)) h = absurd h
bare_twice (on f k) h = ap (λ (x : Frame). on x (bare_ctx (bare_ctx k))) (bare_frame_twice f) ∙ ap (λ (x : Ctx). on (bare_frame f) x) (bare_twice k h)

pub close_alike : (o : Opener) (es ds : Exprs) (c d : Bool) (k : Ctx) (t : TokenClass) (other out : Out) → Free k → bare_out other ≡ bare_out out → bare_out (close_items o es c k t other) ≡ bare_out (close_items (bare_opener o) ds d (bare_ctx k) t out)
close_alike (a_call f) es ds c d k t_right_paren other out h is = ap (λ (x : Ctx). Next (Have least_name (on post_rest x))) (sym (bare_twice k h))
close_alike a_list es ds c d k t_right_bracket other out h is = ap (λ (x : Ctx). Next (Have least_name (on post_rest x))) (sym (bare_twice k h))
close_alike (a_call f) es ds c d k t other out h is = is
close_alike a_list es ds c d k t other out h is = is

pub give_alike : (e d : Expr) (k : Ctx) (t : TokenClass) → Free k → bare_out (give e k t) ≡ bare_out (give d (bare_ctx k) t)
give_alike e d (Outside any) t h = refl
give_alike e d (Outside one) t h = refl
give_alike e d (Outside target) t h = absurd h
give_alike e d (Outside (targets f es)) t h = absurd h
give_alike e d (on exprs_first k) t_comma h = ap (λ (x : Ctx). Next (AfterComma least_name no_exprs x)) (sym (bare_twice k h))
give_alike e d (on exprs_first k) t h = give_alike e d k t h
give_alike e d (on (exprs_rest f es) k) t_comma h = ap (λ (x : Ctx). Next (AfterComma least_name no_exprs x)) (sym (bare_twice k h))
give_alike e d (on (exprs_rest f es) k) t h = give_alike (tuple (exprs f (snoc es e)) false) (tuple (exprs least_name (snoc no_exprs d)) false) k t h
give_alike e d (on cond_first k) t_if h = ap (λ (x : Ctx). Next (Want LOr (on (cond_test least_name) x))) (sym (bare_twice k h))
give_alike e d (on cond_first k) t h = give_alike e d k t h
give_alike e d (on (cond_test b) k) t_else h = ap (λ (x : Ctx). Next (Want LExpr (on (cond_else least_name least_name) x))) (sym (bare_twice k h))
give_alike e d (on (cond_test b) k) t h = refl
give_alike e d (on (cond_else b c) k) t h = give_alike (tree_.cond b c e) (tree_.cond least_name least_name d) k t h
give_alike e d (on (first l) k) (t_operator j) h = go (same_precedence l (operator_precedence j)) (give_alike e d k (t_operator j) h)
  where
    go : (b : Bool) → bare_out (give e k (t_operator j)) ≡ bare_out (give d (bare_ctx k) (t_operator j)) → bare_out (cond b (Next (Want (operator_right j) (on (right j e) k))) (give e k (t_operator j))) ≡ bare_out (cond b (Next (Want (operator_right j) (on (right j d) (bare_ctx k)))) (give d (bare_ctx k) (t_operator j)))
    go true rec = ap (λ (x : Ctx). Next (Want (operator_right j) (on (right j least_name) x))) (sym (bare_twice k h))
    go false rec = rec
give_alike e d (on (first l) k) t h = give_alike e d k t h
give_alike e d (on (right i a) k) (t_operator j) h = go (same_precedence (operator_precedence i) (operator_precedence j)) (give_alike (joined i a e) (joined i least_name d) k (t_operator j) h)
  where
    go : (b : Bool) → bare_out (give (joined i a e) k (t_operator j)) ≡ bare_out (give (joined i least_name d) (bare_ctx k) (t_operator j)) → bare_out (cond b (Next (Want (operator_right j) (on (right j (joined i a e)) k))) (give (joined i a e) k (t_operator j))) ≡ bare_out (cond b (Next (Want (operator_right j) (on (right j (joined i least_name d)) (bare_ctx k)))) (give (joined i least_name d) (bare_ctx k) (t_operator j)))
    go true rec = ap (λ (x : Ctx). Next (Want (operator_right j) (on (right j least_name) x))) (sym (bare_twice k h))
    go false rec = rec
give_alike e d (on (right i a) k) t h = give_alike (joined i a e) (joined i least_name d) k t h
give_alike e d (on not_of k) t h = give_alike (not' e) (not' d) k t h
give_alike e d (on compare_first k) (t_compare op) h = ap (λ (x : Ctx). Next (Want LSum (on (compare_rest least_name no_links op) x))) (sym (bare_twice k h))
give_alike e d (on compare_first k) t_not h = ap (λ (x : Ctx). Next (AfterNot least_name no_links x)) (sym (bare_twice k h))
give_alike e d (on compare_first k) t_is h = ap (λ (x : Ctx). Next (AfterIs least_name no_links x)) (sym (bare_twice k h))
give_alike e d (on compare_first k) t h = give_alike e d k t h
give_alike e d (on (compare_rest a ls p) k) (t_compare op) h = ap (λ (x : Ctx). Next (Want LSum (on (compare_rest least_name no_links op) x))) (sym (bare_twice k h))
give_alike e d (on (compare_rest a ls p) k) t_not h = ap (λ (x : Ctx). Next (AfterNot least_name no_links x)) (sym (bare_twice k h))
give_alike e d (on (compare_rest a ls p) k) t_is h = ap (λ (x : Ctx). Next (AfterIs least_name no_links x)) (sym (bare_twice k h))
give_alike e d (on (compare_rest a ls p) k) t h = give_alike (compare a (snoc_link ls (Op p) e)) (compare least_name (snoc_link no_links (Op p) d)) k t h
give_alike e d (on (unary_of s) k) t h = give_alike (unary s e) (unary s d) k t h
give_alike e d (on post_rest k) t_left_paren h = ap (λ (x : Ctx). Next (ItemsOpen (a_call least_name) x)) (sym (bare_twice k h))
give_alike e d (on post_rest k) t_left_bracket h = ap (λ (x : Ctx). Next (IndexOpen least_name x)) (sym (bare_twice k h))
give_alike e d (on post_rest k) t_dot h = ap (λ (x : Ctx). Next (AfterDot least_name x)) (sym (bare_twice k h))
give_alike e d (on post_rest k) t h = give_alike e d k t h
give_alike e d (on (in_items (a_call f) es) k) t_comma h = ap (λ (x : Ctx). Next (ItemsComma (a_call least_name) no_exprs x)) (sym (bare_twice k h))
give_alike e d (on (in_items a_list es) k) t_comma h = ap (λ (x : Ctx). Next (ItemsComma a_list no_exprs x)) (sym (bare_twice k h))
give_alike e d (on (in_items o es) k) t h = close_alike o (snoc es e) (snoc no_exprs d) false false k t Stuck Stuck h refl
give_alike e d (on (index_first f) k) t_comma h = ap (λ (x : Ctx). Next (AfterComma least_name no_exprs (on (in_index least_name) x))) (sym (bare_twice k h))
give_alike e d (on (index_first f) k) t_colon h = ap (λ (x : Ctx). Next (SliceColon least_name absent x)) (sym (bare_twice k h))
give_alike e d (on (index_first f) k) t_right_bracket h = ap (λ (x : Ctx). Next (Have least_name (on post_rest x))) (sym (bare_twice k h))
give_alike e d (on (index_first f) k) t h = refl
give_alike e d (on (in_index f) k) t_right_bracket h = ap (λ (x : Ctx). Next (Have least_name (on post_rest x))) (sym (bare_twice k h))
give_alike e d (on (in_index f) k) t h = refl
give_alike e d (on (slice_to f from) k) t_right_bracket h = ap (λ (x : Ctx). Next (Have least_name (on post_rest x))) (sym (bare_twice k h))
give_alike e d (on (slice_to f from) k) t h = refl
give_alike e d (on in_paren k) t_right_paren h = ap (λ (x : Ctx). Next (Have least_name (on post_rest x))) (sym (bare_twice k h))
give_alike e d (on in_paren k) t h = refl
give_alike e d (on (in_key ps) k) t_colon h = ap (λ (x : Ctx). Next (Want LExpr (on (in_value no_pairs least_name) x))) (sym (bare_twice k h))
give_alike e d (on (in_key ps) k) t h = refl
give_alike e d (on (in_value ps key) k) t_comma h = ap (λ (x : Ctx). Next (DictComma no_pairs x)) (sym (bare_twice k h))
give_alike e d (on (in_value ps key) k) t_right_brace h = ap (λ (x : Ctx). Next (Have least_name (on post_rest x))) (sym (bare_twice k h))
give_alike e d (on (in_value ps key) k) t h = refl

-- ---- the frames that are pushed have no trees

exprs_bare : (lev : Precedence) (k : Ctx) → bare_ctx (upto_exprs lev k) ≡ upto_exprs lev (bare_ctx k)
exprs_bare lev k = elim (at_most lev LExprs) as (λ b. bare_ctx (cond b (on exprs_first k) k) ≡ cond b (on exprs_first (bare_ctx k)) (bare_ctx k)) [ true ↦ refl | false ↦ refl ]

cond_bare : (lev : Precedence) (k : Ctx) → bare_ctx (upto_cond lev k) ≡ upto_cond lev (bare_ctx k)
cond_bare lev k = elim (at_most lev LExpr) as (λ b. bare_ctx (cond b (on cond_first (upto_exprs lev k)) k) ≡ cond b (on cond_first (upto_exprs lev (bare_ctx k))) (bare_ctx k)) [ true ↦ ap (λ (x : Ctx). on cond_first x) (exprs_bare lev k) | false ↦ refl ]

or_bare : (lev : Precedence) (k : Ctx) → bare_ctx (upto_or lev k) ≡ upto_or lev (bare_ctx k)
or_bare lev k = elim (at_most lev LOr) as (λ b. bare_ctx (cond b (on (first LOr) (upto_cond lev k)) k) ≡ cond b (on (first LOr) (upto_cond lev (bare_ctx k))) (bare_ctx k)) [ true ↦ ap (λ (x : Ctx). on (first LOr) x) (cond_bare lev k) | false ↦ refl ]

and_bare : (lev : Precedence) (k : Ctx) → bare_ctx (upto_and lev k) ≡ upto_and lev (bare_ctx k)
and_bare lev k = elim (at_most lev LAnd) as (λ b. bare_ctx (cond b (on (first LAnd) (upto_or lev k)) k) ≡ cond b (on (first LAnd) (upto_or lev (bare_ctx k))) (bare_ctx k)) [ true ↦ ap (λ (x : Ctx). on (first LAnd) x) (or_bare lev k) | false ↦ refl ]

compare_bare : (lev : Precedence) (k : Ctx) → bare_ctx (upto_compare lev k) ≡ upto_compare lev (bare_ctx k)
compare_bare lev k = elim (at_most lev LCmp) as (λ b. bare_ctx (cond b (on compare_first (upto_and lev k)) k) ≡ cond b (on compare_first (upto_and lev (bare_ctx k))) (bare_ctx k)) [ true ↦ ap (λ (x : Ctx). on compare_first x) (and_bare lev k) | false ↦ refl ]

sum_bare : (lev : Precedence) (k : Ctx) → bare_ctx (upto_sum lev k) ≡ upto_sum lev (bare_ctx k)
sum_bare lev k = elim (at_most lev LSum) as (λ b. bare_ctx (cond b (on (first LSum) (upto_compare lev k)) k) ≡ cond b (on (first LSum) (upto_compare lev (bare_ctx k))) (bare_ctx k)) [ true ↦ ap (λ (x : Ctx). on (first LSum) x) (compare_bare lev k) | false ↦ refl ]

term_bare : (lev : Precedence) (k : Ctx) → bare_ctx (upto_term lev k) ≡ upto_term lev (bare_ctx k)
term_bare lev k = elim (at_most lev LTerm) as (λ b. bare_ctx (cond b (on (first LTerm) (upto_sum lev k)) k) ≡ cond b (on (first LTerm) (upto_sum lev (bare_ctx k))) (bare_ctx k)) [ true ↦ ap (λ (x : Ctx). on (first LTerm) x) (sum_bare lev k) | false ↦ refl ]

-- the frames under an atom, with the least trees or with those
term_twice : (lev : Precedence) (k : Ctx) → Free k → bare_ctx (upto_term lev k) ≡ bare_ctx (upto_term lev (bare_ctx k))
term_twice lev k h = term_bare lev k ∙ ap (upto_term lev) (sym (bare_twice k h)) ∙ sym (term_bare lev (bare_ctx k))

and_twice : (lev : Precedence) (k : Ctx) → Free k → bare_ctx (upto_and lev k) ≡ bare_ctx (upto_and lev (bare_ctx k))
and_twice lev k h = and_bare lev k ∙ ap (upto_and lev) (sym (bare_twice k h)) ∙ sym (and_bare lev (bare_ctx k))

pub begin_alike : (lev : Precedence) (k : Ctx) (t : TokenClass) → Free k → bare_out (begin lev k t) ≡ bare_out (begin lev (bare_ctx k) t)
begin_alike lev k (t_name x) h = ap (λ (c : Ctx). Next (Have least_name (on post_rest c))) (term_twice lev k h)
begin_alike lev k (t_int x) h = ap (λ (c : Ctx). Next (Have least_name (on post_rest c))) (term_twice lev k h)
begin_alike lev k t_none h = ap (λ (c : Ctx). Next (Have least_name (on post_rest c))) (term_twice lev k h)
begin_alike lev k (t_bool x) h = ap (λ (c : Ctx). Next (Have least_name (on post_rest c))) (term_twice lev k h)
begin_alike lev k (t_string x) h = ap (λ (c : Ctx). Next (Strings (plain [] no_fragments) (on post_rest c))) (term_twice lev k h)
begin_alike lev k (t_format x) h = ap (λ (c : Ctx). Next (Strings (plain [] no_fragments) (on post_rest c))) (term_twice lev k h)
begin_alike lev k t_not h = go (at_most lev LNot)
  where
    go : (b : Bool) → bare_out (cond b (Next (Want LNot (on not_of (upto_and lev k)))) Stuck) ≡ bare_out (cond b (Next (Want LNot (on not_of (upto_and lev (bare_ctx k))))) Stuck)
    go true = ap (λ (c : Ctx). Next (Want LNot (on not_of c))) (and_twice lev k h)
    go false = refl
begin_alike lev k (t_operator (b_op op_.Add)) h = go (at_most lev LUnary)
  where
    go : (b : Bool) → bare_out (cond b (Next (Want LUnary (on (unary_of sign_.Plus) (upto_term lev k)))) Stuck) ≡ bare_out (cond b (Next (Want LUnary (on (unary_of sign_.Plus) (upto_term lev (bare_ctx k))))) Stuck)
    go true = ap (λ (c : Ctx). Next (Want LUnary (on (unary_of sign_.Plus) c))) (term_twice lev k h)
    go false = refl
begin_alike lev k (t_operator (b_op op_.Sub)) h = go (at_most lev LUnary)
  where
    go : (b : Bool) → bare_out (cond b (Next (Want LUnary (on (unary_of sign_.Minus) (upto_term lev k)))) Stuck) ≡ bare_out (cond b (Next (Want LUnary (on (unary_of sign_.Minus) (upto_term lev (bare_ctx k))))) Stuck)
    go true = ap (λ (c : Ctx). Next (Want LUnary (on (unary_of sign_.Minus) c))) (term_twice lev k h)
    go false = refl
begin_alike lev k t_left_paren h = ap (λ (c : Ctx). Next (AfterOpen c)) (term_twice lev k h)
begin_alike lev k t_left_bracket h = ap (λ (c : Ctx). Next (ItemsOpen a_list c)) (term_twice lev k h)
begin_alike lev k t_left_brace h = ap (λ (c : Ctx). Next (DictOpen c)) (term_twice lev k h)
begin_alike lev k t h = refl
