-- Frames that a token passes, since it binds less than they do.
use Rattle.std.proofs.Common.{◌≡◌, ℕ, ◌≤◌, ◌<◌, Bool, true, false, cond, List, [], ◌∷◌, refl, ap, ◌∙◌, arith}
use Rattle.py_operator.specs.declared.operator.CmpOp.{CmpOp}
use Rattle.py_syntax.specs.declared.expr.Comparison.TheVariants.{Op}
use Rattle.py_syntax.specs.Tree.{Expr, tuple, compare, Exprs, exprs, Links}
use Rattle.py_syntax.specs.Kinds.{Kind}
use Rattle.py_syntax.specs.Normal.{Precedence, LEnd, LExprs, LExpr, LOr, LAnd, LNot, LCmp, LSum, LTerm, LUnary, LPost, rank}
use Rattle.py_grammar.specs.TokenClasses.{BinaryOperator, TokenClass, t_string, t_format, t_bad_format, t_not, t_is, t_if, t_compare, t_operator, t_comma, t_dot, t_left_paren, t_left_bracket, operator_precedence, operator_right, joined, binds, begins}
use Rattle.py_grammar.specs.Machine.{same_precedence, snoc, snoc_link, exprs_first, exprs_rest, cond_first, first, right, compare_first, compare_rest, post_rest, Ctx, on, State, Want, Have, Linked, Out, Next, upto_exprs, upto_cond, upto_or, upto_and, upto_compare, upto_sum, upto_term, upto, give, step, class, run}
use Rattle.std.proofs.lemmas.Bool.{eqb-true}
use Rattle.py_grammar.proofs.Sound.Spelled.{outcome}

pub pass_post : (e : Expr) (k : Ctx) (t : TokenClass) → rank (binds t) ≤ 9 → give e (on post_rest k) t ≡ give e k t
pass_post e k t_left_paren le = absurd (omega arith)
pass_post e k t_left_bracket le = absurd (omega arith)
pass_post e k t_dot le = absurd (omega arith)
pass_post e k t le = refl

pub pass_first : (e : Expr) (l : Precedence) (k : Ctx) (t : TokenClass) → rank (binds t) < rank l → give e (on (first l) k) t ≡ give e k t
pass_first e l k (t_operator j) lt = go (same_precedence l (operator_precedence j)) refl
  where
    go : (b : Bool) → same_precedence l (operator_precedence j) ≡ b → cond b (Next (Want (operator_right j) (on (right j e) k))) (give e k (t_operator j)) ≡ give e k (t_operator j)
    go true is = let same : rank l ≡ rank (operator_precedence j) = eqb-true _ _ is in absurd (omega arith)
    go false is = refl
pass_first e l k t lt = refl

pub pass_compare : (e : Expr) (k : Ctx) (t : TokenClass) → rank (binds t) ≤ 5 → give e (on compare_first k) t ≡ give e k t
pass_compare e k (t_compare op) le = absurd (omega arith)
pass_compare e k t_not le = absurd (omega arith)
pass_compare e k t_is le = absurd (omega arith)
pass_compare e k t le = refl

pub pass_linked : (a : Expr) (ls : Links) (k : Ctx) (t : TokenClass) → rank (binds t) ≤ 5 → step (Linked a ls k) t ≡ give (compare a ls) k t
pass_linked a ls k (t_compare op) le = absurd (omega arith)
pass_linked a ls k t_not le = absurd (omega arith)
pass_linked a ls k t_is le = absurd (omega arith)
pass_linked a ls k t le = refl

pub pass_cond : (e : Expr) (k : Ctx) (t : TokenClass) → rank (binds t) ≤ 1 → give e (on cond_first k) t ≡ give e k t
pass_cond e k t_if le = absurd (omega arith)
pass_cond e k t le = refl

pub pass_exprs : (e : Expr) (k : Ctx) (t : TokenClass) → rank (binds t) ≤ 0 → give e (on exprs_first k) t ≡ give e k t
pass_exprs e k t_comma le = absurd (omega arith)
pass_exprs e k t le = refl

pub pass_rest : (f : Expr) (es : Exprs) (e : Expr) (k : Ctx) (t : TokenClass) → rank (binds t) ≤ 0 → give e (on (exprs_rest f es) k) t ≡ give (tuple (exprs f (snoc es e)) false) k t
pass_rest f es e k t_comma le = absurd (omega arith)
pass_rest f es e k t le = refl

-- a right operand is whole together with its left one
pub give_right : (j : BinaryOperator) (a e : Expr) (k : Ctx) (t : TokenClass) → give e (on (right j a) k) t ≡ give (joined j a e) (on (first (operator_precedence j)) k) t
give_right j a e k (t_operator i) = refl
give_right j a e k t = refl

pub give_compared : (a : Expr) (ls : Links) (op : CmpOp) (e : Expr) (k : Ctx) (t : TokenClass) → give e (on (compare_rest a ls op) k) t ≡ step (Linked a (snoc_link ls (Op op) e) k) t
give_compared a ls op e k (t_compare p) = refl
give_compared a ls op e k t_not = refl
give_compared a ls op e k t_is = refl
give_compared a ls op e k t = refl

-- ---- from one precedence down to the next looser one, past the frames between them

down_term : (lev : Precedence) (e : Expr) (k : Ctx) (t : TokenClass) → rank (binds t) ≤ 7 → give e (upto_term lev k) t ≡ give e (upto_sum lev k) t
down_term LPost e k t le = refl
down_term LUnary e k t le = refl
down_term lev e k t le = pass_first e LTerm (upto_sum lev k) t (omega arith)

down_sum : (lev : Precedence) (e : Expr) (k : Ctx) (t : TokenClass) → rank (binds t) ≤ 6 → give e (upto_sum lev k) t ≡ give e (upto_compare lev k) t
down_sum LPost e k t le = refl
down_sum LUnary e k t le = refl
down_sum LTerm e k t le = refl
down_sum lev e k t le = pass_first e LSum (upto_compare lev k) t (omega arith)

down_compare : (lev : Precedence) (e : Expr) (k : Ctx) (t : TokenClass) → rank (binds t) ≤ 5 → give e (upto_compare lev k) t ≡ give e (upto_and lev k) t
down_compare LPost e k t le = refl
down_compare LUnary e k t le = refl
down_compare LTerm e k t le = refl
down_compare LSum e k t le = refl
down_compare lev e k t le = pass_compare e (upto_and lev k) t le

down_and : (lev : Precedence) (e : Expr) (k : Ctx) (t : TokenClass) → rank (binds t) ≤ 3 → give e (upto_and lev k) t ≡ give e (upto_or lev k) t
down_and LPost e k t le = refl
down_and LUnary e k t le = refl
down_and LTerm e k t le = refl
down_and LSum e k t le = refl
down_and LCmp e k t le = refl
down_and LNot e k t le = refl
down_and lev e k t le = pass_first e LAnd (upto_or lev k) t (omega arith)

down_or : (lev : Precedence) (e : Expr) (k : Ctx) (t : TokenClass) → rank (binds t) ≤ 1 → give e (upto_or lev k) t ≡ give e (upto_exprs lev k) t
down_or LEnd e k t le = pass_first e LOr (upto_cond LEnd k) t (omega arith) ∙ pass_cond e (upto_exprs LEnd k) t le
down_or LExprs e k t le = pass_first e LOr (upto_cond LExprs k) t (omega arith) ∙ pass_cond e (upto_exprs LExprs k) t le
down_or LExpr e k t le = pass_first e LOr (upto_cond LExpr k) t (omega arith) ∙ pass_cond e (upto_exprs LExpr k) t le
down_or LOr e k t le = pass_first e LOr k t (omega arith)
down_or lev e k t le = refl

down_exprs : (lev : Precedence) (e : Expr) (k : Ctx) (t : TokenClass) → rank (binds t) ≤ 0 → give e (upto_exprs lev k) t ≡ give e k t
down_exprs LEnd e k t le = pass_exprs e k t le
down_exprs LExprs e k t le = pass_exprs e k t le
down_exprs lev e k t le = refl

-- How much a token may bind that goes down to a precedence. An `if` goes on with all that an `expr` has in it.
abbrev pub budget : Precedence → ℕ
budget LExpr = 1
budget l = rank l

exprs_to : (lev m : Precedence) (e : Expr) (k : Ctx) (t : TokenClass) → rank m ≤ 2 → rank (binds t) ≤ budget m → give e (upto_exprs lev k) t ≡ give e (upto lev m k) t
exprs_to lev LEnd e k t h le = down_exprs lev e k t le
exprs_to lev LExprs e k t h le = refl
exprs_to lev LExpr e k t h le = refl
exprs_to lev m e k t h le = absurd (omega arith)

or_to : (lev m : Precedence) (e : Expr) (k : Ctx) (t : TokenClass) → rank m ≤ 3 → rank (binds t) ≤ budget m → give e (upto_or lev k) t ≡ give e (upto lev m k) t
or_to lev LOr e k t h le = refl
or_to lev m e k t h le = down_or lev e k t (omega arith) ∙ exprs_to lev m e k t (omega arith) le

and_to : (lev m : Precedence) (e : Expr) (k : Ctx) (t : TokenClass) → rank m ≤ 5 → rank (binds t) ≤ budget m → give e (upto_and lev k) t ≡ give e (upto lev m k) t
and_to lev LAnd e k t h le = refl
and_to lev LNot e k t h le = refl
and_to lev m e k t h le = down_and lev e k t (omega arith) ∙ or_to lev m e k t (omega arith) le

compare_to : (lev m : Precedence) (e : Expr) (k : Ctx) (t : TokenClass) → rank m ≤ 6 → rank (binds t) ≤ budget m → give e (upto_compare lev k) t ≡ give e (upto lev m k) t
compare_to lev LCmp e k t h le = refl
compare_to lev m e k t h le = down_compare lev e k t (omega arith) ∙ and_to lev m e k t (omega arith) le

sum_to : (lev m : Precedence) (e : Expr) (k : Ctx) (t : TokenClass) → rank m ≤ 7 → rank (binds t) ≤ budget m → give e (upto_sum lev k) t ≡ give e (upto lev m k) t
sum_to lev LSum e k t h le = refl
sum_to lev m e k t h le = down_sum lev e k t (omega arith) ∙ compare_to lev m e k t (omega arith) le

term_to : (lev m : Precedence) (e : Expr) (k : Ctx) (t : TokenClass) → rank m ≤ 9 → rank (binds t) ≤ budget m → give e (upto_term lev k) t ≡ give e (upto lev m k) t
term_to lev LTerm e k t h le = refl
term_to lev LUnary e k t h le = refl
term_to lev m e k t h le = down_term lev e k t (omega arith) ∙ sum_to lev m e k t (omega arith) le

post_to : (lev m : Precedence) (e : Expr) (k : Ctx) (t : TokenClass) → rank (binds t) ≤ budget m → give e (upto lev LPost k) t ≡ give e (upto lev m k) t
post_to lev LPost e k t le = refl
post_to lev m e k t le = pass_post e (upto_term lev k) t (omega arith) ∙ term_to lev m e k t (omega arith) le

pub settle : (lev m j : Precedence) (e : Expr) (k : Ctx) (t : TokenClass) → rank m ≤ rank j → rank (binds t) ≤ budget m → give e (upto lev j k) t ≡ give e (upto lev m k) t
settle lev m LPost e k t h le = post_to lev m e k t le
settle lev m LUnary e k t h le = term_to lev m e k t h le
settle lev m LTerm e k t h le = term_to lev m e k t (omega arith) le
settle lev m LSum e k t h le = sum_to lev m e k t h le
settle lev m LCmp e k t h le = compare_to lev m e k t h le
settle lev m LNot e k t h le = and_to lev m e k t h le
settle lev m LAnd e k t h le = and_to lev m e k t (omega arith) le
settle lev m LOr e k t h le = or_to lev m e k t h le
settle lev m LExpr e k t h le = exprs_to lev m e k t h le
settle lev m LExprs e k t h le = exprs_to lev m e k t (omega arith) le
settle lev LEnd LEnd e k t h le = refl
settle lev m LEnd e k t h le = absurd (omega arith)

-- ---- what stands after

-- the next token binds at most so much
abbrev pub Binds : ℕ → List Kind → Type 0
Binds n [] = Unit {0}
Binds n (t ∷ ts) = rank (binds (class t)) ≤ n

abbrev pub is_string : TokenClass → Bool
is_string (t_string x) = true
is_string (t_format ps) = true
is_string (t_bad_format ps) = true
is_string t = false

-- How much a token after a tree of this precedence may bind, so that the tree is whole before it.
abbrev pub stops : Precedence → ℕ
stops LPost = 10
stops LUnary = 9
stops LTerm = 8
stops LSum = 7
stops LCmp = 5
stops LNot = 5
stops LAnd = 4
stops LOr = 3
stops LExpr = 1
stops l = 0

-- It is no string, and where a comma may have come before it, it begins no expression.
abbrev pub Quiet : Precedence → TokenClass → Type 0
Quiet LExprs t = begins t ≡ false
Quiet l t = is_string t ≡ false

abbrev pub Follows : Precedence → List Kind → Type 0
Follows l [] = Unit {0}
Follows l (t ∷ ts) = (rank (binds (class t)) ≤ stops l) × Quiet l (class t)

-- it binds at most so much, and is no string
abbrev pub After : ℕ → List Kind → Type 0
After n [] = Unit {0}
After n (t ∷ ts) = (rank (binds (class t)) ≤ n) × (is_string (class t) ≡ false)

-- a token after which no expression goes on, and which begins none
abbrev pub Ends : List Kind → Type 0
Ends [] = Unit {0}
Ends (t ∷ ts) = (rank (binds (class t)) ≤ 0) × (begins (class t) ≡ false)

pub quiet_string : (t : TokenClass) → begins t ≡ false → is_string t ≡ false
quiet_string (t_string x) h = absurd cc
quiet_string (t_format x) h = absurd cc
quiet_string (t_bad_format x) h = absurd cc
quiet_string t h = refl

pub after_binds : (n m : ℕ) (rest : List Kind) → n ≤ m → After n rest → Binds m rest
after_binds n m [] le b = tt
after_binds n m (t ∷ ts) le b = let h = b.0 in omega arith

pub after_more : (n m : ℕ) (rest : List Kind) → n ≤ m → After n rest → After m rest
after_more n m [] le b = tt
after_more n m (t ∷ ts) le b = (let h = b.0 in omega arith, b.1)

pub ends_after : (rest : List Kind) → Ends rest → After 0 rest
ends_after [] b = tt
ends_after (t ∷ ts) b = (b.0, quiet_string (class t) b.1)

-- after a tree that binds tighter than `exprs`
pub follows : (l : Precedence) (n : ℕ) (rest : List Kind) → 2 ≤ rank l → n ≤ stops l → After n rest → Follows l rest
follows l n [] two h b = tt
follows LEnd n (t ∷ ts) two h b = absurd (omega arith)
follows LExprs n (t ∷ ts) two h b = absurd (omega arith)
follows l n (t ∷ ts) two h b = (let lo = b.0 in omega arith, b.1)

pub after : (l : Precedence) (n : ℕ) (rest : List Kind) → 2 ≤ rank l → stops l ≤ n → Follows l rest → After n rest
after l n [] two h b = tt
after LEnd n (t ∷ ts) two h b = absurd (omega arith)
after LExprs n (t ∷ ts) two h b = absurd (omega arith)
after l n (t ∷ ts) two h b = (let lo = b.0 in omega arith, b.1)

-- what ends may follow anything
pub follows_end : (l : Precedence) (rest : List Kind) → Ends rest → Follows l rest
follows_end l [] b = tt
follows_end LExprs (t ∷ ts) b = (b.0, b.1)
follows_end l (t ∷ ts) b = (let lo = b.0 in omega arith, quiet_string (class t) b.1)

pub ends : (rest : List Kind) → Follows LExprs rest → Ends rest
ends [] b = tt
ends (t ∷ ts) b = b

pub stops_at : (l : Precedence) (n : ℕ) → n ≤ rank l → 3 ≤ n → n ≤ 5 → (n ≤ stops l)
stops_at LOr n h a b = omega arith
stops_at LAnd n h a b = omega arith
stops_at LNot n h a b = omega arith
stops_at LCmp n h a b = omega arith
stops_at LSum n h a b = omega arith
stops_at LTerm n h a b = omega arith
stops_at LUnary n h a b = omega arith
stops_at LPost n h a b = omega arith
stops_at l n h a b = absurd (omega arith)

pub stops_high : (l : Precedence) → 7 ≤ rank l → rank l ≤ stops l
stops_high LSum h = omega arith
stops_high LTerm h = omega arith
stops_high LUnary h = omega arith
stops_high LPost h = omega arith
stops_high l h = absurd (omega arith)

pub stops_expr : (l : Precedence) → 2 ≤ rank l → 1 ≤ stops l
stops_expr LEnd h = absurd (omega arith)
stops_expr LExprs h = absurd (omega arith)
stops_expr l h = omega arith

-- two states that step alike run alike
pub alike : (s u : State) (rest : List Kind) → ((t : Kind) (ts : List Kind) → rest ≡ t ∷ ts → step s (class t) ≡ step u (class t)) → run s rest ≡ run u rest
alike s u [] same = refl
alike s u (t ∷ ts) same = ap (λ (o : Out). outcome o t ts) (same t ts refl)

pub settles : (lev m j : Precedence) (e : Expr) (k : Ctx) (rest : List Kind) → rank m ≤ rank j → Binds (budget m) rest → run (Have e (upto lev j k)) rest ≡ run (Have e (upto lev m k)) rest
settles lev m j e k [] h le = refl
settles lev m j e k (t ∷ ts) h le = ap (λ (o : Out). outcome o t ts) (settle lev m j e k (class t) h le)
