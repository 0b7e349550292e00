-- Operators: the tokens of a normal tree lead the machine to that tree, where those of its parts do.
use Rattle.std.proofs.Common.{◌≡◌, ℕ, ◌≤◌, ◌<◌, Bool, true, false, cond, List, [], ◌∷◌, refl, sym, ap, ◌∙◌, arith}
use Rattle.py_operator.specs.declared.operator.BinOp.{BinOp}
use Rattle.py_operator.specs.declared.operator.BinOp.TheVariants as op_
use Rattle.py_operator.specs.declared.operator.CmpOp.{CmpOp}
use Rattle.py_operator.specs.declared.operator.CmpOp.TheVariants as cmp_
use Rattle.py_token.specs.declared.token.Keyword.TheVariants as word
use Rattle.py_token.specs.declared.token.Mark.TheVariants as mark
use Rattle.py_syntax.specs.declared.expr.Comparison.{Comparison}
use Rattle.py_syntax.specs.declared.expr.Comparison.TheVariants.{Op, Is, IsNot}
use Rattle.py_syntax.specs.declared.expr.Sign.{Sign as UnarySign}
use Rattle.py_syntax.specs.declared.expr.Sign.TheVariants as sign_
use Rattle.py_syntax.specs.Tree.{Expr, none, bool, tuple, not', and, or, unary, binary, compare, no_exprs, exprs, Links, no_links, link}
use Rattle.py_syntax.specs.Tree as tree_
use Rattle.py_syntax.specs.Kinds.{Kind, Word, Sign}
use Rattle.py_syntax.specs.Tokens.{sign_mark, comparison, tokens, links}
use Rattle.py_syntax.specs.Normal.{Precedence, LEnd, LExprs, LExpr, LOr, LAnd, LNot, LCmp, LSum, LTerm, LUnary, rank, op_precedence, right_precedence, precedence, At, Compared, NormalLinks}
use Rattle.py_grammar.specs.TokenClasses.{BinaryOperator, b_or, b_and, b_op, TokenClass, t_operator, operator_precedence, operator_right, joined, operator_kind, binds}
use Rattle.py_grammar.specs.Machine.{at_most, snoc_link, cond_test, cond_else, first, right, not_of, compare_first, compare_rest, unary_of, Ctx, on, Want, Have, Linked, Out, Next, Stuck, upto_exprs, upto_cond, upto_or, upto_and, upto_compare, upto_sum, upto_term, upto, give, class, run}
use Rattle.std.proofs.lemmas.Bool.{le-leb, eq-eqb}
use Rattle.py_grammar.proofs.Sound.Valid.{operator_rank}
use Rattle.py_grammar.proofs.Sound.Spelled.{outcome}
use Rattle.py_grammar.proofs.Complete.Passes.{pass_compare, pass_linked, give_right, give_compared, budget, After, Follows, stops, after_binds, after_more, follows, after, stops_at, stops_high, stops_expr, settles, is_string}

-- From a place where a tree is to begin, over its tokens, to the place where it is read.
abbrev pub Back : Expr → Type 0
Back e = (lev : Precedence) (k : Ctx) (rest : List Kind) → 1 ≤ rank lev → rank lev ≤ rank (precedence e) → Follows (precedence e) rest → run (Want lev k) (tokens e rest) ≡ run (Have e (upto lev (precedence e) k)) rest

pub level_low : (e : Expr) → 1 ≤ rank (precedence e)
level_low (tuple no_exprs c) = omega arith
level_low (tuple (exprs e es) c) = omega arith
level_low (binary op_.Add a b) = omega arith
level_low (binary op_.Sub a b) = omega arith
level_low (binary op_.Mul a b) = omega arith
level_low (binary op_.Floor a b) = omega arith
level_low (binary op_.Mod a b) = omega arith
level_low e = omega arith

-- an operand that stands where this precedence is asked for, in front of a token that goes down to it
pub read_part : (e : Expr) → Back e → (l : Precedence) → 2 ≤ rank l → At l e → (k : Ctx) (rest : List Kind) (n : ℕ) → After n rest → n ≤ stops (precedence e) → (m : Precedence) → rank m ≤ rank (precedence e) → n ≤ budget m → run (Want l k) (tokens e rest) ≡ run (Have e (upto l m k)) rest
read_part e ih l two a k rest n b small m le r =
    ih l k rest (omega arith) a (follows (precedence e) n rest (omega arith) small b)
    ∙ settles l m (precedence e) e k rest le (after_binds n (budget m) rest r b)

-- ---- signs and `not`

have_not : (e : Expr) (k : Ctx) (rest : List Kind) → run (Have e (on not_of k)) rest ≡ run (Have (not' e) k) rest
have_not e k [] = refl
have_not e k (t ∷ ts) = refl

pub back_not : (e : Expr) → At LNot e → Back e → Back (not' e)
back_not e a ih lev k rest low h f =
    let at : at_most lev LNot ≡ true = le-leb _ _ h in
    let shift : run (Want lev k) (Word word.Not ∷ tokens e rest) ≡ run (Want LNot (on not_of (upto_and lev k))) (tokens e rest) = ap (λ (c : Bool). outcome (cond c (Next (Want LNot (on not_of (upto_and lev k)))) Stuck) (Word word.Not) (tokens e rest)) at in
    let b = after LNot 5 rest (omega arith) (omega arith) f in
    shift
    ∙ read_part e ih LNot (omega arith) a (on not_of (upto_and lev k)) rest 5 b (stops_at (precedence e) 5 a (omega arith) (omega arith)) LNot a (omega arith)
    ∙ have_not e (upto_and lev k) rest

have_unary : (s : UnarySign) (e : Expr) (k : Ctx) (rest : List Kind) → run (Have e (on (unary_of s) k)) rest ≡ run (Have (unary s e) k) rest
have_unary s e k [] = refl
have_unary s e k (t ∷ ts) = refl

sign_shift : (s : UnarySign) (lev : Precedence) (k : Ctx) (ts : List Kind) → rank lev ≤ 9 → run (Want lev k) (Sign (sign_mark s) ∷ ts) ≡ run (Want LUnary (on (unary_of s) (upto_term lev k))) ts
sign_shift sign_.Minus lev k ts h = let at : at_most lev LUnary ≡ true = le-leb _ _ h in ap (λ (c : Bool). outcome (cond c (Next (Want LUnary (on (unary_of sign_.Minus) (upto_term lev k)))) Stuck) (Sign mark.Minus) ts) at
sign_shift sign_.Plus lev k ts h = let at : at_most lev LUnary ≡ true = le-leb _ _ h in ap (λ (c : Bool). outcome (cond c (Next (Want LUnary (on (unary_of sign_.Plus) (upto_term lev k)))) Stuck) (Sign mark.Plus) ts) at

pub back_unary : (s : UnarySign) (e : Expr) → At LUnary e → Back e → Back (unary s e)
back_unary s e a ih lev k rest low h f =
    let b = after LUnary 9 rest (omega arith) (omega arith) f in
    let high = stops_high (precedence e) (omega arith) in
    sign_shift s lev k (tokens e rest) h
    ∙ read_part e ih LUnary (omega arith) a (on (unary_of s) (upto_term lev k)) rest 9 b (omega arith) LUnary a (omega arith)
    ∙ have_unary s e (upto_term lev k) rest

-- ---- operators

operator_class : (j : BinaryOperator) → class (operator_kind j) ≡ t_operator j
operator_class b_or = refl
operator_class b_and = refl
operator_class (b_op op_.Add) = refl
operator_class (b_op op_.Sub) = refl
operator_class (b_op op_.Mul) = refl
operator_class (b_op op_.Floor) = refl
operator_class (b_op op_.Mod) = refl

operator_budget : (j : BinaryOperator) → budget (operator_precedence j) ≡ rank (operator_precedence j)
operator_budget b_or = refl
operator_budget b_and = refl
operator_budget (b_op op_.Add) = refl
operator_budget (b_op op_.Sub) = refl
operator_budget (b_op op_.Mul) = refl
operator_budget (b_op op_.Floor) = refl
operator_budget (b_op op_.Mod) = refl

operator_sides : (j : BinaryOperator) → (rank (operator_precedence j) < rank (operator_right j)) × ((k : Ctx) → upto (operator_right j) (operator_precedence j) k ≡ k)
operator_sides b_or = (omega arith, λ k. refl)
operator_sides b_and = (omega arith, λ k. refl)
operator_sides (b_op op_.Add) = (omega arith, λ k. refl)
operator_sides (b_op op_.Sub) = (omega arith, λ k. refl)
operator_sides (b_op op_.Mul) = (omega arith, λ k. refl)
operator_sides (b_op op_.Floor) = (omega arith, λ k. refl)
operator_sides (b_op op_.Mod) = (omega arith, λ k. refl)

-- what stands under the frame of an operator's left operand
abbrev pub under_operator : BinaryOperator → Precedence → Ctx → Ctx
under_operator b_or lev k = upto_cond lev k
under_operator b_and lev k = upto_or lev k
under_operator (b_op op_.Add) lev k = upto_compare lev k
under_operator (b_op op_.Sub) lev k = upto_compare lev k
under_operator (b_op op_.Mul) lev k = upto_sum lev k
under_operator (b_op op_.Floor) lev k = upto_sum lev k
under_operator (b_op op_.Mod) lev k = upto_sum lev k

operator_open : (j : BinaryOperator) (lev : Precedence) (k : Ctx) → rank lev ≤ rank (operator_precedence j) → upto lev (operator_precedence j) k ≡ on (first (operator_precedence j)) (under_operator j lev k)
operator_open b_or lev k h = let at : at_most lev LOr ≡ true = le-leb _ _ h in ap (λ (c : Bool). cond c (on (first LOr) (upto_cond lev k)) k) at
operator_open b_and lev k h = let at : at_most lev LAnd ≡ true = le-leb _ _ h in ap (λ (c : Bool). cond c (on (first LAnd) (upto_or lev k)) k) at
operator_open (b_op op_.Add) lev k h = let at : at_most lev LSum ≡ true = le-leb _ _ h in ap (λ (c : Bool). cond c (on (first LSum) (upto_compare lev k)) k) at
operator_open (b_op op_.Sub) lev k h = let at : at_most lev LSum ≡ true = le-leb _ _ h in ap (λ (c : Bool). cond c (on (first LSum) (upto_compare lev k)) k) at
operator_open (b_op op_.Mul) lev k h = let at : at_most lev LTerm ≡ true = le-leb _ _ h in ap (λ (c : Bool). cond c (on (first LTerm) (upto_sum lev k)) k) at
operator_open (b_op op_.Floor) lev k h = let at : at_most lev LTerm ≡ true = le-leb _ _ h in ap (λ (c : Bool). cond c (on (first LTerm) (upto_sum lev k)) k) at
operator_open (b_op op_.Mod) lev k h = let at : at_most lev LTerm ≡ true = le-leb _ _ h in ap (λ (c : Bool). cond c (on (first LTerm) (upto_sum lev k)) k) at

operator_taken : (j : BinaryOperator) (a : Expr) (k : Ctx) → give a (on (first (operator_precedence j)) k) (class (operator_kind j)) ≡ Next (Want (operator_right j) (on (right j a) k))
operator_taken j a k = ap (give a (on (first (operator_precedence j)) k)) (operator_class j) ∙ ap (λ (c : Bool). cond c (Next (Want (operator_right j) (on (right j a) k))) (give a k (t_operator j))) (eq-eqb (rank (operator_precedence j)) (rank (operator_precedence j)) refl)

operator_stops : (j : BinaryOperator) (l : Precedence) → rank (operator_precedence j) ≤ rank l → rank (operator_precedence j) ≤ stops l
operator_stops b_or l h = stops_at l 3 h (omega arith) (omega arith)
operator_stops b_and l h = stops_at l 4 h (omega arith) (omega arith)
operator_stops (b_op op_.Add) l h = let x = stops_high l h in omega arith
operator_stops (b_op op_.Sub) l h = let x = stops_high l h in omega arith
operator_stops (b_op op_.Mul) l h = let x = stops_high l (omega arith) in omega arith
operator_stops (b_op op_.Floor) l h = let x = stops_high l (omega arith) in omega arith
operator_stops (b_op op_.Mod) l h = let x = stops_high l (omega arith) in omega arith

operator_after : (j : BinaryOperator) (ts : List Kind) → After (rank (operator_precedence j)) (operator_kind j ∷ ts)
operator_after j ts = let is = operator_class j in (let x : rank (binds (class (operator_kind j))) ≡ rank (operator_precedence j) = ap (λ (r : TokenClass). rank (binds r)) is in omega arith, ap is_string is)

have_right : (j : BinaryOperator) (a e : Expr) (k : Ctx) (rest : List Kind) → run (Have e (on (right j a) k)) rest ≡ run (Have (joined j a e) (on (first (operator_precedence j)) k)) rest
have_right j a e k [] = refl
have_right j a e k (t ∷ ts) = ap (λ (o : Out). outcome o t ts) (give_right j a e k (class t))

pub read_joined : (j : BinaryOperator) (a b : Expr) → At (operator_precedence j) a → At (operator_right j) b → Back a → Back b → (lev : Precedence) (k : Ctx) (rest : List Kind) → 1 ≤ rank lev → rank lev ≤ rank (operator_precedence j) → After (rank (operator_precedence j)) rest → run (Want lev k) (tokens a (operator_kind j ∷ tokens b rest)) ≡ run (Have (joined j a b) (upto lev (operator_precedence j) k)) rest
read_joined j a b al bl iha ihb lev k rest low h f =
    let J = operator_precedence j in
    let K = under_operator j lev k in
    let ts = tokens b rest in
    let ranks = operator_rank j in
    let three : 3 ≤ rank J = ranks.0 in
    let is_budget = operator_budget j in
    let sides = operator_sides j in
    let less : rank J < rank (operator_right j) = sides.0 in
    let open-is = operator_open j lev k h in
    let front = operator_after j ts in
    let left = iha lev k (operator_kind j ∷ ts) low (omega arith) (follows (precedence a) (rank J) (operator_kind j ∷ ts) (omega arith) (operator_stops j (precedence a) al) front) in
    let down = settles lev J (precedence a) a k (operator_kind j ∷ ts) al (after_binds (rank J) (budget J) (operator_kind j ∷ ts) (omega arith) front) in
    let taken : run (Have a (upto lev J k)) (operator_kind j ∷ ts) ≡ run (Want (operator_right j) (on (right j a) K)) ts = ap (λ (c : Ctx). run (Have a c) (operator_kind j ∷ ts)) open-is ∙ ap (λ (o : Out). outcome o (operator_kind j) ts) (operator_taken j a K) in
    let other = read_part b ihb (operator_right j) (omega arith) bl (on (right j a) K) rest (rank J) f (operator_stops j (precedence b) (omega arith)) J (omega arith) (omega arith) in
    left ∙ down ∙ taken ∙ other ∙ ap (λ (c : Ctx). run (Have b c) rest) (sides.1 (on (right j a) K)) ∙ have_right j a b K rest ∙ ap (λ (c : Ctx). run (Have (joined j a b) c) rest) (sym open-is)

pub back_or : (a b : Expr) → At LOr a → At LAnd b → Back a → Back b → Back (or a b)
back_or a b al bl iha ihb lev k rest low h f = read_joined b_or a b al bl iha ihb lev k rest low h (after LOr 3 rest (omega arith) (omega arith) f)

pub back_and : (a b : Expr) → At LAnd a → At LNot b → Back a → Back b → Back (and a b)
back_and a b al bl iha ihb lev k rest low h f = read_joined b_and a b al bl iha ihb lev k rest low h (after LAnd 4 rest (omega arith) (omega arith) f)

op_after : (op : BinOp) (rest : List Kind) → Follows (op_precedence op) rest → After (rank (op_precedence op)) rest
op_after op_.Add rest f = after LSum 7 rest (omega arith) (omega arith) f
op_after op_.Sub rest f = after LSum 7 rest (omega arith) (omega arith) f
op_after op_.Mul rest f = after LTerm 8 rest (omega arith) (omega arith) f
op_after op_.Floor rest f = after LTerm 8 rest (omega arith) (omega arith) f
op_after op_.Mod rest f = after LTerm 8 rest (omega arith) (omega arith) f

pub back_binary : (op : BinOp) (a b : Expr) → At (op_precedence op) a → At (right_precedence op) b → Back a → Back b → Back (binary op a b)
back_binary op a b al bl iha ihb lev k rest low h f = read_joined (b_op op) a b al bl iha ihb lev k rest low h (op_after op rest f)

-- ---- comparisons

pub join_links : Links → Links → Links
join_links no_links ls = ls
join_links (link op e ds) ls = link op e (join_links ds ls)

join_links_snoc : (ds : Links) (op : Comparison) (e : Expr) (ls : Links) → join_links (snoc_link ds op e) ls ≡ join_links ds (link op e ls)
unfolding join_links
join_links_snoc no_links op e ls = refl
join_links_snoc (link p d ds) op e ls = ap (λ (x : Links). link p d x) (join_links_snoc ds op e ls)

join_links_none : (ds : Links) → join_links ds no_links ≡ ds
unfolding join_links
join_links_none no_links = refl
join_links_none (link p d ds) = ap (λ (x : Links). link p d x) (join_links_none ds)

abbrev pub AllBackLinks : Links → Type 0
AllBackLinks no_links = Unit {0}
AllBackLinks (link op e ls) = Back e × AllBackLinks ls

have_compared : (a : Expr) (ls : Links) (op : CmpOp) (e : Expr) (k : Ctx) (rest : List Kind) → run (Have e (on (compare_rest a ls op) k)) rest ≡ run (Linked a (snoc_link ls (Op op) e) k) rest
have_compared a ls op e k [] = refl
have_compared a ls op e k (t ∷ ts) = ap (λ (o : Out). outcome o t ts) (give_compared a ls op e k (class t))

have_linked : (a : Expr) (ls : Links) (k : Ctx) (rest : List Kind) → After 5 rest → run (Linked a ls k) rest ≡ run (Have (compare a ls) k) rest
have_linked a ls k [] b = refl
have_linked a ls k (t ∷ ts) b = ap (λ (o : Out). outcome o t ts) (pass_linked a ls k (class t) b.0)

links_after : (ls : Links) (rest : List Kind) → After 5 rest → After 6 (links ls rest)
links_after no_links rest b = after_more 5 6 rest (omega arith) b
links_after (link (Op cmp_.Eq) e ls) rest b = (omega arith, refl)
links_after (link (Op op) e ls) rest b = (omega arith, refl)
links_after (link Is e ls) rest b = (omega arith, refl)
links_after (link IsNot e ls) rest b = (omega arith, refl)

stops_sum : (l : Precedence) → 7 ≤ rank l → 6 ≤ stops l
stops_sum l h = let x = stops_high l h in omega arith

-- an operand of a comparison, from its begin to the place after it
read_operand : (e : Expr) → At LSum e → Back e → (a : Expr) (ds : Links) (op : CmpOp) (k : Ctx) (rest : List Kind) → After 6 rest → run (Want LSum (on (compare_rest a ds op) k)) (tokens e rest) ≡ run (Linked a (snoc_link ds (Op op) e) k) rest
read_operand e al ih a ds op k rest b = read_part e ih LSum (omega arith) al (on (compare_rest a ds op) k) rest 6 b (stops_sum (precedence e) al) LCmp (omega arith) (omega arith) ∙ have_compared a ds op e k rest

-- one comparison of a chain
read_link : (op : Comparison) (e : Expr) → Compared op e → Back e → (a : Expr) (ds : Links) (k : Ctx) (rest : List Kind) → After 6 rest → run (Linked a ds k) (comparison op (tokens e rest)) ≡ run (Linked a (snoc_link ds op e) k) rest
read_link (Op cmp_.NotIn) e c ih a ds k rest b = read_operand e c ih a ds cmp_.NotIn k rest b
read_link (Op op) e c ih a ds k rest b = read_operand e c ih a ds _ k rest b
read_link Is none c ih a ds k rest b = refl
read_link Is (bool true) c ih a ds k rest b = refl
read_link Is (bool false) c ih a ds k rest b = refl
read_link Is e c ih a ds k rest b = absurd c
read_link IsNot none c ih a ds k rest b = refl
read_link IsNot (bool true) c ih a ds k rest b = refl
read_link IsNot (bool false) c ih a ds k rest b = refl
read_link IsNot e c ih a ds k rest b = absurd c

read_chain : (ls : Links) → NormalLinks ls → AllBackLinks ls → (a : Expr) (ds : Links) (k : Ctx) (rest : List Kind) → After 5 rest → run (Linked a ds k) (links ls rest) ≡ run (Linked a (join_links ds ls) k) rest
read_chain no_links n ih a ds k rest b = ap (λ (x : Links). run (Linked a x k) rest) (sym (join_links_none ds))
read_chain (link op e ls) n ih a ds k rest b =
    read_link op e n.0 ih.0 a ds k (links ls rest) (links_after ls rest b)
    ∙ read_chain ls n.2 ih.1 a (snoc_link ds op e) k rest b
    ∙ ap (λ (x : Links). run (Linked a x k) rest) (join_links_snoc ds op e ls)

chain_begins : (a : Expr) (op : Comparison) (k : Ctx) (ts : List Kind) → run (Have a (on compare_first k)) (comparison op ts) ≡ run (Linked a no_links k) (comparison op ts)
chain_begins a (Op cmp_.Eq) k ts = refl
chain_begins a (Op op) k ts = refl
chain_begins a Is k ts = refl
chain_begins a IsNot k ts = refl

compare_after : (op : Comparison) (ts : List Kind) → After 6 (comparison op ts)
compare_after (Op cmp_.Eq) ts = (omega arith, refl)
compare_after (Op op) ts = (omega arith, refl)
compare_after Is ts = (omega arith, refl)
compare_after IsNot ts = (omega arith, refl)

pub back_compare : (a : Expr) (op : Comparison) (e : Expr) (ls : Links) → At LSum a → NormalLinks (link op e ls) → Back a → AllBackLinks (link op e ls) → Back (compare a (link op e ls))
unfolding join_links
back_compare a op e ls al n iha ihs lev k rest low h f =
    let at : at_most lev LCmp ≡ true = le-leb _ _ h in
    let K = upto_and lev k in
    let open-is : upto lev LCmp k ≡ on compare_first K = ap (λ (c : Bool). cond c (on compare_first K) k) at in
    let ts = tokens e (links ls rest) in
    let b = after LCmp 5 rest (omega arith) (omega arith) f in
    let left = iha lev k (comparison op ts) low (omega arith) (follows (precedence a) 6 (comparison op ts) (omega arith) (stops_sum (precedence a) al) (compare_after op ts)) in
    let down = settles lev LCmp (precedence a) a k (comparison op ts) (omega arith) (after_binds 6 6 (comparison op ts) (omega arith) (compare_after op ts)) in
    left ∙ down
    ∙ ap (λ (c : Ctx). run (Have a c) (comparison op ts)) open-is
    ∙ chain_begins a op K ts
    ∙ read_chain (link op e ls) n ihs a no_links K rest b
    ∙ have_linked a (link op e ls) K rest b
    ∙ up rest b
    ∙ ap (λ (c : Ctx). run (Have (compare a (link op e ls)) c) rest) (sym open-is)
  where
    up : (rest : List Kind) → After 5 rest → run (Have (compare a (link op e ls)) (upto_and lev k)) rest ≡ run (Have (compare a (link op e ls)) (on compare_first (upto_and lev k))) rest
    up [] b = refl
    up (t ∷ ts) b = ap (λ (o : Out). outcome o t ts) (sym (pass_compare (compare a (link op e ls)) (upto_and lev k) (class t) b.0))

-- ---- conditional expressions

have_cond : (b t o : Expr) (k : Ctx) (rest : List Kind) → run (Have o (on (cond_else b t) k)) rest ≡ run (Have (tree_.cond b t o) k) rest
have_cond b t o k [] = refl
have_cond b t o k (u ∷ us) = refl

if_taken : (lev : Precedence) (b : Expr) (k : Ctx) (ts : List Kind) → 1 ≤ rank lev → rank lev ≤ 2 → run (Have b (upto_or lev k)) (Word word.If ∷ ts) ≡ run (Want LOr (on (cond_test b) (upto_exprs lev k))) ts
if_taken LExprs b k ts low h = refl
if_taken LExpr b k ts low h = refl
if_taken lev b k ts low h = absurd (omega arith)

pub back_cond : (b t o : Expr) → At LOr b → At LOr t → At LExpr o → Back b → Back t → Back o → Back (tree_.cond b t o)
back_cond b t o bl tl ol ihb iht iho lev k rest low h f =
    let K = upto_exprs lev k in
    let two = tokens t (Word word.Else ∷ tokens o rest) in
    let three = tokens o rest in
    ihb lev k (Word word.If ∷ two) low (omega arith) (follows (precedence b) 2 (Word word.If ∷ two) (omega arith) (let x = stops_at (precedence b) 3 bl (omega arith) (omega arith) in omega arith) (omega arith, refl))
    ∙ settles lev LOr (precedence b) b k (Word word.If ∷ two) bl (omega arith)
    ∙ if_taken lev b k two low h
    ∙ read_part t iht LOr (omega arith) tl (on (cond_test b) K) (Word word.Else ∷ three) 0 (omega arith, refl) (omega arith) LEnd (omega arith) (omega arith)
    ∙ read_part o iho LExpr (omega arith) ol (on (cond_else b t) K) rest 1 (after LExpr 1 rest (omega arith) (omega arith) f) (stops_expr (precedence o) ol) LExpr ol (omega arith)
    ∙ have_cond b t o K rest
