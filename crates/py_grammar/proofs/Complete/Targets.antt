-- What each goal asks for is read in front of a token that closes it.
use Rattle.std.proofs.Common.{◌≡◌, ◌≤◌, Bool, true, false, cond, List, ◌∷◌, refl, sym, ap, ◌∙◌, arith}
use Rattle.py_token.specs.declared.token.Mark.TheVariants as mark
use Rattle.py_syntax.specs.Tree.{Expr, name, tuple, list, paren, index, Exprs, no_exprs, exprs}
use Rattle.py_syntax.specs.Kinds.{Kind, Sign}
use Rattle.py_syntax.specs.Tokens.{tokens, more}
use Rattle.py_syntax.specs.Normal.{Precedence, LEnd, LExprs, LExpr, LOr, LAnd, LNot, LCmp, LSum, LTerm, LUnary, LPost, rank, precedence, At, Normal, Each, is_target, are_targets}
use Rattle.py_grammar.specs.TokenClasses.{TokenClass, t_comma, binds, begins}
use Rattle.py_grammar.specs.Machine.{snoc, Goal, any, one, target, targets, Outside, Want, Have, AfterTarget, Out, Next, Stuck, Left, upto, begin, leave, start, class, Leaves, run}
use Rattle.py_grammar.proofs.Sound.Spelled.{outcome}
use Rattle.py_grammar.proofs.Complete.Passes.{pass_post, Follows, stops, follows, is_string}
use Rattle.py_grammar.proofs.Complete.Opens.{begin_alike, after_target}
use Rattle.py_grammar.proofs.Complete.Enclosed.{join_exprs, join_snoc, join_none, join_one, read_item, read_all}
use Rattle.py_grammar.proofs.Complete.{back}
use Rattle.py_grammar.proofs.Least.Finish.{Closes}
use Rattle.py_grammar.proofs.Least.Grows.{and_left, and_right}

-- any normal expression
pub reads_any : (e : Expr) → Normal e → (t : Kind) (rest : List Kind) → Closes any (class t) → run (start any) (tokens e (t ∷ rest)) ≡ Leaves e (t ∷ rest)
reads_any e n t rest c = read_all e (back e n) (Outside any) (t ∷ rest) (c.0, c.1)

-- one that is no list with commas
pub reads_one : (e : Expr) → Normal e → At LExpr e → (t : Kind) (rest : List Kind) → Closes one (class t) → run (start one) (tokens e (t ∷ rest)) ≡ Leaves e (t ∷ rest)
reads_one e n a t rest c = read_item e a (back e n) (Outside one) (t ∷ rest) c

-- ---- targets

is_post : (l : Precedence) → 10 ≤ rank l → l ≡ LPost
is_post LPost h = refl
is_post l h = absurd (omega arith)

target_post : (e : Expr) → is_target e ≡ true → At LExpr e → precedence e ≡ LPost
target_post (name x) h a = refl
target_post (index f e) h a = refl
target_post (paren e) h a = refl
target_post (tuple no_exprs c) h a = refl
target_post (tuple (exprs e es) c) h a = absurd (omega arith)
target_post (list es c) h a = refl
target_post e h a = absurd cc

-- an item of a target, up to the token after it
read_target : (e : Expr) → Normal e → is_target e ≡ true → At LExpr e → (g : Goal) (t : Kind) (rest : List Kind) → rank (binds (class t)) ≤ 9 → is_string (class t) ≡ false → run (Want LPost (Outside g)) (tokens e (t ∷ rest)) ≡ outcome (leave e g (class t)) t rest
read_target e n is a g t rest b q =
    let post = target_post e is a in
    let high : rank (precedence e) ≡ 10 = ap rank post in
    let ready : Follows (precedence e) (t ∷ rest) = follows (precedence e) 9 (t ∷ rest) (omega arith) (ten (precedence e) post) (b, q) in
    back e n LPost (Outside g) (t ∷ rest) (omega arith) (omega arith) ready
    ∙ ap (λ (l : Precedence). run (Have e (upto LPost l (Outside g))) (t ∷ rest)) post
    ∙ ap (λ (o : Out). outcome o t rest) (pass_post e (Outside g) (class t) b)
  where
    ten : (l : Precedence) → l ≡ LPost → 9 ≤ stops l
    ten LPost h = omega arith
    ten LEnd h = absurd cc
    ten LExprs h = absurd cc
    ten LExpr h = absurd cc
    ten LOr h = absurd cc
    ten LAnd h = absurd cc
    ten LNot h = absurd cc
    ten LCmp h = absurd cc
    ten LSum h = absurd cc
    ten LTerm h = absurd cc
    ten LUnary h = absurd cc

leave_target : (e : Expr) (t : TokenClass) → (t ≡ t_comma → ⊥) → is_target e ≡ true → leave e target t ≡ Left e
leave_target e t_comma h is = absurd (h refl)
leave_target e t h is = ap (λ (b : Bool). cond b (Left e) Stuck) is

leave_targets : (f : Expr) (es : Exprs) (e : Expr) (t : TokenClass) → (t ≡ t_comma → ⊥) → is_target e ≡ true → leave e (targets f es) t ≡ Left (tuple (exprs f (snoc es e)) false)
leave_targets f es e t_comma h is = absurd (h refl)
leave_targets f es e t h is = ap (λ (b : Bool). cond b (Left (tuple (exprs f (snoc es e)) false)) Stuck) is

target_comma : (f : Expr) (es : Exprs) (t : Kind) (rest : List Kind) → begins (class t) ≡ false → run (AfterTarget f es) (t ∷ rest) ≡ Leaves (tuple (exprs f es) true) (t ∷ rest)
target_comma f es t rest h = ap (λ (b : Bool). outcome (cond b (begin LPost (Outside (targets f es)) (class t)) (Left (tuple (exprs f es) true))) t rest) h

-- the items after a comma
more_targets : (es : Exprs) → Each es → are_targets es ≡ true → (c : Bool) (g f : Expr) (ds : Exprs) (t : Kind) (rest : List Kind) → Normal g → is_target g ≡ true → At LExpr g → Closes target (class t) → run (Want LPost (Outside (targets f ds))) (tokens g (more es c (t ∷ rest))) ≡ Leaves (tuple (exprs f (join_exprs (snoc ds g) es)) c) (t ∷ rest)
more_targets no_exprs each all true g f ds t rest n is a c =
    read_target g n is a (targets f ds) (Sign mark.Comma) (t ∷ rest) (omega arith) refl
    ∙ ap (λ (b : Bool). outcome (cond b (Next (AfterTarget f (snoc ds g))) Stuck) (Sign mark.Comma) (t ∷ rest)) is
    ∙ target_comma f (snoc ds g) t rest c.1
    ∙ ap (λ (x : Exprs). Leaves (tuple (exprs f x) true) (t ∷ rest)) (sym (join_none (snoc ds g)))
more_targets no_exprs each all false g f ds t rest n is a c =
    read_target g n is a (targets f ds) t rest c.0 c.2
    ∙ ap (λ (o : Out). outcome o t rest) (leave_targets f ds g (class t) c.3 is)
    ∙ ap (λ (x : Exprs). Leaves (tuple (exprs f x) false) (t ∷ rest)) (sym (join_none (snoc ds g)))
more_targets (exprs e es) each all comma g f ds t rest n is a c =
    read_target g n is a (targets f ds) (Sign mark.Comma) (tokens e (more es comma (t ∷ rest))) (omega arith) refl
    ∙ ap (λ (b : Bool). outcome (cond b (Next (AfterTarget f (snoc ds g))) Stuck) (Sign mark.Comma) (tokens e (more es comma (t ∷ rest)))) is
    ∙ begin_alike (AfterTarget f (snoc ds g)) (Want LPost (Outside (targets f (snoc ds g)))) e (more es comma (t ∷ rest)) each.1 (after_target f (snoc ds g))
    ∙ more_targets es each.2 (and_right (is_target e) (are_targets es) all) comma e f (snoc ds g) t rest each.1 (and_left (is_target e) (are_targets es) all) each.0 c
    ∙ ap (λ (x : Exprs). Leaves (tuple (exprs f x) comma) (t ∷ rest)) (join_snoc (snoc ds g) e es)

-- the first item, and what stands after it
first_target : (e : Expr) → Normal e → is_target e ≡ true → At LExpr e → (ts : List Kind) → run (start target) (tokens e (Sign mark.Comma ∷ ts)) ≡ run (AfterTarget e no_exprs) ts
first_target e n is a ts =
    read_target e n is a target (Sign mark.Comma) ts (omega arith) refl
    ∙ ap (λ (b : Bool). outcome (cond b (Next (AfterTarget e no_exprs)) Stuck) (Sign mark.Comma) ts) is

single_target : (e : Expr) → Normal e → is_target e ≡ true → At LExpr e → (t : Kind) (rest : List Kind) → Closes target (class t) → run (start target) (tokens e (t ∷ rest)) ≡ Leaves e (t ∷ rest)
single_target e n is a t rest c = read_target e n is a target t rest c.0 c.2 ∙ ap (λ (o : Out). outcome o t rest) (leave_target e (class t) c.3 is)

-- what a `for` assigns to
pub reads_target : (e : Expr) → Normal e → is_target e ≡ true → (t : Kind) (rest : List Kind) → Closes target (class t) → run (start target) (tokens e (t ∷ rest)) ≡ Leaves e (t ∷ rest)
reads_target (tuple (exprs e no_exprs) comma) n is t rest c =
    ap (λ (x : Bool). run (start target) (tokens (tuple (exprs e no_exprs) x) (t ∷ rest))) n.2
    ∙ first_target e n.1 (and_left (is_target e) true is) n.0 (t ∷ rest)
    ∙ target_comma e no_exprs t rest c.1
    ∙ ap (λ (x : Bool). Leaves (tuple (exprs e no_exprs) x) (t ∷ rest)) (sym n.2)
reads_target (tuple (exprs e (exprs f es)) comma) n is t rest c =
    let all = and_right (is_target e) (are_targets (exprs f es)) is in
    first_target e n.1 (and_left (is_target e) (are_targets (exprs f es)) is) n.0 (tokens f (more es comma (t ∷ rest)))
    ∙ begin_alike (AfterTarget e no_exprs) (Want LPost (Outside (targets e no_exprs))) f (more es comma (t ∷ rest)) n.3 (after_target e no_exprs)
    ∙ more_targets es n.4 (and_right (is_target f) (are_targets es) all) comma f e no_exprs t rest n.3 (and_left (is_target f) (are_targets es) all) n.2 c
    ∙ ap (λ (x : Exprs). Leaves (tuple (exprs e x) comma) (t ∷ rest)) (join_one f es)
reads_target (tuple no_exprs comma) n is t rest c = single_target (tuple no_exprs comma) n is (omega arith) t rest c
reads_target (name x) n is t rest c = single_target (name x) n is (omega arith) t rest c
reads_target (index f e) n is t rest c = single_target (index f e) n is (omega arith) t rest c
reads_target (paren e) n is t rest c = single_target (paren e) n is (omega arith) t rest c
reads_target (list es comma) n is t rest c = single_target (list es comma) n is (omega arith) t rest c
reads_target e n is t rest c = absurd cc
