-- Simple statements: the machine reads each of them up to the semicolon or the line end after it.
use Rattle.std.proofs.Common.{◌≡◌, ℕ, suc, Bool, true, false, cond, List, [], ◌∷◌, Option, Some, None, refl, sym, ap, ◌∙◌, arith}
use Rattle.py_operator.specs.declared.operator.BinOp.{BinOp}
use Rattle.py_operator.specs.declared.operator.BinOp.TheVariants as op_
use Rattle.py_token.specs.declared.token.Keyword.TheVariants as word
use Rattle.py_token.specs.declared.token.Mark.TheVariants as mark
use Rattle.py_syntax.specs.Tree.{Expr, Exprs, no_exprs, exprs}
use Rattle.py_syntax.specs.Tree.{StmtKind, expr, assign, aug_assign, pass, break, continue, return, raise, assert}
use Rattle.py_syntax.specs.Kinds.{Kind, Word, Sign, Newline}
use Rattle.py_syntax.specs.Tokens.{tokens}
use Rattle.py_syntax.specs.Normal.{Normal, is_target, is_place}
use Rattle.py_syntax.specs.Headers.{Marked, put, kinds_marked}
use Rattle.py_syntax.specs.Statements.{in_place_mark, target_tokens, option_tokens, assert_tokens, kind_tokens, IsOption, NormalExpr, NormalTargets}
use Rattle.py_grammar.specs.TokenClasses.{begins}
use Rattle.py_grammar.specs.Machine as expression
use Rattle.py_grammar.specs.Machine.{Goal, any, one, snoc, start, class}
use Rattle.py_grammar.proofs.Complete.Enclosed.{join_exprs, join_snoc, join_none, join_one}
use Rattle.py_statements.specs.Open.{SuiteStack}
use Rattle.py_statements.specs.Machine.{Continuation, value, augmented, leaving, asserted, reason, goal, wanted, reads, Place, Reading, Leaving, Span, State, at, begun_at, onward, simple_place, begin_simple, end_simple, assigned, left, after_value, resume, act, step}
use Rattle.py_parse.specs.Places.{Source, kinds_past, kind_past, run}
use Rattle.py_parse.proofs.Complete.OnLines.{plain, lines, after, past, past_parted, Spelt, any_spelt, one_spelt, on_line, ends_line, goal_of, begins_elsewhere}

-- ---- what is claimed of a simple statement

-- what may end one: a semicolon or the end of the line
abbrev pub stop : Bool → Kind
stop true = Sign mark.Semicolon
stop false = Newline

-- a token that may begin one
abbrev pub starts : Kind → Bool
starts t = elim (simple_place t) as (λ (w : Option Place). Bool) [ Some p ↦ true | None ↦ begins (class t) ]

-- One may begin in this state, and belongs to this block.
abbrev pub Begins : State → SuiteStack → Type 0
Begins s b = (t : Kind) (f l : ℕ) → starts t ≡ true → step s (plain t) f l ≡ begin_simple b t f l

-- the run goes on where the statement is whole
abbrev pub whole : Source → StmtKind → ℕ → ℕ → SuiteStack → Bool → List Marked → ℕ → Option State
whole src k g f b x rest q = after src (end_simple k (lines src g f q) b (stop x) (src.last q)) rest (suc q)

-- These tokens are read as this statement.
abbrev pub Told : List Kind → StmtKind → Type 0
Told ts k = (src : Source) (s : State) (b : SuiteStack) → Begins s b → (x : Bool) (rest : List Marked) (p : ℕ) → run src s (put ts (plain (stop x) ∷ rest)) p ≡ whole src k (src.first p) (src.first p) b x rest (kinds_past ts p)

abbrev pub SimpleBack : StmtKind → Type 0
SimpleBack k = (src : Source) (s : State) (b : SuiteStack) → Begins s b → (x : Bool) (rest : List Marked) (p : ℕ) → run src s (kind_tokens k (plain (stop x) ∷ rest)) p ≡ whole src k (src.first p) (src.first p) b x rest (kind_past k p)

pub kinds_put : (ts : List Kind) → kinds_marked (put ts []) ≡ ts
kinds_put [] = refl
kinds_put (t ∷ ts) = ap (λ (z : List Kind). t ∷ z) (kinds_put ts)

-- with the place that its kind tells
pub told : (ts : List Kind) (k : StmtKind) → Told ts k → (src : Source) (s : State) (b : SuiteStack) → Begins s b → (x : Bool) (rest : List Marked) (p : ℕ) → run src s (put ts (plain (stop x) ∷ rest)) p ≡ whole src k (src.first p) (src.first p) b x rest (kinds_past (kinds_marked (put ts [])) p)
told ts k back src s b takes x rest p =
    back src s b takes x rest p
    ∙ ap (λ (ks : List Kind). whole src k (src.first p) (src.first p) b x rest (kinds_past ks p)) (sym (kinds_put ts))

-- ---- how they begin

starts_place : (o : Option Place) (P : Place) (c : Bool) → o ≡ Some P → elim o as (λ (w : Option Place). Bool) [ Some p ↦ true | None ↦ c ] ≡ true
starts_place None P c h = absurd cc
starts_place (Some Q) P c h = refl

-- at a keyword
pub word_begins : (t : Kind) (P : Place) → simple_place t ≡ Some P → (src : Source) (s : State) (b : SuiteStack) → Begins s b → (ms : List Marked) (p : ℕ) → run src s (plain t ∷ ms) p ≡ run src (at P (lines src (src.first p) (src.first p) (suc p)) b) ms (suc p)
word_begins t P is src s b takes ms p =
    ap (λ (o : Option State). after src o ms (suc p))
    (takes t (src.first p) (src.last p) (starts_place (simple_place t) P (begins (class t)) is)
    ∙ ap (λ (o : Option Place). elim o as (λ (w : Option Place). Option State) [ Some q ↦ Some (at q (begun_at (src.first p) (src.last p)) b) | None ↦ reads (value no_exprs) (begun_at (src.first p) (src.last p)) b (expression.step (start any) (class t)) ]) is)

no_place : (h : Kind) → begins (class h) ≡ true → simple_place h ≡ None
no_place (Word word.Pass) q = absurd cc
no_place (Word word.Break) q = absurd cc
no_place (Word word.Continue) q = absurd cc
no_place (Word word.Return) q = absurd cc
no_place (Word word.Raise) q = absurd cc
no_place (Word word.Assert) q = absurd cc
no_place (Word word.Global) q = absurd cc
no_place (Word word.Import) q = absurd cc
no_place (Word word.From) q = absurd cc
no_place h q = refl

pub expr_starts : (h : Kind) → begins (class h) ≡ true → starts h ≡ true
expr_starts h q = ap (λ (o : Option Place). elim o as (λ (w : Option Place). Bool) [ Some p ↦ true | None ↦ begins (class h) ]) (no_place h q) ∙ q

-- at an expression
expr_begins : (src : Source) (s : State) (b : SuiteStack) → Begins s b → (e : Expr) → Normal e → (a : List Kind) (rest : List Marked) (p : ℕ) → run src s (put (tokens e a) rest) p ≡ run src (at (wanted (value no_exprs)) (lines src (src.first p) (src.first p) p) b) (put (tokens e a) rest) p
expr_begins src s b takes e n a rest p =
    begins_elsewhere false s (value no_exprs) (src.first p) (src.first p) b e n src p
    (λ h q. takes h (src.first p) (src.last p) (expr_starts h q)
    ∙ ap (λ (o : Option Place). elim o as (λ (w : Option Place). Option State) [ Some q ↦ Some (at q (begun_at (src.first p) (src.last p)) b) | None ↦ reads (value no_exprs) (begun_at (src.first p) (src.last p)) b (expression.step (start any) (class h)) ]) (no_place h q))
    a rest

-- ---- how they end

any_stop : (e : Expr) (x : Bool) → Normal e → Spelt any e (stop x)
any_stop e true n = any_spelt e (stop true) n (omega arith, refl, refl)
any_stop e false n = any_spelt e (stop false) n (omega arith, refl, refl)

one_stop : (e : Expr) (x : Bool) → NormalExpr e → Spelt one e (stop x)
one_stop e true n = one_spelt e (stop true) n (omega arith, refl)
one_stop e false n = one_spelt e (stop false) n (omega arith, refl)

-- The last expression of a statement, after which it is whole.
last_read : (g : Goal) (e : Expr) (x : Bool) → Spelt g e (stop x) → (r : Continuation) (k : StmtKind) → ((n : Span) (b : SuiteStack) (l : ℕ) → resume r e n b (stop x) l ≡ end_simple k n b (stop x) l) → (src : Source) (c f : ℕ) (b : SuiteStack) (rest : List Marked) (p : ℕ) →
    run src (at (Reading r (start g)) (lines src c f p) b) (put (tokens e []) (plain (stop x) ∷ rest)) p ≡ whole src k c f b x rest (past e p)
last_read g e x h r k is src c f b rest p =
    ends_line g e (stop x) h src r c f b rest p
    ∙ ap (λ (o : Option State). after src o rest (suc (past e p))) (is (lines src c f (past e p)) b (src.last (past e p)))

-- ---- expressions and assignments

value_stop : (ts : Exprs) (e : Expr) (x : Bool) (n : Span) (b : SuiteStack) (l : ℕ) → after_value ts e n b (stop x) l ≡ end_simple (assigned ts e) n b (stop x) l
value_stop no_exprs e true n b l = refl
value_stop no_exprs e false n b l = refl
value_stop (exprs t ts) e true n b l = refl
value_stop (exprs t ts) e false n b l = refl

value_read : (e : Expr) → Normal e → (ds : Exprs) (x : Bool) (src : Source) (c f : ℕ) (b : SuiteStack) (rest : List Marked) (p : ℕ) → run src (at (wanted (value ds)) (lines src c f p) b) (put (tokens e []) (plain (stop x) ∷ rest)) p ≡ whole src (assigned ds e) c f b x rest (past e p)
value_read e n ds x = last_read any e x (any_stop e x n) (value ds) (assigned ds e) (value_stop ds e x)

pub told_expr : (e : Expr) → Normal e → Told (tokens e []) (expr e)
told_expr e n src s b takes x rest p = expr_begins src s b takes e n [] (plain (stop x) ∷ rest) p ∙ value_read e n no_exprs x src (src.first p) (src.first p) b rest p

equal_taken : (ds : Exprs) (t : Expr) (n : Span) (b : SuiteStack) (l : ℕ) → is_target t ≡ true → after_value ds t n b (Sign mark.Equal) l ≡ Some (at (wanted (value (snoc ds t))) (onward n l) b)
equal_taken no_exprs t n b l is = ap (λ (c : Bool). cond c (Some (at (wanted (value (snoc no_exprs t))) (onward n l) b)) None) is
equal_taken (exprs d ds) t n b l is = ap (λ (c : Bool). cond c (Some (at (wanted (value (snoc (exprs d ds) t))) (onward n l) b)) None) is

-- a target with its `=`
target_read : (t : Expr) → Normal t → is_target t ≡ true → (ds : Exprs) (a : List Kind) (src : Source) (c f : ℕ) (b : SuiteStack) (rest : List Marked) (p : ℕ) → run src (at (wanted (value ds)) (lines src c f p) b) (put (tokens t (Sign mark.Equal ∷ a)) rest) p ≡ run src (at (wanted (value (snoc ds t))) (lines src c f (suc (past t p))) b) (put a rest) (suc (past t p))
target_read t n is ds a src c f b rest p =
    on_line any t (Sign mark.Equal) (any_spelt t (Sign mark.Equal) n (omega arith, refl, refl)) src (value ds) c f b a rest p
    ∙ ap (λ (o : Option State). after src o (put a rest) (suc (past t p))) (equal_taken ds t (lines src c f (past t p)) b (src.last (past t p)) is)

targets_read : (ts : Exprs) → NormalTargets ts → (e : Expr) → Normal e → (ds : Exprs) (x : Bool) (src : Source) (c f : ℕ) (b : SuiteStack) (rest : List Marked) (p : ℕ) → run src (at (wanted (value ds)) (lines src c f p) b) (put (target_tokens ts (tokens e [])) (plain (stop x) ∷ rest)) p ≡ whole src (assigned (join_exprs ds ts) e) c f b x rest (kinds_past (target_tokens ts (tokens e [])) p)
targets_read no_exprs n e ne ds x src c f b rest p =
    value_read e ne ds x src c f b rest p
    ∙ ap (λ (z : Exprs). whole src (assigned z e) c f b x rest (past e p)) (sym (join_none ds))
targets_read (exprs t ts) n e ne ds x src c f b rest p =
    target_read t n.0 n.1 ds (target_tokens ts (tokens e [])) src c f b (plain (stop x) ∷ rest) p
    ∙ targets_read ts n.2 e ne (snoc ds t) x src c f b rest (suc (past t p))
    ∙ ap (λ (z : Exprs). whole src (assigned z e) c f b x rest (kinds_past (target_tokens ts (tokens e [])) (suc (past t p)))) (join_snoc ds t ts)
    ∙ ap (whole src (assigned (join_exprs ds (exprs t ts)) e) c f b x rest) (sym (past_parted t (Sign mark.Equal ∷ target_tokens ts (tokens e [])) p))

pub told_assign : (t : Expr) (ts : Exprs) (e : Expr) → NormalTargets (exprs t ts) → Normal e → Told (target_tokens (exprs t ts) (tokens e [])) (assign (exprs t ts) e)
told_assign t ts e n ne src s b takes x rest p =
    let F = src.first p in
    let a = target_tokens ts (tokens e []) in
    expr_begins src s b takes t n.0 (Sign mark.Equal ∷ a) (plain (stop x) ∷ rest) p
    ∙ target_read t n.0 n.1 no_exprs a src F F b (plain (stop x) ∷ rest) p
    ∙ targets_read ts n.2 e ne (exprs t no_exprs) x src F F b rest (suc (past t p))
    ∙ ap (λ (z : Exprs). whole src (assigned z e) F F b x rest (kinds_past a (suc (past t p)))) (join_one t ts)
    ∙ ap (whole src (assign (exprs t ts) e) F F b x rest) (sym (past_parted t (Sign mark.Equal ∷ a) p))

operator_taken : (op : BinOp) (t : Expr) (n : Span) (b : SuiteStack) (l : ℕ) → is_place t ≡ true → after_value no_exprs t n b (Sign (in_place_mark op)) l ≡ Some (at (wanted (augmented t op)) (onward n l) b)
operator_taken op_.Add t n b l is = ap (λ (c : Bool). cond c (Some (at (wanted (augmented t op_.Add)) (onward n l) b)) None) is
operator_taken op_.Sub t n b l is = ap (λ (c : Bool). cond c (Some (at (wanted (augmented t op_.Sub)) (onward n l) b)) None) is
operator_taken op_.Mul t n b l is = ap (λ (c : Bool). cond c (Some (at (wanted (augmented t op_.Mul)) (onward n l) b)) None) is
operator_taken op_.Floor t n b l is = ap (λ (c : Bool). cond c (Some (at (wanted (augmented t op_.Floor)) (onward n l) b)) None) is
operator_taken op_.Mod t n b l is = ap (λ (c : Bool). cond c (Some (at (wanted (augmented t op_.Mod)) (onward n l) b)) None) is

operator_spelt : (op : BinOp) (t : Expr) → Normal t → Spelt any t (Sign (in_place_mark op))
operator_spelt op_.Add t n = any_spelt t (Sign mark.PlusEqual) n (omega arith, refl, refl)
operator_spelt op_.Sub t n = any_spelt t (Sign mark.MinusEqual) n (omega arith, refl, refl)
operator_spelt op_.Mul t n = any_spelt t (Sign mark.StarEqual) n (omega arith, refl, refl)
operator_spelt op_.Floor t n = any_spelt t (Sign mark.DoubleSlashEqual) n (omega arith, refl, refl)
operator_spelt op_.Mod t n = any_spelt t (Sign mark.PercentEqual) n (omega arith, refl, refl)

pub told_aug_assign : (t : Expr) (op : BinOp) (e : Expr) → Normal t → is_place t ≡ true → Normal e → Told (tokens t (Sign (in_place_mark op) ∷ tokens e [])) (aug_assign t op e)
told_aug_assign t op e n is ne src s b takes x rest p =
    let F = src.first p in
    let m = Sign (in_place_mark op) in
    expr_begins src s b takes t n (m ∷ tokens e []) (plain (stop x) ∷ rest) p
    ∙ on_line any t m (operator_spelt op t n) src (value no_exprs) F F b (tokens e []) (plain (stop x) ∷ rest) p
    ∙ ap (λ (o : Option State). after src o (put (tokens e []) (plain (stop x) ∷ rest)) (suc (past t p))) (operator_taken op t (lines src F F (past t p)) b (src.last (past t p)) is)
    ∙ last_read any e x (any_stop e x ne) (augmented t op) (aug_assign t op e) (λ n b l. refl) src F F b rest (suc (past t p))
    ∙ ap (whole src (aug_assign t op e) F F b x rest) (sym (past_parted t (m ∷ tokens e []) p))

-- ---- statements of a keyword

pub told_pass : Told (Word word.Pass ∷ []) pass
told_pass src s b takes x rest p = word_begins (Word word.Pass) _ refl src s b takes (plain (stop x) ∷ rest) p

pub told_break : Told (Word word.Break ∷ []) break
told_break src s b takes x rest p = word_begins (Word word.Break) _ refl src s b takes (plain (stop x) ∷ rest) p

pub told_continue : Told (Word word.Continue ∷ []) continue
told_continue src s b takes x rest p = word_begins (Word word.Continue) _ refl src s b takes (plain (stop x) ∷ rest) p

leaving_stop : (raises : Bool) (x : Bool) (n : Span) (b : SuiteStack) (f l : ℕ) → act (Leaving raises) n b (stop x) f l ≡ end_simple (left raises None) n b (stop x) l
leaving_stop raises true n b f l = refl
leaving_stop raises false n b f l = refl

leaving_takes : (raises : Bool) (n : Span) (b : SuiteStack) (h : Kind) (f l : ℕ) → begins (class h) ≡ true → act (Leaving raises) n b h f l ≡ reads (leaving raises) (onward n l) b (expression.step (start (goal (leaving raises))) (class h))
leaving_takes raises n b (Sign mark.Semicolon) f l q = absurd cc
leaving_takes raises n b Newline f l q = absurd cc
leaving_takes raises n b h f l q = refl

leaving_word : Bool → Kind
leaving_word raises = cond raises (Word word.Raise) (Word word.Return)

goal_stop : (raises : Bool) (e : Expr) (x : Bool) → cond raises (NormalExpr e) (Normal e) → Spelt (goal_of raises) e (stop x)
goal_stop true e x n = one_stop e x n
goal_stop false e x n = any_stop e x n

-- after the keyword
left_read : (raises : Bool) (o : Option Expr) → IsOption (λ e. cond raises (NormalExpr e) (Normal e)) o → (x : Bool) (src : Source) (c f : ℕ) (b : SuiteStack) (rest : List Marked) (p : ℕ) → run src (at (Leaving raises) (lines src c f p) b) (put (option_tokens o) (plain (stop x) ∷ rest)) p ≡ whole src (left raises o) c f b x rest (kinds_past (option_tokens o) p)
left_read raises None n x src c f b rest p = ap (λ (o : Option State). after src o rest (suc p)) (leaving_stop raises x (lines src c f p) b (src.first p) (src.last p))
left_read raises (Some e) n x src c f b rest p =
    begins_elsewhere raises (at (Leaving raises) (lines src c f p) b) (leaving raises) c f b e (normal raises n) src p (λ h q. leaving_takes raises (lines src c f p) b h (src.first p) (src.last p) q) [] (plain (stop x) ∷ rest)
    ∙ last_read (goal_of raises) e x (goal_stop raises e x n) (leaving raises) (left raises (Some e)) (λ n b l. refl) src c f b rest p
  where
    normal : (raises : Bool) → cond raises (NormalExpr e) (Normal e) → Normal e
    normal true n = n.1
    normal false n = n

pub told_return : (o : Option Expr) → IsOption Normal o → Told (Word word.Return ∷ option_tokens o) (return o)
told_return o n src s b takes x rest p =
    word_begins (Word word.Return) _ refl src s b takes (put (option_tokens o) (plain (stop x) ∷ rest)) p
    ∙ left_read false o n x src (src.first p) (src.first p) b rest (suc p)

pub told_raise : (o : Option Expr) → IsOption NormalExpr o → Told (Word word.Raise ∷ option_tokens o) (raise o)
told_raise o n src s b takes x rest p =
    word_begins (Word word.Raise) _ refl src s b takes (put (option_tokens o) (plain (stop x) ∷ rest)) p
    ∙ left_read true o n x src (src.first p) (src.first p) b rest (suc p)

asserted_stop : (e : Expr) (x : Bool) (n : Span) (b : SuiteStack) (l : ℕ) → resume asserted e n b (stop x) l ≡ end_simple (assert e None) n b (stop x) l
asserted_stop e true n b l = refl
asserted_stop e false n b l = refl

pub told_assert : (e : Expr) (w : Option Expr) → NormalExpr e → IsOption NormalExpr w → Told (Word word.Assert ∷ tokens e (assert_tokens w)) (assert e w)
told_assert e None n nw src s b takes x rest p =
    let F = src.first p in
    word_begins (Word word.Assert) _ refl src s b takes (put (tokens e []) (plain (stop x) ∷ rest)) p
    ∙ last_read one e x (one_stop e x n) asserted (assert e None) (asserted_stop e x) src F F b rest (suc p)
told_assert e (Some w) n nw src s b takes x rest p =
    let F = src.first p in
    let comma = Sign mark.Comma in
    word_begins (Word word.Assert) _ refl src s b takes (put (tokens e (comma ∷ tokens w [])) (plain (stop x) ∷ rest)) p
    ∙ on_line one e comma (one_spelt e comma n (omega arith, refl)) src asserted F F b (tokens w []) (plain (stop x) ∷ rest) (suc p)
    ∙ last_read one w x (one_stop w x nw) (reason e) (assert e (Some w)) (λ n b l. refl) src F F b rest (suc (past e (suc p)))
    ∙ ap (whole src (assert e (Some w)) F F b x rest) (sym (past_parted e (comma ∷ tokens w []) (suc p)))
