-- Expressions and patterns that are being read on a line are finished there.
use Rattle.std.proofs.Common.{◌≡◌, ℕ, pos, true, false, List, [], ◌∷◌, ◌++◌, Option, Some, None, refl, ap, ◌∙◌, arith}
use Rattle.py_token.specs.declared.token.Mark.TheVariants as mark
use Rattle.py_syntax.specs.Tree.{Text, Expr, no_exprs, exprs, c_int, c_str, Pattern, literal, wild, member, p_as, Patterns, no_patterns, patterns}
use Rattle.py_syntax.specs.Tree.{Cases, expr, assign, aug_assign, assert}
use Rattle.py_syntax.specs.Kinds.{Kind, Sign}
use Rattle.py_syntax.specs.Headers.{Marked, put}
use Rattle.py_grammar.specs.Machine as expression
use Rattle.py_grammar.specs.Machine.{snoc, class}
use Rattle.py_grammar.specs.Least as expression_least
use Rattle.py_grammar.specs.Least.{least_name}
use Rattle.py_parse_pattern.specs.declared.token_classes.Bracket.TheVariants.{Round, Square}
use Rattle.py_parse_pattern.specs.Machine as pattern
use Rattle.py_parse_pattern.specs.Machine.{Frame, frame, Stack, stack}
use Rattle.py_grammar.proofs.Sound.Spelled as spelled
use Rattle.py_parse_pattern.proofs.Complete as pattern_complete
use Rattle.py_grammar.proofs.Sound.Valid as expression_valid
use Rattle.py_grammar.proofs.Least.Finish as expression_finish
use Rattle.py_grammar.proofs.Least.Finish.{Closes}
use Rattle.py_grammar.proofs.Least.Finishes as expression_finishes
use Rattle.py_parse_pattern.proofs.Least.Finish as pattern_finish
use Rattle.py_statements.specs.Open.{an_arm, a_while, a_for, a_clause, a_def, a_case, newline_end, SuiteStack}
use Rattle.py_statements.specs.Machine.{Continuation, value, augmented, leaving, asserted, reason, arm_test, while_test, for_target, for_over, clause_kind, subject, guard, default, goal, Reading, Matching, Span, State, at, Over, onward, left, resume, resume_pattern}
use Rattle.py_parse.specs.Least.{form, complete, resumed}
use Rattle.py_parse.proofs.Sound.Valid.{ValidLine, ValidContinuation}
use Rattle.py_parse.proofs.Least.Finish.{closer, after, suite_here, finish_place}
use Rattle.py_parse.proofs.Least.FinishSuites.{steady, goes, Ends, simple_ends, suite_ends, block_ends}

-- ---- from the machine of expressions to this one

-- What the machine of expressions reads is read on a line, up to the token after it.
pub reading : (l : ℕ) (r : Continuation) (s : expression.State) (ts : List Kind) (e : Expr) (t : Kind) (ks : List Kind) (n : Span) (b : SuiteStack) (rest : List Marked) → expression.run s ts ≡ expression.Leaves e (t ∷ ks) → steady l (at (Reading r s) (onward n l) b) (put ts rest) ≡ goes l (resume r e (onward n l) b t l) (put ks rest)
reading l r s [] e t ks n b rest h = absurd cc
reading l r s (u ∷ us) e t ks n b rest h = go (λ s'. reading l r s' us e t ks n b rest) (expression.step s (class u)) h
  where
    left : (f : Expr) → f ≡ e → u ≡ t → us ≡ ks → goes l (resume r f (onward n l) b u l) (put us rest) ≡ goes l (resume r e (onward n l) b t l) (put ks rest)
    left f same kind others =
        ap (λ (x : Expr). goes l (resume r x (onward n l) b u l) (put us rest)) same
        ∙ ap (λ (x : Kind). goes l (resume r e (onward n l) b x l) (put us rest)) kind
        ∙ ap (λ (x : List Kind). goes l (resume r e (onward n l) b t l) (put x rest)) others

    go : ((s' : expression.State) → expression.run s' us ≡ expression.Leaves e (t ∷ ks) → steady l (at (Reading r s') (onward n l) b) (put us rest) ≡ goes l (resume r e (onward n l) b t l) (put ks rest)) → (w : expression.Out) → spelled.outcome w u us ≡ expression.Leaves e (t ∷ ks) → goes l (elim w as (λ (w : expression.Out). Option State) [ expression.Next s' ↦ Some (at (Reading r s') (onward n l) b) | expression.Stuck ↦ None | expression.Left f ↦ resume r f (onward n l) b u l ]) (put us rest) ≡ goes l (resume r e (onward n l) b t l) (put ks rest)
    go rec (expression.Next s') h = rec s' h
    go rec expression.Stuck h = absurd cc
    go rec (expression.Left f) h = let same : f ≡ e = cc in let kind : u ≡ t = cc in let others : us ≡ ks = cc in left f same kind others

-- and what the machine of patterns reads
pub matching : (l : ℕ) (e : Expr) (last : ℕ) (cs : Cases) (s : pattern.State) (ts : List Kind) (p : Pattern) (t : Kind) (ks : List Kind) (n : Span) (b : SuiteStack) (rest : List Marked) → pattern.run s ts ≡ pattern.Leaves p (t ∷ ks) → steady l (at (Matching e last cs s) (onward n l) b) (put ts rest) ≡ goes l (resume_pattern e last cs p (onward n l) b t l) (put ks rest)
matching l e last cs s [] p t ks n b rest h = absurd cc
matching l e last cs s (u ∷ us) p t ks n b rest h = go (λ s'. matching l e last cs s' us p t ks n b rest) (pattern.step s u) h
  where
    left : (q : Pattern) → q ≡ p → u ≡ t → us ≡ ks → goes l (resume_pattern e last cs q (onward n l) b u l) (put us rest) ≡ goes l (resume_pattern e last cs p (onward n l) b t l) (put ks rest)
    left q same kind others =
        ap (λ (x : Pattern). goes l (resume_pattern e last cs x (onward n l) b u l) (put us rest)) same
        ∙ ap (λ (x : Kind). goes l (resume_pattern e last cs p (onward n l) b x l) (put us rest)) kind
        ∙ ap (λ (x : List Kind). goes l (resume_pattern e last cs p (onward n l) b t l) (put x rest)) others

    go : ((s' : pattern.State) → pattern.run s' us ≡ pattern.Leaves p (t ∷ ks) → steady l (at (Matching e last cs s') (onward n l) b) (put us rest) ≡ goes l (resume_pattern e last cs p (onward n l) b t l) (put ks rest)) → (w : pattern.Out) → pattern_complete.outcome w u us ≡ pattern.Leaves p (t ∷ ks) → goes l (elim w as (λ (w : pattern.Out). Option State) [ pattern.Next s' ↦ Some (at (Matching e last cs s') (onward n l) b) | pattern.Stuck ↦ None | pattern.Left q ↦ resume_pattern e last cs q (onward n l) b u l ]) (put us rest) ≡ goes l (resume_pattern e last cs p (onward n l) b t l) (put ks rest)
    go rec (pattern.Next s') h = rec s' h
    go rec pattern.Stuck h = absurd cc
    go rec (pattern.Left q) h = let same : q ≡ p = cc in let kind : u ≡ t = cc in let others : us ≡ ks = cc in left q same kind others

-- ---- patterns are finished

-- the token after a pattern
abbrev colon : List Kind
colon = Sign mark.Colon ∷ []

closing_have : (p : Pattern) (is bs : Patterns) (fs : List Frame) → pattern.run (pattern.Have p (stack is bs fs)) (pattern_finish.closing fs colon) ≡ pattern.Leaves (pattern.whole p (stack is bs fs)) colon
closing_have p is bs [] = refl
closing_have p is bs (frame Round js cs ∷ fs) = closing_have (pattern.enclosed Round is (pattern.joined bs p)) js cs fs
closing_have p is bs (frame Square js cs ∷ fs) = closing_have (pattern.enclosed Square is (pattern.joined bs p)) js cs fs

closing_all : (p : Pattern) (k : Stack) → pattern.run (pattern.Have p k) (pattern_finish.closing_all k colon) ≡ pattern.Leaves (pattern.whole p k) colon
closing_all p (stack is bs fs) = closing_have p is bs fs

closing_item : (p : Pattern) (is : Patterns) (fs : List Frame) → pattern.run (pattern.Item p is fs) (pattern_finish.closing fs colon) ≡ pattern.Leaves (pattern.put p is fs) colon
closing_item p is [] = refl
closing_item p is (frame Round js cs ∷ fs) = closing_have (pattern.enclosed Round is p) js cs fs
closing_item p is (frame Square js cs ∷ fs) = closing_have (pattern.enclosed Square is p) js cs fs

-- a name or strings after which everything closes
closing_named : (x : Text) (is bs : Patterns) (fs : List Frame) → pattern.run (pattern.Named x (stack is bs fs)) (pattern_finish.closing fs colon) ≡ pattern.run (pattern.Have (pattern.named x) (stack is bs fs)) (pattern_finish.closing fs colon)
closing_named x is bs [] = refl
closing_named x is bs (frame Round js cs ∷ fs) = refl
closing_named x is bs (frame Square js cs ∷ fs) = refl

closing_strings : (xs : List Text) (is bs : Patterns) (fs : List Frame) → pattern.run (pattern.Strings xs (stack is bs fs)) (pattern_finish.closing fs colon) ≡ pattern.run (pattern.Have (literal false (c_str xs)) (stack is bs fs)) (pattern_finish.closing fs colon)
closing_strings xs is bs [] = refl
closing_strings xs is bs (frame Round js cs ∷ fs) = refl
closing_strings xs is bs (frame Square js cs ∷ fs) = refl

closing_row : (is : Patterns) (fs : List Frame) → pattern.run (pattern.Want (stack is no_patterns fs)) (pattern_finish.finish_row is fs colon) ≡ pattern.Leaves (pattern.closed is fs) colon
closing_row no_patterns [] = refl
closing_row (patterns p ps) [] = refl
closing_row is (frame Round js bs ∷ fs) = closing_have (pattern.ended Round is) js bs fs
closing_row is (frame Square js bs ∷ fs) = closing_have (pattern.ended Square is) js bs fs

pattern_ends : (s : pattern.State) → pattern.run s (pattern_finish.finish s colon) ≡ pattern.Leaves (pattern.finished s) colon
pattern_ends (pattern.Want (stack is no_patterns fs)) = closing_row is fs
pattern_ends (pattern.Want (stack is (patterns a bs) fs)) = closing_named (95 ∷ []) is (patterns a bs) fs ∙ closing_have wild is (patterns a bs) fs
pattern_ends (pattern.Minus k) = closing_all (literal true (c_int (pos 0))) k
pattern_ends (pattern.Named x (stack is bs fs)) = closing_named x is bs fs ∙ closing_have (pattern.named x) is bs fs
pattern_ends (pattern.Dotted m k) = closing_all (member m pattern.some_name) k
pattern_ends (pattern.Strings xs (stack is bs fs)) = closing_strings xs is bs fs ∙ closing_have (literal false (c_str xs)) is bs fs
pattern_ends (pattern.Have p k) = closing_all p k
pattern_ends (pattern.Naming p is fs) = closing_item (p_as p pattern.some_name) is fs
pattern_ends (pattern.Item p is fs) = closing_item p is fs

-- ---- expressions are finished

closes : (r : Continuation) → Closes (goal r) (class (closer r))
closes (value ts) = (omega arith, refl, refl)
closes (augmented p op) = (omega arith, refl, refl)
closes (leaving true) = (omega arith, refl)
closes (leaving false) = (omega arith, refl, refl)
closes asserted = (omega arith, refl)
closes (reason t) = (omega arith, refl)
closes (arm_test arms) = (omega arith, refl)
closes while_test = (omega arith, refl)
closes for_target = (omega arith, refl, refl, λ h. cc)
closes (for_over t) = (omega arith, refl, refl)
closes (clause_kind b cs) = (omega arith, refl)
closes subject = (omega arith, refl, refl)
closes (guard e last cs p) = (omega arith, refl)
closes (default x ps ds y) = (omega arith, refl)

-- After a whole expression the statement is finished.
resumes : (r : Continuation) (e : Expr) (n : Span) (b : SuiteStack) → ValidContinuation r b → goes n.last (resume r e n b (closer r) n.last) (after r b) ≡ Some (Over (complete (resumed r e n.last) n b))
resumes (value no_exprs) e n b h = simple_ends b n.last n.begun n.last (expr e) newline_end h.1
resumes (value (exprs t ts)) e n b h = simple_ends b n.last n.begun n.last (assign (exprs t ts) e) newline_end h.1
resumes (augmented p op) e n b h = simple_ends b n.last n.begun n.last (aug_assign p op e) newline_end h.2
resumes (leaving raises) e n b h = simple_ends b n.last n.begun n.last (left raises (Some e)) newline_end h
resumes asserted e n b h = simple_ends b n.last n.begun n.last (assert e None) newline_end h
resumes (reason t) e n b h = simple_ends b n.last n.begun n.last (assert t (Some e)) newline_end h.1
resumes (arm_test arms) e n b h = suite_ends (an_arm arms e) n b tt h.1
resumes while_test e n b h = suite_ends (a_while e) n b tt h
resumes for_target e n b h = suite_ends (a_for e least_name) n b tt h
resumes (for_over t) e n b h = suite_ends (a_for t e) n b tt h.2
resumes (clause_kind s cs) e n b h = suite_ends (a_clause s cs (Some e) None) n b tt h.2
resumes subject e n b h = block_ends e n.last n b h
resumes (guard m last cs p) e n b h = suite_ends (a_case m last cs p (Some e)) n b tt h.3
resumes (default x ps ds y) e n b h = suite_ends (a_def x (ps ++ y ∷ []) (snoc ds e) false) n b tt h.1

pub reading_ends : (r : Continuation) (s : expression.State) (n : Span) (b : SuiteStack) → expression_valid.Sound (goal r) s → ValidContinuation r b → Ends n.last (at (Reading r s) n b) (finish_place (Reading r s) b) (complete (form (Reading r s) n.last) n b)
reading_ends r s n b sound h =
    reading n.last r s (expression_finish.finish s (closer r ∷ [])) (expression_least.finished s) (closer r) [] n b (after r b) (expression_finishes.finishes (goal r) s (closer r) [] sound (closes r))
    ∙ resumes r (expression_least.finished s) n b h

pub matching_ends : (e : Expr) (last : ℕ) (cs : Cases) (s : pattern.State) (n : Span) (b : SuiteStack) → ValidLine b → Ends n.last (at (Matching e last cs s) n b) (finish_place (Matching e last cs s) b) (complete (form (Matching e last cs s) n.last) n b)
matching_ends e last cs s n b h =
    matching n.last e last cs s (pattern_finish.finish s colon) (pattern.finished s) (Sign mark.Colon) [] n b (suite_here (a_case e last cs wild None) b) (pattern_ends s)
    ∙ suite_ends (a_case e last cs (pattern.finished s) None) n b tt h
