-- Where an expression is wanted, its first token begins it.
use Rattle.std.proofs.Common.{◌≡◌, ℕ, true, false, Option, Some, None, refl}
use Rattle.py_operator.specs.declared.operator.BinOp.TheVariants as op_
use Rattle.py_syntax.specs.Tree.{Expr}
use Rattle.py_syntax.specs.Kinds.{Kind}
use Rattle.py_grammar.specs.TokenClasses.{TokenClass, t_operator, b_op}
use Rattle.py_grammar.specs.Machine as expression
use Rattle.py_grammar.specs.Machine.{Goal, any, one, target, start, class}
use Rattle.py_statements.specs.Open.{SuiteStack}
use Rattle.py_statements.specs.Machine.{Continuation, value, augmented, leaving, asserted, reason, arm_test, while_test, for_target, for_over, clause_kind, subject, guard, default, Reading, Span, State, at, wanted, onward, reads, resume, begin_expr, act}

-- what the first token of an expression makes, where it could end at once
abbrev pub first_made : Goal → TokenClass → Continuation → Span → SuiteStack → (Expr → Option State) → Option State
first_made g t r n b x = elim (expression.step (start g) t) as (λ (w : expression.Out). Option State) [ expression.Next s ↦ Some (at (Reading r s) n b) | expression.Stuck ↦ None | expression.Left e ↦ x e ]

-- it never does
pub any_begins : (t : TokenClass) (r : Continuation) (n : Span) (b : SuiteStack) (x : Expr → Option State) → first_made any t r n b x ≡ reads r n b (expression.step (start any) t)
any_begins (t_operator (b_op op_.Add)) r n b x = refl
any_begins t r n b x = refl

pub one_begins : (t : TokenClass) (r : Continuation) (n : Span) (b : SuiteStack) (x : Expr → Option State) → first_made one t r n b x ≡ reads r n b (expression.step (start one) t)
one_begins (t_operator (b_op op_.Add)) r n b x = refl
one_begins t r n b x = refl

target_begins : (t : TokenClass) (r : Continuation) (n : Span) (b : SuiteStack) (x : Expr → Option State) → first_made target t r n b x ≡ reads r n b (expression.step (start target) t)
target_begins (t_operator (b_op op_.Add)) r n b x = refl
target_begins t r n b x = refl

pub wanted_reads : (r : Continuation) (n : Span) (b : SuiteStack) (t : Kind) (f l : ℕ) → act (wanted r) n b t f l ≡ begin_expr r (onward n l) b t
wanted_reads (value ts) n b t f l = any_begins (class t) (value ts) (onward n l) b (λ e. resume (value ts) e n b t l)
wanted_reads (augmented p op) n b t f l = any_begins (class t) (augmented p op) (onward n l) b (λ e. resume (augmented p op) e n b t l)
wanted_reads (leaving true) n b t f l = one_begins (class t) (leaving true) (onward n l) b (λ e. resume (leaving true) e n b t l)
wanted_reads (leaving false) n b t f l = any_begins (class t) (leaving false) (onward n l) b (λ e. resume (leaving false) e n b t l)
wanted_reads asserted n b t f l = one_begins (class t) asserted (onward n l) b (λ e. resume asserted e n b t l)
wanted_reads (reason e') n b t f l = one_begins (class t) (reason e') (onward n l) b (λ e. resume (reason e') e n b t l)
wanted_reads (arm_test arms) n b t f l = one_begins (class t) (arm_test arms) (onward n l) b (λ e. resume (arm_test arms) e n b t l)
wanted_reads while_test n b t f l = one_begins (class t) while_test (onward n l) b (λ e. resume while_test e n b t l)
wanted_reads for_target n b t f l = target_begins (class t) for_target (onward n l) b (λ e. resume for_target e n b t l)
wanted_reads (for_over p) n b t f l = any_begins (class t) (for_over p) (onward n l) b (λ e. resume (for_over p) e n b t l)
wanted_reads (clause_kind s cs) n b t f l = one_begins (class t) (clause_kind s cs) (onward n l) b (λ e. resume (clause_kind s cs) e n b t l)
wanted_reads subject n b t f l = any_begins (class t) subject (onward n l) b (λ e. resume subject e n b t l)
wanted_reads (guard e' last cs p) n b t f l = one_begins (class t) (guard e' last cs p) (onward n l) b (λ e. resume (guard e' last cs p) e n b t l)
wanted_reads (default x ps ds y) n b t f l = one_begins (class t) (default x ps ds y) (onward n l) b (λ e. resume (default x ps ds y) e n b t l)
