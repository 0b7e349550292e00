-- What a function hands on is what it is to make itself.
use Rattle.std.proofs.Common.{◌≡◌, Option, Result, Ok, Err, IfOk, sym, ap, subst, ◌∙◌}
use Rattle.std.specs.declared.alloc.AllocError.{AllocError}
use Rattle.py_token.specs.declared.token.Token.{Token}
use Rattle.py_syntax.specs.declared.expr.Expr.{Expr as Node}
use Rattle.py_syntax.specs.declared.stmt.StmtKind as kind
use Rattle.py_syntax.specs.declared.stmt.StmtKind.{StmtKind as KindNode}
use Rattle.py_syntax.specs.declared.stmt.Suite.{Suite as SuiteNode}
use Rattle.py_syntax.specs.Tree.{Expr, StmtKind, expr}
use Rattle.py_syntax.specs.View.{plain_expr, plain_kind, plain_suite}
use Rattle.py_statements.specs.declared.places.Place as code_place
use Rattle.py_statements.specs.declared.places.State as code_state
use Rattle.py_statements.specs.declared.places.Turn.{Turn}
use Rattle.py_statements.specs.declared.purposes.Continuation as code_continuation
use Rattle.py_statements.specs.declared.suite_of.SuiteOf as code_suite_of
use Rattle.py_statements.specs.declared.suite_stack.Span as code_span
use Rattle.py_statements.specs.declared.suite_stack.SuiteStack as code_suites
use Rattle.py_statements.specs.Open.{closed}
use Rattle.py_statements.specs.Machine.{act, end_simple, resume}
use Rattle.py_statements.specs.ViewSuiteOf.{boxed_kind, view_suite_of}
use Rattle.py_statements.specs.ViewStates.{kind_at, first_at, last_at, view_span, view_suites, view_place, view_continuation, Turned, Made, MadeKind, TurnsInto, ActsAt, MakesAt, Continues}

-- the tree of a statement in a box, by the kind that was put into it
pub boxes : (r : MadeKind) (k : KindNode) (j : StmtKind) → plain_kind k ≡ j → IfOk r (λ b. b.value ≡ k) → IfOk r (λ b. boxed_kind b ≡ j)
boxes (Ok b) k j is h = ap plain_kind h ∙ is
boxes (Err e) k j is h = tt

-- at a place that was taken apart
pub acts_at : (t : Token) (held made : code_place.Place) (n : code_span.Span) (b : code_suites.SuiteStack) (r : Result Turn AllocError) → held ≡ made → ActsAt t (view_place made) n b r → ActsAt t (view_place held) n b r
acts_at t held made n b r is acts = subst (λ (p : code_place.Place). ActsAt t (view_place p) n b r) (sym is) acts

-- and where it makes a state
pub made_at : (t : Token) (held made : code_place.Place) (n : code_span.Span) (b : code_suites.SuiteStack) (m : Made) (r : Turned) → held ≡ made → MakesAt t (view_place made) n b m → TurnsInto m r → ActsAt t (view_place held) n b r
made_at t held made n b m r is makes turns = acts_at t held made n b r is (turns t (act (view_place made) (view_span n) (view_suites b) (kind_at t) (first_at t) (last_at t)) makes)

-- after an expression whose purpose was taken apart
pub resumes_so : (t : Token) (held made : code_continuation.Continuation) (e : Expr) (n : code_span.Span) (b : code_suites.SuiteStack) (r : Result (Option code_state.State) AllocError) → held ≡ made → Continues t (resume (view_continuation made) e) n b r → Continues t (resume (view_continuation held) e) n b r
resumes_so t held made e n b r is goes = subst (λ (c : code_continuation.Continuation). Continues t (resume (view_continuation c) e) n b r) (sym is) goes

-- after a simple statement
pub ends_so : (t : Token) (k j : StmtKind) (n : code_span.Span) (b : code_suites.SuiteStack) (r : Result (Option code_state.State) AllocError) → k ≡ j → Continues t (end_simple k) n b r → Continues t (end_simple j) n b r
ends_so t k j n b r is ends = subst (λ (x : StmtKind). Continues t (end_simple x) n b r) is ends

-- a suite where what it belongs to was taken apart
pub closed_of : (held made : code_suite_of.SuiteOf) (s : SuiteNode) → held ≡ made → closed (view_suite_of made) (plain_suite s) ≡ closed (view_suite_of held) (plain_suite s)
closed_of held made s is = sym (ap (λ (o : code_suite_of.SuiteOf). closed (view_suite_of o) (plain_suite s)) is)

pub closes_so : (r : MadeKind) (k j : StmtKind) → k ≡ j → IfOk r (λ w. boxed_kind w ≡ k) → IfOk r (λ w. boxed_kind w ≡ j)
closes_so r k j is h = subst (λ (x : StmtKind). IfOk r (λ w. boxed_kind w ≡ x)) is h

pub plain-Expr : (e : Node) → plain_kind (kind.Expr e) ≡ expr (plain_expr e)
plain-Expr e = search kind.the_lemmas
