-- Copies of statements and of their parts.
use Rattle.std.specs.Prelude.{Box}
use Rattle.std.proofs.Common.{◌≡◌, List, Option, Some, Global, Result, Ok, Err, IfOk, refl, sym, ap, ◌∙◌, subst}
use Rattle.std.specs.Option.{option_map}
use Rattle.std.specs.Result.{IsOkAnd}
use Rattle.py_syntax.specs.declared.expr.Expr.{Expr as Node}
use Rattle.py_syntax.specs.declared.pattern.Pattern.{Pattern as PatternNode}
use Rattle.py_syntax.specs.declared.stmt.Arm.{Arm, out-Arm}
use Rattle.py_syntax.specs.declared.stmt.Case.{Case, out-Case}
use Rattle.py_syntax.specs.declared.stmt.Clause.{Clause, out-Clause}
use Rattle.py_syntax.specs.declared.stmt.Stmt.{Stmt, out-Stmt}
use Rattle.py_syntax.specs.declared.stmt.StmtKind.{StmtKind}
use Rattle.py_syntax.specs.declared.stmt.StmtKind as kind_
use Rattle.py_syntax.specs.declared.stmt.Suite.{Suite, out-Suite}
use Rattle.py_syntax.specs.Tree.{stmt, has_suite, arm, clause, case, pass, break, continue}
use Rattle.py_syntax.specs.View.{plain_expr, plain_pattern, plain_kind, plain_suite, plain_opt_suite}
use Rattle.py_changes.specs.Mutants.{Marked, at_mark, expr_mutants, maybe_mutants, stmts_mutants, kind_mutants, suite_mutants, opt_suite_mutants, arms_mutants, clauses_mutants, cases_mutants}
use Rattle.cov_mutants_expr.specs.Search.{Reached, Copied}
use Rattle.cov_mutants_expr.specs.Rows.{Added, Stepped}
use Rattle.cov_mutants_expr.proofs.Copies.{copied-one, copied-as}
use Rattle.cov_mutants_expr.proofs.RowLaws.{turned-one, turned-two}
use Rattle.cov_mutants_expr.proofs.Turns.{with_ok}
use Rattle.cov_places.specs.ItemRows.{put_stmt, put_arm, put_clause, put_case}
use Rattle.cov_places.proofs.KindForms.{plain-Pass, plain-Break, plain-Continue, header-is}

pub pass-boxed : {E : Type 0} (r : Result (Box StmtKind Global) E) → IfOk r (λ b. b.value ≡ kind_.Pass) → IfOk r (λ b. plain_kind b.value ≡ pass)
pass-boxed (Ok b) h = ap plain_kind h ∙ plain-Pass
pass-boxed (Err e) h = tt

pub break-boxed : {E : Type 0} (r : Result (Box StmtKind Global) E) → IfOk r (λ b. b.value ≡ kind_.Break) → IfOk r (λ b. plain_kind b.value ≡ break)
break-boxed (Ok b) h = ap plain_kind h ∙ plain-Break
break-boxed (Err e) h = tt

pub continue-boxed : {E : Type 0} (r : Result (Box StmtKind Global) E) → IfOk r (λ b. b.value ≡ kind_.Continue) → IfOk r (λ b. plain_kind b.value ≡ continue)
continue-boxed (Ok b) h = ap plain_kind h ∙ plain-Continue
continue-boxed (Err e) h = tt

-- ---- suites, and items of rows

pub a_suite : (s t : Reached Marked) (o : Option Suite) (x y : Suite) → o ≡ Some x → Copied suite_mutants s t (plain_suite x) (plain_suite y)
    → Copied opt_suite_mutants s t (plain_opt_suite o) (has_suite (plain_suite y))
a_suite s t o x y is h = copied-as (ap plain_opt_suite is) refl (copied-one has_suite refl h)

pub stmt-stepped : {E : Type 0} (q : Result (Box StmtKind Global) E) (s t : Reached Marked) (x : Stmt) (out next : List Stmt)
    → IfOk q (λ b. Copied (kind_mutants (out-Stmt x).first) s t (plain_kind (out-Stmt x).kind) (plain_kind b.value))
    → IsOkAnd q (λ b. Added put_stmt out next (stmt (out-Stmt x).first (out-Stmt x).last (plain_kind b.value) (out-Stmt x).end))
    → Stepped put_stmt stmts_mutants s t out next (put_stmt x)
stmt-stepped q s t x out next h k =
    let n = out-Stmt x in
    with_ok q (λ b g a. record {
      copy = stmt n.first n.last (plain_kind b.value) n.end;
      turned = turned-one (λ j r. stmt n.first n.last j n.end r) (λ r. refl) g;
      added = a;
    }) h k

pub arm-stepped : {E : Type 0} (q : Result Suite E) (s t u : Reached Marked) (x : Arm) (test : Node) (out next : List Arm)
    → Copied (λ e. at_mark (out-Suite (out-Arm x).body).first (expr_mutants e)) s t (plain_expr (out-Arm x).test) (plain_expr test)
    → IfOk q (λ b. Copied suite_mutants t u (plain_suite (out-Arm x).body) (plain_suite b))
    → IsOkAnd q (λ b. Added put_arm out next (arm (plain_expr test) (plain_suite b)))
    → Stepped put_arm arms_mutants s u out next (put_arm x)
arm-stepped q s t u x test out next f h k =
    let n = out-Arm x in
    let g = subst (λ l. Copied (λ e. at_mark l (expr_mutants e)) s t (plain_expr n.test) (plain_expr test)) (sym (header-is n.body)) f in
    with_ok q (λ b i a. record {
      copy = arm (plain_expr test) (plain_suite b);
      turned = turned-two arm (λ r. refl) g i;
      added = a;
    }) h k

pub clause-stepped : {E : Type 0} (q : Result Suite E) (s t u : Reached Marked) (x : Clause) (kind : Option Node) (out next : List Clause)
    → Copied (λ e. at_mark (out-Suite (out-Clause x).body).first (maybe_mutants e)) s t (option_map plain_expr (out-Clause x).kind) (option_map plain_expr kind)
    → IfOk q (λ b. Copied suite_mutants t u (plain_suite (out-Clause x).body) (plain_suite b))
    → IsOkAnd q (λ b. Added put_clause out next (clause (option_map plain_expr kind) (out-Clause x).name (plain_suite b)))
    → Stepped put_clause clauses_mutants s u out next (put_clause x)
clause-stepped q s t u x kind out next f h k =
    let n = out-Clause x in
    let g = subst (λ l. Copied (λ e. at_mark l (maybe_mutants e)) s t (option_map plain_expr n.kind) (option_map plain_expr kind)) (sym (header-is n.body)) f in
    with_ok q (λ b i a. record {
      copy = clause (option_map plain_expr kind) n.name (plain_suite b);
      turned = turned-two (λ e c r. clause e n.name c r) (λ r. refl) g i;
      added = a;
    }) h k

pub case-stepped : {E : Type 0} (q : Result Suite E) (s t u : Reached Marked) (x : Case) (p : PatternNode) (guard : Option Node) (out next : List Case)
    → plain_pattern p ≡ plain_pattern (out-Case x).pattern
    → Copied (λ e. at_mark (out-Suite (out-Case x).body).first (maybe_mutants e)) s t (option_map plain_expr (out-Case x).guard) (option_map plain_expr guard)
    → IfOk q (λ b. Copied suite_mutants t u (plain_suite (out-Case x).body) (plain_suite b))
    → IsOkAnd q (λ b. Added put_case out next (case (plain_pattern p) (option_map plain_expr guard) (plain_suite b)))
    → Stepped put_case cases_mutants s u out next (put_case x)
case-stepped q s t u x p guard out next same f h k =
    let n = out-Case x in
    let g = subst (λ l. Copied (λ e. at_mark l (maybe_mutants e)) s t (option_map plain_expr n.guard) (option_map plain_expr guard)) (sym (header-is n.body)) f in
    with_ok q (λ b i a. record {
      copy = case (plain_pattern n.pattern) (option_map plain_expr guard) (plain_suite b);
      turned = turned-two (λ e c r. case (plain_pattern n.pattern) e c r) (λ r. refl) g i;
      added = subst (λ z. Added put_case out next (case z (option_map plain_expr guard) (plain_suite b))) same a;
    }) h k
