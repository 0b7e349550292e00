-- The kinds of statements as the code holds them.
use Rattle.std.specs.Prelude.{◌==◌}
use Rattle.std.proofs.Common.{◌≡◌, ℕ, suc, Bool, true, not, List, [], ◌∷◌, length, Option, Some, None, Vec, refl, sym, ap, ◌∙◌, arith}
use Rattle.std.proofs.lemmas.Bool.{ne_eqb}
use Rattle.std.specs.Global.{Global}
use Rattle.py_syntax.specs.declared.expr.Expr.{Expr as Node}
use Rattle.py_syntax.specs.declared.stmt.StmtKind as kind
use Rattle.py_syntax.specs.declared.stmt.Arm.{Arm}
use Rattle.py_syntax.specs.declared.stmt.Clause.{Clause}
use Rattle.py_syntax.specs.declared.stmt.Case.{Case}
use Rattle.py_syntax.specs.declared.stmt.Suite.{Suite as SuiteNode}
use Rattle.py_syntax.specs.Tree.{Text, if', while, for, try, no_suite, no_clauses, clause, Clauses, OptSuite, Suite}
use Rattle.py_syntax.specs.View.{plain_expr, plain_exprs, plain_kind, plain_suite, plain_opt_suite, plain_arms, plain_clauses, plain_cases}
use Rattle.py_statements.specs.Machine.{is_whole}
use Rattle.py_statements.specs.Listed.{is_some}
use Rattle.py_statements.specs.ViewLists.{some_exprs, some_arms, some_clauses, some_cases}
use Rattle.py_statements.proofs.View.OneMore.{plain-arms, plain-clauses, plain-cases}

pub plain-If : (as' : Vec Arm Global) (o : Option SuiteNode) → plain_kind (kind.If as' o) ≡ if' (plain_arms as'.items) (plain_opt_suite o)
plain-If as' None = search kind.the_lemmas
plain-If as' (Some s) = search kind.the_lemmas

pub plain-While : (t : Node) (b : SuiteNode) (o : Option SuiteNode) → plain_kind (kind.While t b o) ≡ while (plain_expr t) (plain_suite b) (plain_opt_suite o)
plain-While t b None = search kind.the_lemmas
plain-While t b (Some s) = search kind.the_lemmas

pub plain-For : (t e : Node) (b : SuiteNode) (o : Option SuiteNode) → plain_kind (kind.For t e b o) ≡ for (plain_expr t) (plain_expr e) (plain_suite b) (plain_opt_suite o)
plain-For t e b None = search kind.the_lemmas
plain-For t e b (Some s) = search kind.the_lemmas

pub plain-Try : (b : SuiteNode) (cs : Vec Clause Global) (o f : Option SuiteNode) → plain_kind (kind.Try b cs o f) ≡ try (plain_suite b) (plain_clauses cs.items) (plain_opt_suite o) (plain_opt_suite f)
plain-Try b cs None None = search kind.the_lemmas
plain-Try b cs None (Some s) = search kind.the_lemmas
plain-Try b cs (Some s) None = search kind.the_lemmas
plain-Try b cs (Some s) (Some u) = search kind.the_lemmas

-- ---- what is in a list

some_length : (n : ℕ) → not (suc n == 0) ≡ true
some_length n = ap not (ne_eqb (suc n) 0 (λ e. absurd (omega arith)))

pub any_names : (xs : List Text) → not (length xs == 0) ≡ is_some xs
any_names [] = refl
any_names (x ∷ xs) = some_length (length xs)

pub any_exprs : (xs : List Node) → not (length xs == 0) ≡ some_exprs (plain_exprs xs)
any_exprs [] = refl
any_exprs (x ∷ xs) = some_length (length xs)

pub any_arms : (xs : List Arm) → not (length xs == 0) ≡ some_arms (plain_arms xs)
any_arms [] = refl
any_arms (x ∷ xs) = some_length (length xs) ∙ sym (ap some_arms (plain-arms x xs))

pub any_clauses : (xs : List Clause) → not (length xs == 0) ≡ some_clauses (plain_clauses xs)
any_clauses [] = refl
any_clauses (x ∷ xs) = some_length (length xs) ∙ sym (ap some_clauses (plain-clauses x xs))

pub any_cases : (xs : List Case) → not (length xs == 0) ≡ some_cases (plain_cases xs)
any_cases [] = refl
any_cases (x ∷ xs) = some_length (length xs) ∙ sym (ap some_cases (plain-cases x xs))

-- ---- what is done where they are empty

pub whole_try : (b : SuiteNode) (cs : Vec Clause Global) (o : Option SuiteNode) (some : Bool) → some ≡ some_clauses (plain_clauses cs.items) → some ≡ is_whole (plain_kind (kind.Try b cs o None))
whole_try b cs o some h = h ∙ go (plain_suite b) (plain_clauses cs.items) (plain_opt_suite o) ∙ sym (ap is_whole (plain-Try b cs o None))
  where
    go : (b : Suite) (cs : Clauses) (o : OptSuite) → some_clauses cs ≡ is_whole (try b cs o no_suite)
    go b no_clauses o = refl
    go b (clause e x s cs) o = refl
