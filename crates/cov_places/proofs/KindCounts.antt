-- The count of the mutants of a `def`.
use Rattle.std.proofs.Common.{◌≡◌, ℕ, List, Bool, Vec, Global, refl}
use Rattle.py_syntax.specs.declared.expr.Expr.{Expr as Node}
use Rattle.py_syntax.specs.declared.stmt.StmtKind.{StmtKind}
use Rattle.py_syntax.specs.declared.stmt.StmtKind as kind_
use Rattle.py_syntax.specs.declared.stmt.Suite.{Suite}
use Rattle.py_syntax.specs.Tree.{Text, def}
use Rattle.py_syntax.specs.View.{plain_exprs, plain_kind, plain_suite}
use Rattle.py_changes.specs.Mutants.{at_mark, exprs_mutants, suite_mutants, kind_mutants}
use Rattle.cov_places.specs.Counting.{counted}
use Rattle.cov_places.proofs.Counts.{count-two}
use Rattle.cov_places.proofs.KindForms.{def-is}

pub count-def : (l n m k : ℕ) (kind : StmtKind) (x : Text) (ps : Vec Text Global) (ds : Vec Node Global) (c : Bool) (b : Suite)
    (es : List Node) → kind ≡ kind_.Def x ps ds c b → es ≡ ds.items
    → m ≡ counted n (at_mark l (exprs_mutants (plain_exprs es))) → k ≡ counted m (suite_mutants (plain_suite b))
    → k ≡ counted n (kind_mutants l (plain_kind kind))
count-def l n m k kind x ps ds c b es is e h i =
    count-two (kind_mutants l) (λ z. at_mark l (exprs_mutants z)) suite_mutants (λ z s. def x ps.items z c s) n m k (plain_exprs es) (plain_suite b) (plain_kind kind)
    (def-is kind x ps ds c b ps.items es is refl e) refl h i
