-- What is shown of the code of statements, and of each part of them.
use Rattle.std.proofs.Common.{◌≡◌, ℕ, ◌+◌, List}
use Rattle.py_syntax.specs.Functions.{Function}
use Rattle.py_syntax.specs.Tree.{Stmts, OptSuite, Arms, Clauses, Cases, StmtKind}
use Rattle.py_code.specs.Units.{Code}
use Rattle.py_compile_expr.specs.Stands.{HasAt}
use Rattle.py_compile.specs.Statements.{stmts_size, kind_size, opt_size, arms_size, clauses_size, cases_size, stmts_code, kind_code, opt_code, arms_code, clauses_code, cases_code}
use Rattle.py_compile.specs.Ways.{Ways, in_hand}
use Rattle.py_making_laws.proofs.Places.{Free, Made}
use Rattle.py_making_laws.proofs.Suites.{Around}

abbrev pub StmtsMake : List Code → Code → List Function → Stmts → Type 0
StmtsMake us u fs ss = (w : Ways) (p q : ℕ) → p + stmts_size (in_hand w) ss ≡ q → Around u w q → HasAt u p (stmts_code fs w p ss) → Made us u p (stmts_code fs w p ss)

abbrev pub KindMakes : List Code → Code → List Function → ℕ → StmtKind → Type 0
KindMakes us u fs l k = (w : Ways) (p q : ℕ) → p + kind_size (in_hand w) k ≡ q → Around u w q → HasAt u p (kind_code fs w p l k) → Made us u p (kind_code fs w p l k)

abbrev pub OptMakes : List Code → Code → List Function → OptSuite → Type 0
OptMakes us u fs o = (w : Ways) (p q : ℕ) → p + opt_size (in_hand w) o ≡ q → Around u w q → HasAt u p (opt_code fs w p o) → Made us u p (opt_code fs w p o)

-- where the whole statement ends, no function is made
abbrev pub ArmsMake : List Code → Code → List Function → Arms → Type 0
ArmsMake us u fs xs = (w : Ways) (p q end : ℕ) → p + arms_size (in_hand w) xs ≡ q → Free u end → Around u w q → HasAt u p (arms_code fs w p end xs) → Made us u p (arms_code fs w p end xs)

abbrev pub ClausesMake : List Code → Code → List Function → Clauses → Type 0
ClausesMake us u fs xs = (w : Ways) (p q end : ℕ) → p + clauses_size (in_hand w) xs ≡ q → Free u end → Around u w q → HasAt u p (clauses_code fs w p end xs) → Made us u p (clauses_code fs w p end xs)

abbrev pub CasesMake : List Code → Code → List Function → Cases → Type 0
CasesMake us u fs xs = (w : Ways) (p q end : ℕ) → p + cases_size (in_hand w) xs ≡ q → Free u end → Around u w q → HasAt u p (cases_code fs w p end xs) → Made us u p (cases_code fs w p end xs)
