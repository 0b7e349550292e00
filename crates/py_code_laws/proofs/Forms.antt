-- What is shown of the code of statements, and of each part of them.
use Rattle.std.proofs.Common.{◌≡◌, ℕ, suc, ◌+◌, ◌≤◌, List, Some}
use Rattle.py_syntax.specs.Functions.{Function}
use Rattle.py_syntax.specs.Tree.{Stmts, OptSuite, Arms, Clauses, Cases, StmtKind}
use Rattle.py_compile.specs.Statements.{stmts_size, kind_size, opt_size, arms_size, clauses_size, cases_size, stmts_code, kind_code, opt_code, arms_code, clauses_code, cases_code}
use Rattle.py_compile.specs.Ways.{Ways, in_hand}
use Rattle.py_code_laws.proofs.Blocks.{Layout, Block}
use Rattle.py_code_laws.proofs.Pieces.{Run, At, Any}
use Rattle.py_code_laws.proofs.StatementFits.{Held}
use Rattle.py_code_laws.proofs.Suites.{Outs, Suite}

abbrev pub StmtsFit : ℕ → List Function → Stmts → Type 0
StmtsFit units fs ss = (w : Ways) (p q : ℕ) → Held w.handled w.depth → p + stmts_size (in_hand w) ss ≡ q → Suite units w p q (stmts_size (in_hand w) ss) (stmts_code fs w p ss)

abbrev pub KindFits : ℕ → List Function → ℕ → StmtKind → Type 0
KindFits units fs l k = (w : Ways) (p q : ℕ) → Held w.handled w.depth → p + kind_size (in_hand w) k ≡ q → Suite units w p q (kind_size (in_hand w) k) (kind_code fs w p l k)

abbrev pub OptFits : ℕ → List Function → OptSuite → Type 0
OptFits units fs o = (w : Ways) (p q : ℕ) → Held w.handled w.depth → p + opt_size (in_hand w) o ≡ q → Suite units w p q (opt_size (in_hand w) o) (opt_code fs w p o)

-- where the whole `if` ends, which is at the end of its arms or further on
pub record Ends (w : Ways) (end : ℕ) (l : Layout) : Type 0 where
  pub stands : l.depth end ≡ Some w.depth
  pub outs : Outs w end l

abbrev pub ArmsFit : ℕ → List Function → Arms → Type 0
ArmsFit units fs xs = (w : Ways) (p q end : ℕ) → Held w.handled w.depth → p + arms_size (in_hand w) xs ≡ q → q ≤ end
    → Block units (Run w.guard w.depth q w.depth (Ends w end)) (At p w.depth Any) p (arms_size (in_hand w) xs) (arms_code fs w p end xs)

-- below the exception on top
abbrev pub ClausesFit : ℕ → List Function → Clauses → Type 0
ClausesFit units fs xs = (w : Ways) (p q end : ℕ) → Held w.handled w.depth → p + clauses_size (in_hand w) xs ≡ q → end ≡ q
    → Block units (Run w.guard w.depth q w.depth (Outs w q)) (At p (suc w.depth) Any) p (clauses_size (in_hand w) xs) (clauses_code fs w p end xs)

-- below the subject on top
abbrev pub CasesFit : ℕ → List Function → Cases → Type 0
CasesFit units fs xs = (w : Ways) (p q end : ℕ) → Held w.handled w.depth → p + cases_size (in_hand w) xs ≡ q → end ≡ q
    → Block units (Run w.guard w.depth q w.depth (Outs w q)) (At p (suc w.depth) Any) p (cases_size (in_hand w) xs) (cases_code fs w p end xs)
