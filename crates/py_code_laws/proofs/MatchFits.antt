-- The places of the code of `match` have one number of operands each, where those of its suites have.
use Rattle.std.proofs.Common.{ℕ, suc, ◌+◌, Bool, false, List, length, Option, refl, ap, ◌∙◌, arith}
use Rattle.py_syntax.specs.Functions.{Function}
use Rattle.py_syntax.specs.Tree.{Expr, Pattern, Stmts, suite, Cases, no_cases, case, match}
use Rattle.py_code.specs.declared.instr.Instr.TheVariants.{Pop, Copy, Goto}
use Rattle.py_compile_expr.specs.Cells.{marks, plain}
use Rattle.py_compile_expr.specs.Expressions.{expr_size}
use Rattle.py_compile_expr.specs.Patterns.{Site, captured, pattern_size, names_size}
use Rattle.py_compile.specs.Proper.{ProperPattern}
use Rattle.py_compile.specs.Statements.{guard_size, stmts_size, cases_size}
use Rattle.py_compile.specs.Ways.{in_hand}
use Rattle.py_code_laws.proofs.Blocks.{resize}
use Rattle.py_code_laws.proofs.Pieces.{moved, handled_before, calm, jump, finish, after, only, placed}
use Rattle.py_code_laws.proofs.ExpressionFits.{expr_fits}
use Rattle.py_code_laws.proofs.PatternFits.{pattern_fits, names_fit}
use Rattle.py_code_laws.proofs.StatementFits.{guard_fits}
use Rattle.py_code_laws.proofs.Suites.{suite_at}
use Rattle.py_code_laws.proofs.Forms.{StmtsFit, KindFits, CasesFit}

module _ {units : ℕ} (fs : List Function) where
  pub no_cases_form : CasesFit units fs no_cases
  no_cases_form w p q end held at same =
      let d = w.depth in
      only (calm (plain Pop) 1 0 d (suc d) d refl (omega arith) (omega arith) tt (omega arith) (finish at refl))

  pub case_form : (t : Pattern) (guard : Option Expr) (first last : ℕ) (inline : Bool) (body : Stmts) (rest : Cases) → ProperPattern t → StmtsFit units fs body → CasesFit units fs rest
      → CasesFit units fs (case t guard (suite first last inline body) rest)
  case_form t guard first last inline body rest ok b r w p q end held at same =
      let d = w.depth in
      let c = length (captured t) in
      let bind = p + 2 + pattern_size t in
      let named = bind + names_size (captured t) in
      let chosen = named + guard_size guard in
      let begin = chosen + 1 in
      let close = begin + stmts_size (in_hand w) body in
      let next = close + 1 in
      let site : Site = record { guard = w.guard; waiting = 0; fail = next; extra = 0 } in
      resize (omega arith) (only (calm (marks first) 0 0 (suc d) (suc d) (suc d) refl (omega arith) (omega arith) tt (omega arith)
      (calm (plain (Copy 0)) 1 2 d (suc d) (suc (suc d)) refl (omega arith) (omega arith) tt (omega arith)
      (moved (omega arith) (placed refl (pattern_fits site d (suc d) (p + 2) (suc (suc d)) bind (c + suc d) t ok refl (omega arith) (omega arith) (omega arith) (omega arith) (omega arith))
      (after refl (omega arith) (names_fit w.guard d bind (c + suc d) named (suc d) (captured t) refl refl (omega arith))
      (placed refl (guard_fits w.guard d named (suc d) chosen next guard refl (omega arith) (omega arith))
      (calm (plain Pop) 1 0 d (suc d) d refl (omega arith) (omega arith) tt (omega arith)
      (placed refl (b w begin close held refl)
      (jump (plain (Goto end)) 0 0 d d (suc d) d end false refl (omega arith) (omega arith) (omega arith) tt (omega arith) (omega arith)
      (r w next q end held (omega arith) same) (λ l there h. ap l.depth same ∙ h.ends))
      (λ l there h. suite_at w q q close l (omega arith) (omega arith) there.0 h.handles h.also)))
      (λ l there h. record { ends = there.0; handles = handled_before w.guard q chosen d l (omega arith) h.handles; also = there.1.1.1.0 })))
      (λ l there h. record { ends = there.0; handles = handled_before w.guard q bind d l (omega arith) h.handles; also = there.1.1.1.1.1.0 }))))))

  pub match_form : (line : ℕ) (subject : Expr) (header : ℕ) (cases : Cases) → CasesFit units fs cases → KindFits units fs line (match subject header cases)
  match_form line subject header cases c w p q held at =
      let d = w.depth in
      let first = p + 1 + expr_size subject in
      let end = first + cases_size (in_hand w) cases in
      resize (omega arith) (only (calm (marks line) 0 0 d d d refl (omega arith) (omega arith) tt (omega arith)
      (after refl (omega arith) (expr_fits w.guard d (p + 1) d first subject refl (omega arith))
      (c w first q end held (omega arith) (omega arith)))))
