-- The places of the code of `if`, `while` and `for` have one number of operands each, where those of their suites have.
use Rattle.std.proofs.Common.{◌≡◌, ℕ, suc, ◌+◌, Bool, true, false, List, Option, Some, None, refl, ap, ◌∙◌, arith}
use Rattle.py_syntax.specs.Functions.{Function}
use Rattle.py_syntax.specs.Tree.{Expr, Stmts, suite, OptSuite, Arms, no_arms, arm, if', while, for}
use Rattle.py_code.specs.declared.instr.Instr.TheVariants.{Goto, IfFalse, Walk, Next}
use Rattle.py_compile_expr.specs.Cells.{marks, plain}
use Rattle.py_compile_expr.specs.Expressions.{expr_size}
use Rattle.py_compile_expr.specs.Targets.{target_size}
use Rattle.py_compile.specs.Statements.{stmts_size, opt_size, arms_size}
use Rattle.py_compile.specs.Ways.{under, in_loop, in_hand}
use Rattle.py_code_laws.proofs.Blocks.{resize}
use Rattle.py_code_laws.proofs.Pieces.{elsewhere, moved, handled_before, handled_above, step, calm, fork, jump, turn, jump_back, finish, after, only, placed, also_by}
use Rattle.py_code_laws.proofs.ExpressionFits.{expr_fits}
use Rattle.py_code_laws.proofs.TargetFits.{target_fits}
use Rattle.py_code_laws.proofs.StatementFits.{Held}
use Rattle.py_code_laws.proofs.Suites.{outs_before, outs_under, outs_loop, suite_at}
use Rattle.py_code_laws.proofs.Forms.{StmtsFit, KindFits, OptFits, ArmsFit}

pub held_under : (h : Option ℕ) (d : ℕ) → Held h d → Held h (suc d)
held_under None d k = tt
held_under (Some below) d k = omega (arith, k)

module _ {units : ℕ} (fs : List Function) where
  pub no_arms_form : ArmsFit units fs no_arms
  no_arms_form w p q end held at le = finish (omega arith) refl

  pub arm_form : (test : Expr) (first last : ℕ) (inline : Bool) (body : Stmts) (rest : Arms) → StmtsFit units fs body → ArmsFit units fs rest → ArmsFit units fs (arm test (suite first last inline body) rest)
  arm_form test first last inline body rest b r w p q end held at le =
      let d = w.depth in
      let begin = p + 1 + expr_size test + 1 in
      let close = begin + stmts_size (in_hand w) body in
      let next = close + 1 in
      resize (omega arith) (only (calm (marks first) 0 0 d d d refl (omega arith) (omega arith) tt (omega arith)
      (after refl (omega arith) (expr_fits w.guard d (p + 1) d (p + 1 + expr_size test) test refl (omega arith))
      (fork (plain (IfFalse next)) 1 0 0 d (suc d) d d next false refl (omega arith) (omega arith) (omega arith) (omega arith) tt (omega arith) (omega arith)
      (placed refl (b w begin close held refl)
      (jump (plain (Goto end)) 0 0 d d d d end false refl (omega arith) (omega arith) (omega arith) tt (omega arith) (omega arith)
      (r w next q end held (omega arith) le) (λ l there h. h.also.stands))
      (λ l there h. suite_at w q end close l (omega arith) (omega arith) there.0 h.handles h.also.outs))
      (λ l there h. there.1.1.0)))))

  pub if_form : (l : ℕ) (arms : Arms) (orelse : OptSuite) → ArmsFit units fs arms → OptFits units fs orelse → KindFits units fs l (if' arms orelse)
  if_form line arms orelse a o w p q held at =
      let rest = p + arms_size (in_hand w) arms in
      let end = rest + opt_size (in_hand w) orelse in
      let same : end ≡ q = omega arith in
      only (placed refl (a w p rest end held refl (omega arith)) (o w rest q held same)
      (λ l there h. record {
        ends = there.0;
        handles = handled_before w.guard q rest w.depth l (omega arith) h.handles;
        also = record { stands = ap l.depth same ∙ h.ends; outs = outs_before w q end l (omega arith) h.also };
      }))

  pub while_form : (line : ℕ) (test : Expr) (first last : ℕ) (inline : Bool) (body : Stmts) (orelse : OptSuite) → StmtsFit units fs body → OptFits units fs orelse
      → KindFits units fs line (while test (suite first last inline body) orelse)
  while_form line test first last inline body orelse b o w p q held at =
      let d = w.depth in
      let mid = p + 3 + expr_size test in
      let begin = mid + 1 in
      let back = begin + stmts_size (in_hand w) body in
      let rest = back + 1 in
      let end = rest + opt_size (in_hand w) orelse in
      let same : end ≡ q = omega arith in
      resize (omega arith) (only (calm (marks line) 0 0 d d d refl (omega arith) (omega arith) tt (omega arith)
      (jump (plain (Goto (p + 3))) 0 0 d d d d (p + 3) false refl (omega arith) (omega arith) (omega arith) tt (omega arith) (omega arith)
      (turn line d (p + 2) (omega arith) (omega arith)
      (moved (omega arith) (after refl (omega arith) (expr_fits w.guard d (p + 3) d mid test refl (omega arith))
      (fork (plain (IfFalse rest)) 1 0 0 d (suc d) d d rest false refl (omega arith) (omega arith) (omega arith) (omega arith) tt (omega arith) (omega arith)
      (placed refl (b (in_loop w 0 end back) begin back held refl)
      (jump_back d d (p + 2) (omega arith) (also_by (λ l h. h.also) (o w rest q held same)) (λ l h. (h.here, h.mark)))
      (λ l there h. record {
        ends = there.0;
        handles = handled_before w.guard q back d l (omega arith) h.handles;
        also = outs_loop w 0 end back d l (omega arith) (ap l.depth same ∙ h.ends) (omega arith) there.0 (outs_before w q back l (omega arith) h.also.also).returns;
      }))
      (λ l there h. there.1.1.0)))))
      (λ l there h. elsewhere l there.1.0 (omega arith)))))

  pub for_form : (line : ℕ) (target over : Expr) (first last : ℕ) (inline : Bool) (body : Stmts) (orelse : OptSuite) → StmtsFit units fs body → OptFits units fs orelse
      → KindFits units fs line (for target over (suite first last inline body) orelse)
  for_form line target over first last inline body orelse b o w p q held at =
      let d = w.depth in
      let mid = p + 1 + expr_size over in
      let again = mid + 2 in
      let begin = again + 2 + target_size target in
      let back = begin + stmts_size (in_hand w) body in
      let rest = back + 1 in
      let end = rest + opt_size (in_hand w) orelse in
      let same : end ≡ q = omega arith in
      resize (omega arith) (only (calm (marks line) 0 0 d d d refl (omega arith) (omega arith) tt (omega arith)
      (after refl (omega arith) (expr_fits w.guard d (p + 1) d mid over refl (omega arith))
      (step (plain Walk) 1 1 d (suc d) (suc d) true refl (omega arith) (omega arith) (omega arith) tt (omega arith)
      (jump (plain (Goto (again + 1))) 0 0 (suc d) (suc d) (suc d) (suc d) (again + 1) false refl (omega arith) (omega arith) (omega arith) tt (omega arith) (omega arith)
      (moved (omega arith) (turn line (suc d) again refl (omega arith)
      (fork (plain (Next rest)) 1 2 0 d (suc d) (suc (suc d)) d rest true refl (omega arith) (omega arith) (omega arith) (omega arith) tt (omega arith) (omega arith)
      (moved (omega arith) (after refl (omega arith) (target_fits w.guard d (again + 2) (suc d) begin target refl (omega arith))
      (placed refl (b (in_loop (under w) 1 end back) begin back (held_under w.handled w.depth held) refl)
      (jump_back (suc d) d again (omega arith) (also_by (λ l h. h.also) (o w rest q held same)) (λ l h. (h.here, h.mark)))
      (λ l there h. record {
        ends = there.0;
        handles = handled_above w.guard back d (suc d) l (omega arith) (handled_before w.guard q back d l (omega arith) h.handles);
        also = outs_loop (under w) 1 end back d l (omega arith) (ap l.depth same ∙ h.ends) (omega arith) there.0 (outs_under w back l (outs_before w q back l (omega arith) h.also.also)).returns;
      }))))
      (λ l there h. there.1.1.1.0))))
      (λ l there h. there.1.0))))))
