-- The places of the code of `try` have one number of operands each, where those of its suites have.
use Rattle.std.proofs.Common.{◌≡◌, ℕ, suc, ◌+◌, ◌<◌, ◌≤◌, Bool, true, false, List, ◌++◌, Option, Some, None, refl, ap, ◌∙◌, arith}
use Rattle.py_syntax.specs.Functions.{Function}
use Rattle.py_syntax.specs.Tree.{Text, Expr, Stmts, Suite as TreeSuite, suite, OptSuite, no_suite, has_suite, Clauses, no_clauses, clause, try}
use Rattle.py_code.specs.declared.instr.Instr.TheVariants.{Pop, Goto, Caught, Uncaught, Ending, Settle, Release}
use Rattle.py_compile_expr.specs.Cells.{store, unset, marks, plain, Cell, put}
use Rattle.py_compile.specs.Statements.{caught_size, stmts_size, opt_size, clauses_size, exits_code}
use Rattle.py_compile.specs.Ways.{Ways, under, in_finally, in_try, in_clause, in_hand}
use Rattle.py_code_laws.proofs.Blocks.{Block, resize}
use Rattle.py_code_laws.proofs.Pieces.{Run, At, Any, elsewhere, moved, four_moved, handled_before, handled_above, calm, jump, stop, spread, finish, only, placed}
use Rattle.py_code_laws.proofs.StatementFits.{caught_fits}
use Rattle.py_code_laws.proofs.Suites.{Outs, Suite, outs_before, outs_under, outs_clause, outs_try, outs_finally, suite_at, exits_fit, exits_then}
use Rattle.py_code_laws.proofs.Forms.{StmtsFit, KindFits, OptFits, ClausesFit}
use Rattle.py_code_laws.proofs.BranchFits.{held_under}

-- ---- a body, its `else` and its clauses

bare : {units n k : ℕ} {xs ys : List Cell} (w : Ways) (p r q : ℕ) → r ≡ p + n → r ≤ q → Suite units w p r n xs → Suite units w r q k ys → Suite units w p q (n + k) (xs ++ ys)
bare w p r q at le a b = only (placed at a b (λ l there h. suite_at w q q r l le le there.0 h.handles h.also))

guarded : {units n k j : ℕ} {xs ys zs : List Cell} (w : Ways) (p r s q end : ℕ) → r ≡ p + n → s ≡ r + k → r ≤ s → s < q → end ≡ q → Suite units (in_try w (s + 1)) p r n xs → Suite units w r s k ys
    → Block units (Run w.guard w.depth q w.depth (Outs w q)) (At (s + 1) (suc w.depth) Any) (s + 1) j zs
    → Suite units w p q (n + (k + (1 + j))) (xs ++ (ys ++ put w.guard (plain (Goto end)) zs))
guarded w p r s q end at after le lt same a b c =
    let d = w.depth in
    only (placed at a
    (placed after b
    (jump (plain (Goto end)) 0 0 d d (suc d) d end false refl (omega arith) (omega arith) (omega arith) tt (omega arith) lt c (λ l there h. ap l.depth same ∙ h.ends))
    (λ l there h. suite_at w q q s l (omega arith) (omega arith) there.0 h.handles h.also))
    (λ l there h. record { ends = there.0; handles = (omega arith, there.1.1.0, omega arith); also = outs_try w (s + 1) r l (outs_before w q r l (omega arith) h.also) }))

-- ---- and a `finally`

finally_after : {units n k : ℕ} {xs ys : List Cell} (w : Ways) (p normal settle q : ℕ) → normal ≡ p + n → settle ≡ normal + 1 + k → settle + 4 ≡ q → Suite units (in_finally w (normal + 1)) p normal n xs → Suite units (under w) (normal + 1) settle k ys
    → Suite units w p q (n + (1 + (k + (1 + 3)))) (xs ++ put w.guard (plain Ending) (ys ++ put w.guard (plain Settle) (exits_code w (settle + 1))))
finally_after w p normal settle q at after is a b =
    let d = w.depth in
    only (placed at a
    (calm (plain Ending) 0 1 d d (suc d) refl (omega arith) (omega arith) tt (omega arith)
    (placed after b
    (spread (plain Settle) (suc d) d refl (omega arith) (omega arith) tt (omega arith) (exits_fit w (settle + 1) q (omega arith)))
    (λ l there h. record {
      ends = there.0;
      handles = handled_above w.guard settle d (suc d) l (omega arith) (handled_before w.guard q settle d l (omega arith) h.handles);
      also = outs_under w settle l (outs_before w q settle l (omega arith) h.also);
    })))
    (λ l there h. record { ends = there.0; handles = (omega arith, there.1.0, omega arith); also = outs_finally w (normal + 1) normal l there.1.0 (omega arith) }))

module _ {units : ℕ} (fs : List Function) where
  -- ---- clauses

  pub no_clauses_form : ClausesFit units fs no_clauses
  no_clauses_form w p q end held at same =
      let d = w.depth in
      only (stop (plain Uncaught) 1 1 d (suc d) d true refl (omega arith) (omega arith) (omega arith) tt (omega arith) (finish at refl))

  pub clause_form : (kind : Option Expr) (first last : ℕ) (inline : Bool) (body : Stmts) (rest : Clauses) → StmtsFit units fs body → ClausesFit units fs rest
      → ClausesFit units fs (clause kind None (suite first last inline body) rest)
  clause_form kind first last inline body rest b r w p q end held at same =
      let d = w.depth in
      let begin = p + 1 + caught_size kind in
      let close = begin + stmts_size true body in
      let next = close + 2 in
      resize (omega arith) (only (calm (marks first) 0 0 (suc d) (suc d) (suc d) refl (omega arith) (omega arith) tt (omega arith)
      (placed refl (caught_fits w.guard d (p + 1) d begin next kind refl (omega arith) (omega arith))
      (placed refl (b (in_clause w) begin close (omega arith) refl)
      (calm (plain Pop) 1 0 d (suc d) d refl (omega arith) (omega arith) tt (omega arith)
      (jump (plain (Goto end)) 0 0 d d (suc d) d end false refl (omega arith) (omega arith) (omega arith) tt (omega arith) (omega arith)
      (moved (omega arith) (r w next q end held (omega arith) same)) (λ l there h. ap l.depth same ∙ h.ends)))
      (λ l there h. record {
        ends = there.0;
        handles = handled_above w.guard close d (suc d) l (omega arith) (handled_before w.guard q close d l (omega arith) h.handles);
        also = outs_clause w close l (outs_before w q close l (omega arith) h.also);
      }))
      (λ l there h. record { ends = there.0; handles = handled_before w.guard q begin d l (omega arith) h.handles; also = elsewhere l there.1.1.1.0 (omega arith) }))))

  pub named_clause_form : (kind : Option Expr) (x : Text) (first last : ℕ) (inline : Bool) (body : Stmts) (rest : Clauses) → StmtsFit units fs body → ClausesFit units fs rest
      → ClausesFit units fs (clause kind (Some x) (suite first last inline body) rest)
  named_clause_form kind x first last inline body rest b r w p q end held at same =
      let d = w.depth in
      let found = p + 1 + caught_size kind in
      let begin = found + 2 in
      let close = begin + stmts_size true body in
      let release = close + 1 in
      let next = release + 7 in
      resize (omega arith) (only (calm (marks first) 0 0 (suc d) (suc d) (suc d) refl (omega arith) (omega arith) tt (omega arith)
      (placed refl (caught_fits w.guard d (p + 1) d found next kind refl (omega arith) (omega arith))
      (calm (plain Caught) 1 2 d (suc d) (suc (suc d)) refl (omega arith) (omega arith) tt (omega arith)
      (calm (store x) 1 0 (suc d) (suc (suc d)) (suc d) refl (omega arith) (omega arith) tt (omega arith)
      (moved (omega arith) (placed refl (b (in_finally (in_clause w) release) begin close (omega arith) refl)
      (calm (plain Ending) 0 1 (suc d) (suc d) (suc (suc d)) refl (omega arith) (omega arith) tt (omega arith)
      (calm (unset x) 0 0 (suc (suc d)) (suc (suc d)) (suc (suc d)) refl (omega arith) (omega arith) tt (omega arith)
      (spread (plain Release) (suc (suc d)) (suc d) refl (omega arith) (omega arith) tt (omega arith)
      (four_moved (omega arith) (exits_then (under w) (release + 2)
      (calm (plain Pop) 1 0 d (suc d) d refl (omega arith) (omega arith) tt (omega arith)
      (jump (plain (Goto end)) 0 0 d d (suc d) d end false refl (omega arith) (omega arith) (omega arith) tt (omega arith) (omega arith)
      (moved (omega arith) (r w next q end held (omega arith) same)) (λ l there h. ap l.depth same ∙ h.ends)))
      (λ l there h. record {
        ends = there.0;
        handles = handled_above w.guard (release + 2 + 1 + 1 + 1) d (suc d) l (omega arith) (handled_before w.guard q (release + 2 + 1 + 1 + 1) d l (omega arith) h.handles);
        also = outs_under w (release + 2 + 1 + 1 + 1) l (outs_before w q (release + 2 + 1 + 1 + 1) l (omega arith) h.also);
      }))))))
      (λ l there h. record { ends = there.0; handles = (omega arith, there.1.0, omega arith); also = outs_finally (in_clause w) release close l there.1.0 (omega arith) })))))
      (λ l there h. record { ends = there.0; handles = handled_before w.guard q found d l (omega arith) h.handles; also = elsewhere l there.1.1.1.1.1.1.1.1.1.1.1.0 (omega arith) }))))

  -- ---- the whole

  module _ (line first last : ℕ) (inline : Bool) (body : Stmts) (orelse : OptSuite) (b : StmtsFit units fs body) (o : OptFits units fs orelse) where
    bare_form : KindFits units fs line (try (suite first last inline body) no_clauses orelse no_suite)
    bare_form w p q held at =
        let d = w.depth in
        let r = p + 1 + stmts_size (in_hand w) body in
        only (calm (marks line) 0 0 d d d refl (omega arith) (omega arith) tt (omega arith)
        (bare w (p + 1) r q refl (omega arith) (b w (p + 1) r held refl) (o w r q held (omega arith))))

    bare_finally_form : (x y : ℕ) (i : Bool) (finally : Stmts) → StmtsFit units fs finally → KindFits units fs line (try (suite first last inline body) no_clauses orelse (has_suite (suite x y i finally)))
    bare_finally_form x y i finally f w p q held at =
        let d = w.depth in
        let r = p + 1 + stmts_size (in_hand w) body in
        let normal = p + 1 + (stmts_size (in_hand w) body + opt_size (in_hand w) orelse) in
        let settle = normal + 1 + stmts_size (in_hand w) finally in
        let inner = in_finally w (normal + 1) in
        resize (omega arith) (only (calm (marks line) 0 0 d d d refl (omega arith) (omega arith) tt (omega arith)
        (finally_after w (p + 1) normal settle q refl refl (omega arith)
        (bare inner (p + 1) r normal refl (omega arith) (b inner (p + 1) r held refl) (o inner r normal held (omega arith)))
        (f (under w) (normal + 1) settle (held_under w.handled w.depth held) refl))))

    module _ (kind : Option Expr) (x : Option Text) (s : TreeSuite) (rest : Clauses) (c : ClausesFit units fs (clause kind x s rest)) where
      guarded_form : KindFits units fs line (try (suite first last inline body) (clause kind x s rest) orelse no_suite)
      guarded_form w p q held at =
          let d = w.depth in
          let r = p + 1 + stmts_size (in_hand w) body in
          let e = r + opt_size (in_hand w) orelse in
          let end = e + 1 + clauses_size (in_hand w) (clause kind x s rest) in
          resize (omega arith) (only (calm (marks line) 0 0 d d d refl (omega arith) (omega arith) tt (omega arith)
          (guarded w (p + 1) r e q end refl refl (omega arith) (omega arith) (omega arith) (b (in_try w (e + 1)) (p + 1) r held refl) (o w r e held refl) (c w (e + 1) q end held (omega arith) (omega arith)))))

      guarded_finally_form : (y z : ℕ) (i : Bool) (finally : Stmts) → StmtsFit units fs finally → KindFits units fs line (try (suite first last inline body) (clause kind x s rest) orelse (has_suite (suite y z i finally)))
      guarded_finally_form y z i finally f w p q held at =
          let d = w.depth in
          let r = p + 1 + stmts_size (in_hand w) body in
          let e = r + opt_size (in_hand w) orelse in
          let end = e + 1 + clauses_size (in_hand w) (clause kind x s rest) in
          let normal = p + 1 + (stmts_size (in_hand w) body + opt_size (in_hand w) orelse + 1 + clauses_size (in_hand w) (clause kind x s rest)) in
          let settle = normal + 1 + stmts_size (in_hand w) finally in
          let inner = in_finally w (normal + 1) in
          resize (omega arith) (only (calm (marks line) 0 0 d d d refl (omega arith) (omega arith) tt (omega arith)
          (finally_after w (p + 1) normal settle q (omega arith) refl (omega arith)
          (guarded inner (p + 1) r e normal end refl refl (omega arith) (omega arith) (omega arith) (b (in_try inner (e + 1)) (p + 1) r held refl) (o inner r e held refl) (c inner (e + 1) normal end held (omega arith) (omega arith)))
          (f (under w) (normal + 1) settle (held_under w.handled w.depth held) refl))))

  pub try_form : (line first last : ℕ) (inline : Bool) (body : Stmts) (clauses : Clauses) (orelse : OptSuite) → StmtsFit units fs body → ClausesFit units fs clauses → OptFits units fs orelse
      → KindFits units fs line (try (suite first last inline body) clauses orelse no_suite)
  try_form line first last inline body no_clauses orelse b c o = bare_form line first last inline body orelse b o
  try_form line first last inline body (clause kind x s rest) orelse b c o = guarded_form line first last inline body orelse b o kind x s rest c

  pub try_finally_form : (line first last : ℕ) (inline : Bool) (body : Stmts) (clauses : Clauses) (orelse : OptSuite) (y z : ℕ) (i : Bool) (finally : Stmts)
      → StmtsFit units fs body → ClausesFit units fs clauses → OptFits units fs orelse → StmtsFit units fs finally
      → KindFits units fs line (try (suite first last inline body) clauses orelse (has_suite (suite y z i finally)))
  try_finally_form line first last inline body no_clauses orelse y z i finally b c o f = bare_finally_form line first last inline body orelse b o y z i finally f
  try_finally_form line first last inline body (clause kind x s rest) orelse y z i finally b c o f = guarded_finally_form line first last inline body orelse b o kind x s rest c y z i finally f
