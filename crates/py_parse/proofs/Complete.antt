-- The tokens of a normal module lead the machine to that module, with the lines of their places.
use Rattle.std.proofs.Common.{◌≡◌, zero, suc, true, false, [], ◌∷◌, Option, Some, refl, ap, ◌∙◌}
use Rattle.py_token.specs.declared.token.Keyword.TheVariants as word
use Rattle.py_syntax.specs.Tree.{no_exprs, exprs}
use Rattle.py_syntax.specs.Tree.{Stmts, no_stmts, stmt, Suite, suite, OptSuite, no_suite, has_suite, Arms, no_arms, arm, Clauses, no_clauses, clause, Cases, no_cases, case, StmtKind, expr, assign, aug_assign, pass, break, continue, return, raise, assert, global, import, from, if', while, for, try, def, match}
use Rattle.py_syntax.specs.Kinds.{Name, Word, Sign, End}
use Rattle.py_syntax.specs.Tokens.{tokens}
use Rattle.py_syntax.specs.Statements.{in_place_mark, target_tokens, option_tokens, assert_tokens, name_list, alias_list, is_simple, begins_simple, EndLines, ShareLine, NormalStmts, NormalKind, NormalSuite, NormalOpt, NormalArms, NormalClauses, NormalCases}
use Rattle.py_syntax.specs.Spelling.{module_tokens}
use Rattle.py_statements.specs.Open.{top}
use Rattle.py_statements.specs.Machine.{State, Over, begun}
use Rattle.py_parse.specs.Places.{Source, stmts_past, run, relined}
use Rattle.py_parse.proofs.Complete.OnLines.{plain, after}
use Rattle.py_parse.proofs.Complete.Simple.{told, told_expr, told_assign, told_aug_assign, told_pass, told_break, told_continue, told_return, told_raise, told_assert}
use Rattle.py_parse.proofs.Complete.ListedNames.{told_global, told_import, told_from}
use Rattle.py_parse.proofs.Complete.Suites.{ready_line, StmtsBack, MoreBack, no_more, KindBack, stmts_on, more_on, SuiteBack, SharedBack, block_back, shared_end, shared_more, shared_back}
use Rattle.py_parse.proofs.Complete.Compound.{OptBack, AllArms, AllClauses, AllCases, back_if, back_while, back_for, back_def, back_try, whole_try, back_match}
pub mod Lengths
pub mod TreeLines
pub mod OnLines
pub mod Simple
pub mod ListedNames
pub mod Suites
pub mod Heads
pub mod Params
pub mod Compound
pub mod LineTokens
pub mod Headers
pub mod TokenLines
pub mod ListLines

abbrev AreStmts : Stmts → Type 0
AreStmts no_stmts = ⊥
AreStmts (stmt f l k e ss) = Unit {0}

mutual
  pub reads_stmts : (ss : Stmts) → EndLines ss → NormalStmts ss → StmtsBack ss
  reads_stmts no_stmts ends n = no_more
  reads_stmts (stmt f l k e ss) ends n = stmts_on f l k e ss (is_simple k) (reads_kind k n.0) ends.0 (reads_stmts ss ends.1 n.1) (λ h. reads_more ss h ends.1 n.1)

  reads_more : (ss : Stmts) → begins_simple ss ≡ true → EndLines ss → NormalStmts ss → MoreBack ss
  reads_more no_stmts h ends n = absurd cc
  reads_more (stmt f l k e ss) h ends n = more_on f l k e ss (is_simple k) h (reads_kind k n.0) ends.0 (reads_stmts ss ends.1 n.1) (λ h. reads_more ss h ends.1 n.1)

  -- statements that share the line of a header
  reads_shared : (ss : Stmts) → AreStmts ss → ShareLine ss → NormalStmts ss → SharedBack ss
  reads_shared no_stmts some share n = absurd some
  reads_shared (stmt f l k e no_stmts) some share n = shared_end f l k e (is_simple k) (reads_kind k n.0) share.0 share.1
  reads_shared (stmt f l k e (stmt f' l' k' e' ss)) some share n = shared_more f l k e (stmt f' l' k' e' ss) (is_simple k) (reads_kind k n.0) share.0 share.1 share.2 (reads_shared (stmt f' l' k' e' ss) tt share.3 n.1)

  reads_kind : (k : StmtKind) → NormalKind k → KindBack (is_simple k) k
  reads_kind (expr e) n = (told (tokens e []) (expr e) (told_expr e n), λ src p. refl)
  reads_kind (assign no_exprs e) n = absurd n
  reads_kind (assign (exprs t ts) e) n = (told (target_tokens (exprs t ts) (tokens e [])) (assign (exprs t ts) e) (told_assign t ts e n.0 n.1), λ src p. refl)
  reads_kind (aug_assign t op e) n = (told (tokens t (Sign (in_place_mark op) ∷ tokens e [])) (aug_assign t op e) (told_aug_assign t op e n.0 n.1 n.2), λ src p. refl)
  reads_kind pass n = (told (Word word.Pass ∷ []) pass told_pass, λ src p. refl)
  reads_kind break n = (told (Word word.Break ∷ []) break told_break, λ src p. refl)
  reads_kind continue n = (told (Word word.Continue ∷ []) continue told_continue, λ src p. refl)
  reads_kind (return e) n = (told (Word word.Return ∷ option_tokens e) (return e) (told_return e n), λ src p. refl)
  reads_kind (raise e) n = (told (Word word.Raise ∷ option_tokens e) (raise e) (told_raise e n), λ src p. refl)
  reads_kind (assert e w) n = (told (Word word.Assert ∷ tokens e (assert_tokens w)) (assert e w) (told_assert e w n.0 n.1), λ src p. refl)
  reads_kind (global xs) n = (told (Word word.Global ∷ name_list xs) (global xs) (told_global xs n), λ src p. refl)
  reads_kind (import names) n = (told (Word word.Import ∷ alias_list names) (import names) (told_import names n), λ src p. refl)
  reads_kind (from m names) n = (told (Word word.From ∷ Name m ∷ Word word.Import ∷ alias_list names) (from m names) (told_from m names n), λ src p. refl)
  reads_kind (if' no_arms o) n = absurd n
  reads_kind (if' (arm t s arms) o) n = (back_if t s arms o n.0.0 (reads_suite s n.0.1) n.0.2 (reads_arms arms n.0.2) (reads_opt o n.1), λ src p. refl)
  reads_kind (while t s o) n = (back_while t s o n.0 (reads_suite s n.1) (reads_opt o n.2), λ src p. refl)
  reads_kind (for t e s o) n = (back_for t e s o n.0 n.1 n.2 (reads_suite s n.3) (reads_opt o n.4), λ src p. refl)
  reads_kind (try s cs o f) n = (back_try s cs o f n.0 (reads_suite s n.1) n.2 (reads_clauses cs n.2) (reads_opt o n.3) (reads_opt f n.4), whole_try s cs o f n.0)
  reads_kind (def x ps ds c s) n = (back_def x ps ds c s n.0 (reads_suite s n.1), λ src p. refl)
  reads_kind (match e last no_cases) n = absurd n
  reads_kind (match e last (case c u s cs)) n = (back_match e last c u s cs n.0 n.1 (reads_cases (case c u s cs) n.1), λ src p. refl)

  reads_suite : (s : Suite) → NormalSuite s → SuiteBack s
  reads_suite (suite first last inline no_stmts) n = absurd n
  reads_suite (suite first last true (stmt f l k e ss)) n = shared_back first last (stmt f l k e ss) (reads_shared (stmt f l k e ss) tt n.0 n.1)
  reads_suite (suite first last false (stmt f l k e ss)) n = block_back first last f l k e ss (reads_stmts (stmt f l k e ss) n.0 n.1)

  reads_opt : (o : OptSuite) → NormalOpt o → OptBack o
  reads_opt no_suite n = tt
  reads_opt (has_suite s) n = reads_suite s n

  reads_arms : (arms : Arms) → NormalArms arms → AllArms arms
  reads_arms no_arms n = tt
  reads_arms (arm t s arms) n = (reads_suite s n.1, reads_arms arms n.2)

  reads_clauses : (cs : Clauses) → NormalClauses cs → AllClauses cs
  reads_clauses no_clauses n = tt
  reads_clauses (clause e x s cs) n = (reads_suite s n.1, reads_clauses cs n.2)

  reads_cases : (cs : Cases) → NormalCases cs → AllCases cs
  reads_cases no_cases n = tt
  reads_cases (case c u s cs) n = (reads_suite s n.2, reads_cases cs n.3)

-- ---- a module

pub complete : (src : Source) (m : Stmts) → EndLines m → NormalStmts m → run src begun (module_tokens m) 0 ≡ Some (Over (relined src m 0))
complete src m ends n =
    let t = reads_stmts m ends n src begun (top no_stmts) tt (ready_line (top no_stmts)) (plain End ∷ []) zero in
    let p = stmts_past m zero in
    t.reads ∙ ap (λ (w : Option State). after src w [] (suc p)) (t.ready.takes End (src.first p) (src.last p) refl)
