-- The place after a part is as far as the part has tokens, and statements have some.
use Rattle.std.proofs.Common.{◌≡◌, ℕ, suc, ◌+◌, ◌≤◌, true, false, List, [], ◌∷◌, ◌++◌, length, refl, sym, ap, ◌∙◌, arith, length-append}
use Rattle.py_token.specs.declared.token.Keyword.TheVariants as word
use Rattle.py_token.specs.declared.token.Mark.TheVariants as mark
use Rattle.py_syntax.specs.Tree.{Expr, no_exprs, exprs}
use Rattle.py_syntax.specs.Tree.{Stmts, no_stmts, stmt, Suite, suite, OptSuite, no_suite, has_suite, Arms, no_arms, arm, Clauses, no_clauses, clause, Cases, no_cases, case, StmtKind, expr, assign, aug_assign, pass, break, continue, return, raise, assert, global, import, from, if', while, for, try, def, match}
use Rattle.py_syntax.specs.Kinds.{Kind, Name, Word, Sign, Newline, Indent, Dedent, End}
use Rattle.py_syntax.specs.Tokens.{tokens, pattern_tokens}
use Rattle.py_syntax.specs.Normal.{Normal}
use Rattle.py_syntax.specs.Headers.{Marked, put, kinds_marked}
use Rattle.py_syntax.specs.Statements.{in_place_mark, target_tokens, option_tokens, assert_tokens, name_list, alias_list, end_tokens, except_tokens, guard_tokens, case_name, stmts_tokens, kind_tokens, suite_tokens, else_tokens, finally_tokens, elif_tokens, clause_tokens, case_tokens, NormalStmts, NormalKind, NormalSuite, NormalOpt, NormalArms, NormalClauses, NormalCases}
use Rattle.py_syntax.specs.Spelling.{test_head, for_head}
use Rattle.py_grammar.specs.Machine.{any, start, Refused, Leaves, run}
use Rattle.py_grammar.proofs.Complete.Targets.{reads_any}
use Rattle.py_parse.specs.Places.{kinds_past, def_head, match_head, stmts_past, kind_past, suite_past, opt_past, arms_past, clauses_past, cases_past}
use Rattle.py_parse.proofs.Sound.Parted.{parted}

-- ---- tokens on a line

pub put_past : (ks : List Kind) (r : List Marked) (p : ℕ) → length (put ks r) + p ≡ kinds_past ks p + length r
put_past [] r p = omega arith
put_past (k ∷ ks) r p = let rest = put_past ks r (suc p) in omega arith

pub kinds_past_is : (ks : List Kind) (p : ℕ) → kinds_past ks p ≡ length ks + p
kinds_past_is [] p = omega arith
kinds_past_is (k ∷ ks) p = let rest = kinds_past_is ks (suc p) in omega arith

marked_put : (ks : List Kind) → kinds_marked (put ks []) ≡ ks
marked_put [] = refl
marked_put (k ∷ ks) = ap (λ (x : List Kind). k ∷ x) (marked_put ks)

line_past : (ks : List Kind) (r : List Marked) (p : ℕ) → length (put ks r) + p ≡ kinds_past (kinds_marked (put ks [])) p + length r
line_past ks r p = put_past ks r p ∙ ap (λ (x : List Kind). kinds_past x p + length r) (sym (marked_put ks))

-- ---- the places after parts

-- after the header of a `match`
match_past : (e : Expr) (r : List Marked) (p : ℕ) → length (put (tokens e (Sign mark.Colon ∷ Newline ∷ Indent ∷ [])) r) + p ≡ suc (suc (kinds_past (match_head e) p)) + length r
match_past e r p =
    let one = put_past (tokens e (Sign mark.Colon ∷ Newline ∷ Indent ∷ [])) r p in
    let two = kinds_past_is (tokens e (Sign mark.Colon ∷ Newline ∷ Indent ∷ [])) p in
    let three = kinds_past_is (match_head e) p in
    let four : length (tokens e (Sign mark.Colon ∷ Newline ∷ Indent ∷ [])) ≡ length (match_head e) + 2 = ap length (parted e (Sign mark.Colon ∷ []) (Newline ∷ Indent ∷ [])) ∙ length-append (match_head e) (Newline ∷ Indent ∷ []) in
    omega arith

mutual
  pub stmts_are : (m : Stmts) (r : List Marked) (p : ℕ) → NormalStmts m → length (stmts_tokens m r) + p ≡ stmts_past m p + length r
  stmts_are no_stmts r p h = omega arith
  stmts_are (stmt f l k e ss) r p h =
      let one = kind_is k (put (end_tokens e) (stmts_tokens ss r)) p h.0 in
      let two = put_past (end_tokens e) (stmts_tokens ss r) (kind_past k p) in
      let three = stmts_are ss r (kinds_past (end_tokens e) (kind_past k p)) h.1 in
      omega arith

  pub kind_is : (k : StmtKind) (r : List Marked) (p : ℕ) → NormalKind k → length (kind_tokens k r) + p ≡ kind_past k p + length r
  kind_is (expr e) r p h = line_past (tokens e []) r p
  kind_is (assign ts e) r p h = line_past (target_tokens ts (tokens e [])) r p
  kind_is (aug_assign t op e) r p h = line_past (tokens t (Sign (in_place_mark op) ∷ tokens e [])) r p
  kind_is pass r p h = line_past (Word word.Pass ∷ []) r p
  kind_is break r p h = line_past (Word word.Break ∷ []) r p
  kind_is continue r p h = line_past (Word word.Continue ∷ []) r p
  kind_is (return e) r p h = line_past (Word word.Return ∷ option_tokens e) r p
  kind_is (raise e) r p h = line_past (Word word.Raise ∷ option_tokens e) r p
  kind_is (assert e w) r p h = line_past (Word word.Assert ∷ tokens e (assert_tokens w)) r p
  kind_is (global xs) r p h = line_past (Word word.Global ∷ name_list xs) r p
  kind_is (import names) r p h = line_past (Word word.Import ∷ alias_list names) r p
  kind_is (from m names) r p h = line_past (Word word.From ∷ Name m ∷ Word word.Import ∷ alias_list names) r p
  kind_is (if' no_arms o) r p h = absurd h
  kind_is (if' (arm t b arms) o) r p h =
      let one = put_past (test_head word.If t) (suite_tokens b (elif_tokens arms (else_tokens o r))) p in
      let two = suite_is b (elif_tokens arms (else_tokens o r)) (kinds_past (test_head word.If t) p) h.0.1 in
      let three = arms_are arms (else_tokens o r) (suite_past b (kinds_past (test_head word.If t) p)) h.0.2 in
      let four = else_is o r (arms_past arms (suite_past b (kinds_past (test_head word.If t) p))) h.1 in
      omega arith
  kind_is (while t b o) r p h =
      let one = put_past (test_head word.While t) (suite_tokens b (else_tokens o r)) p in
      let two = suite_is b (else_tokens o r) (kinds_past (test_head word.While t) p) h.1 in
      let three = else_is o r (suite_past b (kinds_past (test_head word.While t) p)) h.2 in
      omega arith
  kind_is (for t e b o) r p h =
      let one = put_past (for_head t e) (suite_tokens b (else_tokens o r)) p in
      let two = suite_is b (else_tokens o r) (kinds_past (for_head t e) p) h.3 in
      let three = else_is o r (suite_past b (kinds_past (for_head t e) p)) h.4 in
      omega arith
  kind_is (try b cs o f) r p h =
      let two = suite_is b (clause_tokens cs (else_tokens o (finally_tokens f r))) (suc (suc p)) h.1 in
      let three = clauses_are cs (else_tokens o (finally_tokens f r)) (suite_past b (suc (suc p))) h.2 in
      let four = else_is o (finally_tokens f r) (clauses_past cs (suite_past b (suc (suc p)))) h.3 in
      let five = finally_is f r (opt_past o (clauses_past cs (suite_past b (suc (suc p))))) h.4 in
      omega arith
  kind_is (def x ps ds c b) r p h =
      let one = put_past (def_head x ps ds c) (suite_tokens b r) p in
      let two = suite_is b r (kinds_past (def_head x ps ds c) p) h.1 in
      omega arith
  kind_is (match e last no_cases) r p h = absurd h
  kind_is (match e last (case c g b cs)) r p h =
      let zero_is : length (put (tokens e (Sign mark.Colon ∷ Newline ∷ Indent ∷ [])) (case_tokens (case c g b cs) (put (Dedent ∷ []) r))) + suc p ≡ suc (suc (kinds_past (match_head e) (suc p))) + length (case_tokens (case c g b cs) (put (Dedent ∷ []) r)) = match_past e (case_tokens (case c g b cs) (put (Dedent ∷ []) r)) (suc p) in
      let two = cases_are (case c g b cs) (put (Dedent ∷ []) r) (suc (suc (kinds_past (match_head e) (suc p)))) h.1 in
      omega arith

  pub suite_is : (s : Suite) (r : List Marked) (p : ℕ) → NormalSuite s → length (suite_tokens s r) + p ≡ suite_past s p + length r
  suite_is (suite f l inline no_stmts) r p h = absurd h
  suite_is (suite f l true (stmt f' l' k e ss)) r p h = stmts_are (stmt f' l' k e ss) r p h.1
  suite_is (suite f l false (stmt f' l' k e ss)) r p h = let body = stmts_are (stmt f' l' k e ss) (put (Dedent ∷ []) r) (suc (suc p)) h.1 in omega arith

  pub else_is : (o : OptSuite) (r : List Marked) (p : ℕ) → NormalOpt o → length (else_tokens o r) + p ≡ opt_past o p + length r
  else_is no_suite r p h = omega arith
  else_is (has_suite s) r p h = let body = suite_is s r (suc (suc p)) h in omega arith

  pub finally_is : (o : OptSuite) (r : List Marked) (p : ℕ) → NormalOpt o → length (finally_tokens o r) + p ≡ opt_past o p + length r
  finally_is no_suite r p h = omega arith
  finally_is (has_suite s) r p h = let body = suite_is s r (suc (suc p)) h in omega arith

  pub arms_are : (arms : Arms) (r : List Marked) (p : ℕ) → NormalArms arms → length (elif_tokens arms r) + p ≡ arms_past arms p + length r
  arms_are no_arms r p h = omega arith
  arms_are (arm t b arms) r p h =
      let one = put_past (test_head word.Elif t) (suite_tokens b (elif_tokens arms r)) p in
      let two = suite_is b (elif_tokens arms r) (kinds_past (test_head word.If t) p) h.1 in
      let three = arms_are arms r (suite_past b (kinds_past (test_head word.If t) p)) h.2 in
      omega arith

  pub clauses_are : (cs : Clauses) (r : List Marked) (p : ℕ) → NormalClauses cs → length (clause_tokens cs r) + p ≡ clauses_past cs p + length r
  clauses_are no_clauses r p h = omega arith
  clauses_are (clause e x b cs) r p h =
      let one = put_past (except_tokens e x) (suite_tokens b (clause_tokens cs r)) p in
      let two = suite_is b (clause_tokens cs r) (kinds_past (except_tokens e x) p) h.1 in
      let three = clauses_are cs r (suite_past b (kinds_past (except_tokens e x) p)) h.2 in
      omega arith

  pub cases_are : (cs : Cases) (r : List Marked) (p : ℕ) → NormalCases cs → length (case_tokens cs r) + p ≡ cases_past cs p + length r
  cases_are no_cases r p h = omega arith
  cases_are (case c g b cs) r p h =
      let one = put_past (Name case_name ∷ pattern_tokens c (guard_tokens g)) (suite_tokens b (case_tokens cs r)) p in
      let two = suite_is b (case_tokens cs r) (kinds_past (Name case_name ∷ pattern_tokens c (guard_tokens g)) p) h.2 in
      let three = cases_are cs r (suite_past b (kinds_past (Name case_name ∷ pattern_tokens c (guard_tokens g)) p)) h.3 in
      omega arith

-- ---- there are some tokens

some_expr : (e : Expr) (ks : List Kind) → Normal e → tokens e [] ≡ ks → 1 ≤ length ks
some_expr e (k ∷ ks) n is = omega arith
some_expr e [] n is =
    let whole : run (start any) (tokens e (End ∷ [])) ≡ Leaves e (End ∷ []) = reads_any e n End [] (omega arith, refl, refl) in
    let alone : tokens e (End ∷ []) ≡ End ∷ [] = parted e [] (End ∷ []) ∙ ap (λ (x : List Kind). x ++ End ∷ []) is in
    let none : Refused (End ∷ []) ≡ Leaves e (End ∷ []) = sym (ap (run (start any)) alone) ∙ whole in
    absurd cc

some_put : (ks : List Kind) (r : List Marked) → 1 ≤ length ks → 1 ≤ length (put ks r)
some_put (k ∷ ks) r h = omega arith
some_put [] r h = absurd (omega arith)

some_tokens : (e : Expr) (r : List Kind) → Normal e → 1 ≤ length (tokens e r)
some_tokens e r n = let some = some_expr e (tokens e []) n refl in let long = ap length (parted e [] r) ∙ length-append (tokens e []) r in omega arith

pub some_kind : (k : StmtKind) (r : List Marked) → NormalKind k → 1 ≤ length (kind_tokens k r)
some_kind (expr e) r h = some_put (tokens e []) r (some_tokens e [] h)
some_kind (assign no_exprs e) r h = absurd h
some_kind (assign (exprs t ts) e) r h = some_put (target_tokens (exprs t ts) (tokens e [])) r (some_tokens t (Sign mark.Equal ∷ target_tokens ts (tokens e [])) h.0.0)
some_kind (aug_assign t op e) r h = some_put (tokens t (Sign (in_place_mark op) ∷ tokens e [])) r (some_tokens t (Sign (in_place_mark op) ∷ tokens e []) h.0)
some_kind (if' no_arms o) r h = absurd h
some_kind (if' (arm t b arms) o) r h = omega arith
some_kind k r h = omega arith
