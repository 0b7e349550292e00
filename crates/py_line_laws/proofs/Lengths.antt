-- How many tokens statements have, in front of others.
use Rattle.std.proofs.Common.{◌≡◌, ◌+◌, Bool, true, false, List, [], ◌∷◌, length, arith}
use Rattle.py_token.specs.declared.token.Keyword.TheVariants as word
use Rattle.py_token.specs.declared.token.Mark.TheVariants as mark
use Rattle.py_syntax.specs.Headers.{Marked, put}
use Rattle.py_syntax.specs.Kinds.{Kind, Name, Word, Sign, Newline, Indent, Dedent}
use Rattle.py_syntax.specs.Spelling.{test_head, for_head}
use Rattle.py_syntax.specs.Statements.{in_place_mark, target_tokens, option_tokens, assert_tokens, name_list, alias_list, param_tokens, except_tokens, guard_tokens, case_name, end_tokens, stmts_tokens, kind_tokens, suite_tokens, else_tokens, finally_tokens, elif_tokens, clause_tokens, case_tokens}
use Rattle.py_syntax.specs.Tokens.{tokens, pattern_tokens}
use Rattle.py_syntax.specs.Tree.{Text, Exprs, Stmts, no_stmts, stmt, Suite, suite, OptSuite, no_suite, has_suite, Arms, no_arms, arm, Clauses, no_clauses, clause, Cases, no_cases, case, StmtKind, expr, assign, aug_assign, pass, break, continue, return, raise, assert, global, import, from, if', while, for, try, def, match}

pub put-length : (ks : List Kind) (r : List Marked) → length (put ks r) ≡ length ks + length r
put-length [] r = omega arith
put-length (k ∷ ks) r = let rest = put-length ks r in omega arith

-- tokens on a line, in front of others and alone
line-length : (ks : List Kind) (r : List Marked) → length (put ks r) ≡ length (put ks []) + length r
line-length ks r = let one = put-length ks r in let alone = put-length ks [] in omega arith

-- the header of a function
abbrev pub def_head : Text → List Text → Exprs → Bool → List Kind
def_head x ps ds c = Word word.Def ∷ Name x ∷ Sign mark.LeftParen ∷ param_tokens ps ds c (Sign mark.RightParen ∷ Sign mark.Colon ∷ [])

mutual
  pub stmts-length : (m : Stmts) (r : List Marked) → length (stmts_tokens m r) ≡ length (stmts_tokens m []) + length r
  stmts-length no_stmts r = omega arith
  stmts-length (stmt f l k e ss) r =
      let here = kind-length k (put (end_tokens e) (stmts_tokens ss r)) in
      let alone = kind-length k (put (end_tokens e) (stmts_tokens ss [])) in
      let ends = put-length (end_tokens e) (stmts_tokens ss r) in
      let ends_alone = put-length (end_tokens e) (stmts_tokens ss []) in
      let rest = stmts-length ss r in
      omega arith

  pub kind-length : (k : StmtKind) (r : List Marked) → length (kind_tokens k r) ≡ length (kind_tokens k []) + length r
  kind-length (expr e) r = line-length (tokens e []) r
  kind-length (assign ts e) r = line-length (target_tokens ts (tokens e [])) r
  kind-length (aug_assign t op e) r = line-length (tokens t (Sign (in_place_mark op) ∷ tokens e [])) r
  kind-length pass r = line-length (Word word.Pass ∷ []) r
  kind-length break r = line-length (Word word.Break ∷ []) r
  kind-length continue r = line-length (Word word.Continue ∷ []) r
  kind-length (return e) r = line-length (Word word.Return ∷ option_tokens e) r
  kind-length (raise e) r = line-length (Word word.Raise ∷ option_tokens e) r
  kind-length (assert e w) r = line-length (Word word.Assert ∷ tokens e (assert_tokens w)) r
  kind-length (global xs) r = line-length (Word word.Global ∷ name_list xs) r
  kind-length (import names) r = line-length (Word word.Import ∷ alias_list names) r
  kind-length (from m names) r = line-length (Word word.From ∷ Name m ∷ Word word.Import ∷ alias_list names) r
  kind-length (if' no_arms o) r = omega arith
  kind-length (if' (arm t b arms) o) r =
      let head = put-length (test_head word.If t) (suite_tokens b (elif_tokens arms (else_tokens o r))) in
      let head_alone = put-length (test_head word.If t) (suite_tokens b (elif_tokens arms (else_tokens o []))) in
      let body = suite-length b (elif_tokens arms (else_tokens o r)) in
      let body_alone = suite-length b (elif_tokens arms (else_tokens o [])) in
      let others = arms-length arms (else_tokens o r) in
      let others_alone = arms-length arms (else_tokens o []) in
      let orelse = else-length o r in
      omega arith
  kind-length (while t b o) r =
      let head = put-length (test_head word.While t) (suite_tokens b (else_tokens o r)) in
      let head_alone = put-length (test_head word.While t) (suite_tokens b (else_tokens o [])) in
      let body = suite-length b (else_tokens o r) in
      let body_alone = suite-length b (else_tokens o []) in
      let orelse = else-length o r in
      omega arith
  kind-length (for t e b o) r =
      let head = put-length (for_head t e) (suite_tokens b (else_tokens o r)) in
      let head_alone = put-length (for_head t e) (suite_tokens b (else_tokens o [])) in
      let body = suite-length b (else_tokens o r) in
      let body_alone = suite-length b (else_tokens o []) in
      let orelse = else-length o r in
      omega arith
  kind-length (try b cs o f) r =
      let body = suite-length b (clause_tokens cs (else_tokens o (finally_tokens f r))) in
      let body_alone = suite-length b (clause_tokens cs (else_tokens o (finally_tokens f []))) in
      let others = clauses-length cs (else_tokens o (finally_tokens f r)) in
      let others_alone = clauses-length cs (else_tokens o (finally_tokens f [])) in
      let orelse = else-length o (finally_tokens f r) in
      let orelse_alone = else-length o (finally_tokens f []) in
      let last = finally-length f r in
      let last_alone = finally-length f [] in
      omega arith
  kind-length (def x ps ds c b) r =
      let head = put-length (def_head x ps ds c) (suite_tokens b r) in
      let head_alone = put-length (def_head x ps ds c) (suite_tokens b []) in
      let body = suite-length b r in
      omega arith
  kind-length (match e last cs) r =
      let head = put-length (tokens e (Sign mark.Colon ∷ Newline ∷ Indent ∷ [])) (case_tokens cs (put (Dedent ∷ []) r)) in
      let head_alone = put-length (tokens e (Sign mark.Colon ∷ Newline ∷ Indent ∷ [])) (case_tokens cs (put (Dedent ∷ []) [])) in
      let body = cases-length cs (put (Dedent ∷ []) r) in
      let body_alone = cases-length cs (put (Dedent ∷ []) []) in
      omega arith

  pub suite-length : (s : Suite) (r : List Marked) → length (suite_tokens s r) ≡ length (suite_tokens s []) + length r
  suite-length (suite f l true b) r = stmts-length b r
  suite-length (suite f l false b) r = let body = stmts-length b (put (Dedent ∷ []) r) in let alone = stmts-length b (put (Dedent ∷ []) []) in omega arith

  pub else-length : (o : OptSuite) (r : List Marked) → length (else_tokens o r) ≡ length (else_tokens o []) + length r
  else-length no_suite r = omega arith
  else-length (has_suite s) r = let body = suite-length s r in omega arith

  pub finally-length : (o : OptSuite) (r : List Marked) → length (finally_tokens o r) ≡ length (else_tokens o []) + length r
  finally-length no_suite r = omega arith
  finally-length (has_suite s) r = let body = suite-length s r in omega arith

  pub arms-length : (arms : Arms) (r : List Marked) → length (elif_tokens arms r) ≡ length (elif_tokens arms []) + length r
  arms-length no_arms r = omega arith
  arms-length (arm t b arms) r =
      let head = put-length (test_head word.Elif t) (suite_tokens b (elif_tokens arms r)) in
      let head_alone = put-length (test_head word.Elif t) (suite_tokens b (elif_tokens arms [])) in
      let body = suite-length b (elif_tokens arms r) in
      let body_alone = suite-length b (elif_tokens arms []) in
      let others = arms-length arms r in
      omega arith

  pub clauses-length : (cs : Clauses) (r : List Marked) → length (clause_tokens cs r) ≡ length (clause_tokens cs []) + length r
  clauses-length no_clauses r = omega arith
  clauses-length (clause e x b cs) r =
      let head = put-length (except_tokens e x) (suite_tokens b (clause_tokens cs r)) in
      let head_alone = put-length (except_tokens e x) (suite_tokens b (clause_tokens cs [])) in
      let body = suite-length b (clause_tokens cs r) in
      let body_alone = suite-length b (clause_tokens cs []) in
      let others = clauses-length cs r in
      omega arith

  pub cases-length : (cs : Cases) (r : List Marked) → length (case_tokens cs r) ≡ length (case_tokens cs []) + length r
  cases-length no_cases r = omega arith
  cases-length (case p g b cs) r =
      let head = put-length (Name case_name ∷ pattern_tokens p (guard_tokens g)) (suite_tokens b (case_tokens cs r)) in
      let head_alone = put-length (Name case_name ∷ pattern_tokens p (guard_tokens g)) (suite_tokens b (case_tokens cs [])) in
      let body = suite-length b (case_tokens cs r) in
      let body_alone = suite-length b (case_tokens cs []) in
      let others = cases-length cs r in
      omega arith
