-- The `def`s of statements begin on lines that rise, where their tokens do.
use Rattle.std.proofs.Common.{◌≡◌, ◌≤◌, ℕ, suc, ◌+◌, Bool, true, false, List, [], ◌∷◌, ◌++◌, length, drop, Option, refl, subst, arith}
use Rattle.py_token.specs.Plain.{PToken}
use Rattle.py_token.specs.declared.token.Keyword.TheVariants as word
use Rattle.py_token.specs.declared.token.Mark.TheVariants as mark
use Rattle.py_syntax.specs.declared.stmt.LineEnd.{LineEnd}
use Rattle.py_syntax.specs.Functions.{Function, functions, functions_in, opt_functions, arms_functions, clauses_functions, cases_functions}
use Rattle.py_syntax.specs.Headers.{Marked, put, kinds_marked, match_name}
use Rattle.py_syntax.specs.Kinds.{Kind, Name, Word, Sign, Newline, Indent, Dedent, bare}
use Rattle.py_syntax.specs.Spelling.{first_line, test_head, for_head, word_head, past, after_suite, KeepsLines, KindLines, SuiteLines, OptLines, ArmLines, ClauseLines, CaseLines}
use Rattle.py_syntax.specs.Statements.{in_place_mark, target_tokens, option_tokens, assert_tokens, name_list, alias_list, except_tokens, guard_tokens, case_name, end_tokens, stmts_tokens, kind_tokens, suite_tokens, else_tokens, finally_tokens, elif_tokens, clause_tokens, case_tokens, ShareLine, NormalStmts, NormalKind, NormalSuite, NormalOpt, NormalArms, NormalClauses, NormalCases}
use Rattle.py_syntax.specs.Tokens.{tokens, pattern_tokens}
use Rattle.py_syntax.specs.Tree.{Expr, Pattern, Stmts, no_stmts, stmt, Suite, suite, OptSuite, no_suite, has_suite, Arms, no_arms, arm, Clauses, no_clauses, clause, Cases, no_cases, case, StmtKind, expr, assign, aug_assign, pass, break, continue, return, raise, assert, global, import, from, if', while, for, try, def, match}
use Rattle.py_line_laws.proofs.Lengths.{put-length, def_head, stmts-length, kind-length, suite-length, else-length, finally-length, arms-length, clauses-length, cases-length}
use Rattle.py_line_laws.proofs.Rising.{Rises}
use Rattle.py_line_laws.proofs.Walks as walks
use Rattle.py_line_laws.proofs.Walks.{span_le, Passed, Walk, joined, before, behind_it, alone, drop_to, drop_same, two_more, three_drops, at_place, end_line, word_first}

-- ---- what stands after a statement on its line

pub record Ended (l : ℕ) (newline : Bool) (us : List PToken) (rest : List Marked) : Type 0 where
  pub passed : Passed l us rest
  pub later : newline ≡ true → suc l ≤ passed.high

ended : (e : LineEnd) (l : ℕ) (ts : List PToken) (rest : List Marked) → bare ts ≡ kinds_marked (put (end_tokens e) rest) → Rises l ts → Ended l e.newline (drop (length (end_tokens e)) ts) rest
ended e l ts rest same r = go e.semicolon e.newline same
  where
    go : (s n : Bool) → bare ts ≡ kinds_marked (put (end_tokens (record { semicolon = s; newline = n })) rest) → Ended l n (drop (length (end_tokens (record { semicolon = s; newline = n }))) ts) rest
    go false false same = record { passed = record { high = l; later = omega arith; rises = r; same = same }; later = λ is. absurd cc }
    go true false same = record { passed = walks.pass (Sign mark.Semicolon ∷ []) l ts rest same r; later = λ is. absurd cc }
    go false true same =
        let p = end_line l ts rest same r in
        let on = p.later in
        record { passed = record { high = p.high; later = omega arith; rises = p.rises; same = p.same }; later = λ is. on }
    go true true same =
        let p = walks.pass (Sign mark.Semicolon ∷ []) l ts (put (Newline ∷ []) rest) same r in
        let q = end_line p.high (drop 1 ts) rest p.same p.rises in
        let first = p.later in
        let second = q.later in
        subst (λ us. Ended l true us rest) (drop_to ts 1 1 2 refl)
        (record { passed = record { high = q.high; later = omega arith; rises = q.rises; same = q.same }; later = λ is. omega arith })

-- ---- tokens on a line

line : (ks : List Kind) (l : ℕ) (ts : List PToken) (rest : List Marked) → bare ts ≡ kinds_marked (put ks rest) → Rises l ts → Walk l [] (drop (length (put ks [])) ts) rest
line ks l ts rest same r =
    let long = put-length ks [] in
    let here : length ks ≡ length (put ks []) = omega arith in
    alone l (drop (length (put ks [])) ts) rest (subst (λ n. Passed l (drop n ts) rest) here (walks.pass ks l ts rest same r))

-- ---- statements, and whether they end their line

abbrev Shares : Stmts → Type 0
Shares no_stmts = ⊥
Shares (stmt f l k e ss) = ShareLine (stmt f l k e ss)

-- after statements; simple ones that share a line end it
record Block (l : ℕ) (m : Stmts) (us : List PToken) (rest : List Marked) : Type 0 where
  walk : Walk l (functions m) us rest
  shut : Shares m → suc l ≤ walk.high

-- after a suite, which ends a line
record Suited (l : ℕ) (fs : List Function) (us : List PToken) (rest : List Marked) : Type 0 where
  walk : Walk l fs us rest
  shut : suc l ≤ walk.high

shuts : (f l : ℕ) (k : StmtKind) (e : LineEnd) (ss : Stmts) (lo a b c : ℕ) → lo ≤ a → a ≤ b → (e.newline ≡ true → suc a ≤ b) → b ≤ c → (Shares ss → suc b ≤ c) → Shares (stmt f l k e ss) → suc lo ≤ c
shuts f l k e no_stmts lo a b c one two newline three more h = let on = newline h.1 in omega arith
shuts f l k e (stmt f' l' k' e' ss) lo a b c one two newline three more h = let on = more h.3 in omega arith

abbrev case_head : Pattern → Option Expr → List Kind
case_head c g = Name case_name ∷ pattern_tokens c (guard_tokens g)

abbrev match_head : Expr → List Kind
match_head e = Name match_name ∷ tokens e (Sign mark.Colon ∷ Newline ∷ Indent ∷ [])

-- so many tokens, and those after a header and its suite
abbrev so_far : List Kind → Suite → ℕ
so_far head s = length head + length (suite_tokens s [])

abbrev suite_functions : Suite → List Function
suite_functions (suite f l inline b) = functions b

mutual
  unfolding functions functions_in opt_functions arms_functions clauses_functions cases_functions

  stmts_walk : (m : Stmts) (lo : ℕ) (ts : List PToken) (rest : List Marked) → NormalStmts m → KeepsLines m ts → bare ts ≡ kinds_marked (stmts_tokens m rest) → Rises lo ts → Block lo m (drop (length (stmts_tokens m [])) ts) rest
  stmts_walk no_stmts lo ts rest n keeps same r = record { walk = record { high = lo; span = omega arith; rises = r; same = same }; shut = λ h. absurd h }
  stmts_walk (stmt f l k e ss) lo ts rest n keeps same r =
      let long = length (kind_tokens k []) in
      let more = length (end_tokens e) in
      let a = kind_walk k f lo ts (put (end_tokens e) (stmts_tokens ss rest)) n.0 keeps.0 keeps.2 same r in
      let b = subst (λ us. Ended a.high e.newline us (stmts_tokens ss rest)) (drop_to ts long more (long + more) refl) (ended e a.high (drop long ts) (stmts_tokens ss rest) a.same a.rises) in
      let c = stmts_walk ss b.passed.high (drop (long + more) ts) rest n.1 keeps.3 b.passed.same b.passed.rises in
      let here = kind-length k (put (end_tokens e) (stmts_tokens ss [])) in
      let ends = put-length (end_tokens e) (stmts_tokens ss []) in
      subst (λ us. Block lo (stmt f l k e ss) us rest) (drop_to ts (long + more) (length (stmts_tokens ss [])) (length (stmts_tokens (stmt f l k e ss) [])) (omega arith))
      (record {
        walk = joined lo (functions_in f k) (functions ss) (drop (long + more) ts) (drop (length (stmts_tokens ss [])) (drop (long + more) ts)) (stmts_tokens ss rest) rest
            (behind_it lo (functions_in f k) (drop long ts) (drop (long + more) ts) (put (end_tokens e) (stmts_tokens ss rest)) (stmts_tokens ss rest) a b.passed)
            c.walk;
        shut = shuts f l k e ss lo a.high b.passed.high c.walk.high (span_le lo a.high (functions_in f k) a.span) b.passed.later b.later (span_le b.passed.high c.walk.high (functions ss) c.walk.span) c.shut;
      })

  suite_walk : (s : Suite) (head : List Kind) (lo : ℕ) (ts : List PToken) (rest : List Marked) → NormalSuite s → SuiteLines s head ts → bare ts ≡ kinds_marked (put head (suite_tokens s rest)) → Rises lo ts → Suited lo (suite_functions s) (after_suite head s ts) rest
  suite_walk (suite f l inline no_stmts) head lo ts rest n keeps same r = absurd n
  suite_walk (suite f l true (stmt f' l' k e ss)) head lo ts rest n keeps same r =
      let b = stmt f' l' k e ss in
      let p = walks.pass head lo ts (stmts_tokens b rest) same r in
      let w = stmts_walk (stmt f' l' k e ss) p.high (drop (length head) ts) rest n.1 keeps.2 p.same p.rises in
      let one = p.later in
      let two = w.shut n.0 in
      subst (λ us. Suited lo (functions b) us rest) (drop_to ts (length head) (length (stmts_tokens b [])) (so_far head (suite f l true b)) refl)
      (record { walk = before lo (functions b) (drop (length head) ts) (drop (length (stmts_tokens b [])) (drop (length head) ts)) (stmts_tokens b rest) rest p w.walk; shut = omega arith })
  suite_walk (suite f l false (stmt f' l' k e ss)) head lo ts rest n keeps same r =
      let b = stmt f' l' k e ss in
      let inner = stmts_tokens b (put (Dedent ∷ []) rest) in
      let p = walks.pass head lo ts (put (Newline ∷ Indent ∷ []) inner) same r in
      let q = end_line p.high (drop (length head) ts) (put (Indent ∷ []) inner) p.same p.rises in
      let i = walks.pass (Indent ∷ []) q.high (drop 1 (drop (length head) ts)) inner q.same q.rises in
      let one = p.later in
      let two = q.later in
      let three = i.later in
      let begun : Passed (suc lo) (drop 1 (drop 1 (drop (length head) ts))) inner = record { high = i.high; later = omega arith; rises = i.rises; same = i.same } in
      let at = subst (λ us. Passed (suc lo) us inner) (two_more ts (length head)) begun in
      let w = stmts_walk (stmt f' l' k e ss) at.high (drop (length head + 2) ts) (put (Dedent ∷ []) rest) n.1 keeps.2 at.same at.rises in
      let us = drop (length (stmts_tokens b [])) (drop (length head + 2) ts) in
      let d = walks.pass (Dedent ∷ []) w.walk.high us rest w.walk.same w.walk.rises in
      let four = at.later in
      let five = span_le at.high w.walk.high (functions b) w.walk.span in
      let six = d.later in
      let alone = stmts-length b (put (Dedent ∷ []) []) in
      let there : drop 1 us ≡ after_suite head (suite f l false b) ts = three_drops ts (length head + 2) (length (stmts_tokens b [])) 1 (so_far head (suite f l false b)) (omega arith) in
      subst (λ vs. Suited lo (functions b) vs rest) there
      (record {
        walk = before lo (functions b) (drop (length head + 2) ts) (drop 1 us) inner rest (record { high = at.high; later = omega arith; rises = at.rises; same = at.same })
            (behind_it at.high (functions b) us (drop 1 us) (put (Dedent ∷ []) rest) rest w.walk d);
        shut = omega arith;
      })

  else_walk : (o : OptSuite) (lo : ℕ) (ts : List PToken) (rest : List Marked) → NormalOpt o → OptLines o (word_head word.Else) ts → bare ts ≡ kinds_marked (else_tokens o rest) → Rises lo ts → Walk lo (opt_functions o) (drop (length (else_tokens o [])) ts) rest
  else_walk no_suite lo ts rest n keeps same r = record { high = lo; span = omega arith; rises = r; same = same }
  else_walk (has_suite (suite f l i b)) lo ts rest n keeps same r =
      at_place lo (functions b) (after_suite (word_head word.Else) (suite f l i b) ts) (drop (length (else_tokens (has_suite (suite f l i b)) [])) ts) rest (drop_same ts (so_far (word_head word.Else) (suite f l i b)) (length (else_tokens (has_suite (suite f l i b)) [])) (omega arith))
      (suite_walk (suite f l i b) (word_head word.Else) lo ts rest n keeps same r).walk

  finally_walk : (o : OptSuite) (lo : ℕ) (ts : List PToken) (rest : List Marked) → NormalOpt o → OptLines o (word_head word.Finally) ts → bare ts ≡ kinds_marked (finally_tokens o rest) → Rises lo ts → Walk lo (opt_functions o) (drop (length (else_tokens o [])) ts) rest
  finally_walk no_suite lo ts rest n keeps same r = record { high = lo; span = omega arith; rises = r; same = same }
  finally_walk (has_suite (suite f l i b)) lo ts rest n keeps same r =
      at_place lo (functions b) (after_suite (word_head word.Finally) (suite f l i b) ts) (drop (length (else_tokens (has_suite (suite f l i b)) [])) ts) rest (drop_same ts (so_far (word_head word.Finally) (suite f l i b)) (length (else_tokens (has_suite (suite f l i b)) [])) (omega arith))
      (suite_walk (suite f l i b) (word_head word.Finally) lo ts rest n keeps same r).walk

  arms_walk : (arms : Arms) (lo : ℕ) (ts : List PToken) (rest : List Marked) → NormalArms arms → ArmLines arms ts → bare ts ≡ kinds_marked (elif_tokens arms rest) → Rises lo ts → Walk lo (arms_functions arms) (drop (length (elif_tokens arms [])) ts) rest
  arms_walk no_arms lo ts rest n keeps same r = record { high = lo; span = omega arith; rises = r; same = same }
  arms_walk (arm t (suite f l i b) arms) lo ts rest n keeps same r =
      let head = test_head word.Elif t in
      let s = suite f l i b in
      let w = (suite_walk (suite f l i b) head lo ts (elif_tokens arms rest) n.1 keeps.0 same r).walk in
      let v = arms_walk arms w.high (after_suite head s ts) rest n.2 keeps.1 w.same w.rises in
      let long = put-length head (suite_tokens s (elif_tokens arms [])) in
      let body = suite-length s (elif_tokens arms []) in
      at_place lo (functions b ++ arms_functions arms) (drop (length (elif_tokens arms [])) (after_suite head s ts)) (drop (length (elif_tokens (arm t s arms) [])) ts) rest (drop_to ts (so_far head s) (length (elif_tokens arms [])) (length (elif_tokens (arm t s arms) [])) (omega arith))
      (joined lo (functions b) (arms_functions arms) (after_suite head s ts) (drop (length (elif_tokens arms [])) (after_suite head s ts)) (elif_tokens arms rest) rest w v)

  clauses_walk : (cs : Clauses) (lo : ℕ) (ts : List PToken) (rest : List Marked) → NormalClauses cs → ClauseLines cs ts → bare ts ≡ kinds_marked (clause_tokens cs rest) → Rises lo ts → Walk lo (clauses_functions cs) (drop (length (clause_tokens cs [])) ts) rest
  clauses_walk no_clauses lo ts rest n keeps same r = record { high = lo; span = omega arith; rises = r; same = same }
  clauses_walk (clause e x (suite f l i b) cs) lo ts rest n keeps same r =
      let head = except_tokens e x in
      let s = suite f l i b in
      let w = (suite_walk (suite f l i b) head lo ts (clause_tokens cs rest) n.1 keeps.0 same r).walk in
      let v = clauses_walk cs w.high (after_suite head s ts) rest n.2 keeps.1 w.same w.rises in
      let long = put-length head (suite_tokens s (clause_tokens cs [])) in
      let body = suite-length s (clause_tokens cs []) in
      at_place lo (functions b ++ clauses_functions cs) (drop (length (clause_tokens cs [])) (after_suite head s ts)) (drop (length (clause_tokens (clause e x s cs) [])) ts) rest (drop_to ts (so_far head s) (length (clause_tokens cs [])) (length (clause_tokens (clause e x s cs) [])) (omega arith))
      (joined lo (functions b) (clauses_functions cs) (after_suite head s ts) (drop (length (clause_tokens cs [])) (after_suite head s ts)) (clause_tokens cs rest) rest w v)

  cases_walk : (cs : Cases) (lo : ℕ) (ts : List PToken) (rest : List Marked) → NormalCases cs → CaseLines cs ts → bare ts ≡ kinds_marked (case_tokens cs rest) → Rises lo ts → Walk lo (cases_functions cs) (drop (length (case_tokens cs [])) ts) rest
  cases_walk no_cases lo ts rest n keeps same r = record { high = lo; span = omega arith; rises = r; same = same }
  cases_walk (case c g (suite f l i b) cs) lo ts rest n keeps same r =
      let head = case_head c g in
      let s = suite f l i b in
      let w = (suite_walk (suite f l i b) head lo ts (case_tokens cs rest) n.2 keeps.0 same r).walk in
      let v = cases_walk cs w.high (after_suite head s ts) rest n.3 keeps.1 w.same w.rises in
      let long = put-length head (suite_tokens s (case_tokens cs [])) in
      let body = suite-length s (case_tokens cs []) in
      at_place lo (functions b ++ cases_functions cs) (drop (length (case_tokens cs [])) (after_suite head s ts)) (drop (length (case_tokens (case c g s cs) [])) ts) rest (drop_to ts (so_far head s) (length (case_tokens cs [])) (length (case_tokens (case c g s cs) [])) (omega arith))
      (joined lo (functions b) (cases_functions cs) (after_suite head s ts) (drop (length (case_tokens cs [])) (after_suite head s ts)) (case_tokens cs rest) rest w v)

  kind_walk : (k : StmtKind) (f lo : ℕ) (ts : List PToken) (rest : List Marked) → NormalKind k → f ≡ first_line ts → KindLines k ts → bare ts ≡ kinds_marked (kind_tokens k rest) → Rises lo ts → Walk lo (functions_in f k) (drop (length (kind_tokens k [])) ts) rest
  kind_walk (expr e) f lo ts rest n is keeps same r = line (tokens e []) lo ts rest same r
  kind_walk (assign xs e) f lo ts rest n is keeps same r = line (target_tokens xs (tokens e [])) lo ts rest same r
  kind_walk (aug_assign t op e) f lo ts rest n is keeps same r = line (tokens t (Sign (in_place_mark op) ∷ tokens e [])) lo ts rest same r
  kind_walk pass f lo ts rest n is keeps same r = line (Word word.Pass ∷ []) lo ts rest same r
  kind_walk break f lo ts rest n is keeps same r = line (Word word.Break ∷ []) lo ts rest same r
  kind_walk continue f lo ts rest n is keeps same r = line (Word word.Continue ∷ []) lo ts rest same r
  kind_walk (return e) f lo ts rest n is keeps same r = line (Word word.Return ∷ option_tokens e) lo ts rest same r
  kind_walk (raise e) f lo ts rest n is keeps same r = line (Word word.Raise ∷ option_tokens e) lo ts rest same r
  kind_walk (assert e w) f lo ts rest n is keeps same r = line (Word word.Assert ∷ tokens e (assert_tokens w)) lo ts rest same r
  kind_walk (global xs) f lo ts rest n is keeps same r = line (Word word.Global ∷ name_list xs) lo ts rest same r
  kind_walk (import names) f lo ts rest n is keeps same r = line (Word word.Import ∷ alias_list names) lo ts rest same r
  kind_walk (from m names) f lo ts rest n is keeps same r = line (Word word.From ∷ Name m ∷ Word word.Import ∷ alias_list names) lo ts rest same r
  kind_walk (if' no_arms o) f lo ts rest n is keeps same r = absurd n
  kind_walk (if' (arm t (suite g h i b) arms) o) f lo ts rest n is keeps same r =
      let head = test_head word.If t in
      let s = suite g h i b in
      let tail = elif_tokens arms (else_tokens o rest) in
      let w = (suite_walk (suite g h i b) head lo ts tail n.0.1 keeps.0 same r).walk in
      let us = after_suite head s ts in
      let v = arms_walk arms w.high us (else_tokens o rest) n.0.2 keeps.1 w.same w.rises in
      let vs = past (elif_tokens arms []) us in
      let x = else_walk o v.high vs rest n.1 keeps.2 v.same v.rises in
      let long = put-length head (suite_tokens s (elif_tokens arms (else_tokens o []))) in
      let body = suite-length s (elif_tokens arms (else_tokens o [])) in
      let others = arms-length arms (else_tokens o []) in
      at_place lo ((functions b ++ arms_functions arms) ++ opt_functions o) (drop (length (else_tokens o [])) vs) (drop (length (kind_tokens (if' (arm t s arms) o) [])) ts) rest
      (three_drops ts (so_far head s) (length (elif_tokens arms [])) (length (else_tokens o [])) (length (kind_tokens (if' (arm t s arms) o) [])) (omega arith))
      (joined lo (functions b ++ arms_functions arms) (opt_functions o) vs (drop (length (else_tokens o [])) vs) (else_tokens o rest) rest (joined lo (functions b) (arms_functions arms) us vs tail (else_tokens o rest) w v) x)
  kind_walk (while t (suite g h i b) o) f lo ts rest n is keeps same r =
      let head = test_head word.While t in
      let s = suite g h i b in
      let w = (suite_walk (suite g h i b) head lo ts (else_tokens o rest) n.1 keeps.0 same r).walk in
      let us = after_suite head s ts in
      let x = else_walk o w.high us rest n.2 keeps.1 w.same w.rises in
      let long = put-length head (suite_tokens s (else_tokens o [])) in
      let body = suite-length s (else_tokens o []) in
      at_place lo (functions b ++ opt_functions o) (drop (length (else_tokens o [])) us) (drop (length (kind_tokens (while t s o) [])) ts) rest
      (drop_to ts (so_far head s) (length (else_tokens o [])) (length (kind_tokens (while t s o) [])) (omega arith))
      (joined lo (functions b) (opt_functions o) us (drop (length (else_tokens o [])) us) (else_tokens o rest) rest w x)
  kind_walk (for t e (suite g h i b) o) f lo ts rest n is keeps same r =
      let head = for_head t e in
      let s = suite g h i b in
      let w = (suite_walk (suite g h i b) head lo ts (else_tokens o rest) n.3 keeps.0 same r).walk in
      let us = after_suite head s ts in
      let x = else_walk o w.high us rest n.4 keeps.1 w.same w.rises in
      let long = put-length head (suite_tokens s (else_tokens o [])) in
      let body = suite-length s (else_tokens o []) in
      at_place lo (functions b ++ opt_functions o) (drop (length (else_tokens o [])) us) (drop (length (kind_tokens (for t e s o) [])) ts) rest
      (drop_to ts (so_far head s) (length (else_tokens o [])) (length (kind_tokens (for t e s o) [])) (omega arith))
      (joined lo (functions b) (opt_functions o) us (drop (length (else_tokens o [])) us) (else_tokens o rest) rest w x)
  kind_walk (try (suite g h i b) cs o fin) f lo ts rest n is keeps same r =
      let head = word_head word.Try in
      let s = suite g h i b in
      let last = finally_tokens fin rest in
      let w = (suite_walk (suite g h i b) head lo ts (clause_tokens cs (else_tokens o last)) n.1 keeps.0 same r).walk in
      let us = after_suite head s ts in
      let v = clauses_walk cs w.high us (else_tokens o last) n.2 keeps.1 w.same w.rises in
      let vs = past (clause_tokens cs []) us in
      let x = else_walk o v.high vs last n.3 keeps.2 v.same v.rises in
      let both = clauses-length cs (else_tokens o []) in
      let xs = past (clause_tokens cs (else_tokens o [])) us in
      let there : drop (length (else_tokens o [])) vs ≡ xs = drop_to us (length (clause_tokens cs [])) (length (else_tokens o [])) (length (clause_tokens cs (else_tokens o []))) (omega arith) in
      let x' = at_place v.high (opt_functions o) (drop (length (else_tokens o [])) vs) xs last there x in
      let y = finally_walk fin x'.high xs rest n.4 keeps.3 x'.same x'.rises in
      let body = suite-length s (clause_tokens cs (else_tokens o (finally_tokens fin []))) in
      let others = clauses-length cs (else_tokens o (finally_tokens fin [])) in
      let orelse = else-length o (finally_tokens fin []) in
      let end = finally-length fin [] in
      at_place lo (functions b ++ (clauses_functions cs ++ (opt_functions o ++ opt_functions fin))) (drop (length (else_tokens fin [])) xs) (drop (length (kind_tokens (try s cs o fin) [])) ts) rest
      (three_drops ts (so_far head s) (length (clause_tokens cs (else_tokens o []))) (length (else_tokens fin [])) (length (kind_tokens (try s cs o fin) [])) (omega arith))
      (joined lo (functions b) (clauses_functions cs ++ (opt_functions o ++ opt_functions fin)) us (drop (length (else_tokens fin [])) xs) (clause_tokens cs (else_tokens o last)) rest w
      (joined w.high (clauses_functions cs) (opt_functions o ++ opt_functions fin) vs (drop (length (else_tokens fin [])) xs) (else_tokens o last) rest v
      (joined v.high (opt_functions o) (opt_functions fin) xs (drop (length (else_tokens fin [])) xs) last rest x' y)))
  kind_walk (def x ps ds c (suite g h i b)) f lo ts rest n is keeps same r =
      let head = def_head x ps ds c in
      let s = suite g h i b in
      let on = word_first lo word.Def _ ts same r in
      let w = suite_walk (suite g h i b) head (first_line ts) ts rest n.1 keeps same on.1 in
      let low = on.0 in
      let after = w.shut in
      let long = put-length head (suite_tokens s []) in
      at_place lo (record { line = f; name = x; params = ps; body = b } ∷ []) (after_suite head s ts) (drop (length (kind_tokens (def x ps ds c s) [])) ts) rest
      (drop_same ts (so_far head s) (length (kind_tokens (def x ps ds c s) [])) (omega arith))
      (record { high = w.walk.high; span = (omega (arith, is, low), omega (arith, is, after)); rises = w.walk.rises; same = w.walk.same })
  kind_walk (match e l no_cases) f lo ts rest n is keeps same r = absurd n
  kind_walk (match e l (case c g b cs)) f lo ts rest n is keeps same r =
      let head = match_head e in
      let all = case c g b cs in
      let p = walks.pass head lo ts (case_tokens all (put (Dedent ∷ []) rest)) same r in
      let us = drop (length head) ts in
      let w = cases_walk (case c g b cs) p.high us (put (Dedent ∷ []) rest) n.1 keeps.1 p.same p.rises in
      let vs = drop (length (case_tokens all [])) us in
      let d = walks.pass (Dedent ∷ []) w.high vs rest w.same w.rises in
      let long = put-length head (case_tokens all (put (Dedent ∷ []) [])) in
      let body = cases-length all (put (Dedent ∷ []) []) in
      at_place lo (cases_functions all) (drop 1 vs) (drop (length (kind_tokens (match e l all) [])) ts) rest
      (three_drops ts (length head) (length (case_tokens all [])) 1 (length (kind_tokens (match e l all) [])) (omega arith))
      (before lo (cases_functions all) us (drop 1 vs) (case_tokens all (put (Dedent ∷ []) rest)) rest p (behind_it p.high (cases_functions all) vs (drop 1 vs) (put (Dedent ∷ []) rest) rest w d))

pub module_walk : (m : Stmts) (ts : List PToken) (rest : List Marked) (lo : ℕ) → NormalStmts m → KeepsLines m ts → bare ts ≡ kinds_marked (stmts_tokens m rest) → Rises lo ts → Walk lo (functions m) (drop (length (stmts_tokens m [])) ts) rest
module_walk m ts rest lo n keeps same r = (stmts_walk m lo ts rest n keeps same r).walk
