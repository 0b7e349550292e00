-- Where the tokens of a list are on lines, so is each mark of the statements that they spell.
use Rattle.std.proofs.Common.{◌≡◌, ℕ, zero, suc, ◌+◌, ◌<◌, Bool, true, false, List, [], ◌∷◌, ◌++◌, length, drop, All, Option, sym, subst, arith, length-drop, if◌then◌else◌}
use Rattle.std.proofs.lemmas.List.Elements.{All-nil, All-cons, All-tail, All-append}
use Rattle.py_token.specs.OnLines.{IsOnLines, AreOnLines}
use Rattle.py_token.specs.Plain.{PToken, token, first_of}
use Rattle.py_token.specs.declared.token.Keyword.{Keyword}
use Rattle.py_token.specs.declared.token.Keyword.TheVariants as word
use Rattle.py_token.specs.declared.token.Mark.TheVariants as mark
use Rattle.py_syntax.specs.Functions.{is_docstring}
use Rattle.py_syntax.specs.Headers.{put, match_name}
use Rattle.py_syntax.specs.Kinds.{Kind, Name, Sign, Newline, Indent, Dedent}
use Rattle.py_syntax.specs.Marks.{stmts_marks, kind_marks, suite_marks, opt_marks, arms_marks, clauses_marks, cases_marks, body_marks, function_marks}
use Rattle.py_syntax.specs.Spelling.{first_line, test_head, for_head, word_head, KeepsLines, KindLines, SuiteLines, OptLines, ArmLines, ClauseLines, CaseLines}
use Rattle.py_syntax.specs.Statements.{end_tokens, except_tokens, guard_tokens, case_name, stmts_tokens, kind_tokens, suite_tokens, else_tokens, finally_tokens, elif_tokens, clause_tokens, case_tokens, NormalStmts, NormalKind, NormalSuite, NormalOpt, NormalArms, NormalClauses, NormalCases}
use Rattle.py_syntax.specs.Tokens.{tokens, pattern_tokens}
use Rattle.py_syntax.specs.Tree.{Text, Expr, Pattern, Stmts, no_stmts, stmt, Suite, suite, OptSuite, no_suite, has_suite, Arms, no_arms, arm, Clauses, no_clauses, clause, Cases, no_cases, case, StmtKind, global, if', while, for, try, def, match}
use Rattle.py_line_laws.specs.Lines.{IsLine}
use Rattle.py_line_laws.proofs.Lengths.{put-length, def_head, stmts-length, kind-length, suite-length, else-length, finally-length, arms-length, clauses-length, cases-length}

module _ (P : ℕ → Type 0) where
  -- a suite with its header
  abbrev Headed : Suite → Type 0
  Headed (suite f l i b) = P f × All P (stmts_marks b)

  headed-suite : (s : Suite) → Headed s → All P (suite_marks s)
  headed-suite (suite f l i b) h = h.1

  headed-arm : (t : Expr) (s : Suite) (rest : Arms) → Headed s → All P (arms_marks rest) → All P (arms_marks (arm t s rest))
  headed-arm t (suite f l i b) rest h k = All-cons P f (stmts_marks b ++ arms_marks rest) h.0 (All-append P (stmts_marks b) (arms_marks rest) h.1 k)

  headed-clause : (e : Option Expr) (x : Option Text) (s : Suite) (rest : Clauses) → Headed s → All P (clauses_marks rest) → All P (clauses_marks (clause e x s rest))
  headed-clause e x (suite f l i b) rest h k = All-cons P f (stmts_marks b ++ clauses_marks rest) h.0 (All-append P (stmts_marks b) (clauses_marks rest) h.1 k)

  headed-case : (c : Pattern) (g : Option Expr) (s : Suite) (rest : Cases) → Headed s → All P (cases_marks rest) → All P (cases_marks (case c g s rest))
  headed-case c g (suite f l i b) rest h k = All-cons P f (stmts_marks b ++ cases_marks rest) h.0 (All-append P (stmts_marks b) (cases_marks rest) h.1 k)

  all-after : (xs ys : List ℕ) → All P (xs ++ ys) → All P ys
  all-after [] ys h = h
  all-after (x ∷ xs) ys h = all-after xs ys (All-tail P x (xs ++ ys) h)

  pub body-marks : (b : Stmts) → All P (stmts_marks b) → All P (body_marks b)
  body-marks no_stmts h = h
  body-marks (stmt f l k e rest) h = go (is_docstring k)
    where
      go : (b : Bool) → All P (if b then stmts_marks rest else kind_marks f k ++ stmts_marks rest)
      go true = all-after (kind_marks f k) (stmts_marks rest) h
      go false = h

  headed-function : (s : Suite) → Headed s → All P (function_marks s)
  headed-function (suite f l i b) h = body-marks b h.1

-- ---- tokens on lines

token-line : (t : PToken) → IsOnLines t → IsLine (first_of t)
token-line (token kind first last) h = (h.0, omega (arith, h.1, h.2))

list-line : (ts : List PToken) → AreOnLines ts → 0 < length ts → IsLine (first_line ts)
list-line [] on lt = absurd (omega arith)
list-line (t ∷ ts) on lt = token-line t on.0

-- the first line of some tokens
line-of : (f : ℕ) (ts : List PToken) → f ≡ first_line ts → AreOnLines ts → 0 < length ts → IsLine f
line-of f ts is on lt = subst IsLine (sym is) (list-line ts on lt)

drop-lines : (n : ℕ) (ts : List PToken) → AreOnLines ts → AreOnLines (drop n ts)
drop-lines zero ts on = on
drop-lines (suc n) [] on = tt
drop-lines (suc n) (t ∷ ts) on = drop-lines n ts on.1

-- ---- statements

abbrev case_head : Pattern → Option Expr → List Kind
case_head c g = Name case_name ∷ pattern_tokens c (guard_tokens g)

abbrev match_front : Expr → List Kind
match_front e = tokens e (Sign mark.Colon ∷ Newline ∷ Indent ∷ [])

-- so many tokens, and those after a header and its suite
abbrev so_far : List Kind → Suite → ℕ
so_far head s = length head + length (suite_tokens s [])

mutual
  pub stmts-lined : (m : Stmts) (ts : List PToken) → NormalStmts m → KeepsLines m ts → AreOnLines ts → length (stmts_tokens m []) < length ts → All IsLine (stmts_marks m)
  stmts-lined no_stmts ts n keeps on lt = All-nil IsLine
  stmts-lined (stmt f l k e ss) ts n keeps on lt =
      let here = kind-length k (put (end_tokens e) (stmts_tokens ss [])) in
      let ends = put-length (end_tokens e) (stmts_tokens ss []) in
      let after_it = length-drop (length (kind_tokens k []) + length (end_tokens e)) ts in
      All-append IsLine (kind_marks f k) (stmts_marks ss)
      (kind-lined k f ts n.0 keeps.0 keeps.2 on (omega arith))
      (stmts-lined ss (drop (length (kind_tokens k []) + length (end_tokens e)) ts) n.1 keeps.3 (drop-lines (length (kind_tokens k []) + length (end_tokens e)) ts on) (omega arith))

  suite-lined : (s : Suite) (head : List Kind) (ts : List PToken) → NormalSuite s → SuiteLines s head ts → AreOnLines ts → so_far head s < length ts → Headed IsLine s
  suite-lined (suite f l i no_stmts) head ts n keeps on lt = absurd n
  suite-lined (suite f l true (stmt f' l' k e ss)) head ts n keeps on lt =
      let inside = length-drop (length head) ts in
      (line-of f ts keeps.0 on (omega arith), stmts-lined (stmt f' l' k e ss) (drop (length head) ts) n.1 keeps.2 (drop-lines (length head) ts on) (omega arith))
  suite-lined (suite f l false (stmt f' l' k e ss)) head ts n keeps on lt =
      let inside = length-drop (length head + 2) ts in
      let alone = stmts-length (stmt f' l' k e ss) (put (Dedent ∷ []) []) in
      (line-of f ts keeps.0 on (omega arith), stmts-lined (stmt f' l' k e ss) (drop (length head + 2) ts) n.1 keeps.2 (drop-lines (length head + 2) ts on) (omega arith))

  opt-lined : (o : OptSuite) (w : Keyword) (ts : List PToken) → NormalOpt o → OptLines o (word_head w) ts → AreOnLines ts → length (else_tokens o []) < length ts → All IsLine (opt_marks o)
  opt-lined no_suite w ts n keeps on lt = All-nil IsLine
  opt-lined (has_suite s) w ts n keeps on lt = headed-suite IsLine s (suite-lined s (word_head w) ts n keeps on (omega arith))

  arms-lined : (arms : Arms) (ts : List PToken) → NormalArms arms → ArmLines arms ts → AreOnLines ts → length (elif_tokens arms []) < length ts → All IsLine (arms_marks arms)
  arms-lined no_arms ts n keeps on lt = All-nil IsLine
  arms-lined (arm t b rest) ts n keeps on lt =
      let head = put-length (test_head word.Elif t) (suite_tokens b (elif_tokens rest [])) in
      let body = suite-length b (elif_tokens rest []) in
      let after_it = length-drop (so_far (test_head word.Elif t) b) ts in
      headed-arm IsLine t b rest (suite-lined b (test_head word.Elif t) ts n.1 keeps.0 on (omega arith))
      (arms-lined rest (drop (so_far (test_head word.Elif t) b) ts) n.2 keeps.1 (drop-lines (so_far (test_head word.Elif t) b) ts on) (omega arith))

  clauses-lined : (cs : Clauses) (ts : List PToken) → NormalClauses cs → ClauseLines cs ts → AreOnLines ts → length (clause_tokens cs []) < length ts → All IsLine (clauses_marks cs)
  clauses-lined no_clauses ts n keeps on lt = All-nil IsLine
  clauses-lined (clause e x b rest) ts n keeps on lt =
      let head = put-length (except_tokens e x) (suite_tokens b (clause_tokens rest [])) in
      let body = suite-length b (clause_tokens rest []) in
      let after_it = length-drop (so_far (except_tokens e x) b) ts in
      headed-clause IsLine e x b rest (suite-lined b (except_tokens e x) ts n.1 keeps.0 on (omega arith))
      (clauses-lined rest (drop (so_far (except_tokens e x) b) ts) n.2 keeps.1 (drop-lines (so_far (except_tokens e x) b) ts on) (omega arith))

  cases-lined : (cs : Cases) (ts : List PToken) → NormalCases cs → CaseLines cs ts → AreOnLines ts → length (case_tokens cs []) < length ts → All IsLine (cases_marks cs)
  cases-lined no_cases ts n keeps on lt = All-nil IsLine
  cases-lined (case c g b rest) ts n keeps on lt =
      let head = put-length (case_head c g) (suite_tokens b (case_tokens rest [])) in
      let body = suite-length b (case_tokens rest []) in
      let after_it = length-drop (so_far (case_head c g) b) ts in
      headed-case IsLine c g b rest (suite-lined b (case_head c g) ts n.2 keeps.0 on (omega arith))
      (cases-lined rest (drop (so_far (case_head c g) b) ts) n.3 keeps.1 (drop-lines (so_far (case_head c g) b) ts on) (omega arith))

  kind-lined : (k : StmtKind) (f : ℕ) (ts : List PToken) → NormalKind k → f ≡ first_line ts → KindLines k ts → AreOnLines ts → length (kind_tokens k []) < length ts → All IsLine (kind_marks f k)
  kind-lined (global xs) f ts n is keeps on lt = All-nil IsLine
  kind-lined (if' no_arms o) f ts n is keeps on lt = absurd n
  kind-lined (if' (arm t b arms) o) f ts n is keeps on lt =
      let head = put-length (test_head word.If t) (suite_tokens b (elif_tokens arms (else_tokens o []))) in
      let body = suite-length b (elif_tokens arms (else_tokens o [])) in
      let others = arms-length arms (else_tokens o []) in
      let rest = drop (so_far (test_head word.If t) b) ts in
      let rest_on = drop-lines (so_far (test_head word.If t) b) ts on in
      let after_it = length-drop (so_far (test_head word.If t) b) ts in
      let after_arms = length-drop (length (elif_tokens arms [])) rest in
      All-append IsLine (arms_marks (arm t b arms)) (opt_marks o)
      (headed-arm IsLine t b arms (suite-lined b (test_head word.If t) ts n.0.1 keeps.0 on (omega arith)) (arms-lined arms rest n.0.2 keeps.1 rest_on (omega arith)))
      (opt-lined o word.Else (drop (length (elif_tokens arms [])) rest) n.1 keeps.2 (drop-lines (length (elif_tokens arms [])) rest rest_on) (omega arith))
  kind-lined (while t b o) f ts n is keeps on lt =
      let head = put-length (test_head word.While t) (suite_tokens b (else_tokens o [])) in
      let body = suite-length b (else_tokens o []) in
      let after_it = length-drop (so_far (test_head word.While t) b) ts in
      All-cons IsLine f (suite_marks b ++ opt_marks o) (line-of f ts is on (omega arith))
      (All-append IsLine (suite_marks b) (opt_marks o) (headed-suite IsLine b (suite-lined b (test_head word.While t) ts n.1 keeps.0 on (omega arith)))
      (opt-lined o word.Else (drop (so_far (test_head word.While t) b) ts) n.2 keeps.1 (drop-lines (so_far (test_head word.While t) b) ts on) (omega arith)))
  kind-lined (for t e b o) f ts n is keeps on lt =
      let head = put-length (for_head t e) (suite_tokens b (else_tokens o [])) in
      let body = suite-length b (else_tokens o []) in
      let after_it = length-drop (so_far (for_head t e) b) ts in
      All-cons IsLine f (suite_marks b ++ opt_marks o) (line-of f ts is on (omega arith))
      (All-append IsLine (suite_marks b) (opt_marks o) (headed-suite IsLine b (suite-lined b (for_head t e) ts n.3 keeps.0 on (omega arith)))
      (opt-lined o word.Else (drop (so_far (for_head t e) b) ts) n.4 keeps.1 (drop-lines (so_far (for_head t e) b) ts on) (omega arith)))
  kind-lined (try b cs o fin) f ts n is keeps on lt =
      let body = suite-length b (clause_tokens cs (else_tokens o (finally_tokens fin []))) in
      let others = clauses-length cs (else_tokens o (finally_tokens fin [])) in
      let others_alone = clauses-length cs (else_tokens o []) in
      let orelse = else-length o (finally_tokens fin []) in
      let last = finally-length fin [] in
      let rest = drop (so_far (word_head word.Try) b) ts in
      let rest_on = drop-lines (so_far (word_head word.Try) b) ts on in
      let after_it = length-drop (so_far (word_head word.Try) b) ts in
      let after_clauses = length-drop (length (clause_tokens cs [])) rest in
      let after_else = length-drop (length (clause_tokens cs (else_tokens o []))) rest in
      All-cons IsLine f (suite_marks b ++ (clauses_marks cs ++ (opt_marks o ++ opt_marks fin))) (line-of f ts is on (omega arith))
      (All-append IsLine (suite_marks b) (clauses_marks cs ++ (opt_marks o ++ opt_marks fin)) (headed-suite IsLine b (suite-lined b (word_head word.Try) ts n.1 keeps.0 on (omega arith)))
      (All-append IsLine (clauses_marks cs) (opt_marks o ++ opt_marks fin) (clauses-lined cs rest n.2 keeps.1 rest_on (omega arith))
      (All-append IsLine (opt_marks o) (opt_marks fin)
      (opt-lined o word.Else (drop (length (clause_tokens cs [])) rest) n.3 keeps.2 (drop-lines (length (clause_tokens cs [])) rest rest_on) (omega arith))
      (opt-lined fin word.Finally (drop (length (clause_tokens cs (else_tokens o []))) rest) n.4 keeps.3 (drop-lines (length (clause_tokens cs (else_tokens o []))) rest rest_on) (omega arith)))))
  kind-lined (def x ps ds c b) f ts n is keeps on lt =
      let head = put-length (def_head x ps ds c) (suite_tokens b []) in
      All-cons IsLine f (function_marks b) (line-of f ts is on (omega arith)) (headed-function IsLine b (suite-lined b (def_head x ps ds c) ts n.1 keeps on (omega arith)))
  kind-lined (match e l no_cases) f ts n is keeps on lt = absurd n
  kind-lined (match e l (case c g b cs)) f ts n is keeps on lt =
      let head = put-length (match_front e) (case_tokens (case c g b cs) (put (Dedent ∷ []) [])) in
      let body = cases-length (case c g b cs) (put (Dedent ∷ []) []) in
      let after_it = length-drop (length (Name match_name ∷ match_front e)) ts in
      All-cons IsLine f (cases_marks (case c g b cs)) (line-of f ts is on (omega arith))
      (cases-lined (case c g b cs) (drop (length (Name match_name ∷ match_front e)) ts) n.1 keeps.1 (drop-lines (length (Name match_name ∷ match_front e)) ts on) (omega arith))
  kind-lined _ f ts n is keeps on lt = All-cons IsLine f [] (line-of f ts is on (omega arith)) (All-nil IsLine)
