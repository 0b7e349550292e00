-- Open suites are closed by the tokens that finish them.
use Rattle.std.proofs.Common.{◌≡◌, ℕ, suc, Bool, true, false, cond, List, [], ◌∷◌, Option, Some, None, refl, ap, ◌∙◌}
use Rattle.py_syntax.specs.declared.stmt.LineEnd.{LineEnd}
use Rattle.py_syntax.specs.Tree.{Expr, wild}
use Rattle.py_syntax.specs.Tree.{Stmts, no_stmts, stmt, suite, no_suite, has_suite, no_clauses, clause, Cases, no_cases, case, StmtKind, if', while, for, try, match}
use Rattle.py_syntax.specs.Kinds.{Kind, Dedent, End}
use Rattle.py_syntax.specs.Headers.{Marked}
use Rattle.py_statements.specs.Open.{snoc_stmt, no_end, SuiteOf, an_arm, a_while, a_for, a_try, a_clause, an_else, a_finally, a_def, a_case, closed, SuiteStack, top, inside, add}
use Rattle.py_statements.specs.Machine.{Place, SuiteWanted, IndentWanted, MatchBlock, Span, State, Line, at, After, Choosing, Over, close, over_line, line, next_part, is_whole, at_line, on_line, plain_step, step}
use Rattle.py_parse.specs.Least as least
use Rattle.py_parse.specs.Least.{pass_suite, ended, chosen, ending, closing, a_header, a_match, complete}
use Rattle.py_parse.specs.Places.{Source, run}
use Rattle.py_parse.proofs.Sound.Valid.{ValidLine, ValidSimple}
use Rattle.py_parse.proofs.Least.GrowthEnding.{Apt, apt}
use Rattle.py_parse.proofs.Least.Finish.{settled, outward, from_line, needed, suite_here, indented, choosing, match_block}

-- ---- tokens that all stand on one line

abbrev pub still : ℕ → Source
still l = record { first = λ p. l; last = λ p. l }

abbrev pub steady : ℕ → State → List Marked → Option State
steady l s [] = Some s
steady l s (m ∷ ms) = elim (step s m l l) as (λ (o : Option State). Option State) [ None ↦ None | Some n ↦ steady l n ms ]

abbrev pub goes : ℕ → Option State → List Marked → Option State
goes l o ms = elim o as (λ (w : Option State). Option State) [ None ↦ None | Some n ↦ steady l n ms ]

pub run_steady : (l : ℕ) (s : State) (ms : List Marked) (p : ℕ) → run (still l) s ms p ≡ steady l s ms
run_steady l s [] p = refl
run_steady l s (m ∷ ms) p = go (λ n. run_steady l n ms (suc p)) (step s m l l)
  where
    go : ((n : State) → run (still l) n ms (suc p) ≡ steady l n ms) → (o : Option State) → (elim o as (λ (w : Option State). Option State) [ None ↦ None | Some n ↦ run (still l) n ms (suc p) ]) ≡ goes l o ms
    go rec None = refl
    go rec (Some n) = rec n

-- the tokens ms read from a state to the end of that module
abbrev pub Ends : ℕ → State → List Marked → Stmts → Type 0
Ends l s ms m = steady l s ms ≡ Some (Over m)

-- ---- after a suite

no_dedent : (k : StmtKind) → next_part k Dedent ≡ None
no_dedent (if' arms no_suite) = refl
no_dedent (if' arms (has_suite s)) = refl
no_dedent (while t b no_suite) = refl
no_dedent (while t b (has_suite s)) = refl
no_dedent (for t e b no_suite) = refl
no_dedent (for t e b (has_suite s)) = refl
no_dedent (try b no_clauses no_suite no_suite) = refl
no_dedent (try b (clause e x s cs) no_suite no_suite) = refl
no_dedent (try b cs (has_suite s) no_suite) = refl
no_dedent (try b cs o (has_suite s)) = refl
no_dedent k = refl

no_end_part : (k : StmtKind) → next_part k End ≡ None
no_end_part (if' arms no_suite) = refl
no_end_part (if' arms (has_suite s)) = refl
no_end_part (while t b no_suite) = refl
no_end_part (while t b (has_suite s)) = refl
no_end_part (for t e b no_suite) = refl
no_end_part (for t e b (has_suite s)) = refl
no_end_part (try b no_clauses no_suite no_suite) = refl
no_end_part (try b (clause e x s cs) no_suite no_suite) = refl
no_end_part (try b cs (has_suite s) no_suite) = refl
no_end_part (try b cs o (has_suite s)) = refl
no_end_part k = refl

-- A whole statement is put into its block by a token that doesn't continue it.
after_steps : (k : StmtKind) (f l : ℕ) (b : SuiteStack) (t : Kind) → next_part k t ≡ None → is_whole k ≡ true → plain_step (After k f l b) t l l ≡ line (add b f l k no_end) t l l
after_steps k f l b t none whole =
    ap (λ (o : Option Place). elim o as (λ (w : Option Place). Option State) [ Some p ↦ Some (at p (record { begun = f; first = l; last = l }) b) | None ↦ on_line (at_line (After k f l b)) t l l ]) none
    ∙ ap (λ (c : Bool). on_line (cond c (Some (add b f l k no_end)) None) t l l) whole

-- the statement is whole and nothing follows it in its block
abbrev pub Outward : ℕ → SuiteStack → Type 0
Outward l b = (k : StmtKind) (f : ℕ) → is_whole k ≡ true → Ends l (After k f l b) (outward b) (ending l b f l k no_end)

-- A suite ends here.
pub close_ends : (ss : Stmts) (i : Bool) (x y begun : ℕ) (o : SuiteOf) (b : SuiteStack) (l : ℕ) → Apt o → Outward l b → Ends l (close (inside ss i x y begun o b) l) (settled o (outward b)) (ending l b begun l (ended l (closed o (suite x y i ss))) no_end)
close_ends ss i x y begun (an_arm arms t) b l h rest = rest (closed (an_arm arms t) (suite x y i ss)) begun refl
close_ends ss i x y begun (a_while t) b l h rest = rest (closed (a_while t) (suite x y i ss)) begun refl
close_ends ss i x y begun (a_for t e) b l h rest = rest (closed (a_for t e) (suite x y i ss)) begun refl
close_ends ss i x y begun a_try b l h rest = rest (try (suite x y i ss) no_clauses no_suite (has_suite (pass_suite l))) begun refl
close_ends ss i x y begun (a_clause s no_clauses e z) b l h rest = rest (closed (a_clause s no_clauses e z) (suite x y i ss)) begun refl
close_ends ss i x y begun (a_clause s (clause e' z' s' cs) e z) b l h rest = rest (closed (a_clause s (clause e' z' s' cs) e z) (suite x y i ss)) begun refl
close_ends ss i x y begun (an_else (if' arms no_suite)) b l h rest = rest (closed (an_else (if' arms no_suite)) (suite x y i ss)) begun refl
close_ends ss i x y begun (an_else (while t s no_suite)) b l h rest = rest (closed (an_else (while t s no_suite)) (suite x y i ss)) begun refl
close_ends ss i x y begun (an_else (for t e s no_suite)) b l h rest = rest (closed (an_else (for t e s no_suite)) (suite x y i ss)) begun refl
close_ends ss i x y begun (an_else (try s (clause e z s' cs) no_suite no_suite)) b l h rest = rest (closed (an_else (try s (clause e z s' cs) no_suite no_suite)) (suite x y i ss)) begun refl
close_ends ss i x y begun (an_else k) b l h rest = absurd h
close_ends ss i x y begun (a_finally s no_clauses o) b l h rest = rest (closed (a_finally s no_clauses o) (suite x y i ss)) begun refl
close_ends ss i x y begun (a_finally s (clause e z s' cs) o) b l h rest = rest (closed (a_finally s (clause e z s' cs) o) (suite x y i ss)) begun refl
close_ends ss i x y begun (a_def z ps ds c) b l h rest = rest (closed (a_def z ps ds c) (suite x y i ss)) begun refl
close_ends ss i x y begun (a_case e last no_cases p g) b l h rest = rest (closed (a_case e last no_cases p g) (suite x y i ss)) begun refl
close_ends ss i x y begun (a_case e last (case p' g' s' cs) p g) b l h rest = rest (closed (a_case e last (case p' g' s' cs) p g) (suite x y i ss)) begun refl

-- The open suites of statements on lines of their own end.
pub outward_ends : (b : SuiteStack) (l : ℕ) → ValidLine b → Outward l b
outward_ends (top ss) l h k f whole = ap (λ (o : Option State). goes l o []) (after_steps k f l (top ss) End (no_end_part k) whole)
outward_ends (inside ss true x y begun o b) l h k f whole = let no_way = h.0 in absurd cc
outward_ends (inside no_stmts false x y begun o b) l h k f whole =
    ap (λ (s : Option State). goes l s (settled o (outward b))) (after_steps k f l (inside no_stmts false x y begun o b) Dedent (no_dedent k) whole)
    ∙ close_ends (snoc_stmt no_stmts f l k no_end) false x y begun o b l (apt o h.3) (outward_ends b l h.4)
outward_ends (inside (stmt f' l' k' e' ss) false x y begun o b) l h k f whole =
    ap (λ (s : Option State). goes l s (settled o (outward b))) (after_steps k f l (inside (stmt f' l' k' e' ss) false x y begun o b) Dedent (no_dedent k) whole)
    ∙ close_ends (snoc_stmt (stmt f' l' k' e' ss) f l k no_end) false x y begun o b l (apt o h.3) (outward_ends b l h.4)

-- The line of a simple statement ends.
pub simple_ends : (b : SuiteStack) (l f g : ℕ) (k : StmtKind) (e : LineEnd) → ValidSimple b → Ends l (over_line (add b f g k e) l) (outward b) (ending l b f g k e)
simple_ends (top ss) l f g k e h = refl
simple_ends (inside ss true x y begun o b) l f g k e h = close_ends (snoc_stmt ss f g k e) true x y begun o b l (apt o h.2) (outward_ends b l h.3)
simple_ends (inside no_stmts false x y begun o b) l f g k e h = close_ends (snoc_stmt no_stmts f g k e) false x y begun o b l (apt o h.2) (outward_ends b l h.3)
simple_ends (inside (stmt f' l' k' e' ss) false x y begun o b) l f g k e h = close_ends (snoc_stmt (stmt f' l' k' e' ss) f g k e) false x y begun o b l (apt o h.2) (outward_ends b l h.3)

-- ---- suites of one `pass`

pub suite_ends : (o : SuiteOf) (n : Span) (b : SuiteStack) → Apt o → ValidLine b → Ends n.last (at (SuiteWanted o) n b) (suite_here o b) (complete (a_header true o) n b)
suite_ends o n b h valid = close_ends (least.pass_line n.last) true n.first n.last n.begun o b n.last h (outward_ends b n.last valid)

pub indent_ends : (o : SuiteOf) (n : Span) (b : SuiteStack) → Apt o → ValidLine b → Ends n.last (at (IndentWanted o) n b) (indented o b) (complete (a_header false o) n b)
indent_ends o n b h valid = close_ends (least.pass_line n.last) false n.first n.last n.begun o b n.last h (outward_ends b n.last valid)

pub choosing_ends : (e : Expr) (last : ℕ) (cs : Cases) (first : ℕ) (b : SuiteStack) (l : ℕ) → ValidLine b → Ends l (Choosing e last cs first b) (choosing cs b) (ending l b first l (chosen l e last cs) no_end)
choosing_ends e last no_cases first b l valid = outward_ends b l valid (match e last (case wild None (pass_suite l) no_cases)) first refl
choosing_ends e last (case p g s cs) first b l valid = outward_ends b l valid (match e last (case p g s cs)) first refl

pub block_ends : (e : Expr) (last : ℕ) (n : Span) (b : SuiteStack) → ValidLine b → Ends n.last (at (MatchBlock e last) n b) (match_block b) (complete (a_match e last) n b)
block_ends e last n b valid = choosing_ends e last no_cases n.begun b n.last valid

-- ---- lines that begin, and statements that may go on

pub line_ends : (b : SuiteStack) → ValidLine b → Ends 0 (Line b) (from_line b) (closing 0 b)
line_ends (top ss) h = refl
line_ends (inside ss true x y begun o b) h = let no_way = h.0 in absurd cc
line_ends (inside no_stmts false x y begun o b) h = close_ends (least.pass_line 0) false x y begun o b 0 (apt o h.3) (outward_ends b 0 h.4)
line_ends (inside (stmt f l k e ss) false x y begun o b) h = close_ends (stmt f l k e ss) false x y begun o b 0 (apt o h.3) (outward_ends b 0 h.4)

pub after_ends : (k : StmtKind) (f l : ℕ) (b : SuiteStack) → ValidLine b → Ends l (After k f l b) (needed k (outward b)) (ending l b f l (ended l k) no_end)
after_ends (try s no_clauses no_suite no_suite) f l b h = outward_ends b l h (try s no_clauses no_suite (has_suite (pass_suite l))) f refl
after_ends (try s no_clauses (has_suite o) no_suite) f l b h = outward_ends b l h (try s no_clauses (has_suite o) (has_suite (pass_suite l))) f refl
after_ends (try s no_clauses o (has_suite z)) f l b h = outward_ends b l h (try s no_clauses o (has_suite z)) f refl
after_ends (try s (clause e x s' cs) o z) f l b h = outward_ends b l h (try s (clause e x s' cs) o z) f refl
after_ends k f l b h = outward_ends b l h k f refl
