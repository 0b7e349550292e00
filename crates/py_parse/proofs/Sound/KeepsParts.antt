-- What the machine keeps where statements, lines and suites end.
use Rattle.std.proofs.Common.{◌≡◌, ℕ, Bool, true, false, Option, Some, None, refl, sym, ap, subst, ◌∙◌}
use Rattle.py_token.specs.declared.token.Mark.TheVariants as mark
use Rattle.py_syntax.specs.declared.stmt.LineEnd.{LineEnd}
use Rattle.py_syntax.specs.Tree.{Text, Expr, Pattern}
use Rattle.py_syntax.specs.Tree.{Stmts, no_stmts, stmt, Suite, suite, no_suite, Arms, no_arms, arm, Clauses, no_clauses, clause, Cases, no_cases, case, StmtKind, pass, if', while, for, try}
use Rattle.py_syntax.specs.Kinds.{Kind, Sign, Newline}
use Rattle.py_syntax.specs.Normal.{NormalPattern}
use Rattle.py_syntax.specs.Statements.{is_simple, begins_simple, EndsLine, EndLines, ShareLine, IsOption, NormalExpr, NormalClauseHead, NormalStmts, NormalKind, NormalSuite, NormalArms, NormalClauses, NormalCases}
use Rattle.py_statements.specs.Open.{snoc_stmt, snoc_arm, snoc_clause, snoc_case, no_end, newline_end, semicolon_end, both_end, SuiteOf, an_arm, a_while, a_for, a_try, a_clause, an_else, a_finally, a_def, a_case, closed, SuiteStack, top, inside, add}
use Rattle.py_statements.specs.Machine.{Span, State, close, over_line, end_simple, end_header}
use Rattle.py_parse.specs.Least.{ended}
use Rattle.py_parse.proofs.Sound.Valid.{ValidSuiteOf, with_pass, ValidLine, ValidSimple, Valid}

abbrev pub KeepsTo : Option State → Type 0
KeepsTo None = Unit {0}
KeepsTo (Some s) = Valid s

-- ---- statements after others

abbrev joined : Stmts → Stmts → Stmts
joined no_stmts t = t
joined (stmt f l k e ss) t = stmt f l k e (joined ss t)

snoc_joined : (ss : Stmts) (f l : ℕ) (k : StmtKind) (e : LineEnd) → snoc_stmt ss f l k e ≡ joined ss (stmt f l k e no_stmts)
snoc_joined no_stmts f l k e = refl
snoc_joined (stmt f' l' k' e' ss) f l k e = ap (λ (x : Stmts). stmt f' l' k' e' x) (snoc_joined ss f l k e)

joined_snoc : (ss : Stmts) (f l : ℕ) (k : StmtKind) (e : LineEnd) (t : Stmts) → joined (snoc_stmt ss f l k e) t ≡ joined ss (stmt f l k e t)
joined_snoc no_stmts f l k e t = refl
joined_snoc (stmt f' l' k' e' ss) f l k e t = ap (λ (x : Stmts). stmt f' l' k' e' x) (joined_snoc ss f l k e t)

-- a statement and then `pass`
two_joined : (ss : Stmts) (f l : ℕ) (k : StmtKind) (e : LineEnd) → with_pass (snoc_stmt ss f l k e) ≡ joined ss (stmt f l k e (stmt 0 0 pass newline_end no_stmts))
two_joined ss f l k e = snoc_joined (snoc_stmt ss f l k e) 0 0 pass newline_end ∙ joined_snoc ss f l k e (stmt 0 0 pass newline_end no_stmts)

pub normal_snoc : (ss : Stmts) (f l : ℕ) (k : StmtKind) (e : LineEnd) → NormalStmts ss → NormalKind k → NormalStmts (snoc_stmt ss f l k e)
normal_snoc no_stmts f l k e h n = (n, tt)
normal_snoc (stmt f' l' k' e' ss) f l k e h n = (h.0, normal_snoc ss f l k e h.1 n)

-- ---- line ends

ends_same : (s : Bool) (e : LineEnd) (x y : Stmts) → begins_simple x ≡ begins_simple y → EndsLine s e x → EndsLine s e y
ends_same false e x y same h = h
ends_same true e x y same h = go e.newline h
  where
    go : (c : Bool) → (elim c as (λ (w : Bool). Type 0) [ true ↦ Unit {0} | false ↦ (e.semicolon ≡ true) × (begins_simple x ≡ true) ]) → elim c as (λ (w : Bool). Type 0) [ true ↦ Unit {0} | false ↦ (e.semicolon ≡ true) × (begins_simple y ≡ true) ]
    go true h = h
    go false h = (h.0, sym same ∙ h.1)

ends_any : (s : Bool) (e : LineEnd) (y : Stmts) → EndsLine s e no_stmts → EndsLine s e y
ends_any false e y h = h
ends_any true e y h = go e.newline h
  where
    go : (c : Bool) → (elim c as (λ (w : Bool). Type 0) [ true ↦ Unit {0} | false ↦ (e.semicolon ≡ true) × (false ≡ true) ]) → elim c as (λ (w : Bool). Type 0) [ true ↦ Unit {0} | false ↦ (e.semicolon ≡ true) × (begins_simple y ≡ true) ]
    go true h = h
    go false h = let no_way = h.1 in absurd cc

-- other statements in the place of those at the end
ends_tail : (ss t u : Stmts) → begins_simple t ≡ begins_simple u → EndLines (joined ss t) → EndLines u → EndLines (joined ss u)
ends_tail no_stmts t u same h v = v
ends_tail (stmt f l k e no_stmts) t u same h v = (ends_same (is_simple k) e t u same h.0, v)
ends_tail (stmt f l k e (stmt f' l' k' e' ss)) t u same h v = (ends_same (is_simple k) e (joined (stmt f' l' k' e' ss) t) (joined (stmt f' l' k' e' ss) u) refl h.0, ends_tail (stmt f' l' k' e' ss) t u same h.1 v)

ends_joined : (ss u : Stmts) → EndLines ss → EndLines u → EndLines (joined ss u)
ends_joined no_stmts u h v = v
ends_joined (stmt f l k e no_stmts) u h v = (ends_any (is_simple k) e u h.0, v)
ends_joined (stmt f l k e (stmt f' l' k' e' ss)) u h v = (ends_same (is_simple k) e (stmt f' l' k' e' ss) (joined (stmt f' l' k' e' ss) u) refl h.0, ends_joined (stmt f' l' k' e' ss) u h.1 v)

-- a line of its own
abbrev EndsAlone : StmtKind → LineEnd → Type 0
EndsAlone k e = EndsLine (is_simple k) e no_stmts

ends_snoc : (ss : Stmts) (f l : ℕ) (k : StmtKind) (e : LineEnd) → EndLines ss → EndsAlone k e → EndLines (snoc_stmt ss f l k e)
ends_snoc ss f l k e h alone = subst EndLines (sym (snoc_joined ss f l k e)) (ends_joined ss (stmt f l k e no_stmts) h (alone, tt))

-- a simple statement after others that let one follow
ends_simple : (ss : Stmts) (f l : ℕ) (k : StmtKind) (e : LineEnd) → EndLines (with_pass ss) → is_simple k ≡ true → EndsAlone k e → EndLines (snoc_stmt ss f l k e)
ends_simple ss f l k e h simple alone =
    subst EndLines (sym (snoc_joined ss f l k e)) (ends_tail ss (stmt 0 0 pass newline_end no_stmts) (stmt f l k e no_stmts) (sym simple) (subst EndLines (snoc_joined ss 0 0 pass newline_end) h) (alone, tt))

ends_semicolon : (ss : Stmts) (f l : ℕ) (k : StmtKind) → EndLines (with_pass ss) → is_simple k ≡ true → EndLines (with_pass (snoc_stmt ss f l k semicolon_end))
ends_semicolon ss f l k h simple =
    subst EndLines (sym (two_joined ss f l k semicolon_end))
    (ends_tail ss (stmt 0 0 pass newline_end no_stmts) (stmt f l k semicolon_end (stmt 0 0 pass newline_end no_stmts)) (sym simple) (subst EndLines (snoc_joined ss 0 0 pass newline_end) h)
    (subst (λ (s : Bool). EndsLine s semicolon_end (stmt 0 0 pass newline_end no_stmts)) (sym simple) (refl, refl), (tt, tt)))

share_tail : (ss : Stmts) (f l : ℕ) (k : StmtKind) (e : LineEnd) (t : Stmts) (f' l' : ℕ) (k' : StmtKind) (e' : LineEnd) (u : Stmts) → ShareLine (joined ss (stmt f l k e t)) → ShareLine (stmt f' l' k' e' u) → ShareLine (joined ss (stmt f' l' k' e' u))
share_tail no_stmts f l k e t f' l' k' e' u h v = v
share_tail (stmt g m j d no_stmts) f l k e t f' l' k' e' u h v = (h.0, h.1, h.2, v)
share_tail (stmt g m j d (stmt g' m' j' d' ss)) f l k e t f' l' k' e' u h v = (h.0, h.1, h.2, share_tail (stmt g' m' j' d' ss) f l k e t f' l' k' e' u h.3 v)

share_simple : (ss : Stmts) (f l : ℕ) (k : StmtKind) (e : LineEnd) → ShareLine (with_pass ss) → is_simple k ≡ true → e.newline ≡ true → ShareLine (snoc_stmt ss f l k e)
share_simple ss f l k e h simple new =
    subst ShareLine (sym (snoc_joined ss f l k e)) (share_tail ss 0 0 pass newline_end no_stmts f l k e no_stmts (subst ShareLine (snoc_joined ss 0 0 pass newline_end) h) (simple, new))

share_semicolon : (ss : Stmts) (f l : ℕ) (k : StmtKind) → ShareLine (with_pass ss) → is_simple k ≡ true → ShareLine (with_pass (snoc_stmt ss f l k semicolon_end))
share_semicolon ss f l k h simple =
    subst ShareLine (sym (two_joined ss f l k semicolon_end))
    (share_tail ss 0 0 pass newline_end no_stmts f l k semicolon_end (stmt 0 0 pass newline_end no_stmts) (subst ShareLine (snoc_joined ss 0 0 pass newline_end) h) (simple, refl, refl, (refl, refl)))

-- ---- blocks

pub simple_of_line : (b : SuiteStack) → ValidLine b → ValidSimple b
simple_of_line (top ss) h = (ends_snoc ss 0 0 pass newline_end h.0 tt, h.1)
simple_of_line (inside ss true f l begun o b) h = absurd (let no_way = h.0 in cc)
simple_of_line (inside ss false f l begun o b) h = (ends_snoc ss 0 0 pass newline_end h.1 tt, h.2, h.3, h.4)

-- a compound statement is whole
pub add_compound : (b : SuiteStack) (f l : ℕ) (k : StmtKind) → ValidLine b → NormalKind k → is_simple k ≡ false → ValidLine (add b f l k no_end)
add_compound (top ss) f l k h n compound = (ends_snoc ss f l k no_end h.0 (subst (λ (s : Bool). EndsLine s no_end no_stmts) (sym compound) (refl, refl)), normal_snoc ss f l k no_end h.1 n)
add_compound (inside ss inline f' l' begun o b) f l k h n compound =
    (h.0, ends_snoc ss f l k no_end h.1 (subst (λ (s : Bool). EndsLine s no_end no_stmts) (sym compound) (refl, refl)), normal_snoc ss f l k no_end h.2 n, h.3, h.4)

pub add_semicolon : (b : SuiteStack) (f l : ℕ) (k : StmtKind) → ValidSimple b → NormalKind k → is_simple k ≡ true → ValidSimple (add b f l k semicolon_end)
add_semicolon (top ss) f l k h n simple = (ends_semicolon ss f l k h.0 simple, normal_snoc ss f l k semicolon_end h.1 n)
add_semicolon (inside ss true f' l' begun o b) f l k h n simple = (share_semicolon ss f l k h.0 simple, normal_snoc ss f l k semicolon_end h.1 n, h.2, h.3)
add_semicolon (inside ss false f' l' begun o b) f l k h n simple = (ends_semicolon ss f l k h.0 simple, normal_snoc ss f l k semicolon_end h.1 n, h.2, h.3)

-- ---- suites

arms_snoc : (arms : Arms) (t : Expr) (s : Suite) → NormalArms arms → NormalExpr t → NormalSuite s → NormalArms (snoc_arm arms t s)
arms_snoc no_arms t s h n m = (n, m, tt)
arms_snoc (arm t' s' arms) t s h n m = (h.0, h.1, arms_snoc arms t s h.2 n m)

clauses_snoc : (cs : Clauses) (e : Option Expr) (x : Option Text) (s : Suite) → NormalClauses cs → NormalClauseHead e x → NormalSuite s → NormalClauses (snoc_clause cs e x s)
clauses_snoc no_clauses e x s h n m = (n, m, tt)
clauses_snoc (clause e' x' s' cs) e x s h n m = (h.0, h.1, clauses_snoc cs e x s h.2 n m)

cases_snoc : (cs : Cases) (p : Pattern) (g : Option Expr) (s : Suite) → NormalCases cs → NormalPattern p → IsOption NormalExpr g → NormalSuite s → NormalCases (snoc_case cs p g s)
cases_snoc no_cases p g s h n i m = (n, i, m, tt)
cases_snoc (case p' g' s' cs) p g s h n i m = (h.0, h.1, h.2, cases_snoc cs p g s h.3 n i m)

-- a statement so far that may take further suites
abbrev ValidSoFar : StmtKind → Type 0
ValidSoFar k = NormalKind (ended 0 k) × (is_simple k ≡ false)

pass_suite_normal : NormalSuite (suite 0 0 true (stmt 0 0 pass newline_end no_stmts))
pass_suite_normal = ((refl, refl), (tt, tt))

else_so_far : (k : StmtKind) (s : Suite) → ValidSuiteOf (an_else k) → NormalSuite s → ValidSoFar (closed (an_else k) s)
else_so_far (if' no_arms no_suite) s h m = absurd h
else_so_far (if' (arm t b arms) no_suite) s h m = ((h.0, m), refl)
else_so_far (while t b no_suite) s h m = ((h.0, h.1, m), refl)
else_so_far (for t e b no_suite) s h m = ((h.0, h.1, h.2, h.3, m), refl)
else_so_far (try b (clause e x s' cs) no_suite no_suite) s h m = ((tt, h.1, h.2, m, tt), refl)
else_so_far k s h m = absurd h

pub close_keeps : (o : SuiteOf) (ss : Stmts) (inline : Bool) (f l begun : ℕ) (b : SuiteStack) (last : ℕ) → ValidSuiteOf o → NormalSuite (suite f l inline ss) → ValidLine b → Valid (close (inside ss inline f l begun o b) last)
close_keeps (an_arm no_arms t) ss inline f l begun b last h m k = (((h.1, m, tt), tt), refl, k)
close_keeps (an_arm (arm t' b' arms) t) ss inline f l begun b last h m k = ((arms_snoc (arm t' b' arms) t (suite f l inline ss) h.0 h.1 m, tt), refl, k)
close_keeps (a_while t) ss inline f l begun b last h m k = ((h, m, tt), refl, k)
close_keeps (a_for t e) ss inline f l begun b last h m k = ((h.0, h.1, h.2, m, tt), refl, k)
close_keeps a_try ss inline f l begun b last h m k = (((refl, tt), m, tt, tt, pass_suite_normal), refl, k)
close_keeps (a_clause s no_clauses e x) ss inline f l begun b last h m k = ((tt, h.0, (h.2, m, tt), tt, tt), refl, k)
close_keeps (a_clause s (clause e' x' s' cs) e x) ss inline f l begun b last h m k = ((tt, h.0, clauses_snoc (clause e' x' s' cs) e x (suite f l inline ss) h.1 h.2 m, tt, tt), refl, k)
close_keeps (an_else j) ss inline f l begun b last h m k = let so_far = else_so_far j (suite f l inline ss) h m in (so_far.0, so_far.1, k)
close_keeps (a_finally s no_clauses o) ss inline f l begun b last h m k = (((h.0.0, tt), h.1, h.2, h.3, m), refl, k)
close_keeps (a_finally s (clause e x s' cs) o) ss inline f l begun b last h m k = ((tt, h.1, h.2, h.3, m), refl, k)
close_keeps (a_def x ps ds c) ss inline f l begun b last h m k = ((h, m), refl, k)
close_keeps (a_case e hl cs p g) ss inline f l begun b last h m k = (h.0, cases_snoc cs p g (suite f l inline ss) h.1 h.2 h.3 m, k)

-- ---- simple statements and headers end

shared_suite : (first last : ℕ) (ss : Stmts) (f l : ℕ) (k : StmtKind) (e : LineEnd) → ShareLine (snoc_stmt ss f l k e) → NormalStmts (snoc_stmt ss f l k e) → NormalSuite (suite first last true (snoc_stmt ss f l k e))
shared_suite first last no_stmts f l k e h n = (h, n)
shared_suite first last (stmt f' l' k' e' ss) f l k e h n = (h, n)

alone : (k : StmtKind) (e : LineEnd) → is_simple k ≡ true → e.newline ≡ true → EndsAlone k e
alone k e simple new = subst (λ (s : Bool). EndsLine s e no_stmts) (sym simple) (subst (λ (c : Bool). elim c as (λ (w : Bool). Type 0) [ true ↦ Unit {0} | false ↦ (e.semicolon ≡ true) × (false ≡ true) ]) (sym new) tt)

over_line_keeps : (b : SuiteStack) (f l : ℕ) (k : StmtKind) (e : LineEnd) (last : ℕ) → ValidSimple b → NormalKind k → is_simple k ≡ true → e.newline ≡ true → Valid (over_line (add b f l k e) last)
over_line_keeps (top ss) f l k e last h n simple new = (ends_simple ss f l k e h.0 simple (alone k e simple new), normal_snoc ss f l k e h.1 n)
over_line_keeps (inside ss true f' l' begun o b) f l k e last h n simple new =
    close_keeps o (snoc_stmt ss f l k e) true f' l' begun b last h.2 (shared_suite f' l' ss f l k e (share_simple ss f l k e h.0 simple new) (normal_snoc ss f l k e h.1 n)) h.3
over_line_keeps (inside ss false f' l' begun o b) f l k e last h n simple new = (refl, ends_simple ss f l k e h.0 simple (alone k e simple new), normal_snoc ss f l k e h.1 n, h.2, h.3)

pub newline_keeps : (b : SuiteStack) (f l : ℕ) (k : StmtKind) (last : ℕ) → ValidSimple b → NormalKind k → is_simple k ≡ true → Valid (over_line (add b f l k newline_end) last)
newline_keeps b f l k last h n simple = over_line_keeps b f l k newline_end last h n simple refl

pub both_keeps : (b : SuiteStack) (f l : ℕ) (k : StmtKind) (last : ℕ) → ValidSimple b → NormalKind k → is_simple k ≡ true → Valid (over_line (add b f l k both_end) last)
both_keeps b f l k last h n simple = over_line_keeps b f l k both_end last h n simple refl

pub end_simple_keeps : (k : StmtKind) (n : Span) (b : SuiteStack) (t : Kind) (l : ℕ) → NormalKind k → is_simple k ≡ true → ValidSimple b → KeepsTo (end_simple k n b t l)
end_simple_keeps k n b (Sign mark.Semicolon) l norm simple h = (norm, simple, h)
end_simple_keeps k n b Newline l norm simple h = newline_keeps b n.begun n.last k l h norm simple
end_simple_keeps k n b t l norm simple h = tt

pub end_header_keeps : (o : SuiteOf) (n : Span) (b : SuiteStack) (t : Kind) (l : ℕ) → ValidSuiteOf o → ValidLine b → KeepsTo (end_header o n b t l)
end_header_keeps o n b (Sign mark.Colon) l valid h = (valid, h)
end_header_keeps o n b t l valid h = tt
