-- The lines that a tree keeps are those of a list exactly where the tree with the lines of the list is that tree.
use Rattle.std.proofs.Common.{◌≡◌, ℕ, zero, suc, ◌+◌, ◌≤◌, Bool, true, false, List, [], ◌∷◌, length, take, drop, Option, Some, None, refl, sym, ap, subst, ◌∙◌, arith, length-append, length-drop, drop-drop}
use Rattle.py_token.specs.declared.token.Keyword.{Keyword}
use Rattle.py_token.specs.declared.token.Keyword.TheVariants as word
use Rattle.py_token.specs.declared.token.Mark.TheVariants as mark
use Rattle.py_token.specs.Plain.{PToken}
use Rattle.py_syntax.specs.declared.stmt.LineEnd.{LineEnd}
use Rattle.py_syntax.specs.Tree.{Text, Expr, Exprs, Pattern}
use Rattle.py_syntax.specs.Tree.{Stmts, no_stmts, stmt, Suite, suite, OptSuite, no_suite, has_suite, Arms, no_arms, arm, Clauses, no_clauses, clause, Cases, no_cases, case, StmtKind, if', while, for, try, def, match}
use Rattle.py_syntax.specs.Kinds.{Kind, Name, Sign, Newline, Indent}
use Rattle.py_syntax.specs.Tokens.{tokens, pattern_tokens}
use Rattle.py_syntax.specs.Headers.{match_name}
use Rattle.py_syntax.specs.Statements.{end_tokens, except_tokens, guard_tokens, case_name, kind_tokens, suite_tokens, else_tokens, elif_tokens, clause_tokens, NormalStmts, NormalKind, NormalSuite, NormalOpt, NormalArms, NormalClauses, NormalCases}
use Rattle.py_syntax.specs.Spelling.{first_line, last_line, test_head, for_head, word_head, after_suite, KeepsLines, KindLines, SuiteLines, OptLines, ArmLines, ClauseLines, CaseLines}
use Rattle.py_parse.specs.Places.{kinds_past, def_head, match_head, stmts_past, kind_past, suite_past, opt_past, arms_past, clauses_past, cases_past, Source, last_before, relined, relined_kind, relined_suite, relined_opt, relined_arms, relined_clauses, relined_cases}
use Rattle.py_parse.proofs.Complete.Lengths.{kinds_past_is, stmts_are, kind_is, suite_is, else_is, finally_is, arms_are, clauses_are, cases_are, some_kind}
use Rattle.py_parse.proofs.Sound.Parted.{parted}

-- the lines of a list
abbrev pub source : List PToken → Source
source ts = record { first = λ p. first_line (drop p ts); last = λ p. last_line (take 1 (drop p ts)) }

abbrev Both : Type 0 → Type 0 → Type 0
Both A B = (A → B) × (B → A)

-- ---- places in a list

last_inside : (n : ℕ) (xs : List PToken) → suc n ≤ length xs → last_line (take (suc n) xs) ≡ last_line (take 1 (drop n xs))
last_inside zero xs h = refl
last_inside (suc n) [] h = absurd (omega arith)
last_inside (suc n) (x ∷ []) h = absurd (omega arith)
last_inside (suc n) (x ∷ y ∷ ys) h = last_inside n (y ∷ ys) (omega arith)

-- after so many tokens
there : (ts : List PToken) (n p q : ℕ) → q ≡ n + p → drop n (drop p ts) ≡ drop q ts
there ts n p q is = drop-drop n p ts ∙ ap (λ k. drop k ts) {x = p + n} {y = q} (omega arith)

last_there : (ts : List PToken) (n p q : ℕ) → 1 ≤ n → q ≡ n + p → q ≤ length ts → last_line (take n (drop p ts)) ≡ last_before (source ts) q
last_there ts zero p q some is low = absurd (omega arith)
last_there ts (suc n) p zero some is low = absurd (omega arith)
last_there ts (suc n) p (suc q) some is low =
    let long = length-drop p ts in
    last_inside n (drop p ts) (omega arith) ∙ ap (λ (x : List PToken). last_line (take 1 x)) (there ts n p q (omega arith))

-- ---- parts of equal trees

stmt_parts : {f l f' l' : ℕ} {k k' : StmtKind} {e : LineEnd} {ss ss' : Stmts} → stmt f l k e ss ≡ stmt f' l' k' e ss' → (f ≡ f') × (l ≡ l') × (k ≡ k') × (ss ≡ ss')
stmt_parts h = (cc, cc, cc, cc)

suite_parts : {f l f' l' : ℕ} {i : Bool} {ss ss' : Stmts} → suite f l i ss ≡ suite f' l' i ss' → (f ≡ f') × (l ≡ l') × (ss ≡ ss')
suite_parts h = (cc, cc, cc)

opt_part : {s s' : Suite} → has_suite s ≡ has_suite s' → s ≡ s'
opt_part h = cc

arm_parts : {t : Expr} {s s' : Suite} {arms arms' : Arms} → arm t s arms ≡ arm t s' arms' → (s ≡ s') × (arms ≡ arms')
arm_parts h = (cc, cc)

clause_parts : {e : Option Expr} {x : Option Text} {s s' : Suite} {cs cs' : Clauses} → clause e x s cs ≡ clause e x s' cs' → (s ≡ s') × (cs ≡ cs')
clause_parts h = (cc, cc)

case_parts : {p : Pattern} {g : Option Expr} {s s' : Suite} {cs cs' : Cases} → case p g s cs ≡ case p g s' cs' → (s ≡ s') × (cs ≡ cs')
case_parts h = (cc, cc)

if_parts : {t : Expr} {s s' : Suite} {arms arms' : Arms} {o o' : OptSuite} → if' (arm t s arms) o ≡ if' (arm t s' arms') o' → (s ≡ s') × (arms ≡ arms') × (o ≡ o')
if_parts h = (cc, cc, cc)

while_parts : {t : Expr} {s s' : Suite} {o o' : OptSuite} → while t s o ≡ while t s' o' → (s ≡ s') × (o ≡ o')
while_parts h = (cc, cc)

for_parts : {t e : Expr} {s s' : Suite} {o o' : OptSuite} → for t e s o ≡ for t e s' o' → (s ≡ s') × (o ≡ o')
for_parts h = (cc, cc)

try_parts : {s s' : Suite} {cs cs' : Clauses} {o o' f f' : OptSuite} → try s cs o f ≡ try s' cs' o' f' → (s ≡ s') × (cs ≡ cs') × (o ≡ o') × (f ≡ f')
try_parts h = (cc, cc, cc, cc)

def_part : {x : Text} {ps : List Text} {ds : Exprs} {c : Bool} {s s' : Suite} → def x ps ds c s ≡ def x ps ds c s' → s ≡ s'
def_part h = cc

match_parts : {e : Expr} {l l' : ℕ} {cs cs' : Cases} → match e l cs ≡ match e l' cs' → (l ≡ l') × (cs ≡ cs')
match_parts h = (cc, cc)

-- ---- the lines of parts

some_except : (e : Option Expr) (x : Option Text) → 1 ≤ length (except_tokens e x)
some_except None x = omega arith
some_except (Some e) x = omega arith

-- after a header and its suite
after_there : (ts : List PToken) (head : List Kind) (s : Suite) (p : ℕ) → NormalSuite s → after_suite head s (drop p ts) ≡ drop (suite_past s (kinds_past head p)) ts
after_there ts head s p h =
    let place = kinds_past_is head p in
    let are = suite_is s [] (kinds_past head p) h in
    there ts (length head + length (suite_tokens s [])) p (suite_past s (kinds_past head p)) (omega arith)

mutual
  pub stmts_lines : (ts : List PToken) (m : Stmts) (p : ℕ) → NormalStmts m → stmts_past m p ≤ length ts → Both (relined (source ts) m p ≡ m) (KeepsLines m (drop p ts))
  stmts_lines ts no_stmts p h low = (λ same. tt, λ keeps. refl)
  stmts_lines ts (stmt f l k e ss) p h low =
      let are = stmts_are ss [] (kinds_past (end_tokens e) (kind_past k p)) h.1 in
      let is = kind_is k [] p h.0 in
      let ends = kinds_past_is (end_tokens e) (kind_past k p) in
      let some = some_kind k [] h.0 in
      let last = last_there ts (length (kind_tokens k [])) p (kind_past k p) some (omega arith) (omega arith) in
      let kind = kind_lines ts k p h.0 (omega arith) in
      let rest = stmts_lines ts ss (kinds_past (end_tokens e) (kind_past k p)) h.1 low in
      let place = there ts (length (kind_tokens k []) + length (end_tokens e)) p (kinds_past (end_tokens e) (kind_past k p)) (omega arith) in (
        λ same. let parts = stmt_parts same in (sym parts.0, sym parts.1 ∙ sym last, kind.0 parts.2, subst (KeepsLines ss) (sym place) (rest.0 parts.3)),
        λ keeps.
            let one = sym keeps.0 in
            let two = sym last ∙ sym keeps.1 in
            let three = kind.1 keeps.2 in
            let four = rest.1 (subst (KeepsLines ss) place keeps.3) in
            ap (λ (x : ℕ). stmt x (last_before (source ts) (kind_past k p)) (relined_kind (source ts) k p) e (relined (source ts) ss (kinds_past (end_tokens e) (kind_past k p)))) one
            ∙ ap (λ (x : ℕ). stmt f x (relined_kind (source ts) k p) e (relined (source ts) ss (kinds_past (end_tokens e) (kind_past k p)))) two
            ∙ ap (λ (x : StmtKind). stmt f l x e (relined (source ts) ss (kinds_past (end_tokens e) (kind_past k p)))) three
            ∙ ap (λ (x : Stmts). stmt f l k e x) four,
      )

  kind_lines : (ts : List PToken) (k : StmtKind) (p : ℕ) → NormalKind k → kind_past k p ≤ length ts → Both (relined_kind (source ts) k p ≡ k) (KindLines k (drop p ts))
  kind_lines ts (if' no_arms o) p h low = absurd h
  kind_lines ts (if' (arm t b arms) o) p h low =
      let else_are = else_is o [] (arms_past arms (suite_past b (kinds_past (test_head word.If t) p))) h.1 in
      let are = arms_are arms [] (suite_past b (kinds_past (test_head word.If t) p)) h.0.2 in
      let body = suite_lines ts b (test_head word.If t) p (omega arith) h.0.1 (omega arith) in
      let others = arms_lines ts arms (suite_past b (kinds_past (test_head word.If t) p)) h.0.2 (omega arith) in
      let orelse = opt_lines ts o word.Else (arms_past arms (suite_past b (kinds_past (test_head word.If t) p))) h.1 low in
      let place = after_there ts (test_head word.If t) b p h.0.1 in
      let after = ap (drop (length (elif_tokens arms []))) place ∙ there ts (length (elif_tokens arms [])) (suite_past b (kinds_past (test_head word.If t) p)) (arms_past arms (suite_past b (kinds_past (test_head word.If t) p))) (omega arith) in (
        λ same. let parts = if_parts same in (body.0 parts.0, subst (ArmLines arms) (sym place) (others.0 parts.1), subst (OptLines o (word_head word.Else)) (sym after) (orelse.0 parts.2)),
        λ keeps.
            ap (λ (x : Suite). if' (arm t x (relined_arms (source ts) arms (suite_past b (kinds_past (test_head word.If t) p)))) (relined_opt (source ts) o (arms_past arms (suite_past b (kinds_past (test_head word.If t) p))))) (body.1 keeps.0)
            ∙ ap (λ (x : Arms). if' (arm t b x) (relined_opt (source ts) o (arms_past arms (suite_past b (kinds_past (test_head word.If t) p))))) (others.1 (subst (ArmLines arms) place keeps.1))
            ∙ ap (λ (x : OptSuite). if' (arm t b arms) x) (orelse.1 (subst (OptLines o (word_head word.Else)) after keeps.2)),
      )
  kind_lines ts (while t b o) p h low =
      let else_are = else_is o [] (suite_past b (kinds_past (test_head word.While t) p)) h.2 in
      let body = suite_lines ts b (test_head word.While t) p (omega arith) h.1 (omega arith) in
      let orelse = opt_lines ts o word.Else (suite_past b (kinds_past (test_head word.While t) p)) h.2 low in
      let place = after_there ts (test_head word.While t) b p h.1 in (
        λ same. let parts = while_parts same in (body.0 parts.0, subst (OptLines o (word_head word.Else)) (sym place) (orelse.0 parts.1)),
        λ keeps.
            ap (λ (x : Suite). while t x (relined_opt (source ts) o (suite_past b (kinds_past (test_head word.While t) p)))) (body.1 keeps.0)
            ∙ ap (λ (x : OptSuite). while t b x) (orelse.1 (subst (OptLines o (word_head word.Else)) place keeps.1)),
      )
  kind_lines ts (for t e b o) p h low =
      let else_are = else_is o [] (suite_past b (kinds_past (for_head t e) p)) h.4 in
      let body = suite_lines ts b (for_head t e) p (omega arith) h.3 (omega arith) in
      let orelse = opt_lines ts o word.Else (suite_past b (kinds_past (for_head t e) p)) h.4 low in
      let place = after_there ts (for_head t e) b p h.3 in (
        λ same. let parts = for_parts same in (body.0 parts.0, subst (OptLines o (word_head word.Else)) (sym place) (orelse.0 parts.1)),
        λ keeps.
            ap (λ (x : Suite). for t e x (relined_opt (source ts) o (suite_past b (kinds_past (for_head t e) p)))) (body.1 keeps.0)
            ∙ ap (λ (x : OptSuite). for t e b x) (orelse.1 (subst (OptLines o (word_head word.Else)) place keeps.1)),
      )
  kind_lines ts (try b cs o f) p h low =
      let final_are = finally_is f [] (opt_past o (clauses_past cs (suite_past b (suc (suc p))))) h.4 in
      let else_are = else_is o [] (clauses_past cs (suite_past b (suc (suc p)))) h.3 in
      let are = clauses_are cs [] (suite_past b (suc (suc p))) h.2 in
      let all_are = clauses_are cs (else_tokens o []) (suite_past b (suc (suc p))) h.2 in
      let body = suite_lines ts b (word_head word.Try) p (omega arith) h.1 (omega arith) in
      let others = clauses_lines ts cs (suite_past b (suc (suc p))) h.2 (omega arith) in
      let orelse = opt_lines ts o word.Else (clauses_past cs (suite_past b (suc (suc p)))) h.3 (omega arith) in
      let final = opt_lines ts f word.Finally (opt_past o (clauses_past cs (suite_past b (suc (suc p))))) h.4 low in
      let place = after_there ts (word_head word.Try) b p h.1 in
      let after = ap (drop (length (clause_tokens cs []))) place ∙ there ts (length (clause_tokens cs [])) (suite_past b (suc (suc p))) (clauses_past cs (suite_past b (suc (suc p)))) (omega arith) in
      let last = ap (drop (length (clause_tokens cs (else_tokens o [])))) place ∙ there ts (length (clause_tokens cs (else_tokens o []))) (suite_past b (suc (suc p))) (opt_past o (clauses_past cs (suite_past b (suc (suc p))))) (omega arith) in (
        λ same. let parts = try_parts same in
            (body.0 parts.0, subst (ClauseLines cs) (sym place) (others.0 parts.1), subst (OptLines o (word_head word.Else)) (sym after) (orelse.0 parts.2), subst (OptLines f (word_head word.Finally)) (sym last) (final.0 parts.3)),
        λ keeps.
            ap (λ (x : Suite). try x (relined_clauses (source ts) cs (suite_past b (suc (suc p)))) (relined_opt (source ts) o (clauses_past cs (suite_past b (suc (suc p))))) (relined_opt (source ts) f (opt_past o (clauses_past cs (suite_past b (suc (suc p))))))) (body.1 keeps.0)
            ∙ ap (λ (x : Clauses). try b x (relined_opt (source ts) o (clauses_past cs (suite_past b (suc (suc p))))) (relined_opt (source ts) f (opt_past o (clauses_past cs (suite_past b (suc (suc p))))))) (others.1 (subst (ClauseLines cs) place keeps.1))
            ∙ ap (λ (x : OptSuite). try b cs x (relined_opt (source ts) f (opt_past o (clauses_past cs (suite_past b (suc (suc p))))))) (orelse.1 (subst (OptLines o (word_head word.Else)) after keeps.2))
            ∙ ap (λ (x : OptSuite). try b cs o x) (final.1 (subst (OptLines f (word_head word.Finally)) last keeps.3)),
      )
  kind_lines ts (def x ps ds c b) p h low =
      let body = suite_lines ts b (def_head x ps ds c) p (omega arith) h.1 low in
      (λ same. body.0 (def_part same), λ keeps. ap (λ (s : Suite). def x ps ds c s) (body.1 keeps))
  kind_lines ts (match e l no_cases) p h low = absurd h
  kind_lines ts (match e l (case c g b cs)) p h low =
      let are = cases_are (case c g b cs) [] (suc (suc (kinds_past (match_head e) (suc p)))) h.1 in
      let place = kinds_past_is (match_head e) (suc p) in
      let long : length (tokens e (Sign mark.Colon ∷ Newline ∷ Indent ∷ [])) ≡ length (match_head e) + 2 = ap length (parted e (Sign mark.Colon ∷ []) (Newline ∷ Indent ∷ [])) ∙ length-append (match_head e) (Newline ∷ Indent ∷ []) in
      let last = last_there ts (length (Name match_name ∷ match_head e)) p (kinds_past (match_head e) (suc p)) (omega arith) (omega arith) (omega arith) in
      let others = cases_lines ts (case c g b cs) (suc (suc (kinds_past (match_head e) (suc p)))) h.1 (omega arith) in
      let after = there ts (length (Name match_name ∷ tokens e (Sign mark.Colon ∷ Newline ∷ Indent ∷ []))) p (suc (suc (kinds_past (match_head e) (suc p)))) (omega arith) in (
        λ same. let parts = match_parts same in (sym parts.0 ∙ sym last, subst (CaseLines (case c g b cs)) (sym after) (others.0 parts.1)),
        λ keeps.
            ap (λ (x : ℕ). match e x (relined_cases (source ts) (case c g b cs) (suc (suc (kinds_past (match_head e) (suc p)))))) (sym last ∙ sym keeps.0)
            ∙ ap (λ (x : Cases). match e l x) (others.1 (subst (CaseLines (case c g b cs)) after keeps.1)),
      )
  kind_lines ts k p h low = (λ same. tt, λ keeps. refl)

  suite_lines : (ts : List PToken) (s : Suite) (head : List Kind) (p : ℕ) → 1 ≤ length head → NormalSuite s → suite_past s (kinds_past head p) ≤ length ts → Both (relined_suite (source ts) s p (kinds_past head p) ≡ s) (SuiteLines s head (drop p ts))
  suite_lines ts (suite f l inline no_stmts) head p some h low = absurd h
  suite_lines ts (suite f l true (stmt f' l' k e ss)) head p some h low =
      let are = stmts_are (stmt f' l' k e ss) [] (kinds_past head p) h.1 in
      let is = kinds_past_is head p in
      let last = last_there ts (length head) p (kinds_past head p) some is (omega arith) in
      let body = stmts_lines ts (stmt f' l' k e ss) (kinds_past head p) h.1 low in
      let place = there ts (length head) p (kinds_past head p) is in (
        λ same. let parts = suite_parts same in (sym parts.0, sym parts.1 ∙ sym last, subst (KeepsLines (stmt f' l' k e ss)) (sym place) (body.0 parts.2)),
        λ keeps.
            ap (λ (x : ℕ). suite x (last_before (source ts) (kinds_past head p)) true (relined (source ts) (stmt f' l' k e ss) (kinds_past head p))) (sym keeps.0)
            ∙ ap (λ (x : ℕ). suite f x true (relined (source ts) (stmt f' l' k e ss) (kinds_past head p))) (sym last ∙ sym keeps.1)
            ∙ ap (λ (x : Stmts). suite f l true x) (body.1 (subst (KeepsLines (stmt f' l' k e ss)) place keeps.2)),
      )
  suite_lines ts (suite f l false (stmt f' l' k e ss)) head p some h low =
      let are = stmts_are (stmt f' l' k e ss) [] (suc (suc (kinds_past head p))) h.1 in
      let is = kinds_past_is head p in
      let last = last_there ts (length head) p (kinds_past head p) some is (omega arith) in
      let body = stmts_lines ts (stmt f' l' k e ss) (suc (suc (kinds_past head p))) h.1 (omega arith) in
      let place = there ts (length head + 2) p (suc (suc (kinds_past head p))) (omega arith) in (
        λ same. let parts = suite_parts same in (sym parts.0, sym parts.1 ∙ sym last, subst (KeepsLines (stmt f' l' k e ss)) (sym place) (body.0 parts.2)),
        λ keeps.
            ap (λ (x : ℕ). suite x (last_before (source ts) (kinds_past head p)) false (relined (source ts) (stmt f' l' k e ss) (suc (suc (kinds_past head p))))) (sym keeps.0)
            ∙ ap (λ (x : ℕ). suite f x false (relined (source ts) (stmt f' l' k e ss) (suc (suc (kinds_past head p))))) (sym last ∙ sym keeps.1)
            ∙ ap (λ (x : Stmts). suite f l false x) (body.1 (subst (KeepsLines (stmt f' l' k e ss)) place keeps.2)),
      )

  opt_lines : (ts : List PToken) (o : OptSuite) (w : Keyword) (p : ℕ) → NormalOpt o → opt_past o p ≤ length ts → Both (relined_opt (source ts) o p ≡ o) (OptLines o (word_head w) (drop p ts))
  opt_lines ts no_suite w p h low = (λ same. tt, λ keeps. refl)
  opt_lines ts (has_suite s) w p h low =
      let body = suite_lines ts s (word_head w) p (omega arith) h low in
      (λ same. body.0 (opt_part same), λ keeps. ap has_suite (body.1 keeps))

  arms_lines : (ts : List PToken) (arms : Arms) (p : ℕ) → NormalArms arms → arms_past arms p ≤ length ts → Both (relined_arms (source ts) arms p ≡ arms) (ArmLines arms (drop p ts))
  arms_lines ts no_arms p h low = (λ same. tt, λ keeps. refl)
  arms_lines ts (arm t b arms) p h low =
      let are = arms_are arms [] (suite_past b (kinds_past (test_head word.Elif t) p)) h.2 in
      let body = suite_lines ts b (test_head word.Elif t) p (omega arith) h.1 (omega arith) in
      let others = arms_lines ts arms (suite_past b (kinds_past (test_head word.Elif t) p)) h.2 low in
      let place = after_there ts (test_head word.Elif t) b p h.1 in (
        λ same. let parts = arm_parts same in (body.0 parts.0, subst (ArmLines arms) (sym place) (others.0 parts.1)),
        λ keeps.
            ap (λ (x : Suite). arm t x (relined_arms (source ts) arms (suite_past b (kinds_past (test_head word.Elif t) p)))) (body.1 keeps.0)
            ∙ ap (λ (x : Arms). arm t b x) (others.1 (subst (ArmLines arms) place keeps.1)),
      )

  clauses_lines : (ts : List PToken) (cs : Clauses) (p : ℕ) → NormalClauses cs → clauses_past cs p ≤ length ts → Both (relined_clauses (source ts) cs p ≡ cs) (ClauseLines cs (drop p ts))
  clauses_lines ts no_clauses p h low = (λ same. tt, λ keeps. refl)
  clauses_lines ts (clause e x b cs) p h low =
      let are = clauses_are cs [] (suite_past b (kinds_past (except_tokens e x) p)) h.2 in
      let body = suite_lines ts b (except_tokens e x) p (some_except e x) h.1 (omega arith) in
      let others = clauses_lines ts cs (suite_past b (kinds_past (except_tokens e x) p)) h.2 low in
      let place = after_there ts (except_tokens e x) b p h.1 in (
        λ same. let parts = clause_parts same in (body.0 parts.0, subst (ClauseLines cs) (sym place) (others.0 parts.1)),
        λ keeps.
            ap (λ (y : Suite). clause e x y (relined_clauses (source ts) cs (suite_past b (kinds_past (except_tokens e x) p)))) (body.1 keeps.0)
            ∙ ap (λ (y : Clauses). clause e x b y) (others.1 (subst (ClauseLines cs) place keeps.1)),
      )

  cases_lines : (ts : List PToken) (cs : Cases) (p : ℕ) → NormalCases cs → cases_past cs p ≤ length ts → Both (relined_cases (source ts) cs p ≡ cs) (CaseLines cs (drop p ts))
  cases_lines ts no_cases p h low = (λ same. tt, λ keeps. refl)
  cases_lines ts (case c g b cs) p h low =
      let are = cases_are cs [] (suite_past b (kinds_past (Name case_name ∷ pattern_tokens c (guard_tokens g)) p)) h.3 in
      let body = suite_lines ts b (Name case_name ∷ pattern_tokens c (guard_tokens g)) p (omega arith) h.2 (omega arith) in
      let others = cases_lines ts cs (suite_past b (kinds_past (Name case_name ∷ pattern_tokens c (guard_tokens g)) p)) h.3 low in
      let place = after_there ts (Name case_name ∷ pattern_tokens c (guard_tokens g)) b p h.2 in (
        λ same. let parts = case_parts same in (body.0 parts.0, subst (CaseLines cs) (sym place) (others.0 parts.1)),
        λ keeps.
            ap (λ (y : Suite). case c g y (relined_cases (source ts) cs (suite_past b (kinds_past (Name case_name ∷ pattern_tokens c (guard_tokens g)) p)))) (body.1 keeps.0)
            ∙ ap (λ (y : Cases). case c g b y) (others.1 (subst (CaseLines cs) place keeps.1)),
      )
