-- The headers of compound statements: the machine reads each of them up to the place after its colon.
use Rattle.std.proofs.Common.{◌≡◌, ℕ, suc, true, false, List, [], ◌∷◌, Option, Some, None, refl, sym, ap, ◌∙◌, arith}
use Rattle.py_token.specs.declared.token.Keyword.{Keyword}
use Rattle.py_token.specs.declared.token.Keyword.TheVariants as word
use Rattle.py_token.specs.declared.token.Mark.TheVariants as mark
use Rattle.py_syntax.specs.Tree.{Text, Expr, Suite, Arms, no_arms, Clauses, Cases, no_cases, Pattern}
use Rattle.py_syntax.specs.Kinds.{Kind, Name, Word, Sign, Newline, Indent}
use Rattle.py_syntax.specs.Tokens.{tokens, pattern_tokens}
use Rattle.py_syntax.specs.Normal.{Normal, is_target, NormalPattern}
use Rattle.py_syntax.specs.Headers.{Marked, put, match_name}
use Rattle.py_syntax.specs.Statements.{except_tokens, guard_tokens, case_name, IsOption, NormalExpr, NormalClauseHead}
use Rattle.py_syntax.specs.Spelling.{test_head, for_head}
use Rattle.py_grammar.specs.TokenClasses.{begins}
use Rattle.py_grammar.specs.Machine as expression
use Rattle.py_grammar.specs.Machine.{Goal, any, one, target, start, class}
use Rattle.py_statements.specs.Open.{SuiteOf, an_arm, a_while, a_for, a_clause, a_case, SuiteStack}
use Rattle.py_statements.specs.Machine.{Continuation, arm_test, while_test, for_target, for_over, clause_kind, subject, guard, wanted, reads, Place, Reading, Except, SuiteWanted, Span, State, at, Choosing, begun_at, onward, compound_place, begin_simple, resume, act, step, header_step}
use Rattle.py_parse.specs.Places.{Source, kinds_past, run}
use Rattle.py_parse.proofs.Complete.OnLines.{plain, lines, after, past, pattern_past, past_parted, past_pattern, Spelt, any_spelt, one_spelt, target_spelt, on_line, begins_elsewhere, pattern_on_line}
use Rattle.py_parse.proofs.Complete.Suites.{goes_on, Ready, line_begins}

-- after the colon of a header whose suite belongs to this
abbrev pub headed : Source → SuiteOf → ℕ → ℕ → SuiteStack → List Marked → ℕ → Option State
headed src o g f b rest q = run src (at (SuiteWanted o) (lines src g f q) b) rest q

-- a compound statement begins at its keyword
pub compound_begins : (w : Keyword) (P : Place) → goes_on (Word w) ≡ false → compound_place (Word w) ≡ Some P → (src : Source) (s : State) (b : SuiteStack) → Ready s b → (ms : List Marked) (p : ℕ) →
    run src s (plain (Word w) ∷ ms) p ≡ run src (at P (lines src (src.first p) (src.first p) (suc p)) b) ms (suc p)
compound_begins w P new is src s b ready ms p =
    ap (λ (o : Option State). after src o ms (suc p))
    (ready.takes (Word w) (src.first p) (src.last p) new
    ∙ line_begins b (Word w) (src.first p) (src.last p) refl
    ∙ ap (λ (o : Option Place). elim o as (λ (v : Option Place). Option State) [ Some q ↦ Some (at q (begun_at (src.first p) (src.last p)) b) | None ↦ begin_simple b (Word w) (src.first p) (src.last p) ]) is)

-- The last expression of a header, with the colon.
pub colon_read : (g : Goal) (e : Expr) → Spelt g e (Sign mark.Colon) → (r : Continuation) (o : SuiteOf) → ((n : Span) (b : SuiteStack) (l : ℕ) → resume r e n b (Sign mark.Colon) l ≡ Some (at (SuiteWanted o) (onward n l) b)) → (src : Source) (c f : ℕ) (b : SuiteStack) (rest : List Marked) (p : ℕ) →
    run src (at (Reading r (start g)) (lines src c f p) b) (put (tokens e (Sign mark.Colon ∷ [])) rest) p ≡ headed src o c f b rest (kinds_past (tokens e (Sign mark.Colon ∷ [])) p)
colon_read g e h r o is src c f b rest p =
    on_line g e (Sign mark.Colon) h src r c f b [] rest p
    ∙ ap (λ (w : Option State). after src w rest (suc (past e p))) (is (lines src c f (past e p)) b (src.last (past e p)))
    ∙ ap (headed src o c f b rest) (sym (past_parted e (Sign mark.Colon ∷ []) p))

colon_one : (e : Expr) → NormalExpr e → Spelt one e (Sign mark.Colon)
colon_one e n = one_spelt e (Sign mark.Colon) n (omega arith, refl)

colon_any : (e : Expr) → Normal e → Spelt any e (Sign mark.Colon)
colon_any e n = any_spelt e (Sign mark.Colon) n (omega arith, refl, refl)

-- ---- `if`, `elif`, `while` and `for`

-- the test of an `if` or an `elif`
pub arm_read : (t : Expr) → NormalExpr t → (arms : Arms) (src : Source) (c f : ℕ) (b : SuiteStack) (rest : List Marked) (p : ℕ) → run src (at (wanted (arm_test arms)) (lines src c f p) b) (put (tokens t (Sign mark.Colon ∷ [])) rest) p ≡ headed src (an_arm arms t) c f b rest (kinds_past (tokens t (Sign mark.Colon ∷ [])) p)
arm_read t n arms = colon_read one t (colon_one t n) (arm_test arms) (an_arm arms t) (λ n b l. refl)

pub if_head : (t : Expr) → NormalExpr t → (src : Source) (s : State) (b : SuiteStack) → Ready s b → (rest : List Marked) (p : ℕ) → run src s (put (test_head word.If t) rest) p ≡ headed src (an_arm no_arms t) (src.first p) (src.first p) b rest (kinds_past (test_head word.If t) p)
if_head t n src s b ready rest p =
    compound_begins word.If (wanted (arm_test no_arms)) refl refl src s b ready (put (tokens t (Sign mark.Colon ∷ [])) rest) p
    ∙ arm_read t n no_arms src (src.first p) (src.first p) b rest (suc p)

pub while_head : (t : Expr) → NormalExpr t → (src : Source) (s : State) (b : SuiteStack) → Ready s b → (rest : List Marked) (p : ℕ) → run src s (put (test_head word.While t) rest) p ≡ headed src (a_while t) (src.first p) (src.first p) b rest (kinds_past (test_head word.While t) p)
while_head t n src s b ready rest p =
    compound_begins word.While (wanted while_test) refl refl src s b ready (put (tokens t (Sign mark.Colon ∷ [])) rest) p
    ∙ colon_read one t (colon_one t n) while_test (a_while t) (λ n b l. refl) src (src.first p) (src.first p) b rest (suc p)

pub for_reads : (t e : Expr) → Normal t → is_target t ≡ true → Normal e → (src : Source) (s : State) (b : SuiteStack) → Ready s b → (rest : List Marked) (p : ℕ) → run src s (put (for_head t e) rest) p ≡ headed src (a_for t e) (src.first p) (src.first p) b rest (kinds_past (for_head t e) p)
for_reads t e nt is ne src s b ready rest p =
    let F = src.first p in
    let over = tokens e (Sign mark.Colon ∷ []) in
    compound_begins word.For (wanted for_target) refl refl src s b ready (put (tokens t (Word word.In ∷ over)) rest) p
    ∙ on_line target t (Word word.In) (target_spelt t (Word word.In) nt is (omega arith, refl, refl, λ h. cc)) src for_target F F b over rest (suc p)
    ∙ colon_read any e (colon_any e ne) (for_over t) (a_for t e) (λ n b l. refl) src F F b rest (suc (past t (suc p)))
    ∙ ap (headed src (a_for t e) F F b rest) (sym (past_parted t (Word word.In ∷ over) (suc p)))

-- ---- clauses

except_takes : (body : Suite) (cs : Clauses) (n : Span) (b : SuiteStack) (h : Kind) (f l : ℕ) → begins (class h) ≡ true → act (Except body cs) n b h f l ≡ reads (clause_kind body cs) (onward n l) b (expression.step (start one) (class h))
except_takes body cs n b (Sign mark.Colon) f l q = absurd cc
except_takes body cs n b h f l q = refl

-- from after the `except`
clause_read : (e : Expr) → NormalExpr e → (body : Suite) (cs : Clauses) (a : List Kind) (src : Source) (c f : ℕ) (b : SuiteStack) (rest : List Marked) (p : ℕ) → run src (at (Except body cs) (lines src c f p) b) (put (tokens e a) rest) p ≡ run src (at (wanted (clause_kind body cs)) (lines src c f p) b) (put (tokens e a) rest) p
clause_read e n body cs a src c f b rest p = begins_elsewhere true (at (Except body cs) (lines src c f p) b) (clause_kind body cs) c f b e n.1 src p (λ h q. except_takes body cs (lines src c f p) b h (src.first p) (src.last p) q) a rest

-- The state between the parts of a `try` takes the `except`; the clause begins at it.
pub except_head : (e : Option Expr) (x : Option Text) → NormalClauseHead e x → (body : Suite) (cs : Clauses) (src : Source) (g : ℕ) (s : State) (b : SuiteStack) (rest : List Marked) (p : ℕ) →
    step s (plain (Word word.Except)) (src.first p) (src.last p) ≡ Some (at (Except body cs) (lines src g (src.first p) (suc p)) b) →
    run src s (put (except_tokens e x) rest) p ≡ headed src (a_clause body cs e x) g (src.first p) b rest (kinds_past (except_tokens e x) p)
except_head None x n body cs src g s b rest p takes =
    ap (λ (w : Option State). after src w (plain (Sign mark.Colon) ∷ rest) (suc p)) takes
    ∙ ap (λ (y : Option Text). headed src (a_clause body cs None y) g (src.first p) b rest (suc (suc p))) (sym n)
except_head (Some e) None n body cs src g s b rest p takes =
    ap (λ (w : Option State). after src w (put (tokens e (Sign mark.Colon ∷ [])) rest) (suc p)) takes
    ∙ clause_read e n body cs (Sign mark.Colon ∷ []) src g (src.first p) b rest (suc p)
    ∙ colon_read one e (colon_one e n) (clause_kind body cs) (a_clause body cs (Some e) None) (λ n b l. refl) src g (src.first p) b rest (suc p)
except_head (Some e) (Some x) n body cs src g s b rest p takes =
    let a = Name x ∷ Sign mark.Colon ∷ [] in
    ap (λ (w : Option State). after src w (put (tokens e (Word word.As ∷ a)) rest) (suc p)) takes
    ∙ clause_read e n body cs (Word word.As ∷ a) src g (src.first p) b rest (suc p)
    ∙ on_line one e (Word word.As) (one_spelt e (Word word.As) n (omega arith, refl)) src (clause_kind body cs) g (src.first p) b a rest (suc p)
    ∙ ap (headed src (a_clause body cs (Some e) (Some x)) g (src.first p) b rest) (sym (past_parted e (Word word.As ∷ a) (suc p)))

-- ---- `match` and its cases

-- up to the first case
pub match_reads : (e : Expr) → Normal e → (src : Source) (s : State) (b : SuiteStack) → Ready s b → (rest : List Marked) (p : ℕ) →
    run src s (record { kind = Name match_name; header = true } ∷ put (tokens e (Sign mark.Colon ∷ Newline ∷ Indent ∷ [])) rest) p
    ≡ run src (Choosing e (src.last (past e (suc p))) no_cases (src.first p) b) rest (suc (suc (suc (past e (suc p)))))
match_reads e n src s b ready rest p =
    let F = src.first p in
    let a = Newline ∷ Indent ∷ [] in
    ap (λ (w : Option SuiteStack). after src (header_step w (Name match_name) F (src.last p)) (put (tokens e (Sign mark.Colon ∷ a)) rest) (suc p)) ready.opens
    ∙ on_line any e (Sign mark.Colon) (colon_any e n) src subject F F b a rest (suc p)

-- the header of a case
pub case_head : (c : Pattern) (u : Option Expr) → NormalPattern c → IsOption NormalExpr u → (e : Expr) (last : ℕ) (cs : Cases) (src : Source) (g : ℕ) (b : SuiteStack) (rest : List Marked) (p : ℕ) →
    run src (Choosing e last cs g b) (put (Name case_name ∷ pattern_tokens c (guard_tokens u)) rest) p ≡ headed src (a_case e last cs c u) g (src.first p) b rest (kinds_past (Name case_name ∷ pattern_tokens c (guard_tokens u)) p)
case_head c None nc nu e last cs src g b rest p =
    let F = src.first p in
    pattern_on_line c (Sign mark.Colon) nc refl src e last cs g F b [] rest (suc p)
    ∙ ap (headed src (a_case e last cs c None) g F b rest) (sym (past_pattern c (Sign mark.Colon ∷ []) (suc p)))
case_head c (Some u) nc nu e last cs src g b rest p =
    let F = src.first p in
    let a = tokens u (Sign mark.Colon ∷ []) in
    pattern_on_line c (Word word.If) nc refl src e last cs g F b a rest (suc p)
    ∙ colon_read one u (colon_one u nu) (guard e last cs c) (a_case e last cs c (Some u)) (λ n b l. refl) src g F b rest (suc (pattern_past c (suc p)))
    ∙ ap (headed src (a_case e last cs c (Some u)) g F b rest) (sym (past_pattern c (Word word.If ∷ a) (suc p)))
