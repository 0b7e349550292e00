-- Compound statements: the machine reads each of them to the state after its last suite, where it reads its suites.
use Rattle.std.proofs.Common.{◌≡◌, ℕ, suc, Bool, true, List, [], ◌∷◌, Option, Some, None, refl, sym, ap, ◌∙◌}
use Rattle.py_token.specs.declared.token.Keyword.{Keyword}
use Rattle.py_token.specs.declared.token.Keyword.TheVariants as word
use Rattle.py_token.specs.declared.token.Mark.TheVariants as mark
use Rattle.py_syntax.specs.Tree.{Text, Expr, Exprs, Pattern}
use Rattle.py_syntax.specs.Tree.{Suite, OptSuite, no_suite, has_suite, Arms, no_arms, arm, Clauses, no_clauses, clause, Cases, no_cases, case, StmtKind, if', while, for, try, def, match}
use Rattle.py_syntax.specs.Kinds.{Kind, Name, Word, Sign, Dedent}
use Rattle.py_syntax.specs.Tokens.{tokens, pattern_tokens}
use Rattle.py_syntax.specs.Normal.{Normal, is_target}
use Rattle.py_syntax.specs.Headers.{Marked, put}
use Rattle.py_syntax.specs.Statements.{suite_tokens, else_tokens, finally_tokens, elif_tokens, clause_tokens, case_tokens, except_tokens, guard_tokens, case_name, NormalExpr, NormalTry, NormalParams, NormalArms, NormalClauses, NormalCases}
use Rattle.py_syntax.specs.Spelling.{test_head, for_head}
use Rattle.py_statements.specs.Open.{snoc_arm, snoc_clause, snoc_case, SuiteOf, an_arm, a_while, a_for, a_try, a_clause, an_else, a_finally, a_def, a_case, with_else, SuiteStack}
use Rattle.py_statements.specs.Machine.{arm_test, wanted, Place, Except, ColonWanted, State, at, After, Choosing, next_part, at_line, on_line}
use Rattle.py_parse.specs.Places.{Source, kinds_past, def_head, match_head, suite_past, opt_past, arms_past, clauses_past, cases_past, last_before, run, relined_suite, relined_opt, relined_arms, relined_clauses, relined_cases}
use Rattle.py_parse.proofs.Complete.OnLines.{plain, lines, after, past_parted}
use Rattle.py_parse.proofs.Complete.Suites.{CompoundBack, Whole, shut, SuiteBack}
use Rattle.py_parse.proofs.Complete.Heads.{compound_begins, arm_read, if_head, while_head, for_reads, except_head, match_reads, case_head}
use Rattle.py_parse.proofs.Complete.Params.{def_reads}

-- ---- the parts after a suite

-- the state after a suite, at a place
abbrev later : Source → StmtKind → ℕ → SuiteStack → List Marked → ℕ → Option State
later src k g b rest p = run src (After k g (last_before src p) b) rest p

-- A part that goes on with the statement begins at its keyword.
next_taken : (k : StmtKind) (t : Kind) (P : Place) → next_part k t ≡ Some P → (src : Source) (g : ℕ) (b : SuiteStack) (ms : List Marked) (p : ℕ) → later src k g b (plain t ∷ ms) p ≡ run src (at P (lines src g (src.first p) (suc p)) b) ms (suc p)
next_taken k t P is src g b ms p =
    ap (λ (o : Option Place). after src (elim o as (λ (w : Option Place). Option State) [ Some q ↦ Some (at q (lines src g (src.first p) (suc p)) b) | None ↦ on_line (at_line (After k g (last_before src p) b)) t (src.first p) (src.last p) ]) ms (suc p)) is

-- such a keyword with its colon and its suite
word_suite : (w : Keyword) (k : StmtKind) (o : SuiteOf) → next_part k (Word w) ≡ Some (ColonWanted o) → (s : Suite) → SuiteBack s → (src : Source) (g : ℕ) (b : SuiteStack) (rest : List Marked) (p : ℕ) →
    later src k g b (put (Word w ∷ Sign mark.Colon ∷ []) (suite_tokens s rest)) p ≡ run src (shut o (relined_suite src s p (suc (suc p))) g b (last_before src (suite_past s (suc (suc p))))) rest (suite_past s (suc (suc p)))
word_suite w k o is s back src g b rest p =
    next_taken k (Word w) (ColonWanted o) is src g b (plain (Sign mark.Colon) ∷ suite_tokens s rest) p
    ∙ back src o g b p rest (suc (suc p))

abbrev pub OptBack : OptSuite → Type 0
OptBack no_suite = Unit {0}
OptBack (has_suite s) = SuiteBack s

abbrev elsed : StmtKind → OptSuite → StmtKind
elsed k no_suite = k
elsed k (has_suite s) = with_else k s

else_read : (o : OptSuite) → OptBack o → (k : StmtKind) → next_part k (Word word.Else) ≡ Some (ColonWanted (an_else k)) → (src : Source) (g : ℕ) (b : SuiteStack) (rest : List Marked) (p : ℕ) → later src k g b (else_tokens o rest) p ≡ later src (elsed k (relined_opt src o p)) g b rest (opt_past o p)
else_read no_suite back k is src g b rest p = refl
else_read (has_suite s) back k is src g b rest p = word_suite word.Else k (an_else k) is s back src g b rest p

elsed_if : (arms : Arms) (o : OptSuite) → elsed (if' arms no_suite) o ≡ if' arms o
elsed_if arms no_suite = refl
elsed_if arms (has_suite s) = refl

elsed_while : (t : Expr) (s : Suite) (o : OptSuite) → elsed (while t s no_suite) o ≡ while t s o
elsed_while t s no_suite = refl
elsed_while t s (has_suite s') = refl

elsed_for : (t e : Expr) (s : Suite) (o : OptSuite) → elsed (for t e s no_suite) o ≡ for t e s o
elsed_for t e s no_suite = refl
elsed_for t e s (has_suite s') = refl

elsed_try : (s : Suite) (cs : Clauses) (o : OptSuite) → elsed (try s cs no_suite no_suite) o ≡ try s cs o no_suite
elsed_try s cs no_suite = refl
elsed_try s cs (has_suite s') = refl

-- ---- `if`

abbrev pub AllArms : Arms → Type 0
AllArms no_arms = Unit {0}
AllArms (arm t s arms) = SuiteBack s × AllArms arms

abbrev join_arms : Arms → Arms → Arms
join_arms no_arms arms = arms
join_arms (arm t s ds) arms = arm t s (join_arms ds arms)

arms_snoc : (ds : Arms) (t : Expr) (s : Suite) (arms : Arms) → join_arms (snoc_arm ds t s) arms ≡ join_arms ds (arm t s arms)
arms_snoc no_arms t s arms = refl
arms_snoc (arm t' s' ds) t s arms = ap (λ (x : Arms). arm t' s' x) (arms_snoc ds t s arms)

arms_none : (ds : Arms) → join_arms ds no_arms ≡ ds
arms_none no_arms = refl
arms_none (arm t s ds) = ap (λ (x : Arms). arm t s x) (arms_none ds)

elifs_read : (arms : Arms) → NormalArms arms → AllArms arms → (ds : Arms) (src : Source) (g : ℕ) (b : SuiteStack) (rest : List Marked) (p : ℕ) → later src (if' ds no_suite) g b (elif_tokens arms rest) p ≡ later src (if' (join_arms ds (relined_arms src arms p)) no_suite) g b rest (arms_past arms p)
elifs_read no_arms n back ds src g b rest p = ap (λ (x : Arms). later src (if' x no_suite) g b rest p) (sym (arms_none ds))
elifs_read (arm t s arms) n back ds src g b rest p =
    let q = kinds_past (tokens t (Sign mark.Colon ∷ [])) (suc p) in
    let more = elif_tokens arms rest in
    next_taken (if' ds no_suite) (Word word.Elif) (wanted (arm_test ds)) refl src g b (put (tokens t (Sign mark.Colon ∷ [])) (suite_tokens s more)) p
    ∙ arm_read t n.0 ds src g (src.first p) b (suite_tokens s more) (suc p)
    ∙ back.0 src (an_arm ds t) g b p more q
    ∙ elifs_read arms n.2 back.1 (snoc_arm ds t (relined_suite src s p q)) src g b rest (suite_past s q)
    ∙ ap (λ (x : Arms). later src (if' x no_suite) g b rest (arms_past arms (suite_past s q))) (arms_snoc ds t (relined_suite src s p q) (relined_arms src arms (suite_past s q)))

pub back_if : (t : Expr) (s : Suite) (arms : Arms) (o : OptSuite) → NormalExpr t → SuiteBack s → NormalArms arms → AllArms arms → OptBack o → CompoundBack (if' (arm t s arms) o)
back_if t s arms o nt back na arms_back else_back src st b ready rest p =
    let F = src.first p in
    let q = kinds_past (test_head word.If t) p in
    let r = suite_past s q in
    let u = arms_past arms r in
    let so_far = arm t (relined_suite src s p q) (relined_arms src arms r) in
    if_head t nt src st b ready (suite_tokens s (elif_tokens arms (else_tokens o rest))) p
    ∙ back src (an_arm no_arms t) F b p (elif_tokens arms (else_tokens o rest)) q
    ∙ elifs_read arms na arms_back (arm t (relined_suite src s p q) no_arms) src F b (else_tokens o rest) r
    ∙ else_read o else_back (if' so_far no_suite) refl src F b rest u
    ∙ ap (λ (k : StmtKind). later src k F b rest (opt_past o u)) (elsed_if so_far (relined_opt src o u))

-- ---- loops and functions

pub back_while : (t : Expr) (s : Suite) (o : OptSuite) → NormalExpr t → SuiteBack s → OptBack o → CompoundBack (while t s o)
back_while t s o nt back else_back src st b ready rest p =
    let F = src.first p in
    let q = kinds_past (test_head word.While t) p in
    let r = suite_past s q in
    while_head t nt src st b ready (suite_tokens s (else_tokens o rest)) p
    ∙ back src (a_while t) F b p (else_tokens o rest) q
    ∙ else_read o else_back (while t (relined_suite src s p q) no_suite) refl src F b rest r
    ∙ ap (λ (k : StmtKind). later src k F b rest (opt_past o r)) (elsed_while t (relined_suite src s p q) (relined_opt src o r))

pub back_for : (t e : Expr) (s : Suite) (o : OptSuite) → Normal t → is_target t ≡ true → Normal e → SuiteBack s → OptBack o → CompoundBack (for t e s o)
back_for t e s o nt is ne back else_back src st b ready rest p =
    let F = src.first p in
    let q = kinds_past (for_head t e) p in
    let r = suite_past s q in
    for_reads t e nt is ne src st b ready (suite_tokens s (else_tokens o rest)) p
    ∙ back src (a_for t e) F b p (else_tokens o rest) q
    ∙ else_read o else_back (for t e (relined_suite src s p q) no_suite) refl src F b rest r
    ∙ ap (λ (k : StmtKind). later src k F b rest (opt_past o r)) (elsed_for t e (relined_suite src s p q) (relined_opt src o r))

pub back_def : (x : Text) (ps : List Text) (ds : Exprs) (c : Bool) (s : Suite) → NormalParams ps ds c → SuiteBack s → CompoundBack (def x ps ds c s)
back_def x ps ds c s n back src st b ready rest p =
    def_reads x ps ds c n src st b ready (suite_tokens s rest) p
    ∙ back src (a_def x ps ds c) (src.first p) b p rest (kinds_past (def_head x ps ds c) p)

-- ---- `try`

abbrev pub AllClauses : Clauses → Type 0
AllClauses no_clauses = Unit {0}
AllClauses (clause e x s cs) = SuiteBack s × AllClauses cs

abbrev join_clauses : Clauses → Clauses → Clauses
join_clauses no_clauses cs = cs
join_clauses (clause e x s ds) cs = clause e x s (join_clauses ds cs)

clauses_snoc : (ds : Clauses) (e : Option Expr) (x : Option Text) (s : Suite) (cs : Clauses) → join_clauses (snoc_clause ds e x s) cs ≡ join_clauses ds (clause e x s cs)
clauses_snoc no_clauses e x s cs = refl
clauses_snoc (clause e' x' s' ds) e x s cs = ap (λ (z : Clauses). clause e' x' s' z) (clauses_snoc ds e x s cs)

clauses_none : (ds : Clauses) → join_clauses ds no_clauses ≡ ds
clauses_none no_clauses = refl
clauses_none (clause e x s ds) = ap (λ (z : Clauses). clause e x s z) (clauses_none ds)

except_part : (s : Suite) (ds : Clauses) → next_part (try s ds no_suite no_suite) (Word word.Except) ≡ Some (Except s ds)
except_part s no_clauses = refl
except_part s (clause e x s' ds) = refl

clauses_read : (cs : Clauses) → NormalClauses cs → AllClauses cs → (body : Suite) (ds : Clauses) (src : Source) (g : ℕ) (b : SuiteStack) (rest : List Marked) (p : ℕ) → later src (try body ds no_suite no_suite) g b (clause_tokens cs rest) p ≡ later src (try body (join_clauses ds (relined_clauses src cs p)) no_suite no_suite) g b rest (clauses_past cs p)
clauses_read no_clauses n back body ds src g b rest p = ap (λ (z : Clauses). later src (try body z no_suite no_suite) g b rest p) (sym (clauses_none ds))
clauses_read (clause e x s cs) n back body ds src g b rest p =
    let k = try body ds no_suite no_suite in
    let q = kinds_past (except_tokens e x) p in
    let more = clause_tokens cs rest in
    except_head e x n.0 body ds src g (After k g (last_before src p) b) b (suite_tokens s more) p
    (ap (λ (o : Option Place). elim o as (λ (w : Option Place). Option State) [ Some q ↦ Some (at q (lines src g (src.first p) (suc p)) b) | None ↦ on_line (at_line (After k g (last_before src p) b)) (Word word.Except) (src.first p) (src.last p) ]) (except_part body ds))
    ∙ back.0 src (a_clause body ds e x) g b p more q
    ∙ clauses_read cs n.2 back.1 body (snoc_clause ds e x (relined_suite src s p q)) src g b rest (suite_past s q)
    ∙ ap (λ (z : Clauses). later src (try body z no_suite no_suite) g b rest (clauses_past cs (suite_past s q))) (clauses_snoc ds e x (relined_suite src s p q) (relined_clauses src cs (suite_past s q)))

-- an `else` stands after clauses
abbrev MayElse : Clauses → OptSuite → Type 0
MayElse no_clauses o = o ≡ no_suite
MayElse (clause e x s cs) o = Unit {0}

may_else : (src : Source) (cs : Clauses) (o f : OptSuite) (p : ℕ) → NormalTry cs o f → MayElse (relined_clauses src cs p) o
may_else src no_clauses o f p n = n.0
may_else src (clause e x s cs) o f p n = tt

try_else : (cs : Clauses) (o : OptSuite) → MayElse cs o → OptBack o → (body : Suite) (src : Source) (g : ℕ) (b : SuiteStack) (rest : List Marked) (p : ℕ) → later src (try body cs no_suite no_suite) g b (else_tokens o rest) p ≡ later src (try body cs (relined_opt src o p) no_suite) g b rest (opt_past o p)
try_else no_clauses no_suite may back body src g b rest p = refl
try_else no_clauses (has_suite s) may back body src g b rest p = absurd cc
try_else (clause e x s cs) o may back body src g b rest p =
    else_read o back (try body (clause e x s cs) no_suite no_suite) refl src g b rest p
    ∙ ap (λ (k : StmtKind). later src k g b rest (opt_past o p)) (elsed_try body (clause e x s cs) (relined_opt src o p))

finally_part : (s : Suite) (cs : Clauses) (o : OptSuite) → next_part (try s cs o no_suite) (Word word.Finally) ≡ Some (ColonWanted (a_finally s cs o))
finally_part s no_clauses no_suite = refl
finally_part s no_clauses (has_suite o) = refl
finally_part s (clause e x s' cs) no_suite = refl
finally_part s (clause e x s' cs) (has_suite o) = refl

finally_read : (f : OptSuite) → OptBack f → (body : Suite) (cs : Clauses) (o : OptSuite) (src : Source) (g : ℕ) (b : SuiteStack) (rest : List Marked) (p : ℕ) → later src (try body cs o no_suite) g b (finally_tokens f rest) p ≡ later src (try body cs o (relined_opt src f p)) g b rest (opt_past f p)
finally_read no_suite back body cs o src g b rest p = refl
finally_read (has_suite s) back body cs o src g b rest p = word_suite word.Finally (try body cs o no_suite) (a_finally body cs o) (finally_part body cs o) s back src g b rest p

pub back_try : (s : Suite) (cs : Clauses) (o f : OptSuite) → NormalTry cs o f → SuiteBack s → NormalClauses cs → AllClauses cs → OptBack o → OptBack f → CompoundBack (try s cs o f)
back_try s cs o f nt back nc clauses_back else_back finally_back src st b ready rest p =
    let F = src.first p in
    let r = suite_past s (suc (suc p)) in
    let u = clauses_past cs r in
    let v = opt_past o u in
    let body = relined_suite src s p (suc (suc p)) in
    let cs' = relined_clauses src cs r in
    let o' = relined_opt src o u in
    let last = finally_tokens f rest in
    compound_begins word.Try (ColonWanted a_try) refl refl src st b ready (plain (Sign mark.Colon) ∷ suite_tokens s (clause_tokens cs (else_tokens o last))) p
    ∙ back src a_try F b p (clause_tokens cs (else_tokens o last)) (suc (suc p))
    ∙ clauses_read cs nc clauses_back body no_clauses src F b (else_tokens o last) r
    ∙ try_else cs' o (may_else src cs o f r nt) else_back body src F b last u
    ∙ finally_read f finally_back body cs' o' src F b rest v

pub whole_try : (s : Suite) (cs : Clauses) (o f : OptSuite) → NormalTry cs o f → Whole (try s cs o f)
whole_try s no_clauses o no_suite n src p = absurd n.1
whole_try s no_clauses o (has_suite f) n src p = refl
whole_try s (clause e x s' cs) o f n src p = refl

-- ---- `match`

abbrev pub AllCases : Cases → Type 0
AllCases no_cases = Unit {0}
AllCases (case c u s cs) = SuiteBack s × AllCases cs

abbrev join_cases : Cases → Cases → Cases
join_cases no_cases cs = cs
join_cases (case c u s ds) cs = case c u s (join_cases ds cs)

cases_snoc : (ds : Cases) (c : Pattern) (u : Option Expr) (s : Suite) (cs : Cases) → join_cases (snoc_case ds c u s) cs ≡ join_cases ds (case c u s cs)
cases_snoc no_cases c u s cs = refl
cases_snoc (case c' u' s' ds) c u s cs = ap (λ (z : Cases). case c' u' s' z) (cases_snoc ds c u s cs)

cases_none : (ds : Cases) → join_cases ds no_cases ≡ ds
cases_none no_cases = refl
cases_none (case c u s ds) = ap (λ (z : Cases). case c u s z) (cases_none ds)

cases_read : (cs : Cases) → NormalCases cs → AllCases cs → (e : Expr) (last : ℕ) (ds : Cases) (src : Source) (g : ℕ) (b : SuiteStack) (rest : List Marked) (p : ℕ) → run src (Choosing e last ds g b) (case_tokens cs rest) p ≡ run src (Choosing e last (join_cases ds (relined_cases src cs p)) g b) rest (cases_past cs p)
cases_read no_cases n back e last ds src g b rest p = ap (λ (z : Cases). run src (Choosing e last z g b) rest p) (sym (cases_none ds))
cases_read (case c u s cs) n back e last ds src g b rest p =
    let q = kinds_past (Name case_name ∷ pattern_tokens c (guard_tokens u)) p in
    let more = case_tokens cs rest in
    case_head c u n.0 n.1 e last ds src g b (suite_tokens s more) p
    ∙ back.0 src (a_case e last ds c u) g b p more q
    ∙ cases_read cs n.3 back.1 e last (snoc_case ds c u (relined_suite src s p q)) src g b rest (suite_past s q)
    ∙ ap (λ (z : Cases). run src (Choosing e last z g b) rest (cases_past cs (suite_past s q))) (cases_snoc ds c u (relined_suite src s p q) (relined_cases src cs (suite_past s q)))

pub back_match : (e : Expr) (last : ℕ) (c : Pattern) (u : Option Expr) (s : Suite) (cs : Cases) → Normal e → NormalCases (case c u s cs) → AllCases (case c u s cs) → CompoundBack (match e last (case c u s cs))
back_match e last c u s cs ne nc back src st b ready rest p =
    let F = src.first p in
    let all = case c u s cs in
    let q = kinds_past (match_head e) (suc p) in
    match_reads e ne src st b ready (case_tokens all (plain Dedent ∷ rest)) p
    ∙ ap (λ (z : ℕ). run src (Choosing e (last_before src z) no_cases F b) (case_tokens all (plain Dedent ∷ rest)) (suc (suc z))) (sym (past_parted e (Sign mark.Colon ∷ []) (suc p)))
    ∙ cases_read all nc back e (last_before src q) no_cases src F b (plain Dedent ∷ rest) (suc (suc q))
