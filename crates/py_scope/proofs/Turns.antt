-- A turn over clauses and cases, where it counts whether another one follows.
use Rattle.std.proofs.Common.{◌≡◌, ℕ, suc, lt-ltb, ◌+◌, ◌<◌, nat_lt, ◌&&◌, List, [], ◌∷◌, length, drop, get_or, Option, Some, None, is_none, is_some, refl, ap, sym, ◌∙◌, length-drop, arith}
use Rattle.py_syntax.specs.declared.stmt.Case.{Case, out-Case}
use Rattle.py_syntax.specs.declared.stmt.Clause.{Clause, out-Clause}
use Rattle.std.proofs.Common.{Vec, Global, Result, OnOk}
use Rattle.py_syntax.specs.declared.stmt.StmtKind as kind_
use Rattle.py_syntax.specs.declared.stmt.StmtKind.{StmtKind}
use Rattle.py_syntax.specs.declared.stmt.Suite.{Suite, out-Suite}
use Rattle.py_syntax.specs.Tree.{Expr, Pattern, Suite as PlainSuite, Clauses, clause, Cases, case, suite, Text}
use Rattle.py_syntax.specs.declared.expr.Expr.{Expr as Node}
use Rattle.py_syntax.specs.View.{plain_expr, plain_pattern, plain_kind, plain_suite, plain_opt_suite, plain_clauses, plain_cases}
use Rattle.std.specs.Option.{option_map}
use Rattle.py_scope.specs.declared.place.Place.{Place}
use Rattle.py_scope.specs.declared.error.ScopeError.TheVariants.{EarlyIrrefutable}
use Rattle.py_scope.specs.Faults.{Findings, ◌&◌, blame, blame_case, findings, suite_findings, clauses_findings, cases_findings, has_clause, has_case, in_clause, in_finally, kind_findings, opt_findings}
use Rattle.py_scope.specs.Parts.{clause_part, case_part}
use Rattle.py_scope.proofs.Gathering.{found, the_drop, goes_on}
use Rattle.py_scope.proofs.Forms.{plain-Suite, plain-clauses, plain-cases, plain-Try}

abbrev suite_first : PlainSuite → ℕ
suite_first (suite first last inline b) = first

first-is : (s : Suite) → suite_first (plain_suite s) ≡ (out-Suite s).first
first-is s = ap suite_first (plain-Suite s)

none-is : (o : Option Node) → is_none (option_map plain_expr o) ≡ is_none o
none-is None = refl
none-is (Some e) = refl

some-is : (o : Option Node) → is_some (option_map plain_expr o) ≡ is_some o
some-is None = refl
some-is (Some e) = refl

clause-shape : (at : Place) (k : Option Expr) (x : Option Text) (s : PlainSuite) (cs : Clauses)
    → clauses_findings at (clause k x s cs) ≡ ((blame (is_none k && has_clause cs) (EarlyIrrefutable (suite_first s)) & suite_findings (in_clause at) s) & clauses_findings at cs)
clause-shape at k x (suite first last inline b) cs = found.joined (blame (is_none k && has_clause cs) (EarlyIrrefutable first)) (findings (in_clause at) b) (clauses_findings at cs)

case-shape : (at : Place) (p : Pattern) (g : Option Expr) (s : PlainSuite) (cs : Cases)
    → cases_findings at (case p g s cs) ≡ ((blame_case (suite_first s) p (is_some g) (has_case cs) & suite_findings at s) & cases_findings at cs)
case-shape at p g (suite first last inline b) cs = found.joined (blame_case first p (is_some g) (has_case cs)) (findings at b) (cases_findings at cs)

clause-follows : (cs : List Clause) → has_clause (plain_clauses cs) ≡ nat_lt 0 (length cs)
clause-follows [] = refl
clause-follows (c ∷ cs) = ap has_clause (plain-clauses c cs) ∙ sym (lt-ltb 0 (suc (length cs)) (omega arith))

case-follows : (cs : List Case) → has_case (plain_cases cs) ≡ nat_lt 0 (length cs)
case-follows [] = refl
case-follows (c ∷ cs) = ap has_case (plain-cases c cs) ∙ sym (lt-ltb 0 (suc (length cs)) (omega arith))

left_over : {X : Type 0} (xs : List X) (i n : ℕ) → n + (i + 1) ≡ length xs → length (drop (i + 1) xs) ≡ n
left_over xs i n e = length-drop (i + 1) xs ∙ omega (arith, e)

clause-step : (at : Place) (c : Clause) (cs : List Clause) (n : ℕ) → length cs ≡ n → clauses_findings at (plain_clauses (c ∷ cs)) ≡ (clause_part at c (nat_lt 0 n) & clauses_findings at (plain_clauses cs))
clause-step at c cs n e =
    ap (clauses_findings at) (plain-clauses c cs)
    ∙ clause-shape at (option_map plain_expr (out-Clause c).kind) (out-Clause c).name (plain_suite (out-Clause c).body) (plain_clauses cs)
    ∙ ap (λ b. (blame (b && has_clause (plain_clauses cs)) (EarlyIrrefutable (suite_first (plain_suite (out-Clause c).body))) & suite_findings (in_clause at) (plain_suite (out-Clause c).body)) & clauses_findings at (plain_clauses cs)) (none-is (out-Clause c).kind)
    ∙ ap (λ b. (blame (is_none (out-Clause c).kind && b) (EarlyIrrefutable (suite_first (plain_suite (out-Clause c).body))) & suite_findings (in_clause at) (plain_suite (out-Clause c).body)) & clauses_findings at (plain_clauses cs)) (clause-follows cs ∙ ap (nat_lt 0) e)
    ∙ ap (λ l. (blame (is_none (out-Clause c).kind && nat_lt 0 n) (EarlyIrrefutable l) & suite_findings (in_clause at) (plain_suite (out-Clause c).body)) & clauses_findings at (plain_clauses cs)) (first-is (out-Clause c).body)

case-step : (at : Place) (c : Case) (cs : List Case) (n : ℕ) → length cs ≡ n → cases_findings at (plain_cases (c ∷ cs)) ≡ (case_part at c (nat_lt 0 n) & cases_findings at (plain_cases cs))
case-step at c cs n e =
    ap (cases_findings at) (plain-cases c cs)
    ∙ case-shape at (plain_pattern (out-Case c).pattern) (option_map plain_expr (out-Case c).guard) (plain_suite (out-Case c).body) (plain_cases cs)
    ∙ ap (λ b. (blame_case (suite_first (plain_suite (out-Case c).body)) (plain_pattern (out-Case c).pattern) b (has_case (plain_cases cs)) & suite_findings at (plain_suite (out-Case c).body)) & cases_findings at (plain_cases cs)) (some-is (out-Case c).guard)
    ∙ ap (λ b. (blame_case (suite_first (plain_suite (out-Case c).body)) (plain_pattern (out-Case c).pattern) (is_some (out-Case c).guard) b & suite_findings at (plain_suite (out-Case c).body)) & cases_findings at (plain_cases cs)) (case-follows cs ∙ ap (nat_lt 0) e)
    ∙ ap (λ l. (blame_case l (plain_pattern (out-Case c).pattern) (is_some (out-Case c).guard) (nat_lt 0 n) & suite_findings at (plain_suite (out-Case c).body)) & cases_findings at (plain_cases cs)) (first-is (out-Case c).body)

pub clause_turn : (at : Place) (now next w : Findings) (cs : List Clause) (i n : ℕ) (c : Clause) → i < length cs → c ≡ get_or cs i c → n + (i + 1) ≡ length cs → next ≡ (now & clause_part at c (nat_lt 0 n))
    → (now & clauses_findings at (plain_clauses (drop i cs))) ≡ w → (next & clauses_findings at (plain_clauses (drop (i + 1) cs))) ≡ w
clause_turn at now next w cs i n c lt is count e h =
    ap (λ k. k & clauses_findings at (plain_clauses (drop (i + 1) cs))) e
    ∙ sym (found.joined now (clause_part at c (nat_lt 0 n)) (clauses_findings at (plain_clauses (drop (i + 1) cs))))
    ∙ ap (λ z. now & z) (sym (clause-step at c (drop (i + 1) cs) n (left_over cs i n count)))
    ∙ ap (λ xs. now & clauses_findings at (plain_clauses xs)) (sym (the_drop cs i c lt is))
    ∙ h

pub case_turn : (at : Place) (now next w : Findings) (cs : List Case) (i n : ℕ) (c : Case) → i < length cs → c ≡ get_or cs i c → n + (i + 1) ≡ length cs → next ≡ (now & case_part at c (nat_lt 0 n))
    → (now & cases_findings at (plain_cases (drop i cs))) ≡ w → (next & cases_findings at (plain_cases (drop (i + 1) cs))) ≡ w
case_turn at now next w cs i n c lt is count e h =
    ap (λ k. k & cases_findings at (plain_cases (drop (i + 1) cs))) e
    ∙ sym (found.joined now (case_part at c (nat_lt 0 n)) (cases_findings at (plain_cases (drop (i + 1) cs))))
    ∙ ap (λ z. now & z) (sym (case-step at c (drop (i + 1) cs) n (left_over cs i n count)))
    ∙ ap (λ xs. now & cases_findings at (plain_cases xs)) (sym (the_drop cs i c lt is))
    ∙ h

-- what is found in a `try`
try-is : (at inner : Place) (line : ℕ) (k : StmtKind) (b : Suite) (cs : Vec Clause Global) (slice : List Clause) (o f : Option Suite) → k ≡ kind_.Try b cs o f → slice ≡ cs.items → inner ≡ in_finally at
    → kind_findings at line (plain_kind k) ≡ (suite_findings at (plain_suite b) & (clauses_findings at (plain_clauses slice) & (opt_findings at (plain_opt_suite o) & opt_findings inner (plain_opt_suite f))))
try-is at inner line k b cs slice o f is same fin =
    ap (λ q. kind_findings at line (plain_kind q)) is
    ∙ ap (kind_findings at line) (plain-Try b cs o f)
    ∙ ap (λ xs. suite_findings at (plain_suite b) & (clauses_findings at (plain_clauses xs) & (opt_findings at (plain_opt_suite o) & opt_findings (in_finally at) (plain_opt_suite f)))) (sym same)
    ∙ ap (λ p. suite_findings at (plain_suite b) & (clauses_findings at (plain_clauses slice) & (opt_findings at (plain_opt_suite o) & opt_findings p (plain_opt_suite f)))) (sym fin)

pub tried : {E : Type 0} (r : Result (Unit {0}) E) (at inner : Place) (line : ℕ) (k : StmtKind) (b : Suite) (cs : Vec Clause Global) (slice : List Clause) (o f : Option Suite) (before body clauses orelse after : Findings)
    → k ≡ kind_.Try b cs o f → slice ≡ cs.items → inner ≡ in_finally at
    → body ≡ (before & suite_findings at (plain_suite b)) → clauses ≡ (body & clauses_findings at (plain_clauses slice)) → orelse ≡ (clauses & opt_findings at (plain_opt_suite o))
    → OnOk r (after ≡ (orelse & opt_findings inner (plain_opt_suite f))) → OnOk r (after ≡ (before & kind_findings at line (plain_kind k)))
tried r at inner line k b cs slice o f before body clauses orelse after is same fin h1 h2 h3 h4 =
    let B = suite_findings at (plain_suite b) in
    let C = clauses_findings at (plain_clauses slice) in
    let O = opt_findings at (plain_opt_suite o) in
    let F = opt_findings inner (plain_opt_suite f) in
    goes_on found r before body after B (C & (O & F)) (kind_findings at line (plain_kind k))
    (goes_on found r body clauses after C (O & F) (C & (O & F)) (goes_on found r clauses orelse after O F (O & F) h4 h3 refl) h2 refl)
    h1
    (try-is at inner line k b cs slice o f is same fin)
