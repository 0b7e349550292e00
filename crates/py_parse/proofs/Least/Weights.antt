-- The height and the depth of what stands in a state, and what of them a step may add.
use Rattle.std.proofs.Common.{◌≡◌, ℕ, suc, ◌+◌, ◌≤◌, max, Bool, true, false, cond, Option, Some, None, refl, ap, arith}
use Rattle.py_syntax.specs.declared.stmt.LineEnd.{LineEnd}
use Rattle.py_syntax.specs.Tree.{Expr, Suite, suite, no_arms, arm, Cases, no_cases, case, StmtKind, match, Pattern}
use Rattle.py_syntax.specs.Statements.{stmts_height, kind_height, stmts_nesting, kind_nesting}
use Rattle.py_syntax.specs.Spelling.{HEIGHT}
use Rattle.py_grammar.specs.Machine as expression
use Rattle.py_grammar.specs.Least as expression_least
use Rattle.py_parse_pattern.specs.Machine as pattern
use Rattle.py_statements.specs.Open.{snoc_case, no_end, a_case, SuiteStack, top, inside, add}
use Rattle.py_statements.specs.Machine.{Continuation, arm_test, while_test, for_target, subject, Reading, Matching, Span, State, Line, at, After, Choosing, Over, close, over_line}
use Rattle.py_parse.specs.Least.{ended, chosen, form, least_height, least_nesting}
use Rattle.py_statements.specs.Levels as levels
use Rattle.py_statements.specs.Levels.{is_start, begins_at, open_count}
use Rattle.py_parse.proofs.Least.GrowthParts.{snoc_height, snoc_nesting, case_height, case_nesting, ended_height, ended_nesting}
use Rattle.py_parse.proofs.Least.GrowthForms.{core}
use Rattle.py_parse.proofs.Least.GrowthEnding.{closed_height, closed_nesting, suites_height, depth, suites_nesting, AptSuites, ending_height, ending_nesting, closing_height, closing_nesting, complete_height, complete_nesting}

-- ---- what stands in a state

abbrev pub state_height : State → ℕ
state_height (Line b) = suites_height b
state_height (at p n b) = max (suites_height b) (kind_height (core (form p n.last)))
state_height (After k first last b) = max (suites_height b) (kind_height k)
state_height (Choosing e last cs first b) = max (suites_height b) (kind_height (chosen 0 e last cs))
state_height (Over ss) = stmts_height ss

abbrev pub state_nesting : State → ℕ
state_nesting (Line b) = suites_nesting b
state_nesting (at p n b) = max (suites_nesting b) (kind_nesting (core (form p n.last)) + depth b)
state_nesting (After k first last b) = max (suites_nesting b) (kind_nesting k + depth b)
state_nesting (Choosing e last cs first b) = max (suites_nesting b) (kind_nesting (chosen 0 e last cs) + depth b)
state_nesting (Over ss) = stmts_nesting ss

abbrev pub AptState : State → Type 0
AptState (Line b) = AptSuites b
AptState (at p n b) = AptSuites b
AptState (After k first last b) = AptSuites b
AptState (Choosing e last cs first b) = AptSuites b
AptState (Over ss) = Unit {0}

pub is_tall : (s : State) → AptState s → least_height s ≡ state_height s
is_tall (Line b) h = closing_height 0 b h
is_tall (at p n b) h = complete_height (form p n.last) n b h
is_tall (After k first last b) h = let one = ended_height last k in let two = ending_height last b first last (ended last k) no_end h in omega arith
is_tall (Choosing e last cs first b) h = ending_height 0 b first 0 (chosen 0 e last cs) no_end h
is_tall (Over ss) h = refl

pub is_deep : (s : State) → AptState s → least_nesting s ≡ state_nesting s
is_deep (Line b) h = closing_nesting 0 b h
is_deep (at p n b) h = complete_nesting (form p n.last) n b h
is_deep (After k first last b) h = let one = ended_nesting last k in let two = ending_nesting last b first last (ended last k) no_end h in omega arith
is_deep (Choosing e last cs first b) h = ending_nesting 0 b first 0 (chosen 0 e last cs) no_end h
is_deep (Over ss) h = refl

-- ---- what a step may add

-- the height of the expression or the pattern that is being read
abbrev pub inner : State → ℕ
inner (at (Reading r s) n b) = expression_least.least s
inner (at (Matching e last cs s) n b) = pattern.least s
inner s = 0

pub not_begun : (r : Continuation) (s : expression.State) → is_start s ≡ false → begins_at (Reading r s) ≡ false
not_begun (arm_test no_arms) s h = h
not_begun (arm_test (arm t b arms)) s h = refl
not_begun while_test s h = h
not_begun for_target s h = h
not_begun subject s h = h
not_begun r s h = refl

abbrev pub level : State → ℕ
level (at p n b) = cond (begins_at p) (suc (depth b)) 0
level s = 0

-- the suites that are open
pub level_is : (s : State) → levels.level s ≡ level s
level_is (at p n b) = ap (λ (d : ℕ). cond (begins_at p) (suc d) 0) (open_is b)
  where
    open_is : (b : SuiteStack) → open_count b ≡ depth b
    open_is (top ss) = refl
    open_is (inside ss i x y begun o b) = ap suc (open_is b)
level_is s = refl

pub begun_level : (r : Continuation) (s : expression.State) (n : Span) (b : SuiteStack) → is_start s ≡ false → level (at (Reading r s) n b) ≡ 0
begun_level r s n b h = ap (λ (c : Bool). cond c (suc (depth b)) 0) (not_begun r s h)

-- What comes of a step is no higher than this and the limit, but for what is being read, and no deeper than that, but for
-- a suite that begins.
abbrev pub GrowsWithin : ℕ → ℕ → Option State → Type 0
GrowsWithin h d None = Unit {0}
GrowsWithin h d (Some s) = (state_height s ≤ max (max h HEIGHT) (inner s)) × (state_nesting s ≤ max d (level s))

pub grows_within_from : (h h' d d' : ℕ) (o : Option State) → h' ≤ max h HEIGHT → d' ≤ d → GrowsWithin h' d' o → GrowsWithin h d o
grows_within_from h h' d d' None low shallow n = tt
grows_within_from h h' d d' (Some s) low shallow n = let one = n.0 in let two = n.1 in (omega arith, omega arith)

-- ---- suites and statements end

pub added_height : (b : SuiteStack) (f l : ℕ) (k : StmtKind) (e : LineEnd) → suites_height (add b f l k e) ≡ max (suites_height b) (kind_height k)
added_height (top ss) f l k e = snoc_height ss f l k e
added_height (inside ss i x y begun o b) f l k e = let one = snoc_height ss f l k e in omega arith

pub added_nesting : (b : SuiteStack) (f l : ℕ) (k : StmtKind) (e : LineEnd) → suites_nesting (add b f l k e) ≡ max (suites_nesting b) (kind_nesting k + depth b)
added_nesting (top ss) f l k e = let one = snoc_nesting ss f l k e in omega arith
added_nesting (inside ss i x y begun o b) f l k e = let one = snoc_nesting ss f l k e in omega arith

pub added_apt : (b : SuiteStack) (f l : ℕ) (k : StmtKind) (e : LineEnd) → AptSuites b → AptSuites (add b f l k e)
added_apt (top ss) f l k e h = h
added_apt (inside ss i x y begun o b) f l k e h = h

chosen_height : (e : Expr) (last : ℕ) (cs : Cases) (p : Pattern) (g : Option Expr) (s : Suite) → chosen 0 e last (snoc_case cs p g s) ≡ match e last (snoc_case cs p g s)
chosen_height e last no_cases p g s = refl
chosen_height e last (case p' g' s' cs) p g s = refl

pub close_tall : (b : SuiteStack) (l : ℕ) → AptSuites b → state_height (close b l) ≡ suites_height b
close_tall (top ss) l h = refl
close_tall (inside ss i x y begun (a_case e last cs p g) b) l h =
    let same = ap kind_height (chosen_height e last cs p g (suite x y i ss)) in
    let one = case_height cs p g (suite x y i ss) in
    omega arith
close_tall (inside ss i x y begun o b) l h = let one = closed_height o (suite x y i ss) h.0 in omega arith

pub close_deep : (b : SuiteStack) (l : ℕ) → AptSuites b → state_nesting (close b l) ≡ suites_nesting b
close_deep (top ss) l h = refl
close_deep (inside ss i x y begun (a_case e last cs p g) b) l h =
    let same = ap kind_nesting (chosen_height e last cs p g (suite x y i ss)) in
    let one = case_nesting cs p g (suite x y i ss) in
    omega arith
close_deep (inside ss i x y begun o b) l h = let one = closed_nesting o (suite x y i ss) h.0 in omega arith

pub over_line_tall : (b : SuiteStack) (l : ℕ) → AptSuites b → state_height (over_line b l) ≡ suites_height b
over_line_tall (inside ss true x y begun o b) l h = close_tall (inside ss true x y begun o b) l h
over_line_tall (inside ss false x y begun o b) l h = refl
over_line_tall (top ss) l h = refl

pub over_line_deep : (b : SuiteStack) (l : ℕ) → AptSuites b → state_nesting (over_line b l) ≡ suites_nesting b
over_line_deep (inside ss true x y begun o b) l h = close_deep (inside ss true x y begun o b) l h
over_line_deep (inside ss false x y begun o b) l h = refl
over_line_deep (top ss) l h = refl

-- a suite or a line ends: nothing is added
pub close_grows_within : (b : SuiteStack) (l : ℕ) → AptSuites b → GrowsWithin (suites_height b) (suites_nesting b) (Some (close b l))
close_grows_within b l h = let one = close_tall b l h in let two = close_deep b l h in (omega arith, omega arith)

pub over_line_grows_within : (b : SuiteStack) (l : ℕ) → AptSuites b → GrowsWithin (suites_height b) (suites_nesting b) (Some (over_line b l))
over_line_grows_within b l h = let one = over_line_tall b l h in let two = over_line_deep b l h in (omega arith, omega arith)
