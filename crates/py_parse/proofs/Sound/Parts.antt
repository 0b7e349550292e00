-- What steps do to what was read: where suites and lines end, and where statements begin.
use Rattle.std.proofs.Common.{◌≡◌, ℕ, nat_eq, Bool, true, false, ◌&&◌, List, [], ◌∷◌, ◌++◌, Option, Some, None, refl, sym, ap, ◌∙◌}
use Rattle.std.proofs.lemmas.Bool.{eqb-true}
use Rattle.py_token.specs.declared.token.Keyword.TheVariants as word
use Rattle.py_token.specs.declared.token.Mark.TheVariants as mark
use Rattle.py_syntax.specs.declared.stmt.LineEnd.{LineEnd}
use Rattle.py_syntax.specs.Tree.{Text, no_exprs}
use Rattle.py_syntax.specs.Tree.{Stmts, stmt, suite, no_suite, no_arms, arm, clause, StmtKind, if', while, for, try}
use Rattle.py_syntax.specs.Kinds.{Kind, Name, Word, Sign, Newline, Indent, Dedent, End}
use Rattle.py_syntax.specs.Headers.{Marked, put, match_name, is_match}
use Rattle.py_syntax.specs.Statements.{end_tokens, stmts_tokens, kind_tokens, suite_tokens, NormalKind}
use Rattle.py_grammar.specs.Machine as expression
use Rattle.py_grammar.specs.Machine.{any, start, class}
use Rattle.py_grammar.specs.TokenClasses.{spelled}
use Rattle.py_grammar.proofs.Sound as read_
use Rattle.py_grammar.proofs.Sound.Spelled.{class_spells}
use Rattle.py_grammar.proofs.Least.Grows.{and_left, and_right}
use Rattle.py_statements.specs.Open.{SuiteOf, an_arm, a_while, a_for, a_try, a_clause, an_else, a_finally, a_def, a_case, SuiteStack, top, inside, add, newline_end}
use Rattle.py_statements.specs.Machine.{Continuation, value, Place, Span, State, at, close, over_line, end_simple, end_header, begun_at, reads, simple_place, compound_place, begin_simple, begin_line, line, next_part}
use Rattle.py_parse.specs.Least.{ended}
use Rattle.py_parse.proofs.Sound.Before.{front, head, inner, resume_outer, suite_of_outer, outer, opening, before_suites, before}
use Rattle.py_parse.proofs.Sound.BeforeParted.{head_parted, plain}
use Rattle.py_parse.proofs.Sound.Parted.{put_append}
use Rattle.py_parse.proofs.Sound.Valid.{ValidSuiteOf, ValidLine, ValidSimple}
use Rattle.py_parse.proofs.Sound.Snocs.{stmts_snoc, arms_snoc, clauses_snoc, cases_snoc}

-- the state that a step makes has read all this
abbrev pub ReadsTo : Option State → List Marked → List Marked → Type 0
ReadsTo None r all = Unit {0}
ReadsTo (Some s) r all = before s r ≡ all

pub reads_to : (o : Option State) (r all other : List Marked) → ReadsTo o r all → all ≡ other → ReadsTo o r other
reads_to None r all other h same = tt
reads_to (Some s) r all other h same = h ∙ same

-- ---- suites and lines end

pub add_tokens : (b : SuiteStack) (f l : ℕ) (k : StmtKind) (e : LineEnd) (r : List Marked) → before_suites (add b f l k e) r ≡ before_suites b (kind_tokens k (put (end_tokens e) r))
add_tokens (top ss) f l k e r = stmts_snoc ss f l k e r
add_tokens (inside ss inline f' l' begun o b) f l k e r = ap (λ (x : List Marked). before_suites b (suite_of_outer o (put (head o (Sign mark.Colon ∷ opening inline)) x))) (stmts_snoc ss f l k e r)

-- a header and its colon
pub head_put : (o : SuiteOf) (a b : List Kind) (r : List Marked) → put (head o (a ++ b)) r ≡ put (head o a) (put b r)
head_put o a b r = ap (λ (x : List Kind). put x r) (head_parted o a b) ∙ put_append (head o a) b r

pub closed_tokens : (o : SuiteOf) (ss : Stmts) (inline : Bool) (f l begun : ℕ) (b : SuiteStack) (last : ℕ) (r : List Marked) → ValidSuiteOf o →
    before (close (inside ss inline f l begun o b) last) r ≡ before_suites b (suite_of_outer o (put (head o (Sign mark.Colon ∷ [])) (suite_tokens (suite f l inline ss) r)))
closed_tokens (an_arm no_arms t) ss inline f l begun b last r h = refl
closed_tokens (an_arm (arm t' b' arms) t) ss inline f l begun b last r h = ap (before_suites b) (arms_snoc t' b' arms t (suite f l inline ss) r)
closed_tokens (a_while t) ss inline f l begun b last r h = refl
closed_tokens (a_for t e) ss inline f l begun b last r h = refl
closed_tokens a_try ss inline f l begun b last r h = refl
closed_tokens (a_clause s cs None x) ss inline f l begun b last r h = ap (before_suites b) (clauses_snoc s cs None x (suite f l inline ss) r)
closed_tokens (a_clause s cs (Some e) x) ss inline f l begun b last r h = ap (before_suites b) (clauses_snoc s cs (Some e) x (suite f l inline ss) r)
closed_tokens (an_else (if' no_arms no_suite)) ss inline f l begun b last r h = absurd h
closed_tokens (an_else (if' (arm t' b' arms) no_suite)) ss inline f l begun b last r h = refl
closed_tokens (an_else (while t s no_suite)) ss inline f l begun b last r h = refl
closed_tokens (an_else (for t e s no_suite)) ss inline f l begun b last r h = refl
closed_tokens (an_else (try s (clause e x s' cs) no_suite no_suite)) ss inline f l begun b last r h = refl
closed_tokens (an_else k) ss inline f l begun b last r h = absurd h
closed_tokens (a_finally s cs o) ss inline f l begun b last r h = refl
closed_tokens (a_def x ps ds c) ss inline f l begun b last r h = refl
closed_tokens (a_case e hl cs p None) ss inline f l begun b last r h = ap (before_suites b) (cases_snoc e cs p None (suite f l inline ss) r)
closed_tokens (a_case e hl cs p (Some g)) ss inline f l begun b last r h = ap (before_suites b) (cases_snoc e cs p (Some g) (suite f l inline ss) r)

-- what the innermost suite belongs to is valid
abbrev pub Owned : SuiteStack → Type 0
Owned (top ss) = Unit {0}
Owned (inside ss inline f l begun o b) = ValidSuiteOf o

pub owned_line : (b : SuiteStack) → ValidLine b → Owned b
owned_line (top ss) h = tt
owned_line (inside ss inline f l begun o b) h = h.3

pub owned_simple : (b : SuiteStack) → ValidSimple b → Owned b
owned_simple (top ss) h = tt
owned_simple (inside ss true f l begun o b) h = h.2
owned_simple (inside ss false f l begun o b) h = h.2

pub owned_add : (b : SuiteStack) (f l : ℕ) (k : StmtKind) (e : LineEnd) → Owned b → Owned (add b f l k e)
owned_add (top ss) f l k e h = tt
owned_add (inside ss inline f' l' begun o b) f l k e h = h

pub over_line_tokens : (b : SuiteStack) (l : ℕ) (r : List Marked) → Owned b → before (over_line b l) r ≡ before_suites b r
over_line_tokens (top ss) l r h = refl
over_line_tokens (inside ss false f' l' begun o b) l r h = refl
over_line_tokens (inside ss true f' l' begun o b) l r h = closed_tokens o ss true f' l' begun b l r h

pub dedent_tokens : (ss : Stmts) (f l begun : ℕ) (o : SuiteOf) (b : SuiteStack) (last : ℕ) (r : List Marked) → ValidSuiteOf o → before (close (inside ss false f l begun o b) last) r ≡ before_suites (inside ss false f l begun o b) (plain Dedent ∷ r)
dedent_tokens ss f l begun o b last r h =
    closed_tokens o ss false f l begun b last r h
    ∙ ap (λ (x : List Marked). before_suites b (suite_of_outer o x)) (sym (head_put o (Sign mark.Colon ∷ []) (Newline ∷ Indent ∷ []) (stmts_tokens ss (plain Dedent ∷ r))))

pub end_simple_reads : (k : StmtKind) (n : Span) (b : SuiteStack) (t : Kind) (l : ℕ) (r : List Marked) → Owned b → ReadsTo (end_simple k n b t l) r (before_suites b (kind_tokens k (plain t ∷ r)))
end_simple_reads k n b (Sign mark.Semicolon) l r h = refl
end_simple_reads k n b Newline l r h = over_line_tokens (add b n.begun n.last k newline_end) l r (owned_add b n.begun n.last k newline_end h) ∙ add_tokens b n.begun n.last k newline_end r
end_simple_reads k n b t l r h = tt

pub end_header_reads : (o : SuiteOf) (n : Span) (b : SuiteStack) (t : Kind) (l : ℕ) (r : List Marked) → ReadsTo (end_header o n b t l) r (before_suites b (suite_of_outer o (put (head o []) (plain t ∷ r))))
end_header_reads o n b (Sign mark.Colon) l r = ap (λ (x : List Marked). before_suites b (suite_of_outer o x)) (head_put o [] (Sign mark.Colon ∷ []) r)
end_header_reads o n b t l r = tt

-- ---- statements begin

-- what an expression's state has read in a statement
abbrev pub resumed : Continuation → SuiteStack → List Kind → List Marked → List Marked
resumed p b ks r = before_suites b (resume_outer p (put (front p ks) r))

pub next_reads : (p : Continuation) (b : SuiteStack) (s s' : expression.State) (t : Kind) (r : List Marked) → ((x : List Kind) → read_.before s' x ≡ read_.before s (spelled (class t) x)) → resumed p b (read_.before s' []) r ≡ resumed p b (read_.before s (t ∷ [])) r
next_reads p b s s' t r h = ap (λ (x : List Kind). resumed p b x r) (h [] ∙ ap (read_.before s) (class_spells t []))

pub begun_reads : (p : Continuation) (n : Span) (b : SuiteStack) (s : expression.State) (t : Kind) (r : List Marked) → ReadsTo (reads p n b (expression.step s (class t))) r (resumed p b (read_.before s (t ∷ [])) r)
begun_reads p n b s t r = go (expression.step s (class t)) (read_.step_reads s (class t))
  where
    go : (o : expression.Out) → read_.Reads (class t) (read_.before s) o → ReadsTo (reads p n b o) r (resumed p b (read_.before s (t ∷ [])) r)
    go (expression.Next s') h = next_reads p b s s' t r h
    go expression.Stuck h = tt
    go (expression.Left e) h = tt

-- a place after one token
abbrev pub PlaceReads : Option Place → List Marked → List Marked → Type 0
PlaceReads None r all = Unit {0}
PlaceReads (Some p) r all = outer p (put (inner p []) r) ≡ all

simple_reads : (t : Kind) (r : List Marked) → PlaceReads (simple_place t) r (plain t ∷ r)
simple_reads (Word word.Pass) r = refl
simple_reads (Word word.Break) r = refl
simple_reads (Word word.Continue) r = refl
simple_reads (Word word.Return) r = refl
simple_reads (Word word.Raise) r = refl
simple_reads (Word word.Assert) r = refl
simple_reads (Word word.Global) r = refl
simple_reads (Word word.Import) r = refl
simple_reads (Word word.From) r = refl
simple_reads t r = tt

compound_reads : (t : Kind) (r : List Marked) → PlaceReads (compound_place t) r (plain t ∷ r)
compound_reads (Word word.If) r = refl
compound_reads (Word word.While) r = refl
compound_reads (Word word.For) r = refl
compound_reads (Word word.Try) r = refl
compound_reads (Word word.Def) r = refl
compound_reads t r = tt

pub begin_simple_reads : (b : SuiteStack) (t : Kind) (f l : ℕ) (r : List Marked) → ReadsTo (begin_simple b t f l) r (before_suites b (plain t ∷ r))
begin_simple_reads b t f l r = go (simple_place t) (simple_reads t r)
  where
    go : (o : Option Place) → PlaceReads o r (plain t ∷ r) → ReadsTo (elim o as (λ (w : Option Place). Option State) [ Some p ↦ Some (at p (begun_at f l) b) | None ↦ reads (value no_exprs) (begun_at f l) b (expression.step (start any) (class t)) ]) r (before_suites b (plain t ∷ r))
    go (Some p) h = ap (before_suites b) h
    go None h = begun_reads (value no_exprs) (begun_at f l) b (start any) t r

begin_line_reads : (b : SuiteStack) (t : Kind) (f l : ℕ) (r : List Marked) → ReadsTo (begin_line b t f l) r (before_suites b (plain t ∷ r))
begin_line_reads b t f l r = go (compound_place t) (compound_reads t r)
  where
    go : (o : Option Place) → PlaceReads o r (plain t ∷ r) → ReadsTo (elim o as (λ (w : Option Place). Option State) [ Some p ↦ Some (at p (begun_at f l) b) | None ↦ begin_simple b t f l ]) r (before_suites b (plain t ∷ r))
    go (Some p) h = ap (before_suites b) h
    go None h = begin_simple_reads b t f l r

pub line_reads : (b : SuiteStack) (t : Kind) (f l : ℕ) (r : List Marked) → Owned b → ReadsTo (line b t f l) r (before_suites b (plain t ∷ r))
line_reads (top ss) End f l r h = refl
line_reads (inside (stmt f' l' k e ss) false first last begun o b) Dedent f l r h = dedent_tokens (stmt f' l' k e ss) first last begun o b l r h
line_reads b t f l r h = begin_line_reads b t f l r

pub next_part_reads : (k : StmtKind) (t : Kind) (r : List Marked) → NormalKind (ended 0 k) → PlaceReads (next_part k t) r (kind_tokens k (plain t ∷ r))
next_part_reads (if' no_arms no_suite) (Word word.Elif) r h = absurd h
next_part_reads (if' (arm t b arms) no_suite) (Word word.Elif) r h = refl
next_part_reads (if' arms no_suite) (Word word.Else) r h = refl
next_part_reads (while t b no_suite) (Word word.Else) r h = refl
next_part_reads (for t e b no_suite) (Word word.Else) r h = refl
next_part_reads (try b cs no_suite no_suite) (Word word.Except) r h = refl
next_part_reads (try b (clause e x s cs) no_suite no_suite) (Word word.Else) r h = refl
next_part_reads (try b cs o no_suite) (Word word.Finally) r h = refl
next_part_reads k t r h = tt

-- ---- the name `match`

named_match : (x : Text) → is_match (Name x) ≡ true → x ≡ match_name
named_match [] h = absurd cc
named_match (a ∷ []) h = absurd (let w = and_right (nat_eq a 109) false h in cc)
named_match (a ∷ b ∷ []) h = absurd (let w = and_right (nat_eq b 97) false (and_right (nat_eq a 109) (nat_eq b 97 && false) h) in cc)
named_match (a ∷ b ∷ c ∷ []) h = absurd (let w = and_right (nat_eq c 116) false (and_right (nat_eq b 97) (nat_eq c 116 && false) (and_right (nat_eq a 109) (nat_eq b 97 && (nat_eq c 116 && false)) h)) in cc)
named_match (a ∷ b ∷ c ∷ d ∷ xs) h =
    let one = and_left (nat_eq a 109) (is_rest b c d xs) h in
    let h1 = and_right (nat_eq a 109) (is_rest b c d xs) h in
    let two = and_left (nat_eq b 97) (nat_eq c 116 && (nat_eq d 99 && is_last xs)) h1 in
    let h2 = and_right (nat_eq b 97) (nat_eq c 116 && (nat_eq d 99 && is_last xs)) h1 in
    let three = and_left (nat_eq c 116) (nat_eq d 99 && is_last xs) h2 in
    let h3 = and_right (nat_eq c 116) (nat_eq d 99 && is_last xs) h2 in
    let four = and_left (nat_eq d 99) (is_last xs) h3 in
    let h4 = and_right (nat_eq d 99) (is_last xs) h3 in
    ap (λ (v : ℕ). v ∷ b ∷ c ∷ d ∷ xs) (eqb-true a 109 one)
    ∙ ap (λ (v : ℕ). 109 ∷ v ∷ c ∷ d ∷ xs) (eqb-true b 97 two)
    ∙ ap (λ (v : ℕ). 109 ∷ 97 ∷ v ∷ d ∷ xs) (eqb-true c 116 three)
    ∙ ap (λ (v : ℕ). 109 ∷ 97 ∷ 116 ∷ v ∷ xs) (eqb-true d 99 four)
    ∙ ap (λ (v : Text). 109 ∷ 97 ∷ 116 ∷ 99 ∷ v) (last_one xs h4)
  where
    is_last : Text → Bool
    is_last ys = is_match (Name (109 ∷ 97 ∷ 116 ∷ 99 ∷ ys))

    is_rest : ℕ → ℕ → ℕ → Text → Bool
    is_rest b c d ys = nat_eq b 97 && (nat_eq c 116 && (nat_eq d 99 && is_last ys))

    last_one : (ys : Text) → is_last ys ≡ true → ys ≡ 104 ∷ []
    last_one [] h = absurd cc
    last_one (y ∷ []) h = ap (λ (v : ℕ). v ∷ []) (eqb-true y 104 (and_left (nat_eq y 104) true h))
    last_one (y ∷ z ∷ zs) h = absurd (let w = and_right (nat_eq y 104) false h in cc)

pub is_named_match : (t : Kind) → is_match t ≡ true → t ≡ Name match_name
is_named_match (Name x) h = ap Name (named_match x h)
is_named_match t h = absurd cc
