-- Statements in a row and suites: the machine reads them, where it reads each statement.
use Rattle.std.proofs.Common.{◌≡◌, ℕ, suc, Bool, true, false, cond, List, ◌∷◌, Option, Some, None, refl, sym, ap, subst, ◌∙◌}
use Rattle.py_token.specs.declared.token.Keyword.TheVariants as word
use Rattle.py_syntax.specs.declared.stmt.LineEnd.{LineEnd}
use Rattle.py_syntax.specs.Tree.{Stmts, no_stmts, stmt, Suite, suite, no_suite, has_suite, no_clauses, clause, StmtKind, if', while, for, try}
use Rattle.py_syntax.specs.Kinds.{Kind, Word, Newline, Dedent, End}
use Rattle.py_syntax.specs.Headers.{Marked, put}
use Rattle.py_syntax.specs.Statements.{end_tokens, stmts_tokens, kind_tokens, suite_tokens, begins_simple, EndsLine}
use Rattle.py_statements.specs.Open.{snoc_stmt, snoc_case, no_end, semicolon_end, SuiteOf, a_case, closed, SuiteStack, top, inside, add}
use Rattle.py_statements.specs.Machine.{Place, Semicolon, SuiteWanted, Span, State, Line, at, After, Choosing, close, over_line, compound_place, begin_simple, begin_line, line, next_part, is_whole, at_line, on_line, plain_step}
use Rattle.py_parse.specs.Places.{Source, kinds_past, stmts_past, kind_past, suite_past, last_before, run, relined, relined_kind, relined_suite}
use Rattle.py_parse.proofs.Complete.OnLines.{plain, lines, after}
use Rattle.py_parse.proofs.Complete.Simple.{starts, Begins, SimpleBack}

-- ---- where a statement may begin

-- a token that goes on with a compound statement, and begins none
abbrev pub goes_on : Kind → Bool
goes_on (Word word.Elif) = true
goes_on (Word word.Else) = true
goes_on (Word word.Except) = true
goes_on (Word word.Finally) = true
goes_on t = false

-- a token that may end the statements of a block or a module
abbrev pub ends : Kind → Bool
ends Dedent = true
ends End = true
ends t = false

-- Any statement may begin in this state on a new line, and belongs to this block.
pub record Ready (s : State) (b : SuiteStack) : Type 0 where
  pub takes : (t : Kind) (f l : ℕ) → goes_on t ≡ false → plain_step s t f l ≡ line b t f l
  pub opens : at_line s ≡ Some b

pub ready_line : (b : SuiteStack) → Ready (Line b) b
ready_line b = record { takes = λ t f l h. refl; opens = refl }

next_none : (k : StmtKind) (t : Kind) → goes_on t ≡ false → next_part k t ≡ None
next_none k (Word word.Elif) h = absurd cc
next_none k (Word word.Else) h = absurd cc
next_none k (Word word.Except) h = absurd cc
next_none k (Word word.Finally) h = absurd cc
next_none (if' arms no_suite) t h = refl
next_none (while e b no_suite) t h = refl
next_none (for e v b no_suite) t h = refl
next_none (try b no_clauses no_suite no_suite) t h = refl
next_none (try b (clause e x s cs) no_suite no_suite) t h = refl
next_none (try b no_clauses (has_suite o) no_suite) t h = refl
next_none (try b (clause e x s cs) (has_suite o) no_suite) t h = refl
next_none k t h = refl

pub ready_after : (k : StmtKind) (first last : ℕ) (b : SuiteStack) → is_whole k ≡ true → Ready (After k first last b) (add b first last k no_end)
ready_after k first last b whole =
    let opens : at_line (After k first last b) ≡ Some (add b first last k no_end) = ap (λ (c : Bool). cond c (Some (add b first last k no_end)) None) whole in
    record {
      takes = λ t f l h.
          ap (λ (o : Option Place). elim o as (λ (w : Option Place). Option State) [ Some p ↦ Some (at p (record { begun = first; first = f; last = l }) b) | None ↦ on_line (at_line (After k first last b)) t f l ]) (next_none k t h)
          ∙ ap (λ (o : Option SuiteStack). on_line o t f l) opens;
      opens = opens;
    }

pub line_begins : (b : SuiteStack) (t : Kind) (f l : ℕ) → ends t ≡ false → line b t f l ≡ begin_line b t f l
line_begins (top ss) End f l h = absurd cc
line_begins (inside (stmt f' l' k e ss) false first last begun o b) Dedent f l h = absurd cc
line_begins (top ss) t f l h = refl
line_begins (inside no_stmts i first last begun o b) t f l h = refl
line_begins (inside (stmt f' l' k e ss) true first last begun o b) t f l h = refl
line_begins (inside (stmt f' l' k e ss) false first last begun o b) t f l h = refl

starts_line : (t : Kind) → starts t ≡ true → (goes_on t ≡ false) × (ends t ≡ false) × (compound_place t ≡ None)
starts_line (Word word.Elif) h = absurd cc
starts_line (Word word.Else) h = absurd cc
starts_line (Word word.Except) h = absurd cc
starts_line (Word word.Finally) h = absurd cc
starts_line (Word word.If) h = absurd cc
starts_line (Word word.While) h = absurd cc
starts_line (Word word.For) h = absurd cc
starts_line (Word word.Try) h = absurd cc
starts_line (Word word.Def) h = absurd cc
starts_line Dedent h = absurd cc
starts_line End h = absurd cc
starts_line t h = (refl, refl, refl)

-- a simple statement on a new line
pub ready_begins : (s : State) (b : SuiteStack) → Ready s b → Begins s b
ready_begins s b ready t f l h =
    let is = starts_line t h in
    ready.takes t f l is.0
    ∙ line_begins b t f l is.1
    ∙ ap (λ (o : Option Place). elim o as (λ (w : Option Place). Option State) [ Some p ↦ Some (at p (record { begun = f; first = f; last = l }) b) | None ↦ begin_simple b t f l ]) is.2

-- one after a semicolon
semicolon_begins : (k : StmtKind) (n : Span) (b : SuiteStack) → Begins (at (Semicolon k) n b) (add b n.begun n.last k semicolon_end)
semicolon_begins k n b Newline f l h = absurd cc
semicolon_begins k n b t f l h = refl

-- one on the line of a header
suite_begins : (o : SuiteOf) (n : Span) (b : SuiteStack) → Begins (at (SuiteWanted o) n b) (inside no_stmts true n.first n.last n.begun o b)
suite_begins o n b Newline f l h = absurd cc
suite_begins o n b t f l h = refl

-- ---- statements after others

abbrev pub join_stmts : Stmts → Stmts → Stmts
join_stmts no_stmts ss = ss
join_stmts (stmt f l k e ds) ss = stmt f l k e (join_stmts ds ss)

join_snoc : (ds : Stmts) (f l : ℕ) (k : StmtKind) (e : LineEnd) (ss : Stmts) → join_stmts (snoc_stmt ds f l k e) ss ≡ join_stmts ds (stmt f l k e ss)
join_snoc no_stmts f l k e ss = refl
join_snoc (stmt f' l' k' e' ds) f l k e ss = ap (λ (x : Stmts). stmt f' l' k' e' x) (join_snoc ds f l k e ss)

join_last : (ds : Stmts) (f l : ℕ) (k : StmtKind) (e : LineEnd) → snoc_stmt ds f l k e ≡ join_stmts ds (stmt f l k e no_stmts)
join_last no_stmts f l k e = refl
join_last (stmt f' l' k' e' ds) f l k e = ap (λ (x : Stmts). stmt f' l' k' e' x) (join_last ds f l k e)

join_none : (ds : Stmts) → join_stmts ds no_stmts ≡ ds
join_none no_stmts = refl
join_none (stmt f l k e ds) = ap (λ (x : Stmts). stmt f l k e x) (join_none ds)

-- more statements in the innermost suite
abbrev pub adds : SuiteStack → Stmts → SuiteStack
adds (top ds) ss = top (join_stmts ds ss)
adds (inside ds inline f l g o b) ss = inside (join_stmts ds ss) inline f l g o b

adds_none : (b : SuiteStack) → b ≡ adds b no_stmts
adds_none (top ds) = ap (λ (x : Stmts). top x) (sym (join_none ds))
adds_none (inside ds inline f l g o b) = ap (λ (x : Stmts). inside x inline f l g o b) (sym (join_none ds))

adds_add : (b : SuiteStack) (f l : ℕ) (k : StmtKind) (e : LineEnd) (ss : Stmts) → adds (add b f l k e) ss ≡ adds b (stmt f l k e ss)
adds_add (top ds) f l k e ss = ap (λ (x : Stmts). top x) (join_snoc ds f l k e ss)
adds_add (inside ds inline f' l' g o b) f l k e ss = ap (λ (x : Stmts). inside x inline f' l' g o b) (join_snoc ds f l k e ss)

-- The innermost suite, if any, is an indented block.
abbrev pub IsOpen : SuiteStack → Type 0
IsOpen (top ss) = Unit {0}
IsOpen (inside ss inline f l g o b) = inline ≡ false

over_open : (b : SuiteStack) → IsOpen b → (l : ℕ) → over_line b l ≡ Line b
over_open (top ss) h l = refl
over_open (inside ss true f l' g o b) h l = absurd cc
over_open (inside ss false f l' g o b) h l = refl

add_open : (b : SuiteStack) (f l : ℕ) (k : StmtKind) (e : LineEnd) → IsOpen b → IsOpen (add b f l k e)
add_open (top ss) f l k e h = tt
add_open (inside ss inline f' l' g o b) f l k e h = h

-- ---- the end of a simple statement

abbrev the_end : Bool → Bool → LineEnd
the_end semicolon newline = record { semicolon = semicolon; newline = newline }

-- with the end of its line
over_simple : (k : StmtKind) → SimpleBack k → (x : Bool) (src : Source) (s : State) (b : SuiteStack) → Begins s b → (rest : List Marked) (p : ℕ) →
    run src s (kind_tokens k (put (end_tokens (the_end x true)) rest)) p
    ≡ run src (over_line (add b (src.first p) (last_before src (kind_past k p)) k (the_end x true)) (last_before src (kinds_past (end_tokens (the_end x true)) (kind_past k p)))) rest (kinds_past (end_tokens (the_end x true)) (kind_past k p))
over_simple k back true src s b takes rest p = back src s b takes true (plain Newline ∷ rest) p
over_simple k back false src s b takes rest p = back src s b takes false rest p

-- with another after it on its line
on_simple : (k : StmtKind) → SimpleBack k → (src : Source) (s : State) (b : SuiteStack) → Begins s b → (rest : List Marked) (p : ℕ) →
    run src s (kind_tokens k (put (end_tokens (the_end true false)) rest)) p ≡ run src (at (Semicolon k) (lines src (src.first p) (src.first p) (kind_past k p)) b) rest (suc (kind_past k p))
on_simple k back src s b takes rest p = back src s b takes true rest p

-- ---- statements of a block or a module

-- A list is read up to the rest of it, where a statement of this block may begin.
pub record Through (src : Source) (s : State) (ms : List Marked) (p : ℕ) (rest : List Marked) (q : ℕ) (b : SuiteStack) : Type 0 where
  pub state : State
  pub ready : Ready state b
  pub reads : run src s ms p ≡ run src state rest q

further : (src : Source) (s s' : State) (ms ms' : List Marked) (p p' : ℕ) (rest : List Marked) (q : ℕ) (b b' : SuiteStack) → run src s ms p ≡ run src s' ms' p' → b ≡ b' → Through src s' ms' p' rest q b → Through src s ms p rest q b'
further src s s' ms ms' p p' rest q b b' same is t = record { state = t.state; ready = subst (λ (x : SuiteStack). Ready t.state x) is t.ready; reads = same ∙ t.reads }

-- from a new line; from where a simple statement may begin
abbrev pub StmtsBack : Stmts → Type 0
StmtsBack ss = (src : Source) (s : State) (b : SuiteStack) → IsOpen b → Ready s b → (rest : List Marked) (p : ℕ) → Through src s (stmts_tokens ss rest) p rest (stmts_past ss p) (adds b (relined src ss p))

abbrev pub MoreBack : Stmts → Type 0
MoreBack ss = (src : Source) (s : State) (b : SuiteStack) → IsOpen b → Begins s b → (rest : List Marked) (p : ℕ) → Through src s (stmts_tokens ss rest) p rest (stmts_past ss p) (adds b (relined src ss p))

pub no_more : StmtsBack no_stmts
no_more src s b open' ready rest p = record { state = s; ready = subst (λ (x : SuiteStack). Ready s x) (adds_none b) ready; reads = refl }

-- a simple statement keeps its tree
abbrev pub Plain : StmtKind → Type 0
Plain k = (src : Source) (p : ℕ) → relined_kind src k p ≡ k

-- a simple statement and those after it
simple_on : (first last : ℕ) (k : StmtKind) (x newline : Bool) (ss : Stmts) → SimpleBack k → Plain k → EndsLine true (the_end x newline) ss → StmtsBack ss → (begins_simple ss ≡ true → MoreBack ss) → MoreBack (stmt first last k (the_end x newline) ss)
simple_on first last k x true ss back same ended rest_back more_back src s b open' takes rest p =
    let q = kind_past k p in
    let e = the_end x true in
    let r = kinds_past (end_tokens e) q in
    let b' = add b (src.first p) (last_before src q) k e in
    let wide = add_open b (src.first p) (last_before src q) k e open' in
    further src s (Line b') (stmts_tokens (stmt first last k e ss) rest) (stmts_tokens ss rest) p r rest (stmts_past ss r) (adds b' (relined src ss r)) (adds b (relined src (stmt first last k e ss) p))
    (over_simple k back x src s b takes (stmts_tokens ss rest) p ∙ ap (λ (n : State). run src n (stmts_tokens ss rest) r) (over_open b' wide (last_before src r)))
    (adds_add b (src.first p) (last_before src q) k e (relined src ss r) ∙ ap (λ (z : StmtKind). adds b (stmt (src.first p) (last_before src q) z e (relined src ss r))) (sym (same src p)))
    (rest_back src (Line b') b' wide (ready_line b') rest r)
simple_on first last k false false ss back same ended rest_back more_back src s b open' takes rest p = absurd (let h = ended.0 in cc)
simple_on first last k true false ss back same ended rest_back more_back src s b open' takes rest p =
    let q = kind_past k p in
    let e = the_end true false in
    let n = lines src (src.first p) (src.first p) q in
    let b' = add b (src.first p) (last_before src q) k e in
    further src s (at (Semicolon k) n b) (stmts_tokens (stmt first last k e ss) rest) (stmts_tokens ss rest) p (suc q) rest (stmts_past ss (suc q)) (adds b' (relined src ss (suc q))) (adds b (relined src (stmt first last k e ss) p))
    (on_simple k back src s b takes (stmts_tokens ss rest) p)
    (adds_add b (src.first p) (last_before src q) k e (relined src ss (suc q)) ∙ ap (λ (z : StmtKind). adds b (stmt (src.first p) (last_before src q) z e (relined src ss (suc q)))) (sym (same src p)))
    (more_back ended.1 src (at (Semicolon k) n b) b' (add_open b (src.first p) (last_before src q) k e open') (semicolon_begins k n b) rest (suc q))

-- A compound statement is read to the state after its last suite.
abbrev pub CompoundBack : StmtKind → Type 0
CompoundBack k = (src : Source) (s : State) (b : SuiteStack) → Ready s b → (rest : List Marked) (p : ℕ) → run src s (kind_tokens k rest) p ≡ run src (After (relined_kind src k p) (src.first p) (last_before src (kind_past k p)) b) rest (kind_past k p)

-- it needs no further part
abbrev pub Whole : StmtKind → Type 0
Whole k = (src : Source) (p : ℕ) → is_whole (relined_kind src k p) ≡ true

compound_on : (first last : ℕ) (k : StmtKind) (x newline : Bool) (ss : Stmts) → CompoundBack k → Whole k → EndsLine false (the_end x newline) ss → StmtsBack ss → StmtsBack (stmt first last k (the_end x newline) ss)
compound_on first last k true newline ss back whole ended rest_back src s b open' ready rest p = absurd (let h = ended.0 in cc)
compound_on first last k false true ss back whole ended rest_back src s b open' ready rest p = absurd (let h = ended.1 in cc)
compound_on first last k false false ss back whole ended rest_back src s b open' ready rest p =
    let q = kind_past k p in
    let k' = relined_kind src k p in
    let n = After k' (src.first p) (last_before src q) b in
    let b' = add b (src.first p) (last_before src q) k' no_end in
    further src s n (kind_tokens k (stmts_tokens ss rest)) (stmts_tokens ss rest) p q rest (stmts_past ss q) (adds b' (relined src ss q)) (adds b (relined src (stmt first last k no_end ss) p))
    (back src s b ready (stmts_tokens ss rest) p)
    (adds_add b (src.first p) (last_before src q) k' no_end (relined src ss q))
    (rest_back src n b' (add_open b (src.first p) (last_before src q) k' no_end open') (ready_after k' (src.first p) (last_before src q) b (whole src p)) rest q)

-- what is claimed of a statement of either sort
abbrev pub KindBack : Bool → StmtKind → Type 0
KindBack true k = SimpleBack k × Plain k
KindBack false k = CompoundBack k × Whole k

-- a statement on a new line and those after it
pub stmts_on : (first last : ℕ) (k : StmtKind) (e : LineEnd) (ss : Stmts) (simple : Bool) → KindBack simple k → EndsLine simple e ss → StmtsBack ss → (begins_simple ss ≡ true → MoreBack ss) → StmtsBack (stmt first last k e ss)
stmts_on first last k e ss true back ended rest_back more_back src s b open' ready rest p = simple_on first last k e.semicolon e.newline ss back.0 back.1 ended rest_back more_back src s b open' (ready_begins s b ready) rest p
stmts_on first last k e ss false back ended rest_back more_back src s b open' ready rest p = compound_on first last k e.semicolon e.newline ss back.0 back.1 ended rest_back src s b open' ready rest p

-- a simple one where only such may begin
pub more_on : (first last : ℕ) (k : StmtKind) (e : LineEnd) (ss : Stmts) (simple : Bool) → simple ≡ true → KindBack simple k → EndsLine simple e ss → StmtsBack ss → (begins_simple ss ≡ true → MoreBack ss) → MoreBack (stmt first last k e ss)
more_on first last k e ss true is back ended rest_back more_back = simple_on first last k e.semicolon e.newline ss back.0 back.1 ended rest_back more_back
more_on first last k e ss false is back ended rest_back more_back = absurd cc

-- ---- suites

-- a suite that belongs to this is closed
abbrev pub shut : SuiteOf → Suite → ℕ → SuiteStack → ℕ → State
shut (a_case e last cs c g) s begun b l = Choosing e last (snoc_case cs c g s) begun b
shut o s begun b l = After (closed o s) begun l b

close_shut : (o : SuiteOf) (ss : Stmts) (inline : Bool) (f l g : ℕ) (b : SuiteStack) (last : ℕ) → close (inside ss inline f l g o b) last ≡ shut o (suite f l inline ss) g b last
close_shut (a_case e last' cs c u) ss inline f l g b last = refl
close_shut o ss inline f l g b last = refl

-- A suite is read from after the colon of its header, which began at the first of these places.
abbrev pub SuiteBack : Suite → Type 0
SuiteBack s = (src : Source) (o : SuiteOf) (g : ℕ) (b : SuiteStack) (h : ℕ) (rest : List Marked) (p : ℕ) → run src (at (SuiteWanted o) (lines src g (src.first h) p) b) (suite_tokens s rest) p ≡ run src (shut o (relined_suite src s h p) g b (last_before src (suite_past s p))) rest (suite_past s p)

pub block_back : (first last : ℕ) (f l : ℕ) (k : StmtKind) (e : LineEnd) (ss : Stmts) → StmtsBack (stmt f l k e ss) → SuiteBack (suite first last false (stmt f l k e ss))
block_back first last f l k e ss back src o g b h rest p =
    let body = stmt f l k e ss in
    let q = stmts_past body (suc (suc p)) in
    let inner = inside no_stmts false (src.first h) (last_before src p) g o b in
    let t = back src (Line inner) inner refl (ready_line inner) (plain Dedent ∷ rest) (suc (suc p)) in
    t.reads
    ∙ ap (λ (w : Option State). after src w rest (suc q)) (t.ready.takes Dedent (src.first q) (src.last q) refl)
    ∙ ap (λ (n : State). run src n rest (suc q)) (close_shut o (relined src body (suc (suc p))) false (src.first h) (last_before src p) g b (src.last q))

-- statements that share the line of their header, up to the end of that line
abbrev pub SharedBack : Stmts → Type 0
SharedBack ss = (src : Source) (s : State) (ds : Stmts) (f l g : ℕ) (o : SuiteOf) (b : SuiteStack) → Begins s (inside ds true f l g o b) → (rest : List Marked) (p : ℕ) →
    run src s (stmts_tokens ss rest) p ≡ run src (close (inside (join_stmts ds (relined src ss p)) true f l g o b) (last_before src (stmts_past ss p))) rest (stmts_past ss p)

shared_last : (first last : ℕ) (k : StmtKind) (x newline : Bool) → SimpleBack k → Plain k → newline ≡ true → SharedBack (stmt first last k (the_end x newline) no_stmts)
shared_last first last k x false back same is src s ds f l g o b takes rest p = absurd cc
shared_last first last k x true back same is src s ds f l g o b takes rest p =
    let q = kind_past k p in
    let r = kinds_past (end_tokens (the_end x true)) q in
    over_simple k back x src s (inside ds true f l g o b) takes rest p
    ∙ ap (λ (z : Stmts). run src (close (inside z true f l g o b) (last_before src r)) rest r) (join_last ds (src.first p) (last_before src q) k (the_end x true))
    ∙ ap (λ (z : StmtKind). run src (close (inside (join_stmts ds (stmt (src.first p) (last_before src q) z (the_end x true) no_stmts)) true f l g o b) (last_before src r)) rest r) (sym (same src p))

shared_on : (first last : ℕ) (k : StmtKind) (x newline : Bool) (ss : Stmts) → SimpleBack k → Plain k → newline ≡ false → x ≡ true → SharedBack ss → SharedBack (stmt first last k (the_end x newline) ss)
shared_on first last k x true ss back same is sep more_back src s ds f l g o b takes rest p = absurd cc
shared_on first last k false false ss back same is sep more_back src s ds f l g o b takes rest p = absurd cc
shared_on first last k true false ss back same is sep more_back src s ds f l g o b takes rest p =
    let q = kind_past k p in
    let e = the_end true false in
    let n = lines src (src.first p) (src.first p) q in
    let r = stmts_past ss (suc q) in
    on_simple k back src s (inside ds true f l g o b) takes (stmts_tokens ss rest) p
    ∙ more_back src (at (Semicolon k) n (inside ds true f l g o b)) (snoc_stmt ds (src.first p) (last_before src q) k e) f l g o b (semicolon_begins k n (inside ds true f l g o b)) rest (suc q)
    ∙ ap (λ (z : Stmts). run src (close (inside z true f l g o b) (last_before src r)) rest r) (join_snoc ds (src.first p) (last_before src q) k e (relined src ss (suc q)))
    ∙ ap (λ (z : StmtKind). run src (close (inside (join_stmts ds (stmt (src.first p) (last_before src q) z e (relined src ss (suc q)))) true f l g o b) (last_before src r)) rest r) (sym (same src p))

-- the last of them, and one in front of others
pub shared_end : (first last : ℕ) (k : StmtKind) (e : LineEnd) (simple : Bool) → KindBack simple k → simple ≡ true → e.newline ≡ true → SharedBack (stmt first last k e no_stmts)
shared_end first last k e true back is over = shared_last first last k e.semicolon e.newline back.0 back.1 over
shared_end first last k e false back is over = absurd cc

pub shared_more : (first last : ℕ) (k : StmtKind) (e : LineEnd) (ss : Stmts) (simple : Bool) → KindBack simple k → simple ≡ true → e.newline ≡ false → e.semicolon ≡ true → SharedBack ss → SharedBack (stmt first last k e ss)
shared_more first last k e ss true back is on sep more_back = shared_on first last k e.semicolon e.newline ss back.0 back.1 on sep more_back
shared_more first last k e ss false back is on sep more_back = absurd cc

pub shared_back : (first last : ℕ) (ss : Stmts) → SharedBack ss → SuiteBack (suite first last true ss)
shared_back first last ss back src o g b h rest p =
    let n = lines src g (src.first h) p in
    back src (at (SuiteWanted o) n b) no_stmts (src.first h) (last_before src p) g o b (suite_begins o n b) rest p
    ∙ ap (λ (w : State). run src w rest (stmts_past ss p)) (close_shut o (relined src ss p) true (src.first h) (last_before src p) g b (last_before src (stmts_past ss p)))
