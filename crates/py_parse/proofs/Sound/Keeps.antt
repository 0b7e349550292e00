-- What the machine keeps: each step.
use Rattle.std.proofs.Common.{◌≡◌, ℕ, suc, ◌≤◌, Bool, true, false, cond, List, [], ◌∷◌, ◌++◌, length, Option, Some, None, refl, subst, arith, bytes_eq}
use Rattle.py_operator.specs.declared.operator.BinOp.{BinOp}
use Rattle.py_token.specs.declared.token.Keyword.TheVariants as word
use Rattle.py_token.specs.declared.token.Mark.TheVariants as mark
use Rattle.py_syntax.specs.Tree.{Text, Expr, Exprs, no_exprs, exprs, Pattern}
use Rattle.py_syntax.specs.Tree.{no_stmts, stmt, no_suite, has_suite, no_arms, arm, no_clauses, clause, Cases, case, StmtKind, expr, aug_assign, assert, if', while, for, try}
use Rattle.py_syntax.specs.Kinds.{Kind, Name, Word, Sign, Newline, Indent, Dedent, End}
use Rattle.py_syntax.specs.Normal.{Normal, Each, is_target, is_place}
use Rattle.py_syntax.specs.Headers.{Marked, is_match}
use Rattle.py_syntax.specs.Statements.{count, case_name, NormalExpr, NormalTargets, NormalParams, NormalKind, is_simple}
use Rattle.py_grammar.specs.Machine as expression
use Rattle.py_grammar.specs.Machine.{any, one, snoc, start, class}
use Rattle.py_parse_pattern.specs.Machine as pattern
use Rattle.py_grammar.proofs.Sound.Valid.{Sound, Meets, Keeps, each_snoc}
use Rattle.py_grammar.proofs.Sound.Keeps as kept_
use Rattle.py_grammar.proofs.Sound.Spelled.{class_valid, start_any, start_one, start_target}
use Rattle.py_parse_pattern.proofs.Sound.NormalStates as pattern_
use Rattle.py_statements.specs.Open.{an_arm, a_while, a_for, a_clause, a_case, SuiteStack, top, inside, add, no_end, semicolon_end}
use Rattle.py_statements.specs.Machine.{Continuation, value, augmented, leaving, asserted, reason, arm_test, while_test, for_target, for_over, clause_kind, subject, guard, default, goal, Place, Reading, Matching, Simple, Semicolon, Leaving, NameWanted, NameRead, BoundWanted, BoundRead, ModuleWanted, ImportWanted, FunctionWanted, ParamsWanted, ParamWanted, ParamRead, Except, ClauseBound, ColonWanted, SuiteWanted, IndentWanted, MatchLine, MatchBlock, Span, State, Line, at, After, Choosing, Over, begun, wanted, onward, begun_at, reads, simple_place, compound_place, begin_simple, begin_line, line, end_simple, after_value, after_default, in_place_op, assigned, left, resume, resume_pattern, after_name, act, choose, next_part, is_whole, at_line, on_line, plain_step, header_step, step}
use Rattle.py_statements.specs.Listed.{Listed, globals, imports, froms, listed, with_name, may_bind, is_some}
use Rattle.py_parse.specs.Least.{ended}
use Rattle.py_parse.proofs.Sound.Valid.{ValidSuiteOf, ValidParams, ValidLine, ValidSimple, ValidContinuation, ValidPlace, Valid}
use Rattle.py_parse.proofs.Sound.Snocs.{count_snoc, length_snoc}
use Rattle.py_parse.proofs.Sound.KeepsParts.{KeepsTo, simple_of_line, add_compound, add_semicolon, close_keeps, both_keeps, end_simple_keeps, end_header_keeps}

-- ---- after an expression

targets_snoc : (ts : Exprs) (e : Expr) → NormalTargets ts → Normal e → is_target e ≡ true → NormalTargets (snoc ts e)
targets_snoc no_exprs e h n is = (n, is, tt)
targets_snoc (exprs t ts) e h n is = (h.0, h.1, targets_snoc ts e h.2 n is)

value_keeps : (ts : Exprs) (e : Expr) (n : Span) (b : SuiteStack) (t : Kind) (l : ℕ) → NormalTargets ts → ValidSimple b → Normal e → KeepsTo (after_value ts e n b t l)
value_keeps ts e n b (Sign mark.Equal) l h k norm = go (is_target e) refl
  where
    go : (c : Bool) → is_target e ≡ c → KeepsTo (cond c (Some (at (wanted (value (snoc ts e))) (onward n l) b)) None)
    go true is = (start_any, (targets_snoc ts e h norm is, k))
    go false is = tt
value_keeps no_exprs e n b t l h k norm = go (in_place_op t)
  where
    place : (op : BinOp) (c : Bool) → is_place e ≡ c → KeepsTo (cond c (Some (at (wanted (augmented e op)) (onward n l) b)) None)
    place op true is = (start_any, (norm, is, k))
    place op false is = tt

    go : (o : Option BinOp) → KeepsTo (elim o as (λ (w : Option BinOp). Option State) [ Some op ↦ cond (is_place e) (Some (at (wanted (augmented e op)) (onward n l) b)) None | None ↦ end_simple (expr e) n b t l ])
    go (Some op) = place op (is_place e) refl
    go None = end_simple_keeps (expr e) n b t l norm refl k
value_keeps (exprs u us) e n b t l h k norm = end_simple_keeps (assigned (exprs u us) e) n b t l (h, norm) refl k

-- a parameter more, with a default and without
some_params : (ps : List Text) (y : Text) (ds : Exprs) (c : Bool) → count ds ≤ suc (length ps) → Each ds → NormalParams (ps ++ y ∷ []) ds c
some_params [] y ds c low each = (low, each)
some_params (x ∷ xs) y ds c low each = (let long = length_snoc xs y in omega arith, each)

default_keeps : (x : Text) (ps : List Text) (ds : Exprs) (y : Text) (e : Expr) (n : Span) (b : SuiteStack) (t : Kind) (l : ℕ) → ValidParams ps ds → ValidLine b → NormalExpr e → KeepsTo (after_default x (ps ++ y ∷ []) (snoc ds e) n b t l)
default_keeps x ps ds y e n b (Sign mark.Comma) l h k norm = ((let some = count_snoc ds e in let long = length_snoc ps y in let low = h.0 in omega arith, each_snoc ds e h.1 norm.0 norm.1), k)
default_keeps x ps ds y e n b (Sign mark.RightParen) l h k norm = (some_params ps y (snoc ds e) false (let some = count_snoc ds e in let low = h.0 in omega arith) (each_snoc ds e h.1 norm.0 norm.1), k)
default_keeps x ps ds y e n b t l h k norm = tt

plain_keeps : (x : Text) (ps : List Text) (y : Text) (n : Span) (b : SuiteStack) (t : Kind) (l : ℕ) → ValidLine b → KeepsTo (after_default x (ps ++ y ∷ []) no_exprs n b t l)
plain_keeps x ps y n b (Sign mark.Comma) l k = ((omega arith, tt), k)
plain_keeps x ps y n b (Sign mark.RightParen) l k = (some_params ps y no_exprs false (omega arith) tt, k)
plain_keeps x ps y n b t l k = tt

resume_keeps : (p : Continuation) (e : Expr) (n : Span) (b : SuiteStack) (t : Kind) (l : ℕ) → ValidContinuation p b → Normal e → Meets (goal p) e → KeepsTo (resume p e n b t l)
resume_keeps (value ts) e n b t l h norm meets = value_keeps ts e n b t l h.0 h.1 norm
resume_keeps (augmented p op) e n b t l h norm meets = end_simple_keeps (aug_assign p op e) n b t l (h.0, h.1, norm) refl h.2
resume_keeps (leaving true) e n b t l h norm meets = end_simple_keeps (left true (Some e)) n b t l (meets, norm) refl h
resume_keeps (leaving false) e n b t l h norm meets = end_simple_keeps (left false (Some e)) n b t l norm refl h
resume_keeps asserted e n b (Sign mark.Comma) l h norm meets = (start_one, ((meets, norm), h))
resume_keeps asserted e n b t l h norm meets = end_simple_keeps (assert e None) n b t l ((meets, norm), tt) refl h
resume_keeps (reason test) e n b t l h norm meets = end_simple_keeps (assert test (Some e)) n b t l (h.0, (meets, norm)) refl h.1
resume_keeps (arm_test arms) e n b t l h norm meets = end_header_keeps (an_arm arms e) n b t l (h.0, (meets, norm)) h.1
resume_keeps while_test e n b t l h norm meets = end_header_keeps (a_while e) n b t l (meets, norm) h
resume_keeps for_target e n b (Word word.In) l h norm meets = (start_any, (norm, meets, h))
resume_keeps for_target e n b t l h norm meets = tt
resume_keeps (for_over x) e n b t l h norm meets = end_header_keeps (a_for x e) n b t l (h.0, h.1, norm) h.2
resume_keeps (clause_kind s cs) e n b (Word word.As) l h norm meets = (h.0, h.1, (meets, norm), h.2)
resume_keeps (clause_kind s cs) e n b t l h norm meets = end_header_keeps (a_clause s cs (Some e) None) n b t l (h.0, h.1, (meets, norm)) h.2
resume_keeps subject e n b (Sign mark.Colon) l h norm meets = (norm, h)
resume_keeps subject e n b t l h norm meets = tt
resume_keeps (guard e' last cs p) e n b t l h norm meets = end_header_keeps (a_case e' last cs p (Some e)) n b t l (h.0, h.1, h.2, (meets, norm)) h.3
resume_keeps (default x ps ds y) e n b t l h norm meets = default_keeps x ps ds y e n b t l h.0 h.1 (meets, norm)

pattern_keeps : (e : Expr) (last : ℕ) (cs : Cases) (p : Pattern) (n : Span) (b : SuiteStack) (t : Kind) (l : ℕ) → ValidPlace (MatchLine e last) b → ValidSuiteOf (a_case e last cs p None) → KeepsTo (resume_pattern e last cs p n b t l)
pattern_keeps e last cs p n b (Word word.If) l k h = (start_one, (h.0, h.1, h.2, k.1))
pattern_keeps e last cs p n b t l k h = end_header_keeps (a_case e last cs p None) n b t l h k.1

-- ---- statements begin

begun_keeps : (p : Continuation) (n : Span) (b : SuiteStack) (s : expression.State) (t : Kind) → Sound (goal p) s → ValidContinuation p b → KeepsTo (reads p n b (expression.step s (class t)))
begun_keeps p n b s t sound h = go (expression.step s (class t)) (kept_.step_keeps (goal p) s (class t) (class_valid t) sound)
  where
    go : (o : expression.Out) → Keeps (goal p) o → KeepsTo (reads p n b o)
    go (expression.Next s') keeps = (keeps, h)
    go expression.Stuck keeps = tt
    go (expression.Left e) keeps = tt

abbrev PlaceKeeps : Option Place → SuiteStack → Type 0
PlaceKeeps None b = Unit {0}
PlaceKeeps (Some p) b = ValidPlace p b

simple_keeps : (t : Kind) (b : SuiteStack) → ValidSimple b → PlaceKeeps (simple_place t) b
simple_keeps (Word word.Pass) b h = (tt, refl, h)
simple_keeps (Word word.Break) b h = (tt, refl, h)
simple_keeps (Word word.Continue) b h = (tt, refl, h)
simple_keeps (Word word.Return) b h = h
simple_keeps (Word word.Raise) b h = h
simple_keeps (Word word.Assert) b h = (start_one, h)
simple_keeps (Word word.Global) b h = h
simple_keeps (Word word.Import) b h = h
simple_keeps (Word word.From) b h = h
simple_keeps t b h = tt

compound_keeps : (t : Kind) (b : SuiteStack) → ValidLine b → PlaceKeeps (compound_place t) b
compound_keeps (Word word.If) b h = (start_one, (tt, h))
compound_keeps (Word word.While) b h = (start_one, h)
compound_keeps (Word word.For) b h = (start_target, h)
compound_keeps (Word word.Try) b h = (tt, h)
compound_keeps (Word word.Def) b h = h
compound_keeps t b h = tt

begin_simple_keeps : (b : SuiteStack) (t : Kind) (f l : ℕ) → ValidSimple b → KeepsTo (begin_simple b t f l)
begin_simple_keeps b t f l h = go (simple_place t) (simple_keeps t b h)
  where
    go : (o : Option Place) → PlaceKeeps o b → KeepsTo (elim o as (λ (w : Option Place). Option State) [ Some p ↦ Some (at p (begun_at f l) b) | None ↦ reads (value no_exprs) (begun_at f l) b (expression.step (start any) (class t)) ])
    go (Some p) k = k
    go None k = begun_keeps (value no_exprs) (begun_at f l) b (start any) t start_any (tt, h)

begin_line_keeps : (b : SuiteStack) (t : Kind) (f l : ℕ) → ValidLine b → KeepsTo (begin_line b t f l)
begin_line_keeps b t f l h = go (compound_place t) (compound_keeps t b h)
  where
    go : (o : Option Place) → PlaceKeeps o b → KeepsTo (elim o as (λ (w : Option Place). Option State) [ Some p ↦ Some (at p (begun_at f l) b) | None ↦ begin_simple b t f l ])
    go (Some p) k = k
    go None k = begin_simple_keeps b t f l (simple_of_line b h)

line_keeps : (b : SuiteStack) (t : Kind) (f l : ℕ) → ValidLine b → KeepsTo (line b t f l)
line_keeps (top ss) End f l h = h
line_keeps (inside (stmt f' l' k e ss) false first last begun o b) Dedent f l h = close_keeps o (stmt f' l' k e ss) false first last begun b l h.3 (h.1, h.2) h.4
line_keeps b t f l h = begin_line_keeps b t f l h

-- ---- a token in a place

name_keeps : (xs : Listed) (n : Span) (b : SuiteStack) (t : Kind) (l : ℕ) → NormalKind (listed xs) → is_simple (listed xs) ≡ true → ValidSimple b → KeepsTo (after_name xs n b t l)
name_keeps xs n b (Sign mark.Comma) l norm simple h = h
name_keeps xs n b t l norm simple h = end_simple_keeps (listed xs) n b t l norm simple h

listed_simple : (xs : Listed) → is_simple (listed xs) ≡ true
listed_simple (globals xs) = refl
listed_simple (imports names) = refl
listed_simple (froms m names) = refl

with_name_normal : (xs : Listed) (x : Text) (y : Option Text) → NormalKind (listed (with_name xs x y))
with_name_normal (globals []) x y = tt
with_name_normal (globals (z ∷ zs)) x y = tt
with_name_normal (imports []) x y = tt
with_name_normal (imports (a ∷ rest)) x y = tt
with_name_normal (froms m []) x y = tt
with_name_normal (froms m (a ∷ rest)) x y = tt

params_end : (ps : List Text) (ds : Exprs) → ValidParams ps ds → NormalParams ps ds (is_some ps)
params_end [] no_exprs h = (refl, refl)
params_end [] (exprs d ds) h = absurd (let low = h.0 in omega arith)
params_end (x ∷ xs) ds h = (h.0, h.1)

act_keeps : (p : Place) (n : Span) (b : SuiteStack) (t : Kind) (f l : ℕ) → ValidPlace p b → KeepsTo (act p n b t f l)
act_keeps (Reading p s) n b t f l h = go (expression.step s (class t)) (kept_.step_keeps (goal p) s (class t) (class_valid t) h.0)
  where
    go : (o : expression.Out) → Keeps (goal p) o → KeepsTo (elim o as (λ (w : expression.Out). Option State) [ expression.Next s' ↦ Some (at (Reading p s') (onward n l) b) | expression.Stuck ↦ None | expression.Left e ↦ resume p e n b t l ])
    go (expression.Next s') keeps = (keeps, h.1)
    go expression.Stuck keeps = tt
    go (expression.Left e) keeps = resume_keeps p e n b t l h.1 keeps.0 keeps.1
act_keeps (Matching e last cs s) n b t f l h = go (pattern.step s t) (pattern_.step_keeps s t h.2)
  where
    go : (o : pattern.Out) → pattern_.Keeps o → KeepsTo (elim o as (λ (w : pattern.Out). Option State) [ pattern.Next s' ↦ Some (at (Matching e last cs s') (onward n l) b) | pattern.Stuck ↦ None | pattern.Left p ↦ resume_pattern e last cs p n b t l ])
    go (pattern.Next s') keeps = (h.0, h.1, keeps, h.3)
    go pattern.Stuck keeps = tt
    go (pattern.Left p) keeps = pattern_keeps e last cs p n b t l (h.0, h.3) (h.0, h.1, keeps, tt)
act_keeps (Simple k) n b t f l h = end_simple_keeps k n b t l h.0 h.1 h.2
act_keeps (Semicolon k) n b Newline f l h = both_keeps b n.begun n.last k l h.2 h.0 h.1
act_keeps (Semicolon k) n b t f l h = begin_simple_keeps (add b n.begun n.last k semicolon_end) t f l (add_semicolon b n.begun n.last k h.2 h.0 h.1)
act_keeps (Leaving true) n b (Sign mark.Semicolon) f l h = end_simple_keeps (left true None) n b (Sign mark.Semicolon) l tt refl h
act_keeps (Leaving false) n b (Sign mark.Semicolon) f l h = end_simple_keeps (left false None) n b (Sign mark.Semicolon) l tt refl h
act_keeps (Leaving true) n b Newline f l h = end_simple_keeps (left true None) n b Newline l tt refl h
act_keeps (Leaving false) n b Newline f l h = end_simple_keeps (left false None) n b Newline l tt refl h
act_keeps (Leaving true) n b t f l h = begun_keeps (leaving true) (onward n l) b (start one) t start_one h
act_keeps (Leaving false) n b t f l h = begun_keeps (leaving false) (onward n l) b (start any) t start_any h
act_keeps (NameWanted xs) n b (Name x) f l h = h
act_keeps (NameWanted xs) n b t f l h = tt
act_keeps (NameRead xs x) n b (Word word.As) f l h = go (may_bind xs) refl
  where
    go : (c : Bool) → may_bind xs ≡ c → KeepsTo (cond c (Some (at (BoundWanted xs x) (onward n l) b)) None)
    go true is = (is, h)
    go false is = tt
act_keeps (NameRead xs x) n b t f l h = name_keeps (with_name xs x None) n b t l (with_name_normal xs x None) (listed_simple (with_name xs x None)) h
act_keeps (BoundWanted xs x) n b (Name y) f l h = (with_name_normal xs x (Some y), h.1)
act_keeps (BoundWanted xs x) n b t f l h = tt
act_keeps (BoundRead xs) n b t f l h = name_keeps xs n b t l h.0 (listed_simple xs) h.1
act_keeps ModuleWanted n b (Name m) f l h = h
act_keeps ModuleWanted n b t f l h = tt
act_keeps (ImportWanted m) n b (Word word.Import) f l h = h
act_keeps (ImportWanted m) n b t f l h = tt
act_keeps FunctionWanted n b (Name x) f l h = h
act_keeps FunctionWanted n b t f l h = tt
act_keeps (ParamsWanted x) n b (Sign mark.LeftParen) f l h = ((omega arith, tt), h)
act_keeps (ParamsWanted x) n b t f l h = tt
act_keeps (ParamWanted x ps ds) n b (Name y) f l h = h
act_keeps (ParamWanted x ps ds) n b (Sign mark.RightParen) f l h = (params_end ps ds h.0, h.1)
act_keeps (ParamWanted x ps ds) n b t f l h = tt
act_keeps (ParamRead x ps ds y) n b (Sign mark.Equal) f l h = (start_one, h)
act_keeps (ParamRead x ps no_exprs y) n b t f l h = plain_keeps x ps y n b t l h.1
act_keeps (ParamRead x ps (exprs d ds) y) n b t f l h = tt
act_keeps (Except body cs) n b (Sign mark.Colon) f l h = ((h.0, h.1, refl), h.2)
act_keeps (Except body cs) n b t f l h = begun_keeps (clause_kind body cs) (onward n l) b (start one) t start_one h
act_keeps (ClauseBound body cs e) n b (Name x) f l h = ((h.0, h.1, h.2), h.3)
act_keeps (ClauseBound body cs e) n b t f l h = tt
act_keeps (ColonWanted o) n b t f l h = end_header_keeps o n b t l h.0 h.1
act_keeps (SuiteWanted o) n b Newline f l h = h
act_keeps (SuiteWanted o) n b t f l h = begin_simple_keeps (inside no_stmts true n.first n.last n.begun o b) t f l ((refl, refl), tt, h.0, h.1)
act_keeps (IndentWanted o) n b Indent f l h = (refl, tt, tt, h.0, h.1)
act_keeps (IndentWanted o) n b t f l h = tt
act_keeps (MatchLine e last) n b Newline f l h = h
act_keeps (MatchLine e last) n b t f l h = tt
act_keeps (MatchBlock e last) n b Indent f l h = (h.0, tt, h.1)
act_keeps (MatchBlock e last) n b t f l h = tt

-- ---- between statements

choose_keeps : (e : Expr) (last : ℕ) (cs : Cases) (first : ℕ) (b : SuiteStack) (t : Kind) (f l : ℕ) → Valid (Choosing e last cs first b) → KeepsTo (choose e last cs first b t f l)
choose_keeps e last cs first b (Name x) f l h = go (bytes_eq x case_name)
  where
    go : (c : Bool) → KeepsTo (cond c (Some (at (Matching e last cs pattern.start) (record { begun = first; first = f; last = l }) b)) None)
    go true = (h.0, h.1, pattern_.start_normal, h.2)
    go false = tt
choose_keeps e last (case p g s cs) first b Dedent f l h = ((h.0, h.1), refl, h.2)
choose_keeps e last cs first b t f l h = tt

whole_ended : (k : StmtKind) → is_whole k ≡ true → ended 0 k ≡ k
whole_ended (try b no_clauses o no_suite) h = absurd cc
whole_ended (try b no_clauses o (has_suite s)) h = refl
whole_ended (try b (clause e x s cs) o f) h = refl
whole_ended k h = refl

-- where a statement may begin on a new line
line_valid : (s : State) (b : SuiteStack) → Valid s → at_line s ≡ Some b → ValidLine b
line_valid (Line b') b valid h = let same : b' ≡ b = cc in subst ValidLine same valid
line_valid (at p n b') b valid h = absurd cc
line_valid (After k first last b') b valid h = go (is_whole k) refl h
  where
    go : (c : Bool) → is_whole k ≡ c → cond c (Some (add b' first last k no_end)) None ≡ Some b → ValidLine b
    go true is h = let same : add b' first last k no_end ≡ b = cc in subst ValidLine same (add_compound b' first last k valid.2 (subst NormalKind (whole_ended k is) valid.0) valid.1)
    go false is h = absurd cc
line_valid (Choosing e last cs first b') b valid h = absurd cc
line_valid (Over ss) b valid h = absurd cc

on_line_keeps : (s : State) (t : Kind) (f l : ℕ) → Valid s → KeepsTo (on_line (at_line s) t f l)
on_line_keeps s t f l valid = go (at_line s) refl
  where
    go : (o : Option SuiteStack) → at_line s ≡ o → KeepsTo (on_line o t f l)
    go (Some b) h = line_keeps b t f l (line_valid s b valid h)
    go None h = tt

next_keeps : (k : StmtKind) (t : Kind) (b : SuiteStack) → NormalKind (ended 0 k) → ValidLine b → PlaceKeeps (next_part k t) b
next_keeps (if' no_arms no_suite) (Word word.Elif) b h m = absurd h
next_keeps (if' (arm t s arms) no_suite) (Word word.Elif) b h m = (start_one, (h.0, m))
next_keeps (if' arms no_suite) (Word word.Else) b h m = (h, m)
next_keeps (while t s no_suite) (Word word.Else) b h m = (h, m)
next_keeps (for t e s no_suite) (Word word.Else) b h m = (h, m)
next_keeps (try s no_clauses no_suite no_suite) (Word word.Except) b h m = (h.1, h.2, m)
next_keeps (try s (clause e x s' cs) no_suite no_suite) (Word word.Except) b h m = (h.1, h.2, m)
next_keeps (try s (clause e x s' cs) no_suite no_suite) (Word word.Else) b h m = (h, m)
next_keeps (try s no_clauses o no_suite) (Word word.Finally) b h m = (((h.0.0, tt), h.1, h.2, h.3), m)
next_keeps (try s (clause e x s' cs) o no_suite) (Word word.Finally) b h m = ((tt, h.1, h.2, h.3), m)
next_keeps k t b h m = tt

plain_step_keeps : (s : State) (t : Kind) (f l : ℕ) → Valid s → KeepsTo (plain_step s t f l)
plain_step_keeps (Line b) t f l valid = line_keeps b t f l valid
plain_step_keeps (at p n b) t f l valid = act_keeps p n b t f l valid
plain_step_keeps (After k first last b) t f l valid = go (next_part k t) (next_keeps k t b valid.0 valid.2)
  where
    go : (o : Option Place) → PlaceKeeps o b → KeepsTo (elim o as (λ (w : Option Place). Option State) [ Some p ↦ Some (at p (record { begun = first; first = f; last = l }) b) | None ↦ on_line (at_line (After k first last b)) t f l ])
    go (Some p) h = h
    go None h = on_line_keeps (After k first last b) t f l valid
plain_step_keeps (Choosing e last cs first b) t f l valid = choose_keeps e last cs first b t f l valid
plain_step_keeps (Over ss) t f l valid = tt

header_step_keeps : (s : State) (t : Kind) (f l : ℕ) → Valid s → KeepsTo (header_step (at_line s) t f l)
header_step_keeps s t f l valid = go (at_line s) refl
  where
    named : (b : SuiteStack) → ValidLine b → (c : Bool) → KeepsTo (cond c (Some (at (wanted subject) (begun_at f l) b)) None)
    named b h true = (start_any, h)
    named b h false = tt

    go : (o : Option SuiteStack) → at_line s ≡ o → KeepsTo (header_step o t f l)
    go (Some b) h = named b (line_valid s b valid h) (is_match t)
    go None h = tt

keeps_of : (n : State) (o : Option State) → KeepsTo o → o ≡ Some n → Valid n
keeps_of n None h is = absurd cc
keeps_of n (Some n') h is = let same : n' ≡ n = cc in subst Valid same h

-- A step keeps what its state is.
pub step_keeps : (s n : State) (m : Marked) (f l : ℕ) → Valid s → step s m f l ≡ Some n → Valid n
step_keeps s n m f l valid h = go m.header h
  where
    go : (c : Bool) → cond c (header_step (at_line s) m.kind f l) (plain_step s m.kind f l) ≡ Some n → Valid n
    go true h = keeps_of n (header_step (at_line s) m.kind f l) (header_step_keeps s m.kind f l valid) h
    go false h = keeps_of n (plain_step s m.kind f l) (plain_step_keeps s m.kind f l valid) h

pub valid_begun : Valid begun
valid_begun = (tt, tt)
