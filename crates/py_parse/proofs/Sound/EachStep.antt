-- What the machine has read is what its state stands for: each step.
use Rattle.std.proofs.Common.{◌≡◌, ℕ, Bool, true, false, cond, List, [], ◌∷◌, ◌++◌, Option, Some, None, refl, sym, ap, subst, ◌∙◌, bytes_eq}
use Rattle.std.proofs.lemmas.Slice.Eq.{bytes_eq-Decides}
use Rattle.py_token.specs.declared.token.Keyword.TheVariants as word
use Rattle.py_token.specs.declared.token.Mark.TheVariants as mark
use Rattle.py_syntax.specs.Tree.{Text, Expr, no_exprs, exprs, Alias}
use Rattle.py_syntax.specs.Tree.{no_stmts, Cases, case}
use Rattle.py_syntax.specs.Kinds.{Kind, Name, Word, Sign, Newline, Indent, Dedent}
use Rattle.py_syntax.specs.Headers.{Marked, put, is_match}
use Rattle.py_syntax.specs.Statements.{as_tokens, more_names, more_aliases, case_name, kind_tokens, NormalKind}
use Rattle.py_grammar.specs.Machine as expression
use Rattle.py_grammar.specs.Machine.{any, one, start, class}
use Rattle.py_parse_pattern.specs.Machine as pattern
use Rattle.py_grammar.proofs.Sound as read_
use Rattle.py_parse_pattern.proofs.Sound as pattern_read_
use Rattle.py_statements.specs.Open.{SuiteStack, inside, add, no_end, both_end, semicolon_end}
use Rattle.py_statements.specs.Machine.{leaving, clause_kind, subject, Place, Reading, Matching, Simple, Semicolon, Leaving, NameWanted, NameRead, BoundWanted, BoundRead, ModuleWanted, ImportWanted, FunctionWanted, ParamsWanted, ParamWanted, ParamRead, Except, ClauseBound, ColonWanted, SuiteWanted, IndentWanted, MatchLine, MatchBlock, Span, State, Line, at, After, Choosing, Over, wanted, onward, begun_at, begin_simple, left, after_name, after_default, act, choose, next_part, is_whole, at_line, on_line, plain_step, header_step, step, line}
use Rattle.py_statements.specs.Listed.{Listed, globals, imports, froms, listed, with_name, may_bind}
use Rattle.py_parse.proofs.Sound.Parted.{put_append}
use Rattle.py_parse.proofs.Sound.Before.{commas, alias_commas, listing, inner, outer, match_open, before_suites, before}
use Rattle.py_parse.proofs.Sound.BeforeParted.{as_parted, plain}
use Rattle.py_parse.proofs.Sound.Valid.{ValidPlace, Valid}
use Rattle.py_parse.proofs.Sound.Snocs.{named, bound, named_comma, plain_snoc}
use Rattle.py_parse.proofs.Sound.Parts.{ReadsTo, reads_to, add_tokens, Owned, owned_line, owned_simple, owned_add, over_line_tokens, end_simple_reads, end_header_reads, begun_reads, PlaceReads, begin_simple_reads, line_reads, next_part_reads, is_named_match}
use Rattle.py_parse.proofs.Sound.{With, moved, reading_reads, matching_reads}

-- ---- lists of names with a comma after them

commas_end : (xs : List Text) → Sign mark.Comma ∷ commas xs [] ≡ more_names xs ++ Sign mark.Comma ∷ []
commas_end [] = refl
commas_end (x ∷ xs) = ap (λ (r : List Kind). Sign mark.Comma ∷ Name x ∷ r) (commas_end xs)

alias_commas_end : (names : List Alias) → Sign mark.Comma ∷ alias_commas names [] ≡ more_aliases names ++ Sign mark.Comma ∷ []
alias_commas_end [] = refl
alias_commas_end (a ∷ rest) = ap (λ (r : List Kind). Sign mark.Comma ∷ Name a.name ∷ r) (ap (as_tokens a.bound) (alias_commas_end rest) ∙ as_parted a.bound (more_aliases rest) (Sign mark.Comma ∷ []))

aliases_end : (a : Alias) (rest : List Alias) (r : List Marked) → put (as_tokens a.bound (Sign mark.Comma ∷ alias_commas rest [])) r ≡ put (as_tokens a.bound (more_aliases rest)) (plain (Sign mark.Comma) ∷ r)
aliases_end a rest r = ap (λ (x : List Kind). put x r) (ap (as_tokens a.bound) (alias_commas_end rest) ∙ as_parted a.bound (more_aliases rest) (Sign mark.Comma ∷ [])) ∙ put_append (as_tokens a.bound (more_aliases rest)) (Sign mark.Comma ∷ []) r

listing_comma : (l : Listed) (r : List Marked) → NormalKind (listed l) → put (listing l []) r ≡ kind_tokens (listed l) (plain (Sign mark.Comma) ∷ r)
listing_comma (globals []) r h = absurd h
listing_comma (globals (x ∷ xs)) r h = ap (λ (y : List Marked). plain (Word word.Global) ∷ plain (Name x) ∷ y) (ap (λ (y : List Kind). put y r) (commas_end xs) ∙ put_append (more_names xs) (Sign mark.Comma ∷ []) r)
listing_comma (imports []) r h = absurd h
listing_comma (imports (a ∷ rest)) r h = ap (λ (y : List Marked). plain (Word word.Import) ∷ plain (Name a.name) ∷ y) (aliases_end a rest r)
listing_comma (froms m []) r h = absurd h
listing_comma (froms m (a ∷ rest)) r h = ap (λ (y : List Marked). plain (Word word.From) ∷ plain (Name m) ∷ plain (Word word.Import) ∷ plain (Name a.name) ∷ y) (aliases_end a rest r)

-- ---- a token in a place

read_name : (xs : Listed) (x : Text) (n : Span) (b : SuiteStack) (t : Kind) (l : ℕ) (r : List Marked) → Owned b → ReadsTo (after_name (with_name xs x None) n b t l) r (before_suites b (put (listing xs (Name x ∷ [])) (plain t ∷ r)))
read_name xs x n b (Sign mark.Comma) l r h = ap (λ (y : List Kind). before_suites b (put y r)) (named_comma xs x []) ∙ moved (NameRead xs x) b (Sign mark.Comma) r
read_name xs x n b t l r h = reads_to (after_name (with_name xs x None) n b t l) r (before_suites b (kind_tokens (listed (with_name xs x None)) (plain t ∷ r))) (before_suites b (put (listing xs (Name x ∷ [])) (plain t ∷ r))) (end_simple_reads (listed (with_name xs x None)) n b t l r h) (ap (before_suites b) (named xs x (plain t ∷ r)))

read_bound : (xs : Listed) (n : Span) (b : SuiteStack) (t : Kind) (l : ℕ) (r : List Marked) → NormalKind (listed xs) → Owned b → ReadsTo (after_name xs n b t l) r (before_suites b (kind_tokens (listed xs) (plain t ∷ r)))
read_bound xs n b (Sign mark.Comma) l r some h = ap (before_suites b) (listing_comma xs r some)
read_bound xs n b t l r some h = end_simple_reads (listed xs) n b t l r h

read_param : (x : Text) (ps : List Text) (y : Text) (n : Span) (b : SuiteStack) (t : Kind) (l : ℕ) (r : List Marked) → ReadsTo (after_default x (ps ++ y ∷ []) no_exprs n b t l) r (With (ParamRead x ps no_exprs y) b t r)
read_param x ps y n b (Sign mark.Comma) l r = ap (λ (z : List Kind). before_suites b (put (Word word.Def ∷ Name x ∷ Sign mark.LeftParen ∷ z) r)) (plain_snoc ps y true [])
read_param x ps y n b (Sign mark.RightParen) l r = ap (λ (z : List Kind). before_suites b (put (Word word.Def ∷ Name x ∷ Sign mark.LeftParen ∷ z) r)) (plain_snoc ps y false (Sign mark.RightParen ∷ []))
read_param x ps y n b t l r = tt

-- what was read before a place, and the token
abbrev Then : Place → SuiteStack → Kind → List Marked → List Marked
Then p b t r = before_suites b (outer p (put (inner p []) (plain t ∷ r)))

with_then : (p : Place) (n : Span) (b : SuiteStack) (t : Kind) (f l : ℕ) (r : List Marked) → ReadsTo (act p n b t f l) r (With p b t r) → ReadsTo (act p n b t f l) r (Then p b t r)
with_then p n b t f l r h = reads_to (act p n b t f l) r (With p b t r) (Then p b t r) h (moved p b t r)

act_reads : (p : Place) (n : Span) (b : SuiteStack) (t : Kind) (f l : ℕ) (r : List Marked) → ValidPlace p b → ReadsTo (act p n b t f l) r (Then p b t r)
act_reads (Reading p s) n b t f l r h = reading_reads p s n b t l r h.1 (expression.step s (class t)) (read_.step_reads s (class t))
act_reads (Matching e last cs s) n b t f l r h = with_then (Matching e last cs s) n b t f l r (matching_reads e last cs s n b t l r (pattern.step s t) (pattern_read_.step_reads s t))
act_reads (Simple k) n b t f l r h = end_simple_reads k n b t l r (owned_simple b h.2)
act_reads (Semicolon k) n b Newline f l r h = over_line_tokens (add b n.begun n.last k both_end) l r (owned_add b n.begun n.last k both_end (owned_simple b h.2)) ∙ add_tokens b n.begun n.last k both_end r
act_reads (Semicolon k) n b t f l r h = reads_to (begin_simple (add b n.begun n.last k semicolon_end) t f l) r (before_suites (add b n.begun n.last k semicolon_end) (plain t ∷ r)) (Then (Semicolon k) b t r) (begin_simple_reads (add b n.begun n.last k semicolon_end) t f l r) (add_tokens b n.begun n.last k semicolon_end (plain t ∷ r))
act_reads (Leaving true) n b (Sign mark.Semicolon) f l r h = end_simple_reads (left true None) n b (Sign mark.Semicolon) l r (owned_simple b h)
act_reads (Leaving false) n b (Sign mark.Semicolon) f l r h = end_simple_reads (left false None) n b (Sign mark.Semicolon) l r (owned_simple b h)
act_reads (Leaving true) n b Newline f l r h = end_simple_reads (left true None) n b Newline l r (owned_simple b h)
act_reads (Leaving false) n b Newline f l r h = end_simple_reads (left false None) n b Newline l r (owned_simple b h)
act_reads (Leaving true) n b t f l r h = begun_reads (leaving true) (onward n l) b (start one) t r
act_reads (Leaving false) n b t f l r h = begun_reads (leaving false) (onward n l) b (start any) t r
act_reads (NameWanted xs) n b (Name x) f l r h = moved (NameWanted xs) b (Name x) r
act_reads (NameWanted xs) n b t f l r h = tt
act_reads (NameRead xs x) n b (Word word.As) f l r h = go (may_bind xs)
  where
    go : (c : Bool) → ReadsTo (cond c (Some (at (BoundWanted xs x) (onward n l) b)) None) r (Then (NameRead xs x) b (Word word.As) r)
    go true = moved (NameRead xs x) b (Word word.As) r
    go false = tt
act_reads (NameRead xs x) n b t f l r h = read_name xs x n b t l r (owned_simple b h)
act_reads (BoundWanted xs x) n b (Name y) f l r h = ap (before_suites b) (bound xs x y r h.0) ∙ moved (BoundWanted xs x) b (Name y) r
act_reads (BoundWanted xs x) n b t f l r h = tt
act_reads (BoundRead xs) n b t f l r h = read_bound xs n b t l r h.0 (owned_simple b h.1)
act_reads ModuleWanted n b (Name m) f l r h = refl
act_reads ModuleWanted n b t f l r h = tt
act_reads (ImportWanted m) n b (Word word.Import) f l r h = refl
act_reads (ImportWanted m) n b t f l r h = tt
act_reads FunctionWanted n b (Name x) f l r h = refl
act_reads FunctionWanted n b t f l r h = tt
act_reads (ParamsWanted x) n b (Sign mark.LeftParen) f l r h = refl
act_reads (ParamsWanted x) n b t f l r h = tt
act_reads (ParamWanted x ps ds) n b (Name y) f l r h = moved (ParamWanted x ps ds) b (Name y) r
act_reads (ParamWanted x [] ds) n b (Sign mark.RightParen) f l r h = refl
act_reads (ParamWanted x (y ∷ ys) ds) n b (Sign mark.RightParen) f l r h = moved (ParamWanted x (y ∷ ys) ds) b (Sign mark.RightParen) r
act_reads (ParamWanted x ps ds) n b t f l r h = tt
act_reads (ParamRead x ps ds y) n b (Sign mark.Equal) f l r h = moved (ParamRead x ps ds y) b (Sign mark.Equal) r
act_reads (ParamRead x ps no_exprs y) n b t f l r h = with_then (ParamRead x ps no_exprs y) n b t f l r (read_param x ps y n b t l r)
act_reads (ParamRead x ps (exprs d ds) y) n b t f l r h = tt
act_reads (Except body cs) n b (Sign mark.Colon) f l r h = refl
act_reads (Except body cs) n b t f l r h = begun_reads (clause_kind body cs) (onward n l) b (start one) t r
act_reads (ClauseBound body cs e) n b (Name x) f l r h = moved (ClauseBound body cs e) b (Name x) r
act_reads (ClauseBound body cs e) n b t f l r h = tt
act_reads (ColonWanted o) n b t f l r h = end_header_reads o n b t l r
act_reads (SuiteWanted o) n b Newline f l r h = moved (SuiteWanted o) b Newline r
act_reads (SuiteWanted o) n b t f l r h = begin_simple_reads (inside no_stmts true n.first n.last n.begun o b) t f l r
act_reads (IndentWanted o) n b Indent f l r h = moved (IndentWanted o) b Indent r
act_reads (IndentWanted o) n b t f l r h = tt
act_reads (MatchLine e last) n b Newline f l r h = moved (MatchLine e last) b Newline r
act_reads (MatchLine e last) n b t f l r h = tt
act_reads (MatchBlock e last) n b Indent f l r h = moved (MatchBlock e last) b Indent r
act_reads (MatchBlock e last) n b t f l r h = tt

-- ---- between statements

choose_reads : (e : Expr) (last : ℕ) (cs : Cases) (first : ℕ) (b : SuiteStack) (t : Kind) (f l : ℕ) (r : List Marked) → ReadsTo (choose e last cs first b t f l) r (before_suites b (match_open e cs (plain t ∷ r)))
choose_reads e last cs first b (Name x) f l r = go (bytes_eq x case_name) refl
  where
    go : (c : Bool) → bytes_eq x case_name ≡ c → ReadsTo (cond c (Some (at (Matching e last cs pattern.start) (record { begun = first; first = f; last = l }) b)) None) r (before_suites b (match_open e cs (plain (Name x) ∷ r)))
    go true is = ap (λ (y : Text). before_suites b (match_open e cs (plain (Name y) ∷ r))) (sym ((bytes_eq-Decides x case_name).0 is))
    go false is = tt
choose_reads e last (case p g s cs) first b Dedent f l r = refl
choose_reads e last cs first b t f l r = tt

-- where a line may begin, the open suites hold all that was read
line_before : (s : State) (b : SuiteStack) (r : List Marked) → at_line s ≡ Some b → before s r ≡ before_suites b r
line_before (Line b') b r h = let same : b' ≡ b = cc in ap (λ (x : SuiteStack). before_suites x r) same
line_before (at p n b') b r h = absurd cc
line_before (After k first last b') b r h = go (is_whole k) h
  where
    go : (c : Bool) → cond c (Some (add b' first last k no_end)) None ≡ Some b → before_suites b' (kind_tokens k r) ≡ before_suites b r
    go true h = let same : add b' first last k no_end ≡ b = cc in sym (add_tokens b' first last k no_end r) ∙ ap (λ (x : SuiteStack). before_suites x r) same
    go false h = absurd cc
line_before (Choosing e last cs first b') b r h = absurd cc
line_before (Over ss) b r h = absurd cc

owned_at : (s : State) (b : SuiteStack) → Valid s → at_line s ≡ Some b → Owned b
owned_at (Line b') b valid h = let same : b' ≡ b = cc in subst Owned same (owned_line b' valid)
owned_at (at p n b') b valid h = absurd cc
owned_at (After k first last b') b valid h = go (is_whole k) h
  where
    go : (c : Bool) → cond c (Some (add b' first last k no_end)) None ≡ Some b → Owned b
    go true h = let same : add b' first last k no_end ≡ b = cc in subst Owned same (owned_add b' first last k no_end (owned_line b' valid.2))
    go false h = absurd cc
owned_at (Choosing e last cs first b') b valid h = absurd cc
owned_at (Over ss) b valid h = absurd cc

on_line_reads : (s : State) (t : Kind) (f l : ℕ) (r : List Marked) → Valid s → ReadsTo (on_line (at_line s) t f l) r (before s (plain t ∷ r))
on_line_reads s t f l r valid = go (at_line s) refl
  where
    go : (o : Option SuiteStack) → at_line s ≡ o → ReadsTo (on_line o t f l) r (before s (plain t ∷ r))
    go (Some b) h = reads_to (line b t f l) r (before_suites b (plain t ∷ r)) (before s (plain t ∷ r)) (line_reads b t f l r (owned_at s b valid h)) (sym (line_before s b (plain t ∷ r) h))
    go None h = tt

plain_reads : (s : State) (t : Kind) (f l : ℕ) (r : List Marked) → Valid s → ReadsTo (plain_step s t f l) r (before s (plain t ∷ r))
plain_reads (Line b) t f l r valid = line_reads b t f l r (owned_line b valid)
plain_reads (at p n b) t f l r valid = act_reads p n b t f l r valid
plain_reads (After k first last b) t f l r valid = go (next_part k t) (next_part_reads k t r valid.0)
  where
    go : (o : Option Place) → PlaceReads o r (kind_tokens k (plain t ∷ r)) →
        ReadsTo (elim o as (λ (w : Option Place). Option State) [ Some p ↦ Some (at p (record { begun = first; first = f; last = l }) b) | None ↦ on_line (at_line (After k first last b)) t f l ]) r (before (After k first last b) (plain t ∷ r))
    go (Some p) h = ap (before_suites b) h
    go None h = on_line_reads (After k first last b) t f l r valid
plain_reads (Choosing e last cs first b) t f l r valid = choose_reads e last cs first b t f l r
plain_reads (Over ss) t f l r valid = tt

header_reads : (s : State) (t : Kind) (f l : ℕ) (r : List Marked) → ReadsTo (header_step (at_line s) t f l) r (before s (record { kind = t; header = true } ∷ r))
header_reads s t f l r = go (at_line s) refl
  where
    inner_go : (b : SuiteStack) → at_line s ≡ Some b → (c : Bool) → is_match t ≡ c → ReadsTo (cond c (Some (at (wanted subject) (begun_at f l) b)) None) r (before s (record { kind = t; header = true } ∷ r))
    inner_go b h true is = ap (λ (x : Kind). before_suites b (record { kind = x; header = true } ∷ r)) (sym (is_named_match t is)) ∙ sym (line_before s b (record { kind = t; header = true } ∷ r) h)
    inner_go b h false is = tt

    go : (o : Option SuiteStack) → at_line s ≡ o → ReadsTo (header_step o t f l) r (before s (record { kind = t; header = true } ∷ r))
    go (Some b) h = inner_go b h (is_match t) refl
    go None h = tt

reads_of : (s n : State) (m : Marked) (f l : ℕ) (r : List Marked) (o : Option State) → ReadsTo o r (before s (m ∷ r)) → o ≡ Some n → before n r ≡ before s (m ∷ r)
reads_of s n m f l r None h is = absurd cc
reads_of s n m f l r (Some n') h is = let same : n' ≡ n = cc in ap (λ (x : State). before x r) (sym same) ∙ h

-- A step adds its token to what was read.
pub step_reads : (s n : State) (m : Marked) (f l : ℕ) (r : List Marked) → Valid s → step s m f l ≡ Some n → before n r ≡ before s (m ∷ r)
step_reads s n m f l r valid h = go m.header refl h
  where
    is_marked : (c : Bool) → m.header ≡ c → before s (record { kind = m.kind; header = c } ∷ r) ≡ before s (m ∷ r)
    is_marked c is = ap (λ (x : Bool). before s (record { kind = m.kind; header = x } ∷ r)) (sym is)

    go : (c : Bool) → m.header ≡ c → cond c (header_step (at_line s) m.kind f l) (plain_step s m.kind f l) ≡ Some n → before n r ≡ before s (m ∷ r)
    go true is h = reads_of s n (record { kind = m.kind; header = true }) f l r (header_step (at_line s) m.kind f l) (header_reads s m.kind f l r) h ∙ is_marked true is
    go false is h = reads_of s n (record { kind = m.kind; header = false }) f l r (plain_step s m.kind f l) (plain_reads s m.kind f l r valid) h ∙ is_marked false is
