-- A logical line of a normal module has the form of a `match` header exactly where it is one.
use Rattle.std.proofs.Common.{◌≡◌, ℕ, Bool, true, false, ◌&&◌, cond, List, [], ◌∷◌, Option, Some, None, refl, sym, ap, subst, ◌∙◌}
use Rattle.py_token.specs.declared.token.Keyword.{Keyword}
use Rattle.py_token.specs.declared.token.Keyword.TheVariants as word
use Rattle.py_token.specs.declared.token.Mark.TheVariants as mark
use Rattle.py_syntax.specs.declared.stmt.LineEnd.{LineEnd}
use Rattle.py_syntax.specs.Tree.{Text, Expr, Exprs, Pattern}
use Rattle.py_syntax.specs.Tree.{Stmts, no_stmts, stmt, Suite, suite, OptSuite, no_suite, has_suite, Arms, no_arms, arm, Clauses, no_clauses, clause, Cases, no_cases, case, StmtKind, if', while, for, try, def, match}
use Rattle.py_syntax.specs.Kinds.{Kind, Name, Word, Sign, Newline, Indent, Dedent, End}
use Rattle.py_syntax.specs.Tokens.{tokens, pattern_tokens}
use Rattle.py_syntax.specs.Normal.{Normal, NormalPattern}
use Rattle.py_syntax.specs.Headers.{Marked, put, kinds_marked, match_name, is_match, is_colon, ends_in_colon, is_header, ends_line, marked_from, marked}
use Rattle.py_syntax.specs.Statements.{param_tokens, except_tokens, case_name, guard_tokens, end_tokens, stmts_tokens, kind_tokens, suite_tokens, else_tokens, finally_tokens, elif_tokens, clause_tokens, case_tokens, is_simple, begins_simple, EndsLine, EndLines, ShareLine, IsOption, NormalExpr, NormalClauseHead, NormalParams, NormalStmts, NormalKind, NormalSuite, NormalOpt, NormalArms, NormalClauses, NormalCases}
use Rattle.py_syntax.specs.Spelling.{module_tokens}
use Rattle.py_grammar.specs.TokenClasses.{begins}
use Rattle.py_grammar.specs.Machine.{class}
use Rattle.py_grammar.proofs.Complete.Opens.{opens}
use Rattle.py_parse.proofs.Sound.Parted.{parted, put_append}
use Rattle.py_parse.proofs.Complete.OnLines.{plain}
use Rattle.py_parse.proofs.Complete.LineTokens.{last_colon, expr_last, pattern_last, params_last, Flat, flat}

-- ---- lists

-- The list has its headers marked, where it stands at the begin of a line or not.
abbrev Good : Bool → List Marked → Type 0
Good begins ms = marked_from begins (kinds_marked ms) ≡ ms

-- a token that begins no header
good_plain : (begins : Bool) (k : Kind) (ms : List Marked) → (begins && (is_match k && is_header (kinds_marked ms))) ≡ false → ends_line k ≡ false → Good false ms → Good begins (plain k ∷ ms)
good_plain begins k ms no_header inside good =
    ap (λ (h : Bool). record { kind = k; header = h } ∷ marked_from (ends_line k) (kinds_marked ms)) no_header
    ∙ ap (λ (b : Bool). plain k ∷ marked_from b (kinds_marked ms)) inside
    ∙ ap (λ (rest : List Marked). plain k ∷ rest) good

inside_of : (b : Bool) (o : Option Bool) (x : Bool) → cond b None o ≡ Some x → (b ≡ false) × (o ≡ Some x)
inside_of true o x h = absurd cc
inside_of false o x h = (refl, h)

-- tokens inside a line
good_put : (ks : List Kind) (c x : Bool) → last_colon c ks ≡ Some x → (ms : List Marked) → Good false ms → Good false (put ks ms)
good_put [] c x h ms good = good
good_put (k ∷ ks) c x h ms good =
    let i = inside_of (ends_line k) (last_colon (is_colon k) ks) x h in
    good_plain false k (put ks ms) refl i.0 (good_put ks (is_colon k) x i.1 ms good)

-- the colon after tokens inside a line
colon_put : (ks : List Kind) (c x : Bool) → last_colon c ks ≡ Some x → (ms : List Marked) → ends_in_colon c (kinds_marked (put ks ms)) ≡ ends_in_colon x (kinds_marked ms)
colon_put [] c x h ms = let same : c ≡ x = cc in ap (λ (b : Bool). ends_in_colon b (kinds_marked ms)) same
colon_put (Newline ∷ ks) c x h ms = absurd cc
colon_put (Indent ∷ ks) c x h ms = absurd cc
colon_put (Dedent ∷ ks) c x h ms = absurd cc
colon_put (k ∷ ks) c x h ms = colon_put ks (is_colon k) x h ms

-- a line that doesn't end in a colon
no_header : (ks : List Kind) → ends_in_colon false ks ≡ false → is_header ks ≡ false
no_header [] h = refl
no_header (Newline ∷ ks) h = refl
no_header (Sign mark.Colon ∷ ks) h = less ks h
  where
    less : (ks : List Kind) → ends_in_colon true ks ≡ false → ends_in_colon false ks ≡ false
    less [] h = refl
    less (Newline ∷ ks) h = absurd cc
    less (k ∷ ks) h = h
no_header (k ∷ ks) h = h

-- A line begins with these tokens, and doesn't end in a colon.
good_line : (ks : List Kind) → ((c : Bool) → last_colon c ks ≡ Some false) → (ms : List Marked) → ends_in_colon false (kinds_marked ms) ≡ false → Good false ms → Good true (put ks ms)
good_line [] last ms over good = absurd (let h = last true in cc)
good_line (k ∷ ks) last ms over good =
    let i = inside_of (ends_line k) (last_colon (is_colon k) ks) false (last false) in
    let header : (is_match k && is_header (kinds_marked (put ks ms))) ≡ false = begun k (is_match k) refl i.1 in
    good_plain true k (put ks ms) header i.0 (good_put ks (is_colon k) false i.1 ms good)
  where
    named : (k : Kind) → is_match k ≡ true → is_colon k ≡ false
    named (Name x) h = refl
    named (Sign m) h = absurd cc
    named k h = absurd cc

    begun : (k : Kind) (b : Bool) → is_match k ≡ b → last_colon (is_colon k) ks ≡ Some false → (b && is_header (kinds_marked (put ks ms))) ≡ false
    begun k true is h = no_header (kinds_marked (put ks ms)) (colon_put ks false false (ap (λ (c : Bool). last_colon c ks) (sym (named k is)) ∙ h) ms ∙ over)
    begun k false is h = refl

-- a line ends and a block begins
good_block : (ms : List Marked) → Good true ms → Good false (plain Newline ∷ plain Indent ∷ ms)
good_block ms good = ap (λ (rest : List Marked). plain Newline ∷ plain Indent ∷ rest) good

-- it ends
good_dedent : (ms : List Marked) → Good true ms → Good true (plain Dedent ∷ ms)
good_dedent ms good = ap (λ (rest : List Marked). plain Dedent ∷ rest) good

-- a header that begins at a keyword
good_word : (w : Keyword) (ks : List Kind) → last_colon false ks ≡ Some true → (ms : List Marked) → Good false ms → Good true (plain (Word w) ∷ put ks ms)
good_word w ks h ms good = ap (λ (rest : List Marked). plain (Word w) ∷ rest) (good_put ks false true h ms good)

-- an expression and a colon
test_last : (e : Expr) → Normal e → (c : Bool) → last_colon c (tokens e (Sign mark.Colon ∷ [])) ≡ Some true
test_last e n c = expr_last e n c (Sign mark.Colon ∷ [])

-- ---- what is claimed

abbrev StmtsGood : Stmts → Type 0
StmtsGood ss = (rest : List Marked) → Good true rest → Good true (stmts_tokens ss rest)

-- after a semicolon
abbrev MoreGood : Stmts → Type 0
MoreGood ss = (rest : List Marked) → Good true rest → Good false (stmts_tokens ss rest) × ((c : Bool) → ends_in_colon c (kinds_marked (stmts_tokens ss rest)) ≡ false)

-- after a header on its line
abbrev SharedGood : Stmts → Type 0
SharedGood ss = (rest : List Marked) → Good true rest → Good false (stmts_tokens ss rest)

abbrev KindGood : Bool → StmtKind → Type 0
KindGood true k = Flat k
KindGood false k = (rest : List Marked) → Good true rest → Good true (kind_tokens k rest)

abbrev SuiteGood : Suite → Type 0
SuiteGood s = (rest : List Marked) → Good true rest → Good false (suite_tokens s rest)

-- ---- statements

-- what stands after a simple statement
abbrev EndGood : LineEnd → List Marked → Type 0
EndGood e ms = Good false (put (end_tokens e) ms) × (ends_in_colon false (kinds_marked (put (end_tokens e) ms)) ≡ false)

end_newline : (x : Bool) (ms : List Marked) → Good true ms → EndGood (record { semicolon = x; newline = true }) ms
end_newline true ms good = (ap (λ (rest : List Marked). plain (Sign mark.Semicolon) ∷ plain Newline ∷ rest) good, refl)
end_newline false ms good = (ap (λ (rest : List Marked). plain Newline ∷ rest) good, refl)

end_semicolon : (ms : List Marked) → Good false ms → ends_in_colon false (kinds_marked ms) ≡ false → EndGood (record { semicolon = true; newline = false }) ms
end_semicolon ms good over = (ap (λ (rest : List Marked). plain (Sign mark.Semicolon) ∷ rest) good, over)

end_good : (x newline : Bool) (ss : Stmts) → EndsLine true (record { semicolon = x; newline = newline }) ss → StmtsGood ss → (begins_simple ss ≡ true → MoreGood ss) → (rest : List Marked) → Good true rest → EndGood (record { semicolon = x; newline = newline }) (stmts_tokens ss rest)
end_good x true ss ended stmts_good more_good rest good = end_newline x (stmts_tokens ss rest) (stmts_good rest good)
end_good false false ss ended stmts_good more_good rest good = absurd (let h = ended.0 in cc)
end_good true false ss ended stmts_good more_good rest good = let m = more_good ended.1 rest good in end_semicolon (stmts_tokens ss rest) m.0 (m.1 false)

-- a simple statement with what stands after it
flat_good : (k : StmtKind) → Flat k → (ms : List Marked) → Good false ms → Good false (kind_tokens k ms)
flat_good k f ms good = subst (λ (y : List Marked). Good false y) (sym (f.spelled ms)) (good_put f.kinds false false (f.last false) ms good)

flat_line : (k : StmtKind) → Flat k → (ms : List Marked) → ends_in_colon false (kinds_marked ms) ≡ false → Good false ms → Good true (kind_tokens k ms)
flat_line k f ms over good = subst (λ (y : List Marked). Good true y) (sym (f.spelled ms)) (good_line f.kinds f.last ms over good)

flat_colon : (k : StmtKind) → Flat k → (ms : List Marked) → ends_in_colon false (kinds_marked ms) ≡ false → (c : Bool) → ends_in_colon c (kinds_marked (kind_tokens k ms)) ≡ false
flat_colon k f ms over c = ap (λ (y : List Marked). ends_in_colon c (kinds_marked y)) (f.spelled ms) ∙ colon_put f.kinds c false (f.last c) ms ∙ over

stmts_on : (first last : ℕ) (k : StmtKind) (e : LineEnd) (ss : Stmts) (simple : Bool) → KindGood simple k → EndsLine simple e ss → StmtsGood ss → (begins_simple ss ≡ true → MoreGood ss) → StmtsGood (stmt first last k e ss)
stmts_on first last k e ss true f ended stmts_good more_good rest good =
    let m = end_good e.semicolon e.newline ss ended stmts_good more_good rest good in
    flat_line k f (put (end_tokens e) (stmts_tokens ss rest)) m.1 m.0
stmts_on first last k e ss false f ended stmts_good more_good rest good = f (put (end_tokens e) (stmts_tokens ss rest)) (none e.semicolon e.newline ended.0 ended.1)
  where
    none : (x newline : Bool) → x ≡ false → newline ≡ false → Good true (put (end_tokens (record { semicolon = x; newline = newline })) (stmts_tokens ss rest))
    none true newline a b = absurd cc
    none false true a b = absurd cc
    none false false a b = stmts_good rest good

more_on : (first last : ℕ) (k : StmtKind) (e : LineEnd) (ss : Stmts) (simple : Bool) → simple ≡ true → KindGood simple k → EndsLine simple e ss → StmtsGood ss → (begins_simple ss ≡ true → MoreGood ss) → MoreGood (stmt first last k e ss)
more_on first last k e ss false is f ended stmts_good more_good rest good = absurd cc
more_on first last k e ss true is f ended stmts_good more_good rest good =
    let m = end_good e.semicolon e.newline ss ended stmts_good more_good rest good in
    (flat_good k f (put (end_tokens e) (stmts_tokens ss rest)) m.0, flat_colon k f (put (end_tokens e) (stmts_tokens ss rest)) m.1)

shared_end : (first last : ℕ) (k : StmtKind) (e : LineEnd) (simple : Bool) → simple ≡ true → KindGood simple k → e.newline ≡ true → SharedGood (stmt first last k e no_stmts)
shared_end first last k e false is f over rest good = absurd cc
shared_end first last k e true is f over rest good = flat_good k f (put (end_tokens e) rest) (ended e.semicolon e.newline over)
  where
    ended : (x newline : Bool) → newline ≡ true → Good false (put (end_tokens (record { semicolon = x; newline = newline })) rest)
    ended x false h = absurd cc
    ended x true h = let m = end_newline x rest good in m.0

shared_on : (first last : ℕ) (k : StmtKind) (e : LineEnd) (ss : Stmts) (simple : Bool) → simple ≡ true → KindGood simple k → e.newline ≡ false → e.semicolon ≡ true → SharedGood ss → SharedGood (stmt first last k e ss)
shared_on first last k e ss false is f on sep more_good rest good = absurd cc
shared_on first last k e ss true is f on sep more_good rest good = flat_good k f (put (end_tokens e) (stmts_tokens ss rest)) (ended e.semicolon e.newline on sep)
  where
    ended : (x newline : Bool) → newline ≡ false → x ≡ true → Good false (put (end_tokens (record { semicolon = x; newline = newline })) (stmts_tokens ss rest))
    ended x true h h' = absurd cc
    ended false false h h' = absurd cc
    ended true false h h' = ap (λ (y : List Marked). plain (Sign mark.Semicolon) ∷ y) (more_good rest good)

-- ---- headers

head_good : (w : Keyword) (ks : List Kind) → last_colon false ks ≡ Some true → (s : Suite) → SuiteGood s → (rest : List Marked) → Good true rest → Good true (plain (Word w) ∷ put ks (suite_tokens s rest))
head_good w ks h s back rest good = good_word w ks h (suite_tokens s rest) (back rest good)

except_good : (e : Option Expr) (x : Option Text) → NormalClauseHead e x → (s : Suite) → SuiteGood s → (rest : List Marked) → Good true rest → Good true (put (except_tokens e x) (suite_tokens s rest))
except_good None x n s back rest good = head_good word.Except (Sign mark.Colon ∷ []) refl s back rest good
except_good (Some e) None n s back rest good = head_good word.Except (tokens e (Sign mark.Colon ∷ [])) (test_last e n.1 false) s back rest good
except_good (Some e) (Some x) n s back rest good = head_good word.Except (tokens e (Word word.As ∷ Name x ∷ Sign mark.Colon ∷ [])) (expr_last e n.1 false (Word word.As ∷ Name x ∷ Sign mark.Colon ∷ [])) s back rest good

def_last : (x : Text) (ps : List Text) (ds : Exprs) (c : Bool) → NormalParams ps ds c → last_colon false (Name x ∷ Sign mark.LeftParen ∷ param_tokens ps ds c (Sign mark.RightParen ∷ Sign mark.Colon ∷ [])) ≡ Some true
def_last x [] ds c n = refl
def_last x (y ∷ ys) ds c n = params_last _ y ys ds n.1 c (Sign mark.RightParen ∷ Sign mark.Colon ∷ [])

guard_last : (c : Pattern) (u : Option Expr) → NormalPattern c → IsOption NormalExpr u → last_colon false (pattern_tokens c (guard_tokens u)) ≡ Some true
guard_last c None nc nu = pattern_last c nc false (Sign mark.Colon ∷ [])
guard_last c (Some u) nc nu = pattern_last c nc false (Word word.If ∷ tokens u (Sign mark.Colon ∷ [])) ∙ test_last u nu.1 false

case_good : (c : Pattern) (u : Option Expr) → NormalPattern c → IsOption NormalExpr u → (s : Suite) → SuiteGood s → (rest : List Marked) → Good true rest → Good true (put (Name case_name ∷ pattern_tokens c (guard_tokens u)) (suite_tokens s rest))
case_good c u nc nu s back rest good =
    ap (λ (y : List Marked). plain (Name case_name) ∷ y) (good_put (pattern_tokens c (guard_tokens u)) false true (guard_last c u nc nu) (suite_tokens s rest) (back rest good))

-- the header of a `match` has its form
is_one : (k : Kind) (ks : List Kind) → begins (class k) ≡ true → ends_in_colon false (k ∷ ks) ≡ true → is_header (k ∷ ks) ≡ true
is_one Newline ks b h = absurd cc
is_one (Sign mark.Colon) ks b h = absurd cc
is_one k ks b h = h

match_good : (e : Expr) → Normal e → (ms : List Marked) → Good true ms → Good true (record { kind = Name match_name; header = true } ∷ put (tokens e (Sign mark.Colon ∷ Newline ∷ Indent ∷ [])) ms)
match_good e n ms good =
    let head = tokens e (Sign mark.Colon ∷ []) in
    let block = plain Newline ∷ plain Indent ∷ ms in
    let split : put (tokens e (Sign mark.Colon ∷ Newline ∷ Indent ∷ [])) ms ≡ put head block = ap (λ (ks : List Kind). put ks ms) (parted e (Sign mark.Colon ∷ []) (Newline ∷ Indent ∷ [])) ∙ put_append head (Newline ∷ Indent ∷ []) ms in
    let first = opens e (Sign mark.Colon ∷ []) n in
    let over : ends_in_colon false (kinds_marked (put head block)) ≡ true = colon_put head false true (test_last e n false) block in
    let begun : put head block ≡ plain first.0 ∷ put first.1 block = ap (λ (ks : List Kind). put ks block) first.2 in
    let header : is_header (kinds_marked (put head block)) ≡ true =
    ap (λ (y : List Marked). is_header (kinds_marked y)) begun
    ∙ is_one first.0 (kinds_marked (put first.1 block)) first.3 (ap (λ (y : List Marked). ends_in_colon false (kinds_marked y)) (sym begun) ∙ over) in
    subst (λ (y : List Marked). Good true (record { kind = Name match_name; header = true } ∷ y)) (sym split)
    (ap (λ (h : Bool). record { kind = Name match_name; header = h } ∷ marked_from false (kinds_marked (put head block))) header
    ∙ ap (λ (y : List Marked). record { kind = Name match_name; header = true } ∷ y) (good_put head false true (test_last e n false) block (good_block ms good)))

-- ---- all together

abbrev AreStmts : Stmts → Type 0
AreStmts no_stmts = ⊥
AreStmts (stmt f l k e ss) = Unit {0}

mutual
  good_stmts : (ss : Stmts) → EndLines ss → NormalStmts ss → StmtsGood ss
  good_stmts no_stmts ended n rest good = good
  good_stmts (stmt f l k e ss) ended n rest good = stmts_on f l k e ss (is_simple k) (good_kind k n.0) ended.0 (good_stmts ss ended.1 n.1) (λ h. good_more ss h ended.1 n.1) rest good

  good_more : (ss : Stmts) → begins_simple ss ≡ true → EndLines ss → NormalStmts ss → MoreGood ss
  good_more no_stmts h ended n rest good = absurd cc
  good_more (stmt f l k e ss) h ended n rest good = more_on f l k e ss (is_simple k) h (good_kind k n.0) ended.0 (good_stmts ss ended.1 n.1) (λ h. good_more ss h ended.1 n.1) rest good

  good_shared : (ss : Stmts) → AreStmts ss → ShareLine ss → NormalStmts ss → SharedGood ss
  good_shared no_stmts some share n = absurd some
  good_shared (stmt f l k e no_stmts) some share n = shared_end f l k e (is_simple k) share.0 (good_kind k n.0) share.1
  good_shared (stmt f l k e (stmt f' l' k' e' ss)) some share n = shared_on f l k e (stmt f' l' k' e' ss) (is_simple k) share.0 (good_kind k n.0) share.1 share.2 (good_shared (stmt f' l' k' e' ss) tt share.3 n.1)

  good_kind : (k : StmtKind) → NormalKind k → KindGood (is_simple k) k
  good_kind (if' no_arms o) n = absurd n
  good_kind (if' (arm t s arms) o) n = λ rest good. head_good word.If (tokens t (Sign mark.Colon ∷ [])) (test_last t n.0.0.1 false) s (good_suite s n.0.1) (elif_tokens arms (else_tokens o rest)) (good_arms arms n.0.2 (else_tokens o rest) (good_else o n.1 rest good))
  good_kind (while t s o) n = λ rest good. head_good word.While (tokens t (Sign mark.Colon ∷ [])) (test_last t n.0.1 false) s (good_suite s n.1) (else_tokens o rest) (good_else o n.2 rest good)
  good_kind (for t e s o) n = λ rest good. head_good word.For (tokens t (Word word.In ∷ tokens e (Sign mark.Colon ∷ []))) (expr_last t n.0 false (Word word.In ∷ tokens e (Sign mark.Colon ∷ [])) ∙ test_last e n.2 false) s (good_suite s n.3) (else_tokens o rest) (good_else o n.4 rest good)
  good_kind (try s cs o f) n = λ rest good. head_good word.Try (Sign mark.Colon ∷ []) refl s (good_suite s n.1) (clause_tokens cs (else_tokens o (finally_tokens f rest))) (good_clauses cs n.2 (else_tokens o (finally_tokens f rest)) (good_else o n.3 (finally_tokens f rest) (good_finally f n.4 rest good)))
  good_kind (def x ps ds c s) n = λ rest good. head_good word.Def (Name x ∷ Sign mark.LeftParen ∷ param_tokens ps ds c (Sign mark.RightParen ∷ Sign mark.Colon ∷ [])) (def_last x ps ds c n.0) s (good_suite s n.1) rest good
  good_kind (match e last no_cases) n = absurd n
  good_kind (match e last (case c u s cs)) n = λ rest good. match_good e n.0 (case_tokens (case c u s cs) (plain Dedent ∷ rest)) (good_cases (case c u s cs) n.1 (plain Dedent ∷ rest) (good_dedent rest good))
  good_kind k n = flat k refl n

  good_suite : (s : Suite) → NormalSuite s → SuiteGood s
  good_suite (suite first last inline no_stmts) n rest good = absurd n
  good_suite (suite first last true (stmt f l k e ss)) n rest good = good_shared (stmt f l k e ss) tt n.0 n.1 rest good
  good_suite (suite first last false (stmt f l k e ss)) n rest good = good_block (stmts_tokens (stmt f l k e ss) (plain Dedent ∷ rest)) (good_stmts (stmt f l k e ss) n.0 n.1 (plain Dedent ∷ rest) (good_dedent rest good))

  good_else : (o : OptSuite) → NormalOpt o → (rest : List Marked) → Good true rest → Good true (else_tokens o rest)
  good_else no_suite n rest good = good
  good_else (has_suite s) n rest good = head_good word.Else (Sign mark.Colon ∷ []) refl s (good_suite s n) rest good

  good_finally : (o : OptSuite) → NormalOpt o → (rest : List Marked) → Good true rest → Good true (finally_tokens o rest)
  good_finally no_suite n rest good = good
  good_finally (has_suite s) n rest good = head_good word.Finally (Sign mark.Colon ∷ []) refl s (good_suite s n) rest good

  good_arms : (arms : Arms) → NormalArms arms → (rest : List Marked) → Good true rest → Good true (elif_tokens arms rest)
  good_arms no_arms n rest good = good
  good_arms (arm t s arms) n rest good = head_good word.Elif (tokens t (Sign mark.Colon ∷ [])) (test_last t n.0.1 false) s (good_suite s n.1) (elif_tokens arms rest) (good_arms arms n.2 rest good)

  good_clauses : (cs : Clauses) → NormalClauses cs → (rest : List Marked) → Good true rest → Good true (clause_tokens cs rest)
  good_clauses no_clauses n rest good = good
  good_clauses (clause e x s cs) n rest good = except_good e x n.0 s (good_suite s n.1) (clause_tokens cs rest) (good_clauses cs n.2 rest good)

  good_cases : (cs : Cases) → NormalCases cs → (rest : List Marked) → Good true rest → Good true (case_tokens cs rest)
  good_cases no_cases n rest good = good
  good_cases (case c u s cs) n rest good = case_good c u n.0 n.1 s (good_suite s n.2) (case_tokens cs rest) (good_cases cs n.3 rest good)

pub headers : (m : Stmts) → EndLines m → NormalStmts m → marked (kinds_marked (module_tokens m)) ≡ module_tokens m
headers m ended n = good_stmts m ended n (put (End ∷ []) []) refl
