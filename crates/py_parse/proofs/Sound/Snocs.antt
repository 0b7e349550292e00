-- The tokens of lists with one more at the end.
use Rattle.std.proofs.Common.{◌≡◌, ℕ, zero, suc, ◌+◌, ◌-◌, ◌≤◌, Bool, true, List, [], ◌∷◌, ◌++◌, length, Option, Some, None, refl, ap, ◌∙◌, arith}
use Rattle.py_token.specs.declared.token.Keyword.TheVariants as word
use Rattle.py_token.specs.declared.token.Mark.TheVariants as mark
use Rattle.py_syntax.specs.declared.stmt.LineEnd.{LineEnd}
use Rattle.py_syntax.specs.Tree.{Text, Expr, Exprs, no_exprs, exprs, Alias, Pattern}
use Rattle.py_syntax.specs.Tree.{Stmts, no_stmts, stmt, Suite, no_suite, Arms, no_arms, arm, Clauses, no_clauses, clause, Cases, no_cases, case, StmtKind, if', try}
use Rattle.py_syntax.specs.Kinds.{Kind, Name, Word, Sign}
use Rattle.py_syntax.specs.Tokens.{comma_if, tokens, pattern_tokens}
use Rattle.py_syntax.specs.Headers.{Marked, put}
use Rattle.py_syntax.specs.Statements.{target_tokens, as_tokens, more_names, name_list, more_aliases, alias_list, more_params, params_from, count, param_tokens, except_tokens, case_name, guard_tokens, end_tokens, stmts_tokens, kind_tokens, suite_tokens, elif_tokens, clause_tokens, case_tokens}
use Rattle.py_grammar.specs.Machine.{snoc}
use Rattle.py_statements.specs.Open.{snoc_stmt, snoc_arm, snoc_clause, snoc_case}
use Rattle.py_statements.specs.Listed.{Listed, globals, imports, froms, listed, with_name, may_bind}
use Rattle.py_parse.proofs.Sound.Before.{commas, alias_commas, listing, match_open}

-- ---- statements and suites

pub stmts_snoc : (ss : Stmts) (f l : ℕ) (k : StmtKind) (e : LineEnd) (r : List Marked) → stmts_tokens (snoc_stmt ss f l k e) r ≡ stmts_tokens ss (kind_tokens k (put (end_tokens e) r))
stmts_snoc no_stmts f l k e r = refl
stmts_snoc (stmt f' l' k' e' ss) f l k e r = ap (λ (x : List Marked). kind_tokens k' (put (end_tokens e') x)) (stmts_snoc ss f l k e r)

elif_snoc : (arms : Arms) (t : Expr) (b : Suite) (r : List Marked) → elif_tokens (snoc_arm arms t b) r ≡ elif_tokens arms (put (Word word.Elif ∷ tokens t (Sign mark.Colon ∷ [])) (suite_tokens b r))
elif_snoc no_arms t b r = refl
elif_snoc (arm t' b' arms) t b r = ap (λ (x : List Marked). put (Word word.Elif ∷ tokens t' (Sign mark.Colon ∷ [])) (suite_tokens b' x)) (elif_snoc arms t b r)

pub arms_snoc : (t' : Expr) (b' : Suite) (arms : Arms) (t : Expr) (b : Suite) (r : List Marked) → kind_tokens (if' (snoc_arm (arm t' b' arms) t b) no_suite) r ≡ kind_tokens (if' (arm t' b' arms) no_suite) (put (Word word.Elif ∷ tokens t (Sign mark.Colon ∷ [])) (suite_tokens b r))
arms_snoc t' b' arms t b r = ap (λ (x : List Marked). put (Word word.If ∷ tokens t' (Sign mark.Colon ∷ [])) (suite_tokens b' x)) (elif_snoc arms t b r)

clause_snoc : (cs : Clauses) (e : Option Expr) (x : Option Text) (b : Suite) (r : List Marked) → clause_tokens (snoc_clause cs e x b) r ≡ clause_tokens cs (put (except_tokens e x) (suite_tokens b r))
clause_snoc no_clauses e x b r = refl
clause_snoc (clause e' x' b' cs) e x b r = ap (λ (y : List Marked). put (except_tokens e' x') (suite_tokens b' y)) (clause_snoc cs e x b r)

pub clauses_snoc : (s : Suite) (cs : Clauses) (e : Option Expr) (x : Option Text) (b : Suite) (r : List Marked) → kind_tokens (try s (snoc_clause cs e x b) no_suite no_suite) r ≡ kind_tokens (try s cs no_suite no_suite) (put (except_tokens e x) (suite_tokens b r))
clauses_snoc s cs e x b r = ap (λ (y : List Marked). put (Word word.Try ∷ Sign mark.Colon ∷ []) (suite_tokens s y)) (clause_snoc cs e x b r)

case_snoc : (cs : Cases) (p : Pattern) (g : Option Expr) (b : Suite) (r : List Marked) → case_tokens (snoc_case cs p g b) r ≡ case_tokens cs (put (Name case_name ∷ pattern_tokens p (guard_tokens g)) (suite_tokens b r))
case_snoc no_cases p g b r = refl
case_snoc (case p' g' b' cs) p g b r = ap (λ (y : List Marked). put (Name case_name ∷ pattern_tokens p' (guard_tokens g')) (suite_tokens b' y)) (case_snoc cs p g b r)

pub cases_snoc : (e : Expr) (cs : Cases) (p : Pattern) (g : Option Expr) (b : Suite) (r : List Marked) → match_open e (snoc_case cs p g b) r ≡ match_open e cs (put (Name case_name ∷ pattern_tokens p (guard_tokens g)) (suite_tokens b r))
cases_snoc e cs p g b r = ap (match_open e no_cases) (case_snoc cs p g b r)

-- ---- targets and names

pub targets_snoc : (ts : Exprs) (e : Expr) (r : List Kind) → target_tokens (snoc ts e) r ≡ target_tokens ts (tokens e (Sign mark.Equal ∷ r))
targets_snoc no_exprs e r = refl
targets_snoc (exprs t ts) e r = ap (λ (x : List Kind). tokens t (Sign mark.Equal ∷ x)) (targets_snoc ts e r)

more_names_snoc : (xs : List Text) (x : Text) → more_names (xs ++ x ∷ []) ≡ Sign mark.Comma ∷ commas xs (Name x ∷ [])
more_names_snoc [] x = refl
more_names_snoc (y ∷ ys) x = ap (λ (r : List Kind). Sign mark.Comma ∷ Name y ∷ r) (more_names_snoc ys x)

names_snoc : (xs : List Text) (x : Text) → name_list (xs ++ x ∷ []) ≡ commas xs (Name x ∷ [])
names_snoc [] x = refl
names_snoc (y ∷ ys) x = ap (λ (r : List Kind). Name y ∷ r) (more_names_snoc ys x)

more_aliases_snoc : (names : List Alias) (a : Alias) → more_aliases (names ++ a ∷ []) ≡ Sign mark.Comma ∷ alias_commas names (Name a.name ∷ as_tokens a.bound [])
more_aliases_snoc [] a = refl
more_aliases_snoc (b ∷ rest) a = ap (λ (r : List Kind). Sign mark.Comma ∷ Name b.name ∷ as_tokens b.bound r) (more_aliases_snoc rest a)

aliases_snoc : (names : List Alias) (a : Alias) → alias_list (names ++ a ∷ []) ≡ alias_commas names (Name a.name ∷ as_tokens a.bound [])
aliases_snoc [] a = refl
aliases_snoc (b ∷ rest) a = ap (λ (r : List Kind). Name b.name ∷ as_tokens b.bound r) (more_aliases_snoc rest a)

-- a listed name without `as`, and one with it
pub named : (l : Listed) (x : Text) (r : List Marked) → kind_tokens (listed (with_name l x None)) r ≡ put (listing l (Name x ∷ [])) r
named (globals xs) x r = ap (λ (y : List Kind). put (Word word.Global ∷ y) r) (names_snoc xs x)
named (imports names) x r = ap (λ (y : List Kind). put (Word word.Import ∷ y) r) (aliases_snoc names (record { name = x; bound = None }))
named (froms m names) x r = ap (λ (y : List Kind). put (Word word.From ∷ Name m ∷ Word word.Import ∷ y) r) (aliases_snoc names (record { name = x; bound = None }))

pub bound : (l : Listed) (x y : Text) (r : List Marked) → may_bind l ≡ true → kind_tokens (listed (with_name l x (Some y))) r ≡ put (listing l (Name x ∷ Word word.As ∷ Name y ∷ [])) r
bound (globals xs) x y r h = absurd cc
bound (imports names) x y r h = ap (λ (z : List Kind). put (Word word.Import ∷ z) r) (aliases_snoc names (record { name = x; bound = Some y }))
bound (froms m names) x y r h = ap (λ (z : List Kind). put (Word word.From ∷ Name m ∷ Word word.Import ∷ z) r) (aliases_snoc names (record { name = x; bound = Some y }))

-- names with a comma after the last
commas_snoc : (xs : List Text) (x : Text) (r : List Kind) → commas (xs ++ x ∷ []) r ≡ commas xs (Name x ∷ Sign mark.Comma ∷ r)
commas_snoc [] x r = refl
commas_snoc (y ∷ ys) x r = ap (λ (z : List Kind). Name y ∷ Sign mark.Comma ∷ z) (commas_snoc ys x r)

alias_commas_snoc : (names : List Alias) (a : Alias) (r : List Kind) → alias_commas (names ++ a ∷ []) r ≡ alias_commas names (Name a.name ∷ as_tokens a.bound (Sign mark.Comma ∷ r))
alias_commas_snoc [] a r = refl
alias_commas_snoc (b ∷ rest) a r = ap (λ (z : List Kind). Name b.name ∷ as_tokens b.bound (Sign mark.Comma ∷ z)) (alias_commas_snoc rest a r)

pub named_comma : (l : Listed) (x : Text) (r : List Kind) → listing (with_name l x None) r ≡ listing l (Name x ∷ Sign mark.Comma ∷ r)
named_comma (globals xs) x r = ap (λ (y : List Kind). Word word.Global ∷ y) (commas_snoc xs x r)
named_comma (imports names) x r = ap (λ (y : List Kind). Word word.Import ∷ y) (alias_commas_snoc names (record { name = x; bound = None }) r)
named_comma (froms m names) x r = ap (λ (y : List Kind). Word word.From ∷ Name m ∷ Word word.Import ∷ y) (alias_commas_snoc names (record { name = x; bound = None }) r)

-- ---- parameters

plain_more : (n m : ℕ) (ps : List Text) (y : Text) (c : Bool) (r : List Kind) → more_params n (ps ++ y ∷ []) no_exprs c r ≡ more_params m ps no_exprs true (Name y ∷ comma_if c r)
plain_more zero m [] y c r = refl
plain_more (suc n) m [] y c r = refl
plain_more zero zero (x ∷ xs) y c r = ap (λ (z : List Kind). Sign mark.Comma ∷ Name x ∷ z) (plain_more zero zero xs y c r)
plain_more zero (suc m) (x ∷ xs) y c r = ap (λ (z : List Kind). Sign mark.Comma ∷ Name x ∷ z) (plain_more zero m xs y c r)
plain_more (suc n) zero (x ∷ xs) y c r = ap (λ (z : List Kind). Sign mark.Comma ∷ Name x ∷ z) (plain_more n zero xs y c r)
plain_more (suc n) (suc m) (x ∷ xs) y c r = ap (λ (z : List Kind). Sign mark.Comma ∷ Name x ∷ z) (plain_more n m xs y c r)

plain_from : (n m : ℕ) (ps : List Text) (y : Text) (c : Bool) (r : List Kind) → params_from n (ps ++ y ∷ []) no_exprs c r ≡ params_from m ps no_exprs true (Name y ∷ comma_if c r)
plain_from zero m [] y c r = refl
plain_from (suc n) m [] y c r = refl
plain_from zero zero (x ∷ xs) y c r = ap (λ (z : List Kind). Name x ∷ z) (plain_more zero zero xs y c r)
plain_from zero (suc m) (x ∷ xs) y c r = ap (λ (z : List Kind). Name x ∷ z) (plain_more zero m xs y c r)
plain_from (suc n) zero (x ∷ xs) y c r = ap (λ (z : List Kind). Name x ∷ z) (plain_more n zero xs y c r)
plain_from (suc n) (suc m) (x ∷ xs) y c r = ap (λ (z : List Kind). Name x ∷ z) (plain_more n m xs y c r)

pub plain_snoc : (ps : List Text) (y : Text) (c : Bool) (r : List Kind) → param_tokens (ps ++ y ∷ []) no_exprs c r ≡ param_tokens ps no_exprs true (Name y ∷ comma_if c r)
plain_snoc ps y c r = plain_from (length (ps ++ y ∷ []) - 0) (length ps - 0) ps y c r

default_more : (n : ℕ) (ps : List Text) (ds : Exprs) (y : Text) (d : Expr) (c : Bool) (r : List Kind) → n + count ds ≡ length ps → more_params n (ps ++ y ∷ []) (snoc ds d) c r ≡ more_params n ps ds true (Name y ∷ Sign mark.Equal ∷ tokens d (comma_if c r))
default_more zero [] no_exprs y d c r h = refl
default_more zero [] (exprs e es) y d c r h = absurd (omega arith)
default_more (suc n) [] ds y d c r h = absurd (omega arith)
default_more zero (x ∷ xs) no_exprs y d c r h = absurd (omega arith)
default_more zero (x ∷ xs) (exprs e es) y d c r h = ap (λ (z : List Kind). Sign mark.Comma ∷ Name x ∷ Sign mark.Equal ∷ tokens e z) (default_more zero xs es y d c r (omega arith))
default_more (suc n) (x ∷ xs) ds y d c r h = ap (λ (z : List Kind). Sign mark.Comma ∷ Name x ∷ z) (default_more n xs ds y d c r (omega arith))

default_from : (n : ℕ) (ps : List Text) (ds : Exprs) (y : Text) (d : Expr) (c : Bool) (r : List Kind) → n + count ds ≡ length ps → params_from n (ps ++ y ∷ []) (snoc ds d) c r ≡ params_from n ps ds true (Name y ∷ Sign mark.Equal ∷ tokens d (comma_if c r))
default_from zero [] no_exprs y d c r h = refl
default_from zero [] (exprs e es) y d c r h = absurd (omega arith)
default_from (suc n) [] ds y d c r h = absurd (omega arith)
default_from zero (x ∷ xs) no_exprs y d c r h = absurd (omega arith)
default_from zero (x ∷ xs) (exprs e es) y d c r h = ap (λ (z : List Kind). Name x ∷ Sign mark.Equal ∷ tokens e z) (default_more zero xs es y d c r (omega arith))
default_from (suc n) (x ∷ xs) ds y d c r h = ap (λ (z : List Kind). Name x ∷ z) (default_more n xs ds y d c r (omega arith))

pub count_snoc : (ds : Exprs) (d : Expr) → count (snoc ds d) ≡ suc (count ds)
count_snoc no_exprs d = refl
count_snoc (exprs e es) d = ap suc (count_snoc es d)

pub length_snoc : (ps : List Text) (y : Text) → length (ps ++ y ∷ []) ≡ suc (length ps)
length_snoc [] y = refl
length_snoc (x ∷ xs) y = ap suc (length_snoc xs y)

pub default_snoc : (ps : List Text) (ds : Exprs) (y : Text) (d : Expr) (c : Bool) (r : List Kind) → count ds ≤ length ps → param_tokens (ps ++ y ∷ []) (snoc ds d) c r ≡ param_tokens ps ds true (Name y ∷ Sign mark.Equal ∷ tokens d (comma_if c r))
default_snoc ps ds y d c r h =
    let some = count_snoc ds d in
    let long = length_snoc ps y in
    let same : length (ps ++ y ∷ []) - count (snoc ds d) ≡ length ps - count ds = omega arith in
    ap (λ (n : ℕ). params_from n (ps ++ y ∷ []) (snoc ds d) c r) same ∙ default_from (length ps - count ds) ps ds y d c r (omega arith)
