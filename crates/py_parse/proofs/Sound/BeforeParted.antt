-- What was read and then others is what was read, and then the others: of expressions, patterns and places.
use Rattle.std.proofs.Common.{◌≡◌, ℕ, zero, suc, ◌-◌, Bool, true, false, List, [], ◌∷◌, ◌++◌, length, Option, Some, None, refl, ap, ◌∙◌}
use Rattle.py_token.specs.declared.token.Keyword.TheVariants as word
use Rattle.py_token.specs.declared.token.Mark.TheVariants as mark
use Rattle.py_syntax.specs.declared.expr.Comparison.TheVariants.{Op}
use Rattle.py_syntax.specs.Tree.{Text, Expr, Exprs, no_exprs, exprs, Patterns, no_patterns, patterns, Alias, no_arms, arm}
use Rattle.py_syntax.specs.Kinds.{Kind, Name, Word, Sign, Newline}
use Rattle.py_syntax.specs.Tokens.{strings, sign_mark, comparison, tokens, items, more, entries, links, bound, fragments, pattern_tokens, pattern_items, more_patterns}
use Rattle.py_syntax.specs.Headers.{Marked, put}
use Rattle.py_syntax.specs.Statements.{in_place_mark, target_tokens, as_tokens, more_params, params_from, count, param_tokens, case_name}
use Rattle.py_grammar.specs.TokenClasses.{operator_kind}
use Rattle.py_grammar.specs.Machine.{targets, Opener, a_call, a_list, exprs_first, exprs_rest, cond_first, cond_test, cond_else, first, right, not_of, compare_first, compare_rest, unary_of, post_rest, in_items, index_first, in_index, slice_to, in_paren, in_key, in_value, Ctx, Outside, on}
use Rattle.py_grammar.specs.Machine as expression
use Rattle.py_parse_pattern.specs.Machine as pattern
use Rattle.py_parse_pattern.specs.Machine.{Frame, frame, Stack, stack, open_mark}
use Rattle.py_grammar.proofs.Sound.{opened, before_ctx}
use Rattle.py_grammar.proofs.Sound as read_
use Rattle.py_parse_pattern.proofs.Sound.{barred, before_row, before_closed, before_item}
use Rattle.py_parse_pattern.proofs.Sound as pattern_read_
use Rattle.py_parse_pattern.proofs.Exact as pattern_
use Rattle.py_statements.specs.Open.{SuiteOf, an_arm, a_while, a_for, a_try, a_clause, an_else, a_finally, a_def, a_case}
use Rattle.py_statements.specs.Machine.{Continuation, value, augmented, leaving, asserted, reason, arm_test, while_test, for_target, for_over, clause_kind, subject, guard, default, Place, Reading, Matching, Simple, Semicolon, Leaving, NameWanted, NameRead, BoundWanted, BoundRead, ModuleWanted, ImportWanted, FunctionWanted, ParamsWanted, ParamWanted, ParamRead, Except, ClauseBound, ColonWanted, SuiteWanted, IndentWanted, MatchLine, MatchBlock}
use Rattle.py_statements.specs.Listed.{Listed, globals, imports, froms}
use Rattle.py_parse.proofs.Sound.Parted.{comma_parted, strings_parted, comparison_parted, fragments_parted, parted, items_parted, more_parted, entries_parted, links_parted, bound_parted, put_append}
use Rattle.py_parse.proofs.Sound.Before.{commas, alias_commas, listing, def_open, front, guard_part, clause_part, head, inner}

-- tokens in front of others don't depend on these
abbrev Parted : (List Kind → List Kind) → Type 0
Parted f = (a r : List Kind) → f (a ++ r) ≡ f a ++ r

both : (f g : List Kind → List Kind) → Parted f → Parted g → Parted (λ r. f (g r))
both f g pf pg a r = ap f (pg a r) ∙ pf (g a) r

after : (t : Kind) (f : List Kind → List Kind) → Parted f → Parted (λ r. t ∷ f r)
after t f pf a r = ap (λ (y : List Kind). t ∷ y) (pf a r)

-- an expression, a token and then others
then : (e : Expr) (t : Kind) → Parted (λ r. tokens e (t ∷ r))
then e t a r = parted e (t ∷ a) r

-- ---- expressions

opened_parted : (o : Opener) → Parted (opened o)
opened_parted (a_call f) a r = parted f (Sign mark.LeftParen ∷ a) r
opened_parted a_list a r = refl

ctx_parted : (k : Ctx) → Parted (before_ctx k)
ctx_parted (Outside (targets f es)) = both (tokens f) (more es true) (parted f) (more_parted es true)
ctx_parted (Outside g) = λ a r. refl
ctx_parted (on exprs_first k) = ctx_parted k
ctx_parted (on (exprs_rest f es) k) = both (before_ctx k) (λ r. tokens f (more es true r)) (ctx_parted k) (both (tokens f) (more es true) (parted f) (more_parted es true))
ctx_parted (on cond_first k) = ctx_parted k
ctx_parted (on (cond_test b) k) = both (before_ctx k) (λ r. tokens b (Word word.If ∷ r)) (ctx_parted k) (then b (Word word.If))
ctx_parted (on (cond_else b c) k) = both (before_ctx k) (λ r. tokens b (Word word.If ∷ tokens c (Word word.Else ∷ r))) (ctx_parted k) (both (λ r. tokens b (Word word.If ∷ r)) (λ r. tokens c (Word word.Else ∷ r)) (then b (Word word.If)) (then c (Word word.Else)))
ctx_parted (on (first l) k) = ctx_parted k
ctx_parted (on (right j e) k) = both (before_ctx k) (λ r. tokens e (operator_kind j ∷ r)) (ctx_parted k) (then e (operator_kind j))
ctx_parted (on not_of k) = both (before_ctx k) (λ r. Word word.Not ∷ r) (ctx_parted k) (λ a r. refl)
ctx_parted (on compare_first k) = ctx_parted k
ctx_parted (on (compare_rest e ls op) k) = both (before_ctx k) (λ r. tokens e (links ls (comparison (Op op) r))) (ctx_parted k) (both (tokens e) (λ r. links ls (comparison (Op op) r)) (parted e) (both (links ls) (comparison (Op op)) (links_parted ls) (comparison_parted (Op op))))
ctx_parted (on (unary_of s) k) = both (before_ctx k) (λ r. Sign (sign_mark s) ∷ r) (ctx_parted k) (λ a r. refl)
ctx_parted (on post_rest k) = ctx_parted k
ctx_parted (on (in_items o es) k) = both (before_ctx k) (λ r. opened o (items es true r)) (ctx_parted k) (both (opened o) (items es true) (opened_parted o) (items_parted es true))
ctx_parted (on (index_first f) k) = both (before_ctx k) (λ r. tokens f (Sign mark.LeftBracket ∷ r)) (ctx_parted k) (then f (Sign mark.LeftBracket))
ctx_parted (on (in_index f) k) = both (before_ctx k) (λ r. tokens f (Sign mark.LeftBracket ∷ r)) (ctx_parted k) (then f (Sign mark.LeftBracket))
ctx_parted (on (slice_to f from) k) = both (before_ctx k) (λ r. tokens f (Sign mark.LeftBracket ∷ bound from (Sign mark.Colon ∷ r))) (ctx_parted k) (both (λ r. tokens f (Sign mark.LeftBracket ∷ r)) (λ r. bound from (Sign mark.Colon ∷ r)) (then f (Sign mark.LeftBracket)) (λ a r. bound_parted from (Sign mark.Colon ∷ a) r))
ctx_parted (on in_paren k) = both (before_ctx k) (λ r. Sign mark.LeftParen ∷ r) (ctx_parted k) (λ a r. refl)
ctx_parted (on (in_key ps) k) = both (before_ctx k) (λ r. Sign mark.LeftBrace ∷ entries ps true r) (ctx_parted k) (after (Sign mark.LeftBrace) (entries ps true) (entries_parted ps true))
ctx_parted (on (in_value ps key) k) = both (before_ctx k) (λ r. Sign mark.LeftBrace ∷ entries ps true (tokens key (Sign mark.Colon ∷ r))) (ctx_parted k) (after (Sign mark.LeftBrace) (λ r. entries ps true (tokens key (Sign mark.Colon ∷ r))) (both (entries ps true) (λ r. tokens key (Sign mark.Colon ∷ r)) (entries_parted ps true) (then key (Sign mark.Colon))))

-- an expression in a stack, and what goes on with it
within : (k : Ctx) (f : List Kind → List Kind) → Parted f → Parted (λ r. before_ctx k (f r))
within k f pf = both (before_ctx k) f (ctx_parted k) pf

chain : (e : Expr) (f : List Kind → List Kind) → Parted f → Parted (λ r. tokens e (f r))
chain e f pf = both (tokens e) f (parted e) pf

pub read_parted : (s : expression.State) → Parted (read_.before s)
read_parted (expression.Want lev k) = ctx_parted k
read_parted (expression.Have e k) = within k (tokens e) (parted e)
read_parted (expression.Strings fs k) = within k (fragments fs) (fragments_parted fs)
read_parted (expression.AfterOpen k) = within k (λ r. Sign mark.LeftParen ∷ r) (λ a r. refl)
read_parted (expression.AfterComma f es k) = within k (λ r. tokens f (more es true r)) (chain f (more es true) (more_parted es true))
read_parted (expression.AfterTarget f es) = chain f (more es true) (more_parted es true)
read_parted (expression.ItemsOpen o k) = within k (opened o) (opened_parted o)
read_parted (expression.ItemsComma o es k) = within k (λ r. opened o (items es true r)) (both (opened o) (items es true) (opened_parted o) (items_parted es true))
read_parted (expression.DictOpen k) = within k (λ r. Sign mark.LeftBrace ∷ r) (λ a r. refl)
read_parted (expression.DictComma ps k) = within k (λ r. Sign mark.LeftBrace ∷ entries ps true r) (after (Sign mark.LeftBrace) (entries ps true) (entries_parted ps true))
read_parted (expression.IndexOpen f k) = within k (λ r. tokens f (Sign mark.LeftBracket ∷ r)) (then f (Sign mark.LeftBracket))
read_parted (expression.SliceColon f from k) = within k (λ r. tokens f (Sign mark.LeftBracket ∷ bound from (Sign mark.Colon ∷ r))) (both (λ r. tokens f (Sign mark.LeftBracket ∷ r)) (λ r. bound from (Sign mark.Colon ∷ r)) (then f (Sign mark.LeftBracket)) (λ a r. bound_parted from (Sign mark.Colon ∷ a) r))
read_parted (expression.AfterDot f k) = within k (λ r. tokens f (Sign mark.Dot ∷ r)) (then f (Sign mark.Dot))
read_parted (expression.AfterNot e ls k) = within k (λ r. tokens e (links ls (Word word.Not ∷ r))) (chain e (λ r. links ls (Word word.Not ∷ r)) (λ a r. links_parted ls (Word word.Not ∷ a) r))
read_parted (expression.AfterIs e ls k) = within k (λ r. tokens e (links ls (Word word.Is ∷ r))) (chain e (λ r. links ls (Word word.Is ∷ r)) (λ a r. links_parted ls (Word word.Is ∷ a) r))
read_parted (expression.AfterIsNot e ls k) = within k (λ r. tokens e (links ls (Word word.Is ∷ Word word.Not ∷ r))) (chain e (λ r. links ls (Word word.Is ∷ Word word.Not ∷ r)) (λ a r. links_parted ls (Word word.Is ∷ Word word.Not ∷ a) r))
read_parted (expression.Linked e ls k) = within k (λ r. tokens e (links ls r)) (chain e (links ls) (links_parted ls))

-- ---- patterns

barred_parted : (ps : Patterns) → Parted (barred ps)
barred_parted no_patterns = λ a r. refl
barred_parted (patterns p ps) = both (λ r. pattern_tokens p (Sign mark.Bar ∷ r)) (barred ps) (λ a r. pattern_.parted p (Sign mark.Bar ∷ a) r) (barred_parted ps)

more_patterns_parted : (ps : Patterns) (c : Bool) → Parted (more_patterns ps c)
more_patterns_parted no_patterns c = comma_parted c
more_patterns_parted (patterns p ps) c = after (Sign mark.Comma) (λ r. pattern_tokens p (more_patterns ps c r)) (both (pattern_tokens p) (more_patterns ps c) (pattern_.parted p) (more_patterns_parted ps c))

pattern_items_parted : (ps : Patterns) (c : Bool) → Parted (pattern_items ps c)
pattern_items_parted no_patterns c = λ a r. refl
pattern_items_parted (patterns p ps) c = both (pattern_tokens p) (more_patterns ps c) (pattern_.parted p) (more_patterns_parted ps c)

row_parted : (fs : List Frame) → Parted (before_row fs)
row_parted [] = λ a r. refl
row_parted (frame b js bs ∷ fs) = both (before_row fs) (λ r. pattern_items js true (barred bs (Sign (open_mark b) ∷ r))) (row_parted fs) (both (pattern_items js true) (λ r. barred bs (Sign (open_mark b) ∷ r)) (pattern_items_parted js true) (λ a r. barred_parted bs (Sign (open_mark b) ∷ a) r))

closed_parted : (k : Stack) → Parted (before_closed k)
closed_parted (stack is as' fs) = both (before_row fs) (λ r. pattern_items is true (barred as' r)) (row_parted fs) (both (pattern_items is true) (barred as') (pattern_items_parted is true) (barred_parted as'))

item_parted : (is : Patterns) (fs : List Frame) → Parted (before_item is fs)
item_parted is fs = both (before_row fs) (pattern_items is true) (row_parted fs) (pattern_items_parted is true)

pub pattern_read_parted : (s : pattern.State) → Parted (pattern_read_.before s)
pattern_read_parted (pattern.Want k) = closed_parted k
pattern_read_parted (pattern.Minus k) = λ a r. closed_parted k (Sign mark.Minus ∷ a) r
pattern_read_parted (pattern.Named x k) = λ a r. closed_parted k (Name x ∷ a) r
pattern_read_parted (pattern.Dotted m k) = λ a r. closed_parted k (Name m ∷ Sign mark.Dot ∷ a) r
pattern_read_parted (pattern.Strings xs k) = both (before_closed k) (strings xs) (closed_parted k) (strings_parted xs)
pattern_read_parted (pattern.Have p k) = both (before_closed k) (pattern_tokens p) (closed_parted k) (pattern_.parted p)
pattern_read_parted (pattern.Naming p is fs) = both (before_item is fs) (λ r. pattern_tokens p (Word word.As ∷ r)) (item_parted is fs) (λ a r. pattern_.parted p (Word word.As ∷ a) r)
pattern_read_parted (pattern.Item p is fs) = both (before_item is fs) (pattern_tokens p) (item_parted is fs) (pattern_.parted p)

-- ---- parts of statements

commas_parted : (xs : List Text) → Parted (commas xs)
commas_parted [] = λ a r. refl
commas_parted (x ∷ xs) = λ a r. ap (λ (y : List Kind). Name x ∷ Sign mark.Comma ∷ y) (commas_parted xs a r)

pub as_parted : (o : Option Text) → Parted (as_tokens o)
as_parted None = λ a r. refl
as_parted (Some x) = λ a r. refl

aliases_parted : (names : List Alias) → Parted (alias_commas names)
aliases_parted [] = λ a r. refl
aliases_parted (x ∷ rest) = after (Name x.name) (λ r. as_tokens x.bound (Sign mark.Comma ∷ alias_commas rest r)) (both (as_tokens x.bound) (λ r. Sign mark.Comma ∷ alias_commas rest r) (as_parted x.bound) (after (Sign mark.Comma) (alias_commas rest) (aliases_parted rest)))

listing_parted : (l : Listed) → Parted (listing l)
listing_parted (globals xs) = after (Word word.Global) (commas xs) (commas_parted xs)
listing_parted (imports names) = after (Word word.Import) (alias_commas names) (aliases_parted names)
listing_parted (froms m names) = after (Word word.From) (λ r. Name m ∷ Word word.Import ∷ alias_commas names r) (after (Name m) (λ r. Word word.Import ∷ alias_commas names r) (after (Word word.Import) (alias_commas names) (aliases_parted names)))

more_params_parted : (n : ℕ) (xs : List Text) (ds : Exprs) (c : Bool) → Parted (more_params n xs ds c)
more_params_parted n [] ds c = comma_parted c
more_params_parted (suc n) (x ∷ xs) ds c = after (Sign mark.Comma) (λ r. Name x ∷ more_params n xs ds c r) (after (Name x) (more_params n xs ds c) (more_params_parted n xs ds c))
more_params_parted zero (x ∷ xs) no_exprs c = after (Sign mark.Comma) (λ r. Name x ∷ more_params zero xs no_exprs c r) (after (Name x) (more_params zero xs no_exprs c) (more_params_parted zero xs no_exprs c))
more_params_parted zero (x ∷ xs) (exprs d ds) c = λ a r. ap (λ (y : List Kind). Sign mark.Comma ∷ Name x ∷ Sign mark.Equal ∷ y) (chain d (more_params zero xs ds c) (more_params_parted zero xs ds c) a r)

params_from_parted : (n : ℕ) (xs : List Text) (ds : Exprs) (c : Bool) → Parted (params_from n xs ds c)
params_from_parted n [] ds c = λ a r. refl
params_from_parted (suc n) (x ∷ xs) ds c = after (Name x) (more_params n xs ds c) (more_params_parted n xs ds c)
params_from_parted zero (x ∷ xs) no_exprs c = after (Name x) (more_params zero xs no_exprs c) (more_params_parted zero xs no_exprs c)
params_from_parted zero (x ∷ xs) (exprs d ds) c = λ a r. ap (λ (y : List Kind). Name x ∷ Sign mark.Equal ∷ y) (chain d (more_params zero xs ds c) (more_params_parted zero xs ds c) a r)

params_parted : (xs : List Text) (ds : Exprs) (c : Bool) → Parted (param_tokens xs ds c)
params_parted xs ds c = params_from_parted (length xs - count ds) xs ds c

def_parted : (x : Text) (ps : List Text) (ds : Exprs) → Parted (def_open x ps ds)
def_parted x ps ds = λ a r. ap (λ (y : List Kind). Word word.Def ∷ Name x ∷ Sign mark.LeftParen ∷ y) (params_parted ps ds true a r)

targets_parted : (ts : Exprs) → Parted (target_tokens ts)
targets_parted no_exprs = λ a r. refl
targets_parted (exprs t ts) = both (λ r. tokens t (Sign mark.Equal ∷ r)) (target_tokens ts) (then t (Sign mark.Equal)) (targets_parted ts)

pub front_parted : (p : Continuation) → Parted (front p)
front_parted (value ts) = targets_parted ts
front_parted (augmented p op) = then p (Sign (in_place_mark op))
front_parted (leaving raises) = λ a r. refl
front_parted asserted = λ a r. refl
front_parted (reason t) = after (Word word.Assert) (λ r. tokens t (Sign mark.Comma ∷ r)) (then t (Sign mark.Comma))
front_parted (arm_test no_arms) = λ a r. refl
front_parted (arm_test (arm t b arms)) = λ a r. refl
front_parted while_test = λ a r. refl
front_parted for_target = λ a r. refl
front_parted (for_over t) = after (Word word.For) (λ r. tokens t (Word word.In ∷ r)) (then t (Word word.In))
front_parted (clause_kind b cs) = λ a r. refl
front_parted subject = λ a r. refl
front_parted (guard e last cs p) = after (Name case_name) (λ r. pattern_tokens p (Word word.If ∷ r)) (λ a r. pattern_.parted p (Word word.If ∷ a) r)
front_parted (default x ps ds y) = λ a r. def_parted x ps ds (Name y ∷ Sign mark.Equal ∷ a) r

clause_parted : (e : Option Expr) (x : Option Text) → Parted (clause_part e x)
clause_parted None x = λ a r. refl
clause_parted (Some e) x = chain e (as_tokens x) (as_parted x)

guard_parted : (g : Option Expr) → Parted (guard_part g)
guard_parted None = λ a r. refl
guard_parted (Some e) = after (Word word.If) (tokens e) (parted e)

pub head_parted : (o : SuiteOf) → Parted (head o)
head_parted (an_arm no_arms t) = after (Word word.If) (tokens t) (parted t)
head_parted (an_arm (arm t' b arms) t) = after (Word word.Elif) (tokens t) (parted t)
head_parted (a_while t) = after (Word word.While) (tokens t) (parted t)
head_parted (a_for t e) = after (Word word.For) (λ r. tokens t (Word word.In ∷ tokens e r)) (both (λ r. tokens t (Word word.In ∷ r)) (tokens e) (then t (Word word.In)) (parted e))
head_parted a_try = λ a r. refl
head_parted (a_clause b cs e x) = after (Word word.Except) (clause_part e x) (clause_parted e x)
head_parted (an_else k) = λ a r. refl
head_parted (a_finally b cs o) = λ a r. refl
head_parted (a_def x ps ds c) = λ a r. ap (λ (y : List Kind). Word word.Def ∷ Name x ∷ Sign mark.LeftParen ∷ y) (params_parted ps ds c (Sign mark.RightParen ∷ a) r)
head_parted (a_case e last cs p g) = after (Name case_name) (λ r. pattern_tokens p (guard_part g r)) (both (pattern_tokens p) (guard_part g) (pattern_.parted p) (guard_parted g))

pub inner_parted : (p : Place) → Parted (inner p)
inner_parted (Reading p s) = both (front p) (read_.before s) (front_parted p) (read_parted s)
inner_parted (Matching e last cs s) = after (Name case_name) (pattern_read_.before s) (pattern_read_parted s)
inner_parted (Simple k) = λ a r. refl
inner_parted (Semicolon k) = λ a r. refl
inner_parted (Leaving raises) = λ a r. refl
inner_parted (NameWanted l) = listing_parted l
inner_parted (NameRead l x) = λ a r. listing_parted l (Name x ∷ a) r
inner_parted (BoundWanted l x) = λ a r. listing_parted l (Name x ∷ Word word.As ∷ a) r
inner_parted (BoundRead l) = λ a r. refl
inner_parted ModuleWanted = λ a r. refl
inner_parted (ImportWanted m) = λ a r. refl
inner_parted FunctionWanted = λ a r. refl
inner_parted (ParamsWanted x) = λ a r. refl
inner_parted (ParamWanted x ps ds) = def_parted x ps ds
inner_parted (ParamRead x ps ds y) = λ a r. def_parted x ps ds (Name y ∷ a) r
inner_parted (Except b cs) = λ a r. refl
inner_parted (ClauseBound b cs e) = after (Word word.Except) (λ r. tokens e (Word word.As ∷ r)) (then e (Word word.As))
inner_parted (ColonWanted o) = head_parted o
inner_parted (SuiteWanted o) = λ a r. head_parted o (Sign mark.Colon ∷ a) r
inner_parted (IndentWanted o) = λ a r. head_parted o (Sign mark.Colon ∷ Newline ∷ a) r
inner_parted (MatchLine e last) = then e (Sign mark.Colon)
inner_parted (MatchBlock e last) = λ a r. parted e (Sign mark.Colon ∷ Newline ∷ a) r

-- a token that begins no header
abbrev pub plain : Kind → Marked
plain t = record { kind = t; header = false }

-- one token more in a place
pub moves : (p : Place) (t : Kind) (r : List Marked) → put (inner p (t ∷ [])) r ≡ put (inner p []) (plain t ∷ r)
moves p t r = ap (λ (y : List Kind). put y r) (inner_parted p [] (t ∷ [])) ∙ put_append (inner p []) (t ∷ []) r
