-- What the machine has read is what its state stands for.
use Rattle.std.proofs.Common.{◌≡◌, Bool, true, false, cond, List, ◌∷◌, refl, ap, ◌∙◌}
use Rattle.py_operator.specs.declared.operator.BinOp.TheVariants as op_
use Rattle.py_operator.specs.declared.operator.CmpOp.TheVariants as cmp_
use Rattle.py_token.specs.declared.token.Keyword.TheVariants as word
use Rattle.py_token.specs.declared.token.Mark.TheVariants as mark
use Rattle.py_syntax.specs.declared.expr.Comparison.{Comparison}
use Rattle.py_syntax.specs.declared.expr.Comparison.TheVariants.{Op, Is, IsNot}
use Rattle.py_syntax.specs.declared.expr.Sign.TheVariants as sign_
use Rattle.py_syntax.specs.Tree.{Text, Expr, str, fstr, none, bool, tuple, not', and, unary, compare, Exprs, no_exprs, exprs, Pairs, no_pairs, pair, Links, no_links, link, Fragments, no_fragments, plain, format, Parts}
use Rattle.py_syntax.specs.Tree as tree_
use Rattle.py_syntax.specs.Kinds.{Kind, Name, Word, Int, Str, FString, Sign}
use Rattle.py_syntax.specs.Tokens.{comma_if, strings, bool_word, sign_mark, comparison, tokens, items, more, entries, more_entries, links, bound, fragments, pieces}
use Rattle.py_syntax.specs.Normal.{Precedence, LExprs, LExpr, LOr, LAnd, LNot, LCmp, LSum, LTerm, LUnary, LPost, is_target}
use Rattle.py_grammar.specs.TokenClasses.{BinaryOperator, b_or, b_and, b_op, TokenClass, t_name, t_int, t_none, t_bool, t_string, t_format, t_bad_format, t_not, t_is, t_if, t_else, t_compare, t_operator, t_comma, t_colon, t_dot, t_left_paren, t_right_paren, t_left_bracket, t_right_bracket, t_left_brace, t_right_brace, operator_precedence, operator_right, joined, operator_kind, begins, spelled}
use Rattle.py_grammar.specs.Machine.{at_most, same_precedence, snoc, snoc_pair, snoc_link, snoc_plain, snoc_format, has_format, texts, strings_of, Goal, any, one, target, targets, Opener, a_call, a_list, exprs_first, exprs_rest, cond_first, cond_test, cond_else, first, right, not_of, compare_first, compare_rest, unary_of, post_rest, in_items, index_first, in_index, slice_to, in_paren, in_key, in_value, Ctx, Outside, on, State, Want, Have, Strings, AfterOpen, AfterComma, AfterTarget, ItemsOpen, ItemsComma, DictOpen, DictComma, IndexOpen, SliceColon, AfterDot, AfterNot, AfterIs, AfterIsNot, Linked, Out, Next, Stuck, Left, upto_exprs, upto_cond, upto_or, upto_and, upto_compare, upto_sum, upto_term, begin, close_items, leave, give, step}
pub mod Valid
pub mod Keeps
pub mod Spelled

-- ---- what was read

abbrev pub opened : Opener → List Kind → List Kind
opened (a_call f) r = tokens f (Sign mark.LeftParen ∷ r)
opened a_list r = Sign mark.LeftBracket ∷ r

-- What was read since the outermost expression began, and then others.
abbrev pub before_ctx : Ctx → List Kind → List Kind
before_ctx (Outside (targets f es)) r = tokens f (more es true r)
before_ctx (Outside g) r = r
before_ctx (on exprs_first k) r = before_ctx k r
before_ctx (on (exprs_rest f es) k) r = before_ctx k (tokens f (more es true r))
before_ctx (on cond_first k) r = before_ctx k r
before_ctx (on (cond_test b) k) r = before_ctx k (tokens b (Word word.If ∷ r))
before_ctx (on (cond_else b c) k) r = before_ctx k (tokens b (Word word.If ∷ tokens c (Word word.Else ∷ r)))
before_ctx (on (first l) k) r = before_ctx k r
before_ctx (on (right j a) k) r = before_ctx k (tokens a (operator_kind j ∷ r))
before_ctx (on not_of k) r = before_ctx k (Word word.Not ∷ r)
before_ctx (on compare_first k) r = before_ctx k r
before_ctx (on (compare_rest a ls op) k) r = before_ctx k (tokens a (links ls (comparison (Op op) r)))
before_ctx (on (unary_of s) k) r = before_ctx k (Sign (sign_mark s) ∷ r)
before_ctx (on post_rest k) r = before_ctx k r
before_ctx (on (in_items o es) k) r = before_ctx k (opened o (items es true r))
before_ctx (on (index_first f) k) r = before_ctx k (tokens f (Sign mark.LeftBracket ∷ r))
before_ctx (on (in_index f) k) r = before_ctx k (tokens f (Sign mark.LeftBracket ∷ r))
before_ctx (on (slice_to f from) k) r = before_ctx k (tokens f (Sign mark.LeftBracket ∷ bound from (Sign mark.Colon ∷ r)))
before_ctx (on in_paren k) r = before_ctx k (Sign mark.LeftParen ∷ r)
before_ctx (on (in_key ps) k) r = before_ctx k (Sign mark.LeftBrace ∷ entries ps true r)
before_ctx (on (in_value ps key) k) r = before_ctx k (Sign mark.LeftBrace ∷ entries ps true (tokens key (Sign mark.Colon ∷ r)))

abbrev pub before : State → List Kind → List Kind
before (Want lev k) r = before_ctx k r
before (Have e k) r = before_ctx k (tokens e r)
before (Strings fs k) r = before_ctx k (fragments fs r)
before (AfterOpen k) r = before_ctx k (Sign mark.LeftParen ∷ r)
before (AfterComma f es k) r = before_ctx k (tokens f (more es true r))
before (AfterTarget f es) r = tokens f (more es true r)
before (ItemsOpen o k) r = before_ctx k (opened o r)
before (ItemsComma o es k) r = before_ctx k (opened o (items es true r))
before (DictOpen k) r = before_ctx k (Sign mark.LeftBrace ∷ r)
before (DictComma ps k) r = before_ctx k (Sign mark.LeftBrace ∷ entries ps true r)
before (IndexOpen f k) r = before_ctx k (tokens f (Sign mark.LeftBracket ∷ r))
before (SliceColon f from k) r = before_ctx k (tokens f (Sign mark.LeftBracket ∷ bound from (Sign mark.Colon ∷ r)))
before (AfterDot f k) r = before_ctx k (tokens f (Sign mark.Dot ∷ r))
before (AfterNot a ls k) r = before_ctx k (tokens a (links ls (Word word.Not ∷ r)))
before (AfterIs a ls k) r = before_ctx k (tokens a (links ls (Word word.Is ∷ r)))
before (AfterIsNot a ls k) r = before_ctx k (tokens a (links ls (Word word.Is ∷ Word word.Not ∷ r)))
before (Linked a ls k) r = before_ctx k (tokens a (links ls r))

-- ---- one more at the end

more_snoc : (es : Exprs) (e : Expr) (c : Bool) (r : List Kind) → more (snoc es e) c r ≡ more es true (tokens e (comma_if c r))
more_snoc no_exprs e c r = refl
more_snoc (exprs f es) e c r = ap (λ (x : List Kind). Sign mark.Comma ∷ tokens f x) (more_snoc es e c r)

items_snoc : (es : Exprs) (e : Expr) (c : Bool) (r : List Kind) → items (snoc es e) c r ≡ items es true (tokens e (comma_if c r))
items_snoc no_exprs e c r = refl
items_snoc (exprs f es) e c r = ap (tokens f) (more_snoc es e c r)

more_entries_snoc : (ps : Pairs) (k v : Expr) (c : Bool) (r : List Kind) → more_entries (snoc_pair ps k v) c r ≡ more_entries ps true (tokens k (Sign mark.Colon ∷ tokens v (comma_if c r)))
more_entries_snoc no_pairs k v c r = refl
more_entries_snoc (pair k' v' ps) k v c r = ap (λ (x : List Kind). Sign mark.Comma ∷ tokens k' (Sign mark.Colon ∷ tokens v' x)) (more_entries_snoc ps k v c r)

entries_snoc : (ps : Pairs) (k v : Expr) (c : Bool) (r : List Kind) → entries (snoc_pair ps k v) c r ≡ entries ps true (tokens k (Sign mark.Colon ∷ tokens v (comma_if c r)))
entries_snoc no_pairs k v c r = refl
entries_snoc (pair k' v' ps) k v c r = ap (λ (x : List Kind). tokens k' (Sign mark.Colon ∷ tokens v' x)) (more_entries_snoc ps k v c r)

links_snoc : (ls : Links) (op : Comparison) (e : Expr) (r : List Kind) → links (snoc_link ls op e) r ≡ links ls (comparison op (tokens e r))
links_snoc no_links op e r = refl
links_snoc (link op' e' ls) op e r = ap (λ (x : List Kind). comparison op' (tokens e' x)) (links_snoc ls op e r)

plain_snoc : (fs : Fragments) (x : Text) (r : List Kind) → fragments (snoc_plain fs x) r ≡ fragments fs (Str x ∷ r)
plain_snoc no_fragments x r = refl
plain_snoc (plain y fs) x r = ap (λ (z : List Kind). Str y ∷ z) (plain_snoc fs x r)
plain_snoc (format ps fs) x r = ap (λ (z : List Kind). FString (pieces ps) ∷ z) (plain_snoc fs x r)

format_snoc : (fs : Fragments) (qs : Parts) (r : List Kind) → fragments (snoc_format fs qs) r ≡ fragments fs (FString (pieces qs) ∷ r)
format_snoc no_fragments qs r = refl
format_snoc (plain y fs) qs r = ap (λ (z : List Kind). Str y ∷ z) (format_snoc fs qs r)
format_snoc (format ps fs) qs r = ap (λ (z : List Kind). FString (pieces ps) ∷ z) (format_snoc fs qs r)

texts_spelled : (fs : Fragments) (r : List Kind) → has_format fs ≡ false → strings (texts fs) r ≡ fragments fs r
texts_spelled no_fragments r h = refl
texts_spelled (plain x fs) r h = ap (λ (z : List Kind). Str x ∷ z) (texts_spelled fs r h)
texts_spelled (format ps fs) r h = absurd cc

pub strings_spelled : (fs : Fragments) (r : List Kind) → tokens (strings_of fs) r ≡ fragments fs r
strings_spelled fs r = go (has_format fs) refl
  where
    go : (b : Bool) → has_format fs ≡ b → tokens (cond b (fstr fs) (str (texts fs))) r ≡ fragments fs r
    go true is = refl
    go false is = texts_spelled fs r is

pub joined_spelled : (j : BinaryOperator) (a b : Expr) (r : List Kind) → tokens (joined j a b) r ≡ tokens a (operator_kind j ∷ tokens b r)
joined_spelled b_or a b r = refl
joined_spelled b_and a b r = refl
joined_spelled (b_op op) a b r = refl

made_spelled : (o : Opener) (es : Exprs) (e : Expr) (c : Bool) (r : List Kind) → opened o (items (snoc es e) c r) ≡ opened o (items es true (tokens e (comma_if c r)))
made_spelled o es e c r = ap (opened o) (items_snoc es e c r)

-- ---- what a step does to what was read: of a state, the tokens and then others

abbrev pub Reads : TokenClass → (List Kind → List Kind) → Out → Type 0
Reads t all (Next s) = (r : List Kind) → before s r ≡ all (spelled t r)
Reads t all Stuck = Unit {0}
Reads t all (Left e) = (r : List Kind) → tokens e r ≡ all r

reads_as : (t : TokenClass) (b c : List Kind → List Kind) → ((r : List Kind) → b r ≡ c r) → (o : Out) → Reads t b o → Reads t c o
reads_as t b c same (Next s) h = λ r. h r ∙ same (spelled t r)
reads_as t b c same Stuck h = tt
reads_as t b c same (Left e) h = λ r. h r ∙ same r

leave_reads : (e : Expr) (g : Goal) (t : TokenClass) → Reads t (λ r. before_ctx (Outside g) (tokens e r)) (leave e g t)
leave_reads e any t = λ r. refl
leave_reads e one t = λ r. refl
leave_reads e target t_comma = go (is_target e)
  where
    go : (b : Bool) → Reads t_comma (tokens e) (cond b (Next (AfterTarget e no_exprs)) Stuck)
    go true = λ r. refl
    go false = tt
leave_reads e target t = go (is_target e)
  where
    go : (b : Bool) → Reads t (tokens e) (cond b (Left e) Stuck)
    go true = λ r. refl
    go false = tt
leave_reads e (targets f es) t_comma = go (is_target e)
  where
    go : (b : Bool) → Reads t_comma (λ r. tokens f (more es true (tokens e r))) (cond b (Next (AfterTarget f (snoc es e))) Stuck)
    go true = λ r. ap (tokens f) (more_snoc es e true r)
    go false = tt
leave_reads e (targets f es) t = go (is_target e)
  where
    go : (b : Bool) → Reads t (λ r. tokens f (more es true (tokens e r))) (cond b (Left (tuple (exprs f (snoc es e)) false)) Stuck)
    go true = λ r. ap (tokens f) (more_snoc es e false r)
    go false = tt

close_reads : (o : Opener) (es : Exprs) (c : Bool) (k : Ctx) (t : TokenClass) (other : Out) → Reads t (λ r. before_ctx k (opened o (items es c r))) other → Reads t (λ r. before_ctx k (opened o (items es c r))) (close_items o es c k t other)
close_reads (a_call f) es c k t_right_paren other h = λ r. refl
close_reads a_list es c k t_right_bracket other h = λ r. refl
close_reads o es c k t other h = h

pub give_reads : (e : Expr) (k : Ctx) (t : TokenClass) → Reads t (λ r. before_ctx k (tokens e r)) (give e k t)
give_reads e (Outside g) t = leave_reads e g t
give_reads e (on exprs_first k) t_comma = λ r. refl
give_reads e (on exprs_first k) t = give_reads e k t
give_reads e (on (exprs_rest f es) k) t_comma = λ r. ap (λ (x : List Kind). before_ctx k (tokens f x)) (more_snoc es e true r)
give_reads e (on (exprs_rest f es) k) t = reads_as t (λ r. before_ctx k (tokens (tuple (exprs f (snoc es e)) false) r)) (λ r. before_ctx k (tokens f (more es true (tokens e r)))) (λ r. ap (λ (x : List Kind). before_ctx k (tokens f x)) (more_snoc es e false r)) (give (tuple (exprs f (snoc es e)) false) k t) (give_reads (tuple (exprs f (snoc es e)) false) k t)
give_reads e (on cond_first k) t_if = λ r. refl
give_reads e (on cond_first k) t = give_reads e k t
give_reads e (on (cond_test b) k) t_else = λ r. refl
give_reads e (on (cond_test b) k) t = tt
give_reads e (on (cond_else b c) k) t = give_reads (tree_.cond b c e) k t
give_reads e (on (first l) k) (t_operator j) = go (same_precedence l (operator_precedence j)) (give_reads e k (t_operator j))
  where
    go : (b : Bool) → Reads (t_operator j) (λ r. before_ctx k (tokens e r)) (give e k (t_operator j)) → Reads (t_operator j) (λ r. before_ctx k (tokens e r)) (cond b (Next (Want (operator_right j) (on (right j e) k))) (give e k (t_operator j)))
    go true h = λ r. refl
    go false h = h
give_reads e (on (first l) k) t = give_reads e k t
give_reads e (on (right i a) k) (t_operator j) = go (same_precedence (operator_precedence i) (operator_precedence j)) (give_reads (joined i a e) k (t_operator j))
  where
    spell : (r : List Kind) → before_ctx k (tokens (joined i a e) r) ≡ before_ctx k (tokens a (operator_kind i ∷ tokens e r))
    spell r = ap (before_ctx k) (joined_spelled i a e r)

    go : (b : Bool) → Reads (t_operator j) (λ r. before_ctx k (tokens (joined i a e) r)) (give (joined i a e) k (t_operator j)) → Reads (t_operator j) (λ r. before_ctx k (tokens a (operator_kind i ∷ tokens e r))) (cond b (Next (Want (operator_right j) (on (right j (joined i a e)) k))) (give (joined i a e) k (t_operator j)))
    go true h = λ r. spell (operator_kind j ∷ r)
    go false h = reads_as (t_operator j) (λ r. before_ctx k (tokens (joined i a e) r)) (λ r. before_ctx k (tokens a (operator_kind i ∷ tokens e r))) spell (give (joined i a e) k (t_operator j)) h
give_reads e (on (right i a) k) t = reads_as t (λ r. before_ctx k (tokens (joined i a e) r)) (λ r. before_ctx k (tokens a (operator_kind i ∷ tokens e r))) (λ r. ap (before_ctx k) (joined_spelled i a e r)) (give (joined i a e) k t) (give_reads (joined i a e) k t)
give_reads e (on not_of k) t = give_reads (not' e) k t
give_reads e (on compare_first k) (t_compare op) = λ r. refl
give_reads e (on compare_first k) t_not = λ r. refl
give_reads e (on compare_first k) t_is = λ r. refl
give_reads e (on compare_first k) t = give_reads e k t
give_reads e (on (compare_rest a ls p) k) (t_compare op) = λ r. ap (λ (x : List Kind). before_ctx k (tokens a x)) (links_snoc ls (Op p) e (comparison (Op op) r))
give_reads e (on (compare_rest a ls p) k) t_not = λ r. ap (λ (x : List Kind). before_ctx k (tokens a x)) (links_snoc ls (Op p) e (Word word.Not ∷ r))
give_reads e (on (compare_rest a ls p) k) t_is = λ r. ap (λ (x : List Kind). before_ctx k (tokens a x)) (links_snoc ls (Op p) e (Word word.Is ∷ r))
give_reads e (on (compare_rest a ls p) k) t = reads_as t (λ r. before_ctx k (tokens (compare a (snoc_link ls (Op p) e)) r)) (λ r. before_ctx k (tokens a (links ls (comparison (Op p) (tokens e r))))) (λ r. ap (λ (x : List Kind). before_ctx k (tokens a x)) (links_snoc ls (Op p) e r)) (give (compare a (snoc_link ls (Op p) e)) k t) (give_reads (compare a (snoc_link ls (Op p) e)) k t)
give_reads e (on (unary_of s) k) t = give_reads (unary s e) k t
give_reads e (on post_rest k) t_left_paren = λ r. refl
give_reads e (on post_rest k) t_left_bracket = λ r. refl
give_reads e (on post_rest k) t_dot = λ r. refl
give_reads e (on post_rest k) t = give_reads e k t
give_reads e (on (in_items o es) k) t_comma = λ r. ap (before_ctx k) (made_spelled o es e true r)
give_reads e (on (in_items o es) k) t = reads_as t (λ r. before_ctx k (opened o (items (snoc es e) false r))) (λ r. before_ctx k (opened o (items es true (tokens e r)))) (λ r. ap (before_ctx k) (made_spelled o es e false r)) (close_items o (snoc es e) false k t Stuck) (close_reads o (snoc es e) false k t Stuck tt)
give_reads e (on (index_first f) k) t_comma = λ r. refl
give_reads e (on (index_first f) k) t_colon = λ r. refl
give_reads e (on (index_first f) k) t_right_bracket = λ r. refl
give_reads e (on (index_first f) k) t = tt
give_reads e (on (in_index f) k) t_right_bracket = λ r. refl
give_reads e (on (in_index f) k) t = tt
give_reads e (on (slice_to f from) k) t_right_bracket = λ r. refl
give_reads e (on (slice_to f from) k) t = tt
give_reads e (on in_paren k) t_right_paren = λ r. refl
give_reads e (on in_paren k) t = tt
give_reads e (on (in_key ps) k) t_colon = λ r. refl
give_reads e (on (in_key ps) k) t = tt
give_reads e (on (in_value ps key) k) t_comma = λ r. ap (λ (x : List Kind). before_ctx k (Sign mark.LeftBrace ∷ x)) (entries_snoc ps key e true r)
give_reads e (on (in_value ps key) k) t_right_brace = λ r. ap (λ (x : List Kind). before_ctx k (Sign mark.LeftBrace ∷ x)) (entries_snoc ps key e false (Sign mark.RightBrace ∷ r))
give_reads e (on (in_value ps key) k) t = tt

-- ---- the frames that are pushed stand for nothing

exprs_read : (lev : Precedence) (k : Ctx) (r : List Kind) → before_ctx (upto_exprs lev k) r ≡ before_ctx k r
exprs_read lev k r = elim (at_most lev LExprs) as (λ b. before_ctx (cond b (on exprs_first k) k) r ≡ before_ctx k r) [ true ↦ refl | false ↦ refl ]

cond_read : (lev : Precedence) (k : Ctx) (r : List Kind) → before_ctx (upto_cond lev k) r ≡ before_ctx k r
cond_read lev k r = elim (at_most lev LExpr) as (λ b. before_ctx (cond b (on cond_first (upto_exprs lev k)) k) r ≡ before_ctx k r) [ true ↦ exprs_read lev k r | false ↦ refl ]

or_read : (lev : Precedence) (k : Ctx) (r : List Kind) → before_ctx (upto_or lev k) r ≡ before_ctx k r
or_read lev k r = elim (at_most lev LOr) as (λ b. before_ctx (cond b (on (first LOr) (upto_cond lev k)) k) r ≡ before_ctx k r) [ true ↦ cond_read lev k r | false ↦ refl ]

and_read : (lev : Precedence) (k : Ctx) (r : List Kind) → before_ctx (upto_and lev k) r ≡ before_ctx k r
and_read lev k r = elim (at_most lev LAnd) as (λ b. before_ctx (cond b (on (first LAnd) (upto_or lev k)) k) r ≡ before_ctx k r) [ true ↦ or_read lev k r | false ↦ refl ]

compare_read : (lev : Precedence) (k : Ctx) (r : List Kind) → before_ctx (upto_compare lev k) r ≡ before_ctx k r
compare_read lev k r = elim (at_most lev LCmp) as (λ b. before_ctx (cond b (on compare_first (upto_and lev k)) k) r ≡ before_ctx k r) [ true ↦ and_read lev k r | false ↦ refl ]

sum_read : (lev : Precedence) (k : Ctx) (r : List Kind) → before_ctx (upto_sum lev k) r ≡ before_ctx k r
sum_read lev k r = elim (at_most lev LSum) as (λ b. before_ctx (cond b (on (first LSum) (upto_compare lev k)) k) r ≡ before_ctx k r) [ true ↦ compare_read lev k r | false ↦ refl ]

term_read : (lev : Precedence) (k : Ctx) (r : List Kind) → before_ctx (upto_term lev k) r ≡ before_ctx k r
term_read lev k r = elim (at_most lev LTerm) as (λ b. before_ctx (cond b (on (first LTerm) (upto_sum lev k)) k) r ≡ before_ctx k r) [ true ↦ sum_read lev k r | false ↦ refl ]

not_read : (lev : Precedence) (k : Ctx) (b : Bool) → Reads t_not (before_ctx k) (cond b (Next (Want LNot (on not_of (upto_and lev k)))) Stuck)
not_read lev k true = λ r. and_read lev k (Word word.Not ∷ r)
not_read lev k false = tt

plus_read : (lev : Precedence) (k : Ctx) (b : Bool) → Reads (t_operator (b_op op_.Add)) (before_ctx k) (cond b (Next (Want LUnary (on (unary_of sign_.Plus) (upto_term lev k)))) Stuck)
plus_read lev k true = λ r. term_read lev k (Sign mark.Plus ∷ r)
plus_read lev k false = tt

minus_read : (lev : Precedence) (k : Ctx) (b : Bool) → Reads (t_operator (b_op op_.Sub)) (before_ctx k) (cond b (Next (Want LUnary (on (unary_of sign_.Minus) (upto_term lev k)))) Stuck)
minus_read lev k true = λ r. term_read lev k (Sign mark.Minus ∷ r)
minus_read lev k false = tt

pub begin_reads : (lev : Precedence) (k : Ctx) (t : TokenClass) → Reads t (before_ctx k) (begin lev k t)
begin_reads lev k (t_name x) = λ r. term_read lev k (Name x ∷ r)
begin_reads lev k (t_int n) = λ r. term_read lev k (Int n ∷ r)
begin_reads lev k t_none = λ r. term_read lev k (Word word.None ∷ r)
begin_reads lev k (t_bool b) = λ r. term_read lev k (bool_word b ∷ r)
begin_reads lev k (t_string x) = λ r. term_read lev k (Str x ∷ r)
begin_reads lev k (t_format ps) = λ r. term_read lev k (FString (pieces ps) ∷ r)
begin_reads lev k t_not = not_read lev k (at_most lev LNot)
begin_reads lev k (t_operator (b_op op_.Add)) = plus_read lev k (at_most lev LUnary)
begin_reads lev k (t_operator (b_op op_.Sub)) = minus_read lev k (at_most lev LUnary)
begin_reads lev k t_left_paren = λ r. term_read lev k (Sign mark.LeftParen ∷ r)
begin_reads lev k t_left_bracket = λ r. term_read lev k (Sign mark.LeftBracket ∷ r)
begin_reads lev k t_left_brace = λ r. term_read lev k (Sign mark.LeftBrace ∷ r)
begin_reads lev k t = tt

given_strings : (fs : Fragments) (k : Ctx) (t : TokenClass) → Reads t (λ r. before_ctx k (fragments fs r)) (give (strings_of fs) k t)
given_strings fs k t = reads_as t (λ r. before_ctx k (tokens (strings_of fs) r)) (λ r. before_ctx k (fragments fs r)) (λ r. ap (before_ctx k) (strings_spelled fs r)) (give (strings_of fs) k t) (give_reads (strings_of fs) k t)

pub step_reads : (s : State) (t : TokenClass) → Reads t (before s) (step s t)
step_reads (Want lev k) t = begin_reads lev k t
step_reads (Have e k) t = give_reads e k t
step_reads (Strings fs k) (t_string x) = λ r. ap (before_ctx k) (plain_snoc fs x r)
step_reads (Strings fs k) (t_format ps) = λ r. ap (before_ctx k) (format_snoc fs ps r)
step_reads (Strings fs k) (t_bad_format ps) = tt
step_reads (Strings fs k) t = given_strings fs k t
step_reads (AfterOpen k) t_right_paren = λ r. refl
step_reads (AfterOpen k) t = begin_reads LExprs (on in_paren k) t
step_reads (AfterComma f es k) t = go (begins t)
  where
    go : (b : Bool) → Reads t (λ r. before_ctx k (tokens f (more es true r))) (cond b (begin LExpr (on (exprs_rest f es) k) t) (give (tuple (exprs f es) true) k t))
    go true = begin_reads LExpr (on (exprs_rest f es) k) t
    go false = give_reads (tuple (exprs f es) true) k t
step_reads (AfterTarget f es) t = go (begins t)
  where
    go : (b : Bool) → Reads t (λ r. tokens f (more es true r)) (cond b (begin LPost (Outside (targets f es)) t) (Left (tuple (exprs f es) true)))
    go true = begin_reads LPost (Outside (targets f es)) t
    go false = λ r. refl
step_reads (ItemsOpen o k) t = close_reads o no_exprs false k t (begin LExpr (on (in_items o no_exprs) k) t) (begin_reads LExpr (on (in_items o no_exprs) k) t)
step_reads (ItemsComma o es k) t = close_reads o es true k t (begin LExpr (on (in_items o es) k) t) (begin_reads LExpr (on (in_items o es) k) t)
step_reads (DictOpen k) t_right_brace = λ r. refl
step_reads (DictOpen k) t = begin_reads LExpr (on (in_key no_pairs) k) t
step_reads (DictComma ps k) t_right_brace = λ r. refl
step_reads (DictComma ps k) t = begin_reads LExpr (on (in_key ps) k) t
step_reads (IndexOpen f k) t_colon = λ r. refl
step_reads (IndexOpen f k) t = begin_reads LExpr (on (index_first f) k) t
step_reads (SliceColon f from k) t_right_bracket = λ r. refl
step_reads (SliceColon f from k) t = begin_reads LExpr (on (slice_to f from) k) t
step_reads (AfterDot f k) (t_name x) = λ r. refl
step_reads (AfterDot f k) t = tt
step_reads (AfterNot a ls k) (t_compare cmp_.In) = λ r. refl
step_reads (AfterNot a ls k) t = tt
step_reads (AfterIs a ls k) t_not = λ r. refl
step_reads (AfterIs a ls k) t_none = λ r. ap (λ (x : List Kind). before_ctx k (tokens a x)) (links_snoc ls Is none r)
step_reads (AfterIs a ls k) (t_bool b) = λ r. ap (λ (x : List Kind). before_ctx k (tokens a x)) (links_snoc ls Is (bool b) r)
step_reads (AfterIs a ls k) t = tt
step_reads (AfterIsNot a ls k) t_none = λ r. ap (λ (x : List Kind). before_ctx k (tokens a x)) (links_snoc ls IsNot none r)
step_reads (AfterIsNot a ls k) (t_bool b) = λ r. ap (λ (x : List Kind). before_ctx k (tokens a x)) (links_snoc ls IsNot (bool b) r)
step_reads (AfterIsNot a ls k) t = tt
step_reads (Linked a ls k) (t_compare op) = λ r. refl
step_reads (Linked a ls k) t_not = λ r. refl
step_reads (Linked a ls k) t_is = λ r. refl
step_reads (Linked a ls k) t = give_reads (compare a ls) k t
