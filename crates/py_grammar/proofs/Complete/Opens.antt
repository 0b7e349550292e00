-- The tokens of an expression: its first begins an expression, and others may be appended.
use Rattle.std.proofs.Common.{◌≡◌, Bool, true, false, cond, List, [], ◌∷◌, ◌++◌, Option, Some, None, refl, sym, ap, ◌∙◌}
use Rattle.py_operator.specs.declared.operator.CmpOp.TheVariants as cmp_
use Rattle.py_token.specs.declared.token.Keyword.TheVariants as word
use Rattle.py_token.specs.declared.token.Mark.TheVariants as mark
use Rattle.py_syntax.specs.declared.expr.Comparison.{Comparison}
use Rattle.py_syntax.specs.declared.expr.Comparison.TheVariants.{Op, Is, IsNot}
use Rattle.py_syntax.specs.declared.expr.Sign.{Sign as UnarySign}
use Rattle.py_syntax.specs.declared.expr.Sign.TheVariants as sign_
use Rattle.py_syntax.specs.Tree.{Text, Expr, name, int, str, fstr, none, bool, tuple, list, dict, paren, not', and, or, unary, binary, compare, call, index, slice, attr, Exprs, no_exprs, exprs, Pairs, no_pairs, pair, Links, no_links, link, OptExpr, absent, present, Fragments, no_fragments, plain, format, Parts, field}
use Rattle.py_syntax.specs.Tree as tree_
use Rattle.py_syntax.specs.Kinds.{Kind, Name, Word, Int, Str, FString, Sign, End, Pieces, kinds_of}
use Rattle.py_syntax.specs.Tokens.{comma_if, strings, bool_word, operator, sign_mark, comparison, tokens, items, more, entries, more_entries, links, bound, fragments, pieces}
use Rattle.py_syntax.specs.Normal.{LExprs, LExpr, LPost, HasFormat, IsSomething, Normal}
use Rattle.py_grammar.specs.TokenClasses.{TokenClass, t_colon, t_right_paren, t_right_bracket, t_right_brace, t_other, begins}
use Rattle.py_grammar.specs.Machine.{targets, Opener, a_call, a_list, exprs_rest, in_items, index_first, slice_to, in_paren, in_key, Ctx, Outside, on, State, Want, AfterOpen, AfterComma, AfterTarget, ItemsOpen, ItemsComma, DictOpen, DictComma, IndexOpen, SliceColon, Out, Next, Stuck, Left, begin, close_items, give, step, format_class, class, parts, field_expr, Leaves, run}
use Rattle.py_grammar.proofs.Sound.Spelled.{outcome, field_after, ended_by}
use Rattle.py_grammar.proofs.Complete.Passes.{alike}

-- the first token of a list, and whether it may begin an expression
abbrev pub Opens : List Kind → Type 0
Opens ts = (h : Kind) × (rest : List Kind) × (ts ≡ h ∷ rest) × (begins (class h) ≡ true)

format_begins : (ps : Pieces) (o : Option Parts) → begins (format_class ps o) ≡ true
format_begins ps None = refl
format_begins ps (Some qs) = refl

strings_open : (xs : List Text) (r : List Kind) → IsSomething xs → Opens (strings xs r)
strings_open [] r h = absurd h
strings_open (x ∷ xs) r h = (Str x, strings xs r, refl, refl)

fragments_open : (fs : Fragments) (r : List Kind) → HasFormat fs → Opens (fragments fs r)
fragments_open no_fragments r h = absurd h
fragments_open (plain x fs) r h = (Str x, fragments fs r, refl, refl)
fragments_open (format ps fs) r h = (FString (pieces ps), fragments fs r, refl, format_begins (pieces ps) (parts (pieces ps)))

bool_opens : (b : Bool) (r : List Kind) → Opens (bool_word b ∷ r)
bool_opens true r = (Word word.True, r, refl, refl)
bool_opens false r = (Word word.False, r, refl, refl)

sign_opens : (s : UnarySign) (r : List Kind) → Opens (Sign (sign_mark s) ∷ r)
sign_opens sign_.Minus r = (Sign mark.Minus, r, refl, refl)
sign_opens sign_.Plus r = (Sign mark.Plus, r, refl, refl)

pub opens : (e : Expr) (r : List Kind) → Normal e → Opens (tokens e r)
opens (name x) r n = (Name x, r, refl, refl)
opens (int x) r n = (Int x, r, refl, refl)
opens (str ps) r n = strings_open ps r n
opens (fstr fs) r n = fragments_open fs r n.0
opens none r n = (Word word.None, r, refl, refl)
opens (bool b) r n = bool_opens b r
opens (tuple no_exprs c) r n = (Sign mark.LeftParen, Sign mark.RightParen ∷ r, refl, refl)
opens (tuple (exprs e no_exprs) c) r n = opens e (more no_exprs c r) n.1
opens (tuple (exprs e (exprs f es)) c) r n = opens e (more (exprs f es) c r) n.1
opens (list es c) r n = (Sign mark.LeftBracket, items es c (Sign mark.RightBracket ∷ r), refl, refl)
opens (dict ps c) r n = (Sign mark.LeftBrace, entries ps c (Sign mark.RightBrace ∷ r), refl, refl)
opens (paren e) r n = (Sign mark.LeftParen, tokens e (Sign mark.RightParen ∷ r), refl, refl)
opens (not' e) r n = (Word word.Not, tokens e r, refl, refl)
opens (and a b) r n = opens a (Word word.And ∷ tokens b r) n.1
opens (or a b) r n = opens a (Word word.Or ∷ tokens b r) n.1
opens (unary s e) r n = sign_opens s (tokens e r)
opens (binary op a b) r n = opens a (Sign (operator op) ∷ tokens b r) n.1
opens (compare a no_links) r n = absurd n
opens (compare a (link op e ls)) r n = opens a (links (link op e ls) r) n.1
opens (tree_.cond b t o) r n = opens b (Word word.If ∷ tokens t (Word word.Else ∷ tokens o r)) n.1
opens (call f es c) r n = opens f (Sign mark.LeftParen ∷ items es c (Sign mark.RightParen ∷ r)) n.1
opens (index f e) r n = opens f (Sign mark.LeftBracket ∷ tokens e (Sign mark.RightBracket ∷ r)) n.1
opens (slice f from to) r n = opens f (Sign mark.LeftBracket ∷ bound from (Sign mark.Colon ∷ bound to (Sign mark.RightBracket ∷ r))) n.1
opens (attr f x) r n = opens f (Sign mark.Dot ∷ Name x ∷ r) n.1

-- states that step alike where an expression begins
pub begin_alike : (s u : State) (e : Expr) (r : List Kind) → Normal e → ((t : TokenClass) → begins t ≡ true → step s t ≡ step u t) → run s (tokens e r) ≡ run u (tokens e r)
begin_alike s u e r n same =
    let o = opens e r n in
    alike s u (tokens e r) (λ t ts is. let head : o.0 ≡ t = cc in same (class t) (sym (ap (λ (x : Kind). begins (class x)) head) ∙ o.3))

pub after_open : (k : Ctx) (t : TokenClass) → begins t ≡ true → step (AfterOpen k) t ≡ step (Want LExprs (on in_paren k)) t
after_open k t_right_paren b = absurd cc
after_open k t b = refl

pub after_comma : (f : Expr) (es : Exprs) (k : Ctx) (t : TokenClass) → begins t ≡ true → step (AfterComma f es k) t ≡ step (Want LExpr (on (exprs_rest f es) k)) t
after_comma f es k t b = ap (λ (c : Bool). cond c (begin LExpr (on (exprs_rest f es) k) t) (give (tuple (exprs f es) true) k t)) b

pub after_target : (f : Expr) (es : Exprs) (t : TokenClass) → begins t ≡ true → step (AfterTarget f es) t ≡ step (Want LPost (Outside (targets f es))) t
after_target f es t b = ap (λ (c : Bool). cond c (begin LPost (Outside (targets f es)) t) (Left (tuple (exprs f es) true))) b

not_closed : (o : Opener) (es : Exprs) (c : Bool) (k : Ctx) (t : TokenClass) (other : Out) → begins t ≡ true → close_items o es c k t other ≡ other
not_closed (a_call f) es c k t_right_paren other b = absurd cc
not_closed a_list es c k t_right_bracket other b = absurd cc
not_closed o es c k t other b = refl

pub items_open : (o : Opener) (k : Ctx) (t : TokenClass) → begins t ≡ true → step (ItemsOpen o k) t ≡ step (Want LExpr (on (in_items o no_exprs) k)) t
items_open o k t b = not_closed o no_exprs false k t (begin LExpr (on (in_items o no_exprs) k) t) b

pub items_comma : (o : Opener) (es : Exprs) (k : Ctx) (t : TokenClass) → begins t ≡ true → step (ItemsComma o es k) t ≡ step (Want LExpr (on (in_items o es) k)) t
items_comma o es k t b = not_closed o es true k t (begin LExpr (on (in_items o es) k) t) b

pub dict_open : (k : Ctx) (t : TokenClass) → begins t ≡ true → step (DictOpen k) t ≡ step (Want LExpr (on (in_key no_pairs) k)) t
dict_open k t_right_brace b = absurd cc
dict_open k t b = refl

pub dict_comma : (ps : Pairs) (k : Ctx) (t : TokenClass) → begins t ≡ true → step (DictComma ps k) t ≡ step (Want LExpr (on (in_key ps) k)) t
dict_comma ps k t_right_brace b = absurd cc
dict_comma ps k t b = refl

pub index_open : (f : Expr) (k : Ctx) (t : TokenClass) → begins t ≡ true → step (IndexOpen f k) t ≡ step (Want LExpr (on (index_first f) k)) t
index_open f k t_colon b = absurd cc
index_open f k t b = refl

pub slice_colon : (f : Expr) (from : OptExpr) (k : Ctx) (t : TokenClass) → begins t ≡ true → step (SliceColon f from k) t ≡ step (Want LExpr (on (slice_to f from) k)) t
slice_colon f from k t_right_bracket b = absurd cc
slice_colon f from k t b = refl

-- ---- appending

comma_append : (c : Bool) (a r : List Kind) → comma_if c (a ++ r) ≡ comma_if c a ++ r
comma_append true a r = refl
comma_append false a r = refl

comparison_append : (op : Comparison) (a r : List Kind) → comparison op (a ++ r) ≡ comparison op a ++ r
comparison_append (Op cmp_.Eq) a r = refl
comparison_append (Op p) a r = refl
comparison_append Is a r = refl
comparison_append IsNot a r = refl

strings_append : (xs : List Text) (a r : List Kind) → strings xs (a ++ r) ≡ strings xs a ++ r
strings_append [] a r = refl
strings_append (x ∷ xs) a r = ap (λ (z : List Kind). Str x ∷ z) (strings_append xs a r)

fragments_append : (fs : Fragments) (a r : List Kind) → fragments fs (a ++ r) ≡ fragments fs a ++ r
fragments_append no_fragments a r = refl
fragments_append (plain x fs) a r = ap (λ (z : List Kind). Str x ∷ z) (fragments_append fs a r)
fragments_append (format ps fs) a r = ap (λ (z : List Kind). FString (pieces ps) ∷ z) (fragments_append fs a r)

-- the tokens of a tree, and then others, are the tokens of the tree ++ the others
mutual
  pub tokens_append : (e : Expr) (a r : List Kind) → tokens e (a ++ r) ≡ tokens e a ++ r
  tokens_append (name x) a r = refl
  tokens_append (int n) a r = refl
  tokens_append (str ps) a r = strings_append ps a r
  tokens_append (fstr fs) a r = fragments_append fs a r
  tokens_append none a r = refl
  tokens_append (bool b) a r = refl
  tokens_append (tuple no_exprs c) a r = refl
  tokens_append (tuple (exprs e es) c) a r = ap (tokens e) (more_append es c a r) ∙ tokens_append e (more es c a) r
  tokens_append (list es c) a r = ap (λ (z : List Kind). Sign mark.LeftBracket ∷ z) (items_append es c (Sign mark.RightBracket ∷ a) r)
  tokens_append (dict ps c) a r = ap (λ (z : List Kind). Sign mark.LeftBrace ∷ z) (entries_append ps c (Sign mark.RightBrace ∷ a) r)
  tokens_append (paren e) a r = ap (λ (z : List Kind). Sign mark.LeftParen ∷ z) (tokens_append e (Sign mark.RightParen ∷ a) r)
  tokens_append (not' e) a r = ap (λ (z : List Kind). Word word.Not ∷ z) (tokens_append e a r)
  tokens_append (and b c) a r = ap (λ (z : List Kind). tokens b (Word word.And ∷ z)) (tokens_append c a r) ∙ tokens_append b (Word word.And ∷ tokens c a) r
  tokens_append (or b c) a r = ap (λ (z : List Kind). tokens b (Word word.Or ∷ z)) (tokens_append c a r) ∙ tokens_append b (Word word.Or ∷ tokens c a) r
  tokens_append (unary s e) a r = ap (λ (z : List Kind). Sign (sign_mark s) ∷ z) (tokens_append e a r)
  tokens_append (binary op b c) a r = ap (λ (z : List Kind). tokens b (Sign (operator op) ∷ z)) (tokens_append c a r) ∙ tokens_append b (Sign (operator op) ∷ tokens c a) r
  tokens_append (compare b ls) a r = ap (tokens b) (links_append ls a r) ∙ tokens_append b (links ls a) r
  tokens_append (tree_.cond b t o) a r = ap (λ (z : List Kind). tokens b (Word word.If ∷ tokens t (Word word.Else ∷ z))) (tokens_append o a r) ∙ ap (λ (z : List Kind). tokens b (Word word.If ∷ z)) (tokens_append t (Word word.Else ∷ tokens o a) r) ∙ tokens_append b (Word word.If ∷ tokens t (Word word.Else ∷ tokens o a)) r
  tokens_append (call f es c) a r = ap (λ (z : List Kind). tokens f (Sign mark.LeftParen ∷ z)) (items_append es c (Sign mark.RightParen ∷ a) r) ∙ tokens_append f (Sign mark.LeftParen ∷ items es c (Sign mark.RightParen ∷ a)) r
  tokens_append (index f e) a r = ap (λ (z : List Kind). tokens f (Sign mark.LeftBracket ∷ z)) (tokens_append e (Sign mark.RightBracket ∷ a) r) ∙ tokens_append f (Sign mark.LeftBracket ∷ tokens e (Sign mark.RightBracket ∷ a)) r
  tokens_append (slice f from to) a r = ap (λ (z : List Kind). tokens f (Sign mark.LeftBracket ∷ bound from (Sign mark.Colon ∷ z))) (bound_append to (Sign mark.RightBracket ∷ a) r) ∙ ap (λ (z : List Kind). tokens f (Sign mark.LeftBracket ∷ z)) (bound_append from (Sign mark.Colon ∷ bound to (Sign mark.RightBracket ∷ a)) r) ∙ tokens_append f (Sign mark.LeftBracket ∷ bound from (Sign mark.Colon ∷ bound to (Sign mark.RightBracket ∷ a))) r
  tokens_append (attr f x) a r = tokens_append f (Sign mark.Dot ∷ Name x ∷ a) r

  items_append : (es : Exprs) (c : Bool) (a r : List Kind) → items es c (a ++ r) ≡ items es c a ++ r
  items_append no_exprs c a r = refl
  items_append (exprs e es) c a r = ap (tokens e) (more_append es c a r) ∙ tokens_append e (more es c a) r

  more_append : (es : Exprs) (c : Bool) (a r : List Kind) → more es c (a ++ r) ≡ more es c a ++ r
  more_append no_exprs c a r = comma_append c a r
  more_append (exprs e es) c a r = ap (λ (z : List Kind). Sign mark.Comma ∷ tokens e z) (more_append es c a r) ∙ ap (λ (z : List Kind). Sign mark.Comma ∷ z) (tokens_append e (more es c a) r)

  entries_append : (ps : Pairs) (c : Bool) (a r : List Kind) → entries ps c (a ++ r) ≡ entries ps c a ++ r
  entries_append no_pairs c a r = refl
  entries_append (pair k v ps) c a r = ap (λ (z : List Kind). tokens k (Sign mark.Colon ∷ tokens v z)) (more_entries_append ps c a r) ∙ ap (λ (z : List Kind). tokens k (Sign mark.Colon ∷ z)) (tokens_append v (more_entries ps c a) r) ∙ tokens_append k (Sign mark.Colon ∷ tokens v (more_entries ps c a)) r

  more_entries_append : (ps : Pairs) (c : Bool) (a r : List Kind) → more_entries ps c (a ++ r) ≡ more_entries ps c a ++ r
  more_entries_append no_pairs c a r = comma_append c a r
  more_entries_append (pair k v ps) c a r = ap (λ (z : List Kind). Sign mark.Comma ∷ z) (ap (λ (z : List Kind). tokens k (Sign mark.Colon ∷ tokens v z)) (more_entries_append ps c a r) ∙ ap (λ (z : List Kind). tokens k (Sign mark.Colon ∷ z)) (tokens_append v (more_entries ps c a) r) ∙ tokens_append k (Sign mark.Colon ∷ tokens v (more_entries ps c a)) r)

  links_append : (ls : Links) (a r : List Kind) → links ls (a ++ r) ≡ links ls a ++ r
  links_append no_links a r = refl
  links_append (link op e ls) a r = ap (λ (z : List Kind). comparison op (tokens e z)) (links_append ls a r) ∙ ap (comparison op) (tokens_append e (links ls a) r) ∙ comparison_append op (tokens e (links ls a)) r

  bound_append : (b : OptExpr) (a r : List Kind) → bound b (a ++ r) ≡ bound b a ++ r
  bound_append absent a r = refl
  bound_append (present e) a r = tokens_append e a r

-- ---- the tokens of a field

long : (m : Kind) (ms : List Kind) → m ∷ (ms ++ End ∷ []) ≡ End ∷ [] → ⊥
long m [] h = cc
long m (n ∷ ms) h = cc

-- What a run leaves before the end, a field with these tokens is.
pub field_of_run : (s : State) (ts : List Kind) (e : Expr) → run s (ts ++ End ∷ []) ≡ Leaves e (End ∷ []) → field_expr s (kinds_of ts) ≡ Some e
field_of_run s [] e h = go (step s (t_other End)) h
  where
    go : (o : Out) → outcome o End [] ≡ Leaves e (End ∷ []) → ended_by o ≡ Some e
    go (Next n) h = absurd cc
    go Stuck h = absurd cc
    go (Left m) h = let same : m ≡ e = cc in ap (λ (x : Expr). Some x) same
field_of_run s (t ∷ ts) e h = go (λ n. field_of_run n ts e) (step s (class t)) h
  where
    go : ((n : State) → run n (ts ++ End ∷ []) ≡ Leaves e (End ∷ []) → field_expr n (kinds_of ts) ≡ Some e) → (o : Out) → outcome o t (ts ++ End ∷ []) ≡ Leaves e (End ∷ []) → field_after o (kinds_of ts) ≡ Some e
    go rec (Next n) h = rec n h
    go rec Stuck h = absurd cc
    go rec (Left m) h = let same : t ∷ (ts ++ End ∷ []) ≡ End ∷ [] = cc in absurd (long t ts same)
