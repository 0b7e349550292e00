-- The tokens of expressions, patterns and simple statements: none of them ends a line, and the last is no colon.
use Rattle.std.proofs.Common.{◌≡◌, ℕ, zero, suc, Bool, true, false, cond, List, [], ◌∷◌, Option, Some, None, refl, ◌∙◌}
use Rattle.py_operator.specs.declared.operator.BinOp.{BinOp}
use Rattle.py_operator.specs.declared.operator.BinOp.TheVariants as op_
use Rattle.py_operator.specs.declared.operator.CmpOp.TheVariants as cmp_
use Rattle.py_token.specs.declared.token.Keyword.TheVariants as word
use Rattle.py_token.specs.declared.token.Mark.TheVariants as mark
use Rattle.py_syntax.specs.declared.expr.Comparison.{Comparison}
use Rattle.py_syntax.specs.declared.expr.Comparison.TheVariants.{Op, Is, IsNot}
use Rattle.py_syntax.specs.declared.expr.Sign.{Sign as UnarySign}
use Rattle.py_syntax.specs.declared.expr.Sign.TheVariants as sign_
use Rattle.py_syntax.specs.declared.pattern.Brackets.TheVariants.{Round, Square, Bare}
use Rattle.py_syntax.specs.Tree.{Text, Expr, name, int, str, fstr, none, bool, tuple, list, dict, paren, not', and, or, unary, binary, compare, call, index, slice, attr, Exprs, no_exprs, exprs, Pairs, no_pairs, pair, Links, no_links, link, OptExpr, absent, present, Fragments, no_fragments, plain, format}
use Rattle.py_syntax.specs.Tree as tree_
use Rattle.py_syntax.specs.Tree.{Constant, c_int, c_str, c_none, c_bool, Pattern, literal, capture, wild, member, sequence, p_or, p_as, p_paren, Patterns, no_patterns, patterns}
use Rattle.py_syntax.specs.Tree.{Alias, StmtKind, expr, assign, aug_assign, pass, break, continue, return, raise, assert, global, import, from}
use Rattle.py_syntax.specs.Kinds.{Kind, Name, Word, Sign}
use Rattle.py_syntax.specs.Tokens.{comma_if, strings, bool_word, operator, sign_mark, comparison, tokens, items, more, entries, more_entries, links, bound, fragments, constant, pattern_tokens, more_patterns, alternatives}
use Rattle.py_syntax.specs.Normal.{Normal, NormalLinks, NormalItems, Each, NormalEntries, EachEntry, NormalBound, NormalConstant, NormalPattern, EachPattern}
use Rattle.py_syntax.specs.Headers.{Marked, put, is_colon, ends_line}
use Rattle.py_syntax.specs.Statements.{in_place_mark, target_tokens, option_tokens, assert_tokens, more_names, name_list, as_tokens, more_aliases, alias_list, more_params, params_from, kind_tokens, is_simple, IsOption, NormalExpr, NormalTargets, NormalKind}

-- Whether the last of some tokens is a colon, or the one before them where there is none; nothing where one of them ends a line.
abbrev pub last_colon : Bool → List Kind → Option Bool
last_colon c [] = Some c
last_colon c (k ∷ ks) = cond (ends_line k) None (last_colon (is_colon k) ks)

-- ---- expressions

bool_last : (b : Bool) (c : Bool) (r : List Kind) → last_colon c (bool_word b ∷ r) ≡ last_colon false r
bool_last true c r = refl
bool_last false c r = refl

operator_last : (op : BinOp) (c : Bool) (r : List Kind) → last_colon c (Sign (operator op) ∷ r) ≡ last_colon false r
operator_last op_.Add c r = refl
operator_last op_.Sub c r = refl
operator_last op_.Mul c r = refl
operator_last op_.Floor c r = refl
operator_last op_.Mod c r = refl

sign_last : (s : UnarySign) (c : Bool) (r : List Kind) → last_colon c (Sign (sign_mark s) ∷ r) ≡ last_colon false r
sign_last sign_.Minus c r = refl
sign_last sign_.Plus c r = refl

comparison_last : (op : Comparison) (c : Bool) (r : List Kind) → last_colon c (comparison op r) ≡ last_colon false r
comparison_last (Op cmp_.Eq) c r = refl
comparison_last (Op op) c r = refl
comparison_last Is c r = refl
comparison_last IsNot c r = refl

strings_last : (xs : List Text) (r : List Kind) → last_colon false (strings xs r) ≡ last_colon false r
strings_last [] r = refl
strings_last (x ∷ xs) r = strings_last xs r

fragments_last : (fs : Fragments) (r : List Kind) → last_colon false (fragments fs r) ≡ last_colon false r
fragments_last no_fragments r = refl
fragments_last (plain x fs) r = fragments_last fs r
fragments_last (format ps fs) r = fragments_last fs r

comma_last : (b : Bool) (r : List Kind) → last_colon false (comma_if b r) ≡ last_colon false r
comma_last true r = refl
comma_last false r = refl

mutual
  pub expr_last : (e : Expr) → Normal e → (c : Bool) (r : List Kind) → last_colon c (tokens e r) ≡ last_colon false r
  expr_last (name x) n c r = refl
  expr_last (int i) n c r = refl
  expr_last (str []) n c r = absurd n
  expr_last (str (x ∷ xs)) n c r = strings_last xs r
  expr_last (fstr no_fragments) n c r = absurd n.0
  expr_last (fstr (plain x fs)) n c r = fragments_last fs r
  expr_last (fstr (format ps fs)) n c r = fragments_last fs r
  expr_last none n c r = refl
  expr_last (bool b) n c r = bool_last b c r
  expr_last (tuple no_exprs b) n c r = refl
  expr_last (tuple (exprs e no_exprs) b) n c r = expr_last e n.1 c (comma_if b r) ∙ comma_last b r
  expr_last (tuple (exprs e (exprs f es)) b) n c r = expr_last e n.1 c (more (exprs f es) b r) ∙ expr_last f n.3 false (more es b r) ∙ more_last es n.4 b r
  expr_last (list es b) n c r = items_last es b n (Sign mark.RightBracket ∷ r)
  expr_last (dict ps b) n c r = entries_last ps b n (Sign mark.RightBrace ∷ r)
  expr_last (paren e) n c r = expr_last e n false (Sign mark.RightParen ∷ r)
  expr_last (not' e) n c r = expr_last e n.1 false r
  expr_last (and a b) n c r = expr_last a n.1 c (Word word.And ∷ tokens b r) ∙ expr_last b n.3 false r
  expr_last (or a b) n c r = expr_last a n.1 c (Word word.Or ∷ tokens b r) ∙ expr_last b n.3 false r
  expr_last (unary s e) n c r = sign_last s c (tokens e r) ∙ expr_last e n.1 false r
  expr_last (binary op a b) n c r = expr_last a n.1 c (Sign (operator op) ∷ tokens b r) ∙ operator_last op false (tokens b r) ∙ expr_last b n.3 false r
  expr_last (compare a no_links) n c r = absurd n
  expr_last (compare a (link op e ls)) n c r = expr_last a n.1 c (links (link op e ls) r) ∙ comparison_last op false (tokens e (links ls r)) ∙ expr_last e n.3 false (links ls r) ∙ links_last ls n.4 r
  expr_last (tree_.cond b t o) n c r = expr_last b n.1 c (Word word.If ∷ tokens t (Word word.Else ∷ tokens o r)) ∙ expr_last t n.3 false (Word word.Else ∷ tokens o r) ∙ expr_last o n.5 false r
  expr_last (call f es b) n c r = expr_last f n.1 c (Sign mark.LeftParen ∷ items es b (Sign mark.RightParen ∷ r)) ∙ items_last es b n.2 (Sign mark.RightParen ∷ r)
  expr_last (index f e) n c r = expr_last f n.1 c (Sign mark.LeftBracket ∷ tokens e (Sign mark.RightBracket ∷ r)) ∙ expr_last e n.2 false (Sign mark.RightBracket ∷ r)
  expr_last (slice f start to) n c r =
      expr_last f n.1 c (Sign mark.LeftBracket ∷ bound start (Sign mark.Colon ∷ bound to (Sign mark.RightBracket ∷ r)))
      ∙ bound_last start n.2 false (Sign mark.Colon) (bound to (Sign mark.RightBracket ∷ r))
      ∙ bound_last to n.3 true (Sign mark.RightBracket) r
  expr_last (attr f x) n c r = expr_last f n.1 c (Sign mark.Dot ∷ Name x ∷ r)

  items_last : (es : Exprs) (b : Bool) → NormalItems es b → (r : List Kind) → last_colon false (items es b r) ≡ last_colon false r
  items_last no_exprs b n r = refl
  items_last (exprs e es) b n r = expr_last e n.1 false (more es b r) ∙ more_last es n.2 b r

  more_last : (es : Exprs) → Each es → (b : Bool) (r : List Kind) → last_colon false (more es b r) ≡ last_colon false r
  more_last no_exprs n b r = comma_last b r
  more_last (exprs e es) n b r = expr_last e n.1 false (more es b r) ∙ more_last es n.2 b r

  entries_last : (ps : Pairs) (b : Bool) → NormalEntries ps b → (r : List Kind) → last_colon false (entries ps b r) ≡ last_colon false r
  entries_last no_pairs b n r = refl
  entries_last (pair k v ps) b n r = expr_last k n.1 false (Sign mark.Colon ∷ tokens v (more_entries ps b r)) ∙ expr_last v n.3 true (more_entries ps b r) ∙ more_entries_last ps n.4 b r

  more_entries_last : (ps : Pairs) → EachEntry ps → (b : Bool) (r : List Kind) → last_colon false (more_entries ps b r) ≡ last_colon false r
  more_entries_last no_pairs n b r = comma_last b r
  more_entries_last (pair k v ps) n b r = expr_last k n.1 false (Sign mark.Colon ∷ tokens v (more_entries ps b r)) ∙ expr_last v n.3 true (more_entries ps b r) ∙ more_entries_last ps n.4 b r

  links_last : (ls : Links) → NormalLinks ls → (r : List Kind) → last_colon false (links ls r) ≡ last_colon false r
  links_last no_links n r = refl
  links_last (link op e ls) n r = comparison_last op false (tokens e (links ls r)) ∙ expr_last e n.1 false (links ls r) ∙ links_last ls n.2 r

  bound_last : (o : OptExpr) → NormalBound o → (c : Bool) (k : Kind) (r : List Kind) → last_colon c (bound o (k ∷ r)) ≡ last_colon false (k ∷ r)
  bound_last absent n c k r = refl
  bound_last (present e) n c k r = expr_last e n.1 c (k ∷ r)

-- ---- patterns

constant_last : (minus : Bool) (k : Constant) → NormalConstant minus k → (c : Bool) (r : List Kind) → last_colon c (constant k r) ≡ last_colon false r
constant_last minus (c_int i) n c r = refl
constant_last minus (c_str []) n c r = absurd n.0
constant_last minus (c_str (x ∷ xs)) n c r = strings_last xs r
constant_last minus c_none n c r = refl
constant_last minus (c_bool b) n c r = bool_last b c r

mutual
  pub pattern_last : (p : Pattern) → NormalPattern p → (c : Bool) (r : List Kind) → last_colon c (pattern_tokens p r) ≡ last_colon false r
  pattern_last (literal true k) n c r = constant_last true k n false r
  pattern_last (literal false k) n c r = constant_last false k n c r
  pattern_last (capture x) n c r = refl
  pattern_last wild n c r = refl
  pattern_last (member m x) n c r = refl
  pattern_last (sequence Round no_patterns b) n c r = refl
  pattern_last (sequence Round (patterns p no_patterns) b) n c r = pattern_last p n.1 false (comma_if b (Sign mark.RightParen ∷ r)) ∙ comma_last b (Sign mark.RightParen ∷ r)
  pattern_last (sequence Round (patterns p (patterns q ps)) b) n c r = pattern_last p n.1 false (more_patterns (patterns q ps) b (Sign mark.RightParen ∷ r)) ∙ row_last 1 (patterns q ps) n.2 b (Sign mark.RightParen ∷ r)
  pattern_last (sequence Square no_patterns b) n c r = refl
  pattern_last (sequence Square (patterns p ps) b) n c r = pattern_last p n.1 false (more_patterns ps b (Sign mark.RightBracket ∷ r)) ∙ row_last 1 ps n.2 b (Sign mark.RightBracket ∷ r)
  pattern_last (sequence Bare no_patterns b) n c r = absurd n
  pattern_last (sequence Bare (patterns p no_patterns) b) n c r = pattern_last p n.1 c (comma_if b r) ∙ comma_last b r
  pattern_last (sequence Bare (patterns p (patterns q ps)) b) n c r = pattern_last p n.1 c (more_patterns (patterns q ps) b r) ∙ row_last 1 (patterns q ps) n.2 b r
  pattern_last (p_or no_patterns) n c r = absurd n
  pattern_last (p_or (patterns p no_patterns)) n c r = absurd n
  pattern_last (p_or (patterns p (patterns q ps))) n c r = pattern_last p n.1 c (alternatives (patterns q ps) r) ∙ bars_last 3 (patterns q ps) n.2 r
  pattern_last (p_as p x) n c r = pattern_last p n.1 c (Word word.As ∷ Name x ∷ r)
  pattern_last (p_paren p) n c r = pattern_last p n.1 false (Sign mark.RightParen ∷ r)

  row_last : (l : ℕ) (ps : Patterns) → EachPattern l ps → (b : Bool) (r : List Kind) → last_colon false (more_patterns ps b r) ≡ last_colon false r
  row_last l no_patterns n b r = comma_last b r
  row_last l (patterns p ps) n b r = pattern_last p n.1 false (more_patterns ps b r) ∙ row_last l ps n.2 b r

  bars_last : (l : ℕ) (ps : Patterns) → EachPattern l ps → (r : List Kind) → last_colon false (alternatives ps r) ≡ last_colon false r
  bars_last l no_patterns n r = refl
  bars_last l (patterns p ps) n r = pattern_last p n.1 false (alternatives ps r) ∙ bars_last l ps n.2 r

-- ---- parameters

pub more_params_last : (n : ℕ) (xs : List Text) (ds : Exprs) → Each ds → (b : Bool) (r : List Kind) → last_colon false (more_params n xs ds b r) ≡ last_colon false r
more_params_last zero [] ds each b r = comma_last b r
more_params_last (suc n) [] ds each b r = comma_last b r
more_params_last (suc n) (x ∷ xs) ds each b r = more_params_last n xs ds each b r
more_params_last zero (x ∷ xs) no_exprs each b r = more_params_last zero xs no_exprs each b r
more_params_last zero (x ∷ xs) (exprs d ds) each b r = expr_last d each.1 false (more_params zero xs ds b r) ∙ more_params_last zero xs ds each.2 b r

pub params_last : (n : ℕ) (x : Text) (xs : List Text) (ds : Exprs) → Each ds → (b : Bool) (r : List Kind) → last_colon false (params_from n (x ∷ xs) ds b r) ≡ last_colon false r
params_last (suc n) x xs ds each b r = more_params_last n xs ds each b r
params_last zero x xs no_exprs each b r = more_params_last zero xs no_exprs each b r
params_last zero x xs (exprs d ds) each b r = expr_last d each.1 false (more_params zero xs ds b r) ∙ more_params_last zero xs ds each.2 b r

-- ---- simple statements

-- the tokens of a simple statement
pub record Flat (k : StmtKind) : Type 0 where
  pub kinds : List Kind
  pub spelled : (rest : List Marked) → kind_tokens k rest ≡ put kinds rest
  pub last : (c : Bool) → last_colon c kinds ≡ Some false

targets_last : (ts : Exprs) (e : Expr) → NormalTargets ts → Normal e → (c : Bool) → last_colon c (target_tokens ts (tokens e [])) ≡ Some false
targets_last no_exprs e n ne c = expr_last e ne c []
targets_last (exprs t ts) e n ne c = expr_last t n.0 c (Sign mark.Equal ∷ target_tokens ts (tokens e [])) ∙ targets_last ts e n.2 ne false

in_place_last : (op : BinOp) (c : Bool) (r : List Kind) → last_colon c (Sign (in_place_mark op) ∷ r) ≡ last_colon false r
in_place_last op_.Add c r = refl
in_place_last op_.Sub c r = refl
in_place_last op_.Mul c r = refl
in_place_last op_.Floor c r = refl
in_place_last op_.Mod c r = refl

option_last : (o : Option Expr) → IsOption Normal o → last_colon false (option_tokens o) ≡ Some false
option_last None n = refl
option_last (Some e) n = expr_last e n false []

of_one : (o : Option Expr) → IsOption NormalExpr o → IsOption Normal o
of_one None n = tt
of_one (Some e) n = n.1

assert_last : (e : Expr) (w : Option Expr) → Normal e → IsOption Normal w → last_colon false (tokens e (assert_tokens w)) ≡ Some false
assert_last e None n nw = expr_last e n false []
assert_last e (Some w) n nw = expr_last e n false (Sign mark.Comma ∷ tokens w []) ∙ expr_last w nw false []

more_names_last : (xs : List Text) → last_colon false (more_names xs) ≡ Some false
more_names_last [] = refl
more_names_last (x ∷ xs) = more_names_last xs

names_last : (xs : List Text) → last_colon false (name_list xs) ≡ Some false
names_last [] = refl
names_last (x ∷ xs) = more_names_last xs

as_last : (y : Option Text) (r : List Kind) → last_colon false (as_tokens y r) ≡ last_colon false r
as_last None r = refl
as_last (Some y) r = refl

more_aliases_last : (names : List Alias) → last_colon false (more_aliases names) ≡ Some false
more_aliases_last [] = refl
more_aliases_last (a ∷ names) = as_last a.bound (more_aliases names) ∙ more_aliases_last names

aliases_last : (names : List Alias) → last_colon false (alias_list names) ≡ Some false
aliases_last [] = refl
aliases_last (a ∷ names) = as_last a.bound (more_aliases names) ∙ more_aliases_last names

pub flat : (k : StmtKind) → is_simple k ≡ true → NormalKind k → Flat k
flat (expr e) h n = record { kinds = tokens e []; spelled = λ rest. refl; last = λ c. expr_last e n c [] }
flat (assign no_exprs e) h n = absurd n
flat (assign (exprs t ts) e) h n = record { kinds = target_tokens (exprs t ts) (tokens e []); spelled = λ rest. refl; last = targets_last (exprs t ts) e n.0 n.1 }
flat (aug_assign t op e) h n =
    record {
      kinds = tokens t (Sign (in_place_mark op) ∷ tokens e []);
      spelled = λ rest. refl;
      last = λ c. expr_last t n.0 c (Sign (in_place_mark op) ∷ tokens e []) ∙ in_place_last op false (tokens e []) ∙ expr_last e n.2 false [];
    }
flat pass h n = record { kinds = Word word.Pass ∷ []; spelled = λ rest. refl; last = λ c. refl }
flat break h n = record { kinds = Word word.Break ∷ []; spelled = λ rest. refl; last = λ c. refl }
flat continue h n = record { kinds = Word word.Continue ∷ []; spelled = λ rest. refl; last = λ c. refl }
flat (return e) h n = record { kinds = Word word.Return ∷ option_tokens e; spelled = λ rest. refl; last = λ c. option_last e n }
flat (raise e) h n = record { kinds = Word word.Raise ∷ option_tokens e; spelled = λ rest. refl; last = λ c. option_last e (of_one e n) }
flat (assert e w) h n = record { kinds = Word word.Assert ∷ tokens e (assert_tokens w); spelled = λ rest. refl; last = λ c. let test = n.0 in assert_last e w test.1 (of_one w n.1) }
flat (global xs) h n = record { kinds = Word word.Global ∷ name_list xs; spelled = λ rest. refl; last = λ c. names_last xs }
flat (import names) h n = record { kinds = Word word.Import ∷ alias_list names; spelled = λ rest. refl; last = λ c. aliases_last names }
flat (from m names) h n = record { kinds = Word word.From ∷ Name m ∷ Word word.Import ∷ alias_list names; spelled = λ rest. refl; last = λ c. aliases_last names }
flat k h n = absurd cc
