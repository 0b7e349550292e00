-- The tokens of an expression and then others are those of the expression, and then the others.
use Rattle.std.proofs.Common.{◌≡◌, Bool, true, false, List, [], ◌∷◌, ◌++◌, refl, ap, ◌∙◌}
use Rattle.py_operator.specs.declared.operator.CmpOp.TheVariants as cmp_
use Rattle.py_token.specs.declared.token.Keyword.TheVariants as word
use Rattle.py_token.specs.declared.token.Mark.TheVariants as mark
use Rattle.py_syntax.specs.declared.expr.Comparison.{Comparison}
use Rattle.py_syntax.specs.declared.expr.Comparison.TheVariants.{Op, Is, IsNot}
use Rattle.py_syntax.specs.Tree.{Text, Expr, str, fstr, tuple, list, dict, paren, not', and, or, unary, binary, compare, cond, call, index, slice, attr, Exprs, no_exprs, exprs, Pairs, no_pairs, pair, Links, no_links, link, OptExpr, absent, present, Fragments, no_fragments, plain, format}
use Rattle.py_syntax.specs.Kinds.{Kind, Name, Word, Str, FString, Sign}
use Rattle.py_syntax.specs.Tokens.{comma_if, strings, operator, sign_mark, comparison, tokens, items, more, entries, more_entries, links, bound, fragments, pieces}
use Rattle.py_syntax.specs.Headers.{Marked, put}

pub comma_parted : (c : Bool) (a r : List Kind) → comma_if c (a ++ r) ≡ comma_if c a ++ r
comma_parted true a r = refl
comma_parted false a r = refl

pub strings_parted : (xs : List Text) (a r : List Kind) → strings xs (a ++ r) ≡ strings xs a ++ r
strings_parted [] a r = refl
strings_parted (x ∷ xs) a r = ap (λ (y : List Kind). Str x ∷ y) (strings_parted xs a r)

pub comparison_parted : (op : Comparison) (a r : List Kind) → comparison op (a ++ r) ≡ comparison op a ++ r
comparison_parted (Op cmp_.NotIn) a r = refl
comparison_parted (Op op) a r = refl
comparison_parted Is a r = refl
comparison_parted IsNot a r = refl

pub fragments_parted : (fs : Fragments) (a r : List Kind) → fragments fs (a ++ r) ≡ fragments fs a ++ r
fragments_parted no_fragments a r = refl
fragments_parted (plain x fs) a r = ap (λ (y : List Kind). Str x ∷ y) (fragments_parted fs a r)
fragments_parted (format ps fs) a r = ap (λ (y : List Kind). FString (pieces ps) ∷ y) (fragments_parted fs a r)

-- a token, and then others
abbrev after : Kind → List Kind → List Kind
after t y = t ∷ y

mutual
  pub parted : (e : Expr) (a r : List Kind) → tokens e (a ++ r) ≡ tokens e a ++ r
  parted (str ps) a r = strings_parted ps a r
  parted (fstr fs) a r = fragments_parted fs a r
  parted (tuple no_exprs c) a r = refl
  parted (tuple (exprs e es) c) a r = ap (tokens e) (more_parted es c a r) ∙ parted e (more es c a) r
  parted (list es c) a r = ap (after (Sign mark.LeftBracket)) (items_parted es c (Sign mark.RightBracket ∷ a) r)
  parted (dict ps c) a r = ap (after (Sign mark.LeftBrace)) (entries_parted ps c (Sign mark.RightBrace ∷ a) r)
  parted (paren e) a r = ap (after (Sign mark.LeftParen)) (parted e (Sign mark.RightParen ∷ a) r)
  parted (not' e) a r = ap (after (Word word.Not)) (parted e a r)
  parted (and e f) a r = ap (λ (y : List Kind). tokens e (Word word.And ∷ y)) (parted f a r) ∙ parted e (Word word.And ∷ tokens f a) r
  parted (or e f) a r = ap (λ (y : List Kind). tokens e (Word word.Or ∷ y)) (parted f a r) ∙ parted e (Word word.Or ∷ tokens f a) r
  parted (unary s e) a r = ap (after (Sign (sign_mark s))) (parted e a r)
  parted (binary op e f) a r = ap (λ (y : List Kind). tokens e (Sign (operator op) ∷ y)) (parted f a r) ∙ parted e (Sign (operator op) ∷ tokens f a) r
  parted (compare e ls) a r = ap (tokens e) (links_parted ls a r) ∙ parted e (links ls a) r
  parted (cond b t o) a r =
      ap (λ (y : List Kind). tokens b (Word word.If ∷ tokens t (Word word.Else ∷ y))) (parted o a r)
      ∙ ap (λ (y : List Kind). tokens b (Word word.If ∷ y)) (parted t (Word word.Else ∷ tokens o a) r)
      ∙ parted b (Word word.If ∷ tokens t (Word word.Else ∷ tokens o a)) r
  parted (call f es c) a r =
      ap (λ (y : List Kind). tokens f (Sign mark.LeftParen ∷ y)) (items_parted es c (Sign mark.RightParen ∷ a) r)
      ∙ parted f (Sign mark.LeftParen ∷ items es c (Sign mark.RightParen ∷ a)) r
  parted (index f e) a r =
      ap (λ (y : List Kind). tokens f (Sign mark.LeftBracket ∷ y)) (parted e (Sign mark.RightBracket ∷ a) r)
      ∙ parted f (Sign mark.LeftBracket ∷ tokens e (Sign mark.RightBracket ∷ a)) r
  parted (slice f from to) a r =
      ap (λ (y : List Kind). tokens f (Sign mark.LeftBracket ∷ bound from (Sign mark.Colon ∷ y))) (bound_parted to (Sign mark.RightBracket ∷ a) r)
      ∙ ap (λ (y : List Kind). tokens f (Sign mark.LeftBracket ∷ y)) (bound_parted from (Sign mark.Colon ∷ bound to (Sign mark.RightBracket ∷ a)) r)
      ∙ parted f (Sign mark.LeftBracket ∷ bound from (Sign mark.Colon ∷ bound to (Sign mark.RightBracket ∷ a))) r
  parted (attr f x) a r = parted f (Sign mark.Dot ∷ Name x ∷ a) r
  parted e a r = refl

  pub items_parted : (es : Exprs) (c : Bool) (a r : List Kind) → items es c (a ++ r) ≡ items es c a ++ r
  items_parted no_exprs c a r = refl
  items_parted (exprs e es) c a r = ap (tokens e) (more_parted es c a r) ∙ parted e (more es c a) r

  pub more_parted : (es : Exprs) (c : Bool) (a r : List Kind) → more es c (a ++ r) ≡ more es c a ++ r
  more_parted no_exprs c a r = comma_parted c a r
  more_parted (exprs e es) c a r = ap (after (Sign mark.Comma)) (ap (tokens e) (more_parted es c a r) ∙ parted e (more es c a) r)

  pub entries_parted : (ps : Pairs) (c : Bool) (a r : List Kind) → entries ps c (a ++ r) ≡ entries ps c a ++ r
  entries_parted no_pairs c a r = refl
  entries_parted (pair k v ps) c a r =
      ap (λ (y : List Kind). tokens k (Sign mark.Colon ∷ tokens v y)) (more_entries_parted ps c a r)
      ∙ ap (λ (y : List Kind). tokens k (Sign mark.Colon ∷ y)) (parted v (more_entries ps c a) r)
      ∙ parted k (Sign mark.Colon ∷ tokens v (more_entries ps c a)) r

  more_entries_parted : (ps : Pairs) (c : Bool) (a r : List Kind) → more_entries ps c (a ++ r) ≡ more_entries ps c a ++ r
  more_entries_parted no_pairs c a r = comma_parted c a r
  more_entries_parted (pair k v ps) c a r =
      ap (after (Sign mark.Comma)) (ap (λ (y : List Kind). tokens k (Sign mark.Colon ∷ tokens v y)) (more_entries_parted ps c a r)
      ∙ ap (λ (y : List Kind). tokens k (Sign mark.Colon ∷ y)) (parted v (more_entries ps c a) r)
      ∙ parted k (Sign mark.Colon ∷ tokens v (more_entries ps c a)) r)

  pub links_parted : (ls : Links) (a r : List Kind) → links ls (a ++ r) ≡ links ls a ++ r
  links_parted no_links a r = refl
  links_parted (link op e ls) a r = ap (λ (y : List Kind). comparison op (tokens e y)) (links_parted ls a r) ∙ ap (comparison op) (parted e (links ls a) r) ∙ comparison_parted op (tokens e (links ls a)) r

  pub bound_parted : (o : OptExpr) (a r : List Kind) → bound o (a ++ r) ≡ bound o a ++ r
  bound_parted absent a r = refl
  bound_parted (present e) a r = parted e a r

-- ---- tokens that begin no header

pub put_append : (a b : List Kind) (r : List Marked) → put (a ++ b) r ≡ put a (put b r)
put_append [] b r = refl
put_append (k ∷ a) b r = ap (λ (y : List Marked). record { kind = k; header = false } ∷ y) (put_append a b r)

-- the token after an expression on its line
pub put_parted : (e : Expr) (a : List Kind) (r : List Marked) → put (tokens e a) r ≡ put (tokens e []) (put a r)
put_parted e a r = ap (λ (y : List Kind). put y r) (parted e [] a) ∙ put_append (tokens e []) a r
