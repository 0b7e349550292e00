-- The tokens of an expression and then others are its tokens, and then others.
use Rattle.std.proofs.Common.{◌≡◌, Bool, true, false, List, [], ◌∷◌, ◌++◌, refl, ap, ◌∙◌}
use Rattle.py_operator.specs.declared.operator.CmpOp.TheVariants as cmp_
use Rattle.py_token.specs.declared.token.Keyword.TheVariants as word
use Rattle.py_token.specs.declared.token.Mark.TheVariants as mark
use Rattle.py_syntax.specs.declared.expr.Comparison.{Comparison}
use Rattle.py_syntax.specs.declared.expr.Comparison.TheVariants.{Op, Is, IsNot}
use Rattle.py_syntax.specs.Tree.{Text, Expr, name, int, str, fstr, none, bool, tuple, list, dict, paren, not', and, or, unary, binary, compare, cond, call, index, slice, attr, Exprs, no_exprs, exprs, Pairs, no_pairs, pair, Links, no_links, link, OptExpr, absent, present, Fragments, no_fragments, plain, format}
use Rattle.py_syntax.specs.Kinds.{Kind, Name, Word, Str, FString, Sign}
use Rattle.py_syntax.specs.Tokens.{comma_if, strings, operator, sign_mark, comparison, tokens, items, more, entries, more_entries, links, bound, fragments, pieces}

comma_parted : (c : Bool) (a r : List Kind) → comma_if c (a ++ r) ≡ comma_if c a ++ r
comma_parted true a r = refl
comma_parted false a r = refl

strings_parted : (xs : List Text) (a r : List Kind) → strings xs (a ++ r) ≡ strings xs a ++ r
strings_parted [] a r = refl
strings_parted (x ∷ xs) a r = ap (λ (y : List Kind). Str x ∷ y) (strings_parted xs a r)

comparison_parted : (op : Comparison) (a r : List Kind) → comparison op (a ++ r) ≡ comparison op a ++ r
comparison_parted (Op cmp_.Eq) a r = refl
comparison_parted (Op cmp_.Ne) a r = refl
comparison_parted (Op cmp_.Lt) a r = refl
comparison_parted (Op cmp_.Le) a r = refl
comparison_parted (Op cmp_.Gt) a r = refl
comparison_parted (Op cmp_.Ge) a r = refl
comparison_parted (Op cmp_.In) a r = refl
comparison_parted (Op cmp_.NotIn) a r = refl
comparison_parted Is a r = refl
comparison_parted IsNot a r = refl

fragments_parted : (fs : Fragments) (a r : List Kind) → fragments fs (a ++ r) ≡ fragments fs a ++ r
fragments_parted no_fragments a r = refl
fragments_parted (plain x fs) a r = ap (λ (y : List Kind). Str x ∷ y) (fragments_parted fs a r)
fragments_parted (format ps fs) a r = ap (λ (y : List Kind). FString (pieces ps) ∷ y) (fragments_parted fs a r)

-- one token in front
led : (t : Kind) (x y : List Kind) → x ≡ y → t ∷ x ≡ t ∷ y
led t x y h = ap (λ (z : List Kind). t ∷ z) h

mutual
  pub parted : (e : Expr) (a r : List Kind) → tokens e (a ++ r) ≡ tokens e a ++ r
  parted (name x) a r = refl
  parted (int n) a r = refl
  parted (str ps) a r = strings_parted ps a r
  parted (fstr fs) a r = fragments_parted fs a r
  parted none a r = refl
  parted (bool b) a r = refl
  parted (tuple no_exprs c) a r = refl
  parted (tuple (exprs e es) c) a r = ap (tokens e) (more_parted es c a r) ∙ parted e (more es c a) r
  parted (list es c) a r = led (Sign mark.LeftBracket) (items es c (Sign mark.RightBracket ∷ a ++ r)) (items es c (Sign mark.RightBracket ∷ a) ++ r) (items_parted es c (Sign mark.RightBracket ∷ a) r)
  parted (dict ps c) a r = led (Sign mark.LeftBrace) (entries ps c (Sign mark.RightBrace ∷ a ++ r)) (entries ps c (Sign mark.RightBrace ∷ a) ++ r) (entries_parted ps c (Sign mark.RightBrace ∷ a) r)
  parted (paren e) a r = led (Sign mark.LeftParen) (tokens e (Sign mark.RightParen ∷ a ++ r)) (tokens e (Sign mark.RightParen ∷ a) ++ r) (parted e (Sign mark.RightParen ∷ a) r)
  parted (not' e) a r = led (Word word.Not) (tokens e (a ++ r)) (tokens e a ++ r) (parted e a r)
  parted (and d e) a r = ap (λ (y : List Kind). tokens d (Word word.And ∷ y)) (parted e a r) ∙ parted d (Word word.And ∷ tokens e a) r
  parted (or d e) a r = ap (λ (y : List Kind). tokens d (Word word.Or ∷ y)) (parted e a r) ∙ parted d (Word word.Or ∷ tokens e a) r
  parted (unary s e) a r = led (Sign (sign_mark s)) (tokens e (a ++ r)) (tokens e a ++ r) (parted e a r)
  parted (binary op d e) a r = ap (λ (y : List Kind). tokens d (Sign (operator op) ∷ y)) (parted e a r) ∙ parted d (Sign (operator op) ∷ tokens e a) r
  parted (compare d ls) a r = ap (tokens d) (links_parted ls a r) ∙ parted d (links ls a) r
  parted (cond b t o) a r =
      ap (λ (y : List Kind). tokens b (Word word.If ∷ tokens t (Word word.Else ∷ y))) (parted o a r)
      ∙ ap (λ (y : List Kind). tokens b (Word word.If ∷ y)) (parted t (Word word.Else ∷ tokens o a) r)
      ∙ parted b (Word word.If ∷ tokens t (Word word.Else ∷ tokens o a)) r
  parted (call f es c) a r = ap (λ (y : List Kind). tokens f (Sign mark.LeftParen ∷ y)) (items_parted es c (Sign mark.RightParen ∷ a) r) ∙ parted f (Sign mark.LeftParen ∷ items es c (Sign mark.RightParen ∷ a)) r
  parted (index f e) a r = ap (λ (y : List Kind). tokens f (Sign mark.LeftBracket ∷ y)) (parted e (Sign mark.RightBracket ∷ a) r) ∙ parted f (Sign mark.LeftBracket ∷ tokens e (Sign mark.RightBracket ∷ a)) r
  parted (slice f from to) a r =
      ap (λ (y : List Kind). tokens f (Sign mark.LeftBracket ∷ bound from (Sign mark.Colon ∷ y))) (bound_parted to (Sign mark.RightBracket ∷ a) r)
      ∙ ap (λ (y : List Kind). tokens f (Sign mark.LeftBracket ∷ y)) (bound_parted from (Sign mark.Colon ∷ bound to (Sign mark.RightBracket ∷ a)) r)
      ∙ parted f (Sign mark.LeftBracket ∷ bound from (Sign mark.Colon ∷ bound to (Sign mark.RightBracket ∷ a))) r
  parted (attr f x) a r = parted f (Sign mark.Dot ∷ Name x ∷ a) r

  items_parted : (es : Exprs) (c : Bool) (a r : List Kind) → items es c (a ++ r) ≡ items es c a ++ r
  items_parted no_exprs c a r = refl
  items_parted (exprs e es) c a r = ap (tokens e) (more_parted es c a r) ∙ parted e (more es c a) r

  more_parted : (es : Exprs) (c : Bool) (a r : List Kind) → more es c (a ++ r) ≡ more es c a ++ r
  more_parted no_exprs c a r = comma_parted c a r
  more_parted (exprs e es) c a r = led (Sign mark.Comma) (tokens e (more es c (a ++ r))) (tokens e (more es c a) ++ r) (ap (tokens e) (more_parted es c a r) ∙ parted e (more es c a) r)

  entries_parted : (ps : Pairs) (c : Bool) (a r : List Kind) → entries ps c (a ++ r) ≡ entries ps c a ++ r
  entries_parted no_pairs c a r = refl
  entries_parted (pair k v ps) c a r =
      ap (λ (y : List Kind). tokens k (Sign mark.Colon ∷ tokens v y)) (more_entries_parted ps c a r)
      ∙ ap (λ (y : List Kind). tokens k (Sign mark.Colon ∷ y)) (parted v (more_entries ps c a) r)
      ∙ parted k (Sign mark.Colon ∷ tokens v (more_entries ps c a)) r

  more_entries_parted : (ps : Pairs) (c : Bool) (a r : List Kind) → more_entries ps c (a ++ r) ≡ more_entries ps c a ++ r
  more_entries_parted no_pairs c a r = comma_parted c a r
  more_entries_parted (pair k v ps) c a r = led (Sign mark.Comma) (tokens k (Sign mark.Colon ∷ tokens v (more_entries ps c (a ++ r)))) (tokens k (Sign mark.Colon ∷ tokens v (more_entries ps c a)) ++ r) (
      ap (λ (y : List Kind). tokens k (Sign mark.Colon ∷ tokens v y)) (more_entries_parted ps c a r)
      ∙ ap (λ (y : List Kind). tokens k (Sign mark.Colon ∷ y)) (parted v (more_entries ps c a) r)
      ∙ parted k (Sign mark.Colon ∷ tokens v (more_entries ps c a)) r)

  links_parted : (ls : Links) (a r : List Kind) → links ls (a ++ r) ≡ links ls a ++ r
  links_parted no_links a r = refl
  links_parted (link op e ls) a r = ap (λ (y : List Kind). comparison op (tokens e y)) (links_parted ls a r) ∙ ap (comparison op) (parted e (links ls a) r) ∙ comparison_parted op (tokens e (links ls a)) r

  bound_parted : (o : OptExpr) (a r : List Kind) → bound o (a ++ r) ≡ bound o a ++ r
  bound_parted absent a r = refl
  bound_parted (present e) a r = parted e a r
