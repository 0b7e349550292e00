-- What is equal is the same.
use Rattle.std.proofs.Common.{◌≡◌, Bool, true, false, ◌&&◌, IsTrue, ℤ, pos, negsuc, List, [], ◌∷◌, Option, Some, None, refl, subst, ◌⊎◌, inl, inr}
use Rattle.std.proofs.lemmas.Bool.{eq-eqb}
use Rattle.py_operator.specs.declared.operator.BinOp.{BinOp}
use Rattle.py_operator.specs.declared.operator.BinOp.TheVariants.{Add, Sub, Mul, Floor, Mod}
use Rattle.py_text.specs.Comparison.{is_same_text}
use Rattle.py_text.proofs.SameTexts.{text_is_same}
use Rattle.py_text.proofs.TestLaws.{both_true}
use Rattle.py_syntax.specs.declared.pattern.Brackets.{Brackets}
use Rattle.py_syntax.specs.declared.pattern.Brackets.TheVariants.{Round, Square, Bare}
use Rattle.py_syntax.specs.Tree.{Text, Expr, Alias, Constant, c_int, c_str, c_none, c_bool, Pattern, literal, capture, wild, member, sequence, p_or, p_as, p_paren, Patterns, no_patterns, patterns}
use Rattle.py_changes.specs.Same.{same_bool, same_operator, same_list, same_option, same_texts, same_alias, same_maybe, same_expr, same_int, same_brackets, same_constant, same_pattern, same_patterns}
use Rattle.py_changes.proofs.SameItself.{expr-self}

pub no-true : {A : Type 0} → false ≡ true → A
no-true h = absurd cc

pub bool-self : (b : Bool) → IsTrue (same_bool b b)
bool-self true = refl
bool-self false = refl

pub operator-self : (op : BinOp) → IsTrue (same_operator op op)
operator-self Add = refl
operator-self Sub = refl
operator-self Mul = refl
operator-self Floor = refl
operator-self Mod = refl

pub list-self : {A : Type 0} (same : A → A → Bool) → ((x : A) → IsTrue (same x x)) → (xs : List A)
    → IsTrue (same_list same xs xs)
list-self same self [] = refl
list-self same self (x ∷ xs) =
    both_true (same x x) (same_list same xs xs) (self x) (list-self same self xs)

pub option-self : {A : Type 0} (same : A → A → Bool) → ((x : A) → IsTrue (same x x))
    → (o : Option A) → IsTrue (same_option same o o)
option-self same self None = refl
option-self same self (Some x) = self x

pub texts-self : (xs : List Text) → IsTrue (same_texts xs xs)
texts-self xs = list-self is_same_text text_is_same xs

pub alias-self : (a : Alias) → IsTrue (same_alias a a)
alias-self a =
    both_true (is_same_text a.name a.name) _ (text_is_same a.name)
    (option-self is_same_text text_is_same a.bound)

pub maybe-self : (e : Option Expr) → IsTrue (same_maybe e e)
maybe-self e = option-self same_expr expr-self e

int-self : (n : ℤ) → IsTrue (same_int n n)
int-self (pos n) = eq-eqb n n refl
int-self (negsuc n) = eq-eqb n n refl

brackets-self : (b : Brackets) → IsTrue (same_brackets b b)
brackets-self Round = refl
brackets-self Square = refl
brackets-self Bare = refl

constant-self : (c : Constant) → IsTrue (same_constant c c)
constant-self (c_int n) = int-self n
constant-self (c_str ps) = texts-self ps
constant-self c_none = refl
constant-self (c_bool b) = bool-self b

mutual
  pub pattern-self : (p : Pattern) → IsTrue (same_pattern p p)
  pattern-self (literal m c) = both_true _ _ (bool-self m) (constant-self c)
  pattern-self (capture x) = text_is_same x
  pattern-self wild = refl
  pattern-self (member m x) = both_true _ _ (text_is_same m) (text_is_same x)
  pattern-self (sequence b ps c) =
      both_true _ _ (brackets-self b) (both_true _ _ (patterns-self ps) (bool-self c))
  pattern-self (p_or ps) = patterns-self ps
  pattern-self (p_as p x) = both_true _ _ (pattern-self p) (text_is_same x)
  pattern-self (p_paren p) = pattern-self p

  patterns-self : (ps : Patterns) → IsTrue (same_patterns ps ps)
  patterns-self no_patterns = refl
  patterns-self (patterns p ps) = both_true _ _ (pattern-self p) (patterns-self ps)

-- what is equal, by what is the same as itself
pub equal-same : {A : Type 0} (same : A → A → Bool) → ((x : A) → IsTrue (same x x)) → (x y : A)
    → x ≡ y → IsTrue (same x y)
equal-same same self x y p = subst (λ z. IsTrue (same x z)) p (self x)

-- two tests of which each holds, or else something
pub both-ways : {C : Type 0} (a b : Bool) → IsTrue a ⊎ C → IsTrue b ⊎ C → IsTrue (a && b) ⊎ C
both-ways a b (inl h) (inl k) = inl (both_true a b h k)
both-ways a b (inl h) (inr c) = inr c
both-ways a b (inr c) k = inr c
