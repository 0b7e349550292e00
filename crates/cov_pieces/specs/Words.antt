-- What is compared of expressions, patterns and headers, as words in a row.
--     Word                         words
--     truth, operator_number ..    numbers of what stands in nodes
--     list_words                   a list, by the words of its items
--     expr_words, exprs_words      expressions; pairs_words and the like for what stands in them
--     pattern_words                patterns; constant_words and the like for what stands in them
--     alias_words, bound_words     names that are imported, and names of exceptions
use Rattle.std.specs.Prelude.{ℕ, ℤ, Bool, true, false, List, [], ◌∷◌, ◌++◌, Option, Some, None}
use Rattle.py_operator.specs.declared.operator.BinOp.{BinOp}
use Rattle.py_operator.specs.declared.operator.BinOp.TheVariants.{Add, Sub, Mul, Floor, Mod}
use Rattle.py_operator.specs.declared.operator.CmpOp.{CmpOp}
use Rattle.py_operator.specs.declared.operator.CmpOp.TheVariants.{Eq, Ne, Lt, Le, Gt, Ge, In, NotIn}
use Rattle.py_syntax.specs.declared.expr.Comparison.{Comparison}
use Rattle.py_syntax.specs.declared.expr.Comparison.TheVariants.{Op, Is, IsNot}
use Rattle.py_syntax.specs.declared.expr.Sign.{Sign}
use Rattle.py_syntax.specs.declared.expr.Sign.TheVariants.{Minus, Plus}
use Rattle.py_syntax.specs.declared.pattern.Brackets.{Brackets}
use Rattle.py_syntax.specs.declared.pattern.Brackets.TheVariants.{Round, Square, Bare}
use Rattle.py_syntax.specs.Tree.{Text, Expr, name, int, str, fstr, none, bool, tuple, list, dict, paren, not', and, or, unary, binary, compare, cond, call, index, slice, attr, Exprs, no_exprs, exprs, Pairs, no_pairs, pair, Links, no_links, link, OptExpr, absent, present, Fragments, no_fragments, plain, format, Parts, no_parts, text, field}
use Rattle.py_syntax.specs.Tree.{Constant, c_int, c_str, c_none, c_bool, Pattern, literal, capture, wild, member, sequence, p_or, p_as, p_paren, Patterns, no_patterns, patterns, Alias, Stmts}

-- a number, a whole number of the text, a text, a name that is assigned, or a row of statements
pub data Word : Type 0 where
  a_number : (n : ℕ) → Word
  an_int : (n : ℤ) → Word
  a_text : (x : Text) → Word
  assigned : (x : Text) → Word
  a_row : (b : Stmts) → Word

-- ---- what stands in nodes

-- a truth value as a word
abbrev pub truth : Bool → Word
truth true = a_number 1
truth false = a_number 0

-- the number of an operator between two values
abbrev pub operator_number : BinOp → ℕ
operator_number Add = 0
operator_number Sub = 1
operator_number Mul = 2
operator_number Floor = 3
operator_number Mod = 4

-- the number of a comparison that an operator names
abbrev pub question_number : CmpOp → ℕ
question_number Eq = 0
question_number Ne = 1
question_number Lt = 2
question_number Le = 3
question_number Gt = 4
question_number Ge = 5
question_number In = 6
question_number NotIn = 7

-- the number of a comparison
abbrev pub comparison_number : Comparison → ℕ
comparison_number (Op op) = question_number op
comparison_number Is = 8
comparison_number IsNot = 9

-- the number of a sign
abbrev pub sign_number : Sign → ℕ
sign_number Minus = 0
sign_number Plus = 1

-- the number of the brackets of a sequence pattern
abbrev pub brackets_number : Brackets → ℕ
brackets_number Round = 0
brackets_number Square = 1
brackets_number Bare = 2

-- a name that is assigned, or one that isn't
abbrev pub named : Bool → Text → Word
named true x = assigned x
named false x = a_text x

-- a list, by the words of its items
abbrev pub list_words : {A : Type 0} → (A → List Word) → List A → List Word
list_words words [] = a_number 0 ∷ []
list_words words (x ∷ xs) = a_number 1 ∷ (words x ++ list_words words xs)

-- a name, or a piece of a string
abbrev pub text_words : Text → List Word
text_words x = a_text x ∷ []

-- names, or pieces of a string
abbrev pub texts_words : List Text → List Word
texts_words xs = list_words text_words xs

-- ---- expressions

abbrev mutual
  -- an expression, and whether the names that are its targets are assigned
  pub expr_words : Bool → Expr → List Word
  expr_words to (name x) = a_number 0 ∷ named to x ∷ []
  expr_words to (int n) = a_number 1 ∷ an_int n ∷ []
  expr_words to (str ps) = a_number 2 ∷ texts_words ps
  expr_words to (fstr fs) = a_number 3 ∷ fragments_words fs
  expr_words to none = a_number 4 ∷ []
  expr_words to (bool b) = a_number 5 ∷ truth b ∷ []
  expr_words to (tuple es c) = a_number 6 ∷ (exprs_words to es ++ truth c ∷ [])
  expr_words to (list es c) = a_number 7 ∷ (exprs_words to es ++ truth c ∷ [])
  expr_words to (dict ps c) = a_number 8 ∷ (pairs_words ps ++ truth c ∷ [])
  expr_words to (paren e) = a_number 9 ∷ expr_words to e
  expr_words to (not' e) = a_number 10 ∷ expr_words false e
  expr_words to (and a b) = a_number 11 ∷ (expr_words false a ++ expr_words false b)
  expr_words to (or a b) = a_number 12 ∷ (expr_words false a ++ expr_words false b)
  expr_words to (unary s e) = a_number 13 ∷ a_number (sign_number s) ∷ expr_words false e
  expr_words to (binary op a b) =
      a_number 14 ∷ a_number (operator_number op) ∷ (expr_words false a ++ expr_words false b)
  expr_words to (compare a ls) = a_number 15 ∷ (expr_words false a ++ links_words ls)
  expr_words to (cond a b c) =
      a_number 16 ∷ (expr_words false a ++ (expr_words false b ++ expr_words false c))
  expr_words to (call f es c) =
      a_number 17 ∷ (expr_words false f ++ (exprs_words false es ++ truth c ∷ []))
  expr_words to (index f e) = a_number 18 ∷ (expr_words false f ++ expr_words false e)
  expr_words to (slice f a b) = a_number 19 ∷ (expr_words false f ++ (opt_words a ++ opt_words b))
  expr_words to (attr f x) = a_number 20 ∷ (expr_words false f ++ a_text x ∷ [])

  -- expressions in a row
  pub exprs_words : Bool → Exprs → List Word
  exprs_words to no_exprs = a_number 0 ∷ []
  exprs_words to (exprs e es) = a_number 1 ∷ (expr_words to e ++ exprs_words to es)

  -- the keys and values of a dict
  pub pairs_words : Pairs → List Word
  pairs_words no_pairs = a_number 0 ∷ []
  pairs_words (pair k e ps) =
      a_number 1 ∷ (expr_words false k ++ (expr_words false e ++ pairs_words ps))

  -- the operators and operands of a chain of comparisons
  pub links_words : Links → List Word
  links_words no_links = a_number 0 ∷ []
  links_words (link c e ls) =
      a_number 1 ∷ a_number (comparison_number c) ∷ (expr_words false e ++ links_words ls)

  -- a bound of a slice, which may be missing
  pub opt_words : OptExpr → List Word
  opt_words absent = a_number 0 ∷ []
  opt_words (present e) = a_number 1 ∷ expr_words false e

  -- the pieces of an f-string
  pub fragments_words : Fragments → List Word
  fragments_words no_fragments = a_number 0 ∷ []
  fragments_words (plain x fs) = a_number 1 ∷ a_text x ∷ fragments_words fs
  fragments_words (format ps fs) = a_number 2 ∷ (parts_words ps ++ fragments_words fs)

  -- what stands in a piece of an f-string
  pub parts_words : Parts → List Word
  parts_words no_parts = a_number 0 ∷ []
  parts_words (text x ps) = a_number 1 ∷ a_text x ∷ parts_words ps
  parts_words (field e ps) = a_number 2 ∷ (expr_words false e ++ parts_words ps)

-- an expression of a statement, which may be missing
abbrev pub maybe_words : Option Expr → List Word
maybe_words None = a_number 0 ∷ []
maybe_words (Some e) = a_number 1 ∷ expr_words false e

-- ---- patterns, and names that statements bind

-- the constants of patterns
abbrev pub constant_words : Constant → List Word
constant_words (c_int n) = a_number 0 ∷ an_int n ∷ []
constant_words (c_str ps) = a_number 1 ∷ texts_words ps
constant_words c_none = a_number 2 ∷ []
constant_words (c_bool b) = a_number 3 ∷ truth b ∷ []

abbrev mutual
  -- a pattern, and the names that it captures
  pub pattern_words : Pattern → List Word
  pattern_words (literal m c) = a_number 0 ∷ truth m ∷ constant_words c
  pattern_words (capture x) = a_number 1 ∷ assigned x ∷ []
  pattern_words wild = a_number 2 ∷ []
  pattern_words (member m x) = a_number 3 ∷ a_text m ∷ a_text x ∷ []
  pattern_words (sequence b ps c) =
      a_number 4 ∷ a_number (brackets_number b) ∷ (patterns_words ps ++ truth c ∷ [])
  pattern_words (p_or ps) = a_number 5 ∷ patterns_words ps
  pattern_words (p_as p x) = a_number 6 ∷ (pattern_words p ++ assigned x ∷ [])
  pattern_words (p_paren p) = a_number 7 ∷ pattern_words p

  -- patterns in a row
  pub patterns_words : Patterns → List Word
  patterns_words no_patterns = a_number 0 ∷ []
  patterns_words (patterns p ps) = a_number 1 ∷ (pattern_words p ++ patterns_words ps)

-- a name that is imported, as itself or under another name
abbrev pub import_words : Text → Option Text → List Word
import_words x None = a_number 0 ∷ assigned x ∷ []
import_words x (Some y) = a_number 1 ∷ a_text x ∷ assigned y ∷ []

-- an import of one name
abbrev pub alias_words : Alias → List Word
alias_words i = import_words i.name i.bound

-- the name of an exception, which may be missing
abbrev pub bound_words : Option Text → List Word
bound_words None = a_number 0 ∷ []
bound_words (Some x) = a_number 1 ∷ assigned x ∷ []
