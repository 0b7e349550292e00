-- Small lists of tokens with what the machine reads of them.
use Rattle.std.proofs.Common.{◌≡◌, ℕ, zero, suc, pos, true, false, List, [], ◌∷◌, ◌++◌, Option, Some, None, refl}
use Rattle.py_operator.specs.declared.operator.BinOp.TheVariants as op_
use Rattle.py_operator.specs.declared.operator.CmpOp.TheVariants as cmp_
use Rattle.py_token.specs.declared.token.Keyword.TheVariants as word
use Rattle.py_token.specs.declared.token.Mark.TheVariants as mark
use Rattle.py_syntax.specs.declared.expr.Comparison.TheVariants.{Op, IsNot}
use Rattle.py_syntax.specs.declared.expr.Sign.TheVariants as sign_
use Rattle.py_syntax.specs.Tree.{Expr, name, str, fstr, none, tuple, list, dict, paren, not', and, or, unary, binary, compare, cond, call, index, slice, attr, no_exprs, exprs, no_pairs, pair, no_links, link, absent, present, no_fragments, plain, format, no_parts, text, field}
use Rattle.py_syntax.specs.Kinds.{Kind, Name, Word, Int, Str, FString, Sign, End, no_pieces, chars_piece, field_piece, no_kinds, kinds_of}
use Rattle.py_grammar.specs.Machine.{Goal, any, one, target, State, Out, Next, Stuck, Left, start, step, class, Refused, Leaves, run}
use Rattle.py_grammar.specs.Least.{least}

abbrev A : Kind
A = Name (97 ∷ [])

abbrev B : Kind
B = Name (98 ∷ [])

abbrev C : Kind
C = Name (99 ∷ [])

abbrev D : Kind
D = Name (100 ∷ [])

abbrev F : Kind
F = Name (101 ∷ [])

abbrev a : Expr
a = name (97 ∷ [])

abbrev b : Expr
b = name (98 ∷ [])

abbrev c : Expr
c = name (99 ∷ [])

abbrev d : Expr
d = name (100 ∷ [])

abbrev f : Expr
f = name (101 ∷ [])

abbrev lp : Kind
lp = Sign mark.LeftParen

abbrev rp : Kind
rp = Sign mark.RightParen

abbrev lb : Kind
lb = Sign mark.LeftBracket

abbrev rb : Kind
rb = Sign mark.RightBracket

abbrev lc : Kind
lc = Sign mark.LeftBrace

abbrev rc : Kind
rc = Sign mark.RightBrace

abbrev comma : Kind
comma = Sign mark.Comma

abbrev colon : Kind
colon = Sign mark.Colon

abbrev dot : Kind
dot = Sign mark.Dot

abbrev plus : Kind
plus = Sign mark.Plus

abbrev minus : Kind
minus = Sign mark.Minus

abbrev star : Kind
star = Sign mark.Star

abbrev less : Kind
less = Sign mark.Less

abbrev eq : Kind
eq = Sign mark.EqualEqual

-- the list is that of the expression
abbrev Reads : Goal → List Kind → Expr → Type 0
Reads g ts e = run (start g) (ts ++ End ∷ []) ≡ Leaves e (End ∷ [])

-- the list is refused where these tokens still stand
abbrev Stops : Goal → List Kind → List Kind → Type 0
Stops g ts rest = run (start g) (ts ++ rest ++ End ∷ []) ≡ Refused (rest ++ End ∷ [])

not_equal : Reads any (Word word.Not ∷ A ∷ eq ∷ B ∷ []) (not' (compare a (link (Op cmp_.Eq) b no_links)))
not_equal = refl

sums : Reads any (A ∷ minus ∷ B ∷ star ∷ C ∷ plus ∷ D ∷ []) (binary op_.Add (binary op_.Sub a (binary op_.Mul b c)) d)
sums = refl

signs : Reads any (minus ∷ plus ∷ A ∷ dot ∷ B ∷ star ∷ minus ∷ C ∷ []) (binary op_.Mul (unary sign_.Minus (unary sign_.Plus (attr a (98 ∷ [])))) (unary sign_.Minus c))
signs = refl

chain : Reads any (A ∷ less ∷ B ∷ Sign mark.LessEqual ∷ C ∷ Word word.In ∷ D ∷ []) (compare a (link (Op cmp_.Lt) b (link (Op cmp_.Le) c (link (Op cmp_.In) d no_links))))
chain = refl

not_in : Reads any (A ∷ Word word.Not ∷ Word word.In ∷ B ∷ plus ∷ C ∷ []) (compare a (link (Op cmp_.NotIn) (binary op_.Add b c) no_links))
not_in = refl

is_not_none : Reads any (A ∷ Word word.Is ∷ Word word.Not ∷ Word word.None ∷ eq ∷ B ∷ Word word.And ∷ C ∷ []) (and (compare a (link IsNot none (link (Op cmp_.Eq) b no_links))) c)
is_not_none = refl

conditions : Reads any (A ∷ Word word.If ∷ B ∷ Word word.Else ∷ C ∷ Word word.If ∷ D ∷ Word word.Else ∷ F ∷ []) (cond a b (cond c d f))
conditions = refl

or_and : Reads any (A ∷ Word word.Or ∷ B ∷ Word word.And ∷ C ∷ Word word.Or ∷ D ∷ []) (or (or a (and b c)) d)
or_and = refl

one_tuple : Reads any (A ∷ comma ∷ []) (tuple (exprs a no_exprs) true)
one_tuple = refl

tuple_in_brackets : Reads any (lp ∷ A ∷ comma ∷ B ∷ comma ∷ rp ∷ []) (paren (tuple (exprs a (exprs b no_exprs)) true))
tuple_in_brackets = refl

empty_tuple : Reads any (lp ∷ rp ∷ []) (tuple no_exprs false)
empty_tuple = refl

call_with_items : Reads any (A ∷ lp ∷ rp ∷ lp ∷ B ∷ comma ∷ C ∷ comma ∷ rp ∷ []) (call (call a no_exprs false) (exprs b (exprs c no_exprs)) true)
call_with_items = refl

lists : Reads any (lb ∷ rb ∷ comma ∷ lb ∷ A ∷ comma ∷ rb ∷ []) (tuple (exprs (list no_exprs false) (exprs (list (exprs a no_exprs) true) no_exprs)) false)
lists = refl

dicts : Reads any (lc ∷ A ∷ colon ∷ B ∷ comma ∷ C ∷ colon ∷ lc ∷ rc ∷ rc ∷ []) (dict (pair a b (pair c (dict no_pairs false) no_pairs)) false)
dicts = refl

indices : Reads any (A ∷ lb ∷ B ∷ comma ∷ rb ∷ lb ∷ C ∷ rb ∷ []) (index (index a (tuple (exprs b no_exprs) true)) c)
indices = refl

slices : Reads any (A ∷ lb ∷ colon ∷ rb ∷ lb ∷ B ∷ colon ∷ rb ∷ lb ∷ colon ∷ C ∷ rb ∷ lb ∷ B ∷ colon ∷ C ∷ rb ∷ []) (slice (slice (slice (slice a absent absent) (present b) absent) absent (present c)) (present b) (present c))
slices = refl

strings : Reads any (Str (97 ∷ []) ∷ Str [] ∷ plus ∷ Str (98 ∷ []) ∷ []) (binary op_.Add (str ((97 ∷ []) ∷ [] ∷ [])) (str ((98 ∷ []) ∷ [])))
strings = refl

fields : Reads any (Str (97 ∷ []) ∷ FString (chars_piece (98 ∷ []) (field_piece (kinds_of (A ∷ comma ∷ B ∷ [])) no_pieces)) ∷ []) (fstr (plain (97 ∷ []) (format (text (98 ∷ []) (field (tuple (exprs a (exprs b no_exprs)) false) no_parts)) no_fragments)))
fields = refl

-- f"{}", f"{x:>5}", and a field with an unclosed bracket
no_field : Stops any [] (FString (field_piece no_kinds no_pieces) ∷ [])
no_field = refl

field_with_format : Stops any [] (FString (field_piece (kinds_of (A ∷ colon ∷ Sign mark.Greater ∷ Int (pos 5) ∷ [])) no_pieces) ∷ [])
field_with_format = refl

cut_field : Stops any (A ∷ plus ∷ []) (FString (field_piece (kinds_of (lp ∷ A ∷ [])) no_pieces) ∷ [])
cut_field = refl

tuple_in_slice : Stops any (A ∷ lb ∷ B ∷ comma ∷ C ∷ []) (colon ∷ rb ∷ [])
tuple_in_slice = refl

not_as_operand : Stops any (A ∷ plus ∷ []) (Word word.Not ∷ B ∷ [])
not_as_operand = refl

is_name : Stops any (A ∷ Word word.Is ∷ []) (B ∷ [])
is_name = refl

lonely_comma : Stops any (lp ∷ []) (comma ∷ rp ∷ [])
lonely_comma = refl

if_without_else : Stops any (lp ∷ A ∷ Word word.If ∷ B ∷ []) (rp ∷ [])
if_without_else = refl

one_has_no_comma : run (start one) (A ∷ comma ∷ B ∷ []) ≡ Leaves a (comma ∷ B ∷ [])
one_has_no_comma = refl

-- ---- targets

target_list : run (start target) (A ∷ comma ∷ B ∷ lb ∷ C ∷ rb ∷ comma ∷ Word word.In ∷ []) ≡ Leaves (tuple (exprs a (exprs (index b c) no_exprs)) true) (Word word.In ∷ [])
target_list = refl

target_in_brackets : run (start target) (lp ∷ A ∷ comma ∷ lb ∷ B ∷ rb ∷ rp ∷ Word word.In ∷ []) ≡ Leaves (paren (tuple (exprs a (exprs (list (exprs b no_exprs) false) no_exprs)) false)) (Word word.In ∷ [])
target_in_brackets = refl

index_of_call : run (start target) (A ∷ lp ∷ rp ∷ lb ∷ B ∷ rb ∷ Word word.In ∷ []) ≡ Leaves (index (call a no_exprs false) b) (Word word.In ∷ [])
index_of_call = refl

no_target : run (start target) (A ∷ lp ∷ rp ∷ Word word.In ∷ []) ≡ Refused (Word word.In ∷ [])
no_target = refl

no_item : run (start target) (B ∷ comma ∷ A ∷ dot ∷ B ∷ comma ∷ []) ≡ Refused (comma ∷ [])
no_item = refl

no_name : run (start target) (Word word.Not ∷ []) ≡ Refused (Word word.Not ∷ [])
no_name = refl

-- ---- least heights

-- the least height after a list of tokens, where all are taken
abbrev low : State → List Kind → Option ℕ
low s [] = Some (least s)
low s (t ∷ ts) = elim (step s (class t)) as (λ (o : Out). Option ℕ) [ Next n ↦ low n ts | Stuck ↦ None | Left e ↦ None ]

abbrev opened : ℕ → List Kind → List Kind
opened zero ts = ts
opened (suc n) ts = lp ∷ opened n ts

-- In 199 pairs of brackets a number is no higher than 200, and in 200 pairs it is.
deep_brackets : low (start any) (opened 200 []) ≡ Some 200
deep_brackets = refl

number_in_199 : low (start any) (opened 199 (Int (pos 0) ∷ [])) ≡ Some 200
number_in_199 = refl

number_in_200 : low (start any) (opened 200 (Int (pos 0) ∷ [])) ≡ Some 201
number_in_200 = refl

comma_of_tuple : low (start any) (A ∷ plus ∷ B ∷ comma ∷ []) ≡ Some 3
comma_of_tuple = refl

-- a call is no target, so an index has to follow
call_as_target : low (start target) (A ∷ lp ∷ []) ≡ Some 3
call_as_target = refl

index_as_target : low (start target) (A ∷ lp ∷ rp ∷ lb ∷ []) ≡ Some 3
index_as_target = refl

-- the item of a list is made a target, and not the list
item_as_target : low (start target) (lb ∷ lb ∷ lb ∷ lb ∷ A ∷ rb ∷ rb ∷ rb ∷ comma ∷ B ∷ lp ∷ rp ∷ []) ≡ Some 5
item_as_target = refl

item_that_is_none : low (start target) (lb ∷ lb ∷ lb ∷ lb ∷ A ∷ rb ∷ rb ∷ rb ∷ comma ∷ B ∷ lp ∷ rp ∷ comma ∷ []) ≡ Some 6
item_that_is_none = refl
