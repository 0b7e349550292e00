-- Classes of tokens and expressions as the code holds them.
--     view_fields, view_class, ValidClass     the class of a token
--     plain_class .. word_class               its class without what it holds
--     capped, view_measured, IsMeasured       an expression with its height
--     view_row .. AreFields                   lists of such expressions
--     plains, view_strings, ValidStrings      strings side by side
--     view_opener .. ValidBound               what opened a bracket, and the bound of a slice
--     Makes                                   a tree that is made of others
use Rattle.std.specs.Prelude.{◌≡◌, ℕ, suc, min, max, true, List, [], ◌∷◌, Option, Some, None}
use Rattle.py_token.specs.declared.token.Keyword.{Keyword}
use Rattle.py_token.specs.declared.token.Mark.{Mark}
use Rattle.py_syntax.specs.Tree.{Text, Expr, Exprs, Pairs, Links, OptExpr, absent, present, Fragments, no_fragments, plain, Parts}
use Rattle.py_syntax.specs.Kinds.{Word, Sign, End}
use Rattle.py_syntax.specs.Normal.{is_target, are_targets, height, heights, height_entries, height_links, height_fragments, height_parts}
use Rattle.py_syntax.specs.View.{plain_expr, plain_exprs, plain_pairs, plain_links, plain_fragments, plain_parts}
use Rattle.py_syntax.specs.Spelling.{HEIGHT}
use Rattle.py_parse_expr.specs.declared.expr_classes.TokenClass as code_class
use Rattle.py_parse_expr.specs.declared.expr_classes.TokenClass.TheVariants as class_
use Rattle.py_parse_expr.specs.declared.expr_nodes.Measured.{Measured}
use Rattle.py_parse_expr.specs.declared.expr_nodes.Row.{Row}
use Rattle.py_parse_expr.specs.declared.expr_nodes.Entries.{Entries}
use Rattle.py_parse_expr.specs.declared.expr_nodes.Chain.{Chain}
use Rattle.py_parse_expr.specs.declared.expr_nodes.Fields.{Fields}
use Rattle.py_parse_expr.specs.declared.expr_nodes.Strings as code_strings
use Rattle.py_parse_expr.specs.declared.expr_nodes.Strings.TheVariants as strings_
use Rattle.py_parse_expr.specs.declared.expr_nodes.Opener as code_opener
use Rattle.py_parse_expr.specs.declared.expr_nodes.Opener.TheVariants as opener_
use Rattle.py_grammar.specs.TokenClasses.{TokenClass, t_name, t_int, t_none, t_bool, t_string, t_format, t_bad_format, t_other}
use Rattle.py_grammar.specs.Machine.{Opener, a_call, a_list, has_format, class}
use Rattle.py_parse_fields.specs.Frames.{view_symbol}

-- the parts of an f-string
abbrev pub view_fields : Fields → Parts
view_fields fs = plain_parts fs.parts.items

-- the class of a token
abbrev pub view_class : code_class.TokenClass → TokenClass
view_class (class_.Name x) = t_name x
view_class (class_.Int n) = t_int n
view_class class_.NoneWord = t_none
view_class (class_.Bool b) = t_bool b
view_class (class_.Str x) = t_string x
view_class (class_.Format fs) = t_format (view_fields fs)
view_class (class_.Symbol s) = view_symbol s

-- a class where all that stand in no expression are one, and all f-strings too
abbrev pub plain_class : TokenClass → TokenClass
plain_class (t_format ps) = t_other End
plain_class (t_bad_format ps) = t_other End
plain_class (t_other k) = t_other End
plain_class r = r

-- the class of a mark
abbrev pub mark_class : Mark → TokenClass
mark_class m = plain_class (class (Sign m))

-- the class of a keyword
abbrev pub word_class : Keyword → TokenClass
word_class w = plain_class (class (Word w))

-- ---- heights, of which those above the limit are one

-- a height, or one more than the limit
abbrev pub capped : ℕ → ℕ
capped n = min n (suc HEIGHT)

-- an expression without its height
abbrev pub view_measured : Measured → Expr
view_measured t = plain_expr t.expr.value

-- what is kept beside a tree is what it says
pub record IsMeasured (t : Measured) : Type 0 where
  pub height : t.height ≡ capped (height (view_measured t))
  pub target : t.target ≡ is_target (view_measured t)

-- expressions in a row
abbrev pub view_row : Row → Exprs
view_row r = plain_exprs r.items.items

-- what is kept beside expressions in a row is what they say
pub record AreMeasured (r : Row) : Type 0 where
  pub height : r.height ≡ capped (heights (view_row r))
  pub targets : r.targets ≡ are_targets (view_row r)

-- keys with their values
abbrev pub view_entries : Entries → Pairs
view_entries ps = plain_pairs ps.pairs.items

-- the height beside them is their own
abbrev pub AreEntries : Entries → Type 0
AreEntries ps = ps.height ≡ capped (height_entries (view_entries ps))

-- the comparisons of a chain
abbrev pub view_links : Chain → Links
view_links c = plain_links c.links.items

-- the height beside a chain is its own
abbrev pub IsChain : Chain → Type 0
IsChain c =
    c.height ≡ capped (max (height (plain_expr c.first.value)) (height_links (view_links c)))

-- the height beside the parts of an f-string is their own
abbrev pub AreFields : Fields → Type 0
AreFields fs = fs.height ≡ capped (height_parts (view_fields fs))

-- strings that are no f-strings
abbrev pub plains : List Text → Fragments
plains [] = no_fragments
plains (x ∷ xs) = plain x (plains xs)

-- neighbouring strings
abbrev pub view_strings : code_strings.Strings → Fragments
view_strings (strings_.Plain xs) = plains xs.items
view_strings (strings_.Mixed fs h) = plain_fragments fs.items

-- strings with an f-string among them keep their height
abbrev pub ValidStrings : code_strings.Strings → Type 0
ValidStrings (strings_.Plain xs) = Unit {0}
ValidStrings (strings_.Mixed fs h) =
    (has_format (plain_fragments fs.items) ≡ true)
    × (h ≡ capped (height_fragments (plain_fragments fs.items)))

-- what opened a bracket that holds items
abbrev pub view_opener : code_opener.Opener → Opener
view_opener (opener_.Call t) = a_call (view_measured t)
view_opener opener_.List = a_list

-- what is kept beside its tree is what it says
abbrev pub ValidOpener : code_opener.Opener → Type 0
ValidOpener (opener_.Call t) = IsMeasured t
ValidOpener opener_.List = Unit {0}

-- a bound of a slice, where there is one
abbrev pub view_bound : Option Measured → OptExpr
view_bound None = absent
view_bound (Some t) = present (view_measured t)

-- what is kept beside its tree is what it says
abbrev pub ValidBound : Option Measured → Type 0
ValidBound None = Unit {0}
ValidBound (Some t) = IsMeasured t

-- what is kept beside the trees of an f-string is what they say
abbrev pub ValidClass : code_class.TokenClass → Type 0
ValidClass (class_.Format fs) = AreFields fs
ValidClass r = Unit {0}

-- the tree that is made of others
pub record Makes (e : Expr) (t : Measured) : Type 0 where
  pub is : view_measured t ≡ e
  pub valid : IsMeasured t
