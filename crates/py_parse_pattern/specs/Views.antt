-- The reading of a pattern as the code holds it.
use Rattle.std.specs.Prelude.{◌≡◌}
use Rattle.py_token.specs.declared.token.Keyword.{Keyword}
use Rattle.py_token.specs.declared.token.Mark.{Mark}
use Rattle.py_syntax.specs.Tree.{Pattern, Patterns}
use Rattle.py_syntax.specs.Kinds.{Word, Sign}
use Rattle.py_syntax.specs.Normal.{pattern_height, pattern_heights}
use Rattle.py_syntax.specs.View.{plain_pattern, plain_patterns}
use Rattle.py_parse_pattern.specs.declared.token_classes.TokenClass as code_class
use Rattle.py_parse_pattern.specs.declared.token_classes.TokenClass.TheVariants as class_
use Rattle.py_parse_pattern.specs.declared.nodes.Measured.{Measured}
use Rattle.py_parse_pattern.specs.declared.nodes.Many.{Many}
use Rattle.py_parse_pattern.specs.Machine.{TokenClass, a_name, a_number, a_string, a_none, a_bool, a_minus, opens, shuts, a_bar, an_as, a_comma, a_dot, other, class}

-- the class of a token
abbrev pub view_class : code_class.TokenClass → TokenClass
view_class (class_.Name x) = a_name x
view_class (class_.Number n) = a_number n
view_class (class_.Str x) = a_string x
view_class class_.NoneWord = a_none
view_class (class_.Bool b) = a_bool b
view_class class_.Minus = a_minus
view_class (class_.Open b) = opens b
view_class (class_.Close b) = shuts b
view_class class_.Bar = a_bar
view_class class_.As = an_as
view_class class_.Comma = a_comma
view_class class_.Dot = a_dot
view_class class_.Other = other

-- the class of a mark
abbrev pub mark_class : Mark → TokenClass
mark_class m = class (Sign m)

-- the class of a keyword
abbrev pub word_class : Keyword → TokenClass
word_class w = class (Word w)

-- a pattern without the height beside it
abbrev pub view_measured : Measured → Pattern
view_measured t = plain_pattern t.pattern

-- the height beside a pattern is its own
abbrev pub IsMeasured : Measured → Type 0
IsMeasured t = t.height ≡ pattern_height (view_measured t)

-- patterns in a row
abbrev pub view_many : Many → Patterns
view_many m = plain_patterns m.patterns.items

-- the height beside patterns is that of the highest
abbrev pub AreMeasured : Many → Type 0
AreMeasured m = m.height ≡ pattern_heights (view_many m)

-- the pattern that is made of others, with its height
pub record Makes (p : Pattern) (t : Measured) : Type 0 where
  pub is : view_measured t ≡ p
  pub height : t.height ≡ pattern_height p
