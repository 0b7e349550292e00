-- The patterns of a `case`, read a token at a time: a stack of what is open, and a step for each
-- token (The Python Language Reference, "Patterns").
--     TokenClass, class .. same_bracket     what a token can be to a pattern
--     snoc .. ended                         the trees of items and alternatives
--     Frame, Stack, State, Out              what is open, a place, and what a token makes of it
--     offer .. step, start                  the steps
--     Verdict, run                          the reading of a list
--     put .. least                          the least pattern that goes on from a state
--     Ending, within                        a reading under a limit
use Rattle.std.specs.Prelude.{ℕ, nat_eq, nat_le, ℤ, pos, Bool, true, false, cond, List, [], ◌∷◌, ◌++◌}
use Rattle.py_token.specs.declared.token.Keyword.TheVariants as word
use Rattle.py_token.specs.declared.token.Mark.{Mark}
use Rattle.py_token.specs.declared.token.Mark.TheVariants as mark
use Rattle.py_syntax.specs.declared.pattern.Brackets.{Brackets}
use Rattle.py_syntax.specs.declared.pattern.Brackets.TheVariants as brackets_
use Rattle.py_syntax.specs.Tree.{Text, c_int, c_str, c_none, c_bool, Pattern, literal, capture, wild, member, sequence, p_or, p_as, p_paren, Patterns, no_patterns, patterns}
use Rattle.py_syntax.specs.Kinds.{Kind, Name, Word, Int, Str, Sign}
use Rattle.py_syntax.specs.Normal.{pattern_height}
use Rattle.py_parse_pattern.specs.declared.token_classes.Bracket.{Bracket}
use Rattle.py_parse_pattern.specs.declared.token_classes.Bracket.TheVariants.{Round, Square}

-- ---- tokens

-- what a token can be to a pattern
pub data TokenClass : Type 0 where
  a_name : (x : Text) → TokenClass
  a_number : (n : ℤ) → TokenClass
  a_string : (x : Text) → TokenClass
  a_none : TokenClass
  a_bool : (b : Bool) → TokenClass
  a_minus : TokenClass
  opens : (b : Bracket) → TokenClass
  shuts : (b : Bracket) → TokenClass
  a_bar : TokenClass
  an_as : TokenClass
  a_comma : TokenClass
  a_dot : TokenClass
  other : TokenClass

-- the class of a token; all that stand in no pattern are one
abbrev pub class : Kind → TokenClass
class (Name x) = a_name x
class (Int n) = a_number n
class (Str x) = a_string x
class (Word word.None) = a_none
class (Word word.True) = a_bool true
class (Word word.False) = a_bool false
class (Word word.As) = an_as
class (Sign mark.Minus) = a_minus
class (Sign mark.LeftParen) = opens Round
class (Sign mark.LeftBracket) = opens Square
class (Sign mark.RightParen) = shuts Round
class (Sign mark.RightBracket) = shuts Square
class (Sign mark.Bar) = a_bar
class (Sign mark.Comma) = a_comma
class (Sign mark.Dot) = a_dot
class t = other

-- the mark that opens a bracket
abbrev pub open_mark : Bracket → Mark
open_mark Round = mark.LeftParen
open_mark Square = mark.LeftBracket

-- the mark that closes it
abbrev pub shut_mark : Bracket → Mark
shut_mark Round = mark.RightParen
shut_mark Square = mark.RightBracket

-- the brackets of a sequence
abbrev pub brackets_of : Bracket → Brackets
brackets_of Round = brackets_.Round
brackets_of Square = brackets_.Square

-- whether two brackets are the same
abbrev pub same_bracket : Bracket → Bracket → Bool
same_bracket Round Round = true
same_bracket Square Square = true
same_bracket b c = false

-- ---- trees

-- items with one more
abbrev pub snoc : Patterns → Pattern → Patterns
snoc no_patterns p = patterns p no_patterns
snoc (patterns q qs) p = patterns q (snoc qs p)

-- whether there is an item
abbrev pub is_some : Patterns → Bool
is_some no_patterns = false
is_some (patterns p ps) = true

-- whether a name is `_`
abbrev pub is_underscore : Text → Bool
is_underscore [] = false
is_underscore (c ∷ []) = nat_eq c 95
is_underscore (c ∷ d ∷ cs) = false

-- a name alone
abbrev pub named : Text → Pattern
named x = cond (is_underscore x) wild (capture x)

-- the last of some alternatives
abbrev pub joined : Patterns → Pattern → Pattern
joined no_patterns p = p
joined (patterns q qs) p = p_or (patterns q (snoc qs p))

-- what brackets hold where the last item has no comma after it
abbrev pub enclosed : Bracket → Patterns → Pattern → Pattern
enclosed Round no_patterns p = p_paren p
enclosed b is p = sequence (brackets_of b) (snoc is p) false

-- the same with no brackets
abbrev pub listed : Patterns → Pattern → Pattern
listed no_patterns p = p
listed is p = sequence brackets_.Bare (snoc is p) false

-- what brackets hold where each item has a comma after it
abbrev pub ended : Bracket → Patterns → Pattern
ended b is = sequence (brackets_of b) is (is_some is)

-- ---- what is open

-- A bracket that is open, with the items and the alternatives that stand in front of it in its own
-- row.
pub data Frame : Type 0 where
  frame : (b : Bracket) (items alternatives : Patterns) → Frame

-- The innermost row, and the brackets that are open round it, from the inside.
pub data Stack : Type 0 where
  stack : (items alternatives : Patterns) (frames : List Frame) → Stack

-- A place in a pattern, with what was read of the innermost row.
pub data State : Type 0 where
  -- a pattern begins here, or its row ends
  Want : (k : Stack) → State
  -- after a minus
  Minus : (k : Stack) → State
  -- after a name
  Named : (x : Text) (k : Stack) → State
  -- after a name and a dot
  Dotted : (m : Text) (k : Stack) → State
  -- after a run of strings
  Strings : (xs : List Text) (k : Stack) → State
  -- after a closed pattern
  Have : (p : Pattern) (k : Stack) → State
  -- after `as`
  Naming : (p : Pattern) (items : Patterns) (frames : List Frame) → State
  -- after the name that follows `as`
  Item : (p : Pattern) (items : Patterns) (frames : List Frame) → State

-- What a token does. Left: the outermost pattern is whole, and the token isn't taken.
pub data Out : Type 0 where
  Next : (s : State) → Out
  Stuck : Out
  Left : (p : Pattern) → Out

-- an item is whole
abbrev pub offer : Pattern → Patterns → List Frame → TokenClass → Out
offer p is fs a_comma = Next (Want (stack (snoc is p) no_patterns fs))
offer p is [] c = Left (listed is p)
offer p is (frame b js bs ∷ fs) (shuts d) =
    cond (same_bracket b d) (Next (Have (enclosed b is p) (stack js bs fs))) Stuck
offer p is (f ∷ fs) c = Stuck

-- a closed pattern is whole
abbrev pub give : Pattern → Stack → TokenClass → Out
give p (stack is as' fs) a_bar = Next (Want (stack is (snoc as' p) fs))
give p (stack is as' fs) an_as = Next (Naming (joined as' p) is fs)
give p (stack is as' fs) c = offer (joined as' p) is fs c

-- a list with no brackets ends after these items, each with its comma
abbrev pub leave : Patterns → Out
leave no_patterns = Stuck
leave is = Left (sequence brackets_.Bare is true)

-- a row ends after such items
abbrev pub shut : Patterns → List Frame → TokenClass → Out
shut is [] c = leave is
shut is (frame b js bs ∷ fs) (shuts d) =
    cond (same_bracket b d) (Next (Have (ended b is) (stack js bs fs))) Stuck
shut is (f ∷ fs) c = Stuck

-- no pattern begins
abbrev pub wanting : Stack → TokenClass → Out
wanting (stack is no_patterns fs) c = shut is fs c
wanting (stack is (patterns a as') fs) c = Stuck

-- a new row in brackets
abbrev pub inside : Bracket → Stack → Stack
inside b (stack is as' fs) = stack no_patterns no_patterns (frame b is as' ∷ fs)

-- a pattern begins, or its row ends
abbrev pub begin : Stack → TokenClass → Out
begin k (a_name x) = Next (Named x k)
begin k (a_number n) = Next (Have (literal false (c_int n)) k)
begin k (a_string x) = Next (Strings (x ∷ []) k)
begin k a_none = Next (Have (literal false c_none) k)
begin k (a_bool b) = Next (Have (literal false (c_bool b)) k)
begin k a_minus = Next (Minus k)
begin k (opens b) = Next (Want (inside b k))
begin k c = wanting k c

-- what a token of a class makes of a place
abbrev pub act : State → TokenClass → Out
act (Want k) c = begin k c
act (Minus k) (a_number n) = Next (Have (literal true (c_int n)) k)
act (Minus k) c = Stuck
act (Named x k) a_dot = Next (Dotted x k)
act (Named x k) c = give (named x) k c
act (Dotted m k) (a_name x) = Next (Have (member m x) k)
act (Dotted m k) c = Stuck
act (Strings xs k) (a_string x) = Next (Strings (xs ++ x ∷ []) k)
act (Strings xs k) c = give (literal false (c_str xs)) k c
act (Have p k) c = give p k c
act (Naming p is fs) (a_name x) = cond (is_underscore x) Stuck (Next (Item (p_as p x) is fs))
act (Naming p is fs) c = Stuck
act (Item p is fs) c = offer p is fs c

-- what a token makes of a place
abbrev pub step : State → Kind → Out
step s t = act s (class t)

-- nothing is read
abbrev pub start : State
start = Want (stack no_patterns no_patterns [])

-- The tokens from the first that no step takes, or the pattern and the tokens after it.
pub data Verdict : Type 0 where
  Refused : (rest : List Kind) → Verdict
  Leaves : (p : Pattern) (rest : List Kind) → Verdict

-- the reading of a list from a state on
abbrev pub run : State → List Kind → Verdict
run s [] = Refused []
run s (t ∷ ts) =
    elim (step s t) [
      | Next n ↦ run n ts
      | Stuck ↦ Refused (t ∷ ts)
      | Left p ↦ Leaves p (t ∷ ts)
    ]

-- ---- the least pattern that goes on from a state

-- the pattern that comes of an item where everything is closed after it
abbrev pub put : Pattern → Patterns → List Frame → Pattern
put p is [] = listed is p
put p is (frame b js bs ∷ fs) = put (joined bs (enclosed b is p)) js fs

-- the pattern that comes of a closed pattern in a row
abbrev pub whole : Pattern → Stack → Pattern
whole p (stack is as' fs) = put (joined as' p) is fs

-- what a list with no brackets holds where each item has a comma after it
abbrev pub trailed : Patterns → Pattern
trailed no_patterns = wild
trailed is = sequence brackets_.Bare is true

-- where the row may end after its items
abbrev pub closed : Patterns → List Frame → Pattern
closed is [] = trailed is
closed is (frame b js bs ∷ fs) = whole (ended b is) (stack js bs fs)

-- the pattern that comes of a row in which a pattern may begin
abbrev pub settled : Stack → Pattern
settled (stack is no_patterns fs) = closed is fs
settled (stack is (patterns a as') fs) = whole wild (stack is (patterns a as') fs)

-- a name that isn't `_`
abbrev pub some_name : Text
some_name = 120 ∷ []

-- the least pattern that goes on from a state
abbrev pub finished : State → Pattern
finished (Want k) = settled k
finished (Minus k) = whole (literal true (c_int (pos 0))) k
finished (Named x k) = whole (named x) k
finished (Dotted m k) = whole (member m some_name) k
finished (Strings xs k) = whole (literal false (c_str xs)) k
finished (Have p k) = whole p k
finished (Naming p is fs) = put (p_as p some_name) is fs
finished (Item p is fs) = put p is fs

-- its height
abbrev pub least : State → ℕ
least s = pattern_height (finished s)

-- ---- under a limit

-- How a reading under a limit of heights ends.
pub data Ending : Type 0 where
  Unexpected : (rest : List Kind) → Ending
  TooDeep : (rest : List Kind) → Ending
  Reads : (p : Pattern) (rest : List Kind) → Ending

-- the reading of a list from a state on, under a limit of heights
abbrev pub within : ℕ → State → List Kind → Ending
within limit s [] = Unexpected []
within limit s (t ∷ ts) =
    elim (step s t) [
      | Next n ↦ cond (nat_le (least n) limit) (within limit n ts) (TooDeep (t ∷ ts))
      | Stuck ↦ Unexpected (t ∷ ts)
      | Left p ↦ Reads p (t ∷ ts)
    ]
