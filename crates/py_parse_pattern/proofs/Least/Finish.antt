-- What was read can be completed, and to what.
use Rattle.std.proofs.Common.{◌≡◌, pos, true, false, List, [], ◌∷◌, refl, sym, ap, ◌∙◌}
use Rattle.py_syntax.specs.Tree.{c_int, c_str, Pattern, literal, wild, member, p_as, Patterns, no_patterns, patterns}
use Rattle.py_syntax.specs.Kinds.{Kind, Name, Int, Sign}
use Rattle.py_syntax.specs.Tokens.{underscore, pattern_tokens}
use Rattle.py_parse_pattern.specs.Machine.{shut_mark, named, joined, enclosed, ended, Frame, frame, Stack, stack, State, Want, Minus, Named, Dotted, Strings, Have, Naming, Item, put, whole, closed, settled, some_name, finished}
use Rattle.py_parse_pattern.proofs.Sound.{before, before_closed, before_item, barred, joined_tokens, named_tokens, enclosed_tokens, listed_tokens, ended_tokens}

-- the brackets that close what is open, and then others
abbrev pub closing : List Frame → List Kind → List Kind
closing [] r = r
closing (frame b js bs ∷ fs) r = Sign (shut_mark b) ∷ closing fs r

abbrev pub closing_all : Stack → List Kind → List Kind
closing_all (stack is as' fs) r = closing fs r

abbrev only : Patterns → List Kind → List Kind
only no_patterns r = Name underscore ∷ r
only (patterns p ps) r = r

abbrev pub finish_row : Patterns → List Frame → List Kind → List Kind
finish_row is [] r = only is r
finish_row is (f ∷ fs) r = closing (f ∷ fs) r

abbrev pub finish_want : Stack → List Kind → List Kind
finish_want (stack is no_patterns fs) r = finish_row is fs r
finish_want (stack is (patterns a as') fs) r = Name underscore ∷ closing fs r

-- Tokens that make what was read a whole pattern, and then others.
abbrev pub finish : State → List Kind → List Kind
finish (Want k) r = finish_want k r
finish (Minus k) r = Int (pos 0) ∷ closing_all k r
finish (Named x k) r = closing_all k r
finish (Dotted m k) r = Name some_name ∷ closing_all k r
finish (Strings xs k) r = closing_all k r
finish (Have p k) r = closing_all k r
finish (Naming p is fs) r = Name some_name ∷ closing fs r
finish (Item p is fs) r = closing fs r

put_tokens : (p : Pattern) (is : Patterns) (fs : List Frame) (r : List Kind) → before_item is fs (pattern_tokens p (closing fs r)) ≡ pattern_tokens (put p is fs) r
put_tokens p is [] r = sym (listed_tokens is p r)
put_tokens p is (frame b js bs ∷ fs) r =
    ap (λ (x : List Kind). before_item js fs (barred bs x)) (sym (enclosed_tokens b is p (closing fs r)))
    ∙ ap (before_item js fs) (sym (joined_tokens bs (enclosed b is p) (closing fs r)))
    ∙ put_tokens (joined bs (enclosed b is p)) js fs r

whole_tokens : (p : Pattern) (k : Stack) (r : List Kind) → before_closed k (pattern_tokens p (closing_all k r)) ≡ pattern_tokens (whole p k) r
whole_tokens p (stack is as' fs) r = ap (before_item is fs) (sym (joined_tokens as' p (closing fs r))) ∙ put_tokens (joined as' p) is fs r

row_tokens : (is : Patterns) (fs : List Frame) (r : List Kind) → before_item is fs (finish_row is fs r) ≡ pattern_tokens (closed is fs) r
row_tokens no_patterns [] r = refl
row_tokens (patterns p ps) [] r = refl
row_tokens is (frame b js bs ∷ fs) r =
    ap (λ (x : List Kind). before_item js fs (barred bs x)) (sym (ended_tokens b is (closing fs r)))
    ∙ whole_tokens (ended b is) (stack js bs fs) r

want_tokens : (k : Stack) (r : List Kind) → before_closed k (finish_want k r) ≡ pattern_tokens (settled k) r
want_tokens (stack is no_patterns fs) r = row_tokens is fs r
want_tokens (stack is (patterns a as') fs) r = whole_tokens wild (stack is (patterns a as') fs) r

-- Every state can be brought to an end, and this is the pattern that comes of it.
pub finish_tokens : (s : State) (r : List Kind) → before s (finish s r) ≡ pattern_tokens (finished s) r
finish_tokens (Want k) r = want_tokens k r
finish_tokens (Minus k) r = whole_tokens (literal true (c_int (pos 0))) k r
finish_tokens (Named x k) r = ap (before_closed k) (sym (named_tokens x (closing_all k r))) ∙ whole_tokens (named x) k r
finish_tokens (Dotted m k) r = whole_tokens (member m some_name) k r
finish_tokens (Strings xs k) r = whole_tokens (literal false (c_str xs)) k r
finish_tokens (Have p k) r = whole_tokens p k r
finish_tokens (Naming p is fs) r = put_tokens (p_as p some_name) is fs r
finish_tokens (Item p is fs) r = put_tokens p is fs r
