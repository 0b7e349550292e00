-- A pattern that is whole is no higher than what the state before was completed to, and none is whole at the beginning.
use Rattle.std.proofs.Common.{◌≡◌, ℕ, ◌≤◌, Bool, true, false, cond, List, [], ◌∷◌, arith}
use Rattle.py_syntax.specs.Tree.{c_str, Pattern, literal, p_as, Patterns, no_patterns, patterns}
use Rattle.py_syntax.specs.Kinds.{Kind, Newline, Indent, Dedent}
use Rattle.py_syntax.specs.Headers.{ends_line}
use Rattle.py_syntax.specs.Normal.{pattern_height}
use Rattle.py_parse_pattern.specs.Machine.{TokenClass, a_name, a_number, a_string, a_none, a_bool, a_minus, opens, shuts, a_bar, an_as, a_comma, a_dot, other, class, same_bracket, is_underscore, named, joined, enclosed, ended, Frame, frame, Stack, stack, State, Want, Minus, Named, Dotted, Strings, Have, Naming, Item, Out, Next, Stuck, Left, offer, give, shut, wanting, begin, act, step, start, put, whole, closed, settled, least}

-- what leaves is no higher than this
abbrev pub LeavesWithin : ℕ → Out → Type 0
LeavesWithin n (Next s) = Unit {0}
LeavesWithin n Stuck = Unit {0}
LeavesWithin n (Left p) = pattern_height p ≤ n

within_if : (n : ℕ) (b : Bool) (o p : Out) → LeavesWithin n o → LeavesWithin n p → LeavesWithin n (cond b o p)
within_if n true o p h i = h
within_if n false o p h i = i

offer_within : (p : Pattern) (is : Patterns) (fs : List Frame) (c : TokenClass) → LeavesWithin (pattern_height (put p is fs)) (offer p is fs c)
offer_within p is fs a_comma = tt
offer_within p is [] c = omega arith
offer_within p is (frame b js bs ∷ fs) (shuts d) = within_if (pattern_height (put p is (frame b js bs ∷ fs))) (same_bracket b d) (Next (Have (enclosed b is p) (stack js bs fs))) Stuck tt tt
offer_within p is (f ∷ fs) c = tt

give_within : (p : Pattern) (k : Stack) (c : TokenClass) → LeavesWithin (pattern_height (whole p k)) (give p k c)
give_within p (stack is as' fs) a_bar = tt
give_within p (stack is as' fs) an_as = tt
give_within p (stack is as' fs) c = offer_within (joined as' p) is fs c

shut_within : (is : Patterns) (fs : List Frame) (c : TokenClass) → LeavesWithin (pattern_height (closed is fs)) (shut is fs c)
shut_within no_patterns [] c = tt
shut_within (patterns p ps) [] c = omega arith
shut_within is (frame b js bs ∷ fs) (shuts d) = within_if (pattern_height (closed is (frame b js bs ∷ fs))) (same_bracket b d) (Next (Have (ended b is) (stack js bs fs))) Stuck tt tt
shut_within is (f ∷ fs) c = tt

begin_within : (k : Stack) (c : TokenClass) → LeavesWithin (pattern_height (settled k)) (begin k c)
begin_within k (a_name x) = tt
begin_within k (a_number n) = tt
begin_within k (a_string x) = tt
begin_within k a_none = tt
begin_within k (a_bool b) = tt
begin_within k a_minus = tt
begin_within k (opens b) = tt
begin_within k c = wanting_within k c
  where
    wanting_within : (k : Stack) (c : TokenClass) → LeavesWithin (pattern_height (settled k)) (wanting k c)
    wanting_within (stack is no_patterns fs) c = shut_within is fs c
    wanting_within (stack is (patterns a as') fs) c = tt

act_within : (s : State) (c : TokenClass) → LeavesWithin (least s) (act s c)
act_within (Want k) c = begin_within k c
act_within (Minus k) (a_number n) = tt
act_within (Minus k) c = tt
act_within (Named x k) a_dot = tt
act_within (Named x k) c = give_within (named x) k c
act_within (Dotted m k) (a_name x) = tt
act_within (Dotted m k) c = tt
act_within (Strings xs k) (a_string x) = tt
act_within (Strings xs k) c = give_within (literal false (c_str xs)) k c
act_within (Have p k) c = give_within p k c
act_within (Naming p is fs) (a_name x) = within_if (least (Naming p is fs)) (is_underscore x) Stuck (Next (Item (p_as p x) is fs)) tt tt
act_within (Naming p is fs) c = tt
act_within (Item p is fs) c = offer_within p is fs c

pub step_within : (s : State) (t : Kind) → LeavesWithin (least s) (step s t)
step_within s t = act_within s (class t)

-- nothing leaves at the beginning
start_class : (c : TokenClass) → LeavesWithin 0 (act start c)
start_class (a_name x) = tt
start_class (a_number n) = tt
start_class (a_string x) = tt
start_class a_none = tt
start_class (a_bool b) = tt
start_class a_minus = tt
start_class (opens b) = tt
start_class c = tt

pub start_within : (t : Kind) → LeavesWithin 0 (step start t)
start_within t = start_class (class t)

-- ---- a line doesn't end in a pattern

-- nothing goes on
abbrev pub NoNext : Out → Type 0
NoNext (Next s) = ⊥
NoNext Stuck = Unit {0}
NoNext (Left p) = Unit {0}

offer_no_next : (p : Pattern) (is : Patterns) (fs : List Frame) → NoNext (offer p is fs other)
offer_no_next p is [] = tt
offer_no_next p is (frame b js bs ∷ fs) = tt

give_no_next : (p : Pattern) (k : Stack) → NoNext (give p k other)
give_no_next p (stack is as' fs) = offer_no_next (joined as' p) is fs

act_no_next : (s : State) → NoNext (act s other)
act_no_next (Want (stack no_patterns no_patterns [])) = tt
act_no_next (Want (stack (patterns p ps) no_patterns [])) = tt
act_no_next (Want (stack is no_patterns (frame b js bs ∷ fs))) = tt
act_no_next (Want (stack is (patterns a as') fs)) = tt
act_no_next (Minus k) = tt
act_no_next (Named x k) = give_no_next (named x) k
act_no_next (Dotted m k) = tt
act_no_next (Strings xs k) = give_no_next (literal false (c_str xs)) k
act_no_next (Have p k) = give_no_next p k
act_no_next (Naming p is fs) = tt
act_no_next (Item p is fs) = offer_no_next p is fs

pub step_no_next : (s : State) (t : Kind) → ends_line t ≡ true → NoNext (step s t)
step_no_next s Newline h = act_no_next s
step_no_next s Indent h = act_no_next s
step_no_next s Dedent h = act_no_next s
step_no_next s t h = absurd cc
