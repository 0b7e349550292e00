-- What is open outside the innermost brackets is never higher than what was read.
use Rattle.std.proofs.Common.{◌≡◌, ℕ, ◌+◌, ◌≤◌, max, pos, Bool, true, false, cond, List, [], ◌∷◌, subst, arith}
use Rattle.py_syntax.specs.Tree.{c_int, c_str, Pattern, literal, member, p_as, Patterns, no_patterns, patterns}
use Rattle.py_syntax.specs.Normal.{pattern_height, pattern_heights}
use Rattle.py_parse_pattern.specs.Machine.{TokenClass, a_name, a_number, a_string, a_none, a_bool, a_minus, opens, shuts, a_bar, an_as, a_comma, a_dot, same_bracket, is_underscore, named, joined, enclosed, ended, Frame, frame, Stack, stack, State, Want, Minus, Named, Dotted, Strings, Have, Naming, Item, Out, Next, Stuck, offer, give, shut, wanting, begin, act, put, whole, settled, some_name, least}
use Rattle.py_parse_pattern.specs.Heights.{depth, base, base_closed, base_outside}
use Rattle.py_parse_pattern.proofs.Least.{put_height, whole_height, settled_low}

abbrev frames_of : State → List Frame
frames_of (Want (stack is as' fs)) = fs
frames_of (Minus (stack is as' fs)) = fs
frames_of (Named x (stack is as' fs)) = fs
frames_of (Dotted m (stack is as' fs)) = fs
frames_of (Strings xs (stack is as' fs)) = fs
frames_of (Have p (stack is as' fs)) = fs
frames_of (Naming p is fs) = fs
frames_of (Item p is fs) = fs

abbrev pub outside : State → ℕ
outside s = base_outside (frames_of s)

abbrev LowOutside : ℕ → Out → Type 0
LowOutside n (Next s) = outside s ≤ n
LowOutside n o = Unit {0}

-- what is open in a row is at least what is open outside
pub base_is : (is : Patterns) (fs : List Frame) → base is fs ≡ max (base_outside fs) (pattern_heights is + depth is fs)
base_is no_patterns [] = omega arith
base_is (patterns p ps) [] = omega arith
base_is is (frame b js bs ∷ fs) = omega arith

outer_low : (is as' : Patterns) (fs : List Frame) → base_outside fs ≤ base_closed (stack is as' fs)
outer_low is as' fs = let b = base_is is fs in omega arith

put_outside : (p : Pattern) (is : Patterns) (fs : List Frame) → base_outside fs ≤ pattern_height (put p is fs)
put_outside p is fs = let h = put_height p is fs in let b = base_is is fs in omega arith

whole_outside : (p : Pattern) (k : Stack) → base_closed k ≤ pattern_height (whole p k)
whole_outside p (stack is as' fs) = let h = whole_height p is as' fs in omega arith

offer_outside : (n : ℕ) (p : Pattern) (is : Patterns) (fs : List Frame) (c : TokenClass) → base_outside fs ≤ n → LowOutside n (offer p is fs c)
offer_outside n p is fs a_comma h = h
offer_outside n p is (frame b js bs ∷ fs) (shuts d) h = go (same_bracket b d)
  where
    go : (same : Bool) → LowOutside n (cond same (Next (Have (enclosed b is p) (stack js bs fs))) Stuck)
    go true = let o = outer_low js bs fs in omega arith
    go false = tt
offer_outside n p is [] c h = tt
offer_outside n p is (f ∷ fs) c h = tt

give_outside : (n : ℕ) (p : Pattern) (k : Stack) (c : TokenClass) → base_closed k ≤ n → LowOutside n (give p k c)
give_outside n p (stack is as' fs) a_bar h = let o = outer_low is as' fs in omega arith
give_outside n p (stack is as' fs) an_as h = let o = outer_low is as' fs in omega arith
give_outside n p (stack is as' fs) c h = offer_outside n (joined as' p) is fs c (let o = outer_low is as' fs in omega arith)

shut_outside : (n : ℕ) (is : Patterns) (fs : List Frame) (c : TokenClass) → base_outside fs ≤ n → LowOutside n (shut is fs c)
shut_outside n is (frame b js bs ∷ fs) (shuts d) h = go (same_bracket b d)
  where
    go : (same : Bool) → LowOutside n (cond same (Next (Have (ended b is) (stack js bs fs))) Stuck)
    go true = let o = outer_low js bs fs in omega arith
    go false = tt
shut_outside n no_patterns [] c h = tt
shut_outside n (patterns p ps) [] c h = tt
shut_outside n is (f ∷ fs) c h = tt

wanting_outside : (n : ℕ) (k : Stack) (c : TokenClass) → base_closed k ≤ n → LowOutside n (wanting k c)
wanting_outside n (stack is no_patterns fs) c h = shut_outside n is fs c (let o = outer_low is no_patterns fs in omega arith)
wanting_outside n (stack is (patterns a as') fs) c h = tt

begin_outside : (n : ℕ) (k : Stack) (c : TokenClass) → base_closed k ≤ n → LowOutside n (begin k c)
begin_outside n (stack is as' fs) (a_name x) h = let o = outer_low is as' fs in omega arith
begin_outside n (stack is as' fs) (a_number m) h = let o = outer_low is as' fs in omega arith
begin_outside n (stack is as' fs) (a_string x) h = let o = outer_low is as' fs in omega arith
begin_outside n (stack is as' fs) a_none h = let o = outer_low is as' fs in omega arith
begin_outside n (stack is as' fs) (a_bool b) h = let o = outer_low is as' fs in omega arith
begin_outside n (stack is as' fs) a_minus h = let o = outer_low is as' fs in omega arith
begin_outside n (stack is as' fs) (opens b) h = h
begin_outside n k c h = wanting_outside n k c h

act_outside : (s : State) (c : TokenClass) → LowOutside (least s) (act s c)
act_outside (Want k) c = begin_outside (pattern_height (settled k)) k c (settled_low k)
act_outside (Minus (stack is as' fs)) (a_number m) = let w = whole_outside (literal true (c_int (pos 0))) (stack is as' fs) in let o = outer_low is as' fs in omega arith
act_outside (Minus k) c = tt
act_outside (Named x (stack is as' fs)) a_dot = let w = whole_outside (named x) (stack is as' fs) in let o = outer_low is as' fs in omega arith
act_outside (Named x k) c = give_outside (pattern_height (whole (named x) k)) (named x) k c (whole_outside (named x) k)
act_outside (Dotted m (stack is as' fs)) (a_name x) = let w = whole_outside (member m some_name) (stack is as' fs) in let o = outer_low is as' fs in omega arith
act_outside (Dotted m k) c = tt
act_outside (Strings xs (stack is as' fs)) (a_string x) = let w = whole_outside (literal false (c_str xs)) (stack is as' fs) in let o = outer_low is as' fs in omega arith
act_outside (Strings xs k) c = give_outside (pattern_height (whole (literal false (c_str xs)) k)) (literal false (c_str xs)) k c (whole_outside (literal false (c_str xs)) k)
act_outside (Have p k) c = give_outside (pattern_height (whole p k)) p k c (whole_outside p k)
act_outside (Naming p is fs) (a_name x) = go (is_underscore x)
  where
    go : (b : Bool) → LowOutside (pattern_height (put (p_as p some_name) is fs)) (cond b Stuck (Next (Item (p_as p x) is fs)))
    go true = tt
    go false = put_outside (p_as p some_name) is fs
act_outside (Naming p is fs) c = tt
act_outside (Item p is fs) c = offer_outside (pattern_height (put p is fs)) p is fs c (put_outside p is fs)

pub next_outside : (s n : State) (c : TokenClass) → act s c ≡ Next n → outside n ≤ least s
next_outside s n c h = subst (LowOutside (least s)) h (act_outside s c)
