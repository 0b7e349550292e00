-- The least height that a state can be completed at never falls, and how it hangs on what is open.
use Rattle.std.proofs.Common.{◌≡◌, ℕ, suc, ◌+◌, ◌≤◌, max, pos, Bool, true, false, cond, List, [], ◌∷◌, ◌++◌, refl, ap, arith}
use Rattle.py_syntax.specs.Tree.{Text, c_int, c_str, c_none, c_bool, Pattern, literal, capture, wild, member, sequence, p_or, p_as, p_paren, Patterns, no_patterns, patterns}
use Rattle.py_syntax.specs.Kinds.{Kind}
use Rattle.py_syntax.specs.Normal.{pattern_height, pattern_heights}
use Rattle.py_parse_pattern.specs.declared.token_classes.Bracket.{Bracket}
use Rattle.py_parse_pattern.specs.declared.token_classes.Bracket.TheVariants.{Round, Square}
use Rattle.py_parse_pattern.specs.Machine.{TokenClass, a_name, a_number, a_string, a_none, a_bool, a_minus, opens, shuts, a_bar, an_as, a_comma, a_dot, class, same_bracket, snoc, is_underscore, named, joined, enclosed, listed, ended, Frame, frame, Stack, stack, State, Want, Minus, Named, Dotted, Strings, Have, Naming, Item, Out, Next, Stuck, Left, offer, give, shut, wanting, begin, act, step, put, whole, closed, settled, some_name, least}
use Rattle.py_parse_pattern.specs.Heights.{levels, over, raised, depth, base, base_closed}
pub mod Finish
pub mod Outside

pub heights_snoc : (ps : Patterns) (p : Pattern) → pattern_heights (snoc ps p) ≡ max (pattern_heights ps) (pattern_height p)
heights_snoc no_patterns p = omega arith
heights_snoc (patterns q qs) p = let h = heights_snoc qs p in omega arith

pub at_least_one : (p : Pattern) → 1 ≤ pattern_height p
at_least_one (sequence b ps c) = omega arith
at_least_one (p_or ps) = omega arith
at_least_one (p_as p x) = omega arith
at_least_one (p_paren p) = omega arith
at_least_one p = omega arith

pub joined_height : (ps : Patterns) (p : Pattern) → pattern_height (joined ps p) ≡ max (over ps) (pattern_height p + levels ps)
joined_height no_patterns p = omega arith
joined_height (patterns q qs) p = let h = heights_snoc qs p in omega arith

pub enclosed_height : (b : Bracket) (is : Patterns) (p : Pattern) → pattern_height (enclosed b is p) ≡ suc (max (pattern_heights is) (pattern_height p))
enclosed_height Round no_patterns p = omega arith
enclosed_height Round (patterns q qs) p = let h = heights_snoc qs p in omega arith
enclosed_height Square is p = let h = heights_snoc is p in omega arith

pub listed_height : (is : Patterns) (p : Pattern) → pattern_height (listed is p) ≡ max (over is) (pattern_height p + levels is)
listed_height no_patterns p = omega arith
listed_height (patterns q qs) p = let h = heights_snoc qs p in omega arith

pub ended_height : (b : Bracket) (is : Patterns) → pattern_height (ended b is) ≡ suc (pattern_heights is)
ended_height Round is = omega arith
ended_height Square is = omega arith

raised_is : (ps : Patterns) (d x : ℕ) → max (over ps + d) (x + d) ≡ max (raised ps d) (x + d)
raised_is no_patterns d x = omega arith
raised_is (patterns p ps) d x = omega arith

pub put_height : (p : Pattern) (is : Patterns) (fs : List Frame) → pattern_height (put p is fs) ≡ max (base is fs) (pattern_height p + depth is fs)
put_height p is [] = listed_height is p
put_height p is (frame b js bs ∷ fs) =
    let outer = put_height (joined bs (enclosed b is p)) js fs in
    let one = joined_height bs (enclosed b is p) in
    let two = enclosed_height b is p in
    let three = raised_is bs (depth js fs) (pattern_height (enclosed b is p) + levels bs) in
    omega arith

pub whole_height : (p : Pattern) (is as' : Patterns) (fs : List Frame) → pattern_height (whole p (stack is as' fs)) ≡ max (max (base is fs) (raised as' (depth is fs))) (pattern_height p + levels as' + depth is fs)
whole_height p is as' fs = let one = put_height (joined as' p) is fs in let two = joined_height as' p in let three = raised_is as' (depth is fs) (pattern_height p + levels as') in omega arith

-- the height of an open list where it may end after its items
pub closed_height : (is : Patterns) (fs : List Frame) → pattern_height (closed is fs) ≡ max (base is fs) 1
closed_height no_patterns [] = omega arith
closed_height (patterns p ps) [] = omega arith
closed_height is (frame b js bs ∷ fs) = let w = whole_height (ended b is) js bs fs in let e = ended_height b is in omega arith

pub settled_low : (k : Stack) → base_closed k ≤ pattern_height (settled k)
settled_low (stack is no_patterns fs) = let h = closed_height is fs in omega arith
settled_low (stack is (patterns a as') fs) = let h = whole_height wild is (patterns a as') fs in omega arith

pub settled_high : (k : Stack) (p : Pattern) → pattern_height (settled k) ≤ pattern_height (whole p k)
settled_high (stack is no_patterns fs) p = let h = closed_height is fs in let w = whole_height p is no_patterns fs in let one = at_least_one p in omega arith
settled_high (stack is (patterns a as') fs) p = let h = whole_height wild is (patterns a as') fs in let w = whole_height p is (patterns a as') fs in let one = at_least_one p in omega arith

over_snoc : (is : Patterns) (p : Pattern) → over (snoc is p) ≡ suc (max (pattern_heights is) (pattern_height p))
over_snoc no_patterns p = omega arith
over_snoc (patterns q qs) p = let h = heights_snoc qs p in omega arith

pub levels_snoc : (is : Patterns) (p : Pattern) → levels (snoc is p) ≡ 1
levels_snoc no_patterns p = refl
levels_snoc (patterns q qs) p = refl

raised_snoc : (is : Patterns) (p : Pattern) (d : ℕ) → raised (snoc is p) d ≡ suc (max (pattern_heights is) (pattern_height p)) + d
raised_snoc no_patterns p d = omega arith
raised_snoc (patterns q qs) p d = let h = heights_snoc qs p in omega arith

raised_low : (is : Patterns) (d : ℕ) → raised is d ≤ suc (pattern_heights is) + d
raised_low no_patterns d = omega arith
raised_low (patterns p ps) d = omega arith

levels_low : (is : Patterns) → levels is ≤ 1
levels_low no_patterns = omega arith
levels_low (patterns p ps) = omega arith

-- what a comma adds to what is open
pub comma_base : (p : Pattern) (is : Patterns) (fs : List Frame) → base (snoc is p) fs ≡ max (base is fs) (pattern_height p + depth (snoc is p) fs)
comma_base p is [] = let o = over_snoc is p in let l = levels_snoc is p in cases is o l
  where
    cases : (is : Patterns) → over (snoc is p) ≡ suc (max (pattern_heights is) (pattern_height p)) → levels (snoc is p) ≡ 1 → over (snoc is p) ≡ max (over is) (pattern_height p + levels (snoc is p))
    cases no_patterns o l = omega arith
    cases (patterns q qs) o l = omega arith
comma_base p is (frame b js bs ∷ fs) = let h = heights_snoc is p in omega arith

pub settled_bar : (is as' : Patterns) (p : Pattern) (fs : List Frame) → settled (stack is (snoc as' p) fs) ≡ whole wild (stack is (snoc as' p) fs)
settled_bar is no_patterns p fs = refl
settled_bar is (patterns q qs) p fs = refl

-- the height after a bar
pub bar_height : (is as' : Patterns) (p : Pattern) (fs : List Frame) → pattern_height (settled (stack is (snoc as' p) fs)) ≡ max (base is fs) (suc (max (pattern_heights as') (pattern_height p)) + depth is fs)
bar_height is as' p fs =
    let same = ap pattern_height (settled_bar is as' p fs) in
    let w = whole_height wild is (snoc as' p) fs in
    let o = raised_snoc as' p (depth is fs) in
    let l = levels_snoc as' p in
    let one = at_least_one p in
    omega arith

-- ---- no step makes it less

abbrev pub Grows : ℕ → Out → Type 0
Grows n (Next s) = n ≤ least s
Grows n Stuck = Unit {0}
Grows n (Left p) = n ≤ pattern_height p

offer_grows : (p : Pattern) (is : Patterns) (fs : List Frame) (c : TokenClass) → Grows (pattern_height (put p is fs)) (offer p is fs c)
offer_grows p is fs a_comma = let h = put_height p is fs in let c = closed_height (snoc is p) fs in let b = comma_base p is fs in let d = deeper is fs in omega arith
  where
    deeper : (is : Patterns) (fs : List Frame) → depth is fs ≤ depth (snoc is p) fs
    deeper is [] = let one = levels_snoc is p in let l = levels_low is in omega arith
    deeper is (frame b js bs ∷ fs) = omega arith
offer_grows p is (frame b js bs ∷ fs) (shuts d) = go (same_bracket b d)
  where
    go : (same : Bool) → Grows (pattern_height (put p is (frame b js bs ∷ fs))) (cond same (Next (Have (enclosed b is p) (stack js bs fs))) Stuck)
    go true = omega arith
    go false = tt
offer_grows p is [] c = omega arith
offer_grows p is (f ∷ fs) c = tt

give_grows : (p : Pattern) (k : Stack) (c : TokenClass) → Grows (pattern_height (whole p k)) (give p k c)
give_grows p (stack is as' fs) a_bar = let w = whole_height p is as' fs in let b = bar_height is as' p fs in let o = raised_low as' (depth is fs) in let l = levels_low as' in omega arith
give_grows p (stack is as' fs) an_as = let h = put_height (joined as' p) is fs in let n = put_height (p_as (joined as' p) some_name) is fs in omega arith
give_grows p (stack is as' fs) c = offer_grows (joined as' p) is fs c

wanting_grows : (k : Stack) (c : TokenClass) → Grows (pattern_height (settled k)) (wanting k c)
wanting_grows (stack is no_patterns fs) c = shut_grows is fs c
  where
    shut_grows : (is : Patterns) (fs : List Frame) (c : TokenClass) → Grows (pattern_height (closed is fs)) (shut is fs c)
    shut_grows is (frame b js bs ∷ fs) (shuts d) = go (same_bracket b d)
      where
        go : (same : Bool) → Grows (pattern_height (closed is (frame b js bs ∷ fs))) (cond same (Next (Have (ended b is) (stack js bs fs))) Stuck)
        go true = omega arith
        go false = tt
    shut_grows no_patterns [] c = tt
    shut_grows (patterns p ps) [] c = omega arith
    shut_grows is (f ∷ fs) c = tt
wanting_grows (stack is (patterns a as') fs) c = tt

pub named_height : (x : Text) → pattern_height (named x) ≡ 1
named_height x = go (is_underscore x)
  where
    go : (b : Bool) → pattern_height (cond b wild (capture x)) ≡ 1
    go true = refl
    go false = refl

begin_grows : (k : Stack) (c : TokenClass) → Grows (pattern_height (settled k)) (begin k c)
begin_grows k (a_name x) = settled_high k (named x)
begin_grows k (a_number n) = settled_high k (literal false (c_int n))
begin_grows k (a_string x) = settled_high k (literal false (c_str (x ∷ [])))
begin_grows k a_none = settled_high k (literal false c_none)
begin_grows k (a_bool b) = settled_high k (literal false (c_bool b))
begin_grows k a_minus = settled_high k (literal true (c_int (pos 0)))
begin_grows (stack is as' fs) (opens b) = settled_high (stack is as' fs) (ended b no_patterns)
begin_grows k c = wanting_grows k c

-- parts of one height make wholes of one height
level_with : (p q : Pattern) (k : Stack) → pattern_height p ≡ pattern_height q → pattern_height (whole p k) ≤ pattern_height (whole q k)
level_with p q (stack is as' fs) h = let one = whole_height p is as' fs in let two = whole_height q is as' fs in omega arith

act_grows : (s : State) (c : TokenClass) → Grows (least s) (act s c)
act_grows (Want k) c = begin_grows k c
act_grows (Minus k) (a_number n) = level_with (literal true (c_int (pos 0))) (literal true (c_int n)) k refl
act_grows (Minus k) c = tt
act_grows (Named x k) a_dot = level_with (named x) (member x some_name) k (named_height x)
act_grows (Named x k) c = give_grows (named x) k c
act_grows (Dotted m k) (a_name x) = level_with (member m some_name) (member m x) k refl
act_grows (Dotted m k) c = tt
act_grows (Strings xs k) (a_string x) = level_with (literal false (c_str xs)) (literal false (c_str (xs ++ x ∷ []))) k refl
act_grows (Strings xs k) c = give_grows (literal false (c_str xs)) k c
act_grows (Have p k) c = give_grows p k c
act_grows (Naming p is fs) (a_name x) = go (is_underscore x)
  where
    go : (b : Bool) → Grows (pattern_height (put (p_as p some_name) is fs)) (cond b Stuck (Next (Item (p_as p x) is fs)))
    go true = tt
    go false = let one = put_height (p_as p some_name) is fs in let two = put_height (p_as p x) is fs in omega arith
act_grows (Naming p is fs) c = tt
act_grows (Item p is fs) c = offer_grows p is fs c

pub step_grows : (s : State) (t : Kind) → Grows (least s) (step s t)
step_grows s t = act_grows s (class t)
