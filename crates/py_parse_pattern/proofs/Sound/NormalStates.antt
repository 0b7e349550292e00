-- What the machine keeps: the parts of its state are normal and fit their places.
use Rattle.std.proofs.Common.{◌≡◌, ℕ, ◌≤◌, pos, Bool, true, false, cond, List, [], ◌∷◌, ◌++◌, refl, sym, ap, ◌∙◌, arith}
use Rattle.py_syntax.specs.declared.pattern.Brackets.TheVariants as brackets_
use Rattle.py_syntax.specs.Tree.{Text, c_int, c_str, Pattern, literal, capture, wild, member, sequence, p_or, p_as, Patterns, no_patterns, patterns}
use Rattle.py_syntax.specs.Kinds.{Kind}
use Rattle.py_syntax.specs.Normal.{IsSomething, pattern_rank, NormalPattern, EachPattern}
use Rattle.py_parse_pattern.specs.declared.token_classes.Bracket.{Bracket}
use Rattle.py_parse_pattern.specs.declared.token_classes.Bracket.TheVariants.{Round, Square}
use Rattle.py_parse_pattern.specs.Machine.{TokenClass, a_name, a_number, a_string, a_none, a_bool, a_minus, opens, shuts, a_bar, an_as, a_comma, a_dot, class, same_bracket, snoc, is_underscore, named, joined, enclosed, listed, ended, Frame, frame, Stack, stack, State, Want, Minus, Named, Dotted, Strings, Have, Naming, Item, Out, Next, Stuck, Left, offer, give, shut, wanting, begin, act, step, start, put, whole, settled, some_name, finished}

abbrev pub NormalFrames : List Frame → Type 0
NormalFrames [] = Unit {0}
NormalFrames (frame b js bs ∷ fs) = EachPattern 1 js × EachPattern 3 bs × NormalFrames fs

abbrev pub NormalStack : Stack → Type 0
NormalStack (stack is as' fs) = EachPattern 1 is × EachPattern 3 as' × NormalFrames fs

abbrev pub NormalState : State → Type 0
NormalState (Want k) = NormalStack k
NormalState (Minus k) = NormalStack k
NormalState (Named x k) = NormalStack k
NormalState (Dotted m k) = NormalStack k
NormalState (Strings xs k) = IsSomething xs × NormalStack k
NormalState (Have p k) = (3 ≤ pattern_rank p) × NormalPattern p × NormalStack k
NormalState (Naming p is fs) = (2 ≤ pattern_rank p) × NormalPattern p × EachPattern 1 is × NormalFrames fs
NormalState (Item p is fs) = (1 ≤ pattern_rank p) × NormalPattern p × EachPattern 1 is × NormalFrames fs

abbrev pub Keeps : Out → Type 0
Keeps (Next s) = NormalState s
Keeps Stuck = Unit {0}
Keeps (Left p) = NormalPattern p

each_snoc : (l : ℕ) (ps : Patterns) (p : Pattern) → EachPattern l ps → l ≤ pattern_rank p → NormalPattern p → EachPattern l (snoc ps p)
each_snoc l no_patterns p h a n = (a, n, tt)
each_snoc l (patterns q qs) p h a n = (h.0, h.1, each_snoc l qs p h.2 a n)

pub named_normal : (x : Text) → (3 ≤ pattern_rank (named x)) × NormalPattern (named x)
named_normal x = go (is_underscore x) refl
  where
    go : (b : Bool) → is_underscore x ≡ b → (3 ≤ pattern_rank (cond b wild (capture x))) × NormalPattern (cond b wild (capture x))
    go true is = (omega arith, tt)
    go false is = (omega arith, λ e. let f = sym is ∙ ap is_underscore e in absurd cc)

normal_or : (q : Pattern) (qs : Patterns) (p : Pattern) → EachPattern 3 (patterns q qs) → 3 ≤ pattern_rank p → NormalPattern p → NormalPattern (p_or (patterns q (snoc qs p)))
normal_or q no_patterns p h a n = (h.0, h.1, (a, n, tt))
normal_or q (patterns r rs) p h a n = (h.0, h.1, (h.2.0, h.2.1, each_snoc 3 rs p h.2.2 a n))

pub joined_normal : (ps : Patterns) (p : Pattern) → EachPattern 3 ps → 3 ≤ pattern_rank p → NormalPattern p → (2 ≤ pattern_rank (joined ps p)) × NormalPattern (joined ps p)
joined_normal no_patterns p h a n = (omega arith, n)
joined_normal (patterns q qs) p h a n = (omega arith, normal_or q qs p h a n)

-- a sequence of two items and more
normal_round : (q : Pattern) (qs : Patterns) (p : Pattern) → EachPattern 1 (patterns q qs) → 1 ≤ pattern_rank p → NormalPattern p → NormalPattern (sequence brackets_.Round (patterns q (snoc qs p)) false)
normal_round q no_patterns p h a n = (h.0, h.1, (a, n, tt))
normal_round q (patterns r rs) p h a n = (h.0, h.1, (h.2.0, h.2.1, each_snoc 1 rs p h.2.2 a n))

normal_bare : (q : Pattern) (qs : Patterns) (p : Pattern) → EachPattern 1 (patterns q qs) → 1 ≤ pattern_rank p → NormalPattern p → NormalPattern (sequence brackets_.Bare (patterns q (snoc qs p)) false)
normal_bare q no_patterns p h a n = (h.0, h.1, (a, n, tt))
normal_bare q (patterns r rs) p h a n = (h.0, h.1, (h.2.0, h.2.1, each_snoc 1 rs p h.2.2 a n))

normal_square : (is : Patterns) (p : Pattern) → EachPattern 1 is → 1 ≤ pattern_rank p → NormalPattern p → NormalPattern (sequence brackets_.Square (snoc is p) false)
normal_square no_patterns p h a n = (a, n, tt)
normal_square (patterns r rs) p h a n = (h.0, h.1, each_snoc 1 rs p h.2 a n)

pub enclosed_normal : (b : Bracket) (is : Patterns) (p : Pattern) → EachPattern 1 is → 1 ≤ pattern_rank p → NormalPattern p → (3 ≤ pattern_rank (enclosed b is p)) × NormalPattern (enclosed b is p)
enclosed_normal Round no_patterns p h a n = (omega arith, (a, n))
enclosed_normal Round (patterns q qs) p h a n = (omega arith, normal_round q qs p h a n)
enclosed_normal Square is p h a n = (omega arith, normal_square is p h a n)

pub listed_normal : (is : Patterns) (p : Pattern) → EachPattern 1 is → 1 ≤ pattern_rank p → NormalPattern p → NormalPattern (listed is p)
listed_normal no_patterns p h a n = n
listed_normal (patterns q qs) p h a n = normal_bare q qs p h a n

pub ended_normal : (b : Bracket) (is : Patterns) → EachPattern 1 is → (3 ≤ pattern_rank (ended b is)) × NormalPattern (ended b is)
ended_normal Round no_patterns h = (omega arith, refl)
ended_normal Round (patterns q no_patterns) h = (omega arith, (h.0, h.1, refl))
ended_normal Round (patterns q (patterns r rs)) h = (omega arith, (h.0, h.1, h.2))
ended_normal Square no_patterns h = (omega arith, refl)
ended_normal Square (patterns q qs) h = (omega arith, h)

bare_normal : (q : Pattern) (qs : Patterns) → EachPattern 1 (patterns q qs) → NormalPattern (sequence brackets_.Bare (patterns q qs) true)
bare_normal q no_patterns h = (h.0, h.1, refl)
bare_normal q (patterns r rs) h = (h.0, h.1, h.2)

offer_keeps : (p : Pattern) (is : Patterns) (fs : List Frame) (c : TokenClass) → 1 ≤ pattern_rank p → NormalPattern p → EachPattern 1 is → NormalFrames fs → Keeps (offer p is fs c)
offer_keeps p is fs a_comma a n each h = (each_snoc 1 is p each a n, tt, h)
offer_keeps p is (frame b js bs ∷ fs) (shuts d) a n each h = go (same_bracket b d)
  where
    go : (same : Bool) → Keeps (cond same (Next (Have (enclosed b is p) (stack js bs fs))) Stuck)
    go true = let e = enclosed_normal b is p each a n in (e.0, e.1, h)
    go false = tt
offer_keeps p is [] c a n each h = listed_normal is p each a n
offer_keeps p is (f ∷ fs) c a n each h = tt

give_keeps : (p : Pattern) (k : Stack) (c : TokenClass) → 3 ≤ pattern_rank p → NormalPattern p → NormalStack k → Keeps (give p k c)
give_keeps p (stack is as' fs) a_bar a n h = (h.0, each_snoc 3 as' p h.1 a n, h.2)
give_keeps p (stack is as' fs) an_as a n h = let j = joined_normal as' p h.1 a n in (j.0, j.1, h.0, h.2)
give_keeps p (stack is as' fs) c a n h = let j = joined_normal as' p h.1 a n in offer_keeps (joined as' p) is fs c (let low = j.0 in omega arith) j.1 h.0 h.2

shut_keeps : (is : Patterns) (fs : List Frame) (c : TokenClass) → EachPattern 1 is → NormalFrames fs → Keeps (shut is fs c)
shut_keeps is (frame b js bs ∷ fs) (shuts d) each h = go (same_bracket b d)
  where
    go : (same : Bool) → Keeps (cond same (Next (Have (ended b is) (stack js bs fs))) Stuck)
    go true = let e = ended_normal b is each in (e.0, e.1, h)
    go false = tt
shut_keeps no_patterns [] c each h = tt
shut_keeps (patterns p ps) [] c each h = bare_normal p ps each
shut_keeps is (f ∷ fs) c each h = tt

wanting_keeps : (k : Stack) (c : TokenClass) → NormalStack k → Keeps (wanting k c)
wanting_keeps (stack is no_patterns fs) c h = shut_keeps is fs c h.0 h.2
wanting_keeps (stack is (patterns a as') fs) c h = tt

begin_keeps : (k : Stack) (c : TokenClass) → NormalStack k → Keeps (begin k c)
begin_keeps k (a_name x) h = h
begin_keeps k (a_number n) h = (omega arith, tt, h)
begin_keeps k (a_string x) h = (tt, h)
begin_keeps k a_none h = (omega arith, refl, h)
begin_keeps k (a_bool b) h = (omega arith, refl, h)
begin_keeps k a_minus h = h
begin_keeps (stack is as' fs) (opens b) h = (tt, tt, (h.0, h.1, h.2))
begin_keeps k c h = wanting_keeps k c h

something_append : (xs : List Text) (x : Text) → IsSomething (xs ++ x ∷ [])
something_append [] x = tt
something_append (y ∷ ys) x = tt

act_keeps : (s : State) (c : TokenClass) → NormalState s → Keeps (act s c)
act_keeps (Want k) c h = begin_keeps k c h
act_keeps (Minus k) (a_number n) h = (omega arith, tt, h)
act_keeps (Minus k) c h = tt
act_keeps (Named x k) a_dot h = h
act_keeps (Named x k) c h = let n = named_normal x in give_keeps (named x) k c n.0 n.1 h
act_keeps (Dotted m k) (a_name x) h = (omega arith, tt, h)
act_keeps (Dotted m k) c h = tt
act_keeps (Strings xs k) (a_string x) h = (something_append xs x, h.1)
act_keeps (Strings xs k) c h = give_keeps (literal false (c_str xs)) k c (omega arith) (h.0, refl) h.1
act_keeps (Have p k) c h = give_keeps p k c h.0 h.1 h.2
act_keeps (Naming p is fs) (a_name x) h = go (is_underscore x) refl
  where
    go : (b : Bool) → is_underscore x ≡ b → Keeps (cond b Stuck (Next (Item (p_as p x) is fs)))
    go true same = tt
    go false same = (omega arith, (h.0, h.1, λ e. let f = sym same ∙ ap is_underscore e in absurd cc), h.2, h.3)
act_keeps (Naming p is fs) c h = tt
act_keeps (Item p is fs) c h = offer_keeps p is fs c h.0 h.1 h.2 h.3

pub step_keeps : (s : State) (t : Kind) → NormalState s → Keeps (step s t)
step_keeps s t h = act_keeps s (class t) h

pub start_normal : NormalState start
start_normal = (tt, tt, tt)

-- ---- what finishes a state

put_normal : (p : Pattern) (is : Patterns) (fs : List Frame) → 1 ≤ pattern_rank p → NormalPattern p → EachPattern 1 is → NormalFrames fs → NormalPattern (put p is fs)
put_normal p is [] a n each h = listed_normal is p each a n
put_normal p is (frame b js bs ∷ fs) a n each h =
    let e = enclosed_normal b is p each a n in
    let j = joined_normal bs (enclosed b is p) h.1 e.0 e.1 in
    put_normal (joined bs (enclosed b is p)) js fs (let low = j.0 in omega arith) j.1 h.0 h.2

whole_normal : (p : Pattern) (k : Stack) → 3 ≤ pattern_rank p → NormalPattern p → NormalStack k → NormalPattern (whole p k)
whole_normal p (stack is as' fs) a n h = let j = joined_normal as' p h.1 a n in put_normal (joined as' p) is fs (let low = j.0 in omega arith) j.1 h.0 h.2

settled_normal : (k : Stack) → NormalStack k → NormalPattern (settled k)
settled_normal (stack no_patterns no_patterns []) h = tt
settled_normal (stack (patterns p ps) no_patterns []) h = bare_normal p ps h.0
settled_normal (stack no_patterns no_patterns (frame b js bs ∷ fs)) h = let e = ended_normal b no_patterns tt in whole_normal (ended b no_patterns) (stack js bs fs) e.0 e.1 h.2
settled_normal (stack (patterns p ps) no_patterns (frame b js bs ∷ fs)) h = let e = ended_normal b (patterns p ps) h.0 in whole_normal (ended b (patterns p ps)) (stack js bs fs) e.0 e.1 h.2
settled_normal (stack is (patterns a as') fs) h = whole_normal wild (stack is (patterns a as') fs) (omega arith) tt h

-- The least pattern that goes on from a state is normal.
pub finished_normal : (s : State) → NormalState s → NormalPattern (finished s)
finished_normal (Want k) h = settled_normal k h
finished_normal (Minus k) h = whole_normal (literal true (c_int (pos 0))) k (omega arith) tt h
finished_normal (Named x k) h = let n = named_normal x in whole_normal (named x) k n.0 n.1 h
finished_normal (Dotted m k) h = whole_normal (member m some_name) k (omega arith) tt h
finished_normal (Strings xs k) h = whole_normal (literal false (c_str xs)) k (omega arith) (h.0, refl) h.1
finished_normal (Have p k) h = whole_normal p k h.0 h.1 h.2
finished_normal (Naming p is fs) h = put_normal (p_as p some_name) is fs (omega arith) (h.0, h.1, λ e. let f : false ≡ true = ap is_underscore e in absurd cc) h.2 h.3
finished_normal (Item p is fs) h = put_normal p is fs h.0 h.1 h.2 h.3
