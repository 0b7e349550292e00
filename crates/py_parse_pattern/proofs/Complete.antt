-- The tokens of a normal pattern lead the machine to that pattern.
use Rattle.std.proofs.Common.{◌≡◌, ◌≢◌, ◌≤◌, Bool, true, false, cond, List, [], ◌∷◌, ◌++◌, refl, sym, ap, ◌∙◌, arith, append_assoc}
use Rattle.py_syntax.specs.declared.pattern.Brackets.TheVariants as brackets_
use Rattle.py_syntax.specs.Tree.{Text, Constant, c_int, c_str, c_none, c_bool, Pattern, literal, capture, wild, member, sequence, p_or, p_as, p_paren, Patterns, no_patterns, patterns}
use Rattle.py_syntax.specs.Kinds.{Kind, Name, Word, Str, Sign}
use Rattle.py_syntax.specs.Tokens.{strings, bool_word, underscore, minus_if, pattern_tokens, pattern_items, more_patterns, alternatives}
use Rattle.py_syntax.specs.Normal.{pattern_rank, NormalConstant, NormalPattern, EachPattern}
use Rattle.py_parse_pattern.specs.declared.token_classes.Bracket.{Bracket}
use Rattle.py_parse_pattern.specs.declared.token_classes.Bracket.TheVariants.{Round, Square}
use Rattle.py_parse_pattern.specs.Machine.{TokenClass, a_string, a_bar, an_as, a_dot, other, class, shut_mark, brackets_of, snoc, is_some, is_underscore, named, joined, enclosed, listed, ended, Frame, frame, Stack, stack, State, Want, Named, Strings, Have, Naming, Item, Out, Next, Stuck, Left, offer, give, leave, begin, act, step, start, Verdict, Refused, Leaves, run}
use Rattle.py_token.specs.declared.token.Keyword.TheVariants as word
use Rattle.py_token.specs.declared.token.Mark.TheVariants as mark
use Rattle.py_syntax.specs.declared.pattern.Brackets.{Brackets}
use Rattle.std.proofs.lemmas.List.{append-nil}
use Rattle.py_parse_pattern.proofs.Sound.{is_wild}

abbrev pub outcome : Out → Kind → List Kind → Verdict
outcome o t ts = elim o [ Next n ↦ run n ts | Stuck ↦ Refused (t ∷ ts) | Left p ↦ Leaves p (t ∷ ts) ]

-- two states that step alike run alike
alike : (s u : State) (t : Kind) (ts : List Kind) → step s t ≡ step u t → run s (t ∷ ts) ≡ run u (t ∷ ts)
alike s u t ts same = ap (λ (o : Out). outcome o t ts) same

-- ---- what may follow

-- a token that makes a name or a string longer
abbrev pub lengthens : TokenClass → Bool
lengthens a_dot = true
lengthens (a_string x) = true
lengthens c = false

-- a token that goes on with one pattern
abbrev pub goes_on : TokenClass → Bool
goes_on a_dot = true
goes_on (a_string x) = true
goes_on a_bar = true
goes_on an_as = true
goes_on c = false

abbrev pub Quiet : List Kind → Type 0
Quiet [] = ⊥
Quiet (t ∷ ts) = lengthens (class t) ≡ false

abbrev pub Ends : List Kind → Type 0
Ends [] = ⊥
Ends (t ∷ ts) = goes_on (class t) ≡ false

quiet_class : (c : TokenClass) → goes_on c ≡ false → lengthens c ≡ false
quiet_class a_dot h = absurd cc
quiet_class (a_string x) h = absurd cc
quiet_class c h = refl

quiet : (r : List Kind) → Ends r → Quiet r
quiet [] h = absurd h
quiet (t ∷ ts) h = quiet_class (class t) h

-- ---- what is claimed of a pattern

-- a closed pattern
abbrev pub ClosedBack : Pattern → Type 0
ClosedBack p = (k : Stack) (r : List Kind) → Quiet r → run (Want k) (pattern_tokens p r) ≡ run (Have p k) r

-- alternatives are read but for their last
pub record Ready (q : Pattern) (is : Patterns) (fs : List Frame) (r : List Kind) : Type 0 where
  pub earlier : Patterns
  pub last : Pattern
  pub all : joined earlier last ≡ q
  pub reads : run (Want (stack is no_patterns fs)) (pattern_tokens q r) ≡ run (Have last (stack is earlier fs)) r

abbrev pub ReadyBack : Pattern → Type 0
ReadyBack q = (is : Patterns) (fs : List Frame) (r : List Kind) → Quiet r → Ready q is fs r

abbrev pub ItemBack : Pattern → Type 0
ItemBack q = (is : Patterns) (fs : List Frame) (r : List Kind) → Ends r → run (Want (stack is no_patterns fs)) (pattern_tokens q r) ≡ run (Item q is fs) r

ready_closed : (p : Pattern) → ClosedBack p → ReadyBack p
ready_closed p back is fs r h = record { earlier = no_patterns; last = p; all = refl; reads = back (stack is no_patterns fs) r h }

give_item : (p : Pattern) (is as' : Patterns) (fs : List Frame) (c : TokenClass) → goes_on c ≡ false → give p (stack is as' fs) c ≡ offer (joined as' p) is fs c
give_item p is as' fs a_bar h = absurd cc
give_item p is as' fs an_as h = absurd cc
give_item p is as' fs c h = refl

have_item : (p : Pattern) (is as' : Patterns) (fs : List Frame) (r : List Kind) → Ends r → run (Have p (stack is as' fs)) r ≡ run (Item (joined as' p) is fs) r
have_item p is as' fs [] h = absurd h
have_item p is as' fs (t ∷ ts) h = alike (Have p (stack is as' fs)) (Item (joined as' p) is fs) t ts (give_item p is as' fs (class t) h)

item_ready : (q : Pattern) → ReadyBack q → ItemBack q
item_ready q back is fs r h =
    let b = back is fs r (quiet r h) in
    b.reads ∙ have_item b.last is b.earlier fs r h ∙ ap (λ (x : Pattern). run (Item x is fs) r) b.all

-- ---- closed patterns

settle_strings : (xs : List Text) (k : Stack) (c : TokenClass) → lengthens c ≡ false → act (Strings xs k) c ≡ give (literal false (c_str xs)) k c
settle_strings xs k (a_string x) h = absurd cc
settle_strings xs k c h = refl

settle_name : (x : Text) (k : Stack) (c : TokenClass) → lengthens c ≡ false → act (Named x k) c ≡ give (named x) k c
settle_name x k a_dot h = absurd cc
settle_name x k c h = refl

run_name : (x : Text) (k : Stack) (r : List Kind) → Quiet r → run (Named x k) r ≡ run (Have (named x) k) r
run_name x k [] h = absurd h
run_name x k (t ∷ ts) h = alike (Named x k) (Have (named x) k) t ts (settle_name x k (class t) h)

run_strings : (xs ys : List Text) (k : Stack) (r : List Kind) → Quiet r → run (Strings xs k) (strings ys r) ≡ run (Have (literal false (c_str (xs ++ ys))) k) r
run_strings xs [] k [] h = absurd h
run_strings xs [] k (t ∷ ts) h = alike (Strings xs k) (Have (literal false (c_str xs)) k) t ts (settle_strings xs k (class t) h) ∙ ap (λ (z : List Text). run (Have (literal false (c_str z)) k) (t ∷ ts)) (sym (append-nil xs))
run_strings xs (y ∷ ys) k r h = run_strings (xs ++ y ∷ []) ys k r h ∙ ap (λ (z : List Text). run (Have (literal false (c_str z)) k) r) (append_assoc xs (y ∷ []) ys)

literal_back : (minus : Bool) (c : Constant) → NormalConstant minus c → ClosedBack (literal minus c)
literal_back false (c_int n) n' k r h = refl
literal_back true (c_int n) n' k r h = refl
literal_back minus (c_str []) n' k r h = absurd n'.0
literal_back minus (c_str (x ∷ xs)) n' k r h =
    ap (λ (m : Bool). run (Want k) (minus_if m (Str x ∷ strings xs r))) n'.1
    ∙ run_strings (x ∷ []) xs k r h
    ∙ ap (λ (m : Bool). run (Have (literal m (c_str (x ∷ xs))) k) r) (sym n'.1)
literal_back minus c_none n' k r h =
    ap (λ (m : Bool). run (Want k) (minus_if m (Word word.None ∷ r))) n' ∙ ap (λ (m : Bool). run (Have (literal m c_none) k) r) (sym n')
literal_back minus (c_bool b) n' k r h =
    ap (λ (m : Bool). run (Want k) (minus_if m (bool_word b ∷ r))) n' ∙ reads b ∙ ap (λ (m : Bool). run (Have (literal m (c_bool b)) k) r) (sym n')
  where
    reads : (b : Bool) → run (Want k) (bool_word b ∷ r) ≡ run (Have (literal false (c_bool b)) k) r
    reads true = refl
    reads false = refl

wild_back : ClosedBack wild
wild_back k r h = run_name underscore k r h

not_wild : (x : Text) → x ≢ underscore → is_underscore x ≡ false
not_wild x h = go (is_underscore x) refl
  where
    go : (b : Bool) → is_underscore x ≡ b → b ≡ false
    go true is = absurd (h (is_wild x is))
    go false is = refl

capture_back : (x : Text) → x ≢ underscore → ClosedBack (capture x)
capture_back x n k r h = run_name x k r h ∙ ap (λ (b : Bool). run (Have (cond b wild (capture x)) k) r) (not_wild x n)

member_back : (m x : Text) → ClosedBack (member m x)
member_back m x k r h = refl

-- ---- rows

join : Patterns → Patterns → Patterns
join no_patterns qs = qs
join (patterns p ps) qs = patterns p (join ps qs)

join_snoc : (ps : Patterns) (p : Pattern) (qs : Patterns) → join (snoc ps p) qs ≡ join ps (patterns p qs)
unfolding join
join_snoc no_patterns p qs = refl
join_snoc (patterns q ps) p qs = ap (patterns q) (join_snoc ps p qs)

join_last : (ps : Patterns) (p : Pattern) → join ps (patterns p no_patterns) ≡ snoc ps p
unfolding join
join_last no_patterns p = refl
join_last (patterns q ps) p = ap (patterns q) (join_last ps p)

join_none : (ps : Patterns) → join no_patterns ps ≡ ps
unfolding join
join_none ps = refl

abbrev AllItems : Patterns → Type 0
AllItems no_patterns = Unit {0}
AllItems (patterns p ps) = ItemBack p × AllItems ps

abbrev AllClosed : Patterns → Type 0
AllClosed no_patterns = Unit {0}
AllClosed (patterns p ps) = ClosedBack p × AllClosed ps

-- in round brackets one item alone has a comma after it, and so it is with no brackets
abbrev Marked : Brackets → Patterns → Patterns → Bool → Type 0
Marked brackets_.Square is ps c = Unit {0}
Marked b no_patterns no_patterns c = c ≡ true
Marked b is ps c = Unit {0}

marked_more : (b : Brackets) (is : Patterns) (q r : Pattern) (ps : Patterns) (c : Bool) → Marked b (snoc is q) ps c
marked_more brackets_.Square is q r ps c = tt
marked_more brackets_.Round no_patterns q r ps c = tt
marked_more brackets_.Round (patterns i is) q r ps c = tt
marked_more brackets_.Bare no_patterns q r ps c = tt
marked_more brackets_.Bare (patterns i is) q r ps c = tt

abbrev shut_token : Bracket → Kind
shut_token b = Sign (shut_mark b)

some_snoc : (is : Patterns) (p : Pattern) → is_some (snoc is p) ≡ true
some_snoc no_patterns p = refl
some_snoc (patterns q qs) p = refl

-- the bracket shuts after an item
shuts_item : (b : Bracket) (q : Pattern) (is js bs : Patterns) (fs : List Frame) (r : List Kind) → run (Item q is (frame b js bs ∷ fs)) (shut_token b ∷ r) ≡ run (Have (enclosed b is q) (stack js bs fs)) r
shuts_item Round q is js bs fs r = refl
shuts_item Square q is js bs fs r = refl

-- the bracket shuts after a comma, or at once
shuts_row : (b : Bracket) (is js bs : Patterns) (fs : List Frame) (r : List Kind) → run (Want (stack is no_patterns (frame b js bs ∷ fs))) (shut_token b ∷ r) ≡ run (Have (ended b is) (stack js bs fs)) r
shuts_row Round is js bs fs r = refl
shuts_row Square is js bs fs r = refl

enclosed_is : (b : Bracket) (is : Patterns) (q : Pattern) → Marked (brackets_of b) is no_patterns false → enclosed b is q ≡ sequence (brackets_of b) (snoc is q) false
enclosed_is Round no_patterns q h = absurd cc
enclosed_is Round (patterns p ps) q h = refl
enclosed_is Square is q h = refl

ends_shut : (b : Bracket) (r : List Kind) → Ends (shut_token b ∷ r)
ends_shut Round r = refl
ends_shut Square r = refl

ends_more : (ps : Patterns) (c : Bool) (r : List Kind) → Ends r → Ends (more_patterns ps c r)
ends_more no_patterns true r h = refl
ends_more no_patterns false r h = h
ends_more (patterns p ps) c r h = refl

-- after the first items of a row, to its end
rest_of_row : (b : Bracket) (ps is : Patterns) (q : Pattern) (js bs : Patterns) (fs : List Frame) (c : Bool) (r : List Kind) → AllItems ps → Marked (brackets_of b) is ps c →
    run (Item q is (frame b js bs ∷ fs)) (more_patterns ps c (shut_token b ∷ r)) ≡ run (Have (sequence (brackets_of b) (join is (patterns q ps)) c) (stack js bs fs)) r
rest_of_row b no_patterns is q js bs fs false r all m =
    shuts_item b q is js bs fs r
    ∙ ap (λ (x : Pattern). run (Have x (stack js bs fs)) r) (enclosed_is b is q m ∙ ap (λ (x : Patterns). sequence (brackets_of b) x false) (sym (join_last is q)))
rest_of_row b no_patterns is q js bs fs true r all m =
    shuts_row b (snoc is q) js bs fs r
    ∙ ap (λ (x : Bool). run (Have (sequence (brackets_of b) (snoc is q) x) (stack js bs fs)) r) (some_snoc is q)
    ∙ ap (λ (x : Patterns). run (Have (sequence (brackets_of b) x true) (stack js bs fs)) r) (sym (join_last is q))
rest_of_row b (patterns p ps) is q js bs fs c r all m =
    all.0 (snoc is q) (frame b js bs ∷ fs) (more_patterns ps c (shut_token b ∷ r)) (ends_more ps c (shut_token b ∷ r) (ends_shut b r))
    ∙ rest_of_row b ps (snoc is q) p js bs fs c r all.1 (marked_more (brackets_of b) is q p ps c)
    ∙ ap (λ (x : Patterns). run (Have (sequence (brackets_of b) x c) (stack js bs fs)) r) (join_snoc is q (patterns p ps))

row_back : (b : Bracket) (ps : Patterns) (c : Bool) (js bs : Patterns) (fs : List Frame) (r : List Kind) → AllItems ps → NormalPattern (sequence (brackets_of b) ps c) →
    run (Want (stack no_patterns no_patterns (frame b js bs ∷ fs))) (pattern_items ps c (shut_token b ∷ r)) ≡ run (Have (sequence (brackets_of b) ps c) (stack js bs fs)) r
row_back b no_patterns c js bs fs r all n = shuts_row b no_patterns js bs fs r ∙ ap (λ (x : Bool). run (Have (sequence (brackets_of b) no_patterns x) (stack js bs fs)) r) (sym (comma_none b n))
  where
    comma_none : (b : Bracket) → NormalPattern (sequence (brackets_of b) no_patterns c) → c ≡ false
    comma_none Round n = n
    comma_none Square n = n
row_back b (patterns q ps) c js bs fs r all n =
    all.0 no_patterns (frame b js bs ∷ fs) (more_patterns ps c (shut_token b ∷ r)) (ends_more ps c (shut_token b ∷ r) (ends_shut b r))
    ∙ rest_of_row b ps no_patterns q js bs fs c r all.1 (marked b ps n)
    ∙ ap (λ (x : Patterns). run (Have (sequence (brackets_of b) x c) (stack js bs fs)) r) (join_none (patterns q ps))
  where
    marked : (b : Bracket) (ps : Patterns) → NormalPattern (sequence (brackets_of b) (patterns q ps) c) → Marked (brackets_of b) no_patterns ps c
    marked Square ps n = tt
    marked Round no_patterns n = n.2
    marked Round (patterns p ps) n = tt

sequence_back : (b : Bracket) (ps : Patterns) (c : Bool) → AllItems ps → NormalPattern (sequence (brackets_of b) ps c) → ClosedBack (sequence (brackets_of b) ps c)
sequence_back Round ps c all n (stack js bs fs) r h = row_back Round ps c js bs fs r all n
sequence_back Square ps c all n (stack js bs fs) r h = row_back Square ps c js bs fs r all n

paren_back : (p : Pattern) → ItemBack p → ClosedBack (p_paren p)
paren_back p back (stack js bs fs) r h =
    back no_patterns (frame Round js bs ∷ fs) (Sign mark.RightParen ∷ r) refl

-- ---- alternatives and names

quiet_bars : (ps : Patterns) (r : List Kind) → Quiet r → Quiet (alternatives ps r)
quiet_bars no_patterns r h = h
quiet_bars (patterns p ps) r h = refl

rest_of_bars : (ps as' : Patterns) (q : Pattern) (is : Patterns) (fs : List Frame) (r : List Kind) → AllClosed ps → Quiet r →
    (earlier : Patterns) × (last : Pattern) × (snoc earlier last ≡ join as' (patterns q ps)) × (run (Have q (stack is as' fs)) (alternatives ps r) ≡ run (Have last (stack is earlier fs)) r)
rest_of_bars no_patterns as' q is fs r all h = (as', q, sym (join_last as' q), refl)
rest_of_bars (patterns p ps) as' q is fs r all h =
    let rest = rest_of_bars ps (snoc as' q) p is fs r all.1 h in
    (rest.0, rest.1, rest.2 ∙ join_snoc as' q (patterns p ps), all.0 (stack is (snoc as' q) fs) (alternatives ps r) (quiet_bars ps r h) ∙ rest.3)

joined_is : (earlier : Patterns) (last p q : Pattern) (ps : Patterns) → snoc earlier last ≡ patterns p (patterns q ps) → joined earlier last ≡ p_or (patterns p (patterns q ps))
joined_is no_patterns last p q ps h = absurd cc
joined_is (patterns e es) last p q ps h = ap p_or h

or_back : (p q : Pattern) (ps : Patterns) → ClosedBack p → AllClosed (patterns q ps) → ReadyBack (p_or (patterns p (patterns q ps)))
or_back p q ps back all is fs r h =
    let rest = rest_of_bars (patterns q ps) no_patterns p is fs r all h in
    record {
      earlier = rest.0;
      last = rest.1;
      all = joined_is rest.0 rest.1 p q ps (rest.2 ∙ join_none (patterns p (patterns q ps)));
      reads = back (stack is no_patterns fs) (alternatives (patterns q ps) r) (quiet_bars (patterns q ps) r h) ∙ rest.3;
    }

as_back : (p : Pattern) (x : Text) → x ≢ underscore → ReadyBack p → ItemBack (p_as p x)
as_back p x n back is fs r h =
    let b = back is fs (Word word.As ∷ Name x ∷ r) refl in
    b.reads
    ∙ ap (λ (q : Pattern). run (Naming q is fs) (Name x ∷ r)) b.all
    ∙ ap (λ (c : Bool). outcome (cond c Stuck (Next (Item (p_as p x) is fs))) (Name x) r) (not_wild x n)

-- ---- all together

abbrev pub Back : Pattern → Type 0
Back (sequence brackets_.Bare ps c) = Unit {0}
Back (p_as p x) = ItemBack (p_as p x)
Back (p_or ps) = ReadyBack (p_or ps)
Back p = ClosedBack p

closed_of : (p : Pattern) → 3 ≤ pattern_rank p → Back p → ClosedBack p
closed_of (sequence brackets_.Bare ps c) a b = absurd (omega arith)
closed_of (p_as p x) a b = absurd (omega arith)
closed_of (p_or ps) a b = absurd (omega arith)
closed_of p a b = b

ready_of : (p : Pattern) → 2 ≤ pattern_rank p → Back p → ReadyBack p
ready_of (sequence brackets_.Bare ps c) a b = absurd (omega arith)
ready_of (p_as p x) a b = absurd (omega arith)
ready_of (p_or ps) a b = b
ready_of p a b = ready_closed p b

item_of : (p : Pattern) → 1 ≤ pattern_rank p → Back p → ItemBack p
item_of (sequence brackets_.Bare ps c) a b = absurd (omega arith)
item_of (p_as p x) a b = b
item_of (p_or ps) a b = item_ready (p_or ps) b
item_of p a b = item_ready p (ready_closed p b)

mutual
  pub back : (p : Pattern) → NormalPattern p → Back p
  back (literal minus c) n = literal_back minus c n
  back (capture x) n = capture_back x n
  back wild n = wild_back
  back (member m x) n = member_back m x
  back (sequence brackets_.Round no_patterns c) n = sequence_back Round no_patterns c tt n
  back (sequence brackets_.Round (patterns p no_patterns) c) n = sequence_back Round (patterns p no_patterns) c (item_of p n.0 (back p n.1), tt) n
  back (sequence brackets_.Round (patterns p (patterns q ps)) c) n = sequence_back Round (patterns p (patterns q ps)) c (item_of p n.0 (back p n.1), items_back (patterns q ps) n.2) n
  back (sequence brackets_.Square no_patterns c) n = sequence_back Square no_patterns c tt n
  back (sequence brackets_.Square (patterns p ps) c) n = sequence_back Square (patterns p ps) c (items_back (patterns p ps) n) n
  back (sequence brackets_.Bare ps c) n = tt
  back (p_or no_patterns) n = absurd n
  back (p_or (patterns p no_patterns)) n = absurd n
  back (p_or (patterns p (patterns q ps))) n = or_back p q ps (closed_of p n.0 (back p n.1)) (bars_back (patterns q ps) n.2)
  back (p_as p x) n = as_back p x n.2 (ready_of p n.0 (back p n.1))
  back (p_paren p) n = paren_back p (item_of p n.0 (back p n.1))

  pub items_back : (ps : Patterns) → EachPattern 1 ps → AllItems ps
  items_back no_patterns n = tt
  items_back (patterns p ps) n = (item_of p n.0 (back p n.1), items_back ps n.2)

  bars_back : (ps : Patterns) → EachPattern 3 ps → AllClosed ps
  bars_back no_patterns n = tt
  bars_back (patterns p ps) n = (closed_of p n.0 (back p n.1), bars_back ps n.2)

-- ---- a whole pattern

-- a token that no pattern has
abbrev pub IsOver : Kind → Type 0
IsOver t = class t ≡ other

over_item : (p : Pattern) (is : Patterns) (t : Kind) → IsOver t → step (Item p is []) t ≡ Left (listed is p)
over_item p is t h = ap (offer p is []) h

over_row : (p : Pattern) (is : Patterns) (t : Kind) → IsOver t → step (Want (stack (snoc is p) no_patterns [])) t ≡ Left (sequence brackets_.Bare (snoc is p) true)
over_row p is t h = ap (begin (stack (snoc is p) no_patterns [])) h ∙ some is
  where
    some : (is : Patterns) → leave (snoc is p) ≡ Left (sequence brackets_.Bare (snoc is p) true)
    some no_patterns = refl
    some (patterns q qs) = refl

ends_over : (t : Kind) (r : List Kind) → IsOver t → Ends (t ∷ r)
ends_over t r h = ap goes_on h

listed_is : (is : Patterns) (q : Pattern) → Marked brackets_.Bare is no_patterns false → listed is q ≡ sequence brackets_.Bare (snoc is q) false
listed_is no_patterns q h = absurd cc
listed_is (patterns p ps) q h = refl

rest_of_list : (ps is : Patterns) (q : Pattern) (c : Bool) (t : Kind) (r : List Kind) → IsOver t → AllItems ps → Marked brackets_.Bare is ps c →
    run (Item q is []) (more_patterns ps c (t ∷ r)) ≡ Leaves (sequence brackets_.Bare (join is (patterns q ps)) c) (t ∷ r)
rest_of_list no_patterns is q false t r over all m =
    ap (λ (o : Out). outcome o t r) (over_item q is t over)
    ∙ ap (λ (x : Pattern). Leaves x (t ∷ r)) (listed_is is q m ∙ ap (λ (x : Patterns). sequence brackets_.Bare x false) (sym (join_last is q)))
rest_of_list no_patterns is q true t r over all m =
    ap (λ (o : Out). outcome o t r) (over_row q is t over)
    ∙ ap (λ (x : Patterns). Leaves (sequence brackets_.Bare x true) (t ∷ r)) (sym (join_last is q))
rest_of_list (patterns p ps) is q c t r over all m =
    all.0 (snoc is q) [] (more_patterns ps c (t ∷ r)) (ends_more ps c (t ∷ r) (ends_over t r over))
    ∙ rest_of_list ps (snoc is q) p c t r over all.1 (marked_more brackets_.Bare is q p ps c)
    ∙ ap (λ (x : Patterns). Leaves (sequence brackets_.Bare x c) (t ∷ r)) (join_snoc is q (patterns p ps))

list_back : (q : Pattern) (ps : Patterns) (c : Bool) (t : Kind) (r : List Kind) → IsOver t → AllItems (patterns q ps) → Marked brackets_.Bare no_patterns ps c →
    run start (pattern_tokens (sequence brackets_.Bare (patterns q ps) c) (t ∷ r)) ≡ Leaves (sequence brackets_.Bare (patterns q ps) c) (t ∷ r)
list_back q ps c t r over all m =
    all.0 no_patterns [] (more_patterns ps c (t ∷ r)) (ends_more ps c (t ∷ r) (ends_over t r over))
    ∙ rest_of_list ps no_patterns q c t r over all.1 m
    ∙ ap (λ (x : Patterns). Leaves (sequence brackets_.Bare x c) (t ∷ r)) (join_none (patterns q ps))

one_back : (p : Pattern) (t : Kind) (r : List Kind) → IsOver t → ItemBack p → run start (pattern_tokens p (t ∷ r)) ≡ Leaves p (t ∷ r)
one_back p t r over b = b no_patterns [] (t ∷ r) (ends_over t r over) ∙ ap (λ (o : Out). outcome o t r) (over_item p no_patterns t over)

-- The whole of a normal pattern is read, up to a token that no pattern has.
pub reads_all : (p : Pattern) (t : Kind) (r : List Kind) → NormalPattern p → IsOver t → run start (pattern_tokens p (t ∷ r)) ≡ Leaves p (t ∷ r)
reads_all (sequence brackets_.Bare no_patterns c) t r n over = absurd n
reads_all (sequence brackets_.Bare (patterns p no_patterns) c) t r n over = list_back p no_patterns c t r over (item_of p n.0 (back p n.1), tt) n.2
reads_all (sequence brackets_.Bare (patterns p (patterns q ps)) c) t r n over = list_back p (patterns q ps) c t r over (item_of p n.0 (back p n.1), items_back (patterns q ps) n.2) tt
reads_all p t r n over = one_back p t r over (item_of p (omega arith) (back p n))
