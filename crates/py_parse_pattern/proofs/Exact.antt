-- Where the machine stops, and what that says of all patterns.
use Rattle.std.proofs.Common.{◌≡◌, ℕ, ◌≤◌, ◌<◌, Bool, true, false, cond, List, [], ◌∷◌, ◌++◌, nat_le, Option, Some, None, refl, sym, ap, subst, ◌∙◌, arith, append_assoc}
use Rattle.std.proofs.lemmas.Bool.{leb-true, leb-false}
use Rattle.py_syntax.specs.declared.pattern.Brackets.TheVariants as brackets_
use Rattle.py_syntax.specs.Tree.{Text, Constant, c_int, c_str, c_none, c_bool, Pattern, literal, capture, wild, member, sequence, p_or, p_as, p_paren, Patterns, no_patterns, patterns}
use Rattle.py_syntax.specs.Kinds.{Kind, Name, Word, Str, Sign}
use Rattle.py_syntax.specs.Tokens.{comma_if, strings, minus_if, constant, pattern_tokens, pattern_items, more_patterns, alternatives}
use Rattle.py_syntax.specs.Normal.{NormalPattern, pattern_height}
use Rattle.py_parse_pattern.specs.Machine.{TokenClass, a_name, a_number, a_string, a_none, a_bool, a_minus, opens, shuts, a_bar, an_as, a_comma, a_dot, other, class, same_bracket, is_underscore, named, joined, enclosed, ended, Frame, frame, Stack, stack, State, Want, Minus, Named, Dotted, Strings, Have, Naming, Item, Out, Next, Stuck, Left, offer, give, shut, wanting, begin, act, step, start, Leaves, run, put, whole, closed, settled, finished, least, Ending, Unexpected, TooDeep, within}
use Rattle.py_token.specs.declared.token.Keyword.TheVariants as word
use Rattle.py_token.specs.declared.token.Mark.TheVariants as mark
use Rattle.std.proofs.lemmas.List.{append-nil}
use Rattle.py_syntax.specs.Kinds.{End}
use Rattle.py_parse_pattern.specs.Machine as machine
use Rattle.py_syntax.specs.Refusals as any_tree
use Rattle.py_parse_pattern.specs.Trees.{HasTokens, IsWithin, BeginsPattern, IsPattern, IsUnexpected, IsTooDeep, OnePattern}
use Rattle.py_parse_pattern.proofs.Sound.{before, Reads, step_reads}
use Rattle.py_parse_pattern.proofs.Sound.NormalStates.{NormalState, Keeps, step_keeps, start_normal, finished_normal}
use Rattle.py_parse_pattern.proofs.Least.Finish.{finish, finish_tokens}
use Rattle.py_parse_pattern.proofs.Least.{Grows, step_grows}
use Rattle.py_parse_pattern.proofs.Complete.{outcome, reads_all}

-- ---- tokens and then others

strings_parted : (xs : List Text) (a r : List Kind) → strings xs (a ++ r) ≡ strings xs a ++ r
strings_parted [] a r = refl
strings_parted (x ∷ xs) a r = ap (λ (y : List Kind). Str x ∷ y) (strings_parted xs a r)

constant_parted : (c : Constant) (a r : List Kind) → constant c (a ++ r) ≡ constant c a ++ r
constant_parted (c_int n) a r = refl
constant_parted (c_str xs) a r = strings_parted xs a r
constant_parted c_none a r = refl
constant_parted (c_bool b) a r = refl

minus_parted : (m : Bool) (a r : List Kind) → minus_if m (a ++ r) ≡ minus_if m a ++ r
minus_parted true a r = refl
minus_parted false a r = refl

comma_parted : (c : Bool) (a r : List Kind) → comma_if c (a ++ r) ≡ comma_if c a ++ r
comma_parted true a r = refl
comma_parted false a r = refl

mutual
  pub parted : (p : Pattern) (a r : List Kind) → pattern_tokens p (a ++ r) ≡ pattern_tokens p a ++ r
  parted (literal m c) a r = ap (minus_if m) (constant_parted c a r) ∙ minus_parted m (constant c a) r
  parted (capture x) a r = refl
  parted wild a r = refl
  parted (member m x) a r = refl
  parted (sequence brackets_.Round ps c) a r = ap (λ (y : List Kind). Sign mark.LeftParen ∷ y) (items_parted ps c (Sign mark.RightParen ∷ a) r)
  parted (sequence brackets_.Square ps c) a r = ap (λ (y : List Kind). Sign mark.LeftBracket ∷ y) (items_parted ps c (Sign mark.RightBracket ∷ a) r)
  parted (sequence brackets_.Bare ps c) a r = items_parted ps c a r
  parted (p_or no_patterns) a r = refl
  parted (p_or (patterns p ps)) a r = ap (pattern_tokens p) (bars_parted ps a r) ∙ parted p (alternatives ps a) r
  parted (p_as p x) a r = parted p (Word word.As ∷ Name x ∷ a) r
  parted (p_paren p) a r = ap (λ (y : List Kind). Sign mark.LeftParen ∷ y) (parted p (Sign mark.RightParen ∷ a) r)

  items_parted : (ps : Patterns) (c : Bool) (a r : List Kind) → pattern_items ps c (a ++ r) ≡ pattern_items ps c a ++ r
  items_parted no_patterns c a r = refl
  items_parted (patterns p ps) c a r = ap (pattern_tokens p) (more_parted ps c a r) ∙ parted p (more_patterns ps c a) r

  more_parted : (ps : Patterns) (c : Bool) (a r : List Kind) → more_patterns ps c (a ++ r) ≡ more_patterns ps c a ++ r
  more_parted no_patterns c a r = comma_parted c a r
  more_parted (patterns p ps) c a r = ap (λ (y : List Kind). Sign mark.Comma ∷ y) (ap (pattern_tokens p) (more_parted ps c a r) ∙ parted p (more_patterns ps c a) r)

  bars_parted : (ps : Patterns) (a r : List Kind) → alternatives ps (a ++ r) ≡ alternatives ps a ++ r
  bars_parted no_patterns a r = refl
  bars_parted (patterns p ps) a r = ap (λ (y : List Kind). Sign mark.Bar ∷ y) (ap (pattern_tokens p) (bars_parted ps a r) ∙ parted p (alternatives ps a) r)

-- ---- the state after some tokens

abbrev one : Out → Option State
one (Next n) = Some n
one Stuck = None
one (Left p) = None

abbrev pub steps : State → List Kind → Option State
steps s [] = Some s
steps s (t ∷ ts) = elim (step s t) [ Next n ↦ steps n ts | Stuck ↦ None | Left p ↦ None ]

abbrev carried : Out → List Kind → Option State
carried o ts = elim o as (λ (w : Out). Option State) [ Next n ↦ steps n ts | Stuck ↦ None | Left p ↦ None ]

steps_before : (s n : State) (ts r : List Kind) → steps s ts ≡ Some n → before s (ts ++ r) ≡ before n r
steps_before s n [] r h = let same : s ≡ n = cc in ap (λ (m : State). before m r) same
steps_before s n (t ∷ ts) r h = go (λ m. steps_before m n ts r) (step s t) (step_reads s t (ts ++ r)) h
  where
    go : ((m : State) → steps m ts ≡ Some n → before m (ts ++ r) ≡ before n r) → (o : Out) → Reads t (ts ++ r) (before s (t ∷ ts ++ r)) o → carried o ts ≡ Some n → before s (t ∷ ts ++ r) ≡ before n r
    go rec (Next m) reads h = sym reads ∙ rec m h
    go rec Stuck reads h = absurd cc
    go rec (Left p) reads h = absurd cc

steps_normal : (s n : State) (ts : List Kind) → NormalState s → steps s ts ≡ Some n → NormalState n
steps_normal s n [] normal h = let same : s ≡ n = cc in subst NormalState same normal
steps_normal s n (t ∷ ts) normal h = go (λ m. steps_normal m n ts) (step s t) (step_keeps s t normal) h
  where
    go : ((m : State) → NormalState m → steps m ts ≡ Some n → NormalState n) → (o : Out) → Keeps o → carried o ts ≡ Some n → NormalState n
    go rec (Next m) keeps h = rec m keeps h
    go rec Stuck keeps h = absurd cc
    go rec (Left p) keeps h = absurd cc

steps_snoc : (s n : State) (ts : List Kind) (t : Kind) → steps s ts ≡ Some n → steps s (ts ++ t ∷ []) ≡ one (step n t)
steps_snoc s n [] t h = let same : s ≡ n = cc in ap (λ (m : State). carried (step m t) []) same ∙ last (step n t)
  where
    last : (o : Out) → carried o [] ≡ one o
    last (Next m) = refl
    last Stuck = refl
    last (Left p) = refl
steps_snoc s n (u ∷ ts) t h = go (λ m. steps_snoc m n ts t) (step s u) h
  where
    go : ((m : State) → steps m ts ≡ Some n → steps m (ts ++ t ∷ []) ≡ one (step n t)) → (o : Out) → carried o ts ≡ Some n → carried o (ts ++ t ∷ []) ≡ one (step n t)
    go rec (Next m) h = rec m h
    go rec Stuck h = absurd cc
    go rec (Left p) h = absurd cc

run_steps : (s n : State) (ts r : List Kind) → steps s ts ≡ Some n → run s (ts ++ r) ≡ run n r
run_steps s n [] r h = let same : s ≡ n = cc in ap (λ (m : State). run m r) same
run_steps s n (t ∷ ts) r h = go (λ m. run_steps m n ts r) (step s t) h
  where
    go : ((m : State) → steps m ts ≡ Some n → run m (ts ++ r) ≡ run n r) → (o : Out) → carried o ts ≡ Some n → outcome o t (ts ++ r) ≡ run n r
    go rec (Next m) h = rec m h
    go rec Stuck h = absurd cc
    go rec (Left p) h = absurd cc

run_least : (s : State) (ts : List Kind) (p : Pattern) (r : List Kind) → run s ts ≡ Leaves p r → least s ≤ pattern_height p
run_least s [] p r h = absurd cc
run_least s (t ∷ ts) p r h = go (λ m. run_least m ts p r) (step s t) (step_grows s t) h
  where
    go : ((m : State) → run m ts ≡ Leaves p r → least m ≤ pattern_height p) → (o : Out) → Grows (least s) o → outcome o t ts ≡ Leaves p r → least s ≤ pattern_height p
    go rec (Next m) grows h = let low = rec m h in omega arith
    go rec Stuck grows h = absurd cc
    go rec (Left q) grows h = let same : q ≡ p = cc in subst (λ (x : Pattern). least s ≤ pattern_height x) same grows

-- what a whole reading passes, its beginning passes, at no greater height
passes : (s : State) (front : List Kind) (b : Kind) (bs : List Kind) (p : Pattern) (e : Kind) → run s (front ++ b ∷ bs) ≡ Leaves p (e ∷ []) → (n : State) × (steps s front ≡ Some n) × (least n ≤ pattern_height p)
passes s [] b bs p e h = (s, refl, run_least s (b ∷ bs) p (e ∷ []) h)
passes s (u ∷ us) b bs p e h = go (λ m. passes m us b bs p e) (step s u) h
  where
    after : (us : List Kind) → us ++ b ∷ bs ≡ [] → ⊥
    after [] h = absurd cc
    after (v ∷ vs) h = absurd cc

    go : ((m : State) → run m (us ++ b ∷ bs) ≡ Leaves p (e ∷ []) → (n : State) × (steps m us ≡ Some n) × (least n ≤ pattern_height p)) → (o : Out) → outcome o u (us ++ b ∷ bs) ≡ Leaves p (e ∷ []) → (n : State) × (carried o us ≡ Some n) × (least n ≤ pattern_height p)
    go rec (Next m) h = rec m h
    go rec Stuck h = absurd cc
    go rec (Left q) h = let none : us ++ b ∷ bs ≡ [] = cc in absurd (after us none)

-- ---- viable prefixes

abbrev BeginsWithin : ℕ → List Kind → Type 0
BeginsWithin limit front = any_tree.BeginsWithin HasTokens (IsWithin limit) front

pub within_from : (limit : ℕ) (front : List Kind) (s : State) → steps start front ≡ Some s → least s ≤ limit → BeginsWithin limit front
within_from limit front s h low =
    (finished s, finish s [], (finished_normal s (steps_normal start s front start_normal h), sym (finish_tokens s []) ∙ sym (steps_before start s front (finish s []) h)), low)

-- the tokens of a pattern and an end
ended_list : (p : Pattern) (front more : List Kind) → pattern_tokens p [] ≡ front ++ more → pattern_tokens p (End ∷ []) ≡ front ++ (more ++ End ∷ [])
ended_list p front more h = parted p [] (End ∷ []) ∙ ap (λ (x : List Kind). x ++ End ∷ []) h ∙ append_assoc front more (End ∷ [])

some_more : (s : State) (front more : List Kind) (p : Pattern) → run s (front ++ (more ++ End ∷ [])) ≡ Leaves p (End ∷ []) → (n : State) × (steps s front ≡ Some n) × (least n ≤ pattern_height p)
some_more s front [] p h = passes s front End [] p End h
some_more s front (m ∷ more) p h = passes s front m (more ++ End ∷ []) p End h

passed : (front : List Kind) (p : Pattern) (more : List Kind) → NormalPattern p → pattern_tokens p [] ≡ front ++ more → (n : State) × (steps start front ≡ Some n) × (least n ≤ pattern_height p)
passed front p more n h = some_more start front more p (ap (run start) (sym (ended_list p front more h)) ∙ reads_all p End [] n refl)

pub begins_to : (front : List Kind) → BeginsPattern front → (s : State) × (steps start front ≡ Some s)
begins_to front b = let x = passed front b.0 b.1 b.2.0 b.2.1 in (x.0, x.1)

pub within_to : (limit : ℕ) (front : List Kind) → BeginsWithin limit front → (s : State) × (steps start front ≡ Some s) × (least s ≤ limit)
within_to limit front b = let x = passed front b.0 b.1 b.2.0 b.2.1 in let low = x.2 in let high = b.3 in (x.0, x.1, omega arith)

-- Two patterns of one list are one pattern.
pub one_pattern : OnePattern
one_pattern p q n m same =
    let pe = ended_list p (pattern_tokens q []) [] (same ∙ sym (append-nil (pattern_tokens q []))) in
    let qe = parted q [] (End ∷ []) in
    let both = sym (reads_all p End [] n refl) ∙ ap (run start) (pe ∙ sym qe) ∙ reads_all q End [] m refl in
    cc

-- ---- where the machine stops

-- the pattern that a token leaves is the one that the state finishes with
abbrev LeavesIt : State → Out → Type 0
LeavesIt s (Next n) = Unit {0}
LeavesIt s Stuck = Unit {0}
LeavesIt s (Left p) = finished s ≡ p

offer_left : (s : State) (p : Pattern) (is : Patterns) (fs : List Frame) (c : TokenClass) → finished s ≡ put p is fs → LeavesIt s (offer p is fs c)
offer_left s p is fs a_comma h = tt
offer_left s p is [] c h = h
offer_left s p is (frame b js bs ∷ fs) (shuts d) h = go (same_bracket b d)
  where
    go : (same : Bool) → LeavesIt s (cond same (Next (Have (enclosed b is p) (stack js bs fs))) Stuck)
    go true = tt
    go false = tt
offer_left s p is (f ∷ fs) c h = tt

give_left : (s : State) (p : Pattern) (k : Stack) (c : TokenClass) → finished s ≡ whole p k → LeavesIt s (give p k c)
give_left s p (stack is as' fs) a_bar h = tt
give_left s p (stack is as' fs) an_as h = tt
give_left s p (stack is as' fs) c h = offer_left s (joined as' p) is fs c h

shut_left : (s : State) (is : Patterns) (fs : List Frame) (c : TokenClass) → finished s ≡ closed is fs → LeavesIt s (shut is fs c)
shut_left s no_patterns [] c h = tt
shut_left s (patterns p ps) [] c h = h
shut_left s is (frame b js bs ∷ fs) (shuts d) h = go (same_bracket b d)
  where
    go : (same : Bool) → LeavesIt s (cond same (Next (Have (ended b is) (stack js bs fs))) Stuck)
    go true = tt
    go false = tt
shut_left s is (f ∷ fs) c h = tt

wanting_left : (s : State) (k : Stack) (c : TokenClass) → finished s ≡ settled k → LeavesIt s (wanting k c)
wanting_left s (stack is no_patterns fs) c h = shut_left s is fs c h
wanting_left s (stack is (patterns a as') fs) c h = tt

begin_left : (s : State) (k : Stack) (c : TokenClass) → finished s ≡ settled k → LeavesIt s (begin k c)
begin_left s k (a_name x) h = tt
begin_left s k (a_number n) h = tt
begin_left s k (a_string x) h = tt
begin_left s k a_none h = tt
begin_left s k (a_bool b) h = tt
begin_left s k a_minus h = tt
begin_left s k (opens b) h = tt
begin_left s k c h = wanting_left s k c h

left_is : (s : State) (c : TokenClass) → LeavesIt s (act s c)
left_is (Want k) c = begin_left (Want k) k c refl
left_is (Minus k) (a_number n) = tt
left_is (Minus k) c = tt
left_is (Named x k) a_dot = tt
left_is (Named x k) c = give_left (Named x k) (named x) k c refl
left_is (Dotted m k) (a_name x) = tt
left_is (Dotted m k) c = tt
left_is (Strings xs k) (a_string x) = tt
left_is (Strings xs k) c = give_left (Strings xs k) (literal false (c_str xs)) k c refl
left_is (Have p k) c = give_left (Have p k) p k c refl
left_is (Naming p is fs) (a_name x) = go (is_underscore x)
  where
    go : (b : Bool) → LeavesIt (Naming p is fs) (cond b Stuck (Next (Item (p_as p x) is fs)))
    go true = tt
    go false = tt
left_is (Naming p is fs) c = tt
left_is (Item p is fs) c = offer_left (Item p is fs) p is fs c refl

-- where no step takes a token, an end doesn't leave a pattern either
abbrev leaves_one : Out → Bool
leaves_one (Left p) = true
leaves_one o = false

abbrev sticks : Out → Bool
sticks Stuck = true
sticks o = false

offer_stuck : (p : Pattern) (is : Patterns) (fs : List Frame) (c : TokenClass) → sticks (offer p is fs c) ≡ true → leaves_one (offer p is fs other) ≡ false
offer_stuck p is fs a_comma h = absurd cc
offer_stuck p is [] c h = absurd cc
offer_stuck p is (f ∷ fs) c h = refl

give_stuck : (p : Pattern) (k : Stack) (c : TokenClass) → sticks (give p k c) ≡ true → leaves_one (give p k other) ≡ false
give_stuck p (stack is as' fs) a_bar h = absurd cc
give_stuck p (stack is as' fs) an_as h = absurd cc
give_stuck p (stack is as' fs) c h = offer_stuck (joined as' p) is fs c h

shut_stuck : (is : Patterns) (fs : List Frame) (c : TokenClass) → sticks (shut is fs c) ≡ true → leaves_one (shut is fs other) ≡ false
shut_stuck no_patterns [] c h = refl
shut_stuck (patterns p ps) [] c h = absurd cc
shut_stuck is (frame b js bs ∷ fs) c h = refl

wanting_stuck : (k : Stack) (c : TokenClass) → sticks (wanting k c) ≡ true → leaves_one (wanting k other) ≡ false
wanting_stuck (stack is no_patterns fs) c h = shut_stuck is fs c h
wanting_stuck (stack is (patterns a as') fs) c h = refl

begin_stuck : (k : Stack) (c : TokenClass) → sticks (begin k c) ≡ true → leaves_one (begin k other) ≡ false
begin_stuck k (a_name x) h = absurd cc
begin_stuck k (a_number n) h = absurd cc
begin_stuck k (a_string x) h = absurd cc
begin_stuck k a_none h = absurd cc
begin_stuck k (a_bool b) h = absurd cc
begin_stuck k a_minus h = absurd cc
begin_stuck k (opens b) h = absurd cc
begin_stuck k c h = wanting_stuck k c h

stuck_end : (s : State) (c : TokenClass) → sticks (act s c) ≡ true → leaves_one (act s other) ≡ false
stuck_end (Want k) c h = begin_stuck k c h
stuck_end (Minus k) c h = refl
stuck_end (Named x k) a_dot h = absurd cc
stuck_end (Named x k) c h = give_stuck (named x) k c h
stuck_end (Dotted m k) c h = refl
stuck_end (Strings xs k) (a_string x) h = absurd cc
stuck_end (Strings xs k) c h = give_stuck (literal false (c_str xs)) k c h
stuck_end (Have p k) c h = give_stuck p k c h
stuck_end (Naming p is fs) c h = refl
stuck_end (Item p is fs) c h = offer_stuck p is fs c h

-- How a reading ends at a state.
abbrev How : ℕ → State → Ending → Type 0
How limit s (Unexpected []) = Unit {0}
How limit s (Unexpected (t ∷ ts)) = step s t ≡ Stuck
How limit s (TooDeep []) = ⊥
How limit s (TooDeep (t ∷ ts)) = (n : State) × (step s t ≡ Next n) × (limit < least n)
How limit s (machine.Reads p []) = ⊥
How limit s (machine.Reads p (t ∷ ts)) = step s t ≡ Left p

abbrev pub rest_of : Ending → List Kind
rest_of (Unexpected rest) = rest
rest_of (TooDeep rest) = rest
rest_of (machine.Reads p rest) = rest

record Stops (limit : ℕ) (s : State) (ts : List Kind) (e : Ending) : Type 0 where
  pub front : List Kind
  pub last : State
  pub split : ts ≡ front ++ rest_of e
  pub passes : steps s front ≡ Some last
  pub low : least last ≤ limit
  pub how : How limit last e

abbrev ending : ℕ → Out → Kind → List Kind → Ending
ending limit o t ts = elim o as (λ (w : Out). Ending) [ Next n ↦ cond (nat_le (least n) limit) (within limit n ts) (TooDeep (t ∷ ts)) | Stuck ↦ Unexpected (t ∷ ts) | Left p ↦ machine.Reads p (t ∷ ts) ]

stops : (limit : ℕ) (s : State) (ts : List Kind) → least s ≤ limit → Stops limit s ts (within limit s ts)
stops limit s [] low = record { front = []; last = s; split = refl; passes = refl; low = low; how = tt }
stops limit s (t ∷ ts) low = go (λ n. stops limit n ts) (step s t) refl
  where
    next : ((n : State) → least n ≤ limit → Stops limit n ts (within limit n ts)) → (n : State) → step s t ≡ Next n → (b : Bool) → nat_le (least n) limit ≡ b → Stops limit s (t ∷ ts) (cond b (within limit n ts) (TooDeep (t ∷ ts)))
    next rec n is true le =
        let r = rec n (leb-true _ _ le) in
        record { front = t ∷ r.front; last = r.last; split = ap (λ (x : List Kind). t ∷ x) r.split; passes = ap (λ (o : Out). carried o r.front) is ∙ r.passes; low = r.low; how = r.how }
    next rec n is false le = record { front = []; last = s; split = refl; passes = refl; low = low; how = (n, is, leb-false _ _ le) }

    go : ((n : State) → least n ≤ limit → Stops limit n ts (within limit n ts)) → (o : Out) → step s t ≡ o → Stops limit s (t ∷ ts) (ending limit o t ts)
    go rec (Next n) is = next rec n is (nat_le (least n) limit) refl
    go rec Stuck is = record { front = []; last = s; split = refl; passes = refl; low = low; how = is }
    go rec (Left p) is = record { front = []; last = s; split = refl; passes = refl; low = low; how = is }

-- ---- what it says of all patterns

no_next : (front : List Kind) (s : State) (t : Kind) → steps start front ≡ Some s → one (step s t) ≡ None → BeginsPattern (front ++ t ∷ []) → ⊥
no_next front s t h none b =
    let x = begins_to (front ++ t ∷ []) b in
    let both = sym x.1 ∙ steps_snoc start s front t h ∙ none in
    absurd cc

no_pattern : (front : List Kind) (s : State) (t : Kind) → steps start front ≡ Some s → step s t ≡ Stuck → (p : Pattern) → HasTokens p front → ⊥
no_pattern front s t h stuck p has =
    let n = has.0 in
    let is = has.1 in
    let all = ended_list p front [] (is ∙ sym (append-nil front)) in
    let left = sym (run_steps start s front (End ∷ []) h) ∙ ap (run start) (sym all) ∙ reads_all p End [] n refl in
    not_left (step s End) (stuck_end s (class t) (ap sticks stuck)) left
  where
    not_left : (o : Out) → leaves_one o ≡ false → outcome o End [] ≡ Leaves p (End ∷ []) → ⊥
    not_left (Next m) no_left h = absurd cc
    not_left Stuck no_left h = absurd cc
    not_left (Left q) no_left h = absurd cc

abbrev pub Means : ℕ → List Kind → Ending → Type 0
Means limit front (Unexpected rest) = IsUnexpected limit front rest
Means limit front (TooDeep rest) = IsTooDeep limit front rest
Means limit front (machine.Reads p rest) = IsPattern limit p front rest

means : (limit : ℕ) (front : List Kind) (s : State) (e : Ending) → steps start front ≡ Some s → least s ≤ limit → How limit s e → Means limit front e
means limit front s (Unexpected []) h low how = within_from limit front s h low
means limit front s (Unexpected (t ∷ ts)) h low how = (within_from limit front s h low, no_pattern front s t h how, no_next front s t h (ap one how))
means limit front s (TooDeep []) h low how = absurd how
means limit front s (TooDeep (t ∷ ts)) h low how =
    let all : steps start (front ++ t ∷ []) ≡ Some how.0 = steps_snoc start s front t h ∙ ap one how.1 in
    let b = within_from (least how.0) (front ++ t ∷ []) how.0 all (omega arith) in
    (within_from limit front s h low, (b.0, b.1, b.2), too_high how.0 all how.2)
  where
    too_high : (n : State) → steps start (front ++ t ∷ []) ≡ Some n → limit < least n → BeginsWithin limit (front ++ t ∷ []) → ⊥
    too_high n all high v =
        let x = within_to limit (front ++ t ∷ []) v in
        let same : n ≡ x.0 = let both = sym all ∙ x.1 in cc in
        let low = subst (λ (m : State). least m ≤ limit) (sym same) x.2 in
        absurd (omega arith)
means limit front s (machine.Reads p []) h low how = absurd how
means limit front s (machine.Reads p (t ∷ ts)) h low how =
    let it : finished s ≡ p = subst (LeavesIt s) how (left_is s (class t)) in
    let normal = subst NormalPattern it (finished_normal s (steps_normal start s front start_normal h)) in
    let nothing = within_from limit front s h low in
    (normal, spelled how, subst (λ (x : Pattern). pattern_height x ≤ limit) it low, no_next front s t h (ap one how))
  where
    cancel : (a b : List Kind) (t : Kind) → a ++ t ∷ [] ≡ b ++ t ∷ [] → a ≡ b
    cancel [] [] t h = refl
    cancel [] (y ∷ []) t h = absurd cc
    cancel [] (y ∷ z ∷ ys) t h = absurd cc
    cancel (x ∷ []) [] t h = absurd cc
    cancel (x ∷ z ∷ xs) [] t h = absurd cc
    cancel (x ∷ xs) (y ∷ ys) t h = let one : x ≡ y = cc in let two : xs ++ t ∷ [] ≡ ys ++ t ∷ [] = cc in let three = cancel xs ys t two in cc

    spelled : step s t ≡ Left p → pattern_tokens p [] ≡ front
    spelled how =
        let reads = subst (Reads t [] (before s (t ∷ []))) how (step_reads s t []) in
        cancel (pattern_tokens p []) front t (sym (parted p [] (t ∷ [])) ∙ reads ∙ sym (steps_before start s front (t ∷ []) h))

-- Where a reading within the limit ends, and what that says of all patterns.
pub exact : (limit : ℕ) (ts : List Kind) (e : Ending) → 1 ≤ limit → within limit start ts ≡ e → (front : List Kind) × (ts ≡ front ++ rest_of e) × Means limit front e
exact limit ts e one is =
    let s = subst (Stops limit start ts) is (stops limit start ts one) in
    (s.front, s.split, means limit s.front s.last e s.passes s.low s.how)
