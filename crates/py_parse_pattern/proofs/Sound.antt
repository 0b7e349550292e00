-- What the machine has read is what its state stands for.
use Rattle.std.proofs.Common.{◌≡◌, ℕ, nat_eq, Bool, true, false, cond, List, [], ◌∷◌, ◌++◌, refl, sym, ap, subst, ◌∙◌}
use Rattle.std.proofs.lemmas.Bool.{eqb-true}
use Rattle.py_syntax.specs.Tree.{Text, c_str, Pattern, literal, capture, wild, p_as, Patterns, no_patterns, patterns}
use Rattle.py_syntax.specs.Kinds.{Kind, Name, Word, Int, Str, Sign}
use Rattle.py_syntax.specs.Tokens.{comma_if, strings, bool_word, underscore, pattern_tokens, pattern_items, more_patterns, alternatives}
use Rattle.py_parse_pattern.specs.declared.token_classes.Bracket.{Bracket}
use Rattle.py_parse_pattern.specs.declared.token_classes.Bracket.TheVariants.{Round, Square}
use Rattle.py_parse_pattern.specs.Machine.{TokenClass, a_name, a_number, a_string, a_none, a_bool, a_minus, opens, shuts, a_bar, an_as, a_comma, a_dot, other, class, open_mark, shut_mark, same_bracket, snoc, is_underscore, named, joined, enclosed, listed, ended, Frame, frame, Stack, stack, State, Want, Minus, Named, Dotted, Strings, Have, Naming, Item, Out, Next, Stuck, Left, offer, give, shut, wanting, begin, act, step}
use Rattle.py_token.specs.declared.token.Keyword.TheVariants as word
use Rattle.py_token.specs.declared.token.Mark.TheVariants as mark
pub mod NormalStates

-- alternatives, each with its bar, and then others
abbrev pub barred : Patterns → List Kind → List Kind
barred no_patterns r = r
barred (patterns p ps) r = pattern_tokens p (Sign mark.Bar ∷ barred ps r)

-- What was read before the innermost row, and then others.
abbrev pub before_row : List Frame → List Kind → List Kind
before_row [] r = r
before_row (frame b js bs ∷ fs) r = before_row fs (pattern_items js true (barred bs (Sign (open_mark b) ∷ r)))

abbrev pub before_closed : Stack → List Kind → List Kind
before_closed (stack is as' fs) r = before_row fs (pattern_items is true (barred as' r))

abbrev pub before_item : Patterns → List Frame → List Kind → List Kind
before_item is fs r = before_row fs (pattern_items is true r)

-- What was read, and then others.
abbrev pub before : State → List Kind → List Kind
before (Want k) r = before_closed k r
before (Minus k) r = before_closed k (Sign mark.Minus ∷ r)
before (Named x k) r = before_closed k (Name x ∷ r)
before (Dotted m k) r = before_closed k (Name m ∷ Sign mark.Dot ∷ r)
before (Strings xs k) r = before_closed k (strings xs r)
before (Have p k) r = before_closed k (pattern_tokens p r)
before (Naming p is fs) r = before_item is fs (pattern_tokens p (Word word.As ∷ r))
before (Item p is fs) r = before_item is fs (pattern_tokens p r)

-- ---- lists of trees

more_snoc : (ps : Patterns) (p : Pattern) (c : Bool) (r : List Kind) → more_patterns (snoc ps p) c r ≡ more_patterns ps true (pattern_tokens p (comma_if c r))
more_snoc no_patterns p c r = refl
more_snoc (patterns q qs) p c r = ap (λ (x : List Kind). Sign mark.Comma ∷ pattern_tokens q x) (more_snoc qs p c r)

pub items_snoc : (ps : Patterns) (p : Pattern) (c : Bool) (r : List Kind) → pattern_items (snoc ps p) c r ≡ pattern_items ps true (pattern_tokens p (comma_if c r))
items_snoc no_patterns p c r = refl
items_snoc (patterns q qs) p c r = ap (pattern_tokens q) (more_snoc qs p c r)

pub barred_snoc : (ps : Patterns) (p : Pattern) (r : List Kind) → barred (snoc ps p) r ≡ barred ps (pattern_tokens p (Sign mark.Bar ∷ r))
barred_snoc no_patterns p r = refl
barred_snoc (patterns q qs) p r = ap (λ (x : List Kind). pattern_tokens q (Sign mark.Bar ∷ x)) (barred_snoc qs p r)

alternatives_snoc : (ps : Patterns) (p : Pattern) (r : List Kind) → alternatives (snoc ps p) r ≡ Sign mark.Bar ∷ barred ps (pattern_tokens p r)
alternatives_snoc no_patterns p r = refl
alternatives_snoc (patterns q qs) p r = ap (λ (x : List Kind). Sign mark.Bar ∷ pattern_tokens q x) (alternatives_snoc qs p r)

pub joined_tokens : (ps : Patterns) (p : Pattern) (r : List Kind) → pattern_tokens (joined ps p) r ≡ barred ps (pattern_tokens p r)
joined_tokens no_patterns p r = refl
joined_tokens (patterns q qs) p r = ap (pattern_tokens q) (alternatives_snoc qs p r)

pub strings_append : (xs : List Text) (x : Text) (r : List Kind) → strings (xs ++ x ∷ []) r ≡ strings xs (Str x ∷ r)
strings_append [] x r = refl
strings_append (y ∷ ys) x r = ap (λ (z : List Kind). Str y ∷ z) (strings_append ys x r)

-- ---- names

is_95 : (c : ℕ) → nat_eq c 95 ≡ true → c ≡ 95
is_95 c h = eqb-true c 95 h

pub is_wild : (x : Text) → is_underscore x ≡ true → x ≡ underscore
is_wild [] h = absurd cc
is_wild (c ∷ []) h = ap (λ (d : ℕ). d ∷ []) (is_95 c h)
is_wild (c ∷ d ∷ cs) h = absurd cc

pub named_tokens : (x : Text) (r : List Kind) → pattern_tokens (named x) r ≡ Name x ∷ r
named_tokens x r = go (is_underscore x) refl
  where
    go : (b : Bool) → is_underscore x ≡ b → pattern_tokens (cond b wild (capture x)) r ≡ Name x ∷ r
    go true is = ap (λ (y : Text). Name y ∷ r) (sym (is_wild x is))
    go false is = refl

-- ---- tokens and their classes

-- the token of a class
abbrev pub Says : TokenClass → Kind → Type 0
Says (a_name x) t = t ≡ Name x
Says (a_number n) t = t ≡ Int n
Says (a_string x) t = t ≡ Str x
Says a_none t = t ≡ Word word.None
Says (a_bool b) t = t ≡ bool_word b
Says a_minus t = t ≡ Sign mark.Minus
Says (opens b) t = t ≡ Sign (open_mark b)
Says (shuts b) t = t ≡ Sign (shut_mark b)
Says a_bar t = t ≡ Sign mark.Bar
Says an_as t = t ≡ Word word.As
Says a_comma t = t ≡ Sign mark.Comma
Says a_dot t = t ≡ Sign mark.Dot
Says other t = Unit {0}

pub says : (t : Kind) → Says (class t) t
says (Name x) = refl
says (Int n) = refl
says (Str x) = refl
says (Word word.None) = refl
says (Word word.True) = refl
says (Word word.False) = refl
says (Word word.As) = refl
says (Sign mark.Minus) = refl
says (Sign mark.LeftParen) = refl
says (Sign mark.LeftBracket) = refl
says (Sign mark.RightParen) = refl
says (Sign mark.RightBracket) = refl
says (Sign mark.Bar) = refl
says (Sign mark.Comma) = refl
says (Sign mark.Dot) = refl
says t = tt

-- ---- steps

-- What a step does to what was read.
abbrev pub Reads : Kind → List Kind → List Kind → Out → Type 0
Reads t r all (Next s) = before s r ≡ all
Reads t r all Stuck = Unit {0}
Reads t r all (Left p) = pattern_tokens p (t ∷ r) ≡ all

pub enclosed_tokens : (b : Bracket) (is : Patterns) (p : Pattern) (r : List Kind) → pattern_tokens (enclosed b is p) r ≡ Sign (open_mark b) ∷ pattern_items is true (pattern_tokens p (Sign (shut_mark b) ∷ r))
enclosed_tokens Round no_patterns p r = refl
enclosed_tokens Round (patterns q qs) p r = ap (λ (x : List Kind). Sign mark.LeftParen ∷ x) (items_snoc (patterns q qs) p false (Sign mark.RightParen ∷ r))
enclosed_tokens Square is p r = ap (λ (x : List Kind). Sign mark.LeftBracket ∷ x) (items_snoc is p false (Sign mark.RightBracket ∷ r))

pub listed_tokens : (is : Patterns) (p : Pattern) (r : List Kind) → pattern_tokens (listed is p) r ≡ pattern_items is true (pattern_tokens p r)
listed_tokens no_patterns p r = refl
listed_tokens (patterns q qs) p r = items_snoc (patterns q qs) p false r

pub ended_tokens : (b : Bracket) (is : Patterns) (r : List Kind) → pattern_tokens (ended b is) r ≡ Sign (open_mark b) ∷ pattern_items is true (Sign (shut_mark b) ∷ r)
ended_tokens Round no_patterns r = refl
ended_tokens Round (patterns q qs) r = refl
ended_tokens Square no_patterns r = refl
ended_tokens Square (patterns q qs) r = refl

pub same_is : (b d : Bracket) → same_bracket b d ≡ true → d ≡ b
same_is Round Round h = refl
same_is Square Square h = refl
same_is Round Square h = absurd cc
same_is Square Round h = absurd cc

pub offer_reads : (p : Pattern) (is : Patterns) (fs : List Frame) (c : TokenClass) (t : Kind) (r : List Kind) → Says c t → Reads t r (before_item is fs (pattern_tokens p (t ∷ r))) (offer p is fs c)
offer_reads p is fs a_comma t r h = ap (before_row fs) (items_snoc is p true r) ∙ ap (λ (u : Kind). before_item is fs (pattern_tokens p (u ∷ r))) (sym h)
offer_reads p is (frame b js bs ∷ fs) (shuts d) t r h = go (same_bracket b d) refl
  where
    go : (same : Bool) → same_bracket b d ≡ same → Reads t r (before_item is (frame b js bs ∷ fs) (pattern_tokens p (t ∷ r))) (cond same (Next (Have (enclosed b is p) (stack js bs fs))) Stuck)
    go true same =
        ap (λ (x : List Kind). before_row fs (pattern_items js true (barred bs x))) (enclosed_tokens b is p r)
        ∙ ap (λ (u : Kind). before_item is (frame b js bs ∷ fs) (pattern_tokens p (u ∷ r))) (ap (λ (e : Bracket). Sign (shut_mark e)) (sym (same_is b d same)) ∙ sym h)
    go false same = tt
offer_reads p is [] c t r h = listed_tokens is p (t ∷ r)
offer_reads p is (f ∷ fs) c t r h = tt

offered : (p : Pattern) (is as' : Patterns) (fs : List Frame) (c : TokenClass) (t : Kind) (r : List Kind) → Says c t → Reads t r (before_closed (stack is as' fs) (pattern_tokens p (t ∷ r))) (offer (joined as' p) is fs c)
offered p is as' fs c t r h = subst (λ (x : List Kind). Reads t r (before_item is fs x) (offer (joined as' p) is fs c)) (joined_tokens as' p (t ∷ r)) (offer_reads (joined as' p) is fs c t r h)

pub give_reads : (p : Pattern) (k : Stack) (c : TokenClass) (t : Kind) (r : List Kind) → Says c t → Reads t r (before_closed k (pattern_tokens p (t ∷ r))) (give p k c)
give_reads p (stack is as' fs) a_bar t r h = ap (λ (x : List Kind). before_item is fs x) (barred_snoc as' p r) ∙ ap (λ (u : Kind). before_closed (stack is as' fs) (pattern_tokens p (u ∷ r))) (sym h)
give_reads p (stack is as' fs) an_as t r h = ap (λ (x : List Kind). before_item is fs x) (joined_tokens as' p (Word word.As ∷ r)) ∙ ap (λ (u : Kind). before_closed (stack is as' fs) (pattern_tokens p (u ∷ r))) (sym h)
give_reads p (stack is as' fs) c t r h = offered p is as' fs c t r h

shut_reads : (is : Patterns) (fs : List Frame) (c : TokenClass) (t : Kind) (r : List Kind) → Says c t → Reads t r (before_item is fs (t ∷ r)) (shut is fs c)
shut_reads is (frame b js bs ∷ fs) (shuts d) t r h = go (same_bracket b d) refl
  where
    go : (same : Bool) → same_bracket b d ≡ same → Reads t r (before_item is (frame b js bs ∷ fs) (t ∷ r)) (cond same (Next (Have (ended b is) (stack js bs fs))) Stuck)
    go true same =
        ap (λ (x : List Kind). before_row fs (pattern_items js true (barred bs x))) (ended_tokens b is r)
        ∙ ap (λ (u : Kind). before_item is (frame b js bs ∷ fs) (u ∷ r)) (ap (λ (e : Bracket). Sign (shut_mark e)) (sym (same_is b d same)) ∙ sym h)
    go false same = tt
shut_reads no_patterns [] c t r h = tt
shut_reads (patterns p ps) [] c t r h = refl
shut_reads is (f ∷ fs) c t r h = tt

wanting_reads : (k : Stack) (c : TokenClass) (t : Kind) (r : List Kind) → Says c t → Reads t r (before_closed k (t ∷ r)) (wanting k c)
wanting_reads (stack is no_patterns fs) c t r h = shut_reads is fs c t r h
wanting_reads (stack is (patterns a as') fs) c t r h = tt

-- a token in the place of one that is the same
moved : (k : Stack) (u t : Kind) (r : List Kind) → t ≡ u → before_closed k (u ∷ r) ≡ before_closed k (t ∷ r)
moved k u t r h = ap (λ (v : Kind). before_closed k (v ∷ r)) (sym h)

begin_reads : (k : Stack) (c : TokenClass) (t : Kind) (r : List Kind) → Says c t → Reads t r (before_closed k (t ∷ r)) (begin k c)
begin_reads k (a_name x) t r h = moved k (Name x) t r h
begin_reads k (a_number n) t r h = moved k (Int n) t r h
begin_reads k (a_string x) t r h = moved k (Str x) t r h
begin_reads k a_none t r h = moved k (Word word.None) t r h
begin_reads k (a_bool b) t r h = moved k (bool_word b) t r h
begin_reads k a_minus t r h = moved k (Sign mark.Minus) t r h
begin_reads (stack is as' fs) (opens b) t r h = moved (stack is as' fs) (Sign (open_mark b)) t r h
begin_reads k c t r h = wanting_reads k c t r h

given : (p : Pattern) (k : Stack) (c : TokenClass) (t : Kind) (r all : List Kind) → Says c t → pattern_tokens p (t ∷ r) ≡ all → Reads t r (before_closed k all) (give p k c)
given p k c t r all h same = subst (λ (x : List Kind). Reads t r (before_closed k x) (give p k c)) same (give_reads p k c t r h)

pub act_reads : (s : State) (c : TokenClass) (t : Kind) (r : List Kind) → Says c t → Reads t r (before s (t ∷ r)) (act s c)
act_reads (Want k) c t r h = begin_reads k c t r h
act_reads (Minus k) (a_number n) t r h = ap (λ (v : Kind). before_closed k (Sign mark.Minus ∷ v ∷ r)) (sym h)
act_reads (Minus k) c t r h = tt
act_reads (Named x k) a_dot t r h = ap (λ (v : Kind). before_closed k (Name x ∷ v ∷ r)) (sym h)
act_reads (Named x k) c t r h = given (named x) k c t r (Name x ∷ t ∷ r) h (named_tokens x (t ∷ r))
act_reads (Dotted m k) (a_name x) t r h = ap (λ (v : Kind). before_closed k (Name m ∷ Sign mark.Dot ∷ v ∷ r)) (sym h)
act_reads (Dotted m k) c t r h = tt
act_reads (Strings xs k) (a_string x) t r h = ap (before_closed k) (strings_append xs x r ∙ ap (λ (v : Kind). strings xs (v ∷ r)) (sym h))
act_reads (Strings xs k) c t r h = give_reads (literal false (c_str xs)) k c t r h
act_reads (Have p k) c t r h = give_reads p k c t r h
act_reads (Naming p is fs) (a_name x) t r h = go (is_underscore x)
  where
    go : (b : Bool) → Reads t r (before_item is fs (pattern_tokens p (Word word.As ∷ t ∷ r))) (cond b Stuck (Next (Item (p_as p x) is fs)))
    go true = tt
    go false = ap (λ (v : Kind). before_item is fs (pattern_tokens p (Word word.As ∷ v ∷ r))) (sym h)
act_reads (Naming p is fs) c t r h = tt
act_reads (Item p is fs) c t r h = offer_reads p is fs c t r h

pub step_reads : (s : State) (t : Kind) (r : List Kind) → Reads t r (before s (t ∷ r)) (step s t)
step_reads s t r = act_reads s (class t) t r (says t)
