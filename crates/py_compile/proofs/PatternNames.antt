-- A match gives values for the names that its pattern captures.
use Rattle.std.proofs.Common.{◌≡◌, suc, List, [], ◌∷◌, ◌++◌, length, Option, Some, None, Bool, true, false, refl, ap, ◌∙◌}
use Rattle.std.specs.Prelude.{Ok, Err}
use Rattle.py_operator.specs.declared.operator.CmpOp.TheVariants.{Eq}
use Rattle.py_value.specs.Answers.{◌>>=◌}
use Rattle.py_value.specs.Operators.{compare_of}
use Rattle.py_value.specs.Plain.{PlainValue}
use Rattle.py_syntax.specs.Tree.{Text, Pattern, literal, capture, wild, member, sequence, p_or, p_as, p_paren, Patterns, no_patterns, patterns}
use Rattle.py_builtins.specs.Attributes.{attribute}
use Rattle.py_builtins.specs.Items.{sequence_items, of_length}
use Rattle.py_builtins.specs.World.{Names}
use Rattle.py_meaning.specs.Computations.{Setting, Ans}
use Rattle.py_meaning.specs.Patterns.{Match, match_if, and_then, or_else, constant_matches, pattern_count, on_items, matched, matched_each, matched_one}
use Rattle.py_meaning.specs.Places.{Scope, fetched}
use Rattle.py_compile_expr.specs.Patterns.{captured, captured_each}
use Rattle.py_compile.specs.Proper.{BindsNone, NoneBind, ProperPattern, ProperPatterns}

abbrev pub captured_names : Names → List Text
captured_names [] = []
captured_names (n ∷ ns) = n.0 ∷ captured_names ns

abbrev pub values_in : Names → List PlainValue
values_in [] = []
values_in (n ∷ ns) = n.1 ∷ values_in ns

pub names_append : (ms ns : Names) → captured_names (ms ++ ns) ≡ captured_names ms ++ captured_names ns
names_append [] ns = refl
names_append (m ∷ ms) ns = ap (λ xs. m.0 ∷ xs) (names_append ms ns)

pub values_append : (ms ns : Names) → values_in (ms ++ ns) ≡ values_in ms ++ values_in ns
values_append [] ns = refl
values_append (m ∷ ms) ns = ap (λ xs. m.1 ∷ xs) (values_append ms ns)

pub as_many : (ns : Names) → length (values_in ns) ≡ length (captured_names ns)
as_many [] = refl
as_many (n ∷ ns) = ap suc (as_many ns)

-- it has these names, where it is a match
abbrev pub HasNames : List Text → Ans Match → Type 0
HasNames xs (Ok None) = Unit {0}
HasNames xs (Ok (Some ns)) = captured_names ns ≡ xs
HasNames xs (Err e) = Unit {0}

names_of : {A : Type 0} (xs : List Text) (r : Ans A) (f : A → Ans Match) → ((a : A) → HasNames xs (f a)) → HasNames xs (r >>= f)
names_of xs (Ok a) f h = h a
names_of xs (Err e) f h = tt

names_if : (b : Bool) → HasNames [] (Ok (match_if b))
names_if true = refl
names_if false = tt

names_both : (xs ys : List Text) (m : Match) (rest : Ans Match) → HasNames xs (Ok m) → HasNames ys rest → HasNames (xs ++ ys) (and_then m rest)
names_both xs ys None rest h g = tt
names_both xs ys (Some ns) (Ok None) h g = tt
names_both xs ys (Some ns) (Ok (Some more)) h g = names_append ns more ∙ (ap (λ zs. zs ++ captured_names more) h ∙ ap (λ zs. xs ++ zs) g)
names_both xs ys (Some ns) (Err e) h g = tt

names_then : (xs ys : List Text) (r rest : Ans Match) → HasNames xs r → HasNames ys rest → HasNames (xs ++ ys) (r >>= λ m. and_then m rest)
names_then xs ys (Ok m) rest h g = names_both xs ys m rest h g
names_then xs ys (Err e) rest h g = tt

names_else : (r rest : Ans Match) → HasNames [] r → HasNames [] rest → HasNames [] (r >>= λ m. or_else m rest)
names_else (Ok None) rest h g = g
names_else (Ok (Some ns)) rest h g = h
names_else (Err e) rest h g = tt

mutual
  pub none_captured : (q : Pattern) → BindsNone q → captured q ≡ []
  none_captured (literal minus k) ok = refl
  none_captured (capture x) ok = absurd ok
  none_captured wild ok = refl
  none_captured (member m x) ok = refl
  none_captured (sequence brackets qs comma) ok = none_captured_each qs ok
  none_captured (p_or qs) ok = refl
  none_captured (p_as q x) ok = absurd ok
  none_captured (p_paren q) ok = none_captured q ok

  none_captured_each : (qs : Patterns) → NoneBind qs → captured_each qs ≡ []
  none_captured_each no_patterns ok = refl
  none_captured_each (patterns q qs) ok = ap (λ xs. xs ++ captured_each qs) (none_captured q ok.0) ∙ none_captured_each qs ok.1

mutual
  pub is_proper : (q : Pattern) → BindsNone q → ProperPattern q
  is_proper (literal minus k) ok = tt
  is_proper (capture x) ok = tt
  is_proper wild ok = tt
  is_proper (member m x) ok = tt
  is_proper (sequence brackets qs comma) ok = are_proper qs ok
  is_proper (p_or qs) ok = ok
  is_proper (p_as q x) ok = absurd ok
  is_proper (p_paren q) ok = is_proper q ok

  are_proper : (qs : Patterns) → NoneBind qs → ProperPatterns qs
  are_proper no_patterns ok = tt
  are_proper (patterns q qs) ok = (is_proper q ok.0, are_proper qs ok.1)

module _ (sc : Scope) (z : Setting) where
  names_compared : (v : PlainValue) (r : Ans PlainValue) → HasNames [] (r >>= λ u. compare_of Eq v u z.world.heap >>= λ b. Ok (match_if b))
  names_compared v (Ok u) = names_of [] (compare_of Eq v u z.world.heap) (λ b. Ok (match_if b)) names_if
  names_compared v (Err e) = tt

  names_member : (m x : Text) (v : PlainValue) (r : Ans PlainValue) → HasNames [] (r >>= λ of. attribute of x z.world >>= λ u. compare_of Eq v u z.world.heap >>= λ b. Ok (match_if b))
  names_member m x v (Ok of) = names_compared v (attribute of x z.world)
  names_member m x v (Err e) = tt

  names_items : (xs : List Text) (f : List PlainValue → Ans Match) → ((vs : List PlainValue) → HasNames xs (f vs)) → (o : Option (List PlainValue)) → HasNames xs (on_items o f)
  names_items xs f h None = tt
  names_items xs f h (Some vs) = h vs

  mutual
    unfolding matched matched_each matched_one

    pub has_names : (q : Pattern) → ProperPattern q → (v : PlainValue) → HasNames (captured q) (matched sc z q v)
    has_names (literal minus k) ok v = names_of [] (constant_matches minus k v z.world.heap) (λ b. Ok (match_if b)) names_if
    has_names (capture x) ok v = refl
    has_names wild ok v = refl
    has_names (member m x) ok v =
        names_member m x v (fetched sc m z)
    has_names (sequence brackets qs comma) ok v = names_items (captured_each qs) (λ vs. matched_each sc z qs vs) (has_names_each qs ok) (of_length (pattern_count qs) (sequence_items v z.world.heap))
    has_names (p_or qs) ok v = has_names_one qs ok v
    has_names (p_as q x) ok v = names_then (captured q) (x ∷ []) (matched sc z q v) (Ok (Some ((x, v) ∷ []))) (has_names q ok v) refl
    has_names (p_paren q) ok v = has_names q ok v

    pub has_names_each : (qs : Patterns) → ProperPatterns qs → (vs : List PlainValue) → HasNames (captured_each qs) (matched_each sc z qs vs)
    has_names_each no_patterns ok vs = refl
    has_names_each (patterns q qs) ok [] = tt
    has_names_each (patterns q qs) ok (v ∷ vs) = names_then (captured q) (captured_each qs) (matched sc z q v) (matched_each sc z qs vs) (has_names q ok.0 v) (has_names_each qs ok.1 vs)

    has_names_one : (qs : Patterns) → NoneBind qs → (v : PlainValue) → HasNames [] (matched_one sc z qs v)
    has_names_one no_patterns ok v = tt
    has_names_one (patterns q qs) ok v = names_else (matched sc z q v) (matched_one sc z qs v) (none_names q ok.0 v) (has_names_one qs ok.1 v)

    none_names : (q : Pattern) → BindsNone q → (v : PlainValue) → HasNames [] (matched sc z q v)
    none_names (literal minus k) ok v = names_of [] (constant_matches minus k v z.world.heap) (λ b. Ok (match_if b)) names_if
    none_names (capture x) ok v = absurd ok
    none_names wild ok v = refl
    none_names (member m x) ok v = names_member m x v (fetched sc m z)
    none_names (sequence brackets qs comma) ok v = names_items [] (λ vs. matched_each sc z qs vs) (none_names_each qs ok) (of_length (pattern_count qs) (sequence_items v z.world.heap))
    none_names (p_or qs) ok v = has_names_one qs ok v
    none_names (p_as q x) ok v = absurd ok
    none_names (p_paren q) ok v = none_names q ok v

    none_names_each : (qs : Patterns) → NoneBind qs → (vs : List PlainValue) → HasNames [] (matched_each sc z qs vs)
    none_names_each no_patterns ok vs = refl
    none_names_each (patterns q qs) ok [] = tt
    none_names_each (patterns q qs) ok (v ∷ vs) = names_then [] [] (matched sc z q v) (matched_each sc z qs vs) (none_names q ok.0 v) (none_names_each qs ok.1 vs)
