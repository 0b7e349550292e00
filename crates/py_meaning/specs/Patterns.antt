-- Which values a pattern matches, and what it binds (Python Language Reference, 8.6.4, "Patterns").
--     Match                        what a match gives
--     constant_matches             literals
--     matched                      patterns
--     bind_all                     the names of a match
use Rattle.std.specs.Prelude.{ℕ, suc, Bool, true, false, List, [], ◌∷◌, ◌++◌, ℤ, neg_ℤ, Option, Some, None, Ok}
use Rattle.py_operator.specs.declared.operator.CmpOp.TheVariants.{Eq}
use Rattle.py_value.specs.Answers.{◌>>=◌}
use Rattle.py_value.specs.Operators.{compare_of, is_none_value, is_bool_value}
use Rattle.py_value.specs.Plain.{PlainValue, int_value, str_value, PlainHeap}
use Rattle.py_syntax.specs.Tree.{Constant, c_int, c_str, c_none, c_bool, Pattern, literal, capture, wild, member, sequence, p_or, p_as, p_paren, Patterns, no_patterns, patterns}
use Rattle.py_builtins.specs.World.{Names}
use Rattle.py_builtins.specs.Attributes.{attribute}
use Rattle.py_meaning.specs.Computations.{Setting, Ans}
use Rattle.py_meaning.specs.Literals.{run_together}
use Rattle.py_meaning.specs.Places.{Scope, fetched, bound}
use Rattle.py_builtins.specs.Items.{sequence_items, of_length}

-- What a match gives: the names to be bound, in order, or none where there is no match.
abbrev pub Match : Type 0
Match = Option Names

-- a match that binds nothing, where something holds
abbrev pub match_if : Bool → Match
match_if true = Some []
match_if false = None

-- goes on where there is a match, with its names in front
abbrev pub and_then : Match → Ans Match → Ans Match
and_then None rest = Ok None
and_then (Some names) rest = rest >>= λ found. Ok (joined_to names found)
  where
    joined_to : Names → Match → Match
    joined_to names None = None
    joined_to names (Some more) = Some (names ++ more)

-- a match, or else another one
abbrev pub or_else : Match → Ans Match → Ans Match
or_else None rest = rest
or_else (Some names) rest = Ok (Some names)

-- a minus stands in front of numbers alone
abbrev pub with_sign : Bool → ℤ → ℤ
with_sign true n = neg_ℤ n
with_sign false n = n

-- numbers and strings match by `==`; None, True and False as that value
abbrev pub constant_matches : Bool → Constant → PlainValue → PlainHeap → Ans Bool
constant_matches minus (c_int n) v h = compare_of Eq v (int_value (with_sign minus n)) h
constant_matches minus (c_str pieces) v h = compare_of Eq v (str_value (run_together pieces)) h
constant_matches minus c_none v h = Ok (is_none_value v)
constant_matches minus (c_bool b) v h = Ok (is_bool_value b v)

-- how many patterns there are
abbrev pub pattern_count : Patterns → ℕ
pattern_count no_patterns = 0
pattern_count (patterns p ps) = suc (pattern_count ps)

-- goes on with items, where there are so many
abbrev pub on_items : Option (List PlainValue) → (List PlainValue → Ans Match) → Ans Match
on_items None f = Ok None
on_items (Some vs) f = f vs

unfoldable mutual
  -- a pattern
  pub matched : Scope → Setting → Pattern → PlainValue → Ans Match
  matched p w (literal minus c) v = constant_matches minus c v w.world.heap >>= λ b. Ok (match_if b)
  matched p w (capture x) v = Ok (Some ((x, v) ∷ []))
  matched p w wild v = Ok (Some [])
  matched p w (member m x) v =
      fetched p m w >>= λ of. attribute of x w.world >>= λ u.
      compare_of Eq v u w.world.heap >>= λ b. Ok (match_if b)
  matched p w (sequence brackets qs comma) v =
      on_items (of_length (pattern_count qs) (sequence_items v w.world.heap)) (λ vs.
      matched_each p w qs vs)
  matched p w (p_or qs) v = matched_one p w qs v
  matched p w (p_as q x) v = matched p w q v >>= λ found. and_then found (Ok (Some ((x, v) ∷ [])))
  matched p w (p_paren q) v = matched p w q v

  -- item by item
  pub matched_each : Scope → Setting → Patterns → List PlainValue → Ans Match
  matched_each p w no_patterns vs = Ok (Some [])
  matched_each p w (patterns q qs) [] = Ok None
  matched_each p w (patterns q qs) (v ∷ vs) =
      matched p w q v >>= λ found. and_then found (matched_each p w qs vs)

  -- the first alternative that matches
  pub matched_one : Scope → Setting → Patterns → PlainValue → Ans Match
  matched_one p w no_patterns v = Ok None
  matched_one p w (patterns q qs) v =
      matched p w q v >>= λ found. or_else found (matched_one p w qs v)

-- the names bound, in order
abbrev pub bind_all : Scope → Names → Setting → Setting
bind_all p [] w = w
bind_all p (n ∷ ns) w = bind_all p ns (bound p n.0 n.1 w)
