-- What an expression gives (Python Language Reference, "Expressions").
--     eval                        an expression
--     eval_each, eval_pairs       expressions in a row, and the pairs of a dict
--     eval_links, eval_opt        a chain of comparisons, and a bound of a slice
--     eval_fragments              an f-string
use Rattle.std.specs.Prelude.{true, false, if◌then◌else◌, List, [], ◌∷◌, Option, Some, None, Ok}
use Rattle.py_value.specs.Operators.{binary_of, index_of}
use Rattle.py_value.specs.Plain.{PlainValue, none_value, bool_value, int_value, str_value}
use Rattle.py_meaning.specs.Asked.{asked}
use Rattle.py_syntax.specs.Tree.{Text, Expr, name, int, str, fstr, none, bool, tuple, list, dict, paren, not', and, or, unary, binary, compare, cond, call, index, slice, attr, Exprs, no_exprs, exprs, Pairs, no_pairs, pair, Links, no_links, link, OptExpr, absent, present, Fragments, no_fragments, plain, format, Parts, no_parts, text, field}
use Rattle.py_builtins.specs.Methods.{new_list}
use Rattle.py_builtins.specs.Texts.{str_text}
use Rattle.py_builtins.specs.Attributes.{attribute}
use Rattle.py_meaning.specs.Calls.{Calls, callee_in, call_of}
use Rattle.py_meaning.specs.Computations.{Ans, M, give, value, ask, work, branch}
use Rattle.py_meaning.specs.Literals.{run_together, signed}
use Rattle.py_builtins.specs.Making.{extended, new_tuple, new_dict, stored, sliced}
use Rattle.py_meaning.specs.Places.{Place, fetched}
use Rattle.py_builtins.specs.Callees.{a_value}
use Rattle.py_value.specs.Compared.{compared}

-- a value that is there already
abbrev pub gives : {A : Type 0} → A → M (Ans A)
gives a = give (Ok a)

-- Operands come from left to right; an object before its index, a callee before its arguments, a
-- key before its value, and the test of a conditional expression first (6.16, "Evaluation order").
unfoldable mutual
  -- an expression
  pub eval : Calls → Place → Expr → M (Ans PlainValue)
  -- 6.2, atoms
  eval c p (name x) = ask (fetched p.scope x)
  eval c p (int n) = gives (int_value n)
  eval c p (str pieces) = gives (str_value (run_together pieces))
  eval c p (fstr pieces) = value (eval_fragments c p pieces []) (λ x. gives (str_value x))
  eval c p none = gives none_value
  eval c p (bool b) = gives (bool_value b)
  eval c p (tuple es comma) = value (eval_each c p es) (λ vs. give (new_tuple vs))
  eval c p (list es comma) = value (eval_each c p es) (λ vs. work (new_list vs))
  eval c p (dict ps comma) = value (work new_dict) (λ d. eval_pairs c p ps d)
  eval c p (paren e) = eval c p e
  -- 6.11, boolean operations
  eval c p (not' e) =
      value (eval c p e) (λ v. branch v (gives (bool_value false)) (gives (bool_value true)))
  eval c p (and a b) = value (eval c p a) (λ v. branch v (eval c p b) (gives v))
  eval c p (or a b) = value (eval c p a) (λ v. branch v (gives v) (eval c p b))
  -- 6.6, 6.7, 6.10, 6.13: operators, comparisons, conditional expressions
  eval c p (unary s e) = value (eval c p e) (λ v. work (signed s v))
  eval c p (binary op a b) =
      value (eval c p a) (λ v. value (eval c p b) (λ w. work (binary_of op v w)))
  eval c p (compare a links) = value (eval c p a) (λ v. eval_links c p links v)
  eval c p (cond body test orelse) =
      value (eval c p test) (λ v. branch v (eval c p body) (eval c p orelse))
  -- 6.3, primaries
  eval c p (call (attr e x) es comma) =
      value (eval c p e) (λ v.
      value (ask (callee_in v x)) (λ f. value (eval_each c p es) (λ vs. call_of c p.modules f vs)))
  eval c p (call e es comma) =
      value (eval c p e) (λ f. value (eval_each c p es) (λ vs. call_of c p.modules (a_value f) vs))
  eval c p (index of at) =
      value (eval c p of) (λ v. value (eval c p at) (λ i. ask (λ w. index_of v i w.world.heap)))
  eval c p (slice of from to) =
      value (eval c p of) (λ v.
      value (eval_opt c p from) (λ a. value (eval_opt c p to) (λ b. work (sliced v a b))))
  eval c p (attr e x) = value (eval c p e) (λ v. ask (λ w. attribute v x w.world))

  -- the values in order
  pub eval_each : Calls → Place → Exprs → M (Ans (List PlainValue))
  eval_each c p no_exprs = gives []
  eval_each c p (exprs e es) =
      value (eval c p e) (λ v. value (eval_each c p es) (λ vs. gives (v ∷ vs)))

  -- the keys of a dict set in order
  pub eval_pairs : Calls → Place → Pairs → PlainValue → M (Ans PlainValue)
  eval_pairs c p no_pairs d = gives d
  eval_pairs c p (pair key e rest) d =
      value (eval c p key) (λ k.
      value (eval c p e) (λ v. value (work (stored d k v)) (λ u. eval_pairs c p rest d)))

  -- the comparisons after the operand v; the first false one ends the chain
  pub eval_links : Calls → Place → Links → PlainValue → M (Ans PlainValue)
  eval_links c p no_links v = gives (bool_value true)
  eval_links c p (link op e rest) v =
      value (eval c p e) (λ w.
      value (ask (λ s. compared (asked op) v w s.world.heap)) (λ b.
      if b then eval_links c p rest w else gives (bool_value false)))

  -- a bound of a slice, where there is one
  pub eval_opt : Calls → Place → OptExpr → M (Ans (Option PlainValue))
  eval_opt c p absent = gives None
  eval_opt c p (present e) = value (eval c p e) (λ v. gives (Some v))

  -- the text x extended piece by piece (2.4.3, formatted string literals)
  pub eval_fragments : Calls → Place → Fragments → Text → M (Ans Text)
  eval_fragments c p no_fragments x = gives x
  eval_fragments c p (plain y rest) x = value (give (extended x y)) (λ z. eval_fragments c p rest z)
  eval_fragments c p (format parts rest) x =
      value (eval_parts c p parts x) (λ z. eval_fragments c p rest z)

  -- the parts of an f-string, each after a text
  pub eval_parts : Calls → Place → Parts → Text → M (Ans Text)
  eval_parts c p no_parts x = gives x
  eval_parts c p (text y rest) x = value (give (extended x y)) (λ z. eval_parts c p rest z)
  eval_parts c p (field e rest) x =
      value (eval c p e) (λ v.
      value (ask (λ w. str_text v w.world.heap)) (λ y.
      value (give (extended x y)) (λ z. eval_parts c p rest z)))
