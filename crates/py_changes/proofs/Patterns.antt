-- Names that are bound and unbound, and patterns that bind them.
use Rattle.std.proofs.Common.{◌≡◌, ℕ, Bool, true, false, List, [], ◌∷◌, ◌++◌, Option, Some, None, Ok, Err, refl, sym, ap, ◌∙◌, subst}
use Rattle.std.specs.Prelude.{if◌then◌else◌}
use Rattle.py_operator.specs.declared.operator.CmpOp.TheVariants.{Eq}
use Rattle.py_value.specs.declared.value.FuncId.{FuncId}
use Rattle.py_value.specs.Answers.{◌>>=◌}
use Rattle.py_value.specs.Operators.{compare_of}
use Rattle.py_value.specs.Plain.{PlainValue, exc_value, PlainRaised}
use Rattle.py_syntax.specs.Names.{is_among}
use Rattle.py_syntax.specs.Tree.{Text, Pattern, literal, capture, wild, member, sequence, p_or, p_as, p_paren, Patterns, no_patterns, patterns}
use Rattle.py_builtins.specs.Attributes.{attribute}
use Rattle.py_builtins.specs.Items.{sequence_items, of_length}
use Rattle.py_builtins.specs.World.{Names, without_name, without_global}
use Rattle.py_syntax.specs.Tree as T
use Rattle.py_meaning.specs.Computations.{Setting, Ans, M, ask}
use Rattle.py_meaning.specs.Patterns.{Match, match_if, and_then, or_else, constant_matches, pattern_count, on_items, matched, matched_each, matched_one, bind_all}
use Rattle.py_meaning.specs.Places.{fetched, bound, unbound}
use Rattle.py_meaning.specs.Statements.{Out, bound_to, released, handled, on_match}
use Rattle.py_changes.proofs.Kept.{Suit, SuitAll, SuitsRaised, NamesSuit, HeapSuits}
use Rattle.py_changes.proofs.Values.{either}
use Rattle.py_changes.proofs.Results.{ResultSuits, answered}
use Rattle.py_changes.proofs.Operators.{OptionSuits}
use Rattle.py_changes.proofs.Builtins.{Plainly, plainly_said, sequence_suits, of_length_suits}
use Rattle.py_changes.proofs.Names.{name_unset, names_changed, attribute_suits}
use Rattle.py_changes.proofs.Follows.{Kept, OutSuits, Follows, follow-under, follow-give, follow-chain, follow-write, follow-ask}
use Rattle.py_changes.proofs.Expressions.{Any, Sides, old_scope, new_scope, fetched_same, bound_same}
use Rattle.py_changes.proofs.Flow.{MatchSuits}

module _ {Safe : ℕ → ℕ → Type 0} {K : FuncId → Type 0} (sides : Sides Safe K) where
  -- ---- names

  unbound_same : (x : Text) (w : Setting) → Kept K w
      → (unbound (new_scope sides) x w ≡ unbound (old_scope sides) x w)
      × Kept K (unbound (old_scope sides) x w)
  unbound_same x w kept = (
    ap (λ b. if b then record w { locals = without_name x w.locals } else record w
        { world = without_global sides.number x w.world }) (sym (sides.same x)),
    either (Kept K) (is_among sides.names x) (record w { locals = without_name x w.locals })
        (record w { world = without_global sides.number x w.world })
        (kept.0, name_unset K x w.locals kept.1) (
          (
            names_changed K sides.number (without_name x) w.world.globals
                (λ ns j. name_unset K x ns j) kept.0.0,
            kept.0.1,
          ),
          kept.1,
        ),
  )

  bound_to_same : (x : Option Text) (e : PlainRaised) (w : Setting) → Kept K w → SuitsRaised K e
      → (bound_to (new_scope sides) x e w ≡ bound_to (old_scope sides) x e w)
      × Kept K (bound_to (old_scope sides) x e w)
  bound_to_same None e w kept h = (refl, kept)
  bound_to_same (Some x) e w kept h = bound_same sides x (exc_value e.kind e.arg) w kept (tt, h)

  released_same : (x : Option Text) (w : Setting) → Kept K w
      → (released (new_scope sides) x w ≡ released (old_scope sides) x w)
      × Kept K (released (old_scope sides) x w)
  released_same None w kept = (refl, kept)
  released_same (Some x) w kept = unbound_same x w kept

  pub bind_all_same : (ns : Names) (w : Setting) → Kept K w → NamesSuit K ns
      → (bind_all (new_scope sides) ns w ≡ bind_all (old_scope sides) ns w)
      × Kept K (bind_all (old_scope sides) ns w)
  bind_all_same [] w kept h = (refl, kept)
  bind_all_same (n ∷ ns) w kept h =
      let first = bound_same sides n.0 n.1 w kept h.0 in
      let later = bind_all_same ns (bound (old_scope sides) n.0 n.1 w) first.1 h.1 in
      (ap (λ v. bind_all (new_scope sides) ns v) first.0 ∙ later.0, later.1)

  pub follow-handled : {C : Type 0} {f g : M Out} (x : Option Text) (e : PlainRaised)
      → (C → SuitsRaised K e) → Follows Safe K C sides.number (OutSuits K) f g
      → Follows Safe K C sides.number (OutSuits K) (handled (old_scope sides) x e f)
      (handled (new_scope sides) x e g)
  follow-handled x e h fg =
      follow-write _ _ (λ w c kept. bound_to_same x e w kept (h c))
      (follow-chain fg
      (λ o. follow-write _ _ (λ w c kept. released_same x w kept) (follow-give _ (λ c. c.1))))

  -- ---- patterns

  names_append : (ns ms : Names) → NamesSuit K ns → NamesSuit K ms → NamesSuit K (ns ++ ms)
  names_append [] ms h k = k
  names_append (n ∷ ns) ms h k = (h.0, names_append ns ms h.1 k)

  -- the names of a match, or an exception
  abbrev MatchHeld : Ans Match → Type 0
  MatchHeld r = ResultSuits K (MatchSuits K) r

  and_then_suits : (found : Match) (rest : Ans Match) → MatchSuits K found → MatchHeld rest
      → MatchHeld (and_then found rest)
  and_then_suits None rest h k = tt
  and_then_suits (Some names) (Ok None) h k = tt
  and_then_suits (Some names) (Ok (Some more)) h k = names_append names more h k
  and_then_suits (Some names) (Err e) h k = k

  or_else_suits : (found : Match) (rest : Ans Match) → MatchSuits K found → MatchHeld rest
      → MatchHeld (or_else found rest)
  or_else_suits None rest h k = k
  or_else_suits (Some names) rest h k = h

  match_if_suits : (b : Bool) → MatchSuits K (match_if b)
  match_if_suits true = tt
  match_if_suits false = tt

  -- the same answer, in both versions
  abbrev SameMatch : Ans Match → Ans Match → Type 0
  SameMatch r q = (q ≡ r) × MatchHeld r

  same_then : (r q : Ans Match) (f g : Match → Ans Match) → SameMatch r q
      → ((found : Match) → MatchSuits K found → SameMatch (f found) (g found))
      → SameMatch (r >>= f) (q >>= g)
  same_then (Ok found) q f g e h =
      let k = h found e.1 in (subst (λ x. (x >>= g) ≡ f found) (sym e.0) k.0, k.1)
  same_then (Err x) q f g e h = (subst (λ y. (y >>= g) ≡ Err x) (sym e.0) refl, e.1)

  same_items : (h : _) (g : HeapSuits K h) (o : Option (List PlainValue))
      (f j : List PlainValue → Ans Match) → OptionSuits K h g o
      → ((vs : List PlainValue) → SuitAll K vs → SameMatch (f vs) (j vs))
      → SameMatch (on_items o f) (on_items o j)
  same_items h g None f j k e = (refl, tt)
  same_items h g (Some vs) f j k e = e vs k

  constant_plainly : (minus : Bool) (x : _) (v : PlainValue) (h : _)
      → Plainly K (constant_matches minus x v h)
  constant_plainly minus (T.c_int n) v h = plainly_said K _
  constant_plainly minus (T.c_str pieces) v h = plainly_said K _
  constant_plainly minus T.c_none v h = tt
  constant_plainly minus (T.c_bool b) v h = tt

  mutual
    unfolding matched matched_each matched_one

    matched_same : (w : Setting) → Kept K w → (q : Pattern) (v : PlainValue) → Suit K v
        → SameMatch (matched (old_scope sides) w q v) (matched (new_scope sides) w q v)
    matched_same w kept (literal minus x) v h = (
      refl,
      answered K Any (MatchSuits K) (constant_matches minus x v w.world.heap) _
          (constant_plainly minus x v w.world.heap) (λ b k. match_if_suits b),
    )
    matched_same w kept (capture x) v h = (refl, (h, tt))
    matched_same w kept wild v h = (refl, tt)
    matched_same w kept (member k x) v h =
        let at_name = fetched_same sides k w kept in (
          ap (λ r. r >>= λ of. attribute of x w.world >>= λ u. compare_of Eq v u w.world.heap >>=
              λ b. Ok (match_if b)) at_name.0,
          answered K (Suit K) (MatchSuits K) (fetched (old_scope sides) k w) _ at_name.1 (λ of i.
              answered K (Suit K) (MatchSuits K) (attribute of x w.world) _
              (attribute_suits K w.world kept.0 of x) (λ u j.
              answered K Any (MatchSuits K) (compare_of Eq v u w.world.heap) _ (plainly_said K _)
              (λ b l. match_if_suits b))),
        )
    matched_same w kept (sequence brackets qs comma) v h =
        same_items w.world.heap kept.0.1
        (of_length (pattern_count qs) (sequence_items v w.world.heap)) _ _
        (of_length_suits K w.world.heap kept.0.1 (pattern_count qs) (sequence_items v w.world.heap)
        (sequence_suits K w.world.heap kept.0.1 v h)) (λ vs k. each_same w kept qs vs k)
    matched_same w kept (p_or qs) v h = one_same w kept qs v h
    matched_same w kept (p_as q x) v h =
        same_then _ _ _ _ (matched_same w kept q v h)
        (λ found k. (refl, and_then_suits found _ k (h, tt)))
    matched_same w kept (p_paren q) v h = matched_same w kept q v h

    each_same : (w : Setting) → Kept K w → (qs : Patterns) (vs : List PlainValue) → SuitAll K vs
        → SameMatch (matched_each (old_scope sides) w qs vs)
        (matched_each (new_scope sides) w qs vs)
    each_same w kept no_patterns vs h = (refl, tt)
    each_same w kept (patterns q qs) [] h = (refl, tt)
    each_same w kept (patterns q qs) (v ∷ vs) h =
        let later = each_same w kept qs vs h.1 in
        same_then _ _ _ _ (matched_same w kept q v h.0)
        (λ found k. (ap (λ r. and_then found r) later.0, and_then_suits found _ k later.1))

    one_same : (w : Setting) → Kept K w → (qs : Patterns) (v : PlainValue) → Suit K v
        → SameMatch (matched_one (old_scope sides) w qs v) (matched_one (new_scope sides) w qs v)
    one_same w kept no_patterns v h = (refl, tt)
    one_same w kept (patterns q qs) v h =
        let later = one_same w kept qs v h in
        same_then _ _ _ _ (matched_same w kept q v h)
        (λ found k. (ap (λ r. or_else found r) later.0, or_else_suits found _ k later.1))

  pub follow-matched : {C : Type 0} (q : Pattern) (v : PlainValue) → (C → Suit K v)
      → Follows Safe K C sides.number (ResultSuits K (MatchSuits K))
      (ask (λ w. matched (old_scope sides) w q v)) (ask (λ w. matched (new_scope sides) w q v))
  follow-matched q v h = follow-ask (λ w c kept. matched_same w kept q v (h c))

  pub follow-on_match : {C : Type 0} {f g : Names → M Out} {k k' : M Out} (found : Match)
      → ((names : Names) → Follows Safe K (C × NamesSuit K names) sides.number (OutSuits K)
      (f names) (g names)) → Follows Safe K C sides.number (OutSuits K) k k' → Follows Safe K (C
      × MatchSuits K found) sides.number (OutSuits K) (on_match found f k) (on_match found g k')
  follow-on_match None h j = follow-under (λ c. c.0) j
  follow-on_match (Some names) h j = h names
