-- Calls of units and of modules, among the old modules and among the new.
use Rattle.std.proofs.Common.{◌≡◌, ℕ, zero, suc, Bool, true, false, IsTrue, List, [], Option, Some, None, refl, sym, ap, ◌∙◌, subst, ◌⊎◌, inl, inr}
use Rattle.std.specs.Prelude.{slice_get}
use Rattle.py_value.specs.declared.value.FuncId.{FuncId}
use Rattle.py_value.specs.Plain.{PlainValue}
use Rattle.py_syntax.specs.Functions.{Function, functions, without_docstring}
use Rattle.py_syntax.specs.Marks.{stmts_marks, body_marks}
use Rattle.py_syntax.specs.Names.{is_among, local_names}
use Rattle.py_syntax.specs.Tree.{Text, Stmts}
use Rattle.py_builtins.specs.Parameters.{parameters}
use Rattle.py_meaning.specs.Calls.{Calls}
use Rattle.py_meaning.specs.Computations.{M, Ans, tick}
use Rattle.py_meaning.specs.Frames.{framed, in_unit, unit_call, calls}
use Rattle.py_meaning.specs.Modules.{LoadedModule, unit_at, module_body, body_of, name_of, function_or, function_in, function_found, imported_number}
use Rattle.py_meaning.specs.Places.{Place}
use Rattle.py_meaning.specs.Statements.{exec}
use Rattle.py_changes.proofs.Kept.{Suit, SuitAll}
use Rattle.py_changes.specs.Changed.{also, is_empty, same_silent, fits_body, by_parts, changed_body, same_names, changed_functions, same_defs}
use Rattle.py_changes.proofs.Results.{ResultSuits}
use Rattle.py_changes.proofs.SameLaws.{no}
use Rattle.py_changes.proofs.Follows.{OutSuits, Follows, follow-never, follow-stop, follow-tick}
use Rattle.py_changes.proofs.Made.{BodyMade, Inside}
use Rattle.py_changes.proofs.Growth.{Grows, EachGrows, grow-unit, all-grow}
use Rattle.py_changes.proofs.Compared.{Bad, bad-left, bad-right}
use Rattle.py_changes.proofs.Quiet.{quiet-row}
use Rattle.py_changes.proofs.Struck.{follow-struck, struck-row}
use Rattle.py_changes.proofs.Expressions.{SameParams, Related, follow-as}
use Rattle.py_changes.proofs.Statements.{follow-row}
use Rattle.py_changes.proofs.Bodies.{names-same, silent-none, body-bad, quiet-or-not, compared-bodies}
use Rattle.py_changes.proofs.Known.{FitsPair, IsKnown, Known, Versions, PairOf, pairs, made-at}
use Rattle.py_changes.proofs.Frames.{follow-quiet, follow-framed, parameters_suit, follow-in_unit}

-- the function of a unit is among those of its module
found-is : (o : Option LoadedModule) (k : ℕ)
    → function_in o (suc k) ≡ slice_get (functions (module_body o)) k
unfolding functions
found-is None k = refl
found-is (Some m) k = refl

pair-params : (Safe : ℕ → ℕ → Type 0) (m : ℕ) (a : Stmts) (o q : Option Function)
    → PairOf Safe m a o q → SameParams o q
pair-params Safe m a None None h = tt
pair-params Safe m a (Some f) (Some g) h = h.0
pair-params Safe m a None (Some g) h = h
pair-params Safe m a (Some f) None h = h

module _ (Safe : ℕ → ℕ → Type 0) (old new : List LoadedModule)
    (names : (m : ℕ) → name_of old m ≡ name_of new m) (numbers : (x : Text)
    → imported_number old x ≡ imported_number new x)
    (versions : (m : ℕ) → Versions Safe m (body_of old m) (body_of new m)) where
  -- the functions that are known
  abbrev K : FuncId → Type 0
  K = Known old new

  -- the `def`s of an old module
  abbrev fs : ℕ → List Function
  fs m = functions (body_of old m)

  -- the `def`s of a new module
  abbrev gs : ℕ → List Function
  gs m = functions (body_of new m)

  -- where the `def`s agree
  parts : (m : ℕ) (x : Bool) → same_defs (fs m) (gs m) ≡ x → IsTrue x
      → Bad Safe m
      (by_parts x
      (also (changed_body (body_of old m) (body_of new m)) (changed_functions (fs m) (gs m)))
      (body_marks (body_of old m), body_marks (body_of new m))).0
      → Bad Safe m (changed_body (body_of old m) (body_of new m)).0
      × Bad Safe m (changed_functions (fs m) (gs m)).0
  parts m true e h bad = (
    bad-left Safe m (changed_body (body_of old m) (body_of new m)).0
        (changed_functions (fs m) (gs m)).0 bad,
    bad-right Safe m
        (changed_body (body_of old m) (body_of new m)).0 (changed_functions (fs m) (gs m)).0 bad,
  )
  parts m false e h bad = no h

  known-parts : (m : ℕ) → IsTrue (same_defs (fs m) (gs m))
      → Bad Safe m (changed_body (body_of old m) (body_of new m)).0
      × Bad Safe m (changed_functions (fs m) (gs m)).0
  known-parts m h = parts m (same_defs (fs m) (gs m)) refl h (versions m).changes

  pair-at : (m : ℕ) → IsTrue (same_defs (fs m) (gs m)) → (k : ℕ)
      → PairOf Safe m (body_of old m) (slice_get (fs m) k) (slice_get (gs m) k)
  pair-at m h k =
      pairs Safe m (body_of old m) (fs m) (gs m) h (known-parts m h).1 (versions m).functions_made k

  -- what a `def` makes
  made-known : (m : ℕ) → IsTrue (same_defs (fs m) (gs m)) → (l : ℕ) → Safe m l
      → Inside (body_of old m) l
      → (unit_at l (fs m) ≡ unit_at l (gs m)) × K (record { «module» = m; unit = unit_at l (fs m) })
  made-known m h l safe inside =
      let t = made-at Safe m l (fs m) (gs m) h (known-parts m h).1 safe inside in
      (t.1 ∙ sym t.2, subst (λ u. IsKnown old new m u) (sym t.1) (h, t.3))

  module _ (c d : Calls) (r : Related Safe K old new c d) (grow : EachGrows Safe c) where
    -- the place of a body outside of all clauses
    abbrev place : List LoadedModule → ℕ → List Text → Place
    place ms m xs = record { modules = ms; scope = record { number = m; own = xs }; handled = None }

    -- all marks of a body are unsafe, or it marks nothing
    follow-marks : {C : Type 0} (m : ℕ) (xs ys : List Text) (a b : Stmts)
        → Bad Safe m (body_marks a)
        → (is_empty (stmts_marks (without_docstring a)) ≡ false)
        ⊎ ((is_empty (stmts_marks (without_docstring a)) ≡ true)
        × IsTrue (same_silent (without_docstring a) (without_docstring b)))
        → Follows Safe K C m (OutSuits K) (exec c (place old m xs) (without_docstring a))
        (exec d (place new m ys) (without_docstring b))
    follow-marks m xs ys a b bad (inl some) =
        follow-struck Safe m
        (struck-row Safe m c old grow xs None (without_docstring a) (body-bad Safe m a bad) some)
    follow-marks m xs ys a b bad (inr q) =
        follow-quiet m _ _ (λ s n. quiet-row c (place old m xs) (without_docstring a) q.0 s n)
        (λ s n. quiet-row d (place new m ys) (without_docstring b)
        (silent-none (without_docstring a) (without_docstring b) q.1) s n)

    follow-compared : {C : Type 0} (m : ℕ) → IsTrue (same_defs (fs m) (gs m)) → (xs ys : List Text)
        → ((x : Text) → is_among xs x ≡ is_among ys x) → (a b : Stmts)
        → Bad Safe m (changed_body a b).0 → IsTrue (fits_body a b)
        → BodyMade (Inside (body_of old m)) (without_docstring a)
        → Follows Safe K C m (OutSuits K) (exec c (place old m xs) (without_docstring a))
        (exec d (place new m ys) (without_docstring b))
    follow-compared m h xs ys same a b bad fit made =
        follow-row
        (record {
          old = old;
          new = new;
          calls = c;
          others = d;
          related = r;
          number = m;
          names = xs;
          other_names = ys;
          same = same;
        }) grow (Inside (body_of old m)) (made-known m h) None
        (without_docstring a) (without_docstring b) (λ x. tt) (compared-bodies Safe m a b bad fit)
        made

    -- the body of a module
    follow-module : {C : Type 0} (m : ℕ) (x : Bool) → same_defs (fs m) (gs m) ≡ x
        → Bad Safe m
        (by_parts x
        (also (changed_body (body_of old m) (body_of new m)) (changed_functions (fs m) (gs m)))
        (body_marks (body_of old m), body_marks (body_of new m))).0
        → Follows Safe K C m (OutSuits K)
        (exec c (place old m []) (without_docstring (body_of old m)))
        (exec d (place new m []) (without_docstring (body_of new m)))
    follow-module m true e bad =
        follow-compared m e [] [] (λ x. refl) (body_of old m) (body_of new m) (known-parts m e).0
        (versions m).fit (versions m).made
    follow-module m false e bad =
        follow-marks m [] [] (body_of old m) (body_of new m) bad
        (quiet-or-not Safe m (body_of old m) (body_of new m) (is_empty (body_marks (body_of old m)))
        refl (versions m).fit)

    follow-body : {C : Type 0} (m k : ℕ)
        → Follows Safe K C m (ResultSuits K (Suit K)) (unit_call c old k 0 [])
        (unit_call d new k 0 [])
    follow-body m k =
        follow-tick
        (follow-in_unit old new names k 0
        (follow-framed (record { «module» = k; unit = 0 }) [] (λ x. tt)
        (follow-module k (same_defs (fs k) (gs k)) refl (versions k).changes)))

    -- the body of a function
    follow-named : {C : Type 0} (m : ℕ) → IsTrue (same_defs (fs m) (gs m))
        → (f g : Function) (x : Bool)
        → same_names (local_names f.params f.body) (local_names g.params g.body) ≡ x
        → Bad Safe m
        (by_parts x (changed_body f.body g.body) (body_marks f.body, body_marks g.body)).0
        → IsTrue (fits_body f.body g.body)
        → BodyMade (Inside (body_of old m)) (without_docstring f.body)
        → Follows Safe K C m (OutSuits K)
        (exec c (place old m (local_names f.params f.body)) (without_docstring f.body))
        (exec d (place new m (local_names g.params g.body)) (without_docstring g.body))
    follow-named m h f g true e bad fit made =
        follow-compared m h (local_names f.params f.body) (local_names g.params g.body)
        (names-same (local_names f.params f.body) (local_names g.params g.body) e) f.body g.body bad
        fit made
    follow-named m h f g false e bad fit made =
        follow-marks m (local_names f.params f.body) (local_names g.params g.body) f.body g.body bad
        (quiet-or-not Safe m f.body g.body (is_empty (body_marks f.body)) refl fit)

    -- a unit with a function for its number
    abbrev unit_with : Calls → List LoadedModule → ℕ → ℕ → Option Function → List PlainValue
        → M (Ans PlainValue)
    unit_with e ms m k o vs =
        tick (in_unit ms m (suc k)
        (framed (record { «module» = m; unit = suc k })
        (parameters (function_or (body_of ms m) o).params vs)
        (exec e (place ms m
        (local_names (function_or (body_of ms m) o).params (function_or (body_of ms m) o).body))
        (without_docstring (function_or (body_of ms m) o).body))))

    follow-fitting : {C : Type 0} (n m k : ℕ) → IsTrue (same_defs (fs m) (gs m))
        → (f g : Function) (vs : List PlainValue) → PairOf Safe m (body_of old m) (Some f) (Some g)
        → (x : Bool) → fits_body f.body g.body ≡ x
        → (C → IsTrue (fits_body f.body g.body) × SuitAll K vs)
        → Grows Safe n (Ans PlainValue) (unit_with c old m k (Some f) vs)
        → Follows Safe K C n (ResultSuits K (Suit K)) (unit_with c old m k (Some f) vs)
        (unit_with d new m k (Some g) vs)
    follow-fitting n m k h f g vs p true e hc grows =
        follow-tick (follow-in_unit old new names m (suc k)
        (follow-as _
        (λ x. ap (λ ps. framed (record { «module» = m; unit = suc k }) (parameters ps vs)
        (exec d (place new m (local_names g.params g.body)) (without_docstring g.body))) p.0)
        (follow-framed (record { «module» = m; unit = suc k }) (parameters f.params vs)
        (λ x. parameters_suit K f.params vs (hc x).1)
        (follow-named m h f g
        (same_names (local_names f.params f.body) (local_names g.params g.body)) refl
        (bad-left Safe m
        (by_parts (same_names (local_names f.params f.body) (local_names g.params g.body))
        (changed_body f.body g.body) (body_marks f.body, body_marks g.body)).0 _ p.1) e p.2))))
    follow-fitting n m k h f g vs p false e hc grows =
        follow-never grows (λ x. no (subst (λ b. IsTrue b) e (hc x).0))

    follow-options : {C : Type 0} (n m k : ℕ) → IsTrue (same_defs (fs m) (gs m))
        → (o q : Option Function) (vs : List PlainValue) → PairOf Safe m (body_of old m) o q
        → (C → FitsPair o q × SuitAll K vs)
        → Grows Safe n (Ans PlainValue) (unit_with c old m k o vs)
        → Follows Safe K C n (ResultSuits K (Suit K)) (unit_with c old m k o vs)
        (unit_with d new m k q vs)
    follow-options n m k h None q vs p hc grows = follow-never grows (λ x. (hc x).0)
    follow-options n m k h (Some f) None vs p hc grows = follow-never grows (λ x. (hc x).0)
    follow-options n m k h (Some f) (Some g) vs p hc grows =
        follow-fitting n m k h f g vs p (fits_body f.body g.body) refl hc grows

    follow-defs : {C : Type 0} (n m k : ℕ) (vs : List PlainValue) (x : Bool)
        → same_defs (fs m) (gs m) ≡ x → (C → IsKnown old new m (suc k) × SuitAll K vs)
        → Follows Safe K C n (ResultSuits K (Suit K)) (unit_call c old m (suc k) vs)
        (unit_call d new m (suc k) vs)
    follow-defs n m k vs true e hc =
        follow-options n m k e (slice_get (fs m) k) (slice_get (gs m) k) vs (pair-at m e k)
        (λ x. ((hc x).0.1, (hc x).1)) (grow-unit Safe n c old m (suc k) vs)
    follow-defs n m k vs false e hc =
        follow-never (grow-unit Safe n c old m (suc k) vs)
        (λ x. no (subst (λ b. IsTrue b) e (hc x).0.0))

    follow-unit : {C : Type 0} (n m u : ℕ) (vs : List PlainValue)
        → (C → IsKnown old new m u × SuitAll K vs)
        → Follows Safe K C n (ResultSuits K (Suit K)) (unit_call c old m u vs)
        (unit_call d new m u vs)
    follow-unit n m zero vs hc = follow-never (grow-unit Safe n c old m 0 vs) (λ x. (hc x).0)
    follow-unit n m (suc k) vs hc = follow-defs n m k vs (same_defs (fs m) (gs m)) refl hc

  -- ---- calls inside each other

  known-found : (m u : ℕ) → IsKnown old new m u
      → SameParams (function_found old (record { «module» = m; unit = u }))
      (function_found new (record { «module» = m; unit = u }))
  known-found m zero h = absurd h
  known-found m (suc k) h =
      subst (λ o. SameParams o (function_found new (record { «module» = m; unit = suc k })))
      (sym (found-is (slice_get old m) k))
      (subst (λ o. SameParams (slice_get (fs m) k) o) (sym (found-is (slice_get new m) k))
      (pair-params Safe m (body_of old m) (slice_get (fs m) k) (slice_get (gs m) k)
      (pair-at m h.0 k)))

  pub related : (depth : ℕ) → Related Safe K old new (calls old depth) (calls new depth)
  unfolding calls
  related zero =
      record {
        found = λ f h. known-found f.module f.unit h;
        calls = λ C m f vs h. follow-stop;
        bodies = λ C m k. follow-stop;
        numbers = numbers;
      }
  related (suc depth) = record {
    found = λ f h. known-found f.module f.unit h;
    calls = λ C m f vs h. follow-unit (calls old depth) (calls new depth) (related depth)
        (all-grow Safe old depth) m f.module f.unit vs h;
    bodies = λ C m k. follow-body (calls old depth) (calls new depth) (related depth)
        (all-grow Safe old depth) m k;
    numbers = numbers;
  }
