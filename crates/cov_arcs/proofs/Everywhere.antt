-- A fact of computations that is kept however they are put together holds of all statements whose marks
-- are lines of some kind, where it holds of each call of a unit that is found.
--     AreOn, IsOn         lines of this kind, and what may happen: no activation, for calls are by themselves
--     IsFound             a unit is found
--     Ways                how computations are put together
--     in-exec             the fact of statements
use Rattle.std.proofs.Common.{◌≡◌, refl, sym, ap, subst, ◌++◌, arith, if◌then◌else◌, ◌+◌, ℕ, zero, suc, Bool, true, false, cond, List, Ok, Err, [], ◌∷◌, Option, Some, None}
use Rattle.py_value.specs.Plain.{PlainValue, PlainHeap, func_value, kind_value, builtin_value, exc_value, PlainRaised}
use Rattle.py_meaning.specs.Activations.{Item, mark, again, throw, sub}
use Rattle.py_meaning.specs.Computations.{Setting, M, Ans, give, chain, step, tick, note, read, write, say, within, stop, on_value, value, ask, worked, work, branch}
use Rattle.py_value.specs.declared.builtin.Builtin.{Builtin}
use Rattle.py_operator.specs.declared.operator.BinOp.{BinOp}
use Rattle.py_value.specs.declared.value.FuncId.{FuncId}
use Rattle.py_syntax.specs.Tree.{Text, Alias, Expr, name, int, str, fstr, none, bool, tuple, list, dict, paren, not', and, or, unary, binary, compare, cond as cond', call, index, slice, attr, Exprs, no_exprs, exprs, Pairs, no_pairs, pair, Links, no_links, link, OptExpr, absent, present, Fragments, no_fragments, plain, format, Parts, no_parts, text, field, Stmts, no_stmts, stmt, suite, OptSuite, no_suite, has_suite, Arms, no_arms, arm, Clauses, no_clauses, clause, Cases, no_cases, case, StmtKind, expr, assign, aug_assign, pass, break, continue, return, raise, assert, global, import, from, if', while, for, try, def, match}
use Rattle.py_meaning.specs.Assignments.{assign_to, assign_each, assign_all, augment}
use Rattle.py_meaning.specs.Calls.{Calls, enter, enter_with, use_builtin, call_function, call_value, call_of, code_of}
use Rattle.py_meaning.specs.Expressions.{eval, eval_each, eval_pairs, eval_links, eval_opt, eval_fragments, eval_parts}
use Rattle.py_meaning.specs.Imports.{begin, module_of, import_each, take_each}
use Rattle.py_meaning.specs.Modules.{LoadedModule, function_found, number_from, imported_number}
use Rattle.py_syntax.specs.Functions.{Function}
use Rattle.py_meaning.specs.Places.{Place, Scope}
use Rattle.py_builtins.specs.Callees.{Callee, a_value, a_method}
use Rattle.py_builtins.specs.World.{Names}
use Rattle.py_meaning.specs.Patterns.{Match}
use Rattle.py_meaning.specs.Statements.{Out, normal, continues, raises, throwing, on_answer, using, next, looped, Loop, if_turn, turns, loop, while_header, while_loop, Walked, at_item, for_header, for_loop, raise_value, reraise, failed_assertion, has_clauses, handle, settle, caught_by, handled, in_clause, on_match, guarded, default_list, returned, raised, exec, exec_kind, exec_opt, exec_arms, exec_clauses, exec_finally, exec_cases}
use Rattle.py_text.specs.Comparison.{is_same_text}
use Rattle.std.specs.Prelude.{is_some, IsSome}
use Rattle.std.specs.List.{AllByRecursion}
use Rattle.py_syntax.specs.Marks.{stmts_marks, kind_marks, opt_marks, arms_marks, clauses_marks, cases_marks}

-- `P` says which lines are of this kind
module _ (P : ℕ → Type 0) where
  abbrev pub AreOn : List ℕ → Type 0
  AreOn lines = AllByRecursion P lines

  -- an exception, or a line event in such a line
  abbrev pub IsOn : Item → Type 0
  IsOn (mark l) = P l
  IsOn (again l) = P l
  IsOn (throw kind) = Unit {0}
  IsOn (sub a) = ⊥

  pub left : (xs ys : List ℕ) → AreOn (xs ++ ys) → AreOn xs
  left [] ys h = tt
  left (x ∷ xs) ys h = (h.0, left xs ys h.1)

  pub right : (xs ys : List ℕ) → AreOn (xs ++ ys) → AreOn ys
  right [] ys h = h
  right (x ∷ xs) ys h = right xs ys h.1

-- a function or a body with these numbers is found
abbrev pub IsFound : List LoadedModule → ℕ → ℕ → Type 0
IsFound ms m u = IsSome (function_found ms (record { «module» = m; unit = u }))

-- the module that an import names is found
numbered : (n : ℕ) (ms : List LoadedModule) (x : Text) (k : ℕ) → number_from n ms x ≡ Some k → (j : ℕ) × (k ≡ n + j) × IsFound ms j 0
unfolding number_from
numbered n [] x k e = cc
numbered n (m ∷ ms) x k e = go (is_same_text x m.name) e (numbered (suc n) ms x k)
  where
    go : (b : Bool) → (if b then Some n else number_from (suc n) ms x) ≡ Some k → (number_from (suc n) ms x ≡ Some k → (j : ℕ) × (k ≡ suc n + j) × IsFound ms j 0)
        → (j : ℕ) × (k ≡ n + j) × IsFound (m ∷ ms) j 0
    go true q later =
        let same : n ≡ k = cc in
        (0, omega (arith, same), refl)
    go false q later =
        let rest = later q in
        (suc rest.0, omega (arith, rest.1), rest.2)

imported : (ms : List LoadedModule) (x : Text) (k : ℕ) → imported_number ms x ≡ Some k → IsFound ms k 0
imported [] x k e = cc
imported (script ∷ ms) x k e =
    let at = numbered 1 ms x k e in
    let is : k ≡ suc at.0 = omega (arith, at.1) in
    subst (λ n. IsFound (script ∷ ms) n 0) (sym is) at.2

pub record Ways (K : (A : Type 0) → M A → Type 0) (P : ℕ → Type 0) : Type 1 where
  pub give : {A : Type 0} (a : A) → K A (give a)
  pub stop : (A : Type 0) → K A stop
  pub chain : {A B : Type 0} (m : M A) (f : A → M B) → K A m → ((a : A) → K B (f a)) → K B (chain m f)
  pub step : {A : Type 0} (i : Item) (m : M A) → K A m → IsOn P i → K A (step i m)
  pub note : {A : Type 0} (i : Item) (m : M A) → K A m → IsOn P i → K A (note i m)
  pub tick : {A : Type 0} (m : M A) → K A m → K A (tick m)
  pub read : {A : Type 0} (f : Setting → M A) → ((now : Setting) → K A (f now)) → K A (read f)
  pub write : {A : Type 0} (f : Setting → Setting) (m : M A) → K A m → K A (write f m)
  pub say : {A : Type 0} (bytes : List ℕ) (m : M A) → K A m → K A (say bytes m)
  pub within : {A : Type 0} (f : ℕ → M A) → ((n : ℕ) → K A (f n)) → K A (within f)

module _ (K : (A : Type 0) → M A → Type 0) (P : ℕ → Type 0) (ways : Ways K P) where
  abbrev pub Holds : {A : Type 0} → M A → Type 0
  Holds {A} m = K A m

  abbrev pub AreAll : Calls → List LoadedModule → Type 0
  AreAll c ms = (m u : ℕ) (vs : List PlainValue) → IsFound ms m u → Holds (c m u vs)

  in-on_value : {A B : Type 0} (a : Ans A) (f : A → M (Ans B)) → ((v : A) → Holds (f v)) → Holds (on_value a f)
  in-on_value (Ok v) f h = h v
  in-on_value (Err e) f h = ways.give _

  pub in-value : {A B : Type 0} (m : M (Ans A)) (f : A → M (Ans B)) → Holds m → ((v : A) → Holds (f v)) → Holds (value m f)
  unfolding value
  in-value m f h g = ways.chain m _ h (λ a. in-on_value a f g)

  pub in-ask : {A : Type 0} (f : Setting → Ans A) → Holds (ask f)
  unfolding ask
  in-ask f = ways.read _ (λ w. ways.give (f w))

  in-worked : {A : Type 0} (a : Ans (A × PlainHeap)) → Holds (worked a)
  in-worked (Ok r) = ways.write _ _ (ways.give _)
  in-worked (Err e) = ways.give _

  in-work : {A : Type 0} (f : PlainHeap → Ans (A × PlainHeap)) → Holds (work f)
  unfolding work
  in-work f = ways.read _ (λ w. in-worked (f w.world.heap))

  in-if : {A : Type 0} (b : Bool) (f g : M A) → Holds f → Holds g → Holds (cond b f g)
  in-if true f g h k = h
  in-if false f g h k = k

  in-branch : {A : Type 0} (v : PlainValue) (f g : M A) → Holds f → Holds g → Holds (branch v f g)
  unfolding branch
  in-branch v f g h k = ways.read _ (λ w. in-if _ f g h k)

  pub in-enter : (f : M (Ans PlainValue)) → Holds f → Holds (enter f)
  unfolding enter
  in-enter f h = ways.read _ (λ w. in-if _ _ _ h (ways.give _))

  in-enter_with : (c : Calls) (ms : List LoadedModule) → AreAll c ms → (f : FuncId) → IsFound ms f.module f.unit → (vs : Option (List PlainValue)) → Holds (enter_with c f vs)
  in-enter_with c ms h f found None = ways.give _
  in-enter_with c ms h f found (Some vs) = in-enter _ (h f.module f.unit vs found)

  in-builtin : (which : Builtin) (vs : List PlainValue) → Holds (use_builtin which vs)
  unfolding use_builtin
  in-builtin which vs = ways.read _ (λ w. ways.say _ _ (ways.write _ _ (in-worked _)))

  in-call_function : (c : Calls) (ms : List LoadedModule) → AreAll c ms → (o : Option Function) (f : FuncId) → function_found ms (code_of f) ≡ o → (a : Option ℕ) (vs : List PlainValue) (w : Setting) → Holds (call_function c o f a vs w)
  in-call_function c ms h None f is a vs w = ways.give _
  in-call_function c ms h (Some g) f is a vs w = in-enter_with c ms h f (ap is_some is) _

  pub in-call_value : (c : Calls) (ms : List LoadedModule) → AreAll c ms → (v : PlainValue) (vs : List PlainValue) → Holds (call_value c ms v vs)
  unfolding call_value
  in-call_value c ms h (func_value f a) vs = ways.read _ (λ w. in-call_function c ms h (function_found ms (code_of f)) f refl a vs w)
  in-call_value c ms h (kind_value kind) vs = ways.give _
  in-call_value c ms h (builtin_value which) vs = in-builtin which vs
  in-call_value c ms h _ vs = ways.give _

  in-call_of : (c : Calls) (ms : List LoadedModule) → AreAll c ms → (f : Callee) (vs : List PlainValue) → Holds (call_of c ms f vs)
  unfolding call_of
  in-call_of c ms h (a_value v) vs = in-call_value c ms h v vs
  in-call_of c ms h (a_method m v) vs = in-work _

  mutual
    unfolding eval eval_each eval_pairs eval_links eval_opt eval_fragments eval_parts

    in-eval : (c : Calls) (p : Place) → AreAll c p.modules → (e : Expr) → Holds (eval c p e)
    in-eval c p h (name x) = in-ask _
    in-eval c p h (int n) = ways.give _
    in-eval c p h (str pieces) = ways.give _
    in-eval c p h (fstr pieces) = in-value _ _ (in-fragments c p h pieces []) (λ x. ways.give _)
    in-eval c p h none = ways.give _
    in-eval c p h (bool b) = ways.give _
    in-eval c p h (tuple es comma) = in-value _ _ (in-each c p h es) (λ vs. ways.give _)
    in-eval c p h (list es comma) = in-value _ _ (in-each c p h es) (λ vs. in-work _)
    in-eval c p h (dict ps comma) = in-value _ _ (in-work _) (λ v. in-pairs c p h ps v)
    in-eval c p h (paren e) = in-eval c p h e
    in-eval c p h (not' e) = in-value _ _ (in-eval c p h e) (λ v. in-branch v _ _ (ways.give _) (ways.give _))
    in-eval c p h (and a b) = in-value _ _ (in-eval c p h a) (λ v. in-branch v _ _ (in-eval c p h b) (ways.give _))
    in-eval c p h (or a b) = in-value _ _ (in-eval c p h a) (λ v. in-branch v _ _ (ways.give _) (in-eval c p h b))
    in-eval c p h (unary s e) = in-value _ _ (in-eval c p h e) (λ v. in-work _)
    in-eval c p h (binary op a b) = in-value _ _ (in-eval c p h a) (λ v. in-value _ _ (in-eval c p h b) (λ w. in-work _))
    in-eval c p h (compare a ls) = in-value _ _ (in-eval c p h a) (λ v. in-links c p h ls v)
    in-eval c p h (cond' b t o) = in-value _ _ (in-eval c p h t) (λ v. in-branch v _ _ (in-eval c p h b) (in-eval c p h o))
    in-eval c p h (call (attr e x) es comma) =
        in-value _ _ (in-eval c p h e) (λ v. in-value _ _ (in-ask _) (λ f. in-value _ _ (in-each c p h es) (λ vs. in-call_of c p.modules h f vs)))
    in-eval c p h (call e es comma) =
        in-value _ _ (in-eval c p h e) (λ f. in-value _ _ (in-each c p h es) (λ vs. in-call_of c p.modules h (a_value f) vs))
    in-eval c p h (index of at) = in-value _ _ (in-eval c p h of) (λ v. in-value _ _ (in-eval c p h at) (λ i. in-ask _))
    in-eval c p h (slice of f t) =
        in-value _ _ (in-eval c p h of) (λ v. in-value _ _ (in-opt c p h f) (λ a. in-value _ _ (in-opt c p h t) (λ b. in-work _)))
    in-eval c p h (attr e x) = in-value _ _ (in-eval c p h e) (λ v. in-ask _)

    in-each : (c : Calls) (p : Place) → AreAll c p.modules → (es : Exprs) → Holds (eval_each c p es)
    in-each c p h no_exprs = ways.give _
    in-each c p h (exprs e es) = in-value _ _ (in-eval c p h e) (λ v. in-value _ _ (in-each c p h es) (λ vs. ways.give _))

    in-pairs : (c : Calls) (p : Place) → AreAll c p.modules → (ps : Pairs) (v : PlainValue) → Holds (eval_pairs c p ps v)
    in-pairs c p h no_pairs v = ways.give _
    in-pairs c p h (pair key e rest) v =
        in-value _ _ (in-eval c p h key) (λ i. in-value _ _ (in-eval c p h e) (λ w. in-value _ _ (in-work _) (λ u. in-pairs c p h rest v)))

    in-links : (c : Calls) (p : Place) → AreAll c p.modules → (ls : Links) (v : PlainValue) → Holds (eval_links c p ls v)
    in-links c p h no_links v = ways.give _
    in-links c p h (link op e rest) v =
        in-value _ _ (in-eval c p h e) (λ w. in-value _ _ (in-ask _) (λ b. in-if b _ _ (in-links c p h rest w) (ways.give _)))

    in-opt : (c : Calls) (p : Place) → AreAll c p.modules → (o : OptExpr) → Holds (eval_opt c p o)
    in-opt c p h absent = ways.give _
    in-opt c p h (present e) = in-value _ _ (in-eval c p h e) (λ v. ways.give _)

    in-fragments : (c : Calls) (p : Place) → AreAll c p.modules → (fs : Fragments) (x : Text) → Holds (eval_fragments c p fs x)
    in-fragments c p h no_fragments x = ways.give _
    in-fragments c p h (plain y rest) x = in-value _ _ (ways.give _) (λ z. in-fragments c p h rest z)
    in-fragments c p h (format parts rest) x = in-value _ _ (in-parts c p h parts x) (λ z. in-fragments c p h rest z)

    in-parts : (c : Calls) (p : Place) → AreAll c p.modules → (parts : Parts) (x : Text) → Holds (eval_parts c p parts x)
    in-parts c p h no_parts x = ways.give _
    in-parts c p h (text y rest) x = in-value _ _ (ways.give _) (λ z. in-parts c p h rest z)
    in-parts c p h (field e rest) x =
        in-value _ _ (in-eval c p h e) (λ v. in-value _ _ (in-ask _) (λ y. in-value _ _ (ways.give _) (λ z. in-parts c p h rest z)))

  -- ---- assignments

  mutual
    unfolding assign_to assign_each

    in-assign_to : (c : Calls) (p : Place) → AreAll c p.modules → (t : Expr) (v : PlainValue) → Holds (assign_to c p t v)
    in-assign_to c p h (name x) v = ways.write _ _ (ways.give _)
    in-assign_to c p h (index of at) v = in-value _ _ (in-eval c p h of) (λ o. in-value _ _ (in-eval c p h at) (λ i. in-work _))
    in-assign_to c p h (paren t) v = in-assign_to c p h t v
    in-assign_to c p h (tuple ts comma) v = in-value _ _ (in-ask _) (λ vs. in-assign_each c p h ts vs)
    in-assign_to c p h (list ts comma) v = in-value _ _ (in-ask _) (λ vs. in-assign_each c p h ts vs)
    in-assign_to c p h _ v = ways.give _

    in-assign_each : (c : Calls) (p : Place) → AreAll c p.modules → (ts : Exprs) (vs : List PlainValue) → Holds (assign_each c p ts vs)
    in-assign_each c p h no_exprs vs = ways.give _
    in-assign_each c p h (exprs t ts) [] = ways.give _
    in-assign_each c p h (exprs t ts) (v ∷ vs) = in-value _ _ (in-assign_to c p h t v) (λ u. in-assign_each c p h ts vs)

  in-assign_all : (c : Calls) (p : Place) → AreAll c p.modules → (ts : Exprs) (v : PlainValue) → Holds (assign_all c p ts v)
  unfolding assign_all
  in-assign_all c p h no_exprs v = ways.give _
  in-assign_all c p h (exprs t ts) v = in-value _ _ (in-assign_to c p h t v) (λ u. in-assign_all c p h ts v)

  in-augment : (c : Calls) (p : Place) → AreAll c p.modules → (t : Expr) (op : BinOp) (e : Expr) → Holds (augment c p t op e)
  unfolding augment
  in-augment c p h (name x) op e =
      in-value _ _ (in-ask _) (λ v. in-value _ _ (in-eval c p h e) (λ w. in-value _ _ (in-work _) (λ u. ways.write _ _ (ways.give _))))
  in-augment c p h (index of at) op e =
      in-value _ _ (in-eval c p h of) (λ o. in-value _ _ (in-eval c p h at) (λ i. in-value _ _ (in-ask _) (λ v.
      in-value _ _ (in-eval c p h e) (λ w. in-value _ _ (in-work _) (λ u. in-work _)))))
  in-augment c p h _ op e = ways.give _

  -- ---- imports

  in-begin : (c : Calls) (ms : List LoadedModule) → AreAll c ms → (x : Text) (m : Option ℕ) → ((k : ℕ) → m ≡ Some k → IsFound ms k 0) → Holds (begin c x m)
  unfolding begin
  in-begin c ms h x None found = ways.give _
  in-begin c ms h x (Some m) found = ways.read _ (λ w. in-if _ _ _ (ways.give _) (in-value _ _ (in-enter _ (h m 0 [] (found m refl))) (λ v. ways.give _)))

  in-module_of : (c : Calls) (ms : List LoadedModule) → AreAll c ms → (x : Text) → Holds (module_of c ms x)
  unfolding module_of
  in-module_of c ms h x = in-if _ _ _ (ways.give _) (in-begin c ms h x _ (imported ms x))

  in-import_each : (c : Calls) (p : Place) → AreAll c p.modules → (names : List Alias) → Holds (import_each c p names)
  unfolding import_each
  in-import_each c p h [] = ways.give _
  in-import_each c p h (a ∷ rest) = in-value _ _ (in-module_of c p.modules h a.name) (λ v. ways.write _ _ (in-import_each c p h rest))

  in-take_each : (p : Place) (m : Text) (v : PlainValue) (names : List Alias) → Holds (take_each p m v names)
  unfolding take_each
  in-take_each p m v [] = ways.give _
  in-take_each p m v (a ∷ rest) = in-value _ _ (in-ask _) (λ u. ways.write _ _ (in-take_each p m v rest))

  in-throw : (e : PlainRaised) → Holds (throwing e)
  in-throw e = ways.note _ _ (ways.give _) tt

  in-on_answer : {A : Type 0} (a : Ans A) (h : A → M Out) → ((v : A) → Holds (h v)) → Holds (on_answer a h)
  in-on_answer (Ok v) h g = g v
  in-on_answer (Err e) h g = in-throw e

  in-using : {A : Type 0} (f : M (Ans A)) (h : A → M Out) → Holds f → ((v : A) → Holds (h v)) → Holds (using f h)
  unfolding using
  in-using f h g k = ways.chain f _ g (λ a. in-on_answer a h k)

  in-next : (o : Out) (f : M Out) → Holds f → Holds (next o f)
  in-next normal f h = h
  in-next _ f h = ways.give _

  -- ---- loops

  in-looped : (o : Out) (f : M Out) → Holds f → Holds (looped o f)
  in-looped normal f h = h
  in-looped continues f h = h
  in-looped _ f h = ways.give _

  in-if_turn : {T : Type 0} (x : Option T) (o : M Out) (f : T → M Out) → Holds o → ((t : T) → Holds (f t)) → Holds (if_turn x o f)
  in-if_turn None o f h g = h
  in-if_turn (Some t) o f h g = g t

  -- a loop whose parts are so
  record IsLoop {T : Type 0} (x : Loop T) : Type 0 where
    line : P x.line
    header : (b : Option T) → Holds (x.header b)
    turn : (t : T) → Holds (x.turn t)
    orelse : Holds x.orelse

  in-turns : {T : Type 0} (x : Loop T) → IsLoop x → (k : ℕ) (i : Item) → IsOn P i → (b : Option T) → Holds (turns x k i b)
  unfolding turns
  in-turns x h zero i at b = ways.stop Out
  in-turns x h (suc k) i at b =
      ways.step _ _ (in-using _ _ (h.header b) (λ found. in-if_turn found _ _ h.orelse (λ t. ways.chain _ _ (h.turn t) (λ o. in-looped o _ (in-turns x h k (again x.line) h.line (Some t)))))) at

  in-loop : {T : Type 0} (x : Loop T) → IsLoop x → (i : Item) → IsOn P i → (b : Option T) → Holds (loop x i b)
  unfolding loop
  in-loop x h i at b = ways.within _ (λ n. in-turns x h n i at b)

  in-while_header : (f : M (Ans PlainValue)) → Holds f → Holds (while_header f)
  in-while_header f h = in-value _ _ h (λ v. in-branch v _ _ (ways.give _) (ways.give _))

  in-at_item : (v : PlainValue) (n i : ℕ) → Holds (at_item v n i)
  in-at_item v n i = in-value _ _ (in-ask _) (λ x. ways.give _)

  in-for_header : (f : M (Ans PlainValue)) → Holds f → (b : Option Walked) → Holds (for_header f b)
  in-for_header f h None = in-value _ _ h (λ v. in-value _ _ (in-ask _) (λ n. in-at_item v n 0))
  in-for_header f h (Some t) = in-at_item t.value t.length t.place

  while-parts : (l : ℕ) → P l → (test : M (Ans PlainValue)) (body orelse : M Out) → Holds test → Holds body → Holds orelse → IsLoop (while_loop l test body orelse)
  while-parts l at test body orelse h g k = record { line = at; header = λ b. in-while_header test h; turn = λ t. g; orelse = k }

  for-parts : (l : ℕ) → P l → (over : M (Ans PlainValue)) (to : PlainValue → M (Ans (Unit {0}))) (body orelse : M Out) → Holds over → ((v : PlainValue) → Holds (to v)) → Holds body → Holds orelse → IsLoop (for_loop l over to body orelse)
  for-parts l at over to body orelse h b g k = record { line = at; header = in-for_header over h; turn = λ t. in-using _ _ (b t.item) (λ u. g); orelse = k }

  -- ---- exceptions, cases and functions

  in-raise_value : (v : PlainValue) → Holds (raise_value v)
  in-raise_value (exc_value kind a) = ways.give _
  in-raise_value (kind_value kind) = ways.give _
  in-raise_value _ = in-throw _

  in-reraise : (e : Option PlainRaised) → Holds (reraise e)
  in-reraise (Some e) = ways.give _
  in-reraise None = in-throw _

  in-failed : (c : Calls) (p : Place) → AreAll c p.modules → (why : Option Expr) → Holds (failed_assertion c p why)
  in-failed c p h None = in-throw _
  in-failed c p h (Some e) = in-using _ _ (in-value _ _ (in-eval c p h e) (λ v. ways.give _)) (λ x. in-throw x)

  in-handle : (has : Bool) (o : Out) (h : PlainRaised → M Out) (f : M Out) → ((e : PlainRaised) → Holds (h e)) → Holds f → Holds (handle has o h f)
  in-handle has normal h f g k = k
  in-handle true (raises e t) h f g k = g e
  in-handle false (raises e t) h f g k = ways.give _
  in-handle has _ h f g k = ways.give _

  in-settle : (o q : Out) → Holds (settle o q)
  in-settle normal (raises e true) = in-throw e
  in-settle _ q = ways.give _

  in-caught : (c : Calls) (p : Place) → AreAll c p.modules → (kind : Option Expr) (e : PlainRaised) → Holds (caught_by c p kind e)
  in-caught c p h None e = ways.give _
  in-caught c p h (Some t) e = in-value _ _ (in-eval c p h t) (λ v. ways.give _)

  in-handled : (p : Scope) (x : Option Text) (e : PlainRaised) (f : M Out) → Holds f → Holds (handled p x e f)
  in-handled p x e f h = ways.write _ _ (ways.chain _ _ h (λ o. ways.write _ _ (ways.give o)))

  in-on_match : (found : Match) (f : Names → M Out) (m : M Out) → ((names : Names) → Holds (f names)) → Holds m → Holds (on_match found f m)
  in-on_match None f m h g = g
  in-on_match (Some names) f m h g = h names

  in-guarded : (c : Calls) (p : Place) → AreAll c p.modules → (guard : Option Expr) (b r : M Out) → Holds b → Holds r → Holds (guarded c p guard b r)
  in-guarded c p h None b r g k = g
  in-guarded c p h (Some e) b r g k = in-using _ _ (in-eval c p h e) (λ v. in-branch v _ _ g k)

  in-defaults : (c : Calls) (p : Place) → AreAll c p.modules → (es : Exprs) → Holds (default_list c p es)
  in-defaults c p h no_exprs = ways.give _
  in-defaults c p h (exprs e es) = in-value _ _ (in-each c p h (exprs e es)) (λ vs. in-value _ _ (in-work _) (λ a. ways.give _))

  in-returned : (c : Calls) (p : Place) → AreAll c p.modules → (e : Option Expr) → Holds (returned c p e)
  in-returned c p h None = ways.give _
  in-returned c p h (Some e) = in-using _ _ (in-eval c p h e) (λ v. ways.give _)

  in-raised : (c : Calls) (p : Place) → AreAll c p.modules → (e : Option Expr) → Holds (raised c p e)
  in-raised c p h None = in-reraise p.handled
  in-raised c p h (Some e) = in-using _ _ (in-eval c p h e) in-raise_value

  -- ---- statements

  mutual
    unfolding exec exec_kind exec_opt exec_arms exec_clauses exec_finally exec_cases

    pub in-exec : (c : Calls) (p : Place) → AreAll c p.modules → (b : Stmts) → AreOn P (stmts_marks b) → Holds (exec c p b)
    in-exec c p h no_stmts on = ways.give _
    in-exec c p h (stmt f l x e rest) on =
        ways.chain _ _ (in-kind c p h f x (left P (kind_marks f x) (stmts_marks rest) on)) (λ o. in-next o _ (in-exec c p h rest (right P (kind_marks f x) (stmts_marks rest) on)))

    in-kind : (c : Calls) (p : Place) → AreAll c p.modules → (l : ℕ) (x : StmtKind) → AreOn P (kind_marks l x) → Holds (exec_kind c p l x)
    in-kind c p h l (expr e) on = ways.step _ _ (in-using _ _ (in-eval c p h e) (λ v. ways.give _)) on.0
    in-kind c p h l (assign ts e) on = ways.step _ _ (in-using _ _ (in-value _ _ (in-eval c p h e) (λ v. in-assign_all c p h ts v)) (λ u. ways.give _)) on.0
    in-kind c p h l (aug_assign t op e) on = ways.step _ _ (in-using _ _ (in-augment c p h t op e) (λ u. ways.give _)) on.0
    in-kind c p h l pass on = ways.step _ _ (ways.give _) on.0
    in-kind c p h l break on = ways.step _ _ (ways.give _) on.0
    in-kind c p h l continue on = ways.step _ _ (ways.give _) on.0
    in-kind c p h l (return e) on = ways.step _ _ (in-returned c p h e) on.0
    in-kind c p h l (raise e) on = ways.step _ _ (in-raised c p h e) on.0
    in-kind c p h l (assert t why) on = ways.step _ _ (in-using _ _ (in-eval c p h t) (λ v. in-branch v _ _ (ways.give _) (in-failed c p h why))) on.0
    in-kind c p h l (global xs) on = ways.give _
    in-kind c p h l (import names) on = ways.step _ _ (in-using _ _ (in-import_each c p h names) (λ u. ways.give _)) on.0
    in-kind c p h l (from m names) on = ways.step _ _ (in-using _ _ (in-value _ _ (in-module_of c p.modules h m) (λ v. in-take_each p m v names)) (λ u. ways.give _)) on.0
    in-kind c p h l (if' xs o) on = in-arms c p h xs _ (left P (arms_marks xs) (opt_marks o) on) (in-opt_suite c p h o (right P (arms_marks xs) (opt_marks o) on))
    in-kind c p h l (while t (suite f g inline b) o) on =
        in-loop _ (while-parts l on.0 _ _ _ (in-eval c p h t) (in-exec c p h b (left P (stmts_marks b) (opt_marks o) on.1)) (in-opt_suite c p h o (right P (stmts_marks b) (opt_marks o) on.1))) (mark l) on.0 None
    in-kind c p h l (for t e (suite f g inline b) o) on =
        in-loop _ (for-parts l on.0 (eval c p e) (assign_to c p t) (exec c p b) (exec_opt c p o) (in-eval c p h e) (λ v. in-assign_to c p h t v)
        (in-exec c p h b (left P (stmts_marks b) (opt_marks o) on.1)) (in-opt_suite c p h o (right P (stmts_marks b) (opt_marks o) on.1))) (mark l) on.0 None
    in-kind c p h l (try (suite f g inline b) cs o fin) on =
        let later = right P (stmts_marks b) (clauses_marks cs ++ (opt_marks o ++ opt_marks fin)) on.1 in
        let last = right P (clauses_marks cs) (opt_marks o ++ opt_marks fin) later in
        ways.step _ _ (ways.chain _ _
        (ways.chain _ _ (in-exec c p h b (left P (stmts_marks b) (clauses_marks cs ++ (opt_marks o ++ opt_marks fin)) on.1))
        (λ q. in-handle (has_clauses cs) q _ _ (λ e. in-clauses c p h cs e (left P (clauses_marks cs) (opt_marks o ++ opt_marks fin) later)) (in-opt_suite c p h o (left P (opt_marks o) (opt_marks fin) last))))
        (λ q. in-finally c p h fin q (right P (opt_marks o) (opt_marks fin) last))) on.0
    in-kind c p h l (def x ps ds comma b) on = ways.step _ _ (in-using _ _ (in-defaults c p h ds) (λ a. ways.write _ _ (ways.give _))) on.0
    in-kind c p h l (match e header cs) on = ways.step _ _ (in-using _ _ (in-eval c p h e) (λ v. in-cases c p h cs v on.1)) on.0

    in-opt_suite : (c : Calls) (p : Place) → AreAll c p.modules → (b : OptSuite) → AreOn P (opt_marks b) → Holds (exec_opt c p b)
    in-opt_suite c p h no_suite on = ways.give _
    in-opt_suite c p h (has_suite (suite f l inline b)) on = in-exec c p h b on

    in-arms : (c : Calls) (p : Place) → AreAll c p.modules → (xs : Arms) (o : M Out) → AreOn P (arms_marks xs) → Holds o → Holds (exec_arms c p xs o)
    in-arms c p h no_arms o on k = k
    in-arms c p h (arm t (suite f l inline b) rest) o on k =
        ways.step _ _ (in-using _ _ (in-eval c p h t) (λ v. in-branch v _ _ (in-exec c p h b (left P (stmts_marks b) (arms_marks rest) on.1)) (in-arms c p h rest o (right P (stmts_marks b) (arms_marks rest) on.1) k))) on.0

    in-clauses : (c : Calls) (p : Place) → AreAll c p.modules → (cs : Clauses) (e : PlainRaised) → AreOn P (clauses_marks cs) → Holds (exec_clauses c p cs e)
    in-clauses c p h no_clauses e on = in-throw e
    in-clauses c p h (clause t x (suite f l inline b) rest) e on =
        ways.step _ _ (in-using _ _ (in-caught c p h t e) (λ yes. in-if yes _ _
        (in-handled p.scope x e (exec c (in_clause p e) b) (in-exec c (in_clause p e) h b (left P (stmts_marks b) (clauses_marks rest) on.1)))
        (in-clauses c p h rest e (right P (stmts_marks b) (clauses_marks rest) on.1)))) on.0

    in-finally : (c : Calls) (p : Place) → AreAll c p.modules → (b : OptSuite) (o : Out) → AreOn P (opt_marks b) → Holds (exec_finally c p b o)
    in-finally c p h no_suite o on = ways.give _
    in-finally c p h (has_suite (suite f l inline b)) o on = ways.chain _ _ (in-exec c p h b on) (λ q. in-settle q o)

    in-cases : (c : Calls) (p : Place) → AreAll c p.modules → (cs : Cases) (v : PlainValue) → AreOn P (cases_marks cs) → Holds (exec_cases c p cs v)
    in-cases c p h no_cases v on = ways.give _
    in-cases c p h (case q g (suite f l inline b) rest) v on =
        let here = in-exec c p h b (left P (stmts_marks b) (cases_marks rest) on.1) in
        let others = in-cases c p h rest v (right P (stmts_marks b) (cases_marks rest) on.1) in
        ways.step _ _ (in-using _ _ (in-ask _) (λ found. in-on_match found _ _
        (λ names. ways.write _ _ (in-guarded c p h g _ _ here others))
        others)) on.0
