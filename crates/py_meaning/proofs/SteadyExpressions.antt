-- Expressions, calls, assignments and imports never raise the steps that are left.
use Rattle.std.proofs.Common.{ℕ, List, [], ◌∷◌, Option, Some, None}
use Rattle.py_value.specs.declared.builtin.Builtin.{Builtin}
use Rattle.py_operator.specs.declared.operator.BinOp.{BinOp}
use Rattle.py_value.specs.declared.value.FuncId.{FuncId}
use Rattle.py_value.specs.Plain.{PlainValue, func_value, kind_value, builtin_value}
use Rattle.py_syntax.specs.Tree.{Text, Alias, Expr, name, int, str, fstr, none, bool, tuple, list, dict, paren, not', and, or, unary, binary, compare, cond as cond', call, index, slice, attr, Exprs, no_exprs, exprs, Pairs, no_pairs, pair, Links, no_links, link, OptExpr, absent, present, Fragments, no_fragments, plain, format, Parts, no_parts, text, field}
use Rattle.py_meaning.specs.Assignments.{assign_to, assign_each, assign_all, augment}
use Rattle.py_meaning.specs.Calls.{Calls, enter, enter_with, use_builtin, call_function, call_value, call_of, code_of}
use Rattle.py_meaning.specs.Computations.{Setting, Ans, M}
use Rattle.py_meaning.specs.Expressions.{eval, eval_each, eval_pairs, eval_links, eval_opt, eval_fragments, eval_parts}
use Rattle.py_meaning.specs.Imports.{begin, module_of, import_each, take_each}
use Rattle.py_meaning.specs.Laws.{IsSteady, AreSteady}
use Rattle.py_meaning.specs.Modules.{LoadedModule, function_found}
use Rattle.py_syntax.specs.Functions.{Function}
use Rattle.py_meaning.specs.Places.{Place}
use Rattle.py_meaning.proofs.Steady.{steady-give, steady-read, steady-write, steady-say, steady-value, steady-ask, steady-worked, steady-work, steady-if, steady-branch}
use Rattle.py_builtins.specs.Callees.{Callee, a_value, a_method}

pub steady-enter : (f : M (Ans PlainValue)) → IsSteady f → IsSteady (enter f)
unfolding enter
steady-enter f h = steady-read _ (λ w. steady-if _ _ _ h (steady-give _))

steady-enter_with : (c : Calls) → AreSteady c → (f : FuncId) (vs : Option (List PlainValue)) → IsSteady (enter_with c f vs)
steady-enter_with c h f None = steady-give _
steady-enter_with c h f (Some vs) = steady-enter _ (h f.module f.unit vs)

steady-builtin : (which : Builtin) (vs : List PlainValue) → IsSteady (use_builtin which vs)
unfolding use_builtin
steady-builtin which vs = steady-read _ (λ w. steady-say _ _ (steady-write _ _ (steady-worked _)))

steady-call_function : (c : Calls) → AreSteady c → (o : Option Function) (f : FuncId) (a : Option ℕ) (vs : List PlainValue) (w : Setting) → IsSteady (call_function c o f a vs w)
steady-call_function c h None f a vs w = steady-give _
steady-call_function c h (Some g) f a vs w = steady-enter_with c h f _

pub steady-call_value : (c : Calls) → AreSteady c → (ms : List LoadedModule) (v : PlainValue) (vs : List PlainValue) → IsSteady (call_value c ms v vs)
unfolding call_value
steady-call_value c h ms (func_value f a) vs = steady-read _ (λ w. steady-call_function c h (function_found ms (code_of f)) f a vs w)
steady-call_value c h ms (kind_value kind) vs = steady-give _
steady-call_value c h ms (builtin_value which) vs = steady-builtin which vs
steady-call_value c h ms _ vs = steady-give _

steady-call_of : (c : Calls) → AreSteady c → (ms : List LoadedModule) (f : Callee) (vs : List PlainValue) → IsSteady (call_of c ms f vs)
unfolding call_of
steady-call_of c h ms (a_value v) vs = steady-call_value c h ms v vs
steady-call_of c h ms (a_method m v) vs = steady-work _

mutual
  unfolding eval eval_each eval_pairs eval_links eval_opt eval_fragments eval_parts

  pub steady-eval : (c : Calls) → AreSteady c → (p : Place) (e : Expr) → IsSteady (eval c p e)
  steady-eval c h p (name x) = steady-ask _
  steady-eval c h p (int n) = steady-give _
  steady-eval c h p (str pieces) = steady-give _
  steady-eval c h p (fstr pieces) = steady-value _ _ (steady-fragments c h p pieces []) (λ x. steady-give _)
  steady-eval c h p none = steady-give _
  steady-eval c h p (bool b) = steady-give _
  steady-eval c h p (tuple es comma) = steady-value _ _ (steady-each c h p es) (λ vs. steady-give _)
  steady-eval c h p (list es comma) = steady-value _ _ (steady-each c h p es) (λ vs. steady-work _)
  steady-eval c h p (dict ps comma) = steady-value _ _ (steady-work _) (λ v. steady-pairs c h p ps v)
  steady-eval c h p (paren e) = steady-eval c h p e
  steady-eval c h p (not' e) = steady-value _ _ (steady-eval c h p e) (λ v. steady-branch v _ _ (steady-give _) (steady-give _))
  steady-eval c h p (and a b) = steady-value _ _ (steady-eval c h p a) (λ v. steady-branch v _ _ (steady-eval c h p b) (steady-give _))
  steady-eval c h p (or a b) = steady-value _ _ (steady-eval c h p a) (λ v. steady-branch v _ _ (steady-give _) (steady-eval c h p b))
  steady-eval c h p (unary s e) = steady-value _ _ (steady-eval c h p e) (λ v. steady-work _)
  steady-eval c h p (binary op a b) = steady-value _ _ (steady-eval c h p a) (λ v. steady-value _ _ (steady-eval c h p b) (λ w. steady-work _))
  steady-eval c h p (compare a ls) = steady-value _ _ (steady-eval c h p a) (λ v. steady-links c h p ls v)
  steady-eval c h p (cond' b t o) = steady-value _ _ (steady-eval c h p t) (λ v. steady-branch v _ _ (steady-eval c h p b) (steady-eval c h p o))
  steady-eval c h p (call (attr e x) es comma) =
      steady-value _ _ (steady-eval c h p e) (λ v. steady-value _ _ (steady-ask _) (λ f. steady-value _ _ (steady-each c h p es) (λ vs. steady-call_of c h p.modules f vs)))
  steady-eval c h p (call e es comma) =
      steady-value _ _ (steady-eval c h p e) (λ f. steady-value _ _ (steady-each c h p es) (λ vs. steady-call_of c h p.modules (a_value f) vs))
  steady-eval c h p (index of at) = steady-value _ _ (steady-eval c h p of) (λ v. steady-value _ _ (steady-eval c h p at) (λ i. steady-ask _))
  steady-eval c h p (slice of f t) =
      steady-value _ _ (steady-eval c h p of) (λ v. steady-value _ _ (steady-opt c h p f) (λ a. steady-value _ _ (steady-opt c h p t) (λ b. steady-work _)))
  steady-eval c h p (attr e x) = steady-value _ _ (steady-eval c h p e) (λ v. steady-ask _)

  pub steady-each : (c : Calls) → AreSteady c → (p : Place) (es : Exprs) → IsSteady (eval_each c p es)
  steady-each c h p no_exprs = steady-give _
  steady-each c h p (exprs e es) = steady-value _ _ (steady-eval c h p e) (λ v. steady-value _ _ (steady-each c h p es) (λ vs. steady-give _))

  pub steady-pairs : (c : Calls) → AreSteady c → (p : Place) (ps : Pairs) (v : PlainValue) → IsSteady (eval_pairs c p ps v)
  steady-pairs c h p no_pairs v = steady-give _
  steady-pairs c h p (pair key e rest) v =
      steady-value _ _ (steady-eval c h p key) (λ i. steady-value _ _ (steady-eval c h p e) (λ w. steady-value _ _ (steady-work _) (λ u. steady-pairs c h p rest v)))

  pub steady-links : (c : Calls) → AreSteady c → (p : Place) (ls : Links) (v : PlainValue) → IsSteady (eval_links c p ls v)
  steady-links c h p no_links v = steady-give _
  steady-links c h p (link op e rest) v =
      steady-value _ _ (steady-eval c h p e) (λ w. steady-value _ _ (steady-ask _) (λ b. steady-if b _ _ (steady-links c h p rest w) (steady-give _)))

  pub steady-opt : (c : Calls) → AreSteady c → (p : Place) (o : OptExpr) → IsSteady (eval_opt c p o)
  steady-opt c h p absent = steady-give _
  steady-opt c h p (present e) = steady-value _ _ (steady-eval c h p e) (λ v. steady-give _)

  pub steady-fragments : (c : Calls) → AreSteady c → (p : Place) (fs : Fragments) (x : Text) → IsSteady (eval_fragments c p fs x)
  steady-fragments c h p no_fragments x = steady-give _
  steady-fragments c h p (plain y rest) x = steady-value _ _ (steady-give _) (λ z. steady-fragments c h p rest z)
  steady-fragments c h p (format parts rest) x = steady-value _ _ (steady-parts c h p parts x) (λ z. steady-fragments c h p rest z)

  pub steady-parts : (c : Calls) → AreSteady c → (p : Place) (parts : Parts) (x : Text) → IsSteady (eval_parts c p parts x)
  steady-parts c h p no_parts x = steady-give _
  steady-parts c h p (text y rest) x = steady-value _ _ (steady-give _) (λ z. steady-parts c h p rest z)
  steady-parts c h p (field e rest) x =
      steady-value _ _ (steady-eval c h p e) (λ v. steady-value _ _ (steady-ask _) (λ y. steady-value _ _ (steady-give _) (λ z. steady-parts c h p rest z)))

-- ---- assignments

mutual
  unfolding assign_to assign_each

  pub steady-assign_to : (c : Calls) → AreSteady c → (p : Place) (t : Expr) (v : PlainValue) → IsSteady (assign_to c p t v)
  steady-assign_to c h p (name x) v = steady-write _ _ (steady-give _)
  steady-assign_to c h p (index of at) v = steady-value _ _ (steady-eval c h p of) (λ o. steady-value _ _ (steady-eval c h p at) (λ i. steady-work _))
  steady-assign_to c h p (paren t) v = steady-assign_to c h p t v
  steady-assign_to c h p (tuple ts comma) v = steady-value _ _ (steady-ask _) (λ vs. steady-assign_each c h p ts vs)
  steady-assign_to c h p (list ts comma) v = steady-value _ _ (steady-ask _) (λ vs. steady-assign_each c h p ts vs)
  steady-assign_to c h p _ v = steady-give _

  steady-assign_each : (c : Calls) → AreSteady c → (p : Place) (ts : Exprs) (vs : List PlainValue) → IsSteady (assign_each c p ts vs)
  steady-assign_each c h p no_exprs vs = steady-give _
  steady-assign_each c h p (exprs t ts) [] = steady-give _
  steady-assign_each c h p (exprs t ts) (v ∷ vs) = steady-value _ _ (steady-assign_to c h p t v) (λ u. steady-assign_each c h p ts vs)

pub steady-assign_all : (c : Calls) → AreSteady c → (p : Place) (ts : Exprs) (v : PlainValue) → IsSteady (assign_all c p ts v)
unfolding assign_all
steady-assign_all c h p no_exprs v = steady-give _
steady-assign_all c h p (exprs t ts) v = steady-value _ _ (steady-assign_to c h p t v) (λ u. steady-assign_all c h p ts v)

pub steady-augment : (c : Calls) → AreSteady c → (p : Place) (t : Expr) (op : BinOp) (e : Expr) → IsSteady (augment c p t op e)
unfolding augment
steady-augment c h p (name x) op e =
    steady-value _ _ (steady-ask _) (λ v. steady-value _ _ (steady-eval c h p e) (λ w. steady-value _ _ (steady-work _) (λ u. steady-write _ _ (steady-give _))))
steady-augment c h p (index of at) op e =
    steady-value _ _ (steady-eval c h p of) (λ o. steady-value _ _ (steady-eval c h p at) (λ i. steady-value _ _ (steady-ask _) (λ v.
    steady-value _ _ (steady-eval c h p e) (λ w. steady-value _ _ (steady-work _) (λ u. steady-work _)))))
steady-augment c h p _ op e = steady-give _

-- ---- imports

steady-begin : (c : Calls) → AreSteady c → (x : Text) (m : Option ℕ) → IsSteady (begin c x m)
unfolding begin
steady-begin c h x None = steady-give _
steady-begin c h x (Some m) = steady-read _ (λ w. steady-if _ _ _ (steady-give _) (steady-value _ _ (steady-enter _ (h m 0 [])) (λ v. steady-give _)))

pub steady-module_of : (c : Calls) → AreSteady c → (ms : List LoadedModule) (x : Text) → IsSteady (module_of c ms x)
unfolding module_of
steady-module_of c h ms x = steady-if _ _ _ (steady-give _) (steady-begin c h x _)

pub steady-import_each : (c : Calls) → AreSteady c → (p : Place) (names : List Alias) → IsSteady (import_each c p names)
unfolding import_each
steady-import_each c h p [] = steady-give _
steady-import_each c h p (a ∷ rest) = steady-value _ _ (steady-module_of c h p.modules a.name) (λ v. steady-write _ _ (steady-import_each c h p rest))

pub steady-take_each : (p : Place) (m : Text) (v : PlainValue) (names : List Alias) → IsSteady (take_each p m v names)
unfolding take_each
steady-take_each p m v [] = steady-give _
steady-take_each p m v (a ∷ rest) = steady-value _ _ (steady-ask _) (λ u. steady-write _ _ (steady-take_each p m v rest))
