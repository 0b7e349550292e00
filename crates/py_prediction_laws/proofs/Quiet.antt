-- Expressions, calls, assignments and imports mark and throw nothing of their own.
use Rattle.std.proofs.Common.{ℕ, List, [], ◌∷◌, Option, Some, None}
use Rattle.py_value.specs.declared.builtin.Builtin.{Builtin}
use Rattle.py_operator.specs.declared.operator.BinOp.{BinOp}
use Rattle.py_value.specs.declared.value.FuncId.{FuncId}
use Rattle.py_value.specs.Plain.{PlainValue, func_value, kind_value, builtin_value}
use Rattle.py_syntax.specs.Tree.{Text, Alias, Expr, name, int, str, fstr, none, bool, tuple, list, dict, paren, not', and, or, unary, binary, compare, cond as cond', call, index, slice, attr, Exprs, no_exprs, exprs, Pairs, no_pairs, pair, Links, no_links, link, OptExpr, absent, present, Fragments, no_fragments, plain, format, Parts, no_parts, text, field}
use Rattle.py_meaning.specs.Assignments.{assign_to, assign_each, assign_all, augment}
use Rattle.py_meaning.specs.Calls.{Calls, enter, enter_with, use_builtin, call_function, call_value, call_of, code_of}
use Rattle.py_meaning.specs.Computations.{Setting, Ans, M}
use Rattle.py_meaning.specs.Expressions.{eval, eval_each, eval_pairs, eval_links, eval_opt, eval_fragments, eval_parts}
use Rattle.py_meaning.specs.Imports.{begin, module_of, import_each, take_each}
use Rattle.py_meaning.specs.Modules.{LoadedModule, function_found}
use Rattle.py_syntax.specs.Functions.{Function}
use Rattle.py_meaning.specs.Places.{Place}
use Rattle.py_prediction_laws.proofs.Tracks.{Rule, IsQuiet, AreQuiet, quiet-give, quiet-read, quiet-write, quiet-say, quiet-value, quiet-ask, quiet-worked, quiet-work, quiet-if, quiet-branch}
use Rattle.py_builtins.specs.Callees.{Callee, a_value, a_method}

module _ (R : Rule) where
  pub quiet-enter : (f : M (Ans PlainValue)) → IsQuiet R f → IsQuiet R (enter f)
  unfolding enter
  quiet-enter f h = quiet-read R _ (λ w. quiet-if R _ _ _ h (quiet-give R _))

  quiet-enter_with : (c : Calls) → AreQuiet R c → (f : FuncId) (vs : Option (List PlainValue)) → IsQuiet R (enter_with c f vs)
  quiet-enter_with c h f None = quiet-give R _
  quiet-enter_with c h f (Some vs) = quiet-enter _ (h f.module f.unit vs)

  quiet-builtin : (which : Builtin) (vs : List PlainValue) → IsQuiet R (use_builtin which vs)
  unfolding use_builtin
  quiet-builtin which vs = quiet-read R _ (λ w. quiet-say R _ _ (quiet-write R _ _ (quiet-worked R _)))

  quiet-call_function : (c : Calls) → AreQuiet R c → (o : Option Function) (f : FuncId) (a : Option ℕ) (vs : List PlainValue) (w : Setting) → IsQuiet R (call_function c o f a vs w)
  quiet-call_function c h None f a vs w = quiet-give R _
  quiet-call_function c h (Some g) f a vs w = quiet-enter_with c h f _

  pub quiet-call_value : (c : Calls) → AreQuiet R c → (ms : List LoadedModule) (v : PlainValue) (vs : List PlainValue) → IsQuiet R (call_value c ms v vs)
  unfolding call_value
  quiet-call_value c h ms (func_value f a) vs = quiet-read R _ (λ w. quiet-call_function c h (function_found ms (code_of f)) f a vs w)
  quiet-call_value c h ms (kind_value kind) vs = quiet-give R _
  quiet-call_value c h ms (builtin_value which) vs = quiet-builtin which vs
  quiet-call_value c h ms _ vs = quiet-give R _

  quiet-call_of : (c : Calls) → AreQuiet R c → (ms : List LoadedModule) (f : Callee) (vs : List PlainValue) → IsQuiet R (call_of c ms f vs)
  unfolding call_of
  quiet-call_of c h ms (a_value v) vs = quiet-call_value c h ms v vs
  quiet-call_of c h ms (a_method m v) vs = quiet-work R _

  mutual
    unfolding eval eval_each eval_pairs eval_links eval_opt eval_fragments eval_parts

    pub quiet-eval : (c : Calls) → AreQuiet R c → (p : Place) (e : Expr) → IsQuiet R (eval c p e)
    quiet-eval c h p (name x) = quiet-ask R _
    quiet-eval c h p (int n) = quiet-give R _
    quiet-eval c h p (str pieces) = quiet-give R _
    quiet-eval c h p (fstr pieces) = quiet-value R _ _ (quiet-fragments c h p pieces []) (λ x. quiet-give R _)
    quiet-eval c h p none = quiet-give R _
    quiet-eval c h p (bool b) = quiet-give R _
    quiet-eval c h p (tuple es comma) = quiet-value R _ _ (quiet-each c h p es) (λ vs. quiet-give R _)
    quiet-eval c h p (list es comma) = quiet-value R _ _ (quiet-each c h p es) (λ vs. quiet-work R _)
    quiet-eval c h p (dict ps comma) = quiet-value R _ _ (quiet-work R _) (λ v. quiet-pairs c h p ps v)
    quiet-eval c h p (paren e) = quiet-eval c h p e
    quiet-eval c h p (not' e) = quiet-value R _ _ (quiet-eval c h p e) (λ v. quiet-branch R v _ _ (quiet-give R _) (quiet-give R _))
    quiet-eval c h p (and a b) = quiet-value R _ _ (quiet-eval c h p a) (λ v. quiet-branch R v _ _ (quiet-eval c h p b) (quiet-give R _))
    quiet-eval c h p (or a b) = quiet-value R _ _ (quiet-eval c h p a) (λ v. quiet-branch R v _ _ (quiet-give R _) (quiet-eval c h p b))
    quiet-eval c h p (unary s e) = quiet-value R _ _ (quiet-eval c h p e) (λ v. quiet-work R _)
    quiet-eval c h p (binary op a b) = quiet-value R _ _ (quiet-eval c h p a) (λ v. quiet-value R _ _ (quiet-eval c h p b) (λ w. quiet-work R _))
    quiet-eval c h p (compare a ls) = quiet-value R _ _ (quiet-eval c h p a) (λ v. quiet-links c h p ls v)
    quiet-eval c h p (cond' b t o) = quiet-value R _ _ (quiet-eval c h p t) (λ v. quiet-branch R v _ _ (quiet-eval c h p b) (quiet-eval c h p o))
    quiet-eval c h p (call (attr e x) es comma) =
        quiet-value R _ _ (quiet-eval c h p e) (λ v. quiet-value R _ _ (quiet-ask R _) (λ f. quiet-value R _ _ (quiet-each c h p es) (λ vs. quiet-call_of c h p.modules f vs)))
    quiet-eval c h p (call e es comma) =
        quiet-value R _ _ (quiet-eval c h p e) (λ f. quiet-value R _ _ (quiet-each c h p es) (λ vs. quiet-call_of c h p.modules (a_value f) vs))
    quiet-eval c h p (index of at) = quiet-value R _ _ (quiet-eval c h p of) (λ v. quiet-value R _ _ (quiet-eval c h p at) (λ i. quiet-ask R _))
    quiet-eval c h p (slice of f t) =
        quiet-value R _ _ (quiet-eval c h p of) (λ v. quiet-value R _ _ (quiet-opt c h p f) (λ a. quiet-value R _ _ (quiet-opt c h p t) (λ b. quiet-work R _)))
    quiet-eval c h p (attr e x) = quiet-value R _ _ (quiet-eval c h p e) (λ v. quiet-ask R _)

    pub quiet-each : (c : Calls) → AreQuiet R c → (p : Place) (es : Exprs) → IsQuiet R (eval_each c p es)
    quiet-each c h p no_exprs = quiet-give R _
    quiet-each c h p (exprs e es) = quiet-value R _ _ (quiet-eval c h p e) (λ v. quiet-value R _ _ (quiet-each c h p es) (λ vs. quiet-give R _))

    pub quiet-pairs : (c : Calls) → AreQuiet R c → (p : Place) (ps : Pairs) (v : PlainValue) → IsQuiet R (eval_pairs c p ps v)
    quiet-pairs c h p no_pairs v = quiet-give R _
    quiet-pairs c h p (pair key e rest) v =
        quiet-value R _ _ (quiet-eval c h p key) (λ i. quiet-value R _ _ (quiet-eval c h p e) (λ w. quiet-value R _ _ (quiet-work R _) (λ u. quiet-pairs c h p rest v)))

    pub quiet-links : (c : Calls) → AreQuiet R c → (p : Place) (ls : Links) (v : PlainValue) → IsQuiet R (eval_links c p ls v)
    quiet-links c h p no_links v = quiet-give R _
    quiet-links c h p (link op e rest) v =
        quiet-value R _ _ (quiet-eval c h p e) (λ w. quiet-value R _ _ (quiet-ask R _) (λ b. quiet-if R b _ _ (quiet-links c h p rest w) (quiet-give R _)))

    pub quiet-opt : (c : Calls) → AreQuiet R c → (p : Place) (o : OptExpr) → IsQuiet R (eval_opt c p o)
    quiet-opt c h p absent = quiet-give R _
    quiet-opt c h p (present e) = quiet-value R _ _ (quiet-eval c h p e) (λ v. quiet-give R _)

    pub quiet-fragments : (c : Calls) → AreQuiet R c → (p : Place) (fs : Fragments) (x : Text) → IsQuiet R (eval_fragments c p fs x)
    quiet-fragments c h p no_fragments x = quiet-give R _
    quiet-fragments c h p (plain y rest) x = quiet-value R _ _ (quiet-give R _) (λ z. quiet-fragments c h p rest z)
    quiet-fragments c h p (format parts rest) x = quiet-value R _ _ (quiet-parts c h p parts x) (λ z. quiet-fragments c h p rest z)

    pub quiet-parts : (c : Calls) → AreQuiet R c → (p : Place) (parts : Parts) (x : Text) → IsQuiet R (eval_parts c p parts x)
    quiet-parts c h p no_parts x = quiet-give R _
    quiet-parts c h p (text y rest) x = quiet-value R _ _ (quiet-give R _) (λ z. quiet-parts c h p rest z)
    quiet-parts c h p (field e rest) x =
        quiet-value R _ _ (quiet-eval c h p e) (λ v. quiet-value R _ _ (quiet-ask R _) (λ y. quiet-value R _ _ (quiet-give R _) (λ z. quiet-parts c h p rest z)))

  -- ---- assignments

  mutual
    unfolding assign_to assign_each

    pub quiet-assign_to : (c : Calls) → AreQuiet R c → (p : Place) (t : Expr) (v : PlainValue) → IsQuiet R (assign_to c p t v)
    quiet-assign_to c h p (name x) v = quiet-write R _ _ (quiet-give R _)
    quiet-assign_to c h p (index of at) v = quiet-value R _ _ (quiet-eval c h p of) (λ o. quiet-value R _ _ (quiet-eval c h p at) (λ i. quiet-work R _))
    quiet-assign_to c h p (paren t) v = quiet-assign_to c h p t v
    quiet-assign_to c h p (tuple ts comma) v = quiet-value R _ _ (quiet-ask R _) (λ vs. quiet-assign_each c h p ts vs)
    quiet-assign_to c h p (list ts comma) v = quiet-value R _ _ (quiet-ask R _) (λ vs. quiet-assign_each c h p ts vs)
    quiet-assign_to c h p _ v = quiet-give R _

    quiet-assign_each : (c : Calls) → AreQuiet R c → (p : Place) (ts : Exprs) (vs : List PlainValue) → IsQuiet R (assign_each c p ts vs)
    quiet-assign_each c h p no_exprs vs = quiet-give R _
    quiet-assign_each c h p (exprs t ts) [] = quiet-give R _
    quiet-assign_each c h p (exprs t ts) (v ∷ vs) = quiet-value R _ _ (quiet-assign_to c h p t v) (λ u. quiet-assign_each c h p ts vs)

  pub quiet-assign_all : (c : Calls) → AreQuiet R c → (p : Place) (ts : Exprs) (v : PlainValue) → IsQuiet R (assign_all c p ts v)
  unfolding assign_all
  quiet-assign_all c h p no_exprs v = quiet-give R _
  quiet-assign_all c h p (exprs t ts) v = quiet-value R _ _ (quiet-assign_to c h p t v) (λ u. quiet-assign_all c h p ts v)

  pub quiet-augment : (c : Calls) → AreQuiet R c → (p : Place) (t : Expr) (op : BinOp) (e : Expr) → IsQuiet R (augment c p t op e)
  unfolding augment
  quiet-augment c h p (name x) op e =
      quiet-value R _ _ (quiet-ask R _) (λ v. quiet-value R _ _ (quiet-eval c h p e) (λ w. quiet-value R _ _ (quiet-work R _) (λ u. quiet-write R _ _ (quiet-give R _))))
  quiet-augment c h p (index of at) op e =
      quiet-value R _ _ (quiet-eval c h p of) (λ o. quiet-value R _ _ (quiet-eval c h p at) (λ i. quiet-value R _ _ (quiet-ask R _) (λ v.
      quiet-value R _ _ (quiet-eval c h p e) (λ w. quiet-value R _ _ (quiet-work R _) (λ u. quiet-work R _)))))
  quiet-augment c h p _ op e = quiet-give R _

  -- ---- imports

  quiet-begin : (c : Calls) → AreQuiet R c → (x : Text) (m : Option ℕ) → IsQuiet R (begin c x m)
  unfolding begin
  quiet-begin c h x None = quiet-give R _
  quiet-begin c h x (Some m) = quiet-read R _ (λ w. quiet-if R _ _ _ (quiet-give R _) (quiet-value R _ _ (quiet-enter _ (h m 0 [])) (λ v. quiet-give R _)))

  pub quiet-module_of : (c : Calls) → AreQuiet R c → (ms : List LoadedModule) (x : Text) → IsQuiet R (module_of c ms x)
  unfolding module_of
  quiet-module_of c h ms x = quiet-if R _ _ _ (quiet-give R _) (quiet-begin c h x _)

  pub quiet-import_each : (c : Calls) → AreQuiet R c → (p : Place) (names : List Alias) → IsQuiet R (import_each c p names)
  unfolding import_each
  quiet-import_each c h p [] = quiet-give R _
  quiet-import_each c h p (a ∷ rest) = quiet-value R _ _ (quiet-module_of c h p.modules a.name) (λ v. quiet-write R _ _ (quiet-import_each c h p rest))

  pub quiet-take_each : (p : Place) (m : Text) (v : PlainValue) (names : List Alias) → IsQuiet R (take_each p m v names)
  unfolding take_each
  quiet-take_each p m v [] = quiet-give R _
  quiet-take_each p m v (a ∷ rest) = quiet-value R _ _ (quiet-ask R _) (λ u. quiet-write R _ _ (quiet-take_each p m v rest))
