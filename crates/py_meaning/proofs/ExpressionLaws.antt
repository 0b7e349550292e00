-- More steps change nothing of what an expression gives, of calls, assignments and imports.
use Rattle.std.proofs.Common.{ℕ, List, [], ◌∷◌, Option, Some, None}
use Rattle.py_value.specs.declared.builtin.Builtin.{Builtin}
use Rattle.py_operator.specs.declared.operator.BinOp.{BinOp}
use Rattle.py_value.specs.declared.value.FuncId.{FuncId}
use Rattle.py_value.specs.Plain.{PlainValue, func_value, kind_value, builtin_value}
use Rattle.py_syntax.specs.Tree.{Text, Alias, Expr, name, int, str, fstr, none, bool, tuple, list, dict, paren, not', and, or, unary, binary, compare, cond as cond', call, index, slice, attr, Exprs, no_exprs, exprs, Pairs, no_pairs, pair, Links, no_links, link, OptExpr, absent, present, Fragments, no_fragments, plain, format, Parts, no_parts, text, field}
use Rattle.py_meaning.specs.Assignments.{assign_to, assign_each, assign_all, augment}
use Rattle.py_meaning.specs.Calls.{Calls, enter, enter_with, use_builtin, call_function, call_value, call_of, code_of}
use Rattle.py_meaning.specs.Computations.{Setting, Ans, M}
use Rattle.py_meaning.specs.Expressions.{eval, eval_each, eval_pairs, eval_links, eval_opt, eval_fragments, eval_parts}
use Rattle.py_meaning.specs.Imports.{begin, module_of, import_each, take_each}
use Rattle.py_meaning.specs.Modules.{LoadedModule, function_found}
use Rattle.py_syntax.specs.Functions.{Function}
use Rattle.py_meaning.specs.Places.{Place}
use Rattle.py_meaning.proofs.Budget.{Agrees, agree-give, agree-read, agree-write, agree-say, agree-value, agree-ask, agree-worked, agree-work, agree-if, agree-branch}
use Rattle.py_builtins.specs.Callees.{Callee, a_value, a_method}

abbrev pub AgreeCalls : ℕ → Calls → Calls → Type 0
AgreeCalls k c d = (m u : ℕ) (vs : List PlainValue) → Agrees k (c m u vs) (d m u vs)

pub agree-enter : (k : ℕ) (f g : M (Ans PlainValue)) → Agrees k f g → Agrees k (enter f) (enter g)
unfolding enter
agree-enter k f g fg = agree-read k _ _ (λ w. agree-if k _ _ _ _ _ fg (agree-give k _))

agree-enter_with : (k : ℕ) (c d : Calls) → AgreeCalls k c d → (f : FuncId) (vs : Option (List PlainValue)) → Agrees k (enter_with c f vs) (enter_with d f vs)
agree-enter_with k c d h f None = agree-give k _
agree-enter_with k c d h f (Some vs) = agree-enter k _ _ (h f.module f.unit vs)

agree-builtin : (k : ℕ) (which : Builtin) (vs : List PlainValue) → Agrees k (use_builtin which vs) (use_builtin which vs)
unfolding use_builtin
agree-builtin k which vs = agree-read k _ _ (λ w. agree-say k _ _ _ (agree-write k _ _ _ (agree-worked k _)))

agree-call_function : (k : ℕ) (c d : Calls) → AgreeCalls k c d → (o : Option Function) (f : FuncId) (a : Option ℕ) (vs : List PlainValue) (w : Setting)
    → Agrees k (call_function c o f a vs w) (call_function d o f a vs w)
agree-call_function k c d h None f a vs w = agree-give k _
agree-call_function k c d h (Some g) f a vs w = agree-enter_with k c d h f _

pub agree-call_value : (k : ℕ) (c d : Calls) → AgreeCalls k c d → (ms : List LoadedModule) (v : PlainValue) (vs : List PlainValue) → Agrees k (call_value c ms v vs) (call_value d ms v vs)
unfolding call_value
agree-call_value k c d h ms (func_value f a) vs = agree-read k _ _ (λ w. agree-call_function k c d h (function_found ms (code_of f)) f a vs w)
agree-call_value k c d h ms (kind_value kind) vs = agree-give k _
agree-call_value k c d h ms (builtin_value which) vs = agree-builtin k which vs
agree-call_value k c d h ms _ vs = agree-give k _

agree-call_of : (k : ℕ) (c d : Calls) → AgreeCalls k c d → (ms : List LoadedModule) (f : Callee) (vs : List PlainValue) → Agrees k (call_of c ms f vs) (call_of d ms f vs)
unfolding call_of
agree-call_of k c d h ms (a_value v) vs = agree-call_value k c d h ms v vs
agree-call_of k c d h ms (a_method m v) vs = agree-work k _

mutual
  unfolding eval eval_each eval_pairs eval_links eval_opt eval_fragments eval_parts

  pub agree-eval : (k : ℕ) (c d : Calls) → AgreeCalls k c d → (p : Place) (e : Expr) → Agrees k (eval c p e) (eval d p e)
  agree-eval k c d h p (name x) = agree-ask k _
  agree-eval k c d h p (int n) = agree-give k _
  agree-eval k c d h p (str pieces) = agree-give k _
  agree-eval k c d h p (fstr pieces) = agree-value k _ _ _ _ (agree-fragments k c d h p pieces []) (λ x. agree-give k _)
  agree-eval k c d h p none = agree-give k _
  agree-eval k c d h p (bool b) = agree-give k _
  agree-eval k c d h p (tuple es comma) = agree-value k _ _ _ _ (agree-each k c d h p es) (λ vs. agree-give k _)
  agree-eval k c d h p (list es comma) = agree-value k _ _ _ _ (agree-each k c d h p es) (λ vs. agree-work k _)
  agree-eval k c d h p (dict ps comma) = agree-value k _ _ _ _ (agree-work k _) (λ v. agree-pairs k c d h p ps v)
  agree-eval k c d h p (paren e) = agree-eval k c d h p e
  agree-eval k c d h p (not' e) = agree-value k _ _ _ _ (agree-eval k c d h p e) (λ v. agree-branch k v _ _ _ _ (agree-give k _) (agree-give k _))
  agree-eval k c d h p (and a b) = agree-value k _ _ _ _ (agree-eval k c d h p a) (λ v. agree-branch k v _ _ _ _ (agree-eval k c d h p b) (agree-give k _))
  agree-eval k c d h p (or a b) = agree-value k _ _ _ _ (agree-eval k c d h p a) (λ v. agree-branch k v _ _ _ _ (agree-give k _) (agree-eval k c d h p b))
  agree-eval k c d h p (unary s e) = agree-value k _ _ _ _ (agree-eval k c d h p e) (λ v. agree-work k _)
  agree-eval k c d h p (binary op a b) = agree-value k _ _ _ _ (agree-eval k c d h p a) (λ v. agree-value k _ _ _ _ (agree-eval k c d h p b) (λ w. agree-work k _))
  agree-eval k c d h p (compare a ls) = agree-value k _ _ _ _ (agree-eval k c d h p a) (λ v. agree-links k c d h p ls v)
  agree-eval k c d h p (cond' b t o) = agree-value k _ _ _ _ (agree-eval k c d h p t) (λ v. agree-branch k v _ _ _ _ (agree-eval k c d h p b) (agree-eval k c d h p o))
  agree-eval k c d h p (call (attr e x) es comma) =
      agree-value k _ _ _ _ (agree-eval k c d h p e) (λ v. agree-value k _ _ _ _ (agree-ask k _) (λ f. agree-value k _ _ _ _ (agree-each k c d h p es) (λ vs. agree-call_of k c d h p.modules f vs)))
  agree-eval k c d h p (call e es comma) =
      agree-value k _ _ _ _ (agree-eval k c d h p e) (λ f. agree-value k _ _ _ _ (agree-each k c d h p es) (λ vs. agree-call_of k c d h p.modules (a_value f) vs))
  agree-eval k c d h p (index of at) = agree-value k _ _ _ _ (agree-eval k c d h p of) (λ v. agree-value k _ _ _ _ (agree-eval k c d h p at) (λ i. agree-ask k _))
  agree-eval k c d h p (slice of f t) =
      agree-value k _ _ _ _ (agree-eval k c d h p of) (λ v. agree-value k _ _ _ _ (agree-opt k c d h p f) (λ a. agree-value k _ _ _ _ (agree-opt k c d h p t) (λ b. agree-work k _)))
  agree-eval k c d h p (attr e x) = agree-value k _ _ _ _ (agree-eval k c d h p e) (λ v. agree-ask k _)

  pub agree-each : (k : ℕ) (c d : Calls) → AgreeCalls k c d → (p : Place) (es : Exprs) → Agrees k (eval_each c p es) (eval_each d p es)
  agree-each k c d h p no_exprs = agree-give k _
  agree-each k c d h p (exprs e es) = agree-value k _ _ _ _ (agree-eval k c d h p e) (λ v. agree-value k _ _ _ _ (agree-each k c d h p es) (λ vs. agree-give k _))

  agree-pairs : (k : ℕ) (c d : Calls) → AgreeCalls k c d → (p : Place) (ps : Pairs) (v : PlainValue) → Agrees k (eval_pairs c p ps v) (eval_pairs d p ps v)
  agree-pairs k c d h p no_pairs v = agree-give k _
  agree-pairs k c d h p (pair key e rest) v =
      agree-value k _ _ _ _ (agree-eval k c d h p key) (λ i. agree-value k _ _ _ _ (agree-eval k c d h p e) (λ w. agree-value k _ _ _ _ (agree-work k _) (λ u. agree-pairs k c d h p rest v)))

  agree-links : (k : ℕ) (c d : Calls) → AgreeCalls k c d → (p : Place) (ls : Links) (v : PlainValue) → Agrees k (eval_links c p ls v) (eval_links d p ls v)
  agree-links k c d h p no_links v = agree-give k _
  agree-links k c d h p (link op e rest) v =
      agree-value k _ _ _ _ (agree-eval k c d h p e) (λ w. agree-value k _ _ _ _ (agree-ask k _) (λ b. agree-if k b _ _ _ _ (agree-links k c d h p rest w) (agree-give k _)))

  agree-opt : (k : ℕ) (c d : Calls) → AgreeCalls k c d → (p : Place) (o : OptExpr) → Agrees k (eval_opt c p o) (eval_opt d p o)
  agree-opt k c d h p absent = agree-give k _
  agree-opt k c d h p (present e) = agree-value k _ _ _ _ (agree-eval k c d h p e) (λ v. agree-give k _)

  agree-fragments : (k : ℕ) (c d : Calls) → AgreeCalls k c d → (p : Place) (fs : Fragments) (x : Text) → Agrees k (eval_fragments c p fs x) (eval_fragments d p fs x)
  agree-fragments k c d h p no_fragments x = agree-give k _
  agree-fragments k c d h p (plain y rest) x = agree-value k _ _ _ _ (agree-give k _) (λ z. agree-fragments k c d h p rest z)
  agree-fragments k c d h p (format parts rest) x = agree-value k _ _ _ _ (agree-parts k c d h p parts x) (λ z. agree-fragments k c d h p rest z)

  agree-parts : (k : ℕ) (c d : Calls) → AgreeCalls k c d → (p : Place) (parts : Parts) (x : Text) → Agrees k (eval_parts c p parts x) (eval_parts d p parts x)
  agree-parts k c d h p no_parts x = agree-give k _
  agree-parts k c d h p (text y rest) x = agree-value k _ _ _ _ (agree-give k _) (λ z. agree-parts k c d h p rest z)
  agree-parts k c d h p (field e rest) x =
      agree-value k _ _ _ _ (agree-eval k c d h p e) (λ v. agree-value k _ _ _ _ (agree-ask k _) (λ y. agree-value k _ _ _ _ (agree-give k _) (λ z. agree-parts k c d h p rest z)))

-- ---- assignments

mutual
  unfolding assign_to assign_each

  pub agree-assign_to : (k : ℕ) (c d : Calls) → AgreeCalls k c d → (p : Place) (t : Expr) (v : PlainValue) → Agrees k (assign_to c p t v) (assign_to d p t v)
  agree-assign_to k c d h p (name x) v = agree-write k _ _ _ (agree-give k _)
  agree-assign_to k c d h p (index of at) v = agree-value k _ _ _ _ (agree-eval k c d h p of) (λ o. agree-value k _ _ _ _ (agree-eval k c d h p at) (λ i. agree-work k _))
  agree-assign_to k c d h p (paren t) v = agree-assign_to k c d h p t v
  agree-assign_to k c d h p (tuple ts comma) v = agree-value k _ _ _ _ (agree-ask k _) (λ vs. agree-assign_each k c d h p ts vs)
  agree-assign_to k c d h p (list ts comma) v = agree-value k _ _ _ _ (agree-ask k _) (λ vs. agree-assign_each k c d h p ts vs)
  agree-assign_to k c d h p _ v = agree-give k _

  agree-assign_each : (k : ℕ) (c d : Calls) → AgreeCalls k c d → (p : Place) (ts : Exprs) (vs : List PlainValue) → Agrees k (assign_each c p ts vs) (assign_each d p ts vs)
  agree-assign_each k c d h p no_exprs vs = agree-give k _
  agree-assign_each k c d h p (exprs t ts) [] = agree-give k _
  agree-assign_each k c d h p (exprs t ts) (v ∷ vs) = agree-value k _ _ _ _ (agree-assign_to k c d h p t v) (λ u. agree-assign_each k c d h p ts vs)

pub agree-assign_all : (k : ℕ) (c d : Calls) → AgreeCalls k c d → (p : Place) (ts : Exprs) (v : PlainValue) → Agrees k (assign_all c p ts v) (assign_all d p ts v)
unfolding assign_all
agree-assign_all k c d h p no_exprs v = agree-give k _
agree-assign_all k c d h p (exprs t ts) v = agree-value k _ _ _ _ (agree-assign_to k c d h p t v) (λ u. agree-assign_all k c d h p ts v)

pub agree-augment : (k : ℕ) (c d : Calls) → AgreeCalls k c d → (p : Place) (t : Expr) (op : BinOp) (e : Expr) → Agrees k (augment c p t op e) (augment d p t op e)
unfolding augment
agree-augment k c d h p (name x) op e =
    agree-value k _ _ _ _ (agree-ask k _) (λ v. agree-value k _ _ _ _ (agree-eval k c d h p e) (λ w. agree-value k _ _ _ _ (agree-work k _) (λ u. agree-write k _ _ _ (agree-give k _))))
agree-augment k c d h p (index of at) op e =
    agree-value k _ _ _ _ (agree-eval k c d h p of) (λ o. agree-value k _ _ _ _ (agree-eval k c d h p at) (λ i. agree-value k _ _ _ _ (agree-ask k _) (λ v.
    agree-value k _ _ _ _ (agree-eval k c d h p e) (λ w. agree-value k _ _ _ _ (agree-work k _) (λ u. agree-work k _)))))
agree-augment k c d h p _ op e = agree-give k _

-- ---- imports

agree-begin : (k : ℕ) (c d : Calls) → AgreeCalls k c d → (x : Text) (m : Option ℕ) → Agrees k (begin c x m) (begin d x m)
unfolding begin
agree-begin k c d h x None = agree-give k _
agree-begin k c d h x (Some m) = agree-read k _ _ (λ w. agree-if k _ _ _ _ _ (agree-give k _) (agree-value k _ _ _ _ (agree-enter k _ _ (h m 0 [])) (λ v. agree-give k _)))

pub agree-module_of : (k : ℕ) (c d : Calls) → AgreeCalls k c d → (ms : List LoadedModule) (x : Text) → Agrees k (module_of c ms x) (module_of d ms x)
unfolding module_of
agree-module_of k c d h ms x = agree-if k _ _ _ _ _ (agree-give k _) (agree-begin k c d h x _)

pub agree-import_each : (k : ℕ) (c d : Calls) → AgreeCalls k c d → (p : Place) (names : List Alias) → Agrees k (import_each c p names) (import_each d p names)
unfolding import_each
agree-import_each k c d h p [] = agree-give k _
agree-import_each k c d h p (a ∷ rest) = agree-value k _ _ _ _ (agree-module_of k c d h p.modules a.name) (λ v. agree-write k _ _ _ (agree-import_each k c d h p rest))

pub agree-take_each : (k : ℕ) (p : Place) (m : Text) (v : PlainValue) (names : List Alias) → Agrees k (take_each p m v names) (take_each p m v names)
unfolding take_each
agree-take_each k p m v [] = agree-give k _
agree-take_each k p m v (a ∷ rest) = agree-value k _ _ _ _ (agree-ask k _) (λ u. agree-write k _ _ _ (agree-take_each k p m v rest))
