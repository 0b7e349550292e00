-- Expressions, calls, assignments and imports of one text, among the old modules and among the new.
use Rattle.std.proofs.Common.{◌≡◌, ℕ, List, [], ◌∷◌, Option, Some, None, Ok, Err, refl, ap, subst, sym}
use Rattle.std.specs.Prelude.{if◌then◌else◌, nat_le, ◌&&◌, ◌+◌, ◌-◌, length, pos}
use Rattle.py_value.specs.declared.builtin.Builtin.{Builtin}
use Rattle.py_operator.specs.declared.operator.BinOp.{BinOp}
use Rattle.py_value.specs.declared.value.FuncId.{FuncId}
use Rattle.py_value.specs.Operators.{binary_of, in_place_of, index_of}
use Rattle.py_value.specs.Compared.{compared}
use Rattle.py_value.specs.Plain.{PlainValue, none_value, bool_value, int_value, str_value, tuple_value, list_at, dict_at, func_value, module_value, kind_value, exc_value, builtin_value, PlainHeap, PlainRaised}
use Rattle.py_syntax.specs.Functions.{Function}
use Rattle.py_syntax.specs.Names.{is_among, alias_name}
use Rattle.py_syntax.specs.Tree.{Text, Alias, Expr, name, int, str, fstr, none, bool, tuple, list, dict, paren, not', and, or, unary, binary, compare, cond as cond', call, index, slice, attr, Exprs, no_exprs, exprs, Pairs, no_pairs, pair, Links, no_links, link, OptExpr, absent, present, Fragments, no_fragments, plain, format, Parts, no_parts, text, field}
use Rattle.py_builtins.specs.Callees.{Callee, a_value, a_method, or_builtin}
use Rattle.py_builtins.specs.Attributes.{or_raise}
use Rattle.py_builtins.specs.Faults.{local_unset}
use Rattle.py_builtins.specs.Items.{unpacked}
use Rattle.py_builtins.specs.Making.{extended, new_dict, stored, sliced}
use Rattle.py_builtins.specs.Methods.{new_list, method_of}
use Rattle.py_builtins.specs.Parameters.{arguments, defaults_at}
use Rattle.py_builtins.specs.Texts.{str_text}
use Rattle.py_builtins.specs.World.{value_of, with_name, with_global, global_of}
use Rattle.py_meaning.specs.Asked.{asked}
use Rattle.py_meaning.specs.Assignments.{assign_to, assign_each, assign_all, augment, target_count}
use Rattle.py_meaning.specs.Calls.{Calls, enter, enter_with, use_builtin, call_function, call_value, call_of, code_of, callee_in}
use Rattle.py_meaning.specs.Computations.{Setting, Ans, M, give, write, ask, work}
use Rattle.py_meaning.specs.Expressions.{eval, eval_each, eval_pairs, eval_links, eval_opt, eval_fragments, eval_parts}
use Rattle.py_meaning.specs.Imports.{begin, module_of, import_each, taken_in, take_each}
use Rattle.py_meaning.specs.Literals.{signed, sign_operator}
use Rattle.py_meaning.specs.Modules.{LoadedModule, function_found, imported_number}
use Rattle.py_meaning.specs.Places.{Place, Scope, fetched, bound}
use Rattle.py_changes.proofs.Kept.{Suits, Suit, SuitAll, HeapSuits}
use Rattle.py_changes.proofs.Values.{either, all_append, all_drop}
use Rattle.py_changes.proofs.Objects.{list_suits}
use Rattle.py_changes.proofs.Results.{ResultSuits, makes_dict}
use Rattle.py_changes.proofs.Operators.{binary_suits, in_place_suits, index_suits}
use Rattle.py_changes.proofs.Methods.{new_list_suits, method_suits}
use Rattle.py_changes.proofs.Builtins.{text_plainly, extended_plainly, compared_plainly, exception_suits, tuple_made, builtin_suits, stored_suits, sliced_suits, unpacked_suit}
use Rattle.py_changes.proofs.Names.{name_suits, name_set, names_changed, or_raise_suits, predefined_suits, CalleeSuits, global_suits, attribute_suits, taken_suits, callee_suits}
use Rattle.py_changes.proofs.Follows.{Kept, Follows, follow-under, follow-give, follow-read, follow-write, follow-say, follow-value, follow-ask, follow-asked, follow-worked, follow-work, follow-if, follow-branch, Held}

-- nothing has to be known
abbrev pub Any : {A : Type 0} → A → Type 0
Any a = Unit {0}

-- two functions that are called alike, or none
abbrev pub SameParams : Option Function → Option Function → Type 0
SameParams None None = Unit {0}
SameParams (Some f) (Some g) = f.params ≡ g.params
SameParams None (Some g) = ⊥
SameParams (Some f) None = ⊥

module _ (K : FuncId → Type 0) where
  -- values that may be there
  abbrev MaybeAll : Option (List PlainValue) → Type 0
  MaybeAll None = Unit {0}
  MaybeAll (Some vs) = SuitAll K vs

  arguments_suit : (params : List Text) (ds vs : List PlainValue) → SuitAll K ds → SuitAll K vs
      → MaybeAll (arguments params ds vs)
  arguments_suit params ds vs i j =
      either MaybeAll (nat_le (length params) (length vs + length ds) && nat_le (length vs)
      (length params)) _ None
      (all_append (Suits K) vs _ j
      (all_drop (Suits K) (length vs + length ds - length params) ds i)) tt

  defaults_suit : (h : PlainHeap) (a : Option ℕ) → HeapSuits K h → SuitAll K (defaults_at h a)
  defaults_suit h None g = tt
  defaults_suit h (Some a) g = list_suits K h g a

module _ (Safe : ℕ → ℕ → Type 0) (K : FuncId → Type 0) where
  -- calls of the old modules that are followed by those of the new ones
  pub record Related (old new : List LoadedModule) (c d : Calls) : Type 1 where
    -- the functions of values
    pub found : (f : FuncId) → K f
        → SameParams (function_found old (code_of f)) (function_found new (code_of f))
    pub calls : (C : Type 0) (m : ℕ) (f : FuncId) (vs : List PlainValue) → (C → K f × SuitAll K vs)
        → Follows Safe K C m (ResultSuits K (Suit K)) (c f.module f.unit vs) (d f.module f.unit vs)
    -- the bodies of modules
    pub bodies : (C : Type 0) (m k : ℕ)
        → Follows Safe K C m (ResultSuits K (Suit K)) (c k 0 []) (d k 0 [])
    pub numbers : (x : Text) → imported_number old x ≡ imported_number new x

  -- The two sides of a run: the old modules and the new ones with their calls, and a body of the
  -- module with a number, which has the same local names on both sides.
  pub record Sides : Type 1 where
    pub old : List LoadedModule
    pub new : List LoadedModule
    pub calls : Calls
    pub others : Calls
    pub related : Related old new calls others
    pub number : ℕ
    pub names : List Text
    pub other_names : List Text
    pub same : (x : Text) → is_among names x ≡ is_among other_names x

module _ {Safe : ℕ → ℕ → Type 0} {K : FuncId → Type 0} where
  -- another new computation, which is the same as far as C holds
  pub follow-as : {A C : Type 0} {m : ℕ} {Q : A → Type 0} {f g : M A} (h : M A) → (C → g ≡ h)
      → Follows Safe K C m Q f g → Follows Safe K C m Q f h
  follow-as {m = m} {Q = Q} {f = f} h is r =
      record {
        run = λ s n. (
          (r.run s n).0,
          λ c kept. subst (λ x. Held Safe K m Q (f s n) (x s n)) (is c)
              ((r.run s n).1 c kept),
        );
      }

  pub follow-enter : {C : Type 0} {m : ℕ} {f g : M (Ans PlainValue)}
      → Follows Safe K C m (ResultSuits K (Suit K)) f g
      → Follows Safe K C m (ResultSuits K (Suit K)) (enter f) (enter g)
  unfolding enter
  follow-enter h =
      follow-read (λ w. follow-if _ (follow-under (λ c. c.0) h) (follow-give _ (λ c. tt)))

  follow-builtin : {C : Type 0} {m : ℕ} (which : Builtin) (vs : List PlainValue)
      → (C → SuitAll K vs) → Follows Safe K C m (ResultSuits K (Suit K)) (use_builtin which vs)
      (use_builtin which vs)
  unfolding use_builtin
  follow-builtin which vs h =
      follow-read
      (λ w. follow-say _
      (follow-write _ _ (λ v c kept. (refl, kept))
      (follow-worked _ (λ c. builtin_suits K w.world.heap c.1.0.1 which vs w.input (h c.0)))))

module _ {Safe : ℕ → ℕ → Type 0} {K : FuncId → Type 0} (sides : Sides Safe K) where
  follow-enter_with : {C : Type 0} {m : ℕ} (f : FuncId) (vs : Option (List PlainValue))
      → (C → K f × MaybeAll K vs)
      → Follows Safe K C m (ResultSuits K (Suit K)) (enter_with sides.calls f vs)
      (enter_with sides.others f vs)
  follow-enter_with f None h = follow-give _ (λ c. tt)
  follow-enter_with f (Some vs) h = follow-enter (sides.related.calls _ _ f vs h)

  follow-function : {C : Type 0} {m : ℕ} (o o' : Option Function) (f : FuncId) (a : Option ℕ)
      (vs : List PlainValue) (w : Setting)
      → (C → SameParams o o' × K f × SuitAll K vs × HeapSuits K w.world.heap)
      → Follows Safe K C m (ResultSuits K (Suit K)) (call_function sides.calls o f a vs w)
      (call_function sides.others o' f a vs w)
  follow-function None None f a vs w h = follow-give _ (λ c. tt)
  follow-function None (Some g) f a vs w h =
      follow-as _ (λ c. absurd (h c).0) (follow-give _ (λ c. tt))
  follow-function (Some g) None f a vs w h =
      follow-as _ (λ c. absurd (h c).0)
      (follow-enter_with f (arguments g.params (defaults_at w.world.heap a) vs)
      (λ c. let k = h c in (
        k.1,
        arguments_suit K g.params _ vs (defaults_suit K w.world.heap a k.3)
            k.2,
      )))
  follow-function (Some g) (Some g') f a vs w h =
      follow-as _
      (λ c. ap (λ xs. enter_with sides.others f (arguments xs (defaults_at w.world.heap a) vs))
      (h c).0)
      (follow-enter_with f (arguments g.params (defaults_at w.world.heap a) vs)
      (λ c. let k = h c in (
        k.1,
        arguments_suit K g.params _ vs (defaults_suit K w.world.heap a k.3)
            k.2,
      )))

  pub follow-call_value : {C : Type 0} {m : ℕ} (v : PlainValue) (vs : List PlainValue)
      → (C → Suit K v × SuitAll K vs)
      → Follows Safe K C m (ResultSuits K (Suit K)) (call_value sides.calls sides.old v vs)
      (call_value sides.others sides.new v vs)
  unfolding call_value
  follow-call_value none_value vs h = follow-give _ (λ c. tt)
  follow-call_value (bool_value b) vs h = follow-give _ (λ c. tt)
  follow-call_value (int_value n) vs h = follow-give _ (λ c. tt)
  follow-call_value (str_value s) vs h = follow-give _ (λ c. tt)
  follow-call_value (tuple_value items) vs h = follow-give _ (λ c. tt)
  follow-call_value (list_at a) vs h = follow-give _ (λ c. tt)
  follow-call_value (dict_at a) vs h = follow-give _ (λ c. tt)
  follow-call_value (func_value f a) vs h =
      follow-read (λ w. follow-function (function_found sides.old (code_of f))
      (function_found sides.new (code_of f)) f a vs w
      (λ c. let k = h c.0 in (sides.related.found f k.0, k.0, k.1, c.1.0.1)))
  follow-call_value (module_value k) vs h = follow-give _ (λ c. tt)
  follow-call_value (kind_value kind) vs h = follow-give _ (λ c. exception_suits K kind vs (h c).1)
  follow-call_value (exc_value kind arg) vs h = follow-give _ (λ c. tt)
  follow-call_value (builtin_value which) vs h = follow-builtin which vs (λ c. (h c).1)

  follow-call_of : {C : Type 0} {m : ℕ} (f : Callee) (vs : List PlainValue)
      → (C → CalleeSuits K f × SuitAll K vs)
      → Follows Safe K C m (ResultSuits K (Suit K)) (call_of sides.calls sides.old f vs)
      (call_of sides.others sides.new f vs)
  unfolding call_of
  follow-call_of (a_value v) vs h = follow-call_value v vs h
  follow-call_of (a_method k v) vs h =
      follow-work (method_of k v vs) (λ heap c g. method_suits K heap g k v vs (h c).0 (h c).1)

  -- ---- imports

  follow-begin : {C : Type 0} {m : ℕ} (x : Text) (o : Option ℕ)
      → Follows Safe K C m (ResultSuits K (Suit K)) (begin sides.calls x o) (begin sides.others x o)
  unfolding begin
  follow-begin x None = follow-give _ (λ c. tt)
  follow-begin x (Some k) =
      follow-read
      (λ w. follow-if _ (follow-give _ (λ c. tt))
      (follow-value (follow-enter (sides.related.bodies _ _ k)) (λ v. follow-give _ (λ c. tt))))

  pub follow-module_of : {C : Type 0} {m : ℕ} (x : Text)
      → Follows Safe K C m (ResultSuits K (Suit K)) (module_of sides.calls sides.old x)
      (module_of sides.others sides.new x)
  unfolding module_of
  follow-module_of x =
      follow-if _ (follow-give _ (λ c. tt))
      (follow-as _ (λ c. ap (λ o. begin sides.others x o) (sides.related.numbers x))
      (follow-begin x (imported_number sides.old x)))

  -- ---- names

  -- the scope of the body among the old modules
  abbrev pub old_scope : Scope
  old_scope = record { number = sides.number; own = sides.names }

  -- the scope of the body among the new modules
  abbrev pub new_scope : Scope
  new_scope = record { number = sides.number; own = sides.other_names }

  -- the place of the body among the old modules, in a clause that handles this exception
  abbrev pub old_place : Option PlainRaised → Place
  old_place h = record { modules = sides.old; scope = old_scope; handled = h }

  -- its place among the new modules
  abbrev pub new_place : Option PlainRaised → Place
  new_place h = record { modules = sides.new; scope = new_scope; handled = h }

  pub fetched_same : (x : Text) (w : Setting) → Kept K w
      → (fetched new_scope x w ≡ fetched old_scope x w)
      × ResultSuits K (Suit K) (fetched old_scope x w)
  fetched_same x w kept = (
    ap (λ b. if b then or_raise (local_unset x) (value_of x w.locals) else or_builtin x
        (global_of sides.number x w.world)) (sym (sides.same x)),
    either (ResultSuits K (Suit K)) (is_among sides.names x)
        (or_raise (local_unset x) (value_of x w.locals))
        (or_builtin x (global_of sides.number x w.world))
        (or_raise_suits K (local_unset x) (value_of x w.locals) tt (name_suits K x w.locals kept.1))
        (predefined_suits K x (global_of sides.number x w.world)
        (global_suits K w.world kept.0 sides.number x)),
  )

  pub bound_same : (x : Text) (v : PlainValue) (w : Setting) → Kept K w → Suit K v
      → (bound new_scope x v w ≡ bound old_scope x v w) × Kept K (bound old_scope x v w)
  bound_same x v w kept i = (
    ap (λ b. if b then record w { locals = with_name x v w.locals } else record w
        { world = with_global sides.number x v w.world }) (sym (sides.same x)),
    either (Kept K) (is_among sides.names x) (record w { locals = with_name x v w.locals })
        (record w { world = with_global sides.number x v w.world })
        (kept.0, name_set K x v w.locals i kept.1) (
          (
            names_changed K sides.number (with_name x v) w.world.globals
                (λ ns j. name_set K x v ns i j) kept.0.0,
            kept.0.1,
          ),
          kept.1,
        ),
  )

  follow-fetched : {C : Type 0} (x : Text)
      → Follows Safe K C sides.number (ResultSuits K (Suit K)) (ask (fetched old_scope x))
      (ask (fetched new_scope x))
  follow-fetched x = follow-ask (λ w c kept. fetched_same x w kept)

  pub follow-bound : {A C : Type 0} {Q : A → Type 0} {f g : M A} (x : Text) (v : PlainValue)
      → (C → Suit K v) → Follows Safe K C sides.number Q f g
      → Follows Safe K C sides.number Q (write (bound old_scope x v) f)
      (write (bound new_scope x v) g)
  follow-bound x v h fg = follow-write _ _ (λ w c kept. bound_same x v w kept (h c)) fg

  stored_held : (a : Ans (Unit {0} × PlainHeap)) → ResultSuits K (λ p. HeapSuits K p.1) a
      → ResultSuits K (λ p. Any p.0 × HeapSuits K p.1) a
  stored_held (Ok p) h = (tt, h)
  stored_held (Err e) h = h

  follow-stored : {C : Type 0} (o i v : PlainValue) → (C → Suit K o × Suit K i × Suit K v)
      → Follows Safe K C sides.number (ResultSuits K Any) (work (stored o i v))
      (work (stored o i v))
  follow-stored o i v h =
      follow-work (stored o i v)
      (λ heap c g. let k = h c in stored_held (stored o i v heap)
      (stored_suits K heap g o i v k.0 k.1 k.2))

  follow-extended : {C : Type 0} (x y : Text)
      → Follows Safe K C sides.number (ResultSuits K Any) (give (extended x y))
      (give (extended x y))
  follow-extended x y = follow-give (extended x y) (λ c. extended_plainly K x y)

  mutual
    unfolding eval eval_each eval_pairs eval_links eval_opt eval_fragments eval_parts

    pub follow-eval : (h : Option PlainRaised) (e : Expr) {C : Type 0}
        → Follows Safe K C sides.number (ResultSuits K (Suit K)) (eval sides.calls (old_place h) e)
        (eval sides.others (new_place h) e)
    follow-eval h (name x) = follow-fetched x
    follow-eval h (int n) = follow-give _ (λ c. tt)
    follow-eval h (str pieces) = follow-give _ (λ c. tt)
    follow-eval h (fstr pieces) =
        follow-value (follow-fragments h pieces []) (λ x. follow-give _ (λ c. tt))
    follow-eval h none = follow-give _ (λ c. tt)
    follow-eval h (bool b) = follow-give _ (λ c. tt)
    follow-eval h (tuple es comma) =
        follow-value (follow-each h es) (λ vs. follow-give _ (λ c. tuple_made K vs c.1))
    follow-eval h (list es comma) =
        follow-value (follow-each h es)
        (λ vs. follow-work (new_list vs) (λ heap c g. new_list_suits K heap g vs c.1))
    follow-eval h (dict ps comma) =
        follow-value (follow-work {Q = Suit K} new_dict (λ heap c g. makes_dict K heap g))
        (λ v. follow-pairs h ps v (λ c. c.1))
    follow-eval h (paren e) = follow-eval h e
    follow-eval h (not' e) =
        follow-value (follow-eval h e)
        (λ v. follow-branch v (follow-give _ (λ c. tt)) (follow-give _ (λ c. tt)))
    follow-eval h (and a b) =
        follow-value (follow-eval h a)
        (λ v. follow-branch v (follow-eval h b) (follow-give _ (λ c. c.1)))
    follow-eval h (or a b) =
        follow-value (follow-eval h a)
        (λ v. follow-branch v (follow-give _ (λ c. c.1)) (follow-eval h b))
    follow-eval h (unary s e) =
        follow-value (follow-eval h e)
        (λ v. follow-work (signed s v)
        (λ heap c g. binary_suits K heap g (sign_operator s) (int_value (pos 0)) v tt c.1))
    follow-eval h (binary op a b) =
        follow-value (follow-eval h a)
        (λ v. follow-value (follow-eval h b)
        (λ w. follow-work (binary_of op v w) (λ heap c g. binary_suits K heap g op v w c.0.1 c.1)))
    follow-eval h (compare a ls) =
        follow-value (follow-eval h a) (λ v. follow-links h ls v (λ c. c.1))
    follow-eval h (cond' b t o) =
        follow-value (follow-eval h t) (λ v. follow-branch v (follow-eval h b) (follow-eval h o))
    follow-eval h (call (attr e x) es comma) =
        follow-value (follow-eval h e)
        (λ v. follow-value
        (follow-asked {Q = CalleeSuits K} (callee_in v x)
        (λ w c kept. callee_suits K w.world kept.0 v x c.1)) (λ f.
        follow-value (follow-each h es) (λ vs. follow-call_of f vs (λ c. (c.0.1, c.1)))))
    follow-eval h (call e es comma) =
        follow-value (follow-eval h e)
        (λ f. follow-value (follow-each h es)
        (λ vs. follow-call_of (a_value f) vs (λ c. (c.0.1, c.1))))
    follow-eval h (index of at) =
        follow-value (follow-eval h of)
        (λ v. follow-value (follow-eval h at)
        (λ i. follow-asked _ (λ w c kept. index_suits K w.world.heap kept.0.1 v i c.0.1 c.1)))
    follow-eval h (slice of f t) =
        follow-value (follow-eval h of)
        (λ v. follow-value (follow-opt h f)
        (λ a. follow-value (follow-opt h t)
        (λ b. follow-work (sliced v a b) (λ heap c g. sliced_suits K heap g v a b c.0.0.1))))
    follow-eval h (attr e x) =
        follow-value (follow-eval h e)
        (λ v. follow-asked _ (λ w c kept. attribute_suits K w.world kept.0 v x))

    pub follow-each : (h : Option PlainRaised) (es : Exprs) {C : Type 0}
        → Follows Safe K C sides.number (ResultSuits K (SuitAll K))
        (eval_each sides.calls (old_place h) es) (eval_each sides.others (new_place h) es)
    follow-each h no_exprs = follow-give _ (λ c. tt)
    follow-each h (exprs e es) =
        follow-value (follow-eval h e)
        (λ v. follow-value (follow-each h es) (λ vs. follow-give _ (λ c. (c.0.1, c.1))))

    follow-pairs : (h : Option PlainRaised) (ps : Pairs) (v : PlainValue) {C : Type 0}
        → (C → Suit K v) → Follows Safe K C sides.number (ResultSuits K (Suit K))
        (eval_pairs sides.calls (old_place h) ps v) (eval_pairs sides.others (new_place h) ps v)
    follow-pairs h no_pairs v k = follow-give _ k
    follow-pairs h (pair key e rest) v k =
        follow-value (follow-eval h key)
        (λ i. follow-value (follow-eval h e)
        (λ w. follow-value (follow-stored v i w (λ c. (k c.0.0, c.0.1, c.1)))
        (λ u. follow-pairs h rest v (λ c. k c.0.0.0))))

    follow-links : (h : Option PlainRaised) (ls : Links) (v : PlainValue) {C : Type 0}
        → (C → Suit K v) → Follows Safe K C sides.number (ResultSuits K (Suit K))
        (eval_links sides.calls (old_place h) ls v) (eval_links sides.others (new_place h) ls v)
    follow-links h no_links v k = follow-give _ (λ c. tt)
    follow-links h (link op e rest) v k =
        follow-value (follow-eval h e)
        (λ w. follow-value (follow-asked {Q = Any} (λ s. compared (asked op) v w s.world.heap)
        (λ s c kept. compared_plainly K (asked op) v w s.world.heap)) (λ b.
        follow-if b (follow-links h rest w (λ c. c.0.1)) (follow-give _ (λ c. tt))))

    follow-opt : (h : Option PlainRaised) (o : OptExpr) {C : Type 0}
        → Follows Safe K C sides.number (ResultSuits K Any) (eval_opt sides.calls (old_place h) o)
        (eval_opt sides.others (new_place h) o)
    follow-opt h absent = follow-give _ (λ c. tt)
    follow-opt h (present e) = follow-value (follow-eval h e) (λ v. follow-give _ (λ c. tt))

    follow-fragments : (h : Option PlainRaised) (fs : Fragments) (x : Text) {C : Type 0}
        → Follows Safe K C sides.number (ResultSuits K Any)
        (eval_fragments sides.calls (old_place h) fs x)
        (eval_fragments sides.others (new_place h) fs x)
    follow-fragments h no_fragments x = follow-give _ (λ c. tt)
    follow-fragments h (plain y rest) x =
        follow-value (follow-extended x y) (λ z. follow-fragments h rest z)
    follow-fragments h (format parts rest) x =
        follow-value (follow-parts h parts x) (λ z. follow-fragments h rest z)

    follow-parts : (h : Option PlainRaised) (ps : Parts) (x : Text) {C : Type 0}
        → Follows Safe K C sides.number (ResultSuits K Any)
        (eval_parts sides.calls (old_place h) ps x) (eval_parts sides.others (new_place h) ps x)
    follow-parts h no_parts x = follow-give _ (λ c. tt)
    follow-parts h (text y rest) x = follow-value (follow-extended x y) (λ z. follow-parts h rest z)
    follow-parts h (field e rest) x =
        follow-value (follow-eval h e)
        (λ v. follow-value
        (follow-asked {Q = Any} (λ w. str_text v w.world.heap)
        (λ w c kept. text_plainly K v w.world.heap)) (λ y.
        follow-value (follow-extended x y) (λ z. follow-parts h rest z)))

  -- ---- assignments

  mutual
    unfolding assign_to assign_each

    pub follow-assign_to : (h : Option PlainRaised) (t : Expr) (v : PlainValue) {C : Type 0}
        → (C → Suit K v) → Follows Safe K C sides.number (ResultSuits K Any)
        (assign_to sides.calls (old_place h) t v) (assign_to sides.others (new_place h) t v)
    follow-assign_to h (name x) v k = follow-bound x v k (follow-give _ (λ c. tt))
    follow-assign_to h (index of at) v k =
        follow-value (follow-eval h of)
        (λ o. follow-value (follow-eval h at)
        (λ i. follow-stored o i v (λ c. (c.0.1, c.1, k c.0.0))))
    follow-assign_to h (paren t) v k = follow-assign_to h t v k
    follow-assign_to h (tuple ts comma) v k =
        follow-value (follow-asked {Q = SuitAll K} (λ w. unpacked (target_count ts) v w.world.heap)
        (λ w c kept. unpacked_suit K w.world.heap kept.0.1 (target_count ts) v (k c)))
        (λ vs. follow-assign_each h ts vs (λ c. c.1))
    follow-assign_to h (list ts comma) v k =
        follow-value (follow-asked {Q = SuitAll K} (λ w. unpacked (target_count ts) v w.world.heap)
        (λ w c kept. unpacked_suit K w.world.heap kept.0.1 (target_count ts) v (k c)))
        (λ vs. follow-assign_each h ts vs (λ c. c.1))
    follow-assign_to h t v k = follow-give _ (λ c. tt)

    follow-assign_each : (h : Option PlainRaised) (ts : Exprs) (vs : List PlainValue) {C : Type 0}
        → (C → SuitAll K vs) → Follows Safe K C sides.number (ResultSuits K Any)
        (assign_each sides.calls (old_place h) ts vs) (assign_each sides.others (new_place h) ts vs)
    follow-assign_each h no_exprs vs k = follow-give _ (λ c. tt)
    follow-assign_each h (exprs t ts) [] k = follow-give _ (λ c. tt)
    follow-assign_each h (exprs t ts) (v ∷ vs) k =
        follow-value (follow-assign_to h t v (λ c. (k c).0))
        (λ u. follow-assign_each h ts vs (λ c. (k c.0).1))

  pub follow-assign_all : (h : Option PlainRaised) (ts : Exprs) (v : PlainValue) {C : Type 0}
      → (C → Suit K v) → Follows Safe K C sides.number (ResultSuits K Any)
      (assign_all sides.calls (old_place h) ts v) (assign_all sides.others (new_place h) ts v)
  unfolding assign_all
  follow-assign_all h no_exprs v k = follow-give _ (λ c. tt)
  follow-assign_all h (exprs t ts) v k =
      follow-value (follow-assign_to h t v k) (λ u. follow-assign_all h ts v (λ c. k c.0))

  pub follow-augment : {C : Type 0} (h : Option PlainRaised) (t : Expr) (op : BinOp) (e : Expr)
      → Follows Safe K C sides.number (ResultSuits K Any) (augment sides.calls (old_place h) t op e)
      (augment sides.others (new_place h) t op e)
  unfolding augment
  follow-augment h (name x) op e =
      follow-value (follow-fetched x)
      (λ v. follow-value (follow-eval h e)
      (λ w. follow-value
      (follow-work {Q = Suit K} (in_place_of op v w)
      (λ heap c g. in_place_suits K heap g op v w c.0.1 c.1)) (λ u.
      follow-bound x u (λ c. c.1) (follow-give _ (λ c. tt)))))
  follow-augment h (index of at) op e =
      follow-value (follow-eval h of) (λ o. follow-value (follow-eval h at) (λ i.
      follow-value
      (follow-asked {Q = Suit K} (λ s. index_of o i s.world.heap)
      (λ s c kept. index_suits K s.world.heap kept.0.1 o i c.0.1 c.1)) (λ v.
      follow-value (follow-eval h e)
      (λ w. follow-value
      (follow-work {Q = Suit K} (in_place_of op v w)
      (λ heap c g. in_place_suits K heap g op v w c.0.1 c.1)) (λ u.
      follow-stored o i u (λ c. (c.0.0.0.0.1, c.0.0.0.1, c.1)))))))
  follow-augment h t op e = follow-give _ (λ c. tt)

  -- ---- imports

  pub follow-import_each : (h : Option PlainRaised) (names : List Alias) {C : Type 0}
      → Follows Safe K C sides.number (ResultSuits K Any)
      (import_each sides.calls (old_place h) names) (import_each sides.others (new_place h) names)
  unfolding import_each
  follow-import_each h [] = follow-give _ (λ c. tt)
  follow-import_each h (a ∷ rest) =
      follow-value (follow-module_of a.name)
      (λ v. follow-bound (alias_name a) v (λ c. c.1) (follow-import_each h rest))

  pub follow-take_each : (h : Option PlainRaised) (k : Text) (v : PlainValue) (names : List Alias)
      {C : Type 0} → Follows Safe K C sides.number (ResultSuits K Any)
      (take_each (old_place h) k v names) (take_each (new_place h) k v names)
  unfolding take_each
  follow-take_each h k v [] = follow-give _ (λ c. tt)
  follow-take_each h k v (a ∷ rest) =
      follow-value
      (follow-asked {Q = Suit K} (taken_in k v a.name)
      (λ w c kept. taken_suits K w.world kept.0 k v a.name))
      (λ u. follow-bound (alias_name a) u (λ c. c.1) (follow-take_each h k v rest))
