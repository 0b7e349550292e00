-- What the code of imports does is what they mean.
use Rattle.std.proofs.Common.{◌≡◌, ℕ, suc, ◌+◌, ◌<◌, List, [], ◌∷◌, length, Option, Some, None, Bool, true, false, refl, sym, ap, ◌∙◌, subst, arith}
use Rattle.std.specs.Prelude.{slice_get, if◌then◌else◌, Ok, codes}
use Rattle.cov_event.specs.declared.event.CodeId.{CodeId}
use Rattle.py_value.specs.declared.value.ModId.TheVariants.{Loaded, Sys}
use Rattle.py_text.specs.Comparison.{is_same_text}
use Rattle.py_value.specs.Plain.{PlainValue, none_value, module_value, PlainRaised}
use Rattle.py_syntax.specs.Functions.{Function}
use Rattle.py_syntax.specs.Names.{alias_name}
use Rattle.py_syntax.specs.Tree.{Text, Alias, import, from}
use Rattle.py_builtins.specs.Callees.{taken}
use Rattle.py_builtins.specs.Faults.{no_module}
use Rattle.py_builtins.specs.World.{Names, is_begun}
use Rattle.py_meaning.specs.Calls.{Calls, enter}
use Rattle.py_meaning.specs.Computations.{Setting, State, M, Ans, put, give, read, write, value}
use Rattle.py_meaning.specs.Expressions.{gives}
use Rattle.py_meaning.specs.Imports.{loaded_module, begin, module_of, import_each, taken_in, take_each}
use Rattle.py_meaning.specs.Modules.{LoadedModule, function_in, function_found, number_from, imported_number}
use Rattle.py_meaning.specs.Places.{Place, bound}
use Rattle.py_meaning.specs.Statements.{normal, exec_kind}
use Rattle.py_meaning.proofs.Steady.{steady-value}
use Rattle.py_meaning.proofs.SteadyExpressions.{steady-enter, steady-module_of, steady-import_each, steady-take_each}
use Rattle.py_code.specs.declared.instr.Instr.{Instr}
use Rattle.py_code.specs.declared.instr.Instr.TheVariants.{Pop, Import, Module as LoadModule, Take}
use Rattle.py_code.specs.Configurations.{Operand, of_value, Locals, Configuration}
use Rattle.py_code.specs.Machine.{act, answers, pushes, enter as entering, runs_module, imports as importing, imported, module_of as module_found, where_found}
use Rattle.py_code.specs.Slots.{by_names}
use Rattle.py_code.specs.Units.{Code, Module, unit_at, imported_number as numbered}
use Rattle.py_compile_expr.specs.Cells.{imports, module_named, plain, Guard, cell, name_at}
use Rattle.py_compile_expr.specs.Runs.{Spot, conf, from as going, after, on_top, Fits, IsLike, Matches, part_of, CallsRun}
use Rattle.py_compile_expr.specs.Stands.{tables_in, StandsAt, HasAt}
use Rattle.py_compile_expr.proofs.InstructionRuns.{ends_at, unchanged, then_asks, frame_runs}
use Rattle.py_compile_expr.proofs.Simulation.{fits_less, fits_more, Any, holds_any, at_most, thrown_over, runs_on, threw, asks}
use Rattle.py_compile.specs.StatementRuns.{NamesMatch}
use Rattle.py_compile.specs.Statements.{import_size, import_code, take_size, take_code}
use Rattle.py_compile.proofs.Flow.{led_on}
use Rattle.py_compile.proofs.Forms.{KindRuns, marked_uses}
use Rattle.py_compile.proofs.TargetRuns.{gone, store_runs}

-- ---- a module that is found is there

record FoundFrom (n : ℕ) (ms : List LoadedModule) (m : ℕ) : Type 0 where
  place : ℕ
  there : LoadedModule
  count : m ≡ place + n
  is : slice_get ms place ≡ Some there

found_from : (n : ℕ) (ms : List LoadedModule) (x : Text) (m : ℕ) → number_from n ms x ≡ Some m → FoundFrom n ms m
unfolding number_from
found_from n [] x m e = absurd cc
found_from n (y ∷ ms) x m e = by_case (is_same_text x y.name) e (found_from (suc n) ms x m)
  where
    by_case : (b : Bool) → (if b then Some n else number_from (suc n) ms x) ≡ Some m → (number_from (suc n) ms x ≡ Some m → FoundFrom (suc n) ms m) → FoundFrom n (y ∷ ms) m
    by_case true q next = let same : n ≡ m = cc in record { place = 0; there = y; count = omega arith; is = refl }
    by_case false q next = let r = next q in let count = r.count in record { place = suc r.place; there = r.there; count = omega arith; is = r.is }

module_there : (ms : List LoadedModule) (x : Text) (m : ℕ) → imported_number ms x ≡ Some m → (f : Function) × (function_found ms (record { «module» = m; unit = 0 }) ≡ Some f)
module_there [] x m e = absurd cc
module_there (y ∷ ms) x m e =
    let r = found_from 1 ms x m e in
    let count : m ≡ suc r.place = r.count ∙ omega arith in
    (_, ap (λ q. function_in (slice_get (y ∷ ms) q) 0) count ∙ ap (λ o. function_in o 0) r.is)

unit_there : (cs : List Module) (ms : List LoadedModule) → Matches cs ms → (f : CodeId) (g : Function) → function_found ms f ≡ Some g → (o : Option Code) → unit_at cs f ≡ o → (v : Code) × (unit_at cs f ≡ Some v)
unit_there cs ms matches f g e (Some v) is = (v, is)
unit_there cs ms matches f g e None is = absurd (subst (λ q. IsLike None q) e (subst (λ o. IsLike o (function_found ms f)) is (matches f)))

write_is : {A : Type 0} (b : Setting → Setting) (m : M A) (s : State) (n : ℕ) → write b m s n ≡ m (put b s) n
unfolding write
write_is b m s n = refl

module _ (cs : List Module) (ms : List LoadedModule) (matches : Matches cs ms) (c : Calls) (k : ℕ) (calls : CallsRun cs c k)
    (w : Spot) (u : Code) (is : unit_at cs w.code ≡ Some u) (handled : Option PlainRaised) (names : NamesMatch cs ms) where
  abbrev pl : Place
  pl = part_of ms u w.code handled

  abbrev N : Locals Names
  N = by_names cs

  -- the module of a name
  module_runs : (x : Text) (g : Option Guard) (p : ℕ) (st : List Operand) → StandsAt u p (cell g (imports x)) → StandsAt u (p + 1) (cell g (plain Pop)) → StandsAt u (p + 1 + 1) (cell g (module_named x)) → Fits g (p + 3) (length st) → (s : State) (n : ℕ) → n < k
      → going cs w p st s n ≡ after cs w on_top g (p + 1 + 1 + 1) st (module_of c ms x s n)
  unfolding module_of begin give read
  module_runs x g p st at pop named fits s n lt =
      by_name (is_same_text x (codes "sys")) (numbered cs x) refl refl
      ∙ ap (λ o. after cs w on_top g (p + 1 + 1 + 1) st ((if is_same_text x (codes "sys") then gives (module_value Sys) else begin c x o) s n)) (names x)
    where
      i : Instr
      i = Import (name_at (tables_in u) x)

      d : Configuration Names
      d = conf w p st s n

      act_is : act N cs u i st d ≡ importing N cs x d
      act_is = ap (λ o. where_found o d (λ y. importing N cs y d)) at.knows

      loaded : (y r : PlainValue) (t : State) (j : ℕ) → imported cs x ≡ Ok r → going cs w (p + 1) (of_value y ∷ st) t j ≡ going cs w (p + 1 + 1 + 1) (of_value r ∷ st) t j
      loaded y r t j e =
          led_on cs w u is (p + 1) Pop (of_value y ∷ st) st t t j pop.instr refl
          ∙ led_on cs w u is (p + 1 + 1) (LoadModule (name_at (tables_in u) x)) st (of_value r ∷ st) t t j named.instr
          (ap (λ o. where_found o (conf w (p + 1 + 1) st t j) (λ z. answers N cs (imported cs z) st (conf w (p + 1 + 1) st t j) (λ a. pushes a st (conf w (p + 1 + 1) st t j)))) named.knows
          ∙ ap (λ q. answers N cs q st (conf w (p + 1 + 1) st t j) (λ a. pushes a st (conf w (p + 1 + 1) st t j))) e)

      by_begun : (m : ℕ) → numbered cs x ≡ Some m → imported cs x ≡ Ok (module_value (Loaded m)) → (b : Bool)
          → act N cs u i st d ≡ (if b then pushes none_value st d else entering N cs (record { «module» = m; unit = 0 }) [] st d)
          → going cs w p st s n ≡ after cs w on_top g (p + 1 + 1 + 1) st ((if b then gives (loaded_module m) else value (enter (c m 0 [])) (λ v. gives (loaded_module m))) s n)
      by_begun m eo found true e = led_on cs w u is p i st (of_value none_value ∷ st) s s n at.instr e ∙ loaded none_value (module_value (Loaded m)) s n found
      by_begun m eo found false e =
          let there = module_there ms x m (sym (names x) ∙ eo) in
          let unit = unit_there cs ms matches (record { «module» = m; unit = 0 }) there.0 there.1 (unit_at cs (record { «module» = m; unit = 0 })) refl in
          runs_on cs w on_top on_top Any g (p + 1) (p + 1 + 1 + 1) st st (enter (c m 0 [])) (λ v. gives (loaded_module m)) (going cs w p st s n) s n
          (frame_runs cs ms matches c k calls w u is handled g p i st st at.instr at.guard (fits_less g (p + 3) (p + 1) (length st) (omega arith) fits) s n lt (record { «module» = m; unit = 0 }) unit.0 unit.1 [] e)
          (at_most (enter (c m 0 [])) (steady-enter (c m 0 []) (calls.steady m 0 [])) s n) (holds_any _) (unchanged cs ms matches c k calls w u is handled g st)
          (λ v t j le any. loaded v (module_value (Loaded m)) t j found)

      by_name : (b : Bool) (o : Option ℕ) → is_same_text x (codes "sys") ≡ b → numbered cs x ≡ o → going cs w p st s n ≡ after cs w on_top g (p + 1 + 1 + 1) st ((if b then gives (module_value Sys) else begin c x o) s n)
      by_name true o eb eo =
          led_on cs w u is p i st (of_value none_value ∷ st) s s n at.instr (act_is ∙ ap (λ q. if q then pushes none_value st d else runs_module N cs x (numbered cs x) d) eb)
          ∙ loaded none_value (module_value Sys) s n (ap (λ q. if q then Ok (module_value Sys) else module_found x (numbered cs x)) eb)
      by_name false None eb eo =
          threw cs w u is g p i st st (no_module x) s s n at.instr at.guard (fits_less g (p + 3) (p + 1) (length st) (omega arith) fits)
          (act_is ∙ (ap (λ q. if q then pushes none_value st d else runs_module N cs x (numbered cs x) d) eb ∙ ap (λ o. runs_module N cs x o d) eo))
      by_name false (Some m) eb eo =
          by_begun m eo (ap (λ q. if q then Ok (module_value Sys) else module_found x (numbered cs x)) eb ∙ ap (module_found x) eo) (is_begun m s.now.world)
          (act_is ∙ (ap (λ q. if q then pushes none_value st d else runs_module N cs x (numbered cs x) d) eb ∙ ap (λ o. runs_module N cs x o d) eo))

  imports_run : (xs : List Alias) (g : Option Guard) (p : ℕ) → HasAt u p (import_code g xs) → (st : List Operand) → Fits g (p + import_size xs) (length st) → (s : State) (n : ℕ) → n < k
      → going cs w p st s n ≡ after cs w gone g (p + import_size xs) st (import_each c pl xs s n)
  unfolding import_each give
  imports_run [] g p has st fits s n lt = ap (λ m. going cs w m st s n) (omega arith)
  imports_run (a ∷ rest) g p has st fits s n lt =
      let q = p + 1 + 1 + 1 in
      let end = p + (4 + import_size rest) in
      let last = q + 1 + import_size rest in
      runs_on cs w on_top gone Any g q end st st (module_of c ms a.name) _ (going cs w p st s n) s n
      (module_runs a.name g p st has.0 has.1.0 has.1.1.0 (fits_less g end (p + 3) (length st) (omega arith) fits) s n lt) (at_most _ (steady-module_of c calls.steady ms a.name) s n) (holds_any _) (unchanged cs ms matches c k calls w u is handled g st)
      (λ v t j le any. store_runs cs ms matches c k calls w u is handled (alias_name a) v g q st t j has.1.1.1.0
      ∙ (ends_at cs ms matches c k calls w u is handled gone g last end st (import_each c pl rest (put (bound pl.scope (alias_name a) v) t) j) _ (omega arith)
      (imports_run rest g (q + 1) has.1.1.1.1 st (fits_less g end last (length st) (omega arith) fits) (put (bound pl.scope (alias_name a) v) t) j (omega arith))
      ∙ ap (after cs w gone g end st) (sym (write_is (bound pl.scope (alias_name a) v) (import_each c pl rest) t j))))

  -- names of a module, which stands on top
  takes_run : (xs : List Alias) (m : Text) (v : PlainValue) (g : Option Guard) (p : ℕ) → HasAt u p (take_code g m xs) → (st : List Operand) → Fits g (p + take_size xs) (length st) → (s : State) (n : ℕ) → n < k
      → going cs w p (of_value v ∷ st) s n ≡ after cs w gone g (p + take_size xs) st (take_each pl m v xs s n)
  unfolding take_each give
  takes_run [] m v g p has st fits s n lt = led_on cs w u is p Pop (of_value v ∷ st) st s s n has.0.instr refl
  takes_run (a ∷ rest) m v g p has st fits s n lt =
      let end = p + (2 + take_size rest) in
      let last = p + 1 + 1 + take_size rest in
      let base : List Operand = of_value v ∷ st in
      let d = conf w p base s n in
      let t = tables_in u in
      then_asks cs ms matches c k calls w u is handled on_top gone g (p + 1) end base st (taken_in m v a.name) _ (going cs w p base s n) s n
      (asks cs w u is on_top g p (Take (name_at t m) (name_at t a.name)) base base (taken_in m v a.name) s n has.0.instr has.0.guard (fits_more g (p + 1) (length st) (suc (length st)) (omega arith) (fits_less g end (p + 1) (length st) (omega arith) fits))
      (ap (λ o. where_found o d (λ x. where_found (slice_get u.names (name_at t a.name)) d (λ y. answers N cs (taken x v y s.now.world) base d (λ z. pushes z base d)))) has.0.knows.0
      ∙ ap (λ o. where_found o d (λ y. answers N cs (taken m v y s.now.world) base d (λ z. pushes z base d))) has.0.knows.1))
      (thrown_over cs w g end (of_value v) st fits)
      (λ x t2 j le. store_runs cs ms matches c k calls w u is handled (alias_name a) x g (p + 1) base t2 j has.1.0
      ∙ (ends_at cs ms matches c k calls w u is handled gone g last end st (take_each pl m v rest (put (bound pl.scope (alias_name a) x) t2) j) _ (omega arith)
      (takes_run rest m v g (p + 1 + 1) has.1.1 st (fits_less g end last (length st) (omega arith) fits) (put (bound pl.scope (alias_name a) x) t2) j (omega arith))
      ∙ ap (after cs w gone g end st) (sym (write_is (bound pl.scope (alias_name a) x) (take_each pl m v rest) t2 j))))

  pub import_runs : (xs : List Alias) → KindRuns cs ms c k w u handled (import xs)
  unfolding exec_kind give
  import_runs xs l v p has st f s n lt =
      let end = p + (1 + import_size xs) in
      let last = p + 1 + import_size xs in
      marked_uses cs w u is l gone v p end end st (import_each c pl xs) (λ a. give normal) s n has.0 (steady-import_each c calls.steady pl xs)
      (λ t j less. ends_at cs ms matches c k calls w u is handled gone v.guard last end st (import_each c pl xs t j) _ (omega arith) (imports_run xs v.guard (p + 1) has.1 st (fits_less v.guard end last (length st) (omega arith) f.guard) t j (omega arith)))
      (λ a t j less. refl)

  pub from_runs : (m : Text) (xs : List Alias) → KindRuns cs ms c k w u handled (from m xs)
  unfolding exec_kind give
  from_runs m xs l v p has st f s n lt =
      let q = p + 1 + 1 + 1 + 1 in
      let end = p + (4 + take_size xs) in
      let last = q + take_size xs in
      let whole : M (Ans (Unit {0})) = value (module_of c ms m) (λ x. take_each pl m x xs) in
      marked_uses cs w u is l gone v p end end st whole (λ a. give normal) s n has.0
      (steady-value _ _ (steady-module_of c calls.steady ms m) (λ x. steady-take_each pl m x xs))
      (λ t j less. runs_on cs w on_top gone Any v.guard q end st st (module_of c ms m) _ (going cs w (p + 1) st t j) t j
      (module_runs m v.guard (p + 1) st has.1.0 has.1.1.0 has.1.1.1.0 (fits_less v.guard end (p + 1 + 3) (length st) (omega arith) f.guard) t j (omega arith)) (at_most _ (steady-module_of c calls.steady ms m) t j) (holds_any _) (unchanged cs ms matches c k calls w u is handled v.guard st)
      (λ x t2 j2 le any. ends_at cs ms matches c k calls w u is handled gone v.guard last end st (take_each pl m x xs t2 j2) _ (omega arith)
      (takes_run xs m x v.guard q has.1.1.1.1 st (fits_less v.guard end last (length st) (omega arith) f.guard) t2 j2 (omega arith))))
      (λ a t j less. refl)
