-- Instructions that make functions, and the lists of their defaults.
use Rattle.std.proofs.Common.{◌≡◌, ℕ, zero, suc, ◌<◌, ◌≤◌, List, [], ◌∷◌, length, map, take, drop, Option, Some, None, Bool, true, false, refl, sym, ◌∙◌, subst, arith}
use Rattle.std.specs.Prelude.{slice_get, nat_le, reverse, if◌then◌else◌, Result, Ok, Err}
use Rattle.std.proofs.lemmas.Bool.Decides.{nat_tests}
use Rattle.std.proofs.lemmas.List.{length-map, length-reverse, length-take-le}
use Rattle.py_value.specs.declared.cause.Cause.{Cause}
use Rattle.py_value.specs.declared.cause.Cause.TheVariants.{TooManyItems}
use Rattle.py_value.specs.declared.value.FuncId.{FuncId}
use Rattle.py_value.specs.Answers.{◌>>=◌, in_words}
use Rattle.py_value.specs.Causes.{raised_by}
use Rattle.py_value.specs.Heaps.{with_object}
use Rattle.py_value.specs.Plain.{PlainValue, list_at, func_value, list_object}
use Rattle.py_value.specs.Sequences.{most_items}
use Rattle.py_builtins.specs.Methods.{new_list}
use Rattle.py_builtins.specs.Parameters.{address_of}
use Rattle.py_code.specs.declared.instr.Instr.TheVariants.{List as MakeList, FunctionWith}
use Rattle.py_code.specs.Configurations.{Operand, of_value, Configuration, stuck}
use Rattle.py_code.specs.Machine.{with_operands, on_heap, heap_of, halted, makes, pushes, act}
use Rattle.py_code.specs.Operands.{value_in}
use Rattle.py_code.specs.Slots.{by_slots}
use Rattle.py_code.specs.Units.{Code, Module, units_of, unit_at}
use Rattle.py_world_laws.specs.Making.{defaults_in, IsHanded, AreMakers}
use Rattle.py_world_laws.specs.Suits.{Environment, AreDefaults, SuitsUnit, SuitAll}
use Rattle.py_world_laws.specs.Frames.{Slots, OperandsSuit, made_at, Ready, AreHanded}
use Rattle.py_world_laws.proofs.Values.{either}
use Rattle.py_world_laws.proofs.Heaps.{with_defaults, lists_defaults, widens_defaults, heap_defaults}
use Rattle.py_world_laws.proofs.Methods.{new_list_suits}
use Rattle.py_world_laws.proofs.Operands.{operands_drop, many_taken, wider_operands}
use Rattle.py_world_laws.proofs.Exceptions.{Keeps, Calm, halts, fling}
use Rattle.py_world_laws.proofs.Forms.{calm_wider, on_many, made, pushed}

-- ---- a function without defaults

no_defaults : (e : Environment) (n : ℕ) → n ≡ 0 → AreDefaults e n None
no_defaults e n h = subst (λ k. AreDefaults e k None) (sym h) tt

pub plain_function : (e : Environment) (o : Option Code) (u : Code) → o ≡ Some u → defaults_in o ≡ 0 → SuitsUnit e o None
plain_function e None u is h = absurd cc
plain_function e (Some v) u is h = no_defaults e v.defaults h

-- ---- a function with a list of them

some_defaults : (e : Environment) (n a : ℕ) → 0 < n → e.lists a ≡ Some n → AreDefaults e n (Some a)
some_defaults e zero a lt h = absurd (omega arith)
some_defaults e (suc n) a lt h = h

function_with : (e : Environment) (o : Option Code) (a : ℕ) → 0 < defaults_in o → e.lists a ≡ Some (defaults_in o) → SuitsUnit e o (Some a)
function_with e None a lt h = absurd (omega arith)
function_with e (Some u) a lt h = some_defaults e u.defaults a lt h

module _ (ms : List Module) (makers : AreMakers ms) (e : Environment) where
  pub makes_function : (u : Code) (k : ℕ) (xs : List Operand) (c : Configuration Slots) → made_at ms c.top.code (suc c.top.place) ≡ None → Calm ms e c → Ready ms e c.top.code (Some k) xs
      → Keeps ms (act (by_slots ms) ms u (FunctionWith k) xs c)
  makes_function u k [] c n g i = absurd i
  makes_function u k (x ∷ xs) c n g i =
      let f : FuncId = record { «module» = c.top.code.module; unit = k } in
      subst (λ y. Keeps ms (pushes (func_value f (address_of (value_in y))) xs c)) (sym i.0.1)
      (pushed ms makers e (func_value f (Some i.0.0)) xs c n g i.1 (function_with e (unit_at ms (record { «module» = c.top.code.module; unit = k })) i.0.0 i.0.3 i.0.2))

  -- ---- the list of defaults

  -- where it is made it is handed on
  module _ (k : ℕ) (ys : List Operand) (c : Configuration Slots) (next : made_at ms c.top.code (suc c.top.place) ≡ Some k) (g : Calm ms e c) (i : OperandsSuit ms e ys) (vs : List PlainValue) (j : SuitAll ms e vs)
      (lt : 0 < length vs) (same : length vs ≡ defaults_in (unit_at ms (record { «module» = c.top.code.module; unit = k }))) where
    handed : Keeps ms (pushes (list_at (length (heap_of c))) ys (on_heap (with_object (heap_of c) (list_object vs)) c))
    handed =
        let f = with_defaults ms e (heap_of c) g.0.heap (length vs) in
        let w = widens_defaults ms e (heap_of c) g.0.heap (length vs) in
        let calm = calm_wider ms e f (with_object (heap_of c) (list_object vs)) c w (heap_defaults ms e (heap_of c) g.0.heap vs j) g in
        record {
          holds = record {
            env = f;
            world = calm.0;
            operands = subst (λ o. Ready ms f c.top.code o (of_value (list_at (length (heap_of c))) ∷ ys)) (sym next)
                (subst (λ n. AreHanded ms f n (of_value (list_at (length (heap_of c))) ∷ ys)) same ((length (heap_of c), refl, lists_defaults ms e (heap_of c) g.0.heap (length vs), lt), wider_operands ms e f w ys i));
            locals = calm.1;
            callers = calm.2;
          };
        }

    abbrev AfterList : Result (List PlainValue) Cause → Type 0
    AfterList r = Keeps ms (makes (by_slots ms) ms (in_words raised_by (r >>= λ items. Ok (list_at (length (heap_of c)), with_object (heap_of c) (list_object items)))) ys c)

    list_handed : Keeps ms (makes (by_slots ms) ms (new_list vs (heap_of c)) ys c)
    list_handed = either AfterList (nat_le (length vs) most_items) (Ok vs) (Err TooManyItems) handed (fling ms makers e (raised_by TooManyItems) (with_operands ys c) g i tt)

  long_enough : (n : ℕ) (xs : List Operand) → n ≤ length xs → length (map value_in (reverse (take n xs))) ≡ n
  long_enough n xs le = length-map (reverse (take n xs)) value_in ∙ length-reverse (take n xs) ∙ length-take-le n xs le

  pub hands_list : (u : Code) (n k : ℕ) (xs : List Operand) (c : Configuration Slots) → made_at ms c.top.code (suc c.top.place) ≡ Some k → 0 < n → n ≡ defaults_in (unit_at ms (record { «module» = c.top.code.module; unit = k }))
      → Calm ms e c → OperandsSuit ms e xs → Keeps ms (act (by_slots ms) ms u (MakeList n) xs c)
  hands_list u n k xs c next lt same g i = by_case (nat_le n (length xs)) refl
    where
      by_case : (b : Bool) → nat_le n (length xs) ≡ b → Keeps ms (if b then makes (by_slots ms) ms (new_list (map value_in (reverse (take n xs))) (heap_of c)) (drop n xs) c else halted stuck c)
      by_case true q =
          let long : length (map value_in (reverse (take n xs))) ≡ n = long_enough n xs (grind (arith, nat_tests)) in
          list_handed k (drop n xs) c next g (operands_drop ms e n xs i) (map value_in (reverse (take n xs))) (many_taken ms e n xs i) (omega arith) (long ∙ same)
      by_case false q = halts ms makers e stuck c tt g

  -- the list is handed on, or is one as any other
  pub makes_list : (u : Code) (n : ℕ) (o : Option ℕ) (xs : List Operand) (c : Configuration Slots) → made_at ms c.top.code (suc c.top.place) ≡ o → IsHanded (units_of (slice_get ms c.top.code.module)) n o
      → Calm ms e c → OperandsSuit ms e xs → Keeps ms (act (by_slots ms) ms u (MakeList n) xs c)
  makes_list u n None xs c next h g i =
      on_many ms makers e n xs c (λ vs ys. makes (by_slots ms) ms (new_list vs (heap_of c)) ys c) g i (λ vs ys j l. made ms makers e (new_list vs (heap_of c)) ys c (new_list_suits ms e (heap_of c) g.0.heap vs j) next g l)
  makes_list u n (Some k) xs c next h g i = hands_list u n k xs c next h.0 h.1 g i
