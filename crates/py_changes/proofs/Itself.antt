-- Calls of some modules are followed by themselves, where nothing has to be known of functions. So
-- what is said of two versions of a text can be said of one.
use Rattle.std.proofs.Common.{ℕ, List, [], ◌∷◌, Option, Some, None, Ok, Err, refl}
use Rattle.py_value.specs.declared.value.FuncId.{FuncId}
use Rattle.py_value.specs.Plain.{PlainValue, none_value, bool_value, int_value, str_value, tuple_value, list_at, dict_at, func_value, module_value, kind_value, exc_value, builtin_value, PlainValues, no_values, value_then, PlainArgument, no_argument, argument, PlainHeap}
use Rattle.py_syntax.specs.Functions.{Function}
use Rattle.py_syntax.specs.Tree.{Text}
use Rattle.py_builtins.specs.World.{Names}
use Rattle.py_meaning.specs.Calls.{Calls, code_of}
use Rattle.py_meaning.specs.Computations.{Setting, Res, done, cut, M, Ans}
use Rattle.py_meaning.specs.Modules.{LoadedModule, function_found}
use Rattle.py_changes.proofs.Throughout.{ThroughItems, ThroughArgument, values_of_names, values_of_object}
use Rattle.py_changes.proofs.Kept.{Suits, Suit, SuitAll, GlobalsSuit, HeapSuits}
use Rattle.py_changes.proofs.Results.{ResultSuits}
use Rattle.py_changes.proofs.Growth.{Grows, EachGrows}
use Rattle.py_changes.proofs.Follows.{Kept, Held, Follows}
use Rattle.py_changes.proofs.Expressions.{SameParams, Related, Sides}

-- of every function
abbrev pub Free : FuncId → Type 0
Free f = Unit {0}

mutual
  value-free : (v : PlainValue) → Suit Free v
  value-free none_value = tt
  value-free (bool_value b) = tt
  value-free (int_value n) = tt
  value-free (str_value s) = tt
  value-free (tuple_value vs) = (tt, items-free vs)
  value-free (list_at a) = tt
  value-free (dict_at a) = tt
  value-free (func_value f a) = tt
  value-free (module_value m) = tt
  value-free (kind_value kind) = tt
  value-free (exc_value kind arg) = (tt, argument-free arg)
  value-free (builtin_value which) = tt

  items-free : (vs : PlainValues) → ThroughItems (Suits Free) vs
  items-free no_values = tt
  items-free (value_then v vs) = (value-free v, items-free vs)

  argument-free : (arg : PlainArgument) → ThroughArgument (Suits Free) arg
  argument-free no_argument = tt
  argument-free (argument v) = value-free v

all-free : (vs : List PlainValue) → SuitAll Free vs
all-free [] = tt
all-free (v ∷ vs) = (value-free v, all-free vs)

globals-free : (gs : List Names) → GlobalsSuit Free gs
globals-free [] = tt
globals-free (g ∷ gs) = (all-free (values_of_names g), globals-free gs)

heap-free : (os : PlainHeap) → HeapSuits Free os
heap-free [] = tt
heap-free (o ∷ os) = (all-free (values_of_object o), heap-free os)

kept-free : (w : Setting) → Kept Free w
kept-free w =
    ((globals-free w.world.globals, heap-free w.world.heap), all-free (values_of_names w.locals))

answer-free : (a : Ans PlainValue) → ResultSuits Free (Suit Free) a
answer-free (Ok v) = value-free v
answer-free (Err e) = argument-free e.arg

module _ (Safe : ℕ → ℕ → Type 0) where
  held-free : {A : Type 0} (m : ℕ) (Q : A → Type 0) → ((a : A) → Q a) → (r : Res A)
      → Held Safe Free m Q r r
  held-free m Q all (done a t k) = λ clean. (refl, kept-free t.now, all a)
  held-free m Q all (cut t) = tt

  -- an answer whose items grow
  follow-itself : {C : Type 0} (m : ℕ) (f : M (Ans PlainValue)) → Grows Safe m (Ans PlainValue) f
      → Follows Safe Free C m (ResultSuits Free (Suit Free)) f f
  unfolding Grows
  follow-itself m f grows = record {
    run = λ s n.
        (grows s n, λ c kept. held-free m (ResultSuits Free (Suit Free)) answer-free (f s n));
  }

  same-params : (o : Option Function) → SameParams o o
  same-params None = tt
  same-params (Some f) = refl

  pub related-itself : (ms : List LoadedModule) (c : Calls) → EachGrows Safe c
      → Related Safe Free ms ms c c
  related-itself ms c grow = record {
    found = λ f known. same-params (function_found ms (code_of f));
    calls = λ C m f vs known. follow-itself m (c f.module f.unit vs) (grow m f.module f.unit vs);
    bodies = λ C m k. follow-itself m (c k 0 []) (grow m k 0 []);
    numbers = λ x. refl;
  }

  -- a body of the module with this number
  abbrev pub one-side : (ms : List LoadedModule) (c : Calls) → EachGrows Safe c → (m : ℕ)
      → List Text → Sides Safe Free
  one-side ms c grow m xs = record {
    old = ms;
    new = ms;
    calls = c;
    others = c;
    related = related-itself ms c grow;
    number = m;
    names = xs;
    other_names = xs;
    same = λ x. refl;
  }
