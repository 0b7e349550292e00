-- Bodies in frames of their own (Python Language Reference, 4.1, "Structure of a program").
--     framed                  a body in a new frame
--     begun, not_begun        a module begins, and counts as not begun
--     in_unit                 what stands round the body of a unit
--     calls                   calls inside each other
use Rattle.std.specs.Prelude.{ℕ, zero, suc, true, false, List, [], None, Ok, Err}
use Rattle.cov_event.specs.declared.event.CodeId.{CodeId}
use Rattle.py_value.specs.Plain.{PlainValue, none_value}
use Rattle.py_syntax.specs.Functions.{Function, without_docstring}
use Rattle.py_syntax.specs.Names.{local_names}
use Rattle.py_syntax.specs.Tree.{Text}
use Rattle.py_builtins.specs.World.{Names, with_begun, without_begun, first_names}
use Rattle.py_meaning.specs.Activations.{activation, more, sub, no_items}
use Rattle.py_meaning.specs.Calls.{Calls}
use Rattle.py_meaning.specs.Computations.{Setting, State, Res, done, cut, Ans, M, give, chain, tick, write, stop}
use Rattle.py_meaning.specs.Modules.{LoadedModule, unit_of, name_of}
use Rattle.py_meaning.specs.Places.{Place}
use Rattle.py_meaning.specs.Statements.{Out, normal, breaks, continues, returns, raises, exec}
use Rattle.py_builtins.specs.Parameters.{parameters}

-- the local names in a new frame, and those of the caller again
abbrev pub in_frame : Names → Setting → Setting
in_frame names w = record w { locals = names; frames = suc w.frames }

-- the setting back in the caller
abbrev pub back_in : Setting → Setting → Setting
back_in caller w = record w { locals = caller.locals; frames = caller.frames }

-- what a body gives to its caller
abbrev pub answer_of : Out → Ans PlainValue
answer_of normal = Ok none_value
answer_of breaks = Ok none_value
answer_of continues = Ok none_value
answer_of (returns v) = Ok v
answer_of (raises e t) = Err e

-- What a body leaves to its caller: its answer, the caller's local names, and one item with all
-- that happened in it.
abbrev pub left_by : CodeId → State → Res Out → Res (Ans PlainValue)
left_by code s (done o t n) =
    done (answer_of o)
    (record {
      now = back_in s.now t.now;
      out = t.out;
      items = more s.items (sub (activation code t.items true));
    }) n
left_by code s (cut t) =
    cut (record {
      now = t.now;
      out = t.out;
      items = more s.items (sub (activation code t.items false));
    })

-- a body in a new frame with these local names
unfoldable pub framed : CodeId → Names → M Out → M (Ans PlainValue)
framed code names body s n =
    left_by code s (body (record { now = in_frame names s.now; out = s.out; items = no_items }) n)

-- the local names of a unit: unit 0 is the body of a module, which has none
abbrev pub own_names : ℕ → Function → List Text
own_names zero f = []
own_names (suc k) f = local_names f.params f.body

-- what stands round the body of a unit
abbrev pub place_of : List LoadedModule → CodeId → Place
place_of ms code = record {
  modules = ms;
  scope = record { number = code.module; own = own_names code.unit (unit_of ms code) };
  handled = None;
}

-- the body of a unit in its place
abbrev pub exec_unit : Calls → List LoadedModule → CodeId → M Out
exec_unit c ms code = exec c (place_of ms code) (without_docstring (unit_of ms code).body)

-- a module begins: its first names are set
abbrev pub begun : List LoadedModule → ℕ → Setting → Setting
begun ms m w = record w { world = with_begun m (first_names (name_of ms m)) w.world }

-- a module counts as not begun
abbrev pub not_begun : ℕ → Setting → Setting
not_begun m w = record w { world = without_begun m w.world }

-- a module whose body raised counts as not begun
abbrev pub ended : ℕ → Ans PlainValue → M (Ans PlainValue)
ended m (Ok v) = give (Ok v)
ended m (Err e) = write (not_begun m) (give (Err e))

-- what stands round the body of a unit: that of a module begins it, with no name set but its own
unfoldable pub in_unit : List LoadedModule → (m u : ℕ) → M (Ans PlainValue) → M (Ans PlainValue)
in_unit ms m zero body = write (begun ms m) (chain body (ended m))
in_unit ms m (suc k) body = body

-- What a call of a unit does, by what the calls inside it do. It takes a step, and what it begins
-- it begins after that.
abbrev pub unit_call : Calls → List LoadedModule → Calls
unit_call c ms m u vs =
    let code : CodeId = record { «module» = m; unit = u } in
    tick (in_unit ms m u
    (framed code (parameters (unit_of ms code).params vs) (exec_unit c ms code)))

-- calls of which at most the given number stand inside each other
unfoldable pub calls : List LoadedModule → ℕ → Calls
calls ms zero m u vs = stop
calls ms (suc k) m u vs = unit_call (calls ms k) ms m u vs
