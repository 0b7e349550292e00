-- Moves and runs keep what suits.
use Rattle.std.proofs.Common.{◌≡◌, ◌<◌, ℕ, zero, suc, List, [], length, Option, Some, None, refl, sym, subst, arith}
use Rattle.std.specs.Prelude.{slice_get, Result, Ok, Err}
use Rattle.std.proofs.lemmas.Option.{slice_get_within}
use Rattle.cov_event.specs.declared.event.CodeId.{CodeId}
use Rattle.py_value.specs.Plain.{PlainValue, PlainRaised}
use Rattle.py_code.specs.declared.instr.Instr.{Instr}
use Rattle.py_code.specs.Configurations.{Effects, Configuration, Ended, stuck, Next}
use Rattle.py_code.specs.Machine.{acts, move_in, move, machine, follows, Reach, at_once, in_frame, outermost, outer_call, ended_by}
use Rattle.py_code.specs.Run.{Goes, Ticks, Ends, go}
use Rattle.py_code.specs.Slots.{by_slots}
use Rattle.py_code.specs.Units.{Code, Module, units_of, unit_at, places_in}
use Rattle.py_code.specs.Valid.{HasNumbers, AreCodes}
use Rattle.py_code.proofs.Steps.{at_go}
use Rattle.py_world_laws.specs.Making.{made_with, AreMakers}
use Rattle.py_world_laws.specs.Suits.{Environment, Suit, SuitAll, WorldSuits}
use Rattle.py_world_laws.specs.Frames.{Slots, Ready, Suited, SuitsEnded, SuitedEnd}
use Rattle.py_world_laws.proofs.Results.{ResultSuits}
use Rattle.py_world_laws.proofs.Exceptions.{Keeps, ready_else}
use Rattle.py_world_laws.proofs.Calls.{valid_unit, first_free, entered_suits, fresh_suits, Reaches}
use Rattle.py_world_laws.proofs.Instructions.{some_at, keeps}

module _ (ms : List Module) (codes_are : AreCodes ms) (makers : AreMakers ms) where
  numbers : (code : CodeId) (u : Code) (p : ℕ) (i : Instr) → unit_at ms code ≡ Some u → slice_get u.instrs p ≡ Some i → HasNumbers u (length (units_of (slice_get ms code.module))) i
  numbers code u p i is at =
      let v = valid_unit ms codes_are code.module code.unit u is in
      let lt = slice_get_within u.instrs p i at in
      let long = v.1.long in
      let d = some_at v.0 p (omega arith) in
      (v.1.fits p d.0 i d.1 at).numbers

  module _ (c : Configuration Slots) (s : Suited ms c) where
    stops : (how : Ended) → SuitsEnded ms s.env how → Keeps ms (Ends (record { how = how; steps = c.steps; effects = c.effects }))
    stops how k = record { holds = record { env = s.env; world = s.world; how = k } }

    at_place : (u : Code) → unit_at ms c.top.code ≡ Some u → (o : Option Instr) → slice_get u.instrs c.top.place ≡ o → Ready ms s.env c.top.code (made_with o) c.top.operands → Keeps ms (acts (by_slots ms) ms u o c)
    at_place u is None at k = stops stuck tt
    at_place u is (Some i) at k =
        let inside = subst (λ o. c.top.place < length (places_in o)) (sym is) (slice_get_within u.instrs c.top.place i at) in
        keeps ms codes_are makers s.env u c is (s.world, s.locals, s.callers, inside) i c.top.operands (numbers c.top.code u c.top.place i is at) ((makers.units c.top.code u is).each c.top.place i at) k k

    in_unit : (o : Option Code) → unit_at ms c.top.code ≡ o → Ready ms s.env c.top.code (made_with (slice_get (places_in o) c.top.place)) c.top.operands → Keeps ms (move_in (by_slots ms) ms o c)
    in_unit None is k = stops stuck tt
    in_unit (Some u) is k = at_place u is (slice_get u.instrs c.top.place) refl k

    pub moves : Keeps ms (move (by_slots ms) ms c)
    moves = in_unit (unit_at ms c.top.code) refl s.operands

  moves_to : (c : Configuration Slots) (n : Next Slots) → move (by_slots ms) ms c ≡ n → Suited ms c → Keeps ms n
  moves_to c n is s = subst (Keeps ms) is (moves c s)

  -- a run from a configuration
  pub runs : (c : Configuration Slots) → Suited ms c → SuitedEnd ms (go (machine (by_slots ms) ms) c)
  runs c =
      at_go (machine (by_slots ms) ms) (λ d r. Suited ms d → SuitedEnd ms r) (λ d s. record { env = s.env; world = s.world; how = tt }) (λ d s. record { env = s.env; world = s.world; how = tt })
      (λ d r h s. (moves_to d (Ends r) h s).holds)
      (λ d f r h k s. k (moves_to d (Goes f) h s).holds)
      (λ d f r h k s. k (moves_to d (Ticks f) h s).holds)
      c

  pub follows_keep : (n : Next Slots) → Keeps ms n → SuitedEnd ms (follows (by_slots ms) ms n)
  follows_keep (Goes c) h = runs c h.holds
  follows_keep (Ticks c) h = runs c h.holds
  follows_keep (Ends r) h = h.holds

  module _ (e : Environment) where
    -- a frame that nothing waits for begins
    pub begins : (code : CodeId) (vs : List PlainValue) (n : ℕ) (w : Effects) → WorldSuits ms e w.world → SuitAll ms e vs → Keeps ms (outermost (by_slots ms) ms code vs n w)
    begins code vs zero w g k = record { holds = record { env = e; world = g; how = tt } }
    begins code vs (suc n) w g k = record {
      holds = record {
        env = e;
        world = entered_suits ms e code w g;
        operands = ready_else ms e code 0 [] (first_free ms codes_are code) tt;
        locals = fresh_suits ms e code vs k;
        callers = tt;
      };
    }

    ended : (f : Environment) (r : Result PlainValue PlainRaised) → ResultSuits ms f (Suit ms f) r → SuitsEnded ms f (ended_by (by_slots ms) ms r)
    ended f (Ok v) k = k
    ended f (Err raised) k = k

    pub outer : (r : Reach) (n : ℕ) (w : Effects) → WorldSuits ms e w.world → Reaches ms e r → Keeps ms (outer_call (by_slots ms) ms r n w)
    outer (at_once r x) n w g k = record { holds = record { env = k.env; world = k.world; how = ended k.env r k.answer } }
    outer (in_frame code vs) n w g k = begins code vs n w g k
