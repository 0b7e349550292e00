-- Moves that lead to configurations that suit, and exceptions on their way.
use Rattle.std.proofs.Common.{◌≡◌, ℕ, zero, suc, ◌-◌, ◌<◌, List, [], ◌∷◌, length, drop, Option, Some, None, Bool, true, refl, sym, subst}
use Rattle.std.specs.Prelude.{slice_get, Result, Ok, Err}
use Rattle.cov_event.specs.declared.event.CodeId.{CodeId}
use Rattle.cov_event.specs.declared.event.Event.TheVariants.{Throw}
use Rattle.py_value.specs.Plain.{PlainValue, PlainRaised}
use Rattle.py_builtins.specs.World.{World}
use Rattle.py_code.specs.declared.unit.Handler.{Handler}
use Rattle.py_code.specs.Configurations.{Operand, of_value, of_way, by_raise, Frame, Effects, Configuration, Ended, Next}
use Rattle.py_code.specs.Machine.{told, escaped, failed_by, with_operands, halted, jumps, land, leave, escapes, throw, answers, give}
use Rattle.py_code.specs.Run.{Goes, Ticks, Ends}
use Rattle.py_code.specs.Slots.{by_slots}
use Rattle.py_code.specs.Units.{Code, Module, unit_at, places_in, places_of, handlers_in, handler_of, handler_at}
use Rattle.py_world_laws.specs.Making.{made_with, AreMakers}
use Rattle.py_world_laws.specs.Suits.{Environment, Suit, SuitsRaised, WorldSuits}
use Rattle.py_world_laws.specs.Frames.{Slots, OperandsSuit, SlotsSuit, made_at, Ready, AllWait, Suited, SuitsEnded, SuitedEnd}
use Rattle.py_world_laws.proofs.Operands.{operands_drop}
use Rattle.py_world_laws.proofs.Results.{ResultSuits}

abbrev KeepsTo : List Module → Next Slots → Type 0
KeepsTo ms (Goes c) = Suited ms c
KeepsTo ms (Ticks c) = Suited ms c
KeepsTo ms (Ends r) = SuitedEnd ms r

-- where a move leads, all suits
pub record Keeps (ms : List Module) (n : Next Slots) : Type 0 where
  pub holds : KeepsTo ms n

-- a configuration at one of its places, but for its operands
abbrev pub Calm : List Module → Environment → Configuration Slots → Type 0
Calm ms e c = WorldSuits ms e c.effects.world × SlotsSuit ms e c.top.locals × AllWait ms e c.callers × (c.top.place < length (places_of ms c.top.code))

pub ready_else : (ms : List Module) (e : Environment) (code : CodeId) (p : ℕ) (xs : List Operand) → made_at ms code p ≡ None → OperandsSuit ms e xs → Ready ms e code (made_at ms code p) xs
ready_else ms e code p xs h k = subst (λ o. Ready ms e code o xs) (sym h) k

-- ---- the target of a handler

abbrev pub OfHandler : (Handler → Type 0) → Option Handler → Type 0
OfHandler P None = Unit {0}
OfHandler P (Some h) = P h

of_found : (P : Handler → Type 0) (o : Option Handler) → ((h : Handler) → o ≡ Some h → P h) → OfHandler P o
of_found P None k = tt
of_found P (Some h) k = k h refl

module _ (ms : List Module) (makers : AreMakers ms) where
  safe_in : (code : CodeId) (p : ℕ) (o : Option Code) → unit_at ms code ≡ o → p < length (places_in o) → OfHandler (λ h. made_with (slice_get (places_in o) h.target) ≡ None) (handler_of p (handlers_in o))
  safe_in code p None is lt = tt
  safe_in code p (Some u) is lt = of_found (λ h. made_with (slice_get u.instrs h.target) ≡ None) (handler_of p u.handlers) (λ h e. (makers.units code u is).handlers p h lt e)

  pub safe : (code : CodeId) (p : ℕ) → p < length (places_of ms code) → OfHandler (λ h. made_at ms code h.target ≡ None) (handler_at ms code p)
  safe code p lt = safe_in code p (unit_at ms code) refl lt

  module _ (e : Environment) where
    failed_suits : (code : CodeId) (k : ℕ) (w : World) → WorldSuits ms e w → WorldSuits ms e (failed_by code k w)
    failed_suits code zero w g = record { globals = g.globals; heap = g.heap; words = g.words }
    failed_suits code (suc k) w g = g

    pub goes_to : (to : ℕ) (xs : List Operand) (c : Configuration Slots) → made_at ms c.top.code to ≡ None → Calm ms e c → OperandsSuit ms e xs → Keeps ms (jumps to xs c)
    goes_to to xs c h g k = record { holds = record { env = e; world = g.0; operands = ready_else ms e c.top.code to xs h k; locals = g.1; callers = g.2 } }

    pub halts : (how : Ended) (c : Configuration Slots) → SuitsEnded ms e how → Calm ms e c → Keeps ms (halted how c)
    halts how c k g = record { holds = record { env = e; world = g.0; how = k } }

    lands : (o : Option Handler) (out : Next Slots) (raised : PlainRaised) (t : Bool) (c : Configuration Slots) → OfHandler (λ h. made_at ms c.top.code h.target ≡ None) o
        → Keeps ms out → Calm ms e c → OperandsSuit ms e c.top.operands → SuitsRaised ms e raised → Keeps ms (land (by_slots ms) ms o out raised t c)
    lands None out raised t c s h g k r = h
    lands (Some l) out raised t c s h g k r =
        goes_to l.target (of_way (by_raise raised t) ∷ drop (length c.top.operands - l.depth) c.top.operands) c s g (r, operands_drop ms e (length c.top.operands - l.depth) c.top.operands k)

    pub leaves : (raised : PlainRaised) (code : CodeId) (fs : List (Frame Slots)) (n : ℕ) (w : Effects) → WorldSuits ms e w.world → AllWait ms e fs → SuitsRaised ms e raised → Keeps ms (leave (by_slots ms) ms raised code fs n w)
    leaves raised code [] n w g all r = record { holds = record { env = e; world = failed_suits code code.unit w.world g; how = r } }
    leaves raised code (f ∷ fs) n w g all r =
        let after = failed_suits code code.unit w.world g in
        lands (handler_at ms f.code f.place) _ raised true _ (safe f.code f.place all.0.inside) (leaves raised f.code fs n (told (Throw raised.kind) (escaped code w)) after all.1 r) (after, all.0.locals, all.1, all.0.inside) all.0.operands r

    pub escape : (raised : PlainRaised) (t : Bool) (c : Configuration Slots) → Calm ms e c → OperandsSuit ms e c.top.operands → SuitsRaised ms e raised → Keeps ms (escapes (by_slots ms) ms raised t c)
    escape raised t c g k r =
        lands (handler_at ms c.top.code c.top.place) _ raised t c (safe c.top.code c.top.place g.3) (leaves raised c.top.code c.callers c.steps c.effects g.0 g.2 r) g k r

    pub fling : (raised : PlainRaised) (c : Configuration Slots) → Calm ms e c → OperandsSuit ms e c.top.operands → SuitsRaised ms e raised → Keeps ms (throw (by_slots ms) ms raised c)
    fling raised c g k r = escape raised true (record c { effects = told (Throw raised.kind) c.effects }) g k r

    pub ans : {A : Type 0} (Q : A → Type 0) (r : Result A PlainRaised) (xs : List Operand) (c : Configuration Slots) (k : A → Next Slots) → ResultSuits ms e Q r
        → Calm ms e c → OperandsSuit ms e xs → ((a : A) → Q a → Keeps ms (k a)) → Keeps ms (answers (by_slots ms) ms r xs c k)
    ans Q (Ok a) xs c k i g h l = l a i
    ans Q (Err raised) xs c k i g h l = fling raised (with_operands xs c) g h i

    pub gives : (v : PlainValue) (fs : List (Frame Slots)) (n : ℕ) (w : Effects) → WorldSuits ms e w.world → AllWait ms e fs → Suit ms e v → Keeps ms (give (by_slots ms) ms v fs n w)
    gives v [] n w g all k = record { holds = record { env = e; world = g; how = k } }
    gives v (f ∷ fs) n w g all k = record {
      holds = record { env = e; world = g; operands = ready_else ms e f.code (suc f.place) (of_value v ∷ f.operands) all.0.next (k, all.0.operands); locals = all.0.locals; callers = all.1 };
    }
