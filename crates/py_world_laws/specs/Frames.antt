-- Frames and configurations of a machine with slots that suit an environment.
--     SuitsOperand, OperandsSuit, SlotsSuit      operands and local names
--     made_at, Ready                             operands where a function is made
--     Waits, AllWait                             frames that wait
--     Suited, SuitedEnd                          configurations, and how they end
use Rattle.std.specs.Prelude.{◌≡◌, ℕ, suc, ◌<◌, List, [], ◌∷◌, length, Option, Some, None, slice_get}
use Rattle.cov_event.specs.declared.event.CodeId.{CodeId}
use Rattle.py_value.specs.Plain.{PlainValue, list_at}
use Rattle.py_code.specs.Configurations.{Way, on, by_break, by_continue, by_return, by_raise, Operand, of_value, of_method, of_walk, of_way, Frame, Configuration, Ended, gave, failed, spent, stuck, End}
use Rattle.py_code.specs.Units.{Module, unit_at, places_of}
use Rattle.py_world_laws.specs.Making.{made_with, defaults_in}
use Rattle.py_world_laws.specs.Suits.{Environment, Suit, SuitsRaised, WorldSuits}

-- the local names of a frame, by slots
abbrev pub Slots : Type 0
Slots = List (Option PlainValue)

-- the value or exception of a way out suits
abbrev pub SuitsWay : List Module → Environment → Way → Type 0
SuitsWay ms e on = Unit {0}
SuitsWay ms e by_break = Unit {0}
SuitsWay ms e by_continue = Unit {0}
SuitsWay ms e (by_return v) = Suit ms e v
SuitsWay ms e (by_raise raised t) = SuitsRaised ms e raised

-- what an operand holds suits
abbrev pub SuitsOperand : List Module → Environment → Operand → Type 0
SuitsOperand ms e (of_value v) = Suit ms e v
SuitsOperand ms e (of_method m v) = Suit ms e v
SuitsOperand ms e (of_walk v n i) = Suit ms e v
SuitsOperand ms e (of_way w) = SuitsWay ms e w

-- each operand suits
abbrev pub OperandsSuit : List Module → Environment → List Operand → Type 0
OperandsSuit ms e [] = Unit {0}
OperandsSuit ms e (x ∷ xs) = SuitsOperand ms e x × OperandsSuit ms e xs

-- the value of a slot suits, if it is set
abbrev pub SuitsSlot : List Module → Environment → Option PlainValue → Type 0
SuitsSlot ms e None = Unit {0}
SuitsSlot ms e (Some v) = Suit ms e v

-- each slot suits
abbrev pub SlotsSuit : List Module → Environment → Slots → Type 0
SlotsSuit ms e [] = Unit {0}
SlotsSuit ms e (s ∷ ss) = SuitsSlot ms e s × SlotsSuit ms e ss

-- the unit of which a function is made at a place, with a list of defaults
abbrev pub made_at : List Module → CodeId → ℕ → Option ℕ
made_at ms code p = made_with (slice_get (places_of ms code) p)

-- an operand is the list of so many defaults
abbrev pub IsDefaults : Environment → ℕ → Operand → Type 0
IsDefaults e n x = (a : ℕ) × (x ≡ of_value (list_at a)) × (e.lists a ≡ Some n) × (0 < n)

-- the list of so many defaults stands on top of the operands
abbrev pub AreHanded : List Module → Environment → ℕ → List Operand → Type 0
AreHanded ms e n [] = ⊥
AreHanded ms e n (x ∷ xs) = IsDefaults e n x × OperandsSuit ms e xs

-- Operands suit. Only where a function is made of them the list of its defaults stands on top, and
-- is named by nothing else.
abbrev pub Ready : List Module → Environment → CodeId → Option ℕ → List Operand → Type 0
Ready ms e code None xs = OperandsSuit ms e xs
Ready ms e code (Some k) xs =
    AreHanded ms e (defaults_in (unit_at ms (record { «module» = code.module; unit = k }))) xs

-- a frame that waits for a value, or for an exception
pub record Waits (ms : List Module) (e : Environment) (f : Frame Slots) : Type 0 where
  pub operands : OperandsSuit ms e f.operands
  pub locals : SlotsSuit ms e f.locals
  pub inside : f.place < length (places_of ms f.code)
  pub next : made_at ms f.code (suc f.place) ≡ None

-- each of the frames waits for what suits
abbrev pub AllWait : List Module → Environment → List (Frame Slots) → Type 0
AllWait ms e [] = Unit {0}
AllWait ms e (f ∷ fs) = Waits ms e f × AllWait ms e fs

-- A configuration that suits some environment.
pub record Suited (ms : List Module) (c : Configuration Slots) : Type 0 where
  pub env : Environment
  pub world : WorldSuits ms env c.effects.world
  pub operands : Ready ms env c.top.code (made_at ms c.top.code c.top.place) c.top.operands
  pub locals : SlotsSuit ms env c.top.locals
  pub callers : AllWait ms env c.callers

-- the value or exception that ends a run suits
abbrev pub SuitsEnded : List Module → Environment → Ended → Type 0
SuitsEnded ms e (gave v) = Suit ms e v
SuitsEnded ms e (failed raised) = SuitsRaised ms e raised
SuitsEnded ms e spent = Unit {0}
SuitsEnded ms e stuck = Unit {0}

-- An end that suits some environment.
pub record SuitedEnd (ms : List Module) (r : End) : Type 0 where
  pub env : Environment
  pub world : WorldSuits ms env r.effects.world
  pub how : SuitsEnded ms env r.how
