-- Local names of frames: by names, as programs mean them, and by slots, as a machine keeps them.
--     by_names, by_slots         both
--     AreNamed                   where they are one
use Rattle.std.specs.Prelude.{◌≡◌, ℕ, ◌-◌, List, [], ◌∷◌, ◌++◌, length, map, replicate, Option, Some, None, slice_get, slice_set}
use Rattle.cov_event.specs.declared.event.CodeId.{CodeId}
use Rattle.py_value.specs.Plain.{PlainValue}
use Rattle.py_builtins.specs.World.{Names, value_of, with_name, without_name}
use Rattle.py_code.specs.Configurations.{Locals}
use Rattle.py_code.specs.Units.{Code, Module, unit_at}
use Rattle.py_builtins.specs.Parameters.{parameters}

-- the local names of a unit, if there is one
abbrev pub locals_in : Option Code → List (List ℕ)
locals_in None = []
locals_in (Some u) = u.locals

-- the parameters of a unit, if there is one
abbrev pub params_in : Option Code → List (List ℕ)
params_in None = []
params_in (Some u) = u.params

-- a name, empty where there is none
abbrev pub name_or_none : Option (List ℕ) → List ℕ
name_or_none None = []
name_or_none (Some x) = x

-- the name of a slot
abbrev pub slot_name : List Module → CodeId → ℕ → List ℕ
slot_name ms code n = name_or_none (slice_get (locals_in (unit_at ms code)) n)

-- local names kept by their names
abbrev pub by_names : List Module → Locals Names
by_names ms = record {
  fresh = λ code vs. parameters (params_in (unit_at ms code)) vs;
  look = λ code ns n. value_of (slot_name ms code n) ns;
  set = λ code ns n v. with_name (slot_name ms code n) v ns;
  unset = λ code ns n. without_name (slot_name ms code n) ns;
}

-- the value in a slot, if there is such a slot and it is set
abbrev pub held : Option (Option PlainValue) → Option PlainValue
held None = None
held (Some v) = v

-- the values of the parameters, and unset slots after them
abbrev pub by_slots : List Module → Locals (List (Option PlainValue))
by_slots ms = record {
  fresh =
      λ code vs. map Some vs ++ replicate (length (locals_in (unit_at ms code)) - length vs) None;
  look = λ code slots n. held (slice_get slots n);
  set = λ code slots n v. slice_set slots n (Some v);
  unset = λ code slots n. slice_set slots n None;
}

-- a name that none of these is
abbrev pub IsApart : List ℕ → List (List ℕ) → Type 0
IsApart x [] = Unit {0}
IsApart x (y ∷ ys) = (x ≡ y → ⊥) × IsApart x ys

-- no name stands twice
abbrev pub IsDistinct : List (List ℕ) → Type 0
IsDistinct [] = Unit {0}
IsDistinct (x ∷ xs) = IsApart x xs × IsDistinct xs

-- the slots of each unit have names of their own, the parameters first
pub record AreNamed (ms : List Module) : Type 0 where
  pub distinct : (code : CodeId) (u : Code) → unit_at ms code ≡ Some u → IsDistinct u.locals
  pub first : (code : CodeId) (u : Code) → unit_at ms code ≡ Some u → (rest : List (List ℕ))
      × (u.locals ≡ u.params ++ rest)
