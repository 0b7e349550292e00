-- Runs and calls of modules whose units are code.
use Rattle.std.proofs.Common.{◌≡◌, ℕ, zero, suc, ◌<◌, List, [], ◌∷◌, length, Some, ap, ◌∙◌, subst}
use Rattle.std.specs.Prelude.{slice_get, Result, Ok, Err}
use Rattle.cov_event.specs.declared.event.CodeId.{CodeId}
use Rattle.py_value.specs.Plain.{PlainValue, PlainRaised}
use Rattle.py_builtins.specs.Attributes.{or_raise}
use Rattle.py_builtins.specs.World.{World, global_of}
use Rattle.py_code.specs.Configurations.{Locals, Effects}
use Rattle.py_code.specs.Laws.{IsOver, NeverMisses}
use Rattle.py_code.specs.Machine.{Reach, at_once, in_frame, outermost, outer_call, follows, ended_by}
use Rattle.py_code.specs.Programs.{Request, script, at_rest, reach_global, end_of_run, end_of_call}
use Rattle.py_code.specs.Units.{Code, Module, units_of, unit_at}
use Rattle.py_code.specs.Valid.{IsValid, AreValid, AreCodes}
use Rattle.py_code.proofs.Forms.{found_at}
use Rattle.py_code.proofs.Instructions.{Inside, reach_inside}
use Rattle.py_code.proofs.Never.{goes_over}
use Rattle.py_builtins.specs.Faults.{name_unknown}

-- the numbers of operands at the places of all units
abbrev pub chosen : (ms : List Module) → AreCodes ms → ℕ → ℕ → List ℕ
chosen [] h m k = []
chosen (x ∷ xs) h zero k = h.0.0 k
chosen (x ∷ xs) h (suc m) k = chosen xs h.1 m k

chosen_fits : (ms : List Module) (h : AreCodes ms) (m k : ℕ) (u : Code) → slice_get (units_of (slice_get ms m)) k ≡ Some u → IsValid u (length (units_of (slice_get ms m))) (chosen ms h m k)
chosen_fits [] h m k u e = cc
chosen_fits (x ∷ xs) h zero k u e = h.0.1.units k u e
chosen_fits (x ∷ xs) h (suc m) k u e = chosen_fits xs h.1 m k u e

has_body : (ms : List Module) → AreCodes ms → (n : ℕ) (m : Module) → slice_get ms n ≡ Some m → 0 < length m.units
has_body [] h n m e = cc
has_body (x ∷ xs) h zero m e = let same : x ≡ m = cc in subst (λ k. 0 < length k.units) same h.0.1.body
has_body (x ∷ xs) h (suc n) m e = has_body xs h.1 n m e

abbrev pub depths_of : (ms : List Module) → AreCodes ms → CodeId → List ℕ
depths_of ms h code = chosen ms h code.module code.unit

pub are_valid : (ms : List Module) → 0 < length ms → (h : AreCodes ms) → AreValid ms (depths_of ms h)
are_valid ms some h = record { units = λ code u e. chosen_fits ms h code.module code.unit u e; bodies = has_body ms h; script = some }

pub global_inside : (ms : List Module) (r : Result PlainValue PlainRaised) (vs : List PlainValue) (e : Effects) → Inside ms (reach_global ms r vs e)
global_inside ms (Ok f) vs e = reach_inside ms f vs e
global_inside ms (Err raised) vs e = tt

module _ {L : Type 0} (locals : Locals L) (ms : List Module) (some : 0 < length ms) (h : AreCodes ms) where
  starts : (code : CodeId) (vs : List PlainValue) (u : Code) → unit_at ms code ≡ Some u → (budget : ℕ) (e : Effects) → IsOver (follows locals ms (outermost locals ms code vs budget e)).how
  starts code vs u is zero e = tt
  starts code vs u is (suc n) e =
      let valid = are_valid ms some h in
      goes_over locals ms (depths_of ms h) valid _ (record { top = record { unit = u; is = is; stands = (valid.units code u is).begins }; callers = tt })

  runs : (w : World) (input : List ℕ) (budget : ℕ) → IsOver (end_of_run locals ms w input budget).how
  unfolding end_of_run
  runs w input budget =
      let m = found_at ms 0 some in
      let u = found_at m.0.units 0 (has_body ms h 0 m.0 m.1) in
      starts script [] u.0 (ap (λ o. slice_get (units_of o) 0) m.1 ∙ u.1) budget (at_rest w input)

  answered : (r : Result PlainValue PlainRaised) → IsOver (ended_by locals ms r)
  answered (Ok v) = tt
  answered (Err e) = tt

  reached : (r : Reach) → Inside ms r → (budget : ℕ) (e : Effects) → IsOver (follows locals ms (outer_call locals ms r budget e)).how
  reached (at_once r e) i budget before = answered r
  reached (in_frame code vs) i budget before = starts code vs i.0 i.1 budget before

  calls_end : (w : World) (input : List ℕ) (r : Request) (budget : ℕ) → IsOver (end_of_call locals ms w input r budget).how
  unfolding end_of_call
  calls_end w input r budget =
      let first = at_rest w input in
      let found = or_raise (name_unknown r.name) (global_of r.number r.name w) in
      reached (reach_global ms found r.values first) (global_inside ms found r.values first) budget first

pub never_misses : {L : Type 0} → NeverMisses L
never_misses = record { run = λ locals ms some h. runs locals ms some h; call = λ locals ms some h. calls_end locals ms some h }
