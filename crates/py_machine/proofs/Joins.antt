-- Parts of a run, one after another.
use Rattle.std.proofs.Common.{◌≡◌, ℕ, ◌<◌, Bool, List, [], ◌∷◌, ◌++◌, Option, Some, None, sym, ap, ◌∙◌, subst, append_assoc, append-nil, inl, inr}
use Rattle.cov_event.specs.declared.event.CodeId.{CodeId}
use Rattle.cov_event.specs.declared.event.Event.{Event}
use Rattle.cov_event.specs.Moves.{Takes}
use Rattle.py_builtins.specs.Inputs.{Wrote}
use Rattle.py_code.specs.Configurations.{Configuration}
use Rattle.py_code.specs.Machine.{move, machine}
use Rattle.py_code.specs.Run.{go}
use Rattle.py_code.specs.Slots.{by_slots}
use Rattle.py_code.specs.Units.{Module}
use Rattle.py_code.specs.Valid.{AreValid}
use Rattle.py_code.proofs.Ahead.{distance, LeadsTo, goes_on, ticks_on}
use Rattle.py_code.proofs.Standing.{Stands}
use Rattle.py_code.proofs.Steps.{ends}
use Rattle.py_machine.specs.declared.ending.Ending.{Ending}
use Rattle.py_instructions.specs.declared.frame.State.{State}
use Rattle.py_world.specs.declared.store.Store.{Store}
use Rattle.py_machine.specs.Told.{OnInput, PartOnInput, Went, Part, Reached, Ran, ended}
use Rattle.py_instructions.specs.View.{Slots, Outside, seen, effects_of}
use Rattle.py_machine.proofs.Hearing.{hears_then}

module _ {T : Type 0} (moves : T → Event → T → Type 0) where
  pub takes_then : (a b c : T) (es fs : List Event) → Takes moves a es b → Takes moves b fs c → Takes moves a (es ++ fs) c
  takes_then a b c [] fs h k = subst (λ x. Takes moves x fs c) h k
  takes_then a b c (e ∷ es) fs h k = (h.0, h.1, takes_then h.0 b c es fs h.2 k)

pub wrote_then : (tells : Type 0) (a b c xs ys : List ℕ) → Wrote tells a b xs → Wrote tells b c ys → Wrote tells a c (xs ++ ys)
wrote_then tells a b c xs ys h k = λ t. k t ∙ ap (λ z. z ++ ys) (h t) ∙ append_assoc a xs ys

pub wrote_none : (tells : Type 0) (a : List ℕ) → Wrote tells a a []
wrote_none tells a = λ t. sym (append-nil a)

-- the same place of a run, with the ends of its lists joined otherwise
pub at : (rest a b : List ℕ) (es fs : List Event) → a ≡ b → es ≡ fs → let x : Outside = record { input = rest; out = a; events = es } in let y : Outside = record { input = rest; out = b; events = fs } in x ≡ y
at rest a b es fs e f = ap (λ z. let x : Outside = record { input = rest; out = z; events = es } in x) e ∙ ap (λ z. let x : Outside = record { input = rest; out = b; events = z } in x) f

module _ (ms : List Module) (depths : CodeId → List ℕ) (valid : AreValid ms depths) where
  abbrev pub StandAt : State → Store → Type 0
  StandAt m s = (o : Outside) → Stands (by_slots ms) ms depths valid (seen m s o)

  leads : (c d : Configuration Slots) → Stands (by_slots ms) ms depths valid c → Went None (move (by_slots ms) ms c) d → LeadsTo (by_slots ms) ms depths valid c d
  leads c d s (inl e) = goes_on (by_slots ms) ms depths valid c d s e
  leads c d s (inr e) = ticks_on (by_slots ms) ms depths valid c d s e

  module _ {T : Type 0} (moves : T → Event → T → Type 0) (a b c : T) (said : Type 0) (o0 o1 o2 : List ℕ) (tells : Type 0) (i0 i1 i2 : List ℕ) (w0 w1 w2 : Bool)
      (m m1 m2 : State) (s s1 s2 : Store) (stand : StandAt m1 s1) where
    abbrev Came : List ℕ → List ℕ → Type 0
    Came = Reached (λ es. Takes moves a es b) (Wrote said o0 o1) ms (seen m s) (seen m1 s1)

    abbrev Was : Type 0
    Was = PartOnInput tells i0 i1 w0 w1 Came

    abbrev Moved : Option Ending → List ℕ → List ℕ → Type 0
    Moved how = Part (λ es. Takes moves b es c) (Wrote said o1 o2) (λ o. move (by_slots ms) ms (seen m1 s1 o)) (seen m2 s2) how

    abbrev Steps : Option Ending → Type 0
    Steps how = PartOnInput tells i1 i2 w1 w2 (Moved how)

    abbrev Comes : List ℕ → List ℕ → Type 0
    Comes = Reached (λ es. Takes moves a es c) (Wrote said o0 o2) ms (seen m s) (seen m2 s2)

    abbrev Ended : Ending → List ℕ → List ℕ → Type 0
    Ended how = Ran (λ es. Takes moves a es c) (Wrote said o0 o2) (λ o. go (machine (by_slots ms) ms) (seen m s o)) how m2.steps s2

    further_one : (all mid rest : List ℕ) → Came all mid → Moved None mid rest → Comes all rest
    further_one all mid rest x y = record {
      events = x.events ++ y.events;
      out = x.out ++ y.out;
      has_told = takes_then moves a b c x.events y.events x.has_told y.has_told;
      has_said = wrote_then said o0 o1 o2 x.out y.out x.has_said y.has_said;
      is = λ w es.
          x.is w es
          ∙ (leads (seen m1 s1 (record { input = mid; out = w ++ x.out; events = es ++ x.events })) (seen m2 s2 (record { input = rest; out = (w ++ x.out) ++ y.out; events = (es ++ x.events) ++ y.events })) (stand _) (y.is (w ++ x.out) (es ++ x.events))).same
          ∙ ap (λ o. go (machine (by_slots ms) ms) (seen m2 s2 o)) (at rest _ _ _ _ (append_assoc w x.out y.out) (append_assoc es x.events y.events));
    }

    -- an instruction more of a run
    further : Was → Steps None → PartOnInput tells i0 i2 w0 w2 Comes
    further r p = hears_then tells i0 i1 i2 w0 w1 w2 Came (Moved None) Comes further_one r p

    last_one : (how : Ending) (all mid rest : List ℕ) → Came all mid → Moved (Some how) mid rest → Ended how all rest
    last_one how all mid rest x y = record {
      events = x.events ++ y.events;
      out = x.out ++ y.out;
      has_told = takes_then moves a b c x.events y.events x.has_told y.has_told;
      has_said = wrote_then said o0 o1 o2 x.out y.out x.has_said y.has_said;
      is = λ w es.
          x.is w es
          ∙ ends (machine (by_slots ms) ms) (seen m1 s1 (record { input = mid; out = w ++ x.out; events = es ++ x.events })) _ (y.is (w ++ x.out) (es ++ x.events))
          ∙ ap (λ o. ended how m2.steps (effects_of s2 o)) (at rest _ _ _ _ (append_assoc w x.out y.out) (append_assoc es x.events y.events));
    }

    -- the last one
    last : (how : Ending) → Was → Steps (Some how) → OnInput tells i0 i2 (Ended how)
    last how r p = (hears_then tells i0 i1 i2 w0 w1 w2 Came (Moved (Some how)) (Ended how) (last_one how) r p).hears

    abbrev none : List ℕ → Outside
    none all = record { input = all; out = []; events = [] }

    -- the instruction with the input that there is
    done : (how : Option Ending) (p : Steps how) → Moved how p.hears.input p.hears.rest
    done how p = p.hears.holds p.hears.input p.hears.rest p.hears.fed

    ahead : (all rest : List ℕ) (y : Moved None all rest) → LeadsTo (by_slots ms) ms depths valid (seen m1 s1 (none all)) (seen m2 s2 (record { input = rest; out = y.out; events = y.events }))
    ahead all rest y = leads (seen m1 s1 (none all)) (seen m2 s2 (record { input = rest; out = y.out; events = y.events })) (stand _) (y.is [] [])

    nearer : Steps None → distance (by_slots ms) ms (seen m2 s2 (none [])) < distance (by_slots ms) ms (seen m1 s1 (none []))
    nearer p = (ahead p.hears.input p.hears.rest (done None p)).nearer

    stands : Steps None → StandAt m2 s2
    stands p = λ o. let l = ahead p.hears.input p.hears.rest (done None p) in record { top = l.stands.top; callers = l.stands.callers }

    pub further_at : (how : Option Ending) → how ≡ None → Was → Steps how → PartOnInput tells i0 i2 w0 w2 Comes
    further_at how e r p = further r (subst Steps e p)

    pub last_at : (o : Option Ending) (how : Ending) → o ≡ Some how → Was → Steps o → OnInput tells i0 i2 (Ended how)
    last_at o how e r p = last how r (subst Steps e p)

    pub nearer_at : (how : Option Ending) → how ≡ None → Steps how → distance (by_slots ms) ms (seen m2 s2 (none [])) < distance (by_slots ms) ms (seen m1 s1 (none []))
    nearer_at how e p = nearer (subst Steps e p)

    pub stands_at : (how : Option Ending) → how ≡ None → Steps how → StandAt m2 s2
    stands_at how e p = stands (subst Steps e p)
