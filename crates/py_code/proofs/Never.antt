-- A run of valid units never misses anything.
use Rattle.std.proofs.Common.{◌≡◌, ℕ, zero, suc, ◌<◌, List, length, Option, Some, None, Bool, true, false, refl, sym, ap, ◌∙◌, subst, arith, inl, inr}
use Rattle.std.specs.Prelude.{slice_get, nat_lt, if◌then◌else◌, ◌⊎◌}
use Rattle.std.proofs.lemmas.Bool.Decides.{nat_tests}
use Rattle.cov_event.specs.declared.event.CodeId.{CodeId}
use Rattle.py_code.specs.declared.instr.Instr.{Instr}
use Rattle.py_code.specs.declared.instr.Instr.TheVariants.{Constant, Pop, Copy, Sink, Roll, LoadLocal, StoreLocal, UnsetLocal, LoadGlobal, StoreGlobal, UnsetGlobal, Text, Extend, Tuple, List as MakeList, Dict, AddPair, Not, Binary, InPlace, Compare, Index, Slice, Attribute, StoreIndex, Unpack}
use Rattle.py_code.specs.declared.instr.Instr.TheVariants.{Goto, IfFalse, IfTrue, And, Or, Link, Unless, Sequence, Mark, Again, Walk, Next as NextItem, Method, Call, Return, Function, FunctionWith, Import, Module as LoadModule, Take}
use Rattle.py_code.specs.declared.instr.Instr.TheVariants.{Raise, Reraise, Assertion, AssertionWith, Catches, Caught, Uncaught, Leave, Ending, Breaking, Continuing, Returning, Settle, Release}
use Rattle.py_code.specs.Configurations.{Locals, Configuration, End, Next}
use Rattle.py_code.specs.Footprints.{is_mark}
use Rattle.py_code.specs.Machine.{where_found, stepping, move, move_in, acts, act, machine, rank, callers_rank}
use Rattle.py_code.specs.Run.{Goes, Ticks, Ends, lands, follow, walk, run, go}
use Rattle.py_code.specs.Units.{Code, Module, unit_at, places_in, places_of}
use Rattle.py_code.specs.Valid.{marks_at, AreValid}
use Rattle.py_code.proofs.Forms.{found_at}
use Rattle.py_code.proofs.Instructions.{fine}
use Rattle.py_code.specs.Laws.{IsOver}
use Rattle.py_code.proofs.Standing.{Fine, Stands, MarksIn, inside}

not_true : false ≡ true → ⊥
not_true e = absurd cc

module _ {L : Type 0} (locals : Locals L) (ms : List Module) (depths : CodeId → List ℕ) (valid : AreValid ms depths) where
  -- each move leads on
  pub moves : (c : Configuration L) → Stands locals ms depths valid c → Fine locals ms depths valid c (move locals ms c)
  moves c s =
      let here = inside locals ms depths valid c.top.code s.top.unit s.top.is c.top.place (length c.top.operands) s.top.stands in
      let long : length (places_of ms c.top.code) ≡ length s.top.unit.instrs = ap (λ o. length (places_in o)) s.top.is in
      let found = found_at s.top.unit.instrs c.top.place (omega arith) in
      subst (λ o. Fine locals ms depths valid c (move_in locals ms o c)) (sym s.top.is)
      (subst (λ o. Fine locals ms depths valid c (acts locals ms s.top.unit o c)) (sym found.1)
      (fine locals ms depths valid c s.top.unit s.top.is here s.callers found.0 _ c.top.operands refl
      ((valid.units c.top.code s.top.unit s.top.is).fits c.top.place (length c.top.operands) found.0 s.top.stands found.1)))

  -- ends, or takes a step
  abbrev pub Halts : Next L → Type 0
  Halts (Goes d) = ⊥
  Halts (Ticks d) = Unit {0}
  Halts (Ends r) = Unit {0}

  abbrev Ended : End → Type 0
  Ended r = IsOver r.how

  step_halts : (n : ℕ) (c : Configuration L) (k : ℕ → Configuration L) → Halts (stepping n c (λ m. Ticks (k m)))
  step_halts zero c k = tt
  step_halts (suc n) c k = tt

  number_halts : {A : Type 0} (o : Option A) (c : Configuration L) (k : A → Next L) → ((x : A) → Halts (k x)) → Halts (where_found o c k)
  number_halts None c k h = tt
  number_halts (Some x) c k h = h x

  -- what marks a line takes a step, or is cut
  mark_halts : (u : Code) (i : Instr) (c : Configuration L) → is_mark i ≡ true → Halts (act locals ms u i c.top.operands c)
  mark_halts u (Constant n) c e = absurd (not_true e)
  mark_halts u Pop c e = absurd (not_true e)
  mark_halts u (Copy n) c e = absurd (not_true e)
  mark_halts u (Sink n) c e = absurd (not_true e)
  mark_halts u (Roll n) c e = absurd (not_true e)
  mark_halts u (LoadLocal n) c e = absurd (not_true e)
  mark_halts u (StoreLocal n) c e = absurd (not_true e)
  mark_halts u (UnsetLocal n) c e = absurd (not_true e)
  mark_halts u (LoadGlobal n) c e = absurd (not_true e)
  mark_halts u (StoreGlobal n) c e = absurd (not_true e)
  mark_halts u (UnsetGlobal n) c e = absurd (not_true e)
  mark_halts u Text c e = absurd (not_true e)
  mark_halts u Extend c e = absurd (not_true e)
  mark_halts u (Tuple n) c e = absurd (not_true e)
  mark_halts u (MakeList n) c e = absurd (not_true e)
  mark_halts u Dict c e = absurd (not_true e)
  mark_halts u AddPair c e = absurd (not_true e)
  mark_halts u Not c e = absurd (not_true e)
  mark_halts u (Binary op) c e = absurd (not_true e)
  mark_halts u (InPlace op) c e = absurd (not_true e)
  mark_halts u (Compare q) c e = absurd (not_true e)
  mark_halts u Index c e = absurd (not_true e)
  mark_halts u (Slice bounds) c e = absurd (not_true e)
  mark_halts u (Attribute n) c e = absurd (not_true e)
  mark_halts u StoreIndex c e = absurd (not_true e)
  mark_halts u (Unpack n) c e = absurd (not_true e)
  mark_halts u (Goto to) c e = absurd (not_true e)
  mark_halts u (IfFalse to) c e = absurd (not_true e)
  mark_halts u (IfTrue to) c e = absurd (not_true e)
  mark_halts u (And to) c e = absurd (not_true e)
  mark_halts u (Or to) c e = absurd (not_true e)
  mark_halts u (Link q to) c e = absurd (not_true e)
  mark_halts u (Unless n to) c e = absurd (not_true e)
  mark_halts u (Sequence k n to) c e = absurd (not_true e)
  mark_halts u (Mark n) c e = number_halts (slice_get u.lines n) c _ (λ l. step_halts c.steps c _)
  mark_halts u (Again n) c e = number_halts (slice_get u.lines n) c _ (λ l. step_halts c.steps c _)
  mark_halts u Walk c e = absurd (not_true e)
  mark_halts u (NextItem to) c e = absurd (not_true e)
  mark_halts u (Method n) c e = absurd (not_true e)
  mark_halts u (Call n) c e = absurd (not_true e)
  mark_halts u Return c e = absurd (not_true e)
  mark_halts u (Function k) c e = absurd (not_true e)
  mark_halts u (FunctionWith k) c e = absurd (not_true e)
  mark_halts u (Import n) c e = absurd (not_true e)
  mark_halts u (LoadModule n) c e = absurd (not_true e)
  mark_halts u (Take m n) c e = absurd (not_true e)
  mark_halts u Raise c e = absurd (not_true e)
  mark_halts u (Reraise n) c e = absurd (not_true e)
  mark_halts u Assertion c e = absurd (not_true e)
  mark_halts u AssertionWith c e = absurd (not_true e)
  mark_halts u Catches c e = absurd (not_true e)
  mark_halts u Caught c e = absurd (not_true e)
  mark_halts u Uncaught c e = absurd (not_true e)
  mark_halts u (Leave n to) c e = absurd (not_true e)
  mark_halts u Ending c e = absurd (not_true e)
  mark_halts u (Breaking n to) c e = absurd (not_true e)
  mark_halts u (Continuing n to) c e = absurd (not_true e)
  mark_halts u (Returning n to) c e = absurd (not_true e)
  mark_halts u Settle c e = absurd (not_true e)
  mark_halts u Release c e = absurd (not_true e)

  place_halts : (u : Code) (o : Option Instr) (c : Configuration L) → marks_at o ≡ true → Halts (acts locals ms u o c)
  place_halts u None c e = absurd (not_true e)
  place_halts u (Some i) c e = mark_halts u i c e

  unit_halts : (o : Option Code) (c : Configuration L) → marks_at (slice_get (places_in o) c.top.place) ≡ true → Halts (move_in locals ms o c)
  unit_halts None c e = absurd (not_true e)
  unit_halts (Some u) c e = place_halts u (slice_get u.instrs c.top.place) c e

  pub move_halts : (c : Configuration L) → MarksIn locals ms depths valid c.top → Halts (move locals ms c)
  move_halts c e = unit_halts (unit_at ms c.top.code) c e

  module _ (tick : Configuration L → End) (n : ℕ) (ticks : (d : Configuration L) → Stands locals ms depths valid d → n ≡ suc d.steps → Ended (tick d)) where
    -- a jump back to a mark
    lands_over : (d : Configuration L) (v : Next L) → Fine locals ms depths valid d v → Halts v → n ≡ d.steps → Ended (lands (machine locals ms) tick d v)
    lands_over d (Goes x) f h e = absurd h
    lands_over d (Ticks x) f h e = ticks x f.holds.0 (e ∙ f.holds.1)
    lands_over d (Ends r) f h e = f.holds

    follows_over : (next : Configuration L → End) (c : Configuration L) (v : Next L) → Fine locals ms depths valid c v → n ≡ c.steps
        → ((d : Configuration L) → Stands locals ms depths valid d → rank locals ms d < rank locals ms c → n ≡ d.steps → Ended (next d))
        → Ended (follow (machine locals ms) tick next (rank locals ms c) v)
    follows_over next c (Goes d) f e h = by_case (nat_lt (rank locals ms d) (rank locals ms c)) refl
      where
        back : (rank locals ms d < rank locals ms c) ⊎ (MarksIn locals ms depths valid d.top × (callers_rank locals ms d.callers ≡ callers_rank locals ms c.callers)) → nat_lt (rank locals ms d) (rank locals ms c) ≡ false → Halts (move locals ms d)
        back (inl lt) e = absurd (grind (arith, nat_tests))
        back (inr m) e = move_halts d m.0

        by_case : (b : Bool) → nat_lt (rank locals ms d) (rank locals ms c) ≡ b → Ended (if b then next d else lands (machine locals ms) tick d (move locals ms d))
        by_case true w = h d f.holds.0 (grind (arith, nat_tests)) (e ∙ f.holds.1)
        by_case false w = lands_over d (move locals ms d) (moves d f.holds.0) (back f.holds.2 w) (e ∙ f.holds.1)
    follows_over next c (Ticks d) f e h = ticks d f.holds.0 (e ∙ f.holds.1)
    follows_over next c (Ends r) f e h = f.holds

    walks_over : (room : ℕ) (c : Configuration L) → Stands locals ms depths valid c → rank locals ms c < room → n ≡ c.steps → Ended (walk (machine locals ms) tick room c)
    walks_over zero c s lt e = absurd (omega arith)
    walks_over (suc room) c s lt e =
        follows_over (walk (machine locals ms) tick room) c (move locals ms c) (moves c s) e (λ d t less same. walks_over room d t (omega arith) same)

  runs_over : (n : ℕ) (c : Configuration L) → Stands locals ms depths valid c → n ≡ c.steps → Ended (run (machine locals ms) n c)
  runs_over zero c s e = walks_over (machine locals ms).cut zero (λ d t f. tt) (suc (rank locals ms c)) c s (omega arith) e
  runs_over (suc n) c s e = walks_over (run (machine locals ms) n) (suc n) (λ d t f. runs_over n d t (omega arith)) (suc (rank locals ms c)) c s (omega arith) e

  -- a run from where all frames stand
  pub goes_over : (c : Configuration L) → Stands locals ms depths valid c → IsOver (go (machine locals ms) c).how
  goes_over c s = runs_over c.steps c s refl
