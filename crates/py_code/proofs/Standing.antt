-- Configurations whose frames stand at their numbers of operands, and moves that lead to such ones.
use Rattle.std.proofs.Common.{◌≡◌, ℕ, suc, ◌+◌, ◌-◌, ◌<◌, ◌≤◌, List, [], ◌∷◌, length, drop, Option, Some, None, Bool, true, refl, sym, ap, ◌∙◌, subst, arith, inl, inr}
use Rattle.std.specs.Prelude.{slice_get, ◌⊎◌}
use Rattle.std.proofs.lemmas.List.{length-drop}
use Rattle.std.proofs.lemmas.Option.{slice_get_within}
use Rattle.cov_event.specs.declared.event.CodeId.{CodeId}
use Rattle.cov_event.specs.declared.event.Event.TheVariants.{Throw}
use Rattle.py_value.specs.Plain.{PlainRaised}
use Rattle.py_code.specs.declared.unit.Handler.{Handler}
use Rattle.py_code.specs.Configurations.{by_raise, Operand, of_way, Locals, Frame, Effects, Configuration, Next}
use Rattle.py_code.specs.Laws.{IsOver}
use Rattle.py_code.specs.Machine.{told, escaped, land, leave, escapes, callers_rank, rank}
use Rattle.py_code.specs.Run.{Goes, Ticks, Ends}
use Rattle.py_code.specs.Units.{Code, Module, unit_at, places_in, places_of, handlers_in, handler_of}
use Rattle.py_code.specs.Valid.{marks_at, Leads, LandsAt, AreValid}

module _ {L : Type 0} (locals : Locals L) (ms : List Module) (depths : CodeId → List ℕ) (valid : AreValid ms depths) where
  -- a frame at a place of its unit, with as many operands as stand there
  pub record StandsIn (f : Frame L) : Type 0 where
    pub unit : Code
    pub is : unit_at ms f.code ≡ Some unit
    pub stands : slice_get (depths f.code) f.place ≡ Some (length f.operands)

  -- a frame that waits for a value or an exception
  pub record Waits (f : Frame L) : Type 0 where
    pub unit : Code
    pub is : unit_at ms f.code ≡ Some unit
    pub back : slice_get (depths f.code) (suc f.place) ≡ Some (suc (length f.operands))
    pub lands : LandsAt (depths f.code) f.place (length f.operands) (handler_of f.place unit.handlers)

  abbrev pub AllWait : List (Frame L) → Type 0
  AllWait [] = Unit {0}
  AllWait (f ∷ fs) = Waits f × AllWait fs

  pub record Stands (c : Configuration L) : Type 0 where
    pub top : StandsIn c.top
    pub callers : AllWait c.callers

  abbrev pub MarksIn : Frame L → Type 0
  MarksIn f = marks_at (slice_get (places_of ms f.code) f.place) ≡ true

  -- a move ahead, or back to a mark; a step, with one more frame at most; or an end
  abbrev pub Onward : Configuration L → Next L → Type 0
  Onward c (Goes d) = Stands d × (c.steps ≡ d.steps) × ((rank locals ms d < rank locals ms c) ⊎ (MarksIn d.top × (callers_rank locals ms d.callers ≡ callers_rank locals ms c.callers)))
  Onward c (Ticks d) = Stands d × (c.steps ≡ suc d.steps) × (callers_rank locals ms d.callers ≤ callers_rank locals ms c.callers + suc (length (places_of ms c.top.code)))
  Onward c (Ends r) = IsOver r.how

  -- the same, so that the move can be found from it
  pub record Fine (c : Configuration L) (n : Next L) : Type 0 where
    pub holds : Onward c n

  -- a place with a number of operands has an instruction
  pub inside : (code : CodeId) (u : Code) → unit_at ms code ≡ Some u → (p depth : ℕ) → slice_get (depths code) p ≡ Some depth → p < length (places_of ms code)
  inside code u is p depth e =
      let here = slice_get_within (depths code) p depth e in
      let long = (valid.units code u is).long in
      let same : length (places_of ms code) ≡ length u.instrs = ap (λ o. length (places_in o)) is in
      omega arith

  module _ (c : Configuration L) (u : Code) (is : unit_at ms c.top.code ≡ Some u) (here : c.top.place < length (places_of ms c.top.code)) (waiting : AllWait c.callers) where
    abbrev At : List Operand → L → Effects → Configuration L
    At xs l e = record {
      top = record { code = c.top.code; place = c.top.place; operands = xs; locals = l; line = c.top.line; depth = c.top.depth };
      callers = c.callers;
      steps = c.steps;
      effects = e;
    }

    -- to a place of the unit
    pub goes_to : (to : ℕ) (xs : List Operand) (l : L) (e : Effects) (n : ℕ) → Leads u (depths c.top.code) c.top.place to n → n ≡ length xs
        → Fine c (Goes (record {
          top = record { code = c.top.code; place = to; operands = xs; locals = l; line = c.top.line; depth = c.top.depth };
          callers = c.callers;
          steps = c.steps;
          effects = e;
        }))
    goes_to to xs l e n leads same =
        record { holds = (record { top = record { unit = u; is = is; stands = leads.stands ∙ ap (λ k. Some k) same }; callers = waiting }, refl, onto leads.ahead) }
      where
        onto : (c.top.place < to) ⊎ (marks_at (slice_get u.instrs to) ≡ true)
            → (suc (length (places_of ms c.top.code) - to) + callers_rank locals ms c.callers < suc (length (places_of ms c.top.code) - c.top.place) + callers_rank locals ms c.callers)
            ⊎ ((marks_at (slice_get (places_of ms c.top.code) to) ≡ true) × (callers_rank locals ms c.callers ≡ callers_rank locals ms c.callers))
        onto (inl lt) = inl (omega arith)
        onto (inr m) = inr (ap (λ o. marks_at (slice_get (places_in o) to)) is ∙ m, refl)

    -- an exception in a frame that waits
    lands_in : (e : PlainRaised) (f : Frame L) (fs : List (Frame L)) (w : Effects) (all : AllWait (f ∷ fs)) → suc (length (places_of ms f.code)) + callers_rank locals ms fs ≤ callers_rank locals ms c.callers
        → Fine c (leave locals ms e f.code fs c.steps w) → (o : Option Handler) → LandsAt (depths f.code) f.place (length f.operands) o
        → Fine c (land locals ms o (leave locals ms e f.code fs c.steps w) e true (record { top = f; callers = fs; steps = c.steps; effects = w }))
    lands_in e f fs w all le out None k = out
    lands_in e f fs w all le out (Some h) k =
        let cut = length-drop (length f.operands - h.depth) f.operands in
        let kept = k.enough in
        record {
          holds = (
            record { top = record { unit = all.0.unit; is = all.0.is; stands = k.stands ∙ ap (λ n. Some n) (omega arith) }; callers = all.1 },
            refl,
            inl (omega arith),
          );
        }

    -- an exception leaves the frames above these
    pub leaves : (e : PlainRaised) (code : CodeId) (fs : List (Frame L)) (w : Effects) → AllWait fs → callers_rank locals ms fs ≤ callers_rank locals ms c.callers → Fine c (leave locals ms e code fs c.steps w)
    leaves e code [] w all le = record { holds = tt }
    leaves e code (f ∷ fs) w all le =
        let w2 = told (Throw e.kind) (escaped code w) in
        subst (λ o. Fine c (land locals ms o (leave locals ms e f.code fs c.steps w2) e true (record { top = f; callers = fs; steps = c.steps; effects = w2 })))
        (sym (ap (λ o. handler_of f.place (handlers_in o)) all.0.is))
        (lands_in e f fs w2 all (omega arith) (leaves e f.code fs w2 all.1 (omega arith)) (handler_of f.place all.0.unit.handlers) all.0.lands)

    -- an exception in the frame
    pub rises : (e : PlainRaised) (t : Bool) (xs : List Operand) (l : L) (w : Effects) (rest : ℕ)
        → LandsAt (depths c.top.code) c.top.place rest (handler_of c.top.place u.handlers) → rest ≤ length xs → Fine c (escapes locals ms e t (At xs l w))
    rises e t xs l w rest lands le =
        subst (λ o. Fine c (land locals ms o (leave locals ms e c.top.code c.callers c.steps w) e t (At xs l w)))
        (sym (ap (λ o. handler_of c.top.place (handlers_in o)) is))
        (at (handler_of c.top.place u.handlers) lands)
      where
        at : (o : Option Handler) → LandsAt (depths c.top.code) c.top.place rest o → Fine c (land locals ms o (leave locals ms e c.top.code c.callers c.steps w) e t (At xs l w))
        at None k = leaves e c.top.code c.callers w waiting (omega arith)
        at (Some h) k =
            let cut = length-drop (length xs - h.depth) xs in
            let kept = k.enough in
            goes_to h.target (of_way (by_raise e t) ∷ drop (length xs - h.depth) xs) l w (suc h.depth) (record { stands = k.stands; ahead = inl k.ahead }) (omega arith)
