-- A piece of code that is whole is a unit that a machine runs without missing anything, where the lists of the unit have what it names.
--     layout_of                      the layout that places themselves make
--     picked, known_at               the cell at a place
--     valid                          the unit
use Rattle.std.proofs.Common.{◌≡◌, ℕ, zero, suc, ◌+◌, ◌-◌, ◌<◌, ◌≤◌, ◌⊎◌, inl, inr, Bool, true, false, List, [], ◌∷◌, length, Option, Some, None, refl, sym, ap, ◌∙◌, subst, arith}
use Rattle.std.specs.Prelude.{slice_get, if◌then◌else◌}
use Rattle.std.proofs.lemmas.Option.{slice_get_within}
use Rattle.py_text.specs.Comparison.{is_same_text}
use Rattle.py_syntax.specs.Names.{is_among}
use Rattle.py_code.specs.declared.instr.Instr.{Instr}
use Rattle.py_code.specs.declared.instr.Instr.TheVariants.{Constant, Pop, Copy, Sink, Roll, LoadLocal, StoreLocal, UnsetLocal, LoadGlobal, StoreGlobal, UnsetGlobal, Text, Extend, Tuple, List as MakeList, Dict, AddPair, Not, Binary, InPlace, Compare, Index, Slice, Attribute, StoreIndex, Unpack}
use Rattle.py_code.specs.declared.instr.Instr.TheVariants.{Goto, IfFalse, IfTrue, And, Or, Link, Unless, Sequence, Mark, Again, Walk, Next as NextItem, Method, Call, Return, Function, FunctionWith, Import, Module as LoadModule, Take}
use Rattle.py_code.specs.declared.instr.Instr.TheVariants.{Raise, Reraise, Assertion, AssertionWith, Catches, Caught, Uncaught, Leave, Ending, Breaking, Continuing, Returning, Settle, Release}
use Rattle.py_code.specs.declared.unit.Handler.{Handler}
use Rattle.py_code.specs.Footprints.{Exit, Footprint, quiet, risky, footprint, is_mark}
use Rattle.py_code.specs.Units.{Code, handler_of}
use Rattle.py_code.specs.Valid.{HasNumbers, marks_at, Leads, LeadAll, LandsAt, LandsIf, FitsAt}
use Rattle.py_compile_expr.specs.Cells.{Op, constant, load, store, unset, attribute, method, imports, module_named, takes, marks, marks_again, plain, Guard, Cell, Tables, place_in, instr_of}
use Rattle.py_compile_expr.specs.Stands.{tables_in, HasVariable, IsKnown, Guards, StandsAt, HasAt}
use Rattle.py_code_laws.proofs.Blocks.{Layout, print, marks_line, IsPlain, IsNamed, Goes, GoAll, LiesAhead, Leaves, LeavesIf, Fits, AllFit, Stands, MarksLines}

-- ---- the layout

abbrev pub line_here : Option Cell → Bool
line_here None = false
line_here (Some c) = marks_line c.op

abbrev pub layout_of : List Cell → List ℕ → Layout
layout_of cs ds = record { depth = slice_get ds; marked = λ p. line_here (slice_get cs p) }

stand_all : (l : Layout) (p : ℕ) (ds : List ℕ) → ((k : ℕ) (d : ℕ) → slice_get ds k ≡ Some d → l.depth (p + k) ≡ Some d) → Stands l p ds
stand_all l p [] h = tt
stand_all l p (d ∷ ds) h =
    let here : p + 0 ≡ p = omega arith in
    let next : (k : ℕ) → p + 1 + k ≡ p + suc k = λ k. omega arith in
    (sym (ap l.depth here) ∙ h 0 d refl, stand_all l (p + 1) ds (λ k e is. ap l.depth (next k) ∙ h (suc k) e is))

mark_all : (l : Layout) (p : ℕ) (cs : List Cell) → ((k : ℕ) (c : Cell) → slice_get cs k ≡ Some c → l.marked (p + k) ≡ marks_line c.op) → MarksLines l p cs
mark_all l p [] h = tt
mark_all l p (c ∷ cs) h =
    let here : p + 0 ≡ p = omega arith in
    let next : (k : ℕ) → p + 1 + k ≡ p + suc k = λ k. omega arith in
    (sym (ap l.marked here) ∙ h 0 c refl, mark_all l (p + 1) cs (λ k e is. ap l.marked (next k) ∙ h (suc k) e is))

pub stands_here : (cs : List Cell) (ds : List ℕ) → Stands (layout_of cs ds) 0 ds
stands_here cs ds = let same : (k : ℕ) → 0 + k ≡ k = λ k. omega arith in stand_all (layout_of cs ds) 0 ds (λ k d e. ap (slice_get ds) (same k) ∙ e)

pub marks_here : (cs : List Cell) (ds : List ℕ) → MarksLines (layout_of cs ds) 0 cs
marks_here cs ds = let same : (k : ℕ) → 0 + k ≡ k = λ k. omega arith in mark_all (layout_of cs ds) 0 cs (λ k c e. ap (λ n. line_here (slice_get cs n)) (same k) ∙ ap line_here e)

-- ---- the cell at a place

-- so many operands stand there
pub record Picked (l : Layout) (units p d : ℕ) (o : Option Cell) : Type 0 where
  pub one : Cell
  pub is : o ≡ Some one
  pub fits : Fits l units p d one

pub picked : (l : Layout) (units q : ℕ) (cs : List Cell) (ds : List ℕ) → AllFit l units q cs ds → length ds ≡ length cs → (k d : ℕ) → slice_get ds k ≡ Some d → Picked l units (q + k) d (slice_get cs k)
picked l units q [] [] all long k d e = absurd cc
picked l units q [] (x ∷ ds) all long k d e = absurd (omega (arith, long))
picked l units q (c ∷ cs) [] all long k d e = absurd all
picked l units q (c ∷ cs) (x ∷ ds) all long zero d e =
    let same : x ≡ d = cc in
    let here : q ≡ q + 0 = omega arith in
    record { one = c; is = refl; fits = subst (λ n. Fits l units n d c) here (subst (λ n. Fits l units q n c) same all.0) }
picked l units q (c ∷ cs) (x ∷ ds) all long (suc k) d e =
    let r = picked l units (q + 1) cs ds all.1 (omega (arith, long)) k d e in
    let there : q + 1 + k ≡ q + suc k = omega arith in
    record { one = r.one; is = r.is; fits = subst (λ n. Fits l units n d r.one) there r.fits }

known_at : (u : Code) (q : ℕ) (cs : List Cell) → HasAt u q cs → (k : ℕ) (c : Cell) → slice_get cs k ≡ Some c → StandsAt u (q + k) c
known_at u q [] h k c e = absurd cc
known_at u q (x ∷ cs) h zero c e =
    let same : x ≡ c = cc in
    let here : q ≡ q + 0 = omega arith in
    subst (λ n. StandsAt u n c) here (subst (λ y. StandsAt u q y) same h.0)
known_at u q (x ∷ cs) h (suc k) c e =
    let there : q + 1 + k ≡ q + suc k = omega arith in
    subst (λ n. StandsAt u n c) there (known_at u (q + 1) cs h.1 k c e)

-- ---- numbers

plain_numbers : (u : Code) (units : ℕ) (i : Instr) → IsPlain units i → HasNumbers u units i
plain_numbers u units (Constant n) h = absurd h
plain_numbers u units Pop h = tt
plain_numbers u units (Copy n) h = tt
plain_numbers u units (Sink n) h = tt
plain_numbers u units (Roll n) h = tt
plain_numbers u units (LoadLocal n) h = absurd h
plain_numbers u units (StoreLocal n) h = absurd h
plain_numbers u units (UnsetLocal n) h = absurd h
plain_numbers u units (LoadGlobal n) h = absurd h
plain_numbers u units (StoreGlobal n) h = absurd h
plain_numbers u units (UnsetGlobal n) h = absurd h
plain_numbers u units Text h = tt
plain_numbers u units Extend h = tt
plain_numbers u units (Tuple n) h = tt
plain_numbers u units (MakeList n) h = tt
plain_numbers u units Dict h = tt
plain_numbers u units AddPair h = tt
plain_numbers u units Not h = tt
plain_numbers u units (Binary op) h = tt
plain_numbers u units (InPlace op) h = tt
plain_numbers u units (Compare q) h = tt
plain_numbers u units Index h = tt
plain_numbers u units (Slice b) h = tt
plain_numbers u units (Attribute n) h = absurd h
plain_numbers u units StoreIndex h = tt
plain_numbers u units (Unpack n) h = tt
plain_numbers u units (Goto to) h = tt
plain_numbers u units (IfFalse to) h = tt
plain_numbers u units (IfTrue to) h = tt
plain_numbers u units (And to) h = tt
plain_numbers u units (Or to) h = tt
plain_numbers u units (Link q to) h = tt
plain_numbers u units (Unless n to) h = tt
plain_numbers u units (Sequence k n to) h = tt
plain_numbers u units (Mark n) h = absurd h
plain_numbers u units (Again n) h = absurd h
plain_numbers u units Walk h = tt
plain_numbers u units (NextItem to) h = tt
plain_numbers u units (Method n) h = absurd h
plain_numbers u units (Call n) h = tt
plain_numbers u units Return h = tt
plain_numbers u units (Function k) h = h
plain_numbers u units (FunctionWith k) h = h
plain_numbers u units (Import n) h = absurd h
plain_numbers u units (LoadModule n) h = absurd h
plain_numbers u units (Take m n) h = absurd h
plain_numbers u units Raise h = tt
plain_numbers u units (Reraise n) h = tt
plain_numbers u units Assertion h = tt
plain_numbers u units AssertionWith h = tt
plain_numbers u units Catches h = tt
plain_numbers u units Caught h = tt
plain_numbers u units Uncaught h = tt
plain_numbers u units (Leave n to) h = tt
plain_numbers u units Ending h = tt
plain_numbers u units (Breaking n to) h = tt
plain_numbers u units (Continuing n to) h = tt
plain_numbers u units (Returning n to) h = tt
plain_numbers u units Settle h = tt
plain_numbers u units Release h = tt

numbers_known : (u : Code) (units : ℕ) (op : Op) → IsNamed units op → IsKnown (tables_in u) op → HasNumbers u units (instr_of (tables_in u) op)
numbers_known u units (constant k) named h = slice_get_within u.constants _ k h
numbers_known u units (load x) named h = by_case (is_among u.locals x) h
  where
    by_case : (b : Bool) → HasVariable b (tables_in u) x → HasNumbers u units (if b then LoadLocal (place_in is_same_text u.locals x) else LoadGlobal (place_in is_same_text u.names x))
    by_case true k = slice_get_within u.locals _ x k
    by_case false k = slice_get_within u.names _ x k
numbers_known u units (store x) named h = by_case (is_among u.locals x) h
  where
    by_case : (b : Bool) → HasVariable b (tables_in u) x → HasNumbers u units (if b then StoreLocal (place_in is_same_text u.locals x) else StoreGlobal (place_in is_same_text u.names x))
    by_case true k = slice_get_within u.locals _ x k
    by_case false k = slice_get_within u.names _ x k
numbers_known u units (unset x) named h = by_case (is_among u.locals x) h
  where
    by_case : (b : Bool) → HasVariable b (tables_in u) x → HasNumbers u units (if b then UnsetLocal (place_in is_same_text u.locals x) else UnsetGlobal (place_in is_same_text u.names x))
    by_case true k = slice_get_within u.locals _ x k
    by_case false k = slice_get_within u.names _ x k
numbers_known u units (attribute x) named h = slice_get_within u.names _ x h
numbers_known u units (method x) named h = slice_get_within u.names _ x h
numbers_known u units (imports x) named h = slice_get_within u.names _ x h
numbers_known u units (module_named x) named h = slice_get_within u.names _ x h
numbers_known u units (takes m x) named h = (slice_get_within u.names _ m h.0, slice_get_within u.names _ x h.1)
numbers_known u units (marks l) named h = slice_get_within u.lines _ l h
numbers_known u units (marks_again l) named h = slice_get_within u.lines _ l h
numbers_known u units (plain i) named h = plain_numbers u units i named

-- ---- footprints and marks

printed : (t : Tables) (p : ℕ) (op : Op) → footprint p (instr_of t op) ≡ print p op
printed t p (constant k) = refl
printed t p (load x) = by_case (is_among t.own x) _ _
  where
    by_case : (b : Bool) (m n : ℕ) → footprint p (if b then LoadLocal m else LoadGlobal n) ≡ risky p 0 1
    by_case true m n = refl
    by_case false m n = refl
printed t p (store x) = by_case (is_among t.own x) _ _
  where
    by_case : (b : Bool) (m n : ℕ) → footprint p (if b then StoreLocal m else StoreGlobal n) ≡ quiet p 1 0
    by_case true m n = refl
    by_case false m n = refl
printed t p (unset x) = by_case (is_among t.own x) _ _
  where
    by_case : (b : Bool) (m n : ℕ) → footprint p (if b then UnsetLocal m else UnsetGlobal n) ≡ quiet p 0 0
    by_case true m n = refl
    by_case false m n = refl
printed t p (attribute x) = refl
printed t p (method x) = refl
printed t p (imports x) = refl
printed t p (module_named x) = refl
printed t p (takes m x) = refl
printed t p (marks l) = refl
printed t p (marks_again l) = refl
printed t p (plain i) = refl

mark_is : (t : Tables) (op : Op) → marks_line op ≡ true → is_mark (instr_of t op) ≡ true
mark_is t (constant k) e = absurd cc
mark_is t (load x) e = absurd cc
mark_is t (store x) e = absurd cc
mark_is t (unset x) e = absurd cc
mark_is t (attribute x) e = absurd cc
mark_is t (method x) e = absurd cc
mark_is t (imports x) e = absurd cc
mark_is t (module_named x) e = absurd cc
mark_is t (takes m x) e = absurd cc
mark_is t (marks l) e = refl
mark_is t (marks_again l) e = refl
mark_is t (plain i) e = absurd cc

-- ---- the unit

module _ (u : Code) (units : ℕ) (cs : List Cell) (ds : List ℕ) (has : HasAt u 0 cs) where
  abbrev lay : Layout
  lay = layout_of cs ds

  cell_known : (p : ℕ) (c : Cell) → slice_get cs p ≡ Some c → StandsAt u p c
  cell_known p c e = let same : 0 + p ≡ p = omega arith in subst (λ n. StandsAt u n c) same (known_at u 0 cs has p c e)

  mark_found : (p : ℕ) (o : Option Cell) → slice_get cs p ≡ o → line_here o ≡ true → marks_at (slice_get u.instrs p) ≡ true
  mark_found p None e m = absurd cc
  mark_found p (Some c) e m = ap marks_at (cell_known p c e).instr ∙ mark_is (tables_in u) c.op m

  leads : (p to d : ℕ) → Goes lay p to d → Leads u ds p to d
  leads p to d g = record { stands = g.stands; ahead = onto g.ahead }
    where
      onto : (p < to) ⊎ (line_here (slice_get cs to) ≡ true) → (p < to) ⊎ (marks_at (slice_get u.instrs to) ≡ true)
      onto (inl lt) = inl lt
      onto (inr m) = inr (mark_found to (slice_get cs to) refl m)

  lead_all : (p rest : ℕ) (es : List Exit) → GoAll lay p rest es → LeadAll u ds p rest es
  lead_all p rest [] h = tt
  lead_all p rest (e ∷ es) h = (leads p e.to (e.leaves + rest) h.0, lead_all p rest es h.1)

  lands_at : (p rest : ℕ) (g : Option Guard) (o : Option Handler) → Guards g o → LiesAhead lay p g → Leaves g rest → LandsAt ds p rest o
  lands_at p rest None None k b n = tt
  lands_at p rest None (Some h) k b n = absurd k
  lands_at p rest (Some g) None k b n = absurd k
  lands_at p rest (Some g) (Some h) k b n = record {
    enough = omega (arith, k.1, n);
    stands = ap (slice_get ds) k.0 ∙ b.0 ∙ ap (λ d. Some (suc d)) (sym k.1);
    ahead = omega (arith, k.0, b.1);
  }

  lands_if : (b : Bool) (p rest : ℕ) (g : Option Guard) → Guards g (handler_of p u.handlers) → LiesAhead lay p g → LeavesIf b g rest → LandsIf b u ds p rest
  lands_if false p rest g k handler n = tt
  lands_if true p rest g k handler n = lands_at p rest g (handler_of p u.handlers) k handler n

  fits_with : (p depth : ℕ) (c : Cell) (i : Instr) (f : Footprint) → footprint p i ≡ f → (rest : ℕ) → depth ≡ f.takes + rest → f.needs ≤ depth → GoAll lay p rest f.exits → LeavesIf f.raises c.guard rest → LiesAhead lay p c.guard
      → Guards c.guard (handler_of p u.handlers) → HasNumbers u units i → FitsAt u units ds p depth i
  fits_with p depth c i f e rest split enough goes leaves handler guards numbers =
      let left : rest ≡ depth - f.takes = omega arith in
      record {
        numbers = numbers;
        enough = subst (λ (k : Footprint). k.needs ≤ depth) (sym e) enough;
        leads = subst (λ (k : Footprint). LeadAll u ds p (depth - k.takes) k.exits) (sym e) (lead_all p (depth - f.takes) f.exits (subst (λ n. GoAll lay p n f.exits) left goes));
        lands = subst (λ (k : Footprint). LandsIf k.raises u ds p (depth - k.takes)) (sym e) (lands_if f.raises p (depth - f.takes) c.guard guards handler (subst (λ n. LeavesIf f.raises c.guard n) left leaves));
      }

  pub fits_at : AllFit lay units 0 cs ds → length ds ≡ length cs → (p depth : ℕ) (i : Instr) → slice_get ds p ≡ Some depth → slice_get u.instrs p ≡ Some i → FitsAt u units ds p depth i
  fits_at all long p depth i e is =
      let same : 0 + p ≡ p = omega arith in
      let k = picked lay units 0 cs ds all long p depth e in
      let fit : Fits lay units p depth k.one = subst (λ n. Fits lay units n depth k.one) same k.fits in
      let known = cell_known p k.one k.is in
      let one : instr_of (tables_in u) k.one.op ≡ i = some_same (sym known.instr ∙ is) in
      subst (λ j. FitsAt u units ds p depth j) one
      (fits_with p depth k.one (instr_of (tables_in u) k.one.op) (print p k.one.op) (printed (tables_in u) p k.one.op) fit.rest fit.split fit.enough fit.leads fit.leaves fit.handler known.guard
      (numbers_known u units k.one.op fit.named known.knows))
    where
      some_same : {A : Type 0} {x y : A} → Some x ≡ Some y → x ≡ y
      some_same h = cc
