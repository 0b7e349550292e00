-- The units of cells have them.
use Rattle.std.proofs.Common.{◌≡◌, ℕ, zero, suc, ◌+◌, ◌<◌, ◌≤◌, true, false, List, [], ◌∷◌, length, map, drop, Option, Some, None, refl, sym, ap, ◌∙◌, subst, arith}
use Rattle.std.specs.Prelude.{slice_get, nat_lt, if◌then◌else◌}
use Rattle.std.proofs.lemmas.List.{length-map}
use Rattle.std.proofs.lemmas.Bool.Decides.{nat_tests}
use Rattle.py_syntax.specs.Functions.{Function, functions, without_docstring}
use Rattle.py_syntax.specs.Names.{local_names}
use Rattle.py_syntax.specs.Tree.{Text}
use Rattle.py_code.specs.Units.{Code, handler_of}
use Rattle.py_compile_expr.specs.Cells.{Guard, Cell, Tables, instr_of, tables_of}
use Rattle.py_compile_expr.specs.Stands.{tables_in, Guards, HasAt}
use Rattle.py_compile.specs.Faithful.{IsFaithful}
use Rattle.py_compile.specs.Laws.{UnitsAreFaithful}
use Rattle.py_compile.specs.Units.{unit_of_cells, body_cells, body_function}
use Rattle.py_compile.proofs.DefinitionLaw.{all_functions}
use Rattle.py_compile.proofs.Numbering.{AllKnown, grows_all, all_known_here}
use Rattle.py_compile.proofs.Ranges.{column, columns}

first_of : {A : Type 0} (xs : List A) (p : ℕ) (y : A) (ys : List A) → drop p xs ≡ y ∷ ys → (slice_get xs p ≡ Some y) × (drop (suc p) xs ≡ ys)
first_of [] zero y ys e = absurd cc
first_of [] (suc p) y ys e = absurd cc
first_of (x ∷ xs) zero y ys e = (cc, cc)
first_of (x ∷ xs) (suc p) y ys e = first_of xs p y ys e

at_itself : (g : Option Guard) (p : ℕ) (c : Cell) (cs : List Cell) → column g p (c ∷ cs) p ≡ c.guard
at_itself g p c cs =
    let no : nat_lt p p ≡ false = grind (arith, nat_tests) in ap (λ b. if b then g else column c.guard (p + 1) cs p) no ∙ behind cs
  where
    behind : (ds : List Cell) → column c.guard (p + 1) ds p ≡ c.guard
    behind [] = refl
    behind (d ∷ ds) = let yes : nat_lt p (p + 1) ≡ true = grind (arith, nat_tests) in ap (λ b. if b then c.guard else column d.guard (p + 1 + 1) ds p) yes

further : (g : Option Guard) (p : ℕ) (c : Cell) (cs : List Cell) (q : ℕ) → p + 1 ≤ q → column g p (c ∷ cs) q ≡ column c.guard (p + 1) cs q
further g p c cs q le = let no : nat_lt q p ≡ false = grind (arith, nat_tests) in ap (λ b. if b then g else column c.guard (p + 1) cs q) no

stand : (u : Code) (p : ℕ) (g : Option Guard) (cs : List Cell) → drop p u.instrs ≡ map (λ c. instr_of (tables_in u) c.op) cs → AllKnown (tables_in u) cs
    → ((q : ℕ) → p ≤ q → q < p + length cs → Guards (column g p cs q) (handler_of q u.handlers)) → HasAt u p cs
stand u p g [] e k h = tt
stand u p g (c ∷ cs) e k h =
    let here = first_of u.instrs p (instr_of (tables_in u) c.op) (map (λ d. instr_of (tables_in u) d.op) cs) e in
    let next : p + 1 ≡ suc p = omega arith in (
      record { instr = here.0; knows = k.0; guard = subst (λ o. Guards o (handler_of p u.handlers)) (at_itself g p c cs) (h p (omega arith) (omega arith)) },
      stand u (p + 1) c.guard cs (ap (λ q. drop q u.instrs) next ∙ here.1) k.1 (λ q lo hi. subst (λ o. Guards o (handler_of q u.handlers)) (further g p c cs q lo) (h q (omega arith) (omega arith))),
    )

cells_stand : (f : Function) (defaults : ℕ) (own : List Text) (cs : List Cell) → HasAt (unit_of_cells f defaults own cs) 0 cs
cells_stand f defaults own cs =
    stand (unit_of_cells f defaults own cs) 0 None cs refl (all_known_here (record { own = own; names = []; constants = []; lines = [] }) cs)
    (λ q lo hi. columns 0 None 0 cs q (omega arith) lo hi)

own_kept : (t : Tables) (cs : List Cell) → (tables_of t cs).own ≡ t.own
own_kept t cs = sym (grows_all t cs).own

faithful : (fs : List Function) (f : Function) (defaults : ℕ) (own : List Text) → IsFaithful fs f defaults own (unit_of_cells f defaults own (body_cells fs (without_docstring f.body)))
faithful fs f defaults own =
    let cells = body_cells fs (without_docstring f.body) in
    record {
      name = refl;
      first = refl;
      params = refl;
      defaults = refl;
      locals = own_kept (record { own = own; names = []; constants = []; lines = [] }) cells;
      has = cells_stand f defaults own cells;
      whole = length-map cells _;
    }

pub units_faithful : UnitsAreFaithful
units_faithful = record {
  body = λ b. faithful (functions b) (body_function b) 0 [];
  function = λ b d. faithful (functions b) d.function d.defaults (local_names d.function.params d.function.body);
  functions = all_functions;
}
