-- Where the code of a tree stands in a unit.
--     tables_in                  the lists of a unit
--     IsKnown, Guards            what an instruction needs there, and the handler of its place
--     StandsAt, HasAt            a cell at a place, and cells from a place on
use Rattle.std.specs.Prelude.{◌≡◌, ℕ, ◌+◌, ◌==◌, Bool, true, false, List, [], ◌∷◌, Option, Some, None, slice_get}
use Rattle.py_text.specs.Comparison.{is_same_text}
use Rattle.py_syntax.specs.Names.{is_among}
use Rattle.py_syntax.specs.Tree.{Text}
use Rattle.py_code.specs.declared.unit.Handler.{Handler}
use Rattle.py_code.specs.Units.{Code, handler_of}
use Rattle.py_compile_expr.specs.Cells.{Op, constant, load, store, unset, attribute, method, imports, module_named, takes, marks, marks_again, plain, Guard, Cell, Tables, place_in, is_same_constant, instr_of}

-- the lists of a unit
abbrev pub tables_in : Code → Tables
tables_in u = record { own = u.locals; names = u.names; constants = u.constants; lines = u.lines }

-- what is looked for stands at its place
abbrev pub Finds : {A : Type 0} → (A → A → Bool) → List A → A → Type 0
Finds same xs x = slice_get xs (place_in same xs x) ≡ Some x

-- a variable, where it is one of the unit's own or not
abbrev pub HasVariable : Bool → Tables → Text → Type 0
HasVariable true t x = Finds is_same_text t.own x
HasVariable false t x = Finds is_same_text t.names x

-- what an instruction names stands in the lists of its unit
abbrev pub IsKnown : Tables → Op → Type 0
IsKnown t (constant k) = Finds is_same_constant t.constants k
IsKnown t (load x) = HasVariable (is_among t.own x) t x
IsKnown t (store x) = HasVariable (is_among t.own x) t x
IsKnown t (unset x) = HasVariable (is_among t.own x) t x
IsKnown t (attribute x) = Finds is_same_text t.names x
IsKnown t (method x) = Finds is_same_text t.names x
IsKnown t (imports x) = Finds is_same_text t.names x
IsKnown t (module_named x) = Finds is_same_text t.names x
IsKnown t (takes m x) = Finds is_same_text t.names m × Finds is_same_text t.names x
IsKnown t (marks l) = Finds (λ a b. a == b) t.lines l
IsKnown t (marks_again l) = Finds (λ a b. a == b) t.lines l
IsKnown t (plain i) = Unit {0}

-- a handler of the table is the one of a cell
abbrev pub Guards : Option Guard → Option Handler → Type 0
Guards None None = Unit {0}
Guards None (Some h) = ⊥
Guards (Some g) None = ⊥
Guards (Some g) (Some h) = (h.target ≡ g.target) × (h.depth ≡ g.depth)

-- a cell stands at a place of a unit
pub record StandsAt (u : Code) (p : ℕ) (c : Cell) : Type 0 where
  pub instr : slice_get u.instrs p ≡ Some (instr_of (tables_in u) c.op)
  pub knows : IsKnown (tables_in u) c.op
  pub guard : Guards c.guard (handler_of p u.handlers)

-- cells stand in a unit, from a place on
abbrev pub HasAt : Code → ℕ → List Cell → Type 0
HasAt u p [] = Unit {0}
HasAt u p (c ∷ cs) = StandsAt u p c × HasAt u (p + 1) cs
