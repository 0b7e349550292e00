-- Where a run stands between blocks, and what a statement costs.
--     names_of, set_to, at_t     the states between blocks
--     place                      the place of a statement of the first module
--     Ended, of_same             a statement that ended, paid for
use Rattle.std.proofs.Common.{◌≡◌, ℕ, ◌+◌, ◌*◌, ◌≤◌, List, [], ◌∷◌, arith, ◌∙◌, ℤ, Option, Some, None}
use Rattle.std.specs.Prelude.{codes}
use Rattle.py_value.specs.Plain.{int_value, str_value, PlainHeap, PlainRaised}
use Rattle.py_builtins.specs.World.{Names}
use Rattle.py_meaning.specs.Activations.{Items}
use Rattle.py_meaning.specs.Computations.{Setting, State, Res, done}
use Rattle.py_meaning.specs.Modules.{LoadedModule}
use Rattle.py_meaning.specs.Places.{Place}
use Rattle.py_meaning.specs.Statements.{Out, normal}
use Rattle.cov_make_laws.specs.Trees.{t_name, i_name}
use Rattle.cov_make_laws.proofs.Integers.{val}

-- ---- states

-- the names of the module x: its own, `t`, and `i` after the first turn of a `for`
abbrev pub names_of : List ℕ → ℤ → Option ℤ → Names
names_of x t None = (codes "__name__", str_value x) ∷ (t_name, int_value t) ∷ []
names_of x t (Some i) =
    (codes "__name__", str_value x) ∷ (t_name, int_value t) ∷ (i_name, int_value i) ∷ []

-- what is set between two blocks
abbrev pub set_to : List ℕ → List ℕ → ℤ → Option ℤ → PlainHeap → Setting
set_to x input t i h = record {
  world = record { globals = names_of x t i ∷ []; begun = 0 ∷ []; heap = h; words = 0 };
  locals = [];
  frames = 1;
  input = input;
}

-- the state there, after these items
abbrev pub at_t : List ℕ → List ℕ → ℤ → Option ℤ → PlainHeap → Items → State
at_t x input t i h items = record { now = set_to x input t i h; out = []; items = items }

-- a place in the body of the first module
abbrev pub place : List LoadedModule → Option PlainRaised → Place
place ms handled =
    record { modules = ms; scope = record { number = 0; own = [] }; handled = handled }

-- ---- costs

-- A statement ended, and what it took is paid for: seven times its steps and twice what `t` stands
-- above -6 after it are at most twice what `t` stood above -6 before it, and the cost.
pub record Ended (x input : List ℕ) (u n cost : ℕ) (r : Res Out) : Type 0 where
  pub w : ℕ
  pub i : Option ℤ
  pub h : PlainHeap
  pub items : Items
  pub left : ℕ
  pub is : r ≡ done normal (at_t x input (val w) i h items) left
  pub fewer : left ≤ n
  pub paid : 7 * n + 2 * w ≤ 7 * left + 2 * u + cost

-- a result that is another's, after a part that has its own cost
pub of_same : (x input : List ℕ) (u w n m cost extra : ℕ) (r q : Res Out) → r ≡ q → m ≤ n
    → 7 * n + 2 * w ≤ 7 * m + 2 * u + extra → Ended x input w m cost q
    → Ended x input u n (extra + cost) r
of_same x input u w n m cost extra r q e f h d = record {
  w = d.w;
  i = d.i;
  h = d.h;
  items = d.items;
  left = d.left;
  is = e ∙ d.is;
  fewer = omega (arith, f, d.fewer);
  paid = omega (arith, h, d.paid);
}
