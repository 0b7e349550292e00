-- Scripts as trees, and what hooks of them mean.
use Rattle.std.proofs.Common.{◌≡◌, ◌<◌, ℕ, zero, suc, Bool, true, false, List, [], ◌∷◌, length, get_or, Option, Some, None, is_some, refl, ap, arith}
use Rattle.std.specs.Prelude.{codes}
use Rattle.py_builtins.specs.World.{World}
use Rattle.py_operator.specs.declared.operator.BinOp.TheVariants.{Add}
use Rattle.py_operator.specs.declared.operator.CmpOp.TheVariants.{Eq}
use Rattle.py_syntax.specs.declared.expr.Comparison.TheVariants.{Op}
use Rattle.py_syntax.specs.Tree as T
use Rattle.py_syntax.specs.Tree.{Expr, Stmts, StmtKind}
use Rattle.py_meaning.proofs.Sources.{runs, var, num, quote, items, call, line, end}
use Rattle.py_meaning.specs.Modules.{LoadedModule}
use Rattle.cov_hook.specs.Questions.{label_of, world_after_call}
use Rattle.cov_hook_laws.specs.MeantHooks.{MeantHook, meant_opened, meant_call, def_names, HasDef}

-- the answers to so many questions for a call of `test_a` of `__main__`, and whether the hook is on
-- after each
abbrev answers : MeantHook → ℕ → Option World → List (Option (List ℕ) × Bool)
answers h zero world = []
answers h (suc n) None = (None, false) ∷ answers h n None
answers h (suc n) (Some w) =
    let answer = meant_call h.modules h.function (codes "__main__") (codes "test_a") w in
    let after = world_after_call answer.returned answer.world in
    (label_of answer.returned, is_some after) ∷ answers h n after

-- of a hook that was opened
abbrev asked : List LoadedModule → ℕ → List (Option (List ℕ) × Bool)
asked ms n = let h = meant_opened ms (codes "hk.py") (codes "label") in answers h n h.world

-- the script alone
abbrev alone : Stmts → List LoadedModule
alone body = record { name = codes "__main__"; path = codes "hk.py"; body = body } ∷ []

-- defines the function of the hook
abbrev label : ℕ → Stmts → Stmts
label n body = line n (T.def (codes "label") (codes "m" ∷ codes "f" ∷ []) (items []) false (T.suite n n false body)) end

-- gives a statement alone in a suite
abbrev only_if : ℕ → Expr → StmtKind → StmtKind
only_if n test k = T.if' (T.arm test (T.suite n n false (line (suc n) k end)) T.no_arms) T.no_suite

-- a name beside a number
abbrev is_equal : Expr → ℕ → Expr
is_equal e n = T.compare e (T.link (Op Eq) (num n) T.no_links)

-- one more call
abbrev count : ℕ → Stmts → Stmts
count n rest =
    line n (T.global (codes "n" ∷ [])) (
    line (suc n) (T.assign (items (var "n" ∷ [])) (T.binary Add (var "n") (num 1))) rest)

-- from 0 on
abbrev begins : Stmts → Stmts
begins rest = line 1 (T.assign (items (var "n" ∷ [])) (num 0)) rest

-- Hook and plugin
--  1  n = 0
--  2  def label(m, f):
--  3      global n
--  4      n = n + 1
--  5      print(n)
--  6      if n == 3:
--  7          raise ValueError
--  8      return "h" + str(n)
abbrev counting : List LoadedModule
counting =
    alone (begins (label 2 (count 3 (
    line 5 (T.expr (call (var "print") (var "n" ∷ []))) (
    line 6 (only_if 6 (is_equal (var "n") 3) (T.raise (Some (var "ValueError")))) (
    line 8 (T.return (Some (T.binary Add (quote "h") (call (var "str") (var "n" ∷ []))))) end))))))

function : def_names counting ≡ codes "label" ∷ []
unfolding runs
function = refl

-- it isn't `none`, which is shorter
another : (i : ℕ) → i < 1 → get_or (codes "label" ∷ []) i (codes "none") ≡ codes "none" → ⊥
another zero lt e = shorter 5 4 refl refl (ap length e)
  where
    shorter : (m n : ℕ) → m ≡ 5 → n ≡ 4 → m ≡ n → ⊥
    shorter m n a b e = omega arith
another (suc i) lt e = omega arith

-- and no other
no_function : HasDef counting (codes "none") → ⊥
unfolding runs
no_function h = another h.0 h.1 h.2

-- off once the call raised
counted : asked counting 4
    ≡ (Some (codes "h1"), true) ∷ (Some (codes "h2"), true) ∷ (None, false) ∷ (None, false) ∷ []
unfolding runs
counted = refl

-- No text at first
--  5      if n == 1:
--  6          return n
--  7      return m + "." + f
abbrev naming : Stmts
naming =
    label 2 (count 3 (
    line 5 (only_if 5 (is_equal (var "n") 1) (T.return (Some (var "n")))) (
    line 7 (T.return (Some (T.binary Add (T.binary Add (var "m") (quote ".")) (var "f")))) end)))

-- goes on after a number
named : asked (alone (begins naming)) 2 ≡ (None, true) ∷ (Some (codes "__main__.test_a"), true) ∷ []
unfolding runs
named = refl

-- A script that raises
--  1  raise ValueError
abbrev raising : List LoadedModule
raising = alone (line 1 (T.raise (Some (var "ValueError"))) naming)

-- off from the start
never : asked raising 1 ≡ (None, false) ∷ []
unfolding runs
never = refl

-- A function that never ends
--  3      while True:
--  4          pass
abbrev endless : List LoadedModule
endless =
    alone (label 2 (line 3 (T.while (T.bool true) (T.suite 3 3 false (line 4 T.pass end)) T.no_suite) end))

-- off once a call was cut
ended : asked endless 1 ≡ (None, false) ∷ []
unfolding runs
ended = refl
