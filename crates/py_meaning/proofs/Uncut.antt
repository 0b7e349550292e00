-- Only steps cut a run: calls of enough depth are as deep as any.
use Rattle.std.proofs.Common.{◌≡◌, ℕ, suc, ◌≤◌, List, refl, ap, ◌∙◌, arith}
use Rattle.py_value.specs.Plain.{PlainValue}
use Rattle.py_meaning.specs.Computations.{State, Res, done, cut}
use Rattle.py_meaning.specs.Frames.{unit_call, calls}
use Rattle.py_meaning.specs.Laws.{UncutLaw}
use Rattle.py_meaning.specs.Modules.{LoadedModule}
use Rattle.py_meaning.proofs.Budget.{Same, Agrees}
use Rattle.py_meaning.proofs.ProgramLaws.{agree-calls}
use Rattle.py_meaning.proofs.SteadyStatements.{whiles_turn, fors_turn}

-- two runs with as many steps are the same
one_run : {A : Type 0} (s : State) (n : ℕ) (r q : Res A) → Same s n n r q → r ≡ q
one_run s n (done a u l) (done b t k) h = let e : l ≡ k = omega (arith, h.3) in rw (h.0, h.1, e) refl
one_run s n (done a u l) (cut t) h = absurd (omega (arith, h.0, h.1))
one_run s n (cut u) (done b t k) h = absurd (omega (arith, h.0, h.1))
one_run s n (cut u) (cut t) h = ap cut (h.4 refl)

depths : (ms : List LoadedModule) (depth other m u : ℕ) (vs : List PlainValue) (s : State) (n : ℕ) → n ≤ depth → n ≤ other → calls ms depth m u vs s n ≡ calls ms other m u vs s n
unfolding Agrees
depths ms depth other m u vs s n h k = one_run s n _ _ (agree-calls n ms depth other h k m u vs s n n (omega arith) (omega arith))

-- one depth more is that of a call round the calls
once_more : (ms : List LoadedModule) (depth m u : ℕ) (vs : List PlainValue) (s : State) (n : ℕ) → calls ms (suc depth) m u vs s n ≡ unit_call (calls ms depth) ms m u vs s n
unfolding calls
once_more ms depth m u vs s n = refl

pub uncut_law : UncutLaw
uncut_law = record {
  of_calls = λ ms depth m u vs s n h. depths ms depth (suc depth) m u vs s n h (omega arith) ∙ once_more ms depth m u vs s n;
  of_depths = depths;
  of_while = whiles_turn;
  of_for = fors_turn;
}
