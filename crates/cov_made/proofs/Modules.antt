-- The one module of a source.
use Rattle.std.proofs.Common.{◌≡◌, ℕ, ◌<◌, List, [], ◌∷◌, length, slice_index_or, refl, arith}
use Rattle.py_code.specs.declared.code.Program.{Program}
use Rattle.py_meaning.specs.Modules.{LoadedModule, body_of}
use Rattle.py_syntax.specs.View.{plain_module}
use Rattle.py_syntax.specs.declared.stmt.Module.{Module}
use Rattle.cov_run.specs.Loads.{loaded_pairs}

none-one : (x : LoadedModule) → [] ≡ x ∷ [] → ⊥
none-one x e = cc

pub some-tree : (ps : List Program) (ms : List Module) (x : LoadedModule)
    → loaded_pairs ps ms ≡ x ∷ [] → 0 < length ms
some-tree [] ms x e = absurd (none-one x e)
some-tree (p ∷ ps) [] x e = absurd (none-one x e)
some-tree (p ∷ ps) (m ∷ ms) x e = omega arith

pub first-tree : (ps : List Program) (ms : List Module) (x : LoadedModule) (d : Module)
    → loaded_pairs ps ms ≡ x ∷ [] → plain_module (slice_index_or ms 0 d) ≡ body_of (loaded_pairs ps ms) 0
first-tree [] ms x d e = absurd (none-one x e)
first-tree (p ∷ ps) [] x d e = absurd (none-one x e)
first-tree (p ∷ ps) (m ∷ ms) x d e = refl
