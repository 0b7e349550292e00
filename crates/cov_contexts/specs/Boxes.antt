-- A plugin in a box, whose type isn't known.
use Rattle.std.specs.Prelude.{◌≡◌, ℕ, List}
use Rattle.std.specs.declared.alloc.Global.{Global}
use Rattle.std.specs.declared.dyn_box.DynBox.{DynBox}
use Rattle.cov_event.specs.declared.plugin.ContextPlugin.{Ghosts as HeldOf}
use Rattle.cov_event.specs.declared.plugin.Verdict.{Verdict}

-- it answers about a function, and the box then holds its new state
abbrev pub BoxMoves : {I : Type 0} {C : I → Type 0} →
    ((b : DynBox I Global C) → HeldOf (C b.vtable)) →
    DynBox I Global C → List ℕ → List ℕ → Verdict → DynBox I Global C → Type 0
BoxMoves {C = C} held old «module» function verdict new =
    (state : C old.vtable) × (new ≡ record old { value = state })
    × (held old).moves old.value «module» function verdict state
