-- How a program ends over objects.
--     Starves           memory was wanting
--     Ends, Follows     a program leads from one state to another, and ends so
--     IsOpen            memory may be wanting where it begins
--     seen              a result, with its value seen so
use Rattle.std.specs.Prelude.{◌≡◌, ◌⊎◌, Result, Ok, Err}
use Rattle.cov_programs.specs.Programs.{Program, give, settle, refuse, ask}
use Rattle.cov_programs.specs.Objects.{Moves}

-- Memory was wanting, for which these refusals stand: nothing was called any more.
pub record Starves {R A W : Type 0} (wants : R → Type 0) (old : W) (ending : Result A R) (new : W)
    : Type 0 where
  pub why : R
  pub wanting : wants why
  pub is : ending ≡ Err why
  pub same : new ≡ old

-- The objects answer one call after another, and the program ends as their answers say. Where
-- memory may be wanting, it may be so before each call, and before anything is given that isn't
-- settled.
abbrev pub Ends : {C : Type 0} {Answer : C → Type 0} {R A W : Type 0} → Moves C Answer W
    → (R → Type 0) → Program C Answer R A → W → Result A R → W → Type 0
Ends moves wants (give a) old ending new =
    Starves wants old ending new ⊎ ((ending ≡ Ok a) × (new ≡ old))
Ends moves wants (settle a) old ending new = (ending ≡ Ok a) × (new ≡ old)
Ends moves wants (refuse r) old ending new =
    Starves wants old ending new ⊎ ((ending ≡ Err r) × (new ≡ old))
Ends {Answer = Answer} {W = W} moves wants (ask call f) old ending new =
    Starves wants old ending new
    ⊎ ((answer : Answer call) × (mid : W) × moves old call answer mid
    × Ends moves wants (f answer) mid ending new)

-- So it ends. It is a record, so that its arguments are found.
pub record Follows {C : Type 0} {Answer : C → Type 0} {R A W : Type 0} (moves : Moves C Answer W)
    (wants : R → Type 0) (p : Program C Answer R A) (old : W) (ending : Result A R) (new : W)
    : Type 0 where
  pub ends : Ends moves wants p old ending new

-- memory may be wanting where the program begins
abbrev pub IsOpen : {C : Type 0} {Answer : C → Type 0} {R A : Type 0} → Program C Answer R A
    → Type 0
IsOpen (give a) = Unit {0}
IsOpen (settle a) = ⊥
IsOpen (refuse r) = Unit {0}
IsOpen (ask call f) = Unit {0}

-- a result, with its value seen so
abbrev pub seen : {X A R : Type 0} → (X → A) → Result X R → Result A R
seen view (Ok x) = Ok (view x)
seen view (Err r) = Err r
