-- What laws of programs speak of.
--     with_front                       a value in front of those that follow
--     Counting                         counts of faults that never fall
--     nothing_wants, IsFed             memory sufficed
--     IsWant, Yields                   a program is refused where an object wants memory
--     IsTelling                        where no count rises, objects answer as their contents say
--     AnswersOnce                      objects that answer in one way
--     IsSettled, IsCareful             what may change something comes last
--     OnlyKeeps                        nothing is changed
--     OnlyRefuses, IsLate              which refusals come after what may have changed something
--     CallsAtMost, LedBy               how often an object is called
--     BlamesOnly, Brought              a fault that only a failed call brings, and such a call
--     Parted, Folds                    one program after another, and over a list
use Rattle.std.specs.Prelude.{◌≡◌, ◌⊎◌, ℕ, zero, suc, Bool, true, false, if◌then◌else◌, List, [], ◌∷◌, Result, Ok, Err}
use Rattle.cov_programs.specs.Programs.{Program, give, settle, refuse, ask}
use Rattle.cov_programs.specs.Objects.{Moves}
use Rattle.cov_programs.specs.Ends.{Ends}

-- a value in front of those that follow
abbrev pub with_front : {B R : Type 0} → B → Result (List B) R → Result (List B) R
with_front b (Ok more) = Ok (b ∷ more)
with_front b (Err r) = Err r

-- ---- contents that are told

-- counts that never fall: states that come later, and calls in which no count rose
pub record Counting (W : Type 0) : Type 1 where
  pub Later : W → W → Type 0
  pub still : (w : W) → Later w w
  pub onward : {u v w : W} → Later u v → Later v w → Later u w
  pub NoneRose : W → W → Type 0
  pub before : {u v w : W} → Later u v → Later v w → NoneRose u w → NoneRose u v
  pub after : {u v w : W} → Later u v → Later v w → NoneRose u w → NoneRose v w

-- no refusal stands for want of memory
abbrev pub nothing_wants : {R : Type 0} → R → Type 0
nothing_wants r = ⊥

-- the ending isn't want of memory
abbrev pub IsFed : {R A : Type 0} → (R → Type 0) → Result A R → Type 0
IsFed wants (Ok a) = Unit {0}
IsFed wants (Err r) = ¬ (wants r)

-- refused for want of memory, and nothing else
abbrev pub IsWant : {C : Type 0} {Answer : C → Type 0} {R A : Type 0} → (R → Type 0)
    → Program C Answer R A → Type 0
IsWant wants (give a) = ⊥
IsWant wants (settle a) = ⊥
IsWant wants (refuse r) = wants r
IsWant wants (ask call f) = ⊥

-- an answer that an object gives for want of memory ends the program so
abbrev pub Yields : {C : Type 0} {Answer : C → Type 0} {R A : Type 0} → (R → Type 0)
    → ((call : C) → Answer call → Bool) → Program C Answer R A → Type 0
Yields wants hungry (give a) = Unit {0}
Yields wants hungry (settle a) = Unit {0}
Yields wants hungry (refuse r) = Unit {0}
Yields {Answer = Answer} wants hungry (ask call f) =
    (answer : Answer call)
    → (hungry call answer ≡ true → IsWant wants (f answer)) × Yields wants hungry (f answer)

-- Objects tell what they hold: where no count rose and memory sufficed, a call and its answer are
-- those of the contents.
pub record IsTelling {C : Type 0} {Answer : C → Type 0} {W T : Type 0} (moves : Moves C Answer W)
    (hungry : (call : C) → Answer call → Bool) (told : Moves C Answer T) : Type 1 where
  pub counting : Counting W
  pub view : W → T
  pub later :
      (u : W) (call : C) (answer : Answer call) (v : W) → moves u call answer v
      → counting.Later u v
  pub tells :
      (u : W) (call : C) (answer : Answer call) (v : W) → moves u call answer v
      → counting.NoneRose u v → hungry call answer ≡ false → told (view u) call answer (view v)

-- ---- one ending

-- the objects answer in one way
abbrev pub AnswersOnce : {C : Type 0} {Answer : C → Type 0} {W : Type 0} → Moves C Answer W → Type 0
AnswersOnce {C} {Answer} {W} moves =
    (w : W) (call : C) (a b : Answer call) (u v : W) → moves w call a u → moves w call b v
    → (a ≡ b) × (u ≡ v)

-- ---- what a refusal leaves

-- a program that is settled: it calls nothing and isn't refused
abbrev pub IsSettled : {C : Type 0} {Answer : C → Type 0} {R A : Type 0} → Program C Answer R A
    → Type 0
IsSettled (give a) = ⊥
IsSettled (settle a) = Unit {0}
IsSettled (refuse r) = ⊥
IsSettled (ask call f) = ⊥

-- after each answer that may have changed something, the program is settled
abbrev pub IsCareful : {C : Type 0} {Answer : C → Type 0} {R A : Type 0}
    → ((call : C) → Answer call → Bool) → Program C Answer R A → Type 0
IsCareful keeps (give a) = Unit {0}
IsCareful keeps (settle a) = Unit {0}
IsCareful keeps (refuse r) = Unit {0}
IsCareful {Answer = Answer} keeps (ask call f) =
    (answer : Answer call)
    → (keeps call answer ≡ false → IsSettled (f answer)) × IsCareful keeps (f answer)

-- each call that is made keeps what there was
abbrev pub OnlyKeeps : {C : Type 0} {Answer : C → Type 0} {R A : Type 0}
    → ((call : C) → Answer call → Bool) → Program C Answer R A → Type 0
OnlyKeeps keeps (give a) = Unit {0}
OnlyKeeps keeps (settle a) = Unit {0}
OnlyKeeps keeps (refuse r) = Unit {0}
OnlyKeeps {Answer = Answer} keeps (ask call f) =
    (answer : Answer call) → (keeps call answer ≡ true) × OnlyKeeps keeps (f answer)

-- each refusal is one of these
abbrev pub OnlyRefuses : {C : Type 0} {Answer : C → Type 0} {R A : Type 0} → (R → Bool)
    → Program C Answer R A → Type 0
OnlyRefuses late (give a) = Unit {0}
OnlyRefuses late (settle a) = Unit {0}
OnlyRefuses late (refuse r) = late r ≡ true
OnlyRefuses {Answer = Answer} late (ask call f) =
    (answer : Answer call) → OnlyRefuses late (f answer)

-- after each answer that may have changed something, the program is refused by these alone
abbrev pub IsLate : {C : Type 0} {Answer : C → Type 0} {R A : Type 0}
    → ((call : C) → Answer call → Bool) → (R → Bool) → Program C Answer R A → Type 0
IsLate keeps late (give a) = Unit {0}
IsLate keeps late (settle a) = Unit {0}
IsLate keeps late (refuse r) = Unit {0}
IsLate {Answer = Answer} keeps late (ask call f) =
    (answer : Answer call)
    → (keeps call answer ≡ false → OnlyRefuses late (f answer)) × IsLate keeps late (f answer)

-- ---- how often an object is called

-- of these calls at most so many are made
abbrev pub CallsAtMost : {C : Type 0} {Answer : C → Type 0} {R A : Type 0} → (C → Bool) → ℕ
    → Program C Answer R A → Type 0
CallsAtMost counts n (give a) = Unit {0}
CallsAtMost counts n (settle a) = Unit {0}
CallsAtMost counts n (refuse r) = Unit {0}
CallsAtMost {Answer = Answer} counts zero (ask call f) =
    (counts call ≡ false) × ((answer : Answer call) → CallsAtMost counts zero (f answer))
CallsAtMost {Answer = Answer} counts (suc n) (ask call f) =
    (answer : Answer call)
    → CallsAtMost counts (if counts call then n else suc n) (f answer)

-- at most so many calls lead a part of the objects from one state to another: what comes between
-- two of them leaves the part as it is
abbrev pub LedBy : {C : Type 0} {Answer : C → Type 0} {W V : Type 0} → Moves C Answer W → (W → V)
    → ℕ → V → V → Type 0
LedBy moves part zero old new = new ≡ old
LedBy {C} {Answer} {W} moves part (suc n) old new =
    (new ≡ old)
    ⊎ ((u v : W) × (call : C) × (answer : Answer call) × (part u ≡ old) × moves u call answer v
    × LedBy moves part n (part v) new)

-- ---- faults

-- this refusal is given only after an answer that brings it
abbrev pub BlamesOnly : {C : Type 0} {Answer : C → Type 0} {R A : Type 0}
    → ((call : C) → Answer call → Bool) → R → Program C Answer R A → Type 0
BlamesOnly brings fault (give a) = Unit {0}
BlamesOnly brings fault (settle a) = Unit {0}
BlamesOnly brings fault (refuse r) = ¬ (r ≡ fault)
BlamesOnly {Answer = Answer} brings fault (ask call f) =
    (answer : Answer call) → brings call answer ≡ false → BlamesOnly brings fault (f answer)

-- such an answer was given between two states
pub record Brought {C : Type 0} {Answer : C → Type 0} {W : Type 0} (moves : Moves C Answer W)
    (Later : W → W → Type 0) (brings : (call : C) → Answer call → Bool) (old new : W)
    : Type 0 where
  pub before : W
  pub after : W
  pub call : C
  pub answer : Answer call
  pub moved : moves before call answer after
  pub is : brings call answer ≡ true
  pub early : Later old before
  pub late : Later after new

-- ---- one after another

-- what two programs come to, one after another
abbrev pub Parted : {C : Type 0} {Answer : C → Type 0} {R A B W : Type 0} → Moves C Answer W
    → (R → Type 0) → Program C Answer R A → (A → Program C Answer R B) → W → Result B R → W
    → Type 0
Parted {R = R} {A = A} {W = W} moves wants p next old ending new =
    ((a : A) × (mid : W) × Ends moves wants p old (Ok a) mid
    × Ends moves wants (next a) mid ending new)
    ⊎ ((r : R) × Ends moves wants p old (Err r) new × (ending ≡ Err r))

-- The fold of a program over a list: each element where those before it led, until one is refused.
abbrev pub Folds : {C : Type 0} {Answer : C → Type 0} {R A B W : Type 0} → Moves C Answer W
    → (R → Type 0) → (A → Program C Answer R B) → List A → W → Result (List B) R → W → Type 0
Folds {B = B} moves wants p [] old ending new =
    Ends {A = List B} moves wants (give []) old ending new
Folds {R = R} {B = B} {W = W} moves wants p (a ∷ rest) old ending new =
    ((b : B) × (mid : W) × (later : Result (List B) R) × Ends moves wants (p a) old (Ok b) mid
    × Folds moves wants p rest mid later new × (ending ≡ with_front b later))
    ⊎ ((r : R) × Ends moves wants (p a) old (Err r) new × (ending ≡ Err r))
