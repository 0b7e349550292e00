-- Programs that make calls, and go on by the answers.
--     Program          what is called, and what follows
--     bind, ◌>>=◌      one program after another
--     given            what a result says
--     each             one program for each element of a list
use Rattle.std.specs.Prelude.{List, [], ◌∷◌, Result, Ok, Err}

-- A program over calls, each with the type of its answers. It gives a value, or is refused. What it
-- gives after a change is settled: memory isn't wanting any more.
pub data Program (C : Type 0) (Answer : C → Type 0) (R A : Type 0) : Type 0 where
  give : A → Program C Answer R A
  settle : A → Program C Answer R A
  refuse : R → Program C Answer R A
  ask : (call : C) → (Answer call → Program C Answer R A) → Program C Answer R A

-- the next program takes what the first one gives: a refusal of the first one refuses the whole
abbrev pub bind : {C : Type 0} {Answer : C → Type 0} {R A B : Type 0} → Program C Answer R A
    → (A → Program C Answer R B) → Program C Answer R B
bind (give a) next = next a
bind (settle a) next = next a
bind (refuse r) next = refuse r
bind (ask call f) next = ask call (λ answer. bind (f answer) next)

infixl 55 ◌>>=◌
-- the same in `do` notation
abbrev pub ◌>>=◌ : {C : Type 0} {Answer : C → Type 0} {R A B : Type 0} → Program C Answer R A
    → (A → Program C Answer R B) → Program C Answer R B
p >>= next = bind p next

-- what a result says
abbrev pub given : {C : Type 0} {Answer : C → Type 0} {R A : Type 0} → Result A R
    → Program C Answer R A
given (Ok a) = give a
given (Err r) = refuse r

-- one program for each element of a list, in order, with all that they give
abbrev pub each : {C : Type 0} {Answer : C → Type 0} {R A B : Type 0}
    → (A → Program C Answer R B) → List A → Program C Answer R (List B)
each p [] = give []
each p (a ∷ rest) = bind (p a) (λ b. bind (each p rest) (λ more. give (b ∷ more)))
