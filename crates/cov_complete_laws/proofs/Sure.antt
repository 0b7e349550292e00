-- Programs that are never refused, whatever the objects answer by what they hold.
use Rattle.std.proofs.Common.{◌≡◌, inl, inr, sym, subst, List, [], ◌∷◌, Result, Ok}
use Rattle.std.specs.List.{All}
use Rattle.std.proofs.lemmas.List.Elements.{All-head, All-tail}
use Rattle.cov_programs.specs.Programs.{Program, give, settle, refuse, ask, bind, each}
use Rattle.cov_programs.specs.Objects.{Moves}
use Rattle.cov_programs.specs.Ends.{Ends}
use Rattle.cov_programs.specs.Laws.{nothing_wants}
use Rattle.cov_programs.proofs.Results.{ok_is}

-- whatever is answered, the program isn't refused, and what it gives is this
abbrev pub Sure : {C : Type 0} {Answer : C → Type 0} {R A T : Type 0} → Moves C Answer T → (A → T → Type 0) → Program C Answer R A → T → Type 0
Sure told Q (give a) t = Q a t
Sure told Q (settle a) t = Q a t
Sure told Q (refuse r) t = ⊥
Sure {Answer = Answer} {T = T} told Q (ask call f) t = (x : Answer call) (u : T) → told t call x u → Sure told Q (f x) u

module _ {C : Type 0} {Answer : C → Type 0} {R T : Type 0} (told : Moves C Answer T) where
  pub then-sure : {A B : Type 0} (Q : B → T → Type 0) (p : Program C Answer R A) (next : A → Program C Answer R B) (t : T) → Sure told (λ a u. Sure told Q (next a) u) p t → Sure told Q (bind p next) t
  then-sure Q (give a) next t h = h
  then-sure Q (settle a) next t h = h
  then-sure Q (refuse r) next t h = h
  then-sure Q (ask call f) next t h = λ x u m. then-sure Q (f x) next u (h x u m)

  -- a list of programs each of which goes on from anywhere, whatever it gave
  pub each-sure : {A B : Type 0} (p : A → Program C Answer R B) → ((a : A) (P : B → T → Type 0) (u : T) → ((b : B) (v : T) → P b v) → Sure told P (p a) u)
      → (xs : List A) (Q : List B → T → Type 0) (t : T) → ((bs : List B) (v : T) → Q bs v) → Sure told Q (each p xs) t
  each-sure p h [] Q t q = q [] t
  each-sure {A} {B} p h (x ∷ rest) Q t q =
      then-sure Q (p x) (λ b. bind (each p rest) (λ more. give (b ∷ more))) t
      (h x (λ b u. Sure told Q (bind (each p rest) (λ more. give (b ∷ more))) u) t
      (λ b u. then-sure Q (each p rest) (λ more. give (b ∷ more)) u
      (each-sure p h rest (λ more v. Q (b ∷ more) v) u (λ more v. q (b ∷ more) v))))

  -- the same from one state, for elements that fit
  pub each-fit : {A B : Type 0} (p : A → Program C Answer R B) (Fit : A → Type 0) (t : T) → ((a : A) → Fit a → (P : B → T → Type 0) → ((b : B) → P b t) → Sure told P (p a) t)
      → (xs : List A) → All Fit xs → (Q : List B → T → Type 0) → ((bs : List B) → Q bs t) → Sure told Q (each p xs) t
  each-fit p Fit t h [] f Q q = q []
  each-fit {A} {B} p Fit t h (x ∷ rest) f Q q =
      then-sure Q (p x) (λ b. bind (each p rest) (λ more. give (b ∷ more))) t
      (h x (All-head Fit x rest f) (λ b u. Sure told Q (bind (each p rest) (λ more. give (b ∷ more))) u)
      (λ b. then-sure Q (each p rest) (λ more. give (b ∷ more)) t
      (each-fit p Fit t h rest (All-tail Fit x rest f) (λ more v. Q (b ∷ more) v) (λ more. q (b ∷ more)))))

  -- how such a program ends
  pub sure-ends : {A : Type 0} (Q : A → T → Type 0) (p : Program C Answer R A) (t u : T) (e : Result A R) → Ends told nothing_wants p t e u → Sure told Q p t → (a : A) × (e ≡ Ok a)
  sure-ends Q (give a) t u e (inl s) h = absurd s.wanting
  sure-ends Q (give a) t u e (inr (is, same)) h = (a, is)
  sure-ends Q (settle a) t u e (is, same) h = (a, is)
  sure-ends Q (refuse r) t u e m h = absurd h
  sure-ends Q (ask call f) t u e (inl s) h = absurd s.wanting
  sure-ends Q (ask call f) t u e (inr (x, v, m, rest)) h = sure-ends Q (f x) v u e rest (h x v m)

  -- and what it gives
  pub sure-gives : {A : Type 0} (Q : A → T → Type 0) (p : Program C Answer R A) (t u : T) (a : A) → Ends told nothing_wants p t (Ok a) u → Sure told Q p t → Q a u
  sure-gives Q (give b) t u a (inl s) h = absurd s.wanting
  sure-gives Q (give b) t u a (inr (is, same)) h = subst (λ c. Q c u) (sym (ok_is is)) (subst (Q b) (sym same) h)
  sure-gives Q (settle b) t u a (is, same) h = subst (λ c. Q c u) (sym (ok_is is)) (subst (Q b) (sym same) h)
  sure-gives Q (refuse r) t u a m h = absurd h
  sure-gives Q (ask call f) t u a (inl s) h = absurd s.wanting
  sure-gives Q (ask call f) t u a (inr (x, v, m, rest)) h = sure-gives Q (f x) v u a rest (h x v m)

  -- what holds of all that may be given holds of what is given
  pub sure-all : {A : Type 0} (P Q : A → T → Type 0) (p : Program C Answer R A) (t : T) → ((a : A) (u : T) → Q a u) → Sure told P p t → Sure told Q p t
  sure-all P Q (give a) t q h = q a t
  sure-all P Q (settle a) t q h = q a t
  sure-all P Q (refuse r) t q h = h
  sure-all P Q (ask call f) t q h = λ x u m. sure-all P Q (f x) u q (h x u m)
