-- Programs by what they may give and by what they may be refused, whatever is answered.
use Rattle.std.proofs.Common.{◌≡◌, inl, inr, sym, subst, Result, Ok, Err}
use Rattle.cov_programs.specs.Programs.{Program, give, settle, refuse, ask, bind}
use Rattle.cov_programs.specs.Objects.{Moves}
use Rattle.cov_programs.specs.Ends.{Ends}
use Rattle.cov_programs.specs.Laws.{nothing_wants}
use Rattle.cov_complete_laws.proofs.Sure.{Sure}

-- whatever is answered, Q holds of what the program gives, and Z of what refuses it
abbrev pub Under : {C : Type 0} {Answer : C → Type 0} {R A T : Type 0} → Moves C Answer T → (A → T → Type 0) → (R → Type 0) → Program C Answer R A → T → Type 0
Under told Q Z (give a) t = Q a t
Under told Q Z (settle a) t = Q a t
Under told Q Z (refuse r) t = Z r
Under {Answer = Answer} {T = T} told Q Z (ask call f) t = (x : Answer call) (u : T) → told t call x u → Under told Q Z (f x) u

-- what is known of an ending
abbrev pub Came : {A R T : Type 0} → (A → T → Type 0) → (R → Type 0) → Result A R → T → Type 0
Came Q Z (Ok a) u = Q a u
Came Q Z (Err r) u = Z r

module _ {C : Type 0} {Answer : C → Type 0} {R T : Type 0} (told : Moves C Answer T) where
  pub then-under : {A B : Type 0} (Q : B → T → Type 0) (Z : R → Type 0) (p : Program C Answer R A) (next : A → Program C Answer R B) (t : T) → Under told (λ a u. Under told Q Z (next a) u) Z p t → Under told Q Z (bind p next) t
  then-under Q Z (give a) next t h = h
  then-under Q Z (settle a) next t h = h
  then-under Q Z (refuse r) next t h = h
  then-under Q Z (ask call f) next t h = λ x u m. then-under Q Z (f x) next u (h x u m)

  -- more may be given, and more may refuse
  pub under-all : {A : Type 0} (P Q : A → T → Type 0) (Y Z : R → Type 0) → ((a : A) (u : T) → P a u → Q a u) → ((r : R) → Y r → Z r) → (p : Program C Answer R A) (t : T) → Under told P Y p t → Under told Q Z p t
  under-all P Q Y Z q z (give a) t h = q a t h
  under-all P Q Y Z q z (settle a) t h = q a t h
  under-all P Q Y Z q z (refuse r) t h = z r h
  under-all P Q Y Z q z (ask call f) t h = λ x u m. under-all P Q Y Z q z (f x) u (h x u m)

  -- a program that is never refused
  pub sure-under : {A : Type 0} (Q : A → T → Type 0) (Z : R → Type 0) (p : Program C Answer R A) (t : T) → Sure told Q p t → Under told Q Z p t
  sure-under Q Z (give a) t h = h
  sure-under Q Z (settle a) t h = h
  sure-under Q Z (refuse r) t h = absurd h
  sure-under Q Z (ask call f) t h = λ x u m. sure-under Q Z (f x) u (h x u m)

  came-so : {A : Type 0} (Q : A → T → Type 0) (Z : R → Type 0) (e d : Result A R) (u v : T) → e ≡ d → u ≡ v → Came Q Z d v → Came Q Z e u
  came-so Q Z e d u v is same h = subst (λ x. Came Q Z x u) (sym is) (subst (λ w. Came Q Z d w) (sym same) h)

  -- how such a program ends
  pub under-ends : {A : Type 0} (Q : A → T → Type 0) (Z : R → Type 0) (p : Program C Answer R A) (t u : T) (e : Result A R) → Ends told nothing_wants p t e u → Under told Q Z p t → Came Q Z e u
  under-ends Q Z (give a) t u e (inl s) h = absurd s.wanting
  under-ends Q Z (give a) t u e (inr (is, same)) h = came-so Q Z e (Ok a) u t is same h
  under-ends Q Z (settle a) t u e (is, same) h = came-so Q Z e (Ok a) u t is same h
  under-ends Q Z (refuse r) t u e (inl s) h = absurd s.wanting
  under-ends Q Z (refuse r) t u e (inr (is, same)) h = came-so Q Z e (Err r) u t is same h
  under-ends Q Z (ask call f) t u e (inl s) h = absurd s.wanting
  under-ends Q Z (ask call f) t u e (inr (x, v, m, rest)) h = under-ends Q Z (f x) v u e rest (h x v m)
