-- How computations are put together that never raise the steps that are left.
use Rattle.std.proofs.Common.{◌≡◌, ℕ, zero, suc, ◌≤◌, Bool, true, false, cond, List, Ok, Err, refl, arith}
use Rattle.py_value.specs.Plain.{PlainValue, PlainHeap}
use Rattle.py_meaning.specs.Activations.{Item}
use Rattle.py_meaning.specs.Computations.{Setting, State, Res, done, cut, M, Ans, bind, give, chain, step, tick, note, read, write, say, within, stop, on_value, value, ask, worked, work, branch}
use Rattle.py_meaning.specs.Laws.{IsAtMost, IsSteady}

at-most-trans : {A : Type 0} (l n : ℕ) (r : Res A) → l ≤ n → IsAtMost l r → IsAtMost n r
at-most-trans l n (done a s k) h g = omega (arith, g)
at-most-trans l n (cut s) h g = tt

pub steady-give : {A : Type 0} (a : A) → IsSteady (give a)
unfolding IsSteady give
steady-give a s n = omega arith

pub steady-stop : (A : Type 0) → IsSteady {A = A} stop
unfolding IsSteady stop
steady-stop A s n = tt

steady-bind : {A B : Type 0} (n : ℕ) (r : Res A) (f : A → M B) → IsAtMost n r → ((a : A) → IsSteady (f a)) → IsAtMost n (bind r f)
unfolding IsSteady
steady-bind n (done a s l) f h g = at-most-trans l n (f a s l) h (g a s l)
steady-bind n (cut s) f h g = tt

pub steady-chain : {A B : Type 0} (m : M A) (f : A → M B) → IsSteady m → ((a : A) → IsSteady (f a)) → IsSteady (chain m f)
unfolding IsSteady chain
steady-chain m f h g s n = steady-bind n (m s n) f (h s n) g

pub steady-tick : {A : Type 0} (m : M A) → IsSteady m → IsSteady (tick m)
unfolding IsSteady tick
steady-tick m h s zero = tt
steady-tick m h s (suc n) = at-most-trans n (suc n) _ (omega arith) (h s n)

pub steady-step : {A : Type 0} (i : Item) (m : M A) → IsSteady m → IsSteady (step i m)
unfolding IsSteady step
steady-step i m h s zero = tt
steady-step i m h s (suc n) = at-most-trans n (suc n) _ (omega arith) (h _ n)

pub steady-note : {A : Type 0} (i : Item) (m : M A) → IsSteady m → IsSteady (note i m)
unfolding IsSteady note
steady-note i m h s n = h _ n

pub steady-write : {A : Type 0} (w : Setting → Setting) (m : M A) → IsSteady m → IsSteady (write w m)
unfolding IsSteady write
steady-write w m h s n = h _ n

pub steady-say : {A : Type 0} (bytes : List ℕ) (m : M A) → IsSteady m → IsSteady (say bytes m)
unfolding IsSteady say
steady-say bytes m h s n = h _ n

pub steady-read : {A : Type 0} (f : Setting → M A) → ((w : Setting) → IsSteady (f w)) → IsSteady (read f)
unfolding IsSteady read
steady-read f h s n = h s.now s n

pub steady-within : {A : Type 0} (f : ℕ → M A) → ((n : ℕ) → IsSteady (f n)) → IsSteady (within f)
unfolding IsSteady within
steady-within f h s n = h n s n

steady-on_value : {A B : Type 0} (a : Ans A) (f : A → M (Ans B)) → ((v : A) → IsSteady (f v)) → IsSteady (on_value a f)
steady-on_value (Ok v) f h = h v
steady-on_value (Err e) f h = steady-give _

pub steady-value : {A B : Type 0} (m : M (Ans A)) (f : A → M (Ans B)) → IsSteady m → ((v : A) → IsSteady (f v)) → IsSteady (value m f)
unfolding value
steady-value m f h g = steady-chain m _ h (λ a. steady-on_value a f g)

pub steady-ask : {A : Type 0} (f : Setting → Ans A) → IsSteady (ask f)
unfolding ask
steady-ask f = steady-read _ (λ w. steady-give (f w))

pub steady-worked : {A : Type 0} (a : Ans (A × PlainHeap)) → IsSteady (worked a)
steady-worked (Ok r) = steady-write _ _ (steady-give _)
steady-worked (Err e) = steady-give _

pub steady-work : {A : Type 0} (f : PlainHeap → Ans (A × PlainHeap)) → IsSteady (work f)
unfolding work
steady-work f = steady-read _ (λ w. steady-worked (f w.world.heap))

pub steady-if : {A : Type 0} (b : Bool) (f g : M A) → IsSteady f → IsSteady g → IsSteady (cond b f g)
steady-if true f g h k = h
steady-if false f g h k = k

pub steady-branch : {A : Type 0} (v : PlainValue) (f g : M A) → IsSteady f → IsSteady g → IsSteady (branch v f g)
unfolding branch
steady-branch v f g h k = steady-read _ (λ w. steady-if _ f g h k)

-- what follows a computation is met with no more steps than that began with
pub chain-same : {A B : Type 0} (m : M A) (f g : A → M B) (s : State) (n : ℕ) → IsSteady m → ((a : A) (t : State) (l : ℕ) → l ≤ n → f a t l ≡ g a t l) → chain m f s n ≡ chain m g s n
unfolding IsSteady chain
chain-same {A} m f g s n h same = go (m s n) (h s n)
  where
    go : (r : Res A) → IsAtMost n r → bind r f ≡ bind r g
    go (done a t l) le = same a t l le
    go (cut t) le = refl
