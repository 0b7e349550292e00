-- Results with an error.
use Rattle.std.proofs.Common.{◌≡◌, ℕ, ◌≤◌, Result, Ok, Err, sym, subst, arith}
use Rattle.std.specs.Prelude.{IfOk, IfErr, IsErr, IsErrAnd, IsErrOf}
use Rattle.py_builtins.specs.declared.fault.RunFault.{RunFault}
use Rattle.py_builtins.specs.declared.fault.RunFault.TheVariants.{ReadFault, WriteFault, NoMemory}

pub same : (n : ℕ) → n ≤ n
same n = omega arith

-- what is said of a value
pub if_err : {T E : Type 0} (r : Result T E) (P : T → Type 0) → IsErr r → IfOk r P
if_err (Ok x) P h = absurd cc
if_err (Err e) P h = tt

-- what is said of the error, where it is this one
pub if_fault : {T : Type 0} (r : Result T RunFault) (f : RunFault) (P : RunFault → Type 0) → IsErrAnd r (λ e. e ≡ f) → P f → IfErr r P
if_fault (Ok x) f P h p = tt
if_fault (Err y) f P h p = subst P (sym h) p

-- want of memory is no fault of reading or writing
pub memory_not_read : {T : Type 0} (r : Result T RunFault) (Q : Type 0) → IsErrAnd r (λ e. e ≡ NoMemory) → IsErrOf r ReadFault → Q
memory_not_read (Ok x) Q h e = absurd h
memory_not_read (Err f) Q h e = absurd cc

pub memory_not_write : {T : Type 0} (r : Result T RunFault) (Q : Type 0) → IsErrAnd r (λ e. e ≡ NoMemory) → IsErrOf r WriteFault → Q
memory_not_write (Ok x) Q h e = absurd h
memory_not_write (Err f) Q h e = absurd cc

-- a fault that is passed on
pub passed : {A B : Type 0} (r : Result A RunFault) (f k : RunFault) (Q : Type 0) → IsErrAnd r (λ y. y ≡ f) → (IsErrOf {T = B} (Err f) k → Q) → IsErrOf r k → Q
passed (Ok x) f k Q h g e = absurd h
passed (Err y) f k Q h g e = g cc
