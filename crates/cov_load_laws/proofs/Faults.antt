-- Of two faults one comes before the other.
use Rattle.std.proofs.Common.{◌≡◌, inl, inr, ⊎_elim, ℕ, ◌<◌, List, refl, sym, ap, ◌∙◌, arith, length}
use Rattle.std.specs.Prelude.{if◌then◌else◌, ◌==◌}
use Rattle.std.proofs.lemmas.Bool.{cases_lt}
use Rattle.std.proofs.lemmas.List.Elements.{All-contains, at_from_Contains}
use Rattle.py_syntax.specs.Tree.{Stmts}
use Rattle.py_scope.specs.declared.error.ScopeError.{ScopeError}
use Rattle.py_scope.specs.declared.error.ScopeError.TheVariants.{BreakOutside, ReturnOutside, GlobalAfterUse, NestedFunction, EarlyIrrefutable, TwiceNamed, NoMemory}
use Rattle.py_scope.specs.Answer.{line_of, number_of, ComesBefore, IsFirst}
use Rattle.py_scope.specs.Faults.{IsWellFormed, faults_of}

-- the fault of this number in this line
fault_at : ℕ → ℕ → ScopeError
fault_at n l =
    if n == 1 then BreakOutside l else
    (if n == 2 then ReturnOutside l else
    (if n == 3 then GlobalAfterUse l else
    (if n == 4 then NestedFunction l else
    (if n == 5 then EarlyIrrefutable l else
    (if n == 6 then TwiceNamed l else NoMemory)))))

its-own : (e : ScopeError) → fault_at (number_of e) (line_of e) ≡ e
unfolding fault_at
its-own (BreakOutside l) = refl
its-own (ReturnOutside l) = refl
its-own (GlobalAfterUse l) = refl
its-own (NestedFunction l) = refl
its-own (EarlyIrrefutable l) = refl
its-own (TwiceNamed l) = refl
its-own NoMemory = refl

-- of two numbers neither is smaller only where they are the same
neither-less : (m n : ℕ) → (m < n → ⊥) → (n < m → ⊥) → m ≡ n
neither-less m n h k =
    ⊎_elim
    (λ l. absurd (h l))
    (λ a. ⊎_elim (λ l. absurd (k l)) (λ b. omega (arith, a, b)) (cases_lt n m))
    (cases_lt m n)

neither-before :
    (e f : ScopeError) → (ComesBefore e f → ⊥) → (ComesBefore f e → ⊥) → e ≡ f
neither-before e f h k =
    let lines = neither-less (line_of e) (line_of f) (λ l. h (inl l)) (λ l. k (inl l)) in
    let numbers =
    neither-less (number_of e) (number_of f) (λ l. h (inr (lines, l)))
    (λ l. k (inr (sym lines, l))) in
    sym (its-own e) ∙ ap (λ n. fault_at n (line_of e)) numbers
    ∙ ap (fault_at (number_of f)) lines ∙ its-own f

pub one-first :
    (faults : List ScopeError) (e f : ScopeError) → IsFirst faults e → IsFirst faults f → e ≡ f
one-first faults e f h k =
    neither-before e f
    (All-contains (λ g. ComesBefore g f → ⊥) faults e k.first h.is_one)
    (All-contains (λ g. ComesBefore g e → ⊥) faults f h.first k.is_one)

pub none-first : (m : Stmts) (e : ScopeError) → IsWellFormed m → IsFirst (faults_of m) e → ⊥
none-first m e well h =
    let at = at_from_Contains (faults_of m) e h.is_one in
    let none : length (faults_of m) ≡ 0 = ap length well in
    let some = at.1 in
    omega (arith, none, some)
