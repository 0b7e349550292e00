-- Parts of statements: guards, the kinds of clauses, reasons of assertions, defaults, and what is
-- returned and raised.
use Rattle.std.proofs.Common.{ℕ, Option, Some, None}
use Rattle.py_value.specs.declared.value.FuncId.{FuncId}
use Rattle.py_value.specs.Plain.{PlainRaised}
use Rattle.py_syntax.specs.Tree.{Expr, Exprs, no_exprs, exprs}
use Rattle.py_builtins.specs.Catching.{catches, assertion_error}
use Rattle.py_builtins.specs.Methods.{new_list}
use Rattle.py_meaning.specs.Computations.{M}
use Rattle.py_meaning.specs.Statements.{Out, failed_assertion, caught_by, guarded, default_list, returned, raised}
use Rattle.py_changes.proofs.Kept.{Suit, SuitsRaised}
use Rattle.py_changes.proofs.Results.{ResultSuits}
use Rattle.py_changes.proofs.Methods.{new_list_suits}
use Rattle.py_changes.proofs.Builtins.{catches_plainly, assertion_suits}
use Rattle.py_changes.proofs.Follows.{OutSuits, Follows, follow-under, follow-give, follow-value, follow-work, follow-branch, follow-throw, follow-using}
use Rattle.py_changes.proofs.Expressions.{Any, Sides, old_place, new_place, follow-eval, follow-each}
use Rattle.py_changes.proofs.Flow.{HandledSuits, follow-raise}

module _ {Safe : ℕ → ℕ → Type 0} {K : FuncId → Type 0} (sides : Sides Safe K) where
  pub follow-guarded : {C : Type 0} {f g f' g' : M Out} (h : Option PlainRaised) (e : Option Expr)
      → Follows Safe K C sides.number (OutSuits K) f f'
      → Follows Safe K C sides.number (OutSuits K) g g'
      → Follows Safe K C sides.number (OutSuits K) (guarded sides.calls (old_place sides h) e f g)
      (guarded sides.others (new_place sides h) e f' g')
  follow-guarded h None i j = i
  follow-guarded h (Some e) i j =
      follow-using (follow-eval sides h e)
      (λ v. follow-branch v (follow-under (λ c. c.0) i) (follow-under (λ c. c.0) j))

  pub follow-caught : {C : Type 0} (h : Option PlainRaised) (k : Option Expr) (e : PlainRaised)
      → Follows Safe K C sides.number (ResultSuits K Any)
      (caught_by sides.calls (old_place sides h) k e)
      (caught_by sides.others (new_place sides h) k e)
  follow-caught h None e = follow-give _ (λ c. tt)
  follow-caught h (Some k) e =
      follow-value (follow-eval sides h k)
      (λ v. follow-give (catches v e.kind) (λ c. catches_plainly K v e.kind))

  pub follow-failed : {C : Type 0} (h : Option PlainRaised) (why : Option Expr)
      → Follows Safe K C sides.number (OutSuits K)
      (failed_assertion sides.calls (old_place sides h) why)
      (failed_assertion sides.others (new_place sides h) why)
  follow-failed h None = follow-throw _ (λ c. tt)
  follow-failed h (Some e) =
      follow-using
      (follow-value (follow-eval sides h e)
      (λ v. follow-give {Q = ResultSuits K (SuitsRaised K)} (assertion_error v)
      (λ c. assertion_suits K v c.1))) (λ x. follow-throw x (λ c. c.1))

  pub follow-defaults : {C : Type 0} (h : Option PlainRaised) (es : Exprs)
      → Follows Safe K C sides.number (ResultSuits K Any)
      (default_list sides.calls (old_place sides h) es)
      (default_list sides.others (new_place sides h) es)
  follow-defaults h no_exprs = follow-give _ (λ c. tt)
  follow-defaults h (exprs e es) =
      follow-value (follow-each sides h (exprs e es))
      (λ vs. follow-value
      (follow-work {Q = Suit K} (new_list vs) (λ heap c g. new_list_suits K heap g vs c.1))
      (λ a. follow-give _ (λ c. tt)))

  pub follow-returned : {C : Type 0} (h : Option PlainRaised) (e : Option Expr)
      → Follows Safe K C sides.number (OutSuits K) (returned sides.calls (old_place sides h) e)
      (returned sides.others (new_place sides h) e)
  follow-returned h None = follow-give _ (λ c. tt)
  follow-returned h (Some e) = follow-using (follow-eval sides h e) (λ v. follow-give _ (λ c. c.1))

  pub follow-raised : {C : Type 0} (h : Option PlainRaised) → (C → HandledSuits K h)
      → (e : Option Expr) → Follows Safe K C sides.number (OutSuits K)
      (raised sides.calls (old_place sides h) e) (raised sides.others (new_place sides h) e)
  follow-raised None hk None = follow-throw _ (λ c. tt)
  follow-raised (Some x) hk None = follow-give _ hk
  follow-raised h hk (Some e) =
      follow-using (follow-eval sides h e) (λ v. follow-raise v (λ c. c.1))
