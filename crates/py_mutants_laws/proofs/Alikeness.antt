-- Mutants of expressions are like them.
use Rattle.std.proofs.Common.{List, [], ◌∷◌, Option}
use Rattle.py_syntax.specs.Tree.{Expr, Exprs}
use Rattle.py_changes.specs.Mutants.{expr_mutants, exprs_mutants, maybe_mutants}
use Rattle.py_changes.proofs.MutantLaws.{Each}
use Rattle.py_mutants_laws.proofs.Versions.{SameNames, SameNamesAll, SameNamesMaybe, Kept, KeptAll, KeptMaybe, Alike, AlikeAll, AlikeMaybe}
use Rattle.py_mutants_laws.proofs.Keeping.{expr-kept, exprs-kept, maybe-kept}
use Rattle.py_mutants_laws.proofs.Naming.{expr-names, exprs-names, maybe-names}

each-both : {X A : Type 0} (P Q R : A → Type 0) → ((x : A) → P x → Q x → R x) →
    (xs : List (X × A))
    → Each P xs → Each Q xs → Each R xs
each-both P Q R f [] h k = tt
each-both P Q R f (x ∷ xs) h k = (f x.1 h.0 k.0, each-both P Q R f xs h.1 k.1)

pub expr-alike : (e : Expr) → Each (Alike e) (expr_mutants e)
expr-alike e =
    each-both (SameNames e) (Kept e) (Alike e) (λ x h k. record { names = h; kept = k })
    (expr_mutants e) (expr-names e) (expr-kept e)

pub exprs-alike : (es : Exprs) → Each (AlikeAll es) (exprs_mutants es)
exprs-alike es =
    each-both (SameNamesAll es) (KeptAll es) (AlikeAll es)
    (λ x h k. record { names = h; kept = k })
    (exprs_mutants es) (exprs-names es) (exprs-kept es)

pub maybe-alike : (e : Option Expr) → Each (AlikeMaybe e) (maybe_mutants e)
maybe-alike e =
    each-both (SameNamesMaybe e) (KeptMaybe e) (AlikeMaybe e)
    (λ x h k. record { names = h; kept = k })
    (maybe_mutants e) (maybe-names e) (maybe-kept e)
