-- The ends of predicted arcs are lines that are marked.
use Rattle.std.proofs.Common.{◌≡◌, ℕ, zero, suc, ℤ, pos, negsuc, nat_eq, nat_lt, Bool, true, false, cond, List, [], ◌∷◌, ◌++◌, map, refl, sym, subst}
use borrow.Author.Tests.{eqb-true}
use Rattle.std.specs.List.{AllByRecursion}
use Rattle.std.specs.BTreeSet.{insert_key}
use Rattle.std.specs.Ordering.{match_ordering}
use Rattle.std.specs.declared.cmp.Ordering.TheVariants.{Less, Equal, Greater}
use Rattle.py_syntax.specs.FirstMarks.{stmts_empty, stmts_first}
use Rattle.py_syntax.specs.Functions.{Function, functions, is_docstring, without_docstring}
use Rattle.py_syntax.specs.LastMarks.{onward, returning, raising}
use Rattle.py_syntax.specs.Marks.{stmts_marks, kind_marks, body_marks, with_line, in_order, statement_lines}
use Rattle.py_syntax.specs.Neighbours.{Pair, stmts_pairs}
use Rattle.py_syntax.specs.Prediction.{Arc, outside, body_arcs, functions_arcs, module_arcs, by_ends, arcs_in_order, predicted}
use Rattle.py_syntax.specs.Tree.{Stmts, no_stmts, stmt}
use Rattle.cov_analysis.proofs.Among.{both, In}
use Rattle.cov_analysis.proofs.LastLines.{stmts-in}
use Rattle.cov_analysis.proofs.FirstLines.{first-in}
use Rattle.cov_analysis.proofs.NextLines.{PairsIn, stmts-pairs}
use Rattle.cov_analysis.proofs.Bodies.{Bodies, module-bodies}

module _ (P : ℕ → Type 0) where
  -- an end is a marked line, or the outside of a body whose line is marked
  abbrev pub EndIn : ℤ → Type 0
  EndIn (pos l) = P l
  EndIn (negsuc n) = P (suc n)

  abbrev pub ArcIn : Arc → Type 0
  ArcIn arc = EndIn arc.0 × EndIn arc.1

  out-in : (first : ℕ) → P first → EndIn (outside first)
  out-in zero h = h
  out-in (suc n) h = h

  firsts-at : (first : ℕ) (ls : List ℕ) → P first → In P ls → AllByRecursion ArcIn (map (λ l. (outside first, pos l)) ls)
  firsts-at first [] o h = tt
  firsts-at first (l ∷ ls) o h = ((out-in first o, h.0), firsts-at first ls o h.1)

  pairs-at : (ps : List Pair) → PairsIn P ps → AllByRecursion ArcIn (map (λ p. (pos p.0, pos p.1)) ps)
  pairs-at [] h = tt
  pairs-at (p ∷ ps) h = (h.0, pairs-at ps h.1)

  lasts-at : (first : ℕ) (ls : List ℕ) → P first → In P ls → AllByRecursion ArcIn (map (λ l. (pos l, outside first)) ls)
  lasts-at first [] o h = tt
  lasts-at first (l ∷ ls) o h = ((h.0, out-in first o), lasts-at first ls o h.1)

  body-at : (any : Bool) (first : ℕ) (b : Stmts) → P first → In P (stmts_marks b) → AllByRecursion ArcIn (body_arcs any first b)
  body-at any first b o h =
      both ArcIn _ _ (firsts-at first (stmts_first b) o (first-in P b h))
      (both ArcIn _ _ (pairs-at (stmts_pairs any b) (stmts-pairs P any b h))
      (both ArcIn _ _ (lasts-at first _ o (both P _ _ (stmts-in P any onward b h) (both P _ _ (stmts-in P any returning b h) (stmts-in P any raising b h))))
      (elim (stmts_empty b) as (λ t. AllByRecursion ArcIn (cond t ((outside first, outside first) ∷ []) [])) [ true ↦ ((out-in first o, out-in first o), tt) | false ↦ tt ])))

  -- a body without its docstring has the marks of the body
  undocumented : (b : Stmts) → In P (body_marks b) → In P (stmts_marks (without_docstring b))
  undocumented no_stmts h = tt
  undocumented (stmt f l k e rest) h = go (is_docstring k) h
    where
      go : (t : Bool) → In P (cond t (stmts_marks rest) (kind_marks f k ++ stmts_marks rest)) → In P (stmts_marks (cond t rest (stmt f l k e rest)))
      go true h = h
      go false h = h

  functions-at : (any : Bool) (fs : List Function) → Bodies P fs → AllByRecursion ArcIn (functions_arcs any fs)
  functions-at any [] h = tt
  functions-at any (f ∷ fs) h = both ArcIn _ _ (body-at any f.line (without_docstring f.body) h.0.0 (undocumented f.body h.0.1)) (functions-at any fs h.1)

  with_line-in : (l : ℕ) (ks : List ℕ) → In P (with_line l ks) → P l × In P ks
  with_line-in l [] h = (h.0, tt)
  with_line-in l (k ∷ ks) h = go (nat_lt l k) (nat_eq l k) refl (with_line-in l ks) h
    where
      go : (s t : Bool) → nat_eq l k ≡ t → (In P (with_line l ks) → P l × In P ks) → In P (cond s (l ∷ k ∷ ks) (cond t (k ∷ ks) (k ∷ with_line l ks))) → P l × In P (k ∷ ks)
      go true t is later h = (h.0, h.1)
      go false true is later h = (subst P (sym (eqb-true l k is)) h.0, h)
      go false false is later h = ((later h.1).0, (h.0, (later h.1).1))

  in_order-in : (ls : List ℕ) → In P (in_order ls) → In P ls
  in_order-in [] h = tt
  in_order-in (l ∷ ls) h = let parts = with_line-in l (in_order ls) h in (parts.0, in_order-in ls parts.1)

  insert-at : (arc : Arc) (arcs : List Arc) → ArcIn arc → AllByRecursion ArcIn arcs → AllByRecursion ArcIn (insert_key by_ends arcs arc)
  insert-at arc [] h k = (h, tt)
  insert-at arc (a ∷ arcs) h k =
      elim (by_ends arc a) as (λ o. AllByRecursion ArcIn (match_ordering o (arc ∷ a ∷ arcs) (a ∷ arcs) (a ∷ insert_key by_ends arcs arc))) [
        | Less ↦ (h, k)
        | Equal ↦ k
        | Greater ↦ (k.0, insert-at arc arcs h k.1)
      ]

  sorted-at : (arcs : List Arc) → AllByRecursion ArcIn arcs → AllByRecursion ArcIn (arcs_in_order arcs)
  sorted-at [] h = tt
  sorted-at (a ∷ rest) h = insert-at a (arcs_in_order rest) h.0 (sorted-at rest h.1)

  -- the ends of each predicted arc are statement lines, or the outside of what begins at line 1 or at one of these
  pub predicted-at : (m : Stmts) → P 1 → In P (statement_lines m) → AllByRecursion ArcIn (predicted m)
  predicted-at m o h =
      let marks = in_order-in (body_marks m) h in
      sorted-at (module_arcs false m) (both ArcIn _ _ (body-at false 1 (without_docstring m) o (undocumented m marks)) (functions-at false (functions m) (module-bodies P m marks)))
