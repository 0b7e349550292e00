-- The walk of a module has the arcs of the module.
use Rattle.std.proofs.Common.{◌≡◌, ℕ, ℤ, pos, Bool, true, false, if◌then◌else◌, List, [], ◌∷◌, ◌++◌, map, refl, ap, sym, ◌∙◌}
use Rattle.std.specs.Prelude.{◌||◌, ◌&&◌}
use Rattle.std.specs.List.{list_any}
use Rattle.std.specs.Ordering.{eq_by_cmp, int_eq}
use Rattle.py_syntax.specs.FirstMarks.{stmts_empty, stmts_first}
use Rattle.py_syntax.specs.Functions.{Function, functions, without_docstring}
use Rattle.py_syntax.specs.LastMarks.{Way, onward, breaking, continuing, returning, raising, stmts_last}
use Rattle.py_syntax.specs.Neighbours.{Pair, stmts_pairs}
use Rattle.py_syntax.specs.Prediction.{Arc, by_ends, outside, body_arcs, functions_arcs, module_arcs}
use Rattle.py_syntax.specs.Tree.{Stmts}
use Rattle.cov_predict.specs.Walk.{leaving, stmts_walk, body_walk, functions_walk, module_walk}
use Rattle.cov_predict.proofs.Hits.{choices, or_false, hits, hits-append, from, all_from, all_from-append, all_from-nowhere, has_pair}
use Rattle.cov_predict.proofs.ByWay.{ways}
use Rattle.cov_predict.proofs.Law.{stmts-law}

body-is : (f p n r x e : Bool) → (f || (e || (p || (n || (false || (false || (r || x))))))) ≡ (f || (p || ((n || (r || x)) || e)))
body-is f p n r x e = simp choices

module _ (q : Arc) where
  -- out of a body from one mark
  one-out : (out : ℤ) (l : ℕ) → from q l ((out, true) ∷ []) ≡ eq_by_cmp by_ends q (pos l, out)
  unfolding from hits
  one-out out l = elim (int_eq (pos l) out) as (λ b. hits q ((if b && false then [] else (pos l, out) ∷ []) ++ []) ≡ eq_by_cmp by_ends q (pos l, out)) [ true ↦ or_false (eq_by_cmp by_ends q (pos l, out)) | false ↦ or_false (eq_by_cmp by_ends q (pos l, out)) ]

  all-out : (out : ℤ) (ls : List ℕ) → all_from q ls ((out, true) ∷ []) ≡ hits q (map (λ l. (pos l, out)) ls)
  unfolding all_from hits
  all-out out [] = refl
  all-out out (l ∷ ls) = ap (λ b. b || all_from q ls ((out, true) ∷ [])) (one-out out l) ∙ ap (λ b. eq_by_cmp by_ends q (pos l, out) || b) (all-out out ls)

  left-out : (out : ℤ) (last : Way → List ℕ) → ways q last (leaving out) ≡ (all_from q (last onward) ((out, true) ∷ []) || (false || (false || (all_from q (last returning) ((out, true) ∷ []) || all_from q (last raising) ((out, true) ∷ [])))))
  unfolding ways
  left-out out last =
      ap (λ b. all_from q (last onward) ((out, true) ∷ []) || (b || (all_from q (last continuing) [] || (all_from q (last returning) ((out, true) ∷ []) || all_from q (last raising) ((out, true) ∷ []))))) (all_from-nowhere q (last breaking))
      ∙ ap (λ b. all_from q (last onward) ((out, true) ∷ []) || (false || (b || (all_from q (last returning) ((out, true) ∷ []) || all_from q (last raising) ((out, true) ∷ []))))) (all_from-nowhere q (last continuing))

  lasts-out : (out : ℤ) (n r x : List ℕ) → hits q (map (λ l. (pos l, out)) (n ++ (r ++ x))) ≡ (all_from q n ((out, true) ∷ []) || (all_from q r ((out, true) ∷ []) || all_from q x ((out, true) ∷ [])))
  lasts-out out n r x =
      sym (all-out out (n ++ (r ++ x))) ∙ all_from-append q n (r ++ x) ((out, true) ∷ []) ∙ ap (λ b. all_from q n ((out, true) ∷ []) || b) (all_from-append q r x ((out, true) ∷ []))

  pairs-are : (ps : List Pair) → has_pair q ps ≡ hits q (map (λ p. (pos p.0, pos p.1)) ps)
  unfolding has_pair
  pairs-are ps = refl

  body-law : (any : Bool) (first : ℕ) (b : Stmts) → hits q (body_walk any first b) ≡ hits q (body_arcs any first b)
  body-law any first b =
      let out = outside first in
      let F : List Arc = map (λ l. (out, pos l)) (stmts_first b) in
      let E : List Arc = if stmts_empty b then (out, out) ∷ [] else [] in
      let W = stmts_walk any (leaving out) b in
      let P : List Arc = map (λ p. (pos p.0, pos p.1)) (stmts_pairs any b) in
      let n = stmts_last any onward b in
      let r = stmts_last any returning b in
      let x = stmts_last any raising b in
      let L : List Arc = map (λ l. (pos l, out)) (n ++ (r ++ x)) in
      let away = (out, true) ∷ [] in
      hits-append q F (E ++ W)
      ∙ ap (λ z. hits q F || z) (hits-append q E W ∙ ap (λ z. hits q E || z) (stmts-law q any (leaving out) b
      ∙ ap (λ z. z || ways q (λ w. stmts_last any w b) (leaving out)) (pairs-are (stmts_pairs any b))
      ∙ ap (λ z. hits q P || z) (left-out out (λ w. stmts_last any w b))))
      ∙ body-is (hits q F) (hits q P) (all_from q n away) (all_from q r away) (all_from q x away) (hits q E)
      ∙ sym (hits-append q F (P ++ (L ++ E))
      ∙ ap (λ z. hits q F || z) (hits-append q P (L ++ E) ∙ ap (λ z. hits q P || z) (hits-append q L E ∙ ap (λ z. z || hits q E) (lasts-out out n r x))))

  functions-law : (any : Bool) (fs : List Function) → hits q (functions_walk any fs) ≡ hits q (functions_arcs any fs)
  functions-law any [] = refl
  functions-law any (f ∷ fs) =
      hits-append q (body_walk any f.line (without_docstring f.body)) (functions_walk any fs)
      ∙ ap (λ z. z || hits q (functions_walk any fs)) (body-law any f.line (without_docstring f.body))
      ∙ ap (λ z. hits q (body_arcs any f.line (without_docstring f.body)) || z) (functions-law any fs)
      ∙ sym (hits-append q (body_arcs any f.line (without_docstring f.body)) (functions_arcs any fs))

  pub module-law : (any : Bool) (m : Stmts) → hits q (module_walk any m) ≡ hits q (module_arcs any m)
  module-law any m =
      hits-append q (body_walk any 1 (without_docstring m)) (functions_walk any (functions m))
      ∙ ap (λ z. z || hits q (functions_walk any (functions m))) (body-law any 1 (without_docstring m))
      ∙ ap (λ z. hits q (body_arcs any 1 (without_docstring m)) || z) (functions-law any (functions m))
      ∙ sym (hits-append q (body_arcs any 1 (without_docstring m)) (functions_arcs any (functions m)))

  pub same-arcs : (any : Bool) (m : Stmts) → list_any (eq_by_cmp by_ends q) (module_walk any m) ≡ list_any (eq_by_cmp by_ends q) (module_arcs any m)
  unfolding hits
  same-arcs any m = module-law any m
