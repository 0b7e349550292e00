-- The arcs of the walk, in order, are those of the module.
use Rattle.std.proofs.Common.{◌≡◌, ℕ, ℤ, pos, neg_ℤ, Bool, if◌then◌else◌, Option, Some, None, List, [], ◌∷◌, ◌++◌, map, ap, sym, ◌∙◌, append_assoc}
use Rattle.py_syntax.specs.FirstMarks.{stmts_first, stmts_empty}
use Rattle.py_syntax.specs.Functions.{without_docstring}
use Rattle.py_syntax.specs.Prediction.{Arc, by_ends, module_arcs, arcs_in_order}
use Rattle.py_syntax.specs.Tree.{Stmts}
use Rattle.cov_predict.specs.Defs.{stmts_defs}
use Rattle.cov_predict.specs.Leaving.{IsFirst}
use Rattle.cov_predict.specs.Parts.{entry}
use Rattle.cov_predict.specs.Walk.{Targets, leaving, stmts_walk, body_walk, module_walk}
use Rattle.cov_predict.proofs.Defined.{stmts-defined}
use Rattle.cov_predict.proofs.Modules.{same-arcs}
use Rattle.cov_predict.proofs.Sets.{ordered, ordered-same, arcs_in_order-is, by_ends-total, by_ends-IsAntisymmetric}

pub walked-in_order : (any : Bool) (m : Stmts) → arcs_in_order (module_walk any m) ≡ arcs_in_order (module_arcs any m)
walked-in_order any m =
    arcs_in_order-is (module_walk any m)
    ∙ ordered-same by_ends by_ends-total by_ends-IsAntisymmetric (module_walk any m) (module_arcs any m) (λ q. same-arcs q any m)
    ∙ sym (arcs_in_order-is (module_arcs any m))

-- a body: what comes first in it, or the one arc of a body without a mark, and then its statements
pub a-body : (any : Bool) (first : ℕ) (out : ℤ) (start entered walked : List Arc) (b b' : Stmts) (r : Option ℕ) (t : Targets)
    → out ≡ neg_ℤ (pos first) → IsFirst r (stmts_first b) (stmts_empty b) → entered ≡ start ++ entry out r ∷ [] → t ≡ leaving out
    → walked ≡ entered ++ stmts_walk any t b → b ≡ b' → walked ≡ start ++ body_walk any first b'
a-body any first out start entered walked b b' None t e h f g k same =
    k ∙ ap (λ z. z ++ stmts_walk any t b) f ∙ append_assoc start ((out, out) ∷ []) (stmts_walk any t b)
    ∙ ap (λ z. start ++ ((out, out) ∷ stmts_walk any z b)) g
    ∙ ap (λ z. start ++ ((z, z) ∷ stmts_walk any (leaving z) b)) e
    ∙ ap (λ z. start ++ (map (λ l. (neg_ℤ (pos first), pos l)) z ++ ((neg_ℤ (pos first), neg_ℤ (pos first)) ∷ stmts_walk any (leaving (neg_ℤ (pos first))) b))) (sym h.0)
    ∙ ap (λ z. start ++ (map (λ l. (neg_ℤ (pos first), pos l)) (stmts_first b) ++ ((if z then (neg_ℤ (pos first), neg_ℤ (pos first)) ∷ [] else []) ++ stmts_walk any (leaving (neg_ℤ (pos first))) b))) (sym h.1)
    ∙ ap (λ z. start ++ body_walk any first z) same
a-body any first out start entered walked b b' (Some l) t e h f g k same =
    k ∙ ap (λ z. z ++ stmts_walk any t b) f ∙ append_assoc start ((out, pos l) ∷ []) (stmts_walk any t b)
    ∙ ap (λ z. start ++ ((out, pos l) ∷ stmts_walk any z b)) g
    ∙ ap (λ z. start ++ ((z, pos l) ∷ stmts_walk any (leaving z) b)) e
    ∙ ap (λ z. start ++ (map (λ l. (neg_ℤ (pos first), pos l)) z ++ stmts_walk any (leaving (neg_ℤ (pos first))) b)) (sym h.0)
    ∙ ap (λ z. start ++ (map (λ l. (neg_ℤ (pos first), pos l)) (stmts_first b) ++ ((if z then (neg_ℤ (pos first), neg_ℤ (pos first)) ∷ [] else []) ++ stmts_walk any (leaving (neg_ℤ (pos first))) b))) (sym h.1)
    ∙ ap (λ z. start ++ body_walk any first z) same

-- a module: its body, and its functions
pub a-module : (any : Bool) (start walked all : List Arc) (m b c : Stmts) → start ≡ [] → b ≡ m → c ≡ m → walked ≡ start ++ body_walk any 1 (without_docstring b) → all ≡ walked ++ stmts_defs any c
    → all ≡ module_walk any m
a-module any start walked all m b c e f g h k =
    k ∙ ap (λ z. z ++ stmts_defs any c) (h ∙ ap (λ z. z ++ body_walk any 1 (without_docstring b)) e ∙ ap (λ z. body_walk any 1 (without_docstring z)) f)
    ∙ ap (λ z. body_walk any 1 (without_docstring m) ++ z) (ap (stmts_defs any) g ∙ stmts-defined any m)
