use Rattle.std.proofs.Common.{◌≡◌, List, ℕ, [], ◌∷◌, map, ap, sym, ◌∙◌, refl}
use Rattle.std.proofs.lemmas.Iterator.{YieldsList-from_chars}
use Rattle.std.proofs.lemmas.Iterator.Consumers.{YieldsList-end}
use Rattle.py_builtins.proofs.char_lists.characters_of.Goals as goal

same : (xs : List ℕ) → map (λ c. c) xs ≡ xs
same [] = refl
same (x ∷ xs) = ap (λ ys. x ∷ ys) (same xs)

pub returns : goal.returns
returns c =
    let t = YieldsList-end (YieldsList-from_chars c.as_str.result.now c.as_str.utf8 cc) c.loop-c.yielded _ c.loop-c.yielded_by _ _ c.in-None.is c.next.ensures.steps in
    c.loop-c.invariant ∙ sym (same c.loop-c.yielded) ∙ t.0 ∙ c.as_str.ensures.characters
