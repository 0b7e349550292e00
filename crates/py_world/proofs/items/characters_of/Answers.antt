use Rattle.std.proofs.Common.{◌≡◌, List, ℕ, [], ◌∷◌, ◌++◌, map, ap, sym, ◌∙◌, refl}
use Rattle.std.proofs.lemmas.Iterator.{YieldsList-from_chars}
use Rattle.std.proofs.lemmas.Iterator.Consumers.{YieldsList-end}
use Rattle.std.proofs.lemmas.List.{map-append}
use Rattle.py_value.specs.Operators.{characters}
use Rattle.py_value.specs.declared.value.Value.TheVariants.{Str}
use Rattle.py_value.specs.Plain.{str_value}
use Rattle.py_value.specs.View.{plain, plains}
use Rattle.py_world.proofs.items.characters_of.Goals as goal

same : (xs : List ℕ) → map (λ c. c) xs ≡ xs
same [] = refl
same (x ∷ xs) = ap (λ ys. x ∷ ys) (same xs)

pub loop-c-preserved : goal.loop-c-preserved
loop-c-preserved c =
    let x = c.in-Some.c in
    let seen = c.loop-c.yielded in
    ap plains c.in_ok-push.ensures.items
    ∙ map-append plain c.loop-c.values.items (Str c.in_ok-of_char.field-0 ∷ [])
    ∙ ap (λ ys. ys ++ str_value c.in_ok-of_char.field-0 ∷ []) c.loop-c.invariant
    ∙ ap (λ t. characters seen ++ str_value t ∷ []) c.in_ok-of_char.ensures
    ∙ sym (map-append (λ k. str_value (k ∷ [])) seen (x ∷ []))

pub returns : goal.returns
returns c =
    let t = YieldsList-end (YieldsList-from_chars c.args.text.now c.utf8.text cc) c.loop-c.yielded _ c.loop-c.yielded_by _ _ c.in-None.is c.next.ensures.steps in
    c.loop-c.invariant ∙ ap characters (sym (same c.loop-c.yielded) ∙ t.0)
