-- The fields of an f-string are those of trees exactly where the machine reads them.
use Rattle.std.specs.Prelude.{◌↔◌, IsTrue, is_some}
use Rattle.std.proofs.Common.{◌≡◌, Bool, true, false, Option, Some, None, refl, sym, ap, subst, ◌∙◌}
use Rattle.py_syntax.specs.Tree.{Parts}
use Rattle.py_syntax.specs.Kinds.{Pieces}
use Rattle.py_syntax.specs.Tokens.{pieces}
use Rattle.py_syntax.specs.Normal.{NormalParts}
use Rattle.py_grammar.specs.Machine.{parts}
use Rattle.py_grammar.specs.Refusal.{AreSpelled}
use Rattle.py_grammar.proofs.Sound.Spelled.{parts_spell, parts_valid}
use Rattle.py_grammar.proofs.Complete.{back_parts}

found : (o : Option Parts) (qs : Parts) → o ≡ Some qs → is_some o ≡ true
found o qs h = ap (λ (x : Option Parts). is_some x) h

spelled : (ps : Pieces) (o : Option Parts) → parts ps ≡ o → is_some o ≡ true → AreSpelled ps
spelled ps None same h = absurd cc
spelled ps (Some qs) same h = (qs, parts_valid ps qs same, parts_spell ps qs same)

read : (ps : Pieces) → AreSpelled ps → is_some (parts ps) ≡ true
read ps h = found (parts ps) h.0 (subst (λ (x : Pieces). parts x ≡ Some h.0) h.2 (back_parts h.0 h.1))

false≢true : false ≡ true → ⊥
false≢true h = absurd cc

-- what the machine tells, said of trees
pub told : (b : Bool) (ps : Pieces) → b ≡ is_some (parts ps) → (b ≡ true) ↔ AreSpelled ps
told b ps h = (λ is. spelled ps (parts ps) refl (sym h ∙ is), λ tree. h ∙ read ps tree)

-- and back
pub untold : (b : Bool) (ps : Pieces) → ((b ≡ true) ↔ AreSpelled ps) → b ≡ is_some (parts ps)
untold true ps h = sym (read ps (h.0 refl))
untold false ps h = go (parts ps) refl
  where
    go : (o : Option Parts) → parts ps ≡ o → false ≡ is_some o
    go None same = refl
    go (Some qs) same = absurd (false≢true (h.1 (spelled ps (Some qs) same refl)))
