-- How texts begin.
use Rattle.std.proofs.Common.{◌≡◌, ◌↔◌, ℕ, ◌&&◌, nat_eq, Bool, true, false, IsTrue, List, [], ◌∷◌, ◌++◌, length, take, refl, ap, sym, ◌∙◌}
use Rattle.std.proofs.lemmas.Bool.{eqb-true, eq-eqb}
use Rattle.std.proofs.Math.Seq.{take-append_seam}
use Rattle.py_value.specs.Sequences.{begins}

pub begins_itself : (cs post : List ℕ) → begins cs (cs ++ post) ≡ true
begins_itself [] post = refl
begins_itself (c ∷ cs) post = ap (λ b. b && begins cs (cs ++ post)) (eq-eqb c c refl) ∙ begins_itself cs post

-- what begins with a text has the rest after it
pub begun : (cs ds : List ℕ) → begins cs ds ≡ true → (post : List ℕ) × (ds ≡ cs ++ post)
begun [] ds h = (ds, refl)
begun (c ∷ cs) [] h = absurd (cc)
begun (c ∷ cs) (d ∷ ds) h = go (nat_eq c d) refl h (λ k. begun cs ds k)
  where
    go : (b : Bool) → nat_eq c d ≡ b → (b && begins cs ds) ≡ true → (begins cs ds ≡ true → (post : List ℕ) × (ds ≡ cs ++ post)) → (post : List ℕ) × (d ∷ ds ≡ c ∷ cs ++ post)
    go true e k more = let w : (post : List ℕ) × (ds ≡ cs ++ post) = more k in (w.0, ap (λ x. x ∷ ds) (sym (eqb-true c d e)) ∙ ap (λ xs. c ∷ xs) w.1)
    go false e k more = absurd (cc)

pub not_begun : (b : Bool) → (b ≡ true → ⊥) → b ≡ false
not_begun true h = absurd (h refl)
not_begun false h = refl

front_begins : (fs ws : List ℕ) → take (length fs) ws ≡ fs → begins fs ws ≡ true
front_begins [] ws e = refl
front_begins (f ∷ fs) [] e = absurd (cc)
front_begins (f ∷ fs) (w ∷ ws) e =
    let first : f ≡ w = cc in
    let others : take (length fs) ws ≡ fs = cc in
    ap (λ b. b && begins fs ws) (eq-eqb f w first) ∙ front_begins fs ws others

never : IsTrue false → ⊥
never h = cc

-- a text begins with another where as many of its characters are the other
pub same_front : (fs ws : List ℕ) (b : Bool) → IsTrue b ↔ (take (length fs) ws ≡ fs) → b ≡ begins fs ws
same_front fs ws true h = sym (front_begins fs ws (h.0 refl))
same_front fs ws false h =
    sym (not_begun (begins fs ws) (λ t. let w : (post : List ℕ) × (ws ≡ fs ++ post) = begun fs ws t in never (h.1 (ap (take (length fs)) w.1 ∙ take-append_seam fs w.0))))
