-- Loops over lists.
use Rattle.std.proofs.Common.{◌≡◌, ℕ, suc, ◌+◌, ◌-◌, ◌<◌, arith, ◌≤◌, List, Vec, [], ◌∷◌, ◌++◌, map, refl, ap, sym, ◌∙◌, length, get_or, append_assoc}
use Rattle.std.proofs.Math.ListN.{drop, drop_of_length-le}
use Rattle.py_value.specs.Sequences.{repeat}
use Rattle.std.specs.Prelude.{replicate}
use Rattle.std.specs.declared.alloc.Global.{Global}
use Rattle.std.proofs.lemmas.List.{append-nil, map_push, replicate_more, at_drop_more}

-- the end of a loop that adds what a list gives
pub at_end : {X Y : Type 0} (F : List X → List Y) → F [] ≡ [] → (now was : List Y) (xs : List X) (i : ℕ) → length xs ≤ i → now ++ F (drop i xs) ≡ was ++ F xs → now ≡ was ++ F xs
at_end F e now was xs i le h = sym (append-nil now) ∙ ap (λ z. now ++ z) (sym e ∙ ap F (sym (drop_of_length-le xs le))) ∙ h

-- a turn of such a loop, which adds an item that is seen as the list's next one
pub at_step : {X Y : Type 0} (f : X → Y) (now all : List X) (new : X) (xs : List X) (x : X) (i : ℕ) (want : List Y) → all ≡ now ++ new ∷ [] → f new ≡ f x → i < length xs → x ≡ get_or xs i x
    → map f now ++ map f (drop i xs) ≡ want → map f all ++ map f (drop (i + 1) xs) ≡ want
at_step f now all new xs x i want a s l e h =
    ap (λ ys. map f ys ++ map f (drop (i + 1) xs)) a
    ∙ ap (λ ys. ys ++ map f (drop (i + 1) xs)) (map_push f now new)
    ∙ append_assoc (map f now) (f new ∷ []) (map f (drop (i + 1) xs))
    ∙ ap (λ y. map f now ++ y ∷ map f (drop (i + 1) xs)) (s ∙ ap f e)
    ∙ ap (λ ys. map f now ++ ys) (sym (at_drop_more (map f) xs i x l))
    ∙ h

-- one more item on both sides
pub one_more : {X Y Z : Type 0} (f : X → Y) (g : Z → Y) (now all : List X) (new : X) (zs : List Z) (z : Z) → all ≡ now ++ new ∷ [] → f new ≡ g z → map f now ≡ map g zs
    → map f all ≡ map g (zs ++ z ∷ [])
one_more f g now all new zs z a s h =
    ap (map f) a ∙ map_push f now new ∙ ap (λ ys. ys ++ f new ∷ []) h ∙ ap (λ y. map g zs ++ y ∷ []) s ∙ sym (map_push g zs z)

-- one more empty list
pub one_more_empty : (vs : List (Vec ℕ Global)) (v : Vec ℕ Global) (n : ℕ) → v.items ≡ [] → map (λ w. w.items) vs ≡ replicate n [] → map (λ w. w.items) (vs ++ v ∷ []) ≡ replicate (n + 1) []
one_more_empty vs v n e f =
    map_push (λ w. w.items) vs v ∙ ap (λ xs. xs ++ v.items ∷ []) f ∙ ap (λ x. replicate n [] ++ x ∷ []) e ∙ replicate_more n []
