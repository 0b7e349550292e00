-- The globals of the modules, one module after another, and the modules that were begun.
use Rattle.std.proofs.Common.{◌≡◌, ℕ, zero, suc, ◌+◌, ◌<◌, ◌≤◌, List, [], ◌∷◌, ◌++◌, length, take, drop, Some, None, Bool, true, false, refl, sym, ap, ◌∙◌, arith}
use Rattle.std.proofs.lemmas.Bool.Decides.{nat_tests}
use Rattle.std.specs.Prelude.{nat_eq, ◌||◌, if◌then◌else◌, slice_get, slice_set}
use Rattle.std.specs.Prelude.{remove}
use Rattle.std.proofs.Common.{get_or, append_assoc, append-nil}
use Rattle.std.proofs.lemmas.List.{take_all, drop_all}
use Rattle.py_world.proofs.Walked.{one_on, drop_here, take_here}
use Rattle.py_builtins.specs.World.{Names, names_at, with_names_at, is_among, without_number}

pub room_more : (m : ℕ) (gs : List Names) (f : Names → Names) → length gs ≤ m → with_names_at m f (gs ++ [] ∷ []) ≡ with_names_at m f gs
unfolding with_names_at
room_more zero [] f le = refl
room_more (suc m) [] f le = refl
room_more zero (g ∷ gs) f le = absurd (omega arith)
room_more (suc m) (g ∷ gs) f le = ap (λ xs. g ∷ xs) (room_more m gs f (omega arith))

pub room_enough : (m : ℕ) (gs : List Names) → m < length gs → with_names_at m (λ n. n) gs ≡ gs
unfolding with_names_at
room_enough m [] lt = absurd (omega arith)
room_enough zero (g ∷ gs) lt = refl
room_enough (suc m) (g ∷ gs) lt = ap (λ xs. g ∷ xs) (room_enough m gs (omega arith))

pub with_at : (m : ℕ) (gs : List Names) (f : Names → Names) (g : Names) → slice_get gs m ≡ Some g → with_names_at m f gs ≡ slice_set gs m (f g)
unfolding with_names_at
with_at m [] f g e = absurd cc
with_at zero (h ∷ gs) f g e = let same : h ≡ g = cc in ap (λ x. f x ∷ gs) same
with_at (suc m) (h ∷ gs) f g e = ap (λ xs. h ∷ xs) (with_at m gs f g e)

pub with_twice : (m : ℕ) (gs : List Names) (f : Names → Names) → with_names_at m f (with_names_at m (λ n. n) gs) ≡ with_names_at m f gs
unfolding with_names_at
with_twice zero [] f = refl
with_twice (suc m) [] f = ap (λ xs. [] ∷ xs) (with_twice m [] f)
with_twice zero (g ∷ gs) f = refl
with_twice (suc m) (g ∷ gs) f = ap (λ xs. g ∷ xs) (with_twice m gs f)

pub names_found : (m : ℕ) (gs : List Names) (g : Names) → slice_get gs m ≡ Some g → names_at m gs ≡ g
unfolding names_at
names_found m [] g e = absurd cc
names_found zero (h ∷ gs) g e = let same : h ≡ g = cc in same
names_found (suc m) (h ∷ gs) g e = names_found m gs g e

pub names_past : (m : ℕ) (gs : List Names) → slice_get gs m ≡ None → names_at m gs ≡ []
unfolding names_at
names_past m [] e = refl
names_past zero (h ∷ gs) e = absurd cc
names_past (suc m) (h ∷ gs) e = names_past m gs e

pub among_none : (m : ℕ) → is_among m [] ≡ false
unfolding is_among
among_none m = refl

same_number : (m n : ℕ) → n ≡ m → nat_eq m n ≡ true
same_number m n e = grind (arith, nat_tests)

other_number : (m n : ℕ) → (n ≡ m → ⊥) → nat_eq m n ≡ false
other_number m n e = by_case (nat_eq m n) refl
  where
    by_case : (b : Bool) → nat_eq m n ≡ b → nat_eq m n ≡ false
    by_case true h = absurd (e (grind (arith, nat_tests)))
    by_case false h = h

pub among_here : (m n : ℕ) (ns : List ℕ) → n ≡ m → is_among m (n ∷ ns) ≡ true
unfolding is_among
among_here m n ns e = ap (λ b. b || is_among m ns) (same_number m n e)

pub among_next : (m n : ℕ) (ns : List ℕ) → (n ≡ m → ⊥) → is_among m (n ∷ ns) ≡ is_among m ns
unfolding is_among
among_next m n ns e = ap (λ b. b || is_among m ns) (other_number m n e)

pub forgotten_none : (m : ℕ) → without_number m [] ≡ []
unfolding without_number
forgotten_none m = refl

pub forgotten_here : (m n : ℕ) (ns : List ℕ) → n ≡ m → without_number m (n ∷ ns) ≡ ns
unfolding without_number
forgotten_here m n ns e = ap (λ b. if b then ns else n ∷ without_number m ns) (same_number m n e)

pub forgotten_next : (m n : ℕ) (ns : List ℕ) → (n ≡ m → ⊥) → without_number m (n ∷ ns) ≡ n ∷ without_number m ns
unfolding without_number
forgotten_next m n ns e = ap (λ b. if b then ns else n ∷ without_number m ns) (other_number m n e)

pub set_at : (m : ℕ) (gs : List Names) (x : Names) → m < length gs → with_names_at m (λ y. x) gs ≡ slice_set gs m x
unfolding with_names_at
set_at m [] x lt = absurd (omega arith)
set_at zero (g ∷ gs) x lt = refl
set_at (suc m) (g ∷ gs) x lt = ap (λ xs. g ∷ xs) (set_at m gs x (omega arith))

-- a number that is taken away, walked by its places
module _ (m : ℕ) (xs whole : List ℕ) (p : ℕ) (h : take p xs ++ without_number m (drop p xs) ≡ whole) where
  pub forget_on : (x : ℕ) → p < length xs → x ≡ get_or xs p x → (x ≡ m → ⊥) → take (p + 1) xs ++ without_number m (drop (p + 1) xs) ≡ whole
  forget_on x lt e ne =
      ap (λ ys. ys ++ without_number m (drop (p + 1) xs)) (take_here xs p x lt e)
      ∙ append_assoc (take p xs) (x ∷ []) (without_number m (drop (p + 1) xs))
      ∙ ap (λ ys. take p xs ++ ys) (sym (ap (without_number m) (drop_here xs p x lt e) ∙ forgotten_next m x (drop (p + 1) xs) ne))
      ∙ h

  pub forget_here : (x : ℕ) → p < length xs → x ≡ get_or xs p x → x ≡ m → remove xs p ≡ whole
  forget_here x lt e same = ap (λ k. take p xs ++ drop k xs) (one_on p) ∙ ap (λ ys. take p xs ++ ys) (sym (ap (without_number m) (drop_here xs p x lt e) ∙ forgotten_here m x (drop (p + 1) xs) same)) ∙ h

  pub forget_end : length xs ≤ p → xs ≡ whole
  forget_end le =
      sym (append-nil xs)
      ∙ ap (λ ys. ys ++ []) (sym (take_all p xs le))
      ∙ ap (λ ys. take p xs ++ ys) (sym (ap (without_number m) (drop_all p xs le) ∙ forgotten_none m))
      ∙ h
