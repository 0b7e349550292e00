-- The folder of a file's name, character by character.
use Rattle.std.proofs.Common.{◌≡◌, ℕ, false, nat_eq, List, [], ◌∷◌, ◌++◌, refl, sym, subst}
use Rattle.py_meaning.specs.Loading.{folder_of}

-- up to a `/`
pub folder-slash : (xs : List ℕ) → folder_of (xs ++ 47 ∷ []) ≡ xs ++ 47 ∷ []
unfolding folder_of
folder-slash [] = refl
folder-slash (x ∷ []) = refl
folder-slash (x ∷ y ∷ ys) = rw (folder-slash (y ∷ ys)) refl

-- and any other character
pub folder-more : (xs : List ℕ) (c : ℕ) → nat_eq c 47 ≡ false → folder_of (xs ++ c ∷ []) ≡ folder_of xs
unfolding folder_of
folder-more [] c h = rw h refl
folder-more (x ∷ xs) c h = rw (folder-more xs c h) refl

pub folder-none : [] ≡ folder_of []
unfolding folder_of
folder-none = refl

pub folder-slash-at : (xs : List ℕ) (c : ℕ) → c ≡ 47 → folder_of (xs ++ c ∷ []) ≡ xs ++ c ∷ []
folder-slash-at xs c e = subst (λ d. folder_of (xs ++ d ∷ []) ≡ xs ++ d ∷ []) (sym e) (folder-slash xs)
