-- Cells of rows, place by place.
use Rattle.std.proofs.Common.{◌≡◌, ℕ, suc, ◌+◌, ◌<◌, ◌≤◌, List, [], ◌∷◌, ◌++◌, length, take, get_or, sym, ap, subst, ◌∙◌, arith, take-suc}
use Rattle.std.specs.List.{AllZip}
use Rattle.std.proofs.lemmas.List.{take_all}

module _ {A B : Type 0} (R : A → B → Type 0) where
  pub zip-push : (xs : List A) (ys : List B) (x : A) (y : B) → AllZip R xs ys → R x y → AllZip R (xs ++ x ∷ []) (ys ++ y ∷ [])
  zip-push [] [] x y h k = (k, tt)
  zip-push [] (b ∷ ys) x y h k = absurd h
  zip-push (a ∷ xs) [] x y h k = absurd h
  zip-push (a ∷ xs) (b ∷ ys) x y h k = (h.0, zip-push xs ys x y h.1 k)

  -- one place further
  pub zip-next : (xs : List A) (i : ℕ) (ys : List B) (d : A) (y : B) → i < length xs → AllZip R (take i xs) ys → R (get_or xs i d) y → AllZip R (take (i + 1) xs) (ys ++ y ∷ [])
  zip-next xs i ys d y low h k =
      let e : suc i ≡ i + 1 = omega arith in
      subst (λ zs. AllZip R zs (ys ++ y ∷ [])) (sym (take-suc xs i d low) ∙ ap (λ j. take j xs) e) (zip-push (take i xs) ys (get_or xs i d) y h k)

  pub zip-whole : (xs : List A) (i : ℕ) (ys : List B) → length xs ≤ i → AllZip R (take i xs) ys → AllZip R xs ys
  zip-whole xs i ys high h = subst (λ zs. AllZip R zs ys) (take_all i xs high) h
