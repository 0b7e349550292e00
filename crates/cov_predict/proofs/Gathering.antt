-- Going on with what is gathered: parts in a row, and loops over lists.
use Rattle.std.proofs.Common.{◌≡◌, ℕ, suc, ◌+◌, ◌-◌, ◌<◌, ◌≤◌, List, [], ◌∷◌, ◌++◌, Result, Ok, Err, OnOk, length, length-drop, take, drop, get_or, refl, ap, sym, ◌∙◌, append_assoc, drop-cons, add-one}
use Rattle.std.proofs.Math.ListN.{drop_of_length-le}
use Rattle.std.proofs.Math.Seq.{take-length}
use Rattle.std.proofs.lemmas.List.{append-nil}

-- one part, and then another
pub goes_on : {Y A E : Type 0} (r : Result A E) (before mid after x y z : List Y) → OnOk r (after ≡ mid ++ y) → mid ≡ before ++ x → z ≡ x ++ y → OnOk r (after ≡ before ++ z)
goes_on (Ok u) before mid after x y z h e f = h ∙ ap (λ k. k ++ y) e ∙ append_assoc before x y ∙ ap (λ k. before ++ k) (sym f)
goes_on (Err e') before mid after x y z h e f = h

-- two parts
pub then : {Y : Type 0} (before mid after x y : List Y) → mid ≡ before ++ x → after ≡ mid ++ y → after ≡ before ++ (x ++ y)
then before mid after x y e f = f ∙ ap (λ z. z ++ y) e ∙ append_assoc before x y

-- four parts
pub four : {Y A E : Type 0} (r : Result A E) (x y z w : List Y) (before one two three after : List Y)
    → one ≡ before ++ x → two ≡ one ++ y → three ≡ two ++ z → OnOk r (after ≡ three ++ w) → OnOk r (after ≡ before ++ (x ++ (y ++ (z ++ w))))
four r x y z w before one two three after e f g h =
    goes_on r before one after x (y ++ (z ++ w)) (x ++ (y ++ (z ++ w)))
    (goes_on r one two after y (z ++ w) (y ++ (z ++ w)) (goes_on r two three after z w (z ++ w) h g refl) f refl) e refl

-- the same part by another name
pub said : {Y E A : Type 0} (r : Result A E) (before after x y : List Y) → x ≡ y → OnOk r (after ≡ before ++ x) → OnOk r (after ≡ before ++ y)
said (Ok u) before after x y e h = h ∙ ap (λ k. before ++ k) e
said (Err e') before after x y e h = h

-- the end of a loop over a list: nothing is left
pub at_end : {X Y : Type 0} (F : List X → List Y) → F [] ≡ [] → (now was : List Y) (xs : List X) (i : ℕ) → length xs ≤ i → now ++ F (drop i xs) ≡ was → now ≡ was
at_end F e now was xs i le h = sym (append-nil now) ∙ ap (λ z. now ++ z) (sym e ∙ ap F (sym (drop_of_length-le xs le))) ∙ h

pub the_drop : {X : Type 0} (xs : List X) (i : ℕ) (x : X) → i < length xs → x ≡ get_or xs i x → drop i xs ≡ x ∷ drop (i + 1) xs
the_drop xs i x lt is = drop-cons xs i x lt ∙ ap (λ y. y ∷ drop (suc i) xs) (sym is) ∙ ap (λ k. x ∷ drop k xs) (sym (add-one i))

-- what stands after a place, as a slice has it
pub tail-is : {X : Type 0} (xs : List X) (b i : ℕ) → b ≡ i → take (length xs - b) (drop b xs) ≡ drop i xs
tail-is xs b i e = ap (λ z. take z (drop b xs)) (sym (length-drop b xs)) ∙ take-length (drop b xs) ∙ ap (λ z. drop z xs) e
