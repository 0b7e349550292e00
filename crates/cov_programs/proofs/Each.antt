-- One program for each element of a list.
use Rattle.std.proofs.Common.{◌≡◌, ℕ, ◌+◌, ◌<◌, ◌≤◌, List, [], ◌∷◌, ◌++◌, length, drop, get_or, refl, sym, ap, ◌∙◌, subst, Result, Ok, Err, add-one}
use Rattle.std.proofs.Math.Seq.{drop-cons}
use Rattle.std.proofs.lemmas.List.{append_assoc, append-nil, drop_all}
use Rattle.cov_programs.specs.Programs.{Program, give, settle, refuse, ask, bind, each}
use Rattle.cov_programs.specs.Objects.{Moves}
use Rattle.cov_programs.specs.Ends.{Follows, IsOpen}
use Rattle.cov_programs.proofs.Composing.{goes-on, stops, gives, starves}

-- what is given after others
abbrev pub after : {B R : Type 0} → List B → Result (List B) R → Result (List B) R
after ys (Ok more) = Ok (ys ++ more)
after ys (Err r) = Err r

pub after-none : {B R : Type 0} (e : Result (List B) R) → after [] e ≡ e
after-none (Ok more) = refl
after-none (Err r) = refl

pub after-more : {B R : Type 0} (ys : List B) (y : B) (e : Result (List B) R) → after ys (after (y ∷ []) e) ≡ after (ys ++ y ∷ []) e
after-more ys y (Ok more) = ap Ok (sym (append_assoc ys (y ∷ []) more))
after-more ys y (Err r) = refl

pub then-open : {C : Type 0} {Answer : C → Type 0} {R A B : Type 0} (p : Program C Answer R A) (next : A → Program C Answer R B) → IsOpen p → ((a : A) → IsOpen (next a)) → IsOpen (bind p next)
then-open (give a) next o h = h a
then-open (settle a) next o h = absurd o
then-open (refuse r) next o h = tt
then-open (ask call f) next o h = tt

module _ {C : Type 0} {Answer : C → Type 0} {R A B : Type 0} (p : A → Program C Answer R B) (open-each : (a : A) → IsOpen (p a)) where
  pub each-open : (xs : List A) → IsOpen (each p xs)
  each-open [] = tt
  each-open (x ∷ rest) = then-open (p x) (λ b. bind (each p rest) (λ more. give (b ∷ more))) (open-each x) (λ b. then-open (each p rest) (λ more. give (b ∷ more)) (each-open rest) (λ more. tt))

  module _ {W : Type 0} {moves : Moves C Answer W} {wants : R → Type 0} where
    -- the first element, and then the rest
    pub each-goes-on : {old mid new : W} (x : A) (y : B) (rest : List A) (e : Result (List B) R) → Follows moves wants (p x) old (Ok y) mid → Follows moves wants (each p rest) mid e new
        → Follows moves wants (each p (x ∷ rest)) old (after (y ∷ []) e) new
    each-goes-on x y rest (Ok more) f g = goes-on (λ b. bind (each p rest) (λ more. give (b ∷ more))) f (goes-on (λ more. give (y ∷ more)) g gives)
    each-goes-on x y rest (Err r) f g = goes-on (λ b. bind (each p rest) (λ more. give (b ∷ more))) f (stops (λ more. give (y ∷ more)) g (λ more. tt))

    pub each-stops : {old new : W} (x : A) (rest : List A) (r : R) → Follows moves wants (p x) old (Err r) new → Follows moves wants (each p (x ∷ rest)) old (Err r) new
    each-stops x rest r f = stops (λ b. bind (each p rest) (λ more. give (b ∷ more))) f (λ b. then-open (each p rest) (λ more. give (b ∷ more)) (each-open rest) (λ more. tt))

-- Of a list all but the rest is done, and gave these values: whatever the rest gives, the whole list
-- gives it after them. This is what a loop keeps.
pub record IsDone {C : Type 0} {Answer : C → Type 0} {R A B W : Type 0} (moves : Moves C Answer W) (wants : R → Type 0) (p : A → Program C Answer R B)
    (all rest : List A) (ys : List B) (old now : W) : Type 0 where
  pub so : (e : Result (List B) R) (new : W) → Follows moves wants (each p rest) now e new → Follows moves wants (each p all) old (after ys e) new

module _ {C : Type 0} {Answer : C → Type 0} {R A B W : Type 0} (moves : Moves C Answer W) (wants : R → Type 0) (p : A → Program C Answer R B) (open-each : (a : A) → IsOpen (p a)) where
  pub done-none : (all : List A) (old : W) → IsDone moves wants p all all [] old old
  done-none all old = record { so = λ e new h. subst (λ d. Follows moves wants (each p all) old d new) (sym (after-none e)) h }

  pub done-more : (all rest : List A) (x : A) (ys : List B) (y : B) (old now mid : W) → IsDone moves wants p all (x ∷ rest) ys old now → Follows moves wants (p x) now (Ok y) mid
      → IsDone moves wants p all rest (ys ++ y ∷ []) old mid
  done-more all rest x ys y old now mid d f = record { so = λ e new h. subst (λ g. Follows moves wants (each p all) old g new) (after-more ys y e) (d.so (after (y ∷ []) e) new (each-goes-on p open-each x y rest e f h)) }

  pub done-stops : (all rest : List A) (x : A) (ys : List B) (r : R) (old now new : W) → IsDone moves wants p all (x ∷ rest) ys old now → Follows moves wants (p x) now (Err r) new
      → Follows moves wants (each p all) old (Err r) new
  done-stops all rest x ys r old now new d f = d.so (Err r) new (each-stops p open-each x rest r f)

  pub done-starves : (all rest : List A) (ys : List B) (r : R) (old now : W) → IsDone moves wants p all rest ys old now → wants r → Follows moves wants (each p all) old (Err r) now
  done-starves all rest ys r old now d h = d.so (Err r) now (starves (each-open p open-each rest) h)

  pub done-all : (all : List A) (ys : List B) (old now : W) → IsDone moves wants p all [] ys old now → Follows moves wants (each p all) old (Ok ys) now
  done-all all ys old now d = subst (λ zs. Follows moves wants (each p all) old (Ok zs) now) (append-nil ys) (d.so (Ok []) now gives)

-- ---- the same of a loop over the numbers of the elements

drop-at : {A : Type 0} (xs : List A) (i : ℕ) (x : A) → i < length xs → drop i xs ≡ get_or xs i x ∷ drop (i + 1) xs
drop-at xs i x h = drop-cons xs i x h ∙ ap (λ k. get_or xs i x ∷ drop k xs) (sym (add-one i))

module _ {C : Type 0} {Answer : C → Type 0} {R A B W : Type 0} (moves : Moves C Answer W) (wants : R → Type 0) (p : A → Program C Answer R B) (open-each : (a : A) → IsOpen (p a))
    (all : List A) (i : ℕ) (x : A) (ys : List B) (old now : W) (done : IsDone moves wants p all (drop i all) ys old now) where
  now-at : i < length all → IsDone moves wants p all (get_or all i x ∷ drop (i + 1) all) ys old now
  now-at h = subst (λ r. IsDone moves wants p all r ys old now) (drop-at all i x h) done

  pub done-more-at : (y : B) (mid : W) → i < length all → Follows moves wants (p (get_or all i x)) now (Ok y) mid → IsDone moves wants p all (drop (i + 1) all) (ys ++ y ∷ []) old mid
  done-more-at y mid h f = done-more moves wants p open-each all (drop (i + 1) all) (get_or all i x) ys y old now mid (now-at h) f

  pub done-stops-at : (r : R) (new : W) → i < length all → Follows moves wants (p (get_or all i x)) now (Err r) new → Follows moves wants (each p all) old (Err r) new
  done-stops-at r new h f = done-stops moves wants p open-each all (drop (i + 1) all) (get_or all i x) ys r old now new (now-at h) f

  pub done-starves-at : (r : R) → wants r → Follows moves wants (each p all) old (Err r) now
  done-starves-at r h = done-starves moves wants p open-each all (drop i all) ys r old now done h

  pub done-all-at : length all ≤ i → Follows moves wants (each p all) old (Ok ys) now
  done-all-at h = done-all moves wants p open-each all ys old now (subst (λ r. IsDone moves wants p all r ys old now) (drop_all i all h) done)
