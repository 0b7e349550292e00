-- Going on with what is gathered: parts in a row, and loops over lists.
use Rattle.std.proofs.Common.{◌≡◌, ℕ, suc, ◌+◌, ◌<◌, ◌≤◌, List, [], ◌∷◌, ◌++◌, Bool, true, false, ◌||◌, Result, Ok, Err, OnOk, drop, length, get_or, refl, ap, sym, ◌∙◌, append_assoc, drop-cons, add-one}
use Rattle.std.proofs.Math.ListN.{drop_of_length-le}
use Rattle.std.proofs.lemmas.List.{append-nil}
use Rattle.std.proofs.lemmas.Result.{IfOk-from_err}
use Rattle.std.specs.Result.{IsErr}
use Rattle.py_syntax.specs.Tree.{Text}
use Rattle.py_syntax.specs.Names.{add_name, add_names}
use Rattle.py_scope.specs.declared.occurrence.Occurrence.{Occurrence}
use Rattle.py_scope.specs.Seen.{Seen, after, after_one}
use Rattle.py_scope.specs.declared.patterns.PatternFacts.{PatternFacts}
use Rattle.py_scope.specs.PatternFacts.{either}
use Rattle.py_scope.specs.Scopes.{Names}
use Rattle.py_scope.specs.declared.error.ScopeError.{ScopeError}
use Rattle.py_scope.specs.Faults.{Findings, nothing, ◌&◌}

-- gathering parts of type L into something of type S
pub record Gathers (S L : Type 0) : Type 0 where
  pub put : S → L → S
  pub join : L → L → L
  pub unit : L
  pub joined : (s : S) (x y : L) → put s (join x y) ≡ put (put s x) y
  pub none : (s : S) → put s unit ≡ s

pub after_append : (s : Seen) (xs ys : List Occurrence) → after s (xs ++ ys) ≡ after (after s xs) ys
after_append s [] ys = refl
after_append s (x ∷ xs) ys = after_append (after_one s x) xs ys

pub after-nil : (s : Seen) → after s [] ≡ s
after-nil s = refl

abbrev pub seen : Gathers Seen (List Occurrence)
seen = record { put = after; join = λ xs ys. xs ++ ys; unit = []; joined = after_append; none = after-nil }

pub add_names-append : (a xs ys : List Text) → add_names a (xs ++ ys) ≡ add_names (add_names a xs) ys
add_names-append a [] ys = refl
add_names-append a (x ∷ xs) ys = add_names-append (add_name a x) xs ys

abbrev pub named : Gathers (List Text) (List Text)
named = record { put = add_names; join = λ xs ys. xs ++ ys; unit = []; joined = add_names-append; none = λ s. refl }

abbrev pub the_findings : List ScopeError → List Names → Findings
the_findings fs ns = record { faults = fs; functions = ns }

pub both_lists : (fs gs : List ScopeError) (ms ns : List Names) → fs ≡ gs → ms ≡ ns → the_findings fs ms ≡ the_findings gs ns
both_lists fs gs ms ns e f = ap (λ t. the_findings t ms) e ∙ ap (the_findings gs) f

abbrev pub found : Gathers Findings Findings
found = record {
  put = λ f g. f & g;
  join = λ f g. f & g;
  unit = nothing;
  joined = λ f g h. both_lists _ _ _ _ (sym (append_assoc f.faults g.faults h.faults)) (sym (append_assoc f.functions g.functions h.functions));
  none = λ f. both_lists _ _ _ _ (append-nil f.faults) (append-nil f.functions);
}

abbrev pub listed : {A : Type 0} → Gathers (List A) (List A)
listed = record { put = λ xs ys. xs ++ ys; join = λ xs ys. xs ++ ys; unit = []; joined = λ xs ys zs. sym (append_assoc xs ys zs); none = append-nil }

pub or_false : (b : Bool) → (b || false) ≡ b
or_false true = refl
or_false false = refl

pub or_next : (a b c : Bool) → (a || (b || c)) ≡ ((a || b) || c)
or_next true b c = refl
or_next false b c = refl

abbrev pub four : Bool → Bool → Bool → Bool → PatternFacts
four a b c d = record { irrefutable = a; early = b; binds = c; alternative_binds = d }

pub all_four : (a b c d e f g h : Bool) → a ≡ e → b ≡ f → c ≡ g → d ≡ h → four a b c d ≡ four e f g h
all_four a b c d e f g h p q r s = ap (λ t. four t b c d) p ∙ ap (λ t. four e t c d) q ∙ ap (λ t. four e f t d) r ∙ ap (λ t. four e f g t) s

abbrev pub told : Gathers PatternFacts PatternFacts
told = record {
  put = either;
  join = either;
  unit = four false false false false;
  joined = λ a b c. all_four _ _ _ _ _ _ _ _ (or_next a.irrefutable b.irrefutable c.irrefutable) (or_next a.early b.early c.early) (or_next a.binds b.binds c.binds) (or_next a.alternative_binds b.alternative_binds c.alternative_binds);
  none = λ a. all_four _ _ _ _ _ _ _ _ (or_false a.irrefutable) (or_false a.early) (or_false a.binds) (or_false a.alternative_binds);
}

-- one part, and then another
pub goes_on : {S L E : Type 0} (G : Gathers S L) (r : Result (Unit {0}) E) (s m n : S) (x y z : L) → OnOk r (n ≡ G.put m y) → m ≡ G.put s x → z ≡ G.join x y → OnOk r (n ≡ G.put s z)
goes_on G (Ok u) s m n x y z h e f = h ∙ ap (λ k. G.put k y) e ∙ sym (G.joined s x y) ∙ ap (G.put s) (sym f)
goes_on G (Err e') s m n x y z h e f = h

-- three parts in a row, and four
pub three : {S L E : Type 0} (G : Gathers S L) (r : Result (Unit {0}) E) (s k m n : S) (x y z all : L) → k ≡ G.put s x → m ≡ G.put k y → OnOk r (n ≡ G.put m z) → all ≡ G.join x (G.join y z) → OnOk r (n ≡ G.put s all)
three G r s k m n x y z all e f h is = goes_on G r s k n x (G.join y z) all (goes_on G r k m n y z (G.join y z) h f refl) e is

pub four_parts : {S L E : Type 0} (G : Gathers S L) (r : Result (Unit {0}) E) (s j k m n : S) (w x y z all : L) → j ≡ G.put s w → k ≡ G.put j x → m ≡ G.put k y → OnOk r (n ≡ G.put m z) → all ≡ G.join w (G.join x (G.join y z)) → OnOk r (n ≡ G.put s all)
four_parts G r s j k m n w x y z all d e f h is = goes_on G r s j n w (G.join x (G.join y z)) all (three G r j k m n x y z (G.join x (G.join y z)) e f h refl) d is

-- two parts that were taken
pub both_taken : {S L : Type 0} (G : Gathers S L) (s m n : S) (x y : L) → m ≡ G.put s x → n ≡ G.put m y → n ≡ G.put s (G.join x y)
both_taken G s m n x y e h = h ∙ ap (λ k. G.put k y) e ∙ sym (G.joined s x y)

-- a part under another name
pub renamed : {S L E : Type 0} (G : Gathers S L) (r : Result (Unit {0}) E) (s n : S) (x y : L) → y ≡ x → OnOk r (n ≡ G.put s x) → OnOk r (n ≡ G.put s y)
renamed G (Ok u) s n x y e h = h ∙ ap (G.put s) (sym e)
renamed G (Err e') s n x y e h = h

-- a part with nothing in it
pub silent : {S L : Type 0} (G : Gathers S L) (s : S) (x : L) → x ≡ G.unit → s ≡ G.put s x
silent G s x e = sym (G.none s) ∙ ap (G.put s) (sym e)

-- where memory doesn't suffice
pub stopped : {T E : Type 0} (P : Type 0) (r : Result T E) → IsErr r → OnOk r P
stopped P r h = IfOk-from_err r (λ _. P) h

-- the end of a loop over a list: nothing is left
pub at_end : {S L X : Type 0} (G : Gathers S L) (F : List X → L) → F [] ≡ G.unit → (now was : S) (xs : List X) (i : ℕ) → length xs ≤ i → G.put now (F (drop i xs)) ≡ G.put was (F xs) → now ≡ G.put was (F xs)
at_end G F e now was xs i le h = sym (G.none now) ∙ ap (G.put now) (sym e ∙ ap F (sym (drop_of_length-le xs le))) ∙ h

pub the_drop : {X : Type 0} (xs : List X) (i : ℕ) (x : X) → i < length xs → x ≡ get_or xs i x → drop i xs ≡ x ∷ drop (i + 1) xs
the_drop xs i x lt is = drop-cons xs i x lt ∙ ap (λ y. y ∷ drop (suc i) xs) (sym is) ∙ ap (λ k. x ∷ drop k xs) (sym (add-one i))

-- a turn of it
pub a_turn : {S L X : Type 0} (G : Gathers S L) (F : List X → L) (f : X → L) → ((x : X) (xs : List X) → F (x ∷ xs) ≡ G.join (f x) (F xs)) → (now next w : S) (xs : List X) (i : ℕ) (x : X) → i < length xs → x ≡ get_or xs i x
    → next ≡ G.put now (f x) → G.put now (F (drop i xs)) ≡ w → G.put next (F (drop (i + 1) xs)) ≡ w
a_turn G F f step now next w xs i x lt is e h =
    ap (λ k. G.put k (F (drop (i + 1) xs))) e ∙ sym (G.joined now (f x) (F (drop (i + 1) xs))) ∙ ap (G.put now) (sym (step x (drop (i + 1) xs)) ∙ ap F (sym (the_drop xs i x lt is))) ∙ h

-- the same where what is put is told apart by the element's form
pub turned : {S L X : Type 0} (G : Gathers S L) (F : List X → L) (now next w : S) (xs : List X) (i : ℕ) (x : X) (y : L) → i < length xs → x ≡ get_or xs i x
    → F (x ∷ drop (i + 1) xs) ≡ G.join y (F (drop (i + 1) xs)) → next ≡ G.put now y → G.put now (F (drop i xs)) ≡ w → G.put next (F (drop (i + 1) xs)) ≡ w
turned G F now next w xs i x y lt is step e h =
    ap (λ k. G.put k (F (drop (i + 1) xs))) e ∙ sym (G.joined now y (F (drop (i + 1) xs))) ∙ ap (G.put now) (sym step ∙ ap F (sym (the_drop xs i x lt is))) ∙ h

-- the same for a function that takes nothing but the list
pub all_told : {S L X : Type 0} (G : Gathers S L) (F : List X → L) → F [] ≡ G.unit → (now : S) (w : S) (xs : List X) (i : ℕ) → length xs ≤ i → G.put now (F (drop i xs)) ≡ w → now ≡ w
all_told G F e now w xs i le h = sym (G.none now) ∙ ap (G.put now) (sym e ∙ ap F (sym (drop_of_length-le xs le))) ∙ h
