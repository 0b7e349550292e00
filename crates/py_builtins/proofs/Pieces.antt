-- Pieces of writing, one after the other.
use Rattle.std.proofs.Common.{◌≡◌, ℕ, zero, suc, ◌+◌, nat_le, Bool, IsTrue, IsErrAnd, List, [], ◌∷◌, length, drop, add-one, Result, Ok, Err, Some, refl, ap, sym, ◌∙◌, subst, append_assoc, append-nil, if◌then◌else◌}
use Rattle.std.specs.List.{slice_get}
use Rattle.std.proofs.lemmas.Option.{slice_get_within, get_or_from_slice_get}
use Rattle.std.proofs.Math.Seq.{drop-cons}
use Rattle.py_value.specs.declared.cause.Cause.{Cause}
use Rattle.py_value.specs.declared.cause.Cause.TheVariants.{TooDeep, TooManyItems}
use Rattle.py_value.specs.Sequences.{most_items, within_limit}
use Rattle.py_builtins.specs.declared.writer.Stop.{Stop}
use Rattle.py_builtins.specs.declared.writer.Stop.TheVariants.{Raises, NoMemory}
use Rattle.py_value.specs.Answers.{◌>>=◌, in_words}
use Rattle.py_value.specs.Causes.{raised_by}
use Rattle.py_value.specs.Plain.{PlainRaised}
use Rattle.py_builtins.specs.Displays.{separated, further}
use Rattle.py_builtins.specs.Writing.{Writing, whole, broken, ◌▸◌, answer_of}
use Rattle.py_builtins.specs.Written.{Settles, IsWritten, separator}

pub then_assoc : (a b c : Writing) → (a ▸ b) ▸ c ≡ a ▸ (b ▸ c)
then_assoc (whole s) (whole t) (whole u) = ap whole (append_assoc s t u)
then_assoc (whole s) (whole t) (broken u) = ap broken (append_assoc s t u)
then_assoc (whole s) (broken t) c = refl
then_assoc (broken s) b c = refl

pub then_nothing : (w : Writing) → w ▸ whole [] ≡ w
then_nothing (whole s) = ap whole (append-nil s)
then_nothing (broken s) = refl

pub nothing_then : (w : Writing) → whole [] ▸ w ≡ w
nothing_then (whole s) = refl
nothing_then (broken s) = refl

pub settles_same : (stop : Stop) (w v : Writing) → w ≡ v → Settles stop w → Settles stop v
settles_same stop w v e h = let P : Writing → Type 0 = λ x. Settles stop x in subst P e h

pub written_same : (r : Result (Unit {0}) Stop) (a b : List ℕ) (w v : Writing) → w ≡ v → IsWritten r a b w → IsWritten r a b v
written_same r a b w v e h = let P : Writing → Type 0 = λ x. IsWritten r a b x in subst P e h

-- what is settled stays settled
pub stop_then : (stop : Stop) (a : List ℕ) (w v : Writing) → Settles stop (whole a ▸ w) → Settles stop (whole a ▸ (w ▸ v))
stop_then (Raises cause) a w v h =
    λ rest. ap (λ x. answer_of (x ▸ rest)) (sym (then_assoc (whole a) w v)) ∙ ap answer_of (then_assoc (whole a ▸ w) v rest) ∙ h (v ▸ rest)
stop_then NoMemory a w v h = tt

-- one piece is written, and then the next
pub wrote_then : (r : Result (Unit {0}) Stop) (a b c : List ℕ) (w v : Writing) → whole a ▸ w ≡ whole b → IsWritten r b c v → IsWritten r a c (w ▸ v)
wrote_then (Ok u) a b c w v e h = sym (then_assoc (whole a) w v) ∙ ap (λ x. x ▸ v) e ∙ h
wrote_then (Err stop) a b c w v e h = settles_same stop (whole b ▸ v) (whole a ▸ (w ▸ v)) (ap (λ x. x ▸ v) (sym e) ∙ then_assoc (whole a) w v) h

-- the answer is handed on
pub stopped : (r : Result (Unit {0}) Stop) (stop : Stop) (a b : List ℕ) (w : Writing) → IsErrAnd r (λ y. y ≡ stop) → Settles stop (whole a ▸ w) → IsWritten r a b w
stopped (Ok u) stop a b w is h = absurd is
stopped (Err y) stop a b w is h = let P : Stop → Type 0 = λ x. Settles x (whole a ▸ w) in subst P (sym is) h

pub stopped_then : (r : Result (Unit {0}) Stop) (stop : Stop) (a b : List ℕ) (w v : Writing) → IsErrAnd r (λ y. y ≡ stop) → Settles stop (whole a ▸ w) → IsWritten r a b (w ▸ v)
stopped_then r stop a b w v is h = stopped r stop a b (w ▸ v) is (stop_then stop a w v h)

-- a turn of a loop, which has the rest to write: one piece of it is written, or the answer is settled there
pub turn : (a b : List ℕ) (w v rest all : Writing) → rest ≡ w ▸ v → whole a ▸ w ≡ whole b → whole a ▸ rest ≡ all → whole b ▸ v ≡ all
turn a b w v rest all e h i = ap (λ x. x ▸ v) (sym h) ∙ then_assoc (whole a) w v ∙ ap (λ x. whole a ▸ x) (sym e) ∙ i

pub turn_stops : (stop : Stop) (a : List ℕ) (w v rest all : Writing) → rest ≡ w ▸ v → Settles stop (whole a ▸ w) → whole a ▸ rest ≡ all → Settles stop all
turn_stops stop a w v rest all e h i = settles_same stop (whole a ▸ (w ▸ v)) all (ap (λ x. whole a ▸ x) (sym e) ∙ i) (stop_then stop a w v h)

-- the last turn
pub turns_end : (a : List ℕ) (rest all : Writing) → rest ≡ whole [] → whole a ▸ rest ≡ all → all ≡ whole a
turns_end a rest all e i = sym i ∙ ap (λ x. whole a ▸ x) e ∙ then_nothing (whole a)

pub within : (s : List ℕ) → IsTrue (nat_le (length s) most_items) → within_limit s ≡ Ok s
within s h = ap (λ (b : Bool). let r : Result (List ℕ) Cause = (if b then Ok s else Err TooManyItems) in r) h

-- a value that is too deep
pub too_deep : (a : List ℕ) → IsTrue (nat_le (length a) most_items) → Settles (Raises TooDeep) (whole a ▸ broken [])
too_deep a h = λ rest. ap (λ s. answer_of (broken s)) (append-nil a) ∙ ap (λ (r : Result (List ℕ) Cause). let q : Result (List ℕ) Cause = (r >>= λ t. Err TooDeep) in q) (within a h)

-- the answer, once all is written or settled
pub raised_answer : (r : Result (Unit {0}) Stop) (b : List ℕ) (w : Writing) (stop : Stop) (cause : Cause) (e : PlainRaised) → r ≡ Err stop → stop ≡ Raises cause → e ≡ raised_by cause → IsWritten r [] b w
    → Err e ≡ in_words raised_by (answer_of w)
raised_answer r b w stop cause e i j k h =
    let P : Result (Unit {0}) Stop → Type 0 = λ x. IsWritten x [] b w in
    let settled : (rest : Writing) → answer_of ((whole [] ▸ w) ▸ rest) ≡ Err cause = subst P (i ∙ ap (λ (x : Stop). let q : Result (Unit {0}) Stop = Err x in q) j) h in
    ap (λ (x : PlainRaised). let q : Result (List ℕ) PlainRaised = Err x in q) k
    ∙ sym (ap (in_words raised_by) (ap answer_of (sym (then_nothing w) ∙ ap (λ x. x ▸ whole []) (sym (nothing_then w))) ∙ settled (whole [])))

-- ---- items with separators

-- what is left from a place on
abbrev pub remaining : {A : Type 0} → ℕ → (A → Writing) → List A → Writing
remaining zero show xs = separated show xs
remaining (suc i) show xs = further show (drop (suc i) xs)

left_at : {A : Type 0} (xs : List A) (i : ℕ) (x : A) → slice_get xs i ≡ Some x → drop i xs ≡ x ∷ drop (suc i) xs
left_at xs i x h = drop-cons xs i x (slice_get_within xs i x h) ∙ ap (λ y. y ∷ drop (suc i) xs) (get_or_from_slice_get xs i x x h)

pub one_more : {A : Type 0} (show : A → Writing) (xs : List A) (i : ℕ) (x : A) → slice_get xs i ≡ Some x
    → remaining i show xs ≡ whole (separator i) ▸ (show x ▸ remaining (suc i) show xs)
one_more show xs zero x h = ap (separated show) (left_at xs zero x h) ∙ sym (nothing_then (show x ▸ further show (drop 1 xs)))
one_more show xs (suc i) x h = ap (further show) (left_at xs (suc i) x h)

-- a turn of a loop over the items
pub item_written : {A : Type 0} (show : A → Writing) (xs : List A) (i : ℕ) (x : A) (all : Writing) (a b c : List ℕ) → slice_get xs i ≡ Some x → whole a ▸ remaining i show xs ≡ all
    → whole a ▸ whole (separator i) ≡ whole b → whole b ▸ show x ≡ whole c → whole c ▸ remaining (i + 1) show xs ≡ all
item_written show xs i x all a b c h e f g =
    ap (λ k. whole c ▸ remaining k show xs) (add-one i)
    ∙ turn b c (show x) (remaining (suc i) show xs) (show x ▸ remaining (suc i) show xs) all refl g
    (turn a b (whole (separator i)) (show x ▸ remaining (suc i) show xs) (remaining i show xs) all (one_more show xs i x h) f e)

pub stops_at_separator : {A : Type 0} (show : A → Writing) (xs : List A) (i : ℕ) (x : A) (all : Writing) (a : List ℕ) (stop : Stop) → slice_get xs i ≡ Some x → whole a ▸ remaining i show xs ≡ all
    → Settles stop (whole a ▸ whole (separator i)) → Settles stop all
stops_at_separator show xs i x all a stop h e f = turn_stops stop a (whole (separator i)) (show x ▸ remaining (suc i) show xs) (remaining i show xs) all (one_more show xs i x h) f e

pub stops_at_item : {A : Type 0} (show : A → Writing) (xs : List A) (i : ℕ) (x : A) (all : Writing) (a b : List ℕ) (stop : Stop) → slice_get xs i ≡ Some x → whole a ▸ remaining i show xs ≡ all
    → whole a ▸ whole (separator i) ≡ whole b → Settles stop (whole b ▸ show x) → Settles stop all
stops_at_item show xs i x all a b stop h e f g =
    turn_stops stop b (show x) (remaining (suc i) show xs) (show x ▸ remaining (suc i) show xs) all refl g
    (turn a b (whole (separator i)) (show x ▸ remaining (suc i) show xs) (remaining i show xs) all (one_more show xs i x h) f e)
