-- Texts joined.
use Rattle.std.proofs.Common.{◌≡◌, ℕ, ◌+◌, Bool, true, false, cond, ◌==◌, nat_le, List, [], ◌∷◌, ◌++◌, length, map, drop, get_or, Result, Ok, Err, refl, ap, sym, ◌∙◌, length-append}
use Rattle.py_value.specs.declared.cause.Cause.{Cause}
use Rattle.py_value.specs.declared.cause.Cause.TheVariants.{BadArgument, TooManyItems}
use Rattle.py_value.specs.declared.value.Value.{Value}
use Rattle.py_value.specs.View.{plain, plains}
use Rattle.py_value.specs.Sequences.{most_items}
use Rattle.py_builtins.specs.Methods.{each_after, each_length, are_texts, characters_in, joined_texts}
use Rattle.py_builtins.proofs.Lists.{length_each_after}

abbrev after_first : List ℕ → List Value → List ℕ
after_first b items = each_after b (map characters_in (plains items))

abbrev length_of : ℕ → ℕ → List Value → ℕ
length_of n m items = n + each_length m (map characters_in (plains items))

-- the length of the whole
whole_length : (b : List ℕ) (y : Value) (items : List Value) → length (characters_in (plain y) ++ after_first b items) ≡ length_of (length (characters_in (plain y))) (length b) items
whole_length b y items =
    length-append (characters_in (plain y)) (after_first b items) ∙ ap (λ k. length (characters_in (plain y)) + k) (length_each_after b (map characters_in (plains items)))

test_of : (b : List ℕ) (y x : Value) (items : List Value) (n m : ℕ) (q : Bool) → x ≡ y → n ≡ length (characters_in (plain x)) → m ≡ length b → q ≡ nat_le (length_of n m items) most_items
    → q ≡ nat_le (length (characters_in (plain y) ++ after_first b items)) most_items
test_of b y x items n m q is e f h =
    h ∙ ap (λ k. nat_le (length_of k m items) most_items) (e ∙ ap (λ (v : Value). length (characters_in (plain v))) is)
    ∙ ap (λ k. nat_le (length_of (length (characters_in (plain y))) k items) most_items) f
    ∙ ap (λ k. nat_le k most_items) (sym (whole_length b y items))

joined_as : (q t : Bool) (text : List ℕ) → true ≡ t → cond q (Ok text) (Err TooManyItems) ≡ cond t (cond q (Ok text) (Err TooManyItems)) (Err BadArgument)
joined_as q true text e = refl
joined_as q false text e = absurd cc

-- a text that is too long
pub too_long : (b : List ℕ) (items : List Value) (x : Value) (n m : ℕ) → false ≡ (length items == 0) → x ≡ get_or items 0 x → true ≡ are_texts (plains items) → n ≡ length (characters_in (plain x)) → m ≡ length b
    → false ≡ nat_le (n + each_length m (map characters_in (plains (drop 1 items)))) most_items → Err TooManyItems ≡ joined_texts b (plains items)
too_long b [] x n m ne is t e f h = absurd cc
too_long b (y ∷ items) x n m ne is t e f h =
    let text : List ℕ = characters_in (plain y) ++ after_first b items in
    ap (λ q. let r : Result (List ℕ) Cause = cond q (Ok text) (Err TooManyItems) in r) (test_of b y x items n m false is e f h)
    ∙ joined_as (nat_le (length text) most_items) (are_texts (plains (y ∷ items))) text t

-- a text that fits
pub fits_joined : (b : List ℕ) (items : List Value) (x : Value) (n m : ℕ) (whole : List ℕ) → false ≡ (length items == 0) → x ≡ get_or items 0 x → true ≡ are_texts (plains items) → n ≡ length (characters_in (plain x)) → m ≡ length b
    → true ≡ nat_le (n + each_length m (map characters_in (plains (drop 1 items)))) most_items → whole ≡ characters_in (plain x) ++ each_after b (map characters_in (plains (drop 1 items))) → Ok whole ≡ joined_texts b (plains items)
fits_joined b [] x n m whole ne is t e f h w = absurd cc
fits_joined b (y ∷ items) x n m whole ne is t e f h w =
    let text : List ℕ = characters_in (plain y) ++ after_first b items in
    ap (λ s. let r : Result (List ℕ) Cause = Ok s in r) (w ∙ ap (λ (v : Value). characters_in (plain v) ++ after_first b items) is)
    ∙ ap (λ q. let r : Result (List ℕ) Cause = cond q (Ok text) (Err TooManyItems) in r) (test_of b y x items n m true is e f h)
    ∙ joined_as (nat_le (length text) most_items) (are_texts (plains (y ∷ items))) text t
