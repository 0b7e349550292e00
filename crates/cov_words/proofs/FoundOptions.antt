-- Options and their values, found in words.
use Rattle.std.proofs.Common.{◌≡◌, ℕ, Bool, true, false, ◌||◌, not, cond, [], ◌∷◌, ◌++◌, Option, Some, None, option_map, refl, sym, ap, subst, ◌∙◌}
use Rattle.std.specs.List.{list_any}
use Rattle.std.proofs.lemmas.Bool.{not-true}
use Rattle.std.proofs.lemmas.Bool.Decides.{Decides-eqb}
use Rattle.cov_words.specs.declared.options.OptionName.{OptionName}
use Rattle.cov_words.specs.Values.{Word, Value, on, Form, no_value, any_text, up_to, a_file_and_name, value_of}
use Rattle.cov_words.specs.Options.{option_named, form_of, has_value, joins, Spells, alone, joined}
use Rattle.cov_words.specs.Operands.{begins_option}
use Rattle.cov_words.specs.Reading.{Found, nowhere, whole, half, by_form, is_equals, with_value, found_before, cut, found_cut, found_whole, found}
use Rattle.cov_words.proofs.Tables.{option_begins, option_plain}

-- ---- where a word is cut

abbrev front_of : Option (Word × Word) → Word
front_of None = []
front_of (Some p) = p.0

abbrev back_of : Option (Word × Word) → Word
back_of None = []
back_of (Some p) = p.1

cut_here : (b : ℕ) (bs k t : Word) (rest : Option (Word × Word)) (e : Bool) → is_equals b ≡ e → ((h j : Word) → rest ≡ Some (h, j) → bs ≡ h ++ (61 ∷ j)) → cond {A = Option (Word × Word)} e (Some ([], bs)) (option_map (λ p. (b ∷ p.0, p.1)) rest) ≡ Some (k, t) → b ∷ bs ≡ k ++ (61 ∷ t)
cut_here b bs k t rest true e ih h =
    let here : b ≡ 61 = (Decides-eqb b 61).0 e in
    let front : [] ≡ k = ap front_of h in
    let back : bs ≡ t = ap back_of h in
    ap (λ (x : ℕ). x ∷ bs) here ∙ ap (λ (x : Word). 61 ∷ x) back ∙ ap (λ (x : Word). x ++ (61 ∷ t)) front
cut_here b bs k t None false e ih h = cc
cut_here b bs k t (Some p) false e ih h =
    let front : b ∷ p.0 ≡ k = ap front_of h in
    let back : p.1 ≡ t = ap back_of h in
    ap (λ (x : Word). b ∷ x) (ih p.0 p.1 refl) ∙ ap (λ (x : Word). (b ∷ p.0) ++ (61 ∷ x)) back ∙ ap (λ (x : Word). x ++ (61 ∷ t)) front

pub cut_is : (w k t : Word) → cut w ≡ Some (k, t) → w ≡ k ++ (61 ∷ t)
cut_is [] k t h = cc
cut_is (b ∷ bs) k t h = cut_here b bs k t (cut bs) (is_equals b) refl (cut_is bs) h

cut_past : (b : ℕ) (bs k t : Word) (e : Bool) → is_equals b ≡ e → not (e || list_any is_equals k) ≡ true → (not (list_any is_equals k) ≡ true → cut bs ≡ Some (k, t)) → cond {A = Option (Word × Word)} e (Some ([], bs)) (option_map (λ p. (b ∷ p.0, p.1)) (cut bs)) ≡ Some (b ∷ k, t)
cut_past b bs k t true e h ih = cc
cut_past b bs k t false e h ih = ap (option_map (λ (p : Word × Word). (b ∷ p.0, p.1))) (ih h)

pub cut_joined : (k t : Word) → not (list_any is_equals k) ≡ true → cut (k ++ (61 ∷ t)) ≡ Some (k, t)
cut_joined [] t h = refl
cut_joined (b ∷ k) t h = cut_past b (k ++ (61 ∷ t)) k t (is_equals b) refl h (cut_joined k t)

-- ---- what is found

abbrev pub FoundIs : Word → Found → Type 0
FoundIs w nowhere = Unit {0}
FoundIs w (whole o v) = Spells o v (w ∷ [])
FoundIs w (half o) = (option_named w ≡ Some o) × (has_value (form_of o) ≡ true)

joined_is : (w k t : Word) (o : OptionName) → w ≡ k ++ (61 ∷ t) → option_named k ≡ Some o → (j : Bool) → joins o ≡ j → (v : Option Value) → value_of (form_of o) t ≡ v → FoundIs w (cond j (with_value o v) nowhere)
joined_is w k t o is named true j None value = tt
joined_is w k t o is named true j (Some v) value = subst (λ (x : Word). Spells o v (x ∷ [])) (sym is) (joined k t named j value)
joined_is w k t o is named false j v value = tt

before_is : (w k t : Word) (o : Option OptionName) → w ≡ k ++ (61 ∷ t) → option_named k ≡ o → FoundIs w (found_before o t)
before_is w k t None is named = tt
before_is w k t (Some o) is named = joined_is w k t o is named (joins o) refl (value_of (form_of o) t) refl

cut_found : (w : Word) (c : Option (Word × Word)) → cut w ≡ c → FoundIs w (found_cut c)
cut_found w None e = tt
cut_found w (Some p) e = before_is w p.0 p.1 (option_named p.0) (cut_is w p.0 p.1 e) refl

form_is : (w : Word) (o : OptionName) (f : Form) → option_named w ≡ Some o → form_of o ≡ f → FoundIs w (by_form f o)
form_is w o no_value named is = alone w named is
form_is w o any_text named is = (named, ap has_value is)
form_is w o (up_to most) named is = (named, ap has_value is)
form_is w o a_file_and_name named is = (named, ap has_value is)

whole_is : (w : Word) (o : Option OptionName) → option_named w ≡ o → FoundIs w (found_whole o w)
whole_is w None named = cut_found w (cut w) refl
whole_is w (Some o) named = form_is w o (form_of o) named refl

-- what is found in a word is so
pub found_is : (w : Word) → FoundIs w (found w)
found_is w = whole_is w (option_named w) refl

-- ---- what is spelled is found

pub found_alone : (w : Word) (o : OptionName) → option_named w ≡ Some o → form_of o ≡ no_value → found w ≡ whole o on
found_alone w o named is = ap (λ (x : Option OptionName). found_whole x w) named ∙ ap (λ (f : Form). by_form f o) is

by_value : (f : Form) (o : OptionName) (t : Word) (v : Value) → value_of f t ≡ Some v → by_form f o ≡ half o
by_value no_value o t v h = cc
by_value any_text o t v h = refl
by_value (up_to most) o t v h = refl
by_value a_file_and_name o t v h = refl

pub found_half : (w t : Word) (o : OptionName) (v : Value) → option_named w ≡ Some o → value_of (form_of o) t ≡ Some v → found w ≡ half o
found_half w t o v named value = ap (λ (x : Option OptionName). found_whole x w) named ∙ by_value (form_of o) o t v value

not_named : (w : Word) (o : Option OptionName) → option_named w ≡ o → list_any is_equals w ≡ true → option_named w ≡ None
not_named w None e h = e
not_named w (Some o) e h =
    let plain : list_any is_equals w ≡ false = not-true (list_any is_equals w) (option_plain w o e) in
    cc

has_equals : (k t : Word) → list_any is_equals (k ++ (61 ∷ t)) ≡ true
has_equals [] t = refl
has_equals (b ∷ k) t = ap (λ (x : Bool). is_equals b || x) (has_equals k t) ∙ or_true (is_equals b)
  where
    or_true : (x : Bool) → (x || true) ≡ true
    or_true true = refl
    or_true false = refl

pub found_joined : (k t : Word) (o : OptionName) (v : Value) → option_named k ≡ Some o → joins o ≡ true → value_of (form_of o) t ≡ Some v → found (k ++ (61 ∷ t)) ≡ whole o v
found_joined k t o v named j value =
    ap (λ (x : Option OptionName). found_whole x (k ++ (61 ∷ t))) (not_named (k ++ (61 ∷ t)) (option_named (k ++ (61 ∷ t))) refl (has_equals k t))
    ∙ ap found_cut (cut_joined k t (option_plain k o named))
    ∙ ap (λ (x : Option OptionName). found_before x t) named
    ∙ ap (λ (x : Bool). cond x (with_value o (value_of (form_of o) t)) nowhere) j
    ∙ ap (with_value o) value

joined_begins : (k t : Word) → begins_option k ≡ true → begins_option (k ++ (61 ∷ t)) ≡ true
joined_begins [] t h = cc
joined_begins (b ∷ k) t h = h

pub spelled_begins : (k t : Word) (o : OptionName) → option_named k ≡ Some o → begins_option (k ++ (61 ∷ t)) ≡ true
spelled_begins k t o named = joined_begins k t (option_begins k o named)
