-- Words and numbers at the front of a text.
use Rattle.std.proofs.Common.{◌≡◌, ◌≤◌, ◌<◌, ◌+◌, ℕ, Bool, List, [], ◌∷◌, length, take, drop, Result, Ok, sym, ap, ap₂, ◌∙◌, arith, add-one, length-drop}
use Rattle.std.specs.List.{prefix_len}
use Rattle.std.proofs.lemmas.List.Sums.{prefix_len-le-length}
use Rattle.py_token.specs.declared.error.TokenError.{TokenError}
use Rattle.py_token.specs.Plain.{PKind}
use Rattle.py_token.specs.Words.{in_name, word_kind}
use Rattle.py_token.specs.Numbers.{in_number, number_text, kind_of_number}
use Rattle.py_token.specs.Strings.{◌>>=◌}
use Rattle.py_token.specs.Rules.{Match}
use Rattle.py_token.specs.ViewMatch.{word_text, number_text_at}

pub front_len : (p : ℕ → Bool) (chars others : List ℕ) (n : ℕ) → 0 < length chars → others ≡ drop 1 chars → n ≡ prefix_len p others → n + 1 ≤ length chars
front_len p chars others n some is len = let h = prefix_len-le-length p others in let l = ap length is in let d = length-drop 1 chars in omega (arith, len, h, l, d)

pub word_found : (line n : ℕ) (chars others front : List ℕ) → 0 < length chars → others ≡ drop 1 chars → n ≡ prefix_len in_name others → front ≡ take (n + 1) chars → word_text line chars ≡ Ok (record { kind = word_kind front; after = n; next = line })
word_found line n [] others front some is len text = absurd (omega arith)
word_found line n (c ∷ cs) others front some is len text =
    let same : n ≡ prefix_len in_name cs = len ∙ ap (prefix_len in_name) is in
    let spelled : c ∷ take (prefix_len in_name cs) cs ≡ front = ap (λ k. c ∷ take k cs) (sym same) ∙ sym (text ∙ ap (λ k. take k (c ∷ cs)) (add-one n)) in
    ap₂ (λ (w : List ℕ) (k : ℕ). Ok (record { kind = word_kind w; after = k; next = line })) spelled (sym same)

abbrev pub with_kind : ℕ → ℕ → Result PKind TokenError → Result Match TokenError
with_kind line n kind = kind >>= λ k. Ok (record { kind = k; after = n; next = line })

pub number_found : (line n : ℕ) (chars others front : List ℕ) → 0 < length chars → others ≡ drop 1 chars → n ≡ prefix_len in_number others → front ≡ take (n + 1) chars → number_text_at line chars ≡ (kind_of_number line (number_text front) >>= λ k. Ok (record { kind = k; after = n; next = line }))
number_found line n [] others front some is len text = absurd (omega arith)
number_found line n (c ∷ cs) others front some is len text =
    let same : n ≡ prefix_len in_number cs = len ∙ ap (prefix_len in_number) is in
    let spelled : c ∷ take (prefix_len in_number cs) cs ≡ front = ap (λ k. c ∷ take k cs) (sym same) ∙ sym (text ∙ ap (λ k. take k (c ∷ cs)) (add-one n)) in
    ap₂ (λ (w : List ℕ) (k : ℕ). with_kind line k (kind_of_number line (number_text w))) spelled (sym same)
