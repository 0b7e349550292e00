-- The alternatives of a pattern from one of them on, and the items of a sequence.
--     left_size, left_code                what is left of them, which may be nothing
--     one_size-left, one_code-left        all of them
--     left_size-turn, left_code-turn      one of them, and what is left then
--     items_size-turn, items_code-turn    one item of a sequence, and what is left then
use Rattle.std.proofs.Common.{◌≡◌, ℕ, suc, ◌+◌, ◌-◌, ◌<◌, ◌==◌, List, [], ◌∷◌, ◌++◌, false, length, drop, get_or, refl, sym, ap, ◌∙◌, arith, append_assoc, length-drop}
use Rattle.std.specs.Prelude.{if◌then◌else◌}
use Rattle.std.proofs.lemmas.List.{append-nil}
use Rattle.py_syntax.specs.declared.pattern.Pattern.{Pattern as PatternNode}
use Rattle.py_syntax.specs.Tree.{Pattern, Patterns, no_patterns, patterns}
use Rattle.py_syntax.specs.View.{plain_pattern, plain_patterns}
use Rattle.py_meaning.specs.Patterns.{pattern_count}
use Rattle.py_compile_expr.specs.Cells.{Cell}
use Rattle.py_compile_expr.specs.Patterns.{Site, with_waiting, with_captured, captured, pattern_size, pattern_code, items_size, items_code, one_size, one_code}
use Rattle.py_compile_expr.specs.Pieces.{alternative_size, alternative_code, choice_code}
use Rattle.py_compile_expr.proofs.Turns.{the_drop, two_not_one, a_turn}

abbrev pub left_size : Patterns → ℕ
left_size no_patterns = 0
left_size (patterns q no_patterns) = pattern_size q
left_size (patterns q (patterns r rs)) = pattern_size q + 3 + left_size (patterns r rs)

abbrev pub left_code : Site → ℕ → (end : ℕ) → Patterns → List Cell
left_code s p end no_patterns = []
left_code s p end (patterns q no_patterns) = pattern_code s p q
left_code s p end (patterns q (patterns r rs)) = alternative_code s p end q ++ left_code s (p + pattern_size q + 3) end (patterns r rs)

pub patterns-are : (qs : List PatternNode) → pattern_count (plain_patterns qs) ≡ length qs
patterns-are [] = refl
patterns-are (q ∷ qs) = ap suc (patterns-are qs)

some_left : (q : Pattern) (qs : Patterns) → one_size (patterns q qs) ≡ left_size (patterns q qs)
some_left q no_patterns = refl
some_left q (patterns r rs) = let h = some_left r rs in omega (arith, h)

pub one_size-left : (qs : List PatternNode) → (length qs == 0) ≡ false → one_size (plain_patterns qs) ≡ left_size (plain_patterns qs)
one_size-left [] no_more = absurd cc
one_size-left (q ∷ qs) no_more = some_left (plain_pattern q) (plain_patterns qs)

places_are : (p n : ℕ) → p + 1 + n + 2 ≡ p + n + 3
places_are p n = omega arith

-- two instructions and cells, in front of two more and others
between : (a b c : Cell) (xs ys : List Cell) → a ∷ (xs ++ b ∷ c ∷ ys) ≡ (a ∷ (xs ++ b ∷ c ∷ [])) ++ ys
between a b c xs ys = ap (λ cs. a ∷ cs) (sym (append_assoc xs (b ∷ c ∷ []) ys))

some_left_code : (s : Site) (p end : ℕ) (q : Pattern) (qs : Patterns) → one_code s p end (patterns q qs) ≡ left_code s p end (patterns q qs)
some_left_code s p end q no_patterns = refl
some_left_code s p end q (patterns r rs) =
    let next = p + 1 + pattern_size q + 2 in
    between _ _ _ _ (one_code s next end (patterns r rs))
    ∙ ap (λ cs. alternative_code s p end q ++ cs) (some_left_code s next end r rs ∙ ap (λ n. left_code s n end (patterns r rs)) (places_are p (pattern_size q)))

pub one_code-left : (s : Site) (p end : ℕ) (qs : List PatternNode) → (length qs == 0) ≡ false → one_code s p end (plain_patterns qs) ≡ left_code s p end (plain_patterns qs)
one_code-left s p end [] no_more = absurd cc
one_code-left s p end (q ∷ qs) no_more = some_left_code s p end (plain_pattern q) (plain_patterns qs)

-- ---- a turn over them

left_of : (qs : List PatternNode) (i : ℕ) (q : PatternNode) → i < length qs → q ≡ get_or qs i q → length qs - i ≡ suc (length (drop (i + 1) qs))
left_of qs i q lt is =
    let b = length-drop i qs in
    let c : length (drop i qs) ≡ suc (length (drop (i + 1) qs)) = ap length (the_drop qs i q lt is) in
    omega (arith, b, c, lt)

chosen_size : (q : Pattern) (ds : List PatternNode) → left_size (patterns q (plain_patterns ds)) ≡ alternative_size (pattern_size q) (suc (length ds)) + left_size (plain_patterns ds)
chosen_size q [] = omega arith
chosen_size q (d ∷ ds) =
    ap (λ b. (if b then pattern_size q else pattern_size q + 3) + left_size (plain_patterns (d ∷ ds))) (sym (two_not_one (length ds)))

pub left_size-turn : (qs : List PatternNode) (i : ℕ) (q : PatternNode) → i < length qs → q ≡ get_or qs i q
    → left_size (plain_patterns (drop i qs)) ≡ alternative_size (pattern_size (plain_pattern q)) (length qs - i) + left_size (plain_patterns (drop (i + 1) qs))
left_size-turn qs i q lt is =
    ap (λ ds. left_size (plain_patterns ds)) (the_drop qs i q lt is)
    ∙ chosen_size (plain_pattern q) (drop (i + 1) qs)
    ∙ ap (λ n. alternative_size (pattern_size (plain_pattern q)) n + left_size (plain_patterns (drop (i + 1) qs))) (sym (left_of qs i q lt is))

chosen_code : (s : Site) (p end : ℕ) (q : Pattern) (ds : List PatternNode)
    → left_code s p end (patterns q (plain_patterns ds)) ≡ choice_code s p end (suc (length ds)) q ++ left_code s (p + alternative_size (pattern_size q) (suc (length ds))) end (plain_patterns ds)
chosen_code s p end q [] = sym (append-nil (pattern_code s p q))
chosen_code s p end q (d ∷ ds) =
    ap (λ n. alternative_code s p end q ++ left_code s n end (plain_patterns (d ∷ ds))) (omega arith)
    ∙ ap (λ b. (if b then pattern_code s p q else alternative_code s p end q) ++ left_code s (p + (if b then pattern_size q else pattern_size q + 3)) end (plain_patterns (d ∷ ds))) (sym (two_not_one (length ds)))

pub left_code-turn : (s : Site) (p end : ℕ) (qs : List PatternNode) (i : ℕ) (q : PatternNode) → i < length qs → q ≡ get_or qs i q
    → left_code s p end (plain_patterns (drop i qs))
    ≡ choice_code s p end (length qs - i) (plain_pattern q) ++ left_code s (p + alternative_size (pattern_size (plain_pattern q)) (length qs - i)) end (plain_patterns (drop (i + 1) qs))
left_code-turn s p end qs i q lt is =
    ap (λ ds. left_code s p end (plain_patterns ds)) (the_drop qs i q lt is)
    ∙ chosen_code s p end (plain_pattern q) (drop (i + 1) qs)
    ∙ ap (λ n. choice_code s p end n (plain_pattern q) ++ left_code s (p + alternative_size (pattern_size (plain_pattern q)) n) end (plain_patterns (drop (i + 1) qs))) (sym (left_of qs i q lt is))

-- ---- a turn over the items of a sequence

pub items_size-turn : (qs : List PatternNode) (i : ℕ) (q : PatternNode) → i < length qs → q ≡ get_or qs i q
    → items_size (plain_patterns (drop i qs)) ≡ pattern_size (plain_pattern q) + items_size (plain_patterns (drop (i + 1) qs))
items_size-turn qs i q lt is = ap (λ ds. items_size (plain_patterns ds)) (the_drop qs i q lt is)

waiting_after : (qs : List PatternNode) (i : ℕ) (q : PatternNode) → i < length qs → q ≡ get_or qs i q → pattern_count (plain_patterns (drop (i + 1) qs)) ≡ length qs - i - 1
waiting_after qs i q lt is = let a = patterns-are (drop (i + 1) qs) in let b = left_of qs i q lt is in omega (arith, a, b)

pub items_code-turn : (s inside next : Site) (p waiting found : ℕ) (qs : List PatternNode) (i : ℕ) (q : PatternNode) → i < length qs → q ≡ get_or qs i q
    → waiting ≡ length qs - i - 1 → inside ≡ with_waiting waiting s → found ≡ length (captured (plain_pattern q)) → next ≡ with_captured found s
    → items_code s p (plain_patterns (drop i qs)) ≡ pattern_code inside p (plain_pattern q) ++ items_code next (p + pattern_size (plain_pattern q)) (plain_patterns (drop (i + 1) qs))
items_code-turn s inside next p waiting found qs i q lt is w e f n =
    ap (λ ds. items_code s p (plain_patterns ds)) (the_drop qs i q lt is)
    ∙ ap (λ site. pattern_code site p (plain_pattern q) ++ items_code (with_captured (length (captured (plain_pattern q))) s) (p + pattern_size (plain_pattern q)) (plain_patterns (drop (i + 1) qs)))
    (ap (λ k. with_waiting k s) (waiting_after qs i q lt is ∙ sym w) ∙ sym e)
    ∙ ap (λ site. pattern_code inside p (plain_pattern q) ++ items_code site (p + pattern_size (plain_pattern q)) (plain_patterns (drop (i + 1) qs)))
    (ap (λ k. with_captured k s) (sym f) ∙ sym n)

-- ---- turns of loops

pub left_turn : (qs : List PatternNode) (i : ℕ) (q : PatternNode) (size own n next w : ℕ) → i < length qs → q ≡ get_or qs i q
    → own ≡ pattern_size (plain_pattern q) → n ≡ alternative_size own (length qs - i) → next ≡ size + n → size + left_size (plain_patterns (drop i qs)) ≡ w → next + left_size (plain_patterns (drop (i + 1) qs)) ≡ w
left_turn qs i q size own n next w lt is e f s h =
    let t = left_size-turn qs i q lt is in
    let g : n ≡ alternative_size (pattern_size (plain_pattern q)) (length qs - i) = f ∙ ap (λ m. alternative_size m (length qs - i)) e in
    let k : left_size (plain_patterns (drop i qs)) ≡ n + left_size (plain_patterns (drop (i + 1) qs)) = t ∙ ap (λ m. m + left_size (plain_patterns (drop (i + 1) qs))) (sym g) in
    omega (arith, s, h, k)

pub left_added : (s : Site) (p r end : ℕ) (qs : List PatternNode) (i : ℕ) (q : PatternNode) (now next w : List Cell) → i < length qs → q ≡ get_or qs i q
    → next ≡ now ++ choice_code s p end (length qs - i) (plain_pattern q) → r ≡ p + alternative_size (pattern_size (plain_pattern q)) (length qs - i)
    → now ++ left_code s p end (plain_patterns (drop i qs)) ≡ w → next ++ left_code s r end (plain_patterns (drop (i + 1) qs)) ≡ w
left_added s p r end qs i q now next w lt is e place h =
    a_turn now next w (choice_code s p end (length qs - i) (plain_pattern q)) (left_code s r end (plain_patterns (drop (i + 1) qs))) (left_code s p end (plain_patterns (drop i qs))) e
    (left_code-turn s p end qs i q lt is ∙ ap (λ n. choice_code s p end (length qs - i) (plain_pattern q) ++ left_code s n end (plain_patterns (drop (i + 1) qs))) (sym place)) h

pub left_counted : (qs : List PatternNode) (i : ℕ) (q : PatternNode) (p r w : ℕ) → i < length qs → q ≡ get_or qs i q
    → r ≡ p + alternative_size (pattern_size (plain_pattern q)) (length qs - i) → p + left_size (plain_patterns (drop i qs)) ≡ w → r + left_size (plain_patterns (drop (i + 1) qs)) ≡ w
left_counted qs i q p r w lt is e h =
    left_turn qs i q p (pattern_size (plain_pattern q)) (alternative_size (pattern_size (plain_pattern q)) (length qs - i)) r w lt is refl refl e h

pub items_added : (s inside next' : Site) (p r waiting found : ℕ) (qs : List PatternNode) (i : ℕ) (q : PatternNode) (now next w : List Cell) → i < length qs → q ≡ get_or qs i q
    → waiting ≡ length qs - i - 1 → inside ≡ with_waiting waiting s → found ≡ length (captured (plain_pattern q)) → next' ≡ with_captured found s
    → next ≡ now ++ pattern_code inside p (plain_pattern q) → r ≡ p + pattern_size (plain_pattern q)
    → now ++ items_code s p (plain_patterns (drop i qs)) ≡ w → next ++ items_code next' r (plain_patterns (drop (i + 1) qs)) ≡ w
items_added s inside next' p r waiting found qs i q now next w lt is a b d f e place h =
    a_turn now next w (pattern_code inside p (plain_pattern q)) (items_code next' r (plain_patterns (drop (i + 1) qs))) (items_code s p (plain_patterns (drop i qs))) e
    (items_code-turn s inside next' p waiting found qs i q lt is a b d f ∙ ap (λ n. pattern_code inside p (plain_pattern q) ++ items_code next' n (plain_patterns (drop (i + 1) qs))) (sym place)) h

pub items_counted : (qs : List PatternNode) (i : ℕ) (q : PatternNode) (p r w : ℕ) → i < length qs → q ≡ get_or qs i q
    → r ≡ p + pattern_size (plain_pattern q) → p + items_size (plain_patterns (drop i qs)) ≡ w → r + items_size (plain_patterns (drop (i + 1) qs)) ≡ w
items_counted qs i q p r w lt is e h = let t = items_size-turn qs i q lt is in omega (arith, e, h, t)
