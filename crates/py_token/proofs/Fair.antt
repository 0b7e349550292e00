-- An item of a string lies within the string, and passes as many lines as it has line ends.
use Rattle.std.proofs.Common.{◌≡◌, ◌≤◌, ◌+◌, ℕ, Bool, true, false, cond, not, ◌&&◌, ◌||◌, List, [], ◌∷◌, length, take, drop, eqb, Option, Some, None, refl, arith}
use Rattle.std.proofs.lemmas.Bool.{eqb-true}
use Rattle.std.proofs.lemmas.List.{length-take}
use Rattle.std.proofs.lemmas.List.Sums.{prefix_len-le-length}
use Rattle.std.specs.List.{list_all}
use Rattle.py_token.specs.declared.error.TokenError.TheVariants.{BadCharacter, OpenString}
use Rattle.py_token.specs.Source.{line_count}
use Rattle.py_token.specs.Numbers.{is_digit_of, digits_value}
use Rattle.py_token.specs.Strings.{StringItem, holds, closing, fault, after_of, next_of, doubled, closes, escaped, digits_asked, is_character, hex_item, octal_item, other_item, hex_or, escaped_or, escape_item, raw_item, text_item}
use Rattle.py_token.proofs.Lines.{line_count-cons, line_count-end, line_count-drop}

pub record Fair {A : Type 0} (line c : ℕ) (cs : List ℕ) (item : StringItem A) : Type 0 where
  pub within : after_of item ≤ length cs
  pub lines : next_of item line + line_count (drop (after_of item) cs) ≤ line + line_count (c ∷ cs)
  pub later : line ≤ next_of item line

-- an item on one line
pub on_line : {A : Type 0} (line c : ℕ) (cs : List ℕ) (item : StringItem A) → after_of item ≤ length cs → next_of item line ≡ line → Fair line c cs item
on_line line c cs item within same = record {
  within = within;
  lines = let d = line_count-drop (after_of item) cs in let h = (line_count-cons c cs).0 in omega (arith, d, h, same);
  later = omega (arith, same);
}

-- an end of a line
over_end : {A : Type 0} (line c d : ℕ) (ds : List ℕ) (x : A) → d ≡ 10 → Fair line c (d ∷ ds) (holds x 1 (line + 1))
over_end line c d ds x is = record {
  within = omega arith;
  lines = let e = line_count-end d ds is in let h = (line_count-cons c (d ∷ ds)).0 in omega (arith, e, h);
  later = omega arith;
}

doubled_long : (quote : ℕ) (cs : List ℕ) → doubled quote cs ≡ true → 2 ≤ length cs
doubled_long quote [] is = absurd cc
doubled_long quote (c ∷ []) is = go (eqb c quote) is
  where
    go : (b : Bool) → b && false ≡ true → 2 ≤ length (c ∷ [])
    go true is = absurd cc
    go false is = absurd cc
doubled_long quote (c ∷ d ∷ cs) is = omega arith

closing_fair : {A : Type 0} (line quote : ℕ) (triple : Bool) (c : ℕ) (cs : List ℕ) → closes quote triple c cs ≡ true → Fair {A = A} line c cs (closing (cond triple 2 0))
closing_fair line quote false c cs is = on_line line c cs (closing 0) (omega arith) refl
closing_fair line quote true c cs is = on_line line c cs (closing 2) (go (eqb c quote) is) refl
  where
    go : (b : Bool) → b && (not true || doubled quote cs) ≡ true → 2 ≤ length cs
    go true is = doubled_long quote cs is
    go false is = absurd cc

hex_fair : (line n c d : ℕ) (ds : List ℕ) → Fair {A = List ℕ} line c (d ∷ ds) (hex_item line n ds)
unfolding hex_item
hex_fair line n c d ds = go (eqb (length (take n ds)) n) (list_all (is_digit_of 16) (take n ds)) (is_character (digits_value 16 0 (take n ds))) refl
  where
    go : (a b e : Bool) → eqb (length (take n ds)) n ≡ a → Fair {A = List ℕ} line c (d ∷ ds) (cond (a && b && e) (holds (digits_value 16 0 (take n ds) ∷ []) (n + 1) line) (fault (BadCharacter line)))
    go false b e is = on_line line c (d ∷ ds) (fault (BadCharacter line)) (omega arith) refl
    go true false e is = on_line line c (d ∷ ds) (fault (BadCharacter line)) (omega arith) refl
    go true true false is = on_line line c (d ∷ ds) (fault (BadCharacter line)) (omega arith) refl
    go true true true is = on_line line c (d ∷ ds) (holds (digits_value 16 0 (take n ds) ∷ []) (n + 1) line) (let e = eqb-true (length (take n ds)) n is in let l = length-take n ds in omega (arith, e, l)) refl

octal_fair : (line c : ℕ) (cs : List ℕ) → Fair {A = List ℕ} line c cs (octal_item line cs)
unfolding octal_item
octal_fair line c cs = on_line line c cs (octal_item line cs) (let h = prefix_len-le-length (is_digit_of 8) (take 3 cs) in let l = length-take 3 cs in omega (arith, h, l)) refl

other_fair : (line c d : ℕ) (cs : List ℕ) → Fair {A = List ℕ} line c cs (other_item line d)
other_fair line c d cs = go (eqb d 78)
  where
    go : (b : Bool) → Fair {A = List ℕ} line c cs (cond b (fault (BadCharacter line)) (holds (92 ∷ []) 0 line))
    go true = on_line line c cs (fault (BadCharacter line)) (omega arith) refl
    go false = on_line line c cs (holds (92 ∷ []) 0 line) (omega arith) refl

hex_or_fair : (o : Option ℕ) (line c d : ℕ) (ds : List ℕ) → Fair {A = List ℕ} line c (d ∷ ds) (hex_or o line d ds)
hex_or_fair (Some n) line c d ds = hex_fair line n c d ds
hex_or_fair None line c d ds = other_fair line c d (d ∷ ds)

escaped_fair : (o : Option ℕ) (line c d : ℕ) (ds : List ℕ) → Fair {A = List ℕ} line c (d ∷ ds) (escaped_or o line d ds)
escaped_fair (Some e) line c d ds = on_line line c (d ∷ ds) (holds (e ∷ []) 1 line) (omega arith) refl
escaped_fair None line c d ds = go (is_digit_of 8 d)
  where
    go : (b : Bool) → Fair {A = List ℕ} line c (d ∷ ds) (cond b (octal_item line (d ∷ ds)) (hex_or (digits_asked d) line d ds))
    go true = octal_fair line c (d ∷ ds)
    go false = hex_or_fair (digits_asked d) line c d ds

escape_fair : (line c : ℕ) (cs : List ℕ) → Fair {A = List ℕ} line c cs (escape_item line cs)
escape_fair line c [] = on_line line c [] (holds (92 ∷ []) 0 line) (omega arith) refl
escape_fair line c (d ∷ ds) = go (eqb d 10) refl
  where
    go : (b : Bool) → eqb d 10 ≡ b → Fair {A = List ℕ} line c (d ∷ ds) (cond b (holds [] 1 (line + 1)) (escaped_or (escaped d) line d ds))
    go true is = over_end line c d ds [] (eqb-true d 10 is)
    go false is = escaped_fair (escaped d) line c d ds

raw_fair : (line c : ℕ) (cs : List ℕ) → Fair {A = List ℕ} line c cs (raw_item line cs)
raw_fair line c [] = on_line line c [] (holds (92 ∷ []) 0 line) (omega arith) refl
raw_fair line c (d ∷ ds) = go (eqb d 10) (eqb d 13) refl
  where
    go : (a b : Bool) → eqb d 10 ≡ a → Fair {A = List ℕ} line c (d ∷ ds) (cond a (holds (92 ∷ 10 ∷ []) 1 (line + 1)) (cond b (holds (92 ∷ []) 0 line) (holds (92 ∷ d ∷ []) 1 line)))
    go true b is = over_end line c d ds (92 ∷ 10 ∷ []) (eqb-true d 10 is)
    go false true is = on_line line c (d ∷ ds) (holds (92 ∷ []) 0 line) (omega arith) refl
    go false false is = on_line line c (d ∷ ds) (holds (92 ∷ d ∷ []) 1 line) (omega arith) refl

pub text_fair : (raw : Bool) (quote : ℕ) (triple : Bool) (first line c : ℕ) (cs : List ℕ) → Fair {A = List ℕ} line c cs (text_item raw quote triple first line c cs)
unfolding text_item
text_fair raw quote triple first line c cs = go (closes quote triple c cs) (eqb c 13) (eqb c 10) (eqb c 92) triple raw refl refl
  where
    go : (shut return feed slash three plain : Bool) → closes quote triple c cs ≡ shut → eqb c 10 ≡ feed
        → Fair {A = List ℕ} line c cs (cond shut (closing (cond triple 2 0)) (cond return (fault (BadCharacter line)) (cond feed (cond three (holds (10 ∷ []) 0 (line + 1)) (fault (OpenString first))) (cond slash (cond plain (raw_item line cs) (escape_item line cs)) (holds (c ∷ []) 0 line)))))
    go true return feed slash three plain is end = closing_fair line quote triple c cs is
    go false true feed slash three plain is end = on_line line c cs (fault (BadCharacter line)) (omega arith) refl
    go false false true slash true plain is end = record { within = omega arith; lines = let e = line_count-end c cs (eqb-true c 10 end) in omega (arith, e); later = omega arith }
    go false false true slash false plain is end = on_line line c cs (fault (OpenString first)) (omega arith) refl
    go false false false true three true is end = raw_fair line c cs
    go false false false true three false is end = escape_fair line c cs
    go false false false false three plain is end = on_line line c cs (holds (c ∷ []) 0 line) (omega arith) refl
