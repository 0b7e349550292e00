-- Each regular expression is the meaning of a tree.
use Rattle.std.proofs.Common.{◌≡◌, ◌⊎◌, inl, inr, ℕ, zero, suc, ◌+◌, ◌≤◌, ◌<◌, ◌^◌, max, min, nat_le, Bool, true, false, ◌||◌, ◌&&◌, List, [], ◌∷◌, ◌++◌, map, length, Option, None, Vec, refl, sym, ap, ap₂, subst, ◌∙◌, arith}
use Rattle.std.specs.Ptr.{null_ptr}
use Rattle.std.specs.Prelude.{Box}
use Rattle.regex_hir.proofs.MeaningLemmas.{meaning-Empty, meaning-Literal, meaning-Bytes, meaning-Chars, meaning-Look, meaning-Repetition, meaning-Capture, meaning-Concat, meaning-Alternation}
use Rattle.std.specs.declared.alloc.Global.{Global}
use Rattle.std.proofs.lemmas.Bool.Decides.{nat_tests}
use Rattle.regex_class.specs.Ranges.{Range, in_range, in_ranges, rises_from, fits_from, HasExactly, IsCanonical}
use Rattle.regex_class.specs.declared.Class.{Class}
use Rattle.regex_class.proofs.RangesLemmas.{in_range_tells, in_ranges-nil, in_ranges-cons}
use Rattle.regex_hir.specs.Re.{Re, empty, literal, byte_in, char_in, look, cat, alt, group, plus}
use Rattle.regex_hir.specs.Meaning.{meaning, repeat}
use Rattle.regex_hir.specs.declared.hir.Hir.{Hir}
use Rattle.regex_hir.specs.declared.hir.Hir.TheVariants as H
use Rattle.regex_syntax.specs.Captures.{SameCaptures}
use Rattle.regex_syntax.specs.Grammar.{group_count}
use Rattle.regex_syntax.specs.Same.{SameMatches}
use Rattle.regex_syntax.proofs.CapturesLemmas.{alike_refl, alike_of_same, alike_sym, ◌also◌, alike_cat, alike_alt, alike_group, alike_repeat}
use Rattle.regex_syntax.proofs.SameLemmas.{same_sym, cat-empty, alt-fail, literal-append, char_in_cong, byte_in_cong, char_in-append, byte_in-append, char_in-nil}

-- a tree that means it, with no more groups
pub record HasTree (re : Re) : Type 0 where
  pub hir : Hir
  pub same : SameCaptures (meaning hir) re
  pub count : group_count (meaning hir) ≤ group_count re

tree : (h : Hir) (m re : Re) → meaning h ≡ m → SameCaptures m re → group_count m ≤ group_count re
    → HasTree re
tree h m re is same count = record {
  hir = h;
  same = subst (λ r. SameCaptures r re) (sym is) same;
  count = subst (λ r. group_count r ≤ group_count re) (sym is) count;
}

-- ---- ranges

-- the range as far as Unicode goes
abbrev clipped : Range → Range
clipped r = (r.0, min r.1 0x10_FFFF)

same-bool : (x y : Bool) → (x ≡ true → y ≡ true) → (y ≡ true → x ≡ true) → x ≡ y
same-bool true true f g = refl
same-bool true false f g = sym (f refl)
same-bool false true f g = g refl
same-bool false false f g = refl

clipped-holds : (r : Range) → HasExactly (clipped r ∷ []) (in_ranges (r ∷ []))
unfolding in_ranges in_range
clipped-holds r c low = grind (arith, nat_tests)

nothing-holds : (r : Range) → fits_from 0 (clipped r) ≡ false → HasExactly [] (in_ranges (r ∷ []))
unfolding in_ranges in_range
nothing-holds r none c low = grind (arith, nat_tests, none)

one-canonical : (r : Range) → fits_from 0 r ≡ true → IsCanonical (r ∷ [])
unfolding rises_from
one-canonical r h = grind (arith, nat_tests, h)

none-canonical : IsCanonical []
unfolding rises_from
none-canonical = refl

le-itself : (n : ℕ) → n ≤ n
le-itself n = omega arith

module _ (alloc : Global) where
  abbrev vec : {A : Type 0} (xs : List A) → length xs < 2 ^ 63 → Vec A Global
  vec xs small = record {
    ptr = null_ptr;
    len = length xs;
    cap = length xs;
    alloc = alloc;
    items = xs;
    ok = (refl, le-itself (length xs));
    small = small;
  }

  abbrev boxed : Hir → Box Hir Global
  boxed h = record { ptr = null_ptr; alloc = alloc; value = h }

  -- a class that holds what a range holds of Unicode
  class-of : (r : Range) (b : Bool) → fits_from 0 (clipped r) ≡ b
      → (k : Class) × HasExactly k.ranges.items (in_ranges (r ∷ []))
  class-of r true e = (
    record { ranges = vec (clipped r ∷ []) (omega arith); canonical = one-canonical (clipped r) e },
    clipped-holds r,
  )
  class-of r false e =
      (record { ranges = vec [] (omega arith); canonical = none-canonical }, nothing-holds r e)

  -- ---- trees

  none-in : HasTree (byte_in [])
  none-in =
      let k : Class = record { ranges = vec [] (omega arith); canonical = none-canonical } in
      tree (H.Bytes k) (byte_in []) (byte_in []) (meaning-Bytes k) (alike_refl _) (omega arith)

  either : (a b : Re) → HasTree a → HasTree b → HasTree (alt a b)
  either a b p q =
      let subs = vec (p.hir ∷ q.hir ∷ []) (omega arith) in
      tree (H.Alternation subs) (alt (meaning p.hir) (alt (meaning q.hir) (byte_in []))) (alt a b)
      (meaning-Alternation subs)
      (alike_alt p.same (alike_of_same (alt-fail (meaning q.hir)) also q.same))
      (omega (arith, p.count, q.count))

  both : (a b : Re) → HasTree a → HasTree b → HasTree (cat a b)
  both a b p q =
      let subs = vec (p.hir ∷ q.hir ∷ []) (omega arith) in
      tree (H.Concat subs) (cat (meaning p.hir) (cat (meaning q.hir) empty)) (cat a b)
      (meaning-Concat subs)
      (alike_cat p.same (alike_of_same (cat-empty (meaning q.hir)) also q.same))
      (omega (arith, p.count, q.count))

  -- the tree of one that matches alike, and has as few groups
  along : (a b : Re) → SameMatches a b → group_count a ≤ group_count b → HasTree a → HasTree b
  along a b same few p = record {
    hir = p.hir;
    same = p.same also alike_of_same same;
    count = omega (arith, p.count, few);
  }

  short-literal : (bs : List ℕ) → length bs < 2 ^ 63 → HasTree (literal bs)
  short-literal bs short =
      tree (H.Literal (vec bs short)) (literal bs) (literal bs) (meaning-Literal (vec bs short))
      (alike_refl _) (omega arith)

  of-literal : (bs : List ℕ) → HasTree (literal bs)
  of-literal [] = short-literal [] (omega arith)
  of-literal (b ∷ bs) =
      along (cat (literal (b ∷ [])) (literal bs)) (literal (b ∷ bs)) (literal-append (b ∷ []) bs)
      (omega arith)
      (both (literal (b ∷ [])) (literal bs) (short-literal (b ∷ []) (omega arith)) (of-literal bs))

  one-char : (r : Range) → HasTree (char_in (r ∷ []))
  one-char r =
      let k = class-of r (fits_from 0 (clipped r)) refl in
      tree (H.Chars k.0) (char_in k.0.ranges.items) (char_in (r ∷ [])) (meaning-Chars k.0)
      (alike_of_same (char_in_cong k.0.ranges.items (r ∷ []) k.1)) (omega arith)

  one-byte : (r : Range) → HasTree (byte_in (r ∷ []))
  one-byte r =
      let k = class-of r (fits_from 0 (clipped r)) refl in
      tree (H.Bytes k.0) (byte_in k.0.ranges.items) (byte_in (r ∷ [])) (meaning-Bytes k.0)
      (alike_of_same (byte_in_cong k.0.ranges.items (r ∷ []) k.1)) (omega arith)

  of-chars : (rs : List Range) → HasTree (char_in rs)
  of-chars [] = along (byte_in []) (char_in []) (same_sym char_in-nil) (omega arith) none-in
  of-chars (r ∷ rs) =
      along (alt (char_in (r ∷ [])) (char_in rs)) (char_in (r ∷ rs))
      (same_sym (char_in-append (r ∷ []) rs)) (omega arith)
      (either (char_in (r ∷ [])) (char_in rs) (one-char r) (of-chars rs))

  of-bytes : (rs : List Range) → HasTree (byte_in rs)
  of-bytes [] = none-in
  of-bytes (r ∷ rs) =
      along (alt (byte_in (r ∷ [])) (byte_in rs)) (byte_in (r ∷ rs))
      (same_sym (byte_in-append (r ∷ []) rs)) (omega arith)
      (either (byte_in (r ∷ [])) (byte_in rs) (one-byte r) (of-bytes rs))

  repeated : (greedy : Bool) (a : Re) → repeat 1 None greedy a ≡ plus greedy a
  unfolding repeat
  repeated greedy a = refl

  of-plus : (greedy : Bool) (a : Re) → HasTree a → HasTree (plus greedy a)
  of-plus greedy a p =
      tree (H.Repetition 1 None greedy (boxed p.hir)) (plus greedy (meaning p.hir)) (plus greedy a)
      (meaning-Repetition 1 None greedy (boxed p.hir) ∙ repeated greedy (meaning p.hir))
      (subst (λ r. SameCaptures r (plus greedy a)) (repeated greedy (meaning p.hir))
      (subst (λ r. SameCaptures (repeat 1 None greedy (meaning p.hir)) r) (repeated greedy a)
      (alike_repeat 1 None greedy p.same)))
      (omega (arith, p.count))

  pub every : (re : Re) → HasTree re
  every empty = tree H.Empty empty empty meaning-Empty (alike_refl _) (omega arith)
  every (literal bs) = of-literal bs
  every (byte_in rs) = of-bytes rs
  every (char_in rs) = of-chars rs
  every (look l) = tree (H.Look l) (look l) (look l) (meaning-Look l) (alike_refl _) (omega arith)
  every (cat a b) = both a b (every a) (every b)
  every (alt a b) = either a b (every a) (every b)
  every (group n a) =
      let p = every a in
      tree (H.Capture n (boxed p.hir)) (group n (meaning p.hir)) (group n a)
      (meaning-Capture n (boxed p.hir)) (alike_group n p.same) (omega (arith, p.count))
  every (plus greedy a) = of-plus greedy a (every a)
