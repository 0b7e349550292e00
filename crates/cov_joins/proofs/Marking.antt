-- Which inputs are removed, name by name.
use Rattle.std.proofs.Common.{◌≡◌, ◌<◌, ℕ, ◌+◌, suc, Bool, true, false, ◌||◌, cond, if◌then◌else◌, List, [], ◌∷◌, ◌++◌, length, map, drop, drop-cons, get_or, String, Bor, arith, refl, sym, ap, ◌∙◌, string_bytes}
use Rattle.std.specs.BTreeSet.{BTreeSet, contains_text}
use Rattle.std.specs.Bool.{Decides}
use Rattle.std.specs.Str.{bytes_eq}
use Rattle.std.specs.declared.alloc.Global.{Global}
use Rattle.std.proofs.lemmas.List.{append_assoc, map-append}
use Rattle.std.proofs.lemmas.Slice.Eq.{bytes_eq-Decides}
use Rattle.cov_file_names.specs.Forms.{Text}
use Rattle.cov_step.specs.Names.{is_named, removable}

same : {P Q : Type 0} (a b : Bool) → Decides a P → Decides b Q → (P → Q) → (Q → P) → a ≡ b
same true true p q to from = refl
same true false p q to from = sym (q.1 (to (p.0 refl)))
same false true p q to from = p.1 (from (q.0 refl))
same false false p q to from = refl

bytes_eq-sym : (xs ys : Text) → bytes_eq xs ys ≡ bytes_eq ys xs
bytes_eq-sym xs ys = same (bytes_eq xs ys) (bytes_eq ys xs) (bytes_eq-Decides xs ys) (bytes_eq-Decides ys xs) sym sym

or-cond : (a b : Bool) → cond a true b ≡ (a || b)
or-cond true b = refl
or-cond false b = refl

-- the set holds one name more
pub holds-more : (old new : BTreeSet (String Global)) (n : Text) (done : List Text) → ((bs : Text) → contains_text new bs ≡ cond (bytes_eq n bs) true (contains_text old bs)) → ((bs : Text) → contains_text old bs ≡ is_named done bs)
    → (bs : Text) → contains_text new bs ≡ is_named (n ∷ done) bs
holds-more old new n done updated so bs =
    updated bs
    ∙ or-cond (bytes_eq n bs) (contains_text old bs)
    ∙ ap (λ (b : Bool). b || contains_text old bs) (bytes_eq-sym n bs)
    ∙ ap (λ (b : Bool). bytes_eq bs n || b) (so bs)

-- the name at this place, and those after it
pub names-at : (others : List (String Global)) (i : ℕ) (x : String Global) → i < length others → x ≡ get_or others i x → map string_bytes (drop i others) ≡ string_bytes x ∷ map string_bytes (drop (i + 1) others)
names-at others i x h is =
    ap (map string_bytes) (drop-cons others i x h)
    ∙ ap (λ (y : String Global). string_bytes y ∷ map string_bytes (drop (suc i) others)) (sym is)
    ∙ ap (λ (k : ℕ). string_bytes x ∷ map string_bytes (drop k others)) (one-more i)
  where
    one-more : (k : ℕ) → suc k ≡ k + 1
    one-more k = omega arith

module _ (own : Text) (done rest all : List Text) (name : Bor Text) (names : List (Bor Text))
    (so : map (λ (n : Bor Text). n.now) names ++ removable own done (name.now ∷ rest) ≡ removable own [] all) where
  -- the name is removed
  pub name-taken : (more : List (Bor Text)) → more ≡ names ++ name ∷ [] → (bytes_eq name.now own || is_named done name.now) ≡ false
      → map (λ (n : Bor Text). n.now) more ++ removable own (name.now ∷ done) rest ≡ removable own [] all
  name-taken more is isnt =
      ap (λ (k : List (Bor Text)). map (λ (n : Bor Text). n.now) k ++ removable own (name.now ∷ done) rest) is
      ∙ ap (λ (k : List Text). k ++ removable own (name.now ∷ done) rest) (map-append (λ (n : Bor Text). n.now) names (name ∷ []))
      ∙ append_assoc (map (λ (n : Bor Text). n.now) names) (name.now ∷ []) (removable own (name.now ∷ done) rest)
      ∙ ap (λ (b : Bool). map (λ (n : Bor Text). n.now) names ++ (if b then removable own done rest else name.now ∷ removable own (name.now ∷ done) rest)) (sym isnt)
      ∙ so

  -- the name stays
  pub name-left : (bytes_eq name.now own || is_named done name.now) ≡ true → map (λ (n : Bor Text). n.now) names ++ removable own done rest ≡ removable own [] all
  name-left is = ap (λ (b : Bool). map (λ (n : Bor Text). n.now) names ++ (if b then removable own done rest else name.now ∷ removable own (name.now ∷ done) rest)) (sym is) ∙ so
