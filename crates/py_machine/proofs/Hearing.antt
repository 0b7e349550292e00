-- Parts of a run that read, one after another.
use Rattle.std.proofs.Common.{◌≡◌, ℕ, List, [], ◌∷◌, ◌++◌, Bool, true, false, Option, Some, None, ◌⊎◌, inl, inr, refl, sym, ap, ◌∙◌, subst, append_assoc}
use Rattle.cov_outside.specs.Prefixes.{LosesPrefix}
use Rattle.py_builtins.specs.Inputs.{Fed, OnReads}
use Rattle.py_builtins.proofs.Feeding.{after_bytes, fed_bytes, bytes_fed, fed_then, fed_apart}
use Rattle.py_machine.specs.Told.{OnInputs, OnInput, Opens, PartOnInput, IsAtEnd, OnInputUntil, PartOnInputUntil}

-- an input at its end gives no byte
fed_none : (heard : List (Option ℕ)) (rest : List ℕ) → Fed heard [] rest → rest ≡ []
fed_none [] rest f = sym f
fed_none (Some b ∷ heard) rest f = let e : b ∷ rest ≡ [] = fed_none heard (b ∷ rest) f in absurd (cc)
fed_none (None ∷ heard) rest f = f.0

-- what follows of every such input
pub heard_as : (tells : Type 0) (before : List ℕ) (left : List ℕ → Type 0) (P Q : List ℕ → List ℕ → Type 0) → ((all rest : List ℕ) → P all rest → Q all rest) → OnInputs tells before left P → OnInputs tells before left Q
heard_as tells before left P Q f h = record {
  heard = h.heard;
  input = h.input;
  rest = h.rest;
  fed = h.fed;
  told = h.told;
  holds = λ all rest fed. f all rest (h.holds all rest fed);
}

pub hears_as : (tells : Type 0) (i0 i1 : List ℕ) (was is : Bool) (P Q : List ℕ → List ℕ → Type 0) → ((all rest : List ℕ) → P all rest → Q all rest) → PartOnInput tells i0 i1 was is P → PartOnInput tells i0 i1 was is Q
unfolding heard_as
hears_as tells i0 i1 was is P Q f h = record {
  hears = heard_as tells i0 (λ rest. rest ≡ i1) P Q f h.hears;
  stays = h.stays;
  closes = h.closes;
  opens = λ e.
      let o = h.opens e in
      record { bytes = o.bytes; holds = λ more. f (o.bytes ++ more) more (o.holds more); shape = o.shape };
}

pub hears_some_as : (tells : Type 0) (i0 i1 : List ℕ) (was : Bool) (P Q : List ℕ → Type 0) → ((all : List ℕ) → P all → Q all) → PartOnInputUntil tells i0 i1 was P → PartOnInputUntil tells i0 i1 was Q
unfolding heard_as
hears_some_as tells i0 i1 was P Q f h = record {
  hears = heard_as tells i0 (λ rest. LosesPrefix rest i1) (λ all rest. P all) (λ all rest. Q all) (λ all rest p. f all p) h.hears;
  stays = h.stays;
}

-- what a built-in function read
abbrev pub of_reads : (tells : Type 0) (i0 i1 : List ℕ) (P : List ℕ → List ℕ → Type 0) → OnReads tells i0 i1 P → OnInput tells i0 i1 P
of_reads tells i0 i1 P r = record { heard = r.heard; input = r.input; rest = r.rest; fed = r.fed; told = r.told; holds = r.holds }

-- nothing was lost
pub lost_none : (xs : List ℕ) → LosesPrefix xs xs
lost_none xs = record { front = []; is = refl }

-- all answers that were read were whole
pub heard_some : (tells : Type 0) (i0 i1 : List ℕ) (P : List ℕ → List ℕ → Type 0) (Q : List ℕ → Type 0) → ((all rest : List ℕ) → P all rest → Q all) → OnInput tells i0 i1 P → OnInputUntil tells i0 i1 Q
heard_some tells i0 i1 P Q f h = record {
  heard = h.heard;
  input = h.input;
  rest = h.rest;
  fed = h.fed;
  told = λ t. ((h.told t).0, subst (λ x. LosesPrefix h.rest x) (h.told t).1 (lost_none h.rest));
  holds = λ all rest fed. f all rest (h.holds all rest fed);
}

pub hears_some : (tells : Type 0) (i0 i1 : List ℕ) (was is : Bool) (P : List ℕ → List ℕ → Type 0) (Q : List ℕ → Type 0) → ((all rest : List ℕ) → P all rest → Q all) → PartOnInput tells i0 i1 was is P → PartOnInputUntil tells i0 i1 was Q
unfolding heard_some
hears_some tells i0 i1 was is P Q f h = record { hears = heard_some tells i0 i1 P Q f h.hears; stays = λ e. (h.stays e).0 }

-- an input for a source that isn't read
unread : (tells : Type 0) (was : Bool) (i0 : List ℕ) → IsAtEnd was tells i0 → (input : List ℕ) × (tells → input ≡ i0) × (was ≡ true → input ≡ [])
unread tells true i0 h = ([], λ t. sym (h refl t), λ e. refl)
unread tells false i0 h = (i0, λ t. refl, λ e. absurd (cc))

pub hears_nothing : (tells : Type 0) (was : Bool) (i0 : List ℕ) → IsAtEnd was tells i0 → (P : List ℕ → List ℕ → Type 0) → ((all : List ℕ) → P all all) → PartOnInput tells i0 i0 was was P
hears_nothing tells was i0 over P h =
    let u = unread tells was i0 over in
    record {
      hears = record { heard = []; input = u.0; rest = u.0; fed = refl; told = λ t. (u.1 t, u.1 t); holds = λ all rest f. subst (λ r. P all r) f (h all) };
      stays = λ e. (u.2 e, e);
      closes = u.2;
      opens = λ e. record { bytes = []; holds = h; shape = inl refl };
    }

pub heard_nothing : (tells : Type 0) (i0 : List ℕ) (P : List ℕ → List ℕ → Type 0) → ((all : List ℕ) → P all all) → OnInput tells i0 i0 P
heard_nothing tells i0 P h = record { heard = []; input = i0; rest = i0; fed = refl; told = λ t. (refl, refl); holds = λ all rest f. subst (λ r. P all r) f (h all) }

-- a source of which a reading was given up
pub hears_lost : (tells : Type 0) (was : Bool) (i0 i1 : List ℕ) → IsAtEnd was tells i0 → (tells → LosesPrefix i0 i1) → (P : List ℕ → Type 0) → ((all : List ℕ) → P all) → PartOnInputUntil tells i0 i1 was P
hears_lost tells was i0 i1 over lost P h =
    let u = unread tells was i0 over in
    record {
      hears = record { heard = []; input = u.0; rest = u.0; fed = refl; told = λ t. (u.1 t, subst (λ x. LosesPrefix x i1) (sym (u.1 t)) (lost t)); holds = λ all rest f. h all };
      stays = u.2;
    }

pub heard_lost : (tells : Type 0) (i0 i1 : List ℕ) → (tells → LosesPrefix i0 i1) → (P : List ℕ → Type 0) → ((all : List ℕ) → P all) → OnInputUntil tells i0 i1 P
heard_lost tells i0 i1 lost P h = record { heard = []; input = i0; rest = i0; fed = refl; told = λ t. (refl, lost t); holds = λ all rest f. h all }

-- the source is at its end
pub over_then : (tells : Type 0) (i0 i1 : List ℕ) (was is : Bool) (P : List ℕ → List ℕ → Type 0) → PartOnInput tells i0 i1 was is P → IsAtEnd is tells i1
over_then tells i0 i1 was is P h e t = sym (h.hears.told t).1 ∙ h.closes e

-- two parts, one after the other
module _ (tells : Type 0) (i0 i1 : List ℕ) (left : List ℕ → Type 0) (P Q R : List ℕ → List ℕ → Type 0) (both : (all mid rest : List ℕ) → P all mid → Q mid rest → R all rest)
    (x : OnInput tells i0 i1 P) (y : OnInputs tells i1 left Q) where
  -- the end was met in the first
  at_end : x.rest ≡ [] → y.input ≡ [] → OnInputs tells i0 left R
  at_end e f = record {
    heard = y.heard ++ x.heard;
    input = x.input;
    rest = y.rest;
    fed = fed_then x.heard y.heard x.input x.rest y.rest x.fed (subst (λ z. Fed y.heard z y.rest) (f ∙ sym e) y.fed);
    told = λ t. ((x.told t).0, (y.told t).1);
    holds = λ all rest g.
        let cut = fed_apart x.heard y.heard all rest g in
        both all cut.0 rest (x.holds all cut.0 cut.1) (y.holds cut.0 rest cut.2);
  }

  -- bytes followed the first
  followed : (o : Opens P x.input x.rest) → (tells → o.bytes ++ y.input ≡ i0) → OnInputs tells i0 left R
  followed o told = record {
    heard = y.heard ++ after_bytes [] o.bytes;
    input = o.bytes ++ y.input;
    rest = y.rest;
    fed = fed_then (after_bytes [] o.bytes) y.heard (o.bytes ++ y.input) y.input y.rest (fed_bytes [] o.bytes (o.bytes ++ y.input) y.input refl) y.fed;
    told = λ t. (told t, (y.told t).1);
    holds = λ all rest g.
        let cut = fed_apart (after_bytes [] o.bytes) y.heard all rest g in
        both all cut.0 rest (subst (λ z. P z cut.0) (sym (bytes_fed [] o.bytes all cut.0 cut.1)) (o.holds cut.0)) (y.holds cut.0 rest cut.2);
  }

  abbrev Follows : Opens P x.input x.rest → Type 0
  Follows o = (z : OnInputs tells i0 left R) × (z.rest ≡ y.rest) × ((z.input ≡ o.bytes ++ y.input) ⊎ (y.rest ≡ []))

  by_input : (o : Opens P x.input x.rest) → x.rest ≡ [] → (input : List ℕ) → y.input ≡ input → Follows o
  unfolding at_end followed
  by_input o e [] f = (at_end e f, refl, inr (fed_none y.heard y.rest (subst (λ z. Fed y.heard z y.rest) f y.fed)))
  by_input o e (b ∷ bs) f = (followed o (λ t. let h : [] ≡ b ∷ bs = sym e ∙ (x.told t).1 ∙ sym (y.told t).0 ∙ f in absurd (cc)), refl, inl refl)

  by_shape : (o : Opens P x.input x.rest) → (x.input ≡ o.bytes ++ x.rest) ⊎ (x.rest ≡ []) → Follows o
  unfolding followed
  by_shape o (inl e) = (followed o (λ t. ap (λ z. o.bytes ++ z) ((y.told t).0 ∙ sym (x.told t).1) ∙ sym e ∙ (x.told t).0), refl, inl refl)
  by_shape o (inr e) = by_input o e y.input refl

-- what the bytes of both are
shapes : (xs ys input mid rest left : List ℕ) → left ≡ rest → (input ≡ xs ++ mid) ⊎ (rest ≡ []) → (mid ≡ ys ++ rest) ⊎ (rest ≡ []) → (input ≡ (xs ++ ys) ++ left) ⊎ (left ≡ [])
shapes xs ys input mid rest left e (inl f) (inl g) = inl (f ∙ ap (λ z. xs ++ z) g ∙ sym (append_assoc xs ys rest) ∙ ap (λ z. (xs ++ ys) ++ z) (sym e))
shapes xs ys input mid rest left e (inl f) (inr g) = inr (e ∙ g)
shapes xs ys input mid rest left e (inr f) g = inr (e ∙ f)

pub hears_then : (tells : Type 0) (i0 i1 i2 : List ℕ) (w0 w1 w2 : Bool) (P Q R : List ℕ → List ℕ → Type 0) → ((all mid rest : List ℕ) → P all mid → Q mid rest → R all rest)
    → PartOnInput tells i0 i1 w0 w1 P → PartOnInput tells i1 i2 w1 w2 Q → PartOnInput tells i0 i2 w0 w2 R
unfolding at_end
hears_then tells i0 i1 i2 w0 true w2 P Q R both x y = record {
  hears = at_end tells i0 i1 (λ rest. rest ≡ i2) P Q R both x.hears y.hears (x.closes refl) (y.stays refl).0;
  stays = λ e. ((x.stays e).0, (y.stays refl).1);
  closes = y.closes;
  opens = λ e. let h : w2 ≡ true = (y.stays refl).1 in absurd (cc);
}
hears_then tells i0 i1 i2 w0 false w2 P Q R both x y =
    let o = x.opens refl in
    let j = by_shape tells i0 i1 (λ rest. rest ≡ i2) P Q R both x.hears y.hears o o.shape in
    record {
      hears = j.0;
      stays = λ e. let h : false ≡ true = (x.stays e).1 in absurd (cc);
      closes = λ e. j.1 ∙ y.closes e;
      opens = λ e.
          let q = y.opens e in
          record {
            bytes = o.bytes ++ q.bytes;
            holds = λ more. subst (λ z. R z more) (sym (append_assoc o.bytes q.bytes more)) (both (o.bytes ++ (q.bytes ++ more)) (q.bytes ++ more) more (o.holds (q.bytes ++ more)) (q.holds more));
            shape = shapes o.bytes q.bytes j.0.input y.hears.input y.hears.rest j.0.rest j.1 j.2 q.shape;
          };
    }

pub hears_some_then : (tells : Type 0) (i0 i1 i2 : List ℕ) (w0 w1 : Bool) (P : List ℕ → List ℕ → Type 0) (Q R : List ℕ → Type 0) → ((all mid : List ℕ) → P all mid → Q mid → R all)
    → PartOnInput tells i0 i1 w0 w1 P → PartOnInputUntil tells i1 i2 w1 Q → OnInputUntil tells i0 i2 R
hears_some_then tells i0 i1 i2 w0 true P Q R both x y =
    at_end tells i0 i1 (λ rest. LosesPrefix rest i2) P (λ all rest. Q all) (λ all rest. R all) (λ all mid rest. both all mid) x.hears y.hears (x.closes refl) (y.stays refl)
hears_some_then tells i0 i1 i2 w0 false P Q R both x y =
    let o = x.opens refl in
    (by_shape tells i0 i1 (λ rest. LosesPrefix rest i2) P (λ all rest. Q all) (λ all rest. R all) (λ all mid rest. both all mid) x.hears y.hears o o.shape).0
