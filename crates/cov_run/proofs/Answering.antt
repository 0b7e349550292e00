-- What the answers of parts say of the whole.
use Rattle.std.proofs.Common.{◌≡◌, ◌≢◌, inl, inr, ℕ, suc, ◌+◌, ◌≤◌, Bool, true, List, length, Option, Some, None, Result, Ok, Err, OnOk, IfErr, refl, sym, ap, ◌∙◌, subst, arith, codes, encode_utf8_all}
use Rattle.std.specs.Str.{bytes_eq}
use Rattle.std.proofs.lemmas.Slice.Eq.{bytes_eq-Decides}
use Rattle.std.proofs.lemmas.Str.{encodes_same}
use Rattle.py_text.specs.Comparison.{is_same_text}
use Rattle.py_text.proofs.SameTexts.{text_test}
use Rattle.py_syntax.specs.Tree.{Text}
use Rattle.py_token.specs.declared.error.TokenError.{TokenError}
use Rattle.py_token.specs.declared.error.TokenError.TheVariants as token_error
use Rattle.py_scope.specs.declared.error.ScopeError.{ScopeError}
use Rattle.py_scope.specs.declared.error.ScopeError.TheVariants as scope_error
use Rattle.cov_why.specs.Answers.{Refusal, no_such_file, limit, shelf_fault, no_memory, plain_why, RefusedAs}
use Rattle.cov_why.specs.declared.why.Why.{Why}
use Rattle.cov_why.specs.declared.why.Why.TheVariants as why
use Rattle.cov_why.specs.declared.why.SyntaxKind.{SyntaxKind}
use Rattle.cov_why.specs.declared.why.LimitKind.{LimitKind}
use Rattle.cov_why.specs.declared.why.LimitKind.TheVariants as limits
use Rattle.cov_why.proofs.Refusing.{refused-for, refused-map}
use Rattle.cov_run.specs.declared.source.SourceError.TheVariants as source_error
use Rattle.cov_run.specs.declared.loading.File.{File}
use Rattle.cov_run.specs.declared.loading.Loading.{Loading}
use Rattle.cov_run.specs.declared.loading.File.TheVariants.{Bytes, TooLarge}
use Rattle.cov_run.specs.Reading.{Reading, Reads, reading_of}
use Rattle.cov_run.specs.Loading.{most_bytes, most_total, most_modules, is_there}
use Rattle.cov_run.specs.Refusals.{HasRoom, fault_of, limit_of, refused_by, refusal_of, Refuses, absent, crowded, large, heavy, unreadable}
use Rattle.cov_run.specs.State.{State, nothing, Holds, Adds, Settles, GrowsOrStays}

-- ---- no check of a file answers a fault of the shelf

apart : why.ShelfFault ≡ why.NoMemory → ⊥
apart h = cc

pub err_same : {A : Type 0} (v w : Why) → ◌≡◌ {A = Result A Why} (Err v) (Err w) → v ≡ w
err_same {A} v w e = ap (λ (r : Result A Why). elim r as (λ (r : Result A Why). Why) [ Ok x ↦ v | Err u ↦ u ]) e

-- the refusal of a source by its reading is no fault
limited : (name : List ℕ) (l : Option (LimitKind × ℕ)) (f : Option (ℕ × SyntaxKind)) → refused_by name l f ≡ Some shelf_fault → ⊥
limited name (Some l) f e = cc
limited name None (Some f) e = cc
limited name None None e = cc

refuses-none : (modules total : ℕ) (path : Text) (file : Option (List ℕ)) (r : Refusal) → r ≡ shelf_fault → Refuses modules total path file r → ⊥
refuses-none modules total path file r e (absent none is) = let q : shelf_fault ≡ no_such_file (encode_utf8_all path) = sym e ∙ is in cc
refuses-none modules total path file r e (crowded bytes there many is) = let q : shelf_fault ≡ limit limits.Modules (suc most_modules) = sym e ∙ is in cc
refuses-none modules total path file r e (large bytes next many is) = let q : shelf_fault ≡ limit limits.FileBytes (suc most_bytes) = sym e ∙ is in cc
refuses-none modules total path file r e (heavy bytes next small many is) = let q : shelf_fault ≡ limit limits.TotalBytes (total + length bytes) = sym e ∙ is in cc
refuses-none modules total path file r e (unreadable bytes reading room read is) = limited (encode_utf8_all path) (limit_of reading) (fault_of reading) (is ∙ ap Some e)

memory-apart : shelf_fault ≡ no_memory → ⊥
memory-apart e = cc

pub no-fault : {A : Type 0} (modules total : ℕ) (path : Text) (file : Option (List ℕ)) (w : Why) → RefusedAs w (λ r. r ≢ no_memory → Refuses modules total path file r) → ◌≡◌ {A = Result A Why} (Err w) (Err why.ShelfFault) → ⊥
no-fault {A} modules total path file w h e =
    let is : w ≡ why.ShelfFault = err_same {A = A} w why.ShelfFault e in
    let s : shelf_fault ≢ no_memory → Refuses modules total path file shelf_fault = refused-for w shelf_fault (λ r. r ≢ no_memory → Refuses modules total path file r) (ap plain_why is) h in
    refuses-none modules total path file shelf_fault refl (s memory-apart)

-- nor does a source that is read alone
pub alone-no-fault : {A : Type 0} (path : List ℕ) (reading : Reading) (w : Why) → RefusedAs w (λ r. r ≢ no_memory → refusal_of path reading ≡ Some r) → ◌≡◌ {A = Result A Why} (Err w) (Err why.ShelfFault) → ⊥
alone-no-fault {A} path reading w h e =
    let is : w ≡ why.ShelfFault = err_same {A = A} w why.ShelfFault e in
    let s : shelf_fault ≢ no_memory → refusal_of path reading ≡ Some shelf_fault = refused-for w shelf_fault (λ r. r ≢ no_memory → refusal_of path reading ≡ Some r) (ap plain_why is) h in
    limited path (limit_of reading) (fault_of reading) (s memory-apart)

pub memory-no-fault : {A : Type 0} → ◌≡◌ {A = Result A Why} (Err why.NoMemory) (Err why.ShelfFault) → ⊥
memory-no-fault {A} e = apart (sym (err_same {A = A} why.NoMemory why.ShelfFault e))

-- ---- what a source is refused for

pub tokens-pass : (e : TokenError) → limit_of (reading_of (source_error.Tokens e)) ≡ None
tokens-pass (token_error.BadCharacter line) = refl
tokens-pass (token_error.BadIndent line) = refl
tokens-pass (token_error.OpenString line) = refl
tokens-pass (token_error.OpenBracket line) = refl
tokens-pass (token_error.WideNumber line) = refl
tokens-pass token_error.NoMemory = refl

pub scopes-pass : (e : ScopeError) → limit_of (reading_of (source_error.Scopes e)) ≡ None
scopes-pass (scope_error.BreakOutside line) = refl
scopes-pass (scope_error.ReturnOutside line) = refl
scopes-pass (scope_error.GlobalAfterUse line) = refl
scopes-pass (scope_error.NestedFunction line) = refl
scopes-pass (scope_error.EarlyIrrefutable line) = refl
scopes-pass (scope_error.TwiceNamed line) = refl
scopes-pass scope_error.NoMemory = refl

-- ---- files

-- a file that is there was found
pub there : (content : Option (List ℕ)) (file : File) → Holds content file → is_there content ≡ true
there content (Bytes v) h = ap is_there h
there content TooLarge h = ap is_there h.1

pub settles-added : {A E : Type 0} (content : Option (List ℕ)) (name path : Text) (s t : State) (r : Result A E) → OnOk r (Adds content name path s t) → OnOk r (Settles content name path s t)
settles-added content name path s t (Ok u) a = inr a
settles-added content name path s t (Err e) a = tt

-- whatever was found, the file is there
pub held : (content : Option (List ℕ)) (file : File) → Holds content file → (bytes : List ℕ) × (content ≡ Some bytes)
held content (Bytes v) h = (v.items, h)
held content TooLarge h = (h.0, h.1)

-- ---- the name `sys`

plain_test : (word x : List ℕ) → encode_utf8_all x ≡ x → bytes_eq (encode_utf8_all word) x ≡ is_same_text word x
plain_test word x plain =
    text_test (bytes_eq (encode_utf8_all word) x) word x (
      λ t. encodes_same word x ((bytes_eq-Decides (encode_utf8_all word) x).0 t ∙ sym plain),
      λ e. (bytes_eq-Decides (encode_utf8_all word) x).1 (ap encode_utf8_all e ∙ plain),
    )

pub sys-tested : (name bytes : List ℕ) (r : Bool) → bytes ≡ encode_utf8_all name → r ≡ bytes_eq bytes (codes "sys") → is_same_text name (codes "sys") ≡ r
unfolding lib.Utf8.encode
sys-tested name bytes r is tested = sym (tested ∙ ap (λ b. bytes_eq b (codes "sys")) is ∙ plain_test name (codes "sys") refl)

-- ---- what is told of an error, and of the script

pub refused-as : {A : Type 0} (r : Result A Why) (w : Why) (P : Why → Type 0) → r ≡ Err w → P w → IfErr r P
refused-as r w P e p = subst (λ q. IfErr q P) (sym e) p

pub script-refuses : (content : Option (List ℕ)) (script path : Text) (n total : ℕ) (r : Refusal) → n ≡ 0 → total ≡ 0 → path ≡ script → Refuses n total path content r → Refuses 0 0 script content r
script-refuses content script path n total r e f is h =
    subst (λ p. Refuses 0 0 p content r) is (subst (λ t. Refuses 0 t path content r) f (subst (λ m. Refuses m total path content r) e h))

pub script-added : (content : Option (List ℕ)) (script name path x : Text) (s t : State) → path ≡ script → x ≡ name → s ≡ nothing → Adds content x path s t → Adds content name script nothing t
script-added content script name path x s t is named none a =
    subst (λ (o : State). Adds content name script o t) none (subst (λ y. Adds content y script s t) named (subst (λ p. Adds content x p s t) is a))

-- the script isn't there
pub absent-refuses : (content : Option (List ℕ)) (script path : Text) (name : List ℕ) (w : Why) → path ≡ script → name ≡ encode_utf8_all path → content ≡ None → RefusedAs w (λ r. r ≢ no_memory → r ≡ no_such_file name) → RefusedAs w (λ r. r ≢ no_memory → Refuses 0 0 script content r)
absent-refuses content script path name w is named none h =
    refused-map w (λ r. r ≢ no_memory → r ≡ no_such_file name) (λ r. r ≢ no_memory → Refuses 0 0 script content r) (λ r k m. absent none (k m ∙ ap no_such_file (named ∙ ap encode_utf8_all is))) h

pub absent-no-fault : (name : List ℕ) (w : Why) → RefusedAs w (λ r. r ≢ no_memory → r ≡ no_such_file name) → w ≡ why.ShelfFault → ⊥
absent-no-fault name w h e = let s : shelf_fault ≢ no_memory → shelf_fault ≡ no_such_file name = refused-for w shelf_fault (λ r. r ≢ no_memory → r ≡ no_such_file name) (ap plain_why e) h in let q = s memory-apart in cc

-- ---- the limits

pub few-after : (old new : Loading) → GrowsOrStays old new → length old.sources.items ≤ most_modules → length new.sources.items ≤ most_modules
few-after old new h few = elim h [ inl e ↦ let l = e.0 in let k = e.1 in omega (arith, l, k) | inr e ↦ let l = ap length e.0 in omega (arith, l) ]

pub light-after : (old new : Loading) → GrowsOrStays old new → old.bytes ≤ most_total → new.bytes ≤ most_total
light-after old new h light = elim h [ inl e ↦ let l = e.2 in omega (arith, l) | inr e ↦ let l = e.2 in omega (arith, l) ]

-- ---- a source that can't be read

pub unread-refuses : (modules total : ℕ) (path : Text) (file : Option (List ℕ)) (bytes name : List ℕ) (reading : Reading) (w : Why) → name ≡ encode_utf8_all path → HasRoom modules total file bytes → Reads bytes reading → RefusedAs w (λ r. r ≢ no_memory → refusal_of name reading ≡ Some r)
    → RefusedAs w (λ r. r ≢ no_memory → Refuses modules total path file r)
unread-refuses modules total path file bytes name reading w named room reads h =
    refused-map w (λ r. r ≢ no_memory → refusal_of name reading ≡ Some r) (λ r. r ≢ no_memory → Refuses modules total path file r) (λ r k m. unreadable bytes reading room reads (subst (λ n. refusal_of n reading ≡ Some r) named (k m))) h
