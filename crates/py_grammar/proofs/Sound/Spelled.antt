-- The class of a token is spelled by that token, and what a run leaves is spelled by what it read.
use Rattle.std.proofs.Common.{◌≡◌, List, [], ◌∷◌, Option, Some, None, option_map, refl, sym, ap, subst, ◌∙◌, arith}
use Rattle.py_token.specs.declared.token.Keyword.{Keyword}
use Rattle.py_token.specs.declared.token.Keyword.TheVariants as word
use Rattle.py_token.specs.declared.token.Mark.{Mark}
use Rattle.py_token.specs.declared.token.Mark.TheVariants as mark
use Rattle.py_syntax.specs.Tree.{Text, Expr, Parts, no_parts, text, field}
use Rattle.py_syntax.specs.Kinds.{Kind, Word, FString, Sign, End, Pieces, no_pieces, chars_piece, field_piece, Kinds, no_kinds, kinds, kinds_of}
use Rattle.py_syntax.specs.Tokens.{tokens, pieces}
use Rattle.py_syntax.specs.Normal.{Normal, NormalParts}
use Rattle.py_grammar.specs.TokenClasses.{t_other, spelled}
use Rattle.py_grammar.specs.Machine.{Goal, any, one, target, State, Out, Next, Stuck, Left, step, start, format_class, class, parts, field_expr, Verdict, Refused, Leaves, run}
use Rattle.py_grammar.proofs.Sound.{before, Reads, step_reads}
use Rattle.py_grammar.proofs.Sound.Valid.{Sound, Meets, Keeps, ValidClass}
use Rattle.py_grammar.proofs.Sound.Keeps.{step_keeps}

-- ---- the tokens of a field as a list

abbrev pub kinds_list : Kinds → List Kind
kinds_list no_kinds = []
kinds_list (kinds t ts) = t ∷ kinds_list ts

pub kinds_back : (ks : Kinds) → kinds_of (kinds_list ks) ≡ ks
kinds_back no_kinds = refl
kinds_back (kinds t ts) = ap (λ (x : Kinds). kinds t x) (kinds_back ts)

abbrev pub field_after : Out → Kinds → Option Expr
field_after o ts = elim o as (λ (w : Out). Option Expr) [ Next n ↦ field_expr n ts | Stuck ↦ None | Left e ↦ None ]

abbrev pub ended_by : Out → Option Expr
ended_by o = elim o as (λ (w : Out). Option Expr) [ Next n ↦ None | Stuck ↦ None | Left e ↦ Some e ]

abbrev pub with_field : Option Expr → Option Parts → Option Parts
with_field o ps = elim o as (λ (w : Option Expr). Option Parts) [ None ↦ None | Some e ↦ option_map (λ qs. field e qs) ps ]

ended_spelled : (s : State) (e : Expr) (o : Out) → Reads (t_other End) (before s) o → ended_by o ≡ Some e → before s [] ≡ tokens e []
ended_spelled s e (Next n) reads h = absurd cc
ended_spelled s e Stuck reads h = absurd cc
ended_spelled s e (Left m) reads h = let same : m ≡ e = cc in sym (reads []) ∙ ap (λ (x : Expr). tokens x []) same

text_spelled : (x : Text) (ps : Pieces) (qs : Parts) (o : Option Parts) → ((rs : Parts) → o ≡ Some rs → pieces rs ≡ ps) → option_map (λ qs. text x qs) o ≡ Some qs → pieces qs ≡ chars_piece x ps
text_spelled x ps qs None spell h = absurd cc
text_spelled x ps qs (Some rs) spell h = let same : text x rs ≡ qs = cc in ap pieces (sym same) ∙ ap (λ (y : Pieces). chars_piece x y) (spell rs refl)

field_spelled : (ks : Kinds) (ps : Pieces) (qs : Parts) (o : Option Expr) (p : Option Parts) → ((e : Expr) → o ≡ Some e → kinds_list ks ≡ tokens e []) → ((rs : Parts) → p ≡ Some rs → pieces rs ≡ ps) → with_field o p ≡ Some qs → pieces qs ≡ field_piece ks ps
field_spelled ks ps qs None p spell rest h = absurd cc
field_spelled ks ps qs (Some e) None spell rest h = absurd cc
field_spelled ks ps qs (Some e) (Some rs) spell rest h =
    let same : field e rs ≡ qs = cc in
    ap pieces (sym same)
    ∙ ap (λ (x : Kinds). field_piece x (pieces rs)) (ap kinds_of (sym (spell e refl)) ∙ kinds_back ks)
    ∙ ap (λ (y : Pieces). field_piece ks y) (rest rs refl)

format_spelled : (ps : Pieces) (r : List Kind) (o : Option Parts) → ((qs : Parts) → o ≡ Some qs → pieces qs ≡ ps) → spelled (format_class ps o) r ≡ FString ps ∷ r
format_spelled ps r None spell = refl
format_spelled ps r (Some qs) spell = ap (λ (x : Pieces). FString x ∷ r) (spell qs refl)

step_spelled : (s : State) (t : Kind) (ts : Kinds) (e : Expr) (o : Out) → ((r : List Kind) → spelled (class t) r ≡ t ∷ r) → ((n : State) → field_expr n ts ≡ Some e → before n (kinds_list ts) ≡ tokens e []) → Reads (class t) (before s) o → field_after o ts ≡ Some e → before s (t ∷ kinds_list ts) ≡ tokens e []
step_spelled s t ts e (Next n) spell rec reads h = ap (before s) (sym (spell (kinds_list ts))) ∙ sym (reads (kinds_list ts)) ∙ rec n h
step_spelled s t ts e Stuck spell rec reads h = absurd cc
step_spelled s t ts e (Left m) spell rec reads h = absurd cc

word_spells : (w : Keyword) (r : List Kind) → spelled (class (Word w)) r ≡ Word w ∷ r
word_spells word.None r = refl
word_spells w r = refl

mark_spells : (m : Mark) (r : List Kind) → spelled (class (Sign m)) r ≡ Sign m ∷ r
mark_spells mark.Comma r = refl
mark_spells m r = refl

word_valid : (w : Keyword) → ValidClass (class (Word w))
word_valid word.None = tt
word_valid w = tt

mark_valid : (m : Mark) → ValidClass (class (Sign m))
mark_valid mark.Comma = tt
mark_valid m = tt

mutual
  pub class_spells : (t : Kind) (r : List Kind) → spelled (class t) r ≡ t ∷ r
  class_spells (FString ps) r = format_spelled ps r (parts ps) (λ qs. parts_spell ps qs)
  class_spells (Word w) r = word_spells w r
  class_spells (Sign m) r = mark_spells m r
  class_spells t r = refl

  pub parts_spell : (ps : Pieces) (qs : Parts) → parts ps ≡ Some qs → pieces qs ≡ ps
  parts_spell no_pieces qs h = let same : no_parts ≡ qs = cc in ap pieces (sym same)
  parts_spell (chars_piece x ps) qs h = text_spelled x ps qs (parts ps) (λ rs. parts_spell ps rs) h
  parts_spell (field_piece ks ps) qs h = field_spelled ks ps qs (field_expr (start any) ks) (parts ps) (λ e. field_spells (start any) ks e) (λ rs. parts_spell ps rs) h

  field_spells : (s : State) (ks : Kinds) (e : Expr) → field_expr s ks ≡ Some e → before s (kinds_list ks) ≡ tokens e []
  field_spells s no_kinds e h = ended_spelled s e (step s (t_other End)) (step_reads s (t_other End)) h
  field_spells s (kinds t ts) e h = step_spelled s t ts e (step s (class t)) (λ r. class_spells t r) (λ n. field_spells n ts e) (step_reads s (class t)) h

-- ---- the trees of an f-string are normal

pub start_any : Sound any (start any)
start_any = (omega arith, refl)

pub start_one : Sound one (start one)
start_one = (omega arith, refl)

pub start_target : Sound target (start target)
start_target = (omega arith, refl)

ended_normal : (e : Expr) (o : Out) → Keeps any o → ended_by o ≡ Some e → Normal e
ended_normal e (Next n) keeps h = absurd cc
ended_normal e Stuck keeps h = absurd cc
ended_normal e (Left m) keeps h = let same : m ≡ e = cc in subst Normal same keeps.0

text_normal : (x : Text) (qs : Parts) (o : Option Parts) → ((rs : Parts) → o ≡ Some rs → NormalParts rs) → option_map (λ qs. text x qs) o ≡ Some qs → NormalParts qs
text_normal x qs None normal h = absurd cc
text_normal x qs (Some rs) normal h = let same : text x rs ≡ qs = cc in subst NormalParts same (normal rs refl)

field_normal : (qs : Parts) (o : Option Expr) (p : Option Parts) → ((e : Expr) → o ≡ Some e → Normal e) → ((rs : Parts) → p ≡ Some rs → NormalParts rs) → with_field o p ≡ Some qs → NormalParts qs
field_normal qs None p spell rest h = absurd cc
field_normal qs (Some e) None spell rest h = absurd cc
field_normal qs (Some e) (Some rs) spell rest h = let same : field e rs ≡ qs = cc in subst NormalParts same (spell e refl, rest rs refl)

format_normal : (ps : Pieces) (o : Option Parts) → ((qs : Parts) → o ≡ Some qs → NormalParts qs) → ValidClass (format_class ps o)
format_normal ps None normal = tt
format_normal ps (Some qs) normal = normal qs refl

step_normal : (ts : Kinds) (e : Expr) (o : Out) → ((n : State) → Sound any n → field_expr n ts ≡ Some e → Normal e) → Keeps any o → field_after o ts ≡ Some e → Normal e
step_normal ts e (Next n) rec keeps h = rec n keeps h
step_normal ts e Stuck rec keeps h = absurd cc
step_normal ts e (Left m) rec keeps h = absurd cc

mutual
  pub class_valid : (t : Kind) → ValidClass (class t)
  class_valid (FString ps) = format_normal ps (parts ps) (λ qs. parts_valid ps qs)
  class_valid (Word w) = word_valid w
  class_valid (Sign m) = mark_valid m
  class_valid t = tt

  pub parts_valid : (ps : Pieces) (qs : Parts) → parts ps ≡ Some qs → NormalParts qs
  parts_valid no_pieces qs h = let same : no_parts ≡ qs = cc in subst NormalParts same tt
  parts_valid (chars_piece x ps) qs h = text_normal x qs (parts ps) (λ rs. parts_valid ps rs) h
  parts_valid (field_piece ks ps) qs h = field_normal qs (field_expr (start any) ks) (parts ps) (λ e. field_valid (start any) ks e start_any) (λ rs. parts_valid ps rs) h

  field_valid : (s : State) (ks : Kinds) (e : Expr) → Sound any s → field_expr s ks ≡ Some e → Normal e
  field_valid s no_kinds e sound h = ended_normal e (step s (t_other End)) (step_keeps any s (t_other End) tt sound) h
  field_valid s (kinds t ts) e sound h = step_normal ts e (step s (class t)) (λ n. field_valid n ts e) (step_keeps any s (class t) (class_valid t) sound) h

-- ---- whole runs

abbrev pub outcome : Out → Kind → List Kind → Verdict
outcome o t ts = elim o as (λ (w : Out). Verdict) [ Next n ↦ run n ts | Stuck ↦ Refused (t ∷ ts) | Left e ↦ Leaves e (t ∷ ts) ]

-- What is left is spelled so.
pub run_reads : (s : State) (ts : List Kind) (e : Expr) (rest : List Kind) → run s ts ≡ Leaves e rest → before s ts ≡ tokens e rest
run_reads s [] e rest h = absurd cc
run_reads s (t ∷ ts) e rest h = go (λ next. run_reads next ts e rest) (step s (class t)) (step_reads s (class t)) h
  where
    go : ((next : State) → run next ts ≡ Leaves e rest → before next ts ≡ tokens e rest) → (o : Out) → Reads (class t) (before s) o → outcome o t ts ≡ Leaves e rest → before s (t ∷ ts) ≡ tokens e rest
    go rec (Next next) reads h = ap (before s) (sym (class_spells t ts)) ∙ sym (reads ts) ∙ rec next h
    go rec Stuck reads h = absurd cc
    go rec (Left f) reads h = sym (reads (t ∷ ts)) ∙ cc

-- It is normal and of the form that the goal asks for.
pub run_keeps : (g : Goal) (s : State) (ts : List Kind) (e : Expr) (rest : List Kind) → Sound g s → run s ts ≡ Leaves e rest → Normal e × Meets g e
run_keeps g s [] e rest sound h = absurd cc
run_keeps g s (t ∷ ts) e rest sound h = go (λ next. run_keeps g next ts e rest) (step s (class t)) (step_keeps g s (class t) (class_valid t) sound) h
  where
    go : ((next : State) → Sound g next → run next ts ≡ Leaves e rest → Normal e × Meets g e) → (o : Out) → Keeps g o → outcome o t ts ≡ Leaves e rest → Normal e × Meets g e
    go rec (Next next) keeps h = rec next keeps h
    go rec Stuck keeps h = absurd cc
    go rec (Left f) keeps h = let same : f ≡ e = cc in subst (λ (x : Expr). Normal x × Meets g x) same keeps
