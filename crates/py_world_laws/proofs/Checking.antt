-- A test of code: where it answers true, the code makes functions as their units ask.
--     are_makers          the test of the units of all modules
--     makers              what it tells
use Rattle.std.proofs.Common.{◌≡◌, ◌<◌, ℕ, zero, suc, ◌+◌, List, [], ◌∷◌, length, Option, Some, None, Bool, true, false, refl, ap, ◌∙◌, subst, arith}
use Rattle.std.specs.Prelude.{slice_get, nat_eq, nat_lt, ◌&&◌}
use Rattle.std.proofs.lemmas.Bool.Decides.{nat_tests}
use Rattle.py_code.specs.declared.instr.Instr.{Instr}
use Rattle.py_code.specs.declared.instr.Instr.TheVariants.{List as MakeList, Function}
use Rattle.py_code.specs.declared.unit.Handler.{Handler}
use Rattle.py_code.specs.Footprints.{Exit, footprint}
use Rattle.py_code.specs.Units.{Code, Module, units_of, handler_of}
use Rattle.py_world_laws.specs.Making.{made_with, defaults_in, LeadElsewhere, IsHanded, MakesAt, MakesFunctions, AreMakers}

-- ---- the test

abbrev is_elsewhere : Option ℕ → Bool
is_elsewhere None = true
is_elsewhere (Some k) = false

abbrev lead_elsewhere : Code → List Exit → Bool
lead_elsewhere u [] = true
lead_elsewhere u (e ∷ es) = is_elsewhere (made_with (slice_get u.instrs e.to)) && lead_elsewhere u es

abbrev is_handed : List Code → ℕ → Option ℕ → Bool
is_handed us n None = true
is_handed us n (Some k) = nat_lt 0 n && nat_eq n (defaults_in (slice_get us k))

abbrev makes_at : List Code → Code → ℕ → Instr → Bool
makes_at us u p (MakeList n) = is_handed us n (made_with (slice_get u.instrs (suc p)))
makes_at us u p (Function k) = nat_eq (defaults_in (slice_get us k)) 0 && lead_elsewhere u (footprint p (Function k)).exits
makes_at us u p i = lead_elsewhere u (footprint p i).exits

-- from a place on
abbrev makes_from : List Code → Code → ℕ → List Instr → Bool
makes_from us u p [] = true
makes_from us u p (i ∷ is) = makes_at us u p i && makes_from us u (suc p) is

abbrev lands_elsewhere : Code → Option Handler → Bool
lands_elsewhere u None = true
lands_elsewhere u (Some h) = is_elsewhere (made_with (slice_get u.instrs h.target))

-- so many places from one on
abbrev lands_from : Code → ℕ → ℕ → Bool
lands_from u p zero = true
lands_from u p (suc n) = lands_elsewhere u (handler_of p u.handlers) && lands_from u (suc p) n

abbrev is_maker : List Code → Code → Bool
is_maker us u = makes_from us u 0 u.instrs && lands_from u 0 (length u.instrs)

abbrev are_all_makers : List Code → List Code → Bool
are_all_makers us [] = true
are_all_makers us (u ∷ vs) = is_maker us u && are_all_makers us vs

abbrev pub are_makers : List Module → Bool
are_makers [] = true
are_makers (m ∷ ms) = are_all_makers m.units m.units && are_makers ms

-- ---- what it tells

both : (a b : Bool) → (a && b) ≡ true → (a ≡ true) × (b ≡ true)
both true b h = (refl, h)
both false b h = absurd cc

elsewhere : (o : Option ℕ) → is_elsewhere o ≡ true → o ≡ None
elsewhere None h = refl
elsewhere (Some k) h = absurd cc

module _ (us : List Code) (u : Code) where
  all_elsewhere : (es : List Exit) → lead_elsewhere u es ≡ true → LeadElsewhere u es
  all_elsewhere [] h = tt
  all_elsewhere (e ∷ es) h = let k = both (is_elsewhere (made_with (slice_get u.instrs e.to))) (lead_elsewhere u es) h in (elsewhere (made_with (slice_get u.instrs e.to)) k.0, all_elsewhere es k.1)

  handed : (n : ℕ) (o : Option ℕ) → is_handed us n o ≡ true → IsHanded us n o
  handed n None h = tt
  handed n (Some k) h =
      let l = both (nat_lt 0 n) (nat_eq n (defaults_in (slice_get us k))) h in
      let first = l.0 in
      let second = l.1 in
      (grind (arith, nat_tests), grind (arith, nat_tests))

  at_place : (p : ℕ) (i : Instr) → makes_at us u p i ≡ true → MakesAt us u p i
  at_place p (MakeList n) h = handed n (made_with (slice_get u.instrs (suc p))) h
  at_place p (Function k) h =
      let l = both (nat_eq (defaults_in (slice_get us k)) 0) (lead_elsewhere u (footprint p (Function k)).exits) h in
      let first = l.0 in
      (grind (arith, nat_tests), all_elsewhere (footprint p (Function k)).exits l.1)
  at_place p i h = all_elsewhere (footprint p i).exits h

  from_place : (p : ℕ) (is : List Instr) → makes_from us u p is ≡ true → (k q : ℕ) (i : Instr) → q ≡ p + k → slice_get is k ≡ Some i → MakesAt us u q i
  from_place p [] h k q i e f = absurd cc
  from_place p (j ∷ is) h zero q i e f =
      let l = both (makes_at us u p j) (makes_from us u (suc p) is) h in
      let same : j ≡ i = cc in
      let here : p ≡ q = omega arith in
      subst (λ n. MakesAt us u n i) here (subst (MakesAt us u p) same (at_place p j l.0))
  from_place p (j ∷ is) h (suc k) q i e f = let l = both (makes_at us u p j) (makes_from us u (suc p) is) h in from_place (suc p) is l.1 k q i (omega arith) f

  landed : (o : Option Handler) (h : Handler) → lands_elsewhere u o ≡ true → o ≡ Some h → made_with (slice_get u.instrs h.target) ≡ None
  landed None h t e = absurd cc
  landed (Some g) h t e = let same : g ≡ h = cc in subst (λ (x : Handler). made_with (slice_get u.instrs x.target) ≡ None) same (elsewhere (made_with (slice_get u.instrs g.target)) t)

  landed_from : (p n : ℕ) → lands_from u p n ≡ true → (k q : ℕ) (h : Handler) → q ≡ p + k → k < n → handler_of q u.handlers ≡ Some h → made_with (slice_get u.instrs h.target) ≡ None
  landed_from p zero t k q h e lt f = absurd (omega arith)
  landed_from p (suc n) t zero q h e lt f =
      let l = both (lands_elsewhere u (handler_of p u.handlers)) (lands_from u (suc p) n) t in
      let here : p ≡ q = omega arith in
      landed (handler_of p u.handlers) h l.0 (ap (λ m. handler_of m u.handlers) here ∙ f)
  landed_from p (suc n) t (suc k) q h e lt f = let l = both (lands_elsewhere u (handler_of p u.handlers)) (lands_from u (suc p) n) t in landed_from (suc p) n l.1 k q h (omega arith) (omega arith) f

  maker : is_maker us u ≡ true → MakesFunctions us u
  maker h =
      let l = both (makes_from us u 0 u.instrs) (lands_from u 0 (length u.instrs)) h in
      record { each = λ p i e. from_place 0 u.instrs l.0 p p i (omega arith) e; handlers = λ p g lt e. landed_from 0 (length u.instrs) l.1 p p g (omega arith) lt e }

one_of : (us vs : List Code) → are_all_makers us vs ≡ true → (k : ℕ) (u : Code) → slice_get vs k ≡ Some u → MakesFunctions us u
one_of us [] h k u e = absurd cc
one_of us (v ∷ vs) h zero u e = let l = both (is_maker us v) (are_all_makers us vs) h in let same : v ≡ u = cc in subst (MakesFunctions us) same (maker us v l.0)
one_of us (v ∷ vs) h (suc k) u e = let l = both (is_maker us v) (are_all_makers us vs) h in one_of us vs l.1 k u e

units_make : (ms : List Module) → are_makers ms ≡ true → (m k : ℕ) (u : Code) → slice_get (units_of (slice_get ms m)) k ≡ Some u → MakesFunctions (units_of (slice_get ms m)) u
units_make [] h m k u e = absurd cc
units_make (x ∷ ms) h zero k u e = let l = both (are_all_makers x.units x.units) (are_makers ms) h in one_of x.units x.units l.0 k u e
units_make (x ∷ ms) h (suc m) k u e = let l = both (are_all_makers x.units x.units) (are_makers ms) h in units_make ms l.1 m k u e

pub makers : (ms : List Module) → are_makers ms ≡ true → AreMakers ms
makers ms h = record { units = λ code u e. units_make ms h code.module code.unit u e }
