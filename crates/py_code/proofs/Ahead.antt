-- A move of valid units leads nearer to the end, and the run goes on from there.
use Rattle.std.proofs.Common.{◌≡◌, ℕ, zero, suc, ◌+◌, ◌-◌, ◌*◌, ◌<◌, ◌≤◌, List, [], ◌∷◌, length, Option, Some, None, Bool, true, false, refl, ap, subst, arith, inl, inr, ⊎_elim}
use Rattle.std.specs.Prelude.{◌⊎◌, max, slice_get, if◌then◌else◌}
use Rattle.std.proofs.lemmas.Bool.{cases_lt}
use Rattle.cov_event.specs.declared.event.CodeId.{CodeId}
use Rattle.py_code.specs.Configurations.{Locals, Configuration, Next}
use Rattle.py_code.specs.Machine.{move, machine, rank, callers_rank}
use Rattle.py_code.specs.Run.{Goes, Ticks, Ends, go}
use Rattle.py_code.specs.Units.{Code, Module, units_of, unit_at, places_in, places_of}
use Rattle.py_code.specs.Valid.{marks_at, AreValid}
use Rattle.py_code.proofs.Never.{moves, Halts, move_halts}
use Rattle.py_code.proofs.Standing.{Fine, Stands, MarksIn}
use Rattle.py_code.proofs.Steps.{goes, ticks, back_ticks, back_ends}

-- the most instructions of a unit
abbrev pub longest_of : List Code → ℕ
longest_of [] = 0
longest_of (u ∷ us) = max (length u.instrs) (longest_of us)

abbrev pub longest : List Module → ℕ
longest [] = 0
longest (m ∷ ms) = max (longest_of m.units) (longest ms)

unit_fits : (us : List Code) (k : ℕ) → length (places_in (slice_get us k)) ≤ longest_of us
unit_fits [] k = omega arith
unit_fits (u ∷ us) zero = omega arith
unit_fits (u ∷ us) (suc k) = let h = unit_fits us k in omega arith

module_fits : (ms : List Module) (m k : ℕ) → length (places_in (slice_get (units_of (slice_get ms m)) k)) ≤ longest ms
module_fits [] m k = omega arith
module_fits (x ∷ xs) zero k = let h = unit_fits x.units k in omega arith
module_fits (x ∷ xs) (suc m) k = let h = module_fits xs m k in omega arith

fits : (ms : List Module) (code : CodeId) → length (places_of ms code) ≤ longest ms
fits ms code = module_fits ms code.module code.unit

abbrev unless_mark : Bool → ℕ → ℕ
unless_mark true n = 0
unless_mark false n = n

module _ {L : Type 0} (locals : Locals L) (ms : List Module) where
  abbrev at_mark : Configuration L → Bool
  at_mark c = marks_at (slice_get (places_of ms c.top.code) c.top.place)

  abbrev left_in : Configuration L → ℕ
  left_in c = suc (length (places_of ms c.top.code) - c.top.place)

  -- how far it is to the end
  abbrev pub distance : Configuration L → ℕ
  distance c = c.steps * (2 * longest ms + 4) + callers_rank locals ms c.callers + unless_mark (at_mark c) (left_in c)

  no_more : (b : Bool) (n : ℕ) → unless_mark b n ≤ n
  no_more true n = omega arith
  no_more false n = omega arith

  nearer_ahead : (c d : Configuration L) → c.steps ≡ d.steps → at_mark c ≡ false → rank locals ms d < rank locals ms c → distance d < distance c
  nearer_ahead c d same n lt =
      let p = no_more (at_mark d) (left_in d) in
      let q : unless_mark (at_mark c) (left_in c) ≡ left_in c = ap (λ b. unless_mark b (left_in c)) n in
      let k : c.steps * (2 * longest ms + 4) ≡ d.steps * (2 * longest ms + 4) = ap (λ x. x * (2 * longest ms + 4)) same in
      omega arith

  nearer_back : (c d : Configuration L) → c.steps ≡ d.steps → at_mark c ≡ false → at_mark d ≡ true → callers_rank locals ms d.callers ≡ callers_rank locals ms c.callers → distance d < distance c
  nearer_back c d same n m r =
      let p : unless_mark (at_mark d) (left_in d) ≡ 0 = ap (λ b. unless_mark b (left_in d)) m in
      let q : unless_mark (at_mark c) (left_in c) ≡ left_in c = ap (λ b. unless_mark b (left_in c)) n in
      let k : c.steps * (2 * longest ms + 4) ≡ d.steps * (2 * longest ms + 4) = ap (λ x. x * (2 * longest ms + 4)) same in
      omega arith

  nearer_step : (c d : Configuration L) → c.steps ≡ suc d.steps → callers_rank locals ms d.callers ≤ callers_rank locals ms c.callers + suc (length (places_of ms c.top.code)) → distance d < distance c
  nearer_step c d same le =
      let p = no_more (at_mark d) (left_in d) in
      let here = fits ms c.top.code in
      let there = fits ms d.top.code in
      let k : c.steps * (2 * longest ms + 4) ≡ suc d.steps * (2 * longest ms + 4) = ap (λ x. x * (2 * longest ms + 4)) same in
      omega arith

module _ {L : Type 0} (locals : Locals L) (ms : List Module) (depths : CodeId → List ℕ) (valid : AreValid ms depths) where
  -- the run is the same from both, and shorter from the second
  pub record LeadsTo (c d : Configuration L) : Type 0 where
    pub stands : Stands locals ms depths valid d
    pub same : go (machine locals ms) c ≡ go (machine locals ms) d
    pub nearer : distance locals ms d < distance locals ms c

  no_mark : (c d : Configuration L) → move locals ms c ≡ Goes d → at_mark locals ms c ≡ false
  no_mark c d e = by_case (at_mark locals ms c) refl
    where
      by_case : (b : Bool) → at_mark locals ms c ≡ b → at_mark locals ms c ≡ false
      by_case true m = absurd (subst (λ n. Halts locals ms depths valid n) e (move_halts locals ms depths valid c m))
      by_case false m = m

  ahead : (c d : Configuration L) → Stands locals ms depths valid d → move locals ms c ≡ Goes d → c.steps ≡ d.steps → rank locals ms d < rank locals ms c → LeadsTo c d
  ahead c d s e same lt = record {
    stands = s;
    same = goes (machine locals ms) c d e lt same;
    nearer = nearer_ahead locals ms c d same (no_mark c d e) lt;
  }

  back : (c d : Configuration L) → Stands locals ms depths valid d → move locals ms c ≡ Goes d → c.steps ≡ d.steps → MarksIn locals ms depths valid d.top
      → callers_rank locals ms d.callers ≡ callers_rank locals ms c.callers → LeadsTo c d
  back c d s e same m r =
      ⊎_elim (λ lt. ahead c d s e same lt) (λ le. by_move (move locals ms d) refl (move_halts locals ms depths valid d m) le) (cases_lt (rank locals ms d) (rank locals ms c))
    where
      by_move : (v : Next L) → move locals ms d ≡ v → Halts locals ms depths valid v → rank locals ms c ≤ rank locals ms d → LeadsTo c d
      by_move (Goes t) f h le = absurd h
      by_move (Ticks t) f h le = record {
        stands = s;
        same = back_ticks (machine locals ms) c d t e le same f;
        nearer = nearer_back locals ms c d same (no_mark c d e) m r;
      }
      by_move (Ends r2) f h le = record {
        stands = s;
        same = back_ends (machine locals ms) c d r2 e le f;
        nearer = nearer_back locals ms c d same (no_mark c d e) m r;
      }

  pub goes_on : (c d : Configuration L) → Stands locals ms depths valid c → move locals ms c ≡ Goes d → LeadsTo c d
  goes_on c d s e =
      let f = (subst (λ n. Fine locals ms depths valid c n) e (moves locals ms depths valid c s)).holds in
      ⊎_elim (λ lt. ahead c d f.0 e f.1 lt) (λ m. back c d f.0 e f.1 m.0 m.1) f.2

  pub ticks_on : (c d : Configuration L) → Stands locals ms depths valid c → move locals ms c ≡ Ticks d → LeadsTo c d
  ticks_on c d s e =
      let f = (subst (λ n. Fine locals ms depths valid c n) e (moves locals ms depths valid c s)).holds in
      record {
        stands = f.0;
        same = ticks (machine locals ms) c d e f.1;
        nearer = nearer_step locals ms c d f.1 f.2;
      }
