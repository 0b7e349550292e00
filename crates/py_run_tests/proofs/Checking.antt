-- What the checks of units show.
use Rattle.std.proofs.Common.{◌≡◌, ℕ, inl, inr, true, zero, suc, ◌+◌, ◌-◌, ◌<◌, ◌≤◌, List, [], ◌∷◌, length, map, Option, Some, None, refl, sym, ap, ◌∙◌, subst, arith}
use Rattle.std.specs.Prelude.{slice_get}
use Rattle.std.proofs.lemmas.List.{length-map}
use Rattle.std.proofs.lemmas.Option.{slice_get_within, same_Some}
use Rattle.py_code.specs.declared.instr.Instr.{Instr}
use Rattle.py_code.specs.declared.unit.Handler.{Handler}
use Rattle.py_code.specs.declared.unit.Unit.{Unit as RawUnit}
use Rattle.py_code.specs.Footprints.{quiet, risky, forked, risky_fork, exit, ways, footprint}
use Rattle.py_code.specs.Units.{Code, plain_unit, handler_of}
use Rattle.py_code.specs.Valid.{most_units, HasNumbers, marks_at, Leads, Lands, LandsAt, FitsAt, IsHandler, IsValid, IsCode}
use Rattle.py_run_tests.specs.Checked.{Flows, AllFit, AllStand, AllHaveDepths}

pub one_on : (n : ℕ) → n + 1 ≡ suc n
one_on n = omega arith

-- what holds of one number more
pub one_more : (P : ℕ → Type 0) (k : ℕ) → ((m : ℕ) → m < k → P m) → P k → (m : ℕ) → m < k + 1 → P m
one_more P k earlier here m lt = by_case (m - k) refl (k - m) refl
  where
    by_case : (a : ℕ) → m - k ≡ a → (b : ℕ) → k - m ≡ b → P m
    by_case a e (suc b) f = earlier m (omega arith)
    by_case a e zero f = let same : k ≡ m = omega arith in subst P same here

module _ (u : Code) (depths : List ℕ) (p depth : ℕ) where
  pub falls_flow : (takes leaves : ℕ) → takes ≤ depth → Leads u depths p (p + 1) (leaves + (depth - takes)) → Flows u depths p depth (quiet p takes leaves)
  falls_flow takes leaves le l = record { enough = le; leads = (subst (λ q. Leads u depths p q (leaves + (depth - takes))) (one_on p) l, tt); lands = tt }

  pub risks_flow : (takes leaves : ℕ) → takes ≤ depth → LandsAt depths p (depth - takes) (handler_of p u.handlers) → Leads u depths p (p + 1) (leaves + (depth - takes)) → Flows u depths p depth (risky p takes leaves)
  risks_flow takes leaves le h l = record { enough = le; leads = (subst (λ q. Leads u depths p q (leaves + (depth - takes))) (one_on p) l, tt); lands = h }

  pub jumps_flow : (takes to leaves : ℕ) → takes ≤ depth → Leads u depths p to (leaves + (depth - takes)) → Flows u depths p depth (forked takes (exit to leaves ∷ []))
  jumps_flow takes to leaves le l = record { enough = le; leads = (l, tt); lands = tt }

  pub forks_flow : (to : ℕ) → 1 ≤ depth → Leads u depths p (p + 1) (0 + (depth - 1)) → Leads u depths p to (0 + (depth - 1)) → Flows u depths p depth (forked 1 (exit (suc p) 0 ∷ exit to 0 ∷ []))
  forks_flow to le l m = record { enough = le; leads = (subst (λ q. Leads u depths p q (0 + (depth - 1))) (one_on p) l, (m, tt)); lands = tt }

  pub walks_flow : (to : ℕ) → 1 ≤ depth → LandsAt depths p (depth - 1) (handler_of p u.handlers) → Leads u depths p (p + 1) (2 + (depth - 1)) → Leads u depths p to (0 + (depth - 1)) → Flows u depths p depth (risky_fork 1 (exit (suc p) 2 ∷ exit to 0 ∷ []))
  walks_flow to le h l m = record { enough = le; leads = (subst (λ q. Leads u depths p q (2 + (depth - 1))) (one_on p) l, (m, tt)); lands = h }

  pub settles_flow : 1 ≤ depth → LandsAt depths p (depth - 1) (handler_of p u.handlers) → Leads u depths p (4 + p) (0 + (depth - 1)) → Leads u depths p (1 + p) (0 + (depth - 1)) → Leads u depths p (2 + p) (0 + (depth - 1)) → Leads u depths p (3 + p) (1 + (depth - 1)) → Flows u depths p depth (risky_fork 1 (ways p))
  settles_flow le h a b d e = record { enough = le; leads = (a, (b, (d, (e, tt)))); lands = h }

  pub ends_flow : 1 ≤ depth → Flows u depths p depth (forked 1 [])
  ends_flow le = record { enough = le; leads = tt; lands = tt }

  pub raises_flow : 1 ≤ depth → LandsAt depths p (depth - 1) (handler_of p u.handlers) → Flows u depths p depth (risky_fork 1 [])
  raises_flow le h = record { enough = le; leads = tt; lands = h }

  pub fits_of : (units : ℕ) (i : Instr) → HasNumbers u units i → Flows u depths p depth (footprint p i) → FitsAt u units depths p depth i
  fits_of units i n f = record { numbers = n; enough = f.enough; leads = f.leads; lands = f.lands }

pub leads_ahead : (u : Code) (depths : List ℕ) (p to depth : ℕ) → slice_get depths to ≡ Some depth → p < to → Leads u depths p to depth
leads_ahead u depths p to depth at lt = record { stands = at; ahead = inl lt }

pub leads_back : (u : Code) (depths : List ℕ) (p to depth : ℕ) → slice_get depths to ≡ Some depth → marks_at (slice_get u.instrs to) ≡ true → Leads u depths p to depth
leads_back u depths p to depth at marks = record { stands = at; ahead = inr marks }

pub lands_of : (depths : List ℕ) (p rest : ℕ) (h : Handler) → h.depth ≤ rest → p < h.target → slice_get depths h.target ≡ Some (h.depth + 1) → Lands depths p rest h
lands_of depths p rest h le lt at = record { enough = le; stands = at ∙ ap (λ n. Some n) (one_on h.depth); ahead = lt }

pub handler_of_unit : (u : Code) (depths : List ℕ) (h : Handler) → h.from ≤ h.to → h.to ≤ length u.instrs → h.to ≤ h.target → slice_get depths h.target ≡ Some (h.depth + 1) → IsHandler u depths h
handler_of_unit u depths h ordered le after at = record { ordered = ordered; inside = le; after = after; stands = at ∙ ap (λ n. Some n) (one_on h.depth) }

pub valid_of : (u : Code) (units : ℕ) (depths : List ℕ) → length depths ≡ length u.instrs → slice_get depths 0 ≡ Some 0 → AllFit u units depths (length u.instrs) → AllStand u depths (length u.handlers) → IsValid u units depths
valid_of u units depths long begins fit stand = record {
  table = record {
    each = λ n h at. (stand n (slice_get_within u.handlers n h at)).0 h at;
    nested = λ m n h k a b. (stand m (slice_get_within u.handlers m h a)).1 h a n (slice_get_within u.handlers n k b) k b;
  };
  begins = begins;
  long = long;
  fits = λ p depth i d e. fit p (slice_get_within u.instrs p i e) depth i d e;
}

-- units that all have numbers of operands are a code
module _ (us : List Code) (all : AllHaveDepths us (length us)) where
  chosen : (k : ℕ) (o : Option Code) → slice_get us k ≡ o → List ℕ
  chosen k None e = []
  chosen k (Some u) e = (all k (slice_get_within us k u e) u e).0

  valid_there : (k : ℕ) (o : Option Code) (e : slice_get us k ≡ o) (u : Code) → o ≡ Some u → IsValid u (length us) (chosen k o e)
  unfolding chosen
  valid_there k None e u h = absurd cc
  valid_there k (Some v) e u h = subst (λ x. IsValid x (length us) (chosen k (Some v) e)) (same_Some v u h) (all k (slice_get_within us k v e) v e).1

  pub is_code : 0 < length us → length us ≤ most_units → IsCode us
  is_code body few = ((λ k. chosen k (slice_get us k) refl), record { units = λ k u at. valid_there k (slice_get us k) refl u at; body = body; few = few })

pub code_by : (us : List RawUnit) → AllHaveDepths (map plain_unit us) (length us) → 0 < length us → length us ≤ most_units → IsCode (map plain_unit us)
code_by us all some few = is_code (map plain_unit us) (subst (AllHaveDepths (map plain_unit us)) (sym (length-map us plain_unit)) all) (omega (arith, some, length-map us plain_unit)) (omega (arith, few, length-map us plain_unit))
