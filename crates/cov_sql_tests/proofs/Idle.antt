-- Bases of no open transaction.
--     idle_none, idle_pushed      no base; bases to which one was pushed, or wasn't
--     idle_by                     a base that tells so has no open transaction
use Rattle.std.proofs.Common.{◌≡◌, Bool, true, false, not, if◌then◌else◌, List, [], ◌∷◌, ◌++◌, All, refl, sym, subst}
use Rattle.std.proofs.lemmas.List.Elements.{All-nil}
use Rattle.cov_sql.specs.Bases.{Base, IsIdle}
use Rattle.cov_sql.proofs.Bases.{idle_more}

pub idle_none : (bases : List Base) → bases ≡ [] → All IsIdle bases
idle_none bases is = subst (All IsIdle) (sym is) (All-nil IsIdle)

pub idle_pushed : (b : Bool) (bases new : List Base) (base : Base) → new ≡ (if b then bases ++ base ∷ [] else bases) → All IsIdle bases → IsIdle base → All IsIdle new
idle_pushed = idle_more

pub idle_by : (r in_transaction : Bool) → r ≡ not in_transaction → r ≡ true → in_transaction ≡ false
idle_by r true is said = absurd cc
idle_by r false is said = refl
