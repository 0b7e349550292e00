-- Bases in memory by name.
--     idle_more      bases of no open transaction, where one may be added
use Rattle.std.proofs.Common.{◌≡◌, Bool, true, false, if◌then◌else◌, List, [], ◌∷◌, ◌++◌, All, sym, subst}
use Rattle.std.proofs.lemmas.List.Elements.{All-push}
use Rattle.cov_sql.specs.Bases.{Base, IsIdle}

pub idle_more : (b : Bool) (bases new : List Base) (base : Base) → new ≡ (if b then bases ++ base ∷ [] else bases) → All IsIdle bases → IsIdle base → All IsIdle new
idle_more true bases new base is h one = subst (All IsIdle) (sym is) (All-push IsIdle bases base h one)
idle_more false bases new base is h one = subst (All IsIdle) (sym is) h
