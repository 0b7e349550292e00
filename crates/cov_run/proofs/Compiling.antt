-- Programs beside their trees, and one more.
use Rattle.std.proofs.Common.{◌≡◌, Ok, suc, ◌<◌, ◌≤◌, List, [], ◌∷◌, ◌++◌, map, length, refl, sym, ap, ◌∙◌, subst, arith, encode_utf8_all}
use Rattle.std.specs.Prelude.{string_bytes}
use Rattle.std.proofs.lemmas.List.{map-append, length-map}
use Rattle.py_code.specs.declared.code.Program.{Program}
use Rattle.py_code.specs.Loaded.{module_of, modules_of}
use Rattle.py_code.specs.Units.{Module as CodeModule}
use Rattle.py_compile.specs.ProgramRuns.{AreFaithful, HasUnits}
use Rattle.py_meaning.specs.Modules.{LoadedModule}
use Rattle.py_scope.specs.Faults.{IsWellFormed}
use Rattle.py_syntax.specs.declared.stmt.Module.{Module}
use Rattle.py_compile_laws.specs.Traces.{AreWellFormed}
use Rattle.py_syntax.specs.Tree.{Text}
use Rattle.cov_run.specs.declared.programs.Loaded.{Loaded}
use Rattle.cov_run.specs.Loading.{most_modules}
use Rattle.cov_run.specs.Loads.{Loads, IsCompiled, loaded_module, loaded_modules, loaded_pairs, HavePaths}
use Rattle.cov_run.proofs.Telling.{Moves}

pairs-more : (ps : List Program) (ms : List Module) (p : Program) (m : Module) → length ms ≡ length ps → loaded_pairs (ps ++ p ∷ []) (ms ++ m ∷ []) ≡ loaded_pairs ps ms ++ loaded_module p m ∷ []
pairs-more [] [] p m h = refl
pairs-more [] (n ∷ ms) p m h = absurd (omega (arith, h))
pairs-more (q ∷ ps) [] p m h = absurd (omega (arith, h))
pairs-more (q ∷ ps) (n ∷ ms) p m h = ap (λ t. loaded_module q n ∷ t) (pairs-more ps ms p m (omega (arith, h)))

faithful-more : (cs : List CodeModule) (ms : List LoadedModule) (c : CodeModule) (m : LoadedModule) → AreFaithful cs ms → c.name ≡ m.name → HasUnits m.body c.units → AreFaithful (cs ++ c ∷ []) (ms ++ m ∷ [])
faithful-more [] [] c m h e u = (e, u, tt)
faithful-more [] (l ∷ ms) c m h e u = absurd h
faithful-more (d ∷ cs) [] c m h e u = absurd h
faithful-more (d ∷ cs) (l ∷ ms) c m h e u = (h.0, h.1, faithful-more cs ms c m h.2 e u)

well-more : (ms : List LoadedModule) (m : LoadedModule) → AreWellFormed ms → IsWellFormed m.body → AreWellFormed (ms ++ m ∷ [])
well-more [] m h w = (w, tt)
well-more (l ∷ ms) m h w = (h.0, well-more ms m h.1 w)

paths-more : (ps : List Program) (ms : List LoadedModule) (p : Program) (m : LoadedModule) → HavePaths ps ms → string_bytes p.path ≡ encode_utf8_all m.path → HavePaths (ps ++ p ∷ []) (ms ++ m ∷ [])
paths-more [] [] p m h e = (e, tt)
paths-more [] (l ∷ ms) p m h e = absurd h
paths-more (q ∷ ps) [] p m h e = absurd h
paths-more (q ∷ ps) (l ∷ ms) p m h e = (h.0, paths-more ps ms p m h.1 e)

-- programs, their trees and the modules that they stand for
pub record AreBeside (ps : List Program) (ms : List Module) (ls : List LoadedModule) : Type 0 where
  pub beside : length ms ≡ length ps
  pub same : loaded_pairs ps ms ≡ ls
  pub faithful : AreFaithful (map module_of ps) ls
  pub well_formed : AreWellFormed ls
  pub paths : HavePaths ps ls

pub beside-same : (ps ps' : List Program) (ms ms' : List Module) (ls ls' : List LoadedModule) → ps' ≡ ps → ms' ≡ ms → ls' ≡ ls → AreBeside ps ms ls → AreBeside ps' ms' ls'
beside-same ps ps' ms ms' ls ls' e f k h =
    subst (AreBeside ps' ms') (sym k) (subst (λ ns. AreBeside ps' ns ls) (sym f) (subst (λ qs. AreBeside qs ms ls) (sym e) h))

pub beside-more : (ps : List Program) (ms : List Module) (ls : List LoadedModule) (p : Program) (m : Module) (l : LoadedModule) → AreBeside ps ms ls → loaded_module p m ≡ l → HasUnits l.body p.code → IsWellFormed l.body → string_bytes p.path ≡ encode_utf8_all l.path
    → AreBeside (ps ++ p ∷ []) (ms ++ m ∷ []) (ls ++ l ∷ [])
beside-more ps ms ls p m l h is units well path = record {
  beside = one_more ms ps m p h.beside;
  same = pairs-more ps ms p m h.beside ∙ ap (λ t. t ++ loaded_module p m ∷ []) h.same ∙ ap (λ (k : LoadedModule). ls ++ k ∷ []) is;
  faithful = subst (λ cs. AreFaithful cs (ls ++ l ∷ [])) (sym (map-append module_of ps (p ∷ []))) (faithful-more (map module_of ps) ls (module_of p) l h.faithful (ap (λ (k : LoadedModule). k.name) is) units);
  well_formed = well-more ls l h.well_formed well;
  paths = paths-more ps ls p l h.paths path;
}
  where
    one_more : (ms : List Module) (ps : List Program) (m : Module) (p : Program) → length ms ≡ length ps → length (ms ++ m ∷ []) ≡ length (ps ++ p ∷ [])
    one_more [] [] m p h = refl
    one_more [] (q ∷ ps) m p h = absurd (omega (arith, h))
    one_more (n ∷ ms) [] m p h = absurd (omega (arith, h))
    one_more (n ∷ ms) (q ∷ ps) m p h = ap suc (one_more ms ps m p (omega (arith, h)))

-- how many there are
pub pairs-length : (ps : List Program) (ms : List Module) → length ms ≡ length ps → length (loaded_pairs ps ms) ≡ length ps
pairs-length [] [] h = refl
pairs-length [] (n ∷ ms) h = absurd (omega (arith, h))
pairs-length (q ∷ ps) [] h = absurd (omega (arith, h))
pairs-length (q ∷ ps) (n ∷ ms) h = ap suc (pairs-length ps ms (omega (arith, h)))

-- the code of the modules that loading came to
pub compiled-code : {H : Type 0} (moves : Moves H) (old new : H) (script name : Text) (ls : List LoadedModule) (l : Loaded) → Loads moves old script name (Ok ls) new → loaded_modules l ≡ ls → length l.modules.items ≡ length l.programs.modules.items
    → AreFaithful (modules_of l.programs) ls → AreWellFormed ls → HavePaths l.programs.modules.items (loaded_modules l) → IsCompiled l
compiled-code moves old new script name ls l h same beside faithful well paths =
    let told = (h.comes h.some.0 h.some.1).0 in
    let some : 0 < length ls = told.some in
    let few : length ls ≤ most_modules = told.loaded.few in
    let long : length (loaded_modules l) ≡ length l.programs.modules.items = pairs-length l.programs.modules.items l.modules.items beside in
    let are : length (modules_of l.programs) ≡ length l.programs.modules.items = length-map l.programs.modules.items module_of in
    let all : length (loaded_modules l) ≡ length ls = ap length same in
    record {
      faithful = subst (AreFaithful (modules_of l.programs)) (sym same) faithful;
      well_formed = subst AreWellFormed (sym same) well;
      some = omega arith;
      few = omega arith;
      beside = beside;
      paths = paths;
    }
