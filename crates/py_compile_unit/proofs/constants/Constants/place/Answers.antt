use Rattle.std.proofs.Common.{◌≡◌, true, false, ap, refl, sym, ◌∙◌, map}
use Rattle.py_compile_expr.specs.Cells.{place_in, add_new, is_same_constant}
use Rattle.py_compile_expr.proofs.NumberLaws.{place-shown, added-shown, of_answer}
use Rattle.py_compile_expr.proofs.Turns.{the_number}
use Rattle.py_compile_unit.specs.contracts.keys.KeyPartialEq.TheImpl.{ghosts}
use Rattle.py_compile_unit.specs.declared.keys.Key.{Key}
use Rattle.py_compile_unit.specs.declared.keys.Key.TheVariants as key_
use Rattle.py_compile_unit.specs.Keys.{constant_of}
use Rattle.py_compile_unit.proofs.Numbers.{place_new, constant_is_same}
use Rattle.py_compile_unit.proofs.OwnNames.{text_test}
use Rattle.py_compile_unit.proofs.constants.Constants.place.Goals as goal

keys_agree : (a b : Key) → is_same_constant (constant_of a) (constant_of b) ≡ ghosts.eq a b
keys_agree key_.None key_.None = refl
keys_agree key_.None (key_.Bool b) = refl
keys_agree key_.None (key_.Int n) = refl
keys_agree key_.None (key_.Str y) = refl
keys_agree (key_.Bool a) key_.None = refl
keys_agree (key_.Bool true) (key_.Bool true) = refl
keys_agree (key_.Bool true) (key_.Bool false) = refl
keys_agree (key_.Bool false) (key_.Bool true) = refl
keys_agree (key_.Bool false) (key_.Bool false) = refl
keys_agree (key_.Bool a) (key_.Int n) = refl
keys_agree (key_.Bool a) (key_.Str y) = refl
keys_agree (key_.Int m) key_.None = refl
keys_agree (key_.Int m) (key_.Bool b) = refl
keys_agree (key_.Int m) (key_.Int n) = refl
keys_agree (key_.Int m) (key_.Str y) = refl
keys_agree (key_.Str x) key_.None = refl
keys_agree (key_.Str x) (key_.Bool b) = refl
keys_agree (key_.Str x) (key_.Int n) = refl
keys_agree (key_.Str x) (key_.Str y) = text_test x y

pub returns-clause-place : goal.returns-clause-place
returns-clause-place c =
    the_number c.number.result _ _ c.number.ensures
    (c.in_ok-place.ensures.index
    ∙ sym (place-shown is_same_constant ghosts.eq constant_of keys_agree c.self.inside.all.keys c.in_ok-key.key)
    ∙ ap (λ s. place_in is_same_constant s (constant_of c.in_ok-key.key)) c.self.view_is
    ∙ ap (place_in is_same_constant c.args.self.now) c.in_ok-key.ensures
    ∙ place_new is_same_constant c.args.constant.now (constant_is_same c.args.constant.now) c.args.self.now
    ∙ ap (λ s. place_in is_same_constant s c.args.constant.now)
    (sym (ap (map constant_of) c.in_ok-place.ensures.keys
    ∙ sym (added-shown is_same_constant ghosts.eq constant_of keys_agree c.self.inside.all.keys c.in_ok-key.key)
    ∙ ap (λ s. add_new is_same_constant s (constant_of c.in_ok-key.key)) c.self.view_is ∙ ap (add_new is_same_constant c.args.self.now) c.in_ok-key.ensures)))

pub returns-clause-added : goal.returns-clause-added
returns-clause-added c =
    of_answer c.number.result _
    (ap (map constant_of) c.in_ok-place.ensures.keys
    ∙ sym (added-shown is_same_constant ghosts.eq constant_of keys_agree c.self.inside.all.keys c.in_ok-key.key)
    ∙ ap (λ s. add_new is_same_constant s (constant_of c.in_ok-key.key)) c.self.view_is ∙ ap (add_new is_same_constant c.args.self.now) c.in_ok-key.ensures)
