-- What `?` returns: the error that it was given. Assumes nothing.
use Rattle.kit.proofs.{◌≡◌, refl, Option, None, Some, Result, Ok, Err}
use Rattle.std.specs.Prelude.{IsErrAnd}
use Rattle.std.specs.Option.{ok_or}

pub handed-on : {T E : Type 0} (r : Result T E) (e : E) → IsErrAnd r (λ y. y ≡ e) → r ≡ Err e
handed-on (Ok x) e h = absurd h
handed-on (Err y) e h = cc

-- An error in the place of none.
pub none-told : {A E : Type 0} (x : Option A) (e k : E) → Err k ≡ ok_or x e → x ≡ None
none-told None e k told = refl
none-told (Some a) e k told = cc

pub error-told : {A E : Type 0} (x : Option A) (e k : E) → Err k ≡ ok_or x e → k ≡ e
error-told None e k told = cc
error-told (Some a) e k told = cc
