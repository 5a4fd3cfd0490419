-- A call that asks nothing and promises one fact, in the kit's own terms: of the clauses that it reads from the source
-- of the call, and of the routine that the call's name means where it has the call's code. Each crate says of its
-- public calls that they are such calls, and which fact each promises (proofs/Clauses). Assumes nothing.
--
--   Promise T            a fact about a call's arguments, its answer, and its parameters as it leaves them; T is how
--                        the kit reads the call's parameters and its answer
--   plain T 𝓤 promise    the contract without a ghost value that asks nothing and promises that fact
--   Result T B           what a call gives: its answer, and of its parameters, as it leaves them, the lent buffers
--   Call T c code name promise result
--                        the clauses c of the call are that contract, the routine of its name meets it wherever that
--                        name has its code, and it gives one result
--   second, third, ..    the parameter at that place
use mathlib.Core.{Path.◌≡◌}
use Rattle.std.specs.Prelude.{List, [], ◌∷◌}
use seplogic.Ra.Ura.{Ura}
use base.Logic.{SProp}
use mir.Syntax.{Callee}
use prog.{Memory.Memory, Model.Model, Routine.Routine, Wired.Code, Wired.Wired}
use types.Logic.{Logic}
use contract.{Lifetimes.Lfts, Monad.Fun, Monad.fact, Notation.connectives, Running.Running}
use denote.{RattleType.RattleType, RattleType.Denots, Signature.types_at}
use denote.Triple.{Entry.Res, Spec.Meets}
use denote.Triple.Clauses.{Ended, AtExit, Clauses, closing}

-- A function of some values, one after the other, and what it is at all of them.
abbrev Over : List RattleType → Type 1 → Type 1
Over [] Z = Z
Over (T ∷ Ts) Z = T.Denot → Over Ts Z

abbrev at : {Z : Type 1} (Ts : List RattleType) → Over Ts Z → Denots Ts → Z
at [] f a = f
at (T ∷ Ts) f a = at Ts (f a.0) a.1

abbrev pub second : {A B C : Type 0} → A × (B × C) → B
second e = e.1.0

abbrev pub third : {A B C D : Type 0} → A × (B × (C × D)) → C
third e = e.1.1.0

abbrev pub fourth : {A B C D E : Type 0} → A × (B × (C × (D × E))) → D
fourth e = e.1.1.1.0

abbrev pub fifth : {A B C D E F : Type 0} → A × (B × (C × (D × (E × F)))) → E
fifth e = e.1.1.1.1.0

module _ (T : Ended) where
  -- The lifetimes κs of what is lent come first, then the arguments one by one, the answer, and the parameters.
  abbrev pub Promise : Type 1
  Promise = (κs : Lfts T.signature.lifetimes)
      → Over (types_at T.signature.params κs) (Res T.signature κs → AtExit T κs → Type 0)

  -- The fact at given arguments, answer and parameters.
  abbrev pub promised : Promise → (κs : Lfts T.signature.lifetimes) → Denots (types_at T.signature.params κs)
      → Res T.signature κs → AtExit T κs → Type 0
  promised promise κs = at (types_at T.signature.params κs) (promise κs)

  abbrev pub plain : {M : Type 1} (𝓤 : Ura M) → Promise → Clauses 𝓤 T
  plain 𝓤 promise κs a = record {
    ghost = Unit {0};
    requires = λ g. (connectives 𝓤).⊤ₛ;
    ensures = λ g r e. fact 𝓤 (promised promise κs a r e);
  }

  -- The clauses of a call as the kit reads them.
  abbrev pub Written : Type 2
  Written = (M : Type 1) (𝓤 : Ura M) (𝓛 : Logic 𝓤) → (Memory → SProp 𝓤) → (Routine → Fun 𝓤) → Clauses 𝓤 T

  abbrev pub Result : Type 0 → Type 0
  Result B = (κs : Lfts T.signature.lifetimes) → Res T.signature κs → AtExit T κs → B

  -- In every model of the kit's logic the clauses are that contract, and wherever the call's name has its code, what
  -- the name means meets it; and two results that the contract allows are the same.
  pub record Call (written : Written) (code : Code) (name : Callee) (promise : Promise) {B : Type 0} (result : Result B)
      : Type 2 where
    pub clauses : {M : Type 1} {𝓤 : Ura M} (𝓛 : Logic 𝓤) (mem : Memory → SProp 𝓤)
        (run : Routine → Fun 𝓤) → written M 𝓤 𝓛 mem run ≡ plain 𝓤 promise
    pub meets : {M : Type 1} (𝓤 : Ura M) (𝓛 : Logic 𝓤) (𝓜 : Model 𝓤 𝓛.H) (𝓡 : Running 𝓤 𝓛.H 𝓜) → Wired 𝓡.env code
        → Meets 𝓛 T.signature (𝓡.run (𝓡.env name)) (closing 𝓛 T (plain 𝓤 promise))
    pub one : (κs : Lfts T.signature.lifetimes) (a : Denots (types_at T.signature.params κs))
        (r r' : Res T.signature κs) (e e' : AtExit T κs) → promised promise κs a r e
        → promised promise κs a r' e' → result κs r e ≡ result κs r' e'
