-- What a check of a call says, several checks in their order, and what a call answers by them. Assumes nothing.
--
--   Check            a check passes, or refuses the call
--   refuse_if b why   the check that refuses by the cause `why` exactly when b is true
--   and_then c next   the check c, and where it passes the check `next`
--   in_order cs       the first check of a list that refuses decides; where all pass, it passes
--   answer_by         what a call answers: `refused why` where its checks refuse by `why`, else `taken`
--   checked_by c      the same of a call that tells nothing more where its checks pass
--   FirstCause       the first check of a list that refuses does so by this cause
use Rattle.std.specs.Prelude.{◌≡◌, Bool, true, false, List, [], ◌∷◌, ◌++◌, Result, Ok, Err}
use Rattle.words.specs.declared.Refusal.{Refusal}

pub data Check : Type 0 where
  passes : Check
  refuses : Refusal → Check

abbrev pub refuse_if : Bool → Refusal → Check
refuse_if true why = refuses why
refuse_if false why = passes

abbrev pub and_then : Check → Check → Check
and_then passes next = next
and_then (refuses why) next = refuses why

unfoldable pub in_order : List Check → Check
in_order [] = passes
in_order (c ∷ cs) = and_then c (in_order cs)

-- A call whose checks pass answers `taken`; one that they refuse answers by its own form of a refusal.
abbrev pub answer_by : {A : Type 0} → (refused : Refusal → A) → Check → (taken : A) → A
answer_by refused passes taken = taken
answer_by refused (refuses why) taken = refused why

-- A call that tells nothing more than that it is taken.
abbrev pub checked_by : Check → Result Unit Refusal
checked_by c = answer_by Err c (Ok tt)

-- The cause `why` is the first of a list: its check refuses, and all before it pass.
pub record FirstCause (cs : List Check) (why : Refusal) : Type 0 where
  pub before : List Check
  pub after : List Check
  pub among : cs ≡ before ++ refuses why ∷ after
  pub passed : in_order before ≡ passes
