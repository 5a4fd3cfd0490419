-- The words of the kit's libraries that the proofs are written with, passed on from one place: whoever wants to know
-- what a symbol means looks here for its home. Definitions and contracts name their homes themselves. Assumes nothing.
--
-- Equality, tests, either and both.
pub use mathlib.Core.Path.{◌≡◌, refl, sym, ◌∙◌, ap, ap₂, subst, fun_ext}
pub use mathlib.Core.Bool.{Bool, true, false, not, ◌&&◌, ◌||◌, cond, and-true, and-false, and_assoc}
pub use mathlib.Core.Logic.{◌↔◌, ◌⊎◌, inl, inr, ⊎_elim}
-- A value or none, and a value or why there is none.
pub use Rattle.std.specs.Prelude.{Option, None, Some, Result, Ok, Err}
-- Lists.
pub use mathlib.Core.List.{List, [], ◌∷◌, ◌++◌, map, foldl, foldr, tail}
pub use mathlib.Core.List.{append-nil, append_assoc, map-append, foldl-append}
unfoldable pub use mathlib.Core.List.{flat_map, flatten}
pub use lib.ListN.{length, get_or, take, drop, set, replicate, get_or-append, get_or-map, take-append-drop}
pub use lib.ListN.{length-append, length-take, length-drop, length-set, length-map, length-replicate, drop_of_length-le}
pub use lib.Seq.{sets, sets-eq, length-sets, ext_get_or, get_or-append-add, append_snoc}
pub use lib.Seq.{take_all, take-length, take_at, take-suc, take-add, take-take, take-append-le, length-take-le}
pub use lib.Seq.{get_or-take, drop_at, drop-cons, drop-drop, drop-length, get_or-drop}
pub use lib.Seq.{set_at, set_out, get_or-set_same, get_or-set_other, take-suc-set}
-- Natural numbers.
pub use Prim.Native.Nat.{ℕ, zero, suc, ◌+◌, ◌-◌, ◌*◌, ◌/◌, ◌%◌, ◌^◌, ◌≤◌, ◌<◌, min, max}
pub use native.Mathlib.Nat.{add-zero, zero-add, suc-add, sub-zero, sub_self, zero-mul, suc-mul, mul_comm, mul_assoc}
pub use native.Mathlib.Nat.{add-mul, mul-add, mul-le-mul, mul-le-mul_left, mul-le-mul_right, pow-suc, two-pow-succ}
pub use native.Mathlib.Nat.{pow-le-pow_right, le_refl, le_trans, le_antisymm, eq-or-lt_of_le, eq-zero-or-pos}
pub use native.Mathlib.Nat.{div-one, div-le_self, div-eq_of_lt, div-mul-le_self, div-div-eq-div-mul, le-div_iff_mul-le}
pub use native.Mathlib.Nat.{mul-div_right, mul-add-div, mul-add-div_right, min-eq_left, min-eq_right}
pub use native.Mathlib.Numerals.{add-one}
pub use native.Mathlib.Decide.{ℕ_discrete}
pub use lib.Pow.{pow_pos, pow-lt, pow_mono, pow-add}
-- Tests of numbers, and the orders that they stand for.
pub use lib.Dec.{eqb, leb, ltb, lit<, T}
pub use borrow.Author.Tests.{eq-eqb, ne_eqb, eqb-true, eqb-false, le-leb, lt-leb, leb-true, leb-false}
pub use borrow.Author.Tests.{lt-ltb, le-ltb, ltb-true, ltb-false, not-true, not-false}
-- Signed numbers, and numbers as a machine holds them.
pub use lib.IntN.{ℤ, pos, negsuc, neg_ℤ, nat_abs, sub_ℕ, ◌+ℤ◌, ◌-ℤ◌, +ℤ_idl}
pub use lib.Signed.{◌≤ℤ◌, ◌<ℤ◌, le_z, lt_z, non_neg, mag}
pub use mir.Syntax.{Width, w32, w64, ty_int, named, erased}
pub use mir.Val.{Val, vint, Fits, SFits, of_z, to_z, bits, hbits, has_ty, WT}
pub use mir.Facts.{to_z_pos, to_z-of_z}
-- What tactics reason with.
pub use native.Mathlib.Omega.{arith}
pub use borrow.Author.Rules.{rules}
