-- A node shares an hour with a column, or lies wholly inside it, exactly if their first hours and ends say so.
-- Assumes nothing.
use Rattle.kit.proofs.{◌≡◌, refl, true, ⊎_elim, ℕ, zero, suc, ◌+◌, ◌≤◌, ◌<◌, arith, leb, ltb, pow_pos, leb-true}
use Rattle.kit.proofs.{ltb-true, le-leb, lt-ltb}
use Rattle.signed.proofs.{clash}
use Rattle.words.specs.declared.Column.{Column}
use Rattle.om3.specs.Document.{up_from, any, every, hour, hours_from, Node, width, start, hours, in_column, shares}
use Rattle.om3.specs.Document.{inside}
use Rattle.laws.proofs.Tests.{and_left, and_right, both_true, or_cases, left-true, right-true, below_or_not}

-- The c hours from f on share an hour with the column.
pub record Overlap (x : Column) (f c : ℕ) : Type 0 where
  pub reaches : x.from.0 < f + c
  pub begins : f < x.upto.0
  pub some : x.from.0 < x.upto.0

-- The c hours from f on are all in the column.
pub record Within (x : Column) (f c : ℕ) : Type 0 where
  pub after : x.from.0 ≤ f
  pub before : f + c ≤ x.upto.0

module _ (x : Column) where
  pub in-column : (f : ℕ) → in_column x (hour f) ≡ true → (x.from.0 ≤ f) × (f < x.upto.0)
  in-column f e =
      let A = leb x.from.0 f in
      let B = ltb f x.upto.0 in
      (leb-true _ _ (and_left A B e), ltb-true _ _ (and_right A B e))

  pub column-in : (f : ℕ) → x.from.0 ≤ f → f < x.upto.0 → in_column x (hour f) ≡ true
  column-in f a b = both_true (le-leb _ _ a) (lt-ltb _ _ b)

  pub any-overlap : (f c : ℕ) → any (in_column x) (hours_from f c) ≡ true → Overlap x f c
  unfolding any up_from
  any-overlap f zero e = clash e
  any-overlap f (suc c) e =
      ⊎_elim
      (λ h.
      let p = in-column f h in
      record { reaches = omega arith; begins = p.1; some = omega arith })
      (λ h.
      let p = any-overlap (f + 1) c h in
      record { reaches = omega (arith, p.reaches); begins = omega (arith, p.begins); some = p.some })
      (or_cases (in_column x (hour f)) (any (in_column x) (hours_from (f + 1) c)) e)

  overlap-any : (f c : ℕ) → 1 ≤ c → Overlap x f c → any (in_column x) (hours_from f c) ≡ true
  unfolding any up_from
  overlap-any f zero one p = absurd (omega arith)
  overlap-any f (suc c) one p =
      ⊎_elim
      (λ h.
      let q : Overlap x (f + 1) c =
      record { reaches = omega (arith, p.reaches); begins = omega (arith, p.some); some = p.some }
      in
      right-true (in_column x (hour f)) (overlap-any (f + 1) c (omega (arith, p.reaches)) q))
      (λ h. left-true (any (in_column x) (hours_from (f + 1) c)) (column-in f h p.begins))
      (below_or_not f x.from.0)

  every-within : (f c : ℕ) → 1 ≤ c → every (in_column x) (hours_from f c) ≡ true → Within x f c
  unfolding every up_from
  every-within f zero one e = absurd (omega arith)
  every-within f (suc c) one e =
      let E = every (in_column x) (hours_from (f + 1) c) in
      let p = in-column f (and_left (in_column x (hour f)) E e) in
      record {
        after = p.0;
        before =
            ⊎_elim (λ h. omega (arith, p.1))
            (λ h. omega (arith, (every-within (f + 1) c h (and_right (in_column x (hour f)) E e)).before))
            (below_or_not c 1);
      }

  pub within-every : (f c : ℕ) → Within x f c → every (in_column x) (hours_from f c) ≡ true
  unfolding every up_from
  within-every f zero p = refl
  within-every f (suc c) p =
      let q : Within x (f + 1) c = record { after = omega (arith, p.after); before = omega (arith, p.before) } in
      both_true (column-in f p.after (omega (arith, p.before))) (within-every (f + 1) c q)

module _ (l : ℕ) (x : Column) (v : Node) where
  pub width_some : 1 ≤ width l v
  unfolding width
  width_some = pow_pos _

  pub shares-overlap : shares l x v ≡ true → Overlap x (start l v) (width l v)
  unfolding shares hours
  shares-overlap e = any-overlap x (start l v) (width l v) e

  pub overlap-shares : Overlap x (start l v) (width l v) → shares l x v ≡ true
  unfolding shares hours
  overlap-shares p = overlap-any x (start l v) (width l v) width_some p

  pub inside-within : inside l x v ≡ true → Within x (start l v) (width l v)
  unfolding inside hours
  inside-within e = every-within x (start l v) (width l v) width_some e

  pub within-inside : Within x (start l v) (width l v) → inside l x v ≡ true
  unfolding inside hours
  within-inside p = within-every x (start l v) (width l v) p

  -- A node wholly inside shares its hours.
  pub inside-shares : inside l x v ≡ true → shares l x v ≡ true
  inside-shares e =
      let w = inside-within e in
      let s = width_some in
      overlap-shares (record { reaches = omega arith; begins = omega arith; some = omega arith })
