-- What the contracts of the view's `open` and `ask` say together. Assumes nothing.
use Rattle.kit.proofs.{◌≡◌, sym, ap, ◌∙◌, List, ℕ, ◌<◌, ℤ, Result, Ok, Err}
use denote.Ref.{Bor}
use Rattle.words.specs.declared.{Refusal.Refusal, Refusal.TheVariants.BadPlace}
use Rattle.om3.specs.Document.{passes, refuses, in_order, coefficient_in, opening_checks}
use Rattle.om3.specs.Document.{asking_view, asking}
use Rattle.view.specs.declared.View.{View}
use Rattle.view.specs.View.{view_places, view_of}
use Rattle.view.proofs.Viewed as viewed

-- `open` gave the view v of these bytes, and `ask`, asked for place p of it, answered u.
module _ (bytes : Bor (List ℕ)) (v : View) (opens : v ≡ view_of bytes) (p : ℕ) (u : Result ℤ Refusal)
    (asks : u ≡ asking_view v.bytes.now v.places p) where
  abbrev r : List ℕ
  r = bytes.now

  answer : u ≡ asking_view r (view_places r) p
  answer = asks ∙ ap (λ (x : View). asking_view x.bytes.now x.places p) opens

  -- Of bytes that opening takes the answer is what the record answers when it is opened and asked ..
  pub view-answers : in_order (opening_checks r) ≡ passes → u ≡ asking r p
  view-answers taken = answer ∙ viewed.opened_view r p taken

  -- .. which is the coefficient there for each place that the view has, never 8 ..
  pub view-coefficient : p < v.places → u ≡ Ok (coefficient_in r p)
  view-coefficient below = answer ∙ viewed.view-coefficient r p (rw opens at below)

  -- .. and of bytes that it refuses 13.
  pub view-refuses : (why : Refusal) → in_order (opening_checks r) ≡ refuses why → u ≡ Err BadPlace
  view-refuses why refused = answer ∙ sym (viewed.refused-view r p why refused)
