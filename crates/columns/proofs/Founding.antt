-- The walks from the first and from the last inner node, for each of their answers. Assumes nothing.
use Rattle.kit.proofs.{◌≡◌, refl, sym, List, ℕ, ◌+◌, ◌-◌, arith, ℤ, Err, Ok, Option, Result, Some}
use Rattle.words.specs.declared.Refusal.{Refusal}
use Rattle.words.specs.declared.Summary.{Summary}
use Rattle.words.specs.Said.{finished_as}
use Rattle.walking.specs.Walking.{walked_as, WalkedFrom}
use Rattle.words.specs.{low_of, high_of}
use Rattle.words.specs.declared.{Finished.Finished, NodeId.NodeId, Range.Range, Reading.Reading}
use Rattle.stepping.specs.declared.Reached.{Reached}
use Rattle.walking.specs.declared.{Walked.Walked, Towards.Towards}
use Rattle.columns.specs.Drawing.{Answers, FoundFrom}
use Rattle.columns.proofs.Finishing.{RefusedBy, answer_same, refused-small}

module _ (n : ℕ) (cs : List ℤ) (ks : List ℕ) (range : Option Range) (first last : Reached) (count : ℕ) where
  abbrev Found : Result Finished Refusal → Type 0
  Found r = FoundFrom n cs ks range first last count r

  pub first-unsound : (r : Result Walked NodeId) → WalkedFrom n cs ks Towards.First 0 first r → (why : Refusal)
      → RefusedBy r why → Found (Err why)
  first-unsound (Ok walk) F why told = absurd told
  first-unsound (Err i) F why told =
      record { answers = refused-small; answer = λ l u v p q. rw (told, sym (F.walks l u p).examined) }

  module _ (reading : Reading) (m : ℕ)
      (F : WalkedFrom n cs ks Towards.First 0 first (walked_as reading m)) where
    pub last-unsound : (r : Result Walked NodeId) → WalkedFrom n cs ks Towards.Last 0 last r → (why : Refusal)
        → RefusedBy r why → Found (Err why)
    last-unsound (Ok walk) L why told = absurd told
    last-unsound (Err i) L why told =
        record {
          answers = refused-small;
          answer = λ l u v p q. rw (told, sym (F.walks l u p).examined, sym (L.walks l v q).examined);
        }

    module _ (latest : Reading) (k : ℕ)
        (L : WalkedFrom n cs ks Towards.Last 0 last (walked_as latest k)) where
      abbrev summary : Option Summary
      summary = Some (record { first = reading; last = latest; low = low_of range; high = high_of range })

      found-small : Answers (finished_as summary (count + m + k))
      found-small =
          record {
            small = λ a c e. rw (sym (answer_same e)) (F.small reading m refl, L.small latest k refl);
          }

      pub both-came : Found (finished_as summary (count + m + k))
      both-came =
          record {
            answers = found-small;
            answer = λ l u v p q.
                let one = F.walks l u p in
                let two = L.walks l v q in
                let e = one.ends reading m refl in
                let f = two.ends latest k refl in
                let walked : count + m + k ≡ count + (l - u.level) + (l - v.level) =
                omega (arith, one.counted reading m refl, two.counted latest k refl) in
                rw (sym one.examined, sym two.examined)
                (λ i. finished_as
                (Some (record { first = e i; last = f i; low = low_of range; high = high_of range })) (walked i));
          }
