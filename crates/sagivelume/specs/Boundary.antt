-- What a call of the boundary promises that writes into lent buffers. Assumes nothing.
--
--   Tells promised told r   the struct r tells some answer that is promised, the lent buffers left as that says
use Rattle.std.specs.Prelude.{◌≡◌}

-- The call that it hands on to promises of its answer, and of the buffers as it leaves them, what `promised` says;
-- `told` is how the boundary tells an answer.
pub record Tells {A T : Type 0} (promised : A → Type 0) (told : A → T) (r : T) : Type 0 where
  pub answer : A
  pub keeps : promised answer
  pub tells : r ≡ told answer
