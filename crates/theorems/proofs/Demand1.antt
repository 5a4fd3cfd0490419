-- Demand 1, every call ends with an answer, on anything: bad input gets the answer that document 01 fixes for it, in
-- its order of checks, and a refused call writes nothing. The statements are of the calls as they are shipped:
-- ..Promises, in sagivelume/proofs/Clauses, is what the contract of a call promises, and each-call says so. Assumes
-- nothing.
use Rattle.kit.proofs.{◌≡◌, false, List, ℕ, ◌/◌, ◌≤◌, ℤ, length}
use Rattle.om3.specs.Document.{bad_hours, lent, table_short}
use Rattle.sizes.proofs as sizes
use Rattle.told.specs.Says.{EachSays}
use Rattle.told.proofs.Says as told
use Rattle.sagivelume.proofs.Clauses as boundary
use Rattle.theorems.specs.{Once.EachCall, Refused.EachRefused, Refused.NothingWritten, Unlinked.UnlinkedCause}
use Rattle.theorems.proofs as theorems

-- Each call asks nothing, its contract is one fact, which its code meets, and the contract allows one answer
-- and one content of each buffer lent to be written.
each-call : EachCall
each-call = theorems.Once.each-call

-- What the boundary tells in a struct is what document 01 says of the answer: its number, its place, its values.
told-says : EachSays
told-says = told.each-says

-- Each call of the boundary that refuses has a list of checks. It tells another number than 0 exactly if some check of
-- its list refuses, and then the number and the place of the first that does.
each-refused : EachRefused
each-refused = theorems.Refused.each-refused

-- A call of the boundary that tells another number than 0 leaves every buffer lent to it as it was.
nothing_written : NothingWritten
nothing_written = theorems.Refused.nothing_written

-- A table in buffers of as many coefficients as `places` tells, and half as many codes, is not too short for any call.
places-enough : (κs : _) (n r : ℕ) (e : _) → boundary.PlacesPromises κs n r e → bad_hours n ≡ false
    → (cs : List ℤ) (ks : List ℕ) → r ≤ length cs → r / 2 ≤ length ks → table_short n (lent cs ks) ≡ false
places-enough κs n r e m good cs ks c k = sizes.Lent.needed-room n cs ks good (rw m at c) (rw m at k)

-- Asking a record of its bytes alone, and the printer, refuse by the first cause of a list too.
unlinked-cause : UnlinkedCause
unlinked-cause = theorems.Unlinked.unlinked-cause
