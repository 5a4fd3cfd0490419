-- What the calls that tell sizes ask, which is nothing, and what they promise, of their contracts as the kit reads
-- them. Assumes nothing.
use Rattle.kit.proofs.{◌≡◌, refl, sym, ◌∙◌}
use Rattle.kit.specs.Calls.{Call}
use Rattle.sizes.specs.Needed.{places_needed, bytes_needed}
use Rattle.sizes.specs.contracts.places_needed as places
use Rattle.sizes.specs.contracts.bytes_needed as bytes
use Rattle.sizes.proofs.places_needed as places_code
use Rattle.sizes.proofs.bytes_needed as bytes_code

abbrev pub PlacesCall : Type 2
PlacesCall =
    Call places.ended (λ M 𝓤 𝓛. places.clauses 𝓛) places_code.Symbol.code places.Key.name
    (λ κs n r e. r ≡ places_needed n) (λ κs r e. r)

pub places-call : PlacesCall
places-call = record { clauses = λ 𝓛 mem run. refl; meets = places_code.Met.met; one = λ κs a r r' e e' x y. x ∙ sym y }

abbrev pub BytesCall : Type 2
BytesCall =
    Call bytes.ended (λ M 𝓤 𝓛. bytes.clauses 𝓛) bytes_code.Symbol.code bytes.Key.name (λ κs n r e. r ≡ bytes_needed n)
    (λ κs r e. r)

pub bytes-call : BytesCall
bytes-call = record { clauses = λ 𝓛 mem run. refl; meets = bytes_code.Met.met; one = λ κs a r r' e e' x y. x ∙ sym y }
