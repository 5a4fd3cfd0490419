-- Numbers in bytes, big-endian: what is written is read back, and bytes that were read are written again as they were.
-- Assumes nothing.
use Rattle.kit.proofs.{◌≡◌, refl, sym, ap, ◌∙◌, List, [], ◌∷◌, ◌++◌, ℕ, zero, suc, ◌+◌, ◌*◌, ◌/◌, ◌%◌, ◌^◌, ◌≤◌, ◌<◌}
use Rattle.kit.proofs.{pow-suc, div-div-eq-div-mul, div-eq_of_lt, mul_assoc, mul_comm, add-mul, suc-mul, div-one}
use Rattle.kit.proofs.{mul-le-mul_right, mul-add-div_right, pow-le-pow_right, arith, lit<, length, take, drop}
use Rattle.kit.proofs.{length-take, length-drop, get_or-take, get_or-drop}
use Rattle.om3.specs.Document.{Bytes, bytes_of, number_from}

pub bytes-length : (w x : ℕ) → length (bytes_of w x) ≡ w
unfolding bytes_of
bytes-length zero x = refl
bytes-length (suc w) x = ap suc (bytes-length w x)

-- The w low bytes and what is above them make the number.
bytes_whole : (w x : ℕ) → number_from (bytes_of w x) + x / 256 ^ w * 256 ^ w ≡ x
unfolding bytes_of number_from
bytes_whole zero x = rw (div-one x) (omega arith)
bytes_whole (suc w) x =
    let q = x / 256 ^ w in
    let r = q % 256 * 256 ^ w in
    let up : x / 256 ^ suc w * 256 ^ suc w ≡ q / 256 * 256 * 256 ^ w =
    rw (pow-suc 256 w, ← div-div-eq-div-mul x (256 ^ w) 256, mul_comm (256 ^ w) 256)
    (sym (mul_assoc (q / 256) 256 (256 ^ w)))
    in
    let q' : q / 256 * 256 + q % 256 ≡ q = omega arith in
    let both : q / 256 * 256 * 256 ^ w + r ≡ q * 256 ^ w =
    sym (add-mul (q / 256 * 256) (q % 256) (256 ^ w)) ∙ ap (λ (y : ℕ). y * 256 ^ w) q'
    in
    rw (bytes-length w x, up) (omega (arith, both, bytes_whole w x))

-- A number that has room in w bytes is read back.
pub bytes_back : (w x : ℕ) → x < 256 ^ w → number_from (bytes_of w x) ≡ x
bytes_back w x h = omega (arith, rw (div-eq_of_lt h) at (bytes_whole w x))

-- Lists of bytes, put together and taken apart.
bytes-tail : (b : ℕ) (bs : List ℕ) → Bytes (b ∷ bs) → Bytes bs
bytes-tail b bs h p q = h (suc p) (omega arith)

pub bytes_take : (w : ℕ) (bs : List ℕ) → Bytes bs → Bytes (take w bs)
bytes_take w bs h p q =
    let e = length-take w bs in
    rw (get_or-take w bs p 0 (omega arith)) (h p (omega arith))

pub bytes_drop : (w : ℕ) (bs : List ℕ) → Bytes bs → Bytes (drop w bs)
bytes_drop w bs h p q =
    let e = length-drop w bs in
    rw (get_or-drop w bs p 0) (h (w + p) (omega arith))

pub bytes-append : (bs cs : List ℕ) → Bytes bs → Bytes cs → Bytes (bs ++ cs)
bytes-append [] cs g h p q = h p q
bytes-append (b ∷ bs) cs g h zero q = g 0 (omega arith)
bytes-append (b ∷ bs) cs g h (suc p) q = bytes-append bs cs (bytes-tail b bs g) h p (omega arith)

pub bytes-are : (w x : ℕ) → Bytes (bytes_of w x)
unfolding bytes_of
bytes-are zero x p q = absurd (omega arith)
bytes-are (suc w) x zero q = omega arith
bytes-are (suc w) x (suc p) q = bytes-are w x p (omega arith)

-- The number that w bytes spell is below 256^w, and its w bytes are those.
pub number_small : (bs : List ℕ) → Bytes bs → number_from bs < 256 ^ length bs
unfolding number_from
number_small [] h = lit< tt
number_small (b ∷ bs) h =
    let W = 256 ^ length bs in
    let most : suc b ≤ 256 = h 0 (omega arith) in
    omega (arith, pow-suc 256 (length bs), suc-mul b W, mul-le-mul_right W most, number_small bs (bytes-tail b bs h))

pow-some : (w : ℕ) → 0 < 256 ^ w
pow-some w = let z : 0 ≤ w = omega arith in pow-le-pow_right (lit< tt) z

-- What is above the w low bytes does not change them.
bytes_low : (w k x : ℕ) → bytes_of w (k * 256 ^ w + x) ≡ bytes_of w x
unfolding bytes_of
bytes_low zero k x = refl
bytes_low (suc w) k x =
    let e : k * 256 ^ suc w ≡ k * 256 * 256 ^ w =
    rw (pow-suc 256 w, mul_comm (256 ^ w) 256) (sym (mul_assoc k 256 (256 ^ w)))
    in
    let d : (k * 256 + x / 256 ^ w) % 256 ≡ x / 256 ^ w % 256 = omega arith in
    rw (e, mul-add-div_right (pow-some w) (k * 256) x, d, bytes_low w (k * 256) x)

pub bytes-forth : (bs : List ℕ) → Bytes bs → bytes_of (length bs) (number_from bs) ≡ bs
unfolding bytes_of number_from
bytes-forth [] h = refl
bytes-forth (b ∷ bs) h =
    let tail = bytes-tail b bs h in
    let w = length bs in
    let x = number_from bs in
    let most : b < 256 = h 0 (omega arith) in
    let first : (b + x / 256 ^ w) % 256 ≡ b = omega (arith, div-eq_of_lt (number_small bs tail)) in
    rw (mul-add-div_right (pow-some w) b x, first, bytes_low w b x, bytes-forth bs tail)
