-- The digits of an exponent are kept without an allocation.
use Rattle.std.proofs.{Common.{◌≡◌, ℕ, ◌+◌, ◌*◌, ◌^◌, ◌<◌, ◌≤◌, false, arith, inl, inr, sym, ◌∙◌, ap}, Math.Nat.{mul_assoc, mul-le-mul_right, pow-le-pow_right}, lemmas.{Bool.{cases_lt, Decides.nat_tests}, Int.ints, Nat.pow-add}}
use Rattle.std.specs.Prelude.{◌==◌, pos, ◌-ℤ◌}
use Rattle.decimal_digits.specs.Number.{weight, offset, size, first, last}
use Rattle.fixed_decimal.proofs.Calling.{Extent, extent, ordered, first_of_integer, last_is, gap_is, offset_is, ten_pos}

size_between : (n a b : ℕ) → 0 < n → first n ≡ pos a → last n ≡ pos b → b ≤ a → a < 10 → size n ≤ 16
size_between n a b some f l order few =
    let t : (n == 0) ≡ false = grind (arith, nat_tests) in
    rw t (omega (arith, ints, gap_is (last n) (first n), f, l, order, few))

lowered : (b k : ℕ) → k ≡ 32768 → pos (b + k) -ℤ pos 32768 ≡ pos b
lowered b k at = omega (arith, ints, at)

-- an integer of 32 bits, with its first and its last digit, has at most 10 digits
short_by : (n : ℕ) → 0 < n → n < 2 ^ 32 → Extent n → size (n * weight (pos 0)) ≤ 16
short_by n some small x =
    let top : x.top < 10 =
    elim (cases_lt x.top 10) [
      | inl h ↦ h
      | inr h ↦
          let most : 10 ^ 10 ≤ 10 ^ x.top = pow-le-pow_right (omega arith) h in
          absurd (omega (arith, most, x.reaches))
    ] in
    let k = offset (pos 0) in
    let at : k ≡ 32768 = omega (arith, ints, offset_is (pos 0)) in
    let same : n * 10 ^ k ≡ x.factor * 10 ^ (x.bottom + k) =
    ap (λ m. m * 10 ^ k) x.is ∙ mul_assoc x.factor (10 ^ x.bottom) (10 ^ k)
    ∙ ap (λ m. x.factor * m) (sym (pow-add 10 x.bottom k)) in
    let least : 1 * 10 ^ k ≤ n * 10 ^ k = grind (arith, mul-le-mul_right) in
    let above : 0 < n * 10 ^ k = omega (arith, least, ten_pos k) in
    let f : first (n * 10 ^ k) ≡ pos x.top = first_of_integer n x.top x.reaches x.below (omega (arith, top)) in
    let below : x.bottom + k < 65536 = omega (arith, ordered x, top, at) in
    let l : last (n * 10 ^ k) ≡ pos x.bottom =
    ap last same ∙ last_is x.factor (x.bottom + k) x.odd below ∙ lowered x.bottom k at in
    size_between (n * 10 ^ k) x.top x.bottom above f l (ordered x) top

pub integer_is_short : (n : ℕ) → n < 2 ^ 32 → size (n * weight (pos 0)) ≤ 16
integer_is_short n small = elim (cases_lt 0 n) [
  | inl some ↦ short_by n some small (extent 10 n some (omega arith) (omega arith))
  | inr none ↦
      let no : n ≡ 0 = omega arith in
      let z : n * weight (pos 0) ≡ 0 = rw no (omega arith) in
      rw z (omega arith)
]
