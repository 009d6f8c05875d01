use Rattle.std.proofs.{Common.{◌≡◌, ℕ, suc, zero, ◌+◌, ◌*◌, ◌/◌, ◌%◌, ◌^◌, ◌∷◌, [], ◌∙◌, ap, arith}, Math.Nat.div-div-eq-div-mul}
use Rattle.std.specs.Int.{byte_at}
use Rattle.decimal_digits.specs.Nibbles.{nibbles, word_nibbles}
use Rattle.decimal_digits.proofs.digits.packed.dotted.word_text.Goals as goal

-- a word without its k lowest bytes, by one division for each
abbrev shifted : ℕ → ℕ → ℕ
shifted zero n = n + 0
shifted (suc k) n = shifted k n / 256

shifted_is : (k n : ℕ) → shifted k n ≡ n / 256 ^ k
shifted_is zero n = omega arith
shifted_is (suc k) n =
    ap (λ x. x / 256) (shifted_is k n)
    ∙ div-div-eq-div-mul n (256 ^ k) 256
    ∙ ap (λ x. n / x) (let e : 256 ^ k * 256 ≡ 256 ^ suc k = omega arith in e)

byte : (k n : ℕ) → shifted k n % 256 ≡ byte_at k n
byte zero n = omega arith
byte (suc k) n = ap (λ x. x % 256) (shifted_is (suc k) n)

high : (k n : ℕ) → (shifted k n % 256 / 16 + 48) % 256 ≡ 48 + byte_at k n / 16
high k n = omega (arith, byte k n)

low : (k n : ℕ) → (shifted k n % 256 % 16 + 48) % 256 ≡ 48 + byte_at k n % 16
low k n = omega (arith, byte k n)

pub returns : goal.returns
unfolding nibbles word_nibbles
returns c =
    let n = c.args.word in (λ i.
    high 7 n i ∷ (low 7 n i ∷ (high 6 n i ∷ (low 6 n i ∷ (high 5 n i ∷ (low 5 n i ∷ (high 4 n i ∷ (low 4 n i
    ∷ (high 3 n i ∷ (low 3 n i ∷ (high 2 n i ∷ (low 2 n i ∷ (high 1 n i ∷ (low 1 n i ∷ (high 0 n i ∷ (low 0 n i
    ∷ []))))))))))))))))
