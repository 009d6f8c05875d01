-- Texts between those of patterns read back.
use Rattle.std.proofs.{Common.{◌≡◌, ℕ, suc, ◌*◌, ◌/◌, ◌^◌, Bool, true, false, ◌||◌, List, refl, sym, ◌∙◌, ap, subst, arith, inl, inr}, lemmas.Int.{ints, clamps}, Math.Nat.mul-div_cancel}
use Rattle.std.specs.{Prelude.{Some, None, Result, Ok, Err, MatchResult, ok_or, ◌⊎◌, if◌then◌else◌, pos, negsuc, ◌+ℤ◌, int_lt}, Int.{int_max, int_min}}
use Rattle.decimal_unsigned.specs.{Edits.{leaves_limits, multiplied, multiplied_pow10}, Unsigned.{Unsigned, IsValue}, declared.error.ParseError.{ParseError, TheVariants.{Limit, Memory}}}
use Rattle.fixed_decimal.specs.Decimal.{Decimal, with_absolute}
use Rattle.fixed_decimal.proofs.Calling.{ten_pos}
use Rattle.number_format.specs.AffixedTexts.{Reader, shifted, IsShown, IsOwn, IsReadExactly}

ok_is : (b : Bool) (u : Decimal) (x : Unsigned) (w : Decimal)
    → ok_or (with_absolute u (if b then None else Some x)) Limit ≡ Ok w → record u { absolute = x } ≡ w
ok_is true u x w e = absurd (cc)
ok_is false u x w e = cc

pub unshifted : (v : Unsigned) → IsValue v → multiplied_pow10 v (pos 0) ≡ Some v
unshifted v valid =
    let h = valid.hi_in in
    let l = valid.lo_in in
    let top : int_lt (pos 32767) (v.hi +ℤ pos 0) ≡ false = grind (arith, ints) in
    let low : int_lt (v.lo +ℤ pos 0) (negsuc 32767) ≡ false = grind (arith, ints) in
    let number : v.number * 1 ≡ v.number = omega arith in
    let hi : int_max (v.hi +ℤ pos 0) (pos 0) ≡ v.hi = grind (arith, ints, clamps) in
    let lo : int_min (v.lo +ℤ pos 0) (pos 0) ≡ v.lo = grind (arith, ints, clamps) in
    ap (λ b. if b then None else Some (multiplied v (pos 0))) (λ i. top i || low i)
    ∙ (λ i. Some (record { number = number i; hi = hi i; lo = lo i }))

-- a text reads as the decimal that is shown, shifted
pub reads : (inline : ℕ) (r : Reader) (text : List ℕ) (u : Decimal) (result : Result Decimal ParseError)
    → IsValue u.absolute → IsShown r text u → IsReadExactly inline r text result
    → (result ≡ shifted r.shift (Ok u)) ⊎ (result ≡ Err Memory)
reads inline r text u result valid shown (read, (found, is, own), e) =
    go found own (is.reads_back u valid (shown.0, shown.1))
  where
    go : (found : Result Decimal ParseError) → IsOwn r text found read
        → MatchResult found (λ x. x ≡ u) (λ x. x ≡ Memory)
        → (result ≡ shifted r.shift (Ok u)) ⊎ (result ≡ Err Memory)
    go (Ok x) (inl own) same = inl (e ∙ ap (shifted r.shift) (own.1 ∙ ap Ok same))
    go (Ok x) (inr other) same = absurd (other.0 (subst (IsShown r text) (sym same) shown))
    go (Err x) own memory = inr (e ∙ ap (shifted r.shift) (own ∙ ap Err memory))

pub texts_read_back : (inline : ℕ) (r : Reader) (text : List ℕ) (v : Decimal)
    (result : Result Decimal ParseError) → IsValue v.absolute → r.shift ≡ pos 0 → IsShown r text v
    → IsReadExactly inline r text result → MatchResult result (λ w. w ≡ v) (λ e. e ≡ Memory)
texts_read_back inline r text v result valid none shown is =
    let same : shifted r.shift (Ok v) ≡ Ok v =
    (λ i. shifted (none i) (Ok v)) ∙ ap (λ x. ok_or (with_absolute v x) Limit) (unshifted v.absolute valid) in
    elim (reads inline r text v result valid shown is) [
      | inl e ↦ subst (λ (x : Result Decimal ParseError). MatchResult x (λ w. w ≡ v) (λ e. e ≡ Memory))
          (sym (e ∙ same)) refl
      | inr e ↦ subst (λ (x : Result Decimal ParseError). MatchResult x (λ w. w ≡ v) (λ e. e ≡ Memory)) (sym e) refl
    ]

pub scaled_texts_read_back : (inline : ℕ) (r : Reader) (text : List ℕ) (n : ℕ) (v u w : Decimal)
    → IsValue u.absolute → r.shift ≡ negsuc n → u.sign ≡ v.sign
    → u.absolute.number ≡ v.absolute.number * 10 ^ suc n → IsShown r text u → IsReadExactly inline r text (Ok w)
    → (w.sign ≡ v.sign) × (w.absolute.number ≡ v.absolute.number)
scaled_texts_read_back inline r text n v u w valid shift signs scaled shown is =
    elim (reads inline r text u (Ok w) valid shown is) [
      | inl e ↦
          let moved = ok_is (leaves_limits u.absolute (negsuc n)) u (multiplied u.absolute (negsuc n)) w
          (sym (e ∙ (λ i. shifted (shift i) (Ok u)))) in (
            ap (λ (d : Decimal). d.sign) (sym moved) ∙ signs,
            ap (λ (d : Decimal). d.absolute.number) (sym moved) ∙ ap (λ m. m / 10 ^ suc n) scaled
                ∙ mul-div_cancel v.absolute.number (ten_pos (suc n)),
          )
      | inr e ↦ absurd (cc)
    ]
