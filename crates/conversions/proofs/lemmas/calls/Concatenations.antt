-- The word of a concatenation.
use Rattle.std.proofs.{Common.{◌≡◌, ℕ, Bool, true, false, List, Option, Some, None, codes, refl, sym, ap, ◌∙◌}, lemmas.{Option.{none-some, same_Some}, Slice.Eq.bytes_eq-Decides}}
use Rattle.std.specs.{Prelude.if◌then◌else◌, Bool.Decides, Option.{option_map, option_and_then, option_zip}, Str.bytes_eq}
use Rattle.fixed_decimal.specs.declared.runs.Call.{Call, TheVariants.{MultiplyPow10, PadStart, PadEnd, SetMaxPosition, Round, SetSign, ApplySignDisplay, Concatenate}}
use Rattle.conversions.specs.{Parameters.{tag_of, option_of, lookup, number}, Calls.{signs, displays, mode_and_increment, concatenation, plain_calls, calls_with, call_with, named_call, call_of}}
use Rattle.conversions.proofs.lemmas.calls.Lookups.{lookup-all}

-- the bytes that a call concatenates
abbrev operand_of : Call → Option (List ℕ)
operand_of (Concatenate text) = Some text.now
operand_of call = None

module _ (name bytes : List ℕ) where
  -- a call that is made of something else
  none_of :
      {X : Type 0} (call : X → Call) (o : Option X) → ((x : X) → operand_of (call x) ≡ None)
      → option_map call o ≡ Some (concatenation bytes) → ⊥
  none_of call None other is = none-some _ is
  none_of call (Some x) other is = none-some bytes (sym (other x) ∙ ap operand_of (same_Some _ _ is))

  no_plain : (o : Option Call) → lookup plain_calls name ≡ o → o ≡ Some (concatenation bytes) → ⊥
  no_plain None found is = none-some _ is
  no_plain (Some call) found is =
      lookup-all (λ call. call ≡ concatenation bytes → ⊥) call plain_calls name (
        (λ h. none-some bytes (ap operand_of h)),
        (
          (λ h. none-some bytes (ap operand_of h)),
          ((λ h. none-some bytes (ap operand_of h)), tt),
        ),
      ) found (same_Some _ _ is)

  module _ (p : List ℕ) where
    no_other : (o : Option (List ℕ → Option Call)) → lookup calls_with name ≡ o
        → option_and_then (λ call. call p) o ≡ Some (concatenation bytes) → ⊥
    no_other None found is = none-some _ is
    no_other (Some call) found is =
        lookup-all (λ call. call p ≡ Some (concatenation bytes) → ⊥) call calls_with name (
          none_of MultiplyPow10 (number p) (λ x. refl),
          (
            none_of PadStart (number p) (λ x. refl),
            (
              none_of PadEnd (number p) (λ x. refl),
              (
                none_of SetMaxPosition (number p) (λ x. refl),
                (
                  none_of (λ x. Round x.0 x.1.0 x.1.1)
                      (option_zip (number (tag_of p)) (option_and_then mode_and_increment (option_of p))) (λ x. refl),
                  (
                    none_of SetSign (lookup signs p) (λ x. refl),
                    (none_of ApplySignDisplay (lookup displays p) (λ x. refl), tt),
                  ),
                ),
              ),
            ),
          ),
        ) found is

    with_parameter : (b : Bool) → Decides b (name ≡ codes "concat")
        → (if b then Some (concatenation p) else call_with name p) ≡ Some (concatenation bytes)
        → (name ≡ codes "concat") × (Some p ≡ Some bytes)
    with_parameter true same is = (same.0 refl, ap (option_and_then operand_of) is)
    with_parameter false other is = absurd (no_other (lookup calls_with name) refl is)

  named : (o : Option (List ℕ)) → named_call name o ≡ Some (concatenation bytes)
      → (name ≡ codes "concat") × (o ≡ Some bytes)
  named None is = absurd (no_plain (lookup plain_calls name) refl is)
  named (Some p) is = with_parameter p (bytes_eq name (codes "concat")) (bytes_eq-Decides name (codes "concat")) is

-- the word that names a concatenation is `concat:` and its bytes
pub concatenation_is :
    (word bytes : List ℕ) → call_of word ≡ Some (concatenation bytes)
    → (tag_of word ≡ codes "concat") × (option_of word ≡ Some bytes)
concatenation_is word bytes is = named (tag_of word) bytes (option_of word) is
