use Rattle.std.proofs.{Common.{◌≡◌, ℕ, zero, suc, add-one, [], ◌∷◌, ◌++◌, ◌+◌, ◌*◌, ◌/◌, ◌%◌, ◌<◌, min, nat_lt, true, false, inl, inr, sym, ◌∙◌, ap, arith, rules}, Math.Nat.{div-add-mod', mod-lt}, lemmas.{Bool.cases_lt, List.Sums.sum_by_push}}
use Rattle.std.specs.Prelude.{sum_by}
use Rattle.decimal_unsigned.specs.Unsigned.{Unsigned}
use Rattle.fixed_decimal.proofs.Calling.{integer_down}
use Rattle.uses.specs.Bill.{cent, cents_value, part_cents, parts_of}
use Rattle.uses.proofs.bill.split_bill.Goals as goal
use Rattle.uses.proofs.bill.split_bill.Goals.{then-part-left_over, else-part-left_over}

module _ (total count : ℕ) where
  -- the cents of the first `count` parts
  cents_of : ℕ → ℕ
  cents_of zero = 0
  cents_of (suc part) = cents_of part + part_cents total count part

  sum_is : (part : ℕ) → sum_by (λ v. v.number) (parts_of total count part) ≡ cents_of part * cent
  unfolding cents_of
  sum_is zero = omega arith
  sum_is (suc part) =
      let next = cents_value (part_cents total count part) in
      let more = sum_by_push (λ (v : Unsigned). v.number) (parts_of total count part) next in
      omega (arith, more, sum_is part, integer_down (part_cents total count part) 1 (omega arith))

  cents_are : (part : ℕ) → cents_of part ≡ part * (total / count) + min part (total % count)
  unfolding cents_of
  cents_are zero = omega arith
  cents_are (suc part) = elim (cases_lt part (total % count)) [
    | inl more ↦ let e : nat_lt part (total % count) ≡ true = search rules in rw e (omega (arith, cents_are part))
    | inr none ↦ let e : nat_lt part (total % count) ≡ false = search rules in rw e (omega (arith, cents_are part))
  ]

  adds_up : 0 < count → sum_by (λ v. v.number) (parts_of total count count) ≡ total * cent
  adds_up some =
      let all : cents_of count ≡ total = omega (arith, cents_are count, div-add-mod' total count, mod-lt total some) in
      sum_is count ∙ ap (λ n. n * cent) all

pub loop-part-preserved : goal.loop-part-preserved
loop-part-preserved c =
    let total = c.in_ok-total.total in
    let part = c.loop-part.part in
    let cents : c.if-part-left_over.cents ≡ part_cents total c.args.count part = elim c.if-part-left_over.branch [
      | then-part-left_over w ↦ let e : nat_lt part (total % c.args.count) ≡ true = search rules in rw e w.cents-is
      | else-part-left_over w ↦ let e : nat_lt part (total % c.args.count) ≡ false = search rules in rw e w.cents-is
    ] in
    c.in-Ok-push.ensures.items
    ∙ ap (λ xs. xs ++ c.in-Ok.value ∷ []) c.loop-part.invariant
    ∙ ap (λ v. parts_of total c.args.count part ++ v ∷ []) (c.in-Ok.ensures ∙ ap cents_value cents)
    ∙ sym (ap (parts_of total c.args.count) (add-one part))

pub returns-clause-split : goal.returns-clause-split
returns-clause-split c =
    let end : c.loop-part.part ≡ c.args.count = omega arith in
    let each = c.loop-part.invariant ∙ ap (parts_of c.in_ok-total.total c.args.count) end in
    record {
      total = c.in_ok-total.total;
      whole = c.in_ok-total.ensures.ok;
      each = each;
      adds_up =
          ap (sum_by (λ (v : Unsigned). v.number)) each
          ∙ adds_up c.in_ok-total.total c.args.count (omega arith)
          ∙ sym c.in_ok-total.ensures.ok;
    }
