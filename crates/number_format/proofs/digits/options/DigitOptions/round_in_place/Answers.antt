use Rattle.std.proofs.{Common.{◌≡◌, refl, sym, subst, rules, w32, FitsSigned}, lemmas.Int.to_z-of_z}
use Rattle.std.specs.Prelude.{◌↔◌, IsTrue}
use Rattle.number_format.proofs.lemmas.format.StandardNotation.{standard-some, standard-number}
use Rattle.number_format.proofs.digits.options.DigitOptions.round_in_place.Goals as goal

pub returns-clause-ok : goal.returns-clause-ok
returns-clause-ok g c =
    let o = c.args.self.now in
    let last_fits : FitsSigned w32 c.in_ok-last.last = search rules in
    standard-some o c.args.value.now c.round_at.new.value c.in_ok-last.last c.in_ok-last.ensures.rounds
    (record { sign = c.round_at.new.value.sign; absolute = c.cut_and_pad.new.value }) refl
    (simp to_z-of_z at c.cut_and_pad.ensures.value)

pub returns-clause-zero : goal.returns-clause-zero
returns-clause-zero g c =
    subst (λ n. IsTrue c.is_zero-is_zero.result ↔ (n ≡ 0))
    (sym (standard-number c.args.self.now c.args.value.now c.round_at.new.value c.in_ok-last.last
    c.in_ok-last.ensures.rounds)) c.is_zero-is_zero.ensures.zero
