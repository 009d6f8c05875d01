use Rattle.std.proofs.{Common.{[], ◌∷◌, refl}, raw_atomic.Walks.proved}
use Rattle.decimal_digits.proofs.{lemmas.digits.Counters.{bare, made}, digits.steps.Steps.new.Statement.statement}
use Rattle.decimal_digits.specs.declared.digits.steps.Steps.{Steps}
use base.Fml.{ftrue}
use denote.Steps.{nothing}
use denote.Triple.Entry.{on_entry}
use denote.Triple.Walked.{says, ends_at}
use types.ByLocal.{alloc_all, pass_all, free_all, look_at, sets}
use types.Kit.{‵, raw, ◌$◌, ◌∵◌, !, qed, drop, suffices, done}
use types.Part.{agg}
use types.Run.{enter, returns, no_more}
use Rattle.decimal_digits.specs.contracts.digits.steps.Steps.new as f
use Rattle.decimal_digits.proofs.digits.steps.Steps.new.Code as code

-- a counter of value 0 is constructed
pub new_spec : {M : Type 1} → statement M
new_spec 𝓤 𝓛 𝓜 𝓡 wired =
    let c = f.clauses 𝓛 𝓜.mem 𝓡.returns in
    proved 𝓛 f.ended tt c 𝓜 𝓡 tt f.Key.name code.function (code.unfolded 𝓤 𝓛.H 𝓜 𝓡 wired)
    (λ κs. tt) (λ κs. tt) (λ κs qs bounds a _ are.
    let zero : Steps = record { count = 0 } in
    qed 𝓛 (raw (on_entry 𝓛 f.signature κs qs a tt) ∷ ‵ ftrue ∷ []) ∵ drop ! $ drop ! $
    enter ! _ _ _ _ _ $ alloc_all ! (λ l. pass_all ! refl tt $
    sets ! (agg ! (no_more !)) refl (tt, tt) $ returns ! (look_at ! 0 refl) $ free_all ! refl $
    suffices ! _ (ends_at 𝓛 f.ended tt c ((κs, qs, bounds, a, tt), tt) bare zero tt tt) $ says ! refl $
    made 𝓛 ! zero $ nothing ! $ nothing ! $ done !))
