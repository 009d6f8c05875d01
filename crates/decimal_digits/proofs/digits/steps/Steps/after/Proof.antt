use Rattle.std.proofs.{Common.{◌+◌, [], ◌∷◌, refl}, raw_atomic.Walks.proved}
use Rattle.decimal_digits.proofs.{lemmas.digits.Counters.{bare, made}, digits.steps.Steps.after.Statement.statement}
use Rattle.decimal_digits.specs.{contracts.digits.steps.Steps.the_row as row, declared.digits.steps.Steps.Steps}
use base.Fml.{ftrue}
use denote.Builtin.{RefOf}
use denote.Exit.{yes}
use denote.RattleType.{owns}
use denote.Ref.{shr_vals, shr_Tells}
use denote.Signature.{plain, types_at}
use denote.Steps.{nothing}
use denote.Triple.Entry.{alive}
use denote.Triple.Walked.{Stays, stay_dropped, Goes-dropped, says, ends_at}
use mir.Syntax.{named}
use types.ByLocal.{alloc_all, pass_all, free_all, look_at, sets}
use types.Kit.{‵, raw, ◌⊛◌, ◌$◌, ◌∵◌, !, qed, keep, move, split, join, suffices, done}
use types.Part.{agg}
use types.Run.{enter, returns, no_more}
use Rattle.decimal_digits.specs.contracts.digits.steps.Steps.after as f
use Rattle.decimal_digits.proofs.digits.steps.Steps.after.Code as code

abbrev stayed : Stays f.ended.signature.params f.ended.kept
stayed = (stay_dropped _ yes, tt)

-- the reference is dropped, and a counter with the value plus one is constructed
pub after_spec : {M : Type 1} → statement M
after_spec 𝓤 𝓛 𝓜 𝓡 wired =
    let c = f.clauses 𝓛 𝓜.mem 𝓡.returns in
    let goes = Goes-dropped 𝓛 1 (RefOf (0 ∷ []) tt (plain (λ _. row)) (λ _. tt)) yes (λ κs x w. refl) in
    proved 𝓛 f.ended stayed c 𝓜 𝓡 (goes, tt) f.Key.name code.function (code.unfolded 𝓤 𝓛.H 𝓜 𝓡 wired)
    (λ κs. (shr_vals, tt)) (λ κs. (shr_Tells (named 0) κs.0 row, tt)) (λ κs qs bounds a _ are.
    let vs = shr_vals a.0 in
    let next : Steps = record { count = a.0.now.count + 1 } in
    let given = raw (alive 𝓛 f.signature κs qs) ⊛ ‵ (owns (types_at f.signature.params κs) a (vs, tt)) in
    qed 𝓛 (given ∷ ‵ ftrue ∷ []) ∵ split ! $ keep ! (0 ∷ []) $
    enter ! _ _ _ _ _ $ alloc_all ! (λ l. pass_all ! refl ((tt, tt), tt) $
    sets ! (agg ! (no_more !)) refl (tt, tt) $ returns ! (look_at ! 0 refl) $ free_all ! refl $
    suffices ! _ (ends_at 𝓛 f.ended stayed c ((κs, qs, bounds, a, (vs, tt)), tt) bare next (tt, tt) (tt, tt)) $
    says ! refl $
    made 𝓛 ! next $ nothing ! $ nothing ! $ join ! $ move ! (2 ∷ []) $ done !))
